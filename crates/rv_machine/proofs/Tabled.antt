-- A turn goes by the table of instructions.
use Rattle.std.proofs.Common.{ℕ, ◌<◌, ◌≤◌, ◌^◌, ◌≡◌, true, Option, Some, None, refl, ◌∙◌, ap, arith}
use Rattle.std.specs.Prelude.{nat_le, nat_lt, ◌&&◌}
use Rattle.rv_isa.specs.declared.inst.Inst.{Inst}
use Rattle.rv_isa.specs.Decoding.{decode_of}
use Rattle.rv_isa.specs.Table.{IsWordOf}
use Rattle.rv_isa.proofs.Public.{decoded_is_row, row_is_decoded}
use Rattle.machine_words.specs.Memory.{load_bytes}
use Rattle.rv_machine.specs.State.{State}
use Rattle.rv_machine.specs.Turn.{turn_of, act, act_if, is_undefined, IsFetched}

in_code : (a b c : ℕ) → a ≤ b → b < c → (nat_le a b && nat_lt b c) ≡ true
in_code a b c h k = grind arith

fetched : (s : State) → IsFetched s (load_bytes 4 s.memory s.pc) →
    turn_of s ≡ act_if (decode_of (load_bytes 4 s.memory s.pc)) s
unfolding turn_of
fetched s f = rw (in_code s.layout.code s.pc s.layout.region f.above f.below)

pub turn_goes_by_the_table-instruction : (s : State) (i : Inst) → IsFetched s (load_bytes 4 s.memory s.pc) →
    IsWordOf i (load_bytes 4 s.memory s.pc) → turn_of s ≡ act i s
turn_goes_by_the_table-instruction s i f w =
    fetched s f ∙ ap (λ o. act_if o s) (row_is_decoded (load_bytes 4 s.memory s.pc) f.fits i w)

none_on : (word : ℕ) → word < 2 ^ 32 → ((i : Inst) → IsWordOf i word → ⊥) → (o : Option Inst) → decode_of word ≡ o →
    o ≡ None
none_on word b h None e = refl
none_on word b h (Some i) e = absurd (h i (decoded_is_row word b i e))

pub turn_goes_by_the_table-undefined : (s : State) → IsFetched s (load_bytes 4 s.memory s.pc) →
    ((i : Inst) → IsWordOf i (load_bytes 4 s.memory s.pc) → ⊥) → turn_of s ≡ is_undefined s
turn_goes_by_the_table-undefined s f h =
    fetched s f ∙ ap (λ o. act_if o s)
    (none_on (load_bytes 4 s.memory s.pc) f.fits h (decode_of (load_bytes 4 s.memory s.pc)) refl)
