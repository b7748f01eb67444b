-- Codes of tests can be assembled.
use Rattle.std.proofs.Common.{ℕ, zero, suc, ◌<◌, ◌≡◌, ◌≢◌, refl, arith, pos, List, [], ◌∷◌, length, get_or, Contains}
use Rattle.std.proofs.lemmas.List.Elements.{All-cons, All-nil}
use Rattle.rv_isa.specs.declared.inst.Inst.TheVariants.{Addi, Ecall}
use Rattle.rv_machine.specs.declared.real.RealItem.{RealItem}
use Rattle.rv_machine.specs.declared.real.RealItem.TheVariants.{Op, Mark, Jump}
use Rattle.assembler.specs.Conditions.{CanBeAssembled, NamesOne, IsPlaced, registers_named}

none : ¬ Contains {X = ℕ} [] 31
none c = let h : c.0 < 0 = c.1 in absurd (omega arith)

other : (r : ℕ) (rs : List ℕ) → r ≢ 31 → ¬ Contains rs 31 → ¬ Contains (r ∷ rs) 31
other r rs n h c = at c.0 c.1 c.2
  where
    at : (k : ℕ) → k < length (r ∷ rs) → get_or (r ∷ rs) k 31 ≡ 31 → ⊥
    at zero l e = n e
    at (suc k) l e = h (k, omega arith, e)

abbrev Spares : RealItem → Type 0
Spares item = ¬ Contains (registers_named item) 31

set_spares : Spares (Op (Addi 11 0 (pos 42)))
set_spares = other 11 (0 ∷ []) (omega arith) (other 0 [] (omega arith) none)

pub one_item : CanBeAssembled (Op (Addi 11 0 (pos 42)) ∷ [])
one_item =
    let items : List RealItem = Op (Addi 11 0 (pos 42)) ∷ [] in
    record {
      some = (0, Op (Addi 11 0 (pos 42)), omega arith, refl, refl);
      marks = All-cons (NamesOne items) (Op (Addi 11 0 (pos 42))) [] tt (All-nil (NamesOne items));
      scratch = All-cons Spares (Op (Addi 11 0 (pos 42))) [] set_spares (All-nil Spares);
      placed = All-cons IsPlaced (Op (Addi 11 0 (pos 42))) [] refl (All-nil IsPlaced);
    }

pub two_items : CanBeAssembled (Op (Addi 11 0 (pos 42)) ∷ Op Ecall ∷ [])
two_items =
    let items : List RealItem = Op (Addi 11 0 (pos 42)) ∷ Op Ecall ∷ [] in
    record {
      some = (0, Op (Addi 11 0 (pos 42)), omega arith, refl, refl);
      marks = All-cons (NamesOne items) (Op (Addi 11 0 (pos 42))) (Op Ecall ∷ []) tt
          (All-cons (NamesOne items) (Op Ecall) [] tt (All-nil (NamesOne items)));
      scratch =
          All-cons Spares (Op (Addi 11 0 (pos 42))) (Op Ecall ∷ []) set_spares
          (All-cons Spares (Op Ecall) [] none (All-nil Spares));
      placed =
          All-cons IsPlaced (Op (Addi 11 0 (pos 42))) (Op Ecall ∷ []) refl
          (All-cons IsPlaced (Op Ecall) [] refl (All-nil IsPlaced));
    }

pub loop_items : CanBeAssembled (Mark 7 ∷ Op (Addi 11 0 (pos 42)) ∷ Jump 0 7 ∷ [])
loop_items =
    let items : List RealItem = Mark 7 ∷ Op (Addi 11 0 (pos 42)) ∷ Jump 0 7 ∷ [] in
    record {
      some = (1, Op (Addi 11 0 (pos 42)), omega arith, refl, refl);
      marks = All-cons (NamesOne items) (Mark 7) (Op (Addi 11 0 (pos 42)) ∷ Jump 0 7 ∷ []) tt
          (All-cons (NamesOne items) (Op (Addi 11 0 (pos 42))) (Jump 0 7 ∷ []) tt
          (All-cons (NamesOne items) (Jump 0 7) [] refl (All-nil (NamesOne items))));
      scratch =
          All-cons Spares (Mark 7) (Op (Addi 11 0 (pos 42)) ∷ Jump 0 7 ∷ []) none
          (All-cons Spares (Op (Addi 11 0 (pos 42))) (Jump 0 7 ∷ []) set_spares
          (All-cons Spares (Jump 0 7) [] (other 0 [] (omega arith) none) (All-nil Spares)));
      placed =
          All-cons IsPlaced (Mark 7) (Op (Addi 11 0 (pos 42)) ∷ Jump 0 7 ∷ []) tt
          (All-cons IsPlaced (Op (Addi 11 0 (pos 42))) (Jump 0 7 ∷ []) refl
          (All-cons IsPlaced (Jump 0 7) [] tt (All-nil IsPlaced)));
    }
