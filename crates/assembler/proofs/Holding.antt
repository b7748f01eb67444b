-- What stands where in the code of an assembled image.
use Rattle.std.proofs.Common.{ℕ, zero, suc, ◌+◌, ◌-◌, ◌*◌, ◌/◌, ◌%◌, ◌<◌, ◌≤◌, ◌≡◌, ◌≢◌, Bool, true, false, List, []}
use Rattle.std.proofs.Common.{◌∷◌, ◌++◌, length, drop, Some, None, refl, sym, ◌∙◌, ap, subst, arith}
use Rattle.std.specs.Prelude.{ℤ, slice_get, slice_index, nat_lt, ◌==◌, if◌then◌else◌}
use Rattle.std.proofs.lemmas.List.{get_or-append-add}
use Rattle.grift_base.specs.declared.places.Pos.{Pos}
use Rattle.rv_isa.specs.declared.inst.Inst.{Inst}
use Rattle.rv_isa.specs.declared.inst.Inst.TheVariants.{Ecall, Ebreak}
use Rattle.machine_words.specs.declared.conditions.Cond.{Cond}
use Rattle.machine_words.specs.declared.conditions.Cond.TheVariants.{Eq, Ne, Lt, Ge, Ltu, Geu}
use Rattle.rv_machine.specs.declared.real.RealItem.{RealItem}
use Rattle.rv_machine.specs.declared.real.RealItem.TheVariants.{Op, Mark, Jump, Branch, Address}
use Rattle.rv_machine.specs.Branches.{branch_when}
use Rattle.rv_isa.specs.Decoding.{decode_of}
use Rattle.rv_isa.specs.Encoding.{encode_of}
use Rattle.machine_words.specs.Memory.{Memory, load_bytes}
use Rattle.rv_machine.specs.Image.{code_len}
use Rattle.rv_machine.specs.State.{Layout}
use Rattle.rv_machine.specs.Start.{layout_of}
use Rattle.assembler.specs.Layout.{longest_widths, is_near, address_of}
use Rattle.assembler.specs.Expansion.{opposite, insts_of, target_of, item_insts, code_insts}
use Rattle.assembler.specs.Imaging.{half_bytes, inst_words, code_start, assembled}
use Rattle.assembler.specs.Following.{IsNoCall, HasItsWords, image_memory}
use Rattle.assembler.proofs.Images.{code_long}
use Rattle.assembler.proofs.Finding.{width_at}
use Rattle.assembler.proofs.Turns.{is_call}
use Rattle.assembler.proofs.Standing.{calls, Stands}
use Rattle.assembler.proofs.Insts.{item_long_at}
use Rattle.assembler.proofs.Placing.{bytes_of, bytes_long}
use Rattle.assembler.proofs.Starting.{got, call_is, call_width, Located, located}
use Rattle.assembler.proofs.Following.{CodeFacts, no_sizes, code_at, code_size, words_long, full, full_words, code_byte}
use Rattle.assembler.proofs.Following.{tail}

-- ---- forms call nothing

abbrev CallNothing : List Inst → Type 0
CallNothing [] = Unit {0}
CallNothing (i ∷ is) = (is_call i ≡ false) × CallNothing is

branch_calls_nothing : (cond : Cond) (a b : ℕ) (n : ℤ) → is_call (branch_when cond a b n) ≡ false
branch_calls_nothing Eq a b n = refl
branch_calls_nothing Ne a b n = refl
branch_calls_nothing Lt a b n = refl
branch_calls_nothing Ge a b n = refl
branch_calls_nothing Ltu a b n = refl
branch_calls_nothing Geu a b n = refl

form_calls_nothing : (near : Bool) (here target : ℕ) (item : RealItem) → calls item ≡ false
    → CallNothing (insts_of near here target item)
form_calls_nothing true here target (Op i) c = (c, tt)
form_calls_nothing true here target (Mark mark) c = tt
form_calls_nothing true here target (Jump rd mark) c = (refl, tt)
form_calls_nothing true here target (Branch cond a b mark) c = (branch_calls_nothing cond a b _, tt)
form_calls_nothing true here target (Address rd mark) c = (refl, (refl, (refl, tt)))
form_calls_nothing false here target (Op i) c = (c, tt)
form_calls_nothing false here target (Mark mark) c = tt
form_calls_nothing false here target (Jump rd mark) c =
    (refl, (refl, (refl, (refl, (refl, (refl, (refl, (refl, (refl, (refl, tt))))))))))
form_calls_nothing false here target (Branch cond a b mark) c = (
  branch_calls_nothing (opposite cond) a b _,
  (refl, (refl, (refl, (refl, (refl, (refl, (refl, (refl, (refl, (refl, tt)))))))))),
)
form_calls_nothing false here target (Address rd mark) c =
    (refl, (refl, (refl, (refl, (refl, (refl, (refl, (refl, (refl, (refl, tt))))))))))

no_call_of : (i : Inst) → is_call i ≡ false → (i ≢ Ecall) × (i ≢ Ebreak)
no_call_of i c =
    (λ e. let f : true ≡ false = ap is_call (sym e) ∙ c in cc, λ e. let f : true ≡ false = ap is_call (sym e) ∙ c in cc)

same_inst : (i j : Inst) → Some i ≡ Some j → i ≡ j
same_inst i j e = cc

-- the instruction that stands so many words behind a place
calls_nothing_at : (l : Layout) (m : Memory) (is : List Inst) (from j : ℕ) (i : Inst) → CallNothing is
    → Stands l m from is → j < length is → decode_of (load_bytes 4 m (from + 4 * j)) ≡ Some i → is_call i ≡ false
calls_nothing_at l m [] from j i n s h d = absurd (let e : ⊥ = omega arith in e)
calls_nothing_at l m (x ∷ xs) from zero i n s h d =
    let z : from + 4 * 0 ≡ from = omega arith in
    let e : x ≡ i = same_inst x i (sym s.0 ∙ (ap (λ a. decode_of (load_bytes 4 m a)) (sym z) ∙ d)) in
    subst (λ y. is_call y ≡ false) e n.0
calls_nothing_at l m (x ∷ xs) from (suc j) i n s h d =
    let z : from + 4 * suc j ≡ from + 4 + 4 * j = omega arith in
    calls_nothing_at l m xs (from + 4) j i n.1 s.2 (omega arith) (ap (λ a. decode_of (load_bytes 4 m a)) (sym z) ∙ d)

-- ---- the padding

zero_loaded : (m : Memory) (at : ℕ) → m (at + 0) ≡ 0 → m (at + 1) ≡ 0 → m (at + 2) ≡ 0 → m (at + 3) ≡ 0
    → load_bytes 4 m at ≡ 0
unfolding load_bytes
zero_loaded m at a b c d = rw (a, b, c, d) refl

nothing_of_zero : decode_of 0 ≡ None
unfolding decode_of
nothing_of_zero = refl

none_is_some : (i : Inst) → None ≡ Some i → ⊥
none_is_some i e = cc

module _ {items : List RealItem} {statics : List ℕ} {labels : List Pos} (facts : CodeFacts items statics labels) where
  abbrev bytes : List ℕ
  bytes = assembled items statics labels

  abbrev l : Layout
  l = layout_of bytes 0 0

  abbrev m : Memory
  m = image_memory bytes

  abbrev address : ℕ → ℕ
  address = address_of items l.code

  abbrev insts : List Inst
  insts = code_insts items l.code

  op_word : (place : ℕ) (i : Inst) → slice_get items place ≡ Some (Op i) → load_bytes 4 m (address place) ≡ encode_of i
  op_word place i e =
      let g = got place items (Op i) e in (full_words facts no_sizes place (Op i) g.0 g.1).0

  insts_same : length insts ≡ length (code_insts items (code_start statics))
  insts_same = ap (λ n. length (code_insts items n)) (code_at facts)

  size_is : code_len bytes ≡ 4 * length insts + 4 * (length insts % 2)
  size_is =
      let a = code_long (inst_words (code_insts items (code_start statics))) in
      let b = code_size facts in
      let c = words_long facts in
      let d = insts_same in
      let e : length (inst_words (code_insts items (code_start statics))) % 2 ≡ length insts % 2 = ap (λ n. n % 2)
      (c ∙ sym d) in omega arith

  in_item : (at : ℕ) (i : Inst) (place : ℕ) (item : RealItem) (rest : List RealItem) → drop place items ≡ item ∷ rest
      → at % 4 ≡ 0 → address place ≤ at → at < address place + 4 * width_at items l.code place item
      → IsNoCall items address at → decode_of (load_bytes 4 m at) ≡ Some i → (b : Bool) → calls item ≡ b
      → (i ≢ Ecall) × (i ≢ Ebreak)
  in_item at i place item rest there z lo hi free d true c =
      absurd (free place (call_is items place item rest there c) (
        lo,
        let w = call_width items l.code place item c in
            omega arith,
      ))
  in_item at i place item rest there z lo hi free d false c =
      let j : ℕ = (at - address place) / 4 in
      let s = code_at facts in
      let long = item_long_at items l.code place item in
      let e : address place + 4 * j ≡ at = omega arith in
      no_call_of i (calls_nothing_at l m (item_insts items l.code place item) (address place) j i
      (form_calls_nothing (is_near (longest_widths items) items l.code place item) (address place)
      (target_of items l.code item) item c)
      (full facts no_sizes place item rest there)
      (omega arith) (ap (λ a. decode_of (load_bytes 4 m a)) e ∙ d))

  -- behind the last word of an odd number stands a word 0
  in_padding : (at : ℕ) (i : Inst) → at % 4 ≡ 0 → l.code + 4 * length insts ≤ at → at < l.code + code_len bytes
      → decode_of (load_bytes 4 m at) ≡ Some i → ⊥
  in_padding at i z lo hi d = none_is_some i (sym nothing_of_zero ∙ (ap decode_of (sym zero) ∙ d))
    where
      odd : length insts % 2 ≡ 1
      odd = let s = size_is in omega arith

      at_end : at ≡ l.code + 4 * length insts
      at_end = let s = size_is in let c = code_at facts in omega arith

      tail_is : (b : Bool) → (length (inst_words (code_insts items (code_start statics))) % 2 == 0) ≡ b → (k : ℕ)
          → slice_index (if b then [] else half_bytes 0) k ≡ 0
      tail_is true e k = refl
      tail_is false e k = zeros k
        where
          zeros : (k : ℕ) → slice_index (half_bytes 0) k ≡ 0
          zeros zero = refl
          zeros (suc zero) = refl
          zeros (suc (suc zero)) = refl
          zeros (suc (suc (suc zero))) = refl
          zeros (suc (suc (suc (suc k)))) = refl

      byte : (k : ℕ) → m (at + k) ≡ 0
      byte k =
          let c = code_at facts in
          let long = bytes_long insts in
          let e : at + k - l.code ≡ length (bytes_of insts) + k = let f = at_end in omega arith in
          code_byte facts no_sizes (at + k) (omega arith)
          ∙ (ap (λ n. slice_index (bytes_of insts ++ tail facts) n) e
          ∙ (get_or-append-add (bytes_of insts) (tail facts) k 0
          ∙ tail_is (length (inst_words (code_insts items (code_start statics))) % 2 == 0) refl k))

      zero : load_bytes 4 m at ≡ 0
      zero = zero_loaded m at (byte 0) (byte 1) (byte 2) (byte 3)

  no_calls_at : (at : ℕ) (i : Inst) → l.code ≤ at → at < l.code + code_len bytes → at % 4 ≡ 0
      → IsNoCall items address at → decode_of (load_bytes 4 m at) ≡ Some i → (i ≢ Ecall) × (i ≢ Ebreak)
  no_calls_at at i lo hi z free d = by (nat_lt ((at - l.code) / 4) (length insts)) refl
    where
      by : (b : Bool) → nat_lt ((at - l.code) / 4) (length insts) ≡ b → (i ≢ Ecall) × (i ≢ Ebreak)
      by true e =
          let k : (at - l.code) / 4 < length insts = grind arith in
          let g : Located items l.code 0 items ((at - l.code) / 4) = located items l.code ((at - l.code) / 4) k in
          let a = g.above in
          let b = g.below in
          let c = code_at facts in
          let y : 0 + g.place ≡ g.place = omega arith in
          let w : width_at items l.code (0 + g.place) g.item ≡ width_at items l.code g.place g.item = ap
          (λ n. width_at items l.code n g.item) y in
          in_item at i g.place g.item g.rest g.stands z (omega arith) (omega arith) free d (calls g.item) refl
      by false e =
          let k : length insts ≤ (at - l.code) / 4 = grind arith in
          let c = code_at facts in absurd (in_padding at i z (omega arith) hi d)

pub has_its_words : {items : List RealItem} {statics : List ℕ} {labels : List Pos} → CodeFacts items statics labels
    → HasItsWords (assembled items statics labels) items (address_of items (code_start statics))
has_its_words {items} {statics} {labels} facts =
    let c = code_at facts in
    record {
      op = λ place i e. subst (λ n. load_bytes 4 (image_memory (assembled items statics labels))
          (address_of items n place) ≡ encode_of i) c (op_word facts place i e);
      no_call =
          λ at i lo hi z free d. no_calls_at facts at i lo hi z
          (subst (λ n. IsNoCall items (address_of items n) at) (sym c) free) d;
    }
