-- The code of a test, with any number of fillers, can be assembled.
use Rattle.std.proofs.Common.{ℕ, zero, suc, ◌+◌, ◌≡◌, ◌∙◌, refl, sym, ap, arith, Bool, true, pos, List, [], ◌∷◌, ◌++◌}
use Rattle.std.proofs.Common.{replicate, Contains}
use Rattle.std.specs.Prelude.{All, ◌==◌, not, nat_eq}
use Rattle.std.specs.List.{list_any, list_all}
use Rattle.std.specs.Cmp.{nat_eq_equiv}
use Rattle.std.proofs.lemmas.Bool.{true≢false, eqb-true, not-true}
use Rattle.std.proofs.lemmas.List.{append_assoc, replicate_more}
use Rattle.std.proofs.lemmas.List.Elements.{All-append, All-replicate, All-weaker}
use Rattle.std.proofs.lemmas.List.Sums.{AllPass-from_list_all}
use Rattle.std.proofs.lemmas.Map.Views.{list_any-from_Contains}
use Rattle.rv_isa.specs.declared.inst.Inst.TheVariants.{Addi, Jalr, Ecall}
use Rattle.machine_words.specs.declared.conditions.Cond.TheVariants.{Eq, Ne, Lt, Ge, Ltu, Geu}
use Rattle.rv_machine.specs.declared.real.RealItem.{RealItem}
use Rattle.rv_machine.specs.declared.real.RealItem.TheVariants.{Op, Mark, Jump, Branch, Address}
use Rattle.assembler.specs.Conditions.{CanBeAssembled, NamesOne, IsPlaced, registers_named, is_relative, times}

abbrev Spares : RealItem → Type 0
Spares item = ¬ Contains (registers_named item) 31

abbrev pub filler : RealItem
filler = Op (Addi 11 11 (pos 100))

-- fillers between two parts
abbrev pub spread : List RealItem → ℕ → List RealItem → List RealItem
spread front n rear = front ++ replicate n filler ++ rear

times_append : (mark : ℕ) (xs ys : List RealItem) → times mark (xs ++ ys) ≡ times mark xs + times mark ys
times_append mark [] ys = omega arith
times_append mark (Op i ∷ xs) ys = times_append mark xs ys
times_append mark (Jump rd to ∷ xs) ys = times_append mark xs ys
times_append mark (Branch cond a b to ∷ xs) ys = times_append mark xs ys
times_append mark (Address rd to ∷ xs) ys = times_append mark xs ys
times_append mark (Mark here ∷ xs) ys =
    let h = times_append mark xs ys in
    omega (arith, h)

times_fillers : (mark n : ℕ) → times mark (replicate n filler) ≡ 0
times_fillers mark zero = refl
times_fillers mark (suc n) = times_fillers mark n

times_spread : (mark : ℕ) (front : List RealItem) (n : ℕ) (rear : List RealItem)
    → times mark (spread front n rear) ≡ times mark (front ++ rear)
times_spread mark front n rear =
    let a = times_append mark (front ++ replicate n filler) rear in
    let b = times_append mark front (replicate n filler) in
    let c = times_fillers mark n in
    let d = times_append mark front rear in
    omega (arith, a, b, c, d)

-- each mark is named as where no filler stands
names_spread : (front : List RealItem) (n : ℕ) (rear : List RealItem) (item : RealItem)
    → NamesOne (front ++ rear) item → NamesOne (spread front n rear) item
names_spread front n rear (Op i) h = tt
names_spread front n rear (Mark mark) h = tt
names_spread front n rear (Jump rd mark) h = times_spread mark front n rear ∙ h
names_spread front n rear (Branch cond a b mark) h = times_spread mark front n rear ∙ h
names_spread front n rear (Address rd mark) h = times_spread mark front n rear ∙ h

-- one more filler behind a list
pub one_more : (n : ℕ) (before now after : List RealItem) → now ≡ before ++ replicate n filler
    → after ≡ now ++ filler ∷ [] → after ≡ before ++ replicate (n + 1) filler
one_more n before now after e f =
    f ∙ ap (λ items. items ++ filler ∷ []) e ∙ append_assoc before (replicate n filler) (filler ∷ [])
    ∙ ap (λ items. before ++ items) (replicate_more n filler)

-- by the parts of a code
all_spread : (P : RealItem → Type 0) (front : List RealItem) (n : ℕ) (rear : List RealItem) → All P front → P filler
    → All P rear → All P (spread front n rear)
all_spread P front n rear f p r =
    All-append P (front ++ replicate n filler) rear
    (All-append P front (replicate n filler) f (All-replicate P n filler p)) r

abbrev pub front : List RealItem
front =
    Branch Ne 0 0 0 ∷ Branch Lt 0 0 0 ∷ Branch Ltu 0 0 0 ∷ Address 5 2 ∷ Branch Eq 0 0 0 ∷ Mark 2 ∷ Address 5 3
    ∷ Branch Ge 0 0 0 ∷ Mark 3 ∷ Jump 5 0 ∷ Address 7 0 ∷ Op (Jalr 5 7 (pos 0)) ∷ Op Ecall ∷ Mark 1
    ∷ Op (Addi 11 11 (pos 20)) ∷ Op (Jalr 0 6 (pos 0)) ∷ []

abbrev pub rear : List RealItem
rear =
    Mark 0 ∷ Op (Addi 11 11 (pos 1)) ∷ Address 6 4 ∷ Branch Geu 0 0 1 ∷ Mark 4 ∷ Jump 6 1 ∷ Address 7 1
    ∷ Op (Jalr 6 7 (pos 0)) ∷ Op (Addi 11 11 (pos 3)) ∷ Op (Jalr 0 5 (pos 0)) ∷ []

-- tests that tell of each item whether it fits into the code
abbrev spares : RealItem → Bool
spares item = not (list_any (nat_eq 31) (registers_named item))

abbrev names_one : List RealItem → RealItem → Bool
names_one items (Op i) = true
names_one items (Mark mark) = true
names_one items (Jump rd mark) = times mark items == 1
names_one items (Branch cond a b mark) = times mark items == 1
names_one items (Address rd mark) = times mark items == 1

abbrev is_placed : RealItem → Bool
is_placed (Op i) = not (is_relative i)
is_placed (Mark mark) = true
is_placed (Jump rd mark) = true
is_placed (Branch cond a b mark) = true
is_placed (Address rd mark) = true

it_spares : (item : RealItem) → spares item ≡ true → Spares item
it_spares item e c =
    true≢false (sym (list_any-from_Contains nat_eq_equiv 31 (registers_named item) c)
    ∙ not-true (list_any (nat_eq 31) (registers_named item)) e)

it_names_one : (items : List RealItem) (item : RealItem) → names_one items item ≡ true → NamesOne items item
it_names_one items (Op i) e = tt
it_names_one items (Mark mark) e = tt
it_names_one items (Jump rd mark) e = eqb-true (times mark items) 1 e
it_names_one items (Branch cond a b mark) e = eqb-true (times mark items) 1 e
it_names_one items (Address rd mark) e = eqb-true (times mark items) 1 e

it_is_placed : (item : RealItem) → is_placed item ≡ true → IsPlaced item
it_is_placed (Op i) e = not-true (is_relative i) e
it_is_placed (Mark mark) e = tt
it_is_placed (Jump rd mark) e = tt
it_is_placed (Branch cond a b mark) e = tt
it_is_placed (Address rd mark) e = tt

-- each item of a list passes a test
each : (P : RealItem → Type 0) (test : RealItem → Bool) → ((item : RealItem) → test item ≡ true → P item)
    → (items : List RealItem) → list_all test items ≡ true → All P items
each P test f items e = All-weaker (λ item. test item ≡ true) P f items (AllPass-from_list_all test items e)

named : (n : ℕ) (items : List RealItem) → list_all (names_one (front ++ rear)) items ≡ true
    → All (NamesOne (spread front n rear)) items
named n items e =
    each (NamesOne (spread front n rear)) (names_one (front ++ rear))
    (λ item h. names_spread front n rear item (it_names_one (front ++ rear) item h)) items e

pub across_items : (n : ℕ) → CanBeAssembled (spread front n rear)
across_items n = record {
  some = (0, Branch Ne 0 0 0, omega arith, refl, refl);
  marks = all_spread (NamesOne (spread front n rear)) front n rear (named n front refl) tt (named n rear refl);
  scratch =
      all_spread Spares front n rear (each Spares spares it_spares front refl) (it_spares filler refl)
      (each Spares spares it_spares rear refl);
  placed =
      all_spread IsPlaced front n rear (each IsPlaced is_placed it_is_placed front refl) refl
      (each IsPlaced is_placed it_is_placed rear refl);
}
