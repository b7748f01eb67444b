-- The image of a lowered program in its start state: where its procedures, its statics and its region are.
use Rattle.std.proofs.Common.{◌≡◌, ℕ, zero, suc, ◌+◌, ◌*◌, ◌^◌, ◌<◌, ◌≤◌, List, [], ◌∷◌, length, Option, Some}
use Rattle.std.proofs.Common.{None, refl, sym, ap, ◌∙◌, subst, slice_get, append-nil, arith}
use Rattle.std.specs.Prelude.{All}
use Rattle.std.proofs.lemmas.List.Elements.{All-head, All-tail}
use Rattle.std.proofs.lemmas.Option.{slice_get_within}
use Rattle.std.proofs.lemmas.List.{length-append, length-replicate}
use Rattle.grift_base.specs.World.{WorldState}
use Rattle.grift_base.specs.Types.{TypeRows}
use Rattle.grift_base.specs.declared.places.Pos.{Pos}
use Rattle.grift_base.specs.declared.words.Statics.{Statics}
use Rattle.rv_machine.specs.declared.real.RealItem.{RealItem}
use Rattle.machine_words.specs.Memory.{Memory, first_address}
use Rattle.rv_machine.specs.Image.{statics_len, code_len}
use Rattle.rv_machine.specs.State.{State}
use Rattle.rv_machine.specs.Start.{start_of, IsRegionSize, IsStackSize}
use Rattle.rv_machine.specs.Real.{mark_address}
use Rattle.assembler.specs.Assembled.{item_address}
use Rattle.low_ir.specs.Procedures.{Proc}
use Rattle.low_ir.specs.Run.{Setting}
use Rattle.reg_assign.specs.Images.{IsImageOfWords, RunsIn, words_code, words_setting}
use Rattle.coercion_norm.specs.Nodes.{Node}
use Rattle.coercion_norm.specs.Objects.{Object, Fixed, Cell, bytes_of, bytes_of_all, words_of, words_of_all}
use Rattle.coercion_norm.specs.Held.{Layout}
use Rattle.coercion_norm.specs.Statics.{AreStatics, layout_of, objects_of}
use Rattle.coercion_norm.specs.declared.cast_rows.CastRow.{CastRow}
use Rattle.rt_cast.specs.Objects.{Holds, HoldsWords, HasWord}
use Rattle.rt_cast.specs.States.{Placed}
use Rattle.rt_cast.proofs.Public.{objects_stand_where_their_words_do}
use Rattle.lower.specs.SimulationClaims.{AreCodeAddresses}
use Rattle.lower.specs.MergedMeaning.{width_of}

-- ---- code addresses

-- an address, or 0 where there is none
abbrev pub or_zero : Option ℕ → ℕ
or_zero (Some at) = at
or_zero None = 0

-- what a run over words is told: the address of the mark of each procedure
abbrev pub told_at : List RealItem → List ℕ → ℕ → ℕ
told_at code statics k = or_zero (mark_address (item_address code statics) code k)

-- ---- statics

bytes_are : (o : Object) → 8 * length (words_of o) ≡ bytes_of o
bytes_are (Fixed header words) = omega arith
bytes_are (Cell header count) = rw (length-replicate {A = ℕ} count 0) (omega arith)

all_bytes_are : (os : List Object) → 8 * length (words_of_all os) ≡ bytes_of_all os
all_bytes_are [] = refl
all_bytes_are (o ∷ os) =
    let one = bytes_are o in
    let rest = all_bytes_are os in
    let both = length-append (words_of o) (words_of_all os) in omega (arith, one, rest, both)

-- words that are read one after another stand there
words_stand : (m : Memory) (at : ℕ) (words : List ℕ)
    → ((i word : ℕ) → slice_get words i ≡ Some word → HasWord m (at + 8 * i) word) → HoldsWords m at words
words_stand m at [] h = tt
words_stand m at (word ∷ words) h = (
  subst (λ a. HasWord m a word) (omega arith) (h 0 word refl),
  words_stand m (at + 8) words (λ i w e. subst (λ a. HasWord m a w) (next at i) (h (suc i) w e)),
)
  where
    next : (at i : ℕ) → at + 8 * suc i ≡ at + 8 + 8 * i
    next at i = omega arith

in_all : (words : List ℕ) → All (λ w. w < 2 ^ 64) words → (i word : ℕ) → slice_get words i ≡ Some word → word < 2 ^ 64
in_all [] h i word e = absurd (let f : ⊥ = cc in f)
in_all (w ∷ words) h zero word e =
    subst (λ x. x < 2 ^ 64) (let same : w ≡ word = cc in same) (All-head (λ x. x < 2 ^ 64) w words h)
in_all (w ∷ words) h (suc i) word e = in_all words (All-tail (λ x. x < 2 ^ 64) w words h) i word e

-- ---- the start

module _ {image : List ℕ} {procs : List Proc} {entry : ℕ} {statics : Statics} {labels : List Pos} {types : TypeRows}
    {nodes : List Node} {casts : List CastRow}
    (is : IsImageOfWords image procs entry statics.words labels)
    (placed : AreStatics types nodes casts first_address statics)
    (words : All (λ w. w < 2 ^ 64) statics.words)
    (region stack : ℕ) (region_size : IsRegionSize region) (stack_size : IsStackSize stack) (world : WorldState) where
  abbrev pub code : List RealItem
  code = words_code is.places procs entry

  abbrev pub told : ℕ → ℕ
  told = told_at code statics.words

  abbrev pub start : State
  start = start_of image region stack world

  abbrev pub setting : Setting
  setting = words_setting procs told start

  -- how high a proxy's coercion may be doesn't matter to where things are; coercions are no wider than the types
  abbrev pub layout : ℕ → Layout
  layout tallest = layout_of types nodes first_address statics [] start.layout.region tallest (width_of types)

  pub runs_in : (p : Proc) → slice_get procs entry ≡ Some p
      → RunsIn code statics.words procs entry p told region stack
  runs_in p e = record {
    region_size = region_size;
    stack_size = stack_size;
    begins = e;
    tells = λ k at h m. rw m refl;
  }

  there : (k : ℕ) (p : Proc) → slice_get procs k ≡ Some p
      → (mark_address (item_address code statics.words) code k ≡ Some (told k))
      × (told k < 2 ^ 64)
  there k p e =
      let a = is.addresses.there k (slice_get_within procs k p e) in
      let same : told k ≡ a.0 = ap or_zero a.1 in
      (a.1 ∙ ap Some (sym same), subst (λ n. n < 2 ^ 64) (sym same) a.2)

  pub code_addresses : AreCodeAddresses procs told
  code_addresses = record {
    small = λ k p e. (there k p e).1;
    once = λ j k p q e f same.
        is.addresses.apart j k (told j) (slice_get_within procs j p e) (slice_get_within procs k q f)
        (there j p e).0 ((there k q f).0 ∙ ap Some (sym same));
  }

  holds : Holds start.memory first_address (objects_of types nodes statics)
  holds =
      objects_stand_where_their_words_do start.memory first_address (objects_of types nodes statics)
      (subst (λ ws. HoldsWords start.memory first_address ws) placed.says
      (words_stand start.memory first_address statics.words (λ i w e. record {
        is = is.is_image.addresses.static i w (in_all statics.words words i w e) e;
        small = in_all statics.words words i w e;
      })))

  pub statics_hold : (tallest : ℕ) → Holds start.memory (layout tallest).first (layout tallest).statics
  statics_hold tallest =
      subst (λ os. Holds start.memory first_address os) (sym (append-nil (objects_of types nodes statics))) holds

  pub are_placed : (tallest : ℕ) → Placed setting (layout tallest)
  are_placed tallest =
      let bytes = all_bytes_are (objects_of types nodes statics) in
      let long = ap (λ ws. 8 * length ws) placed.says in
      let size = is.is_image.addresses.statics_size in
      let none = ap bytes_of_all (append-nil (objects_of types nodes statics)) in
      let small = is.small in
      let a = is.whole.statics in
      let b = is.whole.code in
      let r = region_size.1 in
      record {
        low = omega arith;
        even_first = omega arith;
        even_region = omega arith;
        before = omega (arith, bytes, long, size, none);
        top = omega (arith, small, r);
      }

  -- where statics and code aren't too long the region ends low
  pub top_low : statics_len image + code_len image ≤ 8589934592 → setting.top < 2 ^ 34
  top_low short = let r = region_size.1 in omega (arith, short, r)
