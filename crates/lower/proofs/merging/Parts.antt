-- The procedure for parts of the merged scheme gives them: those of tuples in wrappers, and those of values in Dyn.
use Rattle.std.proofs.Common.{◌≡◌, ◌⊎◌, inl, inr, ℕ, ℤ, zero, suc, ◌+◌, ◌*◌, ◌^◌, ◌<◌, ◌≤◌, List, [], ◌∷◌, length}
use Rattle.std.proofs.Common.{Some, None, Bool, true, false, Option, refl, sym, ap, ◌∙◌, subst, arith, slice_get}
use Rattle.std.proofs.Common.{pos, negsuc, ◌%◌, mod-eq_of_lt, nat_lt, ltb-false, ltb-true}
use Rattle.std.specs.Int.{w64, cast_unsigned, int_wrap}
use Rattle.std.specs.Prelude.{max, FitsSigned}
use Rattle.std.proofs.lemmas.Int.{SFits-int_wrap}
use Rattle.grift_base.specs.Types.{TypeHead, IntHead, row_at, tuple_part, dyn_place}
use Rattle.grift_base.specs.Types.{IntRow, BoolRow, UnitRow, DynRow, FunRow, TupleRow, RefRow, VectRow}
use Rattle.grift_base.proofs.Public.{each_row}
use Rattle.type_graph.specs.Trees.{height}
use Rattle.run_laws.specs.Machines.{Reaches}
use Rattle.machine_words.specs.Halts.{ending_of}
use Rattle.core_calc.specs.Account.{Measures}
use Rattle.low_ir.specs.Prices.{CostsAtMost}
use Rattle.low_ir.specs.Run.{Setting, LowState, low_machine, entered}
use Rattle.coercion_norm.specs.Coercions.{Coercion, Id, Fail, Middle, Inject, Project, rows_of, kind_of, slots_of}
use Rattle.coercion_norm.specs.declared.middles.MiddleKind.TheVariants.{Fun, Tup, Ref, Vec}
use Rattle.coercion_norm.specs.Normal.{IsNormal}
use Rattle.coercion_norm.specs.CoercionTables.{cast_of}
use Rattle.coercion_norm.specs.MergedMode.{merging, tuple_coercion}
use Rattle.cast_modes.specs.Modes.{TypeCast, DynPart, PartCast, NoPart, NoType, kept_part, part_to_dyn, cast_to_dyn}
use Rattle.cast_modes.specs.RunValues.{RunInt, RunBool, RunUnit, RunFun, RunTuple, RunLoc, RunWrap, RunInject}
use Rattle.cast_modes.specs.ValueSteps.{CastFrame, Return, On, BlameOf, blame_or_proj, on_some, ProjFrame}
use Rattle.cast_modes.specs.ValueSteps.{run_proj_dyn}
use Rattle.coercion_norm.specs.Held.{Layout, TypesStand}
use Rattle.coercion_norm.specs.Objects.{Object}
use Rattle.coercion_norm.proofs.Public.{coerce_normal}
use Rattle.coer_core.specs.MergedTally.{Opens}
use Rattle.flat_ir.specs.Bodies.{Proc}
use Rattle.coer_core.specs.TurnPrices.{effort_cost}
use Rattle.cast_modes.specs.Prices.{Cost}
use Rattle.flat_ir.specs.Machine.{FlatValue, FlatAfter, flat_arity, flat_entered, flat_proj}
use Rattle.rt_cast.specs.ComposeCodes.{project as project_number}
use Rattle.rt_cast.specs.Carried.{IsVery, Carries, ComesTo}
use Rattle.rt_cast.specs.LightCasts.{cast_words_of, cast_price_of}
use Rattle.rt_cast.specs.MergedValues.{Merged, Base, Solid, Proxied, InDyn, Outcome, Stuck, Gives, cast_value}
use Rattle.rt_cast.specs.MergedValues.{then_outcome}
use Rattle.rt_cast.specs.PartCosts.{tuple_part_words, tuple_part_price, of_part, of_cast}
use Rattle.rt_cast.specs.PartValues.{part_value, dyn_part_value, dyn_part_by, with_some}
use Rattle.rt_cast.specs.Procs.{Stand, project_proc}
use Rattle.rt_cast.specs.States.{Placed, OnTheWay, Within, heap_of}
use Rattle.rt_cast.proofs.Public.{parts_of_tuples_are_answered, parts_in_dyn_are_answered}
use Rattle.lowered_code.specs.declared.served.Served.{Served}
use Rattle.lower.specs.CarriedValues.{CarriedIn}
use Rattle.lower.specs.Keeping.{FitsMeasures}
use Rattle.lower.specs.MergedMeaning.{merged_meaning}
use Rattle.lower.specs.SchemeLaws.{Answers, Goes, PartsGiven, part_leaves}
use Rattle.lower.proofs.heap.Objects.{none_some, same_some}
use Rattle.lower.proofs.merging.Bounds.{Fits, cast_fits, nothing_fits, dyn_fits}
use Rattle.lower.proofs.merging.Chains.{begun_by}
use Rattle.lower.proofs.merging.Chains.{Done, Walking, Later, PartFits, aim, ended, walk, blames}
use Rattle.lower.proofs.merging.Chains.{ends_here, ends_cast_later, value_part, waits_for_part}
use Rattle.lower.proofs.merging.Like.{Like, solid_head, like_of, prepared, values_of, head_at}
use Rattle.lower.proofs.merging.Stages.{Stage, Stands, stays, takes}
use Rattle.lower.proofs.words.Standing.{stands_as}
use Rattle.lower.proofs.merging.States.{Situation, situated, speech}
use Rattle.lower.proofs.words.Arithmetic.{word_small}

-- nothing is past the end
past_end : {A : Type 0} (xs : List A) (k : ℕ) → length xs ≤ k → slice_get xs k ≡ None
past_end [] k le = refl
past_end (x ∷ xs) zero le = absurd (let z : ⊥ = omega (arith, le) in z)
past_end (x ∷ xs) (suc k) le = past_end xs k (omega (arith, le))

no_part_below : (cast : Coercion) (n : ℕ) → tuple_coercion cast (negsuc n) ≡ None
no_part_below Id n = refl
no_part_below (Fail label) n = refl
no_part_below (Inject g kept) n = refl
no_part_below (Project wanted label i) n = refl
no_part_below (Middle Fun parts) n = refl
no_part_below (Middle Tup parts) n = refl
no_part_below (Middle Ref parts) n = refl
no_part_below (Middle Vec parts) n = refl

-- a tuple has 8 parts at most
far : (head : ℕ → TypeHead) (parts : ℕ → List (Merged ℕ)) (types : Rattle.grift_base.specs.Types.TypeRows) (k : ℕ)
    → ((b : ℕ) → length (parts b) ≤ 8) → 8 ≤ k → (m : Merged ℕ) → part_value head parts types k m ≡ Stuck
far head parts types k few le (Base h w) = refl
far head parts types k few le (Solid a) =
    ap (λ o. with_some o (λ x. Gives x)) (past_end (parts a) k (let z = few a in omega (arith, z, le)))
far head parts types k few le (InDyn kept u) = refl
far head parts types k few le (Proxied a c) = by_coercion (tuple_coercion c (pos k))
  where
    by_coercion : (o : Option Coercion)
        → with_some o (λ d. with_some (slice_get (parts a) k) (λ x. cast_value head types d x)) ≡ Stuck
    by_coercion None = refl
    by_coercion (Some d) =
        ap (λ o. with_some o (λ x. cast_value head types d x)) (past_end (parts a) k
        (let z = few a in omega (arith, z, le)))

-- the row of a type that is there
row_is : (types : List Rattle.grift_base.specs.Types.TypeRow) (k : ℕ) (row : Rattle.grift_base.specs.Types.TypeRow)
    → slice_get types k ≡ Some row → rows_of types k ≡ row
row_is [] k row e = none_some e
row_is (x ∷ types) zero row e = same_some x row e
row_is (x ∷ types) (suc k) row e = row_is types k row e

there_before : (types : List Rattle.grift_base.specs.Types.TypeRow) (k : ℕ)
    (row : Rattle.grift_base.specs.Types.TypeRow) → slice_get types k ≡ Some row → k < length types
there_before [] k row e = none_some e
there_before (x ∷ types) zero row e = omega arith
there_before (x ∷ types) (suc k) row e = let z = there_before types k row e in omega (arith, z)

-- the cast of a part to Dyn is in normal form
dyn_part_normal : (types : Rattle.grift_base.specs.Types.TypeRows) (o : Option Rattle.grift_base.specs.Types.TypeRow)
    (k : ℤ) (label : ℕ) (d : Coercion) → kept_part (λ from p to. cast_of types from to p) types o k label ≡ PartCast d
    → IsNormal (rows_of types) d
dyn_part_normal types None k label d e = absurd (let z : ⊥ = cc in z)
dyn_part_normal types (Some row) k label d e = by_types (tuple_part row k) (dyn_place types) e
  where
    same_cast : (c d : Coercion) → PartCast c ≡ PartCast d → c ≡ d
    same_cast c d q = cc

    by_dyn : (dyn : Option ℕ) (part : ℕ)
        → cast_to_dyn (λ from p to. cast_of types from to p) dyn part label ≡ PartCast d → IsNormal (rows_of types) d
    by_dyn None part q = absurd (let z : ⊥ = cc in z)
    by_dyn (Some dyn) part q =
        subst (λ c. IsNormal (rows_of types) c) (same_cast (cast_of types part dyn label) d q)
        (coerce_normal (rows_of types) (max (height types part) (height types dyn)) part dyn label)

    by_part : (part : Option ℕ) (dyn : Option ℕ) → dyn_place types ≡ dyn
        → part_to_dyn (λ from p to. cast_of types from to p) types part label ≡ PartCast d → IsNormal (rows_of types) d
    by_part None dyn p q = absurd (let z : ⊥ = cc in z)
    by_part (Some part) dyn p q = by_dyn (dyn_place types) part q

    by_types : (part : Option ℕ) (dyn : Option ℕ)
        → part_to_dyn (λ from p to. cast_of types from to p) types part label ≡ PartCast d → IsNormal (rows_of types) d
    by_types part dyn q = by_part part (dyn_place types) refl q

module _ (setting : Setting) (l : Layout) (procs : List Proc) (casts : List TypeCast) (m : Measures)
    (situation : Situation setting l procs casts m) where
  open situation use {measured, first, placed, types, tallest, ready, s, number, places, objects, store, here, base}
  open (speech setting l procs casts m situation) use {rt_filled, is_ready, acting}

  abbrev opening : Cost
  opening = effort_cost m Opens

  stands_at : (words : List ℕ)
      → Stands setting l procs casts m s (entered s (project_proc first) words)
  stands_at words = record { objects = objects; filled = rt_filled; same = refl; room = omega arith }

  -- the law of a walk from a state that comes to this
  abbrev Lawful : ℕ → ℕ → ℕ → Outcome ℕ → LowState → Type 0
  Lawful deep wide dear total te =
      (steps : ℕ) × Reaches (low_machine ending_of setting) (OnTheWay setting l s deep wide)
      (λ v. Within s deep wide v × ComesTo l setting s (IsVery l) objects total v) steps te
      × CostsAtMost ending_of setting steps te dear

  -- the parts of a value, as the procedures see it
  abbrev Parts : FlatValue Coercion → Merged ℕ → Type 0
  Parts u x =
      (parts : ℕ → List (Merged ℕ)) × Rattle.rt_cast.specs.Carried.HaveParts l (IsVery l) objects parts
      × ((b : ℕ) → length (parts b) ≤ 8)
      × ((k : ℕ) (H : TypeHead)
      → ((x : FlatValue Coercion) → slice_get (values_of setting l procs places objects u) k ≡ Some x
      → solid_head setting l procs places objects x ≡ H)
      → Rattle.lower.proofs.merging.Like.KnownUnder setting l procs places objects H parts k u x)

  -- the head of one of them
  abbrev head_of : FlatValue Coercion → ℕ → TypeHead
  head_of u k = head_at setting l procs places objects (slice_get (values_of setting l procs places objects u) k)

  heads_are : (u : FlatValue Coercion) (k : ℕ) (x : FlatValue Coercion)
      → slice_get (values_of setting l procs places objects u) k ≡ Some x
      → solid_head setting l procs places objects x ≡ head_of u k
  heads_are u k x e = sym (ap (λ o. head_at setting l procs places objects o) e)

  -- of a tuple, in a wrapper or not
  module _ (u : FlatValue Coercion) (x : Merged ℕ) (w : ℕ) (like : Like setting l procs places objects u x)
      (carries : Carries l objects x w) (k label : ℕ) where
    abbrev prep : Parts u x
    prep = prepared setting l procs places objects placed (heap_of s) here.filled u x w like carries

    abbrev H : TypeHead
    H = head_of u k

    abbrev total : Outcome ℕ
    total = part_value (λ a. H) prep.0 l.types k x

    abbrev te : LowState
    te = entered s (project_proc first) (w ∷ k % 2 ^ 64 ∷ 1 ∷ label ∷ [])

    abbrev deep : ℕ
    deep = 4 * l.tallest + 6

    abbrev wide : ℕ
    wide = tuple_part_words prep.0 l k x

    abbrev dear : ℕ
    dear = tuple_part_price prep.0 l k x

    law : (total ≡ Stuck → ⊥) → Lawful deep wide dear total te
    law some = by_test (nat_lt k 8) refl
      where
        by_test : (b : Bool) → nat_lt k 8 ≡ b → Lawful deep wide dear total te
        by_test false q =
            absurd (some (far (λ a. H) prep.0 l.types k prep.2 (ltb-false k 8 q) x))
        by_test true q =
            let less = ltb-true k 8 q in
            let z = parts_of_tuples_are_answered ending_of setting l first s refl is_ready tallest objects rt_filled
            (λ a. H) prep.0 prep.1 x total w k label refl some carries in
            let e = mod-eq_of_lt (let y : k < 2 ^ 64 = omega (arith, less) in y) in
            subst (λ n. Lawful deep wide dear total (entered s (project_proc first) (w ∷ n ∷ 1 ∷ label ∷ [])))
            (sym e) (z.0, z.2, z.3)

    begins : Walking setting l procs casts m measured placed s places objects store number here base part_leaves
        H total wide dear te
    begins =
        begun_by setting l procs casts m measured placed s places objects store number here base part_leaves H total
        deep wide dear (omega arith) te (stands_at (w ∷ k % 2 ^ 64 ∷ 1 ∷ label ∷ [])) refl law

    -- the walk fits the turns of the part
    fits_for : (y : Merged ℕ)
        → PartFits setting l procs casts m measured placed s places objects store number here base part_leaves H
        total prep.0 k
        (walk setting l procs casts m measured placed s places objects store number here base part_leaves H total
        (tuple_part_words prep.0 l k y) (tuple_part_price prep.0 l k y)) part_leaves y 0
    fits_for (Base head n) = tt
    fits_for (Solid a) = (omega arith, omega arith)
    fits_for (InDyn kept y) = tt
    fits_for (Proxied a c) = λ d y e f.
        subst (λ o. Fits (rows_of l.types) m (of_cast (cast_words_of l) o (slice_get (prep.0 a) k))
        (of_cast (cast_price_of l) o (slice_get (prep.0 a) k) + 97) part_leaves d y 1792) (sym e)
        (subst (λ o. Fits (rows_of l.types) m (of_cast (cast_words_of l) (Some d) o)
        (of_cast (cast_price_of l) (Some d) o + 97) part_leaves d y 1792) (sym f)
        (cast_fits l m measured 97 part_leaves d y 1792 (omega arith) (omega arith)))

    pub given : Answers merged_meaning setting l procs casts m s part_leaves places objects base
        (flat_proj procs (merging l.types casts) store s.world u (pos k) base) acting number 0 te
    given =
        let r = value_part setting l procs casts m measured placed s places objects store number here base part_leaves
        H total prep.0 k
        (walk setting l procs casts m measured placed s places objects store number here base part_leaves H total
        wide dear) part_leaves u x like (prep.3 k H (heads_are u k)) base (λ o. o) (λ label. refl)
        (ends_here setting l procs casts m measured placed s places objects store number here base part_leaves H
        total) refl in
        (r.0, r.1 te begins number 0 (fits_for x))

  nothing_below : (v : FlatValue Coercion) (cast : Coercion) (n : ℕ) (te : LowState)
      → Answers merged_meaning setting l procs casts m s part_leaves places objects base
      (flat_proj procs (merging l.types casts) store s.world (RunWrap v cast) (negsuc n) base) acting number 0 te
  nothing_below v cast n te =
      subst (λ o. Answers merged_meaning setting l procs casts m s part_leaves places objects base
      (on_some o (λ d. On (Return v) (ProjFrame (negsuc n) ∷ CastFrame d ∷ base) store s.world)) acting number 0 te)
      (sym (no_part_below cast n)) (0, refl)

  pub gives : (v : FlatValue Coercion) (cast : Coercion) (w : ℕ)
      → CarriedIn l setting.address procs merged_meaning places objects (RunWrap v cast) [] w → (part : ℤ) (label : ℕ)
      → Answers merged_meaning setting l procs casts m s part_leaves places objects base
      (flat_proj procs (merging l.types casts) store s.world (RunWrap v cast) part base) acting number 0
      (entered s (project_proc first) (w ∷ cast_unsigned w64 part % 2 ^ 64 ∷ 1 ∷ label ∷ []))
  gives v cast w c (pos k) label =
      let z = like_of setting l procs places objects placed (heap_of s) here.filled (RunWrap v cast) w c in
      given (RunWrap v cast) z.0 w z.1 z.2 k label
  gives v cast w c (negsuc n) label =
      nothing_below v cast n
      (entered s (project_proc first) (w ∷ cast_unsigned w64 (negsuc n) % 2 ^ 64 ∷ 1 ∷ label ∷ []))

  -- ---- of what is in Dyn

  -- told the parts of tuples, the head of what is cast, and the word that is handed on for the place
  module _ (kept : ℕ) (x : Merged ℕ) (w : ℕ) (whole : Carries l objects (InDyn kept x) w) (k label : ℕ)
      (part_word : ℕ) (word_is : part_word ≡ k) (parts : ℕ → List (Merged ℕ))
      (have : Rattle.rt_cast.specs.Carried.HaveParts l (IsVery l) objects parts) (head : TypeHead) where
    abbrev total_dyn : Outcome ℕ
    total_dyn = dyn_part_value (λ a. head) parts l.types k label (InDyn kept x)

    abbrev te_dyn : LowState
    te_dyn = entered s (project_proc first) (w ∷ part_word ∷ 0 ∷ label ∷ [])

    abbrev deep_dyn : ℕ
    deep_dyn = 4 * l.tallest + 7

    abbrev wide_dyn : ℕ
    wide_dyn = of_part parts (cast_words_of l) k x + 3

    abbrev dear_dyn : ℕ
    dear_dyn = of_part parts (cast_price_of l) k x + 337

    law_dyn : (total_dyn ≡ Stuck → ⊥) → Lawful deep_dyn wide_dyn dear_dyn total_dyn te_dyn
    law_dyn some =
        let z = parts_in_dyn_are_answered ending_of setting l first s refl is_ready tallest objects rt_filled
        (λ a. head) parts have (InDyn kept x) total_dyn w k label refl some whole in
        subst (λ n. Lawful deep_dyn wide_dyn dear_dyn total_dyn
        (entered s (project_proc first) (w ∷ n ∷ 0 ∷ label ∷ []))) (sym word_is) (z.0, z.2, z.3)

    begins_dyn : Walking setting l procs casts m measured placed s places objects store number here base part_leaves
        head total_dyn wide_dyn dear_dyn te_dyn
    begins_dyn =
        begun_by setting l procs casts m measured placed s places objects store number here base part_leaves head
        total_dyn deep_dyn wide_dyn dear_dyn (omega arith) te_dyn (stands_at (w ∷ part_word ∷ 0 ∷ label ∷ [])) refl
        law_dyn

    abbrev Given : FlatAfter Coercion → Type 0
    Given y =
        Answers merged_meaning setting l procs casts m s part_leaves places objects base y opening number 0 te_dyn

  -- where the label is blamed, no part is cast
  no_parts : (objects : List Object) → Rattle.rt_cast.specs.Carried.HaveParts l (IsVery l) objects (λ b. [])
  no_parts objects a w v = inl refl

  none_cast : (x : Merged ℕ) (k : ℕ) (number : Coercion → Merged ℕ → ℕ) → of_part (λ (b : ℕ). []) number k x ≡ 0
  none_cast (Base head n) k number = refl
  none_cast (Solid a) k number = refl
  none_cast (InDyn kept y) k number = refl
  none_cast (Proxied a c) k number = by (tuple_coercion c (pos k))
    where
      by : (o : Option Coercion) → of_cast number o None ≡ 0
      by None = refl
      by (Some d) = refl

  pub blamed : (kept : ℕ) (x : Merged ℕ) (w : ℕ) → Carries l objects (InDyn kept x) w → (k label part_word : ℕ)
      → part_word ≡ k
      → kept_part (λ from p to. cast_of l.types from to p) l.types (row_at l.types kept) (pos k) label ≡ NoPart
      → Answers merged_meaning setting l procs casts m s part_leaves places objects base (BlameOf label) opening
      number 0 (entered s (project_proc first) (w ∷ part_word ∷ 0 ∷ label ∷ []))
  blamed kept x w whole k label part_word word_is e = (
    0,
    blames setting l procs casts m measured placed s places objects store number here base part_leaves IntHead
        (total_dyn kept x w whole k label part_word word_is (λ b. []) (no_parts objects) IntHead)
        (wide_dyn kept x w whole k label part_word word_is (λ b. []) (no_parts objects) IntHead)
        (dear_dyn kept x w whole k label part_word word_is (λ b. []) (no_parts objects) IntHead) opening label
        (ap (λ o. dyn_part_by (λ a. IntHead) (λ b. []) l.types o k label x) e)
        (entered s (project_proc first) (w ∷ part_word ∷ 0 ∷ label ∷ []))
        (begins_dyn kept x w whole k label part_word word_is (λ b. []) (no_parts objects) IntHead)
        (let a = none_cast x k (cast_words_of l) in omega (arith, a))
        (let a = none_cast x k (cast_price_of l) in omega (arith, a)) number,
  )

  module _ (u : FlatValue Coercion) (kept : ℕ) (x : Merged ℕ) (w wx : ℕ)
      (like : Like setting l procs places objects u x) (carries : Carries l objects x wx)
      (whole : Carries l objects (InDyn kept x) w) (k label : ℕ) (part_word : ℕ) (word_is : part_word ≡ k) where
    abbrev prep_dyn : Parts u x
    prep_dyn = prepared setting l procs places objects placed (heap_of s) here.filled u x wx like carries

    abbrev head_dyn : TypeHead
    head_dyn = head_of u k

    abbrev total_of : Outcome ℕ
    total_of = total_dyn kept x w whole k label part_word word_is prep_dyn.0 prep_dyn.1 head_dyn

    abbrev state : LowState
    state = entered s (project_proc first) (w ∷ part_word ∷ 0 ∷ label ∷ [])

    abbrev Serves_so : FlatAfter Coercion → Type 0
    Serves_so y =
        Answers merged_meaning setting l procs casts m s part_leaves places objects base y opening number 0 state

    -- where there is such a part, and its cast to Dyn
    module _ (d : Coercion) (normal : IsNormal (rows_of l.types) d)
        (e : kept_part (λ from p to. cast_of l.types from to p) l.types (row_at l.types kept) (pos k) label
        ≡ PartCast d) where
      abbrev after : Outcome ℕ → Outcome ℕ
      after o = then_outcome o (cast_value (λ a. head_dyn) l.types d)

      abbrev walks : ℕ → ℕ → Stage setting l procs casts m s
          (Done setting l procs casts m measured placed s places objects store number here base part_leaves head_dyn
          total_of)
      walks words price =
          walk setting l procs casts m measured placed s places objects store number here base part_leaves head_dyn
          total_of words price

      abbrev Later_frames : ℕ → Type 0
      Later_frames need =
          Later setting l procs casts m measured placed s places objects store number here base part_leaves head_dyn
          total_of need (CastFrame d ∷ base) after

      to_dyn : Later_frames part_leaves
      to_dyn =
          ends_cast_later setting l procs casts m measured placed s places objects store number here base part_leaves
          head_dyn total_of part_leaves d normal base (λ o. o) (λ z. refl)
          (ends_here setting l procs casts m measured placed s places objects store number here base part_leaves
          head_dyn total_of)

      is_total : total_of ≡ after (part_value (λ a. head_dyn) prep_dyn.0 l.types k x)
      is_total = ap (λ o. dyn_part_by (λ a. head_dyn) prep_dyn.0 l.types o k label x) e

      abbrev Fitting : Stage setting l procs casts m s
          (Done setting l procs casts m measured placed s places objects store number here base part_leaves head_dyn
          total_of) → ℕ → Merged ℕ → ℕ → Type 0
      Fitting g need y credit =
          PartFits setting l procs casts m measured placed s places objects store number here base part_leaves head_dyn
          total_of prep_dyn.0 k g need y credit

      abbrev words : ℕ
      words = of_part prep_dyn.0 (cast_words_of l) k x + 3

      abbrev price : ℕ
      price = of_part prep_dyn.0 (cast_price_of l) k x + 337

      begun_here : Walking setting l procs casts m measured placed s places objects store number here base part_leaves
          head_dyn total_of words price state
      begun_here = begins_dyn kept x w whole k label part_word word_is prep_dyn.0 prep_dyn.1 head_dyn

      -- the walk is done in a turn of the cast of the part
      in_cast : Fitting (walks words price) part_leaves x 896
          → Serves_so (On (Return u) (ProjFrame (pos k) ∷ CastFrame d ∷ base) store s.world)
      in_cast fit =
          let r = waits_for_part setting l procs casts m measured placed s places objects store number here base
          part_leaves head_dyn total_of prep_dyn.0 k (walks words price) part_leaves u x like
          (prep_dyn.3 k head_dyn (heads_are u k)) (CastFrame d ∷ base) after (λ z. refl) to_dyn is_total in (
            r.0,
            (
              refl,
              stays setting l procs casts m s
                  (Done setting l procs casts m measured placed s places objects store number here base part_leaves
                  head_dyn total_of)
                  (λ left v. Goes merged_meaning setting l procs casts m s
                  (aim setting l procs casts m measured placed s places objects store number here base part_leaves
                  head_dyn total_of) r.0 (Return u) (ProjFrame (pos k) ∷ CastFrame d ∷ base) store
                  (number + 0) left v) opening 0 number (number + 0) state
                  ((walks words price).calm state begun_here) (r.1 state begun_here (number + 0) 896 fit),
            ),
          )

      -- or in that of the part itself, where no more than 13 words are asked for and the price is within its budget
      at_once : words ≤ 13 → price ≤ 896
          → Serves_so (On (Return u) (ProjFrame (pos k) ∷ CastFrame d ∷ base) store s.world)
      at_once few cheap =
          let r = waits_for_part setting l procs casts m measured placed s places objects store number here base
          part_leaves head_dyn total_of prep_dyn.0 k
          (ended setting l procs casts m measured placed s places objects store number here base part_leaves head_dyn
          total_of) part_leaves u x like
          (prep_dyn.3 k head_dyn (heads_are u k)) (CastFrame d ∷ base) after (λ z. refl) to_dyn is_total in (
            r.0,
            (
              refl,
              takes setting l procs casts m s
                  (Done setting l procs casts m measured placed s places objects store number here base part_leaves
                  head_dyn total_of) (walks words price)
                  (λ left v. Goes merged_meaning setting l procs casts m s
                  (aim setting l procs casts m measured placed s places objects store number here base part_leaves
                  head_dyn total_of) r.0 (Return u) (ProjFrame (pos k) ∷ CastFrame d ∷ base) store
                  (number + 0) left v) opening 0 0 number (number + 0) state begun_here few (omega (arith, cheap))
                  (λ v done. r.1 v done (number + 0) 0 (nothing_left x)),
            ),
          )
        where
          nothing_left : (y : Merged ℕ)
              → Fitting (ended setting l procs casts m measured placed s places objects store number here base
              part_leaves head_dyn total_of) part_leaves y 0
          nothing_left (Base head n) = tt
          nothing_left (Solid a) = (omega arith, omega arith)
          nothing_left (InDyn kept y) = tt
          nothing_left (Proxied a c) = λ d y e f. nothing_fits (rows_of l.types) m part_leaves d y 1792 (omega arith)

      part_says : (y : Merged ℕ)
          → (of_part prep_dyn.0 (cast_words_of l) k y + 3 ≤ 13 × of_part prep_dyn.0 (cast_price_of l) k y + 337 ≤ 896)
          ⊎ Fitting (walks (of_part prep_dyn.0 (cast_words_of l) k y + 3) (of_part prep_dyn.0 (cast_price_of l) k y +
          337))
          part_leaves y 896
      part_says (Base head n) = inl (omega arith, omega arith)
      part_says (Solid a) = inl (omega arith, omega arith)
      part_says (InDyn kept y) = inl (omega arith, omega arith)
      part_says (Proxied a c) = dyn_fits l m measured (tuple_coercion c (pos k)) (slice_get (prep_dyn.0 a) k)

      part_given : Serves_so (On (Return u) (ProjFrame (pos k) ∷ CastFrame d ∷ base) store s.world)
      part_given = elim (part_says x) [
        | inl z ↦ at_once z.0 z.1
        | inr z ↦ in_cast z
      ]

    -- for what the type has at the place
    pub by_part : (o : DynPart Coercion)
        → kept_part (λ from p to. cast_of l.types from to p) l.types (row_at l.types kept) (pos k) label ≡ o
        → Serves_so (blame_or_proj (merging l.types casts) (flat_arity procs) (flat_entered procs) store s.world o u
        (pos k) label base)
    by_part (PartCast d) e = part_given d (dyn_part_normal l.types (row_at l.types kept) (pos k) label d e) e
    by_part NoPart e = blamed kept x w whole k label part_word word_is e
    by_part NoType e = (0, refl)

  -- a part below 0, which no type has
  module _ (u : FlatValue Coercion) (kept : ℕ) (x : Merged ℕ) (w : ℕ)
      (whole : Carries l objects (InDyn kept x) w) (n label : ℕ) (fits : int_wrap w64 (negsuc n) ≡ negsuc n) where
    abbrev word : ℕ
    word = cast_unsigned w64 (negsuc n) % 2 ^ 64

    high : 8 ≤ word
    high =
        let f = (subst (FitsSigned w64) fits (SFits-int_wrap w64 (negsuc n))).sfits in
        let e : word ≡ cast_unsigned w64 (negsuc n) = mod-eq_of_lt (word_small (negsuc n) fits) in
        omega (arith, f, e)

    none_at : (row : Rattle.grift_base.specs.Types.TypeRow) → row_at l.types kept ≡ Some row
        → tuple_part row (pos word) ≡ None
    none_at IntRow e = refl
    none_at BoolRow e = refl
    none_at UnitRow e = refl
    none_at DynRow e = refl
    none_at (FunRow parameters answer) e = refl
    none_at (RefRow content) e = refl
    none_at (VectRow content) e = refl
    none_at (TupleRow parts) e =
        let is : rows_of l.types kept ≡ TupleRow parts = row_is l.types kept (TupleRow parts) e in
        let narrow = types.narrow kept (there_before l.types kept (TupleRow parts) e) Tup (ap kind_of is) in
        let long : length (slots_of (rows_of l.types kept)) ≡ length parts = ap (λ r. length (slots_of r)) is in
        past_end parts word (let a = narrow.0.1 in let b = high in omega (arith, a, b, long))

    below_none : (row : Rattle.grift_base.specs.Types.TypeRow) → tuple_part row (negsuc n) ≡ None
    below_none = each_row (λ row. tuple_part row (negsuc n) ≡ None)
        refl refl refl refl (λ _ _. refl) (λ _. refl) (λ _. refl) (λ _. refl)

    pub by_row : (o : Option Rattle.grift_base.specs.Types.TypeRow) → row_at l.types kept ≡ o
        → Answers merged_meaning setting l procs casts m s part_leaves places objects base
        (blame_or_proj (merging l.types casts) (flat_arity procs) (flat_entered procs) store s.world
        (kept_part (λ from p to. cast_of l.types from to p) l.types o (negsuc n) label) u (negsuc n) label base) opening
        number 0 (entered s (project_proc first) (w ∷ word ∷ 0 ∷ label ∷ []))
    by_row None e = (0, refl)
    by_row (Some row) e =
        subst (λ o. Answers merged_meaning setting l procs casts m s part_leaves places objects base
        (blame_or_proj (merging l.types casts) (flat_arity procs) (flat_entered procs) store s.world
        (part_to_dyn (λ from p to. cast_of l.types from to p) l.types o label) u (negsuc n) label base) opening number 0
        (entered s (project_proc first) (w ∷ word ∷ 0 ∷ label ∷ []))) (sym (below_none row))
        (blamed kept x w whole word label word refl
        (ap (λ o. kept_part (λ from p to. cast_of l.types from to p) l.types o (pos word) label) e
        ∙ ap (λ o. part_to_dyn (λ from p to. cast_of l.types from to p) l.types o label) (none_at row e)))

  pub gives_dyn : (v : FlatValue Coercion) (w : ℕ)
      → CarriedIn l setting.address procs merged_meaning places objects v [] w → (part : ℤ) (label : ℕ)
      → int_wrap w64 part ≡ part
      → Answers merged_meaning setting l procs casts m s part_leaves places objects base
      (run_proj_dyn (merging l.types casts) (flat_arity procs) (flat_entered procs) store s.world v part label base)
      opening number 0 (entered s (project_proc first) (w ∷ cast_unsigned w64 part % 2 ^ 64 ∷ 0 ∷ label ∷ []))
  gives_dyn (RunInject u kept) w c part label fits = by_sign part fits
    where
      z : (x : Merged ℕ) × Like setting l procs places objects (RunInject u kept) x × Carries l objects x w
      z = like_of setting l procs places objects placed (heap_of s) here.filled (RunInject u kept) w c

      whole : Carries l objects (InDyn kept z.1.0) w
      whole = subst (λ x. Carries l objects x w) z.1.1 z.2

      by_sign : (part : ℤ) → int_wrap w64 part ≡ part
          → Answers merged_meaning setting l procs casts m s part_leaves places objects base
          (run_proj_dyn (merging l.types casts) (flat_arity procs) (flat_entered procs) store s.world (RunInject u kept)
          part label base) opening number 0
          (entered s (project_proc first) (w ∷ cast_unsigned w64 part % 2 ^ 64 ∷ 0 ∷ label ∷ []))
      by_sign (pos k) fits =
          by_part u kept z.1.0 w whole.0 z.1.3 whole.4 whole k label (k % 2 ^ 64)
          (mod-eq_of_lt (word_small (pos k) fits))
          (kept_part (λ from p to. cast_of l.types from to p) l.types (row_at l.types kept) (pos k) label) refl
      by_sign (negsuc n) fits =
          by_row u kept z.1.0 w whole n label fits (row_at l.types kept) refl
  gives_dyn (RunWrap v cast) w c part label fits = (0, refl)
  gives_dyn (RunInt n) w c part label fits = (0, refl)
  gives_dyn (RunBool b) w c part label fits = (0, refl)
  gives_dyn RunUnit w c part label fits = (0, refl)
  gives_dyn (RunFun code captured) w c part label fits = (0, refl)
  gives_dyn (RunTuple values) w c part label fits = (0, refl)
  gives_dyn (RunLoc cell is_vector) w c part label fits = (0, refl)

-- The procedure for parts of the merged scheme gives them, wherever the procedures stand.
pub merged_parts_given : (setting : Setting) (l : Layout) (procs : List Proc) (casts : List TypeCast) (m : Measures)
    (first : ℕ) (run_by : Served) → FitsMeasures l m → Placed setting l → TypesStand l → l.tallest ≤ 65534
    → Stand setting.procs first → run_by.project ≡ project_number first
    → PartsGiven merged_meaning setting l procs casts m run_by
merged_parts_given setting l procs casts m first run_by measured placed types tallest ready number_is = record {
  proc = project_proc first;
  stands =
      stands_as setting run_by.project (project_proc first)
      (ap (λ n. slice_get setting.procs n) number_is ∙ ready 3 (project_proc first) refl) refl;
  gives = λ s number places objects store here base v cast w c part label.
      gives setting l procs casts m
      (situated setting l procs casts m measured first placed types tallest ready s number places objects store here
      base) v
      cast w c part label;
  gives_dyn = λ s number places objects store here base v w c part label small fits.
      gives_dyn setting l procs casts m
      (situated setting l procs casts m measured first placed types tallest ready s number places objects store here
      base) v w c part label fits;
}
