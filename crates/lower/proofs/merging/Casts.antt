-- The procedure for casts of the merged scheme makes the turns of casts between any types, of any values.
use Rattle.std.proofs.Common.{◌≡◌, ℕ, ◌+◌, ◌*◌, ◌^◌, ◌<◌, ◌≤◌, List, [], ◌∷◌, Some, None}
use Rattle.std.proofs.Common.{Bool, true, false, Option, refl, sym, ap, ◌∙◌, subst, arith, slice_get}
use Rattle.std.specs.Prelude.{if◌then◌else◌, option_map}
use Rattle.grift_base.specs.Types.{TypeHead}
use Rattle.run_laws.specs.Machines.{Reaches}
use Rattle.run_laws.proofs.Public.{reaches_weaken}
use Rattle.machine_words.specs.Halts.{ending_of}
use Rattle.core_calc.specs.Account.{Measures}
use Rattle.low_ir.specs.Prices.{CostsAtMost}
use Rattle.low_ir.specs.Run.{Setting, LowState, low_machine, entered}
use Rattle.coercion_norm.specs.Coercions.{Coercion}
use Rattle.coercion_norm.specs.CoercionTables.{cast_of}
use Rattle.coercion_norm.specs.MergedMode.{merging}
use Rattle.cast_modes.specs.Modes.{TypeCast}
use Rattle.cast_modes.specs.ValueSteps.{decision_wraps}
use Rattle.coercion_norm.specs.Held.{Layout, Held, TypesStand, rows_in}
use Rattle.coercion_norm.specs.Objects.{Object}
use Rattle.flat_ir.specs.Bodies.{Proc}
use Rattle.flat_ir.specs.Counts.{decision_at}
use Rattle.flat_ir.specs.FlatTally.{cast_cost}
use Rattle.coer_core.specs.TurnPrices.{merged_prices}
use Rattle.flat_ir.specs.Machine.{FlatValue, FlatFrame, FlatStore, flat_cast}
use Rattle.rt_cast.specs.ComposeCodes.{cast as cast_number}
use Rattle.rt_cast.specs.Carried.{IsLow, IsVery, Carries, ComesTo}
use Rattle.rt_cast.specs.Costs.{cast_words, cast_price}
use Rattle.rt_cast.specs.LightCasts.{is_light, light_words, light_price, cast_words_of, cast_price_of}
use Rattle.rt_cast.specs.MergedValues.{Merged, Outcome, Stuck, cast_value}
use Rattle.rt_cast.specs.Procs.{Stand, cast_proc}
use Rattle.rt_cast.specs.States.{Placed, IsReady, Filled as RtFilled, OnTheWay, Within, heap_of}
use Rattle.rt_cast.proofs.Public.{casts_are_made, light_casts_are_cheap}
use Rattle.lowered_code.specs.declared.served.Served.{Served}
use Rattle.lower.specs.CarriedValues.{CarriedIn}
use Rattle.lowered_code.specs.Emit.{cast_word}
use Rattle.lower.specs.Keeping.{FitsMeasures}
use Rattle.lower.specs.MergedMeaning.{merged_meaning, MergedCasts}
use Rattle.lower.specs.SchemeLaws.{Here, Answers, CastsMade, CastsHaveWords, cast_leaves}
use Rattle.lower.proofs.heap.Objects.{none_some, same_some}
use Rattle.lower.proofs.merging.Bounds.{cast_fits}
use Rattle.lower.proofs.merging.Chains.{begun_by}
use Rattle.lower.proofs.merging.Chains.{Walking, cast_answers}
use Rattle.lower.proofs.merging.MeaningLaws.{held_later}
use Rattle.lower.proofs.merging.Like.{Like, solid_head, like_of}
use Rattle.lower.proofs.words.Standing.{stands_as}
use Rattle.lower.proofs.merging.States.{filled_of}

-- there may be room for more frames
fewer : (setting : Setting) (l : Layout) (s : LowState) (few many words : ℕ) → few ≤ many → (Q : LowState → Type 0)
    (k : ℕ) (t : LowState)
    → Reaches (low_machine ending_of setting) (OnTheWay setting l s few words) (λ u. Within s few words u × Q u) k t
    → Reaches (low_machine ending_of setting) (OnTheWay setting l s many words) (λ u. Within s many words u × Q u) k t
fewer setting l s few many words le Q k t r =
    reaches_weaken (low_machine ending_of setting) (OnTheWay setting l s few words) (λ u. Within s few words u × Q u)
    (OnTheWay setting l s many words) (λ u. Within s many words u × Q u)
    (λ t o. record {
      calm = o.calm;
      room = let a = o.room in omega (arith, a, le);
      asked = o.asked;
      turns = o.turns;
    }) (λ t q. (record { room = let a = q.0.room in omega (arith, a, le); asked = q.0.asked }, q.1)) k t r

-- ---- the procedure

module _ (setting : Setting) (l : Layout) (procs : List Proc) (casts : List TypeCast) (m : Measures)
    (measured : FitsMeasures l m) (words : List ℕ) (first : ℕ) (placed : Placed setting l) (types : TypesStand l)
    (held_casts : MergedCasts l casts words) (ready : Stand setting.procs first)
    (s : LowState) (number : ℕ) (places : List ℕ) (objects : List Object) (store : FlatStore Coercion)
    (here : Here merged_meaning setting l procs casts m places objects store number (heap_of s))
    (base : List (FlatFrame Coercion)) (v : FlatValue Coercion) (w : ℕ)
    (carried : CarriedIn l setting.address procs merged_meaning places objects v [] w) (row : ℕ) (c : Coercion)
    (held : Held l [] c (cast_word (slice_get words row))) (low : IsLow l c) where
  rt_filled : RtFilled setting l objects (heap_of s)
  rt_filled = filled_of setting l number objects (heap_of s) here.filled

  like : (x : Merged ℕ) × Like setting l procs places objects v x × Carries l objects x w
  like = like_of setting l procs places objects placed (heap_of s) here.filled v w carried

  abbrev H : TypeHead
  H = solid_head setting l procs places objects v

  abbrev total : Outcome ℕ
  total = cast_value (λ a. H) l.types c like.0

  abbrev te : LowState
  te = entered s (cast_proc first) (w ∷ cast_word (slice_get words row) ∷ [])

  abbrev deep : ℕ
  deep = 4 * l.tallest + 6

  is_ready : IsReady setting l first
  is_ready = record { placed = placed; stand = ready; types = types }

  -- what the law of the procedure says of a light cast, and of another
  law : (total ≡ Stuck → ⊥)
      → (k : ℕ) × Reaches (low_machine ending_of setting) (OnTheWay setting l s deep (cast_words_of l c like.0))
      (λ u. Within s deep (cast_words_of l c like.0) u × ComesTo l setting s (IsVery l) objects total u) k te
      × CostsAtMost ending_of setting k te (cast_price_of l c like.0)
  law some = by (is_light (rows_in l) c like.0) refl
    where
      hc : Held l objects c (cast_word (slice_get words row))
      hc = held_later l [] objects c (cast_word (slice_get words row)) held

      Says : Bool → Type 0
      Says b =
          (k : ℕ)
          × Reaches (low_machine ending_of setting)
          (OnTheWay setting l s deep (if b then light_words c else cast_words l.width l.tallest))
          (λ u. Within s deep (if b then light_words c else cast_words l.width l.tallest) u
          × ComesTo l setting s (IsVery l) objects total u) k te
          × CostsAtMost ending_of setting k te (if b then light_price c else cast_price l.width l.tallest)

      by : (b : Bool) → is_light (rows_in l) c like.0 ≡ b → Says (is_light (rows_in l) c like.0)
      by true e =
          subst Says (sym e)
          (let z = light_casts_are_cheap ending_of setting l first s refl is_ready held_casts.tallest objects rt_filled
          (λ a. H) c low like.0 total refl some e w (cast_word (slice_get words row)) like.2 hc in (
            z.0,
            fewer setting l s 1 deep (light_words c) (omega arith) (ComesTo l setting s (IsVery l) objects total) z.0
                te z.2,
            z.3,
          ))
      by false e =
          subst Says (sym e)
          (let z = casts_are_made ending_of setting l first s refl is_ready held_casts.tallest objects rt_filled
          (λ a. H) c low like.0 total refl some w (cast_word (slice_get words row)) like.2 hc in
          (z.0, z.2, z.3))

  begins : Walking setting l procs casts m measured placed s places objects store number here base cast_leaves H
      total (cast_words_of l c like.0) (cast_price_of l c like.0 + 0) te
  begins =
      begun_by setting l procs casts m measured placed s places objects store number here base cast_leaves H total deep
      (cast_words_of l c like.0) (cast_price_of l c like.0 + 0) (omega arith) te
      (record { objects = objects; filled = rt_filled; same = refl; room = omega arith }) refl
      (λ some. let z = law some in (z.0, z.1, let a = z.2 in omega (arith, a)))

  pub made_by : Answers merged_meaning setting l procs casts m s cast_leaves places objects base
      (flat_cast procs (merging l.types casts) store s.world v c base)
      (cast_cost procs (merging l.types casts) (merged_prices l.types (merging l.types casts) m) (Some c) v) number
      (decision_wraps (decision_at procs (merging l.types casts) (Some c) v)) te
  made_by =
      cast_answers setting l procs casts m measured placed s places objects store number here base cast_leaves H
      total (cast_words_of l c like.0) (cast_price_of l c like.0 + 0) c low.normal v like.0 like.1 refl refl te begins
      (cast_fits l m measured 0 cast_leaves c like.0 0 (omega arith) (omega arith)) number

-- the row of a number
pub row_of : (types : Rattle.grift_base.specs.Types.TypeRows) (o : Option TypeCast) (c : Coercion)
    → option_map (λ cast. cast_of types cast.from cast.to cast.label) o ≡ Some c
    → (cast : TypeCast) × (o ≡ Some cast) × (c ≡ cast_of types cast.from cast.to cast.label)
row_of types None c e = none_some e
row_of types (Some cast) c e =
    (cast, refl, sym (same_some (cast_of types cast.from cast.to cast.label) c e))

-- The procedure for casts of the merged scheme makes them, wherever the procedures stand.
pub merged_casts_made : (setting : Setting) (l : Layout) (procs : List Proc) (casts : List TypeCast) (m : Measures)
    (words : List ℕ) (first : ℕ) (run_by : Served) → FitsMeasures l m → Placed setting l → TypesStand l
    → MergedCasts l casts words → Stand setting.procs first → run_by.cast ≡ cast_number first → run_by.cast_at ≡ words
    → CastsMade merged_meaning setting l procs casts m run_by
merged_casts_made setting l procs casts m words first run_by measured placed types held ready number_is words_are =
    record {
      proc = cast_proc first;
      stands =
          stands_as setting run_by.cast (cast_proc first)
          (ap (λ n. slice_get setting.procs n) number_is ∙ ready 2 (cast_proc first) refl) refl;
      makes = λ s number places objects store here base row c e v w carried.
          let r = row_of l.types (slice_get casts row) c e in
          let z = held.hold row r.0 r.1 in
          subst (λ ws. Answers merged_meaning setting l procs casts m s cast_leaves places objects base
          (flat_cast procs (merging l.types casts) store s.world v c base)
          (cast_cost procs (merging l.types casts) (merged_prices l.types (merging l.types casts) m) (Some c) v) number
          (decision_wraps (decision_at procs (merging l.types casts) (Some c) v))
          (entered s (cast_proc first) (w ∷ cast_word (slice_get ws row) ∷ []))) (sym words_are)
          (made_by setting l procs casts m measured words first placed types held ready s number places objects store
          here
          base v w carried row c (subst (λ x. Held l [] x (cast_word (slice_get words row))) (sym r.2) z.0)
          (subst (λ x. IsLow l x) (sym r.2) z.1));
    }

-- and the words of casts are words
pub merged_casts_have_words : (setting : Setting) (l : Layout) (procs : List Proc) (casts : List TypeCast)
    (m : Measures) (words : List ℕ) (run_by : Served) → MergedCasts l casts words → run_by.cast_at ≡ words
    → CastsHaveWords merged_meaning setting l procs casts m run_by
merged_casts_have_words setting l procs casts m words run_by held words_are = λ row c e.
    let r = row_of l.types (slice_get casts row) c e in
    subst (λ ws. cast_word (slice_get ws row) < 2 ^ 64) (sym words_are) (held.hold row r.0 r.1).2
