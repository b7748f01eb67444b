-- What casts of values and parts of tuples come to in the merged mode, in a procedure that comes to the same and
-- returns it.
use Rattle.std.proofs.Common.{◌≡◌, ◌⊎◌, inl, inr, ℕ, ◌+◌, ◌*◌, ◌≤◌, List, [], ◌∷◌, ◌++◌, Some, slice_get}
use Rattle.std.proofs.Common.{refl, sym, ◌∙◌, subst, append-nil, pos}
use Rattle.grift_base.specs.Types.{TypeHead}
use Rattle.grift_base.specs.declared.places.Pos.{Pos}
use Rattle.grift_base.specs.declared.verdicts.Verdict.TheVariants.{Blame}
use Rattle.run_laws.specs.Runs.{Verdict as EndsWith}
use Rattle.core_calc.specs.Account.{Measures}
use Rattle.low_ir.specs.Prices.{CostsAtMost}
use Rattle.low_ir.specs.Run.{Setting, LowState, low_machine}
use Rattle.machine_words.specs.Halts.{ending_of}
use Rattle.run_laws.specs.Machines.{Reaches}
use Rattle.coercion_norm.specs.Coercions.{Coercion, rows_of}
use Rattle.coercion_norm.specs.Normal.{IsNormal}
use Rattle.coercion_norm.specs.MergedMode.{merging}
use Rattle.cast_modes.specs.Modes.{TypeCast}
use Rattle.cast_modes.specs.ValueSteps.{CastFrame, ProjFrame, Return, On, BlameOf, decision_wraps}
use Rattle.coercion_norm.specs.Held.{Layout}
use Rattle.coercion_norm.specs.Objects.{Object}
use Rattle.flat_ir.specs.Bodies.{Proc}
use Rattle.flat_ir.specs.Counts.{decision_at}
use Rattle.flat_ir.specs.FlatTally.{act_cost, cast_cost}
use Rattle.coer_core.specs.TurnPrices.{merged_prices}
use Rattle.cast_modes.specs.Prices.{Cost}
use Rattle.flat_ir.specs.Machine.{FlatValue, FlatFrame, FlatStore, FlatAfter, flat_cast, flat_proj}
use Rattle.rt_cast.specs.Carried.{IsVery, Carries, GivesAt, ComesTo}
use Rattle.rt_cast.specs.MergedValues.{Merged, Outcome, Stuck, Gives, Blames, cast_value, then_outcome}
use Rattle.rt_cast.specs.PartValues.{part_value}
use Rattle.rt_cast.specs.States.{Placed, Filled as RtFilled, OnTheWay, Within, heap_of}
use Rattle.lower.specs.CarriedValues.{CarriedIn}
use Rattle.lower.specs.Keeping.{FitsMeasures}
use Rattle.lower.specs.MergedMeaning.{merged_meaning}
use Rattle.lower.specs.SchemeLaws.{Here, StopsNow, After, Goes, Returns, ReturnsAt, Aim}
use Rattle.lower.proofs.heap.CarriedLater.{cells_later, cells_below}
use Rattle.lower.proofs.merging.Bounds.{Fits}
use Rattle.lower.proofs.merging.MeaningLaws.{merged_laws}
use Rattle.lower.proofs.merging.Like.{Like, solid_head, like_back, KnownUnder}
use Rattle.lower.proofs.merging.Stages.{HasRoom, Calm, Stands, Stage, at_end, Settled, settled_calm, Begun, begun}
use Rattle.lower.proofs.merging.Stages.{by_law}
use Rattle.lower.proofs.merging.States.{blame_stops, filled_as}
use Rattle.lower.proofs.merging.Turns.{Ends as EndsBy, IsStrict, Made as MadeBy, PartFits as PartFitsBy}
use Rattle.lower.proofs.merging.Turns.{cast_made as cast_made_by, ends_cast as ends_cast_by}
use Rattle.lower.proofs.merging.Turns.{ends_cast_later as ends_cast_later_by, value_part as value_part_by}
use Rattle.lower.proofs.merging.Turns.{waits_for_part as waits_for_part_by, blames_now as blames_now_by}
use Rattle.lower.proofs.merging.Turns.{takes_it as takes_it_by, skips as skips_by}

-- an outcome is nothing or something
pub stuck_or_not : (r : Outcome ℕ) → (r ≡ Stuck) ⊎ (r ≡ Stuck → ⊥)
stuck_or_not Stuck = inl refl
stuck_or_not (Gives u) = inr (λ e. let z : ⊥ = cc in z)
stuck_or_not (Blames label) = inr (λ e. let z : ⊥ = cc in z)

pub gives_some : (x : Merged ℕ) → Gives x ≡ Stuck → ⊥
gives_some x e = cc

pub blames_some : (label : ℕ) → (r : Outcome ℕ) → r ≡ Blames label → r ≡ Stuck → ⊥
blames_some label r e q = cc

-- The procedure was entered from s, and returns the total, where so much is left.
module _ (setting : Setting) (l : Layout) (procs : List Proc) (casts : List TypeCast) (m : Measures)
    (measured : FitsMeasures l m) (placed : Placed setting l) (s : LowState) (places : List ℕ) (objects : List Object)
    (store : FlatStore Coercion) (at_first : ℕ)
    (here : Here merged_meaning setting l procs casts m places objects store at_first (heap_of s))
    (base : List (FlatFrame Coercion)) (leaves : ℕ) (H : TypeHead) (total : Outcome ℕ) where
  abbrev pub aim : Aim merged_meaning setting l procs casts m
  aim focus frames store' n left t =
      Returns merged_meaning setting l procs casts m s leaves places objects base focus frames store' n left t

  abbrev pub Comes : LowState → Type 0
  Comes t = ComesTo l setting s (IsVery l) objects total t

  stands_so : (r : Outcome ℕ) (t : LowState) → ComesTo l setting s (IsVery l) objects r t
      → HasRoom setting l procs casts m s t → Stands setting l procs casts m s t
  stands_so Stuck t c few = absurd c
  stands_so (Gives x) t c few =
      record { objects = c.new; filled = c.fine.filled; same = c.same; room = few }
  stands_so (Blames label) t c few =
      record { objects = c.new; filled = c.fine.filled; same = c.same; room = few }

  pub comes_stands : (t : LowState) → Comes t → HasRoom setting l procs casts m s t
      → Stands setting l procs casts m s t
  comes_stands t c few = stands_so total t c few

  abbrev pub Done : LowState → Type 0
  Done = Settled setting l procs casts m s (total ≡ Stuck) (stuck_or_not total) Comes comes_stands

  pub calm : (t : LowState) → Done t → Calm setting l procs casts m s t
  calm t done =
      settled_calm setting l procs casts m s (total ≡ Stuck) (stuck_or_not total) Comes comes_stands t done

  -- the walk of a law, for so many words and at this price
  abbrev pub walk : ℕ → ℕ → Stage setting l procs casts m s Done
  walk words price = begun setting l procs casts m s (total ≡ Stuck) (stuck_or_not total) Comes comes_stands words
      price

  abbrev pub Walking : ℕ → ℕ → LowState → Type 0
  Walking words price t =
      Begun setting l procs casts m s (total ≡ Stuck) (stuck_or_not total) Comes comes_stands words price t

  -- so it begins where a law on the procedure says what it comes to
  pub begun_by : (frames words price : ℕ) → frames ≤ 4 * l.tallest + 7 → (t : LowState)
      → Stands setting l procs casts m s t → t.words ≡ s.words
      → ((total ≡ Stuck → ⊥)
      → (k : ℕ) × Reaches (low_machine ending_of setting) (OnTheWay setting l s frames words)
      (λ u. Within s frames words u × Comes u) k t × CostsAtMost ending_of setting k t price)
      → Walking words price t
  begun_by =
      by_law setting l procs casts m s (total ≡ Stuck) (stuck_or_not total) Comes comes_stands

  abbrev pub ended : Stage setting l procs casts m s Done
  ended = at_end setting l procs casts m s Done calm

  comes_so : (r : Outcome ℕ) → total ≡ r → (r ≡ Stuck → ⊥) → (t : LowState) → Done t
      → ComesTo l setting s (IsVery l) objects r t
  comes_so r e some t done =
      subst (λ x. ComesTo l setting s (IsVery l) objects x t) e (done.comes (λ q. some (sym e ∙ q)))

  pub blamed : (label : ℕ) → total ≡ Blames label → (t : LowState) → Done t → (n : ℕ) (place : Pos)
      → slice_get setting.labels label ≡ Some place
      → StopsNow merged_meaning setting l procs casts m s n (EndsWith (Blame place)) t
  blamed label e t done n place found_it =
      blame_stops setting l procs casts m s objects n label place found_it t
      (comes_so (Blames label) e (blames_some label (Blames label) refl) t done)

  -- a return of what is like the value
  pub returns : (u : FlatValue Coercion) (x : Merged ℕ) → Like setting l procs places objects u x → (n : ℕ)
      (t : LowState) → GivesAt l setting s (IsVery l) objects x t
      → ReturnsAt merged_meaning setting l procs casts m s places objects u store n t
  returns u x k n t g =
      let more = g.grows.more in
      let full = subst (λ os. RtFilled setting l os (heap_of t)) g.grows.is g.fine.filled in
      record {
        cells = [];
        more = g.grows.more;
        here = subst (λ ps. Here merged_meaning setting l procs casts m ps (objects ++ g.grows.more) store n
            (heap_of t)) (sym (append-nil places)) (record {
              filled = filled_as setting l n (objects ++ g.grows.more) (heap_of t) full;
              cells = cells_later l setting.address procs merged_meaning merged_laws places objects g.grows.more
                  t.memory places store
                  (cells_below l setting.address procs merged_meaning merged_laws places objects setting placed
                  (heap_of s) here.filled t.memory g.fine.kept places store here.cells);
            });
        word = g.word;
        carried = subst (λ ps. CarriedIn l setting.address procs merged_meaning ps (objects ++ g.grows.more) u []
            g.word) (sym (append-nil places))
            (like_back setting l procs places objects g.grows.more u x k g.word
            (subst (λ os. Carries l os x g.word) g.grows.is g.carried));
        source = g.source;
        code = g.code;
        is = g.is;
        waits = g.waits;
        same = g.same;
      }

  -- ---- the turns of casts, with this law

  abbrev pub Ends : Stage setting l procs casts m s Done → (Merged ℕ → ℕ → Type 0) → List (FlatFrame Coercion)
      → (Outcome ℕ → Outcome ℕ) → Type 0
  Ends g Fit frames after =
      EndsBy setting l procs casts m measured s places objects store aim H total Done calm blamed g Fit frames after

  abbrev pub Later : ℕ → List (FlatFrame Coercion) → (Outcome ℕ → Outcome ℕ) → Type 0
  Later need frames after = Ends ended (λ x credit. need ≤ credit) frames after

  pub ends_here : Later leaves base (λ o. o)
  ends_here u x k h e =
      (0, λ t done n credit le. (refl, le, returns u x k n t (comes_so (Gives x) e (gives_some x) t done)))

  abbrev pub Turned : ℕ → FlatAfter Coercion → Cost → ℕ → ℕ → ℕ → LowState → Type 0
  Turned i x cost credit n wraps t =
      After merged_meaning setting l procs casts m s (Goes merged_meaning setting l procs casts m s aim i) x cost
      credit n wraps t

  abbrev pub Made : Stage setting l procs casts m s Done → ℕ → Coercion → FlatValue Coercion → Merged ℕ
      → List (FlatFrame Coercion) → Type 0
  Made g need z u x frames =
      MadeBy setting l procs casts m measured s places objects store aim H total Done calm blamed g need z u x frames

  -- every cast
  pub cast_made : (g : Stage setting l procs casts m s Done) (need : ℕ) (z : Coercion)
      → IsNormal (rows_of l.types) z
      → (frames : List (FlatFrame Coercion)) (after : Outcome ℕ → Outcome ℕ) → IsStrict after
      → Later need frames after → (u : FlatValue Coercion) (x : Merged ℕ) → Like setting l procs places objects u x
      → solid_head setting l procs places objects u ≡ H → total ≡ after (cast_value (λ a. H) l.types z x)
      → Made g need z u x frames
  cast_made =
      cast_made_by setting l procs casts m measured s places objects store aim H total Done calm blamed

  -- a cast that waits
  pub ends_cast : (g : Stage setting l procs casts m s Done) (need : ℕ) (z : Coercion)
      → IsNormal (rows_of l.types) z
      → (frames : List (FlatFrame Coercion)) (after : Outcome ℕ → Outcome ℕ) → IsStrict after
      → Later need frames after
      → Ends g (λ x credit. Fits (rows_of l.types) m g.words g.price need z x credit) (CastFrame z ∷ frames)
      (λ o. after (then_outcome o (cast_value (λ a. H) l.types z)))
  ends_cast =
      ends_cast_by setting l procs casts m measured s places objects store aim H total Done calm blamed

  pub ends_cast_later : (need : ℕ) (z : Coercion) → IsNormal (rows_of l.types) z
      → (frames : List (FlatFrame Coercion)) (after : Outcome ℕ → Outcome ℕ) → IsStrict after
      → Later need frames after
      → Later need (CastFrame z ∷ frames) (λ o. after (then_outcome o (cast_value (λ a. H) l.types z)))
  ends_cast_later =
      ends_cast_later_by setting l procs casts m measured s places objects store aim H total Done calm blamed

  -- a cast whose walk is done at this price and for so many words, in one of its turns
  pub cast_answers : (words price : ℕ) (z : Coercion) → IsNormal (rows_of l.types) z → (u : FlatValue Coercion)
      (x : Merged ℕ) → Like setting l procs places objects u x → solid_head setting l procs places objects u ≡ H
      → total ≡ cast_value (λ a. H) l.types z x → (te : LowState) → Walking words price te
      → Fits (rows_of l.types) m words price leaves z x 0 → (n : ℕ)
      → (i : ℕ) × Turned i (flat_cast procs (merging l.types casts) store s.world u z base)
      (cast_cost procs (merging l.types casts) (merged_prices l.types (merging l.types casts) m) (Some z) u) 0 n
      (decision_wraps (decision_at procs (merging l.types casts) (Some z) u)) te
  cast_answers words price z normal u x k h e te ready fits n =
      let r = cast_made (walk words price) leaves z normal base (λ o. o) (λ label. refl) ends_here u x k h e in
      (r.0, r.1 te ready n 0 fits)

  -- a turn at this cost gives the value, and the walk is done in it
  pub returned_now : (words price : ℕ) (cost : Cost) (u : FlatValue Coercion) (x : Merged ℕ)
      → Like setting l procs places objects u x → solid_head setting l procs places objects u ≡ H → total ≡ Gives x
      → (te : LowState) → Walking words price te → words ≤ cost.asks → (credit : ℕ)
      → price + leaves ≤ credit + cost.budget → (n : ℕ)
      → (i : ℕ) × Turned i (On (Return u) base store s.world) cost credit n 0 te
  returned_now words price cost u x k h e te ready few credit cheap n =
      let r = takes_it_by setting l procs casts m measured s places objects store aim H total Done calm blamed
      (walk words price) cost leaves base (λ o. o) ends_here u x k h e in
      (r.0, r.1 te ready n credit 0 (few, cheap))

  -- a turn at this cost gives a value that is cast then, and the walk is done in a turn of that cast
  pub cast_next : (words price : ℕ) (cost : Cost) (z : Coercion) → IsNormal (rows_of l.types) z
      → (u : FlatValue Coercion) (x : Merged ℕ) → Like setting l procs places objects u x
      → solid_head setting l procs places objects u ≡ H → total ≡ cast_value (λ a. H) l.types z x → (te : LowState)
      → Walking words price te → (credit : ℕ)
      → Fits (rows_of l.types) m words price leaves z x (credit + cost.budget) → (n : ℕ)
      → (i : ℕ) × Turned i (On (Return u) (CastFrame z ∷ base) store s.world) cost credit n 0 te
  cast_next words price cost z normal u x k h e te ready credit fits n =
      let r = skips_by setting l procs casts m measured s places objects store aim H total Done calm blamed
      (walk words price) cost (λ y c. Fits (rows_of l.types) m words price leaves z y c) (CastFrame z ∷ base)
      (λ o. then_outcome o (cast_value (λ a. H) l.types z))
      (ends_cast (walk words price) leaves z normal base (λ o. o) (λ label. refl) ends_here) u x k h e in
      (r.0, r.1 te ready n credit 0 fits)

  -- a label is blamed at once
  pub blames : (words price : ℕ) (cost : Cost) (label : ℕ) → total ≡ Blames label → (te : LowState)
      → Walking words price te → words ≤ cost.asks → price ≤ 0 + cost.budget → (n : ℕ)
      → Turned 0 (BlameOf label) cost 0 n 0 te
  blames words price cost label e te ready few cheap n =
      blames_now_by setting l procs casts m measured s places objects store aim H total Done calm blamed
      (walk words price) cost label e te ready n 0 few cheap

  -- parts of tuples, told the parts of what stands at an address
  module _ (parts : ℕ → List (Merged ℕ)) (k : ℕ) where
    abbrev pub PartFits : Stage setting l procs casts m s Done → ℕ → Merged ℕ → ℕ → Type 0
    PartFits g need x credit =
        PartFitsBy setting l procs casts m measured s places objects store aim H total Done calm blamed parts k g
        need x credit

    pub value_part : (g : Stage setting l procs casts m s Done) (need : ℕ) (u : FlatValue Coercion) (x : Merged ℕ)
        → Like setting l procs places objects u x → KnownUnder setting l procs places objects H parts k u x
        → (frames : List (FlatFrame Coercion)) (after : Outcome ℕ → Outcome ℕ) → IsStrict after
        → Later need frames after → total ≡ after (part_value (λ a. H) parts l.types k x)
        → (i : ℕ) × ((t : LowState) → g.Ready t → (n credit : ℕ) → PartFits g need x credit
        → Turned i (flat_proj procs (merging l.types casts) store s.world u (pos k) frames)
        (act_cost procs (merging l.types casts) (merged_prices l.types (merging l.types casts) m)) credit n 0 t)
    value_part =
        value_part_by setting l procs casts m measured s places objects store aim H total Done calm blamed parts k

    -- and while it waits
    pub waits_for_part : (g : Stage setting l procs casts m s Done) (need : ℕ) (u : FlatValue Coercion)
        (x : Merged ℕ) → Like setting l procs places objects u x
        → KnownUnder setting l procs places objects H parts k u x → (frames : List (FlatFrame Coercion))
        (after : Outcome ℕ → Outcome ℕ) → IsStrict after → Later need frames after
        → total ≡ after (part_value (λ a. H) parts l.types k x)
        → (i : ℕ) × ((t : LowState) → g.Ready t → (n credit : ℕ) → PartFits g need x credit
        → Goes merged_meaning setting l procs casts m s aim i (Return u) (ProjFrame (pos k) ∷ frames) store n credit
        t)
    waits_for_part =
        waits_for_part_by setting l procs casts m measured s places objects store aim H total Done calm blamed parts
        k
