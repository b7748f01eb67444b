-- What apply comes to, from a state in which whole objects fill the region.
use Rattle.std.proofs.Common.{◌≡◌, ℕ, ◌+◌, ◌*◌, ◌≤◌, List, [], ◌∷◌, length, Some, refl, sym, ap, ap₂, ◌∙◌, subst}
use Rattle.std.proofs.Common.{suc, arith}
use Rattle.grift_base.specs.Types.{TypeHead}
use Rattle.run_laws.specs.Runs.{Ending, Exhausted}
use Rattle.run_laws.proofs.Public.{reaches_weaken}
use Rattle.machine_words.specs.Halts.{Halt, Lacks, Region}
use Rattle.low_ir.specs.Prices.{slot_price, leaving}
use Rattle.low_ir.specs.Steps.{Locals, no_locals, set_local}
use Rattle.low_ir.specs.Run.{Setting, Waiting, LowState, and_more, bind, low_machine}
use Rattle.coercion_norm.specs.Coercions.{Coercion, Coercions, Id, Fail, Middle, Inject, Project}
use Rattle.coercion_norm.specs.declared.middles.MiddleKind.TheVariants.{Fun as FunKind, Tup as TupKind}
use Rattle.coercion_norm.specs.declared.middles.MiddleKind.TheVariants.{Ref as RefKind, Vec as VecKind}
use Rattle.coercion_norm.specs.MergedMode.{split_parts, function_parts}
use Rattle.coercion_norm.specs.Objects.{Object, Fixed}
use Rattle.coercion_norm.specs.Held.{Layout, There, rows_in}
use Rattle.rt_cast.specs.WholeObjects.{IsSolid}
use Rattle.rt_cast.specs.Costs.{cast_cost}
use Rattle.rt_cast.specs.LightCasts.{cast_words_of, cast_price_of}
use Rattle.rt_cast.specs.ComposeCodes.{cast}
use Rattle.rt_cast.specs.States.{Grows, Fine, Filled, IsReady, OnTheWay, Within, around, heap_of, st}
use Rattle.rt_cast.specs.MergedValues.{Merged, Proxied, Outcome, Stuck, cast_value}
use Rattle.rt_cast.specs.Carried.{CarriedBy, AreCarried, IsLow, ComesTo}
use Rattle.rt_cast.proofs.Public.{arrives, counted}
use Rattle.rt_cast.proofs.Public.{Walk, none_some, End, More, at_most, loads, tail_calls, ReachedIn, grows_not}
use Rattle.rt_cast.proofs.Public.{at_first, walk, apply, ends, no_higher, by_either, low_of, decided_cast}
use Rattle.rt_cast.specs.Procs.{cast_proc}
use Rattle.rt_refs.specs.Arguments.{handed}
use Rattle.rt_refs.specs.CallCodes.{cast_arguments, unwrap_code, call_function, apply_proc}
use Rattle.reference_laws.proofs.Calling.{Has, word_here, word_other, casts_of}
use Rattle.reference_laws.specs.CallLaws.{CastInTurn, ComesToCall, GoesOnTo, Resumes}
use Rattle.reference_laws.proofs.CellSteps.{in_bounds}
use Rattle.reference_laws.proofs.InTurn.{arguments_cast_in_turn}
use Rattle.rt_cast.proofs.Public.{proxy_header}
use Rattle.rt_cast.specs.ComposeCodes.{cast_place}

-- no word is farther, and no procedure is left for more
slot_low : (i : ℕ) → slot_price i ≤ 13
slot_low i = grind arith

leaving_low : (words : ℕ) → leaving words ≤ 13
leaving_low words = grind arith

pub found_in : (wv wa wc address : ℕ) (ws : List ℕ) → length ws ≤ 6
    → Has (set_local 10 address (set_local 9 wc (set_local 8 wa (bind 0 (handed wv ws) no_locals)))) 0 ws
found_in wv wa wc address [] le = tt
found_in wv wa wc address (a ∷ []) le = (refl, tt)
found_in wv wa wc address (a ∷ b ∷ []) le = (refl, (refl, tt))
found_in wv wa wc address (a ∷ b ∷ c ∷ []) le = (refl, (refl, (refl, tt)))
found_in wv wa wc address (a ∷ b ∷ c ∷ d ∷ []) le = (refl, (refl, (refl, (refl, tt))))
found_in wv wa wc address (a ∷ b ∷ c ∷ d ∷ e ∷ []) le = (refl, (refl, (refl, (refl, (refl, tt)))))
found_in wv wa wc address (a ∷ b ∷ c ∷ d ∷ e ∷ f ∷ []) le = (refl, (refl, (refl, (refl, (refl, (refl, tt))))))
found_in wv wa wc address (a ∷ b ∷ c ∷ d ∷ e ∷ f ∷ g ∷ ws) le = absurd (omega (arith, le))

pub as_long : (l : Layout) {A : Type 0} (IsHeld : List Object → A → ℕ → Type 0) (objects : List Object)
    (us : List (Merged A)) (ws : List ℕ) → AreCarried l IsHeld objects us ws → length ws ≡ length us
as_long l IsHeld objects [] [] h = refl
as_long l IsHeld objects [] (w ∷ ws) h = absurd h
as_long l IsHeld objects (u ∷ us) [] h = absurd h
as_long l IsHeld objects (u ∷ us) (w ∷ ws) h = ap suc (as_long l IsHeld objects us ws h.1)

module _ {V : Type 0} (reading : Halt → Ending V) (setting : Setting) (l : Layout) (first : ℕ) (s : LowState)
    (exhausts : reading (Lacks Region) ≡ Exhausted) (ready : IsReady setting l first) {A : Type 0}
    (heads : ℕ → A → TypeHead)
    (IsHeld : List Object → A → ℕ → Type 0)
    (still : (old new : List Object) → Grows old new → (a : A) (w : ℕ) → IsHeld old a w → IsHeld new a w)
    (is_solid : (objects : List Object) (a : A) (w : ℕ) → IsHeld objects a w → IsSolid l objects w) where
  -- the function's code address stands behind its header
  abbrev pub HasAddress : List Object → A → ℕ → Type 0
  HasAddress objects f address =
      (wa : ℕ) → IsHeld objects f wa
      → (head : ℕ) × (rest : List ℕ) × There l objects wa (Fixed head (address ∷ rest))

  function_called : l.tallest ≤ 65534 → (objects : List Object) → Filled setting l objects (heap_of s) → (f : A)
      (parts : Coercions) (ds : List Coercion) (e : Coercion) → split_parts parts ≡ Some (ds, e)
      → (us : List (Merged A)) (wv : ℕ) (ws : List ℕ) → CarriedBy l IsHeld objects (Proxied f (Middle FunKind parts)) wv
      → AreCarried l IsHeld objects us ws → length us ≤ 6 → length ds ≡ length us → (address : ℕ)
      → HasAddress objects f address
      → ComesToCall reading setting l first s IsHeld objects heads (apply_proc (cast first)) (handed wv ws) f address e
      ds us
  function_called low objects filled f parts ds e split us wv ws hv hu few many address closure =
      let came = counted w z (omega arith) (omega arith) in (
        came.0,
        came.1,
        reaches_weaken (low_machine reading setting) (OnTheWay setting l t0 deep 0) (λ x. Within t0 deep 0 x × Found x)
            (OnTheWay setting l t0 deep 0) (λ x. Within t0 deep 0 x × InTurn x) (λ x w. w)
            (λ x q. (q.0, subst InTurn (sym q.1) in_turn)) came.0 t0 came.2,
        came.3,
      )
    where
      deep : ℕ
      deep = 4 * l.tallest + 7

      InTurn : LowState → Type 0
      InTurn x = CastInTurn l setting first s IsHeld objects reading heads f address e 0 ds us [] x

      start : Locals
      start = bind 0 (handed wv ws) no_locals

      locals1 : Locals
      locals1 = set_local 10 address (set_local 9 hv.1 (set_local 8 hv.0 start))

      t0 : LowState
      t0 = st (around s) 13 start (unwrap_code (cast first) (call_function (cast first))) [] s.waiting (heap_of s)

      -- the function, the proxy's coercion and the code address are found
      t1 : LowState
      t1 = st (around s) 13 locals1 (cast_arguments (cast first) (call_function (cast first)) 6 0) [] s.waiting
          (heap_of s)

      Found : LowState → Type 0
      Found x = x ≡ t1

      w : Walk V
      w = walk reading setting l first t0 exhausts ready Found deep 0

      fine : Fine setting l (around s) objects (heap_of s)
      fine = at_first reading setting l first s exhausts ready objects filled

      long : length ws ≡ length us
      long = as_long l IsHeld objects us ws hu

      z : ReachedIn w (More 3 0 0 9 End) t0
      z =
          let c = closure hv.0 hv.3 in
          let last : ReachedIn w End t1 = arrives w (λ room asked. (in_bounds room asked, refl)) in
          at_most w
          (loads w objects fine wv proxy_header (hv.0 ∷ hv.1 ∷ []) 1 hv.0 refl hv.2 refl refl refl
          (loads w objects fine wv proxy_header (hv.0 ∷ hv.1 ∷ []) 2 hv.1 refl hv.2 refl refl refl
          (loads w objects fine hv.0 c.0 (address ∷ c.1) 1 address refl c.2 refl refl refl last)))
          (omega arith, omega arith, omega arith, omega arith)

      in_turn : InTurn t1
      in_turn =
          arguments_cast_in_turn reading setting l first s exhausts ready heads IsHeld still is_solid low objects f
          address e parts hv.5 (length ws) hv.0 hv.1 (omega (arith, few, long)) 6 0 refl ds us ws
          (omega (arith, long)) (casts_of parts ds e split) [] [] refl objects (heap_of s) fine (grows_not objects)
          locals1 [] (record { number_is = refl; function_is = refl; coercion_is = refl; address_is = refl }) tt
          (found_in wv hv.0 hv.1 address ws (omega (arith, few, long))) tt hu hv.4 hv.3

  -- a function with a proxy: its arguments are cast, and it is about to be entered, or a label is blamed
  pub calls_through_proxies : l.tallest ≤ 65534 → (objects : List Object) → Filled setting l objects (heap_of s)
      → (f : A)
      (c : Coercion) (ds : List Coercion) (e : Coercion) → function_parts c ≡ Some (ds, e)
      → (us : List (Merged A)) (wv : ℕ) (ws : List ℕ) → CarriedBy l IsHeld objects (Proxied f c) wv
      → AreCarried l IsHeld objects us ws → length us ≤ 6 → length ds ≡ length us → (address : ℕ)
      → HasAddress objects f address
      → ComesToCall reading setting l first s IsHeld objects heads (apply_proc (cast first)) (handed wv ws) f address e
      ds us
  calls_through_proxies low objects filled f Id ds e split = none_some split
  calls_through_proxies low objects filled f (Fail label) ds e split = none_some split
  calls_through_proxies low objects filled f (Inject g kept) ds e split = none_some split
  calls_through_proxies low objects filled f (Project wanted label i) ds e split = none_some split
  calls_through_proxies low objects filled f (Middle TupKind parts) ds e split = none_some split
  calls_through_proxies low objects filled f (Middle RefKind parts) ds e split = none_some split
  calls_through_proxies low objects filled f (Middle VecKind parts) ds e split = none_some split
  calls_through_proxies low objects filled f (Middle FunKind parts) ds e split = function_called low objects filled f
      parts ds e
      split

  -- the answer of the function is in its place, and is cast
  pub answers_cast : l.tallest ≤ 65534 → (objects : List Object) → Filled setting l objects (heap_of s)
      → (head : A → TypeHead) (w : Waiting) (c : Coercion) → Resumes l first objects w c → (u : Merged A) (wv : ℕ)
      → CarriedBy l IsHeld objects u wv → (r : Outcome A) → cast_value head l.types c u ≡ r → (r ≡ Stuck → ⊥)
      → GoesOnTo reading setting l s IsHeld objects w wv r (cast_cost l.width l.tallest + 1) (4 * l.tallest + 6)
      (cast_words_of l c u) (cast_price_of l c u + 70)
  answers_cast low objects filled head w c resumes u wv hv r e some =
      counted v begun (omega arith) (omega arith)
    where
      most : ℕ
      most = cast_cost l.width l.tallest + 1

      v : Walk V
      v = walk reading setting l first s exhausts ready (ComesTo l setting s IsHeld objects r) (4 * l.tallest + 6)
          (cast_words_of l c u)

      fine : Fine setting l (around s) objects (heap_of s)
      fine = at_first reading setting l first s exhausts ready objects filled

      locals : Locals
      locals = set_local w.answer wv w.rest.locals

      lc : IsLow l c
      lc = resumes.low

      begun : ReachedIn v (More (cast_cost l.width l.tallest + 1) (4 * l.tallest + 6)
          (cast_words_of l c u) (cast_price_of l c u + 70) End)
          (st (around s) w.rest.count (set_local w.answer wv w.rest.locals) w.rest.code w.rest.rests s.waiting
          (heap_of s))
      begun =
          let below = no_higher v low A IsHeld still is_solid c resumes.low in
          let is = decided_cast l ready.types head c lc.normal below u (low_of l ready.types head IsHeld
          objects u wv hv)
          r some e in
          subst (λ code. ReachedIn v (More (cast_cost l.width l.tallest + 1) (4 * l.tallest + 6)
          (cast_words_of l c u) (cast_price_of l c u + 70) End)
          (st (around s) w.rest.count (set_local w.answer wv w.rest.locals) code w.rest.rests s.waiting (heap_of s)))
          (sym resumes.code)
          (at_most v
          (tail_calls v objects fine (wv ∷ resumes.word ∷ []) (cast_proc first)
          (ap₂ and_more (word_here w.answer wv w.rest.locals) (ap (λ o. and_more o (Some []))
          (word_other w.answer wv w.rest.locals resumes.place resumes.other ∙ resumes.is)))
          (v.stands cast_place _ refl) refl
          (by_either v low A IsHeld still is_solid c lc.normal below u End objects (heap_of s) fine s.waiting wv
          resumes.word hv resumes.held
          (ends reading setting l first s exhausts ready head IsHeld still is_solid low objects r some
          (4 * l.tallest + 6) (cast_words_of l c u) (apply (rows_in l) l.tallest c u) is))) (
            omega arith,
            omega arith,
            omega arith,
            let x = slot_low w.answer in let y = slot_low resumes.place in let z =
                leaving_low w.rest.count in omega (arith, x, y, z),
          ))
