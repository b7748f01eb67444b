-- Calls of functions with proxies: the arguments are cast one after another, and then the function is called. Each cast
-- is a stretch of its own, so that it is known at which argument the run is.
use Rattle.std.proofs.Common.{◌≡◌, ◌⊎◌, inl, inr, ℕ, zero, suc, ◌+◌, ◌*◌, ◌<◌, ◌≤◌, List, [], ◌∷◌, ◌++◌, length, Some}
use Rattle.std.specs.Prelude.{slice_get}
use Rattle.run_laws.proofs.Public.{reaches_weaken}
use Rattle.std.proofs.Common.{refl, sym, ap, ap₂, ◌∙◌, subst, arith, le_refl}
use Rattle.grift_base.specs.Types.{TypeHead}
use Rattle.run_laws.specs.Runs.{Ending, Exhausted}
use Rattle.machine_words.specs.Halts.{Halt, Lacks, Region}
use Rattle.low_ir.specs.declared.code.LowSource.TheVariants.{Word}
use Rattle.low_ir.specs.Procedures.{Code, CallAt, Done, TailCall}
use Rattle.low_ir.specs.Steps.{Locals, set_local}
use Rattle.low_ir.specs.Run.{Setting, LowState, words_of, and_more, low_machine}
use Rattle.coercion_norm.specs.Coercions.{Coercion, Coercions, Middle}
use Rattle.coercion_norm.specs.declared.middles.MiddleKind.TheVariants.{Fun as FunKind}
use Rattle.coercion_norm.specs.Heights.{coercion_height}
use Rattle.coercion_norm.specs.MergedMode.{part_at}
use Rattle.coercion_norm.specs.Objects.{Object}
use Rattle.coercion_norm.specs.Held.{Layout, Held, height_in}
use Rattle.coercion_norm.specs.ObjectsOfRows.{header}
use Rattle.rt_cast.specs.WholeObjects.{IsSolid}
use Rattle.rt_cast.specs.Costs.{cast_cost}
use Rattle.rt_cast.specs.LightCasts.{cast_words_of, cast_price_of}
use Rattle.rt_cast.specs.ComposeCodes.{cast}
use Rattle.rt_cast.specs.Procs.{cast_proc}
use Rattle.rt_cast.specs.States.{Grows, Heap, Fine, OnTheWay, Within, IsReady, around, heap_of, st}
use Rattle.rt_cast.specs.MergedValues.{Merged, Outcome, Stuck, Gives, Blames, cast_value}
use Rattle.rt_cast.specs.Carried.{CarriedBy, AreCarried, IsLow, BlamesAt}
use Rattle.rt_cast.proofs.Public.{arrives, counted, blames_at}
use Rattle.rt_cast.proofs.Public.{Walk, walk, eq_true, eq_false, lt_true, End, More, at_most, loads, if_true, if_false}
use Rattle.rt_cast.proofs.Public.{calls, ReachedIn, grows_on, held_still, part_held}
use Rattle.rt_refs.specs.CallCodes.{argument_words, call_function, cast_arguments}
use Rattle.reference_laws.proofs.Calling.{Casts, Found, Goes, Has, all_carried_still, carried_more, cast_behind}
use Rattle.reference_laws.proofs.Calling.{found_kept}
use Rattle.reference_laws.proofs.Calling.{has_above, has_below, has_more, has_words, longer, number_near}
use Rattle.reference_laws.proofs.Calling.{part_low}
use Rattle.reference_laws.proofs.Calling.{small_number, word_here, word_near, word_other}
use Rattle.reference_laws.proofs.CellSteps.{in_bounds}
use Rattle.reference_laws.specs.CallLaws.{CallsAt, AtArgument, CastInTurn, Stretch, where_comes}
use Rattle.rt_cast.specs.ComposeCodes.{cast_place}

-- ---- later states

-- nothing that was there has changed since, and the same procedures wait
pub record Since (t u : LowState) : Type 0 where
  pub beyond : t.alloc ≤ u.alloc
  pub kept : (i : ℕ) → i < t.alloc → u.memory i ≡ t.memory i
  pub same : u.world ≡ t.world
  pub waits : u.waiting ≡ t.waiting

module _ (setting : Setting) (l : Layout) where
  pub fine_since : (t u : LowState) → Since t u → (objects : List Object) (h : Heap)
      → Fine setting l (around u) objects h → Fine setting l (around t) objects h
  fine_since t u since objects h fine = record {
    filled = fine.filled;
    beyond = let a = since.beyond in let b = fine.beyond in omega (arith, a, b);
    kept = λ i lt. fine.kept i (let a = since.beyond in omega (arith, a, lt)) ∙ since.kept i lt;
  }

-- ---- the arguments

module _ {V : Type 0} (reading : Halt → Ending V) (setting : Setting) (l : Layout) (first : ℕ) (s : LowState)
    (exhausts : reading (Lacks Region) ≡ Exhausted) (ready : IsReady setting l first) {A : Type 0}
    (heads : ℕ → A → TypeHead) (IsHeld : List Object → A → ℕ → Type 0)
    (still : (old new : List Object) → Grows old new → (a : A) (w : ℕ) → IsHeld old a w → IsHeld new a w)
    (is_solid : (objects : List Object) (a : A) (w : ℕ) → IsHeld objects a w → IsSolid l objects w)
    (low : l.tallest ≤ 65534) where
  abbrev at : Locals → Code → List Code → Heap → LowState
  at locals code rests h = st (around s) 13 locals code rests s.waiting h

  abbrev Fi : List Object → Heap → Type 0
  Fi = Fine setting l (around s)

  abbrev deep : ℕ
  deep = 4 * l.tallest + 7

  -- the walk from a state to where this holds
  abbrev from : LowState → (LowState → Type 0) → ℕ → Walk V
  from t Z words = walk reading setting l first t exhausts ready Z deep words

  -- what stands since s stands since a later state
  from_here : (t : LowState) (objects : List Object) → Fi objects (heap_of t)
      → Fine setting l (around t) objects (heap_of t)
  from_here t objects fine = record { filled = fine.filled; beyond = le_refl t.alloc; kept = λ i lt. refl }

  since_s : (locals : Locals) (code : Code) (rests : List Code) (h : Heap) (objects : List Object) → Fi objects h
      → Since s (at locals code rests h)
  since_s locals code rests h objects fine =
      record { beyond = fine.beyond; kept = fine.kept; same = refl; waits = refl }

  module _ (before : List Object) (f : A) (address : ℕ) (result : Coercion) (parts : Coercions)
      (whole : IsLow l (Middle FunKind parts)) (number function coercion : ℕ) (few : number ≤ 6)
    where
      abbrev Calls : List (Merged A) → LowState → Type 0
      Calls values t = CallsAt l setting first s IsHeld before f address values result t

      abbrev pub InTurn : ℕ → List Coercion → List (Merged A) → List (Merged A) → LowState → Type 0
      InTurn k ds us done t =
          CastInTurn l setting first s IsHeld before reading heads f address result k ds us done t

      as_many : (objects : List Object) (us : List (Merged A)) (ws : List ℕ) → AreCarried l IsHeld objects us ws
          → length ws ≡ length us
      as_many objects [] [] h = refl
      as_many objects [] (w ∷ ws) h = absurd h
      as_many objects (u ∷ us) [] h = absurd h
      as_many objects (u ∷ us) (w ∷ ws) h = ap suc (as_many objects us ws h.1)

      abbrev asking : ℕ → ℕ → Code
      asking j k = cast_arguments (cast first) (call_function (cast first)) j k

      -- a label is blamed
      blamed : (t u : LowState) (objects : List Object) (label : ℕ) → Since s t
          → BlamesAt l setting t IsHeld objects label u → BlamesAt l setting s IsHeld before label u
      blamed t u objects label since b = record {
        new = b.new;
        fine = fine_since setting l s t since b.new (heap_of u) b.fine;
        a = b.a;
        b = b.b;
        d = b.d;
        e = b.e;
        rest = b.rest;
        code = b.code;
        is = b.is;
        other = b.other;
        first = b.first;
        second = b.second;
        same = b.same ∙ since.same;
      }

      -- all arguments are cast: the function is called
      called : (t : LowState) (pre : List (Merged A)) (done : List ℕ) → length done ≡ number
          → (objects : List Object) (h : Heap) → Fi objects h → Fine setting l (around t) objects h
          → Grows before objects → t.world ≡ s.world → (locals : Locals) (rests : List Code)
          → Found locals number function coercion address → Has locals 0 done → AreCarried l IsHeld objects pre done
          → Held l objects (Middle FunKind parts) coercion → IsHeld objects f function
          → part_at parts number ≡ Some result
          → ReachedIn (from t (Calls pre) 0) (More 1 0 0 3 End)
          (st (around t) 13 locals (call_function (cast first) number) rests s.waiting h)
      called t pre done long objects h fine here grows same locals rests found has hp hc hf at_end =
          let w = from t (Calls pre) 0 in
          let p = part_held l objects parts hc.0 number result hc.2 at_end in
          let head9 = header 9 (coercion_height (height_in l) (Middle FunKind parts)) (length hc.0) in
          let locals2 = set_local 11 p.0 locals in
          let last : ReachedIn w End (st (around t) 13 locals2 (CallAt 12 (Word 10)
          (Word 8 ∷ argument_words number 0) (TailCall (cast first) (Word 12 ∷ Word 11 ∷ []))) rests s.waiting h) =
          arrives w (λ room asked. (
            in_bounds room asked,
            record {
              new = objects;
              grows = grows;
              fine = fine;
              own = function;
              words = done;
              function = hf;
              arguments = hp;
              d = 12;
              at = Word 10;
              sources = Word 8 ∷ argument_words number 0;
              rest = TailCall (cast first) (Word 12 ∷ Word 11 ∷ []);
              is = refl;
              enters = found.address_is;
              handed =
                  ap₂ and_more found.function_is
                  (subst (λ n. words_of locals2 (argument_words n 0) ≡ Some done) long
                  (has_words locals2 0 done
                  (has_below 11 p.0 locals 0 done (omega (arith, long, few)) has)));
              resumes = record {
                place = 11;
                word = p.0;
                code = refl;
                other = refl;
                is = refl;
                held = p.2;
                low = part_low w low A IsHeld still is_solid FunKind parts number result whole at_end;
                room = omega arith;
                small = omega arith;
              };
              waits = refl;
              same = same;
            },
          )) in
          at_most w
          (loads w objects here coercion head9 hc.0 (suc number) p.0 found.coercion_is hc.1 p.1 (omega arith) refl last)
          (omega arith, omega arith, omega arith, omega arith)

      -- from where all are cast
      ends : (t : LowState) (pre : List (Merged A)) → t.waiting ≡ s.waiting → t.active.count ≤ 24
          → ReachedIn (from t (Calls pre) 0) (More 2 0 0 17 End) t → Stretch reading setting l t 2 deep 0 17 (Calls pre)
      ends t pre waits small z = counted (from t (Calls pre) 0) z (omega arith) (omega arith)

      -- where so many are cast, and the others are not
      abbrev pub top : Locals → List Code → ℕ → ℕ → Heap → LowState
      top locals rests j k h = at locals (asking j k) rests h

      -- the cast of an argument has given a value, and the procedure goes on behind it
      record IsCast (t : LowState) (objects : List Object) (locals : Locals) (rests : List Code) (j k : ℕ)
          (o : Outcome A) (u : LowState) : Type 0 where
        pub value : Merged A
        pub gives : o ≡ Gives value
        pub new : List Object
        pub grows : Grows objects new
        pub fine : Fine setting l (around t) new (heap_of u)
        pub word : ℕ
        pub carried : CarriedBy l IsHeld new value word
        pub is : u ≡ top (set_local (suc k) word locals) (Done ∷ rests) j (suc k) (heap_of u)

      -- or it has blamed
      abbrev OneCast : LowState → List Object → Locals → List Code → ℕ → ℕ → Outcome A → LowState → Type 0
      OneCast t objects locals rests j k o u =
          IsCast t objects locals rests j k o u
          ⊎ ((label : ℕ) × (o ≡ Blames label) × BlamesAt l setting t IsHeld objects label u)

      one_cast : (objects : List Object) (h : Heap) → Fi objects h → (locals : Locals) (rests : List Code) (j k : ℕ)
          → k < 6 → (number ≡ k → ⊥) → (d : Coercion) → IsLow l d → (v : Merged A) (word part : ℕ)
          → Found locals number function coercion address → locals (suc k) ≡ Some word → CarriedBy l IsHeld objects v
          word
          → (hc : Held l objects (Middle FunKind parts) coercion) → slice_get hc.0 k ≡ Some part → Held l objects d part
          → (cast_value (heads k) l.types d v ≡ Stuck → ⊥)
          → Stretch reading setting l (top locals rests (suc j) k h) (cast_cost l.width l.tallest + 4) deep
          (cast_words_of l d v) (52 + cast_price_of l d v)
          (OneCast (top locals rests (suc j) k h) objects (set_local 11 part locals) rests j k
          (cast_value (heads k) l.types d v))
      one_cast objects h fine locals rests j k small other d ld v word part found next hv hc at_k hd some =
          counted w z (omega arith) (omega arith)
        where
          t : LowState
          t = top locals rests (suc j) k h

          here : Fine setting l (around t) objects h
          here = from_here t objects fine

          asks : ℕ
          asks = cast_words_of l d v

          o : Outcome A
          o = cast_value (heads k) l.types d v

          l11 : Locals
          l11 = set_local 11 part locals

          w : Walk V
          w = from t (OneCast t objects l11 rests j k o) asks

          values : (y : Merged A) → o ≡ Gives y → (new : List Object) (h' : Heap) (x : ℕ) → Grows objects new
              → Fine setting l (around t) new h' → CarriedBy l IsHeld new y x
              → ReachedIn w End (top (set_local (suc k) x l11) (Done ∷ rests) j (suc k) h')
          values y e new h' x grows fine' hx = arrives w (λ room asked. (
            in_bounds room asked,
            inl (record {
              value = y;
              gives = e;
              new = new;
              grows = grows;
              fine = fine';
              word = x;
              carried = hx;
              is = refl;
            }),
          ))

          blames : (label : ℕ) → o ≡ Blames label
              → Goes w low A IsHeld still is_solid End objects s.waiting (Blames label)
          blames label e =
              λ new h' count locals2 rests2 waiting a b d2 e2 rest grows fine' ea eb ld2 le2.
              arrives w (λ room asked. (
                in_bounds room asked,
                inr (
                  label,
                  e,
                  blames_at setting l t IsHeld objects label new h' count locals2 rests2 waiting a b d2 e2 rest
                      fine' ea eb ld2 le2,
                ),
              ))

          head9 : ℕ
          head9 = header 9 (coercion_height (height_in l) (Middle FunKind parts)) (length hc.0)

          z : ReachedIn w (More (cast_cost l.width l.tallest + 4) deep asks (52 + cast_price_of l d v) End) t
          z =
              at_most w
              (if_false w objects here number k found.number_is (ap Some (small_number k (omega (arith, small))))
              (eq_false number k other)
              (loads w objects here coercion head9 hc.0 (suc k) part found.coercion_is hc.1 at_k (omega arith) refl
              (calls w objects here (word ∷ part ∷ []) (cast_proc first)
              (ap₂ and_more (word_other 11 part locals (suc k) (eq_false (suc k) 11 (λ e. omega (arith, e, small))) ∙
              next)
              (ap (λ x. and_more x (Some [])) (word_here 11 part locals))) (w.stands cast_place _ refl) refl
              (cast_behind w low A IsHeld still is_solid (heads k) End End objects h here s.waiting
              (record { count = 13; locals = l11; code = asking j (suc k); rests = Done ∷ rests }) (suc k)
              (lt_true (suc k) 13 (omega (arith, small))) d ld v word part hv hd o refl some values blames)))) (
                omega arith,
                omega arith,
                omega arith,
                let n = number_near k (omega (arith, small)) in let x = word_near (suc k) (omega (arith, small)) in
                    omega (arith, n, x),
              )

      -- behind it the procedure goes on so, or a label is blamed
      one_then : (t : LowState) (objects : List Object) (locals : Locals) (rests : List Code) (j k : ℕ) (o : Outcome A)
          → Since s t → (asks price : ℕ) (Later : Merged A → LowState → Type 0)
          → Stretch reading setting l t (cast_cost l.width l.tallest + 4) deep asks price
          (OneCast t objects locals rests j k o)
          → ((x : LowState) (c : IsCast t objects locals rests j k o x)
          → Later c.value (top (set_local (suc k) c.word locals) (Done ∷ rests) j (suc k) (heap_of x)))
          → Stretch reading setting l t (cast_cost l.width l.tallest + 4) deep asks price
          (λ x. where_comes o (λ v. Later v x) (λ label. BlamesAt l setting s IsHeld before label x))
      one_then t objects locals rests j k o since asks price Later z again = (
        z.0,
        z.1,
        reaches_weaken (low_machine reading setting) (OnTheWay setting l t deep asks)
            (λ x. Within t deep asks x × OneCast t objects locals rests j k o x) (OnTheWay setting l t deep asks)
            (λ x. Within t deep asks x
            × where_comes o (λ v. Later v x) (λ label. BlamesAt l setting s IsHeld before label x)) (λ x w. w)
            (λ x q. (q.0, goes_on x q.1)) z.0 t z.2,
        z.3,
      )
        where
          goes_on : (x : LowState) → OneCast t objects locals rests j k o x
              → where_comes o (λ v. Later v x) (λ label. BlamesAt l setting s IsHeld before label x)
          goes_on x (inl c) =
              subst (λ y. where_comes y (λ v. Later v x) (λ label. BlamesAt l setting s IsHeld before label x))
              (sym c.gives) (subst (Later c.value) (sym c.is) (again x c))
          goes_on x (inr b) =
              subst (λ y. where_comes y (λ v. Later v x) (λ label. BlamesAt l setting s IsHeld before label x))
              (sym b.1) (blamed t x objects b.0 since b.2)

      here_at : (locals : Locals) (rests : List Code) (j k : ℕ) (objects : List Object) (h : Heap) → Fi objects h
          → AtArgument l setting first s IsHeld before (top locals rests j k h)
      here_at locals rests j k objects h fine = record { new = objects; fine = fine; waits = refl; same = refl }

      -- the arguments from one on are cast, and the function is called
      pub arguments_cast_in_turn : (j k : ℕ) → k + j ≡ 6 → (ds : List Coercion) (us : List (Merged A)) (ws : List ℕ)
          → k + length us ≡ number → Casts parts k ds result → (pre : List (Merged A)) (done : List ℕ) → length done ≡ k
          → (objects : List Object) (h : Heap) → Fi objects h → Grows before objects → (locals : Locals)
          (rests : List Code) → Found locals number function coercion address → Has locals 0 done → Has locals k ws
          → AreCarried l IsHeld objects pre done → AreCarried l IsHeld objects us ws
          → Held l objects (Middle FunKind parts) coercion → IsHeld objects f function
          → InTurn k ds us pre (top locals rests j k h)
      arguments_cast_in_turn zero k sum (d ∷ ds) [] ws many casts pre done long objects h fine grows locals rests found
          has next hp hu hc hf = tt
      arguments_cast_in_turn (suc j) k sum (d ∷ ds) [] ws many casts pre done long objects h fine grows locals rests
          found has next hp hu hc hf = tt
      arguments_cast_in_turn zero k sum [] (u ∷ us) ws many casts pre done long objects h fine grows locals rests found
          has next hp hu hc hf = tt
      arguments_cast_in_turn (suc j) k sum [] (u ∷ us) ws many casts pre done long objects h fine grows locals rests
          found has next hp hu hc hf = tt
      arguments_cast_in_turn zero k sum (d ∷ ds) (u ∷ us) ws many casts pre done long objects h fine grows locals rests
          found has next hp hu hc hf = absurd (omega (arith, sum, many, few))
      arguments_cast_in_turn zero k sum [] [] ws many casts pre done long objects h fine grows locals rests found has
          next hp hu hc hf =
          let same : number ≡ k = omega (arith, many) in
          let t : LowState = top locals rests zero k h in
          let w = from t (Calls pre) 0 in (
            here_at locals rests zero k objects h fine,
            ends t pre refl (omega arith)
                (at_most w
                (subst (λ m. ReachedIn w (More 1 0 0 3 End) (at locals (call_function (cast first) m) rests h)) same
                (called t pre done (long ∙ sym same) objects h fine (from_here t objects fine) grows refl locals rests
                found has hp hc hf (subst (λ m. part_at parts m ≡ Some result) (sym same) casts)))
                (omega arith, omega arith, omega arith, omega arith)),
          )
      arguments_cast_in_turn (suc j) k sum [] [] ws many casts pre done long objects h fine grows locals rests found has
          next hp hu hc hf =
          let same : number ≡ k = omega (arith, many) in
          let t : LowState = top locals rests (suc j) k h in
          let w = from t (Calls pre) 0 in (
            here_at locals rests (suc j) k objects h fine,
            ends t pre refl (omega arith)
                (at_most w
                (if_true w objects (from_here t objects fine) number k found.number_is
                (ap Some (small_number k (omega (arith, sum)))) (eq_true number k same)
                (subst (λ m. ReachedIn w (More 1 0 0 3 End) (at locals (call_function (cast first) m) (Done ∷ rests) h))
                same
                (called t pre done (long ∙ sym same) objects h fine (from_here t objects fine) grows refl locals
                (Done ∷ rests) found has hp hc hf (subst (λ m. part_at parts m ≡ Some result) (sym same) casts)))) (
                  omega arith,
                  omega arith,
                  omega arith,
                  let n = number_near k (omega (arith, sum)) in omega (
                    arith,
                    n,
                  ),
                )),
          )
      arguments_cast_in_turn (suc j) k sum (d ∷ ds) (u ∷ us) [] many casts pre done long objects h fine grows locals
          rests found has next hp hu hc hf = absurd hu
      arguments_cast_in_turn (suc j) k sum (d ∷ ds) (u ∷ us) (word ∷ ws) many casts pre done long objects h fine grows
          locals rests found has next hp hu hc hf =
          let t : LowState = top locals rests (suc j) k h in
          let here = from t (Calls pre) 0 in
          let small : k < 6 = omega (arith, sum) in
          let p = part_held l objects parts hc.0 k d hc.2 casts.0 in
          let l11 : Locals = set_local 11 p.0 locals in
          let found11 = found_kept 11 p.0 locals number function coercion address refl refl refl refl found in
          let o : Outcome A = cast_value (heads k) l.types d u in
          let since : Since s t = since_s locals (asking (suc j) k) rests h objects fine in
          let ld = part_low here low A IsHeld still is_solid FunKind parts k d whole casts.0 in (
            here_at locals rests (suc j) k objects h fine,
            λ some.
                one_then t objects l11 rests j k o since (cast_words_of l d u) (52 + cast_price_of l d u)
                (λ v x. InTurn (suc k) ds us (pre ++ v ∷ []) x)
                (one_cast objects h fine locals rests j k small (λ e. omega (arith, e, many)) d ld u word p.0 found
                next.0
                hu.0 hc p.1 p.2 some)
                (λ x c.
                let l1 : Locals = set_local (suc k) c.word l11 in
                let le : 0 + length done < suc k = omega (arith, long) in
                let count : 0 + length done ≡ k = omega (arith, long) in
                arguments_cast_in_turn j (suc k) (omega (arith, sum)) ds us ws (omega (arith, many)) casts.1
                (pre ++ c.value ∷ []) (done ++ c.word ∷ []) (longer done c.word ∙ ap suc long) c.new
                (heap_of x)
                (fine_since setting l s t since c.new (heap_of x) c.fine) (grows_on before objects c.new grows c.grows)
                l1
                (Done ∷ rests)
                (found_kept (suc k) c.word l11 number function coercion address
                (eq_false 7 (suc k) (λ q. omega (arith, q, small))) (eq_false 8 (suc k) (λ q. omega (arith, q, small)))
                (eq_false 9 (suc k) (λ q. omega (arith, q, small))) (eq_false 10 (suc k) (λ q. omega (arith, q, small)))
                found11)
                (has_more l1 0 done c.word (has_below (suc k) c.word l11 0 done le (has_below 11 p.0 locals 0 done
                (omega (arith, long, small)) has))
                (subst (λ m. l1 (suc m) ≡ Some c.word) (sym count) (word_here (suc k) c.word l11)))
                (has_above (suc k) c.word l11 (suc k) ws (le_refl (suc k)) (has_below 11 p.0 locals (suc k) ws
                (let q = as_many objects us ws hu.1 in omega (arith, q, many, few)) next.1))
                (carried_more l IsHeld c.new pre done c.value c.word
                (all_carried_still here low A IsHeld still is_solid objects c.new c.grows pre done hp) c.carried)
                (all_carried_still here low A IsHeld still is_solid objects c.new c.grows us ws hu.1)
                (held_still l objects c.new c.grows (Middle FunKind parts) coercion hc)
                (still objects c.new c.grows f function hf)),
          )
