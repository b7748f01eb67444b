-- What cast comes to, from a state in which whole objects fill the region.
use Rattle.std.proofs.Common.{true, ◌≡◌, ℕ, ◌+◌, ◌*◌, ◌<◌, ◌≤◌, List, [], ◌∷◌, Some, refl, sym, subst}
use Rattle.std.proofs.Common.{arith}
use Rattle.grift_base.specs.Types.{TypeHead}
use Rattle.run_laws.specs.Runs.{Ending, Exhausted}
use Rattle.machine_words.specs.Halts.{Halt, Lacks, Region}
use Rattle.low_ir.specs.declared.code.LowSource.{LowSource}
use Rattle.low_ir.specs.Procedures.{Code, Return, Environment}
use Rattle.low_ir.specs.Steps.{Locals}
use Rattle.low_ir.specs.Prices.{CostsAtMost}
use Rattle.low_ir.specs.Run.{Setting, Waiting, LowState, word_of, low_machine}
use Rattle.run_laws.specs.Machines.{Reaches}
use Rattle.low_ir.specs.Frames.{waiting_room, stack_room}
use Rattle.coercion_norm.specs.Coercions.{Coercion}
use Rattle.coercion_norm.proofs.Public.{bound_from_height}
use Rattle.rt_cast.specs.Costs.{cast_cost}
use Rattle.rt_cast.specs.Costs.{cast_words, cast_price}
use Rattle.coercion_norm.specs.Objects.{Object}
use Rattle.coercion_norm.specs.Held.{Layout, Held, rows_in, height_in}
use Rattle.rt_cast.specs.WholeObjects.{IsSolid}
use Rattle.rt_cast.specs.Procs.{cast_proc}
use Rattle.rt_cast.specs.States.{Heap, Fine, Grows, Filled, OnTheWay, Within, IsReady, around, heap_of, st}
use Rattle.rt_cast.specs.MergedValues.{Merged, Outcome, Stuck, Gives, Blames, cast_value}
use Rattle.rt_cast.specs.Carried.{IsLow, CarriedBy, Carries, IsVery, BlamesAt, ComesTo, ComesToOutcome}
use Rattle.rt_cast.proofs.Steps.{End, More, arrives, counted}
use Rattle.rt_cast.proofs.Small.{ReachedIn, there_still}
use Rattle.rt_cast.proofs.Reaching.{at_first, walk}
use Rattle.rt_cast.proofs.CastCases.{apply}
use Rattle.rt_cast.specs.LightCasts.{is_light, light_words, light_price}
use Rattle.rt_cast.proofs.CastRuns.{by_light, GoesOn, by_cast}
use Rattle.rt_cast.proofs.CastDecisions.{low_of, by_cast as decided_cast}

-- the environment call that blames a label, from a state in which these objects stand
pub blames_at : (setting : Setting) (l : Layout) (s : LowState) {A : Type 0} (IsHeld : List Object → A → ℕ → Type 0)
    (objects : List Object) (label : ℕ) (new : List Object) (h : Heap) (count : ℕ) (locals : Locals)
    (rests : List Code) (waiting : List Waiting) (a b : LowSource) (d e : ℕ) (rest : Code)
    → Fine setting l (around s) new h → word_of locals a ≡ Some label → word_of locals b ≡ Some 0 → d < count
    → e < count
    → BlamesAt l setting s IsHeld objects label
    (st (around s) count locals (Environment 3 a b d e rest) rests waiting h)
blames_at setting l s IsHeld objects label new h count locals rests waiting a b d e rest fine is other first second =
    record {
      new = new;
      fine = fine;
      a = a;
      b = b;
      d = d;
      e = e;
      rest = rest;
      code = refl;
      is = is;
      other = other;
      first = first;
      second = second;
      same = refl;
    }

module _ {V : Type 0} (reading : Halt → Ending V) (setting : Setting) (l : Layout) (first : ℕ) (s : LowState)
    (exhausts : reading (Lacks Region) ≡ Exhausted) (ready : IsReady setting l first) where
  module _ {A : Type 0} (head : A → TypeHead) (IsHeld : List Object → A → ℕ → Type 0)
      (still : (old new : List Object) → Grows old new → (a : A) (w : ℕ) → IsHeld old a w → IsHeld new a w)
      (is_solid : (objects : List Object) (a : A) (w : ℕ) → IsHeld objects a w → IsSolid l objects w) where
    -- whatever the procedure comes to, it has come there
    pub ends : (low : l.tallest ≤ 65534) (objects : List Object) (r : Outcome A) → (r ≡ Stuck → ⊥) → (frames words : ℕ)
        (x : Outcome A) → x ≡ r
        → GoesOn (walk reading setting l first s exhausts ready (ComesTo l setting s IsHeld objects r) frames words) low
        A
        IsHeld still is_solid End objects s.waiting x
    ends low objects r some frames words Stuck q = absurd (some (sym q))
    ends low objects r some frames words (Gives v) q = λ new h' x count locals rests a grows fine held is.
        arrives (walk reading setting l first s exhausts ready (ComesTo l setting s IsHeld objects r) frames words)
        (λ room asked. (
          record { room = room; asked = asked },
          subst (λ y. ComesTo l setting s IsHeld objects y (st (around s) count locals (Return a) rests s.waiting
              h'))
              q (record {
                new = new;
                grows = grows;
                fine = fine;
                word = x;
                carried = held;
                source = a;
                code = refl;
                is = is;
                waits = refl;
                same = refl;
              }),
        ))
    ends low objects r some frames words (Blames label) q =
        λ new h' count locals rests waiting a b d e rest grows fine is other one two.
        arrives (walk reading setting l first s exhausts ready (ComesTo l setting s IsHeld objects r) frames words)
        (λ room asked. (
          record { room = room; asked = asked },
          subst (λ y. ComesTo l setting s IsHeld objects y
              (st (around s) count locals (Environment 3 a b d e rest) rests waiting h')) q
              (blames_at setting l s IsHeld objects label new h' count locals rests waiting a b d e rest fine is
              other one two),
        ))

    -- so the procedure comes to the outcome that it goes on from
    pub comes_to : (low : l.tallest ≤ 65534) (objects : List Object) (r : Outcome A) → (r ≡ Stuck → ⊥)
        → (frames words : ℕ) (x : Outcome A) → x ≡ r → {n d a p : ℕ} {t : LowState}
        → (GoesOn (walk reading setting l first s exhausts ready (ComesTo l setting s IsHeld objects r) frames words)
        low A IsHeld still is_solid End objects s.waiting x
        → ReachedIn (walk reading setting l first s exhausts ready (ComesTo l setting s IsHeld objects r) frames words)
        (More n d a p End) t)
        → stack_room t + 25 * d ≤ waiting_room s.waiting + 25 * (frames + 1) → t.words + a ≤ s.words + words
        → (k : ℕ) × (k ≤ n) × Reaches (low_machine reading setting) (OnTheWay setting l s frames words)
        (λ u. Within s frames words u × ComesTo l setting s IsHeld objects r u) k t
        × CostsAtMost reading setting k t p
    comes_to low objects r some frames words x q does room asked =
        counted (walk reading setting l first s exhausts ready (ComesTo l setting s IsHeld objects r) frames words)
        (does (ends low objects r some frames words x q)) room asked

    pub casts : l.tallest ≤ 65534 → (objects : List Object) → Filled setting l objects (heap_of s) → (c : Coercion)
        → IsLow l c → (u : Merged A) (r : Outcome A) → cast_value head l.types c u ≡ r → (r ≡ Stuck → ⊥)
        → (wv wc : ℕ) → CarriedBy l IsHeld objects u wv → Held l objects c wc
        → ComesToOutcome reading setting l s IsHeld objects (cast_proc first) (wv ∷ wc ∷ []) r
        (cast_cost l.width l.tallest) (4 * l.tallest + 6) (cast_words l.width l.tallest)
        (cast_price l.width l.tallest)
    casts low objects filled c lc u r e some wv wc hv hc =
        let below = bound_from_height (rows_in l) (height_in l) ready.types.heights c l.tallest lc.low in
        comes_to low objects r some (4 * l.tallest + 6) (cast_words l.width l.tallest) (apply (rows_in l) l.tallest c u)
        (decided_cast l ready.types head c lc.normal below u (low_of l ready.types head IsHeld objects u wv hv) r some
        e)
        (λ go. by_cast (walk reading setting l first s exhausts ready (ComesTo l setting s IsHeld objects r)
        (4 * l.tallest + 6) (cast_words l.width l.tallest)) low A IsHeld still is_solid c lc.normal below u End objects
        (heap_of s) (at_first reading setting l first s exhausts ready objects filled) s.waiting wv wc hv hc go)
        (omega arith) (omega arith)

    -- the same of light casts
    pub light_casts : l.tallest ≤ 65534 → (objects : List Object) → Filled setting l objects (heap_of s)
        → (c : Coercion) → IsLow l c → (u : Merged A) (r : Outcome A) → cast_value head l.types c u ≡ r
        → (r ≡ Stuck → ⊥) → is_light (rows_in l) c u ≡ true
        → (wv wc : ℕ) → CarriedBy l IsHeld objects u wv → Held l objects c wc
        → ComesToOutcome reading setting l s IsHeld objects (cast_proc first) (wv ∷ wc ∷ []) r
        77 1 (light_words c) (light_price c)
    light_casts low objects filled c lc u r e some light wv wc hv hc =
        let below = bound_from_height (rows_in l) (height_in l) ready.types.heights c l.tallest lc.low in
        comes_to low objects r some 1 (light_words c) (apply (rows_in l) l.tallest c u)
        (decided_cast l ready.types head c lc.normal below u (low_of l ready.types head IsHeld objects u wv hv) r some
        e)
        (λ go. by_light (walk reading setting l first s exhausts ready (ComesTo l setting s IsHeld objects r) 1
        (light_words c)) low A IsHeld still is_solid c lc.normal below u light End objects (heap_of s)
        (at_first reading setting l first s exhausts ready objects filled) s.waiting wv wc hv hc go)
        (omega arith) (omega arith)

  pub very_still : (old new : List Object) → Grows old new → (a w : ℕ) → IsVery l old a w → IsVery l new a w
  very_still old new g a w h = record {
    is = h.is;
    solid = record {
      object = h.solid.object;
      there = there_still l old new w h.solid.object g h.solid.there;
      kind = h.solid.kind;
      count = h.solid.count;
      head = h.solid.head;
      free = h.solid.free;
    };
  }

  -- over what stands under proxies as it stands
  pub casts_are_made : l.tallest ≤ 65534 → (objects : List Object) → Filled setting l objects (heap_of s)
      → (head : ℕ → TypeHead) (c : Coercion) → IsLow l c → (u : Merged ℕ) (r : Outcome ℕ)
      → cast_value head l.types c u ≡ r → (r ≡ Stuck → ⊥) → (wv wc : ℕ) → Carries l objects u wv
      → Held l objects c wc
      → ComesToOutcome reading setting l s (IsVery l) objects (cast_proc first) (wv ∷ wc ∷ []) r
      (cast_cost l.width l.tallest) (4 * l.tallest + 6) (cast_words l.width l.tallest)
      (cast_price l.width l.tallest)
  casts_are_made low objects filled head c lc u r e some wv wc hv hc =
      casts head (IsVery l) (λ old new g a w h. very_still old new g a w h) (λ os a w h. h.solid) low objects filled c
      lc
      u r e some wv wc hv hc

  pub light_casts_are_cheap : l.tallest ≤ 65534 → (objects : List Object) → Filled setting l objects (heap_of s)
      → (head : ℕ → TypeHead) (c : Coercion) → IsLow l c → (u : Merged ℕ) (r : Outcome ℕ)
      → cast_value head l.types c u ≡ r → (r ≡ Stuck → ⊥) → is_light (rows_in l) c u ≡ true → (wv wc : ℕ)
      → Carries l objects u wv → Held l objects c wc
      → ComesToOutcome reading setting l s (IsVery l) objects (cast_proc first) (wv ∷ wc ∷ []) r
      77 1 (light_words c) (light_price c)
  light_casts_are_cheap low objects filled head c lc u r e some light wv wc hv hc =
      light_casts head (IsVery l) (λ old new g a w h. very_still old new g a w h) (λ os a w h. h.solid) low objects
      filled c lc u r e some light wv wc hv hc
