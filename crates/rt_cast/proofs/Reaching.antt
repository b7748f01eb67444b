-- What the procedures come to, from a state in which whole objects fill the region.
use Rattle.std.proofs.Common.{◌≡◌, ℕ, ◌+◌, ◌*◌, ◌<◌, ◌≤◌, ◌^◌, List, [], ◌∷◌, refl, le_refl, arith}
use Rattle.std.specs.Prelude.{max}
use Rattle.run_laws.specs.Runs.{Ending, Exhausted}
use Rattle.machine_words.specs.Halts.{Halt, Lacks, Region}
use Rattle.low_ir.specs.Run.{Setting, LowState}
use Rattle.coercion_norm.specs.Coercions.{Coercion}
use Rattle.coercion_norm.specs.CoercionTables.{IsSound, cast_of, composition_of}
use Rattle.coercion_norm.specs.Heights.{coercion_height}
use Rattle.coercion_norm.proofs.Public.{bound_from_height}
use Rattle.rt_cast.specs.Costs.{coerce_cost, compose_cost, coerce_words, compose_words, coerce_price, compose_price}
use Rattle.coercion_norm.specs.Objects.{Object}
use Rattle.coercion_norm.specs.Held.{Layout, Held, HoldsType, rows_in, height_in}
use Rattle.low_ir.specs.Frames.{waiting_room}
use Rattle.rt_cast.specs.Procs.{coerce_proc, compose_proc}
use Rattle.rt_cast.specs.States.{Filled, Fine, OnTheWay, Within, HeldAt, IsReady, ComesToHeld, around, heap_of}
use Rattle.rt_cast.proofs.Walks.{Walk}
use Rattle.rt_cast.proofs.Steps.{End, arrives, counted}
use Rattle.rt_cast.proofs.Middles.{Answers}
use Rattle.rt_cast.proofs.ComposeRuns.{all_composed}
use Rattle.rt_cast.proofs.CoerceRuns.{all_cast}

module _ {V : Type 0} (reading : Halt → Ending V) (setting : Setting) (l : Layout) (first : ℕ) (s : LowState)
    (exhausts : reading (Lacks Region) ≡ Exhausted) (ready : IsReady setting l first) where
  -- what is there at first is there
  pub at_first : (objects : List Object) → Filled setting l objects (heap_of s)
      → Fine setting l (around s) objects (heap_of s)
  at_first objects filled = record { filled = filled; beyond = le_refl s.alloc; kept = λ i lt. refl }

  -- the walk to a state, with so many procedures above and so many words, there too
  abbrev pub walk : (LowState → Type 0) → ℕ → ℕ → Walk V
  walk Q frames words = record {
    reading = reading;
    setting = setting;
    l = l;
    around = around s;
    P = OnTheWay setting l s frames words;
    Q = λ t. Within s frames words t × Q t;
    room = waiting_room s.waiting + 25 * (frames + 1);
    most = s.words + words;
    calm = λ active waiting h objects fine turns few asked. record {
      calm = record { objects = objects; fine = fine; same = refl };
      room = few;
      asked = asked;
      turns = turns;
    };
    exhausts = exhausts;
    placed = ready.placed;
    first = first;
    stands = ready.stand;
    types = ready.types;
  }

  -- where the coercion is answered, the walk has come there
  held_at : (objects : List Object) (c : Coercion) (frames words : ℕ)
      → Answers (walk (HeldAt setting l (around s) objects s.waiting c) frames words) End objects s.waiting c
  held_at objects c frames words = λ new h word count locals rests a grows fine held is.
      arrives (walk (HeldAt setting l (around s) objects s.waiting c) frames words) (λ room asked. (
        record { room = room; asked = asked },
        record {
          new = new;
          grows = grows;
          fine = fine;
          word = word;
          held = held;
          source = a;
          code = refl;
          is = is;
          waits = refl;
          same = refl;
        },
      ))

  pub compositions_are_held : (objects : List Object) → Filled setting l objects (heap_of s)
      → (c d : Coercion) (wc wd : ℕ)
      → IsSound l.types c → IsSound l.types d → Held l objects c wc → Held l objects d wd
      → ComesToHeld reading setting l s objects (compose_proc first) (wc ∷ wd ∷ []) (composition_of l.types c d)
      (compose_cost l.width (max (coercion_height (height_in l) c) (coercion_height (height_in l) d)))
      (4 * max (coercion_height (height_in l) c) (coercion_height (height_in l) d) + 4)
      (compose_words l.width (max (coercion_height (height_in l) c) (coercion_height (height_in l) d)))
      (compose_price l.width (max (coercion_height (height_in l) c) (coercion_height (height_in l) d)))
  compositions_are_held objects filled c d wc wd sc sd hc hd =
      let n = max (coercion_height (height_in l) c) (coercion_height (height_in l) d) in
      let w = walk (HeldAt setting l (around s) objects s.waiting (composition_of l.types c d)) (4 * n + 4)
      (compose_words l.width n) in
      let le : n ≤ 65534 = omega (arith, sc.low, sd.low) in
      counted w
      (all_composed w (λ m low. all_cast w m low) n le c d sc.normal sd.normal
      (bound_from_height (rows_in l) (height_in l) ready.types.heights c n (omega arith))
      (bound_from_height (rows_in l) (height_in l) ready.types.heights d n (omega arith)) End objects (heap_of s)
      (at_first objects filled) s.waiting wc wd hc hd
      (held_at objects (composition_of l.types c d) (4 * n + 4) (compose_words l.width n))) (omega arith) (omega arith)

  pub coercions_of_casts_are_held : (objects : List Object) → Filled setting l objects (heap_of s)
      → (from to label wf wt : ℕ)
      → HoldsType l objects wf from → HoldsType l objects wt to → label < 2 ^ 64
      → ComesToHeld reading setting l s objects (coerce_proc first) (wf ∷ wt ∷ label ∷ [])
      (cast_of l.types from to label) (coerce_cost l.width (max (height_in l from) (height_in l to)))
      (max (height_in l from) (height_in l to) + 1)
      (coerce_words l.width (max (height_in l from) (height_in l to)))
      (coerce_price l.width (max (height_in l from) (height_in l to)))
  coercions_of_casts_are_held objects filled from to label wf wt hf ht small =
      let n = max (height_in l from) (height_in l to) in
      let w = walk (HeldAt setting l (around s) objects s.waiting (cast_of l.types from to label)) (n + 1)
      (coerce_words l.width n) in
      let le : n ≤ 65534 = omega (arith, ready.types.low from, ready.types.low to) in
      counted w
      (all_cast w n le from to label ((ready.types.heights from n).1 (omega arith))
      ((ready.types.heights to n).1 (omega arith)) End objects (heap_of s) (at_first objects filled) s.waiting wf wt
      hf ht small (held_at objects (cast_of l.types from to label) (n + 1) (coerce_words l.width n))) (omega arith)
      (omega arith)
