-- How far the walk of a procedure has come while the numbered procedures make turns: it is still to be done, at a price
-- and for so many words, or it is done.
use Rattle.std.proofs.Common.{◌≡◌, ◌⊎◌, inl, inr, ℕ, ◌+◌, ◌*◌, ◌≤◌, List, refl, ap, ◌∙◌, arith}
use Rattle.grift_base.specs.declared.verdicts.Trap.{Trap}
use Rattle.grift_base.specs.declared.verdicts.Verdict.TheVariants.{Trap as TrapVerdict}
use Rattle.run_laws.specs.Runs.{Verdict as EndsWith}
use Rattle.run_laws.specs.Machines.{Reaches}
use Rattle.run_laws.proofs.Public.{reaches_weaken}
use Rattle.machine_words.specs.Halts.{ending_of}
use Rattle.core_calc.specs.Account.{Measures}
use Rattle.low_ir.specs.Prices.{CostsAtMost}
use Rattle.low_ir.specs.Run.{Setting, LowState, low_machine}
use Rattle.cast_modes.specs.Modes.{TypeCast}
use Rattle.cast_modes.specs.ValueSteps.{TrapOf}
use Rattle.coercion_norm.specs.Held.{Layout}
use Rattle.coercion_norm.specs.Objects.{Object}
use Rattle.flat_ir.specs.Bodies.{Proc}
use Rattle.cast_modes.specs.Prices.{Cost}
use Rattle.low_ir.specs.Frames.{stack_room, waiting_room}
use Rattle.rt_cast.specs.States.{Filled as RtFilled, OnTheWay as RtWay, Within, heap_of}
use Rattle.reference_laws.specs.CellLaws.{OnTheWayWriting, TrapsAt}
use Rattle.lower.specs.MergedMeaning.{merged_meaning}
use Rattle.lower.specs.SchemeLaws.{OnWay, StopsNow, Walks, After, Aim}
use Rattle.lower.proofs.merging.States.{trap_stops}

module _ (setting : Setting) (l : Layout) (procs : List Proc) (casts : List TypeCast) (m : Measures)
    (s : LowState) where
  -- frames take no more room than those of the procedures that wait in s, the one that serves, and as many above it as
  -- the scheme tells
  abbrev pub HasRoom : LowState → Type 0
  HasRoom t = stack_room t ≤ waiting_room s.waiting + 25 * (8 + 4 * l.tallest)

  -- no more than the scheme tells
  abbrev pub InBounds : LowState → Type 0
  InBounds t = stack_room t ≤ stack_room s + 25 * (1 + (4 * l.tallest + 7))

  -- where a walk of a turn that began in t ends
  abbrev pub Ended : LowState → ℕ → (LowState → Type 0) → LowState → Type 0
  Ended t words Q u = (u.words ≤ t.words + words) × InBounds u × Q u

  -- on the way of a turn that began in t
  abbrev pub Way : LowState → ℕ → ℕ → ℕ → LowState → Type 0
  Way t asks n n' u = OnWay merged_meaning setting l procs casts m s t asks n n' u

  -- at the beginning of a turn
  abbrev pub Calm : LowState → Type 0
  Calm t = (n : ℕ) → Way t 0 n n t

  -- whole objects fill the region, the world is untouched, and there is room for the frames
  pub record Stands (t : LowState) : Type 0 where
    pub objects : List Object
    pub filled : RtFilled setting l objects (heap_of t)
    pub same : t.world ≡ s.world
    pub room : HasRoom t

  pub on_way : (t u : LowState) (asks n n' : ℕ) → Stands u → u.words ≤ t.words + asks → Way t asks n n' u
  on_way t u asks n n' x asked = record {
    objects = x.objects;
    filled = inl (record {
      objects_stand = x.filled.objects_stand;
      statics_stand = x.filled.statics_stand;
      ends = x.filled.ends;
      fits = x.filled.fits;
      keeps = x.filled.whole;
    });
    same = x.same;
    room = let a = x.room in omega (arith, a);
    asked = asked;
  }

  pub calm_as : (t : LowState) → Stands t → Calm t
  calm_as t x n = on_way t t 0 n n x (omega arith)

  module _ (Done : LowState → Type 0) where
    -- from each of these states the walk is done, for so many words and at this price
    pub record Stage : Type 1 where
      pub Ready : LowState → Type 0
      pub words : ℕ
      pub price : ℕ
      pub calm : (t : LowState) → Ready t → Calm t
      pub walks : (t : LowState) → Ready t → (n n' : ℕ)
          → (k : ℕ) × CostsAtMost ending_of setting k t price
          × Reaches (low_machine ending_of setting) (Way t words n n') (Ended t words Done) k t

    -- nothing is left
    abbrev pub at_end : ((t : LowState) → Done t → Calm t) → Stage
    at_end calm = record {
      Ready = Done;
      words = 0;
      price = 0;
      calm = calm;
      walks = λ t done n n'. (0, omega arith, (omega arith, (calm t done n).room, done));
    }

    -- a turn with no step
    pub stays : (P : ℕ → LowState → Type 0) (cost : Cost) (credit n n' : ℕ) (t : LowState)
        → Calm t → P (credit + cost.budget) t
        → Walks merged_meaning setting l procs casts m s cost.asks (credit + cost.budget) n n' P t
    stays P cost credit n n' t calm p =
        (0, 0, credit + cost.budget, omega arith, omega arith, (omega arith, (calm n).room, p))

    -- a turn with all steps
    pub takes : (g : Stage) (P : ℕ → LowState → Type 0) (cost : Cost) (need credit n n' : ℕ) (t : LowState)
        → g.Ready t → g.words ≤ cost.asks → g.price + need ≤ credit + cost.budget
        → ((u : LowState) → Done u → P need u)
        → Walks merged_meaning setting l procs casts m s cost.asks (credit + cost.budget) n n' P t
    takes g P cost need credit n n' t ready few cheap then =
        let z = g.walks t ready n n' in (
          z.0,
          g.price,
          need,
          cheap,
          z.1,
          reaches_weaken (low_machine ending_of setting) (Way t g.words n n')
              (Ended t g.words Done) (Way t cost.asks n n')
              (Ended t cost.asks (P need))
              (λ u x. record {
                objects = x.objects;
                filled = x.filled;
                same = x.same;
                room = x.room;
                asked = let a = x.asked in omega (arith, a, few);
              })
              (λ u x. ((let a = x.0 in omega (arith, a, few)), x.1, then u x.2)) z.0 t z.2,
        )

  -- a law is told from a state, with frames for as many coercions as are nested
  module _ (from : LowState) (waits : from.waiting ≡ s.waiting) (same : from.world ≡ s.world) (frames : ℕ)
      (few : frames ≤ 4 * l.tallest + 7) (words : ℕ) where
    stands_from : (u : LowState) → RtWay setting l from frames words u → Stands u
    stands_from u x = record {
      objects = x.calm.objects;
      filled = x.calm.fine.filled;
      same = x.calm.same ∙ same;
      room = let a = x.room in let b = ap waiting_room waits in omega (arith, a, b, few);
    }

    room_from : (u : LowState) → Within from frames words u → HasRoom u
    room_from u x = let a = x.room in let b = ap waiting_room waits in omega (arith, a, b, few)

  -- ---- the walk of a law, which says nothing where a cast comes to nothing

  module _ (Nothing : Type 0) (decided : Nothing ⊎ (Nothing → ⊥)) (Comes : LowState → Type 0)
      (ends : (t : LowState) → Comes t → HasRoom t → Stands t) where
    pub record Settled (t : LowState) : Type 0 where
      pub stands : Stands t
      pub comes : (Nothing → ⊥) → Comes t

    pub settled_calm : (t : LowState) → Settled t → Calm t
    settled_calm t x = calm_as t x.stands

    -- on the way from t
    pub record Passes (t : LowState) (words : ℕ) (u : LowState) : Type 0 where
      pub stands : Stands u
      pub asked : u.words ≤ t.words + words

    pub record Arrives (t : LowState) (words : ℕ) (u : LowState) : Type 0 where
      pub room : HasRoom u
      pub asked : u.words ≤ t.words + words
      pub comes : Comes u

    pub record Begun (words price : ℕ) (t : LowState) : Type 0 where
      pub stands : Stands t
      pub law : (Nothing → ⊥)
          → (k : ℕ) × Reaches (low_machine ending_of setting) (Passes t words) (Arrives t words) k t
          × CostsAtMost ending_of setting k t price

    pub walked : (words price : ℕ) (t : LowState) → Begun words price t → (n n' : ℕ)
        → (k : ℕ) × CostsAtMost ending_of setting k t price
        × Reaches (low_machine ending_of setting) (Way t words n n') (Ended t words Settled) k t
    walked words price t x n n' = by decided
      where
        by : Nothing ⊎ (Nothing → ⊥)
            → (k : ℕ) × CostsAtMost ending_of setting k t price
            × Reaches (low_machine ending_of setting) (Way t words n n') (Ended t words Settled) k t
        by (inl none) = (
          0,
          omega arith,
          (
            omega arith,
            let a = x.stands.room in omega (arith, a),
            record { stands = x.stands; comes = λ some. absurd (some none) },
          ),
        )
        by (inr some) =
            let z = x.law some in (
              z.0,
              z.2,
              reaches_weaken (low_machine ending_of setting) (Passes t words) (Arrives t words) (Way t words n n')
                  (Ended t words Settled) (λ u y. on_way t u words n n' y.stands y.asked)
                  (λ u y. (
                    y.asked,
                    (let a = y.room in omega (arith, a)),
                    record { stands = ends u y.comes y.room; comes = λ some. y.comes },
                  )) z.0 t z.1,
            )

    abbrev pub begun : ℕ → ℕ → Stage Settled
    begun words price = record {
      Ready = Begun words price;
      words = words;
      price = price;
      calm = λ t x. calm_as t x.stands;
      walks = λ t x n n'. walked words price t x n n';
    }

    -- where a law has come to its end
    arrives_from : (from : LowState) (frames words : ℕ) → frames ≤ 4 * l.tallest + 7 → from.waiting ≡ s.waiting
        → from.world ≡ s.world → (t : LowState) → t.words ≡ from.words → (u : LowState)
        → Within from frames words u × Comes u → Arrives t words u
    arrives_from from frames words few waits same t asked u x = record {
      room = room_from from waits same frames few words u x.0;
      asked = let a = x.0.asked in omega (arith, a, asked);
      comes = x.1;
    }

    -- a law, told what holds on its way and at its end
    by_walk : (words price : ℕ) (t : LowState) → Stands t → (On At : LowState → Type 0)
        → ((u : LowState) → On u → Passes t words u) → ((u : LowState) → At u → Arrives t words u)
        → ((Nothing → ⊥)
        → (k : ℕ) × Reaches (low_machine ending_of setting) On At k t × CostsAtMost ending_of setting k t price)
        → Begun words price t
    by_walk words price t stands On At passes arrives law = record {
      stands = stands;
      law = λ some.
          let z = law some in (
            z.0,
            reaches_weaken (low_machine ending_of setting) On At (Passes t words) (Arrives t words) passes arrives z.0 t
                z.1,
            z.2,
          );
    }

    -- a law that is told from a state in which as many words were asked for as in t
    pub by_law_from : (from : LowState) → from.waiting ≡ s.waiting → from.world ≡ s.world
        → (frames words price : ℕ) → frames ≤ 4 * l.tallest + 7 → (t : LowState) → Stands t → t.words ≡ from.words
        → ((Nothing → ⊥)
        → (k : ℕ) × Reaches (low_machine ending_of setting) (RtWay setting l from frames words)
        (λ u. Within from frames words u × Comes u) k t × CostsAtMost ending_of setting k t price)
        → Begun words price t
    by_law_from from waits same frames words price few t stands asked law =
        by_walk words price t stands (RtWay setting l from frames words) (λ u. Within from frames words u × Comes u)
        (λ u x. record {
          stands = stands_from from waits same frames few words u x;
          asked = let a = x.asked in omega (arith, a, asked);
        }) (arrives_from from frames words few waits same t asked) law

    -- from s
    pub by_law : (frames words price : ℕ) → frames ≤ 4 * l.tallest + 7 → (t : LowState) → Stands t → t.words ≡ s.words
        → ((Nothing → ⊥)
        → (k : ℕ) × Reaches (low_machine ending_of setting) (RtWay setting l s frames words)
        (λ u. Within s frames words u × Comes u) k t × CostsAtMost ending_of setting k t price)
        → Begun words price t
    by_law = by_law_from s refl refl

    -- and one of a procedure that may change what was there
    pub by_writing_law : (frames words price : ℕ) → frames ≤ 4 * l.tallest + 7 → (t : LowState) → Stands t
        → t.words ≡ s.words
        → ((Nothing → ⊥)
        → (k : ℕ) × Reaches (low_machine ending_of setting) (OnTheWayWriting setting l s frames words)
        (λ u. Within s frames words u × Comes u) k t × CostsAtMost ending_of setting k t price)
        → Begun words price t
    by_writing_law frames words price few t stands asked law =
        by_walk words price t stands (OnTheWayWriting setting l s frames words)
        (λ u. Within s frames words u × Comes u) (λ u x. record {
          stands = record {
            objects = x.objects;
            filled = x.filled;
            same = x.same;
            room = let a = x.room in omega (arith, a, few);
          };
          asked = let a = x.asked in omega (arith, a, asked);
        }) (arrives_from s frames words few refl refl t asked) law

  -- a turn in which a procedure comes to where Q holds, at this price, and so much is left
  pub lands : (from : LowState) → from.waiting ≡ s.waiting → from.world ≡ s.world → (frames words price need : ℕ)
      → frames ≤ 4 * l.tallest + 7 → (t : LowState) → t.words ≡ from.words → (Q : LowState → Type 0) (k : ℕ)
      → Reaches (low_machine ending_of setting) (RtWay setting l from frames words)
      (λ u. Within from frames words u × Q u) k t
      → CostsAtMost ending_of setting k t price → (cost : Cost) (credit : ℕ) → words ≤ cost.asks
      → price + need ≤ credit + cost.budget → (n n' : ℕ) (P : ℕ → LowState → Type 0)
      → ((u : LowState) → HasRoom u → Q u → P need u)
      → Walks merged_meaning setting l procs casts m s cost.asks (credit + cost.budget) n n' P t
  lands from waits same frames words price need few t asked Q k reach cheap cost credit little enough n n' P then = (
    k,
    price,
    need,
    enough,
    cheap,
    reaches_weaken (low_machine ending_of setting) (RtWay setting l from frames words)
        (λ u. Within from frames words u × Q u) (Way t cost.asks n n') (Ended t cost.asks (P need))
        (λ u x. on_way t u cost.asks n n' (stands_from from waits same frames few words u x)
        (let a = x.asked in omega (arith, a, asked, little)))
        (λ u x.
        let room : HasRoom u = room_from from waits same frames few words u x.0 in (
          (let a = x.0.asked in omega (arith, a, asked, little)),
          omega (arith, room),
          then u room x.1,
        )) k t reach,
  )

  -- a turn that traps at so high a price
  pub trapped_at : (aim : Aim merged_meaning setting l procs casts m) (trap : Trap) (frames price : ℕ)
      → frames ≤ 4 * l.tallest + 7 → (t : LowState) → t.words ≡ s.words → (k : ℕ)
      → Reaches (low_machine ending_of setting) (RtWay setting l s frames 0)
      (λ u. Within s frames 0 u × TrapsAt ending_of setting l s trap u) k t → CostsAtMost ending_of setting k t price
      → (cost : Cost) (credit : ℕ) → price ≤ credit + cost.budget → (n : ℕ)
      → After merged_meaning setting l procs casts m s aim (TrapOf trap s.world) cost credit n 0 t
  trapped_at aim trap frames price few t same k reach cheap cost credit enough n = (
    refl,
    refl,
    lands s refl refl frames 0 price 0 few t same (TrapsAt ending_of setting l s trap) k reach cheap cost credit
        (omega arith) (omega (arith, enough)) n n (λ left u. StopsNow merged_meaning setting l procs casts m s n
        (EndsWith (TrapVerdict trap)) u) (λ u room x. trap_stops setting l procs casts m s n trap u x),
  )
