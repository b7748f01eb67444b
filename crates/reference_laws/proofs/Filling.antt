-- What fill comes to, whatever is kept of the region on its way, and from a state in which whole objects fill the
-- region.
use Rattle.std.proofs.Common.{◌≡◌, ◌⊎◌, inl, inr, ℕ, zero, suc, ◌+◌, ◌*◌, ◌%◌, ◌^◌, ◌<◌, ◌≤◌, Bool, true, false}
use Rattle.std.proofs.Common.{List, [], ◌∷◌, ◌++◌, Some, refl, sym, ap, ◌∙◌, subst, arith}
use Rattle.std.proofs.Common.{le_refl}
use Rattle.std.specs.Prelude.{◌==◌, not, nat_lt, nat_le, slice_get, pos, replicate, if◌then◌else◌}
use Rattle.grift_base.specs.EnvironmentCall.{environment_call}
use Rattle.grift_base.specs.declared.verdicts.Trap.TheVariants.{Length}
use Rattle.run_laws.specs.Runs.{Ending, Exhausted}
use Rattle.run_laws.specs.Machines.{Go, Stop, Machine, Reaches, Onward}
use Rattle.run_laws.proofs.Public.{by_step}
use Rattle.machine_words.specs.declared.conditions.Cond.{Cond}
use Rattle.machine_words.specs.declared.conditions.Cond.TheVariants.{Lt}
use Rattle.machine_words.specs.Memory.{Memory, store_bytes}
use Rattle.machine_words.specs.Halts.{Halt, Lacks, Region}
use Rattle.machine_words.specs.Arithmetic.{plus}
use Rattle.machine_words.specs.Conditions.{holds}
use Rattle.machine_words.proofs.Public.{stored_outside, load_stored, load_other}
use Rattle.low_ir.specs.declared.code.LowSource.{LowSource}
use Rattle.low_ir.specs.declared.code.LowSource.TheVariants.{Word, Number}
use Rattle.low_ir.specs.declared.code.WordOp.{WordOp}
use Rattle.low_ir.specs.declared.code.WordOp.TheVariants.{Add, Sll}
use Rattle.low_ir.specs.Operations.{compute}
use Rattle.low_ir.specs.Procedures.{Code, Done, Compute, Store, Request, Take, Call, If, Return, TailCall}
use Rattle.low_ir.specs.Steps.{Locals, no_locals, set_local, given, only_if, may_store}
use Rattle.low_ir.specs.Prices.{step_price, low_price, entering_some, CostsAtMost}
use Rattle.low_ir.proofs.Public.{costs_on, costs_last}
use Rattle.low_ir.specs.Run.{Setting, Waiting, LowState, LowShown, word_of, bind, low_machine, store, code_turns}
use Rattle.low_ir.specs.Run.{goes_on, entered}
use Rattle.object_layout.specs.declared.kinds.Kind.TheVariants.{Vector}
use Rattle.object_layout.specs.Kinds.{kind_number}
use Rattle.coercion_norm.specs.Objects.{Object, Fixed, Cell, bytes_of_all}
use Rattle.coercion_norm.specs.ObjectsOfRows.{header}
use Rattle.coercion_norm.specs.Held.{Layout}
use Rattle.coercion_norm.proofs.Public.{bytes_append, last_stands}
use Rattle.low_ir.specs.Frames.{frame_room, waiting_room}
use Rattle.rt_cast.specs.Objects.{HasWord, HoldsWords}
use Rattle.rt_cast.specs.States.{Heap, Fine, Filled, Placed, OnTheWay, Within as IsWithin, around, heap_of, st}
use Rattle.rt_cast.specs.WholeObjects.{WholeOther}
use Rattle.rt_cast.proofs.Public.{eq_true, eq_false, holds_append, holds_same, wholes_more}
use Rattle.rt_refs.specs.FillCodes.{fill_loop, fill_code, fill_proc, trap_length, fill_words}
use Rattle.reference_laws.specs.FillLaws.{MadeAt, ComesToVector}
use Rattle.reference_laws.specs.CellLaws.{TrapsAt, ComesWhere}
use Rattle.reference_laws.proofs.CellSteps.{may_be_stored, le_true, le_cases}
use Rattle.rt_refs.proofs.Public.{Signed, signed, Positive, Negative}
use Rattle.rt_cast.proofs.Public.{vector_header}

plus_is : (x n : ℕ) → x + n < 2 ^ 64 → plus x (pos n) ≡ x + n
plus_is x n h = grind arith

bytes_even : (os : List Object) → bytes_of_all os % 8 ≡ 0
bytes_even [] = refl
bytes_even (Fixed head ws ∷ os) = let z = bytes_even os in omega (arith, z)
bytes_even (Cell head n ∷ os) = let z = bytes_even os in omega (arith, z)

header_is : (n : ℕ) → n < 2 ^ 32 → compute Add (compute Sll n 32) 6 ≡ vector_header n
header_is n lt = omega (arith, lt)

add_is : (a b : ℕ) → a + b < 2 ^ 64 → compute Add a b ≡ a + b
add_is a b lt = omega (arith, lt)

eight_times : (n : ℕ) → 8 * n < 2 ^ 64 → compute Sll n 3 ≡ 8 * n
eight_times n lt = omega (arith, lt)

not_true : (b : Bool) → b ≡ false → not b ≡ true
not_true b e = ap not e

not_false : (b : Bool) → b ≡ true → not b ≡ false
not_false b e = ap not e

held_all : (n : ℕ) (m : Memory) (at w : ℕ) → ((j : ℕ) → j < n → HasWord m (at + 8 * j) w)
    → HoldsWords m at (replicate n w)
held_all zero m at w each = tt
held_all (suc n) m at w each =
    let z : at + 8 * 0 ≡ at = omega arith in (
      subst (λ p. HasWord m p w) z (each 0 (omega arith)),
      held_all n m (at + 8) w (λ j lt.
          let y : at + 8 * suc j ≡ at + 8 + 8 * j = omega arith in
          subst (λ p. HasWord m p w) y (each (suc j) (omega (arith, lt)))),
    )

-- what lies below the allocation word stays
abbrev pub Below : LowState → Memory → Type 0
Below s m = (j : ℕ) → j < s.alloc → m j ≡ s.memory j

-- Filling keeps what holds, P, where nothing below the allocation word has changed, and comes to what holds where a
-- vector of these words stands behind it, Q.
module _ {V : Type 0} (reading : Halt → Ending V) (setting : Setting) (s : LowState)
    (exhausts : reading (Lacks Region) ≡ Exhausted) (P Q : LowState → Type 0) (own : ℕ)
    (there : slice_get setting.procs own ≡ Some (fill_loop own)) (n w : ℕ) (small : w < 2 ^ 64)
    (above : setting.region ≤ s.alloc) (even : s.alloc % 8 ≡ 0) (narrow : setting.top ≤ setting.region + 2 ^ 34)
    (top : setting.top < 2 ^ 64)
    (way : (count : ℕ) (locals : Locals) (code : Code) (rests : List Code) (waiting : List Waiting) (m : Memory)
    (words : ℕ) → Below s m → code_turns code ≤ 10
    → frame_room count + waiting_room waiting ≤ waiting_room s.waiting + 25 * (1 + 1) → words ≤ s.words + (n + 1)
    → P (st (around s) count locals code rests waiting
    (record { memory = m; alloc = s.alloc; words = words })))
    (reached : (m : Memory) (locals : Locals) (rests : List Code) → Below s m
    → HasWord m s.alloc (header (kind_number Vector) 0 n) → HoldsWords m (s.alloc + 8) (replicate n w)
    → s.alloc + 8 * (n + 1) ≤ setting.top → locals 3 ≡ Some s.alloc
    → Q (st (around s) 6 locals (Return (Word 3)) rests s.waiting
    (record { memory = m; alloc = s.alloc + 8 * (n + 1); words = s.words + (n + 1) }))) where
  abbrev N : Machine LowState LowShown V
  N = low_machine reading setting

  -- within so many steps, and at this price
  record Within (b price : ℕ) (t : LowState) : Type 0 where
    pub steps : ℕ
    pub few : steps ≤ b
    pub cheap : CostsAtMost reading setting steps t price
    pub reach : Reaches N P Q steps t

  step : {b price dearer : ℕ} (t t' : LowState) → N.step t ≡ Go t' → P t → low_price setting.procs t + price ≤ dearer
      → Within b price t' → Within (suc b) dearer t
  step {price = price} {dearer = dearer} t t' e p dear c = record {
    steps = suc c.steps;
    few = let z = c.few in omega arith;
    cheap = costs_on reading setting c.steps price dearer t t' e c.cheap dear;
    reach = by_step N P Q c.steps t (Go t') e p c.reach;
  }

  more : {b c price dearer : ℕ} {t : LowState} → Within b price t → b ≤ c → price ≤ dearer → Within c dearer t
  more d le dear = record {
    steps = d.steps;
    few = let z = d.few in omega (arith, le);
    cheap = let z = d.cheap in omega (arith, z, dear);
    reach = d.reach;
  }

  -- the storage, with another memory
  abbrev heap : Memory → Heap
  heap m = record { memory = m; alloc = s.alloc; words = s.words }

  abbrev St : ℕ → Locals → Code → List Code → List Waiting → Heap → LowState
  St = st (around s)

  module _ {b price : ℕ} {count : ℕ} {locals : Locals} {rests : List Code} {waiting : List Waiting} (m : Memory)
      (same : Below s m) (room : frame_room count + waiting_room waiting ≤ waiting_room s.waiting + 25 * (1 + 1)) where
    -- a step within the procedure, which leaves the storage as it is
    within : (code : Code) → code_turns code ≤ 10 → (locals' : Locals) (code' : Code) (rests' : List Code)
        → N.step (St count locals code rests waiting (heap m)) ≡ Go (St count locals' code' rests' waiting (heap m))
        → Within b price (St count locals' code' rests' waiting (heap m))
        → Within (suc b) (step_price setting.procs count code + price) (St count locals code rests waiting (heap m))
    within code few locals' code' rests' e c =
        step (St count locals code rests waiting (heap m)) (St count locals' code' rests' waiting (heap m)) e
        (way count locals code rests waiting m s.words same few room (omega arith)) (omega arith) c

    computes : {op : WordOp} {d : ℕ} {x y : LowSource} {rest : Code} (u v z : ℕ) → word_of locals x ≡ Some u
        → word_of locals y ≡ Some v → compute op u v ≡ z → nat_lt d count ≡ true
        → Within b price (St count (set_local d z locals) rest rests waiting (heap m))
        → Within (suc b) (step_price setting.procs count (Compute op d x y rest) + price)
        (St count locals (Compute op d x y rest) rests waiting (heap m))
    computes {op = op} {d = d} {x = x} {y = y} {rest = rest} u v z e f g lt c =
        within (Compute op d x y rest) (omega arith) (set_local d z locals) rest rests (rw (e, f, g, lt) refl) c

    -- to one branch or the other
    branches : {cond : Cond} {x y : LowSource} {one other rest : Code} (test : Bool) (u v : ℕ)
        → word_of locals x ≡ Some u → word_of locals y ≡ Some v → holds cond u v ≡ test
        → Within b price (St count locals (if test then one else other) (rest ∷ rests) waiting (heap m))
        → Within (suc b) (step_price setting.procs count (If cond x y one other rest) + price)
        (St count locals (If cond x y one other rest) rests waiting (heap m))
    branches {cond = cond} {x = x} {y = y} {one = one} {other = other} {rest = rest} true u v e f g c =
        within (If cond x y one other rest) (omega arith) locals one (rest ∷ rests) (rw (e, f, g) refl) c
    branches {cond = cond} {x = x} {y = y} {one = one} {other = other} {rest = rest} false u v e f g c =
        within (If cond x y one other rest) (omega arith) locals other (rest ∷ rests) (rw (e, f, g) refl) c

    stores : {x y : LowSource} {rest : Code} (u v : ℕ) → word_of locals x ≡ Some v → word_of locals y ≡ Some u
        → may_store setting.region setting.top u ≡ true → u < 2 ^ 64
        → Within b price (St count locals rest rests waiting (heap (store_bytes 8 m u v)))
        → Within (suc b) (step_price setting.procs count (Store x y 0 rest) + price)
        (St count locals (Store x y 0 rest) rests waiting (heap m))
    stores {x = x} {y = y} {rest = rest} u v e f may lt c =
        let none : u + 0 ≡ u = omega arith in
        let p : plus u (pos 0) ≡ u = plus_is u 0 (omega (arith, lt)) ∙ none in
        let next = St count locals rest rests waiting (heap m) in
        let t = St count locals (Store x y 0 rest) rests waiting (heap m) in
        let t' = St count locals rest rests waiting (heap (store_bytes 8 m u v)) in
        step t t' (
        ap (λ z. given t z (λ q. given t (word_of locals x) (λ y. store reading setting (plus q (pos 0)) y next))) f
        ∙ (ap (λ z. given t z (λ y. store reading setting (plus u (pos 0)) y next)) e
        ∙ (ap (λ q. store reading setting q v next) p
        ∙ ap (λ o. only_if next o (Go t')) may)))
        (way count locals (Store x y 0 rest) rests waiting m s.words same (omega arith) room (omega arith))
        (omega arith) c

  -- so many elements are stored
  record Wrote (i : ℕ) (m : Memory) : Type 0 where
    pub below : Below s m
    pub head : HasWord m s.alloc (vector_header n)
    pub each : (j : ℕ) → j < i → HasWord m (s.alloc + 8 + 8 * j) w

  -- what is done once there is room
  abbrev filling : Code
  filling = fill_words own

  -- where there is room
  module _ (room : s.alloc + 8 * (n + 1) ≤ setting.top) where
    end_small : s.alloc + 8 + 8 * n < 2 ^ 64
    end_small = omega (arith, room, top)

    wrote_more : (i : ℕ) (m : Memory) → Wrote i m → Wrote (suc i) (store_bytes 8 m (s.alloc + 8 + 8 * i) w)
    wrote_more i m h = record {
      below = λ j lt. stored_outside 8 m (s.alloc + 8 + 8 * i) w j (inl (omega (arith, lt))) ∙ h.below j lt;
      head = record {
        is = load_other 8 8 m (s.alloc + 8 + 8 * i) w s.alloc (inl (omega arith)) ∙ h.head.is;
        small = h.head.small;
      };
      each = λ j lt. by_case j lt (j == i) refl;
    }
      where
        by_case : (j : ℕ) → j < suc i → (b : Bool) → (j == i) ≡ b
            → HasWord (store_bytes 8 m (s.alloc + 8 + 8 * i) w) (s.alloc + 8 + 8 * j) w
        by_case j lt true e =
            let same : i ≡ j = grind (arith, e) in
            subst (λ k. HasWord (store_bytes 8 m (s.alloc + 8 + 8 * i) w) (s.alloc + 8 + 8 * k) w) same
            (record { is = load_stored 8 m (s.alloc + 8 + 8 * i) w small; small = small })
        by_case j lt false e =
            let ne : j < i = grind (arith, e, lt) in
            let z = h.each j ne in
            record {
              is = load_other 8 8 m (s.alloc + 8 + 8 * i) w (s.alloc + 8 + 8 * j) (inl (omega (arith, ne))) ∙ z.is;
              small = small;
            }

    abbrev loop_code : Code
    loop_code = (fill_loop own).code

    -- the loop, called by a procedure that goes on
    looped : {b price : ℕ} (count : ℕ) (locals : Locals) (rest : Code) (rests : List Code) → nat_lt 4 count ≡ true
        → count ≤ 24
        → ((m : Memory) → Wrote n m → Within b price (St count (set_local 4 0 locals) rest rests s.waiting (heap m)))
        → (k i : ℕ) → i + k ≡ n → (m : Memory) → Wrote i m
        → Within (4 * k + 2 + b) (61 * k + 20 + price)
        (St 3 (bind 0 ((s.alloc + 8 + 8 * i) ∷ (s.alloc + 8 + 8 * n) ∷ w ∷ []) no_locals) loop_code []
        (record {
          rest = record { count = count; locals = locals; code = rest; rests = rests };
          answer = 4;
        } ∷ s.waiting) (heap m))
    looped {b = b} {price = price} count locals rest rests lt low go zero i sum m h =
        let same : s.alloc + 8 + 8 * i ≡ s.alloc + 8 + 8 * n = omega (arith, sum) in
        let is : i ≡ n = omega (arith, sum) in
        let waiting : List Waiting = record {
          rest = record { count = count; locals = locals; code = rest; rests = rests };
          answer = 4;
        } ∷ s.waiting in
        let asks = bind 0 ((s.alloc + 8 + 8 * i) ∷ (s.alloc + 8 + 8 * n) ∷ w ∷ []) no_locals in
        more
        (branches m h.below (omega arith) false (s.alloc + 8 + 8 * i) (s.alloc + 8 + 8 * n) refl refl
        (not_false _ (eq_true (s.alloc + 8 + 8 * i) (s.alloc + 8 + 8 * n) same))
        (step (St 3 asks (Return (Number 0)) (Done ∷ []) waiting (heap m))
        (St count (set_local 4 0 locals) rest rests s.waiting (heap m)) (rw (lt) refl)
        (way 3 asks (Return (Number 0)) (Done ∷ []) waiting m s.words h.below (omega arith) (omega arith) (omega arith))
        (le_refl (7 + price)) (go m (subst (λ k. Wrote k m) is h)))) (omega arith) (omega arith)
    looped {b = b} {price = price} count locals rest rests lt low go (suc k) i sum m h =
        let inside : i < n = omega (arith, sum) in
        let waiting : List Waiting = record {
          rest = record { count = count; locals = locals; code = rest; rests = rests };
          answer = 4;
        } ∷ s.waiting in
        let at : ℕ = s.alloc + 8 + 8 * i in
        let end : ℕ = s.alloc + 8 + 8 * n in
        let asks : Locals = bind 0 ((s.alloc + 8 + 8 * i) ∷ (s.alloc + 8 + 8 * n) ∷ w ∷ []) no_locals in
        let m' = store_bytes 8 m (s.alloc + 8 + 8 * i) w in
        let h' = wrote_more i m h in
        let next : compute Add (s.alloc + 8 + 8 * i) 8 ≡ s.alloc + 8 + 8 * suc i =
        omega (arith, end_small, inside) in
        let asks' : Locals = set_local 0 (s.alloc + 8 + 8 * suc i) asks in
        more
        (branches m h.below (omega arith) true (s.alloc + 8 + 8 * i) (s.alloc + 8 + 8 * n) refl refl
        (not_true _ (eq_false (s.alloc + 8 + 8 * i) (s.alloc + 8 + 8 * n) (λ e. omega (arith, e, inside))))
        (stores m h.below (omega arith) (s.alloc + 8 + 8 * i) w refl refl
        (may_be_stored setting.region setting.top (s.alloc + 8 + 8 * i) (omega (arith, even))
        (omega (arith, above)) (omega (arith, room, inside))) (omega (arith, end_small, inside))
        (computes {price = 40 + (61 * k + 20 + price)} m' h'.below (omega arith) (s.alloc + 8 + 8 * i) 8
        (s.alloc + 8 + 8 * suc i) refl refl next refl
        (step (St 3 asks' (TailCall own (Word 0 ∷ Word 1 ∷ Word 2 ∷ [])) (Done ∷ []) waiting (heap m'))
        (St 3 (bind 0 ((s.alloc + 8 + 8 * suc i) ∷ (s.alloc + 8 + 8 * n) ∷ w ∷ []) no_locals) loop_code [] waiting
        (heap m'))
        (rw (there) refl)
        (way 3 asks' (TailCall own (Word 0 ∷ Word 1 ∷ Word 2 ∷ [])) (Done ∷ []) waiting m' s.words h'.below
        (omega arith) (omega arith) (omega arith))
        (let y : 40 + (61 * k + 20 + price) ≤ 40 + (61 * k + 20 + price) = le_refl _ in
        let z = ap entering_some there in omega (arith, y, z))
        (looped {b = b} {price = price} count locals rest rests lt low go k (suc i) (omega (arith, sum)) m' h')))))
        (omega arith) (omega arith)

    -- the header is stored, and nothing else yet
    begins_with : n < 2 ^ 32 → Wrote 0 (store_bytes 8 s.memory s.alloc (vector_header n))
    begins_with lt = record {
      below = λ j less. stored_outside 8 s.memory s.alloc (vector_header n) j (inl less);
      head =
          let z : vector_header n < 2 ^ 64 = omega (arith, lt) in
          record { is = load_stored 8 s.memory s.alloc (vector_header n) z; small = z };
      each = λ j less. absurd (omega (arith, less));
    }

    -- the vector is there
    made : (m : Memory) → Wrote n m → (locals : Locals) → locals 3 ≡ Some s.alloc → locals 2 ≡ Some (n + 1)
        → (rests : List Code) → Within 1 3 (St 6 locals (Take (Word 2) (Return (Word 3))) rests s.waiting (heap m))
    made m h locals e3 e2 rests =
        step (St 6 locals (Take (Word 2) (Return (Word 3))) rests s.waiting (heap m)) t' (
        let r = le_true (s.alloc + 8 * (n + 1)) setting.top room in rw (e2, r) refl)
        (way 6 locals (Take (Word 2) (Return (Word 3))) rests s.waiting m s.words h.below (omega arith) (omega arith)
        (omega arith)) (le_refl 3)
        (record {
          steps = 0;
          few = le_refl 0;
          cheap = le_refl 0;
          reach = reached m locals rests h.below h.head (held_all n m (s.alloc + 8) w h.each) room e3;
        })
      where
        t' : LowState
        t' =
            St 6 locals (Return (Word 3)) rests s.waiting
            (record { memory = m; alloc = s.alloc + 8 * (n + 1); words = s.words + (n + 1) })

    filled_in : (rests : List Code)
        → Within (4 * n + 10) (61 * n + 89) (St 6 (set_local 3 s.alloc (set_local 2 (n + 1) (bind 0
        (n ∷ w ∷ []) no_locals))) filling rests s.waiting (heap s.memory))
    filled_in rests =
        let few : n < 2 ^ 32 = omega (arith, room, narrow, above) in
        let head = vector_header n in
        let m1 = store_bytes 8 s.memory s.alloc head in
        let h1 = begins_with few in
        let untouched : Below s s.memory = λ j lt. refl in
        let start : Locals = set_local 3 s.alloc (set_local 2 (n + 1) (bind 0 (n ∷ w ∷ []) no_locals)) in
        let last : Locals =
        set_local 5 (s.alloc + 8 + 8 * n) (set_local 5 (8 * n) (set_local 4 (s.alloc + 8)
        (set_local 4 head (set_local 4 (compute Sll n 32) start)))) in
        let none : s.alloc + 8 + 8 * 0 ≡ s.alloc + 8 = omega arith in
        let waiting : List Waiting = record {
          rest = record { count = 6; locals = last; code = Take (Word 2) (Return (Word 3)); rests = rests };
          answer = 4;
        } ∷ s.waiting in
        more
        (computes s.memory untouched (omega arith) n 32 (compute Sll n 32) refl refl refl refl
        (computes s.memory untouched (omega arith) (compute Sll n 32) 6 head refl refl (header_is n few) refl
        (stores s.memory untouched (omega arith) s.alloc head refl refl
        (may_be_stored setting.region setting.top s.alloc even (omega (arith, above))
        (omega (arith, room))) (omega (arith, room, top))
        (computes m1 h1.below (omega arith) s.alloc 8 (s.alloc + 8) refl refl
        (add_is s.alloc 8 (omega (arith, end_small))) refl
        (computes m1 h1.below (omega arith) n 3 (8 * n) refl refl (eight_times n (omega (arith, end_small))) refl
        (computes {price = 39 + (61 * n + 20 + 3)} m1 h1.below (omega arith) (s.alloc + 8) (8 * n)
        (s.alloc + 8 + 8 * n) refl refl
        (add_is (s.alloc + 8) (8 * n) end_small) refl
        (step (St 6 last (Call 4 own (Word 4 ∷ Word 5 ∷ Word 1 ∷ []) (Take (Word 2) (Return (Word 3)))) rests s.waiting
        (heap m1))
        (St 3 (bind 0 ((s.alloc + 8) ∷ (s.alloc + 8 + 8 * n) ∷ w ∷ []) no_locals) loop_code [] waiting (heap m1))
        (rw (there) refl)
        (way 6 last (Call 4 own (Word 4 ∷ Word 5 ∷ Word 1 ∷ []) (Take (Word 2) (Return (Word 3)))) rests s.waiting m1
        s.words h1.below (omega arith) (omega arith) (omega arith))
        (let y : 39 + (61 * n + 20 + 3) ≤ 39 + (61 * n + 20 + 3) = le_refl _ in
        let z = ap entering_some there in omega (arith, y, z))
        (subst (λ p. Within (4 * n + 2 + 1) (61 * n + 20 + 3) (St 3 (bind 0 (p ∷
        (s.alloc + 8 + 8 * n) ∷ w ∷ []) no_locals) loop_code []
        waiting (heap m1))) none
        (looped 6 last (Take (Word 2) (Return (Word 3))) rests refl (omega arith)
        (λ m h. made m h (set_local 4 0 last) refl refl rests) n 0 (omega arith) m1 h1)))))))))
        (omega arith) (omega arith)

  -- a vector of so many elements, or the region is exhausted
  pub vectors_are_filled : n < 2 ^ 63
      → (k : ℕ) × (k ≤ 4 * n + 13)
      × Reaches (low_machine reading setting) P Q k (entered s (fill_proc own) (n ∷ w ∷ []))
      × CostsAtMost reading setting k (entered s (fill_proc own) (n ∷ w ∷ [])) (61 * n + 124)
  vectors_are_filled positive = let z = begun in (z.steps, z.few, z.reach, z.cheap)
    where
      untouched : Below s s.memory
      untouched j lt = refl

      not_below : Signed n → holds Lt n 0 ≡ false
      not_below (Positive lt is e) = e
      not_below (Negative m ge sum is e) = absurd (omega (arith, ge, positive))

      requested : (rests : List Code)
          → Within (4 * n + 11) (61 * n + 105) (St 6 (set_local 2 (n + 1) (bind 0 (n ∷ w ∷ []) no_locals))
          (Request 3 (Word 2) filling) rests s.waiting (heap s.memory))
      requested rests = by_room (le_cases (nat_le (s.alloc + 8 * (n + 1)) setting.top))
        where
          locals : Locals
          locals = set_local 2 (n + 1) (bind 0 (n ∷ w ∷ []) no_locals)

          t0 : LowState
          t0 = St 6 locals (Request 3 (Word 2) filling) rests s.waiting (heap s.memory)

          refused : LowState
          refused = St 6 locals filling rests s.waiting
              (record { memory = s.memory; alloc = s.alloc; words = s.words + (n + 1) })

          first_way : P t0
          first_way =
              way 6 locals (Request 3 (Word 2) filling) rests s.waiting s.memory s.words untouched (omega arith)
              (omega arith) (omega arith)

          by_room : (nat_le (s.alloc + 8 * (n + 1)) setting.top ≡ true)
              ⊎ (nat_le (s.alloc + 8 * (n + 1)) setting.top ≡ false)
              → Within (4 * n + 11) (61 * n + 105) t0
          by_room (inl r) =
              more
              (step t0 (St 6 (set_local 3 s.alloc locals) filling rests s.waiting (heap s.memory)) (rw (r) refl)
              first_way
              (le_refl (16 + (61 * n + 89))) (filled_in (grind (arith, r)) rests)) (omega arith) (omega arith)
          by_room (inr r) = record {
            steps = 1;
            few = omega arith;
            cheap =
                costs_last reading setting (61 * n + 105) t0 refused (reading (Lacks Region)) (rw (r) refl)
                (omega arith);
            reach =
                by_step N P Q 0 t0 (Stop (reading (Lacks Region)) refused) (rw (r) refl) first_way
                (subst (λ x. Onward (Stop x refused) P Q) (sym exhausts)
                (way 6 locals filling rests s.waiting s.memory (s.words + (n + 1)) untouched (omega arith) (omega arith)
                (le_refl (s.words + (n + 1)))));
          }

      begun : Within (4 * n + 13) (61 * n + 124) (St 6 (bind 0 (n ∷ w ∷ []) no_locals) (fill_code own) [] s.waiting
          (heap s.memory))
      begun =
          more
          (branches s.memory untouched (omega arith) false n 0 refl refl
          (not_below (signed n (omega (arith, positive))))
          (computes s.memory untouched (omega arith) n 1 (n + 1) refl refl (add_is n 1 (omega (arith, positive))) refl
          (requested _)))
          (omega arith) (omega arith)

-- a length below 0 goes on with the trap
module _ {V : Type 0} (reading : Halt → Ending V) (setting : Setting) (s : LowState) (P Q : LowState → Type 0) (own : ℕ)
    (n w : ℕ) where
  pub lengths_below_zero_go_on : 2 ^ 63 ≤ n → n < 2 ^ 64 → P (entered s (fill_proc own) (n ∷ w ∷ []))
      → Q (goes_on trap_length (Done ∷ []) (entered s (fill_proc own) (n ∷ w ∷ [])))
      → Reaches (low_machine reading setting) P Q 1 (entered s (fill_proc own) (n ∷ w ∷ []))
      × CostsAtMost reading setting 1 (entered s (fill_proc own) (n ∷ w ∷ [])) 14
  lengths_below_zero_go_on ge fits p q = (
    by_step (low_machine reading setting) P Q 0 t0 (Go t1) (let e = below (signed n fits) in rw (e) refl) p q,
    costs_on reading setting 0 0 14 t0 t1 (let e = below (signed n fits) in rw (e) refl) (le_refl 0) (le_refl 14),
  )
    where
      t0 : LowState
      t0 = entered s (fill_proc own) (n ∷ w ∷ [])

      t1 : LowState
      t1 = goes_on trap_length (Done ∷ []) t0

      below : Signed n → holds Lt n 0 ≡ true
      below (Positive lt is e) = absurd (omega (arith, ge, lt))
      below (Negative m most sum is e) = e

-- from a state in which whole objects fill the region
module _ {V : Type 0} (reading : Halt → Ending V) (setting : Setting) (l : Layout) (s : LowState)
    (exhausts : reading (Lacks Region) ≡ Exhausted) (placed : Placed setting l) (begins : l.region ≡ setting.region)
    (narrow : setting.top ≤ l.region + 2 ^ 34) (own : ℕ) (there : slice_get setting.procs own ≡ Some (fill_loop own))
    (objects : List Object) (filled : Filled setting l objects (heap_of s)) (n w : ℕ) (small : w < 2 ^ 64) where
  fine_at : (m : Memory) (words : ℕ) → Below s m
      → Fine setting l (around s) objects (record { memory = m; alloc = s.alloc; words = words })
  fine_at m words same = record {
    filled = record {
      objects_stand =
          holds_same s.memory m l.region objects (λ j from to. same j (omega (arith, to, filled.ends)))
          filled.objects_stand;
      statics_stand =
          holds_same s.memory m l.first l.statics
          (λ j from to. same j (omega (arith, to, filled.ends, placed.before))) filled.statics_stand;
      ends = filled.ends;
      fits = filled.fits;
      whole = filled.whole;
    };
    beyond = le_refl s.alloc;
    kept = same;
  }

  way : (count : ℕ) (locals : Locals) (code : Code) (rests : List Code) (waiting : List Waiting) (m : Memory)
      (words : ℕ) → Below s m → code_turns code ≤ 10
      → frame_room count + waiting_room waiting ≤ waiting_room s.waiting + 25 * (1 + 1) → words ≤ s.words + (n + 1)
      → OnTheWay setting l s 1 (n + 1) (st (around s) count locals code rests waiting
      (record { memory = m; alloc = s.alloc; words = words }))
  way count locals code rests waiting m words same turns room asked = record {
    calm = record { objects = objects; fine = fine_at m words same; same = refl };
    room = room;
    asked = asked;
    turns = turns;
  }

  -- a vector of so many elements, or the region is exhausted
  pub vectors_are_made : n < 2 ^ 63 → ComesToVector reading setting l s objects (fill_proc own) n w (4 * n + 13)
      (61 * n + 124)
  vectors_are_made positive =
      vectors_are_filled reading setting s exhausts (OnTheWay setting l s 1 (n + 1)) (MadeAt setting l s objects n w)
      own there n w small (omega (arith, filled.ends, begins))
      (let z = bytes_even objects in omega (arith, z, filled.ends, placed.even_region))
      (omega (arith, narrow, begins)) placed.top way reached positive
    where
      fine : (m : Memory) → Below s m → HasWord m s.alloc (vector_header n) → s.alloc + 8 * (n + 1) ≤ setting.top
          → Fine setting l (around s) (objects ++ Cell (vector_header n) n ∷ [])
          (record { memory = m; alloc = s.alloc + 8 * (n + 1); words = s.words + (n + 1) })
      fine m same head room = record {
        filled = record {
          objects_stand =
              holds_append m l.region objects (Cell (vector_header n) n ∷ [])
              (fine_at m s.words same).filled.objects_stand
              (subst (λ p. HasWord m p (vector_header n)) filled.ends head, tt);
          statics_stand = (fine_at m s.words same).filled.statics_stand;
          ends =
              let b = bytes_append objects (Cell (vector_header n) n ∷ []) in
              let e = filled.ends in omega (arith, b, e);
          fits = room;
          whole =
              wholes_more l [] objects (Cell (vector_header n) n) filled.whole
              (WholeOther Vector n refl refl refl refl);
        };
        beyond = omega arith;
        kept = same;
      }

      reached : (m : Memory) (locals : Locals) (rests : List Code) → Below s m → HasWord m s.alloc (vector_header n)
          → HoldsWords m (s.alloc + 8) (replicate n w) → s.alloc + 8 * (n + 1) ≤ setting.top
          → locals 3 ≡ Some s.alloc
          → MadeAt setting l s objects n w (st (around s) 6 locals (Return (Word 3)) rests s.waiting
          (record { memory = m; alloc = s.alloc + 8 * (n + 1); words = s.words + (n + 1) }))
      reached m locals rests same head held room is = record {
        fine = fine m same head room;
        there = last_stands objects [] (Cell (vector_header n) n) l.region s.alloc filled.ends;
        held = held;
        taken = refl;
        source = Word 3;
        code = refl;
        is = is;
        small = omega arith;
        waits = refl;
        same = refl;
      }

  -- a length below 0 traps
  pub lengths_below_zero_trap : 2 ^ 63 ≤ n → n < 2 ^ 64
      → ComesWhere reading setting l s (fill_proc own) (n ∷ w ∷ [])
      (TrapsAt reading setting l s Length) 1 0 0 14
  unfolding environment_call
  lengths_below_zero_trap ge fits =
      let z = lengths_below_zero_go_on reading setting s P' Q' own n w ge fits calm ends in (1, le_refl 1, z.0, z.1)
    where
      P' : LowState → Type 0
      P' = OnTheWay setting l s 0 0

      Q' : LowState → Type 0
      Q' t = IsWithin s 0 0 t × TrapsAt reading setting l s Length t

      calm : P' (entered s (fill_proc own) (n ∷ w ∷ []))
      calm = record {
        calm = record { objects = objects; fine = fine_at s.memory s.words (λ j lt. refl); same = refl };
        room = omega arith;
        asked = omega arith;
        turns = omega arith;
      }

      ends : Q' (goes_on trap_length (Done ∷ []) (entered s (fill_proc own) (n ∷ w ∷ [])))
      ends = (
        record { room = omega arith; asked = omega arith },
        record {
          objects = objects;
          fine = fine_at s.memory s.words (λ j lt. refl);
          last = _;
          stops = refl;
          stays = refl;
          same = refl;
          same_after = refl;
        },
      )
