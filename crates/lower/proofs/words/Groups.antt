-- A group of functions is made: its words are stored behind the objects, and the allocation word moves past them.
use Rattle.low_ir.specs.Prices.{code_price, codes_price, step_price}
use Rattle.std.proofs.Common.{◌≡◌, ◌≢◌, inl, ℕ, zero, suc, ◌+◌, ◌*◌, ◌^◌, ◌%◌, ◌<◌, ◌≤◌, Bool, true, false}
use Rattle.std.proofs.Common.{List, [], ◌∷◌, ◌++◌, length, Some, refl, sym, ap, ap₂, ◌∙◌, subst, arith}
use Rattle.std.proofs.Common.{append-nil, append_assoc, length-append, mod-eq_of_lt, ◌-◌, cond}
use Rattle.std.specs.Prelude.{slice_get, nat_lt, nat_le, ◌&&◌, if◌then◌else◌}
use Rattle.grift_base.specs.World.{WorldState}
use Rattle.machine_words.specs.Memory.{Memory, store_bytes}
use Rattle.machine_words.proofs.Public.{stored_outside}
use Rattle.low_ir.specs.declared.code.WordOp.TheVariants.{Add as Plus}
use Rattle.low_ir.specs.declared.code.LowSource.{LowSource}
use Rattle.low_ir.specs.declared.code.LowSource.TheVariants.{Word, Number}
use Rattle.low_ir.specs.Procedures.{Code, Compute, Store, CodeOf, Take, Proc}
use Rattle.low_ir.specs.Steps.{Locals, set_local, may_store}
use Rattle.low_ir.specs.Run.{Waiting, word_of}
use Rattle.cast_modes.specs.RunValues.{in_row}
use Rattle.flat_ir.specs.declared.code.Operand.{Operand}
use Rattle.flat_ir.specs.Closed.{operand_bound, operands_bound}
use Rattle.flat_ir.specs.Machine.{Group, Locals as FlatLocals, value, values, member, new_group, set_group}
use Rattle.object_layout.specs.declared.kinds.Kind.TheVariants.{Closure}
use Rattle.object_layout.specs.Kinds.{kind_number}
use Rattle.coercion_norm.specs.Objects.{Object, Fixed, Cell, bytes_of, bytes_of_all}
use Rattle.rt_cast.specs.Objects.{HoldsWords}
use Rattle.coercion_norm.specs.ObjectsOfRows.{header}
use Rattle.low_ir.specs.Frames.{frame_room, waiting_room}
use Rattle.rt_cast.specs.States.{Heap}
use Rattle.lowered_code.specs.declared.numbering.Shape.{Shape}
use Rattle.lowered_code.specs.Numbering.{operand_word, test_word, local_word, function_offset, captured_offset}
use Rattle.lowered_code.specs.Emit.{found, store_far, store_captured, store_others, name_others, group_words}
use Rattle.lowered_code.specs.Emit.{make_group, header as word_header}
use Rattle.lower.specs.CarriedValues.{IsMember, IsGroup}
use Rattle.lower.proofs.heap.Objects.{stored_behind, closure_header}
use Rattle.lower.proofs.heap.Filled.{filled_above, filled_more}
use Rattle.lower.proofs.heap.Groups.{other_words, group_objects, group_holds, group_bytes, group_kept}
use Rattle.lower.proofs.heap.Groups.{leader_added, other_added}
use Rattle.lower.proofs.heap.CarriedLater.{as_many, carried_small, later, all_later}
use Rattle.lower.proofs.words.Arithmetic.{header_word, header_small}
use Rattle.lower.proofs.words.Steps.{at, Calm, computes, stores, code_addresses, requests, takes, lt_true}
use Rattle.lower.proofs.words.Steps.{le_true}
use Rattle.lower.proofs.words.Steps.{le_false}
use Rattle.lower.proofs.words.Scene.{Scene, Carries, CarryAll, Arrives, Fills}
use Rattle.lower.proofs.simulation.RelationKept.{word_here, word_other, Named, SameNamed, same_then}
use Rattle.lower.proofs.simulation.RelationKept.{local_high, IsFree}
use Rattle.lower.proofs.simulation.RelationKept.{Between}
use Rattle.lower.proofs.simulation.RelationKept.{Behind, set_named, free_other, knows_same, OwnName, LowName}
use Rattle.lower.proofs.simulation.RelationKept.{HighName}
use Rattle.lower.proofs.simulation.RelationKept.{named_local}
use Rattle.lower.proofs.words.Operands.{Changes, KnowsHere, fetch_reads, and_true, added, found_same}

pub storable : (region top at : ℕ) → at % 8 ≡ 0 → region ≤ at → at + 8 ≤ top → may_store region top at ≡ true
storable region top at e l h = grind arith

even_bytes : (os : List Object) → (n : ℕ) × (bytes_of_all os ≡ 8 * n)
even_bytes [] = (0, refl)
even_bytes (o ∷ os) =
    let x = size o in let y = even_bytes os in (x.0 + y.0, omega (arith, x.1, y.1))
  where
    size : (y : Object) → (n : ℕ) × (bytes_of y ≡ 8 * n)
    size (Fixed header words) = (1 + length words, omega arith)
    size (Cell header count) = (1 + count, omega arith)

module _ (scene : Scene) (world : WorldState) (h : Heap) (allowed : scene.allowed world h.words)
    (objects : List Object) (filled : Fills scene.program objects h) (waiting : List Waiting) (size : ℕ)
    (frames_fit : frame_room size + waiting_room waiting ≤ scene.room) (rests : List Code)
    (s : Shape) (count : ℕ) (group : Group scene.program.meaning.Cast) (slot : ℕ)
    (locals : FlatLocals scene.program.meaning.Cast)
    (params : s.params ≤ slot) (room : slot + 10 < size) (words : Locals)
    (knows : KnowsHere scene world h allowed objects filled waiting size frames_fit rests s count group slot locals
    words) where
  abbrev d : ℕ
  d = local_word s slot

  abbrev t : ℕ
  t = test_word s

  d_is : local_word s slot ≡ slot + 10
  d_is = local_high s slot params

  d_less : local_word s slot < size
  d_less = omega (arith, d_is, room)

  d_free : IsFree s slot (local_word s slot)
  d_free = Behind params (omega (arith, d_is))

  t_free : IsFree s slot (test_word s)
  t_free = Between (omega arith) (omega arith)

  even : h.alloc % 8 ≡ 0
  even = let z = even_bytes objects in omega (arith, z.1, filled.ends, scene.program.placed.even_region)

  -- the memory while the words of a group are stored: those behind the objects so far, and nothing else has changed
  pub record Stored (m : Memory) (ws : List ℕ) : Type 0 where
    pub held : HoldsWords m h.alloc ws
    pub below : (i : ℕ) → i < h.alloc → m i ≡ h.memory i

  -- the words of the procedure meanwhile
  pub record Storing (new : Locals) : Type 0 where
    pub same : SameNamed s slot words new
    pub place : new (local_word s slot) ≡ Some h.alloc

  abbrev On : Memory → Locals → Code → Type 0
  On m new code = Arrives scene (at world (record h { memory = m }) waiting size rests new code)

  filled_by : (m : Memory) (ws : List ℕ) → Stored m ws
      → Fills scene.program objects
      (record h { memory = m })
  filled_by m ws st = filled_above scene.program.meaning scene.program.setting scene.program.l scene.program.placed
      objects h m h.words filled st.below

  abbrev calm_by : (m : Memory) (ws : List ℕ) → Stored m ws
      → Calm scene.program.setting scene.P scene.Q size waiting world (record h { memory = m })
  calm_by m ws st =
      scene.calm world (record h { memory = m }) objects (filled_by m ws st) allowed size waiting frames_fit

  -- a word that no name lies in is set
  storing_set : (x y : ℕ) (new : Locals) → IsFree s slot x → local_word s slot ≢ x → Storing new
      → Storing (set_local x y new)
  storing_set x y new free ne st = record {
    same = same_then s slot words new (set_local x y new) st.same (set_named s slot x y new free);
    place = word_other x y new (local_word s slot) ne ∙ st.place;
  }

  not_test : local_word s slot ≢ test_word s
  not_test = λ e. omega (arith, d_is, e, params)

  stored_next : (m : Memory) (ws : List ℕ) (y to : ℕ) → y < 2 ^ 64 → to ≡ h.alloc + 8 * length ws → Stored m ws
      → Stored (store_bytes 8 m to y) (ws ++ y ∷ [])
  stored_next m ws y to small e st = record {
    held = stored_behind m h.alloc to y ws small e st.held;
    below = λ i lt. stored_outside 8 m to y i (inl (omega (arith, e, lt))) ∙ st.below i lt;
  }

  -- the next word is stored
  pub stores_far : (b : LowSource) (y offset : ℕ) (m : Memory) (ws : List ℕ) (new : Locals) (k : Code)
      → ((now : Locals) → Changes (test_word s) new now → word_of now b ≡ Some y) → y < 2 ^ 64 → Stored m ws
      → Storing new → offset ≡ 8 * length ws → h.alloc + offset + 8 ≤ scene.program.setting.top
      → ((m' : Memory) (now : Locals) → Stored m' (ws ++ y ∷ []) → Storing now → Changes (test_word s) new now
      → On m' now k)
      → On m new (store_far (test_word s) (local_word s slot) b offset k)
  stores_far b y offset m ws new k is small st ing e fits go = by_size (nat_lt offset 2048) refl
    where
      to : ℕ
      to = h.alloc + offset

      may : may_store scene.program.setting.region scene.program.setting.top (h.alloc + offset) ≡ true
      may =
          storable scene.program.setting.region scene.program.setting.top (h.alloc + offset) (omega (arith, even, e))
          (omega (arith, filled.ends, scene.program.begins)) fits

      top : h.alloc + offset < 2 ^ 64
      top = omega (arith, fits, scene.program.placed.top)

      by_size : (b' : Bool) → nat_lt offset 2048 ≡ b'
          → On m new (store_far (test_word s) (local_word s slot) b offset k)
      by_size true q =
          subst (λ c. On m new (if c then Store b (Word (local_word s slot)) offset k
          else Compute Plus (test_word s) (Word (local_word s slot)) (Number offset)
          (Store b (Word (test_word s)) 0 k))) (sym q)
          (stores scene.program.setting scene.P scene.Q (calm_by m ws st) h.alloc y (is new (λ j ne. refl)) ing.place
          may top
          (go (store_bytes 8 m (h.alloc + offset) y) new (stored_next m ws y (h.alloc + offset) small
          (ap (λ n. h.alloc + n) e) st) ing (λ j ne. refl)))
      by_size false q =
          let now = set_local (test_word s) (h.alloc + offset) new in
          let none : h.alloc + offset ≡ h.alloc + offset + 0 = omega arith in
          subst (λ c. On m new (if c then Store b (Word (local_word s slot)) offset k
          else Compute Plus (test_word s) (Word (local_word s slot)) (Number offset)
          (Store b (Word (test_word s)) 0 k))) (sym q)
          (computes scene.program.setting scene.P scene.Q (calm_by m ws st) h.alloc (offset % 2 ^ 64) (h.alloc + offset)
          ing.place refl (added h.alloc offset top) (omega (arith, room, params))
          (stores scene.program.setting scene.P scene.Q (calm_by m ws st) (h.alloc + offset) y
          (is now (λ j ne. word_other (test_word s) (h.alloc + offset) new j ne))
          (word_here (test_word s) (h.alloc + offset) new)
          (subst (λ n. may_store scene.program.setting.region scene.program.setting.top n ≡ true) none may)
          (omega (arith, top))
          (go (store_bytes 8 m (h.alloc + offset + 0) y) now
          (stored_next m ws y (h.alloc + offset + 0) small (omega (arith, e)) st)
          (storing_set (test_word s) (h.alloc + offset) new t_free not_test ing)
          (λ j ne. word_other (test_word s) (h.alloc + offset) new j ne))))

  -- at a near place
  stores_at : (b : LowSource) (y offset : ℕ) (m : Memory) (ws : List ℕ) (new : Locals) (k : Code)
      → word_of new b ≡ Some y → y < 2 ^ 64 → Stored m ws → Storing new → offset ≡ 8 * length ws
      → h.alloc + offset + 8 ≤ scene.program.setting.top
      → ((m' : Memory) → Stored m' (ws ++ y ∷ []) → On m' new k)
      → On m new (Store b (Word (local_word s slot)) offset k)
  stores_at b y offset m ws new k is small st ing e fits go =
      let may = storable scene.program.setting.region scene.program.setting.top (h.alloc + offset)
      (omega (arith, even, e))
      (omega (arith, filled.ends, scene.program.begins)) fits in
      stores scene.program.setting scene.P scene.Q (calm_by m ws st) h.alloc y is ing.place may
      (omega (arith, fits, scene.program.placed.top))
      (go (store_bytes 8 m (h.alloc + offset) y) (stored_next m ws y (h.alloc + offset) small
      (ap (λ n. h.alloc + n) e) st))

  -- what is captured
  pub captured_stored : (os : List Operand) (i : ℕ) (m : Memory) (ws : List ℕ) (new : Locals) (k : Code)
      → operands_bound s.captured count slot os ≡ true → length ws ≡ 2 + i → Stored m ws → Storing new
      → h.alloc + 16 + 8 * i + 8 * length os ≤ scene.program.setting.top
      → ((cs : List ℕ) (m' : Memory) (now : Locals)
      → CarryAll scene objects (in_row (values locals group os)) cs → Stored m' (ws ++ cs) → Storing now → On m' now k)
      → On m new (store_captured s (local_word s slot) i os k)
  captured_stored [] i m ws new k bound long st ing fits go =
      go [] m new tt (record { held = subst (HoldsWords m h.alloc) (sym (append-nil ws)) st.held; below = st.below })
      ing
  captured_stored (o ∷ os) i m ws new k bound long st ing fits go =
      let both = and_true (operand_bound s.captured count slot o) (operands_bound s.captured count slot os) bound in
      let x = operand_word s 0 in
      let hm : Heap = record h { memory = m } in
      fetch_reads scene world hm allowed objects (filled_by m ws st) waiting size frames_fit rests s count group slot
      locals o x both.0 (omega (arith, room, params)) new
      (knows_same scene.program.setting scene.program.l scene.program.run scene.program.procs scene.program.answer
      scene.program.meaning scene.program.laws scene.places objects
      s count
      group slot locals words new ing.same knows)
      (store_far (test_word s) (local_word s slot) (found s x o) (captured_offset i)
      (store_captured s (local_word s slot) (suc i) os k))
      (λ w now carried is changed.
      let free : IsFree s slot x = Between (omega arith) (omega arith) in
      let ing' : Storing now = record {
        same = same_then s slot words new now ing.same (λ j named. changed j (free_other s slot x j free named));
        place = changed (local_word s slot) (λ e. omega (arith, d_is, e, params)) ∙ ing.place;
      } in
      stores_far (found s x o) w (captured_offset i) m ws now (store_captured s (local_word s slot) (suc i) os k)
      (λ last changed'.
      found_same scene world hm allowed objects (filled_by m ws st) waiting size frames_fit rests s count group slot
      locals o x both.0 now last (λ j named. changed' j (free_other s slot (test_word s) j t_free named))
      (changed' x (λ e. omega (arith, e))) ∙ is)
      (carried_small scene.program.l scene.program.setting.address scene.program.procs scene.program.meaning
      scene.program.laws scene.places objects
      scene.program.setting
      scene.program.placed h filled (value locals group o) w carried) st ing' (omega (arith, long))
      (omega (arith, fits))
      (λ m' last st' ing'' changed'.
      captured_stored os (suc i) m' (ws ++ w ∷ []) last k both.1
      (length-append ws (w ∷ []) ∙ omega (arith, long)) st' ing'' (omega (arith, fits))
      (λ cs m'' end all st'' ing'''.
      go (w ∷ cs) m'' end (carried, all) (record {
        held = subst (HoldsWords m'' h.alloc) (append_assoc ws (w ∷ []) cs) st''.held;
        below = st''.below;
      }) ing''')))

  -- the functions behind the first
  pub others_stored : (captured first i n : ℕ) (m : Memory) (ws : List ℕ) (new : Locals) (k : Code)
      → length ws ≡ 2 + captured + 2 * i → Stored m ws → Storing new
      → h.alloc + 16 + 8 * captured + 16 * i + 16 * n ≤ scene.program.setting.top
      → ((j : ℕ) → j < n → (p : Proc) × (slice_get scene.program.setting.procs (first + suc (i + j)) ≡ Some p))
      → ((j : ℕ) (p : Proc) → slice_get scene.program.setting.procs j ≡ Some p
      → scene.program.setting.address j < 2 ^ 64)
      → ((m' : Memory) (now : Locals) → Stored m' (ws ++ other_words scene.program.setting.address first i n)
      → Storing now
      → On m' now k)
      → On m new (store_others s (local_word s slot) captured first (suc i) n k)
  others_stored captured first i zero m ws new k long st ing fits procs small go =
      go m new (record { held = subst (HoldsWords m h.alloc) (sym (append-nil ws)) st.held; below = st.below }) ing
  others_stored captured first i (suc n) m ws new k long st ing fits procs small go =
      let x = operand_word s 0 in
      let free : IsFree s slot x = Between (omega arith) (omega arith) in
      let code = scene.program.setting.address (first + suc i) in
      let next = store_others s (local_word s slot) captured first (suc (suc i)) n k in
      let p = procs 0 (omega arith) in
      let same : first + suc (i + 0) ≡ first + suc i = omega arith in
      stores_far (Number (word_header (kind_number Closure) 1)) (closure_header 1)
      (function_offset captured (suc i)) m ws new
      (CodeOf x (first + suc i)
      (store_far (test_word s) (local_word s slot) (Word x) (function_offset captured (suc i) + 8) next))
      (λ now changed. refl) (omega arith) st ing (omega (arith, long)) (omega (arith, fits))
      (λ m' now st' ing' changed.
      code_addresses scene.program.setting scene.P scene.Q (calm_by m' (ws ++ closure_header 1 ∷ []) st') p.0
      (ap (slice_get scene.program.setting.procs) (sym same) ∙ p.1) (omega (arith, room, params))
      (stores_far (Word x) code (function_offset captured (suc i) + 8) m' (ws ++ closure_header 1 ∷ [])
      (set_local x code now) next
      (λ last changed'. changed' x (λ e. omega (arith, e)) ∙ word_here x code now)
      (small (first + suc i) p.0 (ap (slice_get scene.program.setting.procs) (sym same) ∙ p.1)) st'
      (storing_set x code now free (λ e. omega (arith, d_is, e, params)) ing')
      (let z = length-append ws (closure_header 1 ∷ []) in omega (arith, z, long)) (omega (arith, fits))
      (λ m'' last st'' ing'' changed'.
      others_stored captured first (suc i) n m'' ((ws ++ closure_header 1 ∷ []) ++ code ∷ []) last k
      (let z = length-append ws (closure_header 1 ∷ []) in
      let y = length-append (ws ++ closure_header 1 ∷ []) (code ∷ []) in omega (arith, z, y, long)) st'' ing''
      (omega (arith, fits))
      (λ j lt. let q = procs (suc j) (omega (arith, lt)) in
      let e : first + suc (i + suc j) ≡ first + suc (suc i + j) = omega arith in
      (q.0, ap (slice_get scene.program.setting.procs) (sym e) ∙ q.1)) small
      (λ m3 end st3 ing3. go m3 end (record {
        held = subst (HoldsWords m3 h.alloc) (twice ws (closure_header 1) code
            (other_words scene.program.setting.address first (suc i) n)) st3.held;
        below = st3.below;
      }) ing3))))
    where
      twice : (xs : List ℕ) (a b : ℕ) (ys : List ℕ) → ((xs ++ a ∷ []) ++ b ∷ []) ++ ys ≡ xs ++ a ∷ b ∷ ys
      twice xs a b ys = append_assoc (xs ++ a ∷ []) (b ∷ []) ys ∙ append_assoc xs (a ∷ []) (b ∷ ys)

  -- ---- the local names of the functions behind the first

  pub others_named : (hm : Heap) → Calm scene.program.setting scene.P scene.Q size waiting world hm → (captured i n : ℕ)
      (new : Locals)
      (k : Code) → new (local_word s slot) ≡ Some h.alloc → slot + suc i + n + 10 ≤ size
      → h.alloc + 16 + 8 * captured + 16 * i + 16 * n < 2 ^ 64
      → ((now : Locals) → ((x : ℕ) → x < slot + suc i + 10 → now x ≡ new x)
      → ((j : ℕ) → j < n
      → now (slot + suc (i + j) + 10) ≡ Some (h.alloc + function_offset captured (suc (i + j))))
      → Arrives scene (at world hm waiting size rests now k))
      → Arrives scene (at world hm waiting size rests new (name_others s slot captured (suc i) n k))
  others_named hm calm captured i zero new k place fits small go =
      go new (λ x lt. refl) (λ j lt. absurd (omega (arith, lt)))
  others_named hm calm captured i (suc n) new k place fits small go =
      let x = local_word s (slot + suc i) in
      let x_is : x ≡ slot + suc i + 10 = local_high s (slot + suc i) (omega (arith, params)) in
      let w = h.alloc + function_offset captured (suc i) in
      computes scene.program.setting scene.P scene.Q calm h.alloc (function_offset captured (suc i) % 2 ^ 64) w place
      refl
      (added h.alloc (function_offset captured (suc i)) (omega (arith, small))) (omega (arith, x_is, fits))
      (others_named hm calm captured (suc i) n (set_local x w new) k
      (word_other x w new (local_word s slot) (λ e. omega (arith, e, x_is, d_is)) ∙ place) (omega (arith, fits))
      (omega (arith, small))
      (λ now same set. go now
      (λ y lt. same y (omega (arith, lt)) ∙ word_other x w new y (λ e. omega (arith, e, x_is, lt)))
      (λ j lt. by_place now same set x_is j lt)))
    where
      w : ℕ
      w = h.alloc + function_offset captured (suc i)

      by_place : (now : Locals)
          → ((x : ℕ) → x < slot + suc (suc i) + 10 → now x ≡ set_local (local_word s (slot + suc i)) w new x)
          → ((j : ℕ) → j < n
          → now (slot + suc (suc i + j) + 10) ≡ Some (h.alloc + function_offset captured (suc (suc i + j))))
          → local_word s (slot + suc i) ≡ slot + suc i + 10 → (j : ℕ) → j < suc n
          → now (slot + suc (i + j) + 10) ≡ Some (h.alloc + function_offset captured (suc (i + j)))
      by_place now same set x_is zero lt =
          let e : i + 0 ≡ i = omega arith in
          ap (λ z. now (slot + suc z + 10)) e
          ∙ (ap now (sym x_is)
          ∙ (same (local_word s (slot + suc i)) (omega (arith, x_is))
          ∙ (word_here (local_word s (slot + suc i)) w new
          ∙ ap (λ z. Some (h.alloc + function_offset captured (suc z))) (sym e))))
      by_place now same set x_is (suc j) lt =
          let e : i + suc j ≡ suc i + j = omega arith in
          ap (λ z. now (slot + suc z + 10)) e
          ∙ (set j (omega (arith, lt)) ∙ ap (λ z. Some (h.alloc + function_offset captured (suc z))) (sym e))

  -- ---- all of it

  module _ (first others : ℕ) (captured : List Operand)
      (bound : operands_bound s.captured count slot captured ≡ true) (deep : slot + suc others + 10 ≤ size)
      (narrow : suc (length captured) < 4294967296) (few : others < 4294967296)
      (stand : (j : ℕ) → j < suc others
      → (p : Proc) × (slice_get scene.program.setting.procs (first + j) ≡ Some p))
      (small : (j : ℕ) (p : Proc) → slice_get scene.program.setting.procs j ≡ Some p
      → scene.program.setting.address j < 2 ^ 64)
      (members : (place : ℕ) → place < suc others
      → IsMember scene.program.procs first (suc others) (length captured) place)
      (room_asked : scene.allowed world (h.words + group_words (length captured) others)) where
    abbrev made : Group scene.program.meaning.Cast
    made = new_group first (values locals group captured)

    abbrev bigger : List ℕ → List Object
    bigger cs = objects ++ group_objects scene.program.setting.address first others cs

    -- a group was made: its functions have their local names
    pub record MadeGroup (cs : List ℕ) (h' : Heap) (now : Locals) : Type 0 where
      pub all_filled : Fills scene.program
          (bigger cs) h'
      pub asked : scene.allowed world h'.words
      pub below : (i : ℕ) → i < h.alloc → h'.memory i ≡ h.memory i
      pub same : SameNamed s slot words now
      pub local : (i : ℕ) → i < slot + suc others → (w : ℕ) × (now (local_word s i) ≡ Some w)
          × Carries scene (bigger cs) (set_group locals slot (suc others) made i) w

    values_long : (os : List Operand) → length (values locals group os) ≡ length os
    values_long [] = refl
    values_long (o ∷ os) = ap suc (values_long os)

    module _ (cs : List ℕ) (carried : CarryAll scene objects (in_row (values locals group captured)) cs) where
      long : length cs ≡ length captured
      long =
          as_many scene.program.l scene.program.setting.address scene.program.procs scene.program.meaning
          scene.program.laws scene.places objects
          (values locals group captured) cs carried
          ∙ values_long captured

      group_stands : IsGroup scene.program.l scene.program.setting.address scene.program.procs scene.program.meaning
          scene.places (bigger cs) first
          h.alloc (suc others) cs
      group_stands = record {
        members = λ place lt. subst (λ n. IsMember scene.program.procs first (suc others) n place) (sym long)
            (members place lt);
        leads = leader_added scene.program.l scene.program.setting.address objects first others cs h.alloc filled.ends;
        others = λ i lt.
            other_added scene.program.l scene.program.setting.address objects first others cs h.alloc filled.ends i
            (omega (arith, lt));
      }

      member_carried : (j : ℕ) → j < suc others
          → Carries scene (bigger cs) (member made j) (h.alloc + function_offset (length cs) j)
      member_carried j lt = (
        h.alloc,
        suc others,
        cs,
        refl,
        lt,
        group_stands,
        all_later scene.program.l scene.program.setting.address scene.program.procs scene.program.meaning
            scene.program.laws scene.places objects
            (group_objects scene.program.setting.address first others cs) (in_row (values locals group captured)) cs
            carried,
      )

      group_slot : (i place : ℕ) → place ≡ slot + i → i < suc others
          → set_group locals slot (suc others) made place ≡ member made i
      group_slot i place e lt =
          let from : nat_le slot place ≡ true = le_true slot place (omega (arith, e)) in
          let to : nat_lt place (slot + suc others) ≡ true =
          lt_true place (slot + suc others) (omega (arith, e, lt)) in
          let back : place - slot ≡ i = omega (arith, e) in
          ap₂ (λ b c. cond (b && c) (member made (place - slot)) (locals place)) from to ∙ ap (member made) back

      group_below : (i : ℕ) → i < slot → set_group locals slot (suc others) made i ≡ locals i
      group_below i lt =
          let b : nat_le slot i ≡ false = le_false slot i lt in
          ap (λ c. cond (c && nat_lt i (slot + suc others)) (member made (i - slot)) (locals i)) b

      names_made : (new now : Locals) → SameNamed s slot words new → new (local_word s slot) ≡ Some h.alloc
          → ((x : ℕ) → x < slot + 1 + 10 → now x ≡ new x)
          → ((j : ℕ) → j < others
          → now (slot + suc j + 10) ≡ Some (h.alloc + function_offset (length captured) (suc j)))
          → (i : ℕ) → i < slot + suc others → (w : ℕ) × (now (local_word s i) ≡ Some w)
          × Carries scene (bigger cs) (set_group locals slot (suc others) made i) w
      names_made new now same place low high i lt = by_order (nat_lt i slot) refl
        where
          at_place : (j : ℕ) → i ≡ slot + j → (w : ℕ) × (now (local_word s i) ≡ Some w)
              × Carries scene (bigger cs) (set_group locals slot (suc others) made i) w
          at_place zero e =
              let x : i ≡ slot = omega (arith, e) in
              let none : h.alloc ≡ h.alloc + function_offset (length cs) 0 = omega arith in (
                h.alloc + function_offset (length cs) 0,
                ap (λ n. now (local_word s n)) x
                    ∙ (low (local_word s slot) (omega (arith, d_is)) ∙ (place ∙ ap Some none)),
                subst (λ v. Carries scene (bigger cs) v (h.alloc + function_offset (length cs) 0))
                    (sym (group_slot 0 i e (omega arith))) (member_carried 0 (omega arith)),
              )
          at_place (suc j) e =
              let x : local_word s i ≡ slot + suc j + 10 =
              local_high s i (omega (arith, e, params)) ∙ omega (arith, e) in (
                h.alloc + function_offset (length cs) (suc j),
                ap now x
                    ∙ (high j (omega (arith, e, lt))
                    ∙ ap (λ n. Some (h.alloc + function_offset n (suc j))) (sym long)),
                subst (λ v. Carries scene (bigger cs) v (h.alloc + function_offset (length cs) (suc j)))
                    (sym (group_slot (suc j) i e (omega (arith, e, lt))))
                    (member_carried (suc j) (omega (arith, e, lt))),
              )

          by_order : (b : Bool) → nat_lt i slot ≡ b → (w : ℕ) × (now (local_word s i) ≡ Some w)
              × Carries scene (bigger cs) (set_group locals slot (suc others) made i) w
          by_order true e =
              let less : i < slot = grind (arith, e) in
              let z = knows.local i less in
              let named = named_local s slot i less in (
                z.0,
                low (local_word s i) (below_place (local_word s i) named) ∙ (same (local_word s i) named ∙ z.1),
                subst (λ v. Carries scene (bigger cs) v z.0) (sym (group_below i less))
                    (later scene.program.l scene.program.setting.address scene.program.procs scene.program.meaning
                    scene.program.laws scene.places objects
                    (group_objects scene.program.setting.address first others cs) (locals i) z.0 z.2),
              )
            where
              below_place : (x : ℕ) → Named s slot x → x < slot + 1 + 10
              below_place x (OwnName p) = omega (arith, p)
              below_place x (LowName p q) = omega (arith, q, params)
              below_place x (HighName p q) = omega (arith, q)
          by_order false e = at_place (i - slot) (let more : slot ≤ i = grind (arith, e) in omega (arith, more))

    abbrev Makes : Code → Type 0
    Makes k =
        (cs : List ℕ) (h' : Heap) (now : Locals) → MadeGroup cs h' now
        → Arrives scene (at world h' waiting size rests now k)

    abbrev total : ℕ
    total = group_words (length captured) others

    abbrev taking : Code → Code
    taking k = Take (Number (group_words (length captured) others)) (name_others s slot (length captured) 1 others k)

    fits_word : group_words (length captured) others % 2 ^ 64 ≡ group_words (length captured) others
    fits_word = mod-eq_of_lt (omega (arith, narrow, few))

    -- all words are stored
    takes_group : (k : Code) → Makes k → h.alloc + 8 * total ≤ scene.program.setting.top → (cs : List ℕ) (m : Memory)
        (new : Locals) → CarryAll scene objects (in_row (values locals group captured)) cs
        → Stored m (closure_header (suc (length captured)) ∷ scene.program.setting.address first
        ∷ (cs ++ other_words scene.program.setting.address first 0 others))
        → Storing new → On m new (taking k)
    takes_group k go fits cs m new carried st ing =
        let size_is = long cs carried in
        let bytes = group_bytes scene.program.setting.address first others cs in
        let more = group_objects scene.program.setting.address first others cs in
        let heads = subst (λ n. HoldsWords m h.alloc (closure_header (suc n) ∷ scene.program.setting.address first
        ∷ (cs ++ other_words scene.program.setting.address first 0 others))) (sym size_is) st.held in
        let h' : Heap = record { memory = m; alloc = h.alloc + 8 * total; words = h.words + total } in
        let all : Fills scene.program (bigger cs) h'
        =
        filled_more scene.program.meaning scene.program.setting scene.program.l scene.program.placed objects more h m
        (h.alloc + 8 * total)
        (h.words + total) filled
        st.below (group_holds scene.program.setting.address m h.alloc first others cs heads)
        (group_kept scene.program.meaning scene.program.laws scene.program.l scene.program.number
        scene.program.setting.address objects first others cs
        filled.keeps) (omega (arith, bytes, size_is)) fits in
        takes scene.program.setting scene.P scene.Q
        (calm_by m (closure_header (suc (length captured)) ∷ scene.program.setting.address first
        ∷ (cs ++ other_words scene.program.setting.address first 0 others)) st) total
        (ap Some fits_word) fits
        (others_named h' (scene.calm world h' (bigger cs) all room_asked size waiting frames_fit) (length captured) 0
        others new k ing.place
        (omega (arith, deep))
        (omega (arith, fits, scene.program.placed.top))
        (λ now low high. go cs h' now (record {
          all_filled = all;
          asked = room_asked;
          below = st.below;
          same = λ j named. low j (below_place j named) ∙ ing.same j named;
          local = names_made cs carried new now ing.same ing.place low (λ j lt.
              let e : 0 + j ≡ j = omega arith in
              subst (λ n. now (slot + suc n + 10) ≡ Some (h.alloc + function_offset (length captured) (suc n))) e
              (high j lt));
        })))
      where
        below_place : (x : ℕ) → Named s slot x → x < slot + 1 + 10
        below_place x (OwnName p) = omega (arith, p)
        below_place x (LowName p q) = omega (arith, q, params)
        below_place x (HighName p q) = omega (arith, q)

    pub makes_group : (k : Code)
        → scene.Q.floor ≤ code_price scene.program.setting.procs size (make_group s slot first others captured k)
        - step_price scene.program.setting.procs size (make_group s slot first others captured k)
        + codes_price scene.program.setting.procs size rests → Makes k
        → Arrives scene (at world h waiting size rests words (make_group s slot first others captured k))
    makes_group k enough go =
        requests scene.program.setting scene.P scene.Q (scene.calm world h objects filled allowed size waiting
        frames_fit)
        total (ap Some fits_word) d_less
        (scene.calm world (record h { words = h.words + total }) objects
        (filled_above scene.program.meaning scene.program.setting scene.program.l scene.program.placed objects h
        h.memory (h.words + total) filled
        (λ i l. refl)) room_asked size waiting frames_fit) (omega (arith, enough))
        (λ fits. heads fits (set_local (local_word s slot) h.alloc words)
        (record { held = tt; below = λ i lt. refl }) (record {
          same = set_named s slot (local_word s slot) h.alloc words d_free;
          place = word_here (local_word s slot) h.alloc words;
        }))
      where
        x : ℕ
        x = operand_word s 0

        x_free : IsFree s slot (operand_word s 0)
        x_free = Between (omega arith) (omega arith)

        behind : Code
        behind = store_captured s (local_word s slot) 0 captured (
            store_others s (local_word s slot) (length captured) first 1 others (taking k))

        later_words : h.alloc + 8 * total ≤ scene.program.setting.top → (m : Memory) (new : Locals)
            → Stored m (closure_header (suc (length captured)) ∷ scene.program.setting.address first ∷ []) → Storing new
            → On m new behind
        later_words fits m new st ing =
            captured_stored captured 0 m (closure_header (suc (length captured)) ∷ scene.program.setting.address first ∷
            []) new
            (store_others s (local_word s slot) (length captured) first 1 others (taking k)) bound refl st ing
            (omega (arith, fits))
            (λ cs m' now carried st' ing'.
            let size_is = long cs carried in
            others_stored (length captured) first 0 others m'
            (closure_header (suc (length captured)) ∷ scene.program.setting.address first ∷ cs) now (taking k)
            (omega (arith, size_is)) st' ing' (omega (arith, fits)) (λ j lt.
            let p = stand (suc j) (omega (arith, lt)) in
            let e : first + suc j ≡ first + suc (0 + j) = omega arith in
            (p.0, ap (slice_get scene.program.setting.procs) (sym e) ∙ p.1)) small
            (λ m'' last st'' ing''. takes_group k go fits cs m'' last carried st'' ing''))

        heads : h.alloc + 8 * total ≤ scene.program.setting.top → (new : Locals) → Stored h.memory [] → Storing new
            → On h.memory new (
            Store (Number (word_header (kind_number Closure) (suc (length captured)))) (Word (local_word s slot)) 0 (
            CodeOf (operand_word s 0) first (
            Store (Word (operand_word s 0)) (Word (local_word s slot)) 8 behind)))
        heads fits new st ing =
            let head = closure_header (suc (length captured)) in
            let code = scene.program.setting.address first in
            let head_is = ap Some (header_word 1 (suc (length captured)) (omega arith) narrow) in
            let p = stand 0 (omega arith) in
            let none : first + 0 ≡ first = omega arith in
            stores_at (Number (word_header (kind_number Closure) (suc (length captured)))) head 0 h.memory []
            new _ head_is
            (header_small 1 (suc (length captured)) (omega arith) narrow) st ing refl (omega (arith, fits))
            (λ m st'.
            code_addresses scene.program.setting scene.P scene.Q (calm_by m (head ∷ []) st') p.0
            (ap (slice_get scene.program.setting.procs) (sym none) ∙ p.1) (omega (arith, room, params))
            (stores_at (Word (operand_word s 0)) code 8 m (head ∷ []) (set_local (operand_word s 0) code new) behind
            (word_here (operand_word s 0) code new)
            (small first p.0 (ap (slice_get scene.program.setting.procs) (sym none) ∙ p.1)) st'
            (storing_set (operand_word s 0) code new x_free (λ e. omega (arith, d_is, e, params)) ing) refl
            (omega (arith, fits))
            (λ m' st''. later_words fits m' (set_local (operand_word s 0) code new) st''
            (storing_set (operand_word s 0) code new x_free (λ e. omega (arith, d_is, e, params)) ing))))
