-- The operations of a body: moves, tuples and their parts.
use Rattle.low_ir.specs.Prices.{code_price, codes_price}
use Rattle.std.proofs.Common.{◌≡◌, ◌≢◌, ◌⊎◌, inl, inr, ℕ, suc, ◌+◌, ◌*◌, ◌^◌, ◌%◌, ◌<◌, ◌≤◌, true}
use Rattle.std.proofs.Common.{List, [], ◌∷◌, ◌++◌, length, Some, refl, sym, ap, ap₂, ◌∙◌, subst, arith, cond}
use Rattle.std.proofs.Common.{eq-eqb, pos}
use Rattle.std.specs.Prelude.{slice_get, nat_lt, nat_le, ◌&&◌, if◌then◌else◌}
use Rattle.grift_base.specs.World.{WorldState}
use Rattle.machine_words.specs.Memory.{load_bytes}
use Rattle.machine_words.specs.Conditions.{holds}
use Rattle.low_ir.specs.Steps.{may_load}
use Rattle.std.specs.Int.{w64, cast_unsigned}
use Rattle.machine_words.specs.declared.conditions.Cond.TheVariants.{Eq}
use Rattle.low_ir.specs.declared.code.WordOp.TheVariants.{And}
use Rattle.low_ir.specs.declared.code.LowSource.{LowSource}
use Rattle.low_ir.specs.declared.code.LowSource.TheVariants.{Word, Number}
use Rattle.low_ir.specs.Procedures.{Code, Done, Set, Load, Build, Compute, If, Call}
use Rattle.low_ir.specs.Steps.{Locals, set_local, store_words}
use Rattle.low_ir.specs.Run.{Waiting, word_of, words_of, and_more}
use Rattle.object_layout.specs.declared.kinds.Kind.TheVariants.{Tuple as TupleKind}
use Rattle.cast_modes.specs.RunValues.{RunTuple, in_row, row_list}
use Rattle.flat_ir.specs.declared.code.Operand.{Operand}
use Rattle.flat_ir.specs.declared.code.Operation.TheVariants.{Move, Tuple, Proj}
use Rattle.flat_ir.specs.Closed.{operand_bound, operands_bound, operation_bound}
use Rattle.flat_ir.specs.Machine.{FlatValue, FlatValues, Group, Locals as FlatLocals, value, values}
use Rattle.object_layout.specs.Kinds.{kind_number}
use Rattle.coercion_norm.specs.Objects.{Object, Fixed, bytes_of, bytes_of_all, object_at}
use Rattle.object_layout.specs.Words.{kind_mask}
use Rattle.low_ir.specs.Frames.{frame_room, waiting_room}
use Rattle.rt_cast.specs.States.{Heap}
use Rattle.lowered_code.specs.declared.numbering.Shape.{Shape}
use Rattle.lowered_code.specs.Numbering.{operand_word, test_word}
use Rattle.lowered_code.specs.Emit.{found, found_all, of_kind, part, perform}
use Rattle.lowered_code.specs.Emit.{header as word_header}
use Rattle.lower.proofs.heap.Objects.{object_behind, stored_words, bytes_below, tuple_header}
use Rattle.lower.proofs.heap.Filled.{WordThere, word_there, header_there, filled_more, filled_above, in_list}
use Rattle.lower.proofs.heap.CarriedLater.{as_many, all_small, part_carried, all_later}
use Rattle.lower.proofs.words.Arithmetic.{header_word, header_small, kind_read, header_is}
use Rattle.lower.proofs.words.Steps.{at, Calm, sets_word, computes, loads, builds, if_true, falls_through}
use Rattle.lower.proofs.words.Steps.{lt_true}
use Rattle.lower.proofs.words.Steps.{Moves, loads_first, comes_on}
use Rattle.lower.proofs.words.Scene.{Scene, Carries, CarryAll, Arrives, Fills}
use Rattle.lower.proofs.simulation.RelationKept.{word_here, word_other, Named, OwnName, LowName, HighName}
use Rattle.lower.proofs.simulation.RelationKept.{SameNamed}
use Rattle.lower.proofs.words.Operands.{Changes, ChangesFrom, KnowsHere, fetch_reads, fetch_all_reads}
use Rattle.lower.proofs.words.Operands.{and_true}
use Rattle.lower.proofs.words.Operands.{found_same}

-- all words but one and those to compute in are the same
abbrev pub Touches : Shape → ℕ → Locals → Locals → Type 0
Touches s d words new = (j : ℕ) → j ≢ d → (j ≤ s.params) ⊎ (s.params + 10 ≤ j) → new j ≡ words j

pub beside : (s : Shape) (low n j : ℕ) → s.params < low → low + n ≤ s.params + 10
    → (j ≤ s.params) ⊎ (s.params + 10 ≤ j) → (j < low) ⊎ (low + n ≤ j)
beside s low n j a b (inl p) = inl (omega (arith, p, a))
beside s low n j a b (inr p) = inr (omega (arith, p, b))

pub not_computed : (s : Shape) (d j : ℕ) → s.params < d → d < s.params + 10 → (j ≤ s.params) ⊎ (s.params + 10 ≤ j)
    → j ≢ d
not_computed s d j a b (inl p) = λ e. omega (arith, p, a, e)
not_computed s d j a b (inr p) = λ e. omega (arith, p, b, e)

-- an object that stands behind the others
pub added_there : (region : ℕ) (objects : List Object) (o : Object) (rest : List Object) (at : ℕ)
    → at ≡ region + bytes_of_all objects → object_at (objects ++ o ∷ rest) region at ≡ Some o
added_there region objects o rest at e =
    object_behind objects (o ∷ rest) region at (omega (arith, e))
    ∙ ap (λ b. cond b (Some o) (object_at rest (region + bytes_of_all objects + bytes_of o) at))
    (eq-eqb at (region + bytes_of_all objects) e)

module _ (scene : Scene) (world : WorldState) (h : Heap) (allowed : scene.allowed world h.words)
    (objects : List Object) (filled : Fills scene.program objects h) (waiting : List Waiting) (size : ℕ)
    (frames_fit : frame_room size + waiting_room waiting ≤ scene.room) (rests : List Code)
    (s : Shape) (count : ℕ) (group : Group scene.program.meaning.Cast) (depth : ℕ)
    (locals : FlatLocals scene.program.meaning.Cast)
    (room : s.params + 10 ≤ size) (words : Locals)
    (knows : KnowsHere scene world h allowed objects filled waiting size frames_fit rests s count group depth locals
    words) where
  abbrev calm : Calm scene.program.setting scene.P scene.Q size waiting world h
  calm = scene.calm world h objects filled allowed size waiting frames_fit

  -- a value is put into a word, and no object is added
  abbrev pub Puts : ℕ → FlatValue scene.program.meaning.Cast → Code → Type 0
  Puts d v k =
      (w : ℕ) (new : Locals) → Carries scene objects v w → new d ≡ Some w → Touches s d words new
      → Arrives scene (at world h waiting size rests new k)

  -- a value is put into a word, where objects are added
  abbrev pub PutsMore : ℕ → FlatValue scene.program.meaning.Cast → Code → Type 0
  PutsMore d v k =
      (more : List Object) (h' : Heap) → Fills scene.program (objects ++ more) h'
      → ((i : ℕ) → i < h.alloc → h'.memory i ≡ h.memory i) → scene.allowed world h'.words → (w : ℕ) (new : Locals)
      → Carries scene (objects ++ more) v w → new d ≡ Some w → Touches s d words new
      → Arrives scene (at world h' waiting size rests new k)

  pub moves : (o : Operand) (d : ℕ) → operand_bound s.captured count depth o ≡ true → d < size → (k : Code)
      → Puts d (value locals group o) k
      → Arrives scene (at world h waiting size rests words (perform scene.program.run s d (Move o) k))
  moves o d bound lt k go =
      let t = operand_word s 0 in
      fetch_reads scene world h allowed objects filled waiting size frames_fit rests s count group depth locals o t
      bound
      (omega (arith, room)) words knows (Set d (found s t o) k)
      (λ w new carried is changed. sets_word scene.program.setting scene.P scene.Q calm w is lt
      (go w (set_local d w new) carried (word_here d w new)
      (λ j ne side. word_other d w new j ne ∙ changed j (not_computed s t j (omega arith) (omega arith) side))))

  pub makes_tuple : (os : List Operand) (d : ℕ) → operation_bound s.captured count depth (Tuple os) ≡ true → d < size
      → (k : Code) → scene.allowed world (h.words + suc (length os))
      → scene.Q.floor ≤ code_price scene.program.setting.procs size k + codes_price scene.program.setting.procs
      size rests
      → PutsMore d (RunTuple (in_row (values locals group os))) k
      → Arrives scene (at world h waiting size rests words (perform scene.program.run s d (Tuple os) k))
  makes_tuple os d bound lt k room_asked enough go =
      let parts = and_true (operands_bound s.captured count depth os) (nat_le 1 (length os) && nat_le (length os) 8)
      bound in
      let sizes = and_true (nat_le 1 (length os)) (nat_le (length os) 8) parts.1 in
      let least : 1 ≤ length os = grind (arith, sizes.0) in
      let most : length os ≤ 8 = grind (arith, sizes.1) in
      fetch_all_reads scene world h allowed objects filled waiting size frames_fit rests s count group depth locals os
      0 parts.0
      (omega (arith, most)) room words knows
      (Build d (Number (word_header (kind_number TupleKind) (length os)) ∷ found_all s 0 os) k)
      (λ ws new carried are changed. made parts.0 least most ws new carried are changed)
    where
      values_long : (os : List Operand) → length (values locals group os) ≡ length os
      values_long [] = refl
      values_long (o ∷ os) = ap suc (values_long os)

      made : operands_bound s.captured count depth os ≡ true → 1 ≤ length os → length os ≤ 8 → (ws : List ℕ)
          (new : Locals) → CarryAll scene objects (in_row (values locals group os)) ws
          → words_of new (found_all s 0 os) ≡ Some ws → ChangesFrom (operand_word s 0) (length os) words new
          → Arrives scene (at world h waiting size rests new
          (Build d (Number (word_header (kind_number TupleKind) (length os)) ∷ found_all s 0 os) k))
      made bound least most ws new carried are changed =
          let long : length ws ≡ length os = as_many scene.program.l scene.program.setting.address scene.program.procs
          scene.program.meaning scene.program.laws
          scene.places objects (values locals group os) ws carried ∙ values_long os in
          let head : (4 + 4294967296 * length os) % 2 ^ 64 ≡ tuple_header (length ws) =
          ap (λ n. (4 + 4294967296 * n) % 2 ^ 64) (sym long) ∙ header_word 4 (length ws) (omega arith)
          (omega (arith, long, most)) in
          let o : Object = Fixed (tuple_header (length ws)) ws in
          let small = all_small scene.program.l scene.program.setting.address scene.program.procs scene.program.meaning
          scene.program.laws scene.places objects
          scene.program.setting scene.program.placed h filled (in_row (values locals group os)) ws carried in
          let asked : scene.allowed world (h.words + suc (length ws)) =
          subst (λ n. scene.allowed world (h.words + suc n)) (sym long) room_asked in
          builds scene.program.setting scene.P scene.Q calm
          (tuple_header (length ws) ∷ ws) (ap₂ and_more (ap Some head) are) (omega (arith, long, most)) lt
          (scene.calm world (record h { words = h.words + suc (length ws) }) objects
          (filled_above scene.program.meaning scene.program.setting scene.program.l scene.program.placed objects h
          h.memory (h.words + suc (length ws))
          filled (λ i l. refl)) asked size waiting frames_fit) enough
          (λ fits. go (o ∷ []) (record {
            memory = store_words (tuple_header (length ws) ∷ ws) h.alloc h.memory;
            alloc = h.alloc + 8 * length (tuple_header (length ws) ∷ ws);
            words = h.words + length (tuple_header (length ws) ∷ ws);
          }) (filled_more scene.program.meaning scene.program.setting scene.program.l scene.program.placed objects
          (o ∷ []) h
          (store_words (tuple_header (length ws) ∷ ws) h.alloc h.memory)
          (h.alloc + 8 * length (tuple_header (length ws) ∷ ws))
          (h.words + length (tuple_header (length ws) ∷ ws)) filled
          (λ i l. bytes_below (tuple_header (length ws) ∷ ws) h.alloc h.memory i l) (
            stored_words (tuple_header (length ws) ∷ ws) h.alloc h.memory
                (header_small 4 (length ws) (omega arith) (omega (arith, long, most)), small),
            tt,
          ) (scene.program.laws.keeps_more scene.program.l objects scene.program.number o (record {
            kind = TupleKind;
            count = length ws;
            head = refl;
            long = omega arith;
            free = refl;
            allowed = within (length ws) (omega (arith, long, least)) (omega (arith, long, most));
          }) filled.keeps) (omega arith) fits) (λ i l. bytes_below (tuple_header (length ws) ∷ ws) h.alloc h.memory i l)
          asked
          h.alloc
          (set_local d h.alloc new) (
            ws,
            inr (added_there scene.program.l.region objects o [] h.alloc filled.ends),
            all_later scene.program.l scene.program.setting.address scene.program.procs scene.program.meaning
                scene.program.laws scene.places objects (o ∷ [])
                (in_row (values locals group os)) ws carried,
            omega (arith, long, most),
          ) (word_here d h.alloc new)
          (λ j ne side. word_other d h.alloc new j ne
          ∙ changed j (beside s (operand_word s 0) (length os) j (omega arith) (omega (arith, most)) side)))
        where
          within : (n : ℕ) → 1 ≤ n → n ≤ 8 → (nat_le 1 n && nat_le n 8) ≡ true
          within n a b = grind (arith, a, b)

  -- ---- tests of an object's kind

  same_number : (n : ℕ) → n < 256 → holds Eq n (n % 2 ^ 64) ≡ true
  same_number n lt = grind (arith, lt)

  -- the kind of the object at an address is tested, and it is this one
  after_load : (kind c : ℕ) (one other k : Code) (now : Locals) → kind < 256
      → ((new : Locals) → Changes (test_word s) now new
      → Arrives scene (at world h waiting size (k ∷ rests) new one))
      → Arrives scene (at world h waiting size rests (set_local (test_word s) (kind + 4294967296 * c) now) (
      Compute And (test_word s) (Word (test_word s)) (Number kind_mask) (
      If Eq (Word (test_word s)) (Number kind) one other k)))
  after_load kind c one other k now small go =
      let t = test_word s in
      let lt : t < size = omega (arith, room) in
      let head : ℕ = kind + 4294967296 * c in
      let first = set_local t head now in
      computes scene.program.setting scene.P scene.Q calm head kind_mask kind (word_here t head now) refl
      (kind_read kind c small) lt
      (if_true scene.program.setting scene.P scene.Q calm kind (kind % 2 ^ 64) (word_here t kind first) refl
      (same_number kind small)
      (go (set_local t kind first) (λ j ne. word_other t kind first j ne ∙ word_other t head now j ne)))

  pub is_of_kind : (o : LowSource) (x kind c : ℕ) (one other k : Code) (now : Locals) → kind < 256
      → word_of now o ≡ Some x
      → WordThere scene.program.meaning scene.program.setting scene.program.l scene.program.placed h.memory x
      (kind + 4294967296 * c)
      → ((new : Locals) → Changes (test_word s) now new
      → Arrives scene (at world h waiting size (k ∷ rests) new one))
      → Moves scene.program.setting scene.P scene.Q (at world h waiting size rests now (of_kind s o kind one other k))
  is_of_kind o x kind c one other k now small e there go =
      let head : ℕ = kind + 4294967296 * c in
      let none : x ≡ x + 0 = omega arith in
      loads_first scene.program.setting scene.P scene.Q calm x head e
      (subst (λ n. may_load scene.program.setting.top n ≡ true) none there.may)
      (subst (λ n. load_bytes 8 h.memory n ≡ head) none there.is) (let z = there.end in omega arith)
      (omega (arith, room)) (after_load kind c one other k now small go)

  -- a part of a bare tuple
  pub takes_part : (o : Operand) (i d : ℕ) → operand_bound s.captured count depth o ≡ true → d < size → (k : Code)
      → (vs : FlatValues scene.program.meaning.Cast) (v : FlatValue scene.program.meaning.Cast)
      → value locals group o ≡ RunTuple vs
      → slice_get (row_list vs) i ≡ Some v → Puts d v k
      → Arrives scene (at world h waiting size rests words (perform scene.program.run s d (Proj o (pos i)) k))
  takes_part o i d bound lt k vs v is get go =
      let t = operand_word s 0 in
      let a = found s t o in
      fetch_reads scene world h allowed objects filled waiting size frames_fit rests s count group depth locals o t
      bound
      (omega (arith, room)) words knows (part scene.program.run s d a (pos i) k)
      (λ x new carried found_is changed.
      taken x new (subst (λ u. Carries scene objects u x) is carried) found_is changed)
    where
      t : ℕ
      t = operand_word s 0

      a : LowSource
      a = found s (operand_word s 0) o

      other : Code
      other = Call d scene.program.run.project (found s (operand_word s 0) o ∷ Number i ∷ Number 1 ∷ Number 0 ∷ []) Done

      not_test : (j : ℕ) → Named s depth j → j ≢ test_word s
      not_test j (OwnName e) = λ z. omega (arith, z, e)
      not_test j (LowName p q) = λ z. omega (arith, z, q)
      not_test j (HighName p q) = λ z. omega (arith, z, p)

      taken : (x : ℕ) (new : Locals) → Carries scene objects (RunTuple vs) x → word_of new a ≡ Some x
          → Changes (operand_word s 0) words new
          → Arrives scene (at world h waiting size rests new (part scene.program.run s d a (pos i) k))
      taken x new c found_is changed =
          let p = part_carried scene.program.l scene.program.setting.address scene.program.procs scene.program.meaning
          scene.program.laws scene.places objects
          vs c.0 i v
          c.2 get in
          let less : i < length c.0 = in_list c.0 i p.0 p.1 in
          let short : nat_lt i 8 ≡ true = lt_true i 8 (omega (arith, less, c.3)) in
          let head = header_there scene.program.meaning scene.program.setting scene.program.l scene.program.placed
          objects h filled x
          (Fixed (tuple_header (length c.0)) c.0) c.1 in
          let there = word_there scene.program.meaning scene.program.setting scene.program.l scene.program.placed
          objects h filled x
          (tuple_header (length c.0)) c.0 c.1
          (suc i) p.0 (x + (8 + 8 * i)) p.1 (omega arith) in
          subst (λ b. Arrives scene (at world h waiting size rests new (
          if b then of_kind s a (kind_number TupleKind) (Load d a (8 + 8 * i) Done) other k
          else Call d scene.program.run.project (a ∷ Number (cast_unsigned w64 (pos i)) ∷ Number 1 ∷ Number 0 ∷ []) k)))
          (sym short)
          (comes_on scene.program.setting scene.P scene.Q (is_of_kind a x (kind_number TupleKind) (length c.0)
          (Load d a (8 + 8 * i) Done) other k new (omega arith) found_is
          (subst (WordThere scene.program.meaning scene.program.setting scene.program.l scene.program.placed h.memory x)
          (header_is 4 (length c.0))
          head)
          (λ last changed'.
          let same : SameNamed s depth new last = λ j named. changed' j (not_test j named) in
          let kept : last t ≡ new t = changed' t (λ e. omega (arith, e)) in
          let still = found_same scene world h allowed objects filled waiting size frames_fit rests s count group depth
          locals o t bound new last same kept in
          loads scene.program.setting scene.P scene.Q calm x p.0 (still ∙ found_is) there.may there.is
          (let z = there.end in omega arith) lt
          (falls_through scene.program.setting scene.P scene.Q calm (go p.0 (set_local d p.0 last) p.2
          (word_here d p.0 last)
          (λ j ne side. word_other d p.0 last j ne
          ∙ (changed' j (not_computed s (test_word s) j (omega arith) (omega arith) side)
          ∙ changed j (not_computed s t j (omega arith) (omega arith) side))))))))
