-- A value that no body waits for is the program's answer in both runs.
use Rattle.std.specs.Prelude.{◌≤◌}
use Rattle.std.proofs.Common.{◌≡◌, inl, inr, ℕ, zero, suc, ◌+◌, ◌*◌, ◌%◌, ◌^◌, ◌<◌, Bool, true, false, List}
use Rattle.std.proofs.Common.{[]}
use Rattle.std.proofs.Common.{◌∷◌, length, Option, Some, None, refl, sym, ap, ◌∙◌, subst, arith, pos}
use Rattle.std.specs.Prelude.{if◌then◌else◌, ◌&&◌, not}
use Rattle.std.specs.Int.{w64, cast_signed}
use Rattle.grift_base.specs.declared.environment.TheConstants.{END_CALL}
use Rattle.grift_base.specs.Types.{TypeRow, IntRow, BoolRow, UnitRow, DynRow, FunRow, TupleRow, RefRow, VectRow, is_dyn}
use Rattle.grift_base.specs.Types.{equal_heads, head_of, row_at, TypeHead, IntHead, BoolHead, UnitHead, DynHead}
use Rattle.grift_base.specs.World.{WorldState}
use Rattle.grift_base.specs.EnvironmentCall.{environment_call, ends as ends_call}
use Rattle.grift_base.specs.declared.verdicts.Answer.{Answer as AnAnswer}
use Rattle.grift_base.specs.declared.verdicts.AnswerKind.TheVariants.{Int, Bool as Truth, Unit as UnitKind, Function}
use Rattle.grift_base.specs.declared.verdicts.AnswerKind.TheVariants.{Tuple as TupleKind, Boxed, Vector}
use Rattle.grift_base.specs.declared.verdicts.Verdict.TheVariants.{Answer as AnswerVerdict}
use Rattle.grift_base.specs.declared.worlds.EnvEffect.TheVariants.{Ended as Answers}
use Rattle.run_laws.specs.Runs.{Verdict as EndsWith, Wrong}
use Rattle.low_ir.specs.declared.code.LowSource.{LowSource}
use Rattle.low_ir.specs.declared.code.LowSource.TheVariants.{Word, Number}
use Rattle.low_ir.specs.Procedures.{Code, Return as ReturnCode}
use Rattle.low_ir.specs.Steps.{Locals, no_locals, set_local}
use Rattle.low_ir.specs.Run.{LowState, word_of}
use Rattle.cast_modes.specs.AnswerTypes.{fits_type, run_head, row_has_head}
use Rattle.cast_modes.specs.RunValues.{RunInt, RunBool, RunUnit, RunFun, RunTuple, RunLoc, RunWrap, RunInject, shown}
use Rattle.cast_modes.specs.ValueSteps.{Return}
use Rattle.flat_ir.specs.Machine.{FlatValue, FlatStore, FlatState, flat_arity, flat_state_at}
use Rattle.std.proofs.lemmas.Nat.{and_mask}
use Rattle.grift_base.specs.Types.{TypeRows, VectHead, RefHead, parts_of}
use Rattle.machine_words.specs.declared.conditions.Cond.TheVariants.{Eq}
use Rattle.machine_words.specs.Memory.{load_bytes}
use Rattle.machine_words.specs.Conditions.{holds}
use Rattle.low_ir.specs.declared.code.WordOp.TheVariants.{And, Sra}
use Rattle.low_ir.specs.Operations.{compute}
use Rattle.low_ir.specs.Procedures.{Done, If}
use Rattle.low_ir.specs.Steps.{may_load}
use Rattle.coercion_norm.specs.Coercions.{rows_of}
use Rattle.coercion_norm.specs.Held.{TypesStand, There, HoldsType, type_object, rows_in, height_in}
use Rattle.coercion_norm.specs.ObjectsOfRows.{header, type_kind}
use Rattle.lowered_code.specs.Lowered.{show_kept, open_object, open_small}
use Rattle.object_layout.specs.Words.{kind_mask}
use Rattle.rt_cast.specs.DynWords.{small_dyn, IsDynBy}
use Rattle.rt_cast.proofs.Public.{SmallIs, small_is, tag_read, no_tag, untagged, eq_false, type_numbers}
use Rattle.lower.proofs.heap.Objects.{dyn_header}
use Rattle.lower.proofs.heap.Filled.{stands, word_there, header_there}
use Rattle.lower.proofs.words.Steps.{Comes, Calm, Goal, here, loads, computes, if_true, if_false}
use Rattle.lower.proofs.words.Steps.{falls_through}
use Rattle.lower.proofs.words.Steps.{left_of}
use Rattle.lower.proofs.words.Credits.{by_go}
use Rattle.lower.proofs.words.Services.{return_price}
use Rattle.lower.proofs.words.EmitPrices.{source_most, number_most}
use Rattle.low_ir.specs.Prices.{step_price, code_price}
use Rattle.low_ir.specs.Procedures.{Proc}
use Rattle.std.proofs.Common.{le_refl}
use Rattle.lower.proofs.simulation.RelationKept.{word_other}
use Rattle.coercion_norm.specs.Objects.{Object, Fixed}
use Rattle.low_ir.specs.Frames.{frame_room, waiting_room}
use Rattle.rt_cast.specs.States.{Heap}
use Rattle.lower.specs.Storage.{Filled}
use Rattle.lowered_code.specs.Lowered.{show_by, ends}
use Rattle.lower.specs.Relation.{entry_waiting}
use Rattle.lower.proofs.words.Steps.{at}
use Rattle.lower.proofs.words.Arithmetic.{word_read}
use Rattle.lower.proofs.simulation.RelationKept.{word_here}
use Rattle.lower.proofs.words.Operands.{and_true}
use Rattle.lower.proofs.simulation.Way.{Program, Seen, Stopping, Settled, Filling, Quietly}
use Rattle.lower.proofs.simulation.Gives.{CarriedHere}
use Rattle.lower.specs.CarriedValues.{CarriedIn}

-- showing an answer costs no more
show_price : (procs : List Proc) (row : TypeRow) → code_price procs 3 (show_by row) ≤ 370
show_price procs IntRow = omega arith
show_price procs BoolRow = omega arith
show_price procs UnitRow = omega arith
show_price procs DynRow = omega arith
show_price procs (FunRow parameters answer) = omega arith
show_price procs (TupleRow parts) = omega arith
show_price procs (RefRow content) = omega arith
show_price procs (VectRow content) = omega arith

calls_ending : (kind x labels : ℕ) (world : WorldState)
    → environment_call END_CALL kind x labels world ≡ record { effect = ends_call kind x; world = world }
unfolding environment_call
calls_ending kind x labels world = refl

pub true_false : {A : Type 0} → false ≡ true → A
true_false e = absurd (clash e)
  where
    clash : false ≡ true → ⊥
    clash h = cc

row_head : (types : TypeRows) (type : ℕ) (head : TypeHead) → row_has_head (row_at types type) head ≡ true
    → equal_heads head (head_of (rows_of types type)) ≡ true
row_head [] type head e = true_false e
row_head (x ∷ types) zero head e = e
row_head (x ∷ types) (suc type) head e = row_head types type head e

module _ (program : Program) (typed : TypesStand program.l) (places : List ℕ) (objects : List Object) (h : Heap)
    (world : WorldState)
    (filled : Filled program.meaning program.setting program.l program.number objects h)
    (store : FlatStore program.meaning.Cast) (v : FlatValue program.meaning.Cast) (size : ℕ) where
  abbrev f : FlatState program.meaning.Cast
  f = flat_state_at program.procs program.told (Return v) [] store world

  seen : (t : LowState) → t.world ≡ world → Filling program t → Seen program f t
  seen t e filling = record { output = ap (λ w. w.output) e; filling = filling }

  -- the procedure that the program begins with ends the run
  ends_so : (kind : ℕ) (source : LowSource) (x : ℕ) (a : AnAnswer) (words : Locals) (rests : List Code)
      → word_of words source ≡ Some x → ends_call (kind % 2 ^ 64) x ≡ Answers a
      → Stopping program f (EndsWith (AnswerVerdict a)) (at world h [] 3 rests words (ends kind source))
  ends_so kind source x a words rests e is =
      let t = at world h [] 3 rests words (ends kind source) in
      let last = at world h [] 3 rests words (ReturnCode (Number 0)) in
      let called : environment_call END_CALL (kind % 2 ^ 64) x (length program.setting.labels) world
      ≡ record { effect = Answers a; world = world } =
      calls_ending (kind % 2 ^ 64) x (length program.setting.labels) world
      ∙ ap (λ effect. record { effect = effect; world = world }) is in
      record {
        now = seen t refl (objects, filled);
        last = last;
        stops = rw (e, called) refl;
        cheap = cheap source kind;
        seen = seen last refl (objects, filled);
      }
    where
      cheap : (source : LowSource) (kind : ℕ) → step_price program.setting.procs 3 (ends kind source) ≤ 100
      cheap source kind =
          let x = source_most source in let y = number_most kind in omega (arith, x, y)

  -- the room of a procedure of so many words above the one that the program begins with
  abbrev last_room : ℕ
  last_room = frame_room size + waiting_room (entry_waiting program.answer ∷ [])

  -- which is enough for that one by itself
  alone : frame_room 3 + waiting_room [] ≤ last_room
  alone = omega arith

  -- no words are asked for meanwhile, and no more room
  abbrev Showing : LowState → Type 0
  Showing = Quietly program (Seen program f) h.words last_room

  abbrev stops_at : AnAnswer → Goal
  stops_at a = record {
    extra = 0;
    floor = 0;
    holds = λ left. Quietly program (Stopping program f (EndsWith (AnswerVerdict a))) h.words last_room;
    least = λ left t q. omega arith;
  }

  module _ (a : AnAnswer) where
    abbrev Shows : List Code → Locals → Code → Type 0
    Shows rests words code =
        Comes program.setting Showing (stops_at a)
        (at world h [] 3 rests words code)

    abbrev calm : Calm program.setting Showing (stops_at a) 3 [] world h
    calm rests words code = (record { output = refl; filling = (objects, filled) }, le_refl h.words, alone)

    ended : (kind : ℕ) (source : LowSource) (x : ℕ) (words : Locals) (rests : List Code) → word_of words source ≡ Some x
        → ends_call (kind % 2 ^ 64) x ≡ Answers a → Shows rests words (ends kind source)
    ended kind source x words rests e is =
        here program.setting Showing (stops_at a)
        (at world h [] 3 rests words (ends kind source)) (
          ends_so kind source x a words rests e is,
          le_refl h.words,
          alone,
        )

    -- the kind of the type is this one, or another
    takes : (n : ℕ) (one rest : Code) (words : Locals) → words 1 ≡ Some n → holds Eq n (n % 2 ^ 64) ≡ true
        → Shows (rest ∷ []) words one → Shows [] words (If Eq (Word 1) (Number n) one Done rest)
    takes n one rest words e same c =
        if_true program.setting Showing (stops_at a) calm n (n % 2 ^ 64) e
        refl same c

    skips : (n m : ℕ) (one rest : Code) (words : Locals) → words 1 ≡ Some m → holds Eq m (n % 2 ^ 64) ≡ false
        → Shows [] words rest → Shows [] words (If Eq (Word 1) (Number n) one Done rest)
    skips n m one rest words e other c =
        if_false program.setting Showing (stops_at a) calm m (n % 2 ^ 64)
        e refl other
        (falls_through program.setting Showing (stops_at a) calm c)

  abbrev CarriedInHere : FlatValue program.meaning.Cast → List program.meaning.Cast → ℕ → Type 0
  CarriedInHere u casts w =
      CarriedIn program.l program.setting.address program.procs program.meaning places objects u casts w

  -- a value can be the answer of a type of this row
  abbrev FitsRow : TypeRow → FlatValue program.meaning.Cast → Type 0
  FitsRow answer (RunInject u kept) =
      (equal_heads DynHead (head_of answer) ≡ true)
      × (equal_heads (run_head (flat_arity program.procs) u) (head_of (rows_in program.l kept)) ≡ true)
  FitsRow answer (RunInt n) = equal_heads IntHead (head_of answer) ≡ true
  FitsRow answer (RunBool b) = equal_heads BoolHead (head_of answer) ≡ true
  FitsRow answer RunUnit = equal_heads UnitHead (head_of answer) ≡ true
  FitsRow answer (RunFun code captured) =
      equal_heads (run_head (flat_arity program.procs) (RunFun code captured)) (head_of answer) ≡ true
  FitsRow answer (RunTuple values) =
      equal_heads (run_head (flat_arity program.procs) (RunTuple values)) (head_of answer) ≡ true
  FitsRow answer (RunLoc cell is_vector) =
      equal_heads (if is_vector then VectHead else RefHead) (head_of answer) ≡ true
  FitsRow answer (RunWrap v cast) = FitsRow answer v

  -- what is in Dyn, by the row of the type that is kept
  -- what is in Dyn, by the row of the type that is kept
  shows_kept : (row : TypeRow) → is_dyn row ≡ false → (u : FlatValue program.meaning.Cast)
      (casts : List program.meaning.Cast) (w : ℕ) → CarriedInHere u casts w
      → equal_heads (run_head (flat_arity program.procs) u) (head_of row) ≡ true → (words : Locals)
      → words 1 ≡ Some (type_kind row) → words 2 ≡ Some w → Shows (shown u) [] words show_kept
  shows_kept DynRow solid u casts w c e words kind is = true_false (sym solid)
  shows_kept IntRow solid (RunInt n) (cast ∷ casts) w c e words kind is = absurd c
  shows_kept IntRow solid (RunInt n) [] w c e words kind is =
      let a : AnAnswer = record { kind = Int; word = n } in
      takes a 16 _ _ words kind refl
      (ended a 0 (Word 2) w words _ is (ap (λ z. Answers (record { kind = Int; word = z }))
      (ap (cast_signed w64) c.0 ∙ word_read n c.1)))
  shows_kept BoolRow solid (RunBool true) (cast ∷ casts) w c e words kind is = absurd c
  shows_kept BoolRow solid (RunBool true) [] w c e words kind is =
      skips (record { kind = Truth; word = pos 1 }) 16 17 _ _ words kind refl
      (takes (record { kind = Truth; word = pos 1 }) 17 _ _ words kind refl
      (ended (record { kind = Truth; word = pos 1 }) 1 (Word 2) 1 words _ (is ∙ ap Some c) refl))
  shows_kept BoolRow solid (RunBool false) (cast ∷ casts) w c e words kind is = absurd c
  shows_kept BoolRow solid (RunBool false) [] w c e words kind is =
      skips (record { kind = Truth; word = pos 0 }) 16 17 _ _ words kind refl
      (takes (record { kind = Truth; word = pos 0 }) 17 _ _ words kind refl
      (ended (record { kind = Truth; word = pos 0 }) 1 (Word 2) 0 words _ (is ∙ ap Some c) refl))
  shows_kept UnitRow solid RunUnit (cast ∷ casts) w c e words kind is = absurd c
  shows_kept UnitRow solid RunUnit [] w c e words kind is =
      skips (record { kind = UnitKind; word = pos 0 }) 16 18 _ _ words kind refl
      (skips (record { kind = UnitKind; word = pos 0 }) 17 18 _ _ words kind refl
      (takes (record { kind = UnitKind; word = pos 0 }) 18 _ _ words kind refl
      (ended (record { kind = UnitKind; word = pos 0 }) 2 (Number 0) 0 words _ (refl) refl)))
  shows_kept (FunRow parameters answer) solid (RunFun code captured) casts w c e words kind is =
      skips (record { kind = Function; word = pos 0 }) 16 20 _ _ words kind refl
      (skips (record { kind = Function; word = pos 0 }) 17 20 _ _ words kind refl
      (skips (record { kind = Function; word = pos 0 }) 18 20 _ _ words kind refl
      (takes (record { kind = Function; word = pos 0 }) 20 _ _ words kind refl
      (ended (record { kind = Function; word = pos 0 }) 3 (Number 0) 0 words _ (refl) refl))))
  shows_kept (TupleRow parts) solid (RunTuple values) casts w c e words kind is =
      skips (record { kind = TupleKind; word = pos 0 }) 16 21 _ _ words kind refl
      (skips (record { kind = TupleKind; word = pos 0 }) 17 21 _ _ words kind refl
      (skips (record { kind = TupleKind; word = pos 0 }) 18 21 _ _ words kind refl
      (skips (record { kind = TupleKind; word = pos 0 }) 20 21 _ _ words kind refl
      (takes (record { kind = TupleKind; word = pos 0 }) 21 _ _ words kind refl
      (ended (record { kind = TupleKind; word = pos 0 }) 4 (Number 0) 0 words _ (refl) refl)))))
  shows_kept (RefRow content) solid (RunLoc cell false) casts w c e words kind is =
      skips (record { kind = Boxed; word = pos 0 }) 16 22 _ _ words kind refl
      (skips (record { kind = Boxed; word = pos 0 }) 17 22 _ _ words kind refl
      (skips (record { kind = Boxed; word = pos 0 }) 18 22 _ _ words kind refl
      (skips (record { kind = Boxed; word = pos 0 }) 20 22 _ _ words kind refl
      (skips (record { kind = Boxed; word = pos 0 }) 21 22 _ _ words kind refl
      (takes (record { kind = Boxed; word = pos 0 }) 22 _ _ words kind refl
      (ended (record { kind = Boxed; word = pos 0 }) 5 (Number 0) 0 words _ (refl) refl))))))
  shows_kept (VectRow content) solid (RunLoc cell true) casts w c e words kind is =
      skips (record { kind = Vector; word = pos 0 }) 16 23 _ _ words kind refl
      (skips (record { kind = Vector; word = pos 0 }) 17 23 _ _ words kind refl
      (skips (record { kind = Vector; word = pos 0 }) 18 23 _ _ words kind refl
      (skips (record { kind = Vector; word = pos 0 }) 20 23 _ _ words kind refl
      (skips (record { kind = Vector; word = pos 0 }) 21 23 _ _ words kind refl
      (skips (record { kind = Vector; word = pos 0 }) 22 23 _ _ words kind refl
      (ended (record { kind = Vector; word = pos 0 }) 6 (Number 0) 0 words _ (refl) refl))))))
  shows_kept row solid (RunLoc cell true) casts w c e words kind is = true_false e
  shows_kept row solid (RunLoc cell false) casts w c e words kind is = true_false e
  shows_kept row solid (RunWrap v cast) casts w c e words kind is =
      shows_kept row solid v (cast ∷ casts) w c e words kind is
  shows_kept row solid v casts w c e words kind is = true_false e

  kind_told : (k height n : ℕ) → k < 256 → compute And (k + height * 65536 + n * 4294967296) kind_mask ≡ k
  kind_told k height n lt = and_mask (k + height * 65536 + n * 4294967296) 8 ∙ omega arith

  -- a value in Dyn
  shows_dyn : (u : FlatValue program.meaning.Cast) (kept w : ℕ)
      → CarriedHere program places objects (RunInject u kept) w
      → equal_heads (run_head (flat_arity program.procs) u) (head_of (rows_in program.l kept)) ≡ true
      → (words : Locals) → words 0 ≡ Some w → Shows (shown u) [] words (show_by DynRow)
  shows_dyn u kept w c fit words is = by (small_dyn row c.0) refl c.1
    where
      a : AnAnswer
      a = shown u

      P : LowState → Type 0
      P = Quietly program (Seen program f) h.words last_room

      Q : Goal
      Q = stops_at (shown u)

      row : TypeRow
      row = rows_in program.l kept

      head : ℕ
      head = header (type_kind row) (height_in program.l kept) (length (parts_of row))

      -- with the kind of the type and the value's word
      opened : (now : Locals) → now 1 ≡ Some (type_kind row) → now 2 ≡ Some c.0 → Shows (shown u)
          (show_kept ∷ []) now Done
      opened now kind value =
          falls_through program.setting P Q (calm a) (shows_kept row c.3 u [] c.0 c.4 fit now kind value)

      tested : ℕ → Locals
      tested tag = set_local 1 tag words

      -- the word itself is still there
      still : (tag : ℕ) → tested tag 0 ≡ Some w
      still tag = word_other 1 tag words 0 (λ e. omega (arith, e)) ∙ is

      from_tag : (small : ℕ) (s : SmallIs row c.0 small) → w ≡ small
          → Shows (shown u) (show_kept ∷ []) (tested s.tag) open_small
      from_tag small s same =
          let four : s.tag < 4 = s.few in
          let one = set_local 1 (s.tag + 15) (tested s.tag) in
          computes program.setting P Q (calm a) s.tag 15 (s.tag + 15) (word_here 1 s.tag words) refl
          (omega (arith, four)) (omega arith)
          (computes program.setting P Q (calm a) w 3 c.0
          (word_other 1 (s.tag + 15) (tested s.tag) 0 (λ e. omega (arith, e)) ∙ still s.tag) refl
          (ap (λ y. compute Sra y 3) (same ∙ s.is) ∙ untagged s.tag c.0 (omega (arith, four)) s.narrow) (omega arith)
          (opened (set_local 2 c.0 one)
          (word_other 2 c.0 one 1 (λ e. omega (arith, e)) ∙ (word_here 1 (s.tag + 15) (tested s.tag)
          ∙ ap Some (sym s.kind)))
          (word_here 2 c.0 one)))

      InObject : Type 0
      InObject =
          (wt : ℕ) × There program.l objects w (Fixed dyn_header (wt ∷ c.0 ∷ []))
          × HoldsType program.l objects wt kept

      from_object : (d : InObject) → Shows (shown u) (show_kept ∷ []) (tested 0) open_object
      from_object d =
          let type_there = word_there program.meaning program.setting program.l program.placed objects h filled w
          dyn_header (d.0 ∷ c.0 ∷ []) d.1 1 d.0 (w + 8) refl (omega arith) in
          let inner_there = word_there program.meaning program.setting program.l program.placed objects h filled w
          dyn_header (d.0 ∷ c.0 ∷ []) d.1 2 c.0 (w + 16) refl (omega arith) in
          let head_there = header_there program.meaning program.setting program.l program.placed objects h filled d.0
          (type_object program.l kept)
          (subst (λ n. There program.l objects n (type_object program.l kept)) (sym d.2.is)
          (inl (typed.stands kept d.2.known))) in
          let none : d.0 ≡ d.0 + 0 = omega arith in
          let one = set_local 1 d.0 (tested 0) in
          let two = set_local 1 head one in
          let three = set_local 1 (type_kind row) two in
          let same : three 0 ≡ Some w =
          word_other 1 (type_kind row) two 0 (λ e. omega (arith, e))
          ∙ (word_other 1 head one 0 (λ e. omega (arith, e))
          ∙ (word_other 1 d.0 (tested 0) 0 (λ e. omega (arith, e)) ∙ still 0)) in
          loads program.setting P Q (calm a) w d.0 (still 0) type_there.may type_there.is
          (let z = type_there.end in omega arith) (omega arith)
          (loads program.setting P Q (calm a) d.0 head (word_here 1 d.0 (tested 0))
          (subst (λ n. may_load program.setting.top n ≡ true) none head_there.may)
          (subst (λ n. load_bytes 8 h.memory n ≡ head) none head_there.is) (let z = head_there.end in omega arith)
          (omega arith)
          (computes program.setting P Q (calm a) head kind_mask (type_kind row) (word_here 1 head one) refl
          (kind_told (type_kind row) (height_in program.l kept) (length (parts_of row)) (type_numbers row))
          (omega arith)
          (loads program.setting P Q (calm a) w c.0 same inner_there.may inner_there.is
          (let z = inner_there.end in omega arith) (omega arith)
          (opened (set_local 2 c.0 three)
          (word_other 2 c.0 three 1 (λ e. omega (arith, e)) ∙ word_here 1 (type_kind row) two)
          (word_here 2 c.0 three)))))

      by : (o : Option ℕ) → small_dyn row c.0 ≡ o → IsDynBy program.l objects o kept c.0 w
          → Shows (shown u) [] words (show_by DynRow)
      by (Some small) e d =
          let s = small_is row c.0 small e in
          let four : s.tag < 4 = s.few in
          let some : 0 < s.tag = s.some in
          computes program.setting P Q (calm a) w 7 s.tag is refl
          (ap (λ y. compute And y 7) (d.0 ∙ s.is) ∙ tag_read s.tag c.0 (omega (arith, four))) (omega arith)
          (if_false program.setting P Q (calm a) s.tag 0 (word_here 1 s.tag words) refl
          (eq_false s.tag 0 (λ z. omega (arith, z, some))) (from_tag small s d.0))
      by None e d =
          let place = stands program.meaning program.setting program.l program.placed objects h filled w _ d.1 in
          computes program.setting P Q (calm a) w 7 0 is refl (no_tag w place.even) (omega arith)
          (if_true program.setting P Q (calm a) 0 0 (word_here 1 0 words) refl refl (from_object d))

  -- by the row of the answer's type
  shows : (answer : TypeRow) → (v : FlatValue program.meaning.Cast) (casts : List program.meaning.Cast) (w : ℕ)
      → CarriedInHere v casts w
      → FitsRow answer v → (words : Locals) → words 0 ≡ Some w → Shows (shown v) [] words (show_by answer)
  shows answer (RunWrap v cast) casts w c e words is = shows answer v (cast ∷ casts) w c e words is
  shows DynRow (RunInject u kept) (cast ∷ casts) w c e words is = absurd c
  shows DynRow (RunInject u kept) [] w c e words is = shows_dyn u kept w c e.1 words is
  shows DynRow (RunInt n) casts w c e words is = true_false e
  shows DynRow (RunBool b) casts w c e words is = true_false e
  shows DynRow RunUnit casts w c e words is = true_false e
  shows DynRow (RunFun code captured) casts w c e words is = true_false e
  shows DynRow (RunTuple values) casts w c e words is = true_false e
  shows DynRow (RunLoc cell true) casts w c e words is = true_false e
  shows DynRow (RunLoc cell false) casts w c e words is = true_false e
  shows answer (RunInject u kept) casts w c e words is = true_false e.0
  shows IntRow (RunInt n) (cast ∷ casts) w c e words is = absurd c
  shows IntRow (RunInt n) [] w c e words is =
      let a : AnAnswer = record { kind = Int; word = n } in
      ended a 0 (Word 0) w words [] is (ap (λ z. Answers (record { kind = Int; word = z }))
      (ap (cast_signed w64) c.0 ∙ word_read n c.1))
  shows BoolRow (RunBool true) (cast ∷ casts) w c e words is = absurd c
  shows BoolRow (RunBool true) [] w c e words is =
      ended (record { kind = Truth; word = pos 1 }) 1 (Word 0) 1 words [] (is ∙ ap Some c) refl
  shows BoolRow (RunBool false) (cast ∷ casts) w c e words is = absurd c
  shows BoolRow (RunBool false) [] w c e words is =
      ended (record { kind = Truth; word = pos 0 }) 1 (Word 0) 0 words [] (is ∙ ap Some c) refl
  shows UnitRow RunUnit (cast ∷ casts) w c e words is = absurd c
  shows UnitRow RunUnit [] w c e words is =
      ended (record { kind = UnitKind; word = pos 0 }) 2 (Number 0) 0 words [] refl refl
  shows (FunRow parameters answer) (RunFun code captured) casts w c e words is =
      ended (record { kind = Function; word = pos 0 }) 3 (Number 0) 0 words [] refl refl
  shows (TupleRow parts) (RunTuple values) casts w c e words is =
      ended (record { kind = TupleKind; word = pos 0 }) 4 (Number 0) 0 words [] refl refl
  shows (RefRow content) (RunLoc cell false) casts w c e words is =
      ended (record { kind = Boxed; word = pos 0 }) 5 (Number 0) 0 words [] refl refl
  shows (VectRow content) (RunLoc cell true) casts w c e words is =
      ended (record { kind = Vector; word = pos 0 }) 6 (Number 0) 0 words [] refl refl
  shows answer (RunLoc cell true) casts w c e words is = true_false e
  shows answer (RunLoc cell false) casts w c e words is = true_false e
  shows answer v casts w c e words is = true_false e

  pub answered : (rests : List Code) (words : Locals) (source : LowSource) (w : ℕ)
      → word_of words source ≡ Some w → CarriedHere program places objects v w
      → (due : ℕ) → Settled program f due (at world h (entry_waiting program.answer ∷ []) size rests words
      (ReturnCode source))
  answered rests words source w is c due =
      by_test (fits_type (flat_arity program.procs) program.told.types v program.told.answer) refl
    where
      t : LowState
      t = at world h (entry_waiting program.answer ∷ []) size rests words (ReturnCode source)

      row_fits : (head : TypeHead) → row_has_head (row_at program.told.types program.told.answer) head ≡ true
          → equal_heads head (head_of program.answer) ≡ true
      row_fits head e = ap (λ o. row_has_head o head) (sym program.answer_is) ∙ e

      wrapped : (u : FlatValue program.meaning.Cast) (cast : program.meaning.Cast) (casts : List program.meaning.Cast)
          → CarriedInHere u (cast ∷ casts) w
          → row_has_head (row_at program.told.types program.told.answer) (run_head (flat_arity program.procs) u) ≡ true
          → FitsRow program.answer u
      wrapped (RunWrap q other) cast casts c e = wrapped q other (cast ∷ casts) c e
      wrapped (RunFun code captured) cast casts c e =
          row_fits (run_head (flat_arity program.procs) (RunFun code captured)) e
      wrapped (RunTuple values) cast casts c e = row_fits (run_head (flat_arity program.procs) (RunTuple values)) e
      wrapped (RunLoc cell is_vector) cast casts c e =
          row_fits (run_head {C = program.meaning.Cast} (flat_arity program.procs) (RunLoc cell is_vector)) e
      wrapped (RunInt n) cast casts c e = absurd c
      wrapped (RunBool b) cast casts c e = absurd c
      wrapped RunUnit cast casts c e = absurd c
      wrapped (RunInject q kept) cast casts c e = absurd c

      fitting : (v : FlatValue program.meaning.Cast) → CarriedHere program places objects v w
          → fits_type (flat_arity program.procs) program.told.types v program.told.answer ≡ true
          → FitsRow program.answer v
      fitting (RunInject u kept) c e =
          let x = and_true (row_has_head (row_at program.told.types program.told.answer) DynHead)
          (not (row_has_head (row_at program.told.types kept) DynHead)
          && fits_type (flat_arity program.procs) program.told.types u kept) e in
          let y = and_true (not (row_has_head (row_at program.told.types kept) DynHead))
          (fits_type (flat_arity program.procs) program.told.types u kept) x.1 in
          (row_fits DynHead x.0, inside u c.4 y.0 y.1)
        where
          not_true : (b : Bool) → not b ≡ true → b ≡ false
          not_true true e = true_false e
          not_true false e = refl

          kept_fits : (head : TypeHead) → row_has_head (row_at program.told.types kept) head ≡ true
              → equal_heads head (head_of (rows_in program.l kept)) ≡ true
          kept_fits head e =
              row_head program.l.types kept head
              (ap (λ rows. row_has_head (row_at rows kept) head) (sym program.types_are) ∙ e)

          inside : (u : FlatValue program.meaning.Cast) → CarriedHere program places objects u c.0
              → not (row_has_head (row_at program.told.types kept) DynHead) ≡ true
              → fits_type (flat_arity program.procs) program.told.types u kept ≡ true
              → equal_heads (run_head (flat_arity program.procs) u) (head_of (rows_in program.l kept)) ≡ true
          inside (RunInject q other) x solid e =
              true_false (sym (not_true (row_has_head (row_at program.told.types kept) DynHead) solid)
              ∙ (and_true (row_has_head (row_at program.told.types kept) DynHead)
              (not (row_has_head (row_at program.told.types other) DynHead)
              && fits_type (flat_arity program.procs) program.told.types q other) e).0)
          inside (RunWrap q cast) x solid e = kept_fits (run_head (flat_arity program.procs) q) e
          inside (RunInt n) x solid e = kept_fits IntHead e
          inside (RunBool b) x solid e = kept_fits BoolHead e
          inside RunUnit x solid e = kept_fits UnitHead e
          inside (RunFun code captured) x solid e =
              kept_fits (run_head (flat_arity program.procs) (RunFun code captured)) e
          inside (RunTuple values) x solid e =
              kept_fits (run_head (flat_arity program.procs) (RunTuple values)) e
          inside (RunLoc cell is_vector) x solid e = kept_fits (if is_vector then VectHead else RefHead) e
      fitting (RunInt n) c e = row_fits IntHead e
      fitting (RunBool b) c e = row_fits BoolHead e
      fitting RunUnit c e = row_fits UnitHead e
      fitting (RunFun code captured) c e = row_fits (run_head (flat_arity program.procs) (RunFun code captured)) e
      fitting (RunTuple values) c e = row_fits (run_head (flat_arity program.procs) (RunTuple values)) e
      fitting (RunLoc cell is_vector) c e =
          row_fits (run_head {C = program.meaning.Cast} (flat_arity program.procs) (RunLoc cell is_vector)) e
      fitting (RunWrap u cast) c e = wrapped u cast [] c e

      by_test : (b : Bool) → fits_type (flat_arity program.procs) program.told.types v program.told.answer ≡ b
          → Settled program f due t
      by_test false e =
          inr (record {
            seen = seen t refl (objects, filled);
            e = Wrong;
            is = ap (λ b. Some (if b then EndsWith (AnswerVerdict (shown v)) else Wrong)) e;
            ends = tt;
          })
      by_test true e =
          let s = shows program.answer v [] w c (fitting v c e) (set_local 0 w no_locals) (word_here 0 w no_locals) in
          let dear = show_price program.setting.procs program.answer in
          let q = by_go program.setting Showing (stops_at (shown v)).holds 0
          (left_of program.setting (at world h [] 3 [] (set_local 0 w no_locals) (show_by program.answer)) + 0)
          (28 + (left_of program.setting (at world h [] 3 [] (set_local 0 w no_locals) (show_by program.answer)) + 0)) t
          (at world h [] 3 [] (set_local 0 w no_locals) (show_by program.answer)) (rw is refl)
          (let le = return_price program.setting.procs size source in omega (arith, le))
          (record { output = refl; filling = (objects, filled) }, le_refl h.words, le_refl last_room) s in
          inr (record {
            seen = seen t refl (objects, filled);
            e = EndsWith (AnswerVerdict (shown v));
            is = ap (λ b. Some (if b then EndsWith (AnswerVerdict (shown v)) else Wrong)) e;
            ends = record {
              steps = q.steps;
              price = q.price;
              small = let z = q.within in omega (arith, z, dear);
              cheap = q.cheap;
              reach = q.reach;
            };
          })
