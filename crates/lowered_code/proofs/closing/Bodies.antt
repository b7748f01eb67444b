-- The code of a body.
use Rattle.std.proofs.Common.{true, ℕ, suc, ◌+◌, ◌<◌, ◌≤◌, ◌≡◌, ◌⊎◌, inl, inr, List, [], ◌∷◌, length}
use Rattle.std.proofs.Common.{Bool, false}
use Rattle.std.proofs.Common.{refl, sym, subst, arith, ◌&&◌, ◌==◌, nat_le, slice_get}
use Rattle.std.proofs.lemmas.Bool.{and_from, and_parts, eqb-true, leb-true, cases_eq, cases_lt}
use Rattle.machine_words.specs.declared.conditions.Cond.TheVariants.{Ne}
use Rattle.low_ir.specs.declared.code.LowSource.{LowSource}
use Rattle.low_ir.specs.declared.code.LowSource.TheVariants.{Word, Number}
use Rattle.low_ir.specs.Procedures.{Code, Done, Load, Return, TailCall, TailCallAt, Proc}
use Rattle.low_ir.specs.Procedures.{Call as CallOf, CallAt}
use Rattle.low_ir.specs.Closed.{all_words, is_read, are_read}
use Rattle.flat_ir.specs.declared.code.Operation.{Operation}
use Rattle.flat_ir.specs.declared.code.Operation.TheVariants.{Move, Prim, Cast, Tuple, Proj, ProjDyn}
use Rattle.flat_ir.specs.Bodies.{Body, Give, Call, Choose, LetBody, LetGroup, Proc as FlatProc}
use Rattle.flat_ir.specs.Closed.{operand_bound, operands_bound, operation_bound, begins_group, body_bound}
use Rattle.flat_ir.specs.Levels.{levels}
use Rattle.lowered_code.specs.declared.numbering.Shape.{Shape}
use Rattle.lowered_code.specs.declared.served.Served.{Served}
use Rattle.lowered_code.specs.Numbering.{operand_word, test_word, local_word}
use Rattle.lowered_code.specs.Emit.{found, found_all, source_at, perform, Then, ToCaller, Into}
use Rattle.lowered_code.specs.Emit.{apply_words, call, call_bare, call_by, is_sibling, give, choose, group_code, emit}
use Rattle.lowered_code.specs.Serving.{Serve}
use Rattle.lowered_code.proofs.closing.Knowledge.{Known, More, more_same, more_then, more_both, Reads, AllRead}
use Rattle.lowered_code.proofs.closing.Knowledge.{read_more}
use Rattle.lowered_code.proofs.closing.Knowledge.{all_read_more, read_word, read_then, read_two, Ends, ends_done}
use Rattle.lowered_code.proofs.closing.Knowledge.{load_ends}
use Rattle.lowered_code.proofs.closing.Knowledge.{call_ends, call_at_ends, return_ends, tail_call_ends}
use Rattle.lowered_code.proofs.closing.Knowledge.{tail_call_at_ends}
use Rattle.lowered_code.proofs.closing.Knowledge.{if_ends}
use Rattle.lowered_code.proofs.closing.Operands.{Ready, ready_more, fetch_ends, fetch_all_ends, source_read}
use Rattle.lowered_code.proofs.closing.Operands.{local_within}
use Rattle.lowered_code.proofs.closing.Operations.{takes_these, found_length, of_kind_ends, Sets, sets_both}
use Rattle.lowered_code.proofs.closing.Operations.{perform_ends}
use Rattle.lowered_code.proofs.closing.Groups.{Named, group_code_ends}

-- the levels of a body begin above those that are bound before
pub levels_above : (depth : ℕ) (body : Body) → depth ≤ levels depth body
levels_above depth (Give op) = omega arith
levels_above depth (Call f os) = omega arith
levels_above depth (Choose o a b) = let h = levels_above depth a in omega arith
levels_above depth (LetBody slot inner rest) = let h = levels_above depth inner in omega arith
levels_above depth (LetGroup slot first count captured rest) =
    let h = levels_above (depth + count) rest in omega arith

-- in a flat program, the functions of each group that is made stand in the program over words
abbrev pub GroupsStand : List FlatProc → List Proc → Type 0
GroupsStand flat procs =
    (first count captured : ℕ) → begins_group (slice_get flat first) count captured ≡ true
    → first + count ≤ length procs

module _ (flat : List FlatProc) (procs : List Proc) (n : ℕ) where
  -- what a body's value goes to
  abbrev pub Fine : Known → Then → (Known → Type 0) → Type 0
  Fine a ToCaller Q = (b : Known) → More a b → Q b
  Fine a (Into d k) Q = (d < n) × ((b : Known) → More a b → b d ≡ true → Ends procs n b k Q)

  fine_more : (a b : Known) (next : Then) (Q : Known → Type 0) → More a b → Fine a next Q → Fine b next Q
  fine_more a b ToCaller Q m h = λ c m'. h c (more_then a b c m m')
  fine_more a b (Into d k) Q m h = (h.0, λ c m' e. h.1 c (more_then a b c m m') e)

  -- a word that is set counts from here on
  one_level_more : (s : Shape) (depth : ℕ) (a : Known) → depth + 10 < n → Ready procs n s depth a
      → a (local_word s depth) ≡ true → Ready procs n s (suc depth) a
  one_level_more s depth a l r h = record {
    room = r.room;
    own = r.own;
    locals = λ level below. by level below (cases_eq level depth);
  }
    where
      by : (level : ℕ) → level < suc depth → (level ≡ depth) ⊎ (level ≡ depth → ⊥)
          → Reads procs n a (Word (local_word s level))
      by level below (inl e) =
          let near = local_within s depth in
          subst (λ j. Reads procs n a (Word (local_word s j))) (sym e)
          (read_word procs n a (local_word s depth) (omega arith) h)
      by level below (inr d) = r.locals level (omega arith)

  more_levels : (s : Shape) (depth count : ℕ) (a : Known) → depth + count + 10 ≤ n → Ready procs n s depth a
      → Named procs n s a depth count → Ready procs n s (depth + count) a
  more_levels s depth count a l r named = record {
    room = r.room;
    own = r.own;
    locals = λ level below. by level below (cases_lt level depth);
  }
    where
      by : (level : ℕ) → level < depth + count → (level < depth) ⊎ (depth ≤ level)
          → Reads procs n a (Word (local_word s level))
      by level below (inl h) = r.locals level h
      by level below (inr h) =
          let near = local_within s level in
          read_word procs n a (local_word s level) (omega arith) (named level h below)

  module _ (run : Served) (serve : Serve run procs) where
    applied : (a : Known) (f : LowSource) (os : List LowSource) → Reads procs n a f → AllRead procs n a os
        → AllRead procs n a (apply_words f os)
    applied a f os r qs =
        let at = λ (i : ℕ). source_read procs n a os i qs in
        let last = source_at os 5 ∷ Number (length os) ∷ [] in
        let fourth = source_at os 3 ∷ source_at os 4 ∷ last in
        let second = source_at os 1 ∷ source_at os 2 ∷ fourth in
        let end = read_two procs n a (source_at os 5) (Number (length os)) (at 5) refl in
        let four : AllRead procs n a fourth =
        read_then procs n a (source_at os 3) (source_at os 4 ∷ last) (at 3)
        (read_then procs n a (source_at os 4) last (at 4) end) in
        let two : AllRead procs n a second =
        read_then procs n a (source_at os 1) (source_at os 2 ∷ fourth) (at 1)
        (read_then procs n a (source_at os 2) fourth (at 2) four) in
        read_then procs n a f (source_at os 0 ∷ second) r (read_then procs n a (source_at os 0) second (at 0) two)

    call_ends_in : (s : Shape) (f : LowSource) (os : List LowSource) (next : Then) (a : Known) (Q : Known → Type 0)
        → test_word s < n → Reads procs n a f → AllRead procs n a os → length os ≤ 6 → Fine a next Q
        → Ends procs n a (call run s f os next) Q
    call_ends_in s f os ToCaller a Q l r qs few fine =
        let t = test_word s in
        of_kind_ends procs n s a f 1 (Load t f 8 (TailCallAt (Word t) (f ∷ os))) Done
        (TailCall run.apply (apply_words f os)) (More a) Q l r
        (λ b m q. load_ends procs n b t f 8 (TailCallAt (Word t) (f ∷ os)) (More a) l (read_more procs n a b f m r)
        refl
        (λ c m' h. let up = more_then a b c m m' in
        tail_call_at_ends procs n c (Word t) (f ∷ os) (More a) (read_word procs n c t l h)
        (read_then procs n c f os (read_more procs n a c f up r) (all_read_more procs n a c os up qs)) (omega arith)
        up))
        (λ b m. ends_done procs n b (More a) m)
        (λ b c x y. let both = more_both a b c x y in
        let known = all_words.both b c in
        tail_call_ends procs n known run.apply (apply_words f os) Q (applied known f os (read_more procs n a known f
        both r) (all_read_more procs n a known os both qs))
        (takes_these (slice_get procs run.apply) 8 (apply_words f os) refl serve.apply) (fine known both))
    call_ends_in s f os (Into d k) a Q l r qs few fine =
        let t = test_word s in
        of_kind_ends procs n s a f 1 (Load t f 8 (CallAt d (Word t) (f ∷ os) Done))
        (CallOf d run.apply (apply_words f os) Done) k (Sets procs n a d) Q l r
        (λ b m q. load_ends procs n b t f 8 (CallAt d (Word t) (f ∷ os) Done) (Sets procs n a d) l
        (read_more procs n a b f m r) refl
        (λ c m' h. let up = more_then a b c m m' in
        call_at_ends procs n c d (Word t) (f ∷ os) Done (Sets procs n a d) fine.0 (read_word procs n c t l h)
        (read_then procs n c f os (read_more procs n a c f up r) (all_read_more procs n a c os up qs)) (omega arith)
        (λ e m'' h'. ends_done procs n e (Sets procs n a d) (more_then a c e up m'', h'))))
        (λ b m. call_ends procs n b d run.apply (apply_words f os) Done (Sets procs n a d) fine.0
        (applied b f os (read_more procs n a b f m r) (all_read_more procs n a b os m qs))
        (takes_these (slice_get procs run.apply) 8 (apply_words f os) refl serve.apply)
        (λ c m' h. ends_done procs n c (Sets procs n a d) (more_then a b c m m', h)))
        (sets_both procs n a d k Q fine.1)

    bare_call_ends : (s : Shape) (f : LowSource) (os : List LowSource) (next : Then) (a : Known) (Q : Known → Type 0)
        → test_word s < n → Reads procs n a f → AllRead procs n a os → length os ≤ 6 → Fine a next Q
        → Ends procs n a (call_bare s f os next) Q
    bare_call_ends s f os ToCaller a Q l r qs few fine =
        let t = test_word s in
        load_ends procs n a t f 8 (TailCallAt (Word t) (f ∷ os)) Q l r refl
        (λ b m h. tail_call_at_ends procs n b (Word t) (f ∷ os) Q (read_word procs n b t l h)
        (read_then procs n b f os (read_more procs n a b f m r) (all_read_more procs n a b os m qs)) (omega arith)
        (fine b m))
    bare_call_ends s f os (Into d k) a Q l r qs few fine =
        let t = test_word s in
        load_ends procs n a t f 8 (CallAt d (Word t) (f ∷ os) k) Q l r refl
        (λ b m h. call_at_ends procs n b d (Word t) (f ∷ os) k Q fine.0 (read_word procs n b t l h)
        (read_then procs n b f os (read_more procs n a b f m r) (all_read_more procs n a b os m qs)) (omega arith)
        (λ c m' h'. fine.1 c (more_then a b c m m') h'))

    call_by_ends : (bare : Bool) (s : Shape) (f : LowSource) (os : List LowSource) (next : Then) (a : Known)
        (Q : Known → Type 0) → test_word s < n → Reads procs n a f → AllRead procs n a os → length os ≤ 6
        → Fine a next Q → Ends procs n a (call_by run bare s f os next) Q
    call_by_ends true s f os next a Q l r qs few fine = bare_call_ends s f os next a Q l r qs few fine
    call_by_ends false s f os next a Q l r qs few fine = call_ends_in s f os next a Q l r qs few fine

    -- the value of an operation, put into the word for the answer, is given to the caller
    returned : (s : Shape) (captured group depth : ℕ) (op : Operation) (a : Known) (Q : Known → Type 0)
        → Ready procs n s depth a → operation_bound captured group depth op ≡ true
        → Fine a ToCaller Q
        → Ends procs n a (perform run s (test_word s) op (Return (Word (test_word s)))) Q
    returned s captured group depth op a Q r bound fine =
        let t = test_word s in
        let room = r.room in
        perform_ends procs n run serve s captured group depth t op a (Return (Word t)) Q (omega arith) r bound
        (λ b m h. return_ends procs n b (Word t) Q (read_word procs n b t (omega arith) h) (fine b m))

    give_ends : (s : Shape) (captured group depth : ℕ) (op : Operation) (next : Then) (a : Known) (Q : Known → Type 0)
        → Ready procs n s depth a → operation_bound captured group depth op ≡ true
        → Fine a next Q → Ends procs n a (give run s op next) Q
    give_ends s captured group depth (Move o) ToCaller a Q r bound fine =
        let w = operand_word s 0 in
        let room = r.room in
        fetch_ends procs n s captured group depth w o a (Return (found s w o)) Q (omega arith) r bound
        (λ b m q. return_ends procs n b (found s w o) Q q (fine b m))
    give_ends s captured group depth (Prim op os) ToCaller a Q r bound fine =
        returned s captured group depth (Prim op os) a Q r bound fine
    give_ends s captured group depth (Cast o number) ToCaller a Q r bound fine =
        returned s captured group depth (Cast o number) a Q r bound fine
    give_ends s captured group depth (Tuple os) ToCaller a Q r bound fine =
        returned s captured group depth (Tuple os) a Q r bound fine
    give_ends s captured group depth (Proj o i) ToCaller a Q r bound fine =
        returned s captured group depth (Proj o i) a Q r bound fine
    give_ends s captured group depth (ProjDyn o i label) ToCaller a Q r bound fine =
        returned s captured group depth (ProjDyn o i label) a Q r bound fine
    give_ends s captured group depth (Move o) (Into d k) a Q r bound fine =
        perform_ends procs n run serve s captured group depth d (Move o) a k Q fine.0 r bound fine.1
    give_ends s captured group depth (Prim op os) (Into d k) a Q r bound fine =
        perform_ends procs n run serve s captured group depth d (Prim op os) a k Q fine.0 r bound fine.1
    give_ends s captured group depth (Cast o number) (Into d k) a Q r bound fine =
        perform_ends procs n run serve s captured group depth d (Cast o number) a k Q fine.0 r bound fine.1
    give_ends s captured group depth (Tuple os) (Into d k) a Q r bound fine =
        perform_ends procs n run serve s captured group depth d (Tuple os) a k Q fine.0 r bound fine.1
    give_ends s captured group depth (Proj o i) (Into d k) a Q r bound fine =
        perform_ends procs n run serve s captured group depth d (Proj o i) a k Q fine.0 r bound fine.1
    give_ends s captured group depth (ProjDyn o i label) (Into d k) a Q r bound fine =
        perform_ends procs n run serve s captured group depth d (ProjDyn o i label) a k Q fine.0 r bound fine.1

    -- a branch, wherever its value goes
    abbrev Branch : Known → (Then → Code) → Type 1
    Branch a branch = (next : Then) (b : Known) (R : Known → Type 0) → More a b → Fine b next R
        → Ends procs n b (branch next) R

    choose_ends : (x : LowSource) (one other : Then → Code) (next : Then) (a : Known) (Q : Known → Type 0)
        → Reads procs n a x → Branch a one → Branch a other → Fine a next Q
        → Ends procs n a (choose run x one other next) Q
    choose_ends x one other ToCaller a Q r first second fine =
        if_ends procs n a Ne x (Number 0) (one ToCaller) Done (other ToCaller) (More a) Q r refl
        (first ToCaller a (More a) (more_same a) (λ b m. m)) (ends_done procs n a (More a) (more_same a))
        (λ b c h k. let both = more_both a b c h k in
        let known = all_words.both b c in
        second ToCaller known Q both (fine_more a known ToCaller Q both fine))
    choose_ends x one other (Into d k) a Q r first second fine =
        if_ends procs n a Ne x (Number 0) (one (Into d Done)) (other (Into d Done)) k (Sets procs n a d) Q r refl
        (first (Into d Done) a (Sets procs n a d) (more_same a)
        (fine.0, λ b m h. ends_done procs n b (Sets procs n a d) (m, h)))
        (second (Into d Done) a (Sets procs n a d) (more_same a)
        (fine.0, λ b m h. ends_done procs n b (Sets procs n a d) (m, h)))
        (sets_both procs n a d k Q fine.1)

    pub emit_ends : GroupsStand flat procs → (s : Shape) (captured group depth : ℕ) (body : Body) (next : Then)
        (a : Known) (Q : Known → Type 0) → levels depth body + 10 ≤ n → Ready procs n s depth a
        → body_bound flat captured group depth body ≡ true → Fine a next Q
        → Ends procs n a (emit run s body next) Q
    emit_ends stand s captured group depth (Give op) next a Q room r bound fine =
        give_ends s captured group depth op next a Q r bound fine
    emit_ends stand s captured group depth (Call f os) next a Q room r bound fine =
        let p = and_parts (operand_bound captured group depth f) (operands_bound captured group depth os
        && nat_le (length os) 6) bound in
        let q = and_parts (operands_bound captured group depth os) (nat_le (length os) 6) p.1 in
        let long = leb-true (length os) 6 q.1 in
        let w = operand_word s 0 in
        let ss = found_all s 1 os in
        let same = found_length procs n s 1 os in
        let inside = r.room in
        fetch_all_ends procs n s captured group depth (f ∷ os) 0 a
        (call_by run (is_sibling f) s (found s w f) ss next) Q (omega arith) r
        (and_from (operand_bound captured group depth f) (operands_bound captured group depth os) p.0 q.0)
        (λ b m h. let reads = and_parts (is_read all_words n b (found s w f)) (are_read all_words n b ss) h in
        call_by_ends (is_sibling f) s (found s w f) ss next b Q (omega arith) reads.0 reads.1 (omega arith)
        (fine_more a b next Q m fine))
    emit_ends stand s captured group depth (Choose o x y) next a Q room r bound fine =
        let p = and_parts (operand_bound captured group depth o) (body_bound flat captured group depth x
        && body_bound flat captured group depth y) bound in
        let q = and_parts (body_bound flat captured group depth x) (body_bound flat captured group depth y) p.1 in
        let w = operand_word s 0 in
        let inside = r.room in
        fetch_ends procs n s captured group depth w o a (choose run (found s w o) (emit run s x) (emit run s y) next) Q
        (omega arith) r p.0
        (λ b m h. choose_ends (found s w o) (emit run s x) (emit run s y) next b Q h
        (λ next' c R m' fine'. emit_ends stand s captured group depth x next' c R (omega arith)
        (ready_more procs n s depth a c (more_then a b c m m') r) q.0 fine')
        (λ next' c R m' fine'. emit_ends stand s captured group depth y next' c R (omega arith)
        (ready_more procs n s depth a c (more_then a b c m m') r) q.1 fine')
        (fine_more a b next Q m fine))
    emit_ends stand s captured group depth (LetBody slot inner rest) next a Q room r bound fine =
        let p = and_parts (slot == depth) (body_bound flat captured group depth inner
        && body_bound flat captured group (suc depth) rest) bound in
        let q = and_parts (body_bound flat captured group depth inner) (body_bound flat captured group (suc depth) rest)
        p.1 in
        let above = levels_above (suc depth) rest in
        let near = local_within s depth in
        subst (λ j. Ends procs n a (emit run s inner (Into (local_word s j) (emit run s rest next))) Q)
        (sym (eqb-true slot depth p.0))
        (emit_ends stand s captured group depth inner (Into (local_word s depth) (emit run s rest next)) a Q (omega
        arith) r q.0 (
          omega arith,
          λ b m h. emit_ends stand s captured group (suc depth) rest next b Q (omega arith)
              (one_level_more s depth b (omega arith) (ready_more procs n s depth a b m r) h) q.1
              (fine_more a b next Q m fine),
        ))
    emit_ends stand s captured group depth (LetGroup slot first count os rest) next a Q room r bound fine =
        let p = and_parts (slot == depth) (begins_group (slice_get flat first) count (length os)
        && (operands_bound captured group depth os && body_bound flat captured group (depth + count) rest)) bound in
        let q = and_parts (begins_group (slice_get flat first) count (length os))
        (operands_bound captured group depth os && body_bound flat captured group (depth + count) rest) p.1 in
        let t = and_parts (operands_bound captured group depth os) (body_bound flat captured group (depth + count) rest)
        q.1 in
        let above = levels_above (depth + count) rest in
        subst (λ j. Ends procs n a (group_code s j first count os (emit run s rest next)) Q)
        (sym (eqb-true slot depth p.0))
        (group_code_ends procs n s captured group depth first count os a (emit run s rest next) Q r (omega arith)
        (stand first count (length os) q.0) t.0
        (λ b m named. emit_ends stand s captured group (depth + count) rest next b Q (omega arith)
        (more_levels s depth count b (omega arith) (ready_more procs n s depth a b m r) named) t.1
        (fine_more a b next Q m fine)))
