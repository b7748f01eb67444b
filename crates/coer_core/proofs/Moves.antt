-- Each turn of the run with environments is a step of the calculus of the same kind, or none and its size falls.
use Rattle.std.proofs.Common.{◌≡◌, ◌⊎◌, inl, inr, ℕ, suc, ◌+◌, ◌<◌, ◌≤◌, Bool, true, false, List, [], ◌∷◌, ◌++◌, map}
use Rattle.std.proofs.Common.{Option, Some, None, refl, sym, ap, ◌∙◌, subst, arith, slice_get}
use Rattle.std.specs.Prelude.{option_map, cond, if◌then◌else◌, not, ◌&&◌}
use Rattle.grift_base.specs.World.{WorldState}
use Rattle.grift_base.specs.Types.{TypeRow, TypeRows, row_at, is_dyn, is_base, same_head}
use Rattle.core_calc.specs.Terms.{Term, Terms, Members, Bindings, Value, FunValue, Let, Call, Enter, If, Seq}
use Rattle.core_calc.specs.Terms.{Proj, ProjDyn, Tuple, Prim, ValueTerm, NoTerms, TermThen, NoBindings, BindingThen}
use Rattle.core_calc.specs.Terms.{TupleValue, WrapValue, as_value, all_values, values_from, bound_values, binding_names}
use Rattle.core_calc.specs.Terms.{member_names}
use Rattle.core_calc.specs.Substitution.{entry_of, without, value_or_name, substitute, group_values}
use Rattle.core_calc.specs.Outcome.{Outcome, Goes, inside}
use Rattle.core_calc.specs.Redex.{Focus, here, below, where_some, enter_focus, focus_terms, redex}
use Rattle.core_calc.specs.Step.{step, step_terms, if_step}
use Rattle.cast_modes.specs.Modes.{Shape, Bare, Wrapped, Injected, Decision, Keeping, Wrapping, Injecting, Blaming}
use Rattle.cast_modes.specs.Modes.{and_some, or_none, TypeCast, opening, fits, decide_fitting, piling}
use Rattle.cast_modes.specs.RunValues.{RunBool, RunFun, RunWrap, plain, all_plain, shape_of}
use Rattle.cast_modes.specs.ValueSteps.{CastFrame, ProjFrame, PrimFrame, EnterFrame, OwnFrame, Own, Return, Entering}
use Rattle.cast_modes.specs.ValueSteps.{On, on_some, onto, pendings_onto, casts_onto, next_argument, enter_plain}
use Rattle.cast_modes.specs.ValueSteps.{enter}
use Rattle.grift_base.specs.declared.operators.PrimOp.{PrimOp}
use Rattle.grift_base.specs.declared.operators.PrimOp.TheVariants.{Add, Sub, Mul, Quot, Rem, Lt, Le, Eq, Ge, Gt, Not}
use Rattle.grift_base.specs.declared.operators.PrimOp.TheVariants.{PrintInt, Newline, ReadInt, MakeBox, Unbox, BoxSet}
use Rattle.grift_base.specs.declared.operators.PrimOp.TheVariants.{VectorRef, VectorSet, VectorLength, MakeVector}
use Rattle.core_calc.specs.Account.{prim_kind, vector_kind}
use Rattle.coer_core.specs.Tally.{made_vector}
use Rattle.cast_modes.specs.RunValues.{RunInt}
use Rattle.std.proofs.Common.{pos, negsuc}
use Rattle.coer_core.specs.Terms.{RowTerm, RowInt, RowBool, RowUnit, RowVar, RowLambda, RowGroup, RowLet, RowCall}
use Rattle.coer_core.specs.Terms.{RowIf, RowSeq, RowCast, RowProj, RowProjDyn, RowTuple, RowPrim, RowTerms, NoRowTerms}
use Rattle.coer_core.specs.Terms.{RowTermThen, RowBindings, NoRowBindings, RowBindingThen, cast_by, core_of}
use Rattle.coer_core.specs.Terms.{core_members, core_bindings}
use Rattle.core_calc.specs.Account.{StepKind, Wraps, Casts, Acts, cast_kind, operator_kind, kind_at}
use Rattle.coer_core.specs.Tally.{operating_kind, job_kind, gather_kind, bind_kind, eval_kind, decision_kind}
use Rattle.coer_core.specs.Tally.{plain_kind}
use Rattle.coer_core.specs.Tally.{enter_kind, back_kind}
use Rattle.coer_core.specs.Machine.{LambdaCode, MemberCode, code_arity, closure, Eval, Calling, Tupling, Operating}
use Rattle.coer_core.specs.Machine.{IfFrame, SeqFrame, FunFrame, ProjDynFrame, GatherFrame, LetFrame, entered, finish}
use Rattle.coer_core.specs.Machine.{gather, bind_next, choose, eval, back}
use Rattle.coer_core.specs.Machine.{Job}
use Rattle.coer_core.proofs.Plugging.{some_chosen, all_onto, AllBound, all_bound, names_onto_of, plain_applies}
use Rattle.coer_core.proofs.Plugging.{plain_redex}
use Rattle.coer_core.proofs.Operating.{m_operator}
use Rattle.coer_core.proofs.Relation.{terms_onto, bindings_onto, names_onto, cast_term, casts_term, IsPlain, sub}
use Rattle.coer_core.proofs.Relation.{sub_terms, sub_bindings, Is, Spelled, SpelledBindings, Pended, let_term, Plugged}
use Rattle.coer_core.proofs.Relation.{TermOf, terms_weight, binding_weight, pending_size, frames_size, size_of}
use Rattle.coer_core.proofs.Unload.{PiledValue, PiledEnv, PiledStore, PiledPending, PiledFrame, PiledAfter}
use Rattle.coer_core.proofs.Unload.{group_with, value_of, entries_of, store_of, entries_again, find_entry, in_row_of}
use Rattle.coer_core.proofs.Joining.{put_in_bound}
use Rattle.coer_core.proofs.Matching.{Matched, m_gives, Fit, m_cast, m_proj, m_proj_dyn, body_of, group_names}
use Rattle.coer_core.proofs.Matching.{group_entries, m_apply, m_wrapped, pended_onto}

module _ (types : TypeRows) (rows : List TypeCast) (store : PiledStore) (world : WorldState) where
  abbrev stepped : Term → Outcome Term
  stepped term = step types (store_of rows store) world term

  -- the calculus makes no step
  abbrev pub Silently : Option StepKind → ℕ → List PiledFrame → Term → PiledAfter → Type 0
  Silently w size k h (On focus frames store1 world1) =
      (w ≡ None) × (store1 ≡ store) × (world1 ≡ world) × (size_of focus frames < size) × ((whole : Term)
      → Plugged rows k h whole → TermOf rows focus frames whole)
  Silently w size k h _ = ⊥

  -- a step of the calculus is of this kind; where neither run has a next state, of none that counts
  abbrev pub IsOfKind : Option StepKind → StepKind → Type 0
  IsOfKind (Some kind) other = other ≡ kind
  IsOfKind None other = other ≡ Acts

  -- it makes a step
  abbrev pub Stepping : Option StepKind → List PiledFrame → Term → PiledAfter → Type 0
  Stepping w k h after =
      (as_value h ≡ None) × IsOfKind w (kind_at types (redex h)) × Matched types rows store world k after (stepped h)

  abbrev pub Moves : Option StepKind → ℕ → List PiledFrame → Term → PiledAfter → Type 0
  Moves w size k h after = Silently w size k h after ⊎ Stepping w k h after

  -- ---- gathering values

  -- the term of a job
  abbrev JobTerm : Job TypeCast → Term → Terms → Term
  JobTerm (Calling f) function terms = Call function terms
  JobTerm Tupling function terms = Tuple terms
  JobTerm (Operating operator) function terms = Prim operator terms

  abbrev Ready : Job TypeCast → Term → Type 0
  Ready (Calling f) function = Is rows function f
  Ready Tupling function = Unit {0}
  Ready (Operating operator) function = Unit {0}

  same_vector : (values : List PiledValue) → vector_kind (map (value_of rows) values) ≡ made_vector values
  same_vector [] = refl
  same_vector (RunInt (pos k) ∷ rest) = refl
  same_vector (RunInt (negsuc k) ∷ rest) = refl
  same_vector (RunFun (LambdaCode parameters body type names) captured ∷ rest) = refl
  same_vector (RunFun (MemberCode group place names) captured ∷ rest) = refl
  same_vector _ = refl

  same_operator : (operator : PrimOp) (values : List PiledValue)
      → operator_kind operator (map (value_of rows) values) ≡ operating_kind operator values
  same_operator MakeVector values = same_vector values
  same_operator Add values = refl
  same_operator Sub values = refl
  same_operator Mul values = refl
  same_operator Quot values = refl
  same_operator Rem values = refl
  same_operator Lt values = refl
  same_operator Le values = refl
  same_operator Eq values = refl
  same_operator Ge values = refl
  same_operator Gt values = refl
  same_operator Not values = refl
  same_operator PrintInt values = refl
  same_operator Newline values = refl
  same_operator ReadInt values = refl
  same_operator MakeBox values = refl
  same_operator Unbox values = refl
  same_operator BoxSet values = refl
  same_operator VectorRef values = refl
  same_operator VectorSet values = refl
  same_operator VectorLength values = refl

  finish_moves : (job : Job TypeCast) (function : Term) (values : List PiledValue) (terms : Terms) (k : List PiledFrame)
      → Ready job function → all_values terms ≡ Some (map (value_of rows) values) → Pended rows (all_plain values) terms
      → Stepping (Some (job_kind job values)) k (JobTerm job function terms) (finish (piling types rows) store world job
      values k)
  finish_moves (Calling f) function values terms k r e p = (
    refl,
    ap (kind_at types) (some_chosen (as_value function) _ _ _ r ∙ some_chosen (all_values terms) _ _ _ e),
    rw
        (r, e) (refl, refl, λ whole q. (Enter function terms, (function, r, (NoTerms, tt, (terms, p, refl))), q)),
  )
  finish_moves Tupling function values terms k r e p = (
    refl,
    ap (kind_at types) (some_chosen (all_values terms) _ _ _ e),
    rw e (
      refl,
      refl,
      λ whole q. (
        ValueTerm (TupleValue (values_from (map (value_of rows) values))),
        ap
            (λ x. Some (TupleValue x)) (sym (in_row_of rows values)),
        q,
      ),
    ),
  )
  finish_moves (Operating operator) function values terms k r e p = (
    refl,
    ap (kind_at types) (some_chosen (all_values terms) _ _ _ e) ∙ ap (prim_kind operator) e
        ∙ same_operator operator values,
    rw e
        (m_operator types rows store world k operator values),
  )

  pend_onto : (done : List PiledValue) (acc : List PiledValue) (terms rest : Terms) → Spelled rows done terms
      → Pended rows (all_plain acc) rest → Pended rows (all_plain (onto done acc)) (terms_onto terms rest)
  pend_onto [] acc NoTerms rest s p = p
  pend_onto [] acc (TermThen term terms) rest s p = absurd s
  pend_onto (v ∷ done) acc NoTerms rest s p = absurd s
  pend_onto (v ∷ done) acc (TermThen term terms) rest s p =
      pend_onto done (v ∷ acc) terms (TermThen term rest) s.1 ((term, s.0, refl), p)

  plug_gathered : (job : Job TypeCast) (function : Term) (done : List PiledValue) (terms : Terms) (h : Term)
      (todo : RowTerms) (env : PiledEnv) (k : List PiledFrame) (whole : Term) → Ready job function
      → Spelled rows done terms → Plugged rows k
      (JobTerm job function (terms_onto terms (TermThen h (sub_terms rows todo env)))) whole
      → Plugged rows (OwnFrame (GatherFrame job done todo env) ∷ k) h whole
  plug_gathered (Calling f) function done terms h todo env k whole r s p = (function, r, (terms, s, p))
  plug_gathered Tupling function done terms h todo env k whole r s p = (terms, s, p)
  plug_gathered (Operating operator) function done terms h todo env k whole r s p = (terms, s, p)

  pub gather_moves : (n : ℕ) (job : Job TypeCast) (function : Term) (done : List PiledValue) (terms : Terms)
      (rest : RowTerms) (env : PiledEnv) (k : List PiledFrame) → Ready job function → Spelled rows done terms
      → terms_weight rest + frames_size k ≤ n
      → Moves (gather_kind job done rest) n k (JobTerm job function (terms_onto terms (sub_terms rows rest env)))
      (gather (piling types rows) store world job done rest env k)
  gather_moves n job function done terms NoRowTerms env k r s le =
      inr (finish_moves job function (onto done []) (terms_onto terms NoTerms) k r
      (all_onto rows done [] terms NoTerms s refl) (pend_onto done [] terms NoTerms s tt))
  gather_moves n job function done terms (RowTermThen term rest) env k r s le =
      inl (
        refl,
        refl,
        refl,
        omega (arith, le),
        λ whole p. (
          sub rows term env,
          refl,
          plug_gathered job function done
              terms (sub rows term env) rest env k whole r s p,
        ),
      )

  -- ---- binding names

  let_values : (bindings : Bindings) (body : Term) (bound : PiledEnv) → AllBound rows bindings bound
      → stepped (Let bindings body) ≡ Goes (substitute body (entries_of rows bound)) (store_of rows store) world
  let_values _ body bound b = rw (b.1, b.2) refl

  let_wraps : (bindings : Bindings) (body : Term) (bound : PiledEnv) → AllBound rows bindings bound
      → kind_at types (redex (Let bindings body)) ≡ Acts
  let_wraps bindings body bound b = ap (kind_at types) (some_chosen (bound_values bindings) _ _ _ b.1)

  bind_moves : (n : ℕ) (bound : PiledEnv) (bindings : Bindings) (rest : RowBindings) (body : RowTerm) (env : PiledEnv)
      (k : List PiledFrame) → SpelledBindings rows bound bindings → binding_weight rest + frames_size k ≤ n
      → Moves (bind_kind rest) n k (let_term rows bindings (names_onto bound (binding_names (core_bindings rows rest)))
      (sub_bindings rows rest env) body env) (bind_next (piling types rows) store world bound rest body env k)
  bind_moves n bound bindings NoRowBindings body env k s le =
      let pairs : PiledEnv = onto bound [] in
      let names : List ℕ = names_onto bound [] in
      let written : Term = substitute (core_of rows body) (without names (entries_of rows env)) in
      let e =
      let_values (bindings_onto bindings NoBindings) written pairs (all_bound rows bound [] bindings NoBindings s
      ([], refl, refl)) in
      inr (
        refl,
        let_wraps (bindings_onto bindings NoBindings) written pairs
            (all_bound rows bound [] bindings NoBindings s ([], refl, refl)),
        subst
            (Matched types rows store world k (On (Own (Eval body (pairs ++ env))) k store world)) (sym e) (
              refl,
              refl,
              λ whole p. (
                substitute written (entries_of rows pairs),
                body_of types rows store world body env names
                    pairs (entries_of rows pairs) refl (names_onto_of rows bound []),
                p,
              ),
            ),
      )
  bind_moves n bound bindings (RowBindingThen name term rest) body env k s le =
      inl (refl, refl, refl, omega (arith, le), λ whole p. (sub rows term env, refl, (bindings, s, p)))

  -- ---- terms

  var_moves : (n : ℕ) (name : ℕ) (env : PiledEnv) (k : List PiledFrame) (o : Option PiledValue) → entry_of name env ≡ o
      → frames_size k < n → Moves None n k (value_or_name (option_map (value_of rows) o) name)
      (on_some o (λ v. On (Return v) k store world))
  var_moves n name env k (Some v) e lt =
      inl (refl, refl, refl, omega (arith, lt), λ whole p. (ValueTerm (value_of rows v), refl, p))
  var_moves n name env k None e lt = inr (refl, refl, tt)

  cast_moves : (n : ℕ) (term : RowTerm) (env : PiledEnv) (k : List PiledFrame) (o : Option TypeCast)
      → size_of (Own (Eval term env)) k < n
      → Moves None n k (substitute (cast_by o (core_of rows term)) (entries_of rows env))
      (on_some o (λ cast. On (Own (Eval term env)) (CastFrame cast ∷ k) store world))
  cast_moves n term env k (Some cast) lt =
      inl (refl, refl, refl, omega (arith, lt), λ whole p. (sub rows term env, refl, p))
  cast_moves n term env k None lt = inr (refl, refl, tt)

  pub eval_moves : (term : RowTerm) (env : PiledEnv) (k : List PiledFrame)
      → Moves (eval_kind TypeCast term) (size_of (Own (Eval term env)) k) k (sub rows term env) (eval (piling types
      rows) store world term env
      k)
  eval_moves (RowInt n) env k = inl (refl, refl, refl, omega arith, λ whole p. (sub rows (RowInt n) env, refl, p))
  eval_moves (RowBool b) env k = inl (refl, refl, refl, omega arith, λ whole p. (sub rows (RowBool b) env, refl, p))
  eval_moves RowUnit env k = inl (refl, refl, refl, omega arith, λ whole p. (sub rows RowUnit env, refl, p))
  eval_moves (RowVar name) env k =
      rw (find_entry rows name env) (var_moves _ name env k (entry_of name env) refl (omega arith))
  eval_moves (RowLambda parameters body type) env k =
      inr (
        refl,
        refl,
        subst (λ z. Matched types rows store world k (On (Return (closure parameters body type env)) k
            store world) (Goes (ValueTerm (FunValue parameters (substitute (core_of rows body) (without parameters z))
            type))
            (store_of rows store) world)) (entries_again rows env)
            (m_gives types rows store world k (closure parameters body type env)),
      )
  eval_moves (RowGroup members body) env k =
      let group : Members = group_with rows members (entries_of rows env) in
      let names : List ℕ = member_names (core_members rows members) in
      inr (
        refl,
        refl,
        (
          refl,
          refl,
          λ whole p. (
            substitute (substitute (core_of rows body) (without names (entries_of rows env))) (group_values group),
            put_in_bound (core_of rows body) names (entries_of rows env) (group_values group)
                (group_names types rows store world members (entries_of rows env))
                ∙ ap (substitute (core_of rows body)) (sym (group_entries types rows store world members env)),
            p,
          ),
        ),
      )
  eval_moves (RowLet bindings body) env k = bind_moves _ [] NoBindings bindings body env k tt (omega arith)
  eval_moves (RowCall function arguments) env k =
      inl (refl, refl, refl, omega arith, λ whole p. (sub rows function env, refl, p))
  eval_moves (RowIf condition on_true on_false) env k =
      inl (refl, refl, refl, omega arith, λ whole p. (sub rows condition env, refl, p))
  eval_moves (RowSeq NoRowTerms) env k = inr (refl, refl, tt)
  eval_moves (RowSeq (RowTermThen term NoRowTerms)) env k =
      inr (refl, refl, (refl, refl, λ whole p. (sub rows term env, refl, p)))
  eval_moves (RowSeq (RowTermThen term (RowTermThen second rest))) env k =
      inl (refl, refl, refl, omega arith, λ whole p. (sub rows term env, refl, p))
  eval_moves (RowCast term number) env k = cast_moves _ term env k (slice_get rows number) (omega arith)
  eval_moves (RowProj term i) env k = inl (refl, refl, refl, omega arith, λ whole p. (sub rows term env, refl, p))
  eval_moves (RowProjDyn term i label) env k =
      inl (refl, refl, refl, omega arith, λ whole p. (sub rows term env, refl, p))
  eval_moves (RowTuple parts) env k =
      gather_moves _ Tupling (sub rows RowUnit env) [] NoTerms parts env k tt tt (omega arith)
  eval_moves (RowPrim operator operands) env k =
      gather_moves _ (Operating operator) (sub rows RowUnit env) [] NoTerms operands env k tt tt (omega arith)

  -- ---- a value goes to what waits for it

  by_bool : (b : Bool) (x y : StepKind) (d e : Decision TypeCast) → x ≡ decision_kind d → y ≡ decision_kind e
      → cond b x y ≡ decision_kind (if b then d else e)
  by_bool true x y d e p q = p
  by_bool false x y d e p q = q

  opening_free : (shape : Shape TypeCast) (cast : TypeCast) → Casts ≡ decision_kind (opening shape cast)
  opening_free (Bare head) cast = refl
  opening_free (Wrapped c) cast = refl
  opening_free (Injected kept) cast = refl

  count_same : (o p : Option TypeRow) (cast : TypeCast) (shape : Shape TypeCast)
      → ((row : TypeRow) → o ≡ Some row → fits row cast shape ≡ true)
      → cast_kind o p ≡ decision_kind
      (or_none (and_some o (λ row. and_some p (λ other. Some (decide_fitting row other cast shape)))))
  count_same (Some row) (Some other) cast shape fit =
      rw (fit row refl) (by_bool (is_dyn row && is_dyn other) Casts _ Keeping _ refl
      (by_bool (is_dyn other) Casts _ (Injecting cast.from) _ refl (by_bool (is_dyn row) Casts _ (opening shape cast) _
      (opening_free shape cast) (by_bool (not (same_head row other)) Casts _ (Blaming cast.label) _ refl
      (by_bool (is_base row) Casts Wraps Keeping (Wrapping cast) refl refl)))))
  count_same (Some row) None cast shape fit = refl
  count_same None p cast shape fit = refl

  cast_wraps : (h : Term) (v : PiledValue) (cast : TypeCast) → Fit types rows store world v cast → Is rows h v
      → kind_at types (redex (cast_term h cast))
      ≡ decision_kind ((piling types rows).cast cast (shape_of code_arity v))
  cast_wraps h v cast fit e =
      ap (kind_at types) (some_chosen (as_value h) _ _ _ e)
      ∙ count_same (row_at types cast.from) (row_at types cast.to) cast (shape_of code_arity v) fit

  choose_matched : (v : PiledValue) (on_true on_false : RowTerm) (env : PiledEnv) (k : List PiledFrame)
      → Matched types rows store world k (choose (piling types rows) store world v on_true on_false env k)
      (if_step types (store_of rows store) world (value_of rows v) (sub rows on_true env) (sub rows on_false env))
  choose_matched (RunBool true) on_true on_false env k = (refl, refl, λ whole p. (sub rows on_true env, refl, p))
  choose_matched (RunBool false) on_true on_false env k = (refl, refl, λ whole p. (sub rows on_false env, refl, p))
  choose_matched (RunFun (LambdaCode parameters body type names) captured) on_true on_false env k = tt
  choose_matched (RunFun (MemberCode group place names) captured) on_true on_false env k = tt
  choose_matched _ on_true on_false env k = tt

  -- the frame's term round the value
  abbrev pub BackMoves : PiledValue → PiledFrame → List PiledFrame → Term → Type 0
  BackMoves v frame k whole =
      (h : Term) × Plugged rows k h whole × Moves (back_kind (piling types rows) v frame)
      (size_of (Return v) (frame ∷ k)) k h (back (piling types rows) store world v frame k)

  -- a cast's frame has a value that it fits
  abbrev pub FitFrame : PiledValue → PiledFrame → Type 0
  FitFrame v (CastFrame cast) = Fit types rows store world v cast
  FitFrame v _ = Unit {0}

  pub back_moves : (v : PiledValue) (frame : PiledFrame) (k : List PiledFrame) (h whole : Term) → FitFrame v frame
      → Is rows h v → Plugged rows (frame ∷ k) h whole → BackMoves v frame k whole
  back_moves v (OwnFrame (IfFrame on_true on_false env)) k h whole fit e p = (
    If h (sub rows on_true env) (sub rows on_false env),
    p,
    inr
        (refl, ap (kind_at types) (some_chosen (as_value h) _ _ _ e), rw e (choose_matched v on_true on_false env k)),
  )
  back_moves v (OwnFrame (SeqFrame term rest env)) k h whole fit e p = (
    Seq (TermThen h (TermThen (sub rows term env) (sub_terms rows rest env))),
    p,
    inr (
      refl,
      ap (kind_at types) (some_chosen (as_value h) _ _ _ e),
      rw e
          (refl, refl, λ other q. (Seq (TermThen (sub rows term env) (sub_terms rows rest env)), refl, q)),
    ),
  )
  back_moves v (OwnFrame (FunFrame arguments env)) k h whole fit e p = (
    Call h (sub_terms rows arguments env),
    p,
    gather_moves _ (Calling v) h [] NoTerms arguments env k e tt
        (omega arith),
  )
  back_moves v (CastFrame cast) k h whole fit e p =
      (cast_term h cast, p, inr (refl, cast_wraps h v cast fit e, rw e (m_cast types rows store world k v cast fit)))
  back_moves v (ProjFrame i) k h whole fit e p = (
    Proj h i,
    p,
    inr (
      refl,
      ap (kind_at types) (some_chosen (as_value h) _ _ _ e),
      rw e
          (m_proj types rows store world k v i),
    ),
  )
  back_moves v (OwnFrame (ProjDynFrame i label)) k h whole fit e p = (
    ProjDyn h i label,
    p,
    inr (
      refl,
      ap (kind_at types) (some_chosen (as_value h) _ _ _ e),
      rw e
          (m_proj_dyn types rows store world k v i label),
    ),
  )
  back_moves v (OwnFrame (GatherFrame (Calling f) done todo env)) k h whole fit e p = (
    Call p.0 (terms_onto p.2.0 (TermThen h (sub_terms rows todo env))),
    p.2.2,
    gather_moves _ (Calling f) p.0
        (v ∷ done) (TermThen h p.2.0) todo env k p.1 (e, p.2.1) (omega arith),
  )
  back_moves v (OwnFrame (GatherFrame Tupling done todo env)) k h whole fit e p = (
    Tuple (terms_onto p.0 (TermThen h (sub_terms rows todo env))),
    p.2,
    gather_moves _ Tupling h (v ∷ done)
        (TermThen h p.0) todo env k tt (e, p.1) (omega arith),
  )
  back_moves v (OwnFrame (GatherFrame (Operating operator) done todo env)) k h whole fit e p = (
    Prim operator (terms_onto p.0 (TermThen h (sub_terms rows todo env))),
    p.2,
    gather_moves _ (Operating operator) h
        (v ∷ done) (TermThen h p.0) todo env k tt (e, p.1) (omega arith),
  )
  back_moves v (PrimFrame operator done) k h whole fit e p = (
    Prim operator (terms_onto p.0 (TermThen h NoTerms)),
    p.2,
    gather_moves _ (Operating operator) h (v ∷ done)
        (TermThen h p.0) NoRowTerms [] k tt (e, p.1) (omega arith),
  )
  back_moves v (OwnFrame (LetFrame bound name todo body env)) k h whole fit e p = (
    let_term rows p.0 (names_onto bound (name ∷ binding_names (core_bindings rows todo)))
        (BindingThen name h (sub_bindings rows todo env)) body env,
    p.2,
    bind_moves _ ((name, v) ∷ bound)
        (BindingThen name h p.0) todo body env k (refl, e, p.1) (omega arith),
  )
  back_moves v (EnterFrame f done todo) k h whole fit e p = (
    Enter p.0 (terms_onto p.3.0 (TermThen h p.3.2.0)),
    p.3.2.2,
    inl (
      refl,
      refl,
      refl,
      omega arith,
      λ other q. (
        Enter p.0 (terms_onto p.3.0 (TermThen h p.3.2.0)),
        (p.0, p.1, (TermThen h p.3.0, (e, p.3.1), (p.3.2.0, p.3.2.1, refl))),
        q,
      ),
    ),
  )

  -- ---- a function is entered

  plug_casts : (casts : List TypeCast) (k : List PiledFrame) (term whole : Term)
      → Plugged rows k (casts_term term casts) whole → Plugged rows (casts_onto casts k) term whole
  plug_casts [] k term whole p = p
  plug_casts (cast ∷ casts) k term whole p = plug_casts casts k (cast_term term cast) whole p

  casts_size : (casts : List TypeCast) (k : List PiledFrame) → frames_size (casts_onto casts k) ≡ frames_size k
  casts_size [] k = refl
  casts_size (cast ∷ casts) k = let e = casts_size casts k in omega (arith, e)

  next_moves : (f : PiledValue) (done : List PiledValue) (v : PiledValue) (casts : List TypeCast)
      (todo : List PiledPending) (k : List PiledFrame) (function : Term) (terms : Terms) (t : Term) (rest : Terms)
      → IsPlain f → Is rows function f → Spelled rows done terms → Is rows t v → Pended rows todo rest
      → Moves None (suc (suc (pending_size todo)) + frames_size k) k
      (Enter function (terms_onto terms (TermThen (casts_term t casts) rest)))
      (next_argument (piling types rows) code_arity entered store world f done v casts todo k)
  next_moves f done v [] todo k function terms t rest plain i s it p =
      inl (
        refl,
        refl,
        refl,
        omega arith,
        λ whole q. (
          Enter function (terms_onto terms (TermThen t rest)),
          (function, i, (TermThen t terms, (it, s), (rest, p, refl))),
          q,
        ),
      )
  next_moves f done v (cast ∷ casts) todo k function terms t rest plain i s it p =
      let e = casts_size casts (EnterFrame f done todo ∷ k) in
      inl (
        refl,
        refl,
        refl,
        omega (arith, e),
        λ whole q. (
          t,
          it,
          plug_casts casts (EnterFrame f done todo ∷ k)
              (cast_term t cast) whole (function, i, plain, (terms, s, (rest, p, q))),
        ),
      )

  -- neither entering a function nor a wrapper is a wrap step
  enter_wraps : (f : PiledValue) (function : Term) (terms : Terms) (values : List Value) → IsPlain f
      → Is rows function f → all_values terms ≡ Some values → kind_at types (redex (Enter function terms)) ≡ Acts
  enter_wraps f function terms values plain i e =
      let whole : Focus Term = here (Enter function terms) in
      let inner : Focus Term = below (Enter function) (focus_terms terms) in
      ap (kind_at types) (ap (λ o. (enter_focus o whole (where_some (all_values terms) whole inner)).redex) i
      ∙ plain_redex rows types (store_of rows store) world f whole (where_some (all_values terms) whole inner) plain
      ∙ some_chosen (all_values terms) values whole inner e)

  wrapper_wraps : (function : Term) (terms : Terms) (v : Value) (cast : TypeCast)
      → as_value function ≡ Some (WrapValue v cast.from cast.label cast.to)
      → kind_at types (redex (Enter function terms)) ≡ Acts
  wrapper_wraps function terms v cast i =
      let whole : Focus Term = here (Enter function terms) in
      let inner : Focus Term = below (Enter function) (focus_terms terms) in
      ap (λ o. kind_at types (enter_focus o whole (where_some (all_values terms) whole inner)).redex) i

  plain_moves : (f : PiledValue) (done : List PiledValue) (todo : List PiledPending) (k : List PiledFrame)
      (function : Term) (terms rest : Terms) → IsPlain f → Is rows function f → Spelled rows done terms
      → Pended rows todo rest → Moves (plain_kind todo) (size_of (Entering f done todo) k) k
      (Enter function (terms_onto terms rest))
      (enter_plain (piling types rows) code_arity entered store world f done todo k)
  plain_moves f done [] k function terms NoTerms plain i s p =
      inr (
        refl,
        enter_wraps f function (terms_onto terms NoTerms) (map (value_of rows) (onto done [])) plain i
            (all_onto rows done [] terms NoTerms s refl),
        rw (
          i,
          plain_applies rows types (store_of rows store) world f
              (terms_onto terms NoTerms) (inside (Enter function) (step_terms types (store_of rows store) world
              (terms_onto terms NoTerms))) (map (value_of rows) (onto done [])) plain
              (all_onto rows done [] terms NoTerms s refl),
        ) (m_apply types rows store world k f (onto done [])),
      )
  plain_moves f done [] k function terms (TermThen term rest) plain i s p = absurd p
  plain_moves f done (pending ∷ todo) k function terms NoTerms plain i s p = absurd p
  plain_moves f done (pending ∷ todo) k function terms (TermThen term rest) plain i s p =
      subst (λ x. Moves None (suc (suc (pending_size todo)) + frames_size k) k
      (Enter function (terms_onto terms (TermThen x rest))) (next_argument (piling types rows) code_arity entered store
      world f done pending.value pending.casts todo k)) (sym p.0.2) (next_moves f done pending.value pending.casts todo
      k function terms p.0.0 rest plain i s p.0.1 p.1)

  pub enter_moves : (f : PiledValue) (done : List PiledValue) (todo : List PiledPending) (k : List PiledFrame)
      (function : Term) (terms rest : Terms) → Is rows function f → Spelled rows done terms → Pended rows todo rest
      → Moves (enter_kind f todo) (size_of (Entering f done todo) k) k (Enter function (terms_onto terms rest))
      (enter (piling types rows) code_arity entered store world f done todo k)
  enter_moves (RunWrap f cast) done todo k function terms rest i s p =
      inr (
        refl,
        wrapper_wraps function (terms_onto terms rest) (value_of rows f) cast i,
        rw i
            (m_wrapped types rows store world k f cast (pendings_onto done todo) (terms_onto terms rest)
            (pended_onto types rows store world done todo terms rest s p)),
      )
  enter_moves f done todo k function terms rest i s p = plain_moves f done todo k function terms rest tt i s p
