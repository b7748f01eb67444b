-- Steps on values: casts, parts of tuples and calls do in both runs the same.
use Rattle.std.proofs.Common.{◌≡◌, ℕ, zero, suc, ℤ, pos, negsuc, Bool, true, false, List, [], ◌∷◌, ◌++◌, map, Option}
use Rattle.std.proofs.Common.{Some, None, refl, sym, ap, ◌∙◌, append-nil, if◌then◌else◌, slice_get}
use Rattle.std.specs.Prelude.{option_map, not, ◌&&◌}
use Rattle.std.proofs.lemmas.Option.{slice_get-map}
use Rattle.grift_base.specs.World.{WorldState}
use Rattle.grift_base.specs.Types.{TypeRow, FunRow}
use Rattle.grift_base.specs.Types.{TypeRows, row_at, is_dyn, is_base, same_head, tuple_part, dyn_place}
use Rattle.core_calc.specs.Terms.{Term, Terms, Members, Enter, Cast, Proj, ValueTerm, NoTerms, TermThen}
use Rattle.core_calc.specs.Terms.{value_list, member_names}
use Rattle.core_calc.specs.Substitution.{Substitution, without, substitute, substitute_members, bind}
use Rattle.core_calc.specs.Substitution.{group_values}
use Rattle.core_calc.specs.Outcome.{Outcome, Goes, Blames, Traps, Stuck, if_some, with_some}
use Rattle.core_calc.specs.Casts.{with_rows, with_part_of_both, cast_out, cast_step}
use Rattle.core_calc.specs.Calls.{cast_arguments, enter_wrapped, enter_body, enter_member, value_at, proj_step}
use Rattle.core_calc.specs.Calls.{proj_to_dyn, proj_dyn_step}
use Rattle.cast_modes.specs.Modes.{Decision, Keeping, Wrapping, Blaming, and_some, or_none, TypeCast, type_cast}
use Rattle.cast_modes.specs.Modes.{opening, fits, casts_between, function_casts, of_both, of_parts, cast_to_dyn}
use Rattle.cast_modes.specs.Modes.{part_to_dyn, kept_part, piling}
use Rattle.cast_modes.specs.RunValues.{RunFun, RunTuple, RunWrap, RunInject, in_row, row_list, shape_of}
use Rattle.cast_modes.specs.ValueSteps.{CastFrame, ProjFrame, Own, Return, Entering, On, BlameOf, TrapOf, NoNext}
use Rattle.cast_modes.specs.ValueSteps.{on_some, element_at, pendings_onto, cast_all, make, run_cast, apply}
use Rattle.cast_modes.specs.ValueSteps.{run_enter_wrapped, run_proj, blame_or_proj, run_proj_dyn}
use Rattle.coer_core.specs.Terms.{RowTerm, RowMembers, NoRowMembers, RowMemberThen, core_of, core_members}
use Rattle.coer_core.specs.Machine.{Code, LambdaCode, MemberCode, code_arity, env_names, env_values, paired}
use Rattle.coer_core.specs.Machine.{captured_env, members_in, group_env, Evaluation, Eval, entered_body, entered_member}
use Rattle.coer_core.specs.Machine.{entered}
use Rattle.coer_core.specs.Machine.{CoerValues}
use Rattle.coer_core.proofs.Plugging.{calc_apply}
use Rattle.coer_core.proofs.Relation.{terms_onto, cast_term, casts_term, sub, Is, Spelled, Pended, Plugged, TermOf}
use Rattle.coer_core.proofs.Unload.{PiledValue, PiledEnv, PiledStore, PiledPending, PiledFrame, PiledAfter}
use Rattle.coer_core.proofs.Unload.{group_with, value_of, values_of, entries_of, store_of, captured_entries}
use Rattle.coer_core.proofs.Unload.{entries_again, entries_append, members_entries, BoundBoth, bound_both, row_list_of}
use Rattle.coer_core.proofs.Unload.{names_of_members}
use Rattle.coer_core.proofs.Joining.{ap2, names_kept, put_in_bound, put_in_inner}

module _ (types : TypeRows) (rows : List TypeCast) (store : PiledStore) (world : WorldState) where
  -- what a step of this run comes to is what the calculus's step comes to, in the same place
  abbrev pub Matched : List PiledFrame → PiledAfter → Outcome Term → Type 0
  Matched k (On focus frames store1 world1) (Goes h cells world2) =
      (cells ≡ store_of rows store1) × (world2 ≡ world1) × ((whole : Term) → Plugged rows k h whole
      → TermOf rows focus frames whole)
  Matched k (BlameOf label) (Blames other) = other ≡ label
  Matched k (TrapOf trap world1) (Traps other world2) = (other ≡ trap) × (world2 ≡ world1)
  Matched k NoNext Stuck = Unit {0}
  Matched k _ _ = ⊥

  pub m_some : {A : Type 0} (k : List PiledFrame) (o : Option A) (go : A → PiledAfter) (go1 : A → Outcome Term)
      → ((a : A) → Matched k (go a) (go1 a)) → Matched k (on_some o go) (with_some o go1)
  m_some k (Some a) go go1 m = m a
  m_some k None go go1 m = tt

  pub m_map : {A B : Type 0} (k : List PiledFrame) (f : A → B) (o : Option A) (go : A → PiledAfter) (go1 : B
      → Outcome Term) → ((a : A) → Matched k (go a) (go1 (f a)))
      → Matched k (on_some o go) (with_some (option_map f o) go1)
  m_map k f (Some a) go go1 m = m a
  m_map k f None go go1 m = tt

  pub m_if : (k : List PiledFrame) (b : Bool) (x y : PiledAfter) (o p : Outcome Term) → Matched k x o → Matched k y p
      → Matched k (if b then x else y) (if b then o else p)
  m_if k true x y o p m n = m
  m_if k false x y o p m n = n

  pub m_and : {A B : Type 0} (k : List PiledFrame) (o : Option A) (f : A → Option B) (go : B → PiledAfter) (go1 : A
      → Outcome Term) → ((a : A) → Matched k (on_some (f a) go) (go1 a))
      → Matched k (on_some (and_some o f) go) (with_some o go1)
  m_and k (Some a) f go go1 m = m a
  m_and k None f go go1 m = tt

  pub m_both : {B : Type 0} (k : List PiledFrame) (from to : ℕ) (f : TypeRow → TypeRow → Option B) (go : B
      → PiledAfter) (go1 : TypeRow → TypeRow → Outcome Term)
      → ((row other : TypeRow) → Matched k (on_some (f row other) go) (go1 row other))
      → Matched k (on_some (of_both types from to f) go) (with_rows types from to go1)
  m_both k from to f go go1 m =
      m_and k (row_at types from) _ go _ (λ row. m_and k (row_at types to) _ go _ (λ other. m row other))

  pub m_parts : (k : List PiledFrame) (part : TypeRow → Option ℕ) (cast : TypeCast) (f : ℕ → ℕ
      → TypeCast) (go : TypeCast → PiledAfter) (go1 : ℕ → ℕ → Outcome Term)
      → ((inner outer : ℕ) → Matched k (go (f inner outer)) (go1 inner outer))
      → Matched k (on_some (of_parts types part cast f) go) (with_part_of_both types part cast.from cast.to go1)
  m_parts k part cast f go go1 m =
      m_both k cast.from cast.to _ go _
      (λ row other. m_and k (part row) _ go _ (λ inner. m_and k (part other) _ go _ (λ outer. m inner outer)))

  -- a value is given
  pub m_gives : (k : List PiledFrame) (v : PiledValue)
      → Matched k (On (Return v) k store world) (Goes (ValueTerm (value_of rows v)) (store_of rows store) world)
  m_gives k v = (refl, refl, λ whole p. (ValueTerm (value_of rows v), refl, p))

  -- ---- casts

  abbrev making : List PiledFrame → PiledValue → Decision TypeCast → PiledAfter
  making k v decision = make (piling types rows) code_arity entered store world decision v k

  m_out : (k : List PiledFrame) (v : PiledValue) (cast : TypeCast)
      → Matched k (making k v (opening (shape_of code_arity v) cast))
      (cast_out types (store_of rows store) world (value_of rows v) cast.to cast.label)
  m_out k (RunInject v kept) cast = (refl, refl, λ whole p. (ValueTerm (value_of rows v), refl, p))
  m_out k (RunFun (LambdaCode parameters body type names) captured) cast = tt
  m_out k (RunFun (MemberCode group place names) captured) cast = tt
  m_out k _ cast = tt

  m_or : {A : Type 0} (k : List PiledFrame) (v : PiledValue) (o : Option A) (f : A → Option (Decision TypeCast))
      (go1 : A → Outcome Term) → ((a : A) → o ≡ Some a → Matched k (making k v (or_none (f a))) (go1 a))
      → Matched k (making k v (or_none (and_some o f))) (with_some o go1)
  m_or k v (Some a) f go1 m = m a refl
  m_or k v None f go1 m = tt

  m_choice : (k : List PiledFrame) (v : PiledValue) (b : Bool) (d e : Decision TypeCast) (o p : Outcome Term)
      → Matched k (making k v d) o → Matched k (making k v e) p
      → Matched k (making k v (if b then d else e)) (if b then o else p)
  m_choice k v true d e o p m n = m
  m_choice k v false d e o p m n = n

  -- a value that can have the type that a cast begins at
  abbrev pub Fit : PiledValue → TypeCast → Type 0
  Fit v cast = (row : TypeRow) → row_at types cast.from ≡ Some row → fits row cast (shape_of code_arity v) ≡ true

  pub m_cast : (k : List PiledFrame) (v : PiledValue) (cast : TypeCast) → Fit v cast
      → Matched k (run_cast (piling types rows) code_arity entered store world v cast k)
      (cast_step types (store_of rows store) world (value_of rows v) cast.from cast.to cast.label)
  m_cast k v cast fit =
      m_or k v (row_at types cast.from) _ _ (λ row e. m_or k v (row_at types cast.to) _ _ (λ other e1. rw (fit row e)
      (m_choice k v (is_dyn row && is_dyn other) _ _ _ _ (m_gives k v)
      (m_choice k v (is_dyn other) _ _ _ _ (m_gives k (RunInject v cast.from))
      (m_choice k v (is_dyn row) _ _ _ _ (m_out k v cast)
      (m_choice k v (not (same_head row other)) (Blaming cast.label) _ (Blames cast.label) _ refl
      (m_choice k v (is_base row) Keeping (Wrapping cast) _ _ (m_gives k v) (m_gives k (RunWrap v cast)))))))))

  -- ---- parts of tuples

  m_part : (k : List PiledFrame) (values : List PiledValue) (i : ℤ)
      → Matched k (on_some (element_at values i) (λ v. On (Return v) k store world))
      (with_some (value_at types (store_of rows store) world (map (value_of rows) values) i)
      (λ v. Goes (ValueTerm v) (store_of rows store) world))
  m_part k values (pos n) =
      rw (slice_get-map (value_of rows) values n) (m_map k (value_of rows) (slice_get values n) _ _ (λ v. m_gives k v))
  m_part k values (negsuc n) = tt

  pub m_proj : (k : List PiledFrame) (v : PiledValue) (i : ℤ)
      → Matched k (run_proj (piling types rows) code_arity entered store world v i k)
      (proj_step types (store_of rows store) world (value_of rows v) i)
  m_proj k (RunTuple values) i = rw (row_list_of rows values) (m_part k (row_list values) i)
  m_proj k (RunWrap v cast) i =
      m_parts k (λ row. tuple_part row i) cast (λ inner outer. type_cast inner cast.label outer)
      (λ part. On (Return v) (ProjFrame i ∷ CastFrame part ∷ k) store world)
      (λ inner outer. Goes (Cast (Proj (ValueTerm (value_of rows v)) i) inner outer cast.label) (store_of rows store)
      world) (λ inner outer. (refl, refl, λ whole p. (ValueTerm (value_of rows v), refl, p)))
  m_proj k (RunFun (LambdaCode parameters body type names) captured) i = tt
  m_proj k (RunFun (MemberCode group place names) captured) i = tt
  m_proj k _ i = tt

  m_dyn : (k : List PiledFrame) (v : PiledValue) (i : ℤ) (label part : ℕ) (o : Option ℕ)
      → Matched k (blame_or_proj (piling types rows) code_arity entered store world (cast_to_dyn type_cast o part label)
      v i label k) (with_some o (λ dyn. Goes (Cast (Proj (ValueTerm (value_of rows v)) i) part dyn label)
      (store_of rows store) world))
  m_dyn k v i label part (Some dyn) = (refl, refl, λ whole p. (ValueTerm (value_of rows v), refl, p))
  m_dyn k v i label part None = tt

  m_to_dyn : (k : List PiledFrame) (v : PiledValue) (i : ℤ) (label : ℕ) (part : Option ℕ)
      → Matched k (blame_or_proj (piling types rows) code_arity entered store world
      (part_to_dyn type_cast types part label) v i label k)
      (if_some part (λ p. proj_to_dyn types (store_of rows store) world (value_of rows v) i p label) (Blames label))
  m_to_dyn k v i label (Some part) = m_dyn k v i label part (dyn_place types)
  m_to_dyn k v i label None = refl

  m_kept : (k : List PiledFrame) (v : PiledValue) (i : ℤ) (label : ℕ) (o : Option TypeRow)
      → Matched k (blame_or_proj (piling types rows) code_arity entered store world
      (kept_part type_cast types o i label) v i label k)
      (with_some o (λ row. if_some (tuple_part row i) (λ part. proj_to_dyn types (store_of rows store) world
      (value_of rows v) i part label) (Blames label)))
  m_kept k v i label (Some row) = m_to_dyn k v i label (tuple_part row i)
  m_kept k v i label None = tt

  pub m_proj_dyn : (k : List PiledFrame) (v : PiledValue) (i : ℤ) (label : ℕ)
      → Matched k (run_proj_dyn (piling types rows) code_arity entered store world v i label k)
      (proj_dyn_step types (store_of rows store) world (value_of rows v) i label)
  m_proj_dyn k (RunInject v kept) i label = m_kept k v i label (row_at types kept)
  m_proj_dyn k (RunFun (LambdaCode parameters body type names) captured) i label = tt
  m_proj_dyn k (RunFun (MemberCode group place names) captured) i label = tt
  m_proj_dyn k _ i label = tt

  -- ---- calls

  -- the body of a function, where its parameters are bound
  pub body_of : (body : RowTerm) (env : PiledEnv) (parameters : List ℕ) (bound : PiledEnv) (entries : Substitution)
      → entries ≡ entries_of rows bound → env_names entries ≡ parameters
      → substitute (substitute (core_of rows body) (without parameters (entries_of rows env))) entries
      ≡ sub rows body (bound ++ env)
  body_of body env parameters bound entries e n =
      put_in_bound (core_of rows body) parameters (entries_of rows env) entries n
      ∙ ap (substitute (core_of rows body)) (ap (λ l. l ++ entries_of rows env) e ∙ sym (entries_append rows bound env))

  -- what a body comes to in the calculus is what it is here, whatever the parameters are bound to
  abbrev SameBody : List ℕ → RowTerm → PiledEnv → Substitution → Term → Type 0
  SameBody parameters body env group written =
      (bound : PiledEnv) (entries : Substitution) → entries ≡ entries_of rows bound → env_names entries ≡ parameters
      → substitute written (entries ++ group) ≡ sub rows body (bound ++ env)

  abbrev goes_in : List PiledFrame → Option (Evaluation TypeCast) → PiledAfter
  goes_in k o = on_some o (λ place. On (Own place) k store world)

  m_body_on : (k : List PiledFrame) (parameters : List ℕ) (body : RowTerm) (env : PiledEnv) (group : Substitution)
      (written : Term) (o : Option PiledEnv) (q : Option Substitution) → BoundBoth rows parameters o q
      → SameBody parameters body env group written
      → Matched k (goes_in k (option_map (λ bound. Eval body (bound ++ env)) o))
      (with_some q (λ entries. Goes (substitute written (entries ++ group)) (store_of rows store) world))
  m_body_on k parameters body env group written (Some bound) (Some entries) b same =
      (refl, refl, λ whole p. (substitute written (entries ++ group), same bound entries b.0 b.1, p))
  m_body_on k parameters body env group written None None b same = tt
  m_body_on k parameters body env group written (Some bound) None b same = absurd b
  m_body_on k parameters body env group written None (Some entries) b same = absurd b

  m_body : (k : List PiledFrame) (parameters : List ℕ) (body : RowTerm) (env : PiledEnv) (group : Substitution)
      (written : Term) (values : List PiledValue) → SameBody parameters body env group written
      → Matched k (goes_in k (entered_body parameters body env values))
      (enter_body types (store_of rows store) world parameters written group (map (value_of rows) values))
  m_body k parameters body env group written values same =
      m_body_on k parameters body env group written (bind parameters values)
      (bind parameters (map (value_of rows) values)) (bound_both rows parameters values) same

  pub group_names : (group : RowMembers) (s : Substitution)
      → env_names (group_values (group_with rows group s)) ≡ member_names (core_members rows group)
  group_names group s =
      names_of_members (group_with rows group s) (group_with rows group s) 0
      ∙ names_kept (core_members rows group) (without (member_names (core_members rows group)) s)

  -- the environment in which a group's functions are known, where they are made
  pub group_entries : (group : RowMembers) (env : PiledEnv)
      → entries_of rows (members_in group (env_names env) (in_row (env_values env)) group 0 ++ env)
      ≡ group_values (group_with rows group (entries_of rows env)) ++ entries_of rows env
  group_entries group env =
      let captured : CoerValues TypeCast = in_row (env_values env) in
      let s : Substitution = paired (env_names env) (value_list (values_of rows captured)) in
      entries_append rows (members_in group (env_names env) captured group 0) env
      ∙ ap (λ l. l ++ entries_of rows env)
      (members_entries rows group (env_names env) captured (without (member_names (core_members rows group)) s) group 0
      ∙ ap (λ z. group_values (group_with rows group z)) (entries_again rows env))

  module _ (group : RowMembers) (names : List ℕ) (captured : CoerValues TypeCast) where
    abbrev inner : PiledEnv
    inner = group_env group names captured

    abbrev put : Substitution
    put = paired names (value_list (values_of rows captured))

    abbrev whole_group : Members
    whole_group = group_with rows group put

    abbrev hidden : Substitution
    hidden = without (member_names (core_members rows group)) put

    inner_entries : entries_of rows (group_env group names captured)
        ≡ group_values (group_with rows group (paired names (value_list (values_of rows captured))))
        ++ paired names (value_list (values_of rows captured))
    inner_entries =
        entries_append rows (members_in group names captured group 0) (captured_env names captured)
        ∙ ap2 (λ l r. l ++ r) (members_entries rows group names captured hidden group 0)
        (sym (captured_entries rows names captured))

    member_body : (body : RowTerm) (parameters : List ℕ) → SameBody parameters body inner (group_values whole_group)
        (substitute (core_of rows body) (without parameters hidden))
    member_body body parameters bound entries e n =
        put_in_inner (core_of rows body) parameters (member_names (core_members rows group)) put entries
        (group_values whole_group) n (group_names group put)
        ∙ ap (substitute (core_of rows body))
        (ap2 (λ l r. l ++ r) e (sym inner_entries) ∙ sym (entries_append rows bound inner))

    m_member : (k : List PiledFrame) (members : RowMembers) (place : ℕ) (values : List PiledValue)
        → Matched k (goes_in k (entered_member members place inner values))
        (enter_member types (store_of rows store) world (substitute_members (core_members rows members) hidden) place
        (group_values whole_group) (map (value_of rows) values))
    m_member k NoRowMembers place values = tt
    m_member k (RowMemberThen name parameters body type rest) zero values =
        m_body k parameters body inner (group_values whole_group)
        (substitute (core_of rows body) (without parameters hidden)) values (member_body body parameters)
    m_member k (RowMemberThen name parameters body type rest) (suc place) values = m_member k rest place values

  lambda_body : (names : List ℕ) (captured : CoerValues TypeCast) (body : RowTerm) (parameters : List ℕ)
      → SameBody parameters body (captured_env names captured) []
      (substitute (core_of rows body) (without parameters (paired names (value_list (values_of rows captured)))))
  lambda_body names captured body parameters bound entries e n =
      ap2 (λ z w. substitute (substitute (core_of rows body) (without parameters z)) w)
      (captured_entries rows names captured) (append-nil entries)
      ∙ body_of body (captured_env names captured) parameters bound entries e n

  pub m_apply : (k : List PiledFrame) (f : PiledValue) (values : List PiledValue)
      → Matched k (apply (piling types rows) code_arity entered store world f values k)
      (calc_apply rows types (store_of rows store) world (value_of rows f) (map (value_of rows) values))
  m_apply k (RunFun (LambdaCode parameters body type names) captured) values =
      m_body k parameters body (captured_env names captured) []
      (substitute (core_of rows body) (without parameters (paired names (value_list (values_of rows captured))))) values
      (lambda_body names captured body parameters)
  m_apply k (RunFun (MemberCode group place names) captured) values =
      m_member group names captured k group place values
  m_apply k _ values = tt

  -- ---- calls through a wrapper

  abbrev CastBoth : Option (List PiledPending) → Option Terms → Type 0
  CastBoth (Some pendings) (Some terms) = Pended rows pendings terms
  CastBoth None None = Unit {0}
  CastBoth _ _ = ⊥

  casts_more : (t : Term) (casts : List TypeCast) (cast : TypeCast)
      → casts_term t (casts ++ cast ∷ []) ≡ cast_term (casts_term t casts) cast
  casts_more t [] cast = refl
  casts_more t (c ∷ casts) cast = casts_more (cast_term t c) casts cast

  cast_both_on : (p : PiledPending) (term : Term) (cast : TypeCast) (o : Option (List PiledPending)) (q : Option Terms)
      → ((t : Term) × Is rows t p.value × (term ≡ casts_term t p.casts)) → CastBoth o q
      → CastBoth (option_map (λ l. record { value = p.value; casts = p.casts ++ cast ∷ [] } ∷ l) o)
      (option_map (TermThen (cast_term term cast)) q)
  cast_both_on p term cast (Some pendings) (Some terms) t b =
      ((t.0, t.1, ap (λ x. cast_term x cast) t.2 ∙ sym (casts_more t.0 p.casts cast)), b)
  cast_both_on p term cast None None t b = tt
  cast_both_on p term cast (Some pendings) None t b = absurd b
  cast_both_on p term cast None (Some terms) t b = absurd b

  none_left : (cast : TypeCast) (o : Option (List TypeCast))
      → and_some (option_map (λ l. cast ∷ l) o) (λ l. cast_all {K = Code} [] l) ≡ None
  none_left cast (Some l) = refl
  none_left cast None = refl

  cast_next : (pending : PiledPending) (pendings : List PiledPending) (term : Term) (cast : TypeCast)
      (o : Option (List TypeCast)) (q : Option Terms)
      → ((t : Term) × Is rows t pending.value × (term ≡ casts_term t pending.casts))
      → CastBoth (and_some o (λ l. cast_all pendings l)) q
      → CastBoth (and_some (option_map (λ l. cast ∷ l) o) (λ l. cast_all (pending ∷ pendings) l))
      (option_map (TermThen (cast_term term cast)) q)
  cast_next pending pendings term cast (Some l) q t b = cast_both_on pending term cast (cast_all pendings l) q t b
  cast_next pending pendings term cast None None t b = tt
  cast_next pending pendings term cast None (Some terms) t b = absurd b

  cast_both : (pendings : List PiledPending) (terms : Terms) (froms tos : List ℕ) (label : ℕ)
      → Pended rows pendings terms → CastBoth (and_some (casts_between froms tos label) (λ l. cast_all pendings l))
      (cast_arguments terms froms tos label)
  cast_both [] NoTerms [] [] label p = tt
  cast_both [] NoTerms [] (to ∷ tos) label p = tt
  cast_both [] NoTerms (from ∷ froms) [] label p = tt
  cast_both [] NoTerms (from ∷ froms) (to ∷ tos) label p =
      rw (none_left (type_cast from label to) (casts_between froms tos label)) tt
  cast_both [] (TermThen term rest) froms tos label p = absurd p
  cast_both (pending ∷ pendings) NoTerms froms tos label p = absurd p
  cast_both (pending ∷ pendings) (TermThen term rest) [] [] label p = tt
  cast_both (pending ∷ pendings) (TermThen term rest) [] (to ∷ tos) label p = tt
  cast_both (pending ∷ pendings) (TermThen term rest) (from ∷ froms) [] label p = tt
  cast_both (pending ∷ pendings) (TermThen term rest) (from ∷ froms) (to ∷ tos) label p =
      cast_next pending pendings term (type_cast from label to) (casts_between froms tos label)
      (cast_arguments rest froms tos label) p.0 (cast_both pendings rest froms tos label p.1)

  m_wrapped_on : (k : List PiledFrame) (f : PiledValue) (answer wanted label : ℕ) (o : Option (List PiledPending))
      (q : Option Terms) → CastBoth o q
      → Matched k (on_some o (λ casts. On (Entering f [] casts)
      (CastFrame (record { from = answer; label = label; to = wanted }) ∷ k) store world))
      (with_some q (λ casts. Goes (Cast (Enter (ValueTerm (value_of rows f)) casts) answer wanted label)
      (store_of rows store) world))
  m_wrapped_on k f answer wanted label (Some pendings) (Some terms) b = (
    refl,
    refl,
    λ whole p. (
      Enter (ValueTerm (value_of rows f)) terms,
      (ValueTerm (value_of rows f), refl, (NoTerms, tt, (terms, b, refl))),
      p,
    ),
  )
  m_wrapped_on k f answer wanted label None None b = tt
  m_wrapped_on k f answer wanted label (Some pendings) None b = absurd b
  m_wrapped_on k f answer wanted label None (Some terms) b = absurd b

  m_wrapped_casts : (k : List PiledFrame) (f : PiledValue) (answer wanted label : ℕ) (pendings : List PiledPending)
      (o : Option (List TypeCast)) (q : Option Terms) → CastBoth (and_some o (λ l. cast_all pendings l)) q
      → Matched k (on_some (option_map (λ l. (l, type_cast answer label wanted)) o)
      (λ casts. run_enter_wrapped (piling types rows) code_arity entered store world f casts pendings k))
      (with_some q (λ casts. Goes (Cast (Enter (ValueTerm (value_of rows f)) casts) answer wanted label)
      (store_of rows store) world))
  m_wrapped_casts k f answer wanted label pendings (Some l) q b =
      m_wrapped_on k f answer wanted label (cast_all pendings l) q b
  m_wrapped_casts k f answer wanted label pendings None None b = tt
  m_wrapped_casts k f answer wanted label pendings None (Some terms) b = absurd b

  m_wrapped_rows : (k : List PiledFrame) (row other : TypeRow) (f : PiledValue) (label : ℕ)
      (pendings : List PiledPending) (terms : Terms) → Pended rows pendings terms
      → Matched k (on_some (function_casts row other label) (λ casts. run_enter_wrapped (piling types rows) code_arity
      entered store world f casts pendings k)) (enter_wrapped types (store_of rows store) world row other
      (value_of rows f) terms label)
  m_wrapped_rows k (FunRow parameters answer) (FunRow wanted_parameters wanted) f label pendings terms p =
      m_wrapped_casts k f answer wanted label pendings (casts_between wanted_parameters parameters label)
      (cast_arguments terms wanted_parameters parameters label) (cast_both pendings terms wanted_parameters parameters
      label p)
  m_wrapped_rows k _ _ f label pendings terms p = tt

  pub m_wrapped : (k : List PiledFrame) (f : PiledValue) (cast : TypeCast) (pendings : List PiledPending)
      (terms : Terms) → Pended rows pendings terms
      → Matched k (on_some (of_both types cast.from cast.to (λ row other. function_casts row other cast.label))
      (λ casts. run_enter_wrapped (piling types rows) code_arity entered store world f casts pendings k))
      (with_rows types cast.from cast.to (λ row other. enter_wrapped types (store_of rows store) world row other
      (value_of rows f) terms cast.label))
  m_wrapped k f cast pendings terms p =
      m_both k cast.from cast.to _ (λ casts. run_enter_wrapped (piling types rows) code_arity entered store world f
      casts pendings k) _ (λ row other. m_wrapped_rows k row other f cast.label pendings terms p)

  pub pended_onto : (done : List PiledValue) (todo : List PiledPending) (terms rest : Terms) → Spelled rows done terms
      → Pended rows todo rest → Pended rows (pendings_onto done todo) (terms_onto terms rest)
  pended_onto [] todo NoTerms rest s p = p
  pended_onto [] todo (TermThen term terms) rest s p = absurd s
  pended_onto (v ∷ done) todo NoTerms rest s p = absurd s
  pended_onto (v ∷ done) todo (TermThen term terms) rest s p =
      pended_onto done (record { value = v; casts = [] } ∷ todo) terms (TermThen term rest) s.1 ((term, s.0, refl), p)
