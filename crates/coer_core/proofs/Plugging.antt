-- A step of a term is a step of the whole.
use Rattle.std.proofs.Common.{◌≡◌, ℕ, List, [], ◌∷◌, map, Option, Some, None, refl, sym, ap, ◌∙◌, subst}
use Rattle.grift_base.specs.World.{WorldState}
use Rattle.grift_base.specs.Types.{TypeRows}
use Rattle.core_calc.specs.Terms.{Term, Terms, Bindings, Value, Let, Call, Enter, If, Seq, Proj, ProjDyn, Tuple}
use Rattle.core_calc.specs.Terms.{Prim, NoTerms, TermThen, NoBindings, BindingThen, FunValue, MemberValue, as_value}
use Rattle.core_calc.specs.Terms.{all_values, bound_values, binding_names}
use Rattle.core_calc.specs.Substitution.{bind, group_values}
use Rattle.core_calc.specs.Outcome.{Store, Outcome, Goes, Stuck, inside}
use Rattle.core_calc.specs.Calls.{enter_body, enter_member, enter_step}
use Rattle.core_calc.specs.Redex.{Focus, here, below, along, where_some, enter_focus, focus, focus_terms}
use Rattle.core_calc.specs.Redex.{focus_bindings, redex}
use Rattle.core_calc.specs.Step.{step, step_terms, step_bindings}
use Rattle.cast_modes.specs.Modes.{TypeCast}
use Rattle.cast_modes.specs.RunValues.{RunFun, RunWrap}
use Rattle.cast_modes.specs.ValueSteps.{CastFrame, ProjFrame, PrimFrame, EnterFrame, OwnFrame, onto}
use Rattle.coer_core.specs.Terms.{core_bindings}
use Rattle.coer_core.specs.Machine.{LambdaCode, MemberCode, env_names, Calling, Tupling, Operating, IfFrame, SeqFrame}
use Rattle.coer_core.specs.Machine.{FunFrame, ProjDynFrame, GatherFrame, LetFrame}
use Rattle.coer_core.proofs.Relation.{terms_onto, bindings_onto, names_onto, cast_term, IsPlain, sub, sub_terms}
use Rattle.coer_core.proofs.Relation.{sub_bindings, Is, Spelled, SpelledBindings, let_term, Plugged}
use Rattle.coer_core.proofs.Unload.{PiledValue, PiledEnv, PiledFrame, value_of, entries_of}

pub inside_inside : {A B C : Type 0} (f : B → C) (g : A → B) (o : Outcome A)
    → inside f (inside g o) ≡ inside (λ x. f (g x)) o
inside_inside f g (Goes a store world) = refl
inside_inside f g _ = refl

pub inside_same : {A : Type 0} (o : Outcome A) → o ≡ inside (λ x. x) o
inside_same (Goes a store world) = refl
inside_same _ = refl

-- the next redex of terms that aren't all values
abbrev pub redex_terms : Terms → Term
redex_terms terms = (focus_terms terms).redex

-- the same for bindings
abbrev pub redex_bindings : Bindings → Term
redex_bindings bindings = (focus_bindings bindings).redex

pub some_chosen : {A B : Type 0} (o : Option A) (a : A) (x y : Focus B) → o ≡ Some a
    → (where_some o x y).redex ≡ x.redex
some_chosen o a x y e = rw e refl

pub none_chosen : {A B : Type 0} (o : Option A) (x y : Focus B) → o ≡ None → (where_some o x y).redex ≡ y.redex
none_chosen o x y e = rw e refl

module _ (rows : List TypeCast) where
  -- ---- terms of which the first are values

  pub all_onto : (done acc : List PiledValue) (terms rest : Terms) → Spelled rows done terms
      → all_values rest ≡ Some (map (value_of rows) acc)
      → all_values (terms_onto terms rest) ≡ Some (map (value_of rows) (onto done acc))
  all_onto [] acc NoTerms rest s e = e
  all_onto [] acc (TermThen term terms) rest s e = absurd s
  all_onto (v ∷ done) acc NoTerms rest s e = absurd s
  all_onto (v ∷ done) acc (TermThen term terms) rest s e =
      all_onto done (v ∷ acc) terms (TermThen term rest) s.1 (rw (s.0, e) refl)

  pub none_onto : (done : List PiledValue) (terms rest : Terms) → Spelled rows done terms → all_values rest ≡ None
      → all_values (terms_onto terms rest) ≡ None
  none_onto [] NoTerms rest s e = e
  none_onto [] (TermThen term terms) rest s e = absurd s
  none_onto (v ∷ done) NoTerms rest s e = absurd s
  none_onto (v ∷ done) (TermThen term terms) rest s e = none_onto done terms (TermThen term rest) s.1 (rw (s.0, e) refl)

  none_first : (h : Term) (rest : Terms) → as_value h ≡ None → all_values (TermThen h rest) ≡ None
  none_first h rest e = rw e refl

  -- all terms of a let are values
  abbrev pub AllBound : Bindings → PiledEnv → Type 0
  AllBound bindings bound =
      (values : List Value) × (bound_values bindings ≡ Some values)
      × (bind (binding_names bindings) values ≡ Some (entries_of rows bound))

  all_bound_next : (name : ℕ) (term : Term) (rest : Bindings) (entry : ℕ × PiledValue) (acc : PiledEnv) → name ≡ entry.0
      → Is rows term entry.1 → AllBound rest acc → AllBound (BindingThen name term rest) (entry ∷ acc)
  all_bound_next name term rest entry acc n e b = (
    value_of rows entry.1 ∷ b.0,
    rw (e, b.1) refl,
    rw b.2
        (ap (λ x. Some ((x, value_of rows entry.1) ∷ entries_of rows acc)) n),
  )

  pub all_bound : (bound acc : PiledEnv) (bindings rest : Bindings) → SpelledBindings rows bound bindings
      → AllBound rest acc → AllBound (bindings_onto bindings rest) (onto bound acc)
  all_bound [] acc NoBindings rest s b = b
  all_bound [] acc (BindingThen name term _) rest s b = absurd s
  all_bound (entry ∷ bound) acc NoBindings rest s b = absurd s
  all_bound (entry ∷ bound) acc (BindingThen name term bindings) rest s b =
      all_bound bound (entry ∷ acc) bindings (BindingThen name term rest) s.2
      (all_bound_next name term rest entry acc s.0 s.1 b)

  pub names_onto_of : (bound acc : PiledEnv) → env_names (entries_of rows (onto bound acc))
      ≡ names_onto bound (env_names (entries_of rows acc))
  names_onto_of [] acc = refl
  names_onto_of (entry ∷ bound) acc = names_onto_of bound (entry ∷ acc)

  none_bound : (bound : PiledEnv) (bindings rest : Bindings) → SpelledBindings rows bound bindings
      → bound_values rest ≡ None → bound_values (bindings_onto bindings rest) ≡ None
  none_bound [] NoBindings rest s e = e
  none_bound [] (BindingThen name term _) rest s e = absurd s
  none_bound (entry ∷ bound) NoBindings rest s e = absurd s
  none_bound (entry ∷ bound) (BindingThen name term bindings) rest s e =
      none_bound bound bindings (BindingThen name term rest) s.2 (rw (s.1, e) refl)

  none_first_bound : (name : ℕ) (h : Term) (rest : Bindings) → as_value h ≡ None
      → bound_values (BindingThen name h rest) ≡ None
  none_first_bound name h rest e = rw e refl

  module _ (types : TypeRows) (store : Store) (world : WorldState) where
    abbrev stepped : Term → Outcome Term
    stepped term = step types store world term

    step_onto : (done : List PiledValue) (terms rest : Terms) → Spelled rows done terms
        → step_terms types store world (terms_onto terms rest) ≡ inside (terms_onto terms)
        (step_terms types store world rest)
    step_onto [] NoTerms rest s = inside_same (step_terms types store world rest)
    step_onto [] (TermThen term terms) rest s = absurd s
    step_onto (v ∷ done) NoTerms rest s = absurd s
    step_onto (v ∷ done) (TermThen term terms) rest s =
        step_onto done terms (TermThen term rest) s.1
        ∙ (rw s.0 (inside_inside (terms_onto terms) (TermThen term) (step_terms types store world rest)))

    step_first : (h : Term) (rest : Terms) → as_value h ≡ None → step_terms types store world (TermThen h rest)
        ≡ inside (λ next. TermThen next rest) (stepped h)
    step_first h rest e = rw e refl

    -- the step of terms of which the first are values and the next is not
    pub step_among : (done : List PiledValue) (terms : Terms) (h : Term) (rest : Terms) → Spelled rows done terms
        → as_value h ≡ None → step_terms types store world (terms_onto terms (TermThen h rest))
        ≡ inside (λ next. terms_onto terms (TermThen next rest)) (stepped h)
    step_among done terms h rest s e =
        step_onto done terms (TermThen h rest) s ∙ ap (inside (terms_onto terms)) (step_first h rest e)
        ∙ inside_inside (terms_onto terms) (λ next. TermThen next rest) (stepped h)

    bindings_step_onto : (bound : PiledEnv) (bindings rest : Bindings) → SpelledBindings rows bound bindings
        → step_bindings types store world (bindings_onto bindings rest) ≡ inside (bindings_onto bindings)
        (step_bindings types store world rest)
    bindings_step_onto [] NoBindings rest s = inside_same (step_bindings types store world rest)
    bindings_step_onto [] (BindingThen name term _) rest s = absurd s
    bindings_step_onto (entry ∷ bound) NoBindings rest s = absurd s
    bindings_step_onto (entry ∷ bound) (BindingThen name term bindings) rest s =
        bindings_step_onto bound bindings (BindingThen name term rest) s.2
        ∙ (rw s.1 (inside_inside (bindings_onto bindings) (BindingThen name term)
        (step_bindings types store world rest)))

    bindings_step_first : (name : ℕ) (h : Term) (rest : Bindings) → as_value h ≡ None
        → step_bindings types store world (BindingThen name h rest) ≡ inside (λ next. BindingThen name next rest)
        (stepped h)
    bindings_step_first name h rest e = rw e refl

    step_bound : (bound : PiledEnv) (bindings : Bindings) (name : ℕ) (h : Term) (rest : Bindings)
        → SpelledBindings rows bound bindings → as_value h ≡ None
        → step_bindings types store world (bindings_onto bindings (BindingThen name h rest))
        ≡ inside (λ next. bindings_onto bindings (BindingThen name next rest)) (stepped h)
    step_bound bound bindings name h rest s e =
        bindings_step_onto bound bindings (BindingThen name h rest) s
        ∙ ap (inside (bindings_onto bindings)) (bindings_step_first name h rest e)
        ∙ inside_inside (bindings_onto bindings) (λ next. BindingThen name next rest) (stepped h)

    -- ---- a function that is no wrapper

    abbrev pub calc_apply : Value → List Value → Outcome Term
    calc_apply (FunValue parameters body type) values = enter_body types store world parameters body [] values
    calc_apply (MemberValue members place) values =
        enter_member types store world members place (group_values members) values
    calc_apply _ values = Stuck

    pub plain_waits : (f : PiledValue) (terms : Terms) (o : Outcome Term) → IsPlain f → all_values terms ≡ None
        → enter_step types store world (value_of rows f) terms o ≡ o
    plain_waits (RunWrap v cast) terms o p e = absurd p
    plain_waits (RunFun (LambdaCode parameters body type names) captured) terms o p e = rw e refl
    plain_waits (RunFun (MemberCode group place names) captured) terms o p e = rw e refl
    plain_waits _ terms o p e = rw e refl

    pub plain_applies : (f : PiledValue) (terms : Terms) (o : Outcome Term) (values : List Value) → IsPlain f
        → all_values terms ≡ Some values → enter_step types store world (value_of rows f) terms o
        ≡ calc_apply (value_of rows f) values
    plain_applies (RunWrap v cast) terms o values p e = absurd p
    plain_applies (RunFun (LambdaCode parameters body type names) captured) terms o values p e = rw e refl
    plain_applies (RunFun (MemberCode group place names) captured) terms o values p e = rw e refl
    plain_applies _ terms o values p e = rw e refl

    -- ---- frames

    -- another term may be put in the place of h, and the whole steps as h does
    pub record Steps (P : Term → Term → Type 0) (h whole : Term) : Type 0 where
      pub put : Term → Term
      pub puts : (term : Term) → P term (put term)
      pub goes : stepped whole ≡ inside put (stepped h)
      pub none : as_value whole ≡ None
      pub redexes : redex whole ≡ redex h

    pub layer : (P Q : Term → Term → Type 0) (F : Term → Term) (h whole : Term)
        → ((term other : Term) → P (F term) other → Q term other) → stepped (F h) ≡ inside F (stepped h)
        → redex (F h) ≡ redex h → Steps P (F h) whole → Steps Q h whole
    layer P Q F h whole wrap e r s = record {
      put = λ term. s.put (F term);
      puts = λ term. wrap term (s.put (F term)) (s.puts (F term));
      goes = s.goes ∙ ap (inside s.put) e ∙ inside_inside s.put F (stepped h);
      none = s.none;
      redexes = s.redexes ∙ r;
    }

    step_gathered : (F : Terms → Term) (done : List PiledValue) (terms : Terms) (h : Term) (rest : Terms)
        → Spelled rows done terms → as_value h ≡ None
        → ((ts : Terms) → all_values ts ≡ None → stepped (F ts) ≡ inside F (step_terms types store world ts))
        → stepped (F (terms_onto terms (TermThen h rest))) ≡ inside (λ next. F (terms_onto terms (TermThen next rest)))
        (stepped h)
    step_gathered F done terms h rest s e waits =
        waits (terms_onto terms (TermThen h rest)) (none_onto done terms (TermThen h rest) s (none_first h rest e))
        ∙ ap (inside F) (step_among done terms h rest s e)
        ∙ inside_inside F (λ next. terms_onto terms (TermThen next rest)) (stepped h)

    waits_call : (function : Term) (f : Value) → as_value function ≡ Some f → (terms : Terms) → all_values terms ≡ None
        → stepped (Call function terms) ≡ inside (Call function) (step_terms types store world terms)
    waits_call function f e terms n = rw (e, n) refl

    waits_enter : (function : Term) (f : PiledValue) → Is rows function f → IsPlain f → (terms : Terms)
        → all_values terms ≡ None → stepped (Enter function terms) ≡ inside (Enter function)
        (step_terms types store world terms)
    waits_enter function f e p terms n =
        rw e (plain_waits f terms (inside (Enter function) (step_terms types store world terms)) p n)

    step_let : (body : Term) (bound : PiledEnv) (bindings : Bindings) (name : ℕ) (h : Term) (rest : Bindings)
        → SpelledBindings rows bound bindings → as_value h ≡ None
        → stepped (Let (bindings_onto bindings (BindingThen name h rest)) body)
        ≡ inside (λ next. Let (bindings_onto bindings (BindingThen name next rest)) body) (stepped h)
    step_let body bound bindings name h rest s e =
        rw (none_bound bound bindings (BindingThen name h rest) s (none_first_bound name h rest e))
        (ap (inside (λ next. Let next body)) (step_bound bound bindings name h rest s e)
        ∙ inside_inside (λ next. Let next body) (λ next. bindings_onto bindings (BindingThen name next rest))
        (stepped h))

    -- ---- the redex of a term whose parts are values up to h

    redex_onto : (done : List PiledValue) (terms rest : Terms) → Spelled rows done terms
        → redex_terms (terms_onto terms rest) ≡ redex_terms rest
    redex_onto [] NoTerms rest s = refl
    redex_onto [] (TermThen term terms) rest s = absurd s
    redex_onto (v ∷ done) NoTerms rest s = absurd s
    redex_onto (v ∷ done) (TermThen term terms) rest s = redex_onto done terms (TermThen term rest) s.1
        ∙ some_chosen (as_value term) (value_of rows v) (along (TermThen term) (focus_terms rest))
        (along (λ next. TermThen next rest) (focus term)) s.0

    redex_first : (h : Term) (rest : Terms) → as_value h ≡ None → redex_terms (TermThen h rest) ≡ redex h
    redex_first h rest e =
        none_chosen (as_value h) (along (TermThen h) (focus_terms rest)) (along (λ next. TermThen next rest) (focus h))
        e

    redex_gathered : (F : Terms → Term) (done : List PiledValue) (terms : Terms) (h : Term) (rest : Terms)
        → Spelled rows done terms → as_value h ≡ None
        → ((ts : Terms) → all_values ts ≡ None → redex (F ts) ≡ redex_terms ts)
        → redex (F (terms_onto terms (TermThen h rest))) ≡ redex h
    redex_gathered F done terms h rest s e waits =
        waits (terms_onto terms (TermThen h rest)) (none_onto done terms (TermThen h rest) s (none_first h rest e))
        ∙ redex_onto done terms (TermThen h rest) s ∙ redex_first h rest e

    redex_call : (function : Term) (f : Value) → as_value function ≡ Some f → (terms : Terms) → all_values terms ≡ None
        → redex (Call function terms) ≡ redex_terms terms
    redex_call function f e terms n =
        let whole : Focus Term = here (Call function terms) in
        let inner : Focus Term = below (Call function) (focus_terms terms) in
        some_chosen (as_value function) f (where_some (all_values terms) whole inner)
        (below (λ next. Call next terms) (focus function)) e ∙ none_chosen (all_values terms) whole inner n

    pub plain_redex : (f : PiledValue) (whole inner : Focus Term) → IsPlain f
        → (enter_focus (Some (value_of rows f)) whole inner).redex ≡ inner.redex
    plain_redex (RunWrap v cast) whole inner p = absurd p
    plain_redex (RunFun (LambdaCode parameters body type names) captured) whole inner p = refl
    plain_redex (RunFun (MemberCode group place names) captured) whole inner p = refl
    plain_redex _ whole inner p = refl

    redex_enter : (function : Term) (f : PiledValue) → Is rows function f → IsPlain f → (terms : Terms)
        → all_values terms ≡ None → redex (Enter function terms) ≡ redex_terms terms
    redex_enter function f e p terms n =
        let whole : Focus Term = here (Enter function terms) in
        let inner : Focus Term = below (Enter function) (focus_terms terms) in
        ap (λ o. (enter_focus o whole (where_some (all_values terms) whole inner)).redex) e
        ∙ plain_redex f whole (where_some (all_values terms) whole inner) p
        ∙ none_chosen (all_values terms) whole inner n

    bound_redex_onto : (bound : PiledEnv) (bindings rest : Bindings) → SpelledBindings rows bound bindings
        → redex_bindings (bindings_onto bindings rest) ≡ redex_bindings rest
    bound_redex_onto [] NoBindings rest s = refl
    bound_redex_onto [] (BindingThen name term _) rest s = absurd s
    bound_redex_onto (entry ∷ bound) NoBindings rest s = absurd s
    bound_redex_onto (entry ∷ bound) (BindingThen name term bindings) rest s =
        bound_redex_onto bound bindings (BindingThen name term rest) s.2
        ∙ some_chosen (as_value term) (value_of rows entry.1) (along (BindingThen name term) (focus_bindings rest))
        (along (λ next. BindingThen name next rest) (focus term)) s.1

    bound_redex_first : (name : ℕ) (h : Term) (rest : Bindings) → as_value h ≡ None
        → redex_bindings (BindingThen name h rest) ≡ redex h
    bound_redex_first name h rest e =
        none_chosen (as_value h) (along (BindingThen name h) (focus_bindings rest))
        (along (λ next. BindingThen name next rest) (focus h)) e

    redex_let : (body : Term) (bound : PiledEnv) (bindings : Bindings) (name : ℕ) (h : Term) (rest : Bindings)
        → SpelledBindings rows bound bindings → as_value h ≡ None
        → redex (Let (bindings_onto bindings (BindingThen name h rest)) body) ≡ redex h
    redex_let body bound bindings name h rest s e =
        let whole : Bindings = bindings_onto bindings (BindingThen name h rest) in
        none_chosen (bound_values whole) (here (Let whole body)) (below (λ next. Let next body) (focus_bindings whole))
        (none_bound bound bindings (BindingThen name h rest) s (none_first_bound name h rest e))
        ∙ bound_redex_onto bound bindings (BindingThen name h rest) s ∙ bound_redex_first name h rest e

    pub plug_step : (k : List PiledFrame) (h whole : Term) → as_value h ≡ None → Plugged rows k h whole
        → Steps (Plugged rows k) h whole
    plug_step [] h whole n p = record {
      put = λ term. term;
      puts = λ term. refl;
      goes = subst (λ x. stepped x ≡ inside (λ term. term) (stepped h)) p (inside_same (stepped h));
      none = subst (λ x. as_value x ≡ None) p n;
      redexes = ap redex (sym p);
    }
    plug_step (OwnFrame (IfFrame on_true on_false env) ∷ k) h whole n p =
        layer (Plugged rows k) (Plugged rows (OwnFrame (IfFrame on_true on_false env) ∷ k))
        (λ x. If x (sub rows on_true env) (sub rows on_false env)) h whole (λ term other q. q) (rw n refl)
        (none_chosen (as_value h) _ _ n)
        (plug_step k (If h (sub rows on_true env) (sub rows on_false env)) whole refl p)
    plug_step (OwnFrame (SeqFrame term rest env) ∷ k) h whole n p =
        layer (Plugged rows k) (Plugged rows (OwnFrame (SeqFrame term rest env) ∷ k))
        (λ x. Seq (TermThen x (TermThen (sub rows term env) (sub_terms rows rest env)))) h whole (λ t other q. q)
        (rw n refl) (none_chosen (as_value h) _ _ n)
        (plug_step k (Seq (TermThen h (TermThen (sub rows term env) (sub_terms rows rest env))))
        whole refl p)
    plug_step (OwnFrame (FunFrame arguments env) ∷ k) h whole n p =
        layer (Plugged rows k) (Plugged rows (OwnFrame (FunFrame arguments env) ∷ k))
        (λ x. Call x (sub_terms rows arguments env)) h whole (λ t other q. q) (rw n refl)
        (none_chosen (as_value h) _ _ n)
        (plug_step k (Call h (sub_terms rows arguments env)) whole refl p)
    plug_step (CastFrame cast ∷ k) h whole n p =
        layer (Plugged rows k) (Plugged rows (CastFrame cast ∷ k)) (λ x. cast_term x cast) h whole (λ t other q. q)
        (rw n refl) (none_chosen (as_value h) _ _ n) (plug_step k (cast_term h cast) whole refl p)
    plug_step (ProjFrame i ∷ k) h whole n p =
        layer (Plugged rows k) (Plugged rows (ProjFrame i ∷ k)) (λ x. Proj x i) h whole (λ t other q. q) (rw n refl)
        (none_chosen (as_value h) _ _ n) (plug_step k (Proj h i) whole refl p)
    plug_step (OwnFrame (ProjDynFrame i label) ∷ k) h whole n p =
        layer (Plugged rows k) (Plugged rows (OwnFrame (ProjDynFrame i label) ∷ k)) (λ x. ProjDyn x i label) h whole
        (λ t other q. q) (rw n refl) (none_chosen (as_value h) _ _ n) (plug_step k (ProjDyn h i label) whole refl p)
    plug_step (OwnFrame (GatherFrame (Calling f) done todo env) ∷ k) h whole n p =
        layer (Plugged rows k) (Plugged rows (OwnFrame (GatherFrame (Calling f) done todo env) ∷ k))
        (λ x. Call p.0 (terms_onto p.2.0 (TermThen x (sub_terms rows todo env)))) h whole
        (λ t other q. (p.0, p.1, (p.2.0, p.2.1, q))) (step_gathered (Call p.0) done p.2.0 h (sub_terms rows todo env)
        p.2.1 n (waits_call p.0 (value_of rows f) p.1))
        (redex_gathered (Call p.0) done p.2.0 h (sub_terms rows todo env) p.2.1 n
        (redex_call p.0 (value_of rows f) p.1))
        (plug_step k (Call p.0 (terms_onto p.2.0 (TermThen h (sub_terms rows todo env)))) whole refl p.2.2)
    plug_step (OwnFrame (GatherFrame Tupling done todo env) ∷ k) h whole n p =
        layer (Plugged rows k) (Plugged rows (OwnFrame (GatherFrame Tupling done todo env) ∷ k))
        (λ x. Tuple (terms_onto p.0 (TermThen x (sub_terms rows todo env)))) h whole (λ t other q. (p.0, p.1, q))
        (step_gathered Tuple done p.0 h (sub_terms rows todo env) p.1 n (λ ts e. rw e refl))
        (redex_gathered Tuple done p.0 h (sub_terms rows todo env) p.1 n (λ ts e. none_chosen (all_values ts) _ _ e))
        (plug_step k (Tuple (terms_onto p.0 (TermThen h (sub_terms rows todo env)))) whole refl p.2)
    plug_step (OwnFrame (GatherFrame (Operating operator) done todo env) ∷ k) h whole n p =
        layer (Plugged rows k) (Plugged rows (OwnFrame (GatherFrame (Operating operator) done todo env) ∷ k))
        (λ x. Prim operator (terms_onto p.0 (TermThen x (sub_terms rows todo env)))) h whole
        (λ t other q. (p.0, p.1, q)) (step_gathered (Prim operator) done p.0 h (sub_terms rows todo env) p.1 n
        (λ ts e. rw e refl)) (redex_gathered (Prim operator) done p.0 h (sub_terms rows todo env) p.1 n
        (λ ts e. none_chosen (all_values ts) _ _ e))
        (plug_step k (Prim operator (terms_onto p.0 (TermThen h (sub_terms rows todo env)))) whole
        refl p.2)
    plug_step (PrimFrame operator done ∷ k) h whole n p =
        layer (Plugged rows k) (Plugged rows (PrimFrame operator done ∷ k))
        (λ x. Prim operator (terms_onto p.0 (TermThen x NoTerms))) h whole (λ t other q. (p.0, p.1, q))
        (step_gathered (Prim operator) done p.0 h NoTerms p.1 n (λ ts e. rw e refl))
        (redex_gathered (Prim operator) done p.0 h NoTerms p.1 n (λ ts e. none_chosen (all_values ts) _ _ e))
        (plug_step k (Prim operator (terms_onto p.0 (TermThen h NoTerms))) whole refl p.2)
    plug_step (OwnFrame (LetFrame bound name todo body env) ∷ k) h whole n p =
        layer (Plugged rows k) (Plugged rows (OwnFrame (LetFrame bound name todo body env) ∷ k))
        (λ x. let_term rows p.0 (names_onto bound (name ∷ binding_names (core_bindings rows todo)))
        (BindingThen name x (sub_bindings rows todo env)) body env) h whole (λ t other q. (p.0, p.1, q))
        (step_let _ bound p.0 name h (sub_bindings rows todo env) p.1 n)
        (redex_let _ bound p.0 name h (sub_bindings rows todo env) p.1 n)
        (plug_step k (let_term rows p.0 (names_onto bound (name ∷ binding_names (core_bindings rows todo)))
        (BindingThen name h (sub_bindings rows todo env)) body env) whole refl p.2)
    plug_step (EnterFrame f done todo ∷ k) h whole n p =
        layer (Plugged rows k) (Plugged rows (EnterFrame f done todo ∷ k))
        (λ x. Enter p.0 (terms_onto p.3.0 (TermThen x p.3.2.0))) h whole
        (λ t other q. (p.0, p.1, p.2, (p.3.0, p.3.1, (p.3.2.0, p.3.2.1, q))))
        (step_gathered (Enter p.0) done p.3.0 h p.3.2.0 p.3.1 n (waits_enter p.0 f p.1 p.2))
        (redex_gathered (Enter p.0) done p.3.0 h p.3.2.0 p.3.1 n (redex_enter p.0 f p.1 p.2))
        (plug_step k (Enter p.0 (terms_onto p.3.0 (TermThen h p.3.2.0))) whole refl p.3.2.2)
