-- Calls do in both runs the same.
use Rattle.std.proofs.Common.{◌≡◌, inl, ℕ, zero, suc, ◌+◌, true, nat_eq, List, []}
use Rattle.std.proofs.Common.{◌∷◌}
use Rattle.std.proofs.Common.{◌++◌, length, Option, Some, None, option_map, slice_get, refl, sym, ap, ap₂, ◌∙◌, subst}
use Rattle.std.proofs.Common.{arith, eq-eqb, if◌then◌else◌}
use Rattle.grift_base.specs.World.{WorldState}
use Rattle.core_calc.specs.Terms.{both_in_front}
use Rattle.core_calc.specs.Substitution.{bind}
use Rattle.cast_modes.specs.Modes.{Mode}
use Rattle.cast_modes.specs.RunValues.{RunInt, RunBool, RunUnit, RunFun, RunTuple, RunLoc, RunWrap, RunInject}
use Rattle.cast_modes.specs.RunValues.{Pending}
use Rattle.cast_modes.specs.RunValues.{all_plain}
use Rattle.cast_modes.specs.ValueSteps.{CastFrame, EnterFrame, Own, Entering, on_some}
use Rattle.cast_modes.specs.ValueSteps.{onto, pendings_onto, casts_onto, cast_all, goes, apply}
use Rattle.cast_modes.specs.ValueSteps.{next_argument, enter_plain, enter}
use Rattle.coer_core.specs.Terms.{RowTerm, RowMembers, NoRowMembers, RowMemberThen}
use Rattle.coer_core.specs.Counts.{names_besides, free_names, free_names_of_members, row_member_names, row_member_count}
use Rattle.coer_core.specs.Machine.{Code, LambdaCode, MemberCode, code_arity, CoerValue, CoerValues, CoerPending}
use Rattle.coer_core.specs.Machine.{CoerStore, CoerFrame, Env, captured_env, group_env, Eval, Evaluation}
use Rattle.coer_core.specs.Machine.{entered_body, entered_member, entered}
use Rattle.flat_ir.specs.declared.code.Operand.TheVariants.{Local}
use Rattle.flat_ir.specs.Bodies.{Proc}
use Rattle.flat_ir.specs.Machine.{FlatCode, FlatValue, FlatStore, FlatFrame, Group, Inside, Place, locals_of}
use Rattle.flat_ir.specs.Machine.{values, entered_proc, flat_arity, flat_entered}
use Rattle.closure_convert.specs.Conversion.{captures, alone, bind_operands, numbered, group_scope}
use Rattle.closure_convert.specs.Conversion.{fun_scope, made, made_in, code, own_procs}
use Rattle.closure_convert.proofs.ProcPlaces.{HasAt}
use Rattle.closure_convert.proofs.Carrying.{firsts, seconds, means, group_of, Stands, StandsIn}
use Rattle.closure_convert.proofs.Carrying.{Carries, Fits, CarriesAll, Covers, covers_left, covers_right, group_covers}
use Rattle.closure_convert.proofs.Carrying.{fun_covers, fits_extend, parameters_hold, group_fits, captured_fits}
use Rattle.closure_convert.proofs.Carrying.{fun_scope_below, fits_row, captured_means}
use Rattle.closure_convert.proofs.Relation.{Pends, Wait, Cells, in_code}
use Rattle.closure_convert.proofs.Agreeing.{wrap_carried, onto_carried, as_long, Agree, a_some}

-- what parameters are bound to
abbrev IsBound : {A : Type 0} → List ℕ → List A → Option (List (ℕ × A)) → Type 0
IsBound names vs None = Unit {0}
IsBound names vs (Some bound) = (firsts bound ≡ names) × (seconds bound ≡ vs)

bound_more : {A : Type 0} (name : ℕ) (v : A) (names : List ℕ) (vs : List A) (o : Option (List (ℕ × A)))
    → IsBound names vs o → IsBound (name ∷ names) (v ∷ vs) (both_in_front (Some (name, v)) o)
bound_more name v names vs None h = tt
bound_more name v names vs (Some bound) h = (ap (λ l. name ∷ l) h.0, ap (λ l. v ∷ l) h.1)

is_bound : {A : Type 0} (names : List ℕ) (vs : List A) → IsBound names vs (bind names vs)
is_bound [] [] = (refl, refl)
is_bound [] (v ∷ vs) = tt
is_bound (name ∷ names) [] = tt
is_bound (name ∷ names) (v ∷ vs) = bound_more name v names vs (bind names vs) (is_bound names vs)

firsts_long : {A : Type 0} (bound : List (ℕ × A)) → length (firsts bound) ≡ length (seconds bound)
firsts_long [] = refl
firsts_long (entry ∷ bound) = ap suc (firsts_long bound)

module _ {C : Type 0} (procs : List Proc) (mode : Mode C) where
  pub pends_all : (vs : List (CoerValue C)) (us : List (FlatValue C)) → CarriesAll procs vs us
      → Pends procs mode (all_plain vs) (all_plain us)
  pends_all [] [] c = tt
  pends_all (v ∷ vs) (u ∷ us) c = (c.0, refl, pends_all vs us c.1)
  pends_all [] (u ∷ us) c = absurd c
  pends_all (v ∷ vs) [] c = absurd c

  pends_onto : (done : List (CoerValue C)) (before : List (FlatValue C)) (todo : List (CoerPending C)) (after : List
      (Pending C FlatCode)) → CarriesAll procs done before → Pends procs mode todo after
      → Pends procs mode (pendings_onto done todo) (pendings_onto before after)
  pends_onto [] [] todo after c p = p
  pends_onto (v ∷ done) (u ∷ before) todo after c p =
      pends_onto done before (record { value = v; casts = [] } ∷ todo) (record { value = u; casts = [] } ∷ after) c.1
      (c.0, refl, p)
  pends_onto [] (u ∷ before) todo after c p = absurd c
  pends_onto (v ∷ done) [] todo after c p = absurd c

  abbrev BothPend : Option (List (CoerPending C)) → Option (List (Pending C FlatCode)) → Type 0
  BothPend None None = Unit {0}
  BothPend (Some ps) (Some qs) = Pends procs mode ps qs
  BothPend o q = ⊥

  both_more : (p : CoerPending C) (q : Pending C FlatCode) (o : Option (List (CoerPending C))) (o1 : Option (List
      (Pending C FlatCode))) → Carries procs p.value q.value → p.casts ≡ q.casts → BothPend o o1
      → BothPend (option_map (λ l. p ∷ l) o) (option_map (λ l. q ∷ l) o1)
  both_more p q (Some ps) (Some qs) c e b = (c, e, b)
  both_more p q None None c e b = tt
  both_more p q (Some ps) None c e b = absurd b
  both_more p q None (Some qs) c e b = absurd b

  both_cast : (ps : List (CoerPending C)) (qs : List (Pending C FlatCode)) (casts : List C) → Pends procs mode ps qs
      → BothPend (cast_all ps casts) (cast_all qs casts)
  both_cast [] [] [] p = tt
  both_cast [] [] (cast ∷ casts) p = tt
  both_cast (p ∷ ps) (q ∷ qs) [] h = tt
  both_cast (p ∷ ps) (q ∷ qs) (cast ∷ casts) h =
      both_more (record { value = p.value; casts = p.casts ++ cast ∷ [] }) (record {
        value = q.value;
        casts = q.casts ++
            cast ∷ [];
      }) (cast_all ps casts) (cast_all qs casts) h.0 (ap (λ l. l ++ cast ∷ []) h.1)
      (both_cast ps qs casts h.2)
  both_cast [] (q ∷ qs) casts p = absurd p
  both_cast (p ∷ ps) [] casts h = absurd h

  castings_wait : (casts : List C) (k : List (CoerFrame C)) (others : List (FlatFrame C)) → Wait procs mode k others
      → Wait procs mode (casts_onto casts k) (casts_onto casts others)
  castings_wait [] k others w = w
  castings_wait (cast ∷ casts) k others w = (refl, castings_wait casts k others w)

  module _ (store : CoerStore C) (cells : FlatStore C) (world : WorldState) (held : Cells procs mode store cells) where
    module _ (k : List (CoerFrame C)) (others : List (FlatFrame C)) (waits : Wait procs mode k others) where
      -- ---- a body begins

      -- where both go on, if they do
      abbrev BothEnter : Option (Evaluation C) → Option (Place C) → Type 0
      BothEnter o q =
          Agree procs mode store cells world held (on_some o (λ place. goes mode code_arity entered store world
          (Own place) k)) (on_some q (λ place. goes mode (flat_arity procs) (flat_entered procs) cells world (Own place)
          others))

      body_on : (parameters : List ℕ) (body : RowTerm) (env : Env C) (names caps : List ℕ) (vs : List (CoerValue C))
          (us : List (FlatValue C)) (own : Group C) (group place next : ℕ)
          → Fits procs env (means (group_scope names caps) (locals_of us) own)
          → Covers (free_names body) (fun_scope names caps parameters) → Stands procs body next
          → CarriesAll procs vs us → (o : Option (List (ℕ × CoerValue C))) → IsBound parameters vs o
          → BothEnter (option_map (λ bound. Eval body (bound ++ env)) o)
          (entered_proc (Some (record {
            params = length parameters;
            captured = length caps;
            group = group;
            place = place;
            body = code body (fun_scope names caps parameters) (length parameters) next;
          })) own us)
      body_on parameters body env names caps vs us own group place next fits covers st c None b = tt
      body_on parameters body env names caps vs us own group place next fits covers st c (Some bound) b =
          let long : length parameters ≡ length us = ap length (sym b.0)
          ∙ (firsts_long bound ∙ (ap length b.1 ∙ as_long procs vs us c)) in
          let l = locals_of us in
          let os = numbered (λ i. Local i) parameters 0 in
          let inner = code body (fun_scope names caps parameters) (length parameters) next in
          let held1 : CarriesAll procs (seconds bound) (values l own os) =
          subst (λ x. CarriesAll procs x (values l own os)) (sym b.1)
          (subst (CarriesAll procs vs) (sym (parameters_hold parameters us own long)) c) in
          let inside =
          in_code procs mode body (bound ++ env) (fun_scope names caps parameters) (length parameters) next l own
          (record {
            fits = subst (λ n. Fits procs (bound ++ env) (means (bind_operands n os (group_scope names caps)) l own))
                b.0
                (fits_extend procs bound os env (group_scope names caps) l own held1 fits);
            below = fun_scope_below names caps parameters;
          }) covers st in
          let enough : nat_eq (length us) (length parameters) ≡ true =
          eq-eqb (length us) (length parameters) (sym long) in
          subst (λ b. BothEnter (Some (Eval body (bound ++ env))) (if b then Some (Inside inner l own) else None))
          (sym enough) (inl (inside, waits), held, refl)

      member_on : (names caps : List ℕ) (group index : ℕ) (rest : RowMembers) (i place from p : ℕ)
          (vs : List (CoerValue C)) (us : List (FlatValue C)) (env : Env C) (own : Group C) → p ≡ place + i
          → HasAt procs place (own_procs names caps group index rest from) → StandsIn procs rest from
          → Covers (free_names_of_members rest) (group_scope names caps)
          → Fits procs env (means (group_scope names caps) (locals_of us) own) → CarriesAll procs vs us
          → BothEnter (entered_member rest i env vs) (entered_proc (slice_get procs p) own us)
      member_on names caps group index NoRowMembers i place from p vs us env own pe has st covers fits c = tt
      member_on names caps group index (RowMemberThen name parameters body type rest) zero place from p vs us env own pe
          has st covers fits c =
          let here : p ≡ place = omega arith in
          subst (λ x. BothEnter (entered_body parameters body env vs) (entered_proc x own us))
          (sym (ap (slice_get procs) here ∙ has.0))
          (body_on parameters body env names caps vs us own group index from fits (fun_covers names caps parameters body
          (covers_left (names_besides parameters (free_names body)) (free_names_of_members rest)
          (group_scope names caps) covers)) st.0 c (bind parameters vs) (is_bound parameters vs))
      member_on names caps group index (RowMemberThen name parameters body type rest) (suc i) place from p vs us env own
          pe has st covers fits c =
          member_on names caps group (suc index) rest i (place + 1) (from + made body) p vs us env own (omega arith)
          has.1 st.1 (covers_right (names_besides parameters (free_names body)) (free_names_of_members rest)
          (group_scope names caps) covers) fits c

      fun_on : (code : Code) (caught : CoerValues C) (other : FlatCode) (captured : _) (vs : List (CoerValue C))
          (us : List (FlatValue C)) → Carries procs (RunFun code caught) (RunFun other captured)
          → CarriesAll procs vs us
          → BothEnter (entered code caught vs) (flat_entered procs other captured us)
      fun_on (LambdaCode parameters body type names) caught other captured vs us c cs =
          let members = alone parameters body type in
          let caps = captures [] members in
          let own = group_of other.first captured in
          let at : other.first + other.place ≡ c.0 + (made body + 0) + 0 = ap₂ (λ a b. a + b) c.2 (sym c.1) in
          member_on [] caps 1 0 members 0 (c.0 + (made body + 0)) c.0 (other.first + other.place) vs us
          (captured_env names caught) own at c.3.1 c.3.0 (group_covers [] members)
          (captured_fits procs caps (captured_env names caught) other.first captured (locals_of us)
          (fits_row procs caught names (captured_means caps captured) c.4)) cs
      fun_on (MemberCode members i names) caught other captured vs us c cs =
          let known = row_member_names members in
          let own = group_of other.first captured in
          let at : other.first + other.place ≡ c.0 + made_in members + i = ap₂ (λ a b. a + b) c.2 (sym c.1) in
          member_on known (captures known members) (row_member_count members) 0 members i (c.0 + made_in members) c.0
          (other.first + other.place) vs us (group_env members names caught) own at c.3.1 c.3.0
          (group_covers known members) (group_fits procs members names caught c.0 other.first captured
          (locals_of us) c.2
          c.3 c.4) cs

      a_apply : (f : CoerValue C) (g : FlatValue C) (vs : List (CoerValue C)) (us : List (FlatValue C))
          → Carries procs f g → CarriesAll procs vs us
          → Agree procs mode store cells world held (apply mode code_arity entered store world f vs k)
          (apply mode (flat_arity procs) (flat_entered procs) cells world g us others)
      a_apply (RunFun code caught) (RunFun other captured) vs us c cs = fun_on code caught other captured vs us c cs
      a_apply (RunInt n) g vs us c cs = tt
      a_apply (RunBool b) g vs us c cs = tt
      a_apply RunUnit g vs us c cs = tt
      a_apply (RunTuple parts) g vs us c cs = tt
      a_apply (RunLoc place is_vector) g vs us c cs = tt
      a_apply (RunWrap v cast) g vs us c cs = tt
      a_apply (RunInject v kept) g vs us c cs = tt
      a_apply f g vs us c cs = absurd c

      -- ---- arguments, one after the other

      a_argument : (f : CoerValue C) (g : FlatValue C) (done : List (CoerValue C)) (before : List (FlatValue C))
          (v : CoerValue C) (u : FlatValue C) (casts : List C) (todo : List (CoerPending C)) (after : List
          (Pending C FlatCode)) → Carries procs f g → CarriesAll procs done before → Carries procs v u
          → Pends procs mode todo after → Agree procs mode store cells world held (next_argument mode code_arity entered
          store world f done v casts todo k) (next_argument mode (flat_arity procs) (flat_entered procs) cells world g
          before u casts after others)
      a_argument f g done before v u [] todo after c cs d p = (
        (
          (record {
            g = g;
            before = u ∷ before;
            after = after;
            enters = refl;
            function = c;
            carries =
                (d, cs);
            pends = p;
          }),
          waits,
        ),
        held,
        refl,
      )
      a_argument f g done before v u (cast ∷ casts) todo after c cs d p = (
        inl (
          record { u = u; gives = refl; carries = d },
          (
            refl,
            castings_wait casts (EnterFrame f done todo ∷ k)
                (EnterFrame g before after ∷ others) ((c, cs, p), waits),
          ),
        ),
        held,
        refl,
      )

      a_plain : (f : CoerValue C) (g : FlatValue C) (done : List (CoerValue C)) (before : List (FlatValue C))
          (todo : List (CoerPending C)) (after : List (Pending C FlatCode)) → Carries procs f g
          → CarriesAll procs done before → Pends procs mode todo after
          → Agree procs mode store cells world held (enter_plain mode code_arity entered store world f done todo k)
          (enter_plain mode (flat_arity procs) (flat_entered procs) cells world g before after others)
      a_plain f g done before [] [] c cs p = a_apply f g (onto done []) (onto before []) c
          (onto_carried procs done [] before [] cs tt)
      a_plain f g done before (p ∷ todo) (q ∷ after) c cs h =
          subst (λ x. Agree procs mode store cells world held (next_argument mode code_arity entered store world f done
          p.value p.casts todo k) (next_argument mode (flat_arity procs) (flat_entered procs) cells world g before
          q.value x after others)) h.1
          (a_argument f g done before p.value q.value p.casts todo after c cs h.0 h.2)
      a_plain f g done before [] (q ∷ after) c cs p = absurd p
      a_plain f g done before (p ∷ todo) [] c cs h = absurd h

      a_wrapped : (f : CoerValue C) (g : FlatValue C) (result : C) (o : Option (List (CoerPending C))) (q : Option (List
          (Pending C FlatCode))) → Carries procs f g → BothPend o q → Agree procs mode store cells world held (on_some o
          (λ pendings. goes mode code_arity entered store world (Entering f [] pendings) (CastFrame result ∷ k)))
          (on_some q (λ pendings. goes mode (flat_arity procs) (flat_entered procs) cells world (Entering g [] pendings)
          (CastFrame result ∷ others)))
      a_wrapped f g result (Some ps) (Some qs) c b = (
        (
          (record { g = g; before = []; after = qs; enters = refl; function = c; carries = tt; pends = b }),
          (refl, waits),
        ),
        held,
        refl,
      )
      a_wrapped f g result None None c b = tt
      a_wrapped f g result (Some ps) None c b = absurd b
      a_wrapped f g result None (Some qs) c b = absurd b

      pub a_enter : (f : CoerValue C) (g : FlatValue C) (done : List (CoerValue C)) (before : List (FlatValue C))
          (todo : List (CoerPending C)) (after : List (Pending C FlatCode)) → Carries procs f g
          → CarriesAll procs done before → Pends procs mode todo after
          → Agree procs mode store cells world held (enter mode code_arity entered store world f done todo k)
          (enter mode (flat_arity procs) (flat_entered procs) cells world g before after others)
      a_enter (RunWrap f cast) g done before todo after c cs p =
          let h = wrap_carried procs f cast g c in
          subst (λ x. Agree procs mode store cells world held (enter mode code_arity entered store world
          (RunWrap f cast) done todo k) (enter mode (flat_arity procs) (flat_entered procs) cells world x before
          after others)) (sym h.1)
          (a_some procs mode store cells world held (mode.calling cast) _ _ (λ casts. a_wrapped f h.0 casts.1
          (cast_all (pendings_onto done todo) casts.0) (cast_all (pendings_onto before after) casts.0) h.2
          (both_cast (pendings_onto done todo) (pendings_onto before after) casts.0
          (pends_onto done before todo after cs p))))
      a_enter (RunInt n) (RunInt m) done before todo after c cs p = a_plain (RunInt n) (RunInt m) done before todo after
          c cs p
      a_enter (RunBool b) (RunBool d) done before todo after c cs p = a_plain (RunBool b) (RunBool d) done before todo
          after c cs p
      a_enter RunUnit RunUnit done before todo after c cs p = a_plain RunUnit RunUnit done before todo after c cs p
      a_enter (RunFun code vs) (RunFun other captured) done before todo after c cs p = a_plain (RunFun code vs)
          (RunFun other captured) done before todo after c cs p
      a_enter (RunTuple vs) (RunTuple us) done before todo after c cs p = a_plain (RunTuple vs)
          (RunTuple us) done before todo after c cs p
      a_enter (RunLoc place is_vector) (RunLoc other its) done before todo after c cs p = a_plain
          (RunLoc place is_vector) (RunLoc other its) done before todo after c cs p
      a_enter (RunInject v kept) (RunInject u other) done before todo after c cs p = a_plain (RunInject v kept)
          (RunInject u other) done before todo after c cs p
      a_enter f g done before todo after c cs p = absurd c
