-- A term that reads back to a program term is closed, and fine.
use Rattle.std.proofs.Common.{◌≡◌, ◌⊎◌, inl, inr, ⊎_elim, ℕ, suc, Bool, true, false, cond, nat_eq, List}
use Rattle.std.proofs.Common.{[], ◌∷◌, ◌++◌, length, Option, Some, None, slice_get, refl, sym, ap, ◌∙◌, arith}
use Rattle.std.proofs.Common.{eqb-true, ◌≤◌, subst}
use Rattle.std.specs.Int.{w64}
use Rattle.std.specs.Ordering.{int_eq}
use Rattle.std.specs.List.{list_all}
use Rattle.std.proofs.lemmas.Bool.{and_parts}
use Rattle.std.proofs.lemmas.List.Folds.{list_all-append}
use Rattle.std.proofs.lemmas.Int.{int_wrap_fits}
use Rattle.std.proofs.lemmas.Cmp.{int_eq_equiv}
use Rattle.grift_base.specs.Types.{TypeRows, FunRow}
use Rattle.grift_base.specs.declared.operators.PrimOp.{PrimOp}
use Rattle.grift_base.specs.declared.operators.PrimOp.TheVariants.{Add, Sub, Mul, Quot, Rem, Lt, Le, Eq, Ge, Gt, Not}
use Rattle.grift_base.specs.declared.operators.PrimOp.TheVariants.{PrintInt, Newline, ReadInt, MakeBox, Unbox, BoxSet}
use Rattle.grift_base.specs.declared.operators.PrimOp.TheVariants.{MakeVector, VectorRef, VectorSet, VectorLength}
use Rattle.type_graph.specs.TypeTables.{HaveWidths}
use Rattle.core_calc.specs.Terms.{both_in_front}
use Rattle.core_calc.specs.Substitution.{is_among, bind, entry_of}
use Rattle.core_calc.specs.Typing.{Context, CellType, HasType, HaveTypes, LastHasType, MembersHaveTypes}
use Rattle.core_calc.specs.Typing.{BindingsHaveTypes, OperatorHasType, member_types}
use Rattle.cast_modes.specs.Modes.{TypeCast}
use Rattle.coer_core.specs.Terms.{RowTerm, RowTerms, RowMembers, RowBindings, RowInt, RowBool, RowUnit, RowVar}
use Rattle.coer_core.specs.Terms.{RowLambda, RowGroup, RowLet, RowCall, RowIf, RowSeq, RowCast, RowProj, RowProjDyn}
use Rattle.coer_core.specs.Terms.{RowTuple, RowPrim, NoRowTerms, RowTermThen, NoRowMembers, RowMemberThen}
use Rattle.coer_core.specs.Terms.{NoRowBindings, RowBindingThen, cast_by, core_of, core_terms, core_members}
use Rattle.coer_core.specs.Terms.{core_bindings}
use Rattle.coer_core.specs.Counts.{names_besides, free_names, free_names_of_all, free_names_of_members}
use Rattle.coer_core.specs.Counts.{free_names_of_bindings, row_member_names, row_binding_names}
use Rattle.closure_convert.proofs.Carrying.{none_some, same_some, false_true}
use Rattle.coer_core.specs.Uses.{how_many}
use Rattle.closure_convert.specs.Uses.{Use, OperatorUse, DynPartUse, CastUse, has_words, term_uses}
use Rattle.closure_convert.specs.Uses.{terms_uses, member_uses, binding_uses}
use Rattle.closure_convert.proofs.Fine.{count, Fine, FineFor, FineIn, FineBy}
use Rattle.closure_convert.proofs.Standing.{IsClosedTerm}

-- ---- operators

shape : (operands these : List ℕ) → operands ≡ these → length these ≤ 8 → length operands ≤ 8
shape operands these e h = subst (λ xs. length xs ≤ 8) (sym e) h

-- an operator that has a type has eight operands at most
few_operands : (types : TypeRows) (operator : PrimOp) (operands : List ℕ) (type : ℕ)
    → OperatorHasType types operator operands type → length operands ≤ 8
few_operands types Add operands type h = shape operands _ h.0.2 (omega arith)
few_operands types Sub operands type h = shape operands _ h.0.2 (omega arith)
few_operands types Mul operands type h = shape operands _ h.0.2 (omega arith)
few_operands types Quot operands type h = shape operands _ h.0.2 (omega arith)
few_operands types Rem operands type h = shape operands _ h.0.2 (omega arith)
few_operands types Lt operands type h = shape operands _ h.0.2 (omega arith)
few_operands types Le operands type h = shape operands _ h.0.2 (omega arith)
few_operands types Eq operands type h = shape operands _ h.0.2 (omega arith)
few_operands types Ge operands type h = shape operands _ h.0.2 (omega arith)
few_operands types Gt operands type h = shape operands _ h.0.2 (omega arith)
few_operands types Not operands type h = shape operands _ h.0.1 (omega arith)
few_operands types PrintInt operands type h = shape operands _ h.0.1 (omega arith)
few_operands types Newline operands type h = shape operands _ h.0 (omega arith)
few_operands types ReadInt operands type h = shape operands _ h.0 (omega arith)
few_operands types MakeBox operands type h = shape operands _ h.1 (omega arith)
few_operands types Unbox operands type h = shape operands _ h.1 (omega arith)
few_operands types BoxSet operands type h = shape operands _ h.2 (omega arith)
few_operands types MakeVector operands type h = shape operands _ h.2 (omega arith)
few_operands types VectorRef operands type h = shape operands _ h.2 (omega arith)
few_operands types VectorSet operands type h = shape operands _ h.3 (omega arith)
few_operands types VectorLength operands type h = shape operands _ h.1.1 (omega arith)

-- ---- names with types

-- each of these names has a type
abbrev Typed : List ℕ → Context → Type 0
Typed names context = (name : ℕ) → is_among name names ≡ true → (type : ℕ) × (entry_of name context ≡ Some type)

split : (name : ℕ) (xs ys : List ℕ) → is_among name (xs ++ ys) ≡ true → (is_among name xs ≡ true)
    ⊎ (is_among name ys ≡ true)
split name [] ys e = inr e
split name (x ∷ xs) ys e = by_test (split name xs ys) (nat_eq name x) e
  where
    by_test : (is_among name (xs ++ ys) ≡ true → (is_among name xs ≡ true) ⊎ (is_among name ys ≡ true)) → (b : Bool)
        → cond b true (is_among name (xs ++ ys)) ≡ true
        → (cond b true (is_among name xs) ≡ true) ⊎ (is_among name ys ≡ true)
    by_test ih true e = inl refl
    by_test ih false e = ih e

both_typed : (xs ys : List ℕ) (context : Context) → Typed xs context → Typed ys context → Typed (xs ++ ys) context
both_typed xs ys context f k name e = ⊎_elim (λ a. f name a) (λ a. k name a) (split name xs ys e)

none_typed : (context : Context) → Typed [] context
none_typed context name e = false_true e

-- the names of a context
abbrev named : Context → List ℕ
named [] = []
named (entry ∷ rest) = entry.0 ∷ named rest

-- a name besides these is among the others
besides : (name : ℕ) (names xs : List ℕ) → is_among name (names_besides names xs) ≡ true
    → (is_among name xs ≡ true) × (is_among name names ≡ false)
besides name names [] e = false_true e
besides name names (x ∷ xs) e = by_test (besides name names xs) (is_among x names) refl e (nat_eq name x) refl
  where
    same : (name x : ℕ) → nat_eq name x ≡ true → name ≡ x
    same name x e = eqb-true name x e

    by_test : (is_among name (names_besides names xs) ≡ true
        → (is_among name xs ≡ true) × (is_among name names ≡ false)) → (c : Bool) → is_among x names ≡ c
        → is_among name (cond c (names_besides names xs) (x ∷ names_besides names xs)) ≡ true → (b : Bool)
        → nat_eq name x ≡ b → (cond b true (is_among name xs) ≡ true) × (is_among name names ≡ false)
    by_test ih true k e true f = (refl, (ih e).1)
    by_test ih true k e false f = ih e
    by_test ih false k e true f = (refl, ap (λ n. is_among n names) (same name x f) ∙ k)
    by_test ih false k e false f =
        ih (sym (ap (λ b. cond b true (is_among name (names_besides names xs))) f) ∙ e)

-- what is bound in front is not needed for the other names
behind_bound : (name : ℕ) (bound context : Context) → is_among name (named bound) ≡ false
    → entry_of name (bound ++ context) ≡ entry_of name context
behind_bound name [] context e = refl
behind_bound name (entry ∷ rest) context e = by_test (behind_bound name rest context) (nat_eq name entry.0) e
  where
    by_test : (is_among name (named rest) ≡ false → entry_of name (rest ++ context) ≡ entry_of name context)
        → (b : Bool) → cond b true (is_among name (named rest)) ≡ false
        → cond b (Some entry.1) (entry_of name (rest ++ context)) ≡ entry_of name context
    by_test ih true e = false_true (sym e)
    by_test ih false e = ih e

outside : (names xs : List ℕ) (bound context : Context) → named bound ≡ names → Typed xs (bound ++ context)
    → Typed (names_besides names xs) context
outside names xs bound context same f name e =
    let b = besides name names xs e in
    let t = f name b.0 in
    (t.0, sym (behind_bound name bound context (ap (is_among name) same ∙ b.1)) ∙ t.1)

named_append : (a b : Context) → named (a ++ b) ≡ named a ++ named b
named_append [] b = refl
named_append (entry ∷ a) b = ap (λ l. entry.0 ∷ l) (named_append a b)

bound_more : (name type : ℕ) (names types : List ℕ) (o : Option Context) (all : Context)
    → ((rest : Context) → o ≡ Some rest → (named rest ≡ names) × (length names ≡ length types))
    → both_in_front (Some (name, type)) o ≡ Some all
    → (named all ≡ name ∷ names) × (length (name ∷ names) ≡ length (type ∷ types))
bound_more name type names types None all ih e = none_some e
bound_more name type names types (Some rest) all ih e =
    let h = ih rest refl in
    (sym (ap named (same_some ((name, type) ∷ rest) all e)) ∙ ap (λ l. name ∷ l) h.0, ap suc h.1)

bound_names : (names types : List ℕ) (bound : Context) → bind names types ≡ Some bound
    → (named bound ≡ names) × (length names ≡ length types)
bound_names [] [] bound e = (sym (ap named (same_some [] bound e)), refl)
bound_names [] (t ∷ types) bound e = none_some e
bound_names (name ∷ names) [] bound e = none_some e
bound_names (name ∷ names) (t ∷ types) bound e =
    bound_more name t names types (bind names types) bound (λ rest h. bound_names names types rest h) e

module _ (casts : List TypeCast) where
  member_names_are : (members : RowMembers) → named (member_types (core_members casts members))
      ≡ row_member_names members
  member_names_are NoRowMembers = refl
  member_names_are (RowMemberThen name parameters body type rest) = ap (λ l. name ∷ l) (member_names_are rest)

  module _ (types : TypeRows) (labels : ℕ) (cells : List CellType) where
    abbrev Has : Context → RowTerm → ℕ → Type 0
    Has context term type = HasType types labels cells context (core_of casts term) type

    binding_names_are : (bindings : RowBindings) (context bound : Context)
        → BindingsHaveTypes types labels cells context (core_bindings casts bindings) bound
        → named bound ≡ row_binding_names bindings
    binding_names_are NoRowBindings context bound h = ap named h
    binding_names_are (RowBindingThen name term rest) context bound h =
        ap named h.2 ∙ ap (λ l. name ∷ l) (binding_names_are rest context h.1 h.4)

    no_cast : (context : Context) (term : RowTerm) (n type : ℕ) (o : Option TypeCast) {P : Type 0}
        → ((from : ℕ) → Has context term from → P)
        → HasType types labels cells context (cast_by o (core_of casts term)) type → P
    no_cast context term n type (Some cast) go h = go cast.from h.1
    no_cast context term n type None go h = absurd h

    mutual
      -- the free names of a term have types
      typed_names : (term : RowTerm) (context : Context) (type : ℕ) → Has context term type
          → Typed (free_names term) context
      typed_names (RowInt n) context type h = none_typed context
      typed_names (RowBool b) context type h = none_typed context
      typed_names RowUnit context type h = none_typed context
      typed_names (RowVar x) context type h = λ name e. by_test name (nat_eq name x) refl e
        where
          by_test : (name : ℕ) (b : Bool) → nat_eq name x ≡ b → cond b true false ≡ true
              → (type : ℕ) × (entry_of name context ≡ Some type)
          by_test name true f e = (type, ap (λ n. entry_of n context) (eqb-true name x f) ∙ h)
          by_test name false f e = false_true e
      typed_names (RowLambda parameters body written) context type h =
          let f = h.1 in
          let b = bound_names parameters f.0 f.2 f.4 in
          outside parameters (free_names body) f.2 context b.0 (typed_names body (f.2 ++ context) f.1 f.5)
      typed_names (RowGroup members body) context type h =
          let bound = member_types (core_members casts members) in
          outside (row_member_names members) (free_names_of_members members ++ free_names body) bound context
          (member_names_are members) (both_typed (free_names_of_members members) (free_names body) (bound ++ context)
          (typed_names_of_members members (bound ++ context) h.0) (typed_names body (bound ++ context) type h.1))
      typed_names (RowLet bindings body) context type h =
          both_typed (free_names_of_bindings bindings) (names_besides (row_binding_names bindings) (free_names body))
          context (typed_names_of_bindings bindings context h.0 h.1)
          (outside (row_binding_names bindings) (free_names body) h.0 context
          (binding_names_are bindings context h.0 h.1) (typed_names body (h.0 ++ context) type h.2))
      typed_names (RowCall function arguments) context type h =
          both_typed (free_names function) (free_names_of_all arguments) context (typed_names function context h.0 h.2)
          (typed_names_of_all arguments context h.1 h.4)
      typed_names (RowIf condition on_true on_false) context type h =
          both_typed (free_names condition) (free_names on_true ++ free_names on_false) context
          (typed_names condition context h.0 h.1) (both_typed (free_names on_true) (free_names on_false) context
          (typed_names on_true context type h.3) (typed_names on_false context type h.4))
      typed_names (RowSeq terms) context type h = typed_names_of_last terms context type h
      typed_names (RowCast term n) context type h =
          no_cast context term n type (slice_get casts n) (λ from k. typed_names term context from k) h
      typed_names (RowProj term k) context type h = typed_names term context h.0 h.2
      typed_names (RowProjDyn term k label) context type h = typed_names term context type h.0
      typed_names (RowTuple parts) context type h = typed_names_of_all parts context h.0 h.1
      typed_names (RowPrim operator operands) context type h = typed_names_of_all operands context h.0 h.1

      typed_names_of_all : (terms : RowTerms) (context : Context) (term_types : List ℕ)
          → HaveTypes types labels cells context (core_terms casts terms) term_types
          → Typed (free_names_of_all terms) context
      typed_names_of_all NoRowTerms context term_types h = none_typed context
      typed_names_of_all (RowTermThen term rest) context term_types h =
          both_typed (free_names term) (free_names_of_all rest) context (typed_names term context h.0 h.3)
          (typed_names_of_all rest context h.1 h.4)

      typed_names_of_last : (terms : RowTerms) (context : Context) (type : ℕ)
          → LastHasType types labels cells context (core_terms casts terms) type
          → Typed (free_names_of_all terms) context
      typed_names_of_last NoRowTerms context type h = absurd h
      typed_names_of_last (RowTermThen term NoRowTerms) context type h =
          both_typed (free_names term) [] context (typed_names term context type h) (none_typed context)
      typed_names_of_last (RowTermThen term (RowTermThen second rest)) context type h =
          both_typed (free_names term) (free_names_of_all (RowTermThen second rest)) context
          (typed_names term context h.0.0 h.0.1) (typed_names_of_last (RowTermThen second rest) context type h.1)

      typed_names_of_members : (members : RowMembers) (context : Context)
          → MembersHaveTypes types labels cells context (core_members casts members)
          → Typed (free_names_of_members members) context
      typed_names_of_members NoRowMembers context h = none_typed context
      typed_names_of_members (RowMemberThen name parameters body written rest) context h =
          let f = h.0 in
          let b = bound_names parameters f.0 f.2 f.4 in
          both_typed (names_besides parameters (free_names body)) (free_names_of_members rest) context
          (outside parameters (free_names body) f.2 context b.0 (typed_names body (f.2 ++ context) f.1 f.5))
          (typed_names_of_members rest context h.1)

      typed_names_of_bindings : (bindings : RowBindings) (context bound : Context)
          → BindingsHaveTypes types labels cells context (core_bindings casts bindings) bound
          → Typed (free_names_of_bindings bindings) context
      typed_names_of_bindings NoRowBindings context bound h = none_typed context
      typed_names_of_bindings (RowBindingThen name term rest) context bound h =
          both_typed (free_names term) (free_names_of_bindings rest) context (typed_names term context h.0 h.3)
          (typed_names_of_bindings rest context h.1 h.4)

    count_is : (terms : RowTerms) (context : Context) (term_types : List ℕ)
        → HaveTypes types labels cells context (core_terms casts terms) term_types → count terms ≡ length term_types
    count_is NoRowTerms context term_types h = sym (ap length h)
    count_is (RowTermThen term rest) context term_types h =
        ap suc (count_is rest context h.1 h.4) ∙ sym (ap length h.2)

    -- the parts of Dyn in it have numbers and labels that are words
    abbrev HaveWords : List Use → Type 0
    HaveWords uses = list_all has_words uses ≡ true

    apart : (xs ys : List Use) → HaveWords (xs ++ ys) → HaveWords xs × HaveWords ys
    apart xs ys w =
        and_parts (list_all has_words xs) (list_all has_words ys) (sym (list_all-append has_words xs ys) ∙ w)

    behind : (used : Use) (uses : List Use) → HaveWords (used ∷ uses) → (has_words used ≡ true) × HaveWords uses
    behind used uses w = and_parts (has_words used) (list_all has_words uses) w

    module _ (widths : HaveWidths types) where
      mutual
        fine : (term : RowTerm) (context : Context) (type : ℕ) → Has context term type → HaveWords (term_uses term)
            → Fine term
        fine (RowInt n) context type h w =
            ap (λ m. int_eq m n) (int_wrap_fits w64 n h.0) ∙ int_eq_equiv.refl n
        fine (RowBool b) context type h w = tt
        fine RowUnit context type h w = tt
        fine (RowVar x) context type h w = tt
        fine (RowLambda parameters body written) context type h w =
            let f = h.1 in
            let b = bound_names parameters f.0 f.2 f.4 in
            let most = widths type (FunRow f.0 f.1) f.3 in
            let long = b.1 in
            (omega (arith, long, most), fine body (f.2 ++ context) f.1 f.5 w)
        fine (RowGroup members body) context type h w =
            let bound = member_types (core_members casts members) in
            let words = apart (member_uses members) (term_uses body) w in
            (fine_in members (bound ++ context) h.0 words.0, fine body (bound ++ context) type h.1 words.1)
        fine (RowLet bindings body) context type h w =
            let words = apart (binding_uses bindings) (term_uses body) w in
            (fine_by bindings context h.0 h.1 words.0, fine body (h.0 ++ context) type h.2 words.1)
        fine (RowCall function arguments) context type h w =
            let most = widths h.0 (FunRow h.1 type) h.3 in
            let n = count_is arguments context h.1 h.4 in
            let words = apart (term_uses function) (terms_uses arguments) w in (
              fine function context h.0 h.2 words.0,
              fine_for arguments context h.1 h.4 words.1,
              omega (arith, most, n),
            )
        fine (RowIf condition on_true on_false) context type h w =
            let words = apart (term_uses condition) (term_uses on_true ++ term_uses on_false) w in
            let branches = apart (term_uses on_true) (term_uses on_false) words.1 in (
              fine condition context h.0 h.1 words.0,
              fine on_true context type h.3 branches.0,
              fine on_false context type h.4 branches.1,
            )
        fine (RowSeq terms) context type h w = fine_last terms context type h w
        fine (RowCast term n) context type h w =
            let words = behind (CastUse n) (term_uses term) w in
            no_cast context term n type (slice_get casts n) (λ from k. fine term context from k words.1) h
        fine (RowProj term k) context type h w = fine term context h.0 h.2 w
        fine (RowProjDyn term k label) context type h w =
            let words = behind (DynPartUse k label) (term_uses term) w in
            (fine term context type h.0 words.1, words.0)
        fine (RowTuple parts) context type h w =
            let n = count_is parts context h.0 h.1 in
            let few = h.3 in
            let many = h.4 in
            (fine_for parts context h.0 h.1 w, omega (arith, n, few), omega (arith, n, many))
        fine (RowPrim operator operands) context type h w =
            let n = count_is operands context h.0 h.1 in
            let few = few_operands types operator h.0 type h.2 in
            let words = behind (OperatorUse operator (how_many operands)) (terms_uses operands) w in
            (fine_for operands context h.0 h.1 words.1, omega (arith, n, few))

        fine_for : (terms : RowTerms) (context : Context) (term_types : List ℕ)
            → HaveTypes types labels cells context (core_terms casts terms) term_types → HaveWords (terms_uses terms)
            → FineFor terms
        fine_for NoRowTerms context term_types h w = tt
        fine_for (RowTermThen term rest) context term_types h w =
            let words = apart (term_uses term) (terms_uses rest) w in
            (fine term context h.0 h.3 words.0, fine_for rest context h.1 h.4 words.1)

        fine_last : (terms : RowTerms) (context : Context) (type : ℕ)
            → LastHasType types labels cells context (core_terms casts terms) type → HaveWords (terms_uses terms)
            → FineFor terms
        fine_last NoRowTerms context type h w = absurd h
        fine_last (RowTermThen term NoRowTerms) context type h w =
            (fine term context type h (apart (term_uses term) [] w).0, tt)
        fine_last (RowTermThen term (RowTermThen second rest)) context type h w =
            let words = apart (term_uses term) (terms_uses (RowTermThen second rest)) w in (
              fine term context h.0.0 h.0.1 words.0,
              fine_last (RowTermThen second rest) context type h.1 words.1,
            )

        fine_in : (members : RowMembers) (context : Context)
            → MembersHaveTypes types labels cells context (core_members casts members)
            → HaveWords (member_uses members) → FineIn members
        fine_in NoRowMembers context h w = tt
        fine_in (RowMemberThen name parameters body written rest) context h w =
            let f = h.0 in
            let b = bound_names parameters f.0 f.2 f.4 in
            let most = widths written (FunRow f.0 f.1) f.3 in
            let long = b.1 in
            let words = apart (term_uses body) (member_uses rest) w in (
              omega (arith, long, most),
              fine body (f.2 ++ context) f.1 f.5 words.0,
              fine_in rest context h.1 words.1,
            )

        fine_by : (bindings : RowBindings) (context bound : Context)
            → BindingsHaveTypes types labels cells context (core_bindings casts bindings) bound
            → HaveWords (binding_uses bindings) → FineBy bindings
        fine_by NoRowBindings context bound h w = tt
        fine_by (RowBindingThen name term rest) context bound h w =
            let words = apart (term_uses term) (binding_uses rest) w in
            (fine term context h.0 h.3 words.0, fine_by rest context h.1 h.4 words.1)

-- a term that is typed without names is closed, and fine
pub typed_closed : (casts : List TypeCast) (types : TypeRows) (labels : ℕ) (term : RowTerm) (type : ℕ)
    → HasType types labels [] [] (core_of casts term) type → IsClosedTerm term
typed_closed casts types labels term type h name = by_test (is_among name (free_names term)) refl
  where
    by_test : (b : Bool) → is_among name (free_names term) ≡ b → is_among name (free_names term) ≡ false
    by_test false e = e
    by_test true e = none_some (typed_names casts types labels [] term [] type h name e).1

pub typed_fine : (casts : List TypeCast) (types : TypeRows) (labels : ℕ) (term : RowTerm) (type : ℕ)
    → HaveWidths types → HasType types labels [] [] (core_of casts term) type
    → list_all has_words (term_uses term) ≡ true → Fine term
typed_fine casts types labels term type widths h words =
    fine casts types labels [] widths term [] type h words
