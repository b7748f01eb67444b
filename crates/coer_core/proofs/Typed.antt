-- Typing keeps every cast at a value that it fits.
use Rattle.std.proofs.Common.{◌≡◌, ℕ, zero, suc, Bool, true, false, List, [], ◌∷◌, length, Some}
use Rattle.std.proofs.Common.{refl, sym, ap, ◌∙◌, subst}
use Rattle.std.specs.Prelude.{nat_eq, ◌&&◌, not, if◌then◌else◌}
use Rattle.std.proofs.lemmas.Bool.{eq-eqb}
use Rattle.grift_base.specs.Types.{TypeRow, IntRow, BoolRow, UnitRow, DynRow, FunRow, TupleRow, RefRow, VectRow}
use Rattle.grift_base.specs.Types.{TypeHead, IntHead, BoolHead, UnitHead, FunHead, TupleHead, RefHead, VectHead}
use Rattle.grift_base.specs.Types.{TypeRows, row_at, head_of, equal_heads, is_dyn}
use Rattle.grift_base.specs.declared.places.Pos.{Pos}
use Rattle.grift_base.specs.Types.{DynHead}
use Rattle.grift_base.proofs.Public.{each_row}
use Rattle.cast_modes.specs.AnswerTypes.{fits_type, row_has_head, run_head}
use Rattle.coercion_norm.proofs.Public.{heads_exact}
use Rattle.coer_core.proofs.Joining.{ap2}
use Rattle.core_calc.specs.Terms.{Term, Terms, Bindings, NoTerms, TermThen}
use Rattle.core_calc.specs.Terms.{NoBindings, BindingThen, If, Seq, Call, Proj, ProjDyn, Tuple, Prim, Enter}
use Rattle.core_calc.specs.Terms.{binding_names}
use Rattle.core_calc.specs.Substitution.{Substitution, substitute_members}
use Rattle.core_calc.specs.Typing.{Context, CellType, HasType, HaveTypes, BindingsHaveTypes, MembersHaveTypes}
use Rattle.core_calc.specs.Typing.{MemberHasType, ValueHasType, ValuesHaveTypes, Stands}
use Rattle.core_calc.proofs.Public.{both_row, value_of_term, bind_length}
use Rattle.core_calc.proofs.Public.{stands_on}
use Rattle.cast_modes.specs.Modes.{TypeCast, fits}
use Rattle.cast_modes.specs.RunValues.{RunInt, RunBool, RunUnit, RunFun, RunTuple, RunLoc, RunWrap, RunInject}
use Rattle.cast_modes.specs.RunValues.{NoRunValues, RunValueThen, row_list, shape_of}
use Rattle.cast_modes.specs.ValueSteps.{CastFrame, ProjFrame, PrimFrame, EnterFrame, OwnFrame}
use Rattle.coer_core.specs.Terms.{RowMembers, NoRowMembers, RowMemberThen, core_members, core_bindings}
use Rattle.coer_core.specs.Machine.{LambdaCode, MemberCode, member_width, code_arity, Calling, Tupling, Operating}
use Rattle.coer_core.specs.Machine.{IfFrame, SeqFrame, FunFrame, ProjDynFrame, GatherFrame, LetFrame}
use Rattle.coer_core.specs.Machine.{CoerValues}
use Rattle.coer_core.proofs.Following.{Keeps}
use Rattle.coer_core.proofs.Relation.{terms_onto, bindings_onto, names_onto, cast_term, sub, sub_terms, sub_bindings}
use Rattle.coer_core.proofs.Relation.{let_term, Plugged}
use Rattle.coer_core.proofs.Unload.{PiledValue, PiledFrame, value_of, values_of}

equal_itself : (n : ℕ) → nat_eq n n ≡ true
equal_itself n = eq-eqb n n refl

module _ (types : TypeRows) (labels : ℕ) (cells : List CellType) (rows : List TypeCast) where
  abbrev Has : Term → ℕ → Type 0
  Has term type = HasType types labels cells [] term type

  last_typed : (done rest : Terms) (wanted : List ℕ) → HaveTypes types labels cells [] (terms_onto done rest) wanted
      → (others : List ℕ) × HaveTypes types labels cells [] rest others
  last_typed NoTerms rest wanted h = (wanted, h)
  last_typed (TermThen term done) rest wanted h =
      let r = last_typed done (TermThen term rest) wanted h in (r.1.1, r.1.4)

  first_typed : (done : Terms) (h : Term) (rest : Terms) (wanted : List ℕ)
      → HaveTypes types labels cells [] (terms_onto done (TermThen h rest)) wanted → (type : ℕ) × Has h type
  first_typed done h rest wanted t = let r = last_typed done (TermThen h rest) wanted t in (r.1.0, r.1.3)

  last_bound : (done rest : Bindings) (wanted : Context)
      → BindingsHaveTypes types labels cells [] (bindings_onto done rest) wanted
      → (others : Context) × BindingsHaveTypes types labels cells [] rest others
  last_bound NoBindings rest wanted h = (wanted, h)
  last_bound (BindingThen name term done) rest wanted h =
      let r = last_bound done (BindingThen name term rest) wanted h in (r.1.1, r.1.4)

  -- what stands in a typed whole has a type
  pub hole_typed : (k : List PiledFrame) (h whole : Term) (type : ℕ) → Plugged rows k h whole → Has whole type
      → (u : ℕ) × Has h u
  hole_typed [] h whole type p w = (type, subst (λ x. Has x type) (sym p) w)
  hole_typed (OwnFrame (IfFrame on_true on_false env) ∷ k) h whole type p w =
      let r = hole_typed k (If h (sub rows on_true env) (sub rows on_false env)) whole type p w in (r.1.0, r.1.1)
  hole_typed (OwnFrame (SeqFrame term rest env) ∷ k) h whole type p w =
      let r =
      hole_typed k (Seq (TermThen h (TermThen (sub rows term env) (sub_terms rows rest env)))) whole type p w in
      r.1.0
  hole_typed (OwnFrame (FunFrame arguments env) ∷ k) h whole type p w =
      let r = hole_typed k (Call h (sub_terms rows arguments env)) whole type p w in (r.1.0, r.1.2)
  hole_typed (CastFrame cast ∷ k) h whole type p w =
      let r = hole_typed k (cast_term h cast) whole type p w in (cast.from, r.1.1)
  hole_typed (ProjFrame i ∷ k) h whole type p w = let r = hole_typed k (Proj h i) whole type p w in (r.1.0, r.1.2)
  hole_typed (OwnFrame (ProjDynFrame i label) ∷ k) h whole type p w =
      let r = hole_typed k (ProjDyn h i label) whole type p w in (r.0, r.1.0)
  hole_typed (OwnFrame (GatherFrame (Calling f) done todo env) ∷ k) h whole type p w =
      let r = hole_typed k (Call p.0 (terms_onto p.2.0 (TermThen h (sub_terms rows todo env)))) whole type p.2.2 w in
      first_typed p.2.0 h (sub_terms rows todo env) r.1.1 r.1.4
  hole_typed (OwnFrame (GatherFrame Tupling done todo env) ∷ k) h whole type p w =
      let r = hole_typed k (Tuple (terms_onto p.0 (TermThen h (sub_terms rows todo env)))) whole type p.2 w in
      first_typed p.0 h (sub_terms rows todo env) r.1.0 r.1.1
  hole_typed (OwnFrame (GatherFrame (Operating operator) done todo env) ∷ k) h whole type p w =
      let r = hole_typed k (Prim operator (terms_onto p.0 (TermThen h (sub_terms rows todo env)))) whole type p.2 w in
      first_typed p.0 h (sub_terms rows todo env) r.1.0 r.1.1
  hole_typed (PrimFrame operator done ∷ k) h whole type p w =
      let r = hole_typed k (Prim operator (terms_onto p.0 (TermThen h NoTerms))) whole type p.2 w in
      first_typed p.0 h NoTerms r.1.0 r.1.1
  hole_typed (OwnFrame (LetFrame bound name todo body env) ∷ k) h whole type p w =
      let r =
      hole_typed k (let_term rows p.0 (names_onto bound (name ∷ binding_names (core_bindings rows todo)))
      (BindingThen name h (sub_bindings rows todo env)) body env) whole type p.2 w in
      let q = last_bound p.0 (BindingThen name h (sub_bindings rows todo env)) r.1.0 r.1.1 in
      (q.1.0, q.1.3)
  hole_typed (EnterFrame f done todo ∷ k) h whole type p w =
      let r = hole_typed k (Enter p.0 (terms_onto p.3.0 (TermThen h p.3.2.0))) whole type p.3.2.2 w in
      first_typed p.3.0 h p.3.2.0 r.1.1 r.1.4

  -- ---- heads

  tuple_length : (values : CoerValues TypeCast) (parts : List ℕ)
      → ValuesHaveTypes types labels cells (values_of rows values) parts → length parts ≡ length (row_list values)
  tuple_length NoRunValues parts h = ap length h
  tuple_length (RunValueThen v rest) parts h = ap length h.2 ∙ ap suc (tuple_length rest h.1 h.4)

  member_length : (context : Context) (members : RowMembers) (s : Substitution) (place type : ℕ)
      → MembersHaveTypes types labels cells context (substitute_members (core_members rows members) s)
      → MemberHasType (substitute_members (core_members rows members) s) place type
      → (parameters : List ℕ) × (answer : ℕ) × (row_at types type ≡ Some (FunRow parameters answer))
      × (length parameters ≡ member_width members place)
  member_length context NoRowMembers s place type h m = absurd m
  member_length context (RowMemberThen name parameters body written rest) s zero type h m =
      (h.0.0, h.0.1, ap (row_at types) (sym m) ∙ h.0.3, sym (bind_length parameters h.0.0 h.0.2 h.0.4))
  member_length context (RowMemberThen name parameters body written rest) s (suc place) type h m =
      member_length context rest s place type h.1 m

  head_is : (head : TypeHead) (row0 row : TypeRow) (type : ℕ) → row_at types type ≡ Some row0
      → row_at types type ≡ Some row → equal_heads head (head_of row0) ≡ true → equal_heads head (head_of row) ≡ true
  head_is head row0 row type a b e =
      subst (λ r. equal_heads head (head_of r) ≡ true) (both_row row0 row (row_at types type) a b) e

  width_is : (n m : ℕ) → m ≡ n → nat_eq n m ≡ true
  width_is n m e = subst (λ x. nat_eq n x ≡ true) (sym e) (equal_itself n)

  pub value_fits : (v : PiledValue) (cast : TypeCast) (row : TypeRow)
      → ValueHasType types labels cells (value_of rows v) cast.from → row_at types cast.from ≡ Some row
      → fits row cast (shape_of code_arity v) ≡ true
  value_fits (RunInt n) cast row h e = head_is IntHead IntRow row cast.from h.1 e refl
  value_fits (RunBool b) cast row h e = head_is BoolHead BoolRow row cast.from h e refl
  value_fits RunUnit cast row h e = head_is UnitHead UnitRow row cast.from h e refl
  value_fits (RunFun (LambdaCode parameters body type names) captured) cast row h e =
      head_is (FunHead (length parameters)) (FunRow h.1.0 h.1.1) row cast.from h.1.3 e
      (width_is (length parameters) (length h.1.0) (sym (bind_length parameters h.1.0 h.1.2 h.1.4)))
  value_fits (RunFun (MemberCode group place names) captured) cast row h e =
      let m = member_length _ group _ place cast.from h.0 h.1 in
      head_is (FunHead (member_width group place)) (FunRow m.0 m.1) row cast.from m.2 e
      (width_is (member_width group place) (length m.0) m.3)
  value_fits (RunTuple values) cast row h e =
      head_is (TupleHead (length (row_list values))) (TupleRow h.0) row cast.from h.2 e
      (width_is (length (row_list values)) (length h.0) (tuple_length values h.0 h.1))
  value_fits (RunLoc cell true) cast row h e = head_is VectHead (VectRow h.0) row cast.from h.3 e refl
  value_fits (RunLoc cell false) cast row h e = head_is RefHead (RefRow h.0) row cast.from h.2 e refl
  value_fits (RunWrap v old) cast row h e = subst (λ x. nat_eq old.to x ≡ true) h.2 (equal_itself old.to)
  value_fits (RunInject v kept) cast row h e =
      subst (λ r. is_dyn r ≡ true) (both_row DynRow row (row_at types cast.from) h.4 e) refl

  -- ---- answers

  dyn_heads : (row : TypeRow) → equal_heads DynHead (head_of row) ≡ is_dyn row
  dyn_heads = each_row (λ row. equal_heads DynHead (head_of row) ≡ is_dyn row)
      refl refl refl refl (λ _ _. refl) (λ _. refl) (λ _. refl) (λ _. refl)

  true_false : true ≡ false → ⊥
  true_false e = cc

  and_first : (a b : Bool) → (a && b) ≡ true → a ≡ true
  and_first true b e = refl
  and_first false b e = e

  -- a value inside a wrapper has the head of its type
  inner_head : (v : PiledValue) (type : ℕ) (row : TypeRow) → row_at types type ≡ Some row → is_dyn row ≡ false
      → fits_type code_arity types v type ≡ true → equal_heads (run_head code_arity v) (head_of row) ≡ true
  inner_head (RunInject v kept) type row e d f =
      let there : Bool = not (row_has_head (row_at types kept) DynHead) && fits_type code_arity types v kept in
      absurd (true_false (sym (and_first (equal_heads DynHead (head_of row)) there
      (ap (λ o. row_has_head o DynHead && there) (sym e) ∙ f)) ∙ dyn_heads row ∙ d))
  inner_head (RunInt n) type row e d f = ap (λ o. row_has_head o IntHead) (sym e) ∙ f
  inner_head (RunBool b) type row e d f = ap (λ o. row_has_head o BoolHead) (sym e) ∙ f
  inner_head RunUnit type row e d f = ap (λ o. row_has_head o UnitHead) (sym e) ∙ f
  inner_head (RunFun code captured) type row e d f = ap (λ o. row_has_head o (FunHead (code_arity code))) (sym e) ∙ f
  inner_head (RunTuple values) type row e d f =
      ap (λ o. row_has_head o (TupleHead (length (row_list values)))) (sym e) ∙ f
  inner_head (RunLoc cell is_vector) type row e d f =
      ap (λ o. row_has_head o (if is_vector then VectHead else RefHead)) (sym e) ∙ f
  inner_head (RunWrap v cast) type row e d f = ap (λ o. row_has_head o (run_head code_arity v)) (sym e) ∙ f

  -- a value of a type has its head, and so has what it holds in Dyn
  pub value_answers : (v : PiledValue) (type : ℕ) → ValueHasType types labels cells (value_of rows v) type
      → fits_type code_arity types v type ≡ true
  value_answers (RunInt n) type h = ap (λ o. row_has_head o IntHead) h.1
  value_answers (RunBool b) type h = ap (λ o. row_has_head o BoolHead) h
  value_answers RunUnit type h = ap (λ o. row_has_head o UnitHead) h
  value_answers (RunFun (LambdaCode parameters body written names) captured) type h =
      ap (λ o. row_has_head o (FunHead (length parameters))) h.1.3
      ∙ width_is (length parameters) (length h.1.0) (sym (bind_length parameters h.1.0 h.1.2 h.1.4))
  value_answers (RunFun (MemberCode group place names) captured) type h =
      let m = member_length _ group _ place type h.0 h.1 in
      ap (λ o. row_has_head o (FunHead (member_width group place))) m.2
      ∙ width_is (member_width group place) (length m.0) m.3
  value_answers (RunTuple values) type h =
      ap (λ o. row_has_head o (TupleHead (length (row_list values)))) h.2
      ∙ width_is (length (row_list values)) (length h.0) (tuple_length values h.0 h.1)
  value_answers (RunLoc cell true) type h = ap (λ o. row_has_head o VectHead) h.3
  value_answers (RunLoc cell false) type h = ap (λ o. row_has_head o RefHead) h.2
  value_answers (RunWrap v cast) type h =
      let inner = inner_head v cast.from h.0 h.4 h.8 (value_answers v cast.from h.3) in
      ap (λ o. row_has_head o (run_head code_arity v)) (ap (row_at types) (sym h.2) ∙ h.5)
      ∙ ap (λ x. equal_heads (run_head code_arity v) x) (sym (heads_exact (head_of h.0) (head_of h.1) h.6)) ∙ inner
  value_answers (RunInject v kept) type h =
      ap (λ o. row_has_head o DynHead && (not (row_has_head (row_at types kept) DynHead)
      && fits_type code_arity types v kept)) h.4
      ∙ ap2 (λ a b. not a && b) (ap (λ o. row_has_head o DynHead) h.2 ∙ dyn_heads h.0 ∙ h.3) (value_answers v kept h.1)

-- along the calculus states keep the program's type
pub typing_keeps : (types : TypeRows) (rows : List TypeCast) (labels : List Pos) (type : ℕ)
    → Keeps types rows labels type (λ c. Stands types (length labels) c type)
typing_keeps types rows labels type = record {
  steps = λ c g e. stands_on types (length labels) c type g e;
  casts =
      λ k v cast h whole store world g p e row there.
      let c = hole_typed types (length labels) g.0.1 rows k (cast_term h cast) whole type p g.0.3 in
      value_fits types (length labels) g.0.1 rows v cast row
      (value_of_term types (length labels) g.0.1 h [] cast.from (value_of rows v) c.1.1 e) there;
  answers =
      λ v whole store world g e. value_answers types (length labels) g.0.1 rows v type
      (value_of_term types (length labels) g.0.1 whole [] type (value_of rows v) g.0.3 e);
}
