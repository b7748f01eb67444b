-- What the elaboration makes lists its casts.
use Rattle.std.proofs.Common.{◌≡◌, ℕ, ℤ, Bool, true, false, List, [], ◌∷◌, ◌++◌, length, Option, Some, None}
use Rattle.std.proofs.Common.{refl, ap, ◌∙◌, subst, slice_get}
use Rattle.std.specs.Prelude.{nat_eq, if◌then◌else◌}
use Rattle.grift_base.specs.Types.{TypeRow, IntRow, BoolRow, UnitRow, DynRow, FunRow, TupleRow, RefRow, VectRow}
use Rattle.grift_base.specs.Types.{tuple_part}
use Rattle.grift_base.specs.declared.places.Pos.{Pos}
use Rattle.grift_base.specs.declared.refusals.RefusalKind.{RefusalKind}
use Rattle.grift_base.specs.declared.refusals.RefusalKind.TheVariants.{NotConsistent, TypeTooLarge, WrongCount}
use Rattle.type_graph.specs.Forming.{Forming, intern}
use Rattle.core_calc.specs.Terms.{Terms, Members, IntLit, BoolLit, UnitLit, Var, Lambda, Group, Let}
use Rattle.core_calc.specs.Terms.{Call, If, Seq, Cast, Proj, ProjDyn, Tuple, Prim, NoTerms, TermThen, NoMembers}
use Rattle.core_calc.specs.Terms.{MemberThen, NoBindings, BindingThen}
use Rattle.core_calc.proofs.Public.{get_kept, get_last}
use Rattle.surface_trees.specs.declared.names.Ident.{Ident}
use Rattle.surface_trees.specs.Trees.{TypeExpr, Param, Expr, ExprAt, ExprNode, IntNode, BoolNode, UnitNode, NameNode}
use Rattle.surface_trees.specs.Trees.{LambdaNode, CallNode, LetNode, LetrecNode, IfNode, BeginNode, AscribeNode}
use Rattle.surface_trees.specs.Trees.{TupleNode, ProjNode, PrimNode, LambdaExpr, LambdaAt, Exprs, NoExprs, ExprThen}
use Rattle.surface_trees.specs.Trees.{LetBindings, NoLets, LetThen, LetrecMembers, NoLetrecs, LetrecThen}
use Rattle.cast_rules.specs.Sources.{place_of, last_place, how_many, place_of_type}
use Rattle.cast_rules.specs.WrittenTypes.{form_type}
use Rattle.consistency.specs.Blending.{blend}
use Rattle.cast_rules.specs.Making.{Entry, CastFrom, PartOf, Work, Made, Makes, Refuses, Making, then_make, ◌>>=◌}
use Rattle.cast_rules.specs.Making.{give, refuse, form, row_of, fresh, label_at, list_entry, test, not_too_large}
use Rattle.cast_rules.specs.Making.{are_consistent, blend_at, Typed, typed, cast_at, cast_to, cast_if, cast_to_row}
use Rattle.cast_rules.specs.Making.{written, written_if}
use Rattle.cast_rules.specs.Environments.{Environment, Meaning, meaning_of, with_names, use_as, use_at, variables}
use Rattle.cast_rules.specs.Environments.{type_or_dyn, parameter_types, bind_names, Head, consistent_if, head_of}
use Rattle.cast_rules.specs.Environments.{heads_of, names_of_heads, plain}
use Rattle.cast_rules.specs.Calls.{Given, call_by, part_by, project_by}
use Rattle.cast_rules.specs.Operators.{Operand, As, Content, Box, Vector, AsContent, OperatorAnswer, Always}
use Rattle.cast_rules.specs.Operators.{TheContent, BoxOf, VectorOf, Held, holds, box_by, vector_by, with_content}
use Rattle.cast_rules.specs.Operators.{operand_by, operands_of, answer_of, answer_type}
use Rattle.cast_rules.proofs.Operators.{opened_by}
use Rattle.cast_rules.specs.Elaboration.{Sequence, seq, Bound, MemberBody, Operands, elaborate, elaborate_node}
use Rattle.cast_rules.specs.Elaboration.{elaborate_lambda, elaborate_sequence, elaborate_all, elaborate_each}
use Rattle.cast_rules.specs.Elaboration.{elaborate_operands, elaborate_bindings, elaborate_members}
use Rattle.cast_rules.specs.Elaboration.{elaborate_member, nothing_yet, elaborate_program}
use Rattle.cast_rules.specs.Listed.{IsListed, AreListed, AreListedMembers, AreListedBindings, ListsItsCasts}

-- the second list begins with the first
abbrev HasMore : List Entry → List Entry → Type 0
HasMore old new = (more : List Entry) × (new ≡ old ++ more)

same : (entries : List Entry) → HasMore entries entries
same entries = ([], nothing_behind entries)
  where
    nothing_behind : (xs : List Entry) → xs ≡ xs ++ []
    nothing_behind [] = refl
    nothing_behind (x ∷ xs) = ap (λ rest. x ∷ rest) (nothing_behind xs)

grouped : (xs ys zs : List Entry) → ((xs ++ ys) ++ zs) ≡ (xs ++ (ys ++ zs))
grouped [] ys zs = refl
grouped (x ∷ xs) ys zs = ap (λ rest. x ∷ rest) (grouped xs ys zs)

more_on : (a b c : List Entry) → HasMore a b → HasMore b c → HasMore a c
more_on a b c f g = (f.0 ++ g.0, g.1 ∙ ap (λ xs. xs ++ g.0) f.1 ∙ grouped a f.0 g.0)

-- what is last of a list stands at its length in each list that begins with it
stays : (entries : List Entry) (entry : Entry) (final : List Entry) → HasMore (entries ++ entry ∷ []) final →
    slice_get final (length entries) ≡ Some entry
stays entries entry final more =
    ap (λ xs. slice_get xs (length entries)) more.1
    ∙ get_kept (entries ++ entry ∷ []) more.0 (length entries) entry (get_last entries entry (length entries) refl)

module _ (final : List Entry) where
  -- the list of casts grew, and where it has become a beginning of the last one, this holds of what was made
  abbrev Ends : {A : Type 0} → (A → Type 0) → Work → Made A → Type 0
  Ends P before (Makes a after) = HasMore before.casts after.casts × (HasMore after.casts final → P a)
  Ends P before (Refuses kind place last) = Unit {0}

  joined : {A B : Type 0} (P : A → Type 0) (Q : B → Type 0) (before mid : Work) (a : A) (made : Made B) →
      HasMore before.casts mid.casts → (HasMore mid.casts final → P a) → Ends (λ b. P a → Q b) mid made →
      Ends Q before made
  joined P Q before mid a (Makes b after) more holds h = (
    more_on before.casts mid.casts after.casts more h.0,
    λ last. h.1 last (holds (more_on mid.casts after.casts final h.0 last)),
  )
  joined P Q before mid a (Refuses kind place last) more holds h = tt

  ends_then : {A B : Type 0} (P : A → Type 0) (Q : B → Type 0) (before : Work) (made : Made A) (next : A → Making B) →
      Ends P before made → ((a : A) (mid : Work) → Ends (λ b. P a → Q b) mid (next a mid)) →
      Ends Q before (then_make made next)
  unfolding then_make
  ends_then P Q before (Makes a mid) next h k = joined P Q before mid a (next a mid) h.0 h.1 (k a mid)
  ends_then P Q before (Refuses kind place last) next h k = tt

  given : {A : Type 0} (P : A → Type 0) (a : A) (work : Work) → P a → Ends P work (give a work)
  given P a work p = (same work.casts, λ last. p)

  -- work that makes no term
  abbrev Quiet : {A : Type 0} → Work → Made A → Type 0
  Quiet before made = Ends (λ a. Unit {0}) before made

  quiet : {A : Type 0} (a : A) (work : Work) → Quiet work (Makes a work)
  quiet a work = (same work.casts, λ last. tt)

  weaker : {A : Type 0} (P Q : A → Type 0) (work : Work) (made : Made A) → ((a : A) → P a → Q a) → Ends P work made →
      Ends Q work made
  weaker P Q work (Makes a after) f h = (h.0, λ last. f a (h.1 last))
  weaker P Q work (Refuses kind place last) f h = tt

  then_quiet : {A B : Type 0} (before : Work) (made : Made A) (next : A → Making B) → Quiet before made →
      ((a : A) (mid : Work) → Quiet mid (next a mid)) → Quiet before (then_make made next)
  then_quiet before made next h k =
      ends_then (λ a. Unit {0}) (λ b. Unit {0}) before made next h (λ a mid.
      weaker (λ b. Unit {0}) (λ b. Unit {0} → Unit {0}) mid (next a mid) (λ b done other. tt) (k a mid))

  -- quiet work, and then other work
  after_quiet : {A B : Type 0} (Q : B → Type 0) (before : Work) (made : Made A) (next : A → Making B) →
      Quiet before made → ((a : A) (mid : Work) → Ends Q mid (next a mid)) → Ends Q before (then_make made next)
  after_quiet Q before made next h k =
      ends_then (λ a. Unit {0}) Q before made next h (λ a mid.
      weaker Q (λ b. Unit {0} → Q b) mid (next a mid) (λ b q other. q) (k a mid))

  quiet_form : {A : Type 0} (forming : Forming A) (work : Work) → Quiet work (form forming work)
  quiet_form forming work = (same work.casts, λ last. tt)

  quiet_test : (holds : Bool) (kind : RefusalKind) (place : Pos) (work : Work) → Quiet work (test holds kind place work)
  quiet_test true kind place work = quiet true work
  quiet_test false kind place work = tt

  quiet_not_too_large : (place : Pos) (type : ℕ) (work : Work) → Quiet work (not_too_large place type work)
  quiet_not_too_large place type work = quiet_test _ TypeTooLarge place work

  quiet_are_consistent : (place : Pos) (a b : ℕ) (work : Work) → Quiet work (are_consistent place a b work)
  quiet_are_consistent place a b work = quiet_test _ NotConsistent place work

  quiet_blend_at : (place : Pos) (a b : ℕ) (work : Work) → Quiet work (blend_at place a b work)
  quiet_blend_at place a b work =
      then_quiet work (are_consistent place a b work) _ (quiet_are_consistent place a b work)
      (λ done mid. quiet_form (blend a b) mid)

  quiet_written : (expression : TypeExpr) (work : Work) → Quiet work (written expression work)
  quiet_written expression work =
      then_quiet work (form (form_type expression) work) _ (quiet_form (form_type expression) work) (λ type mid.
      then_quiet mid (not_too_large (place_of_type expression) type mid) _
      (quiet_not_too_large (place_of_type expression) type mid) (λ done later. quiet type later))

  quiet_written_if : (expression : Option TypeExpr) (work : Work) → Quiet work (written_if expression work)
  quiet_written_if (Some expression) work =
      then_quiet work (written expression work) _ (quiet_written expression work) (λ type mid. quiet (Some type) mid)
  quiet_written_if None work = (same work.casts, λ last. tt)

  quiet_type_or_dyn : (expression : Option TypeExpr) (work : Work) → Quiet work (type_or_dyn expression work)
  quiet_type_or_dyn (Some expression) work = quiet_written expression work
  quiet_type_or_dyn None work = quiet_form (intern DynRow) work

  quiet_parameter_types : (parameters : List Param) (work : Work) → Quiet work (parameter_types parameters work)
  quiet_parameter_types [] work = (same work.casts, λ last. tt)
  quiet_parameter_types (parameter ∷ rest) work =
      then_quiet work (type_or_dyn parameter.written work) _ (quiet_type_or_dyn parameter.written work) (λ type mid.
      then_quiet mid (parameter_types rest mid) _ (quiet_parameter_types rest mid) (λ others later.
      quiet (type ∷ others) later))

  quiet_fresh : (work : Work) → Quiet work (fresh work)
  quiet_fresh work = (same work.casts, λ last. tt)

  quiet_bind_names : (place : Pos) (parameters : List Param) (types : List ℕ) (work : Work) →
      Quiet work (bind_names place parameters types work)
  quiet_bind_names place (parameter ∷ rest) (type ∷ types) work =
      then_quiet work (fresh work) _ (quiet_fresh work) (λ variable mid.
      then_quiet mid (bind_names place rest types mid) _ (quiet_bind_names place rest types mid) (λ others later.
      quiet ((parameter.name, plain place variable type) ∷ others) later))
  quiet_bind_names place _ _ work = (same work.casts, λ last. tt)

  quiet_consistent_if : (place : Pos) (type : Option ℕ) (other : ℕ) (work : Work) →
      Quiet work (consistent_if place type other work)
  quiet_consistent_if place (Some type) other work = quiet_are_consistent place type other work
  quiet_consistent_if place None other work = quiet true work

  quiet_head_of : (name : Ident) (own : Option TypeExpr) (lambda : LambdaExpr) (work : Work) →
      Quiet work (head_of name own lambda work)
  quiet_head_of name own (LambdaAt place parameters result body) work =
      then_quiet work (parameter_types parameters work) _ (quiet_parameter_types parameters work) (λ types one.
      then_quiet one (type_or_dyn result one) _ (quiet_type_or_dyn result one) (λ answer two.
      then_quiet two (written_if own two) _ (quiet_written_if own two) (λ wanted three.
      then_quiet three (form (intern (FunRow types answer)) three) _ (quiet_form (intern (FunRow types answer)) three)
      (λ type four. then_quiet four (not_too_large place type four) _ (quiet_not_too_large place type four)
      (λ done five. then_quiet five (consistent_if place wanted type five) _
      (quiet_consistent_if place wanted type five) (λ fine six. then_quiet six (fresh six) _ (quiet_fresh six)
      (λ variable seven. (same seven.casts, λ last. tt))))))))

  quiet_heads_of : (members : LetrecMembers) (work : Work) → Quiet work (heads_of members work)
  quiet_heads_of NoLetrecs work = (same work.casts, λ last. tt)
  quiet_heads_of (LetrecThen name own lambda rest) work =
      then_quiet work (head_of name own lambda work) _ (quiet_head_of name own lambda work) (λ head mid.
      then_quiet mid (heads_of rest mid) _ (quiet_heads_of rest mid) (λ others later. quiet (head ∷ others) later))

  quiet_answer_type : (answer : OperatorAnswer) (content : Option ℕ) (work : Work) →
      Quiet work (answer_type answer content work)
  quiet_answer_type (Always row) content work = quiet_form (intern row) work
  quiet_answer_type TheContent (Some content) work = quiet content work
  quiet_answer_type BoxOf (Some content) work = quiet_form (intern (RefRow content)) work
  quiet_answer_type VectorOf (Some content) work = quiet_form (intern (VectRow content)) work
  quiet_answer_type _ None work = quiet_form (intern UnitRow) work

  quiet_label_at : (place : Pos) (work : Work) → Quiet work (label_at place work)
  quiet_label_at place work = (same work.casts, λ last. tt)

  -- ---- casts

  -- a term whose casts are in the last list
  abbrev Listed : Typed → Type 0
  Listed e = IsListed final e.term

  listed_entry : (entry : Entry) (work : Work) →
      Ends (λ (place : ℕ). slice_get final place ≡ Some entry) work (list_entry entry work)
  listed_entry entry work = ((entry ∷ [], refl), λ last. stays work.casts entry final last)

  ends_cast_at : (place : Pos) (e : Typed) (type : ℕ) (work : Work) →
      Ends (λ cast. Listed e → Listed cast) work (cast_at place e type work)
  ends_cast_at place e type work =
      after_quiet (λ cast. Listed e → Listed cast) work (label_at place work) _ (quiet_label_at place work)
      (λ label mid. ends_then (λ entry. slice_get final entry ≡ Some (CastFrom label e.type type e.entry))
      (λ cast. Listed e → Listed cast) mid (list_entry (CastFrom label e.type type e.entry) mid) _
      (listed_entry (CastFrom label e.type type e.entry) mid) (λ entry later.
      given (λ (cast : Typed). slice_get final entry ≡ Some (CastFrom label e.type type e.entry) → Listed e →
      Listed cast) (record { term = Cast e.term e.type type label; type = type; entry = Some entry }) later
      (λ there listed. (listed, (entry, e.entry, there)))))

  ends_if : {A : Type 0} (P : A → Type 0) (b : Bool) (one other : Making A) (work : Work) → Ends P work (one work) →
      Ends P work (other work) → Ends P work ((if b then one else other) work)
  ends_if P true one other work h k = h
  ends_if P false one other work h k = k

  ends_cast_to : (place : Pos) (type : ℕ) (e : Typed) (work : Work) →
      Ends (λ cast. Listed e → Listed cast) work (cast_to place type e work)
  ends_cast_to place type e work =
      ends_if (λ cast. Listed e → Listed cast) (nat_eq e.type type) (give e)
      (◌>>=◌ (are_consistent place e.type type) (λ done. cast_at place e type)) work
      (given (λ cast. Listed e → Listed cast) e work (λ listed. listed))
      (after_quiet (λ cast. Listed e → Listed cast) work (are_consistent place e.type type work) _
      (quiet_are_consistent place e.type type work) (λ done mid. ends_cast_at place e type mid))

  ends_cast_if : (place : Pos) (type : Option ℕ) (e : Typed) (work : Work) →
      Ends (λ cast. Listed e → Listed cast) work (cast_if place type e work)
  ends_cast_if place (Some type) e work = ends_cast_to place type e work
  ends_cast_if place None e work = given (λ cast. Listed e → Listed cast) e work (λ listed. listed)

  ends_cast_to_row : (place : Pos) (row : TypeRow) (e : Typed) (work : Work) →
      Ends (λ cast. Listed e → Listed cast) work (cast_to_row place row e work)
  ends_cast_to_row place row e work =
      after_quiet (λ cast. Listed e → Listed cast) work (form (intern row) work) _ (quiet_form (intern row) work)
      (λ type mid. ends_cast_to place type e mid)

  ends_use_at : (place : Pos) (meaning : Option Meaning) (work : Work) → Ends Listed work (use_at place meaning work)
  ends_use_at place (Some meaning) work = use_of meaning.written
    where
      use_of : (type : Option ℕ) →
          Ends Listed work (use_as meaning.place type (typed (Var meaning.variable) meaning.type) work)
      use_of (Some type) =
          ends_if Listed (nat_eq meaning.type type) (give (typed (Var meaning.variable) meaning.type))
          (cast_at meaning.place (typed (Var meaning.variable) meaning.type) type) work
          (given Listed (typed (Var meaning.variable) meaning.type) work tt)
          (weaker (λ cast. Unit {0} → Listed cast) Listed work (cast_at meaning.place (typed (Var meaning.variable)
          meaning.type) type work) (λ cast f. f tt)
          (ends_cast_at meaning.place (typed (Var meaning.variable) meaning.type) type work))
      use_of None = given Listed (typed (Var meaning.variable) meaning.type) work tt
  ends_use_at place None work = tt

  -- ---- calls, projections and operands

  abbrev ListedTerms : Given → Type 0
  ListedTerms several = AreListed final several.terms

  ends_call_by : (place function_place : Pos) (function : Typed) (number : ℕ) (each : List ℕ → Making Terms)
      (all : Making Given) (row : Option TypeRow) (work : Work) → ((types : List ℕ) (before : Work) →
      Ends (λ terms. AreListed final terms) before (each types before)) → ((before : Work) →
      Ends ListedTerms before (all before)) →
      Ends (λ e. Listed function → Listed e) work (call_by place function_place function number each all row work)
  ends_call_by place function_place function number each all (Some (FunRow parameters answer)) work each_ends all_ends =
      ends_if (λ e. Listed function → Listed e) (nat_eq number (length parameters))
      (◌>>=◌ (each parameters) (λ arguments. give (typed (Call function.term arguments) answer)))
      (refuse WrongCount place) work
      (ends_then (λ terms. AreListed final terms) (λ e. Listed function → Listed e) work (each parameters work) _
      (each_ends parameters work) (λ arguments mid.
      given (λ (e : Typed). AreListed final arguments → Listed function → Listed e)
      (typed (Call function.term arguments) answer) mid (λ listed own. (own, listed)))) tt
  ends_call_by place function_place function number each all (Some DynRow) work each_ends all_ends =
      ends_then ListedTerms (λ e. Listed function → Listed e) work (all work) _ (all_ends work) (λ arguments one.
      after_quiet (λ e. ListedTerms arguments → Listed function → Listed e) one (form (intern DynRow) one) _
      (quiet_form (intern DynRow) one) (λ dyn two.
      after_quiet (λ e. ListedTerms arguments → Listed function → Listed e) two
      (form (intern (FunRow arguments.types dyn)) two) _ (quiet_form (intern (FunRow arguments.types dyn)) two)
      (λ whole three.
      ends_then (λ called. Listed function → Listed called) (λ e. ListedTerms arguments → Listed function → Listed e)
      three (cast_at function_place function whole three) _ (ends_cast_at function_place function whole three)
      (λ called four. given (λ (e : Typed). (Listed function → Listed called) → ListedTerms arguments →
      Listed function → Listed e) (typed (Call called.term arguments.terms) dyn) four
      (λ cast listed own. (cast own, listed))))))
  ends_call_by place function_place function number each all _ work each_ends all_ends = tt

  ends_part_by : (place : Pos) (whole : Typed) (k : ℤ) (type : Option ℕ) (work : Work) →
      Ends (λ e. Listed whole → Listed e) work (part_by place whole k type work)
  ends_part_by place whole k (Some type) work =
      given (λ (e : Typed). Listed whole → Listed e) (typed (Proj whole.term k) type) work (λ listed. listed)
  ends_part_by place whole k None work = tt

  ends_project_by : (place number_place : Pos) (whole : Typed) (k : ℤ) (row : Option TypeRow) (work : Work) →
      Ends (λ e. Listed whole → Listed e) work (project_by place number_place whole k row work)
  ends_project_by place number_place whole k (Some (TupleRow parts)) work =
      ends_part_by number_place whole k (tuple_part (TupleRow parts) k) work
  ends_project_by place number_place whole k (Some DynRow) work =
      after_quiet (λ e. Listed whole → Listed e) work (label_at place work) _ (quiet_label_at place work) (λ label mid.
      ends_then (λ entry. slice_get final entry ≡ Some (PartOf label k)) (λ e. Listed whole → Listed e) mid
      (list_entry (PartOf label k) mid) _ (listed_entry (PartOf label k) mid) (λ entry later.
      given (λ (e : Typed). slice_get final entry ≡ Some (PartOf label k) → Listed whole → Listed e)
      (typed (ProjDyn whole.term k label) whole.type) later (λ there listed. (listed, (entry, there)))))
  ends_project_by place number_place whole k _ work = tt

  abbrev HeldListed : Typed → Held → Type 0
  HeldListed e held = Listed e → Listed held.held

  ends_opened_by : (place : Pos) (e : Typed) (row : TypeRow) (work : Work) →
      Ends (HeldListed e) work (opened_by place e row work)
  ends_opened_by place e row work =
      after_quiet (HeldListed e) work (form (intern row) work) _ (quiet_form (intern row) work)
      (λ type mid. ends_then (λ cast. Listed e → Listed cast) (HeldListed e) mid (cast_at place e type mid) _
      (ends_cast_at place e type mid) (λ opened later.
      given (λ (held : Held). (Listed e → Listed opened) → HeldListed e held) (holds opened e.type) later
      (λ cast listed. cast listed)))

  ends_box_by : (place : Pos) (e : Typed) (row : Option TypeRow) (work : Work) →
      Ends (HeldListed e) work (box_by place e row work)
  ends_box_by place e (Some (RefRow content)) work = given (HeldListed e) (holds e content) work (λ listed. listed)
  ends_box_by place e (Some DynRow) work = ends_opened_by place e (RefRow e.type) work
  ends_box_by place e _ work = tt

  ends_vector_by : (place : Pos) (e : Typed) (row : Option TypeRow) (work : Work) →
      Ends (HeldListed e) work (vector_by place e row work)
  ends_vector_by place e (Some (VectRow content)) work = given (HeldListed e) (holds e content) work (λ listed. listed)
  ends_vector_by place e (Some DynRow) work = ends_opened_by place e (VectRow e.type) work
  ends_vector_by place e _ work = tt

  quiet_row_of : (type : ℕ) (work : Work) → Quiet work (row_of type work)
  quiet_row_of type work = (same work.casts, λ last. tt)

  ends_operand_by : (place : Pos) (content : Option ℕ) (e : Typed) (operand : Operand) (work : Work) →
      Ends (HeldListed e) work (operand_by place content e operand work)
  ends_operand_by place content e (As row) work =
      ends_then (λ cast. Listed e → Listed cast) (HeldListed e) work (cast_to_row place row e work) _
      (ends_cast_to_row place row e work) (λ operand mid.
      given (λ (held : Held). (Listed e → Listed operand) → HeldListed e held) (with_content content operand) mid
      (λ cast listed. cast listed))
  ends_operand_by place content e Content work = given (HeldListed e) (holds e e.type) work (λ listed. listed)
  ends_operand_by place content e Box work =
      after_quiet (HeldListed e) work (row_of e.type work) _ (quiet_row_of e.type work)
      (λ row mid. ends_box_by place e row mid)
  ends_operand_by place content e Vector work =
      after_quiet (HeldListed e) work (row_of e.type work) _ (quiet_row_of e.type work)
      (λ row mid. ends_vector_by place e row mid)
  ends_operand_by place content e AsContent work =
      ends_then (λ cast. Listed e → Listed cast) (HeldListed e) work (cast_if place content e work) _
      (ends_cast_if place content e work) (λ operand mid.
      given (λ (held : Held). (Listed e → Listed operand) → HeldListed e held) (with_content content operand) mid
      (λ cast listed. cast listed))

  -- ---- expressions

  abbrev SequenceListed : Sequence → Type 0
  SequenceListed sequence = AreListed final sequence.terms

  abbrev OperandsListed : Operands → Type 0
  OperandsListed operands = AreListed final operands.terms

  abbrev BoundListed : Bound → Type 0
  BoundListed bound = AreListedBindings final bound.bindings

  abbrev BodyListed : MemberBody → Type 0
  BodyListed member = IsListed final member.body

  mutual
    pub ends_elaborate : (expression : Expr) (environment : Environment) (work : Work) →
        Ends Listed work (elaborate expression environment work)
    ends_elaborate (ExprAt place node) environment work =
        ends_then Listed Listed work (elaborate_node node place environment work) _
        (ends_node node place environment work) (λ e mid.
        after_quiet (λ x. Listed e → Listed x) mid (not_too_large place e.type mid) _
        (quiet_not_too_large place e.type mid)
        (λ done later. given (λ (x : Typed). Listed e → Listed x) e later (λ listed. listed)))

    ends_node : (node : ExprNode) (place : Pos) (environment : Environment) (work : Work) →
        Ends Listed work (elaborate_node node place environment work)
    ends_node (IntNode n) place environment work =
        after_quiet Listed work (form (intern IntRow) work) _ (quiet_form (intern IntRow) work)
        (λ type mid. given Listed (typed (IntLit n) type) mid tt)
    ends_node (BoolNode b) place environment work =
        after_quiet Listed work (form (intern BoolRow) work) _ (quiet_form (intern BoolRow) work)
        (λ type mid. given Listed (typed (BoolLit b) type) mid tt)
    ends_node UnitNode place environment work =
        after_quiet Listed work (form (intern UnitRow) work) _ (quiet_form (intern UnitRow) work)
        (λ type mid. given Listed (typed UnitLit type) mid tt)
    ends_node (NameNode name) place environment work = ends_use_at place (meaning_of name environment) work
    ends_node (AscribeNode expression type) place environment work =
        ends_then Listed Listed work (elaborate expression environment work) _
        (ends_elaborate expression environment work) (λ e mid.
        after_quiet (λ x. Listed e → Listed x) mid (written type mid) _ (quiet_written type mid)
        (λ wanted later. ends_cast_to place wanted e later))
    ends_node (CallNode function arguments) place environment work =
        ends_then Listed Listed work (elaborate function environment work) _
        (ends_elaborate function environment work) (λ f mid.
        after_quiet (λ x. Listed f → Listed x) mid (row_of f.type mid) _ (quiet_row_of f.type mid) (λ row later.
        ends_call_by place (place_of function) f (how_many arguments) (elaborate_each arguments environment)
        (elaborate_all arguments environment) row later
        (λ types before. ends_each arguments environment types before)
        (λ before. ends_all arguments environment before)))
    ends_node (LambdaNode lambda) place environment work = ends_lambda lambda environment work
    ends_node (LetNode bindings body) place environment work =
        ends_then BoundListed Listed work (elaborate_bindings bindings environment work) _
        (ends_bindings bindings environment work) (λ bound mid.
        ends_then SequenceListed (λ e. BoundListed bound → Listed e) mid
        (elaborate_sequence body (with_names bound.entries environment) mid) _
        (ends_sequence body (with_names bound.entries environment) mid) (λ sequence later.
        given (λ (e : Typed). SequenceListed sequence → BoundListed bound → Listed e)
        (typed (Let bound.bindings (Seq sequence.terms)) sequence.type) later (λ one other. (other, one))))
    ends_node (LetrecNode members body) place environment work =
        after_quiet Listed work (heads_of members work) _ (quiet_heads_of members work) (λ heads one.
        ends_then (λ group. AreListedMembers final group) Listed one
        (elaborate_members members heads (with_names (names_of_heads heads) environment) one) _
        (ends_members members heads (with_names (names_of_heads heads) environment) one) (λ group mid.
        ends_then SequenceListed (λ e. AreListedMembers final group → Listed e) mid
        (elaborate_sequence body (with_names (names_of_heads heads) environment) mid) _
        (ends_sequence body (with_names (names_of_heads heads) environment) mid) (λ sequence later.
        given (λ (e : Typed). SequenceListed sequence → AreListedMembers final group → Listed e)
        (typed (Group group (Seq sequence.terms)) sequence.type) later (λ one other. (other, one)))))
    ends_node (IfNode condition on_true on_false) place environment work =
        ends_then Listed Listed work (elaborate condition environment work) _
        (ends_elaborate condition environment work) (λ c one.
        ends_then (λ x. Listed c → Listed x) (λ e. Listed c → Listed e) one
        (cast_to_row (place_of condition) BoolRow c one) _ (ends_cast_to_row (place_of condition) BoolRow c one)
        (λ truth two.
        ends_then Listed (λ e. (Listed c → Listed truth) → Listed c → Listed e) two
        (elaborate on_true environment two) _ (ends_elaborate on_true environment two) (λ first three.
        ends_then Listed (λ e. Listed first → (Listed c → Listed truth) → Listed c → Listed e) three
        (elaborate on_false environment three) _ (ends_elaborate on_false environment three) (λ second four.
        after_quiet (λ e. Listed second → Listed first → (Listed c → Listed truth) → Listed c → Listed e) four
        (blend_at place first.type second.type four) _ (quiet_blend_at place first.type second.type four) (λ type five.
        ends_then (λ x. Listed first → Listed x)
        (λ e. Listed second → Listed first → (Listed c → Listed truth) → Listed c → Listed e) five
        (cast_to (place_of on_true) type first five) _ (ends_cast_to (place_of on_true) type first five)
        (λ yes_term six.
        ends_then (λ x. Listed second → Listed x) (λ e. (Listed first → Listed yes_term) → Listed second →
        Listed first → (Listed c → Listed truth) → Listed c → Listed e) six
        (cast_to (place_of on_false) type second six) _ (ends_cast_to (place_of on_false) type second six)
        (λ no_term seven. given (λ (e : Typed). (Listed second → Listed no_term) → (Listed first → Listed yes_term) →
        Listed second → Listed first → (Listed c → Listed truth) → Listed c → Listed e)
        (typed (If truth.term yes_term.term no_term.term) type) seven
        (λ to_no to_yes s f to_truth own. (to_truth own, to_yes f, to_no s)))))))))
    ends_node (BeginNode body) place environment work =
        ends_then SequenceListed Listed work (elaborate_sequence body environment work) _
        (ends_sequence body environment work) (λ sequence mid.
        given (λ (e : Typed). SequenceListed sequence → Listed e) (seq sequence) mid (λ listed. listed))
    ends_node (TupleNode parts) place environment work =
        ends_then ListedTerms Listed work (elaborate_all parts environment work) _ (ends_all parts environment work)
        (λ several mid. after_quiet (λ e. ListedTerms several → Listed e) mid
        (form (intern (TupleRow several.types)) mid) _ (quiet_form (intern (TupleRow several.types)) mid)
        (λ type later. given (λ (e : Typed). ListedTerms several → Listed e) (typed (Tuple several.terms) type) later
        (λ listed. listed)))
    ends_node (ProjNode tuple k number_place) place environment work =
        ends_then Listed Listed work (elaborate tuple environment work) _ (ends_elaborate tuple environment work)
        (λ e mid. after_quiet (λ x. Listed e → Listed x) mid (row_of e.type mid) _ (quiet_row_of e.type mid)
        (λ row later. ends_project_by (place_of tuple) number_place e k row later))
    ends_node (PrimNode operator operands) place environment work =
        ends_then OperandsListed Listed work
        (elaborate_operands operands (operands_of operator) None environment work) _
        (ends_operands operands (operands_of operator) None environment work) (λ several mid.
        after_quiet (λ e. OperandsListed several → Listed e) mid
        (answer_type (answer_of operator) several.content mid) _
        (quiet_answer_type (answer_of operator) several.content mid) (λ type later.
        given (λ (e : Typed). OperandsListed several → Listed e) (typed (Prim operator several.terms) type) later
        (λ listed. listed)))

    ends_lambda : (lambda : LambdaExpr) (environment : Environment) (work : Work) →
        Ends Listed work (elaborate_lambda lambda environment work)
    ends_lambda (LambdaAt place parameters result body) environment work =
        after_quiet Listed work (parameter_types parameters work) _ (quiet_parameter_types parameters work)
        (λ types one. after_quiet Listed one (written_if result one) _ (quiet_written_if result one) (λ wanted two.
        after_quiet Listed two (bind_names place parameters types two) _ (quiet_bind_names place parameters types two)
        (λ entries three. ends_then SequenceListed Listed three
        (elaborate_sequence body (with_names entries environment) three) _
        (ends_sequence body (with_names entries environment) three) (λ inner four.
        ends_then (λ x. SequenceListed inner → Listed x) (λ e. SequenceListed inner → Listed e) four
        (cast_if (last_place place body) wanted (seq inner) four) _
        (ends_cast_if (last_place place body) wanted (seq inner) four) (λ e five.
        after_quiet (λ x. (SequenceListed inner → Listed e) → SequenceListed inner → Listed x) five
        (form (intern (FunRow types e.type)) five) _ (quiet_form (intern (FunRow types e.type)) five) (λ type six.
        given (λ (x : Typed). (SequenceListed inner → Listed e) → SequenceListed inner → Listed x)
        (typed (Lambda (variables entries) e.term type) type) six (λ cast listed. cast listed)))))))

    ends_sequence : (body : Exprs) (environment : Environment) (work : Work) →
        Ends SequenceListed work (elaborate_sequence body environment work)
    ends_sequence NoExprs environment work =
        after_quiet SequenceListed work (form (intern UnitRow) work) _ (quiet_form (intern UnitRow) work)
        (λ type mid. given SequenceListed (record { terms = NoTerms; type = type }) mid tt)
    ends_sequence (ExprThen expression NoExprs) environment work =
        ends_then Listed SequenceListed work (elaborate expression environment work) _
        (ends_elaborate expression environment work) (λ e mid.
        given (λ (s : Sequence). Listed e → SequenceListed s)
        (record { terms = TermThen e.term NoTerms; type = e.type }) mid (λ listed. (listed, tt)))
    ends_sequence (ExprThen expression (ExprThen second rest)) environment work =
        ends_then Listed SequenceListed work (elaborate expression environment work) _
        (ends_elaborate expression environment work) (λ e mid.
        ends_then SequenceListed (λ s. Listed e → SequenceListed s) mid
        (elaborate_sequence (ExprThen second rest) environment mid) _
        (ends_sequence (ExprThen second rest) environment mid) (λ others later.
        given (λ (s : Sequence). SequenceListed others → Listed e → SequenceListed s)
        (record { terms = TermThen e.term others.terms; type = others.type }) later (λ more listed. (listed, more))))

    ends_all : (expressions : Exprs) (environment : Environment) (work : Work) →
        Ends ListedTerms work (elaborate_all expressions environment work)
    ends_all NoExprs environment work = given ListedTerms (record { terms = NoTerms; types = [] }) work tt
    ends_all (ExprThen expression rest) environment work =
        ends_then Listed ListedTerms work (elaborate expression environment work) _
        (ends_elaborate expression environment work) (λ e mid.
        ends_then ListedTerms (λ s. Listed e → ListedTerms s) mid (elaborate_all rest environment mid) _
        (ends_all rest environment mid) (λ others later.
        given (λ (s : Given). ListedTerms others → Listed e → ListedTerms s)
        (record { terms = TermThen e.term others.terms; types = e.type ∷ others.types }) later
        (λ more listed. (listed, more))))

    ends_each : (expressions : Exprs) (environment : Environment) (types : List ℕ) (work : Work) →
        Ends (λ terms. AreListed final terms) work (elaborate_each expressions environment types work)
    ends_each (ExprThen expression rest) environment (wanted ∷ more) work =
        ends_then Listed (λ terms. AreListed final terms) work (elaborate expression environment work) _
        (ends_elaborate expression environment work) (λ e one.
        ends_then (λ x. Listed e → Listed x) (λ terms. Listed e → AreListed final terms) one
        (cast_to (place_of expression) wanted e one) _ (ends_cast_to (place_of expression) wanted e one)
        (λ argument mid. ends_then (λ terms. AreListed final terms)
        (λ terms. (Listed e → Listed argument) → Listed e → AreListed final terms) mid
        (elaborate_each rest environment more mid) _ (ends_each rest environment more mid) (λ others later.
        given (λ (terms : Terms). AreListed final others → (Listed e → Listed argument) → Listed e →
        AreListed final terms) (TermThen argument.term others) later
        (λ rest_listed cast own. (cast own, rest_listed)))))
    ends_each _ environment _ work = given (λ terms. AreListed final terms) NoTerms work tt

    ends_operands : (expressions : Exprs) (operands : List Operand) (content : Option ℕ) (environment : Environment)
        (work : Work) → Ends OperandsListed work (elaborate_operands expressions operands content environment work)
    ends_operands (ExprThen expression rest) (operand ∷ more) content environment work =
        ends_then Listed OperandsListed work (elaborate expression environment work) _
        (ends_elaborate expression environment work) (λ e one.
        ends_then (HeldListed e) (λ s. Listed e → OperandsListed s) one
        (operand_by (place_of expression) content e operand one) _
        (ends_operand_by (place_of expression) content e operand one) (λ held mid.
        ends_then OperandsListed (λ s. HeldListed e held → Listed e → OperandsListed s) mid
        (elaborate_operands rest more held.content environment mid) _
        (ends_operands rest more held.content environment mid) (λ others later.
        given (λ (s : Operands). OperandsListed others → HeldListed e held → Listed e → OperandsListed s)
        (record { terms = TermThen held.held.term others.terms; content = others.content }) later
        (λ rest_listed cast own. (cast own, rest_listed)))))
    ends_operands _ _ content environment work =
        given OperandsListed (record { terms = NoTerms; content = content }) work tt

    ends_bindings : (bindings : LetBindings) (environment : Environment) (work : Work) →
        Ends BoundListed work (elaborate_bindings bindings environment work)
    ends_bindings NoLets environment work =
        given BoundListed (record { bindings = NoBindings; entries = [] }) work tt
    ends_bindings (LetThen name own value rest) environment work =
        ends_then Listed BoundListed work (elaborate value environment work) _ (ends_elaborate value environment work)
        (λ e one. after_quiet (λ b. Listed e → BoundListed b) one (written_if own one) _ (quiet_written_if own one)
        (λ wanted two. ends_then (λ x. Listed e → Listed x) (λ b. Listed e → BoundListed b) two
        (cast_if (place_of value) wanted e two) _ (ends_cast_if (place_of value) wanted e two) (λ bound three.
        after_quiet (λ b. (Listed e → Listed bound) → Listed e → BoundListed b) three (fresh three) _
        (quiet_fresh three) (λ variable four.
        ends_then BoundListed (λ b. (Listed e → Listed bound) → Listed e → BoundListed b) four
        (elaborate_bindings rest environment four) _ (ends_bindings rest environment four) (λ others five.
        given (λ (b : Bound). BoundListed others → (Listed e → Listed bound) → Listed e → BoundListed b)
        (record {
          bindings = BindingThen variable bound.term others.bindings;
          entries = (name, plain (place_of value) variable bound.type) ∷ others.entries;
        }) five (λ rest_listed cast listed. (cast listed, rest_listed)))))))

    ends_members : (members : LetrecMembers) (heads : List Head) (environment : Environment) (work : Work) →
        Ends (λ group. AreListedMembers final group) work (elaborate_members members heads environment work)
    ends_members (LetrecThen name own lambda rest) (head ∷ more) environment work =
        ends_then BodyListed (λ group. AreListedMembers final group) work
        (elaborate_member lambda head environment work) _ (ends_member lambda head environment work) (λ member mid.
        ends_then (λ group. AreListedMembers final group) (λ group. BodyListed member → AreListedMembers final group)
        mid (elaborate_members rest more environment mid) _ (ends_members rest more environment mid) (λ others later.
        given (λ (group : Members). AreListedMembers final others → BodyListed member → AreListedMembers final group)
        (MemberThen head.meaning.variable member.variables member.body head.meaning.type others) later
        (λ rest_listed listed. (listed, rest_listed))))
    ends_members _ _ environment work = given (λ group. AreListedMembers final group) NoMembers work tt

    ends_member : (lambda : LambdaExpr) (head : Head) (environment : Environment) (work : Work) →
        Ends BodyListed work (elaborate_member lambda head environment work)
    ends_member (LambdaAt place parameters result body) head environment work =
        after_quiet BodyListed work (bind_names place parameters head.parameters work) _
        (quiet_bind_names place parameters head.parameters work) (λ entries one.
        ends_then SequenceListed BodyListed one (elaborate_sequence body (with_names entries environment) one) _
        (ends_sequence body (with_names entries environment) one) (λ inner mid.
        ends_then (λ x. SequenceListed inner → Listed x) (λ member. SequenceListed inner → BodyListed member) mid
        (cast_to (last_place place body) head.answer (seq inner) mid) _
        (ends_cast_to (last_place place body) head.answer (seq inner) mid) (λ e later.
        given (λ (member : MemberBody). (SequenceListed inner → Listed e) → SequenceListed inner → BodyListed member)
        (record { variables = variables entries; body = e.term }) later (λ cast listed. cast listed))))

-- ---- programs

made_lists : (e : Typed) (after : Work) (made : Made Typed) → made ≡ Makes e after →
    Ends after.casts (λ x. IsListed after.casts x.term) nothing_yet made → IsListed after.casts e.term
made_lists e after made is h =
    (subst (λ (m : Made Typed). Ends after.casts (λ x. IsListed after.casts x.term) nothing_yet m) is h).1
    (same after.casts)

pub elaborated_programs_list_their_casts : ListsItsCasts
elaborated_programs_list_their_casts program e after is =
    made_lists e after (elaborate_program program) is (ends_elaborate after.casts program [] nothing_yet)
