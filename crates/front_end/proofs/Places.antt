-- Where the elaboration puts operators, casts and parts of Dyn.
use Rattle.std.proofs.Common.{◌≡◌, ℕ, ℤ, Bool, true, false, List, [], ◌∷◌, ◌++◌, length, Option, Some, None, refl, sym}
use Rattle.std.proofs.Common.{subst, slice_get}
use Rattle.std.specs.Prelude.{nat_eq, if◌then◌else◌}
use Rattle.grift_base.specs.Types.{TypeRow, BoolRow, DynRow, FunRow, TupleRow, RefRow, VectRow, tuple_part}
use Rattle.grift_base.specs.declared.places.Pos.{Pos}
use Rattle.grift_base.specs.declared.operators.PrimOp.{PrimOp}
use Rattle.grift_base.specs.declared.refusals.RefusalKind.{RefusalKind}
use Rattle.grift_base.specs.declared.refusals.RefusalKind.TheVariants.{NotConsistent, TypeTooLarge, WrongCount}
use Rattle.type_graph.specs.Forming.{intern}
use Rattle.core_calc.specs.Terms.{Term, Terms, Members, Bindings, IntLit, BoolLit, UnitLit, Var, Lambda, Group, Let}
use Rattle.core_calc.specs.Terms.{Call}
use Rattle.core_calc.specs.Terms.{Enter, If, Seq, Cast, Proj, ProjDyn, Tuple, Prim, ValueTerm, NoTerms, TermThen}
use Rattle.core_calc.specs.Terms.{NoMembers, MemberThen, NoBindings, BindingThen}
use Rattle.core_calc.proofs.Public.{get_kept, get_last}
use Rattle.surface_trees.specs.Trees.{TypeExpr, Param, Expr, ExprNode, LambdaExpr, Exprs, LetBindings, LetrecMembers}
use Rattle.surface_trees.specs.Trees.{ExprAt, IntNode, BoolNode, UnitNode, NameNode, LambdaNode, CallNode, LetNode}
use Rattle.surface_trees.specs.Trees.{LetrecNode, IfNode, BeginNode, AscribeNode, TupleNode, ProjNode, PrimNode}
use Rattle.surface_trees.specs.Trees.{LambdaAt, NoExprs, ExprThen, NoLets, LetThen, NoLetrecs, LetrecThen}
use Rattle.cast_rules.specs.Sources.{place_of, how_many}
use Rattle.cast_rules.specs.Making.{Entry, CastFrom, PartOf, Work, Made, Makes, Refuses, Making, then_make, ◌>>=◌}
use Rattle.cast_rules.specs.Making.{give}
use Rattle.cast_rules.specs.Making.{refuse}
use Rattle.cast_rules.specs.Making.{form, row_of, fresh, label_at, list_entry, test, not_too_large, are_consistent}
use Rattle.cast_rules.specs.Making.{blend_at, Typed, typed, cast_at, cast_to, cast_if, cast_to_row, written}
use Rattle.cast_rules.specs.Making.{written_if}
use Rattle.cast_rules.specs.Environments.{Meaning, Environment, meaning_of, use_as, use_at, type_or_dyn}
use Rattle.cast_rules.specs.Environments.{parameter_types, bind_names, Head, consistent_if, head_of, heads_of}
use Rattle.cast_rules.specs.Environments.{with_names, names_of_heads}
use Rattle.cast_rules.specs.Calls.{Given, call_by, part_by, project_by}
use Rattle.cast_rules.specs.Operators.{Operand, As, Content, Box, Vector, AsContent, OperatorAnswer, Always}
use Rattle.cast_rules.specs.Operators.{TheContent}
use Rattle.cast_rules.specs.Operators.{BoxOf, VectorOf, Held, box_by, vector_by, operand_by, answer_type, operands_of}
use Rattle.cast_rules.specs.Operators.{answer_of}
use Rattle.cast_rules.specs.Elaboration.{Sequence, Bound, MemberBody, Operands, elaborate, elaborate_node}
use Rattle.cast_rules.specs.Elaboration.{elaborate_lambda, elaborate_sequence, elaborate_all, elaborate_each}
use Rattle.cast_rules.specs.Elaboration.{elaborate_operands, elaborate_bindings, elaborate_members, elaborate_member}
use Rattle.cast_rules.specs.Elaboration.{elaborate_program, nothing_yet}
use Rattle.front_end.specs.Placed.{IsPlaced, ArePlaced, AreMembersPlaced, AreBindingsPlaced, IsAllowed, IsAllowedNode}
use Rattle.front_end.specs.Placed.{IsAllowedLambda, AreAllowed, AreAllowedBindings, AreAllowedMembers, PlacesAll}

-- ---- work that goes on

-- each entry stays where it is
abbrev More : List Entry → List Entry → Type 0
More a b = (k : ℕ) (entry : Entry) → slice_get a k ≡ Some entry → slice_get b k ≡ Some entry

same : (casts : List Entry) → More casts casts
same casts k entry e = e

on : (a b c : List Entry) → More a b → More b c → More a c
on a b c f g k entry e = g k entry (f k entry e)

-- where there is an answer, entries stay, and this holds of the answer and of the entries then
abbrev Keeps : {A : Type 0} → (A → List Entry → Type 0) → List Entry → Made A → Type 0
Keeps Holds before (Makes a work) = More before work.casts × Holds a work.casts
Keeps Holds before (Refuses kind place last) = Unit {0}

abbrev Nothing : {A : Type 0} → A → List Entry → Type 0
Nothing a casts = Unit {0}

further : {B : Type 0} (Q : B → List Entry → Type 0) (a b : List Entry) (made : Made B) → More a b → Keeps Q b made
    → Keeps Q a made
further Q a b (Makes answer work) f h = (on a b work.casts f h.0, h.1)
further Q a b (Refuses kind place last) f h = tt

then_keeps : {A B : Type 0} (P : A → List Entry → Type 0) (Q : B → List Entry → Type 0) (before : List Entry)
    (made : Made A) (next : A → Making B) → Keeps P before made
    → ((a : A) (after : Work) → More before after.casts → P a after.casts → Keeps Q after.casts (next a after))
    → Keeps Q before (then_make made next)
unfolding then_make
then_keeps P Q before (Makes a after) next h k = further Q before after.casts (next a after) h.0 (k a after h.0 h.1)
then_keeps P Q before (Refuses kind place last) next h k = tt

keeps_more : {A : Type 0} (P Q : A → List Entry → Type 0) (before : List Entry) (made : Made A) → Keeps P before made
    → ((a : A) (casts : List Entry) → P a casts → Q a casts) → Keeps Q before made
keeps_more P Q before (Makes a work) h k = (h.0, k a work.casts h.1)
keeps_more P Q before (Refuses kind place last) h k = tt

-- ---- steps that list no cast

abbrev Quiet : {A : Type 0} → Making A → Type 0
Quiet making = (work : Work) → Keeps Nothing work.casts (making work)

then_quiet : {A B : Type 0} (made : Made A) (next : A → Making B) (before : List Entry) → Keeps Nothing before made
    → ((a : A) → Quiet (next a)) → Keeps Nothing before (then_make made next)
then_quiet made next before h k =
    then_keeps Nothing Nothing before made next h (λ a after more nothing. k a after)

test_quiet : (holds : Bool) (kind : RefusalKind) (place : Pos) → Quiet (test holds kind place)
test_quiet true kind place work = (same work.casts, tt)
test_quiet false kind place work = tt

sized_quiet : (place : Pos) (type : ℕ) → Quiet (not_too_large place type)
sized_quiet place type work = test_quiet _ TypeTooLarge place work

consistent_quiet : (place : Pos) (a b : ℕ) → Quiet (are_consistent place a b)
consistent_quiet place a b work = test_quiet _ NotConsistent place work

blend_quiet : (place : Pos) (a b : ℕ) → Quiet (blend_at place a b)
blend_quiet place a b work =
    then_quiet _ _ work.casts (consistent_quiet place a b work) (λ done after. (same after.casts, tt))

written_quiet : (type : TypeExpr) → Quiet (written type)
written_quiet type work =
    then_quiet _ _ work.casts (same work.casts, tt) (λ formed after.
    then_quiet _ _ after.casts (sized_quiet _ formed after) (λ done last. (same last.casts, tt)))

written_if_quiet : (type : Option TypeExpr) → Quiet (written_if type)
written_if_quiet (Some type) work =
    then_quiet _ _ work.casts (written_quiet type work) (λ done after. (same after.casts, tt))
written_if_quiet None work = (same work.casts, tt)

type_or_dyn_quiet : (type : Option TypeExpr) → Quiet (type_or_dyn type)
type_or_dyn_quiet (Some type) work = written_quiet type work
type_or_dyn_quiet None work = (same work.casts, tt)

parameters_quiet : (parameters : List Param) → Quiet (parameter_types parameters)
parameters_quiet [] work = (same work.casts, tt)
parameters_quiet (parameter ∷ rest) work =
    then_quiet _ _ work.casts (type_or_dyn_quiet parameter.written work) (λ type after.
    then_quiet _ _ after.casts (parameters_quiet rest after) (λ others last. (same last.casts, tt)))

bind_quiet : (place : Pos) (parameters : List Param) (types : List ℕ) → Quiet (bind_names place parameters types)
bind_quiet place [] types work = (same work.casts, tt)
bind_quiet place (parameter ∷ rest) [] work = (same work.casts, tt)
bind_quiet place (parameter ∷ rest) (type ∷ types) work =
    then_quiet (fresh work) _ work.casts (same work.casts, tt) (λ variable after.
    then_quiet _ _ after.casts (bind_quiet place rest types after) (λ others last. (same last.casts, tt)))

consistent_if_quiet : (place : Pos) (wanted : Option ℕ) (type : ℕ) → Quiet (consistent_if place wanted type)
consistent_if_quiet place (Some wanted) type work = consistent_quiet place wanted type work
consistent_if_quiet place None type work = (same work.casts, tt)

head_quiet : (name : _) (own : Option TypeExpr) (lambda : LambdaExpr) → Quiet (head_of name own lambda)
head_quiet name own (LambdaAt place parameters result body) work =
    then_quiet _ _ work.casts (parameters_quiet parameters work) (λ types w1.
    then_quiet _ _ w1.casts (type_or_dyn_quiet result w1) (λ answer w2.
    then_quiet _ _ w2.casts (written_if_quiet own w2) (λ wanted w3.
    then_quiet _ _ w3.casts (same w3.casts, tt) (λ type w4.
    then_quiet _ _ w4.casts (sized_quiet place type w4) (λ done w5.
    then_quiet _ _ w5.casts (consistent_if_quiet place wanted type w5) (λ done w6.
    then_quiet (fresh w6) _ w6.casts (same w6.casts, tt) (λ variable w7. (same w7.casts, tt))))))))

heads_quiet : (members : LetrecMembers) → Quiet (heads_of members)
heads_quiet NoLetrecs work = (same work.casts, tt)
heads_quiet (LetrecThen name own lambda rest) work =
    then_quiet _ _ work.casts (head_quiet name own lambda work) (λ head after.
    then_quiet _ _ after.casts (heads_quiet rest after) (λ others last. (same last.casts, tt)))

answer_quiet : (answer : OperatorAnswer) (content : Option ℕ) → Quiet (answer_type answer content)
answer_quiet (Always row) content work = (same work.casts, tt)
answer_quiet TheContent (Some content) work = (same work.casts, tt)
answer_quiet BoxOf (Some content) work = (same work.casts, tt)
answer_quiet VectorOf (Some content) work = (same work.casts, tt)
answer_quiet TheContent None work = (same work.casts, tt)
answer_quiet BoxOf None work = (same work.casts, tt)
answer_quiet VectorOf None work = (same work.casts, tt)

module _ (allowed : PrimOp → Bool) where
  abbrev Placed : List Entry → Term → Type 0
  Placed casts term = IsPlaced allowed casts term

  abbrev AllPlaced : List Entry → Terms → Type 0
  AllPlaced casts terms = ArePlaced allowed casts terms

  -- ---- terms stay placed where entries are added

  mutual
    later : (a b : List Entry) → More a b → (term : Term) → Placed a term → Placed b term
    later a b f (IntLit n) h = tt
    later a b f (BoolLit x) h = tt
    later a b f UnitLit h = tt
    later a b f (Var name) h = tt
    later a b f (Lambda parameters body type) h = later a b f body h
    later a b f (Group members body) h = (members_later a b f members h.0, later a b f body h.1)
    later a b f (Let bindings body) h = (bindings_later a b f bindings h.0, later a b f body h.1)
    later a b f (Call function arguments) h = (later a b f function h.0, all_later a b f arguments h.1)
    later a b f (Enter function arguments) h = (later a b f function h.0, all_later a b f arguments h.1)
    later a b f (If condition on_true on_false) h =
        (later a b f condition h.0, later a b f on_true h.1, later a b f on_false h.2)
    later a b f (Seq terms) h = all_later a b f terms h
    later a b f (Cast term from to label) h =
        (later a b f term h.0, (h.1.0, h.1.1, f h.1.0 (CastFrom label from to h.1.1) h.1.2))
    later a b f (Proj term k) h = later a b f term h
    later a b f (ProjDyn term k label) h = (later a b f term h.0, (h.1.0, f h.1.0 (PartOf label k) h.1.1))
    later a b f (Tuple parts) h = all_later a b f parts h
    later a b f (Prim operator operands) h = (h.0, all_later a b f operands h.1)
    later a b f (ValueTerm v) h = tt

    all_later : (a b : List Entry) → More a b → (terms : Terms) → AllPlaced a terms → AllPlaced b terms
    all_later a b f NoTerms h = tt
    all_later a b f (TermThen term rest) h = (later a b f term h.0, all_later a b f rest h.1)

    members_later : (a b : List Entry) → More a b → (members : Members) → AreMembersPlaced allowed a members
        → AreMembersPlaced allowed b members
    members_later a b f NoMembers h = tt
    members_later a b f (MemberThen name parameters body type rest) h =
        (later a b f body h.0, members_later a b f rest h.1)

    bindings_later : (a b : List Entry) → More a b → (bindings : Bindings) → AreBindingsPlaced allowed a bindings
        → AreBindingsPlaced allowed b bindings
    bindings_later a b f NoBindings h = tt
    bindings_later a b f (BindingThen name bound rest) h =
        (later a b f bound h.0, bindings_later a b f rest h.1)

  -- ---- casts

  abbrev PlacedTerm : Typed → List Entry → Type 0
  PlacedTerm e casts = Placed casts e.term

  -- the work makes a placed term
  abbrev Places : Making Typed → Type 0
  Places making = (work : Work) → Keeps PlacedTerm work.casts (making work)

  entry_listed : (casts : List Entry) (entry : Entry) → More casts (casts ++ entry ∷ [])
  entry_listed casts entry k other e = get_kept casts (entry ∷ []) k other e

  cast_places : (place : Pos) (e : Typed) (type : ℕ) (work : Work) → Placed work.casts e.term
      → Keeps PlacedTerm work.casts (cast_at place e type work)
  cast_places place e type work h =
      then_keeps Nothing PlacedTerm work.casts (label_at place work) _ (same work.casts, tt) (λ label w1 m nothing.
      let entry : Entry = CastFrom label e.type type e.entry in
      let more = entry_listed w1.casts entry in
      then_keeps (λ at casts. (at ≡ length w1.casts) × (casts ≡ w1.casts ++ entry ∷ [])) PlacedTerm w1.casts
      (list_entry entry w1) _ (more, (refl, refl)) (λ at w2 m2 is. (
        same w2.casts,
        (
          later work.casts w2.casts (on work.casts w1.casts w2.casts m m2) e.term h,
          (
            length w1.casts,
            e.entry,
            subst (λ casts. slice_get casts (length w1.casts) ≡ Some entry) (sym is.1)
                (get_last w1.casts entry (length w1.casts) refl),
          ),
        ),
      )))

  cast_to_places : (place : Pos) (type : ℕ) (e : Typed) (work : Work) → Placed work.casts e.term
      → Keeps PlacedTerm work.casts (cast_to place type e work)
  cast_to_places place type e work h = by (nat_eq e.type type)
    where
      by : (same_type : Bool) → Keeps PlacedTerm work.casts
          ((if same_type then give e else (◌>>=◌ (are_consistent place e.type type) (λ done. cast_at place e type)))
          work)
      by true = (same work.casts, h)
      by false =
          then_keeps Nothing PlacedTerm work.casts _ _ (consistent_quiet place e.type type work) (λ done after m n.
          cast_places place e type after (later work.casts after.casts m e.term h))

  cast_if_places : (place : Pos) (type : Option ℕ) (e : Typed) (work : Work) → Placed work.casts e.term
      → Keeps PlacedTerm work.casts (cast_if place type e work)
  cast_if_places place (Some type) e work h = cast_to_places place type e work h
  cast_if_places place None e work h = (same work.casts, h)

  cast_to_row_places : (place : Pos) (row : TypeRow) (e : Typed) (work : Work) → Placed work.casts e.term
      → Keeps PlacedTerm work.casts (cast_to_row place row e work)
  cast_to_row_places place row e work h =
      then_keeps Nothing PlacedTerm work.casts _ _ (same work.casts, tt) (λ type after m n.
      cast_to_places place type e after (later work.casts after.casts m e.term h))

  use_as_places : (place : Pos) (type : Option ℕ) (e : Typed) (work : Work) → Placed work.casts e.term
      → Keeps PlacedTerm work.casts (use_as place type e work)
  use_as_places place None e work h = (same work.casts, h)
  use_as_places place (Some type) e work h = by (nat_eq e.type type)
    where
      by : (same_type : Bool) → Keeps PlacedTerm work.casts
          ((if same_type then give e else cast_at place e type) work)
      by true = (same work.casts, h)
      by false = cast_places place e type work h

  use_places : (place : Pos) (meaning : Option Meaning) → Places (use_at place meaning)
  use_places place (Some meaning) work =
      use_as_places meaning.place meaning.written (typed (Var meaning.variable) meaning.type) work tt
  use_places place None work = tt

  -- ---- calls, projections and operands

  abbrev PlacedGiven : Given → List Entry → Type 0
  PlacedGiven given casts = AllPlaced casts given.terms

  abbrev PlacedTerms : Terms → List Entry → Type 0
  PlacedTerms terms casts = AllPlaced casts terms

  call_places : (place function_place : Pos) (function : Typed) (number : ℕ) (each : List ℕ → Making Terms)
      (all : Making Given) → ((types : List ℕ) (work : Work) → Keeps PlacedTerms work.casts (each types work))
      → ((work : Work) → Keeps PlacedGiven work.casts (all work)) → (row : Option TypeRow) (work : Work)
      → Placed work.casts function.term
      → Keeps PlacedTerm work.casts (call_by place function_place function number each all row work)
  call_places place function_place function number each all he ha (Some (FunRow parameters answer)) work h =
      by (nat_eq number (length parameters))
    where
      by : (same_number : Bool) → Keeps PlacedTerm work.casts
          ((if same_number then (◌>>=◌ (each parameters) (λ arguments. give (typed (Call function.term arguments)
          answer)))
          else refuse WrongCount place) work)
      by true =
          then_keeps PlacedTerms PlacedTerm work.casts _ _ (he parameters work) (λ arguments after m placed.
          (same after.casts, (later work.casts after.casts m function.term h, placed)))
      by false = tt
  call_places place function_place function number each all he ha (Some DynRow) work h =
      then_keeps PlacedGiven PlacedTerm work.casts _ _ (ha work) (λ arguments w1 m1 placed.
      then_keeps Nothing PlacedTerm w1.casts _ _ (same w1.casts, tt) (λ dyn w2 m2 n2.
      then_keeps Nothing PlacedTerm w2.casts _ _ (same w2.casts, tt) (λ whole w3 m3 n3.
      then_keeps PlacedTerm PlacedTerm w3.casts _ _
      (cast_places function_place function whole w3 (later work.casts w3.casts
      (on work.casts w1.casts w3.casts m1 (on w1.casts w2.casts w3.casts m2 m3)) function.term h))
      (λ called w4 m4 cast. (
        same w4.casts,
        (
          cast,
          all_later w1.casts w4.casts (on w1.casts w3.casts w4.casts (on w1.casts w2.casts w3.casts m2 m3) m4)
              arguments.terms placed,
        ),
      )))))
  call_places place function_place function number each all he ha _ work h = tt

  part_places : (place : Pos) (whole : Typed) (k : ℤ) (part : Option ℕ) (work : Work) → Placed work.casts whole.term
      → Keeps PlacedTerm work.casts (part_by place whole k part work)
  part_places place whole k (Some type) work h = (same work.casts, h)
  part_places place whole k None work h = tt

  project_places : (place number_place : Pos) (whole : Typed) (k : ℤ) (row : Option TypeRow) (work : Work)
      → Placed work.casts whole.term
      → Keeps PlacedTerm work.casts (project_by place number_place whole k row work)
  project_places place number_place whole k (Some (TupleRow parts)) work h =
      part_places number_place whole k (tuple_part (TupleRow parts) k) work h
  project_places place number_place whole k (Some DynRow) work h =
      then_keeps Nothing PlacedTerm work.casts (label_at place work) _ (same work.casts, tt) (λ label w1 m nothing.
      let entry : Entry = PartOf label k in
      let more = entry_listed w1.casts entry in
      then_keeps (λ at casts. (at ≡ length w1.casts) × (casts ≡ w1.casts ++ entry ∷ [])) PlacedTerm w1.casts
      (list_entry entry w1) _ (more, (refl, refl)) (λ at w2 m2 is. (
        same w2.casts,
        (
          later work.casts w2.casts (on work.casts w1.casts w2.casts m m2) whole.term h,
          (
            length w1.casts,
            subst (λ casts. slice_get casts (length w1.casts) ≡ Some entry) (sym is.1)
                (get_last w1.casts entry (length w1.casts) refl),
          ),
        ),
      )))
  project_places place number_place whole k _ work h = tt

  abbrev PlacedHeld : Held → List Entry → Type 0
  PlacedHeld one casts = Placed casts one.held.term

  -- a cast to a row that is formed first
  opened_places : (place : Pos) (e : Typed) (row : TypeRow) (content : ℕ) (work : Work) → Placed work.casts e.term
      → Keeps PlacedHeld work.casts (then_make (form (intern row) work) (λ type. ◌>>=◌ (cast_at place e type)
      (λ opened. give (record { held = opened; content = Some content }))))
  opened_places place e row content work h =
      then_keeps Nothing PlacedHeld work.casts _ _ (same work.casts, tt) (λ type w1 m1 n1.
      then_keeps PlacedTerm PlacedHeld w1.casts _ _
      (cast_places place e type w1 (later work.casts w1.casts m1 e.term h))
      (λ opened w2 m2 placed. (same w2.casts, placed)))

  box_places : (place : Pos) (e : Typed) (row : Option TypeRow) (work : Work) → Placed work.casts e.term
      → Keeps PlacedHeld work.casts (box_by place e row work)
  box_places place e (Some (RefRow content)) work h = (same work.casts, h)
  box_places place e (Some DynRow) work h = opened_places place e (RefRow e.type) e.type work h
  box_places place e _ work h = tt

  vector_places : (place : Pos) (e : Typed) (row : Option TypeRow) (work : Work) → Placed work.casts e.term
      → Keeps PlacedHeld work.casts (vector_by place e row work)
  vector_places place e (Some (VectRow content)) work h = (same work.casts, h)
  vector_places place e (Some DynRow) work h = opened_places place e (VectRow e.type) e.type work h
  vector_places place e _ work h = tt

  operand_places : (place : Pos) (content : Option ℕ) (e : Typed) (operand : Operand) (work : Work)
      → Placed work.casts e.term → Keeps PlacedHeld work.casts (operand_by place content e operand work)
  operand_places place content e (As row) work h =
      then_keeps PlacedTerm PlacedHeld work.casts _ _ (cast_to_row_places place row e work h)
      (λ one after m placed. (same after.casts, placed))
  operand_places place content e Content work h = (same work.casts, h)
  operand_places place content e Box work h =
      then_keeps Nothing PlacedHeld work.casts (row_of e.type work) _ (same work.casts, tt) (λ row after m n.
      box_places place e row after (later work.casts after.casts m e.term h))
  operand_places place content e Vector work h =
      then_keeps Nothing PlacedHeld work.casts (row_of e.type work) _ (same work.casts, tt) (λ row after m n.
      vector_places place e row after (later work.casts after.casts m e.term h))
  operand_places place content e AsContent work h =
      then_keeps PlacedTerm PlacedHeld work.casts _ _ (cast_if_places place content e work h)
      (λ one after m placed. (same after.casts, placed))

  -- ---- expressions

  abbrev PlacedSequence : Sequence → List Entry → Type 0
  PlacedSequence sequence casts = AllPlaced casts sequence.terms

  abbrev PlacedBound : Bound → List Entry → Type 0
  PlacedBound bound casts = AreBindingsPlaced allowed casts bound.bindings

  abbrev PlacedMembers : Members → List Entry → Type 0
  PlacedMembers members casts = AreMembersPlaced allowed casts members

  abbrev PlacedBody : MemberBody → List Entry → Type 0
  PlacedBody member casts = Placed casts member.body

  abbrev PlacedOperands : Operands → List Entry → Type 0
  PlacedOperands operands casts = AllPlaced casts operands.terms

  mutual
    places : (expression : Expr) → IsAllowed allowed expression → (environment : Environment)
        → Places (elaborate expression environment)
    places (ExprAt place node) fine environment work =
        then_keeps PlacedTerm PlacedTerm work.casts _ _ (node_places node fine place environment work)
        (λ e after m placed.
        then_keeps Nothing PlacedTerm after.casts _ _ (sized_quiet place e.type after) (λ done last m2 n.
        (same last.casts, later after.casts last.casts m2 e.term placed)))

    node_places : (node : ExprNode) → IsAllowedNode allowed node → (place : Pos) (environment : Environment)
        → Places (elaborate_node node place environment)
    node_places (IntNode n) fine place environment work =
        then_keeps Nothing PlacedTerm work.casts _ _ (same work.casts, tt) (λ type after m n. (same after.casts, tt))
    node_places (BoolNode b) fine place environment work =
        then_keeps Nothing PlacedTerm work.casts _ _ (same work.casts, tt) (λ type after m n. (same after.casts, tt))
    node_places UnitNode fine place environment work =
        then_keeps Nothing PlacedTerm work.casts _ _ (same work.casts, tt) (λ type after m n. (same after.casts, tt))
    node_places (NameNode name) fine place environment work = use_places place (meaning_of name environment) work
    node_places (AscribeNode expression type) fine place environment work =
        then_keeps PlacedTerm PlacedTerm work.casts _ _ (places expression fine environment work)
        (λ e w1 m1 placed.
        then_keeps Nothing PlacedTerm w1.casts _ _ (written_quiet type w1) (λ wanted w2 m2 n.
        cast_to_places place wanted e w2 (later w1.casts w2.casts m2 e.term placed)))
    node_places (CallNode function arguments) fine place environment work =
        then_keeps PlacedTerm PlacedTerm work.casts _ _ (places function fine.0 environment work)
        (λ f w1 m1 placed.
        then_keeps Nothing PlacedTerm w1.casts (row_of f.type w1) _ (same w1.casts, tt) (λ row w2 m2 n.
        call_places place (place_of function) f (how_many arguments) (elaborate_each arguments environment)
        (elaborate_all arguments environment) (λ types w. each_places arguments fine.1 environment types w)
        (λ w. all_places arguments fine.1 environment w) row w2 (later w1.casts w2.casts m2 f.term placed)))
    node_places (LambdaNode lambda) fine place environment work = lambda_places lambda fine environment work
    node_places (LetNode bindings body) fine place environment work =
        then_keeps PlacedBound PlacedTerm work.casts _ _ (bindings_places bindings fine.0 environment work)
        (λ bound w1 m1 placed.
        then_keeps PlacedSequence PlacedTerm w1.casts _ _
        (sequence_places body fine.1 (with_names bound.entries environment) w1) (λ sequence w2 m2 all.
        (same w2.casts, (bindings_later w1.casts w2.casts m2 bound.bindings placed, all))))
    node_places (LetrecNode members body) fine place environment work =
        then_keeps Nothing PlacedTerm work.casts _ _ (heads_quiet members work) (λ heads w1 m1 n.
        then_keeps PlacedMembers PlacedTerm w1.casts _ _
        (members_places members fine.0 heads (with_names (names_of_heads heads) environment) w1) (λ group w2 m2 placed.
        then_keeps PlacedSequence PlacedTerm w2.casts _ _
        (sequence_places body fine.1 (with_names (names_of_heads heads) environment) w2) (λ sequence w3 m3 all.
        (same w3.casts, (members_later w2.casts w3.casts m3 group placed, all)))))
    node_places (IfNode condition on_true on_false) fine place environment work =
        then_keeps PlacedTerm PlacedTerm work.casts _ _ (places condition fine.0 environment work) (λ c w1 m1 p1.
        then_keeps PlacedTerm PlacedTerm w1.casts _ _ (cast_to_row_places (place_of condition) BoolRow c w1 p1)
        (λ truth w2 m2 p2.
        then_keeps PlacedTerm PlacedTerm w2.casts _ _ (places on_true fine.1 environment w2) (λ first w3 m3 p3.
        then_keeps PlacedTerm PlacedTerm w3.casts _ _ (places on_false fine.2 environment w3) (λ second w4 m4 p4.
        then_keeps Nothing PlacedTerm w4.casts _ _ (blend_quiet place first.type second.type w4) (λ type w5 m5 n5.
        then_keeps PlacedTerm PlacedTerm w5.casts _ _
        (cast_to_places (place_of on_true) type first w5 (later w3.casts w5.casts
        (on w3.casts w4.casts w5.casts m4 m5) first.term p3)) (λ one w6 m6 p6.
        then_keeps PlacedTerm PlacedTerm w6.casts _ _
        (cast_to_places (place_of on_false) type second w6 (later w4.casts w6.casts
        (on w4.casts w5.casts w6.casts m5 m6) second.term p4)) (λ other w7 m7 p7.
        let m27 = on w2.casts w3.casts w7.casts m3 (on w3.casts w4.casts w7.casts m4 (on w4.casts w5.casts w7.casts m5
        (on w5.casts w6.casts w7.casts m6 m7))) in
        (same w7.casts, (later w2.casts w7.casts m27 truth.term p2, later w6.casts w7.casts m7 one.term p6, p7)))))))))
    node_places (BeginNode body) fine place environment work =
        then_keeps PlacedSequence PlacedTerm work.casts _ _ (sequence_places body fine environment work)
        (λ sequence after m all. (same after.casts, all))
    node_places (TupleNode parts) fine place environment work =
        then_keeps PlacedGiven PlacedTerm work.casts _ _ (all_places parts fine environment work) (λ given w1 m1 all.
        then_keeps Nothing PlacedTerm w1.casts _ _ (same w1.casts, tt) (λ type w2 m2 n.
        (same w2.casts, all_later w1.casts w2.casts m2 given.terms all)))
    node_places (ProjNode tuple k number_place) fine place environment work =
        then_keeps PlacedTerm PlacedTerm work.casts _ _ (places tuple fine environment work) (λ e w1 m1 placed.
        then_keeps Nothing PlacedTerm w1.casts (row_of e.type w1) _ (same w1.casts, tt) (λ row w2 m2 n.
        project_places (place_of tuple) number_place e k row w2 (later w1.casts w2.casts m2 e.term placed)))
    node_places (PrimNode operator operands) fine place environment work =
        then_keeps PlacedOperands PlacedTerm work.casts _ _
        (operands_places operands fine.1 (operands_of operator) None environment work) (λ given w1 m1 all.
        then_keeps Nothing PlacedTerm w1.casts _ _ (answer_quiet (answer_of operator) given.content w1)
        (λ type w2 m2 n. (same w2.casts, (fine.0, all_later w1.casts w2.casts m2 given.terms all))))

    lambda_places : (lambda : LambdaExpr) → IsAllowedLambda allowed lambda → (environment : Environment)
        → Places (elaborate_lambda lambda environment)
    lambda_places (LambdaAt place parameters result body) fine environment work =
        then_keeps Nothing PlacedTerm work.casts _ _ (parameters_quiet parameters work) (λ types w1 m1 n1.
        then_keeps Nothing PlacedTerm w1.casts _ _ (written_if_quiet result w1) (λ wanted w2 m2 n2.
        then_keeps Nothing PlacedTerm w2.casts _ _ (bind_quiet place parameters types w2) (λ entries w3 m3 n3.
        then_keeps PlacedSequence PlacedTerm w3.casts _ _
        (sequence_places body fine (with_names entries environment) w3) (λ inner w4 m4 all.
        then_keeps PlacedTerm PlacedTerm w4.casts _ _
        (cast_if_places _ wanted (typed (Seq inner.terms) inner.type) w4 all) (λ e w5 m5 placed.
        then_keeps Nothing PlacedTerm w5.casts _ _ (same w5.casts, tt) (λ type w6 m6 n6.
        (same w6.casts, later w5.casts w6.casts m6 e.term placed)))))))

    sequence_places : (body : Exprs) → AreAllowed allowed body → (environment : Environment) (work : Work)
        → Keeps PlacedSequence work.casts (elaborate_sequence body environment work)
    sequence_places NoExprs fine environment work =
        then_keeps Nothing PlacedSequence work.casts _ _ (same work.casts, tt) (λ type after m n. (
          same after.casts,
          tt,
        ))
    sequence_places (ExprThen expression NoExprs) fine environment work =
        then_keeps PlacedTerm PlacedSequence work.casts _ _ (places expression fine.0 environment work)
        (λ e after m placed. (same after.casts, (placed, tt)))
    sequence_places (ExprThen expression (ExprThen second rest)) fine environment work =
        then_keeps PlacedTerm PlacedSequence work.casts _ _ (places expression fine.0 environment work)
        (λ e w1 m1 placed.
        then_keeps PlacedSequence PlacedSequence w1.casts _ _
        (sequence_places (ExprThen second rest) fine.1 environment w1) (λ others w2 m2 all.
        (same w2.casts, (later w1.casts w2.casts m2 e.term placed, all))))

    all_places : (expressions : Exprs) → AreAllowed allowed expressions → (environment : Environment) (work : Work)
        → Keeps PlacedGiven work.casts (elaborate_all expressions environment work)
    all_places NoExprs fine environment work = (same work.casts, tt)
    all_places (ExprThen expression rest) fine environment work =
        then_keeps PlacedTerm PlacedGiven work.casts _ _ (places expression fine.0 environment work) (λ e w1 m1 placed.
        then_keeps PlacedGiven PlacedGiven w1.casts _ _ (all_places rest fine.1 environment w1) (λ others w2 m2 all.
        (same w2.casts, (later w1.casts w2.casts m2 e.term placed, all))))

    each_places : (expressions : Exprs) → AreAllowed allowed expressions → (environment : Environment)
        (types : List ℕ) (work : Work)
        → Keeps PlacedTerms work.casts (elaborate_each expressions environment types work)
    each_places NoExprs fine environment types work = (same work.casts, tt)
    each_places (ExprThen expression rest) fine environment [] work = (same work.casts, tt)
    each_places (ExprThen expression rest) fine environment (wanted ∷ more) work =
        then_keeps PlacedTerm PlacedTerms work.casts _ _ (places expression fine.0 environment work) (λ e w1 m1 p1.
        then_keeps PlacedTerm PlacedTerms w1.casts _ _ (cast_to_places (place_of expression) wanted e w1 p1)
        (λ argument w2 m2 p2.
        then_keeps PlacedTerms PlacedTerms w2.casts _ _ (each_places rest fine.1 environment more w2)
        (λ others w3 m3 all. (same w3.casts, (later w2.casts w3.casts m3 argument.term p2, all)))))

    operands_places : (expressions : Exprs) → AreAllowed allowed expressions → (operands : List Operand)
        (content : Option ℕ) (environment : Environment) (work : Work)
        → Keeps PlacedOperands work.casts (elaborate_operands expressions operands content environment work)
    operands_places NoExprs fine operands content environment work = (same work.casts, tt)
    operands_places (ExprThen expression rest) fine [] content environment work = (same work.casts, tt)
    operands_places (ExprThen expression rest) fine (operand ∷ more) content environment work =
        then_keeps PlacedTerm PlacedOperands work.casts _ _ (places expression fine.0 environment work) (λ e w1 m1 p1.
        then_keeps PlacedHeld PlacedOperands w1.casts _ _
        (operand_places (place_of expression) content e operand w1 p1) (λ one w2 m2 p2.
        then_keeps PlacedOperands PlacedOperands w2.casts _ _
        (operands_places rest fine.1 more one.content environment w2) (λ others w3 m3 all.
        (same w3.casts, (later w2.casts w3.casts m3 one.held.term p2, all)))))

    bindings_places : (bindings : LetBindings) → AreAllowedBindings allowed bindings → (environment : Environment)
        (work : Work) → Keeps PlacedBound work.casts (elaborate_bindings bindings environment work)
    bindings_places NoLets fine environment work = (same work.casts, tt)
    bindings_places (LetThen name own value rest) fine environment work =
        then_keeps PlacedTerm PlacedBound work.casts _ _ (places value fine.0 environment work) (λ e w1 m1 p1.
        then_keeps Nothing PlacedBound w1.casts _ _ (written_if_quiet own w1) (λ wanted w2 m2 n2.
        then_keeps PlacedTerm PlacedBound w2.casts _ _
        (cast_if_places (place_of value) wanted e w2 (later w1.casts w2.casts m2 e.term p1)) (λ bound w3 m3 p3.
        then_keeps Nothing PlacedBound w3.casts (fresh w3) _ (same w3.casts, tt) (λ variable w4 m4 n4.
        then_keeps PlacedBound PlacedBound w4.casts _ _ (bindings_places rest fine.1 environment w4)
        (λ others w5 m5 all.
        (same w5.casts, (later w3.casts w5.casts (on w3.casts w4.casts w5.casts m4 m5) bound.term p3, all)))))))

    members_places : (members : LetrecMembers) → AreAllowedMembers allowed members → (heads : List Head)
        (environment : Environment) (work : Work)
        → Keeps PlacedMembers work.casts (elaborate_members members heads environment work)
    members_places NoLetrecs fine heads environment work = (same work.casts, tt)
    members_places (LetrecThen name own lambda rest) fine [] environment work = (same work.casts, tt)
    members_places (LetrecThen name own lambda rest) fine (head ∷ more) environment work =
        then_keeps PlacedBody PlacedMembers work.casts _ _ (member_places lambda fine.0 head environment work)
        (λ member w1 m1 p1.
        then_keeps PlacedMembers PlacedMembers w1.casts _ _ (members_places rest fine.1 more environment w1)
        (λ others w2 m2 all. (same w2.casts, (later w1.casts w2.casts m2 member.body p1, all))))

    member_places : (lambda : LambdaExpr) → IsAllowedLambda allowed lambda → (head : Head)
        (environment : Environment) (work : Work)
        → Keeps PlacedBody work.casts (elaborate_member lambda head environment work)
    member_places (LambdaAt place parameters result body) fine head environment work =
        then_keeps Nothing PlacedBody work.casts _ _ (bind_quiet place parameters head.parameters work)
        (λ entries w1 m1 n1.
        then_keeps PlacedSequence PlacedBody w1.casts _ _
        (sequence_places body fine (with_names entries environment) w1) (λ inner w2 m2 all.
        then_keeps PlacedTerm PlacedBody w2.casts _ _
        (cast_to_places _ head.answer (typed (Seq inner.terms) inner.type) w2 all) (λ e w3 m3 placed.
        (same w3.casts, placed))))

-- what was made, by what holds of it
made_of : (P : Typed → List Entry → Type 0) (before : List Entry) (made : Made Typed) (e : Typed) (after : Work)
    → Keeps P before made → made ≡ Makes e after → P e after.casts
made_of P before made e after h is =
    let there : Keeps P before (Makes e after) = subst (λ m. Keeps P before m) is h in there.1

pub elaborated_programs_are_placed : PlacesAll
elaborated_programs_are_placed allowed program e after fine is =
    made_of (λ typed casts. IsPlaced allowed casts typed.term) [] (elaborate_program program) e after
    (places allowed program fine [] nothing_yet) is
