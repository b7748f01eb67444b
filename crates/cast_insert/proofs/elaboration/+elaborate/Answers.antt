use Rattle.std.proofs.Common.{rules, arith, ◌≡◌, ◌∷◌, refl, sym, ap, ◌∙◌, [], ◌++◌, subst, drop, length, List, map}
use Rattle.std.proofs.Common.{◌≤◌, ◌<◌, ◌-◌, ℕ, Option, get_or, take, take_all, Bool, true, false, suc}
use Rattle.core_calc.specs.Terms.{Binding, Member, Members, MemberThen, NoMembers, Term, member_list, NoTerms, Terms}
use Rattle.core_calc.specs.Terms.{term_list, binding_list}
use Rattle.core_calc.specs.Views.{term_of, terms_of, bindings_of, members_of}
use Rattle.surface_trees.specs.Trees.{LambdaExpr, LetrecMembers, TypeExpr, Expr, Exprs, NoExprs, ExprThen, IfNode}
use Rattle.surface_trees.specs.Trees.{LetThen, LetrecThen, AscribeNode, CallNode, LetNode, LetrecNode, BeginNode}
use Rattle.surface_trees.specs.Trees.{PrimNode, TupleNode}
use Rattle.cast_insert.specs.declared.heads.Head.{Head as RustHead}
use Rattle.cast_insert.specs.Bodies.{body_of, bound_of, bound_value}
use Rattle.cast_insert.specs.Bodies.{gathered_of, sequence_of}
use Rattle.cast_rules.specs.Elaboration.{Bound, MemberBody, Operands, Sequence, elaborate_bindings, elaborate_member}
use Rattle.cast_rules.specs.Elaboration.{elaborate_members, elaborate, elaborate_sequence, elaborate_node}
use Rattle.cast_rules.specs.Elaboration.{elaborate_each, elaborate_operands}
use Rattle.cast_rules.specs.Environments.{Environment, Head, plain}
use Rattle.cast_insert.specs.Heads.{head_seen, heads_seen}
use Rattle.cast_rules.specs.Making.{Work, Makes, Made, Refuses, Typed, then_make}
use Rattle.cast_insert.proofs.Loops.{bound_behind, made_as_twice, members_behind, members_done, members_refused}
use Rattle.cast_insert.proofs.Loops.{sequence_behind, sequence_refused, sequence_last, sequence_more}
use Rattle.cast_insert.proofs.Loops.{bindings_more, if_first, if_second, if_joined}
use Rattle.cast_insert.proofs.Loops.{bindings_refused, bindings_done}
use Rattle.cast_insert.proofs.Loops.{members_none}
use Rattle.surface_trees.specs.Views.{expr_of, exprs_of, lambda_of, lets_of, letrecs_of, written_of, type_of}
use Rattle.surface_trees.specs.declared.exprs.ExprList.{the_lemmas as list_lemmas}
use Rattle.insert_steps.specs.Seen.{held_of, operand_seen}
use Rattle.insert_steps.specs.declared.operands.Operand.{Operand}
use Rattle.type_graph.specs.Rows.{places_of}
use Rattle.insert_steps.specs.Gathered.{given_of}
use Rattle.cast_rules.specs.Calls.{Given}
use Rattle.grift_base.specs.declared.places.TypeId.{TypeId}
use Rattle.insert_steps.specs.Views.{typed_of, work_of, meaning_seen, place_if, Answers}
use Rattle.cast_rules.specs.Programs.{AreSources, IsSourceBody, AreSourceBindings, AreSourceMembers, IsSourceNode}
use Rattle.cast_rules.specs.Programs.{IsSource, IsSourceLambda}
use Rattle.std.proofs.lemmas.Result.{IfOk-equal}
use Rattle.cast_rules.proofs.Public.{body_first, body_rest, grows_last, grows_on, grows_same, may_part_later, no_parts}
use Rattle.cast_rules.proofs.Public.{on_ok, part_later, parts_later, parts_then}
use Rattle.std.proofs.lemmas.List.{map-append, length-map}
use Rattle.surface_trees.specs.declared.names.Ident.{Ident}
use Rattle.surface_trees.specs.declared.exprs.Binding.{the_lemmas as one_binding_lemmas}
use Rattle.surface_trees.specs.declared.exprs.Bindings.{the_lemmas as binding_lemmas}
use Rattle.surface_trees.specs.declared.exprs.Member.{out-Member}
use Rattle.surface_trees.specs.declared.exprs.Members.{the_lemmas as member_lemmas}
use Rattle.insert_steps.specs.declared.names.Named.{Named}
use Rattle.cast_rules.specs.Sources.{place_of, how_many}
use Rattle.insert_steps.specs.Scoped.{env_of}
use Rattle.cast_insert.proofs.Bodies.{heads_left, names_left}
use Rattle.std.specs.Prelude.{nat_eq}
use Rattle.surface_trees.specs.declared.exprs.ExprNode.{the_lemmas as node_lemmas}
use Rattle.surface_trees.specs.declared.exprs.LambdaExpr.{the_lemmas as lambda_lemmas}
use Rattle.insert_steps.specs.declared.operands.Operand.TheVariants.{Int as IntOperand}
use Rattle.cast_rules.specs.Room.{AreParts}
use Rattle.surface_trees.specs.declared.exprs.Expr.{the_lemmas as expr_lemmas}
use Rattle.surface_trees.specs.Views.{name_of_binding, type_of_binding, value_of_binding}
use Rattle.cast_insert.proofs.elaboration.+elaborate.Goals as goal
use Rattle.insert_steps.specs.Onto.{bindings_onto, members_onto, terms_onto}
use Rattle.insert_steps.proofs.Public.{failed_as, failed_first, first_split, made_first, made_then}

pub in_order-inside-requires : goal.in_order-inside-requires
in_order-inside-requires t c =
    let source : IsSourceBody (ExprThen (expr_of c.in-Cons.first.value) (exprs_of c.in-Cons.rest.value)) =
    (rw c.in-Cons.is at c.loop-left.invariant.source) in (
      search (rules, list_lemmas, c.decreases, c.loop-left.invariant.smaller),
      body_first (expr_of c.in-Cons.first.value) (exprs_of c.in-Cons.rest.value) source,
    )

pub in_order-returns-in_err-e-clause-answer : goal.in_order-returns-in_err-e-clause-answer
in_order-returns-in_err-e-clause-answer t c =
    let whole = elaborate_sequence (exprs_of c.args.list.now) c.args.scopes.now (work_of c.args.progress.now) in
    failed_as c.in_err-e.field-0.0 typed_of sequence_of c.from_residual-in_err-e.result
    (work_of c.inside.new.progress)
    (elaborate (expr_of c.in-Cons.first.value) c.args.scopes.now (work_of c.loop-left.progress)) whole
    (search rules)
    (rw c.loop-left.invariant.scopes at c.in_err-e.ensures.answer)
    (λ kind place last refused. sequence_refused (term_list (terms_of c.loop-left.terms))
    (expr_of c.in-Cons.first.value) (exprs_of c.in-Cons.rest.value) c.args.scopes.now (work_of c.loop-left.progress)
    whole kind place last refused
    (rw c.in-Cons.is at c.loop-left.invariant.made))

pub in_order-returns-in-Nil-clause-answer : goal.in_order-returns-in-Nil-clause-answer
in_order-returns-in-Nil-clause-answer t c =
    let none : exprs_of c.in-Cons.rest.value ≡ NoExprs = ap exprs_of (sym c.deref.ensures ∙ c.in-Nil.is) in
    let done = term_list (terms_of c.loop-left.terms) in
    let terms : terms_of c.turned-in-Nil.result ≡ terms_onto (term_of c.in_ok-e.e.core.value ∷ done) NoTerms =
    c.turned-in-Nil.ensures ∙ ap (λ xs. terms_onto xs NoTerms) c.in_ok-push_term.ensures in
    sequence_last done (typed_of c.in_ok-e.e) (expr_of c.in-Cons.first.value) c.args.scopes.now
    (work_of c.loop-left.progress) (work_of c.inside.new.progress) _
    (rw c.loop-left.invariant.scopes at c.in_ok-e.ensures.answer)
    (rw none at (rw c.in-Cons.is at c.loop-left.invariant.made))
    ∙ ap (λ terms. Makes (record { terms = terms; type = c.in_ok-e.e.ty.0 }) (work_of c.inside.new.progress))
    (sym terms)

pub in_order-loop-left-preserved : goal.in_order-loop-left-preserved
in_order-loop-left-preserved t c =
    let second = c.in_default-deref.field-0.value in
    let others = c.in_default-deref.field-1.value in
    let more : exprs_of c.in-Cons.rest.value ≡ ExprThen (expr_of second) (exprs_of others) =
    ap exprs_of (sym c.deref.ensures ∙ c.in_default-deref.is) in
    let done = term_list (terms_of c.loop-left.terms) in
    let step = sequence_more done (typed_of c.in_ok-e.e) (expr_of c.in-Cons.first.value) (expr_of second)
    (exprs_of others) c.args.scopes.now (work_of c.loop-left.progress) (work_of c.inside.new.progress) _
    (rw c.loop-left.invariant.scopes at c.in_ok-e.ensures.answer)
    (rw more at (rw c.in-Cons.is at c.loop-left.invariant.made)) in
    let source : IsSourceBody (ExprThen (expr_of c.in-Cons.first.value) (exprs_of c.in-Cons.rest.value)) =
    (rw c.in-Cons.is at c.loop-left.invariant.source) in
    record {
      made = rw (c.in_ok-push_term.ensures, c.deref-left.ensures, more) step;
      scopes = c.in_ok-e.ensures.scopes ∙ c.loop-left.invariant.scopes;
      smaller = search (rules, list_lemmas);
      source = rw (c.deref-left.ensures, more)
          (body_rest (expr_of c.in-Cons.first.value) (expr_of second) (exprs_of others) (rw more at source));
      grows = grows_on c.args.progress.now.types c.loop-left.progress.types c.inside.new.progress.types
          c.loop-left.invariant.grows c.in_ok-e.ensures.grows;
    }

pub bindings-loop-left-preserved : goal.bindings-loop-left-preserved
bindings-loop-left-preserved t c =
    let binding = c.in-Cons.first.value in
    let value = value_of_binding binding in
    let names = c.loop-left.names.items in
    let variable = c.in_ok-variable.variable.0 in
    let bound = typed_of c.in_ok-bound.bound in
    let named : env_of c.push.new.names.items
    ≡ env_of names ++ (name_of_binding binding, plain (place_of value) variable bound.type) ∷ [] =
    ap env_of c.in_ok-push.ensures
    ∙ map-append (λ (n : Named). (n.name, meaning_seen n.meaning)) names (c.in_ok-named.named ∷ [])
    ∙ ap (λ entries. env_of names ++ entries) c.in_ok-named.ensures in
    let step = bindings_more (binding_list (bindings_of c.loop-left.done)) (env_of names) (name_of_binding binding)
    (type_of_binding binding) value (lets_of c.in-Cons.rest.value) c.args.scopes.now bound variable
    (work_of c.loop-left.progress) (work_of c.bound_value.new.progress) (work_of c.fresh.new.self) _
    (rw c.loop-left.invariant.scopes at c.in_ok-bound.ensures.answer)
    c.in_ok-variable.ensures.made
    (rw c.in-Cons.is at c.loop-left.invariant.made) in
    let source : AreSourceBindings (LetThen (name_of_binding binding) (type_of_binding binding) value
    (lets_of c.in-Cons.rest.value)) = (rw c.in-Cons.is at c.loop-left.invariant.source) in
    record {
      made = rw (c.in_ok-push_binding.ensures, named, c.deref-left.ensures) step;
      scopes = c.in_ok-bound.ensures.scopes ∙ c.loop-left.invariant.scopes;
      smaller = search (rules, binding_lemmas);
      source = rw c.deref-left.ensures source.2;
      grows = grows_on c.args.progress.now.types c.loop-left.progress.types c.fresh.new.self.types
          c.loop-left.invariant.grows
          (grows_on c.loop-left.progress.types c.bound_value.new.progress.types c.fresh.new.self.types
          c.in_ok-bound.ensures.grows c.in_ok-variable.ensures.grows);
    }

-- a member, and those behind it
members_more : (done : List Member) (name : Ident) (own : Option TypeExpr) (lambda : LambdaExpr) (rest : LetrecMembers)
    (head : Head) (heads : List Head) (environment : Environment) (member : MemberBody) (work next : Work)
    (whole : Made Members) → elaborate_member lambda head environment work ≡ Makes member next →
    members_behind done (elaborate_members (LetrecThen name own lambda rest) (head ∷ heads) environment work) ≡ whole →
    members_behind (record {
      name = head.meaning.variable;
      parameters = member.variables;
      body = member.body;
      type = head.meaning.type;
    } ∷ done) (elaborate_members rest heads environment next) ≡ whole
unfolding then_make
members_more done name own lambda rest head heads environment member work next whole made so_far =
    sym (made_as_twice (members_onto done)
    (λ others. MemberThen head.meaning.variable member.variables member.body head.meaning.type others)
    (elaborate_members rest heads environment next))
    ∙ sym (ap (λ m. members_behind done (then_make m (λ (member : MemberBody) work.
    then_make (elaborate_members rest heads environment work) (λ others work.
    Makes (MemberThen head.meaning.variable member.variables member.body head.meaning.type others) work)))) made)
    ∙ so_far

pub members-loop-left-preserved : goal.members-loop-left-preserved
members-loop-left-preserved t c =
    let member = out-Member c.in-Cons.first.value in
    let source : AreSourceMembers (LetrecThen member.name (written_of member.ty) (lambda_of member.fun)
    (letrecs_of c.in-Cons.rest.value)) = (rw c.in-Cons.is at c.loop-left.invariant.source) in
    let done = member_list (members_of c.loop-left.done) in
    let head = head_seen c.head-item.result in
    let heads = c.loop-left.heads_left.now in
    record {
      made = rw (c.in_ok-push_member.ensures, c.deref-left.ensures)
          (members_more done member.name (written_of member.ty) (lambda_of member.fun)
          (letrecs_of c.in-Cons.rest.value) head (heads_seen (take (length heads - 1) (drop 1 heads))) c.args.scopes.now
          (body_of c.in_ok-member.member) (work_of c.loop-left.progress) (work_of c.member.new.progress) _
          (rw (c.deref.ensures, c.loop-left.invariant.scopes) at c.in_ok-member.ensures.answer)
          (subst (λ (hs : List RustHead). members_behind done (elaborate_members (LetrecThen member.name
          (written_of member.ty) (lambda_of member.fun) (letrecs_of c.in-Cons.rest.value)) (heads_seen hs)
          c.args.scopes.now (work_of c.loop-left.progress))
          ≡ elaborate_members (letrecs_of c.args.list.now) (heads_seen c.args.heads.now) c.args.scopes.now
          (work_of c.args.progress.now))
          (first_split heads c.head-item.result c.in-len1-up.len_at_least c.head-item.is)
          (rw c.in-Cons.is at c.loop-left.invariant.made)));
      scopes = c.in_ok-member.ensures.scopes ∙ c.loop-left.invariant.scopes;
      smaller = search (rules, member_lemmas);
      source = rw c.deref-left.ensures source.2;
      grows = grows_on c.args.progress.now.types c.loop-left.progress.types c.member.new.progress.types
          c.loop-left.invariant.grows c.in_ok-member.ensures.grows;
    }

pub members-returns-in_err-member-clause-answer : goal.members-returns-in_err-member-clause-answer
members-returns-in_err-member-clause-answer t c =
    let member = out-Member c.in-Cons.first.value in
    let done = member_list (members_of c.loop-left.done) in
    let heads = c.loop-left.heads_left.now in
    failed_as c.in_err-member.field-0.0 body_of members_of _ _ (elaborate_member (lambda_of member.fun)
    (head_seen c.head-item.result) c.args.scopes.now (work_of c.loop-left.progress)) _ (search rules)
    (rw (c.deref.ensures, c.loop-left.invariant.scopes) at c.in_err-member.ensures.answer)
    (λ kind place last refused. members_refused done member.name (written_of member.ty) (lambda_of member.fun)
    (letrecs_of c.in-Cons.rest.value) (head_seen c.head-item.result)
    (heads_seen (take (length heads - 1) (drop 1 heads))) c.args.scopes.now (work_of c.loop-left.progress) _ kind place
    last refused
    (subst (λ (hs : List RustHead). members_behind done (elaborate_members (LetrecThen member.name
    (written_of member.ty) (lambda_of member.fun) (letrecs_of c.in-Cons.rest.value)) (heads_seen hs)
    c.args.scopes.now (work_of c.loop-left.progress))
    ≡ elaborate_members (letrecs_of c.args.list.now) (heads_seen c.args.heads.now) c.args.scopes.now
    (work_of c.args.progress.now))
    (first_split heads c.head-item.result c.in-len1-up.len_at_least c.head-item.is)
    (rw c.in-Cons.is at c.loop-left.invariant.made)))

pub if_form-returns-in_err-first-clause-answer : goal.if_form-returns-in_err-first-clause-answer
if_form-returns-in_err-first-clause-answer t c =
    let condition = expr_of c.in-If.condition.value in
    let on_true = expr_of c.in-If.on_true.value in
    let on_false = expr_of c.in-If.on_false.value in
    let env = c.args.scopes.now in
    rw c.in-If.is (failed_as c.in_err-first.field-0.0 typed_of typed_of c.from_residual-in_err-first.result
    (work_of c.inside-2.new.progress) (elaborate on_true env (work_of c.cast_to_row.new.self))
    (elaborate_node (IfNode condition on_true on_false) c.args.pos env (work_of c.args.progress.now))
    (search rules)
    (rw c.in_ok-test.ensures.scopes at c.in_err-first.ensures.answer)
    (λ kind at last refused. if_first condition on_true on_false c.args.pos env (typed_of c.in_ok-test.test)
    (typed_of c.in_ok-truth.truth) (work_of c.args.progress.now) (work_of c.inside.new.progress)
    (work_of c.cast_to_row.new.self) kind at last c.in_ok-test.ensures.answer
    (rw c.place.ensures at c.in_ok-truth.ensures.answer) refused))

pub if_form-returns-in_err-second-clause-answer : goal.if_form-returns-in_err-second-clause-answer
if_form-returns-in_err-second-clause-answer t c =
    let condition = expr_of c.in-If.condition.value in
    let on_true = expr_of c.in-If.on_true.value in
    let on_false = expr_of c.in-If.on_false.value in
    let env = c.args.scopes.now in
    rw c.in-If.is (failed_as c.in_err-second.field-0.0 typed_of typed_of c.from_residual-in_err-second.result
    (work_of c.inside-3.new.progress) (elaborate on_false env (work_of c.inside-2.new.progress))
    (elaborate_node (IfNode condition on_true on_false) c.args.pos env (work_of c.args.progress.now))
    (search rules)
    (rw (c.in_ok-first.ensures.scopes, c.in_ok-test.ensures.scopes)
    at c.in_err-second.ensures.answer)
    (λ kind at last refused. if_second condition on_true on_false c.args.pos env (typed_of c.in_ok-test.test)
    (typed_of c.in_ok-truth.truth) (typed_of c.in_ok-first.first) (work_of c.args.progress.now)
    (work_of c.inside.new.progress) (work_of c.cast_to_row.new.self) (work_of c.inside-2.new.progress)
    kind at last c.in_ok-test.ensures.answer (rw c.place.ensures at
    c.in_ok-truth.ensures.answer)
    (rw c.in_ok-test.ensures.scopes at c.in_ok-first.ensures.answer) refused))

pub if_form-returns-clause-answer : goal.if_form-returns-clause-answer
if_form-returns-clause-answer t c =
    let condition = expr_of c.in-If.condition.value in
    let on_true = expr_of c.in-If.on_true.value in
    let on_false = expr_of c.in-If.on_false.value in
    let env = c.args.scopes.now in
    rw c.in-If.is (subst (λ (m : Made Typed). Answers c.joined.result typed_of (work_of c.joined.new.progress) m)
    (sym (if_joined condition on_true on_false c.args.pos env (typed_of c.in_ok-test.test)
    (typed_of c.in_ok-truth.truth) (typed_of c.in_ok-first.first) (typed_of c.in_ok-second.second)
    (work_of c.args.progress.now) (work_of c.inside.new.progress) (work_of c.cast_to_row.new.self)
    (work_of c.inside-2.new.progress) (work_of c.inside-3.new.progress)
    c.in_ok-test.ensures.answer (rw c.place.ensures at c.in_ok-truth.ensures.answer)
    (rw c.in_ok-test.ensures.scopes at c.in_ok-first.ensures.answer)
    (rw (c.in_ok-first.ensures.scopes, c.in_ok-test.ensures.scopes)
    at c.in_ok-second.ensures.answer)))
    (rw (c.place-2.ensures, c.place-3.ensures) at c.joined.ensures.answer))

-- the forms whose place nothing asks for

pub node-returns-in-Begin-clause-answer : goal.node-returns-in-Begin-clause-answer
node-returns-in-Begin-clause-answer t c = rw c.in-Begin.is (c.begin_form.ensures.answer c.args.pos)

pub node-returns-in-Tuple-clause-answer : goal.node-returns-in-Tuple-clause-answer
node-returns-in-Tuple-clause-answer t c = rw c.in-Tuple.is (c.tuple_form.ensures.answer c.args.pos)

pub node-returns-in-Prim-clause-answer : goal.node-returns-in-Prim-clause-answer
node-returns-in-Prim-clause-answer t c = rw c.in-Prim.is (c.operation.ensures.answer c.args.pos)

pub tuple_form-returns-clause-grows : goal.tuple_form-returns-clause-grows
tuple_form-returns-clause-grows t c =
    grows_last c.tuple.result c.args.progress.now.types c.all.new.progress.types c.tuple.new.progress.types
    c.in_ok-given.ensures.grows c.tuple.ensures.grows

-- ---- forms of several steps: the first that fails, and the last

pub ascribed-returns-in_err-e-clause-answer : goal.ascribed-returns-in_err-e-clause-answer
ascribed-returns-in_err-e-clause-answer t c =
    failed_first c.in_err-e.field-0.0 typed_of typed_of _ _ _ _ (search rules) c.in_err-e.ensures.answer

pub ascribed-returns-in_err-ty-clause-answer : goal.ascribed-returns-in_err-ty-clause-answer
ascribed-returns-in_err-ty-clause-answer t c =
    made_first typed_of _ _ _ _ _ _ c.in_ok-e.ensures.answer
    (failed_first c.in_err-ty.field-0.0 (λ (ty : TypeId). ty.0) typed_of _ _ _ _ (search rules)
    c.in_err-ty.ensures.answer)

pub ascribed-returns-clause-answer : goal.ascribed-returns-clause-answer
ascribed-returns-clause-answer t c =
    made_first typed_of _ _ _ _ _ _ c.in_ok-e.ensures.answer
    (made_first typed_of _ _ _ _ _ _ c.in_ok-ty.ensures.answer c.cast_to.ensures.answer)

pub begin_form-returns-in_err-done-clause-answer : goal.begin_form-returns-in_err-done-clause-answer
begin_form-returns-in_err-done-clause-answer t c = λ place.
    failed_first c.in_err-done.field-0.0 sequence_of typed_of _ _ _ _ (search rules) c.in_err-done.ensures.answer

pub tuple_form-returns-in_err-given-clause-answer : goal.tuple_form-returns-in_err-given-clause-answer
tuple_form-returns-in_err-given-clause-answer t c = λ place.
    failed_first c.in_err-given.field-0.0 given_of typed_of _ _ _ _ (search rules) c.in_err-given.ensures.answer

pub tuple_form-returns-clause-answer : goal.tuple_form-returns-clause-answer
tuple_form-returns-clause-answer t c = λ place.
    made_first typed_of _ _ _ _ _ _ c.in_ok-given.ensures.answer c.tuple.ensures.answer

pub operation-returns-in_err-given-clause-answer : goal.operation-returns-in_err-given-clause-answer
operation-returns-in_err-given-clause-answer t c = λ place.
    failed_first c.in_err-given.field-0.0 gathered_of typed_of _ _ _ _ (search rules)
    (rw c.operands_of-wanted.ensures at c.in_err-given.ensures.answer)

pub operation-returns-clause-answer : goal.operation-returns-clause-answer
operation-returns-clause-answer t c = λ place.
    made_first typed_of _ _ _ _ _ _ (rw c.operands_of-wanted.ensures at c.in_ok-given.ensures.answer)
    c.operated.ensures.answer

pub lambda_body-returns-in_err-done-clause-answer : goal.lambda_body-returns-in_err-done-clause-answer
lambda_body-returns-in_err-done-clause-answer t c =
    failed_first c.in_err-done.field-0.0 sequence_of typed_of _ _ _ _ (search rules) c.in_err-done.ensures.answer

pub lambda_body-returns-clause-answer : goal.lambda_body-returns-clause-answer
lambda_body-returns-clause-answer t c =
    made_first typed_of _ _ _ _ _ _ c.in_ok-done.ensures.answer (rw c.last_pos.ensures at c.closed.ensures.answer)

pub let_form-returns-in_err-bound-clause-answer : goal.let_form-returns-in_err-bound-clause-answer
let_form-returns-in_err-bound-clause-answer t c = λ place.
    rw c.in-Let.is (failed_first c.in_err-bound.field-0.0 bound_of typed_of _ _ _ _ (search rules)
    c.in_err-bound.ensures.answer)

pub let_form-returns-in_err-done-clause-answer : goal.let_form-returns-in_err-done-clause-answer
let_form-returns-in_err-done-clause-answer t c = λ place.
    rw c.in-Let.is (made_first typed_of _ _ _ _ _ _ c.in_ok-bound.ensures.answer
    (failed_first c.in_err-done.field-0.0 sequence_of typed_of _ _ _ _ (search rules)
    (rw (c.as_slice.ensures.value, c.in_ok-bound.ensures.scopes) at c.in_err-done.ensures.answer)))

pub all-returns-in_err-e-clause-answer : goal.all-returns-in_err-e-clause-answer
all-returns-in_err-e-clause-answer t c =
    rw c.in-Cons.is (failed_first c.in_err-e.field-0.0 typed_of given_of _ _ _ _ (search rules)
    c.in_err-e.ensures.answer)

pub all-returns-in_err-given-clause-answer : goal.all-returns-in_err-given-clause-answer
all-returns-in_err-given-clause-answer t c =
    rw c.in-Cons.is (made_first given_of _ _ _ _ _ _ c.in_ok-e.ensures.answer
    (failed_first c.in_err-given.field-0.0 given_of given_of _ _ _ _ (search rules)
    (rw (c.deref.ensures, c.in_ok-e.ensures.scopes) at c.in_err-given.ensures.answer)))

pub all-returns-clause-answer : goal.all-returns-clause-answer
all-returns-clause-answer t c =
    rw c.in-Cons.is (made_then _ _ _ _ _ c.in_ok-e.ensures.answer
    (made_then _ _ _ _ _ (rw (c.deref.ensures, c.in_ok-e.ensures.scopes) at c.in_ok-given.ensures.answer)
    (ap (λ (given : Given). Makes given (work_of c.all.new.progress)) (sym c.in_ok-given_first.ensures))))

pub if_form-returns-in_err-test-clause-answer : goal.if_form-returns-in_err-test-clause-answer
if_form-returns-in_err-test-clause-answer t c =
    rw c.in-If.is (failed_first c.in_err-test.field-0.0 typed_of typed_of _ _ _ _ (search rules)
    c.in_err-test.ensures.answer)

pub if_form-returns-in_err-truth-clause-answer : goal.if_form-returns-in_err-truth-clause-answer
if_form-returns-in_err-truth-clause-answer t c =
    rw c.in-If.is (made_first typed_of _ _ _ _ _ _ c.in_ok-test.ensures.answer
    (failed_first c.in_err-truth.field-0.0 typed_of typed_of _ _ _ _ (search rules)
    (rw c.place.ensures at c.in_err-truth.ensures.answer)))

-- ---- an expression, and its node

pub elaborate-returns-in_err-typed-clause-answer : goal.elaborate-returns-in_err-typed-clause-answer
elaborate-returns-in_err-typed-clause-answer t c =
    failed_first c.in_err-typed.field-0.0 typed_of typed_of _ _ _ _ (search rules) c.in_err-typed.ensures.answer

pub elaborate-returns-in_err-not_too_large-clause-answer : goal.elaborate-returns-in_err-not_too_large-clause-answer
elaborate-returns-in_err-not_too_large-clause-answer t c =
    made_first typed_of _ _ _ _ _ _ c.in_ok-typed.ensures.answer
    (failed_first c.in_err-not_too_large.field-0.0 _ typed_of _ _ _ _ (search rules)
    c.in_err-not_too_large.ensures.answer)

pub elaborate-returns-clause-answer : goal.elaborate-returns-clause-answer
elaborate-returns-clause-answer t c =
    made_then _ _ _ _ _ c.in_ok-typed.ensures.answer (made_then _ _ _ _ _ c.in_ok-not_too_large.ensures.answer refl)

pub node-returns-in-Bool-clause-answer : goal.node-returns-in-Bool-clause-answer
node-returns-in-Bool-clause-answer t c = rw c.in-Bool.is c.literal-in-Bool.ensures.answer

pub node-returns-in-Unit-clause-answer : goal.node-returns-in-Unit-clause-answer
node-returns-in-Unit-clause-answer t c = rw c.in-Unit.is c.literal-in-Unit.ensures.answer

pub node-returns-in-Name-clause-answer : goal.node-returns-in-Name-clause-answer
node-returns-in-Name-clause-answer t c = rw c.in-Name.is (rw c.find.ensures at c.used.ensures.answer)

pub node-returns-in-Lambda-clause-answer : goal.node-returns-in-Lambda-clause-answer
node-returns-in-Lambda-clause-answer t c = rw c.in-Lambda.is c.lambda.ensures.answer

pub node-returns-in-Let-clause-answer : goal.node-returns-in-Let-clause-answer
node-returns-in-Let-clause-answer t c = c.let_form.ensures.answer c.args.pos

pub node-returns-in-Letrec-clause-answer : goal.node-returns-in-Letrec-clause-answer
node-returns-in-Letrec-clause-answer t c = c.letrec_form.ensures.answer c.args.pos

pub node-returns-in-If-clause-answer : goal.node-returns-in-If-clause-answer
node-returns-in-If-clause-answer t c = c.if_form.ensures.answer

pub node-returns-in-Ascribe-clause-answer : goal.node-returns-in-Ascribe-clause-answer
node-returns-in-Ascribe-clause-answer t c =
    rw c.in-Ascribe.is c.ascribed.ensures.answer

-- ---- a `let` and a `letrec`

pub let_form-returns-clause-answer : goal.let_form-returns-clause-answer
let_form-returns-clause-answer t c = λ place.
    rw c.in-Let.is (made_then _ _ _ _ _ c.in_ok-bound.ensures.answer (made_then _ _ _ _ _
    (rw (c.as_slice.ensures.value, c.in_ok-bound.ensures.scopes) at c.in_ok-done.ensures.answer)
    (ap (λ (e : Typed). Makes e (work_of c.body.new.progress)) (sym c.in_ok-let_term.ensures))))

pub let_form-returns-clause-scopes : goal.let_form-returns-clause-scopes
let_form-returns-clause-scopes t c = c.in_ok-done.ensures.scopes ∙ c.in_ok-bound.ensures.scopes

pub let_form-returns-clause-grows : goal.let_form-returns-clause-grows
let_form-returns-clause-grows t c = grows_on _ _ _ c.in_ok-bound.ensures.grows c.in_ok-done.ensures.grows

pub letrec_form-returns-in_err-heads-clause-answer : goal.letrec_form-returns-in_err-heads-clause-answer
letrec_form-returns-in_err-heads-clause-answer t c = λ place.
    rw c.in-Letrec.is (failed_first c.in_err-heads.field-0.0 _ typed_of _ _ _ _ (search rules)
    c.in_err-heads.ensures.heads)

pub letrec_form-returns-in_err-group-clause-answer : goal.letrec_form-returns-in_err-group-clause-answer
letrec_form-returns-in_err-group-clause-answer t c = λ place.
    rw c.in-Letrec.is (made_first typed_of _ _ _ _ _ _ c.in_ok-heads.ensures.heads
    (failed_first c.in_err-group.field-0.0 members_of typed_of _ _ _ _ (search rules)
    (rw (c.as_slice.ensures.value, c.in_ok-heads.ensures.scopes) at c.in_err-group.ensures.answer)))

pub letrec_form-returns-in_err-done-clause-answer : goal.letrec_form-returns-in_err-done-clause-answer
letrec_form-returns-in_err-done-clause-answer t c = λ place.
    rw c.in-Letrec.is (made_first typed_of _ _ _ _ _ _ c.in_ok-heads.ensures.heads
    (made_first typed_of _ _ _ _ _ _
    (rw (c.as_slice.ensures.value, c.in_ok-heads.ensures.scopes) at c.in_ok-group.ensures.answer)
    (failed_first c.in_err-done.field-0.0 sequence_of typed_of _ _ _ _ (search rules)
    (rw (c.in_ok-group.ensures.scopes, c.in_ok-heads.ensures.scopes) at c.in_err-done.ensures.answer))))

pub letrec_form-returns-clause-answer : goal.letrec_form-returns-clause-answer
letrec_form-returns-clause-answer t c = λ place.
    rw c.in-Letrec.is (made_then _ _ _ _ _ c.in_ok-heads.ensures.heads (made_then _ _ _ _ _
    (rw (c.as_slice.ensures.value, c.in_ok-heads.ensures.scopes) at c.in_ok-group.ensures.answer)
    (made_then _ _ _ _ _
    (rw (c.in_ok-group.ensures.scopes, c.in_ok-heads.ensures.scopes) at c.in_ok-done.ensures.answer)
    (ap (λ (e : Typed). Makes e (work_of c.in_order.new.progress)) (sym c.in_ok-group_term.ensures)))))

pub letrec_form-returns-clause-grows : goal.letrec_form-returns-clause-grows
letrec_form-returns-clause-grows t c =
    grows_on _ _ _ c.in_ok-heads.ensures.grows (grows_on _ _ _ c.in_ok-group.ensures.grows c.in_ok-done.ensures.grows)

-- ---- tables that grow, and scopes that stay

pub ascribed-returns-clause-grows : goal.ascribed-returns-clause-grows
ascribed-returns-clause-grows t c =
    grows_last c.cast_to.result _ _ _ (grows_on _ _ _ c.in_ok-e.ensures.grows c.in_ok-ty.ensures.grows)
    c.cast_to.ensures.grows

pub operation-returns-clause-grows : goal.operation-returns-clause-grows
operation-returns-clause-grows t c =
    grows_last c.operated.result _ _ _ c.in_ok-given.ensures.grows c.operated.ensures.grows

pub if_form-returns-clause-grows : goal.if_form-returns-clause-grows
if_form-returns-clause-grows t c =
    grows_last c.joined.result _ _ _ (grows_on _ _ _ (grows_on _ _ _ c.in_ok-test.ensures.grows
    c.in_ok-truth.ensures.grows) (grows_on _ _ _ c.in_ok-first.ensures.grows c.in_ok-second.ensures.grows))
    c.joined.ensures.grows

pub if_form-returns-clause-scopes : goal.if_form-returns-clause-scopes
if_form-returns-clause-scopes t c =
    on_ok c.joined.result (c.in_ok-second.ensures.scopes ∙ c.in_ok-first.ensures.scopes ∙ c.in_ok-test.ensures.scopes)

pub lambda_body-returns-clause-grows : goal.lambda_body-returns-clause-grows
lambda_body-returns-clause-grows t c =
    grows_last c.closed.result _ _ _ c.in_ok-done.ensures.grows c.closed.ensures.grows

pub all-returns-clause-grows : goal.all-returns-clause-grows
all-returns-clause-grows t c = grows_on _ _ _ c.in_ok-e.ensures.grows c.in_ok-given.ensures.grows

pub all-returns-clause-scopes : goal.all-returns-clause-scopes
all-returns-clause-scopes t c = c.in_ok-given.ensures.scopes ∙ c.in_ok-e.ensures.scopes

pub each-returns-clause-grows : goal.each-returns-clause-grows
each-returns-clause-grows t c =
    grows_on _ _ _ c.in_ok-e.ensures.grows
    (grows_on _ _ _ c.in_ok-argument.ensures.grows c.in_ok-others.ensures.grows)

pub each-returns-clause-scopes : goal.each-returns-clause-scopes
each-returns-clause-scopes t c = c.in_ok-others.ensures.scopes ∙ c.in_ok-e.ensures.scopes

pub operands-returns-clause-grows : goal.operands-returns-clause-grows
operands-returns-clause-grows t c =
    grows_on _ _ _ c.in_ok-e.ensures.grows (grows_on _ _ _ c.in_ok-one.ensures.grows c.in_ok-others.ensures.grows)

pub operands-returns-clause-scopes : goal.operands-returns-clause-scopes
operands-returns-clause-scopes t c = c.in_ok-others.ensures.scopes ∙ c.in_ok-e.ensures.scopes

pub lambda-returns-clause-grows : goal.lambda-returns-clause-grows
lambda-returns-clause-grows t c =
    grows_last c.lambda_body.result _ _ _ (grows_on _ _ _ c.in_ok-types.ensures.grows
    (grows_on _ _ _ c.in_ok-wanted.ensures.grows c.in_ok-names.ensures.grows)) c.lambda_body.ensures.grows

pub member-returns-clause-grows : goal.member-returns-clause-grows
member-returns-clause-grows t c =
    grows_last c.member_body.result _ _ _ (grows_on _ _ _ c.in_ok-names.ensures.grows c.in_ok-done.ensures.grows)
    c.member_body.ensures.grows

-- ---- a body

pub body-returns-in_err-done-clause-answer : goal.body-returns-in_err-done-clause-answer
body-returns-in_err-done-clause-answer t c =
    failed_as c.in_err-done.field-0.0 sequence_of sequence_of _ _ _ _ (search rules)
    (rw c.in_ok-enter.ensures at c.in_err-done.ensures.answer) (λ kind place last refused. refused)

pub body-returns-clause-answer : goal.body-returns-clause-answer
body-returns-clause-answer t c = rw c.in_ok-enter.ensures at c.in_ok-done.ensures.answer

-- ---- calls and projections, steps whose tables grow, and parts that stay parts

pub node-returns-in_err-f-in-Call-clause-answer : goal.node-returns-in_err-f-in-Call-clause-answer
node-returns-in_err-f-in-Call-clause-answer t c =
    rw c.in-Call.is (failed_first c.in_err-f-in-Call.field-0.0 typed_of typed_of _ _ _ _ (search rules)
    c.in_err-f-in-Call.ensures.answer)

pub node-returns-in_ok-f-in-Call-clause-answer : goal.node-returns-in_ok-f-in-Call-clause-answer
node-returns-in_ok-f-in-Call-clause-answer t c =
    rw c.in-Call.is (made_first typed_of _ _ _ _ _ _ c.in_ok-f-in-Call.ensures.answer
    (made_first typed_of _ _ _ _ _ _ refl
    (rw (c.place.ensures, c.in_ok-f-in-Call.ensures.scopes) at c.call.ensures.answer)))

pub node-returns-in_ok-f-in-Call-clause-scopes : goal.node-returns-in_ok-f-in-Call-clause-scopes
node-returns-in_ok-f-in-Call-clause-scopes t c =
    IfOk-equal c.call.result _ _ _ c.call.ensures.scopes c.in_ok-f-in-Call.ensures.scopes

pub node-returns-in_ok-f-in-Call-clause-grows : goal.node-returns-in_ok-f-in-Call-clause-grows
node-returns-in_ok-f-in-Call-clause-grows t c =
    grows_last c.call.result _ _ _ c.in_ok-f-in-Call.ensures.grows c.call.ensures.grows

pub node-returns-in_err-e-in-Proj-clause-answer : goal.node-returns-in_err-e-in-Proj-clause-answer
node-returns-in_err-e-in-Proj-clause-answer t c =
    rw c.in-Proj.is (failed_first c.in_err-e-in-Proj.field-0.0 typed_of typed_of _ _ _ _ (search rules)
    c.in_err-e-in-Proj.ensures.answer)

pub node-returns-in_ok-e-in-Proj-clause-scopes : goal.node-returns-in_ok-e-in-Proj-clause-scopes
node-returns-in_ok-e-in-Proj-clause-scopes t c = on_ok c.projected.result c.in_ok-e-in-Proj.ensures.scopes

pub node-returns-in_ok-e-in-Proj-clause-grows : goal.node-returns-in_ok-e-in-Proj-clause-grows
node-returns-in_ok-e-in-Proj-clause-grows t c =
    grows_last c.projected.result _ _ _ c.in_ok-e-in-Proj.ensures.grows c.projected.ensures.grows

pub call-returns-in_ok-plain-in-Fun-clause-grows : goal.call-returns-in_ok-plain-in-Fun-clause-grows
call-returns-in_ok-plain-in-Fun-clause-grows t c = c.in_ok-terms-in-Fun.ensures.grows

pub call-returns-in_ok-plain-in-Fun-clause-scopes : goal.call-returns-in_ok-plain-in-Fun-clause-scopes
call-returns-in_ok-plain-in-Fun-clause-scopes t c = c.in_ok-terms-in-Fun.ensures.scopes

pub call-returns-in_ok-given-in-Dyn-clause-grows : goal.call-returns-in_ok-given-in-Dyn-clause-grows
call-returns-in_ok-given-in-Dyn-clause-grows t c =
    grows_last c.called_dyn.result _ _ _ c.in_ok-given-in-Dyn.ensures.grows c.called_dyn.ensures.grows

pub call-returns-in_ok-given-in-Dyn-clause-scopes : goal.call-returns-in_ok-given-in-Dyn-clause-scopes
call-returns-in_ok-given-in-Dyn-clause-scopes t c = on_ok c.called_dyn.result c.in_ok-given-in-Dyn.ensures.scopes

pub in_order-returns-in-Nil-clause-grows : goal.in_order-returns-in-Nil-clause-grows
in_order-returns-in-Nil-clause-grows t c = grows_on _ _ _ c.loop-left.invariant.grows c.in_ok-e.ensures.grows

pub elaborate-returns-clause-grows : goal.elaborate-returns-clause-grows
elaborate-returns-clause-grows t c = c.in_ok-typed.ensures.grows

pub body-returns-clause-grows : goal.body-returns-clause-grows
body-returns-clause-grows t c = c.in_ok-done.ensures.grows

pub begin_form-returns-clause-grows : goal.begin_form-returns-clause-grows
begin_form-returns-clause-grows t c = c.in_ok-done.ensures.grows

pub ascribed-returns-clause-scopes : goal.ascribed-returns-clause-scopes
ascribed-returns-clause-scopes t c = on_ok c.cast_to.result c.in_ok-e.ensures.scopes

pub member-returns-clause-scopes : goal.member-returns-clause-scopes
member-returns-clause-scopes t c = on_ok c.member_body.result c.in_ok-done.ensures.scopes

pub lambda_body-closed-requires-clause-types : goal.lambda_body-closed-requires-clause-types
lambda_body-closed-requires-clause-types t c = parts_later _ _ _ c.in_ok-done.ensures.grows c.requires.types

pub operands-fitted-requires-clause-content : goal.operands-fitted-requires-clause-content
operands-fitted-requires-clause-content t c =
    may_part_later _ _ (place_if c.args.content) c.in_ok-e.ensures.grows c.requires.content

-- ---- what is left of an expression, of a projection, and of the arms of a node

pub elaborate-returns-clause-scopes : goal.elaborate-returns-clause-scopes
elaborate-returns-clause-scopes t c = c.in_ok-typed.ensures.scopes

pub elaborate-returns-clause-part : goal.elaborate-returns-clause-part
elaborate-returns-clause-part t c = c.in_ok-not_too_large.ensures.part

pub node-returns-in-Int-clause-scopes : goal.node-returns-in-Int-clause-scopes
node-returns-in-Int-clause-scopes t c = on_ok c.literal.result refl

pub node-returns-in-Bool-clause-scopes : goal.node-returns-in-Bool-clause-scopes
node-returns-in-Bool-clause-scopes t c = on_ok c.literal-in-Bool.result refl

pub node-returns-in-Unit-clause-scopes : goal.node-returns-in-Unit-clause-scopes
node-returns-in-Unit-clause-scopes t c = on_ok c.literal-in-Unit.result refl

pub node-returns-in-Name-clause-scopes : goal.node-returns-in-Name-clause-scopes
node-returns-in-Name-clause-scopes t c = on_ok c.used.result refl

-- ---- a lambda, and a member

pub lambda-returns-in_err-types-clause-answer : goal.lambda-returns-in_err-types-clause-answer
lambda-returns-in_err-types-clause-answer t c =
    failed_first c.in_err-types.field-0.0 _ typed_of _ _ _ _ (search rules)
    (rw c.as_slice.ensures at c.in_err-types.ensures.answer)

pub lambda-returns-in_err-wanted-clause-answer : goal.lambda-returns-in_err-wanted-clause-answer
lambda-returns-in_err-wanted-clause-answer t c =
    made_first typed_of _ _ _ _ _ _ (rw c.as_slice.ensures at c.in_ok-types.ensures.answer)
    (failed_first c.in_err-wanted.field-0.0 place_if typed_of _ _ _ _ (search rules) c.in_err-wanted.ensures.answer)

pub lambda-returns-clause-answer : goal.lambda-returns-clause-answer
lambda-returns-clause-answer t c =
    made_first typed_of _ _ _ _ _ _ (rw c.as_slice.ensures at c.in_ok-types.ensures.answer)
    (made_first typed_of _ _ _ _ _ _ c.in_ok-wanted.ensures.answer
    (made_first typed_of _ _ _ _ _ _
    (rw (c.as_slice-2.ensures, c.as_slice-3.ensures.value) at c.in_ok-names.ensures.made)
    (rw (c.as_slice-4.ensures.value, c.as_slice-5.ensures.value) at c.lambda_body.ensures.answer)))

pub lambda_body-closed-requires-clause-wanted : goal.lambda_body-closed-requires-clause-wanted
lambda_body-closed-requires-clause-wanted t c =
    may_part_later _ _ (place_if c.args.wanted) c.in_ok-done.ensures.grows c.requires.wanted

pub member-returns-in_err-done-clause-answer : goal.member-returns-in_err-done-clause-answer
member-returns-in_err-done-clause-answer t c =
    made_first body_of _ _ _ _ _ _
    (rw (c.as_slice.ensures, c.as_slice-types.ensures.value) at c.in_ok-names.ensures.made)
    (failed_first c.in_err-done.field-0.0 sequence_of body_of _ _ _ _ (search rules)
    (rw c.as_slice-2.ensures.value at c.in_err-done.ensures.answer))

pub member-returns-clause-answer : goal.member-returns-clause-answer
member-returns-clause-answer t c =
    made_first body_of _ _ _ _ _ _
    (rw (c.as_slice.ensures, c.as_slice-types.ensures.value) at c.in_ok-names.ensures.made)
    (made_first body_of _ _ _ _ _ _ (rw c.as_slice-2.ensures.value at c.in_ok-done.ensures.answer)
    (rw (c.as_slice-3.ensures.value, c.last_pos-last.ensures) at c.member_body.ensures.answer))

-- ---- a body's names are left

pub body-returns-clause-scopes : goal.body-returns-clause-scopes
body-returns-clause-scopes t c =
    c.in_ok-leave.ensures ∙ ap (drop (length c.args.names.now)) (c.in_ok-done.ensures.scopes ∙ c.in_ok-enter.ensures)
    ∙ names_left c.args.names.now c.args.scopes.now

-- ---- bindings that fail, and all of them

pub bindings-returns-in_err-bound-clause-answer : goal.bindings-returns-in_err-bound-clause-answer
bindings-returns-in_err-bound-clause-answer t c =
    let binding = c.in-Cons.first.value in
    failed_as c.in_err-bound.field-0.0 typed_of bound_of _ _
    (bound_value (type_of_binding binding) (value_of_binding binding)
    c.args.scopes.now (work_of c.loop-left.progress)) _ (search rules)
    (rw c.loop-left.invariant.scopes at c.in_err-bound.ensures.answer)
    (λ kind place last refused. bindings_refused (binding_list (bindings_of c.loop-left.done))
    (env_of c.loop-left.names.items) (name_of_binding binding) (type_of_binding binding) (value_of_binding binding)
    (lets_of c.in-Cons.rest.value) c.args.scopes.now (work_of c.loop-left.progress) _ kind place last refused
    (rw c.in-Cons.is at c.loop-left.invariant.made))

-- ---- the value of a binding

pub bound_value-returns-in_err-e-clause-answer : goal.bound_value-returns-in_err-e-clause-answer
bound_value-returns-in_err-e-clause-answer t c =
    failed_first c.in_err-e.field-0.0 typed_of typed_of _ _ _ _ (search rules)
    (rw c.deref.ensures at c.in_err-e.ensures.answer)

pub bound_value-returns-in_err-wanted-clause-answer : goal.bound_value-returns-in_err-wanted-clause-answer
bound_value-returns-in_err-wanted-clause-answer t c =
    made_first typed_of _ _ _ _ _ _ (rw c.deref.ensures at c.in_ok-e.ensures.answer)
    (failed_first c.in_err-wanted.field-0.0 place_if typed_of _ _ _ _ (search rules)
    (rw c.deref.ensures at c.in_err-wanted.ensures.answer))

pub bound_value-returns-clause-answer : goal.bound_value-returns-clause-answer
bound_value-returns-clause-answer t c =
    made_first typed_of _ _ _ _ _ _ (rw c.deref.ensures at c.in_ok-e.ensures.answer)
    (made_first typed_of _ _ _ _ _ _ (rw c.deref.ensures at c.in_ok-wanted.ensures.answer)
    (rw c.deref.ensures at c.cast_if.ensures.answer))

pub bound_value-returns-clause-scopes : goal.bound_value-returns-clause-scopes
bound_value-returns-clause-scopes t c = on_ok c.cast_if.result c.in_ok-e.ensures.scopes

pub bound_value-returns-clause-grows : goal.bound_value-returns-clause-grows
bound_value-returns-clause-grows t c =
    grows_last c.cast_if.result _ _ _ (grows_on _ _ _ c.in_ok-e.ensures.grows c.in_ok-wanted.ensures.grows)
    c.cast_if.ensures.grows

pub bound_value-elaborate-requires : goal.bound_value-elaborate-requires
bound_value-elaborate-requires t c =
    (search (rules, one_binding_lemmas, c.decreases), rw c.deref.ensures c.requires.value)

pub bound_value-written_if-requires : goal.bound_value-written_if-requires
bound_value-written_if-requires t c = rw c.deref.ensures c.requires.written

pub bound_value-cast_if-requires-clause-e : goal.bound_value-cast_if-requires-clause-e
bound_value-cast_if-requires-clause-e t c = part_later _ _ _ c.in_ok-wanted.ensures.grows c.in_ok-e.ensures.part

pub bound_value-cast_if-requires-clause-wanted : goal.bound_value-cast_if-requires-clause-wanted
bound_value-cast_if-requires-clause-wanted t c = c.in_ok-wanted.ensures.part

-- ---- an expression inside another

pub inside-returns-clause-answer : goal.inside-returns-clause-answer
inside-returns-clause-answer t c = rw c.deref.ensures at c.elaborate.ensures.answer

pub inside-returns-clause-scopes : goal.inside-returns-clause-scopes
inside-returns-clause-scopes t c = c.elaborate.ensures.scopes

pub inside-returns-clause-grows : goal.inside-returns-clause-grows
inside-returns-clause-grows t c = c.elaborate.ensures.grows

pub inside-returns-clause-part : goal.inside-returns-clause-part
inside-returns-clause-part t c = c.elaborate.ensures.part

-- ---- what calls require of parts

pub tuple_form-tuple-requires-clause-least : goal.tuple_form-tuple-requires-clause-least
tuple_form-tuple-requires-clause-least t c = rw c.in_ok-given.ensures.count c.requires.1

pub tuple_form-tuple-requires-clause-most : goal.tuple_form-tuple-requires-clause-most
tuple_form-tuple-requires-clause-most t c = rw c.in_ok-given.ensures.count c.requires.2

pub call-called_dyn-requires-clause-few : goal.call-called_dyn-requires-clause-few
call-called_dyn-requires-clause-few t c = rw c.in_ok-given-in-Dyn.ensures.count c.requires.few

-- ---- a call of what is Dyn

pub call-returns-in_err-given-in-Dyn-clause-answer : goal.call-returns-in_err-given-in-Dyn-clause-answer
call-returns-in_err-given-in-Dyn-clause-answer t c =
    rw (c.in_ok-parameters.ensures.row, c.in-Dyn.is) (failed_first c.in_err-given-in-Dyn.field-0.0 given_of typed_of
    _ _ _ _ (search rules) c.in_err-given-in-Dyn.ensures.answer)

pub call-returns-in_ok-given-in-Dyn-clause-answer : goal.call-returns-in_ok-given-in-Dyn-clause-answer
call-returns-in_ok-given-in-Dyn-clause-answer t c =
    rw (c.in_ok-parameters.ensures.row, c.in-Dyn.is) (made_first typed_of _ _ _ _ _ _
    c.in_ok-given-in-Dyn.ensures.answer c.called_dyn.ensures.answer)

-- ---- lists that aren't empty

with_first : {A : Type 0} (P : List A → Type 0) (xs : List A) → 1 ≤ length xs
    → ((x : A) (more : List A) → P (x ∷ more)) →
    P xs
with_first P [] some h = absurd (omega arith)
with_first P (x ∷ more) some h = h x more

pub each-returns-in_err-e-clause-answer : goal.each-returns-in_err-e-clause-answer
each-returns-in_err-e-clause-answer t c =
    rw c.in-Cons.is (with_first (λ (wanted : List TypeId). Answers c.from_residual.result terms_of
    (work_of c.inside.new.progress) (elaborate_each (ExprThen (expr_of c.in-Cons.first.value)
    (exprs_of c.in-Cons.rest.value)) c.args.scopes.now (places_of wanted) (work_of c.args.progress.now)))
    c.args.wanted.now c.in-len1-up.len_at_least (λ ty more. failed_first c.in_err-e.field-0.0 typed_of terms_of _ _ _ _
    (search rules) c.in_err-e.ensures.answer))

pub operands-returns-in_err-e-clause-answer : goal.operands-returns-in_err-e-clause-answer
operands-returns-in_err-e-clause-answer t c =
    rw c.in-Cons.is (with_first (λ (wanted : List Operand). Answers c.from_residual.result gathered_of
    (work_of c.inside.new.progress) (elaborate_operands (ExprThen (expr_of c.in-Cons.first.value)
    (exprs_of c.in-Cons.rest.value)) (map operand_seen wanted) (place_if c.args.content) c.args.scopes.now
    (work_of c.args.progress.now)))
    c.args.wanted.now c.in-len1-up.len_at_least
    (λ ty more. failed_first c.in_err-e.field-0.0 typed_of gathered_of _ _ _ _
    (search rules) c.in_err-e.ensures.answer))

-- ---- arguments and operands, where the first is there

-- a list that isn't empty, by its first element
first_known : {A : Type 0} (xs : List A) (other : A) → 1 ≤ length xs →
    xs ≡ get_or xs 0 other ∷ take (length xs - 1) (drop 1 xs)
first_known [] other some = absurd (omega arith)
first_known (x ∷ xs) other some = ap (λ zs. x ∷ zs) (sym (take_all (length (x ∷ xs) - 1) xs (omega arith)))

-- arguments whose list isn't empty, where types are wanted
abbrev each_of : Expr → Exprs → Environment → Work → List TypeId → Made Terms
each_of first rest environment work wanted =
    elaborate_each (ExprThen first rest) environment (places_of wanted) work

pub each-returns-in_err-argument-clause-answer : goal.each-returns-in_err-argument-clause-answer
each-returns-in_err-argument-clause-answer t c =
    rw c.in-Cons.is (subst (λ (wanted : List TypeId). Answers c.from_residual-in_err-argument.result terms_of
    (work_of c.cast_to.new.self) (each_of (expr_of c.in-Cons.first.value) (exprs_of c.in-Cons.rest.value)
    c.args.scopes.now (work_of c.args.progress.now) wanted))
    (sym (first_known c.args.wanted.now (record { 0 = 0 }) c.in-len1-up.len_at_least))
    (made_first terms_of _ _ _ _ _ _ c.in_ok-e.ensures.answer
    (failed_first c.in_err-argument.field-0.0 typed_of terms_of _ _ _ _ (search rules)
    (rw c.place.ensures at c.in_err-argument.ensures.answer))))

pub each-returns-in_err-others-clause-answer : goal.each-returns-in_err-others-clause-answer
each-returns-in_err-others-clause-answer t c =
    rw c.in-Cons.is (subst (λ (wanted : List TypeId). Answers c.from_residual-in_err-others.result terms_of
    (work_of c.each.new.progress) (each_of (expr_of c.in-Cons.first.value) (exprs_of c.in-Cons.rest.value)
    c.args.scopes.now (work_of c.args.progress.now) wanted))
    (sym (first_known c.args.wanted.now (record { 0 = 0 }) c.in-len1-up.len_at_least))
    (made_first terms_of _ _ _ _ _ _ c.in_ok-e.ensures.answer
    (made_first terms_of _ _ _ _ _ _ (rw c.place.ensures at c.in_ok-argument.ensures.answer)
    (failed_first c.in_err-others.field-0.0 terms_of terms_of _ _ _ _ (search rules)
    (rw (c.deref.ensures, c.in_ok-e.ensures.scopes) at c.in_err-others.ensures.answer)))))

pub each-returns-clause-answer : goal.each-returns-clause-answer
each-returns-clause-answer t c =
    rw c.in-Cons.is (ap (each_of (expr_of c.in-Cons.first.value) (exprs_of c.in-Cons.rest.value)
    c.args.scopes.now (work_of c.args.progress.now))
    (first_known c.args.wanted.now (record { 0 = 0 }) c.in-len1-up.len_at_least)
    ∙ made_then _ _ _ _ _ c.in_ok-e.ensures.answer
    (made_then _ _ _ _ _ (rw c.place.ensures at c.in_ok-argument.ensures.answer)
    (made_then _ _ _ _ _ (rw (c.deref.ensures, c.in_ok-e.ensures.scopes) at c.in_ok-others.ensures.answer)
    (ap (λ (terms : Terms). Makes terms (work_of c.each.new.progress)) (sym c.in_ok-terms_first.ensures)))))

abbrev operands_on : Expr → Exprs → Option ℕ → Environment → Work → List Operand → Made Operands
operands_on first rest content environment work wanted =
    elaborate_operands (ExprThen first rest) (map operand_seen wanted) content environment work

pub operands-returns-in_err-one-clause-answer : goal.operands-returns-in_err-one-clause-answer
operands-returns-in_err-one-clause-answer t c =
    rw c.in-Cons.is (subst (λ (wanted : List Operand). Answers c.from_residual-in_err-one.result gathered_of
    (work_of c.fitted.new.progress) (operands_on (expr_of c.in-Cons.first.value) (exprs_of c.in-Cons.rest.value)
    (place_if c.args.content) c.args.scopes.now (work_of c.args.progress.now) wanted))
    (sym (first_known c.args.wanted.now IntOperand c.in-len1-up.len_at_least))
    (made_first gathered_of _ _ _ _ _ _ c.in_ok-e.ensures.answer
    (failed_first c.in_err-one.field-0.0 held_of gathered_of _ _ _ _ (search rules)
    (rw c.place.ensures at c.in_err-one.ensures.answer))))

pub operands-returns-in_err-others-clause-answer : goal.operands-returns-in_err-others-clause-answer
operands-returns-in_err-others-clause-answer t c =
    rw c.in-Cons.is (subst (λ (wanted : List Operand). Answers c.from_residual-in_err-others.result gathered_of
    (work_of c.operands.new.progress) (operands_on (expr_of c.in-Cons.first.value) (exprs_of c.in-Cons.rest.value)
    (place_if c.args.content) c.args.scopes.now (work_of c.args.progress.now) wanted))
    (sym (first_known c.args.wanted.now IntOperand c.in-len1-up.len_at_least))
    (made_first gathered_of _ _ _ _ _ _ c.in_ok-e.ensures.answer
    (made_first gathered_of _ _ _ _ _ _ (rw c.place.ensures at c.in_ok-one.ensures.answer)
    (failed_first c.in_err-others.field-0.0 gathered_of gathered_of _ _ _ _ (search rules)
    (rw (c.deref.ensures, c.in_ok-e.ensures.scopes) at c.in_err-others.ensures.answer)))))

pub operands-returns-clause-answer : goal.operands-returns-clause-answer
operands-returns-clause-answer t c =
    rw c.in-Cons.is (ap (operands_on (expr_of c.in-Cons.first.value) (exprs_of c.in-Cons.rest.value)
    (place_if c.args.content) c.args.scopes.now (work_of c.args.progress.now))
    (first_known c.args.wanted.now IntOperand c.in-len1-up.len_at_least)
    ∙ made_then _ _ _ _ _ c.in_ok-e.ensures.answer
    (made_then _ _ _ _ _ (rw c.place.ensures at c.in_ok-one.ensures.answer)
    (made_then _ _ _ _ _ (rw (c.deref.ensures, c.in_ok-e.ensures.scopes) at c.in_ok-others.ensures.answer)
    (ap (λ (terms : Terms). Makes (record { terms = terms; content = place_if c.in_ok-others.others.content })
    (work_of c.operands.new.progress)) (sym c.in_ok-terms_first.ensures)))))

-- ---- the names of members are left

pub letrec_form-returns-clause-scopes : goal.letrec_form-returns-clause-scopes
letrec_form-returns-clause-scopes t c =
    let heads = c.in_ok-heads.heads in
    c.in_ok-leave.ensures ∙ ap (λ n. drop n c.in_order.new.scopes) (c.len.ensures ∙ heads.ok.0)
    ∙ ap (drop (length heads.items))
    (c.in_ok-done.ensures.scopes ∙ c.in_ok-group.ensures.scopes ∙ c.in_ok-heads.ensures.scopes)
    ∙ heads_left heads.items c.args.scopes.now

-- no heads are left
no_heads : (done : List Member) (heads : List RustHead) (members : LetrecMembers) (environment : Environment)
    (work : Work) (whole : Made Members) → length heads < 1 →
    members_behind done (elaborate_members members (heads_seen heads) environment work) ≡ whole →
    whole ≡ Makes (members_onto done NoMembers) work
no_heads done [] members environment work whole none so_far = members_done done members environment work whole so_far
no_heads done (head ∷ heads) members environment work whole none so_far = absurd (omega arith)

pub members-returns-in_default-heads_left-clause-answer : goal.members-returns-in_default-heads_left-clause-answer
members-returns-in_default-heads_left-clause-answer t c =
    no_heads (member_list (members_of c.loop-left.done)) c.loop-left.heads_left.now (letrecs_of c.loop-left.left.now)
    c.args.scopes.now (work_of c.loop-left.progress) _ c.in_default-heads_left.len_below c.loop-left.invariant.made
    ∙ ap (λ members. Makes members (work_of c.loop-left.progress)) (sym c.turned_members.ensures)

-- terms so far, where there are none
sequence_begun : (done : List Term) (made : Made Sequence) → done ≡ [] → sequence_behind done made ≡ made
sequence_begun done (Makes sequence work) e =
    ap (λ terms. Makes (record { terms = terms_onto terms sequence.terms; type = sequence.type }) work) e
sequence_begun done (Refuses kind place last) e = refl

pub in_order-loop-left-init : goal.in_order-loop-left-init
in_order-loop-left-init t c =
    record {
      made = sequence_begun (term_list (terms_of c.new-terms.result))
          (elaborate_sequence (exprs_of c.args.list.now) c.args.scopes.now (work_of c.args.progress.now))
          c.new-terms.ensures;
      scopes = refl;
      smaller = omega arith;
      source = c.requires;
      grows = grows_same c.args.progress.now.types;
    }

bound_begun : (done : List Binding) (names : List Named) (made : Made Bound) → done ≡ [] → names ≡ [] →
    bound_behind done (env_of names) made ≡ made
bound_begun done names (Makes bound work) e f =
    ap (λ (bindings : List Binding). Makes (record {
      bindings = bindings_onto bindings bound.bindings;
      entries = env_of names ++ bound.entries;
    }) work) e
    ∙ ap (λ (names : List Named). Makes (record {
      bindings = bound.bindings;
      entries = env_of names ++ bound.entries;
    }) work) f
bound_begun done names (Refuses kind place last) e f = refl

pub bindings-loop-left-init : goal.bindings-loop-left-init
bindings-loop-left-init t c =
    record {
      made = bound_begun (binding_list (bindings_of c.new-done.result)) c.new-names.result.items
          (elaborate_bindings (lets_of c.args.list.now) c.args.scopes.now (work_of c.args.progress.now))
          c.new-done.ensures c.new-names.ensures.items;
      scopes = refl;
      smaller = omega arith;
      source = c.requires;
      grows = grows_same c.args.progress.now.types;
    }

members_begun : (done : List Member) (made : Made Members) → done ≡ [] → members_behind done made ≡ made
members_begun done (Makes members work) e = ap (λ members_done. Makes (members_onto members_done members) work) e
members_begun done (Refuses kind place last) e = refl

pub members-loop-left-init : goal.members-loop-left-init
members-loop-left-init t c =
    record {
      made = members_begun (member_list (members_of c.new-done.result))
          (elaborate_members (letrecs_of c.args.list.now) (heads_seen c.args.heads.now) c.args.scopes.now
          (work_of c.args.progress.now))
          c.new-done.ensures;
      scopes = refl;
      smaller = omega arith;
      source = c.requires;
      grows = grows_same c.args.progress.now.types;
    }

-- ---- what calls inside the cycle require

pub lambda-lambda_body-requires : goal.lambda-lambda_body-requires
lambda-lambda_body-requires t c = (
  search (rules, lambda_lemmas, list_lemmas, c.decreases),
  (
    c.requires.0,
    (
      rw c.as_slice-4.ensures.value (parts_later _ _ _
          (grows_on _ _ _ c.in_ok-wanted.ensures.grows c.in_ok-names.ensures.grows) c.in_ok-types.ensures.parts),
      (
        rw (c.as_slice-4.ensures.value, c.in_ok-types.ensures.count, c.as_slice.ensures) c.requires.2,
        may_part_later _ _ (place_if c.in_ok-wanted.wanted) c.in_ok-names.ensures.grows c.in_ok-wanted.ensures.part,
      ),
    ),
  ),
)

pub each-each-requires : goal.each-each-requires
each-each-requires t c =
    let sources : AreSources (ExprThen (expr_of c.in-Cons.first.value) (exprs_of c.in-Cons.rest.value)) =
    (rw c.in-Cons.is at c.requires) in
    (search (rules, list_lemmas, c.decreases), rw c.deref.ensures sources.1)

pub all-all-requires : goal.all-all-requires
all-all-requires t c =
    let sources : AreSources (ExprThen (expr_of c.in-Cons.first.value) (exprs_of c.in-Cons.rest.value)) =
    (rw c.in-Cons.is at c.requires) in
    (search (rules, list_lemmas, c.decreases), rw c.deref.ensures sources.1)

pub operands-operands-requires : goal.operands-operands-requires
operands-operands-requires t c =
    let sources : AreSources (ExprThen (expr_of c.in-Cons.first.value) (exprs_of c.in-Cons.rest.value)) =
    (rw c.in-Cons.is at c.requires.operands) in
    (search (rules, list_lemmas, c.decreases), (rw c.deref.ensures sources.1, c.in_ok-one.ensures.content))

pub members-member-requires : goal.members-member-requires
members-member-requires t c =
    let member = out-Member c.in-Cons.first.value in
    let source : AreSourceMembers (LetrecThen member.name (written_of member.ty) (lambda_of member.fun)
    (letrecs_of c.in-Cons.rest.value)) = (rw c.in-Cons.is at c.loop-left.invariant.source) in
    (search (rules, member_lemmas, c.decreases, c.loop-left.invariant.smaller), rw c.deref.ensures source.0)

pub call-called_dyn-requires-clause-parts : goal.call-called_dyn-requires-clause-parts
call-called_dyn-requires-clause-parts t c = c.in_ok-given-in-Dyn.ensures.parts

pub bindings-loop-left-smaller : goal.bindings-loop-left-smaller
bindings-loop-left-smaller t c = search (rules, binding_lemmas)

pub members-loop-left-smaller : goal.members-loop-left-smaller
members-loop-left-smaller t c = search (rules, member_lemmas)

pub in_order-loop-left-smaller : goal.in_order-loop-left-smaller
in_order-loop-left-smaller t c = search (rules, list_lemmas)

-- ---- all arguments at their own types

pub all-returns-clause-parts : goal.all-returns-clause-parts
all-returns-clause-parts t c =
    subst (λ (given : Given). AreParts c.all.new.progress.types given.types) (sym c.in_ok-given_first.ensures)
    (parts_then _ _ _ (part_later _ _ _ c.in_ok-given.ensures.grows c.in_ok-e.ensures.part)
    c.in_ok-given.ensures.parts)

pub all-returns-clause-count : goal.all-returns-clause-count
all-returns-clause-count t c =
    rw c.in-Cons.is (ap (λ (given : Given). length given.types) c.in_ok-given_first.ensures
    ∙ ap suc (c.in_ok-given.ensures.count ∙ ap (λ list. how_many (exprs_of list)) c.deref.ensures))

-- ---- lists that end early

none_wanted : (list : Exprs) (wanted : List TypeId) (environment : Environment) (work : Work) → length wanted < 1 →
    elaborate_each list environment (places_of wanted) work ≡ Makes NoTerms work
none_wanted NoExprs [] environment work none = refl
none_wanted (ExprThen first rest) [] environment work none = refl
none_wanted list (ty ∷ more) environment work none = absurd (omega arith)

pub each-returns-in_default-wanted-clause-answer : goal.each-returns-in_default-wanted-clause-answer
each-returns-in_default-wanted-clause-answer t c =
    none_wanted (exprs_of c.args.list.now) c.args.wanted.now c.args.scopes.now (work_of c.args.progress.now)
    c.in_default-wanted.len_below

no_operands : (list : Exprs) (wanted : List Operand) (content : Option ℕ) (environment : Environment) (work : Work) →
    length wanted < 1 → elaborate_operands list (map operand_seen wanted) content environment work
    ≡ Makes (record { terms = NoTerms; content = content }) work
no_operands NoExprs [] content environment work none = refl
no_operands (ExprThen first rest) [] content environment work none = refl
no_operands list (operand ∷ more) content environment work none = absurd (omega arith)

pub operands-returns-in_default-wanted-clause-answer : goal.operands-returns-in_default-wanted-clause-answer
operands-returns-in_default-wanted-clause-answer t c =
    no_operands (exprs_of c.args.list.now) c.args.wanted.now (place_if c.args.content) c.args.scopes.now
    (work_of c.args.progress.now) c.in_default-wanted.len_below

-- no body is empty

pub in_order-returns-in_default-clause-answer : goal.in_order-returns-in_default-clause-answer
in_order-returns-in_default-clause-answer t c = absurd (rw c.in_default.is at c.loop-left.invariant.source)

pub in_order-returns-in_default-clause-part : goal.in_order-returns-in_default-clause-part
in_order-returns-in_default-clause-part t c = absurd (rw c.in_default.is at c.loop-left.invariant.source)

pub in_order-returns-in_default-clause-grows : goal.in_order-returns-in_default-clause-grows
in_order-returns-in_default-clause-grows t c = absurd (rw c.in_default.is at c.loop-left.invariant.source)

-- ---- calls of a function

pub call-returns-then-not-has_length-clause-grows : goal.call-returns-then-not-has_length-clause-grows
call-returns-then-not-has_length-clause-grows t c = on_ok c.refused.result (grows_same c.args.progress.now.types)

pub call-returns-then-not-has_length-clause-scopes : goal.call-returns-then-not-has_length-clause-scopes
call-returns-then-not-has_length-clause-scopes t c = on_ok c.refused.result refl

-- as many arguments as parameters, or not
counted : (arguments : ℕ) (parameters : List TypeId) (count : ℕ) (told holds : Bool) →
    told ≡ nat_eq arguments count → count ≡ length parameters → told ≡ holds →
    nat_eq arguments (length (places_of parameters)) ≡ holds
counted arguments parameters count told holds a b e =
    ap (nat_eq arguments) (length-map parameters (λ (id : TypeId). id.0) ∙ sym b) ∙ sym a ∙ e

pub call-returns-then-not-has_length-clause-answer : goal.call-returns-then-not-has_length-clause-answer
call-returns-then-not-has_length-clause-answer t c =
    let differ = counted (how_many (exprs_of c.args.arguments.now)) c.in-Fun.parameters c.len.result
    c.has_length.result false c.has_length.ensures c.len.ensures c.if-not-has_length.true in
    rw (c.in_ok-parameters.ensures.row, c.in-Fun.is, differ, c.refused.ensures) refl

pub call-returns-in_err-terms-in-Fun-clause-answer : goal.call-returns-in_err-terms-in-Fun-clause-answer
call-returns-in_err-terms-in-Fun-clause-answer t c =
    let same = counted (how_many (exprs_of c.args.arguments.now)) c.in-Fun.parameters c.len.result
    c.has_length.result true c.has_length.ensures c.len.ensures c.if-not-has_length.false in
    rw (c.in_ok-parameters.ensures.row, c.in-Fun.is, same) (failed_first c.in_err-terms-in-Fun.field-0.0 terms_of
    typed_of _ _ _ _ (search rules) (rw c.as_slice.ensures at c.in_err-terms-in-Fun.ensures.answer))

pub call-returns-in_ok-plain-in-Fun-clause-answer : goal.call-returns-in_ok-plain-in-Fun-clause-answer
call-returns-in_ok-plain-in-Fun-clause-answer t c =
    let same = counted (how_many (exprs_of c.args.arguments.now)) c.in-Fun.parameters c.len.result
    c.has_length.result true c.has_length.ensures c.len.ensures c.if-not-has_length.false in
    rw (c.in_ok-parameters.ensures.row, c.in-Fun.is, same) (made_then _ _ _ _ _
    (rw c.as_slice.ensures at c.in_ok-terms-in-Fun.ensures.answer)
    (ap (λ (e : Typed). Makes e (work_of c.each.new.progress)) (sym c.in_ok-plain-in-Fun.ensures)))

-- ---- what is left of single steps

pub operands-returns-clause-content : goal.operands-returns-clause-content
operands-returns-clause-content t c = c.in_ok-others.ensures.content

pub lambda-returns-clause-scopes : goal.lambda-returns-clause-scopes
lambda-returns-clause-scopes t c = c.lambda_body.ensures.scopes

pub in_order-returns-in-Nil-clause-scopes : goal.in_order-returns-in-Nil-clause-scopes
in_order-returns-in-Nil-clause-scopes t c = c.in_ok-e.ensures.scopes ∙ c.loop-left.invariant.scopes

pub in_order-returns-in-Nil-clause-part : goal.in_order-returns-in-Nil-clause-part
in_order-returns-in-Nil-clause-part t c = c.in_ok-e.ensures.part

pub in_order-returns-in_default-clause-scopes : goal.in_order-returns-in_default-clause-scopes
in_order-returns-in_default-clause-scopes t c = absurd (rw c.in_default.is at c.loop-left.invariant.source)

pub body-returns-clause-part : goal.body-returns-clause-part
body-returns-clause-part t c = c.in_ok-done.ensures.part

pub bindings-returns-clause-answer : goal.bindings-returns-clause-answer
bindings-returns-clause-answer t c =
    let names = env_of c.loop-left.names.items in
    bindings_done (binding_list (bindings_of c.loop-left.done)) names c.args.scopes.now (work_of c.loop-left.progress) _
    (rw c.in_default.is at c.loop-left.invariant.made)
    ∙ ap (λ bindings. Makes (record { bindings = bindings; entries = names }) (work_of c.loop-left.progress))
    (sym c.turned_bindings.ensures)

pub bindings-bound_value-requires : goal.bindings-bound_value-requires
bindings-bound_value-requires t c =
    let binding = c.in-Cons.first.value in
    let source : AreSourceBindings
    (LetThen (name_of_binding binding) (type_of_binding binding) (value_of_binding binding)
    (lets_of c.in-Cons.rest.value)) = (rw c.in-Cons.is at c.loop-left.invariant.source) in
    (search (rules, binding_lemmas, c.decreases, c.loop-left.invariant.smaller), (source.0, source.1))

pub if_form-inside-requires-2 : goal.if_form-inside-requires-2
if_form-inside-requires-2 t c =
    let source : IsSourceNode (IfNode (expr_of c.in-If.condition.value) (expr_of c.in-If.on_true.value)
    (expr_of c.in-If.on_false.value)) = (rw c.in-If.is at c.requires) in
    (search (rules, node_lemmas, c.decreases), source.1)

pub if_form-inside-requires-3 : goal.if_form-inside-requires-3
if_form-inside-requires-3 t c =
    let source : IsSourceNode (IfNode (expr_of c.in-If.condition.value) (expr_of c.in-If.on_true.value)
    (expr_of c.in-If.on_false.value)) = (rw c.in-If.is at c.requires) in
    (search (rules, node_lemmas, c.decreases), source.2)

-- ---- what is left of the calls inside the cycle

pub call-each-requires : goal.call-each-requires
call-each-requires t c = (search (rules, list_lemmas, c.decreases), c.requires.arguments)

pub call-all-requires : goal.call-all-requires
call-all-requires t c = (search (rules, list_lemmas, c.decreases), c.requires.arguments)

pub each-inside-requires : goal.each-inside-requires
each-inside-requires t c =
    let sources : AreSources (ExprThen (expr_of c.in-Cons.first.value) (exprs_of c.in-Cons.rest.value)) =
    (rw c.in-Cons.is at c.requires) in
    (search (rules, list_lemmas, c.decreases), sources.0)

pub all-inside-requires : goal.all-inside-requires
all-inside-requires t c =
    let sources : AreSources (ExprThen (expr_of c.in-Cons.first.value) (exprs_of c.in-Cons.rest.value)) =
    (rw c.in-Cons.is at c.requires) in
    (search (rules, list_lemmas, c.decreases), sources.0)

pub operands-inside-requires : goal.operands-inside-requires
operands-inside-requires t c =
    let sources : AreSources (ExprThen (expr_of c.in-Cons.first.value) (exprs_of c.in-Cons.rest.value)) =
    (rw c.in-Cons.is at c.requires.operands) in
    (search (rules, list_lemmas, c.decreases), sources.0)

pub node-call-requires : goal.node-call-requires
node-call-requires t c =
    let source : IsSourceNode (CallNode (expr_of c.in-Call.function.value) (exprs_of c.in-Call.arguments)) =
    (rw c.in-Call.is at c.requires) in
    (search (rules, node_lemmas, c.decreases), (source.1, source.2))

pub node-inside-requires : goal.node-inside-requires
node-inside-requires t c =
    let source : IsSourceNode (CallNode (expr_of c.in-Call.function.value) (exprs_of c.in-Call.arguments)) =
    (rw c.in-Call.is at c.requires) in
    (search (rules, node_lemmas, c.decreases), source.0)

pub node-inside-requires-in-Proj : goal.node-inside-requires-in-Proj
node-inside-requires-in-Proj t c =
    let source : IsSource (expr_of c.in-Proj.whole.value) = (rw c.in-Proj.is at c.requires) in
    (search (rules, node_lemmas, c.decreases), source)

pub node-ascribed-requires : goal.node-ascribed-requires
node-ascribed-requires t c =
    let source : IsSourceNode (AscribeNode (expr_of c.in-Ascribe.e.value) (type_of c.in-Ascribe.t)) =
    (rw c.in-Ascribe.is at c.requires) in
    (search (rules, node_lemmas, c.decreases), source)

pub node-lambda-requires : goal.node-lambda-requires
node-lambda-requires t c =
    let source : IsSourceLambda (lambda_of c.in-Lambda.l) = (rw c.in-Lambda.is at c.requires) in
    (search (rules, node_lemmas, lambda_lemmas, c.decreases), source)

pub letrec_form-members-requires : goal.letrec_form-members-requires
letrec_form-members-requires t c =
    let source : IsSourceNode (LetrecNode (letrecs_of c.in-Letrec.list) (exprs_of c.in-Letrec.inner)) =
    (rw c.in-Letrec.is at c.requires) in
    (search (rules, node_lemmas, c.decreases), source.0)

pub letrec_form-in_order-requires : goal.letrec_form-in_order-requires
letrec_form-in_order-requires t c =
    let source : IsSourceNode (LetrecNode (letrecs_of c.in-Letrec.list) (exprs_of c.in-Letrec.inner)) =
    (rw c.in-Letrec.is at c.requires) in
    (search (rules, node_lemmas, c.decreases), source.1)

pub let_form-body-requires : goal.let_form-body-requires
let_form-body-requires t c =
    let source : IsSourceNode (LetNode (lets_of c.in-Let.list) (exprs_of c.in-Let.inner)) =
    (rw c.in-Let.is at c.requires) in
    (search (rules, node_lemmas, c.decreases), source.1)

pub member-body-requires : goal.member-body-requires
member-body-requires t c = (search (rules, lambda_lemmas, list_lemmas, c.decreases), c.requires.0)

pub if_form-inside-requires : goal.if_form-inside-requires
if_form-inside-requires t c =
    let source : IsSourceNode (IfNode (expr_of c.in-If.condition.value) (expr_of c.in-If.on_true.value)
    (expr_of c.in-If.on_false.value)) = (rw c.in-If.is at c.requires) in
    (search (rules, node_lemmas, c.decreases), source.0)

pub tuple_form-tuple-requires-clause-parts : goal.tuple_form-tuple-requires-clause-parts
tuple_form-tuple-requires-clause-parts t c = c.in_ok-given.ensures.parts

-- ---- what is left of scopes, of tables, and of empty lists

pub lambda_body-returns-clause-scopes : goal.lambda_body-returns-clause-scopes
lambda_body-returns-clause-scopes t c = on_ok c.closed.result c.in_ok-done.ensures.scopes

pub operation-returns-clause-scopes : goal.operation-returns-clause-scopes
operation-returns-clause-scopes t c = on_ok c.operated.result c.in_ok-given.ensures.scopes

pub tuple_form-returns-clause-scopes : goal.tuple_form-returns-clause-scopes
tuple_form-returns-clause-scopes t c = on_ok c.tuple.result c.in_ok-given.ensures.scopes

pub members-returns-in_default-heads_left-clause-grows : goal.members-returns-in_default-heads_left-clause-grows
members-returns-in_default-heads_left-clause-grows t c = c.loop-left.invariant.grows

pub members-returns-clause-grows : goal.members-returns-clause-grows
members-returns-clause-grows t c = c.loop-left.invariant.grows

pub bindings-returns-clause-grows : goal.bindings-returns-clause-grows
bindings-returns-clause-grows t c = c.loop-left.invariant.grows

pub members-returns-clause-answer : goal.members-returns-clause-answer
members-returns-clause-answer t c =
    members_none (member_list (members_of c.loop-left.done)) (heads_seen c.loop-left.heads_left.now) c.args.scopes.now
    (work_of c.loop-left.progress) _ (rw c.in_default.is at c.loop-left.invariant.made)
    ∙ ap (λ members. Makes members (work_of c.loop-left.progress)) (sym c.turned_members-2.ensures)

pub each-returns-in_default-clause-answer : goal.each-returns-in_default-clause-answer
each-returns-in_default-clause-answer t c = rw c.in_default.is refl

pub operands-returns-in_default-clause-answer : goal.operands-returns-in_default-clause-answer
operands-returns-in_default-clause-answer t c = rw c.in_default.is refl

pub begin_form-returns-clause-answer : goal.begin_form-returns-clause-answer
begin_form-returns-clause-answer t c = λ place.
    made_then _ _ _ _ _ c.in_ok-done.ensures.answer
    (ap (λ (e : Typed). Makes e (work_of c.in_order.new.progress)) (sym c.in_ok-typed.ensures))

-- ---- arms of a node that are calls

pub node-returns-in-Lambda-clause-scopes : goal.node-returns-in-Lambda-clause-scopes
node-returns-in-Lambda-clause-scopes t c = c.lambda.ensures.scopes

pub node-returns-in-Lambda-clause-grows : goal.node-returns-in-Lambda-clause-grows
node-returns-in-Lambda-clause-grows t c = c.lambda.ensures.grows

pub node-returns-in-Let-clause-scopes : goal.node-returns-in-Let-clause-scopes
node-returns-in-Let-clause-scopes t c = c.let_form.ensures.scopes

pub node-returns-in-Let-clause-grows : goal.node-returns-in-Let-clause-grows
node-returns-in-Let-clause-grows t c = c.let_form.ensures.grows

pub node-returns-in-Letrec-clause-scopes : goal.node-returns-in-Letrec-clause-scopes
node-returns-in-Letrec-clause-scopes t c = c.letrec_form.ensures.scopes

pub node-returns-in-Letrec-clause-grows : goal.node-returns-in-Letrec-clause-grows
node-returns-in-Letrec-clause-grows t c = c.letrec_form.ensures.grows

pub node-returns-in-If-clause-scopes : goal.node-returns-in-If-clause-scopes
node-returns-in-If-clause-scopes t c = c.if_form.ensures.scopes

pub node-returns-in-If-clause-grows : goal.node-returns-in-If-clause-grows
node-returns-in-If-clause-grows t c = c.if_form.ensures.grows

pub node-returns-in-Begin-clause-scopes : goal.node-returns-in-Begin-clause-scopes
node-returns-in-Begin-clause-scopes t c = c.begin_form.ensures.scopes

pub node-returns-in-Begin-clause-grows : goal.node-returns-in-Begin-clause-grows
node-returns-in-Begin-clause-grows t c = c.begin_form.ensures.grows

pub node-returns-in-Ascribe-clause-scopes : goal.node-returns-in-Ascribe-clause-scopes
node-returns-in-Ascribe-clause-scopes t c = c.ascribed.ensures.scopes

pub node-returns-in-Ascribe-clause-grows : goal.node-returns-in-Ascribe-clause-grows
node-returns-in-Ascribe-clause-grows t c = c.ascribed.ensures.grows

pub node-returns-in-Tuple-clause-scopes : goal.node-returns-in-Tuple-clause-scopes
node-returns-in-Tuple-clause-scopes t c = c.tuple_form.ensures.scopes

pub node-returns-in-Tuple-clause-grows : goal.node-returns-in-Tuple-clause-grows
node-returns-in-Tuple-clause-grows t c = c.tuple_form.ensures.grows

pub node-returns-in-Prim-clause-scopes : goal.node-returns-in-Prim-clause-scopes
node-returns-in-Prim-clause-scopes t c = c.operation.ensures.scopes

pub node-returns-in-Prim-clause-grows : goal.node-returns-in-Prim-clause-grows
node-returns-in-Prim-clause-grows t c = c.operation.ensures.grows

pub node-let_form-requires : goal.node-let_form-requires
node-let_form-requires t c = (search (rules, node_lemmas, c.decreases), c.requires)

pub node-letrec_form-requires : goal.node-letrec_form-requires
node-letrec_form-requires t c = (search (rules, node_lemmas, c.decreases), c.requires)

pub node-if_form-requires : goal.node-if_form-requires
node-if_form-requires t c = (search (rules, node_lemmas, c.decreases), c.requires)

pub node-operation-requires : goal.node-operation-requires
node-operation-requires t c =
    let source : IsSourceNode (PrimNode c.in-Prim.operator (exprs_of c.in-Prim.list)) =
    (rw c.in-Prim.is at c.requires) in
    (search (rules, node_lemmas, c.decreases), source)

pub node-tuple_form-requires : goal.node-tuple_form-requires
node-tuple_form-requires t c =
    let source : IsSourceNode (TupleNode (exprs_of c.in-Tuple.parts)) = (rw c.in-Tuple.is at c.requires) in
    (search (rules, node_lemmas, c.decreases), source)

pub node-begin_form-requires : goal.node-begin_form-requires
node-begin_form-requires t c =
    let source : IsSourceNode (BeginNode (exprs_of c.in-Begin.inner)) = (rw c.in-Begin.is at c.requires) in
    (search (rules, node_lemmas, c.decreases), source)

pub let_form-bindings-requires : goal.let_form-bindings-requires
let_form-bindings-requires t c =
    let source : IsSourceNode (LetNode (lets_of c.in-Let.list) (exprs_of c.in-Let.inner)) =
    (rw c.in-Let.is at c.requires) in
    (search (rules, node_lemmas, c.decreases), source.0)

pub letrec_form-heads-requires : goal.letrec_form-heads-requires
letrec_form-heads-requires t c =
    let source : IsSourceNode (LetrecNode (letrecs_of c.in-Letrec.list) (exprs_of c.in-Letrec.inner)) =
    (rw c.in-Letrec.is at c.requires) in
    source.0

pub lambda_body-body-requires : goal.lambda_body-body-requires
lambda_body-body-requires t c = (search (rules, list_lemmas, c.decreases), c.requires.body)

pub body-in_order-requires : goal.body-in_order-requires
body-in_order-requires t c = (search (rules, list_lemmas, c.decreases), c.requires)

pub begin_form-in_order-requires : goal.begin_form-in_order-requires
begin_form-in_order-requires t c = (search (rules, list_lemmas, c.decreases), c.requires)

pub tuple_form-all-requires : goal.tuple_form-all-requires
tuple_form-all-requires t c = (search (rules, list_lemmas, c.decreases), c.requires.0)

pub operation-operands-requires : goal.operation-operands-requires
operation-operands-requires t c = (search (rules, list_lemmas, c.decreases), (c.requires.0, tt))

pub lambda-parameter_types-requires : goal.lambda-parameter_types-requires
lambda-parameter_types-requires t c = rw c.as_slice.ensures c.requires.1

-- ---- no arguments, and the first of some

pub all-returns-in_default-clause-answer : goal.all-returns-in_default-clause-answer
all-returns-in_default-clause-answer t c =
    rw c.in_default.is (ap (λ (types : List TypeId). Makes (record { terms = NoTerms; types = places_of types })
    (work_of c.args.progress.now)) (sym c.new.ensures.items))

pub all-returns-in_default-clause-count : goal.all-returns-in_default-clause-count
all-returns-in_default-clause-count t c =
    rw c.in_default.is (ap (λ (types : List TypeId). length (places_of types)) c.new.ensures.items)

pub all-returns-in_default-clause-parts : goal.all-returns-in_default-clause-parts
all-returns-in_default-clause-parts t c =
    subst (λ (types : List TypeId). AreParts c.args.progress.now.types (places_of types)) (sym c.new.ensures.items)
    (no_parts c.args.progress.now.types)

pub each-bounds-wanted-0 : goal.each-bounds-wanted-0
each-bounds-wanted-0 t c = c.in-len1-up.len_at_least

pub operands-bounds-wanted-0 : goal.operands-bounds-wanted-0
operands-bounds-wanted-0 t c = c.in-len1-up.len_at_least

pub members-bounds-heads_left-0 : goal.members-bounds-heads_left-0
members-bounds-heads_left-0 t c = c.in-len1-up.len_at_least

-- ---- what single steps still leave

pub node-returns-in-Int-clause-grows : goal.node-returns-in-Int-clause-grows
node-returns-in-Int-clause-grows t c = c.literal.ensures.grows

pub node-returns-in-Bool-clause-grows : goal.node-returns-in-Bool-clause-grows
node-returns-in-Bool-clause-grows t c = c.literal-in-Bool.ensures.grows

pub node-returns-in-Unit-clause-grows : goal.node-returns-in-Unit-clause-grows
node-returns-in-Unit-clause-grows t c = c.literal-in-Unit.ensures.grows

pub node-returns-in-Name-clause-grows : goal.node-returns-in-Name-clause-grows
node-returns-in-Name-clause-grows t c = c.used.ensures.grows

pub begin_form-returns-clause-scopes : goal.begin_form-returns-clause-scopes
begin_form-returns-clause-scopes t c = c.in_ok-done.ensures.scopes

pub bindings-returns-clause-scopes : goal.bindings-returns-clause-scopes
bindings-returns-clause-scopes t c = c.loop-left.invariant.scopes

pub members-returns-clause-scopes : goal.members-returns-clause-scopes
members-returns-clause-scopes t c = c.loop-left.invariant.scopes

pub members-returns-in_default-heads_left-clause-scopes : goal.members-returns-in_default-heads_left-clause-scopes
members-returns-in_default-heads_left-clause-scopes t c = c.loop-left.invariant.scopes

pub lambda-written_if-requires : goal.lambda-written_if-requires
lambda-written_if-requires t c = c.requires.3

pub ascribed-written-requires : goal.ascribed-written-requires
ascribed-written-requires t c = c.requires.1

pub ascribed-inside-requires : goal.ascribed-inside-requires
ascribed-inside-requires t c = (search (rules, node_lemmas, c.decreases), c.requires.0)

pub elaborate-node-requires : goal.elaborate-node-requires
elaborate-node-requires t c = (search (rules, expr_lemmas, c.decreases), c.requires)

pub lambda_body-closed-requires-clause-few : goal.lambda_body-closed-requires-clause-few
lambda_body-closed-requires-clause-few t c = c.requires.few

pub operation-operated-requires : goal.operation-operated-requires
operation-operated-requires t c = record { content = c.in_ok-given.ensures.content }

pub operands-fitted-requires-clause-e : goal.operands-fitted-requires-clause-e
operands-fitted-requires-clause-e t c = c.in_ok-e.ensures.part

pub operands-returns-in_default-wanted-clause-content : goal.operands-returns-in_default-wanted-clause-content
operands-returns-in_default-wanted-clause-content t c = c.requires.content

pub operands-returns-in_default-wanted-clause-grows : goal.operands-returns-in_default-wanted-clause-grows
operands-returns-in_default-wanted-clause-grows t c = grows_same c.args.progress.now.types

pub operands-returns-in_default-clause-content : goal.operands-returns-in_default-clause-content
operands-returns-in_default-clause-content t c = c.requires.content

pub operands-returns-in_default-clause-grows : goal.operands-returns-in_default-clause-grows
operands-returns-in_default-clause-grows t c = grows_same c.args.progress.now.types

pub each-returns-in_default-wanted-clause-grows : goal.each-returns-in_default-wanted-clause-grows
each-returns-in_default-wanted-clause-grows t c = grows_same c.args.progress.now.types

pub each-returns-in_default-clause-grows : goal.each-returns-in_default-clause-grows
each-returns-in_default-clause-grows t c = grows_same c.args.progress.now.types

pub all-returns-in_default-clause-grows : goal.all-returns-in_default-clause-grows
all-returns-in_default-clause-grows t c = grows_same c.args.progress.now.types

pub each-slice_bounds-more-count : goal.each-slice_bounds-more-count
each-slice_bounds-more-count t c = omega (arith, c.in-len1-up.len_at_least)

pub each-slice_bounds-more-start : goal.each-slice_bounds-more-start
each-slice_bounds-more-start t c = omega (arith, c.in-len1-up.len_at_least)

pub operands-slice_bounds-more-count : goal.operands-slice_bounds-more-count
operands-slice_bounds-more-count t c = omega (arith, c.in-len1-up.len_at_least)

pub operands-slice_bounds-more-start : goal.operands-slice_bounds-more-start
operands-slice_bounds-more-start t c = omega (arith, c.in-len1-up.len_at_least)
