use Rattle.std.proofs.Common.{◌∙◌, ℕ, ap, refl, sym, rules}
use Rattle.std.specs.Prelude.{is_some}
use Rattle.core_calc.specs.States.{store_of}
use Rattle.core_calc.specs.Terms.{BindingThen, Call, Cast, Enter, If, Let, NoBindings, NoTerms, Prim, Proj, ProjDyn}
use Rattle.core_calc.specs.Terms.{Seq, Term, TermThen, Tuple, as_value}
use Rattle.core_calc.specs.Views.{bindings_of, term_of, terms_of}
use Rattle.core_calc.specs.declared.terms.CoreBinding.{out-CoreBinding}
use Rattle.core_calc.specs.declared.terms.CoreBindings.{the_lemmas as bindings_lemmas}
use Rattle.core_calc.specs.declared.terms.CoreList.{the_lemmas as terms_lemmas}
use Rattle.calc_stepper.proofs.Stepping.{after_bindings, after_step, after_terms, arguments_step, called_steps}
use Rattle.calc_stepper.proofs.Stepping.{cast_part_steps, come, enter_part_steps, if_part_steps, let_part_steps}
use Rattle.calc_stepper.proofs.Stepping.{part_answers, prim_part_steps, proj_dyn_part_steps, proj_part_steps}
use Rattle.calc_stepper.proofs.Stepping.{seq_part_steps, terms_answer, tuple_part_steps}
use Rattle.calc_stepper.proofs.Stepping.{arrives, comes_to_end, first_bound_steps, first_steps, goes_along, goes_past}
use Rattle.calc_stepper.proofs.Stepping.{goes_past_bound}
use Rattle.core_terms.specs.Lists.{bindings_onto, terms_onto}
use Rattle.calc_stepper.proofs.steps.+stepping.Goals as goal

pub step_term-returns-in-Let-clause-moves : goal.step_term-returns-in-Let-clause-moves
step_term-returns-in-Let-clause-moves t c =
    part_answers c.args.types.now (store_of c.args.store.now) c.args.world.now (term_of c.args.term.now) _
    (λ next. Let next (term_of c.in-Let.field-1.value))
    (after_bindings c.args.types.now (store_of c.args.store.now) c.args.world.now (bindings_of c.in-Let.bindings))
    c.is_redex.result c.step_bindings.result
    (λ moved. come moved (bindings_of c.step_bindings.new.bindings) (store_of c.step_bindings.new.store)
    c.step_bindings.new.world)
    (ap term_of c.in-Let.is) c.is_redex.ensures c.if-is_redex.false
    (let_part_steps c.args.types.now (store_of c.args.store.now) c.args.world.now (bindings_of c.in-Let.bindings)
    (term_of c.in-Let.field-1.value)) c.step_bindings.ensures.moves

pub step_term-returns-then-is_value-clause-moves : goal.step_term-returns-then-is_value-clause-moves
step_term-returns-then-is_value-clause-moves t c =
    part_answers c.args.types.now (store_of c.args.store.now) c.args.world.now (term_of c.args.term.now) _
    (Call (term_of c.in-Call.function.value)) (after_terms c.args.types.now (store_of c.args.store.now) c.args.world.now
    (terms_of c.in-Call.arguments))
    c.is_redex.result c.step_terms.result
    (λ moved. come moved (terms_of c.step_terms.new.terms) (store_of c.step_terms.new.store) c.step_terms.new.world)
    (ap term_of c.in-Call.is) c.is_redex.ensures c.if-is_redex.false
    (arguments_step c.args.types.now (store_of c.args.store.now) c.args.world.now (term_of c.in-Call.function.value)
    (terms_of c.in-Call.arguments)
    (ap (λ x. is_some (as_value (term_of x))) (sym c.deref.ensures) ∙ sym c.is_value.ensures ∙ c.if-is_value.true))
    c.step_terms.ensures.moves

pub step_term-returns-else-is_value-clause-moves : goal.step_term-returns-else-is_value-clause-moves
step_term-returns-else-is_value-clause-moves t c =
    part_answers c.args.types.now (store_of c.args.store.now) c.args.world.now (term_of c.args.term.now) _
    (λ next. Call next (terms_of c.in-Call.arguments))
    (after_step c.args.types.now (store_of c.args.store.now) c.args.world.now (term_of c.deref_mut.result.now))
    c.is_redex.result c.step_term.result
    (λ moved. come moved (term_of c.step_term.new.term) (store_of c.step_term.new.store) c.step_term.new.world)
    (ap term_of c.in-Call.is
    ∙ ap (λ x. Call (term_of x) (terms_of c.in-Call.arguments)) (sym c.deref_mut.ensures.value)) c.is_redex.ensures
    c.if-is_redex.false
    (λ n. called_steps c.args.types.now (store_of c.args.store.now) c.args.world.now (term_of c.deref_mut.result.now)
    (terms_of c.in-Call.arguments)
    (ap (λ x. is_some (as_value (term_of x))) (c.deref_mut.ensures.value ∙ sym c.deref.ensures)
    ∙ sym c.is_value.ensures ∙ c.if-is_value.false)) c.step_term.ensures.moves

pub step_term-returns-in-Enter-clause-moves : goal.step_term-returns-in-Enter-clause-moves
step_term-returns-in-Enter-clause-moves t c =
    part_answers c.args.types.now (store_of c.args.store.now) c.args.world.now (term_of c.args.term.now) _
    (Enter (term_of c.in-Enter.field-0.value)) (after_terms c.args.types.now (store_of c.args.store.now)
    c.args.world.now (terms_of c.in-Enter.arguments))
    c.is_redex.result c.step_terms-in-Enter.result
    (λ moved. come moved (terms_of c.step_terms-in-Enter.new.terms) (store_of c.step_terms-in-Enter.new.store)
    c.step_terms-in-Enter.new.world)
    (ap term_of c.in-Enter.is) c.is_redex.ensures c.if-is_redex.false
    (enter_part_steps c.args.types.now (store_of c.args.store.now) c.args.world.now (term_of c.in-Enter.field-0.value)
    (terms_of c.in-Enter.arguments)) c.step_terms-in-Enter.ensures.moves

pub step_term-returns-in-If-clause-moves : goal.step_term-returns-in-If-clause-moves
step_term-returns-in-If-clause-moves t c =
    part_answers c.args.types.now (store_of c.args.store.now) c.args.world.now (term_of c.args.term.now) _
    (λ next. If next (term_of c.in-If.field-1.value) (term_of c.in-If.field-2.value))
    (after_step c.args.types.now (store_of c.args.store.now) c.args.world.now (term_of c.deref_mut-in-If.result.now))
    c.is_redex.result c.step_term-in-If.result
    (λ moved. come moved (term_of c.step_term-in-If.new.term) (store_of c.step_term-in-If.new.store)
    c.step_term-in-If.new.world)
    (ap term_of c.in-If.is
    ∙ ap (λ x. If (term_of x) (term_of c.in-If.field-1.value) (term_of c.in-If.field-2.value))
    (sym c.deref_mut-in-If.ensures.value)) c.is_redex.ensures c.if-is_redex.false
    (if_part_steps c.args.types.now (store_of c.args.store.now) c.args.world.now (term_of c.deref_mut-in-If.result.now)
    (term_of c.in-If.field-1.value)
    (term_of c.in-If.field-2.value)) c.step_term-in-If.ensures.moves

pub step_term-returns-in-Seq-clause-moves : goal.step_term-returns-in-Seq-clause-moves
step_term-returns-in-Seq-clause-moves t c =
    terms_answer _ _ _ _ _ (terms_of c.in-Seq.terms) c.in-Seq.is Seq seq_part_steps refl c.is_redex.ensures
    c.if-is_redex.false c.step_terms-in-Seq.ensures.moves

pub step_term-returns-in-Cast-clause-moves : goal.step_term-returns-in-Cast-clause-moves
step_term-returns-in-Cast-clause-moves t c =
    part_answers c.args.types.now (store_of c.args.store.now) c.args.world.now (term_of c.args.term.now) _
    (λ next. Cast next c.in-Cast.field-1.0 c.in-Cast.field-2.0 c.in-Cast.field-3.0)
    (after_step c.args.types.now (store_of c.args.store.now) c.args.world.now (term_of c.deref_mut-in-Cast.result.now))
    c.is_redex.result c.step_term-in-Cast.result
    (λ moved. come moved (term_of c.step_term-in-Cast.new.term) (store_of c.step_term-in-Cast.new.store)
    c.step_term-in-Cast.new.world)
    (ap term_of c.in-Cast.is
    ∙ ap (λ x. Cast (term_of x) c.in-Cast.field-1.0 c.in-Cast.field-2.0 c.in-Cast.field-3.0)
    (sym c.deref_mut-in-Cast.ensures.value)) c.is_redex.ensures c.if-is_redex.false
    (cast_part_steps c.args.types.now (store_of c.args.store.now) c.args.world.now
    (term_of c.deref_mut-in-Cast.result.now) c.in-Cast.field-1.0 c.in-Cast.field-2.0
    c.in-Cast.field-3.0) c.step_term-in-Cast.ensures.moves

pub step_term-returns-in-Proj-clause-moves : goal.step_term-returns-in-Proj-clause-moves
step_term-returns-in-Proj-clause-moves t c =
    part_answers c.args.types.now (store_of c.args.store.now) c.args.world.now (term_of c.args.term.now) _
    (λ next. Proj next c.in-Proj.field-1) (after_step c.args.types.now (store_of c.args.store.now) c.args.world.now
    (term_of c.deref_mut-in-Proj.result.now))
    c.is_redex.result c.step_term-in-Proj.result
    (λ moved. come moved (term_of c.step_term-in-Proj.new.term) (store_of c.step_term-in-Proj.new.store)
    c.step_term-in-Proj.new.world)
    (ap term_of c.in-Proj.is ∙ ap (λ x. Proj (term_of x) c.in-Proj.field-1) (sym c.deref_mut-in-Proj.ensures.value))
    c.is_redex.ensures c.if-is_redex.false
    (proj_part_steps c.args.types.now (store_of c.args.store.now) c.args.world.now
    (term_of c.deref_mut-in-Proj.result.now) c.in-Proj.field-1) c.step_term-in-Proj.ensures.moves

pub step_term-returns-in-ProjDyn-clause-moves : goal.step_term-returns-in-ProjDyn-clause-moves
step_term-returns-in-ProjDyn-clause-moves t c =
    part_answers c.args.types.now (store_of c.args.store.now) c.args.world.now (term_of c.args.term.now) _
    (λ next. ProjDyn next c.in-ProjDyn.field-1 c.in-ProjDyn.field-2.0)
    (after_step c.args.types.now (store_of c.args.store.now) c.args.world.now
    (term_of c.deref_mut-in-ProjDyn.result.now))
    c.is_redex.result c.step_term-in-ProjDyn.result
    (λ moved. come moved (term_of c.step_term-in-ProjDyn.new.term) (store_of c.step_term-in-ProjDyn.new.store)
    c.step_term-in-ProjDyn.new.world)
    (ap term_of c.in-ProjDyn.is
    ∙ ap (λ x. ProjDyn (term_of x) c.in-ProjDyn.field-1 c.in-ProjDyn.field-2.0)
    (sym c.deref_mut-in-ProjDyn.ensures.value)) c.is_redex.ensures c.if-is_redex.false
    (proj_dyn_part_steps c.args.types.now (store_of c.args.store.now) c.args.world.now
    (term_of c.deref_mut-in-ProjDyn.result.now) c.in-ProjDyn.field-1
    c.in-ProjDyn.field-2.0) c.step_term-in-ProjDyn.ensures.moves

pub step_term-returns-in-Tuple-clause-moves : goal.step_term-returns-in-Tuple-clause-moves
step_term-returns-in-Tuple-clause-moves t c =
    terms_answer _ _ _ _ _ (terms_of c.in-Tuple.parts) c.in-Tuple.is Tuple tuple_part_steps refl c.is_redex.ensures
    c.if-is_redex.false c.step_terms-in-Tuple.ensures.moves

pub step_term-returns-in-Prim-clause-moves : goal.step_term-returns-in-Prim-clause-moves
step_term-returns-in-Prim-clause-moves t c =
    terms_answer _ _ _ _ _ (terms_of c.in-Prim.operands) c.in-Prim.is (Prim c.in-Prim.field-0)
    (λ types store world operands e. prim_part_steps types store world c.in-Prim.field-0 operands e) refl
    c.is_redex.ensures c.if-is_redex.false c.step_terms-in-Prim.ensures.moves

pub step_terms-returns-then-not-is_value-clause-moves : goal.step_terms-returns-then-not-is_value-clause-moves
step_terms-returns-then-not-is_value-clause-moves t c =
    let rest = terms_of c.in-Cons.rest.value in
    arrives c.args.types.now (store_of c.loop-left.store) c.loop-left.world (after_terms c.args.types.now)
    (terms_onto (terms_of c.loop-left.done)) (λ x. TermThen x rest) (store_of c.args.store.now) c.args.world.now
    (terms_of c.args.terms.now) (terms_of c.loop-left.left) (terms_of c.terms_onto.result)
    (term_of c.deref_mut.result.now) (term_of c.step_term-moved.new.term) (store_of c.step_term-moved.new.store)
    c.step_term-moved.new.world c.step_term-moved.result (ap store_of c.loop-left.invariant.store_is)
    c.loop-left.invariant.world_is
    (ap terms_of c.in-Cons.is ∙ ap (λ x. TermThen (term_of x) rest) (sym c.deref_mut.ensures.value))
    (first_steps c.args.types.now (store_of c.loop-left.store) c.loop-left.world (term_of c.deref_mut.result.now) rest
    (ap (λ x. is_some (as_value (term_of x))) (c.deref_mut.ensures.value ∙ sym c.deref.ensures)
    ∙ sym c.is_value.ensures ∙ c.if-not-is_value.true))
    c.loop-left.invariant.step_is c.terms_onto.ensures c.step_term-moved.ensures.moves

-- (an edit turns this function: with the answer here its refusal takes one run of the prover, and not two)
pub step_terms-loop-left-init : goal.step_terms-loop-left-init
step_terms-loop-left-init t c = search rules

pub step_terms-loop-left-preserved : goal.step_terms-loop-left-preserved
step_terms-loop-left-preserved t c =
    let first : Term = term_of c.in-Cons.first.value in
    record {
      store_is = c.loop-left.invariant.store_is;
      world_is = c.loop-left.invariant.world_is;
      whole = search rules;
      step_is =
          goes_along c.args.types.now (store_of c.loop-left.store) c.loop-left.world
          (after_terms c.args.types.now (store_of c.loop-left.store) c.loop-left.world) terms_onto (TermThen first)
          (terms_of c.loop-left.done) (terms_of c.replace-done.result) (terms_of c.loop-left.left)
          (terms_of c.replace-done.new.dest) (terms_of c.in-Cons.rest.value) _ (search rules) (search rules)
          (ap terms_of c.in-Cons.is)
          (goes_past c.args.types.now (store_of c.loop-left.store) c.loop-left.world first
          (terms_of c.in-Cons.rest.value)
          (ap (λ x. is_some (as_value (term_of x))) (sym c.deref.ensures) ∙ sym c.is_value.ensures
          ∙ c.if-not-is_value.false))
          (λ x. refl) c.loop-left.invariant.step_is;
      smaller = search (rules, terms_lemmas);
    }

pub step_terms-returns-clause-moves : goal.step_terms-returns-clause-moves
step_terms-returns-clause-moves t c =
    comes_to_end c.args.types.now (store_of c.loop-left.store) c.loop-left.world (after_terms c.args.types.now)
    (terms_onto (terms_of c.loop-left.done)) (store_of c.args.store.now) c.args.world.now (terms_of c.args.terms.now)
    (terms_of c.loop-left.left) NoTerms (terms_of c.terms_onto-2.result) (ap store_of c.loop-left.invariant.store_is)
    c.loop-left.invariant.world_is (ap terms_of c.in_default.is) refl c.loop-left.invariant.step_is
    c.terms_onto-2.ensures

pub step_bindings-returns-then-not-is_value-clause-moves : goal.step_bindings-returns-then-not-is_value-clause-moves
step_bindings-returns-then-not-is_value-clause-moves t c =
    let name : ℕ = (out-CoreBinding c.deref_mut.result.now).name.0 in
    let rest = bindings_of c.in-Cons.rest.value in
    arrives c.args.types.now (store_of c.loop-left.store) c.loop-left.world (after_bindings c.args.types.now)
    (bindings_onto (bindings_of c.loop-left.done)) (λ x. BindingThen name x rest) (store_of c.args.store.now)
    c.args.world.now (bindings_of c.args.bindings.now) (bindings_of c.loop-left.left)
    (bindings_of c.bindings_onto.result) (term_of (out-CoreBinding c.deref_mut.result.now).value)
    (term_of c.step_term-moved.new.term) (store_of c.step_term-moved.new.store) c.step_term-moved.new.world
    c.step_term-moved.result (ap store_of c.loop-left.invariant.store_is) c.loop-left.invariant.world_is
    (ap bindings_of c.in-Cons.is
    ∙ ap (λ x. BindingThen (out-CoreBinding x).name.0 (term_of (out-CoreBinding x).value) rest)
    (sym c.deref_mut.ensures.value))
    (first_bound_steps c.args.types.now (store_of c.loop-left.store) c.loop-left.world name
    (term_of (out-CoreBinding c.deref_mut.result.now).value) rest
    (ap (λ x. is_some (as_value (term_of (out-CoreBinding x).value))) (c.deref_mut.ensures.value ∙ sym c.deref.ensures)
    ∙ sym c.is_value.ensures ∙ c.if-not-is_value.true))
    c.loop-left.invariant.step_is c.bindings_onto.ensures c.step_term-moved.ensures.moves

pub step_bindings-loop-left-preserved : goal.step_bindings-loop-left-preserved
step_bindings-loop-left-preserved t c =
    let name : ℕ = (out-CoreBinding c.in-Cons.first.value).name.0 in
    let first = term_of (out-CoreBinding c.in-Cons.first.value).value in
    let rest = bindings_of c.in-Cons.rest.value in
    record {
      store_is = c.loop-left.invariant.store_is;
      world_is = c.loop-left.invariant.world_is;
      whole = search rules;
      step_is =
          goes_along c.args.types.now (store_of c.loop-left.store) c.loop-left.world
          (after_bindings c.args.types.now (store_of c.loop-left.store) c.loop-left.world) bindings_onto
          (BindingThen name first) (bindings_of c.loop-left.done) (bindings_of c.replace-done.result)
          (bindings_of c.loop-left.left) (bindings_of c.replace-done.new.dest) rest _ (search rules) (search rules)
          (ap bindings_of c.in-Cons.is)
          (goes_past_bound c.args.types.now (store_of c.loop-left.store) c.loop-left.world name first rest
          (ap (λ x. is_some (as_value (term_of (out-CoreBinding x).value))) (sym c.deref.ensures)
          ∙ sym c.is_value.ensures ∙ c.if-not-is_value.false))
          (λ x. refl) c.loop-left.invariant.step_is;
      smaller = search (rules, bindings_lemmas);
    }

pub step_bindings-returns-clause-moves : goal.step_bindings-returns-clause-moves
step_bindings-returns-clause-moves t c =
    comes_to_end c.args.types.now (store_of c.loop-left.store) c.loop-left.world (after_bindings c.args.types.now)
    (bindings_onto (bindings_of c.loop-left.done)) (store_of c.args.store.now) c.args.world.now
    (bindings_of c.args.bindings.now) (bindings_of c.loop-left.left) NoBindings (bindings_of c.bindings_onto-2.result)
    (ap store_of c.loop-left.invariant.store_is) c.loop-left.invariant.world_is (ap bindings_of c.in_default.is) refl
    c.loop-left.invariant.step_is c.bindings_onto-2.ensures
