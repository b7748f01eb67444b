use Rattle.std.proofs.Common.{ℕ, [], ◌∷◌, ◌++◌, ap, take, ◌∙◌, rules}
use Rattle.std.proofs.lemmas.List.{map-append}
use Rattle.grift_base.specs.declared.places.TypeId.{TypeId}
use Rattle.type_graph.specs.Rows.{places_of}
use Rattle.core_calc.specs.declared.terms.CoreBinding.{out-CoreBinding}
use Rattle.core_calc.specs.declared.terms.CoreBindings.{the_lemmas as bindings}
use Rattle.core_calc.specs.declared.terms.CoreList.{the_lemmas as terms}
use Rattle.core_calc.specs.declared.terms.VarId.{VarId}
use Rattle.core_calc.specs.TypeOf.{context_of, types_of_bindings}
use Rattle.core_calc.specs.Views.{bindings_of}
use Rattle.core_calc.proofs.Chains.{front_read}
use Rattle.core_calc.proofs.NamesInScope.{bound_left}
use Rattle.core_calc.proofs.typing.+typing.Goals as goal

pub group-returns-clause-kept : goal.group-returns-clause-kept
group-returns-clause-kept t c =
    c.leave.ensures
    ∙ ap (take c.len-outside.result) (c.in_ok-ty.ensures.kept ∙ c.in_ok-members_fit.ensures.kept)
    ∙ ap (λ n. take n c.bind_all.new.self) c.len-outside.ensures
    ∙ bound_left c.args.scope.now (context_of c.as_slice.result.now) c.bind_all.new.self
    c.in_ok-bind_all.ensures

pub within-returns-clause-kept : goal.within-returns-clause-kept
within-returns-clause-kept t c =
    c.leave.ensures
    ∙ ap (take c.len-outside.result) c.in_ok-ty.ensures.kept
    ∙ ap (λ n. take n c.bind_all.new.self) c.len-outside.ensures
    ∙ bound_left c.args.scope.now (context_of c.args.bound.now) c.bind_all.new.self c.in_ok-bind_all.ensures

pub types_of-loop-left-preserved : goal.types_of-loop-left-preserved
types_of-loop-left-preserved t c = record {
  scope_is = c.in_ok-ty.ensures.kept ∙ c.loop-left.invariant.scope_is;
  left_is = rw c.deref-left.ensures (front_read (λ (type : ℕ). type) (places_of c.loop-left.done.items) _
      c.in_ok-ty.ty.0 _ _ _ (rw (c.deref.ensures, c.loop-left.invariant.scope_is) at c.in_ok-ty.ensures.found)
      (ap places_of c.in_ok-push_type.ensures
      ∙ map-append (λ (id : TypeId). id.0) c.loop-left.done.items (c.in_ok-ty.ty ∷ []))
      (rw c.in-Cons.is at c.loop-left.invariant.left_is));
  smaller = search (rules, terms);
}

pub types_of_bindings-loop-left-preserved : goal.types_of_bindings-loop-left-preserved
types_of_bindings-loop-left-preserved t c =
    let first = out-CoreBinding c.in-Cons.first.value in
    let done = c.loop-left.done.items in
    let ty = c.in_ok-ty.ty in
    let entry : VarId × TypeId → ℕ × ℕ = λ bound. (bound.0.0, bound.1.0) in
    record {
      scope_is = c.in_ok-ty.ensures.kept ∙ c.loop-left.invariant.scope_is;
      left_is = rw c.deref-left.ensures (front_read (λ (type : ℕ). (first.name.0, type)) (context_of done) _ ty.0 _ _
          (types_of_bindings c.args.types.now c.args.scope.now (bindings_of c.args.bindings.now))
          (rw (c.deref.ensures, c.loop-left.invariant.scope_is) at c.in_ok-ty.ensures.found)
          (ap context_of c.in_ok-push_bound.ensures
          ∙ map-append entry done (((out-CoreBinding c.deref-in-Cons.result.now).name, ty) ∷ [])
          ∙ ap (λ x. context_of done ++ ((out-CoreBinding x).name.0, ty.0) ∷ []) c.deref-in-Cons.ensures)
          (rw c.in-Cons.is at c.loop-left.invariant.left_is));
      smaller = search (rules, bindings);
    }
