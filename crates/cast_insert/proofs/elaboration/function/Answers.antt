use Rattle.std.proofs.Common.{List, ap, sym, ◌∙◌, ℕ}
use Rattle.std.proofs.lemmas.Result.{IfOk-weaker}
use Rattle.grift_base.specs.Types.{FunRow}
use Rattle.grift_base.specs.declared.places.TypeId.{TypeId}
use Rattle.type_graph.specs.Forming.{intern}
use Rattle.type_graph.specs.Rows.{places_of}
use Rattle.core_calc.specs.Terms.{Lambda}
use Rattle.core_calc.specs.Views.{term_of}
use Rattle.cast_rules.specs.Making.{Makes, Typed, form, typed}
use Rattle.insert_steps.specs.Views.{work_of}
use Rattle.cast_rules.proofs.Public.{fun_fits}
use Rattle.insert_steps.proofs.Public.{made_then}
use Rattle.cast_insert.proofs.elaboration.function.Goals as goal

pub form-requires : goal.form-requires
form-requires c = rw c.in_ok-parameters.ensures (fun_fits _ _ _ c.requires.types c.requires.answer c.requires.few)

pub returns-clause-made : goal.returns-clause-made
returns-clause-made c =
    let lambda : List ℕ → Typed = λ names.
    typed (Lambda names (term_of c.args.e.core.value) c.in_ok-ty.ty.0) c.in_ok-ty.ty.0 in
    IfOk-weaker c.plain.result _ _ (λ f made. made_then _ _ _ _ _
    (ap (λ (ids : List TypeId). form (intern (FunRow (places_of ids) c.args.e.ty.0)) (work_of c.args.progress.now))
    (sym c.in_ok-parameters.ensures) ∙ c.in_ok-ty.ensures.made)
    (ap (λ (e : Typed). Makes e (work_of c.form.new.self)) (ap lambda (sym c.in_ok-variables.ensures) ∙ sym made)))
    c.plain.ensures
