use Rattle.std.proofs.Common.{◌≡◌, ℕ, suc, ◌+◌, List, ◌++◌, length, ap, ap₂, ◌∙◌, sym, arith}
use Rattle.std.specs.Prelude.{slice_index}
use Rattle.coercion_norm.specs.Objects.{words_of_all}
use Rattle.coercion_norm.specs.ObjectsOfRows.{type_objects}
use Rattle.coercion_norm.proofs.TypePlacing.{words_next}
use Rattle.coercion_norm.proofs.placing.write_types.Goals as goal

pub loop-t-preserved : goal.loop-t-preserved
loop-t-preserved c =
    let next : suc c.loop-t.t ≡ c.loop-t.t + 1 = omega arith in
    c.in_ok-extend.ensures.ok ∙ ap (λ (xs : List ℕ). c.loop-t.words ++ xs) c.as_slice.ensures
    ∙ ap₂ (λ (xs ys : List ℕ). xs ++ ys) c.loop-t.invariant c.in_ok-object.ensures
    ∙ sym (words_next c.args.types.now c.args.type_at.now c.loop-t.t)
    ∙ ap (λ n. words_of_all (type_objects c.args.types.now (λ type. slice_index c.args.type_at.now type) n)) next

pub returns : goal.returns
returns c =
    let all : c.loop-t.t ≡ length c.args.types.now =
    omega (arith, c.loop-t-test.false, c.loop-t.auto.t-end, c.len-t-end.ensures.len) in
    c.loop-t.invariant
    ∙ ap (λ n. words_of_all (type_objects c.args.types.now (λ type. slice_index c.args.type_at.now type) n)) all
