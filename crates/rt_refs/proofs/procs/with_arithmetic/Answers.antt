use Rattle.std.proofs.Common.{◌≡◌, suc, ◌+◌, List, [], ◌∷◌, ◌++◌, append_assoc, arith, subst}
use Rattle.std.specs.Prelude.{IfOk}
use Rattle.low_ir.specs.Views.{procs_of}
use Rattle.rt_refs.specs.Products.{product_loop, multiply}
use Rattle.rt_refs.specs.Quotients.{quotient_loop, divide}
use Rattle.rt_refs.proofs.procs.with_arithmetic.Goals as goal

four_more : {A : Type 0} (xs : List A) (a b c d : A)
    → xs ++ a ∷ [] ++ b ∷ [] ++ c ∷ [] ++ d ∷ [] ≡ xs ++ a ∷ b ∷ c ∷ d ∷ []
four_more xs a b c d = simp append_assoc

pub returns : goal.returns
returns c = λ before is.
    let first = c.args.first in
    let e : first + 1 ≡ suc first = omega arith in
    subst (λ n. IfOk c.with_proc.result (λ all. procs_of all
    ≡ before ++ product_loop first ∷ quotient_loop n ∷ multiply first ∷ divide n ∷ [])) e
    (subst (λ xs. IfOk c.with_proc.result (λ all. procs_of all ≡ xs)) (four_more before _ _ _ _)
    (c.with_proc.ensures _ _ (c.with_proc-procs-3.ensures _ _ (c.with_proc-procs-2.ensures _ _
    (c.with_proc-procs.ensures before _ is c.product_loop.ensures) c.quotient_loop.ensures) c.multiply.ensures)
    c.divide.ensures))
