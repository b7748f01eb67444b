-- Products and quotients are answered, wherever the four procedures that make them stand in a program.
use Rattle.std.proofs.Common.{◌≡◌, ℕ, Some, refl, arith, slice_get}
use Rattle.machine_words.specs.Halts.{ending_of}
use Rattle.low_ir.specs.Run.{Setting}
use Rattle.rt_refs.specs.Products.{product_loop, multiply}
use Rattle.rt_refs.specs.Quotients.{quotient_loop, divide}
use Rattle.rt_refs.proofs.Public.{products_are_answered, quotients_are_answered, remainders_are_answered}
use Rattle.rt_refs.proofs.Public.{zero_divisors_trap}
use Rattle.lowered_code.specs.declared.served.Served.{Served}
use Rattle.lower.specs.SimulationServices.{AnswerProducts}
use Rattle.lower.proofs.words.Standing.{stands_as}

module _ (setting : Setting) (run : Served) (loop quotient : ℕ)
    (product_there : slice_get setting.procs loop ≡ Some (product_loop loop))
    (quotient_there : slice_get setting.procs quotient ≡ Some (quotient_loop quotient))
    (multiply_there : slice_get setting.procs run.multiply ≡ Some (multiply loop))
    (divide_there : slice_get setting.procs run.divide ≡ Some (divide quotient)) where
  pub products_are_served : AnswerProducts setting run
  products_are_served = record {
    multiply = multiply loop;
    multiply_stands = stands_as setting run.multiply (multiply loop) multiply_there refl;
    products = λ s a b small few.
        let z = products_are_answered ending_of setting s loop a b product_there small few in
        (579, (z.0, z.1, z.2, let c = z.3 in omega (arith, c)));
    divide = divide quotient;
    divide_stands = stands_as setting run.divide (divide quotient) divide_there refl;
    quotients = λ s n d small few some.
        let z = quotients_are_answered ending_of setting s quotient n d quotient_there small few some in
        (851, (z.0, z.1, z.2, let c = z.3 in omega (arith, c)));
    remainders = λ s n d small few some.
        let z = remainders_are_answered ending_of setting s quotient n d quotient_there small few some in
        (851, (z.0, z.1, z.2, let c = z.3 in omega (arith, c)));
    zero_divisors = λ s n which.
        let z = zero_divisors_trap ending_of setting s quotient n which in
        (2, (z.0, z.1, z.2, let c = z.3 in omega (arith, c)));
  }
