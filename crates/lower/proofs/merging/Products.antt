-- The merged scheme's products and quotients are answered, wherever its procedures stand in a program.
use Rattle.std.proofs.Common.{◌≡◌, ℕ, suc, ◌+◌, List, Some, refl, ◌∙◌, ap, arith}
use Rattle.std.proofs.Common.{slice_get}
use Rattle.low_ir.specs.Run.{Setting}
use Rattle.rt_refs.specs.Products.{product_loop, multiply}
use Rattle.rt_refs.specs.Quotients.{quotient_loop, divide}
use Rattle.lower.specs.Sets.{StandFrom, with_casts}
use Rattle.lower.specs.MergedProcs.{merged_numbers, merged_procs}
use Rattle.lowered_code.specs.declared.served.CastWay.{CastWay}
use Rattle.lower.specs.SimulationServices.{AnswerProducts}
use Rattle.lower.proofs.words.Products.{products_are_served}

module _ (setting : Setting) (first : ℕ) (words : List ℕ) (ways : List CastWay)
    (stand : StandFrom setting.procs first (merged_procs first)) where
  product_there : slice_get setting.procs (32 + first) ≡ Some (product_loop (32 + first))
  product_there = stand 32 (product_loop (5 + (27 + first))) refl ∙ ap (λ n. Some (product_loop n)) (omega arith)

  quotient_there : slice_get setting.procs (33 + first) ≡ Some (quotient_loop (33 + first))
  quotient_there =
      stand 33 (quotient_loop (suc (5 + (27 + first)))) refl ∙ ap (λ n. Some (quotient_loop n)) (omega arith)

  multiply_there : slice_get setting.procs (34 + first) ≡ Some (multiply (32 + first))
  multiply_there = stand 34 (multiply (5 + (27 + first))) refl ∙ ap (λ n. Some (multiply n)) (omega arith)

  divide_there : slice_get setting.procs (35 + first) ≡ Some (divide (33 + first))
  divide_there = stand 35 (divide (suc (5 + (27 + first)))) refl ∙ ap (λ n. Some (divide n)) (omega arith)

  pub merged_products : AnswerProducts setting (with_casts (merged_numbers first) words ways)
  merged_products =
      products_are_served setting (with_casts (merged_numbers first) words ways) (32 + first) (33 + first) product_there
      quotient_there multiply_there divide_there
