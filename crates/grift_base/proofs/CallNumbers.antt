-- The environment calls have these numbers: images that other tools make or read call by them.
use Rattle.std.proofs.Common.{◌≡◌, ◌∷◌, [], refl}
use Rattle.grift_base.specs.declared.environment.TheConstants.{END_CALL, PRINT_INT_CALL, PRINT_BYTE_CALL}
use Rattle.grift_base.specs.declared.environment.TheConstants.{BLAME_CALL, TRAP_CALL, REGION_OUT_CALL}
use Rattle.grift_base.specs.declared.environment.TheConstants.{STACK_OUT_CALL, READ_INT_CALL}

calls_from_0 : END_CALL ∷ PRINT_INT_CALL ∷ PRINT_BYTE_CALL ∷ BLAME_CALL ∷ TRAP_CALL ∷ REGION_OUT_CALL ∷ STACK_OUT_CALL
    ∷ READ_INT_CALL ∷ [] ≡ 0 ∷ 1 ∷ 2 ∷ 3 ∷ 4 ∷ 5 ∷ 6 ∷ 7 ∷ []
calls_from_0 = refl
