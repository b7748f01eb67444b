-- The program of a scheme is the lowered one, and closed.
use Rattle.std.proofs.Common.{true, ℕ, suc, ◌≡◌, List, [], ◌∷◌, ◌++◌, length, map, Option, Some, ◌∙◌, ap, subst}
use Rattle.std.proofs.Common.{append_assoc, inl, inr, refl}
use Rattle.grift_base.specs.Types.{TypeRow}
use Rattle.low_ir.specs.Procedures.{Proc}
use Rattle.low_ir.specs.Closed.{is_closed}
use Rattle.low_ir.specs.Counting.{any_calls}
use Rattle.flat_ir.specs.Bodies.{Proc as FlatProc}
use Rattle.flat_ir.specs.Closed.{is_closed as flat_is_closed}
use Rattle.lowered_code.specs.declared.served.CastWay.{CastWay}
use Rattle.lowered_code.specs.declared.served.Served.{Served}
use Rattle.lowered_code.specs.Lowered.{low_proc, entry_proc, lowered}
use Rattle.grift_base.specs.declared.environment.TheConstants.{REGION_OUT_CALL, STACK_OUT_CALL}
use Rattle.lower.specs.Sets.{GiveUpNowhere, ServesAnywhere, with_casts}
use Rattle.lowered_code.proofs.Public.{lowered_none}
use Rattle.lower.proofs.Sets.{programs_with_sets_are_closed}

-- what serves goes behind the lowered procedures
joined : (run : Served) (flat : List FlatProc) (entry : ℕ) (answer : TypeRow) (set : List Proc)
    → lowered run flat entry answer [] ++ set ≡ lowered run flat entry answer set
joined run flat entry answer set = append_assoc (map (low_proc run) flat) (entry_proc entry answer ∷ []) set

-- the program of a scheme, told how it is come by
module _ (numbers_from : ℕ → Served) (procs_from : ℕ → List Proc) (given : Served) (words : List ℕ)
    (ways : List CastWay) (flat : List FlatProc) (entry : ℕ) (told : TypeRow) (more whole : List Proc) (first : ℕ)
    (numbers : given ≡ numbers_from first) (procs : more ≡ procs_from first)
    (all : whole ≡ lowered (with_casts given words ways) flat entry told [] ++ more) where
  comes_to : whole ≡ lowered (with_casts (numbers_from first) words ways) flat entry told (procs_from first)
  comes_to =
      let run = with_casts given words ways in
      all ∙ (ap (λ ps. lowered run flat entry told [] ++ ps) procs ∙ (joined run flat entry told (procs_from first)
      ∙ ap (λ m. lowered (with_casts m words ways) flat entry told (procs_from first)) numbers))

  pub program_is_lowered : (answer : TypeRow) (row : Option TypeRow) (count : ℕ) → row ≡ Some told
      → row ≡ Some answer → first ≡ suc count
      → whole ≡ lowered (with_casts (numbers_from (suc count)) words ways) flat entry answer (procs_from (suc count))
  program_is_lowered answer row count h k at =
      let same : told ≡ answer = cc in
      comes_to ∙ (ap (λ a. lowered (with_casts (numbers_from first) words ways) flat entry a (procs_from first)) same
      ∙ ap (λ f. lowered (with_casts (numbers_from f) words ways) flat entry answer (procs_from f)) at)

  pub program_is_closed : (count : ℕ) → ServesAnywhere (procs_from first) first (numbers_from first)
      → first ≡ suc (length flat) → count ≡ length flat → flat_is_closed flat entry ≡ true
      → is_closed whole count ≡ true
  program_is_closed count serves at many h =
      let anywhere = subst (λ f. ServesAnywhere (procs_from first) f (numbers_from first)) at serves in
      ap (λ c. is_closed whole c) many ∙ (ap (λ ps. is_closed ps (length flat)) comes_to
      ∙ programs_with_sets_are_closed (procs_from first) (numbers_from first) words ways flat entry told anywhere h)

  pub program_gives_up_nowhere : ServesAnywhere (procs_from first) first (numbers_from first) → GiveUpNowhere whole
  program_gives_up_nowhere serves =
      let run_by = with_casts (numbers_from first) words ways in (
        ap (any_calls REGION_OUT_CALL) comes_to
            ∙ lowered_none REGION_OUT_CALL (inl refl) run_by flat entry told (procs_from first) serves.persist.0,
        ap (any_calls STACK_OUT_CALL) comes_to
            ∙ lowered_none STACK_OUT_CALL (inr refl) run_by flat entry told (procs_from first) serves.persist.1,
      )
