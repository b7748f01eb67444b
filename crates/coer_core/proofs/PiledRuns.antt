-- The piled run of a program term follows the calculus.
use Rattle.std.proofs.Common.{◌≡◌, ℕ, List, length, sym, subst}
use Rattle.run_laws.specs.Runs.{NeverWrong, Follows, FollowsBy, Any}
use Rattle.run_laws.specs.Meters.{unspent}
use Rattle.run_laws.proofs.Public.{metered_reduction_never_wrong, meter_changes_nothing_else-reductions, follows_of}
use Rattle.run_laws.proofs.Public.{follower_never_goes_wrong}
use Rattle.grift_base.specs.Types.{TypeRows}
use Rattle.grift_base.specs.declared.places.Pos.{Pos}
use Rattle.core_calc.specs.Calculus.{Program, calculus, calc, start}
use Rattle.core_calc.specs.Typing.{ProgramTermHasType, Stands}
use Rattle.core_calc.proofs.Public.{typed_programs_never_go_wrong-typed, typed_programs_never_go_wrong-never_wrong}
use Rattle.cast_modes.specs.Modes.{TypeCast, piling}
use Rattle.cast_modes.specs.AnswerTypes.{Told}
use Rattle.cast_modes.specs.Counting.{uncounted}
use Rattle.coer_core.specs.Terms.{RowTerm, core_of}
use Rattle.coer_core.specs.Machine.{run_start}
use Rattle.coer_core.specs.Counts.{run_in, told_of, calc_with_wraps, wraps_of_step, SameWraps}
use Rattle.coer_core.proofs.Counting.{SameMoments, follows_counted, followed_as}
use Rattle.coer_core.proofs.Following.{piled_follows}
use Rattle.coer_core.proofs.Typed.{typing_keeps}

module _ (casts : List TypeCast) (types : TypeRows) (labels : List Pos) (term : RowTerm) (input : List ℕ) (type : ℕ)
    (typed : ProgramTermHasType types (length labels) (core_of casts term) type) where
  abbrev program : Program
  program = record { term = core_of casts term; types = types; labels = labels }

  abbrev told : Told
  told = record { labels = labels; types = types; answer = type }

  calc_never_wrong : NeverWrong (calc_with_wraps program input)
  calc_never_wrong =
      metered_reduction_never_wrong (calculus types labels) (wraps_of_step types)
      (unspent (start (core_of casts term) input)) (typed_programs_never_go_wrong-never_wrong program input type typed)

  pub piled_program : FollowsBy SameWraps Any (run_in (piling types casts) told term input)
      (calc_with_wraps program input)
  piled_program =
      follows_counted (piling types casts) told (calc_with_wraps program input) (uncounted (run_start term input))
      (piled_follows types casts labels type (λ c. Stands types (length labels) c type)
      (typing_keeps types casts labels type) term input
      (typed_programs_never_go_wrong-typed program input type 0 typed) calc_never_wrong)

  unmetered : SameMoments (calc_with_wraps program input) (calc program input)
  unmetered n =
      let e = meter_changes_nothing_else-reductions (calculus types labels) (wraps_of_step types) n
      (unspent (start (core_of casts term) input)) in
      (e.0, e.1)

  pub piled_plainly : Follows (run_in (piling types casts) told term input) (calc program input)
  piled_plainly =
      followed_as (calc_with_wraps program input) (calc program input) (run_in (piling types casts) told term input)
      unmetered (follows_of piled_program)

-- of a program whose term the term reads back to
module _ (casts : List TypeCast) (program : Program) (term : RowTerm) (input : List ℕ) (type : ℕ)
    (reads : program.term ≡ core_of casts term)
    (typed : ProgramTermHasType program.types (length program.labels) program.term type) where
  typed_core : ProgramTermHasType program.types (length program.labels) (core_of casts term) type
  typed_core = subst (λ x. ProgramTermHasType program.types (length program.labels) x type) reads typed

  pub piled_runs_follow_the_calculus-wraps : FollowsBy SameWraps Any
      (run_in (piling program.types casts) (told_of program type) term input) (calc_with_wraps program input)
  piled_runs_follow_the_calculus-wraps =
      subst (λ x. FollowsBy SameWraps Any (run_in (piling program.types casts) (told_of program type) term input)
      (calc_with_wraps (record { term = x; types = program.types; labels = program.labels }) input)) (sym reads)
      (piled_program casts program.types program.labels term input type typed_core)

  pub piled_runs_follow_the_calculus-follows : Follows (run_in (piling program.types casts) (told_of program type) term
      input)
      (calc program input)
  piled_runs_follow_the_calculus-follows =
      subst (λ x. Follows (run_in (piling program.types casts) (told_of program type) term input)
      (calc (record { term = x; types = program.types; labels = program.labels }) input)) (sym reads)
      (piled_plainly casts program.types program.labels term input type typed_core)

  pub piled_runs_follow_the_calculus-never_wrong : NeverWrong
      (run_in (piling program.types casts) (told_of program type) term input)
  piled_runs_follow_the_calculus-never_wrong =
      follower_never_goes_wrong piled_runs_follow_the_calculus-follows
