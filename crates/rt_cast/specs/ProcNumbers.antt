-- The number of each procedure, told that of the first one.
use Rattle.std.specs.Prelude.{ℕ}
use Rattle.rt_cast.specs.declared.numbers.CastProc.{CastProc}
use Rattle.rt_cast.specs.declared.numbers.CastProc.TheVariants.{Coerce, Compose, Cast, Project, Part, Raise, Final}
use Rattle.rt_cast.specs.declared.numbers.CastProc.TheVariants.{CoercePart, Pair}
use Rattle.rt_cast.specs.ComposeCodes.{coerce, compose, cast, project, part, raise, final, coerce_part, pair}

abbrev pub cast_proc_number : CastProc → ℕ → ℕ
cast_proc_number Coerce first = coerce first
cast_proc_number Compose first = compose first
cast_proc_number Cast first = cast first
cast_proc_number Project first = project first
cast_proc_number Part first = part first
cast_proc_number Raise first = raise first
cast_proc_number Final first = final first
cast_proc_number CoercePart first = coerce_part first
cast_proc_number Pair first = pair first
