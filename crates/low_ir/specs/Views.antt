-- The procedures of the compiler as those of the definitions: what their boxes hold, and not where.
use Rattle.std.specs.Prelude.{List, map}
use Rattle.low_ir.specs.declared.code.LowCode.{LowCode}
use Rattle.low_ir.specs.declared.code.LowCode.TheVariants.{Done as DoneCase, Set' as SetCase, Compute' as ComputeCase}
use Rattle.low_ir.specs.declared.code.LowCode.TheVariants.{Load' as LoadCase, Store' as StoreCase}
use Rattle.low_ir.specs.declared.code.LowCode.TheVariants.{CodeOf' as CodeOfCase}
use Rattle.low_ir.specs.declared.code.LowCode.TheVariants.{Build' as BuildCase, Request' as RequestCase}
use Rattle.low_ir.specs.declared.code.LowCode.TheVariants.{Take' as TakeCase}
use Rattle.low_ir.specs.declared.code.LowCode.TheVariants.{Environment' as EnvironmentCase, Call' as CallCase}
use Rattle.low_ir.specs.declared.code.LowCode.TheVariants.{CallAt' as CallAtCase, If' as IfCase, Return as ReturnCase}
use Rattle.low_ir.specs.declared.code.LowCode.TheVariants.{TailCall as TailCallCase, TailCallAt as TailCallAtCase}
use Rattle.low_ir.specs.declared.programs.LowProc.{LowProc}
use Rattle.low_ir.specs.Procedures.{Code, Done, Set, Compute, Load, Store, CodeOf, Build, Request, Take, Environment}
use Rattle.low_ir.specs.Procedures.{Call}
use Rattle.low_ir.specs.Procedures.{CallAt, If, Return, TailCall, TailCallAt, Proc}

abbrev pub code_of : LowCode → Code
code_of DoneCase = Done
code_of (SetCase d a _ rest) = Set d a (code_of rest)
code_of (ComputeCase op d a b _ rest) = Compute op d a b (code_of rest)
code_of (LoadCase d a offset _ rest) = Load d a offset (code_of rest)
code_of (StoreCase b a offset _ rest) = Store b a offset (code_of rest)
code_of (CodeOfCase d k _ rest) = CodeOf d k (code_of rest)
code_of (BuildCase d words _ rest) = Build d words (code_of rest)
code_of (RequestCase d a _ rest) = Request d a (code_of rest)
code_of (TakeCase a _ rest) = Take a (code_of rest)
code_of (EnvironmentCase number a b d e _ rest) = Environment number a b d e (code_of rest)
code_of (CallCase d k words _ rest) = Call d k words (code_of rest)
code_of (CallAtCase d f words _ rest) = CallAt d f words (code_of rest)
code_of (IfCase cond a b _ one _ other _ rest) = If cond a b (code_of one) (code_of other) (code_of rest)
code_of (ReturnCase a) = Return a
code_of (TailCallCase k words) = TailCall k words
code_of (TailCallAtCase f words) = TailCallAt f words

abbrev pub proc_of : LowProc → Proc
proc_of p = record { params = p.params; words = p.words; code = code_of p.code }

abbrev pub procs_of : List LowProc → List Proc
procs_of procs = map proc_of procs
