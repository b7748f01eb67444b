-- The compiler's procedures as those of the definitions: what their boxes hold, and not where.
use Rattle.std.specs.Prelude.{List, map}
use Rattle.flat_ir.specs.declared.code.FlatBody.{FlatBody}
use Rattle.flat_ir.specs.declared.code.FlatBody.TheVariants.{Give as GiveCase, Call as CallCase, Choose' as ChooseCase}
use Rattle.flat_ir.specs.declared.code.FlatBody.TheVariants.{LetBody' as LetBodyCase, LetGroup' as LetGroupCase}
use Rattle.flat_ir.specs.declared.programs.FlatProc.{FlatProc}
use Rattle.flat_ir.specs.Bodies.{Body, Give, Call, Choose, LetBody, LetGroup, Proc}

abbrev pub body_of : FlatBody → Body
body_of (GiveCase operation) = Give operation
body_of (CallCase function arguments) = Call function arguments
body_of (ChooseCase o _ on_true _ on_false) = Choose o (body_of on_true) (body_of on_false)
body_of (LetBodyCase slot _ inner _ rest) = LetBody slot (body_of inner) (body_of rest)
body_of (LetGroupCase slot first count captured _ rest) = LetGroup slot first count captured (body_of rest)

abbrev pub proc_of : FlatProc → Proc
proc_of p = record {
  params = p.params;
  captured = p.captured;
  group = p.group;
  place = p.place;
  body = body_of p.body;
}

abbrev pub procs_of : List FlatProc → List Proc
procs_of procs = map proc_of procs
