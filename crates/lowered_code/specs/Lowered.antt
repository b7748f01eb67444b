-- The procedures over words of a flat program.
use Rattle.std.specs.Prelude.{ℕ, suc, ◌+◌, List, [], ◌∷◌, ◌++◌, map}
use Rattle.grift_base.specs.declared.environment.TheConstants.{END_CALL}
use Rattle.grift_base.specs.declared.verdicts.AnswerKind.TheVariants.{Int, Bool, Unit, Function, Tuple, Boxed, Vector}
use Rattle.grift_base.specs.AnswerKind.{answer_kind_number}
use Rattle.object_layout.specs.declared.kinds.Kind.TheVariants.{IntType, BoolType, UnitType, FunType, TupleType}
use Rattle.object_layout.specs.declared.kinds.Kind.TheVariants.{RefType}
use Rattle.object_layout.specs.Kinds.{kind_number}
use Rattle.machine_words.specs.declared.conditions.Cond.TheVariants.{Eq}
use Rattle.low_ir.specs.declared.code.WordOp.TheVariants.{Add, And, Sra}
use Rattle.low_ir.specs.declared.code.LowSource.{LowSource}
use Rattle.low_ir.specs.declared.code.LowSource.TheVariants.{Word, Number}
use Rattle.low_ir.specs.Procedures.{Code, Done, Compute, Load, Environment, Call, If, Return, Proc}
use Rattle.grift_base.specs.Types.{TypeRow, IntRow, BoolRow, UnitRow, DynRow, FunRow, TupleRow, RefRow, VectRow}
use Rattle.flat_ir.specs.Bodies.{Proc as FlatProc}
use Rattle.flat_ir.specs.Levels.{levels}
use Rattle.lowered_code.specs.declared.numbering.Shape.{Shape}
use Rattle.lowered_code.specs.declared.served.Served.{Served}
use Rattle.object_layout.specs.Words.{kind_mask, tag_shift, tag_mask, type_over_tag}
use Rattle.lowered_code.specs.Emit.{ToCaller, emit}

abbrev pub shape_of : FlatProc → Shape
shape_of p = record { params = p.params; captured = p.captured; place = p.place }

-- the procedure over words of a flat one: it takes the function that is called, and the arguments
abbrev pub low_proc : Served → FlatProc → Proc
low_proc run p = record {
  params = suc p.params;
  words = levels p.params p.body + 10;
  code = emit run (shape_of p) p.body ToCaller;
}

-- ---- the answer

-- the run ends with an answer of a kind and a word; behind it stands what is never done
abbrev pub ends : ℕ → LowSource → Code
ends kind w = Environment END_CALL (Number kind) w 1 1 (Return (Number 0))

-- of a value in Dyn that has parts: what it is is told by the kind of its type, which is in word 1
abbrev pub show_compound : Code
show_compound =
    If Eq (Word 1) (Number (kind_number FunType)) (ends (answer_kind_number Function) (Number 0)) Done (
    If Eq (Word 1) (Number (kind_number TupleType)) (ends (answer_kind_number Tuple) (Number 0)) Done (
    If Eq (Word 1) (Number (kind_number RefType)) (ends (answer_kind_number Boxed) (Number 0)) Done (
    ends (answer_kind_number Vector) (Number 0))))

-- of any value in Dyn, whose word is in word 2
abbrev pub show_kept : Code
show_kept =
    If Eq (Word 1) (Number (kind_number IntType)) (ends (answer_kind_number Int) (Word 2)) Done (
    If Eq (Word 1) (Number (kind_number BoolType)) (ends (answer_kind_number Bool) (Word 2)) Done (
    If Eq (Word 1) (Number (kind_number UnitType)) (ends (answer_kind_number Unit) (Number 0)) Done show_compound))

-- of a value in Dyn the kind of the type is put into word 1, and the value's word into word 2: of an object, and of
-- what stands behind a tag
abbrev pub open_object : Code
open_object =
    Load 1 (Word 0) 8 (
    Load 1 (Word 1) 0 (
    Compute And 1 (Word 1) (Number kind_mask) (
    Load 2 (Word 0) 16 Done)))

abbrev pub open_small : Code
open_small = Compute Add 1 (Word 1) (Number type_over_tag) (Compute Sra 2 (Word 0) (Number tag_shift) Done)

-- the answer in word 0 is shown by its type
abbrev pub show_by : TypeRow → Code
show_by IntRow = ends (answer_kind_number Int) (Word 0)
show_by BoolRow = ends (answer_kind_number Bool) (Word 0)
show_by UnitRow = ends (answer_kind_number Unit) (Number 0)
show_by DynRow =
    Compute And 1 (Word 0) (Number tag_mask) (If Eq (Word 1) (Number 0) open_object open_small show_kept)
show_by (FunRow parameters answer) = ends (answer_kind_number Function) (Number 0)
show_by (TupleRow parts) = ends (answer_kind_number Tuple) (Number 0)
show_by (RefRow content) = ends (answer_kind_number Boxed) (Number 0)
show_by (VectRow content) = ends (answer_kind_number Vector) (Number 0)

-- the procedure that a program begins with: it calls the flat one of this number, which belongs to no group, and ends
-- with its answer
abbrev pub entry_proc : ℕ → TypeRow → Proc
entry_proc entry answer = record {
  params = 0;
  words = 3;
  code = Call 0 entry (Number 0 ∷ []) (show_by answer);
}

-- all procedures: the flat ones by their numbers, the one to begin with, and those that serve, of which the numbers in
-- `run` go on from here
abbrev pub lowered : Served → List FlatProc → ℕ → TypeRow → List Proc → List Proc
lowered run procs entry answer serving = map (low_proc run) procs ++ entry_proc entry answer ∷ serving
