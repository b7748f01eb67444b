-- Programs in which every name is bound before it is used, with its level, every procedure that is named is there, and
-- what is written in code fits: integers, numbers of parts and labels in words, operands and parts in number.
use Rattle.std.specs.Prelude.{ℕ, ℤ, suc, ◌+◌, ◌^◌, ◌==◌, ◌&&◌, ◌||◌, nat_lt, nat_le, Bool, true, false, List, []}
use Rattle.std.specs.Prelude.{◌∷◌, length, Option, Some, None, slice_get}
use Rattle.std.specs.Int.{int_wrap, w64}
use Rattle.std.specs.Ordering.{int_eq}
use Rattle.flat_ir.specs.declared.code.Operand.{Operand}
use Rattle.flat_ir.specs.declared.code.Operand.TheVariants.{Local, Captured, Sibling, Int, Bool as BoolCase}
use Rattle.flat_ir.specs.declared.code.Operand.TheVariants.{Unit as UnitCase}
use Rattle.flat_ir.specs.declared.code.Operation.{Operation}
use Rattle.flat_ir.specs.declared.code.Operation.TheVariants.{Move, Prim, Cast, Tuple, Proj, ProjDyn}
use Rattle.flat_ir.specs.Bodies.{Body, Give, Call, Choose, LetBody, LetGroup, Proc}

-- the number of a part of what is in Dyn is one of 64 bits with a sign, and its label one of 32
abbrev pub part_has_words : ℤ → ℕ → Bool
part_has_words k label = nat_lt label (2 ^ 32) && int_eq (int_wrap w64 k) k

-- with so many captured names and functions in the group
module _ (captured group : ℕ) where
  -- a name below this level, and an integer in 64 bits
  abbrev pub operand_bound : ℕ → Operand → Bool
  operand_bound depth (Local i) = nat_lt i depth
  operand_bound depth (Captured i) = nat_lt i captured
  operand_bound depth (Sibling i) = nat_lt i group
  operand_bound depth (Int n) = int_eq (int_wrap w64 n) n
  operand_bound depth (BoolCase b) = true
  operand_bound depth UnitCase = true

  abbrev pub operands_bound : ℕ → List Operand → Bool
  operands_bound depth [] = true
  operands_bound depth (o ∷ os) = operand_bound depth o && operands_bound depth os

  abbrev pub operation_bound : ℕ → Operation → Bool
  operation_bound depth (Move o) = operand_bound depth o
  operation_bound depth (Prim operator os) = operands_bound depth os && nat_le (length os) 8
  operation_bound depth (Cast o number) = operand_bound depth o
  operation_bound depth (Tuple os) = operands_bound depth os && (nat_le 1 (length os) && nat_le (length os) 8)
  operation_bound depth (Proj o k) = operand_bound depth o
  operation_bound depth (ProjDyn o k label) = operand_bound depth o && part_has_words k label.0

-- the first procedure of a group of so many functions, one at least, with so many captured names
abbrev pub begins_group : Option Proc → ℕ → ℕ → Bool
begins_group (Some p) count captured =
    (p.place == 0) && (nat_lt 0 count && ((p.group == count) && (p.captured == captured)))
begins_group None count captured = false

-- the next function of the group of a procedure
abbrev pub is_next : Option Proc → Proc → Bool
is_next (Some q) p = (q.place == suc p.place) && ((q.group == p.group) && (q.captured == p.captured))
is_next None p = false

module _ (procs : List Proc) where
  module _ (captured group : ℕ) where
    -- of a body in which the local names below this level are bound
    abbrev pub body_bound : ℕ → Body → Bool
    body_bound depth (Give operation) = operation_bound captured group depth operation
    body_bound depth (Call f os) =
        operand_bound captured group depth f && (operands_bound captured group depth os && nat_le (length os) 6)
    body_bound depth (Choose o on_true on_false) =
        operand_bound captured group depth o && (body_bound depth on_true && body_bound depth on_false)
    body_bound depth (LetBody slot inner rest) =
        (slot == depth) && (body_bound depth inner && body_bound (suc depth) rest)
    body_bound depth (LetGroup slot first count names rest) =
        (slot == depth) && (begins_group (slice_get procs first) count (length names)
        && (operands_bound captured group depth names && body_bound (depth + count) rest))

  -- of a procedure, and the one behind it: that is the next function of its group, if the group has more
  abbrev pub proc_closed : Option Proc → Proc → Bool
  proc_closed next p =
      nat_le p.params 6 && ((nat_le p.group (suc p.place) || is_next next p)
      && body_bound p.captured p.group p.params p.body)

  abbrev pub each_closed : List Proc → Bool
  each_closed [] = true
  each_closed (p ∷ rest) = proc_closed (slice_get rest 0) p && each_closed rest

-- the procedure that a program begins with: it belongs to no group
abbrev pub takes_nothing : Option Proc → Bool
takes_nothing (Some p) = (p.params == 0) && ((p.captured == 0) && (p.group == 0))
takes_nothing None = false

abbrev pub is_closed : List Proc → ℕ → Bool
is_closed procs entry = takes_nothing (slice_get procs entry) && each_closed procs procs
