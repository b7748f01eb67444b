-- Sets of procedures that serve.
use Rattle.std.specs.Prelude.{ℕ, suc, ◌+◌, ◌≡◌, true, false, List, [], length, Some, slice_get}
use Rattle.low_ir.specs.Procedures.{Proc}
use Rattle.low_ir.specs.Closed.{each_closed}
use Rattle.low_ir.specs.Counting.{any_calls}
use Rattle.lowered_code.specs.declared.served.CastWay.{CastWay}
use Rattle.lower.specs.declared.schemes.ProcSet.{ProcSet}
use Rattle.lowered_code.specs.declared.served.Served.{Served}
use Rattle.grift_base.specs.declared.environment.TheConstants.{REGION_OUT_CALL, STACK_OUT_CALL}
use Rattle.lowered_code.specs.Serving.{Serve}

-- the procedures of a set stand in a program, numbered from a first number on
abbrev pub StandFrom : List Proc → ℕ → List Proc → Type 0
StandFrom procs first set = (k : ℕ) (p : Proc) → slice_get set k ≡ Some p → slice_get procs (k + first) ≡ Some p

-- no procedure gives up for want of room by itself, so where a run stops for want of room, room is wanting
abbrev pub GiveUpNowhere : List Proc → Type 0
GiveUpNowhere procs = (any_calls REGION_OUT_CALL procs ≡ false) × (any_calls STACK_OUT_CALL procs ≡ false)

-- Wherever a set stands in a program, those of its procedures that have a number in `numbers` serve, and all of them
-- are closed; none gives up for want of room. Its last two are those of products and quotients.
pub record ServesAnywhere (set : List Proc) (first : ℕ) (numbers : Served) : Type 0 where
  pub serve : (procs : List Proc) → StandFrom procs first set → Serve numbers procs
  pub closed : (procs : List Proc) → StandFrom procs first set → each_closed procs set ≡ true
  pub persist : GiveUpNowhere set
  -- products and quotients stand last, in this order
  pub multiply_last : suc (suc numbers.multiply) ≡ length set + first
  pub divide_last : suc numbers.divide ≡ length set + first

-- casts, parts, calls, reads, writes and vectors numbered from the first on, and products and quotients at these
abbrev pub numbered_from : ℕ → ℕ → ℕ → Served
numbered_from first multiply divide = record {
  cast = first;
  project = 1 + first;
  apply = 2 + first;
  read = 3 + first;
  write = 4 + first;
  fill = 5 + first;
  multiply = multiply;
  divide = divide;
  cast_at = [];
  ways = [];
}

-- the numbers that a set tells, which needn't be in this order
abbrev pub numbers_of : ProcSet → Served
numbers_of set = record (numbered_from set.cast set.multiply set.divide) {
  project = set.project;
  apply = set.apply;
  read = set.read;
  write = set.write;
  fill = set.fill;
}

-- the same numbers, with the words of casts and how these are made
abbrev pub with_casts : Served → List ℕ → List CastWay → Served
with_casts numbers words ways = record numbers { cast_at = words; ways = ways }
