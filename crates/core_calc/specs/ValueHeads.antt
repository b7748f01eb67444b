-- The head of a value, through its wrappers.
use Rattle.std.specs.Prelude.{ℕ, zero, suc, true, false, length}
use Rattle.grift_base.specs.Types.{TypeHead, IntHead, BoolHead, UnitHead, DynHead, FunHead, TupleHead, RefHead}
use Rattle.grift_base.specs.Types.{VectHead}
use Rattle.core_calc.specs.Terms.{Members, Value, IntValue, BoolValue, UnitValue, FunValue, MemberValue, TupleValue}
use Rattle.core_calc.specs.Terms.{LocValue, WrapValue, InjectValue, NoMembers, MemberThen, value_list}

-- the head of a function of a group; of a place that the group has not it is no function's
abbrev pub member_head : Members → ℕ → TypeHead
member_head NoMembers place = UnitHead
member_head (MemberThen name parameters body type rest) zero = FunHead (length parameters)
member_head (MemberThen name parameters body type rest) (suc place) = member_head rest place

-- a wrapper has the head of what it wraps; whatever is in Dyn has the head of Dyn
abbrev pub value_head : Value → TypeHead
value_head (IntValue n) = IntHead
value_head (BoolValue b) = BoolHead
value_head UnitValue = UnitHead
value_head (FunValue parameters body type) = FunHead (length parameters)
value_head (MemberValue members place) = member_head members place
value_head (TupleValue values) = TupleHead (length (value_list values))
value_head (LocValue cell true) = VectHead
value_head (LocValue cell false) = RefHead
value_head (WrapValue v from label to) = value_head v
value_head (InjectValue v kept) = DynHead
