-- What an operator comes to, by the number of its operands.
use Rattle.std.specs.Prelude.{◌≡◌, ℕ, ℤ, pos, negsuc, nat_lt, cond, List, [], ◌∷◌, length, Option, Some, None}
use Rattle.std.specs.Prelude.{option_and_then, slice_get, slice_set, true, ◌<◌, IfSome}
use Rattle.grift_base.specs.World.{WorldState}
use Rattle.grift_base.specs.Types.{TypeRows, row_at, content_of}
use Rattle.grift_base.specs.declared.operators.PrimOp.{PrimOp}
use Rattle.grift_base.specs.declared.operators.PrimOp.TheVariants.{Add, Sub, Mul, Quot, Rem, Lt, Le, Eq, Ge, Gt, Not}
use Rattle.grift_base.specs.declared.operators.PrimOp.TheVariants.{PrintInt, Newline, ReadInt, MakeBox, Unbox, BoxSet}
use Rattle.grift_base.specs.declared.operators.PrimOp.TheVariants.{MakeVector, VectorRef, VectorSet, VectorLength}
use Rattle.core_calc.specs.Terms.{Term, Terms, Value, Cast, Prim, ValueTerm, TermThen, NoTerms, IntValue, UnitValue}
use Rattle.core_calc.specs.Terms.{LocValue, WrapValue, terms_from}
use Rattle.core_calc.specs.Outcome.{Store, Outcome}
use Rattle.core_calc.specs.Outcome.{Goes as GoesOutcome, Stuck as StuckOutcome}
use Rattle.core_calc.specs.Operators.{cast_written, operator_step}
use Rattle.core_calc.specs.Views.{term_of, value_of}
use Rattle.core_redexes.specs.Moves.{After, after}
use Rattle.core_redexes.specs.declared.moves.Moved.TheVariants.{Goes as GoesOn, Traps as TrapsSo, Stuck as IsStuck}
use Rattle.core_redexes.specs.declared.operators.Turn.{Turn}
use Rattle.core_redexes.specs.declared.operators.Turn.TheVariants.{Becomes, Traps, Stuck}
use Rattle.core_redexes.specs.declared.operators.Operands.{Operands}
use Rattle.core_redexes.specs.declared.operators.Operands.TheVariants.{Zero, One, Two, Three, Others}

-- what stands then, in the place of this term, with these cells and this outside
abbrev pub turn_after : Turn → Term → Store → WorldState → After Term
turn_after (Becomes core) old store world =
    record { moved = GoesOn; item = term_of core; store = store; world = world }
turn_after (Traps trap) old store world =
    record { moved = TrapsSo trap; item = old; store = store; world = world }
turn_after Stuck old store world = record { moved = IsStuck; item = old; store = store; world = world }

-- whatever term stood there, the outcome at these cells and this outside is this turn, with those behind it then
abbrev pub LeadsTo : Outcome Term → Store → WorldState → Turn → Store → WorldState → Type 0
LeadsTo outcome store world turn next_store next_world =
    (old : Term) → after outcome old store world ≡ turn_after turn old next_store next_world

-- so with all types, cells and outsides, which it leaves as they are
abbrev pub LeadsAlways : (TypeRows → Store → WorldState → Outcome Term) → Turn → Type 0
LeadsAlways outcome turn = (types : TypeRows) (store : Store) (world : WorldState) →
    LeadsTo (outcome types store world) store world turn store world

-- operands as a list, where there are at most three
abbrev pub values_in : Operands → Option (List Value)
values_in Zero = Some []
values_in (One a) = Some (value_of a ∷ [])
values_in (Two a b) = Some (value_of a ∷ value_of b ∷ [])
values_in (Three a b c) = Some (value_of a ∷ value_of b ∷ value_of c ∷ [])
values_in Others = None

-- values, where there are at most three
abbrev pub few : Option (List Value) → Option (List Value)
few (Some (a ∷ b ∷ c ∷ d ∷ rest)) = None
few values = values

module _ (types : TypeRows) (store : Store) (world : WorldState) where
  -- operators on two integers; the others are stuck
  abbrev pub integers_step : PrimOp → ℤ → ℤ → Outcome Term
  integers_step Add a b = operator_step types store world Add (IntValue a ∷ IntValue b ∷ [])
  integers_step Sub a b = operator_step types store world Sub (IntValue a ∷ IntValue b ∷ [])
  integers_step Mul a b = operator_step types store world Mul (IntValue a ∷ IntValue b ∷ [])
  integers_step Quot a b = operator_step types store world Quot (IntValue a ∷ IntValue b ∷ [])
  integers_step Rem a b = operator_step types store world Rem (IntValue a ∷ IntValue b ∷ [])
  integers_step Lt a b = operator_step types store world Lt (IntValue a ∷ IntValue b ∷ [])
  integers_step Le a b = operator_step types store world Le (IntValue a ∷ IntValue b ∷ [])
  integers_step Eq a b = operator_step types store world Eq (IntValue a ∷ IntValue b ∷ [])
  integers_step Ge a b = operator_step types store world Ge (IntValue a ∷ IntValue b ∷ [])
  integers_step Gt a b = operator_step types store world Gt (IntValue a ∷ IntValue b ∷ [])
  integers_step _ a b = StuckOutcome

  -- the same on values
  abbrev pub on_integers : PrimOp → Value → Value → Outcome Term
  on_integers operator (IntValue a) (IntValue b) = integers_step operator a b
  on_integers operator _ _ = StuckOutcome

  -- operators without operands; the others are stuck
  abbrev pub zero_step : PrimOp → Outcome Term
  zero_step Newline = operator_step types store world Newline []
  zero_step ReadInt = operator_step types store world ReadInt []
  zero_step _ = StuckOutcome

  -- operators of one operand; the others are stuck
  abbrev pub one_step : PrimOp → Value → Outcome Term
  one_step Not v = operator_step types store world Not (v ∷ [])
  one_step PrintInt v = operator_step types store world PrintInt (v ∷ [])
  one_step MakeBox v = operator_step types store world MakeBox (v ∷ [])
  one_step Unbox v = operator_step types store world Unbox (v ∷ [])
  one_step VectorLength v = operator_step types store world VectorLength (v ∷ [])
  one_step _ v = StuckOutcome

  -- operators of two operands; the others are stuck
  abbrev pub two_step : PrimOp → Value → Value → Outcome Term
  two_step BoxSet a b = operator_step types store world BoxSet (a ∷ b ∷ [])
  two_step MakeVector a b = operator_step types store world MakeVector (a ∷ b ∷ [])
  two_step VectorRef a b = operator_step types store world VectorRef (a ∷ b ∷ [])
  two_step operator a b = on_integers operator a b

  -- operators of three operands; the others are stuck
  abbrev pub three_step : PrimOp → Value → Value → Value → Outcome Term
  three_step VectorSet a b c = operator_step types store world VectorSet (a ∷ b ∷ c ∷ [])
  three_step _ a b c = StuckOutcome

-- the only value of a cell
abbrev pub only_value : List Value → Option Value
only_value (v ∷ []) = Some v
only_value _ = None

-- the index as a place, where it is below the length
abbrev pub place_below : ℤ → ℕ → Option ℕ
place_below (pos k) length = cond (nat_lt k length) (Some k) None
place_below (negsuc k) length = None

-- the value at an index
abbrev pub element_at : List Value → ℤ → Option Value
element_at cell (pos k) = slice_get cell k
element_at cell (negsuc k) = None

-- the number of a vector's cell, behind all its wrappers
abbrev pub vector_cell : Value → Option ℕ
vector_cell (LocValue cell true) = Some cell
vector_cell (WrapValue v from label to) = vector_cell v
vector_cell _ = None

abbrev pub cast_where : Option ℕ → Option ℕ → Value → ℕ → Option Terms
cast_where (Some inner) (Some outer) v label = Some (TermThen (Cast (ValueTerm v) outer inner label) NoTerms)
cast_where _ _ v label = None

-- a value that is written through a wrapper, as the last operand
abbrev pub cast_operand : TypeRows → Value → ℕ → ℕ → ℕ → Option Terms
cast_operand types v from to label =
    cast_where (option_and_then content_of (row_at types from)) (option_and_then content_of (row_at types to)) v label

abbrev pub written_in : Store → ℕ → Option (List Value) → ℕ → Value → Store
written_in store cell (Some elements) place v = slice_set store cell (slice_set elements place v)
written_in store cell None place v = store

-- the store with a value at a place of a cell; as it is where it has no such cell
abbrev pub element_written : Store → ℕ → ℕ → Value → Store
element_written store cell place v = written_in store cell (slice_get store cell) place v

-- the cell of a location has this place
abbrev pub HasElement : Store → Value → ℕ → Type 0
HasElement store (LocValue cell is_vector) place =
    (cell < length store) × IfSome (slice_get store cell) (λ elements. place < length elements)
HasElement store _ place = Unit {0}

-- what a write to a vector comes to, at an index that is this place of its cell
abbrev pub element_set : TypeRows → Store → WorldState → Value → ℤ → ℕ → Value → Outcome Term
element_set types store world (LocValue cell is_vector) index place v =
    GoesOutcome (ValueTerm UnitValue) (element_written store cell place v) world
element_set types store world (WrapValue vector from label to) index place v =
    cast_written types store world
    (λ written. Prim VectorSet (terms_from (ValueTerm vector ∷ ValueTerm (IntValue index) ∷ written ∷ []))) v from to
    label
element_set types store world _ index place v = StuckOutcome
