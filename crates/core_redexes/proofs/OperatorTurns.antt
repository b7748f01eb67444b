-- What a clause that speaks of all types, cells and worlds says of those at hand.
use Rattle.std.proofs.Common.{◌≡◌, ℕ, ℤ, sym, ap, ◌∙◌, subst, Option, Some, None, Result, Ok, Err, List}
use Rattle.std.specs.Prelude.{IfOk, option_and_then}
use Rattle.grift_base.specs.World.{WorldState}
use Rattle.grift_base.specs.Types.{TypeRow, TypeRows, content_of, row_at}
use Rattle.grift_base.specs.declared.operators.PrimOp.{PrimOp}
use Rattle.core_calc.specs.Terms.{Term, Terms, Value, Cast, Prim, ValueTerm, IntValue, NoTerms, TermThen, all_values}
use Rattle.core_calc.specs.Outcome.{Store, Outcome, Goes, Stuck, with_some}
use Rattle.core_calc.specs.Operators.{cast_written, operator_step}
use Rattle.core_calc.proofs.Public.{none_is_not_some}
use Rattle.core_redexes.specs.Moves.{after}
use Rattle.core_redexes.specs.Redexes.{prim_redex}
use Rattle.core_redexes.specs.declared.moves.Moved.TheVariants.{Goes as GoesOn}
use Rattle.core_redexes.specs.declared.operators.Turn.{Turn}
use Rattle.core_redexes.specs.Turns.{LeadsTo, cast_operand, cast_where, few, integers_step, on_integers, turn_after}
use Rattle.core_redexes.proofs.OperatorCounts.{few_operands}

-- the step gives a number, which is computed as another
pub number_given : (store : Store) (world : WorldState) (old : Term) (computed given : ℤ) → computed ≡ given →
    after (Goes (ValueTerm (IntValue given)) store world) old store world
    ≡ record { moved = GoesOn; item = ValueTerm (IntValue computed); store = store; world = world }
number_given store world old computed given e =
    ap (λ (n : ℤ). after (Goes (ValueTerm (IntValue n)) store world) old store world) (sym e)

-- an outcome that is another leads where that leads
pub leads_too : (one other : Outcome Term) (store : Store) (world : WorldState) (turn : Turn) (next : Store)
    (next_world : WorldState) → one ≡ other → LeadsTo other store world turn next next_world →
    LeadsTo one store world turn next next_world
leads_too one other store world turn next next_world e h =
    subst (λ outcome. LeadsTo outcome store world turn next next_world) (sym e) h

-- what holds of an answer and follows for it
pub onward : {A E : Type 0} {P Q : A → Type 0} (result : Result A E) → IfOk result P → ((a : A) → P a → Q a) →
    IfOk result Q
onward (Ok a) h f = f a h
onward (Err e) h f = tt

-- an operator on two integers, which a call was told as these
pub integers_passed : (operator called : PrimOp) (a m b n : ℤ) (turn : Turn) → operator ≡ called → m ≡ a → n ≡ b →
    ((types : TypeRows) (store : Store) (world : WorldState) →
    LeadsTo (integers_step types store world called m n) store world turn store world) →
    (types : TypeRows) (store : Store) (world : WorldState) →
    LeadsTo (integers_step types store world operator a b) store world turn store world
integers_passed operator called a m b n turn is e f h types store world =
    leads_too (integers_step types store world operator a b) (integers_step types store world called m n) store world
    turn store world
    (ap (λ (o : PrimOp). integers_step types store world o a b) is
    ∙ ap (λ (x : ℤ). integers_step types store world called x b) (sym e)
    ∙ ap (λ (y : ℤ). integers_step types store world called m y) (sym f)) (h types store world)

-- an operator on two values that are integers
pub values_passed : (operator : PrimOp) (first second : Value) (a m b n : ℤ) (turn : Turn) → first ≡ IntValue a →
    second ≡ IntValue b → m ≡ a → n ≡ b →
    ((types : TypeRows) (store : Store) (world : WorldState) →
    LeadsTo (integers_step types store world operator m n) store world turn store world) →
    (types : TypeRows) (store : Store) (world : WorldState) →
    LeadsTo (on_integers types store world operator first second) store world turn store world
values_passed operator first second a m b n turn is are e f h types store world =
    leads_too (on_integers types store world operator first second) (integers_step types store world operator m n) store
    world turn store world
    (ap (λ (x : Value). on_integers types store world operator x second) (is ∙ ap IntValue (sym e))
    ∙ ap (λ (y : Value). on_integers types store world operator (IntValue m) y) (are ∙ ap IntValue (sym f)))
    (h types store world)

-- the operands of an operator are few values, and what they lead to is what stands then
pub operator_taken : (types : TypeRows) (store : Store) (world : WorldState) (term : Term) (operator : PrimOp)
    (operands : Terms) (found : Option (List Value)) (turn given : Turn) (next : Store) (next_world : WorldState) →
    term ≡ Prim operator operands → found ≡ few (all_values operands) →
    LeadsTo (with_some found (operator_step types store world operator)) store world turn next next_world →
    turn ≡ given →
    after (prim_redex types store world term) term store world
    ≡ turn_after given term next next_world
operator_taken types store world term operator operands found turn given next next_world is e h same =
    ap (λ (t : Term). after (prim_redex types store world t) term store world) is
    ∙ ap (λ (o : Outcome Term). after o term store world)
    (few_operands types store world operator (all_values operands))
    ∙ ap (λ (values : Option (List Value)). after (with_some values (operator_step types store world operator)) term
    store world) (sym e) ∙ h term ∙ ap (λ (t : Turn). turn_after t term next next_world) same

-- a write of a value through a wrapper goes on with the same write behind it, of the value in a cast
module _ (types : TypeRows) (store : Store) (world : WorldState) (rest : Terms → Term) (v : Value) (label : ℕ) where
  abbrev written : ℕ → ℕ → Outcome Term
  written inner outer = Goes (rest (TermThen (Cast (ValueTerm v) outer inner label) NoTerms)) store world

  contents_written : (a b : Option ℕ) (last : Terms) → cast_where a b v label ≡ Some last →
      with_some a (λ inner. with_some b (written inner)) ≡ Goes (rest last) store world
  contents_written (Some inner) (Some outer) last e = ap (λ o. with_some o (λ terms. Goes (rest terms) store world)) e
  contents_written None b last e = absurd (none_is_not_some last e)
  contents_written (Some inner) None last e = absurd (none_is_not_some last e)

  rows_written : (o p : Option TypeRow) (last : Terms) →
      cast_where (option_and_then content_of o) (option_and_then content_of p) v label ≡ Some last →
      with_some o (λ row. with_some p (λ other. with_some (content_of row) (λ inner. with_some (content_of other)
      (written inner)))) ≡ Goes (rest last) store world
  rows_written (Some row) (Some other) last e = contents_written (content_of row) (content_of other) last e
  rows_written None p last e = absurd (none_is_not_some last e)
  rows_written (Some row) None last e = no_content (content_of row) e
    where
      no_content : (a : Option ℕ) → cast_where a None v label ≡ Some last →
          Stuck ≡ Goes (rest last) store world
      no_content None e = absurd (none_is_not_some last e)
      no_content (Some inner) e = absurd (none_is_not_some last e)

  pub written_through : (from to : ℕ) (last : Terms) (next old : Term) →
      cast_operand types v from to label ≡ Some last → rest last ≡ next →
      after (cast_written types store world (λ term. rest (TermThen term NoTerms)) v from to label) old store world
      ≡ record { moved = GoesOn; item = next; store = store; world = world }
  written_through from to last next old e f =
      ap (λ o. after o old store world) (rows_written (row_at types from) (row_at types to) last e)
      ∙ ap (λ x. after {A = Term} (Goes x store world) old store world) f
