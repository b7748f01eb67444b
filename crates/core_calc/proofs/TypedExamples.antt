-- Types of small programs, and tables of types.
use Rattle.std.proofs.Common.{◌≡◌, ℕ, zero, suc, ◌<◌, List, [], ◌∷◌, Option, Some, refl, true, false, sym, ap, subst}
use Rattle.std.proofs.Common.{arith, length, slice_get, pos}
use Rattle.std.specs.Prelude.{All}
use Rattle.std.proofs.lemmas.List.Elements.{All-nil, All-cons}
use Rattle.grift_base.specs.Tables.{HasNoRepeats}
use Rattle.grift_base.specs.Types.{TypeRow, TypeRows, IntRow, BoolRow, UnitRow, DynRow, FunRow, row_at, parts_of}
use Rattle.grift_base.specs.Types.{TupleRow, RefRow}
use Rattle.core_calc.specs.Terms.{Term, Terms, IntLit, BoolLit, Var, Lambda, Let, Call, Enter, If, Seq, Cast, Proj}
use Rattle.core_calc.specs.Terms.{Tuple}
use Rattle.core_calc.specs.Terms.{ValueTerm, NoTerms, TermThen, NoBindings, BindingThen, IntValue, LocValue}
use Rattle.core_calc.specs.Calculus.{CalcState, state_of}
use Rattle.core_calc.specs.Typing.{HasType, IsTypeTable, ProgramTermHasType, StateHasType}
use Rattle.core_calc.specs.TypeOf.{and_then, program_type}
use Rattle.core_calc.proofs.TypesComputed.{no_program_term}

-- ---- tables of types

-- what stands nowhere in a list may stand in front of it
no_repeats_in_front : {T : Type 0} (x : T) (xs : List T) → ((j : ℕ) → Some x ≡ slice_get xs j → ⊥) → HasNoRepeats xs →
    HasNoRepeats (x ∷ xs)
no_repeats_in_front x xs absent apart zero zero within e = refl
no_repeats_in_front x xs absent apart zero (suc j) within e = absurd (absent j e)
no_repeats_in_front x xs absent apart (suc i) zero within e = absurd (absent i (sym e))
no_repeats_in_front x xs absent apart (suc i) (suc j) within e = ap suc (apart i j (omega arith) e)

nothing_repeats : {T : Type 0} → HasNoRepeats {T = T} []
nothing_repeats i j within e = absurd (omega arith)

abbrev last_row : TypeRows
last_row = FunRow (0 ∷ []) 0 ∷ []

abbrev last_rows : TypeRows
last_rows = DynRow ∷ last_row

abbrev rows : TypeRows
rows = BoolRow ∷ last_rows

bool_once : (j : ℕ) → Some BoolRow ≡ slice_get last_rows j → ⊥
bool_once zero e = cc
bool_once (suc zero) e = cc
bool_once (suc (suc j)) e = cc

dyn_once : (j : ℕ) → Some DynRow ≡ slice_get last_row j → ⊥
dyn_once zero e = cc
dyn_once (suc j) e = cc

function_once : (j : ℕ) → Some (FunRow (0 ∷ []) 0) ≡ slice_get [] j → ⊥
function_once j e = cc

rows_are_distinct : HasNoRepeats rows
rows_are_distinct =
    no_repeats_in_front BoolRow last_rows bool_once (no_repeats_in_front DynRow last_row dyn_once
    (no_repeats_in_front (FunRow (0 ∷ []) 0) [] function_once nothing_repeats))

abbrev IsRow : ℕ → Type 0
IsRow part = part < length rows

abbrev HasRows : TypeRow → Type 0
HasRows row = All IsRow (parts_of row)

-- both parts of the third row are the first row
third_row_has_rows : HasRows (FunRow (0 ∷ []) 0)
third_row_has_rows = All-cons IsRow 0 (0 ∷ []) (omega arith) (All-cons IsRow 0 [] (omega arith) (All-nil IsRow))

rows_are_closed : All HasRows rows
rows_are_closed =
    All-cons HasRows BoolRow last_rows (All-nil IsRow) (All-cons HasRows DynRow last_row (All-nil IsRow)
    (All-cons HasRows (FunRow (0 ∷ []) 0) [] third_row_has_rows (All-nil HasRows)))

rows_are_a_table : IsTypeTable rows
rows_are_a_table = record { distinct = rows_are_distinct; closed = rows_are_closed }

-- the type of the parameter of the fifth row is no row
abbrev with_a_part_missing : TypeRows
with_a_part_missing = IntRow ∷ BoolRow ∷ UnitRow ∷ DynRow ∷ FunRow (9 ∷ []) 1 ∷ FunRow (1 ∷ []) 1 ∷ []

part_missing_refused : IsTypeTable with_a_part_missing → ⊥
part_missing_refused table =
    let below : 9 < 6 = table.closed 4 IntRow (omega arith) 0 0 (omega arith) in
    omega arith

-- ((: (lambda ([x : T]) : Bool #t) (Bool -> Bool)) #t), where T is the type that is missing: all else is as it should
-- be, and its run goes wrong
typed_but_for_the_table : HasType with_a_part_missing 1 [] [] (Call (Cast (Lambda (0 ∷ []) (BoolLit true) 4) 4 5 0)
    (TermThen (BoolLit true) NoTerms)) 1
typed_but_for_the_table = (
  5,
  1 ∷ [],
  (refl, (refl, (9 ∷ [], 1, (0, 9) ∷ [], refl, refl, refl)), (FunRow (1 ∷ []) 1, refl), omega arith),
  refl,
  (1, [], refl, refl, refl),
)

-- Dyn at two places
dyn_twice_refused : IsTypeTable (DynRow ∷ BoolRow ∷ DynRow ∷ []) → ⊥
dyn_twice_refused table =
    let same : ◌≡◌ {A = ℕ} 0 2 = table.distinct 0 2 (omega arith) refl in
    omega arith

-- ---- types of programs

-- ((lambda ([x : Bool]) : Bool x) #t)
abbrev identity_call : Term
identity_call = Call (Lambda (0 ∷ []) (Var 0) 2) (TermThen (BoolLit true) NoTerms)

identity_called : HasType rows 1 [] [] identity_call 0
identity_called =
    (2, 0 ∷ [], (refl, (0 ∷ [], 0, (0, 0) ∷ [], refl, refl, refl)), refl, (0, [], refl, refl, refl))

no_binder_else : (j : ℕ) → ◌≡◌ {A = Option ℕ} (Some 0) (slice_get [] j) → ⊥
no_binder_else j e = cc

identity_call_is_program : ProgramTermHasType rows 1 identity_call 0
identity_call_is_program =
    (rows_are_a_table, (tt, (tt, tt)), no_repeats_in_front 0 [] no_binder_else nothing_repeats, identity_called)

-- (: #t Dyn)
cast_to_dyn : HasType rows 1 [] [] (Cast (BoolLit true) 0 1 0) 1
cast_to_dyn = (refl, refl, (DynRow, refl), omega arith)

-- (if (: #t Dyn) #t #f) without the cast of its condition to Bool
dyn_is_no_bool : Some DynRow ≡ Some BoolRow → ⊥
dyn_is_no_bool e = cc

dyn_condition_refused : (type : ℕ) → HasType rows 1 [] [] (If (Cast (BoolLit true) 0 1 0) (BoolLit true)
    (BoolLit false)) type → ⊥
dyn_condition_refused type typed =
    let IsBool : ℕ → Type 0 = λ condition. row_at rows condition ≡ Some BoolRow in
    dyn_is_no_bool (subst IsBool (sym typed.1.0) typed.2)

-- a cast with a label that there is not
label_missing_refused : (type : ℕ) → HasType rows 1 [] [] (Cast (BoolLit true) 0 1 1) type → ⊥
label_missing_refused type typed =
    let below : 1 < 1 = typed.3 in
    omega arith

-- ---- types that are computed

abbrev program_rows : TypeRows
program_rows = IntRow ∷ BoolRow ∷ DynRow ∷ FunRow (0 ∷ []) 0 ∷ TupleRow (0 ∷ 1 ∷ []) ∷ []

abbrev int : ℕ → Term
int n = IntLit (pos n)

-- (: (: #t Dyn) Int)
cast_out_of_dyn : program_type program_rows (Cast (Cast (BoolLit true) 1 2 0) 2 0 1) ≡ Some 0
unfolding and_then
cast_out_of_dyn = refl

-- the identity on integers, whose parameter is this name
abbrev identity : ℕ → Term
identity name = Lambda (name ∷ []) (Var name) 3

-- a name bound to 1
abbrev let_one : ℕ → Term → Term
let_one name body = Let (BindingThen name (int 1) NoBindings) body

-- (let ([x 1]) ((lambda ([y : Int]) : Int y) x))
call_under_let : program_type program_rows (let_one 0 (Call (identity 1) (TermThen (Var 0) NoTerms))) ≡ Some 0
unfolding and_then
call_under_let = refl

-- ---- terms that are no program terms, whatever the number of labels

abbrev IsRefused : Term → Type 0
IsRefused term = (labels type : ℕ) → ProgramTermHasType program_rows labels term type → ⊥

abbrev pair : Term
pair = Tuple (TermThen (int 1) (TermThen (BoolLit true) NoTerms))

free_name_refused : IsRefused (Var 0)
unfolding and_then
free_name_refused = no_program_term program_rows (Var 0) refl

-- a name is used behind the scope that binds it
abbrev outside : Term
outside = Seq (TermThen (let_one 0 (Var 0)) (TermThen (Var 0) NoTerms))

use_outside_refused : IsRefused outside
unfolding and_then
use_outside_refused = no_program_term program_rows outside refl

-- a name is bound in two scopes beside each other
abbrev bound_twice : Term
bound_twice = Seq (TermThen (let_one 0 (Var 0)) (TermThen (let_one 0 (Var 0)) NoTerms))

binder_twice_refused : IsRefused bound_twice
unfolding and_then
binder_twice_refused = no_program_term program_rows bound_twice refl

abbrev entered : Term
entered = Enter (identity 0) (TermThen (int 1) NoTerms)

entered_refused : IsRefused entered
unfolding and_then
entered_refused = no_program_term program_rows entered refl

value_refused : IsRefused (ValueTerm (IntValue (pos 1)))
unfolding and_then
value_refused = no_program_term program_rows (ValueTerm (IntValue (pos 1))) refl

-- the first branch is an integer, the second a truth value
abbrev branches_differ : Term
branches_differ = If (BoolLit true) (int 1) (BoolLit false)

branches_refused : IsRefused branches_differ
unfolding and_then
branches_refused = no_program_term program_rows branches_differ refl

-- a truth value in a cast from Int
cast_refused : IsRefused (Cast (BoolLit true) 0 2 0)
unfolding and_then
cast_refused = no_program_term program_rows (Cast (BoolLit true) 0 2 0) refl

arguments_refused : IsRefused (Call (identity 0) NoTerms)
unfolding and_then
arguments_refused = no_program_term program_rows (Call (identity 0) NoTerms) refl

-- a pair has no third part
part_refused : IsRefused (Proj pair (pos 2))
unfolding and_then
part_refused = no_program_term program_rows (Proj pair (pos 2)) refl

abbrev ones : ℕ → Terms
ones zero = NoTerms
ones (suc n) = TermThen (int 1) (ones n)

nine_parts_refused : IsRefused (Tuple (ones 9))
unfolding and_then
nine_parts_refused = no_program_term program_rows (Tuple (ones 9)) refl

-- a box, whose cell has two values
abbrev box_of_two : CalcState
box_of_two =
    state_of (ValueTerm (LocValue 0 false)) ((IntValue (pos 1) ∷ IntValue (pos 2) ∷ []) ∷ [])
    (record { output = []; input = []; place = 0 })

box_of_two_refused : (type : ℕ) → StateHasType (IntRow ∷ RefRow 0 ∷ []) 0 box_of_two type → ⊥
box_of_two_refused type typed =
    let box = typed.3 in
    let cell = typed.2.1 0 (IntValue (pos 1) ∷ IntValue (pos 2) ∷ []) (record { content = box.0; size = 1 }) refl box.1
    in
    let two_is_one : ◌≡◌ {A = ℕ} 2 1 = cell.0 in
    omega arith
