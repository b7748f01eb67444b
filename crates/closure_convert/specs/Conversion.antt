-- Closure conversion: the procedures of a term. Names become operands, functions become numbered procedures that are
-- given what they capture, and operands that are no names or constants become inner bodies.
use Rattle.std.specs.Prelude.{ℕ, suc, ◌+◌, nat_eq, cond, List, [], ◌∷◌, ◌++◌, length, Option, Some, None}
use Rattle.grift_base.specs.declared.places.LabelId.{LabelId}
use Rattle.coer_core.specs.Terms.{RowTerm, RowTerms, RowMembers, RowBindings, RowInt, RowBool, RowUnit, RowVar}
use Rattle.coer_core.specs.Terms.{RowLambda, RowGroup, RowLet, RowCall, RowIf, RowSeq, RowCast, RowProj, RowProjDyn}
use Rattle.coer_core.specs.Terms.{RowTuple, RowPrim, NoRowTerms, RowTermThen, NoRowMembers, RowMemberThen}
use Rattle.coer_core.specs.Terms.{NoRowBindings, RowBindingThen}
use Rattle.coer_core.specs.Counts.{names_besides, each_once, free_names_of_members, row_member_names, row_binding_names}
use Rattle.coer_core.specs.Counts.{row_member_count}
use Rattle.flat_ir.specs.declared.code.Operand.{Operand}
use Rattle.flat_ir.specs.declared.code.Operand.TheVariants.{Local, Captured, Sibling, Int as IntConst}
use Rattle.flat_ir.specs.declared.code.Operand.TheVariants.{Bool as BoolConst, Unit as UnitConst}
use Rattle.flat_ir.specs.declared.code.Operation.TheVariants.{Move, Prim, Cast, Tuple, Proj, ProjDyn}
use Rattle.flat_ir.specs.Bodies.{Body, Give, Call, Choose, LetBody, LetGroup, Proc}

-- ---- what a function captures

-- the captured names of a group whose functions are known by these names: those bound outside it that are free in one
-- of
-- its members, each once, in order of first appearance
abbrev pub captures : List ℕ → RowMembers → List ℕ
captures names members = each_once (names_besides names (free_names_of_members members))

-- a lambda is a group of one function, which isn't known by a name
abbrev pub alone : List ℕ → RowTerm → ℕ → RowMembers
alone parameters body type = RowMemberThen 0 parameters body type NoRowMembers

-- ---- what names have become

-- the operand of a name that is known
abbrev pub Scope : Type 0
Scope = ℕ → Option Operand

abbrev pub nothing_known : Scope
nothing_known name = None

-- each of these names has become an operand; the first of equal names counts
abbrev pub bind_operands : List ℕ → List Operand → Scope → Scope
bind_operands [] os scope other = scope other
bind_operands (name ∷ names) [] scope other = scope other
bind_operands (name ∷ names) (o ∷ os) scope other = cond (nat_eq other name) (Some o) (bind_operands names os scope
    other)

-- operands with the numbers from this one on, one for each name
abbrev pub numbered : (ℕ → Operand) → List ℕ → ℕ → List Operand
numbered make [] i = []
numbered make (name ∷ names) i = make i ∷ numbered make names (suc i)

abbrev pub captured_scope : List ℕ → Scope
captured_scope captured = bind_operands captured (numbered (λ i. Captured i) captured 0) nothing_known

-- what the functions of a group know
abbrev pub group_scope : List ℕ → List ℕ → Scope
group_scope names captured = bind_operands names (numbered (λ i. Sibling i) names 0) (captured_scope captured)

-- and with the parameters of one of them
abbrev pub fun_scope : List ℕ → List ℕ → List ℕ → Scope
fun_scope names captured parameters =
    bind_operands parameters (numbered (λ i. Local i) parameters 0) (group_scope names captured)

-- the operand, or `()` where a name isn't known
abbrev pub operand_or_unit : Option Operand → Operand
operand_or_unit None = UnitConst
operand_or_unit (Some o) = o

abbrev pub meanings_of : List ℕ → Scope → List Operand
meanings_of [] scope = []
meanings_of (name ∷ names) scope = operand_or_unit (scope name) ∷ meanings_of names scope

-- ---- bodies

-- the operand that a term is, if it takes no code
abbrev pub atom : RowTerm → Scope → Option Operand
atom (RowInt n) scope = Some (IntConst n)
atom (RowBool b) scope = Some (BoolConst b)
atom RowUnit scope = Some UnitConst
atom (RowVar name) scope = scope name
atom _ scope = None

-- goes on with an operand, or with the next local name for what a body gives
abbrev pub placed : Option Operand → ℕ → Body → (Operand → ℕ → Body) → Body
placed (Some o) depth inner rest = rest o depth
placed None depth inner rest = LetBody depth inner (rest (Local depth) (suc depth))

-- how many procedures are made for a term
abbrev mutual
  pub made : RowTerm → ℕ
  made (RowInt n) = 0
  made (RowBool b) = 0
  made RowUnit = 0
  made (RowVar name) = 0
  made (RowLambda parameters body type) = made body + 0 + 1
  made (RowGroup members body) = made_in members + row_member_count members + made body
  made (RowLet bindings body) = made_by bindings + made body
  made (RowCall function arguments) = made function + made_for arguments
  made (RowIf condition on_true on_false) = made condition + (made on_true + made on_false)
  made (RowSeq terms) = made_for terms
  made (RowCast term number) = made term
  made (RowProj term k) = made term
  made (RowProjDyn term k label) = made term
  made (RowTuple parts) = made_for parts
  made (RowPrim operator operands) = made_for operands

  pub made_for : RowTerms → ℕ
  made_for NoRowTerms = 0
  made_for (RowTermThen term rest) = made term + made_for rest

  -- for the bodies of a group's functions
  pub made_in : RowMembers → ℕ
  made_in NoRowMembers = 0
  made_in (RowMemberThen name parameters body type rest) = made body + made_in rest

  pub made_by : RowBindings → ℕ
  made_by NoRowBindings = 0
  made_by (RowBindingThen name bound rest) = made bound + made_by rest

-- the call of the first of these operands with the others
abbrev pub call_of : List Operand → Body
call_of [] = Give (Move UnitConst)
call_of (f ∷ os) = Call f os

-- the first where there are no terms, else the other
abbrev pub if_none : {A : Type 0} → RowTerms → A → A → A
if_none NoRowTerms last other = last
if_none (RowTermThen term rest) last other = other

abbrev pub label_id : ℕ → LabelId
label_id number = record { 0 = number }

-- the body that gives a term's value: with what its names have become, the next local name, and the number of the next
-- procedure. An inner body stands for each operand that takes code, in the order of evaluation
abbrev mutual
  pub code : RowTerm → Scope → ℕ → ℕ → Body
  code (RowInt n) scope depth next = Give (Move (IntConst n))
  code (RowBool b) scope depth next = Give (Move (BoolConst b))
  code RowUnit scope depth next = Give (Move UnitConst)
  code (RowVar name) scope depth next = Give (Move (operand_or_unit (scope name)))
  code (RowLambda parameters body type) scope depth next =
      LetGroup depth (next + (made body + 0)) 1 (meanings_of (captures [] (alone parameters body type)) scope)
      (Give (Move (Local depth)))
  -- a group without functions is nothing
  code (RowGroup NoRowMembers body) scope depth next = code body scope depth (next + 0 + 0)
  code (RowGroup (RowMemberThen name parameters inner type rest) body) scope depth next =
      let members = RowMemberThen name parameters inner type rest in
      let names = row_member_names members in
      LetGroup depth (next + made_in members) (length names) (meanings_of (captures names members) scope)
      (code body (bind_operands names (numbered (λ i. Local i) names depth) scope) (depth + length names)
      (next + made_in members + row_member_count members))
  code (RowLet bindings body) scope depth next =
      gather_let bindings scope depth next [] (λ os later.
      code body (bind_operands (row_binding_names bindings) os scope) later (next + made_by bindings))
  code (RowCall function arguments) scope depth next =
      placed (atom function scope) depth (code function scope depth next) (λ o later.
      gather arguments scope later (next + made function) (o ∷ []) (λ os. call_of os))
  code (RowIf condition on_true on_false) scope depth next =
      placed (atom condition scope) depth (code condition scope depth next) (λ o later.
      Choose o (code on_true scope later (next + made condition))
      (code on_false scope later (next + made condition + made on_true)))
  code (RowSeq terms) scope depth next = sequence terms scope depth next
  code (RowCast term number) scope depth next =
      placed (atom term scope) depth (code term scope depth next) (λ o later. Give (Cast o number))
  code (RowProj term k) scope depth next =
      placed (atom term scope) depth (code term scope depth next) (λ o later. Give (Proj o k))
  code (RowProjDyn term k label) scope depth next =
      placed (atom term scope) depth (code term scope depth next) (λ o later. Give (ProjDyn o k (label_id label)))
  code (RowTuple parts) scope depth next = gather parts scope depth next [] (λ os. Give (Tuple os))
  code (RowPrim operator operands) scope depth next = gather operands scope depth next [] (λ os. Give
      (Prim operator os))

  -- terms whose operands are gathered behind those that are there
  pub gather : RowTerms → Scope → ℕ → ℕ → List Operand → (List Operand → Body) → Body
  gather NoRowTerms scope depth next before finish = finish before
  gather (RowTermThen term rest) scope depth next before finish =
      placed (atom term scope) depth (code term scope depth next) (λ o later.
      gather rest scope later (next + made term) (before ++ o ∷ []) finish)

  pub gather_let : RowBindings → Scope → ℕ → ℕ → List Operand → (List Operand → ℕ → Body) → Body
  gather_let NoRowBindings scope depth next before finish = finish before depth
  gather_let (RowBindingThen name bound rest) scope depth next before finish =
      placed (atom bound scope) depth (code bound scope depth next) (λ o later.
      gather_let rest scope later (next + made bound) (before ++ o ∷ []) finish)

  -- of terms one after another the last gives the value
  pub sequence : RowTerms → Scope → ℕ → ℕ → Body
  sequence NoRowTerms scope depth next = Give (Move UnitConst)
  sequence (RowTermThen term rest) scope depth next =
      if_none rest (code term scope depth next)
      (placed (atom term scope) depth (code term scope depth next) (λ o later.
      sequence rest scope later (next + made term)))

-- ---- procedures

-- the procedures of a group's own functions, from a place in the group on; those inside them are numbered from next on
abbrev pub own_procs : List ℕ → List ℕ → ℕ → ℕ → RowMembers → ℕ → List Proc
own_procs names captured group place NoRowMembers next = []
own_procs names captured group place (RowMemberThen name parameters body type rest) next =
    record {
      params = length parameters;
      captured = length captured;
      group = group;
      place = place;
      body = code body (fun_scope names captured parameters) (length parameters) next;
    } ∷ own_procs names captured group (suc place) rest (next + made body)

-- the procedures of a term, those inside a function before its own
abbrev mutual
  pub procs_of : RowTerm → ℕ → List Proc
  procs_of (RowInt n) next = []
  procs_of (RowBool b) next = []
  procs_of RowUnit next = []
  procs_of (RowVar name) next = []
  procs_of (RowLambda parameters body type) next =
      let members = alone parameters body type in
      procs_of body next ++ own_procs [] (captures [] members) 1 0 members next
  procs_of (RowGroup members body) next =
      let names = row_member_names members in
      procs_in members next ++ (own_procs names (captures names members) (row_member_count members) 0 members next
      ++ procs_of body (next + made_in members + row_member_count members))
  procs_of (RowLet bindings body) next = procs_by bindings next ++ procs_of body (next + made_by bindings)
  procs_of (RowCall function arguments) next = procs_of function next ++ procs_for arguments (next + made function)
  procs_of (RowIf condition on_true on_false) next =
      procs_of condition next ++ (procs_of on_true (next + made condition)
      ++ procs_of on_false (next + made condition + made on_true))
  procs_of (RowSeq terms) next = procs_for terms next
  procs_of (RowCast term number) next = procs_of term next
  procs_of (RowProj term k) next = procs_of term next
  procs_of (RowProjDyn term k label) next = procs_of term next
  procs_of (RowTuple parts) next = procs_for parts next
  procs_of (RowPrim operator operands) next = procs_for operands next

  pub procs_for : RowTerms → ℕ → List Proc
  procs_for NoRowTerms next = []
  procs_for (RowTermThen term rest) next = procs_of term next ++ procs_for rest (next + made term)

  pub procs_in : RowMembers → ℕ → List Proc
  procs_in NoRowMembers next = []
  procs_in (RowMemberThen name parameters body type rest) next = procs_of body next ++ procs_in rest (next + made body)

  pub procs_by : RowBindings → ℕ → List Proc
  procs_by NoRowBindings next = []
  procs_by (RowBindingThen name bound rest) next = procs_of bound next ++ procs_by rest (next + made bound)

-- the procedure that a program begins with; it belongs to no group
abbrev pub entry_proc : RowTerm → Proc
entry_proc term = record { params = 0; captured = 0; group = 0; place = 0; body = code term nothing_known 0 0 }

-- the procedures of a program, of which the last is the one that it begins with
abbrev pub converted : RowTerm → List Proc
converted term = procs_of term 0 ++ entry_proc term ∷ []
