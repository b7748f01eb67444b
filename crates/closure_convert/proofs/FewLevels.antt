-- A procedure has at most as many local names at a time as its program has nodes and binders.
use Rattle.std.proofs.Common.{◌≡◌, ℕ, suc, ◌+◌, ◌≤◌, List, [], ◌∷◌, ◌++◌, length, Option, Some, None, refl}
use Rattle.std.proofs.Common.{ap, subst, arith, slice_get}
use Rattle.std.proofs.Math.Nat.{max-le}
use Rattle.grift_base.specs.Types.{TypeRows}
use Rattle.core_calc.specs.Account.{extent, extent_of_all, extent_of_members, extent_of_bindings}
use Rattle.core_calc.specs.Typing.{Context, CellType, HasType, HaveTypes, LastHasType, MembersHaveTypes}
use Rattle.core_calc.specs.Typing.{BindingsHaveTypes, ProgramTermHasType, member_types}
use Rattle.cast_modes.specs.Modes.{TypeCast}
use Rattle.coer_core.specs.Terms.{RowTerm, RowTerms, RowMembers, RowBindings, RowInt, RowBool, RowUnit, RowVar}
use Rattle.coer_core.specs.Terms.{RowLambda, RowGroup, RowLet, RowCall, RowIf, RowSeq, RowCast, RowProj, RowProjDyn}
use Rattle.coer_core.specs.Terms.{RowTuple, RowPrim, NoRowTerms, RowTermThen, NoRowMembers, RowMemberThen}
use Rattle.coer_core.specs.Terms.{NoRowBindings, RowBindingThen, core_of, core_terms, core_members, core_bindings}
use Rattle.coer_core.specs.Terms.{cast_by}
use Rattle.coer_core.specs.Counts.{row_member_names, row_member_count}
use Rattle.flat_ir.specs.declared.code.Operand.{Operand}
use Rattle.flat_ir.specs.declared.code.Operand.TheVariants.{Local}
use Rattle.flat_ir.specs.Bodies.{Body, Proc}
use Rattle.closure_convert.specs.Conversion.{Scope, captures, alone, atom, placed, made, made_in, made_by}
use Rattle.closure_convert.specs.Conversion.{call_of, code, gather, gather_let, sequence, own_procs, procs_of}
use Rattle.closure_convert.specs.Conversion.{procs_for, procs_in, procs_by, converted}
use Rattle.closure_convert.specs.Conversion.{fun_scope, nothing_known}
use Rattle.flat_ir.specs.Levels.{levels, HaveLevels}

-- ---- the nodes and binders of a term whose casts are numbers

-- those below its own node
abbrev mutual
  below : RowTerm → ℕ
  below (RowInt n) = 0
  below (RowBool b) = 0
  below RowUnit = 0
  below (RowVar name) = 0
  below (RowLambda parameters body type) = length parameters + suc (below body)
  below (RowGroup members body) = size_of_members members + suc (below body)
  below (RowLet bindings body) = size_of_bindings bindings + suc (below body)
  below (RowCall function arguments) = suc (below function) + size_of_all arguments
  below (RowIf condition on_true on_false) = suc (below condition) + suc (below on_true) + suc (below on_false)
  below (RowSeq terms) = size_of_all terms
  below (RowCast term number) = suc (below term)
  below (RowProj term k) = suc (below term)
  below (RowProjDyn term k label) = suc (below term)
  below (RowTuple parts) = size_of_all parts
  below (RowPrim operator operands) = size_of_all operands

  size_of_all : RowTerms → ℕ
  size_of_all NoRowTerms = 0
  size_of_all (RowTermThen term rest) = suc (below term) + size_of_all rest

  size_of_members : RowMembers → ℕ
  size_of_members NoRowMembers = 0
  size_of_members (RowMemberThen name parameters body type rest) =
      suc (length parameters + suc (below body)) + size_of_members rest

  size_of_bindings : RowBindings → ℕ
  size_of_bindings NoRowBindings = 0
  size_of_bindings (RowBindingThen name bound rest) = suc (suc (below bound)) + size_of_bindings rest

abbrev size : RowTerm → ℕ
size term = suc (below term)

members_few : (members : RowMembers) → length (row_member_names members) ≤ size_of_members members
members_few NoRowMembers = omega arith
members_few (RowMemberThen name parameters body type rest) = let le = members_few rest in omega (arith, le)

-- ---- they are those of the term that is read back

module _ (rows : List TypeCast) (types : TypeRows) (labels : ℕ) (cells : List CellType) where
  same_cast : (term : RowTerm) (context : Context) (type : ℕ) (o : Option TypeCast)
      → ((from : ℕ) → HasType types labels cells context (core_of rows term) from
      → size term ≡ extent (core_of rows term))
      → HasType types labels cells context (cast_by o (core_of rows term)) type
      → suc (size term) ≡ extent (cast_by o (core_of rows term))
  same_cast term context type (Some cast) again h = ap suc (again cast.from h.1)
  same_cast term context type None again h = absurd h

  mutual
    same : (term : RowTerm) (context : Context) (type : ℕ)
        → HasType types labels cells context (core_of rows term) type → size term ≡ extent (core_of rows term)
    same (RowInt n) context type h = refl
    same (RowBool b) context type h = refl
    same RowUnit context type h = refl
    same (RowVar name) context type h = refl
    same (RowLambda parameters body written) context type h =
        let e = same body (h.1.2 ++ context) h.1.1 h.1.5 in omega (arith, e)
    same (RowGroup members body) context type h =
        let c : Context = member_types (core_members rows members) ++ context in
        let a = same_members members c h.0 in
        let b = same body c type h.1 in
        omega (arith, a, b)
    same (RowLet bindings body) context type h =
        let a = same_bindings bindings context h.0 h.1 in
        let b = same body (h.0 ++ context) type h.2 in
        omega (arith, a, b)
    same (RowCall function arguments) context type h =
        let a = same function context h.0 h.2 in
        let b = same_all arguments context h.1 h.4 in
        omega (arith, a, b)
    same (RowIf condition on_true on_false) context type h =
        let a = same condition context h.0 h.1 in
        let b = same on_true context type h.3 in
        let c = same on_false context type h.4 in
        omega (arith, a, b, c)
    same (RowSeq terms) context type h = ap suc (same_last terms context type h)
    same (RowCast term number) context type h =
        same_cast term context type (slice_get rows number) (λ from g. same term context from g) h
    same (RowProj term k) context type h = ap suc (same term context h.0 h.2)
    same (RowProjDyn term k label) context type h = ap suc (same term context type h.0)
    same (RowTuple parts) context type h = ap suc (same_all parts context h.0 h.1)
    same (RowPrim operator operands) context type h = ap suc (same_all operands context h.0 h.1)

    same_all : (terms : RowTerms) (context : Context) (wanted : List ℕ)
        → HaveTypes types labels cells context (core_terms rows terms) wanted
        → size_of_all terms ≡ extent_of_all (core_terms rows terms)
    same_all NoRowTerms context wanted h = refl
    same_all (RowTermThen term rest) context wanted h =
        let a = same term context h.0 h.3 in let b = same_all rest context h.1 h.4 in omega (arith, a, b)

    same_last : (terms : RowTerms) (context : Context) (type : ℕ)
        → LastHasType types labels cells context (core_terms rows terms) type
        → size_of_all terms ≡ extent_of_all (core_terms rows terms)
    same_last NoRowTerms context type h = absurd h
    same_last (RowTermThen term NoRowTerms) context type h =
        let a = same term context type h in omega (arith, a)
    same_last (RowTermThen term (RowTermThen second rest)) context type h =
        let a = same term context h.0.0 h.0.1 in
        let b = same_last (RowTermThen second rest) context type h.1 in
        omega (arith, a, b)

    same_members : (members : RowMembers) (context : Context)
        → MembersHaveTypes types labels cells context (core_members rows members)
        → size_of_members members ≡ extent_of_members (core_members rows members)
    same_members NoRowMembers context h = refl
    same_members (RowMemberThen name parameters body type rest) context h =
        let a = same body (h.0.2 ++ context) h.0.1 h.0.5 in
        let b = same_members rest context h.1 in
        omega (arith, a, b)

    same_bindings : (bindings : RowBindings) (context : Context) (bound : Context)
        → BindingsHaveTypes types labels cells context (core_bindings rows bindings) bound
        → size_of_bindings bindings ≡ extent_of_bindings (core_bindings rows bindings)
    same_bindings NoRowBindings context bound h = refl
    same_bindings (RowBindingThen name term rest) context bound h =
        let a = same term context h.0 h.3 in let b = same_bindings rest context h.1 h.4 in omega (arith, a, b)

-- ---- levels of code

-- an operand takes one level at most, and the code that gives it takes its own
placed_levels : (o : Option Operand) (depth limit : ℕ) (inner : Body) (rest : Operand → ℕ → Body)
    → levels depth inner ≤ limit → ((p : Operand) (later : ℕ) → later ≤ suc depth → levels later (rest p later) ≤ limit)
    → levels depth (placed o depth inner rest) ≤ limit
placed_levels (Some o) depth limit inner rest le go = go o depth (omega arith)
placed_levels None depth limit inner rest le go = max-le le (go (Local depth) (suc depth) (omega arith))

call_levels : (os : List Operand) (d limit : ℕ) → d ≤ limit → levels d (call_of os) ≤ limit
call_levels [] d limit le = le
call_levels (f ∷ os) d limit le = le

mutual
  code_levels : (term : RowTerm) (scope : Scope) (depth next limit : ℕ) → depth + size term ≤ limit
      → levels depth (code term scope depth next) ≤ limit
  code_levels (RowInt n) scope depth next limit le = omega (arith, le)
  code_levels (RowBool b) scope depth next limit le = omega (arith, le)
  code_levels RowUnit scope depth next limit le = omega (arith, le)
  code_levels (RowVar name) scope depth next limit le = omega (arith, le)
  code_levels (RowLambda parameters body type) scope depth next limit le = omega (arith, le)
  code_levels (RowGroup NoRowMembers body) scope depth next limit le =
      code_levels body scope depth (next + 0 + 0) limit (omega (arith, le))
  code_levels (RowGroup (RowMemberThen name parameters inner type rest) body) scope depth next limit le =
      let few = members_few (RowMemberThen name parameters inner type rest) in
      code_levels body _ (depth + length (row_member_names (RowMemberThen name parameters inner type rest))) _ limit
      (omega (arith, le, few))
  code_levels (RowLet bindings body) scope depth next limit le =
      let_levels bindings scope depth next limit (size body) [] _ (omega (arith, le)) (λ os later h.
      code_levels body _ later (next + made_by bindings) limit h)
  code_levels (RowCall function arguments) scope depth next limit le =
      placed_levels (atom function scope) depth limit (code function scope depth next) _
      (code_levels function scope depth next limit (omega (arith, le)))
      (λ o later h. gather_levels arguments scope later (next + made function) limit (o ∷ []) _
      (omega (arith, le, h)) (λ os d g. call_levels os d limit g))
  code_levels (RowIf condition on_true on_false) scope depth next limit le =
      placed_levels (atom condition scope) depth limit (code condition scope depth next) _
      (code_levels condition scope depth next limit (omega (arith, le)))
      (λ o later h. max-le
      (code_levels on_true scope later (next + made condition) limit (omega (arith, le, h)))
      (code_levels on_false scope later (next + made condition + made on_true) limit (omega (arith, le, h))))
  code_levels (RowSeq terms) scope depth next limit le =
      sequence_levels terms scope depth next limit (omega (arith, le))
  code_levels (RowCast term number) scope depth next limit le =
      placed_levels (atom term scope) depth limit (code term scope depth next) _
      (code_levels term scope depth next limit (omega (arith, le))) (λ o later h. omega (arith, le, h))
  code_levels (RowProj term k) scope depth next limit le =
      placed_levels (atom term scope) depth limit (code term scope depth next) _
      (code_levels term scope depth next limit (omega (arith, le))) (λ o later h. omega (arith, le, h))
  code_levels (RowProjDyn term k label) scope depth next limit le =
      placed_levels (atom term scope) depth limit (code term scope depth next) _
      (code_levels term scope depth next limit (omega (arith, le))) (λ o later h. omega (arith, le, h))
  code_levels (RowTuple parts) scope depth next limit le =
      gather_levels parts scope depth next limit [] _ (omega (arith, le)) (λ os d g. g)
  code_levels (RowPrim operator operands) scope depth next limit le =
      gather_levels operands scope depth next limit [] _ (omega (arith, le)) (λ os d g. g)

  gather_levels : (terms : RowTerms) (scope : Scope) (depth next limit : ℕ) (before : List Operand)
      (finish : List Operand → Body) → depth + size_of_all terms ≤ limit
      → ((os : List Operand) (d : ℕ) → d ≤ limit → levels d (finish os) ≤ limit)
      → levels depth (gather terms scope depth next before finish) ≤ limit
  gather_levels NoRowTerms scope depth next limit before finish le go = go before depth (omega (arith, le))
  gather_levels (RowTermThen term rest) scope depth next limit before finish le go =
      placed_levels (atom term scope) depth limit (code term scope depth next) _
      (code_levels term scope depth next limit (omega (arith, le)))
      (λ o later h. gather_levels rest scope later (next + made term) limit (before ++ o ∷ []) finish
      (omega (arith, le, h)) go)

  -- with so many levels more for what follows
  let_levels : (bindings : RowBindings) (scope : Scope) (depth next limit more : ℕ) (before : List Operand)
      (finish : List Operand → ℕ → Body) → depth + size_of_bindings bindings + more ≤ limit
      → ((os : List Operand) (later : ℕ) → later + more ≤ limit → levels later (finish os later) ≤ limit)
      → levels depth (gather_let bindings scope depth next before finish) ≤ limit
  let_levels NoRowBindings scope depth next limit more before finish le go = go before depth (omega (arith, le))
  let_levels (RowBindingThen name bound rest) scope depth next limit more before finish le go =
      placed_levels (atom bound scope) depth limit (code bound scope depth next) _
      (code_levels bound scope depth next limit (omega (arith, le)))
      (λ o later h. let_levels rest scope later (next + made bound) limit more (before ++ o ∷ []) finish
      (omega (arith, le, h)) go)

  sequence_levels : (terms : RowTerms) (scope : Scope) (depth next limit : ℕ) → depth + size_of_all terms ≤ limit
      → levels depth (sequence terms scope depth next) ≤ limit
  sequence_levels NoRowTerms scope depth next limit le = omega (arith, le)
  sequence_levels (RowTermThen term NoRowTerms) scope depth next limit le =
      code_levels term scope depth next limit (omega (arith, le))
  sequence_levels (RowTermThen term (RowTermThen second rest)) scope depth next limit le =
      placed_levels (atom term scope) depth limit (code term scope depth next) _
      (code_levels term scope depth next limit (omega (arith, le)))
      (λ o later h. sequence_levels (RowTermThen second rest) scope later (next + made term) limit
      (omega (arith, le, h)))

-- ---- levels of procedures

levels_joined : (n : ℕ) (ps qs : List Proc) → HaveLevels n ps → HaveLevels n qs → HaveLevels n (ps ++ qs)
levels_joined n [] qs a b = b
levels_joined n (p ∷ ps) qs a b = (a.0, levels_joined n ps qs a.1 b)

module _ (n : ℕ) where
  own_levels : (names captured : List ℕ) (group place : ℕ) (members : RowMembers) (next : ℕ)
      → size_of_members members ≤ n → HaveLevels n (own_procs names captured group place members next)
  own_levels names captured group place NoRowMembers next le = tt
  own_levels names captured group place (RowMemberThen name parameters body type rest) next le = (
    code_levels body (fun_scope names captured parameters) (length parameters) next n (omega (arith, le)),
    own_levels names captured group (suc place) rest (next + made body) (omega (arith, le)),
  )

  mutual
    procs_levels : (term : RowTerm) (next : ℕ) → size term ≤ n → HaveLevels n (procs_of term next)
    procs_levels (RowInt i) next le = tt
    procs_levels (RowBool b) next le = tt
    procs_levels RowUnit next le = tt
    procs_levels (RowVar name) next le = tt
    procs_levels (RowLambda parameters body type) next le =
        levels_joined n (procs_of body next) _ (procs_levels body next (omega (arith, le)))
        (own_levels [] (captures [] (alone parameters body type)) 1 0 (alone parameters body type) next
        (omega (arith, le)))
    procs_levels (RowGroup members body) next le =
        let names = row_member_names members in
        levels_joined n (procs_in members next) _ (procs_in_levels members next (omega (arith, le)))
        (levels_joined n (own_procs names (captures names members) (row_member_count members) 0 members next) _
        (own_levels names (captures names members) (row_member_count members) 0 members next (omega (arith, le)))
        (procs_levels body (next + made_in members + row_member_count members) (omega (arith, le))))
    procs_levels (RowLet bindings body) next le =
        levels_joined n (procs_by bindings next) _ (procs_by_levels bindings next (omega (arith, le)))
        (procs_levels body (next + made_by bindings) (omega (arith, le)))
    procs_levels (RowCall function arguments) next le =
        levels_joined n (procs_of function next) _ (procs_levels function next (omega (arith, le)))
        (procs_for_levels arguments (next + made function) (omega (arith, le)))
    procs_levels (RowIf condition on_true on_false) next le =
        levels_joined n (procs_of condition next) _ (procs_levels condition next (omega (arith, le)))
        (levels_joined n (procs_of on_true (next + made condition)) _
        (procs_levels on_true (next + made condition) (omega (arith, le)))
        (procs_levels on_false (next + made condition + made on_true) (omega (arith, le))))
    procs_levels (RowSeq terms) next le = procs_for_levels terms next (omega (arith, le))
    procs_levels (RowCast term number) next le = procs_levels term next (omega (arith, le))
    procs_levels (RowProj term k) next le = procs_levels term next (omega (arith, le))
    procs_levels (RowProjDyn term k label) next le = procs_levels term next (omega (arith, le))
    procs_levels (RowTuple parts) next le = procs_for_levels parts next (omega (arith, le))
    procs_levels (RowPrim operator operands) next le = procs_for_levels operands next (omega (arith, le))

    procs_for_levels : (terms : RowTerms) (next : ℕ) → size_of_all terms ≤ n → HaveLevels n (procs_for terms next)
    procs_for_levels NoRowTerms next le = tt
    procs_for_levels (RowTermThen term rest) next le =
        levels_joined n (procs_of term next) _ (procs_levels term next (omega (arith, le)))
        (procs_for_levels rest (next + made term) (omega (arith, le)))

    procs_in_levels : (members : RowMembers) (next : ℕ) → size_of_members members ≤ n
        → HaveLevels n (procs_in members next)
    procs_in_levels NoRowMembers next le = tt
    procs_in_levels (RowMemberThen name parameters body type rest) next le =
        levels_joined n (procs_of body next) _ (procs_levels body next (omega (arith, le)))
        (procs_in_levels rest (next + made body) (omega (arith, le)))

    procs_by_levels : (bindings : RowBindings) (next : ℕ) → size_of_bindings bindings ≤ n
        → HaveLevels n (procs_by bindings next)
    procs_by_levels NoRowBindings next le = tt
    procs_by_levels (RowBindingThen name bound rest) next le =
        levels_joined n (procs_of bound next) _ (procs_levels bound next (omega (arith, le)))
        (procs_by_levels rest (next + made bound) (omega (arith, le)))

-- the procedures of a program term have no more levels than the term has nodes and binders
pub procedures_have_few_levels : (casts : List TypeCast) (types : TypeRows) (labels : ℕ) (term : RowTerm) (type : ℕ)
    → ProgramTermHasType types labels (core_of casts term) type
    → HaveLevels (extent (core_of casts term)) (converted term)
procedures_have_few_levels casts types labels term type h =
    let e = same casts types labels [] term [] type h.3 in
    subst (λ n. HaveLevels n (converted term)) e (levels_joined (size term) (procs_of term 0) _
    (procs_levels (size term) term 0 (omega arith)) (code_levels term nothing_known 0 0 (size term) (omega arith), tt))
