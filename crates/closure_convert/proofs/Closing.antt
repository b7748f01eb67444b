-- The procedures of a program are closed.
use Rattle.std.proofs.Common.{◌≡◌, ℕ, suc, ◌+◌, ◌<◌, ◌≤◌, Bool, true, false, nat_lt}
use Rattle.std.proofs.Common.{nat_le, ◌&&◌, ◌==◌, List, [], ◌∷◌, ◌++◌, length, Option, Some, None, slice_get, refl, sym}
use Rattle.std.proofs.Common.{ap}
use Rattle.std.proofs.Common.{subst, arith, length-append, eq-eqb, lt-ltb, le-leb, append_assoc}
use Rattle.std.specs.Prelude.{◌||◌}
use Rattle.std.specs.Int.{int_wrap, w64}
use Rattle.std.specs.Ordering.{int_eq}
use Rattle.coer_core.specs.Terms.{RowTerm, RowTerms, RowMembers, RowBindings, RowInt, RowBool, RowUnit, RowVar}
use Rattle.coer_core.specs.Terms.{RowLambda, RowGroup, RowLet, RowCall, RowIf, RowSeq, RowCast, RowProj, RowProjDyn}
use Rattle.coer_core.specs.Terms.{RowTuple, RowPrim, NoRowTerms, RowTermThen, NoRowMembers, RowMemberThen}
use Rattle.coer_core.specs.Terms.{NoRowBindings, RowBindingThen}
use Rattle.coer_core.specs.Counts.{row_member_names, row_binding_names}
use Rattle.coer_core.specs.Counts.{row_member_count}
use Rattle.flat_ir.specs.declared.code.Operand.{Operand}
use Rattle.flat_ir.specs.declared.code.Operand.TheVariants.{Local, Captured, Sibling, Int as IntConst}
use Rattle.flat_ir.specs.declared.code.Operand.TheVariants.{Bool as BoolConst, Unit as UnitConst}
use Rattle.flat_ir.specs.declared.code.Operation.{Operation}
use Rattle.flat_ir.specs.declared.code.Operation.TheVariants.{Move, Prim, Cast, Tuple, Proj, ProjDyn}
use Rattle.flat_ir.specs.Bodies.{Body, Give, Call, Choose, LetBody, LetGroup, Proc}
use Rattle.flat_ir.specs.Closed.{operand_bound, operands_bound, operation_bound, begins_group, is_next, body_bound}
use Rattle.flat_ir.specs.Closed.{part_has_words}
use Rattle.flat_ir.specs.Closed.{proc_closed, each_closed, takes_nothing, is_closed}
use Rattle.closure_convert.specs.Conversion.{captures, alone, Scope, nothing_known, bind_operands, numbered}
use Rattle.closure_convert.specs.Conversion.{captured_scope, group_scope, fun_scope, operand_or_unit, meanings_of, made}
use Rattle.closure_convert.specs.Conversion.{made_in, made_by, atom, placed, if_none, call_of, code, gather}
use Rattle.closure_convert.specs.Conversion.{gather_let, sequence, own_procs, procs_of, procs_for, procs_in, procs_by}
use Rattle.closure_convert.specs.Conversion.{entry_proc, converted}
use Rattle.closure_convert.proofs.ProcPlaces.{HasAt}
use Rattle.closure_convert.proofs.Carrying.{none_some, same_some, Each, EachMeaning, each_append, each_bound, Stands}
use Rattle.closure_convert.proofs.Carrying.{StandsFor, StandsIn, StandsBy}
use Rattle.closure_convert.proofs.Moves.{meanings_long, names_long}
use Rattle.closure_convert.proofs.Standing.{program_stands, entry_stands}
use Rattle.closure_convert.proofs.Fine.{count, Fine, FineFor, FineIn, FineBy}

-- ---- bound names, as facts

both : (a b : Bool) → a ≡ true → b ≡ true → (a && b) ≡ true
both true true e f = refl
both true false e f = f
both false b e f = e

module _ (c g : ℕ) where
  abbrev OperandBound : ℕ → Operand → Type 0
  OperandBound depth (Local i) = i < depth
  OperandBound depth (Captured i) = i < c
  OperandBound depth (Sibling i) = i < g
  OperandBound depth (IntConst n) = int_eq (int_wrap w64 n) n ≡ true
  OperandBound depth (BoolConst b) = Unit {0}
  OperandBound depth UnitConst = Unit {0}

  abbrev OperandsBound : ℕ → List Operand → Type 0
  OperandsBound depth os = Each (OperandBound depth) os

  abbrev OperationBound : ℕ → Operation → Type 0
  OperationBound depth (Move o) = OperandBound depth o
  OperationBound depth (Prim op os) = OperandsBound depth os × (length os ≤ 8)
  OperationBound depth (Cast o n) = OperandBound depth o
  OperationBound depth (Tuple os) = OperandsBound depth os × (1 ≤ length os) × (length os ≤ 8)
  OperationBound depth (Proj o i) = OperandBound depth o
  OperationBound depth (ProjDyn o i label) = OperandBound depth o × (part_has_words i label.0 ≡ true)

  operand_is : (depth : ℕ) (o : Operand) → OperandBound depth o → operand_bound c g depth o ≡ true
  operand_is depth (Local i) h = lt-ltb i depth h
  operand_is depth (Captured i) h = lt-ltb i c h
  operand_is depth (Sibling i) h = lt-ltb i g h
  operand_is depth (IntConst n) h = h
  operand_is depth (BoolConst b) h = refl
  operand_is depth UnitConst h = refl

  operands_are : (depth : ℕ) (os : List Operand) → OperandsBound depth os → operands_bound c g depth os ≡ true
  operands_are depth [] h = refl
  operands_are depth (o ∷ os) h =
      both (operand_bound c g depth o) (operands_bound c g depth os) (operand_is depth o h.0)
      (operands_are depth os h.1)

  operation_is : (depth : ℕ) (op : Operation) → OperationBound depth op → operation_bound c g depth op ≡ true
  operation_is depth (Move o) h = operand_is depth o h
  operation_is depth (Prim op os) h =
      both (operands_bound c g depth os) (nat_le (length os) 8) (operands_are depth os h.0) (le-leb (length os) 8 h.1)
  operation_is depth (Cast o n) h = operand_is depth o h
  operation_is depth (Tuple os) h =
      both (operands_bound c g depth os) (nat_le 1 (length os) && nat_le (length os) 8) (operands_are depth os h.0)
      (both (nat_le 1 (length os)) (nat_le (length os) 8) (le-leb 1 (length os) h.1) (le-leb (length os) 8 h.2))
  operation_is depth (Proj o i) h = operand_is depth o h
  operation_is depth (ProjDyn o i label) h =
      both (operand_bound c g depth o) (part_has_words i label.0) (operand_is depth o h.0) h.1

module _ (procs : List Proc) where
  abbrev BodyBound : ℕ → ℕ → ℕ → Body → Type 0
  BodyBound c g depth (Give op) = OperationBound c g depth op
  BodyBound c g depth (Call f os) = OperandBound c g depth f × OperandsBound c g depth os × (length os ≤ 6)
  BodyBound c g depth (Choose o a b) = OperandBound c g depth o × BodyBound c g depth a × BodyBound c g depth b
  BodyBound c g depth (LetBody slot inner rest) =
      (slot ≡ depth) × BodyBound c g depth inner × BodyBound c g (suc depth) rest
  BodyBound c g depth (LetGroup slot first count names rest) =
      (slot ≡ depth) × (begins_group (slice_get procs first) count (length names) ≡ true) × OperandsBound c g depth
      names
      × BodyBound c g (depth + count) rest

  body_is : (c g depth : ℕ) (body : Body) → BodyBound c g depth body → body_bound procs c g depth body ≡ true
  body_is c g depth (Give op) h = operation_is c g depth op h
  body_is c g depth (Call f os) h =
      both (operand_bound c g depth f) (operands_bound c g depth os && nat_le (length os) 6)
      (operand_is c g depth f h.0)
      (both (operands_bound c g depth os) (nat_le (length os) 6) (operands_are c g depth os h.1)
      (le-leb (length os) 6 h.2))
  body_is c g depth (Choose o a b) h =
      both (operand_bound c g depth o) (body_bound procs c g depth a && body_bound procs c g depth b)
      (operand_is c g depth o h.0) (both (body_bound procs c g depth a) (body_bound procs c g depth b)
      (body_is c g depth a h.1) (body_is c g depth b h.2))
  body_is c g depth (LetBody slot inner rest) h =
      both (slot == depth) (body_bound procs c g depth inner && body_bound procs c g (suc depth) rest)
      (eq-eqb slot depth h.0) (both (body_bound procs c g depth inner) (body_bound procs c g (suc depth) rest)
      (body_is c g depth inner h.1) (body_is c g (suc depth) rest h.2))
  body_is c g depth (LetGroup slot first count names rest) h =
      both (slot == depth) (begins_group (slice_get procs first) count (length names)
      && (operands_bound c g depth names && body_bound procs c g (depth + count) rest)) (eq-eqb slot depth h.0)
      (both (begins_group (slice_get procs first) count (length names))
      (operands_bound c g depth names && body_bound procs c g (depth + count) rest) h.1
      (both (operands_bound c g depth names) (body_bound procs c g (depth + count) rest)
      (operands_are c g depth names h.2) (body_is c g (depth + count) rest h.3)))

  -- a group begins where its functions stand
  own_group : (names captured : List ℕ) (count1 : ℕ) (funs : RowMembers) (place next long : ℕ)
      → count1 ≡ row_member_count funs → 0 < count1 → long ≡ length captured
      → HasAt procs place (own_procs names captured count1 0 funs next)
      → begins_group (slice_get procs place) count1 long ≡ true
  own_group names captured count1 NoRowMembers place next long e some el h = absurd (omega arith)
  own_group names captured count1 (RowMemberThen name parameters body type rest) place next long e some el h =
      subst (λ o. begins_group o count1 long ≡ true) (sym h.0)
      (both (nat_lt 0 count1) ((count1 == count1) && (length captured == long)) (lt-ltb 0 count1 some)
      (both (count1 == count1) (length captured == long) (eq-eqb count1 count1 refl)
      (eq-eqb (length captured) long (sym el))))

  module _ (c g : ℕ) where
    abbrev ScopeBound : ℕ → Scope → Type 0
    ScopeBound depth scope = EachMeaning (OperandBound c g depth) scope

    operand_more : (depth more : ℕ) (o : Operand) → depth ≤ more → OperandBound c g depth o → OperandBound c g more o
    operand_more depth more (Local i) le h = omega arith
    operand_more depth more (Captured i) le h = h
    operand_more depth more (Sibling i) le h = h
    operand_more depth more (IntConst n) le h = h
    operand_more depth more (BoolConst b) le h = tt
    operand_more depth more UnitConst le h = tt

    operands_more : (depth more : ℕ) (os : List Operand) → depth ≤ more → OperandsBound c g depth os
        → OperandsBound c g more os
    operands_more depth more [] le h = tt
    operands_more depth more (o ∷ os) le h = (operand_more depth more o le h.0, operands_more depth more os le h.1)

    scope_more : (depth more : ℕ) (scope : Scope) → depth ≤ more → ScopeBound depth scope → ScopeBound more scope
    scope_more depth more scope le h name o e = operand_more depth more o le (h name o e)

    or_unit_bound : (depth name : ℕ) (scope : Scope) → ScopeBound depth scope → (m : Option Operand) → scope name ≡ m
        → OperandBound c g depth (operand_or_unit m)
    or_unit_bound depth name scope h None e = tt
    or_unit_bound depth name scope h (Some o) e = h name o e

    meanings_bound : (depth : ℕ) (names : List ℕ) (scope : Scope) → ScopeBound depth scope
        → OperandsBound c g depth (meanings_of names scope)
    meanings_bound depth [] scope h = tt
    meanings_bound depth (name ∷ names) scope h = (
      or_unit_bound depth name scope h (scope name) refl,
      meanings_bound
          depth names scope h,
    )

    atom_bound : (depth : ℕ) (term : RowTerm) (scope : Scope) (o : Operand) → Fine term → ScopeBound depth scope
        → atom term scope ≡ Some o → OperandBound c g depth o
    atom_bound depth (RowInt n) scope o ev h e = subst (OperandBound c g depth) (same_some (IntConst n) o e) ev
    atom_bound depth (RowBool b) scope o ev h e = subst (OperandBound c g depth) (same_some (BoolConst b) o e) tt
    atom_bound depth RowUnit scope o ev h e = subst (OperandBound c g depth) (same_some UnitConst o e) tt
    atom_bound depth (RowVar name) scope o ev h e = h name o e
    atom_bound depth term scope o ev h e = none_some e

    locals_bound : (names : List ℕ) (k depth : ℕ) → k + length names ≤ depth
        → OperandsBound c g depth (numbered (λ i. Local i) names k)
    locals_bound [] k depth le = tt
    locals_bound (name ∷ names) k depth le = (omega arith, locals_bound names (suc k) depth (omega arith))

    siblings_bound : (names : List ℕ) (k depth : ℕ) → k + length names ≤ g
        → OperandsBound c g depth (numbered (λ i. Sibling i) names k)
    siblings_bound [] k depth le = tt
    siblings_bound (name ∷ names) k depth le = (omega arith, siblings_bound names (suc k) depth (omega arith))

    captures_bound : (names : List ℕ) (k depth : ℕ) → k + length names ≤ c
        → OperandsBound c g depth (numbered (λ i. Captured i) names k)
    captures_bound [] k depth le = tt
    captures_bound (name ∷ names) k depth le = (omega arith, captures_bound names (suc k) depth (omega arith))

    placed_bound : (m : Option Operand) (depth : ℕ) (inner : Body) (rest : Operand → ℕ → Body) → ((o : Operand)
        → m ≡ Some o → OperandBound c g depth o) → BodyBound c g depth inner → ((o : Operand) (deep : ℕ) → depth ≤ deep
        → OperandBound c g deep o → BodyBound c g deep (rest o deep)) → BodyBound c g depth (placed m depth inner rest)
    placed_bound (Some o) depth inner rest h b k = k o depth (omega arith) (h o refl)
    placed_bound None depth inner rest h b k = (refl, b, k (Local depth) (suc depth) (omega arith) (omega arith))

    call_bound : (depth : ℕ) (os : List Operand) → length os ≤ 7 → OperandsBound c g depth os
        → BodyBound c g depth (call_of os)
    call_bound depth [] le h = tt
    call_bound depth (f ∷ os) le h = (h.0, h.1, omega arith)

    last_bound : (depth : ℕ) (rest : RowTerms) (last other : Body) → BodyBound c g depth last
        → BodyBound c g depth other → BodyBound c g depth (if_none rest last other)
    last_bound depth NoRowTerms last other h k = h
    last_bound depth (RowTermThen term rest) last other h k = k

    mutual
      code_bound : (term : RowTerm) (scope : Scope) (depth next : ℕ) → Fine term → Stands procs term next
          → ScopeBound depth scope → BodyBound c g depth (code term scope depth next)
      code_bound (RowInt n) scope depth next ev st h = ev
      code_bound (RowBool b) scope depth next ev st h = tt
      code_bound RowUnit scope depth next ev st h = tt
      code_bound (RowVar name) scope depth next ev st h = or_unit_bound depth name scope h (scope name) refl
      code_bound (RowLambda parameters body type) scope depth next ev st h =
          let funs = alone parameters body type in
          let caps = captures [] funs in (
            refl,
            own_group [] caps 1 funs (next + (made body + 0)) next (length (meanings_of caps scope)) refl
                (omega arith)
                (meanings_long caps scope) st.1,
            meanings_bound depth caps scope h,
            omega arith,
          )
      code_bound (RowGroup NoRowMembers body) scope depth next ev st h =
          code_bound body scope depth (next + 0 + 0) ev.1 st.1 h
      code_bound (RowGroup (RowMemberThen name parameters inner type others) body) scope depth next ev st h =
          let funs = RowMemberThen name parameters inner type others in
          let names = row_member_names funs in
          let caps = captures names funs in
          let deep = depth + length names in
          let long = names_long funs in (
            refl,
            own_group names caps (length names) funs (next + made_in funs) next (length (meanings_of caps scope)) long
                (omega (arith, long)) (meanings_long caps scope) (subst (λ n. HasAt procs (next + made_in funs)
                (own_procs names caps n 0 funs next)) (sym long) st.0.1),
            meanings_bound depth caps scope h,
            code_bound body (bind_operands names (numbered (λ i. Local i) names depth) scope) deep
                (next + made_in funs + row_member_count funs) ev.1 st.1
                (each_bound (OperandBound c g deep) names (numbered
                (λ i. Local i) names depth) scope (locals_bound names depth deep (omega arith))
                (scope_more depth deep scope (omega arith) h)),
          )
      code_bound (RowLet terms body) scope depth next ev st h =
          let_bound terms scope depth next [] (λ os deep. code body (bind_operands (row_binding_names terms) os scope)
          deep (next + made_by terms)) ev.0 st.0 h tt (λ os deep le b. code_bound body (bind_operands
          (row_binding_names terms) os scope) deep (next + made_by terms) ev.1 st.1 (each_bound (OperandBound c g
          deep) (row_binding_names terms) os scope b (scope_more depth deep scope le h)))
      code_bound (RowCall f terms) scope depth next ev st h =
          placed_bound (atom f scope) depth (code f scope depth next) _ (λ o e. atom_bound depth f scope o ev.0 h e)
          (code_bound f scope depth next ev.0 st.0 h) (λ o deep le b. gather_bound terms scope deep (next + made f)
          (o ∷ []) (λ os. call_of os) ev.1 st.1 (scope_more depth deep scope le h) (b, tt)
          (λ os last le' bs n. call_bound last os (let z = ev.2 in omega (arith, n, z)) bs))
      code_bound (RowIf e a b) scope depth next ev st h =
          placed_bound (atom e scope) depth (code e scope depth next) _ (λ o q. atom_bound depth e scope o ev.0 h q)
          (code_bound e scope depth next ev.0 st.0 h) (λ o deep le ob. (
            ob,
            code_bound a scope deep
                (next + made e) ev.1 st.1 (scope_more depth deep scope le h),
            code_bound b scope deep
                (next + made e + made a) ev.2 st.2 (scope_more depth deep scope le h),
          ))
      code_bound (RowSeq terms) scope depth next ev st h = sequence_bound terms scope depth next ev st h
      code_bound (RowCast term n) scope depth next ev st h =
          placed_bound (atom term scope) depth (code term scope depth next) _ (λ o q. atom_bound depth term scope o ev h
          q) (code_bound term scope depth next ev st h) (λ o deep le ob. ob)
      code_bound (RowProj term i) scope depth next ev st h =
          placed_bound (atom term scope) depth (code term scope depth next) _ (λ o q. atom_bound depth term scope o ev h
          q) (code_bound term scope depth next ev st h) (λ o deep le ob. ob)
      code_bound (RowProjDyn term i label) scope depth next ev st h =
          placed_bound (atom term scope) depth (code term scope depth next) _
          (λ o q. atom_bound depth term scope o ev.0 h q) (code_bound term scope depth next ev.0 st h)
          (λ o deep le ob. (ob, ev.1))
      code_bound (RowTuple terms) scope depth next ev st h =
          gather_bound terms scope depth next [] _ ev.0 st h tt (λ os last le bs n. (
            bs,
            let a = ev.1 in omega
                (arith, n, a),
            let a = ev.2 in omega (arith, n, a),
          ))
      code_bound (RowPrim op terms) scope depth next ev st h =
          gather_bound terms scope depth next [] _ ev.0 st h tt (λ os last le bs n. (
            bs,
            let a = ev.1 in omega
                (arith, n, a),
          ))

      gather_bound : (terms : RowTerms) (scope : Scope) (depth next : ℕ) (before : List Operand) (finish : List Operand
          → Body) → FineFor terms → StandsFor procs terms next → ScopeBound depth scope → OperandsBound c g depth before
          → ((os : List Operand) (deep : ℕ) → depth ≤ deep → OperandsBound c g deep os
          → length os ≡ length before + count terms → BodyBound c g deep (finish os))
          → BodyBound c g depth (gather terms scope depth next before finish)
      gather_bound NoRowTerms scope depth next before finish ev st h b k = k before depth (omega arith) b (omega arith)
      gather_bound (RowTermThen term rest) scope depth next before finish ev st h b k =
          placed_bound (atom term scope) depth (code term scope depth next) _ (λ o q. atom_bound depth term scope o ev.0
          h q) (code_bound term scope depth next ev.0 st.0 h) (λ o deep le ob. gather_bound rest scope deep
          (next + made term) (before ++ o ∷ []) finish ev.1 st.1 (scope_more depth deep scope le h)
          (each_append (OperandBound c g deep) before (o ∷ []) (operands_more depth deep before le b) (ob, tt))
          (λ os last le' bs n. k os last (omega arith) bs (let z = length-append before (o ∷ []) in omega
          (arith, n, z))))

      let_bound : (terms : RowBindings) (scope : Scope) (depth next : ℕ) (before : List Operand) (finish : List Operand
          → ℕ → Body) → FineBy terms → StandsBy procs terms next → ScopeBound depth scope
          → OperandsBound c g depth before → ((os : List Operand) (deep : ℕ) → depth ≤ deep → OperandsBound c g deep os
          → BodyBound c g deep (finish os deep)) → BodyBound c g depth (gather_let terms scope depth next before finish)
      let_bound NoRowBindings scope depth next before finish ev st h b k = k before depth (omega arith) b
      let_bound (RowBindingThen name term rest) scope depth next before finish ev st h b k =
          placed_bound (atom term scope) depth (code term scope depth next) _ (λ o q. atom_bound depth term scope o ev.0
          h q) (code_bound term scope depth next ev.0 st.0 h) (λ o deep le ob. let_bound rest scope deep
          (next + made term) (before ++ o ∷ []) finish ev.1 st.1 (scope_more depth deep scope le h)
          (each_append (OperandBound c g deep) before (o ∷ []) (operands_more depth deep before le b) (ob, tt))
          (λ os last le' bs. k os last (omega arith) bs))

      sequence_bound : (terms : RowTerms) (scope : Scope) (depth next : ℕ) → FineFor terms → StandsFor procs terms next
          → ScopeBound depth scope → BodyBound c g depth (sequence terms scope depth next)
      sequence_bound NoRowTerms scope depth next ev st h = tt
      sequence_bound (RowTermThen term rest) scope depth next ev st h =
          last_bound depth rest (code term scope depth next) _ (code_bound term scope depth next ev.0 st.0 h)
          (placed_bound (atom term scope) depth (code term scope depth next) _ (λ o q. atom_bound depth term scope o
          ev.0 h q) (code_bound term scope depth next ev.0 st.0 h) (λ o deep le ob. sequence_bound rest scope
          deep (next + made term) ev.1 st.1 (scope_more depth deep scope le h)))

  -- ---- procedures

  -- closed in front of whatever is closed
  abbrev Front : List Proc → Type 0
  Front xs = (rest : List Proc) → each_closed procs rest ≡ true → each_closed procs (xs ++ rest) ≡ true

  front_append : (xs ys : List Proc) → Front xs → Front ys → Front (xs ++ ys)
  front_append xs ys f k rest h =
      subst (λ zs. each_closed procs zs ≡ true) (sym (append_assoc xs ys rest)) (f (ys ++ rest) (k rest h))

  -- a procedure of a group, told whether the next one follows
  one_closed : (p : Proc) (next : Option Proc) → p.params ≤ 6
      → ((nat_le p.group (suc p.place) || is_next next p) ≡ true)
      → BodyBound p.captured p.group p.params p.body → proc_closed procs next p ≡ true
  one_closed p next few follows h =
      both (nat_le p.params 6) ((nat_le p.group (suc p.place) || is_next next p)
      && body_bound procs p.captured p.group p.params p.body) (le-leb p.params 6 few)
      (both (nat_le p.group (suc p.place) || is_next next p) (body_bound procs p.captured p.group p.params p.body)
      follows
      (body_is p.captured p.group p.params p.body h))

  or_left : (a b : Bool) → a ≡ true → (a || b) ≡ true
  or_left true b e = refl
  or_left false b e = absurd (let z : ⊥ = cc in z)

  or_right : (a b : Bool) → b ≡ true → (a || b) ≡ true
  or_right true b e = refl
  or_right false b e = e

  own_bound : (names captured parameters : List ℕ) (group : ℕ) (body : RowTerm) (next : ℕ) → length names ≤ group
      → Fine body → Stands procs body next
      → BodyBound (length captured) group (length parameters)
      (code body (fun_scope names captured parameters) (length parameters) next)
  own_bound names captured parameters group body next le ev st =
      let c = length captured in
      let n = length parameters in
      let known = each_bound (OperandBound c group n) captured (numbered (λ i. Captured i) captured 0) nothing_known
      (captures_bound c group captured 0 n (omega arith)) (λ name o e. none_some e) in
      let siblings = each_bound (OperandBound c group n) names (numbered (λ i. Sibling i) names 0)
      (captured_scope captured)
      (siblings_bound c group names 0 n (omega arith)) known in
      let all = each_bound (OperandBound c group n) parameters (numbered (λ i. Local i) parameters 0)
      (group_scope names captured)
      (locals_bound c group parameters 0 n (omega arith)) siblings in
      code_bound c group body (fun_scope names captured parameters) n next ev st all

  -- behind a function of a group stands the next one, if there is one
  follows : (names captured : List ℕ) (group index : ℕ) (others : RowMembers) (next : ℕ) (rest : List Proc) (p : Proc)
      → suc index + row_member_count others ≡ group → p.group ≡ group → p.place ≡ index → p.captured ≡ length captured
      → (nat_le p.group (suc p.place)
      || is_next (slice_get (own_procs names captured group (suc index) others next ++ rest) 0) p) ≡ true
  follows names captured group index NoRowMembers next rest p e g i c =
      or_left (nat_le p.group (suc p.place)) (is_next (slice_get rest 0) p)
      (le-leb p.group (suc p.place) (omega (arith, e, g, i)))
  follows names captured group index (RowMemberThen name parameters body type others) next rest p e g i c =
      or_right (nat_le p.group (suc p.place)) ((suc index == suc p.place)
      && ((group == p.group) && (length captured == p.captured))) (both (suc index == suc p.place)
      ((group == p.group) && (length captured == p.captured)) (eq-eqb (suc index) (suc p.place) (ap suc (sym i)))
      (both (group == p.group) (length captured == p.captured) (eq-eqb group p.group (sym g))
      (eq-eqb (length captured) p.captured (sym c))))

  own_front : (names captured : List ℕ) (group index : ℕ) (funs : RowMembers) (next : ℕ) → length names ≤ group
      → index + row_member_count funs ≡ group → FineIn funs → StandsIn procs funs next
      → Front (own_procs names captured group index funs next)
  own_front names captured group index NoRowMembers next le e ev st = λ rest h. h
  own_front names captured group index (RowMemberThen name parameters body type others) next le e ev st =
      let p : Proc = record {
        params = length parameters;
        captured = length captured;
        group = group;
        place = index;
        body = code body (fun_scope names captured parameters) (length parameters) next;
      } in
      let behind = own_procs names captured group (suc index) others (next + made body) in
      let fronts = own_front names captured group (suc index) others (next + made body) le (omega arith) ev.2 st.1 in
      λ rest h. both (proc_closed procs (slice_get (behind ++ rest) 0) p) (each_closed procs (behind ++ rest))
      (one_closed p (slice_get (behind ++ rest) 0) ev.0
      (follows names captured group index others (next + made body) rest p (omega arith) refl refl refl)
      (own_bound names captured parameters group body next le ev.1 st.0)) (fronts rest h)

  mutual
    front_of : (term : RowTerm) (next : ℕ) → Fine term → Stands procs term next → Front (procs_of term next)
    front_of (RowInt n) next ev st = λ rest h. h
    front_of (RowBool b) next ev st = λ rest h. h
    front_of RowUnit next ev st = λ rest h. h
    front_of (RowVar name) next ev st = λ rest h. h
    front_of (RowLambda parameters body type) next ev st =
        let funs = alone parameters body type in
        front_append (procs_of body next) (own_procs [] (captures [] funs) 1 0 funs next) (front_of body next ev.1
        st.0.0)
        (own_front [] (captures [] funs) 1 0 funs next (omega arith) (omega arith) (ev.0, ev.1, tt) st.0)
    front_of (RowGroup funs body) next ev st =
        let names = row_member_names funs in
        let own = own_procs names (captures names funs) (row_member_count funs) 0 funs next in
        let after = next + made_in funs + row_member_count funs in
        front_append (procs_in funs next) (own ++ procs_of body after) (front_in funs next ev.0 st.0.0)
        (front_append own (procs_of body after) (own_front names (captures names funs) (row_member_count funs) 0 funs
        next
        (let e = names_long funs in omega (arith, e)) (omega arith) ev.0 st.0.0) (front_of body after ev.1 st.1))
    front_of (RowLet terms body) next ev st =
        front_append (procs_by terms next) (procs_of body (next + made_by terms)) (front_by terms next ev.0 st.0)
        (front_of body (next + made_by terms) ev.1 st.1)
    front_of (RowCall f terms) next ev st =
        front_append (procs_of f next) (procs_for terms (next + made f)) (front_of f next ev.0 st.0)
        (front_for terms (next + made f) ev.1 st.1)
    front_of (RowIf c a b) next ev st =
        let pa = procs_of a (next + made c) in
        let pb = procs_of b (next + made c + made a) in
        front_append (procs_of c next) (pa ++ pb) (front_of c next ev.0 st.0)
        (front_append pa pb (front_of a (next + made c) ev.1 st.1) (front_of b (next + made c + made a) ev.2 st.2))
    front_of (RowSeq terms) next ev st = front_for terms next ev st
    front_of (RowCast term n) next ev st = front_of term next ev st
    front_of (RowProj term i) next ev st = front_of term next ev st
    front_of (RowProjDyn term i label) next ev st = front_of term next ev.0 st
    front_of (RowTuple terms) next ev st = front_for terms next ev.0 st
    front_of (RowPrim op terms) next ev st = front_for terms next ev.0 st

    front_for : (terms : RowTerms) (next : ℕ) → FineFor terms → StandsFor procs terms next
        → Front (procs_for terms next)
    front_for NoRowTerms next ev st = λ rest h. h
    front_for (RowTermThen term rest) next ev st =
        front_append (procs_of term next) (procs_for rest (next + made term)) (front_of term next ev.0 st.0)
        (front_for rest (next + made term) ev.1 st.1)

    front_by : (terms : RowBindings) (next : ℕ) → FineBy terms → StandsBy procs terms next
        → Front (procs_by terms next)
    front_by NoRowBindings next ev st = λ rest h. h
    front_by (RowBindingThen name term rest) next ev st =
        front_append (procs_of term next) (procs_by rest (next + made term)) (front_of term next ev.0 st.0)
        (front_by rest (next + made term) ev.1 st.1)

    front_in : (funs : RowMembers) (next : ℕ) → FineIn funs → StandsIn procs funs next → Front (procs_in funs next)
    front_in NoRowMembers next ev st = λ rest h. h
    front_in (RowMemberThen name parameters body type rest) next ev st =
        front_append (procs_of body next) (procs_in rest (next + made body)) (front_of body next ev.1 st.0)
        (front_in rest (next + made body) ev.2 st.1)

-- the procedures of a program are closed
pub converted_closed : (term : RowTerm) → Fine term → is_closed (converted term) (made term) ≡ true
converted_closed term ev =
    let procs = converted term in
    let stands = program_stands term in
    let last = both (proc_closed procs None (entry_proc term)) true (one_closed procs (entry_proc term) None
    (omega arith)
    refl (code_bound procs 0 0 term nothing_known 0 0 ev stands (λ name o e. none_some e))) refl in
    both (takes_nothing (slice_get procs (made term))) (each_closed procs procs) (ap takes_nothing (entry_stands term))
    (front_of procs term 0 ev stands (entry_proc term ∷ []) last)
