-- The forms that end a body, and those behind which it goes on.
use Rattle.std.proofs.Common.{◌≡◌, ℕ, ◌+◌, ℤ, List, [], ◌∷◌, ◌++◌, length, Some, refl, sym, ap, ◌∙◌}
use Rattle.std.proofs.Common.{subst, arith, append_assoc}
use Rattle.grift_base.specs.declared.operators.PrimOp.{PrimOp}
use Rattle.flat_ir.specs.declared.code.Operand.{Operand}
use Rattle.flat_ir.specs.declared.code.Operand.TheVariants.{Local}
use Rattle.flat_ir.specs.declared.code.Operation.TheVariants.{Move, Prim, Cast, Tuple, Proj, ProjDyn}
use Rattle.flat_ir.specs.Bodies.{Body, Call, Choose, Give, LetGroup, Proc}
use Rattle.coer_core.specs.Terms.{RowTerm, RowTerms, RowMembers, RowBindings, RowCall, RowCast, RowGroup, RowIf}
use Rattle.coer_core.specs.Terms.{RowLambda, RowVar}
use Rattle.coer_core.specs.Terms.{RowLet, RowPrim, RowProj, RowProjDyn, RowTuple}
use Rattle.coer_core.specs.Counts.{free_names, free_names_of_all, free_names_of_bindings, free_names_of_members}
use Rattle.coer_core.specs.Counts.{names_besides, row_binding_names, row_member_count, row_member_names}
use Rattle.coer_core.specs.Views.{row_term_of, row_terms_of}
use Rattle.coer_core.specs.declared.terms.CoerList.{CoerList}
use Rattle.coer_core.specs.declared.terms.CoerTerm.{CoerTerm}
use Rattle.flat_ir.specs.declared.code.FlatBody.{FlatBody}
use Rattle.flat_ir.specs.Views.{body_of}
use Rattle.closure_convert.specs.declared.conversion.Converter.{Converter}
use Rattle.closure_convert.specs.declared.waits.Wait.{Wait}
use Rattle.closure_convert.specs.declared.waits.Waits.{Waits}
use Rattle.closure_convert.specs.Conversion.{Scope, alone, call_of, captures, code, gather, label_id, made, made_by}
use Rattle.closure_convert.specs.Conversion.{made_for, operand_or_unit}
use Rattle.closure_convert.specs.Conversion.{made_in, meanings_of, own_procs, procs_by, procs_for, procs_in, procs_of}
use Rattle.closure_convert.specs.Converting.{State, Adds, Hides, group_procs, seen, state}
use Rattle.closure_convert.specs.Scopes.{Reaches, known, over, with_free}
use Rattle.closure_convert.specs.Waits.{Puts, ahead}
use Rattle.closure_convert.proofs.Adding.{adds_name, adds_nothing, adds_outside, adds_same, adds_then, grows}
use Rattle.closure_convert.proofs.Meeting.{besides_append}
use Rattle.closure_convert.proofs.Placing.{Placed}

-- operands for terms, between these states, waits and local names
pub record Gathered (s : Scope) (a b : State) (v w : List Wait) (d : ℕ) (terms : RowTerms) (os : List Operand)
    : Type 0 where
  pub adds : Adds s a b (free_names_of_all terms) (procs_for terms) (made_for terms)
  pub at : (outer : Scope) → Reaches b.captured outer → (front : List Operand) (finish : List Operand → Body)
      → ahead w (finish (front ++ os)) ≡ ahead v (gather terms (over s outer) d (length a.procs) front finish)

-- what gathering the operands for terms ensures, where this is known
pub gathered_by : {s : Scope} (before after : Converter) (v w : Waits) (terms : CoerList) (os : List Operand)
    → known before.names ≡ s
    → Adds (known before.names) (state before) (state after) (free_names_of_all (row_terms_of terms))
    (procs_for (row_terms_of terms)) (made_for (row_terms_of terms))
    → ((outer : Scope) → Reaches after.names.captured outer → (front : List Operand) (finish : List Operand → Body)
    → ahead w.waits.items (finish (front ++ os))
    ≡ ahead v.waits.items (gather (row_terms_of terms) (seen before outer) v.depth (length before.procs) front finish))
    → Gathered s (state before) (state after) v.waits.items w.waits.items v.depth (row_terms_of terms) os
gathered_by before after v w terms os same adds at =
    subst (λ x. Gathered x (state before) (state after) v.waits.items w.waits.items v.depth (row_terms_of terms) os)
    same (record { adds = adds; at = at })

-- the body for a term, between these states
pub record Coded (s : Scope) (a b : State) (d : ℕ) (t : RowTerm) (body : Body) : Type 0 where
  pub adds : Adds s a b (free_names t) (procs_of t) (made t)
  pub at : (outer : Scope) → Reaches b.captured outer → body ≡ code t (over s outer) d (length a.procs)

pub coded_in : {s z : Scope} {a b : State} {d : ℕ} {t : RowTerm} {body : Body}
    → s ≡ z → Coded s a b d t body
    → Coded z a b d t body
coded_in {a = a} {b = b} {d = d} {t = t} {body = body} same p = subst (λ x. Coded x a b d t body) same p

-- what the code for a term ensures, where this is known
pub coded_by : {s : Scope} (before after : Converter) (d : ℕ) (term : CoerTerm) (body : FlatBody)
    → known before.names ≡ s
    → Adds (known before.names) (state before) (state after) (free_names (row_term_of term))
    (procs_of (row_term_of term)) (made (row_term_of term))
    → ((outer : Scope) → Reaches after.names.captured outer
    → body_of body ≡ code (row_term_of term) (seen before outer) d (length before.procs))
    → Coded s (state before) (state after) d (row_term_of term) (body_of body)
coded_by before after d term body same adds at =
    coded_in {a = state before} {b = state after} same (record { adds = adds; at = at })

-- the same, with what is bound in front of it
pub record Ended (s : Scope) (a b : State) (v : List Wait) (d : ℕ) (t : RowTerm) (body : Body) : Type 0 where
  pub adds : Adds s a b (free_names t) (procs_of t) (made t)
  pub at : (outer : Scope) → Reaches b.captured outer → body ≡ ahead v (code t (over s outer) d (length a.procs))

-- ---- forms that end a body

pub constant_ends : {s : Scope} {a : State} {v : List Wait} {d : ℕ} (t : RowTerm) (o : Operand) {last : Body}
    → free_names t ≡ [] → ((n : ℕ) → procs_of t n ≡ []) → made t ≡ 0
    → ((scope : Scope) (n : ℕ) → code t scope d n ≡ Give (Move o)) → last ≡ Give (Move o)
    → Ended s a a v d t (ahead v last)
constant_ends {s = s} {a = a} {v = v} t o names procs many is e = record {
  adds = adds_same s a a [] (free_names t) (λ n. []) (procs_of t) 0 (made t) (sym names) (λ n. sym (procs n)) (sym many)
      (adds_nothing s a);
  at = λ outer r. ap (ahead v) (e ∙ sym (is (over s outer) (length a.procs)));
}

pub name_ends : {s : Scope} {a b : State} {v : List Wait} {d : ℕ} (name : ℕ) (o : Operand) {last : Body}
    → b.captured ≡ with_free s a.captured name → b.procs ≡ a.procs
    → ((outer : Scope) → Reaches b.captured outer → over s outer name ≡ Some o) → last ≡ Give (Move o)
    → Ended s a b v d (RowVar name) (ahead v last)
name_ends {s = s} {a = a} {b = b} {v = v} name o captured procs means e = record {
  adds = adds_name s a b name captured procs;
  at = λ outer r. ap (ahead v) (e ∙ sym (ap (λ x. Give (Move (operand_or_unit x))) (means outer r)));
}

pub call_ends : {s : Scope} {a b c : State} {u v w : List Wait} {d e : ℕ} {f : RowTerm} {terms : RowTerms} {o : Operand}
    {os : List Operand} {body : Body}
    → Placed s a b u v d e f o → Gathered s b c v w e terms os
    → body ≡ ahead w (Call o os) → Ended s a c u d (RowCall f terms) body
call_ends {s = s} {a = a} {b = b} {c = c} {v = v} {e = e} {f = f} {terms = terms} {o = o} p g end = record {
  adds = adds_then s a b c (free_names f) (free_names_of_all terms) (procs_of f) (procs_for terms) (made f)
      (made_for terms) p.adds g.adds;
  at = λ outer r. end ∙ g.at outer r (o ∷ []) call_of
      ∙ ap (λ n. ahead v (gather terms (over s outer) e n (o ∷ []) call_of)) p.adds.count
      ∙ p.at outer (grows s b c (free_names_of_all terms) (procs_for terms) (made_for terms) g.adds outer r)
      (λ x later. gather terms (over s outer) later (length a.procs + made f) (x ∷ []) call_of);
}

pub if_ends : {s : Scope} {a b c e : State} {u v : List Wait} {d k : ℕ} {condition on_true on_false : RowTerm}
    {o : Operand} {one other body : Body}
    → Placed s a b u v d k condition o → Coded s b c k on_true one
    → Coded s c e k on_false other
    → body ≡ ahead v (Choose o one other) → Ended s a e u d (RowIf condition on_true on_false) body
if_ends {s = s} {a = a} {b = b} {c = c} {e = e} {v = v} {k = k} {condition = condition} {on_true = on_true}
    {on_false = on_false} {o = o} {other = other} p q z end = record {
      adds = adds_then s a b e (free_names condition) (free_names on_true ++ free_names on_false) (procs_of condition)
          (λ n. procs_of on_true n ++ procs_of on_false (n + made on_true)) (made condition)
          (made on_true + made on_false)
          p.adds both;
      at = λ outer r.
          let r2 : Reaches c.captured outer =
          grows s c e (free_names on_false) (procs_of on_false) (made on_false) z.adds outer r in
          let r1 : Reaches b.captured outer = grows s b c (free_names on_true) (procs_of on_true)
          (made on_true) q.adds outer r2 in
          let m : length c.procs ≡ length a.procs + made condition + made on_true =
          q.adds.count ∙ ap (λ n. n + made on_true) p.adds.count in
          end ∙ ap (λ x. ahead v (Choose o x other)) (q.at outer r2)
          ∙ ap (λ x. ahead v (Choose o (code on_true (over s outer) k (length b.procs)) x)) (z.at outer r)
          ∙ ap (λ n. ahead v (Choose o (code on_true (over s outer) k n)
          (code on_false (over s outer) k (length c.procs))))
          p.adds.count
          ∙ ap (λ n. ahead v (Choose o (code on_true (over s outer) k (length a.procs + made condition))
          (code on_false (over s outer) k n))) m
          ∙ p.at outer r1 (λ x later. Choose x (code on_true (over s outer) later (length a.procs + made condition))
          (code on_false (over s outer) later (length a.procs + made condition + made on_true)));
    }
  where
    both : Adds s b e (free_names on_true ++ free_names on_false)
        (λ n. procs_of on_true n ++ procs_of on_false (n + made on_true)) (made on_true + made on_false)
    both = adds_then s b c e (free_names on_true) (free_names on_false) (procs_of on_true) (procs_of on_false)
        (made on_true) (made on_false) q.adds z.adds

pub cast_ends : {s : Scope} {a b : State} {u v : List Wait} {d e : ℕ} {t : RowTerm} {o : Operand} {number : ℕ}
    {body : Body}
    → Placed s a b u v d e t o → body ≡ ahead v (Give (Cast o number)) → Ended s a b u d (RowCast t number) body
cast_ends {number = number} p end = record {
  adds = p.adds;
  at = λ outer r. end ∙ p.at outer r (λ x later. Give (Cast x number));
}

pub proj_ends : {s : Scope} {a b : State} {u v : List Wait} {d e : ℕ} {t : RowTerm} {o : Operand} {k : ℤ} {body : Body}
    → Placed s a b u v d e t o → body ≡ ahead v (Give (Proj o k)) → Ended s a b u d (RowProj t k) body
proj_ends {k = k} p end = record {
  adds = p.adds;
  at = λ outer r. end ∙ p.at outer r (λ x later. Give (Proj x k));
}

pub proj_dyn_ends : {s : Scope} {a b : State} {u v : List Wait} {d e : ℕ} {t : RowTerm} {o : Operand} {k : ℤ}
    {label : ℕ} {body : Body}
    → Placed s a b u v d e t o → body ≡ ahead v (Give (ProjDyn o k (label_id label)))
    → Ended s a b u d (RowProjDyn t k label) body
proj_dyn_ends {k = k} {label = label} p end = record {
  adds = p.adds;
  at = λ outer r. end ∙ p.at outer r (λ x later. Give (ProjDyn x k (label_id label)));
}

pub tuple_ends : {s : Scope} {a b : State} {u v : List Wait} {d : ℕ} {parts : RowTerms} {os : List Operand}
    {body : Body}
    → Gathered s a b u v d parts os → body ≡ ahead v (Give (Tuple os)) → Ended s a b u d (RowTuple parts) body
tuple_ends g end = record {
  adds = g.adds;
  at = λ outer r. end ∙ g.at outer r [] (λ xs. Give (Tuple xs));
}

pub prim_ends : {s : Scope} {a b : State} {u v : List Wait} {d : ℕ} {operator : PrimOp} {terms : RowTerms}
    {os : List Operand} {body : Body}
    → Gathered s a b u v d terms os → body ≡ ahead v (Give (Prim operator os))
    → Ended s a b u d (RowPrim operator terms) body
prim_ends {operator = operator} g end = record {
  adds = g.adds;
  at = λ outer r. end ∙ g.at outer r [] (λ xs. Give (Prim operator xs));
}

pub lambda_ends : {s : Scope} {a b : State} {v : List Wait} (w : List Wait) {d : ℕ} {parameters : List ℕ}
    {term : RowTerm} {type : ℕ} {body : Body}
    → Adds s a b (names_besides parameters (free_names term)) (procs_of (RowLambda parameters term 0))
    (made term + 0 + 1)
    → ((outer : Scope) → Reaches b.captured outer → Puts v w (λ r. LetGroup d (length a.procs + (made term + 0)) 1
    (meanings_of (captures [] (alone parameters term 0)) (over s outer)) r))
    → body ≡ ahead w (Give (Move (Local d))) → Ended s a b v d (RowLambda parameters term type) body
lambda_ends w {d = d} x p end = record {
  adds = x;
  at = λ outer r. end ∙ p outer r (Give (Move (Local d)));
}

-- ---- forms behind which a body goes on

pub group_goes_on : {s inside : Scope} {a b end : State} (members : RowMembers) (body : RowTerm)
    → Hides (row_member_names members) inside s
    → Adds s a b (names_besides (row_member_names members) (free_names_of_members members)) (group_procs members)
    (made_in members + row_member_count members)
    → Adds inside b end (free_names body) (procs_of body) (made body)
    → Adds s a end (free_names (RowGroup members body)) (procs_of (RowGroup members body))
    (made (RowGroup members body))
group_goes_on {s = s} {inside = inside} {a = a} {b = b} {end = end} members body hide x y = all
  where
    names : List ℕ
    names = row_member_names members

    own : ℕ → List Proc
    own = λ n. own_procs (row_member_names members) (captures (row_member_names members) members)
        (row_member_count members) 0 members n

    many : ℕ
    many = made_in members + row_member_count members

    joined : Adds s a end (names_besides (row_member_names members) (free_names_of_members members)
        ++ names_besides (row_member_names members) (free_names body))
        (λ n. group_procs members n ++ procs_of body (n + (made_in members + row_member_count members)))
        (made_in members + row_member_count members + made body)
    joined = adds_then s a b end (names_besides (row_member_names members) (free_names_of_members members))
        (names_besides (row_member_names members) (free_names body)) (group_procs members) (procs_of body)
        (made_in members + row_member_count members) (made body) x
        (adds_outside (row_member_names members) inside s b end (free_names body) (procs_of body) (made body) hide y)

    number : (n : ℕ) → n + (made_in members + row_member_count members) ≡ n + made_in members + row_member_count members
    number n = omega arith

    all : Adds s a end (free_names (RowGroup members body)) (procs_of (RowGroup members body)) (made
        (RowGroup members body))
    all = adds_same s a end (names_besides (row_member_names members) (free_names_of_members members)
        ++ names_besides (row_member_names members) (free_names body)) (free_names (RowGroup members body))
        (λ n. group_procs members n ++ procs_of body (n + (made_in members + row_member_count members)))
        (procs_of (RowGroup members body)) (made_in members + row_member_count members + made body)
        (made (RowGroup members body))
        (sym (besides_append (row_member_names members) (free_names_of_members members) (free_names body)))
        (λ n. append_assoc (procs_in members n) (own_procs (row_member_names members)
        (captures (row_member_names members) members) (row_member_count members) 0 members n)
        (procs_of body (n + (made_in members + row_member_count members)))
        ∙ ap (λ k. procs_in members n ++ (own_procs (row_member_names members)
        (captures (row_member_names members) members) (row_member_count members) 0 members n ++ procs_of body k))
        (number n)) refl joined

pub let_goes_on : {s inside : Scope} {a b end : State} (bindings : RowBindings) (body : RowTerm)
    → Hides (row_binding_names bindings) inside s
    → Adds s a b (free_names_of_bindings bindings) (procs_by bindings) (made_by bindings)
    → Adds inside b end (free_names body) (procs_of body) (made body)
    → Adds s a end (free_names (RowLet bindings body)) (procs_of (RowLet bindings body)) (made (RowLet bindings body))
let_goes_on {s = s} {inside = inside} {a = a} {b = b} {end = end} bindings body hide x y =
    adds_then s a b end (free_names_of_bindings bindings) (names_besides (row_binding_names bindings) (free_names body))
    (procs_by bindings) (procs_of body) (made_by bindings) (made body) x
    (adds_outside (row_binding_names bindings) inside s b end (free_names body) (procs_of body) (made body) hide y)

pub body_goes_on : {s inside : Scope} {a b c : State} {v w : List Wait} {d e : ℕ} (whole body : RowTerm) {last : Body}
    → (Adds inside b c (free_names body) (procs_of body) (made body)
    → Adds s a c (free_names whole) (procs_of whole) (made whole))
    → ((outer : Scope) → Reaches b.captured outer → ahead w (code body (over inside outer) e (length b.procs))
    ≡ ahead v (code whole (over s outer) d (length a.procs)))
    → Ended inside b c w e body last → Ended s a c v d whole last
body_goes_on {inside = inside} {b = b} {c = c} whole body adds at y = record {
  adds = adds y.adds;
  at = λ outer r. y.at outer r
      ∙ at outer (grows inside b c (free_names body) (procs_of body) (made body) y.adds outer r);
}
