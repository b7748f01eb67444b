-- The captured names of a group are the names bound outside it that are free in a member, each once and in order.
use Rattle.std.proofs.Common.{◌≡◌, ℕ, zero, suc, Bool, true, false, cond, nat_eq, List, [], ◌∷◌, ◌++◌}
use Rattle.std.proofs.Common.{slice_get, Some, refl, sym, ap, ◌∙◌, arith, eqb-true}
use Rattle.grift_base.specs.Tables.{HasNoRepeats}
use Rattle.core_calc.specs.Substitution.{is_among}
use Rattle.coer_core.specs.Terms.{RowTerm, RowTerms, RowMembers, RowBindings, RowInt, RowBool, RowUnit, RowVar}
use Rattle.coer_core.specs.Terms.{RowLambda, RowGroup, RowLet, RowCall, RowIf, RowSeq, RowCast, RowProj, RowProjDyn}
use Rattle.coer_core.specs.Terms.{RowTuple, RowPrim, NoRowTerms, RowTermThen, NoRowMembers, RowMemberThen}
use Rattle.coer_core.specs.Terms.{NoRowBindings, RowBindingThen}
use Rattle.coer_core.specs.Counts.{each_once, free_names, free_names_of_all, free_names_of_bindings, names_besides}
use Rattle.coer_core.specs.Counts.{free_names_of_members, row_binding_names, row_member_names}
use Rattle.closure_convert.specs.Conversion.{captures}
use Rattle.closure_convert.specs.Free.{either, is_free, is_free_in_a_member, is_free_in_bindings, is_free_in_terms}
use Rattle.closure_convert.proofs.Meeting.{among_append, besides_append, besides_both, besides_none, besides_swap}
use Rattle.closure_convert.proofs.Carrying.{is_itself, chosen_true, chosen_false, false_true, none_some}

-- ---- which names

among_besides : (name : ℕ) (names xs : List ℕ)
    → is_among name (names_besides names xs) ≡ cond (is_among name names) false (is_among name xs)
among_besides name names [] = nothing (is_among name names)
  where
    nothing : (b : Bool) → false ≡ cond b false false
    nothing true = refl
    nothing false = refl
among_besides name names (x ∷ xs) =
    by_test (nat_eq name x) refl (is_among x names) refl (among_besides name names xs)
  where
    here : (c : Bool) → is_among x names ≡ c → nat_eq name x ≡ true → is_among name names ≡ c
    here c k e = ap (λ n. is_among n names) (eqb-true name x e) ∙ k

    by_test : (b : Bool) → nat_eq name x ≡ b → (c : Bool) → is_among x names ≡ c
        → is_among name (names_besides names xs) ≡ cond (is_among name names) false (is_among name xs)
        → is_among name (cond c (names_besides names xs) (x ∷ names_besides names xs))
        ≡ cond (is_among name names) false (cond b true (is_among name xs))
    by_test true e true k ih =
        ih ∙ ap (λ d. cond d false (is_among name xs)) (here true k e)
        ∙ sym (ap (λ d. cond d false true) (here true k e))
    by_test true e false k ih =
        chosen_true (nat_eq name x) true (is_among name (names_besides names xs)) e
        ∙ sym (ap (λ d. cond d false true) (here false k e))
    by_test false e true k ih = ih
    by_test false e false k ih = chosen_false (nat_eq name x) true (is_among name (names_besides names xs)) e ∙ ih

joined : (name : ℕ) (xs ys : List ℕ) (b c : Bool) → is_among name xs ≡ b → is_among name ys ≡ c
    → is_among name (xs ++ ys) ≡ either b c
joined name xs ys b c e f =
    among_append name xs ys ∙ ap (λ d. cond d true (is_among name ys)) e ∙ ap (λ d. cond b true d) f

apart : (name : ℕ) (names xs : List ℕ) (b : Bool) → is_among name xs ≡ b
    → is_among name (names_besides names xs) ≡ cond (is_among name names) false b
apart name names xs b e = among_besides name names xs ∙ ap (λ d. cond (is_among name names) false d) e

same : (b : Bool) → cond b true false ≡ b
same true = refl
same false = refl

mutual
  pub free_is : (name : ℕ) (t : RowTerm) → is_among name (free_names t) ≡ is_free name t
  free_is name (RowInt n) = refl
  free_is name (RowBool b) = refl
  free_is name RowUnit = refl
  free_is name (RowVar other) = same (nat_eq name other)
  free_is name (RowLambda parameters body type) = apart name parameters (free_names body) (is_free name body)
      (free_is name body)
  free_is name (RowGroup members body) =
      apart name (row_member_names members) (free_names_of_members members ++ free_names body)
      (either (is_free_in_a_member name members) (is_free name body))
      (joined name (free_names_of_members members) (free_names body) (is_free_in_a_member name members)
      (is_free name body)
      (members_is name members) (free_is name body))
  free_is name (RowLet bindings body) =
      joined name (free_names_of_bindings bindings) (names_besides (row_binding_names bindings) (free_names body))
      (is_free_in_bindings name bindings) (cond (is_among name (row_binding_names bindings)) false (is_free name body))
      (bindings_is name bindings) (apart name (row_binding_names bindings) (free_names body) (is_free name body)
      (free_is name body))
  free_is name (RowCall f args) =
      joined name (free_names f) (free_names_of_all args) (is_free name f) (is_free_in_terms name args) (free_is name f)
      (terms_is name args)
  free_is name (RowIf c a b) =
      joined name (free_names c) (free_names a ++ free_names b) (is_free name c) (either (is_free name a)
      (is_free name b))
      (free_is name c) (joined name (free_names a) (free_names b) (is_free name a) (is_free name b) (free_is name a)
      (free_is name b))
  free_is name (RowSeq terms) = terms_is name terms
  free_is name (RowCast t number) = free_is name t
  free_is name (RowProj t k) = free_is name t
  free_is name (RowProjDyn t k label) = free_is name t
  free_is name (RowTuple parts) = terms_is name parts
  free_is name (RowPrim operator terms) = terms_is name terms

  terms_is : (name : ℕ) (ts : RowTerms) → is_among name (free_names_of_all ts) ≡ is_free_in_terms name ts
  terms_is name NoRowTerms = refl
  terms_is name (RowTermThen t rest) =
      joined name (free_names t) (free_names_of_all rest) (is_free name t) (is_free_in_terms name rest) (free_is name t)
      (terms_is name rest)

  members_is : (name : ℕ) (ms : RowMembers) → is_among name (free_names_of_members ms) ≡ is_free_in_a_member name ms
  members_is name NoRowMembers = refl
  members_is name (RowMemberThen other parameters t type rest) =
      joined name (names_besides parameters (free_names t)) (free_names_of_members rest)
      (cond (is_among name parameters) false (is_free name t)) (is_free_in_a_member name rest)
      (apart name parameters (free_names t) (is_free name t) (free_is name t)) (members_is name rest)

  bindings_is : (name : ℕ) (bs : RowBindings) → is_among name (free_names_of_bindings bs) ≡ is_free_in_bindings name bs
  bindings_is name NoRowBindings = refl
  bindings_is name (RowBindingThen other t rest) =
      joined name (free_names t) (free_names_of_bindings rest) (is_free name t) (is_free_in_bindings name rest)
      (free_is name t) (bindings_is name rest)

among_once : (name : ℕ) (xs : List ℕ) → is_among name (each_once xs) ≡ is_among name xs
among_once name [] = refl
among_once name (x ∷ xs) =
    ap (λ d. cond (nat_eq name x) true d) (among_besides name (x ∷ []) (each_once xs))
    ∙ by_test (nat_eq name x) (among_once name xs)
  where
    by_test : (b : Bool) → is_among name (each_once xs) ≡ is_among name xs
        → cond b true (cond (cond b true false) false (is_among name (each_once xs))) ≡ cond b true (is_among name xs)
    by_test true ih = refl
    by_test false ih = ih

pub captured_free : (names : List ℕ) (members : RowMembers) (name : ℕ)
    → is_among name (captures names members) ≡ cond (is_among name names) false (is_free_in_a_member name members)
captured_free names members name =
    among_once name (names_besides names (free_names_of_members members))
    ∙ apart name names (free_names_of_members members) (is_free_in_a_member name members) (members_is name members)

-- ---- each once

get_among : (xs : List ℕ) (i x : ℕ) → slice_get xs i ≡ Some x → is_among x xs ≡ true
get_among [] i x e = none_some e
get_among (y ∷ xs) zero x e =
    ap (λ n. is_among x (n ∷ xs)) one ∙ chosen_true (nat_eq x x) true (is_among x xs) (is_itself x)
  where
    one : y ≡ x
    one = cc
get_among (y ∷ xs) (suc i) x e = by_test (nat_eq x y) (get_among xs i x e)
  where
    by_test : (b : Bool) → is_among x xs ≡ true → cond b true (is_among x xs) ≡ true
    by_test true k = refl
    by_test false k = k

abbrev IsDistinct : List ℕ → Type 0
IsDistinct [] = Unit {0}
IsDistinct (x ∷ xs) = (is_among x xs ≡ false) × IsDistinct xs

distinct_besides : (names xs : List ℕ) → IsDistinct xs → IsDistinct (names_besides names xs)
distinct_besides names [] h = tt
distinct_besides names (x ∷ xs) h = by_test (is_among x names) (distinct_besides names xs h.1)
  where
    nothing : (b : Bool) → cond b false false ≡ false
    nothing true = refl
    nothing false = refl

    by_test : (b : Bool) → IsDistinct (names_besides names xs)
        → IsDistinct (cond b (names_besides names xs) (x ∷ names_besides names xs))
    by_test true ih = ih
    by_test false ih =
        (among_besides x names xs ∙ ap (λ d. cond (is_among x names) false d) h.0 ∙ nothing (is_among x names), ih)

distinct_once : (xs : List ℕ) → IsDistinct (each_once xs)
distinct_once [] = tt
distinct_once (x ∷ xs) = (
  among_besides x (x ∷ []) (each_once xs)
      ∙ ap (λ b. cond (cond b true false) false (is_among x (each_once xs))) (is_itself x),
  distinct_besides (x ∷ []) (each_once xs) (distinct_once xs),
)

no_repeats : (xs : List ℕ) → IsDistinct xs → HasNoRepeats xs
no_repeats [] h i j less e = absurd (omega arith)
no_repeats (x ∷ xs) h zero zero less e = refl
no_repeats (x ∷ xs) h zero (suc j) less e = false_true (sym h.0 ∙ get_among xs j x (sym e))
no_repeats (x ∷ xs) h (suc i) zero less e = false_true (sym h.0 ∙ get_among xs i x e)
no_repeats (x ∷ xs) h (suc i) (suc j) less e = ap suc (no_repeats xs h.1 i j (omega arith) e)

pub captured_once : (names : List ℕ) (members : RowMembers) → HasNoRepeats (captures names members)
captured_once names members =
    no_repeats (captures names members) (distinct_once (names_besides names (free_names_of_members members)))

-- ---- in order

pub once_append : (first rest : List ℕ)
    → each_once (first ++ rest) ≡ each_once first ++ names_besides first (each_once rest)
once_append [] rest = sym (besides_none (each_once rest))
once_append (x ∷ first) rest =
    ap (λ r. x ∷ names_besides (x ∷ []) r) (once_append first rest)
    ∙ ap (λ r. x ∷ r) (besides_append (x ∷ []) (each_once first) (names_besides first (each_once rest))
    ∙ ap (λ r. names_besides (x ∷ []) (each_once first) ++ r)
    (besides_swap (x ∷ []) first (each_once rest) ∙ sym (besides_both (x ∷ []) first (each_once rest))))
