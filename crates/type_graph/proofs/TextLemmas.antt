-- The text of a type is that of its row.
use Rattle.std.proofs.Common.{◌≡◌, ℕ, zero, suc, ◌+◌, ◌<◌, List, [], ◌∷◌, ◌++◌, length, take, get_or, Option, Some}
use Rattle.std.proofs.Common.{None, refl, sym, ap, ap₂, ◌∙◌, arith, append_assoc, append-nil}
use Rattle.std.specs.Prelude.{All, codes}
use Rattle.std.proofs.lemmas.List.{map_more}
use Rattle.std.proofs.lemmas.List.Elements.{All-head, All-tail, All-cons}
use Rattle.grift_base.specs.Types.{TypeRow, TypeRows, IntRow, BoolRow, UnitRow, DynRow, FunRow, TupleRow, RefRow}
use Rattle.grift_base.specs.Types.{VectRow, row_at}
use Rattle.grift_base.specs.declared.places.TypeId.{TypeId}
use Rattle.type_graph.specs.Rows.{places_of}
use Rattle.type_graph.specs.Trees.{EndsWithin, AreFinite, row_parts}
use Rattle.type_graph.specs.Texts.{each_between, row_text, text_to, type_text}
use Rattle.type_graph.proofs.TreeLemmas.{ends_deeper, parts_end_twice}

-- ---- types in a row

between_same : (before behind : List ℕ) (f g : ℕ → List ℕ) (P : ℕ → Type 0) (xs : List ℕ) →
    ((s : ℕ) → P s → f s ≡ g s) → All P xs → each_between before behind f xs ≡ each_between before behind g xs
between_same before behind f g P [] same all = refl
between_same before behind f g P (x ∷ xs) same all =
    ap₂ (λ a b. before ++ a ++ behind ++ b) (same x (All-head P x xs all))
    (between_same before behind f g P xs same (All-tail P x xs all))

each_between-push : (before behind : List ℕ) (f : ℕ → List ℕ) (xs : List ℕ) (x : ℕ) →
    each_between before behind f (xs ++ x ∷ []) ≡ each_between before behind f xs ++ (before ++ f x ++ behind)
each_between-push before behind f [] x = append-nil (before ++ f x ++ behind)
each_between-push before behind f (y ∷ xs) x =
    ap (λ l. before ++ f y ++ behind ++ l) (each_between-push before behind f xs x)
    ∙ sym (append_assoc (before ++ f y ++ behind) (each_between before behind f xs) (before ++ f x ++ behind))

-- ---- the row decides

split_last : (P : ℕ → Type 0) (xs : List ℕ) (a : ℕ) → All P (xs ++ a ∷ []) → All P xs × P a
split_last P [] a all = (λ k d h. absurd (omega arith), All-head P a [] all)
split_last P (x ∷ xs) a all =
    let rest = split_last P xs a (All-tail P x (xs ++ a ∷ []) all) in
    (All-cons P x xs (All-head P x (xs ++ a ∷ []) all) rest.0, rest.1)

row_text-same : (f g : ℕ → List ℕ) (P : ℕ → Type 0) (row : Option TypeRow) → ((s : ℕ) → P s → f s ≡ g s) →
    All P (row_parts row) → row_text f row ≡ row_text g row
row_text-same f g P (Some IntRow) same all = refl
row_text-same f g P (Some BoolRow) same all = refl
row_text-same f g P (Some UnitRow) same all = refl
row_text-same f g P (Some DynRow) same all = refl
row_text-same f g P (Some (FunRow parameters answer)) same all =
    let parts = split_last P parameters answer all in
    ap₂ (λ a b. codes "(" ++ a ++ codes "-> " ++ b ++ codes ")")
    (between_same (codes "") (codes " ") f g P parameters same parts.0) (same answer parts.1)
row_text-same f g P (Some (TupleRow parts)) same all =
    ap (λ a. codes "(Tuple" ++ a ++ codes ")") (between_same (codes " ") (codes "") f g P parts same all)
row_text-same f g P (Some (RefRow content)) same all =
    ap (λ a. codes "(Ref " ++ a ++ codes ")") (same content (All-head P content [] all))
row_text-same f g P (Some (VectRow content)) same all =
    ap (λ a. codes "(Vect " ++ a ++ codes ")") (same content (All-head P content [] all))
row_text-same f g P None same all = refl

text_steady : (types : TypeRows) (n m a : ℕ) → EndsWithin n types a → EndsWithin m types a →
    text_to n types a ≡ text_to m types a
text_steady types zero m a one two = cc
text_steady types (suc n) zero a one two = cc
text_steady types (suc n) (suc m) a one two =
    row_text-same (text_to n types) (text_to m types) (λ s. EndsWithin n types s × EndsWithin m types s)
    (row_at types a)
    (λ s both. text_steady types n m s both.0 both.1) (parts_end_twice types n m a one two)

-- a type's text is that of its row, with the texts of its parts
pub text_by_row : (types : TypeRows) → AreFinite types → (a : ℕ) → a < length types →
    type_text types a ≡ row_text (type_text types) (row_at types a)
text_by_row types finite a within =
    let ends = finite.ends a within in
    text_steady types (length types) (suc (length types)) a ends (ends_deeper types (length types) a ends)

-- ---- what is written piece by piece

-- a type's text behind another
module _ (types : TypeRows) (finite : AreFinite types) (a : ℕ) (within : a < length types) (before : List ℕ) where
  behind_row : (row : TypeRow) → row_at types a ≡ Some row → (written : List ℕ) →
      written ≡ before ++ row_text (type_text types) (Some row) → written ≡ before ++ type_text types a
  behind_row row at written e =
      e ∙ ap (λ l. before ++ l) (sym (text_by_row types finite a within ∙ ap (row_text (type_text types)) at))

  pub fun_written : (parameters : List ℕ) (answer : ℕ) → row_at types a ≡ Some (FunRow parameters answer) →
      (((before ++ codes "(") ++ each_between (codes "") (codes " ") (type_text types) parameters) ++ codes "-> ")
      ++ type_text types answer
      ++ codes ")" ≡ before ++ type_text types a
  fun_written parameters answer at = behind_row (FunRow parameters answer) at _ (simp append_assoc)

  pub tuple_written : (parts : List ℕ) → row_at types a ≡ Some (TupleRow parts) →
      ((before ++ codes "(Tuple") ++ each_between (codes " ") (codes "") (type_text types) parts) ++ codes ")" ≡ before
      ++ type_text types a
  tuple_written parts at = behind_row (TupleRow parts) at _ (simp append_assoc)

  closed : (opened text start : List ℕ) (content : ℕ) → opened ≡ before ++ start →
      text ≡ opened ++ type_text types content →
      text ++ codes ")" ≡ ((before ++ start) ++ type_text types content) ++ codes ")"
  closed opened text start content e f =
      ap (λ l. l ++ codes ")") (f ∙ ap (λ l. l ++ type_text types content) e)

  pub ref_written : (content : ℕ) → row_at types a ≡ Some (RefRow content) → (opened text : List ℕ) →
      opened ≡ before ++ codes "(Ref " → text ≡ opened ++ type_text types content →
      text ++ codes ")" ≡ before ++ type_text types a
  ref_written content at opened text e f =
      behind_row (RefRow content) at _ (closed opened text (codes "(Ref ") content e f ∙ simp append_assoc)

  pub vect_written : (content : ℕ) → row_at types a ≡ Some (VectRow content) → (opened text : List ℕ) →
      opened ≡ before ++ codes "(Vect " → text ≡ opened ++ type_text types content →
      text ++ codes ")" ≡ before ++ type_text types a
  vect_written content at opened text e f =
      behind_row (VectRow content) at _ (closed opened text (codes "(Vect ") content e f ∙ simp append_assoc)

  pub leaf_written : (row : TypeRow) → row_at types a ≡ Some row →
      before ++ row_text (type_text types) (Some row) ≡ before ++ type_text types a
  leaf_written row at = behind_row row at _ refl

-- one type more in a row
pub between_more : (before behind : List ℕ) (types : TypeRows) (parts : List TypeId) (k : ℕ) (d : TypeId)
    (start text : List ℕ) → k < length parts →
    text ≡ start ++ each_between before behind (type_text types) (places_of (take k parts)) →
    ((text ++ before) ++ type_text types (get_or parts k d).0) ++ behind
    ≡ start ++ each_between before behind (type_text types) (places_of (take (k + 1) parts))
between_more before behind types parts k d start text within e =
    let more = before ++ type_text types (get_or parts k d).0 ++ behind in
    let one : ((text ++ before) ++ type_text types (get_or parts k d).0) ++ behind ≡ text ++ more =
    simp append_assoc in
    one
    ∙ ap (λ l. l ++ more) e
    ∙ append_assoc start (each_between before behind (type_text types) (places_of (take k parts))) more
    ∙ ap (λ l. start ++ l) (sym (each_between-push before behind (type_text types) (places_of (take k parts))
    (get_or parts k d).0))
    ∙ ap (λ l. start ++ each_between before behind (type_text types) l)
    (sym (map_more (λ (id : TypeId). id.0) parts k d within))

-- parameters and result of a function, as parts of its row
pub fun_parts : (P : ℕ → Type 0) (parameters : List ℕ) (answer : ℕ) → All P (parameters ++ answer ∷ []) →
    All P parameters × P answer
fun_parts P parameters answer all = split_last P parameters answer all
