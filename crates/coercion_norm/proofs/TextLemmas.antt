-- The text of a coercion is that of its node, written piece by piece.
use Rattle.std.proofs.Common.{◌≡◌, ◌⊎◌, inl, inr, ℕ, zero, suc, ◌+◌, ◌<◌, nat_eq, Bool, true, false, cond, List, []}
use Rattle.std.proofs.Common.{◌∷◌}
use Rattle.std.proofs.Common.{◌++◌, length, drop, get_or, slice_get, Some, refl, sym, ap, ◌∙◌, subst, arith}
use Rattle.std.proofs.Common.{append_assoc}
use Rattle.std.proofs.Common.{append-nil}
use Rattle.std.specs.Prelude.{codes}
use Rattle.std.proofs.lemmas.Bool.Decides.{eqb_tells}
use Rattle.coercion_norm.specs.declared.nodes.CoercionId.{CoercionId}
use Rattle.coercion_norm.specs.Coercions.{Kind, Coercion, is_end, is_id}
use Rattle.coercion_norm.specs.Nodes.{Node, IdNode, FailNode, MiddleNode, InjectNode, ProjectNode, PartsBefore}
use Rattle.coercion_norm.specs.Nodes.{coercion_places, grown, tree_of, trees}
use Rattle.coercion_norm.specs.Texts.{HasLabels, HaveLabels, coercion_text, in_sequence, inject_text, kind_text}
use Rattle.coercion_norm.specs.Texts.{parts_text, project_text, separator}
use Rattle.coercion_norm.proofs.NodeLemmas.{tree_is}

-- two texts in sequence, written piece by piece
sequence_written : (old one two : List ℕ) {a b d e : List ℕ} → a ≡ old ++ codes "(seq " → b ≡ a ++ one
    → d ≡ b ++ codes " " → e ≡ d ++ two → e ++ codes ")" ≡ old ++ in_sequence one two
sequence_written old one two opened first between second =
    ap (λ (l : List ℕ). l ++ codes ")")
    (second ∙ ap (λ (l : List ℕ). l ++ two)
    (between ∙ ap (λ (l : List ℕ). l ++ codes " ") (first ∙ ap (λ (l : List ℕ). l ++ one) opened))) ∙ all
  where
    all : ((((old ++ codes "(seq ") ++ one) ++ codes " ") ++ two) ++ codes ")" ≡ old ++ in_sequence one two
    all = simp append_assoc

module _ (ty lab : ℕ → List ℕ) (nodes : List Node) (first : PartsBefore nodes) (c : ℕ) (old : List ℕ) where
  -- the text of the coercion at a place
  abbrev text : ℕ → List ℕ
  text place = coercion_text ty lab (tree_of nodes place)

  -- what is written of a node is what is written of the coercion
  behind_node : (node : Node) → slice_get nodes c ≡ Some node → (written : List ℕ)
      → written ≡ old ++ coercion_text ty lab (grown (tree_of nodes) (Some node)) → written ≡ old ++ text c
  behind_node node at written e = e ∙ ap (λ t. old ++ coercion_text ty lab t) (sym (tree_is nodes c node first at))

  pub id_written : slice_get nodes c ≡ Some IdNode → old ++ codes "id" ≡ old ++ text c
  id_written at = behind_node IdNode at _ refl

  pub fail_written : (label : ℕ) → slice_get nodes c ≡ Some (FailNode label)
      → ((old ++ codes "(fail ") ++ lab label) ++ codes ")" ≡ old ++ text c
  fail_written label at = behind_node (FailNode label) at _ (simp append_assoc)

  module _ (g kept : ℕ) (at : slice_get nodes c ≡ Some (InjectNode g kept)) where
    pub inject_written : is_id (tree_of nodes g) ≡ true → old ++ inject_text ty kept ≡ old ++ text c
    inject_written alone =
        behind_node (InjectNode g kept) at _
        (ap (λ b. old ++ cond b (inject_text ty kept) (in_sequence (text g) (inject_text ty kept))) (sym alone))

    pub inject_behind_written : is_id (tree_of nodes g) ≡ false
        → {a b d e : List ℕ} → a ≡ old ++ codes "(seq " → b ≡ a ++ text g → d ≡ b ++ codes " "
        → e ≡ d ++ inject_text ty kept → e ++ codes ")" ≡ old ++ text c
    inject_behind_written more opened first between second =
        sequence_written old (text g) (inject_text ty kept) opened first between second
        ∙ behind_node (InjectNode g kept) at _
        (ap (λ b. old ++ cond b (inject_text ty kept) (in_sequence (text g) (inject_text ty kept))) (sym more))

  module _ (wanted label i : ℕ) (at : slice_get nodes c ≡ Some (ProjectNode wanted label i)) where
    pub project_written : is_id (tree_of nodes i) ≡ true → old ++ project_text ty lab wanted label ≡ old ++ text c
    project_written alone =
        behind_node (ProjectNode wanted label i) at _
        (ap (λ b. old ++ cond b (project_text ty lab wanted label)
        (in_sequence (project_text ty lab wanted label) (text i))) (sym alone))

    pub project_before_written : is_id (tree_of nodes i) ≡ false
        → {a b d e : List ℕ} → a ≡ old ++ codes "(seq " → b ≡ a ++ project_text ty lab wanted label
        → d ≡ b ++ codes " " → e ≡ d ++ text i → e ++ codes ")" ≡ old ++ text c
    project_before_written more opened first between second =
        sequence_written old (project_text ty lab wanted label) (text i) opened first between second
        ∙ behind_node (ProjectNode wanted label i) at _
        (ap (λ b. old ++ cond b (project_text ty lab wanted label)
        (in_sequence (project_text ty lab wanted label) (text i))) (sym more))

  pub middle_written : (kind : Kind) (parts : List ℕ) (written : List ℕ)
      → slice_get nodes c ≡ Some (MiddleNode kind parts)
      → written ++ [] ≡ (old ++ kind_text kind) ++ parts_text ty lab kind (trees (tree_of nodes) parts)
      → written ++ codes ")" ≡ old ++ text c
  middle_written kind parts written at e =
      ap (λ l. l ++ codes ")") (sym (append-nil written) ∙ e)
      ∙ behind_node (MiddleNode kind parts) at _ (simp append_assoc)

-- ---- parts, of which some are written

-- the text of what is left of the parts
abbrev pub left_text : (ℕ → List ℕ) → (ℕ → List ℕ) → List Node → Kind → List CoercionId → ℕ → List ℕ
left_text ty lab nodes kind parts j = parts_text ty lab kind (trees (tree_of nodes) (coercion_places (drop j parts)))

last_part : (at : ℕ → Coercion) (parts : List CoercionId) (j : ℕ) → j < length parts
    → is_end (trees at (coercion_places (drop (j + 1) parts))) ≡ nat_eq (j + 1) (length parts)
last_part at parts j within = go (eqb_tells (j + 1) (length parts))
  where
    none : (xs : List CoercionId) (k : ℕ) → k ≡ length xs → is_end (trees at (coercion_places (drop k xs))) ≡ true
    none [] zero e = refl
    none [] (suc k) e = absurd (omega arith)
    none (x ∷ xs) zero e = absurd (omega arith)
    none (x ∷ xs) (suc k) e = none xs k (omega arith)

    some : (xs : List CoercionId) (k : ℕ) → k < length xs → is_end (trees at (coercion_places (drop k xs))) ≡ false
    some [] k l = absurd (omega arith)
    some (x ∷ xs) zero l = refl
    some (x ∷ xs) (suc k) l = some xs k (omega arith)

    go : ((nat_eq (j + 1) (length parts) ≡ true) × (j + 1 ≡ length parts))
        ⊎ ((nat_eq (j + 1) (length parts) ≡ false) × (j + 1 ≡ length parts → ⊥))
        → is_end (trees at (coercion_places (drop (j + 1) parts))) ≡ nat_eq (j + 1) (length parts)
    go (inl h) = none parts (j + 1) h.1 ∙ sym h.0
    go (inr h) = let apart = h.1 in some parts (j + 1) (strictly apart) ∙ sym h.0
      where
        strictly : (j + 1 ≡ length parts → ⊥) → j + 1 < length parts
        strictly apart = grind arith

drop_next : (parts : List CoercionId) (j : ℕ) (d : CoercionId) → j < length parts
    → drop j parts ≡ get_or parts j d ∷ drop (j + 1) parts
drop_next parts j d within =
    next parts j within ∙ ap (λ n. get_or parts j d ∷ drop n parts) (let e : suc j ≡ j + 1 = omega arith in e)
  where
    next : (xs : List CoercionId) (k : ℕ) → k < length xs → drop k xs ≡ get_or xs k d ∷ drop (suc k) xs
    next [] k l = absurd (omega arith)
    next (x ∷ xs) zero l = refl
    next (x ∷ xs) (suc k) l = next xs k (omega arith)

-- one part more
pub left_more : (ty lab : ℕ → List ℕ) (nodes : List Node) (kind : Kind) (parts : List CoercionId) (j : ℕ)
    (d : CoercionId) (last : Bool) (text whole : List ℕ) → j < length parts → last ≡ nat_eq (j + 1) (length parts)
    → text ++ left_text ty lab nodes kind parts j ≡ whole
    → ((text ++ separator kind last) ++ coercion_text ty lab (tree_of nodes (get_or parts j d).0))
    ++ left_text ty lab nodes kind parts (j + 1)
    ≡ whole
left_more ty lab nodes kind parts j d last text whole within is_last e =
    pieces (separator kind last) (coercion_text ty lab (tree_of nodes (get_or parts j d).0))
    (left_text ty lab nodes kind parts (j + 1))
    ∙ ap (λ b. text ++ (separator kind b ++ coercion_text ty lab (tree_of nodes (get_or parts j d).0)
    ++ left_text ty lab nodes kind parts (j + 1))) (is_last ∙ sym (last_part (tree_of nodes) parts j within))
    ∙ ap (λ (xs : List CoercionId). text ++ parts_text ty lab kind (trees (tree_of nodes) (coercion_places xs)))
    (sym (drop_next parts j d within))
    ∙ e
  where
    pieces : (one two three : List ℕ) → ((text ++ one) ++ two) ++ three ≡ text ++ (one ++ two ++ three)
    pieces one two three = simp append_assoc

pub left_none : (ty lab : ℕ → List ℕ) (nodes : List Node) (kind : Kind) (parts : List CoercionId) (j : ℕ)
    → length parts ≡ j → left_text ty lab nodes kind parts j ≡ []
left_none ty lab nodes kind parts j e = go parts j e
  where
    go : (xs : List CoercionId) (k : ℕ) → length xs ≡ k → left_text ty lab nodes kind xs k ≡ []
    go [] zero f = refl
    go [] (suc k) f = absurd (omega arith)
    go (x ∷ xs) zero f = absurd (omega arith)
    go (x ∷ xs) (suc k) f = go xs k (omega arith)

-- ---- labels

pub labels_of : (many : ℕ) (nodes : List Node) → PartsBefore nodes → (c : ℕ) (node : Node)
    → slice_get nodes c ≡ Some node → HasLabels many (tree_of nodes c)
    → HasLabels many (grown (tree_of nodes) (Some node))
labels_of many nodes first c node at labels = subst (HasLabels many) (tree_is nodes c node first at) labels

pub labels_of_part : (many : ℕ) (at : ℕ → Coercion) (parts : List CoercionId) (k : ℕ) (d : CoercionId)
    → k < length parts → HaveLabels many (trees at (coercion_places parts)) → HasLabels many (at (get_or parts k d).0)
labels_of_part many at [] k d within labels = absurd (omega arith)
labels_of_part many at (part ∷ parts) zero d within labels = labels.0
labels_of_part many at (part ∷ parts) (suc k) d within labels =
    labels_of_part many at parts k d (omega arith) labels.1
