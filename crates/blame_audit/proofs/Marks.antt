-- The marks of labels say which are safe.
use Rattle.std.proofs.Common.{◌≡◌, ◌≢◌, ◌↔◌, ℕ, zero, suc, ◌+◌, ◌<◌, Bool, true, false, List, [], ◌∷◌, ◌++◌}
use Rattle.std.proofs.Common.{length, take, get_or, replicate, Option, Some, None, refl, sym, ap, ap₂, ◌∙◌, subst}
use Rattle.std.proofs.Common.{arith, slice_get, inl, inr}
use Rattle.std.specs.Prelude.{◌&&◌, not, cond, nat_eq, slice_set, ◌⊎◌, Contains}
use Rattle.std.proofs.lemmas.Bool.{and_parts, and_from, eq-eqb, ne_eqb, cases_eq}
use Rattle.std.proofs.lemmas.List.{map_more}
use Rattle.grift_base.specs.declared.places.LabelId.{LabelId}
use Rattle.grift_base.specs.Types.{TypeRows}
use Rattle.type_graph.specs.Trees.{AreFinite}
use Rattle.core_calc.proofs.Public.{none_is_not_some, same_some, get_kept, get_last, get_before_or_last}
use Rattle.insert_steps.specs.declared.casts.CastEntry.{CastEntry}
use Rattle.cast_rules.specs.Making.{Entry, CastFrom, PartOf}
use Rattle.insert_steps.specs.Views.{entry_of, entries_of}
use Rattle.blame_audit.specs.Up.{Up, up}
use Rattle.blame_audit.specs.SafeLabels.{Allows, IsSafe, spoils, is_spared, is_safe, safe_labels}
use Rattle.blame_audit.specs.Marks.{NamesKnown, AllNameKnown, spoil, marked}
use Rattle.blame_audit.specs.Views.{labels_of}
use Rattle.blame_audit.proofs.UpRows.{false_is_not_true}
use Rattle.blame_audit.proofs.UpAnswers.{up_is_exact}

-- ---- marks as entries are gone through

marked-push : (types : TypeRows) (entries : List Entry) (entry : Entry) (marks : List Bool) →
    marked types (entries ++ entry ∷ []) marks ≡ spoil (spoils types entry) (marked types entries marks)
marked-push types [] entry marks = refl
marked-push types (first ∷ rest) entry marks = marked-push types rest entry (spoil (spoils types first) marks)

-- one entry more
pub marked_more : (types : TypeRows) (casts : List CastEntry) (k : ℕ) (d : CastEntry) (marks : List Bool) →
    k < length casts → marked types (entries_of (take (k + 1) casts)) marks ≡
    spoil (spoils types (entry_of (get_or casts k d))) (marked types (entries_of (take k casts)) marks)
marked_more types casts k d marks within =
    ap (λ entries. marked types entries marks) (map_more entry_of casts k d within)
    ∙ marked-push types (entries_of (take k casts)) (entry_of (get_or casts k d)) marks

length_set : (marks : List Bool) (k : ℕ) (b : Bool) → length (slice_set marks k b) ≡ length marks
length_set [] k b = refl
length_set (mark ∷ marks) zero b = refl
length_set (mark ∷ marks) (suc k) b = ap suc (length_set marks k b)

length_spoil : (option : Option ℕ) (marks : List Bool) → length (spoil option marks) ≡ length marks
length_spoil None marks = refl
length_spoil (Some label) marks = length_set marks label false

pub length_marked : (types : TypeRows) (entries : List Entry) (marks : List Bool) →
    length (marked types entries marks) ≡ length marks
length_marked types [] marks = refl
length_marked types (entry ∷ rest) marks =
    length_marked types rest (spoil (spoils types entry) marks) ∙ length_spoil (spoils types entry) marks

pub length_replicate : (n : ℕ) (b : Bool) → length (replicate n b) ≡ n
length_replicate zero b = refl
length_replicate (suc n) b = ap suc (length_replicate n b)

-- ---- what a mark says

get_set_here : (marks : List Bool) (k : ℕ) (old b : Bool) → slice_get marks k ≡ Some old →
    slice_get (slice_set marks k b) k ≡ Some b
get_set_here [] k old b e = absurd (none_is_not_some old e)
get_set_here (mark ∷ marks) zero old b e = refl
get_set_here (mark ∷ marks) (suc k) old b e = get_set_here marks k old b e

get_set_there : (marks : List Bool) (k p : ℕ) (b : Bool) → k ≢ p → slice_get (slice_set marks k b) p ≡ slice_get marks p
get_set_there [] k p b apart = refl
get_set_there (mark ∷ marks) zero zero b apart = absurd (apart refl)
get_set_there (mark ∷ marks) zero (suc p) b apart = refl
get_set_there (mark ∷ marks) (suc k) zero b apart = refl
get_set_there (mark ∷ marks) (suc k) (suc p) b apart = get_set_there marks k p b (λ e. apart (ap suc e))

get_spoil : (option : Option ℕ) (marks : List Bool) (p : ℕ) (old : Bool) → slice_get marks p ≡ Some old →
    slice_get (spoil option marks) p ≡ Some (is_spared p option && old)
get_spoil None marks p old e = e
get_spoil (Some label) marks p old e = by_cases (cases_eq label p)
  where
    by_cases : (label ≡ p) ⊎ (label ≡ p → ⊥) →
        slice_get (slice_set marks label false) p ≡ Some (not (nat_eq label p) && old)
    by_cases (inl same) =
        ap (λ k. slice_get (slice_set marks k false) p) same ∙ get_set_here marks p old false e
        ∙ sym (ap (λ b. Some (not b && old)) (eq-eqb label p same))
    by_cases (inr apart) =
        get_set_there marks label p false apart ∙ e ∙ sym (ap (λ b. Some (not b && old)) (ne_eqb label p apart))

and_grouped : (a b c : Bool) → (a && (b && c)) ≡ ((b && a) && c)
and_grouped true true c = refl
and_grouped true false c = refl
and_grouped false true c = refl
and_grouped false false c = refl

pub get_marked : (types : TypeRows) (entries : List Entry) (marks : List Bool) (p : ℕ) (old : Bool) →
    slice_get marks p ≡ Some old → slice_get (marked types entries marks) p ≡ Some (is_safe types entries p && old)
get_marked types [] marks p old e = e
get_marked types (entry ∷ rest) marks p old e =
    get_marked types rest (spoil (spoils types entry) marks) p (is_spared p (spoils types entry) && old)
    (get_spoil (spoils types entry) marks p old e)
    ∙ ap Some (and_grouped (is_safe types rest p) (is_spared p (spoils types entry)) old)

get_replicate : (n p : ℕ) (b : Bool) → p < n → slice_get (replicate n b) p ≡ Some b
get_replicate zero p b within = absurd (omega arith)
get_replicate (suc n) zero b within = refl
get_replicate (suc n) (suc p) b within = get_replicate n p b (omega arith)

and_true : (b : Bool) → (b && true) ≡ b
and_true true = refl
and_true false = refl

-- the mark of a label says whether it is safe
pub mark_is_right : (types : TypeRows) (entries : List Entry) (n p : ℕ) → p < n →
    slice_get (marked types entries (replicate n true)) p ≡ Some (is_safe types entries p)
mark_is_right types entries n p within =
    get_marked types entries (replicate n true) p true (get_replicate n p true within)
    ∙ ap Some (and_true (is_safe types entries p))

-- ---- safe labels in order

one_up : (n : ℕ) → n + 1 ≡ suc n
one_up n = omega arith

labels_push : (safe : List LabelId) (label : LabelId) → labels_of (safe ++ label ∷ []) ≡ labels_of safe ++ label.0 ∷ []
labels_push [] label = refl
labels_push (first ∷ safe) label = ap (λ rest. first.0 ∷ rest) (labels_push safe label)

end_nothing : (xs : List ℕ) → xs ≡ xs ++ []
end_nothing [] = refl
end_nothing (x ∷ xs) = ap (λ rest. x ∷ rest) (end_nothing xs)

module _ (types : TypeRows) (entries : List Entry) (safe : List LabelId) (n : ℕ)
    (listed : labels_of safe ≡ safe_labels types entries n) where
  pub one_more_safe : (label : LabelId) → label.0 ≡ n → is_safe types entries n ≡ true →
      labels_of (safe ++ label ∷ []) ≡ safe_labels types entries (n + 1)
  one_more_safe label same is_one =
      labels_push safe label
      ∙ ap₂ (λ xs m. xs ++ m ∷ []) listed same
      ∙ sym (ap (λ b. safe_labels types entries n ++ cond b (n ∷ []) []) is_one)
      ∙ sym (ap (safe_labels types entries) (one_up n))

  pub no_more_safe : is_safe types entries n ≡ false → labels_of safe ≡ safe_labels types entries (n + 1)
  no_more_safe not_safe =
      listed ∙ end_nothing (safe_labels types entries n)
      ∙ sym (ap (λ b. safe_labels types entries n ++ cond b (n ∷ []) []) not_safe)
      ∙ sym (ap (safe_labels types entries) (one_up n))

-- ---- entries by their places

pub entry_at : (casts : List CastEntry) (k : ℕ) (d : CastEntry) → k < length casts →
    slice_get (entries_of casts) k ≡ Some (entry_of (get_or casts k d))
entry_at [] k d within = absurd (omega arith)
entry_at (entry ∷ casts) zero d within = refl
entry_at (entry ∷ casts) (suc k) d within = entry_at casts k d (omega arith)

pub marks_length : (types : TypeRows) (entries : List Entry) (n : ℕ) (marks : List Bool) →
    marks ≡ marked types entries (replicate n true) → length marks ≡ n
marks_length types entries n marks e =
    ap length e ∙ length_marked types entries (replicate n true) ∙ length_replicate n true

get_is : (marks : List Bool) (k : ℕ) (d b : Bool) → slice_get marks k ≡ Some b → get_or marks k d ≡ b
get_is [] k d b e = absurd (none_is_not_some b e)
get_is (mark ∷ marks) zero d b e = same_some mark b e
get_is (mark ∷ marks) (suc k) d b e = get_is marks k d b e

-- the mark at a place
pub mark_at : (types : TypeRows) (entries : List Entry) (n : ℕ) (marks : List Bool) (p : ℕ) (d : Bool) → p < n →
    marks ≡ marked types entries (replicate n true) → get_or marks p d ≡ is_safe types entries p
mark_at types entries n marks p d within e =
    ap (λ xs. get_or xs p d) e
    ∙ get_is (marked types entries (replicate n true)) p d (is_safe types entries p)
    (mark_is_right types entries n p within)

-- ---- safe labels are those of the definition

spoils_allows : (types : TypeRows) → AreFinite types → (labels : ℕ) (entry : Entry) (p : ℕ) →
    NamesKnown labels (length types) entry → is_spared p (spoils types entry) ≡ true → Allows types p entry
spoils_allows types finite labels (CastFrom label from to inside) p fits e =
    λ same. by_answer (up types from to) refl same
  where
    by_answer : (b : Bool) → up types from to ≡ b → label ≡ p → Up types from to
    by_answer true goes same = (up_is_exact types finite from to fits.1 fits.2).0 goes
    by_answer false goes same =
        absurd (not_spared (nat_eq label p) (eq-eqb label p same)
        (sym (ap (λ b. is_spared p (cond b None (Some label))) goes) ∙ e))
      where
        not_spared : (b : Bool) → b ≡ true → not b ≡ true → ⊥
        not_spared true f g = false_is_not_true g
        not_spared false f g = false_is_not_true f
spoils_allows types finite labels (PartOf label k) p fits e =
    λ same. not_spared (nat_eq label p) (eq-eqb label p same) e
  where
    not_spared : (b : Bool) → b ≡ true → not b ≡ true → ⊥
    not_spared true f g = false_is_not_true g
    not_spared false f g = false_is_not_true f

allows_spares : (types : TypeRows) → AreFinite types → (labels : ℕ) (entry : Entry) (p : ℕ) →
    NamesKnown labels (length types) entry → Allows types p entry → is_spared p (spoils types entry) ≡ true
allows_spares types finite labels (CastFrom label from to inside) p fits allowed = by_cases (cases_eq label p)
  where
    spared : (b : Bool) → nat_eq label p ≡ false → is_spared p (cond b None (Some label)) ≡ true
    spared true e = refl
    spared false e = ap not e

    by_cases : (label ≡ p) ⊎ (label ≡ p → ⊥) → is_spared p (cond (up types from to) None (Some label)) ≡ true
    by_cases (inl same) =
        ap (λ b. is_spared p (cond b None (Some label)))
        ((up_is_exact types finite from to fits.1 fits.2).1 (allowed same))
    by_cases (inr apart) = spared (up types from to) (ne_eqb label p apart)
allows_spares types finite labels (PartOf label k) p fits allowed = ap not (ne_eqb label p allowed)

module _ (types : TypeRows) (finite : AreFinite types) (labels p : ℕ) where
  pub is_safe_by_entries : (entries : List Entry) → AllNameKnown labels (length types) entries →
      is_safe types entries p ≡ true → IsSafe types entries p
  is_safe_by_entries [] fit e place entry at = absurd (none_is_not_some entry at)
  is_safe_by_entries (head ∷ rest) fit e zero entry at =
      subst (Allows types p) (same_some head entry at) (spoils_allows types finite labels head p (fit 0 head refl)
      (and_parts (is_spared p (spoils types head)) (is_safe types rest p) e).0)
  is_safe_by_entries (head ∷ rest) fit e (suc place) entry at =
      is_safe_by_entries rest (λ k other there. fit (suc k) other there)
      (and_parts (is_spared p (spoils types head)) (is_safe types rest p) e).1 place entry at

  pub entries_make_safe : (entries : List Entry) → AllNameKnown labels (length types) entries →
      IsSafe types entries p → is_safe types entries p ≡ true
  entries_make_safe [] fit safe = refl
  entries_make_safe (head ∷ rest) fit safe =
      and_from (is_spared p (spoils types head)) (is_safe types rest p)
      (allows_spares types finite labels head p (fit 0 head refl) (safe 0 head refl))
      (entries_make_safe rest (λ k other there. fit (suc k) other there) (λ k other there. safe (suc k) other there))

-- ---- what the list of safe labels contains

module _ (types : TypeRows) (entries : List Entry) where
  abbrev IsPlaced : ℕ → ℕ → Type 0
  IsPlaced n p = (p < n) × (is_safe types entries p ≡ true)

  placed_later : (n p : ℕ) → IsPlaced n p → IsPlaced (suc n) p
  placed_later n p h = (let below = h.0 in omega arith, h.1)

  placed_last : (n place p : ℕ) → (slice_get (safe_labels types entries n) place ≡ Some p → IsPlaced n p) →
      is_safe types entries n ≡ true → (slice_get (safe_labels types entries n) place ≡ Some p) ⊎
      ((place ≡ length (safe_labels types entries n)) × (n ≡ p)) → IsPlaced (suc n) p
  placed_last n place p before holds (inl e) = placed_later n p (before e)
  placed_last n place p before holds (inr at_end) =
      (let same = at_end.1 in omega arith, ap (is_safe types entries) (sym at_end.1) ∙ holds)

  placed_by : (n place p : ℕ) → (slice_get (safe_labels types entries n) place ≡ Some p → IsPlaced n p) →
      (b : Bool) → is_safe types entries n ≡ b →
      slice_get (safe_labels types entries n ++ cond b (n ∷ []) []) place ≡ Some p → IsPlaced (suc n) p
  placed_by n place p before true holds e =
      placed_last n place p before holds (get_before_or_last (safe_labels types entries n) n p place e)
  placed_by n place p before false fails e =
      placed_later n p (before (ap (λ xs. slice_get xs place) (end_nothing (safe_labels types entries n)) ∙ e))

  place_in : (n place p : ℕ) → slice_get (safe_labels types entries n) place ≡ Some p → IsPlaced n p
  place_in zero place p e = absurd (none_is_not_some p e)
  place_in (suc n) place p e =
      placed_by n place p (λ before. place_in n place p before) (is_safe types entries n) refl e

  abbrev HasPlace : ℕ → ℕ → Type 0
  HasPlace n p = (place : ℕ) × (slice_get (safe_labels types entries n) place ≡ Some p)

  has_place_by : (n p : ℕ) → (p < n → HasPlace n p) → p < suc n → is_safe types entries p ≡ true →
      (n ≡ p) ⊎ (n ≡ p → ⊥) → HasPlace (suc n) p
  has_place_by n p before within holds (inl same) = (
    length (safe_labels types entries n),
    ap (λ b. slice_get (safe_labels types entries n ++ cond b (n ∷ []) []) (length (safe_labels types entries n)))
        (ap (is_safe types entries) same ∙ holds)
        ∙ get_last (safe_labels types entries n) n (length (safe_labels types entries n)) refl
        ∙ ap Some same,
  )
  has_place_by n p before within holds (inr apart) =
      let there = before (omega arith) in (
        there.0,
        get_kept (safe_labels types entries n) (cond (is_safe types entries n) (n ∷ []) []) there.0 p there.1,
      )

  in_place : (n p : ℕ) → p < n → is_safe types entries p ≡ true → HasPlace n p
  in_place zero p within holds = absurd (omega arith)
  in_place (suc n) p within holds =
      has_place_by n p (λ below. in_place n p below holds) within holds (cases_eq n p)

get_within : (xs : List ℕ) (k d : ℕ) → k < length xs → slice_get xs k ≡ Some (get_or xs k d)
get_within [] k d within = absurd (omega arith)
get_within (x ∷ xs) zero d within = refl
get_within (x ∷ xs) (suc k) d within = get_within xs k d (omega arith)

get_there : (xs : List ℕ) (k x d : ℕ) → slice_get xs k ≡ Some x → (k < length xs) × (get_or xs k d ≡ x)
get_there [] k x d e = absurd (none_is_not_some x e)
get_there (y ∷ ys) zero x d e = (omega arith, same_some y x e)
get_there (y ∷ ys) (suc k) x d e = let rest = get_there ys k x d e in (let below = rest.0 in omega arith, rest.1)

-- the safe labels are those of the definition
pub safe_labels_are_exact : (types : TypeRows) → AreFinite types → (entries : List Entry) (labels : ℕ) →
    AllNameKnown labels (length types) entries → (safe : List ℕ) → safe ≡ safe_labels types entries labels → (p : ℕ) →
    Contains safe p ↔ ((p < labels) × IsSafe types entries p)
safe_labels_are_exact types finite entries labels fit safe listed p = (
  λ has.
      let found = place_in types entries labels has.0 p
      (sym (ap (λ xs. slice_get xs has.0) listed) ∙ get_within safe has.0 p has.1 ∙ ap Some has.2) in
      (found.0, is_safe_by_entries types finite labels p entries fit found.1),
  λ both.
      let there = in_place types entries labels p both.0 (entries_make_safe types finite labels p entries fit both.1) in
      let at = get_there safe there.0 p p (ap (λ xs. slice_get xs there.0) listed ∙ there.1) in
      (there.0, at.0, at.1),
)
