-- Stores whose cells have their types, and outcomes that keep types.
use Rattle.std.proofs.Common.{◌≡◌, ℕ, List, [], ◌∷◌, ◌++◌, length, Option, Some, None, refl, sym, ap, ◌∙◌, subst, Bool}
use Rattle.std.proofs.Common.{true, false, slice_get, append-nil, inl, inr, if◌then◌else◌}
use Rattle.std.specs.Prelude.{slice_set, ◌⊎◌}
use Rattle.grift_base.specs.Types.{TypeRow, TypeRows, row_at}
use Rattle.core_calc.specs.Terms.{Value}
use Rattle.core_calc.specs.Outcome.{Store, Outcome, Goes, Blames, Traps, Stuck, inside, if_some, with_some}
use Rattle.core_calc.specs.Casts.{with_rows, with_part_of_both}
use Rattle.core_calc.specs.Typing.{CellType, HasMoreCells, CellHasType, StoreHasTypes, Keeps}
use Rattle.core_calc.proofs.ListPlaces.{none_is_not_some, same_some, both_some, get_before_or_last, get_within}
use Rattle.core_calc.proofs.ListPlaces.{get_past, length_set, get_set, length_one_more}
use Rattle.core_calc.proofs.MoreCells.{more_value}

pub no_more_cells : (cells : List CellType) → HasMoreCells cells cells
no_more_cells cells = ([], sym (append-nil cells))

module _ (types : TypeRows) (labels : ℕ) (cells : List CellType) where
  more_cell : (new : List CellType) → HasMoreCells cells new → (cell : List Value) (cell_type : CellType) →
      CellHasType types labels cells cell cell_type → CellHasType types labels new cell cell_type
  more_cell new extended cell cell_type h =
      (h.0, h.1, λ i v e. more_value types labels cells new extended v cell_type.content (h.2 i v e))

  module _ (store : Store) (stored : StoreHasTypes types labels store cells) where
    pub cell_there : (k : ℕ) (cell_type : CellType) → slice_get cells k ≡ Some cell_type → (cell : List Value) ×
        (slice_get store k ≡ Some cell) × CellHasType types labels cells cell cell_type
    cell_there k cell_type e =
        let there = get_within cells store k cell_type (sym stored.0) e in
        (there.0, there.1, stored.1 k there.0 cell_type there.1 e)

    pub one_more_cell : (cell : List Value) (cell_type : CellType) → CellHasType types labels cells cell cell_type →
        StoreHasTypes types labels (store ++ cell ∷ []) (cells ++ cell_type ∷ [])
    one_more_cell cell cell_type h = (
      length_one_more store cells cell cell_type stored.0,
      λ k c t e f. at k c t (get_before_or_last store cell c k e) (get_before_or_last cells cell_type t k f),
    )
      where
        new : List CellType
        new = cells ++ cell_type ∷ []

        extended : HasMoreCells cells (cells ++ cell_type ∷ [])
        extended = (cell_type ∷ [], refl)

        at : (k : ℕ) (c : List Value) (t : CellType) → (slice_get store k ≡ Some c) ⊎
            ((k ≡ length store) × (cell ≡ c)) → (slice_get cells k ≡ Some t) ⊎ ((k ≡ length cells) × (cell_type ≡ t)) →
            CellHasType types labels (cells ++ cell_type ∷ []) c t
        at k c t (inl e) (inl f) = more_cell (cells ++ cell_type ∷ []) extended c t (stored.1 k c t e f)
        at k c t (inl e) (inr f) = absurd (get_past store k c (f.0 ∙ sym stored.0) e)
        at k c t (inr e) (inl f) = absurd (get_past cells k t (e.0 ∙ stored.0) f)
        at k c t (inr e) (inr f) =
            subst (λ x. CellHasType types labels (cells ++ cell_type ∷ []) x t) e.1
            (subst (λ x. CellHasType types labels (cells ++ cell_type ∷ []) cell x) f.1
            (more_cell (cells ++ cell_type ∷ []) extended cell cell_type h))

    pub cell_changed : (k : ℕ) (cell : List Value) (cell_type : CellType) → slice_get cells k ≡ Some cell_type →
        CellHasType types labels cells cell cell_type → StoreHasTypes types labels (slice_set store k cell) cells
    cell_changed k cell cell_type known h =
        (length_set store k cell ∙ stored.0, λ i c t e f. at i c t f (get_set store k cell i c e))
      where
        at : (i : ℕ) (c : List Value) (t : CellType) → slice_get cells i ≡ Some t → ((i ≡ k) × (cell ≡ c)) ⊎
            (slice_get store i ≡ Some c) → CellHasType types labels cells c t
        at i c t f (inl e) =
            let same : cell_type ≡ t =
            both_some (slice_get cells k) cell_type t known (sym (ap (λ x. slice_get cells x) e.0) ∙ f) in
            subst (λ x. CellHasType types labels cells x t) e.1
            (subst (λ x. CellHasType types labels cells cell x) same h)
        at i c t f (inr e) = stored.1 i c t e f

  -- ---- outcomes

  module _ {A : Type 0} (Holds : List CellType → A → Type 0) where
    pub keeps_some : {B : Type 0} (option : Option B) (go : B → Outcome A) (b : B) → option ≡ Some b →
        Keeps types labels Holds cells (go b) → Keeps types labels Holds cells (with_some option go)
    keeps_some (Some c) go b e h = subst (λ x. Keeps types labels Holds cells (go x)) (sym (same_some c b e)) h
    keeps_some None go b e h = absurd (none_is_not_some b e)

    pub keeps_if_some : {B : Type 0} (option : Option B) (go : B → Outcome A) (other : Outcome A) →
        ((b : B) → option ≡ Some b → Keeps types labels Holds cells (go b)) →
        (option ≡ None → Keeps types labels Holds cells other) →
        Keeps types labels Holds cells (if_some option go other)
    keeps_if_some (Some b) go other some none = some b refl
    keeps_if_some None go other some none = none refl

    pub keeps_if : (b : Bool) (first second : Outcome A) → (b ≡ true → Keeps types labels Holds cells first) →
        (b ≡ false → Keeps types labels Holds cells second) →
        Keeps types labels Holds cells (if b then first else second)
    keeps_if true first second yes_keeps no_keeps = yes_keeps refl
    keeps_if false first second yes_keeps no_keeps = no_keeps refl

    pub keeps_rows : (from to : ℕ) (go : TypeRow → TypeRow → Outcome A) (row other : TypeRow) →
        row_at types from ≡ Some row → row_at types to ≡ Some other → Keeps types labels Holds cells (go row other) →
        Keeps types labels Holds cells (with_rows types from to go)
    keeps_rows from to go row other e f h =
        keeps_some (row_at types from) (λ r. with_some (row_at types to) (λ o. go r o)) row e
        (keeps_some (row_at types to) (λ o. go row o) other f h)

    pub keeps_parts : (part : TypeRow → Option ℕ) (from to : ℕ) (go : ℕ → ℕ →
        Outcome A) (row other : TypeRow) (inner outer : ℕ) → row_at types from ≡ Some row →
        row_at types to ≡ Some other → part row ≡ Some inner → part other ≡ Some outer →
        Keeps types labels Holds cells (go inner outer) →
        Keeps types labels Holds cells (with_part_of_both types part from to go)
    keeps_parts part from to go row other inner outer e f i o h =
        keeps_rows from to (λ r s. with_some (part r) (λ x. with_some (part s) (λ y. go x y))) row other e f
        (keeps_some (part row) (λ x. with_some (part other) (λ y. go x y)) inner i
        (keeps_some (part other) (λ y. go inner y) outer o h))

  pub keeps_inside : {A B : Type 0} (Holds : List CellType → A → Type 0) (Wanted : List CellType → B →
      Type 0) (place : A → B) (outcome : Outcome A) → ((new : List CellType) (a : A) → HasMoreCells cells new →
      Holds new a → Wanted new (place a)) → Keeps types labels Holds cells outcome →
      Keeps types labels Wanted cells (inside place outcome)
  keeps_inside Holds Wanted place (Goes a store world) put h = (h.0, h.1, h.2, put h.0 a h.1 h.3)
  keeps_inside Holds Wanted place (Blames label) put h = h
  keeps_inside Holds Wanted place (Traps trap world) put h = h
  keeps_inside Holds Wanted place Stuck put h = h
