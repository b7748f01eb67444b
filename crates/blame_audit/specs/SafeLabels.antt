-- Which labels are safe by a list of casts.
use Rattle.std.specs.Prelude.{◌≡◌, ◌≢◌, ℕ, zero, suc, Bool, true, ◌&&◌, not, cond, nat_eq}
use Rattle.std.specs.Prelude.{List, [], ◌∷◌, ◌++◌, Option, Some, None, slice_get}
use Rattle.grift_base.specs.Types.{TypeRows}
use Rattle.cast_rules.specs.Making.{Entry, CastFrom, PartOf}
use Rattle.blame_audit.specs.Up.{Up, up}

-- ---- the definition

-- what a safe label asks of an entry
abbrev pub Allows : TypeRows → ℕ → Entry → Type 0
Allows types p (CastFrom label from to inside) = label ≡ p → Up types from to
Allows types p (PartOf label k) = label ≢ p

-- a label is safe where each cast that has it goes up and no part of what Dyn holds has it
abbrev pub IsSafe : TypeRows → List Entry → ℕ → Type 0
IsSafe types entries p = (place : ℕ) (entry : Entry) → slice_get entries place ≡ Some entry → Allows types p entry

-- ---- the same as answers

-- the label that an entry makes unsafe, if it makes one so
abbrev pub spoils : TypeRows → Entry → Option ℕ
spoils types (CastFrom label from to inside) = cond (up types from to) None (Some label)
spoils types (PartOf label k) = Some label

abbrev pub is_spared : ℕ → Option ℕ → Bool
is_spared p None = true
is_spared p (Some label) = not (nat_eq label p)

abbrev pub is_safe : TypeRows → List Entry → ℕ → Bool
is_safe types [] p = true
is_safe types (entry ∷ rest) p = is_spared p (spoils types entry) && is_safe types rest p

-- the safe ones of the first so many labels, in order
abbrev pub safe_labels : TypeRows → List Entry → ℕ → List ℕ
safe_labels types entries zero = []
safe_labels types entries (suc n) = safe_labels types entries n ++ cond (is_safe types entries n) (n ∷ []) []
