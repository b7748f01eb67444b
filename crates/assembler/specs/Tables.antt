-- What the tables hold from which the layout of a code is read.
use Rattle.std.specs.Prelude.{ℕ, suc, ◌*◌, ◌^◌, ◌<◌, ◌≤◌, ◌≡◌, Bool, true, nat_eq, Option, Some, None, List, length}
use Rattle.std.specs.Prelude.{get_or, All}
use Rattle.grift_base.specs.declared.places.Pos.{Pos}
use Rattle.indexmap.specs.IndexMap.{get}
use Rattle.rv_isa.specs.Bits.{IsIn, IsEven}
use Rattle.rv_machine.specs.declared.real.RealItem.{RealItem}
use Rattle.rv_machine.specs.declared.real.RealItem.TheVariants.{Jump, Branch, Address}
use Rattle.assembler.specs.declared.layout.Reach.{Reach}
use Rattle.assembler.specs.declared.layout.Layout.{Layout}
use Rattle.assembler.specs.Layout.{mark_place, words_before, longest_widths, widths}
use Rattle.assembler.specs.Expansion.{offset}

-- how many words lie before each place, also before that past the last item. No item has more than eleven
pub record HoldsSums (sums widths : List ℕ) : Type 0 where
  pub len : length sums ≡ suc (length widths)
  pub sum : (place : ℕ) → place ≤ length widths → get_or sums place 0 ≡ words_before widths place
  pub small : (place : ℕ) → place ≤ length widths → get_or sums place 0 ≤ 11 * place

-- what a look-up of a mark gives, or the place past the last
abbrev pub place_or : ℕ → Option ℕ → ℕ
place_or last None = last
place_or last (Some place) = place

-- each mark is found at its place
abbrev pub HoldsPlaces : List RealItem → (ℕ → Option ℕ) → Type 0
HoldsPlaces items found = (mark : ℕ) → place_or (length items) (found mark) ≡ mark_place mark items

-- where the marks of a code are, and how many words lie before each place if every item has its longest form
pub record IsReachOf (items : List RealItem) (reach : Reach) : Type 0 where
  pub places : HoldsPlaces items (get nat_eq reach.places)
  pub widest : HoldsSums reach.widest (longest_widths items)

-- and how many words lie there
pub record IsLayoutOf (items : List RealItem) (layout : Layout) : Type 0 where
  pub reach : IsReachOf items layout.reach
  pub before : HoldsSums layout.before (widths items layout.reach.start)

-- the near form of an item can be encoded
abbrev pub Fits : Bool → ℕ → ℕ → RealItem → Type 0
Fits true here target (Jump rd mark) = IsIn 1048576 (offset here target) × IsEven (offset here target)
Fits true here target (Branch cond a b mark) = IsIn 4096 (offset here target) × IsEven (offset here target)
Fits true here target (Address rd mark) = target < 2147483648
Fits near here target item = Unit {0}

-- lines and columns are numbers of 32 bits
abbrev pub AreLabels : List Pos → Type 0
AreLabels labels = All (λ label. (label.line < 2 ^ 32) × (label.col < 2 ^ 32)) labels
