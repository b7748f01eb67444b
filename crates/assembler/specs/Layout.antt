-- Where the items of a code lie. Their forms are chosen once: a form is near where it reaches also if every item had
-- its longest form. Positions count words from the start of the code, places count items.
use Rattle.std.specs.Prelude.{ℕ, suc, ◌+◌, ◌-◌, ◌*◌, ◌==◌, nat_lt, Bool, true, false, if◌then◌else◌, List, [], ◌∷◌}
use Rattle.std.specs.Prelude.{map, take, sum}
use Rattle.rv_machine.specs.declared.real.RealItem.{RealItem}
use Rattle.rv_machine.specs.declared.real.RealItem.TheVariants.{Op, Mark, Jump, Branch, Address}

-- how many words an item has in its near form, or else in its longest
abbrev pub width : Bool → RealItem → ℕ
width near (Op i) = 1
width near (Mark mark) = 0
width near (Jump rd mark) = if near then 1 else 10
width near (Branch cond a b mark) = if near then 1 else 11
width near (Address rd mark) = if near then 3 else 10

-- the place of a mark, or that past the last item where it doesn't stand
abbrev pub mark_place : ℕ → List RealItem → ℕ
mark_place wanted [] = 0
mark_place wanted (Mark mark ∷ rest) = if mark == wanted then 0 else suc (mark_place wanted rest)
mark_place wanted (item ∷ rest) = suc (mark_place wanted rest)

-- how many words lie before a place, told the words of each item
abbrev pub words_before : List ℕ → ℕ → ℕ
words_before widths place = sum (take place widths)

-- how far apart two positions are
abbrev pub distance : ℕ → ℕ → ℕ
distance a b = (a - b) + (b - a)

-- whether an item has its near form, told the words of each item's longest form, and the first address: a branch
-- reaches 4,096 bytes, a jump 1,048,576, and the near form of an address those below 2,147,483,648
abbrev pub is_near : List ℕ → List RealItem → ℕ → ℕ → RealItem → Bool
is_near widest items start place (Op i) = true
is_near widest items start place (Mark mark) = true
is_near widest items start place (Jump rd mark) =
    nat_lt (4 * distance (words_before widest place) (words_before widest (mark_place mark items))) 1048576
is_near widest items start place (Branch cond a b mark) =
    nat_lt (4 * distance (words_before widest place) (words_before widest (mark_place mark items))) 4096
is_near widest items start place (Address rd mark) =
    nat_lt (start + 4 * words_before widest (mark_place mark items)) 2147483648

-- the words of each of the items that are left, from a place on
abbrev pub widths_from : List ℕ → List RealItem → ℕ → ℕ → List RealItem → List ℕ
widths_from widest items start place [] = []
widths_from widest items start place (item ∷ rest) =
    width (is_near widest items start place item) item ∷ widths_from widest items start (suc place) rest

abbrev pub longest_widths : List RealItem → List ℕ
longest_widths items = map (width false) items

abbrev pub widths : List RealItem → ℕ → List ℕ
widths items start = widths_from (longest_widths items) items start 0 items

-- the address of the item at a place, in a code that begins at this address
abbrev pub address_of : List RealItem → ℕ → ℕ → ℕ
address_of items start place = start + 4 * words_before (widths items start) place
