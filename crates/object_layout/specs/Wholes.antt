-- Whole objects in a memory that tells its words, and rows of them.
use Rattle.std.specs.Prelude.{ℕ, zero, suc, ◌+◌, ◌*◌, ◌≡◌, ◌==◌, ◌<◌, ◌≤◌, ◌⊎◌, max, Bool, true, false, if◌then◌else◌}
use Rattle.std.specs.Prelude.{List, [], ◌∷◌, Option, Some, None, option_and_then}
use Rattle.object_layout.specs.declared.headers.Header.{Header}
use Rattle.object_layout.specs.declared.kinds.Kind.{Kind}
use Rattle.object_layout.specs.declared.kinds.Kind.TheVariants.{Fail, Fun, Tup, Ref, Vec, Inject, Project}
use Rattle.object_layout.specs.declared.wholes.Area.{Area}
use Rattle.object_layout.specs.declared.wholes.Area.TheVariants.{Region, Statics}
use Rattle.object_layout.specs.declared.kinds.Wanted.{Wanted}
use Rattle.object_layout.specs.declared.kinds.Wanted.TheVariants.{Anything, Target, Middle, Coercion, TypeAddress}
use Rattle.object_layout.specs.Kinds.{kind_of, is_type, is_free, is_middle, is_coercion, is_target, allows_count}
use Rattle.object_layout.specs.Kinds.{wanted_words}
use Rattle.object_layout.specs.Headers.{unpacked}

-- what a memory tells: the word at an address, if the address is a multiple of 8 and a word stands there
abbrev pub Telling : Type 0
Telling = ℕ → Option ℕ

-- the height that a header says
abbrev pub height_of : Option Header → ℕ
height_of None = 0
height_of (Some h) = h.height

-- the height of a coercion is that which its parts give: one more than the highest of them for functions, tuples, boxes
-- and vectors, and the height of the highest for the others
abbrev pub HasHeight : Kind → ℕ → ℕ → Type 0
HasHeight Fail height parts = height ≡ 0
HasHeight Fun height parts = height ≡ suc parts
HasHeight Tup height parts = height ≡ suc parts
HasHeight Ref height parts = height ≡ suc parts
HasHeight Vec height parts = height ≡ suc parts
HasHeight Inject height parts = height ≡ parts
HasHeight Project height parts = height ≡ parts
HasHeight _ height parts = Unit {0}

module _ (memory : Telling) where
  -- the header at an address, if the word there is one
  abbrev pub header_at : ℕ → Option Header
  header_at at = option_and_then unpacked (memory at)

  -- the kind of the object at an address, if a header stands there
  abbrev pub kind_at : ℕ → Option Kind
  kind_at at = option_and_then (λ h. kind_of h.kind) (header_at at)

  -- the word is the address, below the object's own, of an object of one of these kinds
  pub record IsAddress (named : Kind → Bool) (own word : ℕ) : Type 0 where
    pub kind : Kind
    pub there : kind_at word ≡ Some kind
    pub is_named : named kind ≡ true
    pub below : word < own

  -- what a word has to be is what it is, in an object at this address
  abbrev pub IsWanted : ℕ → Wanted → ℕ → Type 0
  IsWanted own Anything word = Unit {0}
  IsWanted own Target word = IsAddress is_target own word
  IsWanted own Middle word = IsAddress is_middle own word
  IsWanted own Coercion word = (word ≡ 0) ⊎ IsAddress is_coercion own word
  IsWanted own TypeAddress word = IsAddress is_type own word

  -- the word at an address is told, and is what it has to be
  abbrev pub StandsWanted : ℕ → ℕ → Wanted → Type 0
  StandsWanted own at wanted = (word : ℕ) × (memory at ≡ Some word) × IsWanted own wanted word

  -- the words from an address on are what they have to be
  abbrev pub AreWanted : ℕ → ℕ → List Wanted → Type 0
  AreWanted own at [] = Unit {0}
  AreWanted own at (wanted ∷ rest) = StandsWanted own at wanted × AreWanted own (at + 8) rest

  -- ---- heights

  -- the height of the object whose address the word is
  abbrev pub height_behind : Option ℕ → ℕ
  height_behind None = 0
  height_behind (Some word) = height_of (header_at word)

  -- the height of a coercion, which is 0 where its word is 0
  abbrev pub coercion_height : Option ℕ → ℕ
  coercion_height None = 0
  coercion_height (Some word) = if word == 0 then 0 else height_of (header_at word)

  -- the height of what stands at an address, if it is to be a coercion or a type
  abbrev pub wanted_height : Wanted → ℕ → ℕ
  wanted_height Coercion at = coercion_height (memory at)
  wanted_height TypeAddress at = height_behind (memory at)
  wanted_height _ at = 0

  -- the greatest height of the words from an address on
  abbrev pub highest : ℕ → List Wanted → ℕ
  highest at [] = 0
  highest at (wanted ∷ rest) = max (wanted_height wanted at) (highest (at + 8) rest)

  -- the words behind the header of the object at `own` are what they have to be, and this is the greatest height of
  -- them; none where one of them is not
  abbrev pub TellsHeight : ℕ → List Wanted → Option ℕ → Type 0
  TellsHeight own wanted None = ¬ AreWanted own (own + 8) wanted
  TellsHeight own wanted (Some height) = AreWanted own (own + 8) wanted × (height ≡ highest (own + 8) wanted)

  -- ---- whole objects

  -- types stand in statics alone
  abbrev pub StandsOn : Area → Kind → Type 0
  StandsOn Region kind = is_type kind ≡ false
  StandsOn Statics kind = Unit {0}

  -- a whole object with this header stands at an address and ends at or before an end
  pub record IsWhole (area : Area) (end at : ℕ) (h : Header) : Type 0 where
    pub header : header_at at ≡ Some h
    pub kind : Kind
    pub kind_is : kind_of h.kind ≡ Some kind
    pub count : allows_count kind h.count ≡ true
    pub fits : at + (8 + 8 * h.count) ≤ end
    pub words : AreWanted at (at + 8) (wanted_words kind h.count)
    pub height : HasHeight kind h.height (highest (at + 8) (wanted_words kind h.count))
    pub stands : StandsOn area kind

  -- ---- rows

  -- whole objects with these headers fill the range between two addresses without gaps, all of them before an end
  abbrev pub Fills : Area → ℕ → ℕ → List Header → ℕ → Type 0
  Fills area end from [] to = from ≡ to
  Fills area end from (h ∷ rest) to = IsWhole area end from h × Fills area end (from + (8 + 8 * h.count)) rest to

  -- the range between two addresses is a row of whole objects with these headers
  abbrev pub IsRow : Area → ℕ → List Header → ℕ → Type 0
  IsRow area from headers to = Fills area to from headers to

-- ---- places of rows

-- the object at a place of the row that begins at this address: its own address and its header; places count from 0
abbrev pub IsNth : ℕ → List Header → ℕ → ℕ → Header → Type 0
IsNth from [] place at h = ⊥
IsNth from (first ∷ rest) zero at h = (at ≡ from) × (h ≡ first)
IsNth from (first ∷ rest) (suc place) at h = IsNth (from + (8 + 8 * first.count)) rest place at h

-- an object of the row begins at the address
abbrev pub StartsAt : ℕ → List Header → ℕ → Type 0
StartsAt from headers at = (place : ℕ) × (h : Header) × IsNth from headers place at h

-- what a word may point at in a row that begins at this address, where it has to be this: a target or a coercion is 0,
-- the start of an object of the row, or lies below the row; a type lies below the row
abbrev pub MayPoint : ℕ → List Header → Wanted → ℕ → Type 0
MayPoint from headers Anything word = Unit {0}
MayPoint from headers Target word = (word ≡ 0) ⊎ ((word < from) ⊎ StartsAt from headers word)
MayPoint from headers Middle word = (word ≡ 0) ⊎ ((word < from) ⊎ StartsAt from headers word)
MayPoint from headers Coercion word = (word ≡ 0) ⊎ ((word < from) ⊎ StartsAt from headers word)
MayPoint from headers TypeAddress word = word < from

-- the words from an address on point so
abbrev pub PointFrom : Telling → ℕ → List Header → ℕ → List Wanted → Type 0
PointFrom memory from headers at [] = Unit {0}
PointFrom memory from headers at (wanted ∷ rest) =
    ((word : ℕ) → memory at ≡ Some word → MayPoint from headers wanted word) ×
    PointFrom memory from headers (at + 8) rest

-- the words of all objects of the row do
abbrev pub PointsIntoItself : Telling → ℕ → List Header → Type 0
PointsIntoItself memory from headers =
    (place at : ℕ) (h : Header) (kind : Kind) → IsNth from headers place at h → kind_of h.kind ≡ Some kind →
    PointFrom memory from headers (at + 8) (wanted_words kind h.count)

-- at the address stands a word of a closure, a tuple, a box or a vector of the row, behind its header
pub record IsFreeWord (from : ℕ) (headers : List Header) (x : ℕ) : Type 0 where
  pub place : ℕ
  pub at : ℕ
  pub header : Header
  pub kind : Kind
  pub there : IsNth from headers place at header
  pub kind_is : kind_of header.kind ≡ Some kind
  pub free : is_free kind ≡ true
  pub above : at + 8 ≤ x
  pub below : x < at + (8 + 8 * header.count)
