-- Storage at each instruction of an image's run: whole objects fill the region without gaps up to x26, their words lead
-- to objects, no proxy stands on a proxy, and no proxy's coercion is higher than the tallest.
use Rattle.std.specs.Prelude.{◌≡◌, ◌⊎◌, ℕ, ◌+◌, ◌≤◌, true, false, List, [], ◌∷◌, Some}
use Rattle.grift_base.specs.Types.{TypeRows}
use Rattle.grift_base.specs.Words.{word_within}
use Rattle.rv_machine.specs.Mach.{mach}
use Rattle.machine_words.specs.Memory.{first_address, load_bytes}
use Rattle.rv_machine.specs.Start.{IsRegionSize, IsStackSize, fresh_world, start_of}
use Rattle.rv_machine.specs.State.{State}
use Rattle.object_layout.specs.declared.headers.Header.{Header}
use Rattle.object_layout.specs.declared.kinds.Kind.{Kind}
use Rattle.object_layout.specs.declared.kinds.Kind.TheVariants.{Dyn}
use Rattle.object_layout.specs.declared.kinds.Wanted.{Wanted}
use Rattle.object_layout.specs.declared.kinds.Wanted.TheVariants.{Anything, Target, Middle, Coercion, TypeAddress}
use Rattle.object_layout.specs.declared.wholes.Area.TheVariants.{Region, Statics}
use Rattle.object_layout.specs.Kinds.{kind_of, is_type, wanted_words}
use Rattle.object_layout.specs.Reports.{header_behind, is_proxy, is_some_proxy, proxy_height}
use Rattle.object_layout.specs.Wholes.{Telling, IsNth, IsRow, StartsAt}
use Rattle.coercion_norm.specs.Nodes.{Node}
use Rattle.coercion_norm.specs.StaticObjects.{static_headers}

-- the words that the memory of a state tells
abbrev pub told_by : State → Telling
told_by s = word_within first_address s.layout.end (λ at. load_bytes 8 s.memory at)

-- the objects of the statics, which begin at the first address, and those of the region, which begins here: their
-- headers, in the order of their addresses
pub record Stored : Type 0 where
  pub statics : List Header
  pub region : ℕ
  pub objects : List Header

-- the objects of the statics are those of these types, with their heights, and of coercions
pub record AreStatic (types : TypeRows) (statics : List Header) : Type 0 where
  pub nodes : List Node
  pub are : statics ≡ static_headers types nodes

module _ (stored : Stored) where
  -- an object of the region or of the statics begins there
  abbrev pub Begins : ℕ → Type 0
  Begins at = StartsAt stored.region stored.objects at ⊎ StartsAt first_address stored.statics at

  -- a type of the statics begins there
  pub record BeginsType (at : ℕ) : Type 0 where
    pub place : ℕ
    pub header : Header
    pub kind : Kind
    pub there : IsNth first_address stored.statics place at header
    pub kind_is : kind_of header.kind ≡ Some kind
    pub type : is_type kind ≡ true

  -- where a word leads that has to be this: a target begins an object, and so does a proxy's coercion, which is never
  -- 0;
  -- each other coercion begins one or is 0, and the address of a type begins a type of the statics
  abbrev pub Leads : Wanted → ℕ → Type 0
  Leads Anything word = Unit {0}
  Leads Target word = Begins word
  Leads Middle word = Begins word
  Leads Coercion word = (word ≡ 0) ⊎ Begins word
  Leads TypeAddress word = BeginsType word

  module _ (memory : Telling) where
    -- the words from an address on lead there
    abbrev pub LeadFrom : ℕ → List Wanted → Type 0
    LeadFrom at [] = Unit {0}
    LeadFrom at (wanted ∷ rest) =
        ((word : ℕ) → memory at ≡ Some word → Leads wanted word) × LeadFrom (at + 8) rest

    -- Told where the statics and the objects of the region end: both are rows of whole objects, and those of the
    -- statics
    -- are of types and coercions. Of an object of the region the words lead to objects. A value in Dyn keeps a type of
    -- the statics. No proxy has a proxy as its target, nor a coercion that is higher than the tallest.
    pub record IsStored (types : TypeRows) (tallest statics_end filled_end : ℕ) : Type 0 where
      pub statics_row : IsRow memory Statics first_address stored.statics statics_end
      pub statics_are : AreStatic types stored.statics
      pub row : IsRow memory Region stored.region stored.objects filled_end
      pub lead : (place at : ℕ) (h : Header) (kind : Kind) → IsNth stored.region stored.objects place at h
          → kind_of h.kind ≡ Some kind → LeadFrom (at + 8) (wanted_words kind h.count)
      pub kept : (place at : ℕ) (h : Header) (word : ℕ) → IsNth stored.region stored.objects place at h
          → kind_of h.kind ≡ Some Dyn → memory (at + 8) ≡ Some word → BeginsType word
      pub single : (place at : ℕ) (h : Header) → IsNth stored.region stored.objects place at h → is_proxy h ≡ true
          → is_some_proxy (header_behind memory (at + 8)) ≡ false
      pub low : (place at : ℕ) (h : Header) → IsNth stored.region stored.objects place at h
          → proxy_height memory at h ≤ tallest

-- Storage of a state of the run that began at a start: objects fill the region from its start to x26, which isn't past
-- its end, x27, and x25 and x27 are as at the start.
pub record KeepsStorage (types : TypeRows) (tallest : ℕ) (start s : State) : Type 0 where
  pub stored : Stored
  pub begins : stored.region ≡ start.layout.region
  pub is_stored : IsStored stored (told_by s) types tallest start.layout.code (s.regs 26)
  pub inside : s.regs 26 ≤ s.regs 27
  pub stack : s.regs 25 ≡ start.regs 25
  pub top : s.regs 27 ≡ start.regs 27

-- for every region, stack and input, after every number of instructions, told the types of the program
abbrev pub KeepsSpace : List ℕ → TypeRows → ℕ → Type 0
KeepsSpace image types tallest =
    (region stack : ℕ) (input : List ℕ) (m : ℕ) → IsRegionSize region → IsStackSize stack
    → KeepsStorage types tallest (start_of image region stack (fresh_world input))
    (mach image region stack input m).shown
