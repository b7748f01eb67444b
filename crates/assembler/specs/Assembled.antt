-- What an assembled image is to its code, its statics and its labels.
use Rattle.std.specs.Prelude.{ℕ, ◌+◌, ◌*◌, ◌^◌, ◌<◌, ◌≤◌, ◌≡◌, List, length, Some, slice_get}
use Rattle.grift_base.specs.World.{WorldState}
use Rattle.grift_base.specs.declared.places.Pos.{Pos}
use Rattle.grift_base.specs.declared.verdicts.Verdict.{Verdict}
use Rattle.run_laws.specs.Runs.{Ending}
use Rattle.rv_machine.specs.declared.real.RealItem.{RealItem}
use Rattle.machine_words.specs.Memory.{load_bytes, first_address}
use Rattle.rv_machine.specs.Image.{statics_len, code_len, labels_of}
use Rattle.machine_words.specs.Halts.{Halt}
use Rattle.rv_machine.specs.Start.{start_of}
use Rattle.rv_machine.specs.Real.{AreAddresses, address_from}
use Rattle.assembler.specs.Layout.{address_of}
use Rattle.assembler.specs.Imaging.{code_start, assembled}
use Rattle.assembler.specs.Following.{image_memory, HasItsWords, DoesAsCode, RunsAsCode}

-- the address of the item at each place
abbrev pub item_address : List RealItem → List ℕ → ℕ → ℕ
item_address items statics = address_of items (code_start statics)

-- where the parts of an image lie in memory, told the address of the item at each place
pub record HasAddresses (image : List ℕ) (items : List RealItem) (statics : List ℕ) (address : ℕ → ℕ) : Type 0 where
  -- multiples of 4 below 2^64, different for items that aren't marks
  pub sound : AreAddresses items address
  -- the statics begin at the first address, a word after the other, and the code begins behind them
  pub static : (i word : ℕ) → word < 2 ^ 64 → slice_get statics i ≡ Some word →
      load_bytes 8 (image_memory image) (first_address + 8 * i) ≡ word
  pub statics_size : statics_len image ≡ 8 * length statics
  pub code : address 0 ≡ first_address + statics_len image
  -- no item lies past the code
  pub inside : (place : ℕ) → address place ≤ first_address + statics_len image + code_len image
  -- the image enters at its first item
  pub entry : (region stack : ℕ) (world : WorldState) →
      address_from address 0 items ≡ Some (start_of image region stack world).pc

-- the image of a code with these words of statics and these labels
pub record IsImageOf (image : List ℕ) (items : List RealItem) (statics : List ℕ) (labels : List Pos) : Type 0 where
  -- what it is
  pub bytes : image ≡ assembled items statics labels
  pub labels_are : labels_of image ≡ labels
  pub few : length items ≤ 2 ^ 40
  pub few_statics : length statics ≤ 2 ^ 40
  -- where its parts lie
  pub addresses : HasAddresses image items statics (item_address items statics)
  pub words : HasItsWords image items (item_address items statics)
  -- what it does, however stops are read as endings
  pub follows : (reading : Halt → Ending Verdict) → DoesAsCode reading image items (item_address items statics)
  pub runs : (reading : Halt → Ending Verdict) → RunsAsCode reading image items (item_address items statics)
