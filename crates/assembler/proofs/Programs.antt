-- An assembled code as a program of the program logic, which begins at its first item.
use Rattle.std.proofs.Common.{ℕ, List, refl}
use Rattle.grift_base.specs.World.{WorldState}
use Rattle.grift_base.specs.declared.places.Pos.{Pos}
use Rattle.run_laws.specs.Runs.{Ending}
use Rattle.rv_machine.specs.declared.real.RealItem.{RealItem}
use Rattle.machine_words.specs.Halts.{Halt}
use Rattle.rv_machine.specs.Start.{start_of}
use Rattle.rv_machine.specs.Real.{plain_setting, MarksStandOnce}
use Rattle.rv_machine.proofs.Public.{Program, At}
use Rattle.assembler.specs.Assembled.{item_address, IsImageOf}

module _ {V : Type 0} (reading : Halt → Ending V) {image : List ℕ} {items : List RealItem} {statics : List ℕ}
    {labels : List Pos} (is_image : IsImageOf image items statics labels) (once : MarksStandOnce items) where
  abbrev pub program_of : Program V
  program_of = record {
    reading = reading;
    code = items;
    setting = plain_setting (item_address items statics);
    addresses = is_image.addresses.sound;
    marks = once;
  }

  -- the image's start state is at the first item
  pub starts_at : (region stack : ℕ) (world : WorldState) → At program_of (start_of image region stack world) items
  starts_at region stack world = record {
    place = 0;
    stand = refl;
    address = is_image.addresses.entry region stack world;
  }
