-- The place that a list of places gives each virtual register.
use Rattle.std.specs.Prelude.{ℕ, List, slice_get, unwrap_or}
use Rattle.rv_select.specs.declared.code.Place.{Place}
use Rattle.rv_select.specs.declared.code.Place.TheVariants.{Slot}

-- the place that stands at the register's number; one that the list lacks has the slot of its number
abbrev pub place_in : List Place → ℕ → Place
place_in places v = unwrap_or (slice_get places v) (Slot v)
