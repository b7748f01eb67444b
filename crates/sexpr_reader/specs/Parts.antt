-- What the reader's parts mean as plain data, for the contracts of its private functions.
use Rattle.std.specs.Prelude.{◌≡◌, map, reverse, Result, Ok, Err}
use Rattle.grift_base.specs.declared.refusals.Refusal.{Refusal}
use Rattle.grift_base.specs.declared.refusals.FrontFault.{FrontFault}
use Rattle.grift_base.specs.declared.refusals.FrontFault.TheVariants.{Refused as RefusedFault, OutOfMemory}
use Rattle.sexpr_reader.specs.Datum.{Datums}
use Rattle.sexpr_reader.specs.Reader.{OpenList, ReaderState}
use Rattle.sexpr_reader.specs.View.{datum_of, datums_of}
use Rattle.sexpr_reader.specs.declared.sexps.SexpList.{SexpList}
use Rattle.sexpr_reader.specs.declared.readers.OpenList.{OpenList as ReaderList}
use Rattle.sexpr_reader.specs.declared.readers.Reader.{Reader}

abbrev pub open_list_of : ReaderList → OpenList
open_list_of o = record { bracket = o.bracket; before = map datum_of o.before.items }

abbrev pub state_of : Reader → ReaderState
state_of r = record { around = reverse (map open_list_of r.around.items); items = map datum_of r.items.items }

-- a step is the defined one, unless memory runs out
abbrev pub Goes : Result (Unit {0}) FrontFault → ReaderState → Result ReaderState Refusal → Type 0
Goes (Ok done) new defined = defined ≡ Ok new
Goes (Err (RefusedFault r)) new defined = defined ≡ Err r
Goes (Err OutOfMemory) new defined = Unit {0}

-- the answer is the defined one, unless memory runs out
abbrev pub Gives : Result SexpList FrontFault → Result Datums Refusal → Type 0
Gives (Ok list) defined = defined ≡ Ok (datums_of list)
Gives (Err (RefusedFault r)) defined = defined ≡ Err r
Gives (Err OutOfMemory) defined = Unit {0}
