-- When the reader answers a fault.
use Rattle.std.specs.Prelude.{ℕ, List}
use Rattle.grift_base.specs.declared.refusals.FrontFault.{FrontFault}
use Rattle.grift_base.specs.declared.refusals.FrontFault.TheVariants.{Refused, OutOfMemory}
use Rattle.sexpr_reader.specs.Refused.{IsRefused}

-- a refusal is that of the text; memory may run out at any text
abbrev pub IsFault : List ℕ → FrontFault → Type 0
IsFault text (Refused r) = IsRefused text r
IsFault text OutOfMemory = Unit {0}
