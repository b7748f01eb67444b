-- What a program sees of the outside, as the emulator keeps it.
use Rattle.std.specs.Prelude.{ℕ, ◌≡◌, ◌+◌, ◌%◌, ◌<◌, ◌≤◌, ◌==◌, if◌then◌else◌, List, [], ◌∷◌, length, vec_capacity}
use Rattle.std.specs.Fmt.{signed_decimal}
use Rattle.std.specs.Int.{cast_signed, w64}
use Rattle.grift_base.specs.World.{WorldState}
use Rattle.grift_base.specs.EnvironmentCall.{Called}
use Rattle.grift_base.specs.declared.worlds.EnvEffect.{EnvEffect}
use Rattle.grift_base.specs.declared.worlds.EnvEffect.TheVariants.{OutOfMemory}
use Rattle.rv_machine.specs.State.{State, reg}
use Rattle.rv_emulator.specs.declared.consoles.Console.{Console}

-- the outside: what was printed, and the input with its place
abbrev pub world_of : Console → WorldState
world_of c = record c.input { output = c.output.items }

-- how many bytes the output can have before it needs more memory; the room that is left are those beyond its length
abbrev pub reserved_by : Console → ℕ
reserved_by c = vec_capacity c.output

-- what the environment call of this number prints with this first word
abbrev pub printed_by : ℕ → ℕ → List ℕ
printed_by number a0 =
    if number == 1 then signed_decimal (cast_signed w64 a0) else if number == 2 then a0 % 256 ∷ [] else []

-- what the call prints is more than there is room for
abbrev pub NeedsRoom : ℕ → ℕ → ℕ → WorldState → Type 0
NeedsRoom reserved number a0 w = reserved < length w.output + length (printed_by number a0)

-- the environment call that is made next prints more than there is room for
abbrev pub LacksRoom : ℕ → State → Type 0
LacksRoom reserved s = NeedsRoom reserved (reg s 17) (reg s 10) s.world

-- what came of the call, where the output can have so many bytes: what it comes to, or want of memory with the outside
-- as before, where it prints more than there is room for
abbrev pub MakesCallWithin : ℕ → Called → ℕ → ℕ → WorldState → EnvEffect → WorldState → Type 0
MakesCallWithin reserved c number a0 old OutOfMemory new = NeedsRoom reserved number a0 old × (new ≡ old)
MakesCallWithin reserved c number a0 old effect new = (effect ≡ c.effect) × (new ≡ c.world)

-- one call prints 20 bytes at most
abbrev pub PrintsFew : Console → Console → Type 0
PrintsFew old new = length new.output.items ≤ length old.output.items + 20

-- there is no room for 20 bytes more
abbrev pub LacksFew : Console → Type 0
LacksFew c = reserved_by c < length c.output.items + 20
