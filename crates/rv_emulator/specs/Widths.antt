-- A width as the standard library names it.
use Rattle.std.specs.Int.{Width as IntWidth, w8, w16, w32, w64}
use Rattle.rv_emulator.specs.declared.ram.Width.{Width}
use Rattle.rv_emulator.specs.declared.ram.Width.TheVariants.{B1, B2, B4, B8}

abbrev pub width_of : Width → IntWidth
width_of B1 = w8
width_of B2 = w16
width_of B4 = w32
width_of B8 = w64
