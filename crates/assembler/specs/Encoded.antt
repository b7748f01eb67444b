-- The words of instructions are decoded back.
use Rattle.std.specs.Prelude.{◌<◌, ◌^◌, ◌≡◌, List, [], ◌∷◌, Some}
use Rattle.rv_isa.specs.declared.inst.Inst.{Inst}
use Rattle.rv_isa.specs.Encoding.{encode_of}
use Rattle.rv_isa.specs.Decoding.{decode_of}

abbrev pub AllDecode : List Inst → Type 0
AllDecode [] = Unit {0}
AllDecode (i ∷ is) = ((decode_of (encode_of i) ≡ Some i) × (encode_of i < 2 ^ 32)) × AllDecode is
