-- The bytes of an image whose entry is the start of its code.
use Rattle.std.specs.Prelude.{ℕ, ◌+◌, ◌*◌, ◌%◌, ◌^◌, ◌<◌, ◌≤◌, ◌≡◌, ◌==◌, if◌then◌else◌, List, [], ◌++◌, length, codes}
use Rattle.std.specs.Prelude.{flat_map, map}
use Rattle.std.specs.Int.{w32, w64, to_le_bytes}
use Rattle.grift_base.specs.declared.places.Pos.{Pos}
use Rattle.rv_isa.specs.declared.inst.Inst.{Inst}
use Rattle.rv_machine.specs.declared.real.RealItem.{RealItem}
use Rattle.rv_isa.specs.Encoding.{encode_of}
use Rattle.machine_words.specs.Memory.{first_address}
use Rattle.assembler.specs.Expansion.{code_insts}

-- eight bytes, and four, the lowest first
abbrev pub word_bytes : ℕ → List ℕ
word_bytes word = to_le_bytes w64 word

abbrev pub half_bytes : ℕ → List ℕ
half_bytes half = to_le_bytes w32 half

-- a label: its line and its column
abbrev pub label_bytes : Pos → List ℕ
label_bytes label = half_bytes label.line ++ half_bytes label.col

-- the header, told how many bytes of statics and of code, and how many labels there are
abbrev pub header_bytes : ℕ → ℕ → ℕ → List ℕ
header_bytes statics code labels =
    codes "GRIFTRV1" ++ word_bytes (64 + statics + code + 8 * labels) ++ word_bytes statics ++ word_bytes code
    ++ word_bytes labels ++ word_bytes 0 ++ word_bytes 0 ++ word_bytes 0

abbrev pub image_bytes : List ℕ → List ℕ → List Pos → List ℕ
image_bytes statics code labels =
    header_bytes (length statics) (length code) (length labels) ++ statics ++ code ++ flat_map label_bytes labels

-- what statics, code and labels have to be
pub record AreSections (statics code : List ℕ) (labels : List Pos) : Type 0 where
  pub statics_whole : length statics % 8 ≡ 0
  pub code_whole : length code % 8 ≡ 0
  pub some_code : 8 ≤ length code
  pub few_labels : length labels < 4294967295
  pub small : length statics + length code < 2 ^ 62

-- the bytes of words, with a word 0 behind them where their number is odd
abbrev pub code_bytes : List ℕ → List ℕ
code_bytes words = flat_map half_bytes words ++ (if length words % 2 == 0 then [] else half_bytes 0)

-- the words of instructions
abbrev pub inst_words : List Inst → List ℕ
inst_words insts = map encode_of insts

-- code stands behind the statics, which begin at the first address
abbrev pub code_start : List ℕ → ℕ
code_start statics = first_address + 8 * length statics

-- the image of a code with these words of statics and these labels
abbrev pub assembled : List RealItem → List ℕ → List Pos → List ℕ
assembled items statics labels =
    image_bytes (flat_map word_bytes statics) (code_bytes (inst_words (code_insts items (code_start statics)))) labels
