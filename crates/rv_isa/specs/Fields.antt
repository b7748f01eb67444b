-- A word and its fields.
use Rattle.std.specs.Prelude.{ℕ, ◌+◌, ◌*◌, ◌/◌, ◌%◌, ◌^◌, ◌<◌}
use Rattle.rv_isa.specs.declared.fields.Fields.{Fields}

abbrev pub fields_of : ℕ → Fields
fields_of word = record {
  opcode = word % 128;
  rd = word / 2 ^ 7 % 32;
  funct3 = word / 2 ^ 12 % 8;
  rs1 = word / 2 ^ 15 % 32;
  rs2 = word / 2 ^ 20 % 32;
  funct7 = word / 2 ^ 25;
}

abbrev pub word_of : Fields → ℕ
word_of f =
    f.opcode + f.rd * 2 ^ 7 + f.funct3 * 2 ^ 12 + f.rs1 * 2 ^ 15 + f.rs2 * 2 ^ 20 + f.funct7 * 2 ^ 25

-- each field fits its bits
pub record Fit (f : Fields) : Type 0 where
  pub opcode : f.opcode < 128
  pub rd : f.rd < 32
  pub funct3 : f.funct3 < 8
  pub rs1 : f.rs1 < 32
  pub rs2 : f.rs2 < 32
  pub funct7 : f.funct7 < 128
