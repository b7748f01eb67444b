-- Terms whose integers have 64 bits, whose functions have at most six parameters, whose calls hand on at most six
-- arguments, whose tuples have one to eight parts, whose operators have eight operands at most, and whose parts of Dyn
-- have numbers and labels that are words.
use Rattle.std.proofs.Common.{◌≡◌, ℕ, ◌≤◌, true, length}
use Rattle.std.specs.Int.{int_wrap, w64}
use Rattle.std.specs.Ordering.{int_eq}
use Rattle.coer_core.specs.Terms.{RowTerm, RowTerms, RowMembers, RowBindings, RowInt, RowBool, RowUnit, RowVar}
use Rattle.coer_core.specs.Terms.{RowLambda, RowGroup, RowLet, RowCall, RowIf, RowSeq, RowCast, RowProj, RowProjDyn}
use Rattle.coer_core.specs.Terms.{RowTuple, RowPrim, NoRowTerms, RowTermThen, NoRowMembers, RowMemberThen}
use Rattle.coer_core.specs.Terms.{NoRowBindings, RowBindingThen}
use Rattle.flat_ir.specs.Closed.{part_has_words}
use Rattle.coer_core.specs.Uses.{how_many}

abbrev pub count : RowTerms → ℕ
count = how_many

abbrev mutual
  pub Fine : RowTerm → Type 0
  Fine (RowInt n) = int_eq (int_wrap w64 n) n ≡ true
  Fine (RowBool b) = Unit {0}
  Fine RowUnit = Unit {0}
  Fine (RowVar name) = Unit {0}
  Fine (RowLambda parameters body type) = (length parameters ≤ 6) × Fine body
  Fine (RowGroup members body) = FineIn members × Fine body
  Fine (RowLet bindings body) = FineBy bindings × Fine body
  Fine (RowCall function arguments) = Fine function × FineFor arguments × (count arguments ≤ 6)
  Fine (RowIf condition on_true on_false) = Fine condition × Fine on_true × Fine on_false
  Fine (RowSeq terms) = FineFor terms
  Fine (RowCast term number) = Fine term
  Fine (RowProj term k) = Fine term
  Fine (RowProjDyn term k label) = Fine term × (part_has_words k label ≡ true)
  Fine (RowTuple parts) = FineFor parts × (1 ≤ count parts) × (count parts ≤ 8)
  Fine (RowPrim operator operands) = FineFor operands × (count operands ≤ 8)

  pub FineFor : RowTerms → Type 0
  FineFor NoRowTerms = Unit {0}
  FineFor (RowTermThen term rest) = Fine term × FineFor rest

  pub FineIn : RowMembers → Type 0
  FineIn NoRowMembers = Unit {0}
  FineIn (RowMemberThen name parameters body type rest) = (length parameters ≤ 6) × Fine body × FineIn rest

  pub FineBy : RowBindings → Type 0
  FineBy NoRowBindings = Unit {0}
  FineBy (RowBindingThen name bound rest) = Fine bound × FineBy rest
