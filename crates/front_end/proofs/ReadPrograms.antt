-- What is known of the s-expressions that a text reads as: integers have 64 bits.
use Rattle.std.proofs.Common.{◌≡◌, ℕ, ℤ, pos, negsuc, Bool, true, false, List, refl, arith}
use Rattle.std.proofs.Common.{subst}
use Rattle.std.specs.Prelude.{◌^◌, if◌then◌else◌, bytes_eq, codes}
use Rattle.std.specs.Str.Parse.{signed_digits_value}
use Rattle.std.proofs.lemmas.Bool.{ltb-true}
use Rattle.std.specs.Int.{w64}
use Rattle.std.specs.Int.RustNames.{FitsSigned}
use Rattle.grift_base.specs.Numbers.{is_integer, fits_in_64_bits}
use Rattle.sexpr_reader.specs.Datum.{Datum, Datums, integer, truth, symbol, leaf_datum, list_datum, no_datums}
use Rattle.sexpr_reader.specs.Datum.{datum_then}
use Rattle.sexpr_reader.specs.Token.{Token, Lexeme, open_bracket, close_bracket, atom, hash_atom, quote, other}
use Rattle.sexpr_reader.specs.Meaning.{meaning, integer_meaning}
use Rattle.sexpr_reader.specs.Meaning.{begins_like_number}
use Rattle.grift_base.specs.declared.refusals.RefusalKind.TheVariants.{NumberRange, NotInProfile}
use Rattle.sexpr_reader.specs.declared.atoms.Meaning.TheVariants.{Int, Refused, Symbol, Bool as Truth}
use Rattle.sexpr_reader.specs.Grammar.{Forms, FormsAll}
use Rattle.form_table.specs.declared.words.Mark.{Mark}
use Rattle.form_table.specs.declared.words.Mark.TheVariants.{Reserved, Free}
use Rattle.form_table.specs.Words.{mark_of}
use Rattle.form_table.specs.Marked.{Sexpr, Sexprs, number, truth_value, word, name, list, end, ◌▹◌, marked}
use Rattle.form_table.specs.Marked.{all_marked, marked_symbol}

-- each integer has 64 bits
abbrev mutual
  pub NumbersFit : Sexpr → Type 0
  NumbersFit (number p n) = FitsSigned w64 n
  NumbersFit (truth_value p b) = Unit {0}
  NumbersFit (word p w) = Unit {0}
  NumbersFit (name p x t) = Unit {0}
  NumbersFit (list p ds) = AllFit ds

  pub AllFit : Sexprs → Type 0
  AllFit end = Unit {0}
  AllFit (s ▹ rest) = NumbersFit s × AllFit rest

-- ---- integers

fits_from : (n : ℤ) → fits_in_64_bits n ≡ true → FitsSigned w64 n
fits_from (pos n) h = let below = ltb-true n (2 ^ 63) h in omega arith
fits_from (negsuc n) h = let below = ltb-true n (2 ^ 63) h in omega arith

-- an integer that a token means has 64 bits
integer_fits : (v : ℤ) (fits : Bool) (n : ℤ) → fits_in_64_bits v ≡ fits →
    (if fits then Int v else Refused NumberRange) ≡ Int n → FitsSigned w64 n
integer_fits v true n e h = let same : v ≡ n = cc in subst (FitsSigned w64) same (fits_from v e)
integer_fits v false n e h = absurd (let z : ⊥ = cc in z)

atom_fits : (is_int begins : Bool) (v : ℤ) (text : List ℕ) (n : ℤ) →
    (if is_int then integer_meaning v else if begins then Refused NotInProfile else Symbol text) ≡ Int n →
    FitsSigned w64 n
atom_fits true begins v text n h = integer_fits v (fits_in_64_bits v) n refl h
atom_fits false true v text n h = absurd (let z : ⊥ = cc in z)
atom_fits false false v text n h = absurd (let z : ⊥ = cc in z)

hash_fits : (holds fails : Bool) (n : ℤ) →
    (if holds then Truth true else if fails then Truth false else Refused NotInProfile) ≡ Int n →
    FitsSigned w64 n
hash_fits true fails n h = absurd (let z : ⊥ = cc in z)
hash_fits false true n h = absurd (let z : ⊥ = cc in z)
hash_fits false false n h = absurd (let z : ⊥ = cc in z)

token_fits : (t : Lexeme) (n : ℤ) → meaning t ≡ Int n → FitsSigned w64 n
token_fits (open_bracket shape) n h = absurd (let z : ⊥ = cc in z)
token_fits (close_bracket shape) n h = absurd (let z : ⊥ = cc in z)
token_fits quote n h = absurd (let z : ⊥ = cc in z)
token_fits other n h = absurd (let z : ⊥ = cc in z)
token_fits (atom text) n h =
    atom_fits (is_integer text) (begins_like_number text) (signed_digits_value 10 text) text n h
token_fits (hash_atom text) n h = hash_fits (bytes_eq text (codes "t")) (bytes_eq text (codes "f")) n h

symbol_fits : (p : _) (x : List ℕ) (m : Mark) → NumbersFit (marked_symbol p x m)
symbol_fits p x (Reserved w) = tt
symbol_fits p x (Free t) = tt

mutual
  fits : (d : Datum) (ts : List Token) → Forms ts d → NumbersFit (marked d)
  fits (leaf_datum p (integer n)) ts h = token_fits h.0.lexeme n h.3
  fits (leaf_datum p (truth b)) ts h = tt
  fits (leaf_datum p (symbol x)) ts h = symbol_fits p x (mark_of x)
  fits (list_datum p ds) ts h = all_fit ds h.2 h.8

  pub all_fit : (ds : Datums) (ts : List Token) → FormsAll ts ds → AllFit (all_marked ds)
  all_fit no_datums ts h = tt
  all_fit (datum_then d ds) ts h = (fits d h.0 h.3, all_fit ds h.1 h.4)
