-- The words that have a meaning in a source.
use Rattle.std.specs.Prelude.{ℕ, Bool, true, false, cond, List, [], ◌∷◌, Option, Some, None, codes, bytes_eq}
use Rattle.grift_base.specs.declared.operators.PrimOp.{PrimOp}
use Rattle.grift_base.specs.declared.operators.PrimOp.TheVariants.{Add, Sub, Mul, Quot, Rem, Lt, Le, Eq, Ge, Gt, Not}
use Rattle.grift_base.specs.declared.operators.PrimOp.TheVariants.{PrintInt, Newline, ReadInt}
use Rattle.grift_base.specs.declared.operators.PrimOp.TheVariants.{MakeBox, Unbox, BoxSet, MakeVector, VectorRef}
use Rattle.grift_base.specs.declared.operators.PrimOp.TheVariants.{VectorSet, VectorLength}
use Rattle.form_table.specs.declared.words.Word.{Word}
use Rattle.form_table.specs.declared.words.Word.TheVariants.{Lambda, Let, Letrec, If, Begin, And, Or, Repeat, Tuple}
use Rattle.form_table.specs.declared.words.Word.TheVariants.{TupleProj, Define, Colon, Arrow, Operator}
use Rattle.form_table.specs.declared.words.TypeWord.{TypeWord}
use Rattle.form_table.specs.declared.words.TypeWord.TheVariants.{Int, Bool as BoolWord, Unit as UnitWord, Dyn}
use Rattle.form_table.specs.declared.words.TypeWord.TheVariants.{Tuple as TupleWord, Ref, Vect, Rec}
use Rattle.form_table.specs.declared.words.Mark.{Mark}
use Rattle.form_table.specs.declared.words.Mark.TheVariants.{Reserved, Free}
use Rattle.form_table.specs.declared.words.TheConstants.{RESERVED_WORDS, TYPE_WORDS}

-- how an operator is written, and how many operands it has
abbrev pub operator_word : PrimOp → List ℕ × ℕ
operator_word Add = (codes "+", 2)
operator_word Sub = (codes "-", 2)
operator_word Mul = (codes "*", 2)
operator_word Quot = (codes "%/", 2)
operator_word Rem = (codes "%%", 2)
operator_word Lt = (codes "<", 2)
operator_word Le = (codes "<=", 2)
operator_word Eq = (codes "=", 2)
operator_word Ge = (codes ">=", 2)
operator_word Gt = (codes ">", 2)
operator_word Not = (codes "not", 1)
operator_word PrintInt = (codes "print-int", 1)
operator_word Newline = (codes "newline", 0)
operator_word ReadInt = (codes "read-int", 0)
operator_word MakeBox = (codes "box", 1)
operator_word Unbox = (codes "unbox", 1)
operator_word BoxSet = (codes "box-set!", 2)
operator_word MakeVector = (codes "make-vector", 2)
operator_word VectorRef = (codes "vector-ref", 2)
operator_word VectorSet = (codes "vector-set!", 3)
operator_word VectorLength = (codes "vector-length", 1)

abbrev pub operator_text : PrimOp → List ℕ
operator_text operator = (operator_word operator).0

abbrev pub operand_count : PrimOp → ℕ
operand_count operator = (operator_word operator).1

abbrev pub word_text : Word → List ℕ
word_text Lambda = codes "lambda"
word_text Let = codes "let"
word_text Letrec = codes "letrec"
word_text If = codes "if"
word_text Begin = codes "begin"
word_text And = codes "and"
word_text Or = codes "or"
word_text Repeat = codes "repeat"
word_text Tuple = codes "tuple"
word_text TupleProj = codes "tuple-proj"
word_text Define = codes "define"
word_text Colon = codes ":"
word_text Arrow = codes "->"
word_text (Operator operator) = operator_text operator

abbrev pub type_word_text : TypeWord → List ℕ
type_word_text Int = codes "Int"
type_word_text BoolWord = codes "Bool"
type_word_text UnitWord = codes "Unit"
type_word_text Dyn = codes "Dyn"
type_word_text TupleWord = codes "Tuple"
type_word_text Ref = codes "Ref"
type_word_text Vect = codes "Vect"
type_word_text Rec = codes "Rec"

-- the first of these whose text is this
unfoldable pub first_with : {A : Type 0} → (A → List ℕ) → List ℕ → List A → Option A
first_with text bytes [] = None
first_with text bytes (a ∷ rest) = cond (bytes_eq (text a) bytes) (Some a) (first_with text bytes rest)

-- a reserved word, or else a name, which may be a word of types
abbrev pub marked_as : Option Word → Option TypeWord → Mark
marked_as (Some word) type_word = Reserved word
marked_as None type_word = Free type_word

-- what a symbol with these bytes is
unfoldable pub mark_of : List ℕ → Mark
mark_of bytes = marked_as (first_with word_text bytes RESERVED_WORDS) (first_with type_word_text bytes TYPE_WORDS)

abbrev pub is_colon_word : Word → Bool
is_colon_word Colon = true
is_colon_word _ = false

abbrev pub is_arrow_word : Word → Bool
is_arrow_word Arrow = true
is_arrow_word _ = false

abbrev pub is_lambda_word : Word → Bool
is_lambda_word Lambda = true
is_lambda_word _ = false

abbrev pub is_define_word : Word → Bool
is_define_word Define = true
is_define_word _ = false
