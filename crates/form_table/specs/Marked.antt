-- S-expressions whose symbols are told apart, so that forms are known by pattern.
use Rattle.std.specs.Prelude.{ℕ, suc, ℤ, Bool, List, Option, Some, None}
use Rattle.grift_base.specs.declared.places.Pos.{Pos}
use Rattle.sexpr_reader.specs.Datum.{Datum, Datums, integer, truth, symbol, leaf_datum, list_datum, no_datums}
use Rattle.sexpr_reader.specs.Datum.{datum_then}
use Rattle.form_table.specs.declared.words.Word.{Word}
use Rattle.form_table.specs.declared.words.TypeWord.{TypeWord}
use Rattle.form_table.specs.declared.words.Mark.{Mark}
use Rattle.form_table.specs.declared.words.Mark.TheVariants.{Reserved, Free}
use Rattle.form_table.specs.Words.{mark_of}

infixr 5 ◌▹◌
mutual
  pub data Sexpr : Type 0 where
    number : Pos → ℤ → Sexpr
    truth_value : Pos → Bool → Sexpr
    -- a reserved word
    word : Pos → Word → Sexpr
    -- any other symbol, by its bytes, with the word of types that it is, if it is one
    name : Pos → List ℕ → Option TypeWord → Sexpr
    list : Pos → Sexprs → Sexpr

  pub data Sexprs : Type 0 where
    end : Sexprs
    ◌▹◌ : Sexpr → Sexprs → Sexprs

abbrev pub marked_symbol : Pos → List ℕ → Mark → Sexpr
marked_symbol p bytes (Reserved w) = word p w
marked_symbol p bytes (Free type_word) = name p bytes type_word

abbrev mutual
  pub marked : Datum → Sexpr
  marked (leaf_datum p (integer n)) = number p n
  marked (leaf_datum p (truth b)) = truth_value p b
  marked (leaf_datum p (symbol bytes)) = marked_symbol p bytes (mark_of bytes)
  marked (list_datum p ds) = list p (all_marked ds)

  pub all_marked : Datums → Sexprs
  all_marked no_datums = end
  all_marked (datum_then d ds) = marked d ▹ all_marked ds

abbrev pub place : Sexpr → Pos
place (number p n) = p
place (truth_value p b) = p
place (word p w) = p
place (name p bytes t) = p
place (list p elements) = p

abbrev pub how_many : Sexprs → ℕ
how_many end = 0
how_many (s ▹ rest) = suc (how_many rest)

-- the reserved word that stands there, if one does
abbrev pub reserved_at : Sexpr → Option Word
reserved_at (word p w) = Some w
reserved_at _ = None
