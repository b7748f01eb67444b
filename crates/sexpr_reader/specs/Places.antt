-- Lines and columns of a text.
use Rattle.std.specs.Prelude.{ℕ, ◌+◌, List, length, reverse, not}
use Rattle.std.specs.List.{take_while, count_by}
use Rattle.grift_base.specs.declared.places.Pos.{Pos}
use Rattle.sexpr_reader.specs.Bytes.{is_line_feed}

-- the bytes on the line of a place that stand before it, the nearest first; `before` is the text before the place
abbrev pub line_before : List ℕ → List ℕ
line_before before = take_while (λ b. not (is_line_feed b)) (reverse before)

-- the place behind this text: its line is one more than the line feeds before it, its column one more than the bytes
-- since the last of them
abbrev pub place_after : List ℕ → Pos
place_after before = record {
  line = 1 + count_by is_line_feed before;
  col = 1 + length (line_before before);
}

abbrev pub first_place : Pos
first_place = record { line = 1; col = 1 }
