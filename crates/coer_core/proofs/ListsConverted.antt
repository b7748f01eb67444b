-- What a loop keeps that converts a list.
use Rattle.std.proofs.Common.{◌≡◌, ◌≤◌, ℕ, List}
use Rattle.cast_modes.specs.Modes.{TypeCast}
use Rattle.coer_core.specs.Conversion.{Converted}

-- what is left converts, after the casts so far and behind what is done, to what the whole converts to after those at
-- first; and it is no larger
abbrev pub Converting : {L M A B : Type 0} → (B → B → B) → (M → B) → (List TypeCast → A → Converted B) → (L → A)
    → (L → ℕ) → List TypeCast → List TypeCast → M → L → L → Type 0
Converting onto row converted view size first so_far done left all = record {
  term_is : onto (row done) (converted so_far (view left)).term ≡ (converted first (view all)).term;
  casts_are : (converted so_far (view left)).casts ≡ (converted first (view all)).casts;
  smaller : size left ≤ size all;
}
