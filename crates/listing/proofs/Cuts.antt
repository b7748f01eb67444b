-- Parts that are cut out of a text.
use Rattle.std.proofs.Common.{◌≡◌, ℕ, ◌-◌, List, ◌++◌, length, take, drop, ap, ◌∙◌}
use Rattle.std.proofs.Common.{arith, append_assoc, length-append}
use Rattle.std.specs.Prelude.{slice_range}
use Rattle.std.proofs.Math.Seq.{drop-append_seam, take-append_seam, take-length}

-- the front of a text
pub front_cut : (front rest text : List ℕ) → text ≡ front ++ rest → slice_range text 0 (length front) ≡ front
front_cut front rest text is =
    ap (λ (l : List ℕ). take (length front - 0) l) is
    ∙ ap (λ k. take k (front ++ rest)) (same (length front))
    ∙ take-append_seam front rest
  where
    same : (n : ℕ) → n - 0 ≡ n
    same n = omega arith

-- what stands between two parts of a text
pub middle_cut : (before middle rest text cut : List ℕ) → text ≡ before ++ middle ++ rest
    → cut ≡ slice_range text (length before) (length text) → slice_range cut 0 (length middle) ≡ middle
middle_cut before middle rest text cut is cut_is =
    front_cut middle rest cut (cut_is ∙ behind)
  where
    grouped : text ≡ before ++ (middle ++ rest)
    grouped = is ∙ append_assoc before middle rest

    long : length text - length before ≡ length (middle ++ rest)
    long = omega (arith, ap length grouped, length-append before (middle ++ rest))

    behind : slice_range text (length before) (length text) ≡ middle ++ rest
    behind =
        ap (λ (l : List ℕ). take (length text - length before) (drop (length before) l)) grouped
        ∙ ap (λ (l : List ℕ). take (length text - length before) l) (drop-append_seam before (middle ++ rest))
        ∙ ap (λ k. take k (middle ++ rest)) long
        ∙ take-length (middle ++ rest)
