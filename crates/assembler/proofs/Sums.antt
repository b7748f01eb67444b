-- Sums of the widths before each place.
use Rattle.std.proofs.Common.{ℕ, suc, ◌+◌, ◌*◌, ◌≤◌, ◌≡◌, refl, sym, ◌∙◌, ap, arith, List, [], ◌∷◌, ◌++◌, length}
use Rattle.std.proofs.Common.{get_or, length-append}
use Rattle.std.specs.Prelude.{sum}
use Rattle.std.proofs.Math.Logic.{⊎_elim}
use Rattle.std.proofs.lemmas.Bool.{cases_lt}
use Rattle.std.proofs.lemmas.List.{get_or_push, get_or_append_left, take_all, take-append-le}
use Rattle.std.proofs.lemmas.List.Sums.{sum_by-append}
use Rattle.assembler.specs.Tables.{HoldsSums}

pub sum_push : (ws : List ℕ) (w : ℕ) → sum (ws ++ w ∷ []) ≡ sum ws + w
sum_push ws w = let z : 0 + w ≡ w = omega arith in sum_by-append (λ (n : ℕ). n) ws (w ∷ []) ∙ ap (λ k. sum ws + k) z

pub sum_cons : (w : ℕ) (ws : List ℕ) → sum (w ∷ ws) ≡ w + sum ws
sum_cons w ws = let z : 0 + w ≡ w = omega arith in sum_by-append (λ (n : ℕ). n) (w ∷ []) ws ∙ ap (λ k. k + sum ws) z

pub sums_none : HoldsSums (0 ∷ []) []
sums_none = record {
  len = refl;
  sum = λ place h. let e : place ≡ 0 = omega arith in rw e refl;
  small = λ place h. let e : place ≡ 0 = omega arith in rw e (omega arith);
}

-- one width more
pub sums_more : (sums ws : List ℕ) (w total : ℕ) → HoldsSums sums ws → total ≡ sum ws + w
    → total ≤ 11 * suc (length ws) → HoldsSums (sums ++ total ∷ []) (ws ++ w ∷ [])
sums_more sums ws w total s e h =
    let n : length (ws ++ w ∷ []) ≡ suc (length ws) = omega (arith, length-append ws (w ∷ [])) in
    let len : length sums ≡ suc (length ws) = s.len in
    let old = λ (place : ℕ) (below : place ≤ length ws). get_or_append_left sums (total ∷ []) 0 place (omega arith) in
    let new = λ (place : ℕ) (last : place ≡ suc (length ws)). get_or_push sums total 0 place (omega arith) in
    record {
      len = omega (arith, length-append sums (total ∷ []));
      sum = λ place inside. ⊎_elim
          (λ last. let p : place ≡ suc (length ws) = omega arith in
          new place p ∙ e ∙ sym (sum_push ws w) ∙ ap sum (sym (take_all place (ws ++ w ∷ []) (omega arith))))
          (λ below. old place below ∙ s.sum place below ∙ ap sum (sym (take-append-le place ws (w ∷ []) below)))
          (cases_lt (length ws) place);
      small = λ place inside. ⊎_elim
          (λ last. let p : place ≡ suc (length ws) = omega arith in
          let q : get_or (sums ++ total ∷ []) place 0 ≡ total = new place p in omega arith)
          (λ below. let q : get_or (sums ++ total ∷ []) place 0 ≡ get_or sums place 0 = old place below in
          let r = s.small place below in omega arith)
          (cases_lt (length ws) place);
    }
