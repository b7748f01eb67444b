-- Coercions after the header of an object.
use Rattle.std.proofs.Common.{◌≡◌, ℕ, zero, suc, ◌+◌, ◌*◌, ◌<◌, replicate, max, sym, ap, subst, arith}
use Rattle.std.proofs.Common.{◌∙◌}
use Rattle.std.proofs.Math.Nat.{max_comm}
use Rattle.object_layout.specs.declared.kinds.Wanted.TheVariants.{Coercion}
use Rattle.object_layout.specs.Wholes.{Telling, StandsWanted, AreWanted, wanted_height, highest}

module _ (memory : Telling) (own : ℕ) where
  -- one more before the others
  pub one_more_coercion : (at next n more : ℕ) → at + 8 ≡ next → suc n ≡ more → StandsWanted memory own at Coercion →
      AreWanted memory own next (replicate n Coercion) → AreWanted memory own at (replicate more Coercion)
  one_more_coercion at next n more e f stands rest =
      subst (λ k. AreWanted memory own at (replicate k Coercion)) f
      (stands, subst (λ a. AreWanted memory own a (replicate n Coercion)) (sym e) rest)

  -- the one at a place
  pub coercion_there : (at place n there : ℕ) → place < n → there ≡ at + 8 * place →
      AreWanted memory own at (replicate n Coercion) → StandsWanted memory own there Coercion
  coercion_there at place zero there within e wanted = absurd (omega arith)
  coercion_there at zero (suc n) there within e wanted =
      let first : at ≡ there = omega arith in
      subst (λ a. StandsWanted memory own a Coercion) first wanted.0
  coercion_there at (suc place) (suc n) there within e wanted =
      coercion_there (at + 8) place n there (omega arith) (omega arith) wanted.1

-- the greatest height so far, with that of one more before the others
pub greatest_one_more : (memory : Telling) (at next n more : ℕ) → at + 8 ≡ next → suc n ≡ more →
    (old height greatest : ℕ) → greatest ≡ max old height → old ≡ highest memory next (replicate n Coercion) →
    height ≡ wanted_height memory Coercion at → greatest ≡ highest memory at (replicate more Coercion)
greatest_one_more memory at next n more e f old height greatest is known one =
    subst (λ k. greatest ≡ highest memory at (replicate k Coercion)) f
    (subst (λ a. greatest ≡ max (wanted_height memory Coercion at) (highest memory a (replicate n Coercion))) (sym e)
    (is ∙ max_comm old height ∙ ap (λ h. max h old) one ∙ ap (max (wanted_height memory Coercion at)) known))
