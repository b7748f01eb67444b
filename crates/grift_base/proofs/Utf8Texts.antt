-- What `from_utf8` answers of bytes that are UTF-8: the text of these bytes.
use Rattle.std.proofs.Common.{◌≡◌, ℕ, List, Some, None, Result, Ok, Err, Bor, ap, ◌∙◌}
use Rattle.std.specs.Prelude.{MatchResult}
use Rattle.std.specs.Result.{result_ok}

-- what is UTF-8 is read as a text
pub utf8_is_read : {A E : Type 0} (P : A → Type 0) (Q : E → Type 0) (U : Type 0) (r : Result A E)
    → MatchResult r P (λ e. (U → ⊥) × Q e) → None ≡ result_ok r → U → ⊥
utf8_is_read P Q U (Ok x) m e u = cc
utf8_is_read P Q U (Err y) m e u = m.0 u

-- and the text has these bytes
pub text_has_its_bytes : {E : Type 0} (U : Type 0) (Q : E → Type 0) (bytes : List ℕ) (r : Result (Bor (List ℕ)) E)
    (s : Bor (List ℕ)) → MatchResult r (λ x. (x.now ≡ bytes) × U) Q → Some s ≡ result_ok r → s.now ≡ bytes
text_has_its_bytes U Q bytes (Ok x) s m e = let same : s ≡ x = cc in ap (λ (y : Bor (List ℕ)). y.now) same ∙ m.0
text_has_its_bytes U Q bytes (Err y) s m e = cc
