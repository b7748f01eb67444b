-- Parts of coercions by their numbers, and the words that hold them.
use Rattle.std.proofs.Common.{◌≡◌, ℕ, zero, suc, ◌+◌, ◌<◌}
use Rattle.std.proofs.Common.{List, [], ◌∷◌, Some, refl, ap, ap₂, ◌∙◌}
use Rattle.std.proofs.Common.{arith}
use Rattle.std.specs.Prelude.{◌==◌, slice_get, length, min}
use Rattle.grift_base.specs.Types.{TypeRow}
use Rattle.coercion_norm.specs.declared.middles.MiddleKind.{MiddleKind as Kind}
use Rattle.coercion_norm.specs.Coercions.{Coercion, Coercions, Id, NoCoercions}
use Rattle.coercion_norm.specs.Coercions.{CoercionThen, is_end, runs_back}
use Rattle.coercion_norm.specs.Composition.{follow_part, follow_parts}
use Rattle.coercion_norm.specs.Heights.{NoHigher, AllNoHigher}
use Rattle.coercion_norm.specs.Normal.{IsNormal, AreNormal}
use Rattle.coercion_norm.specs.Objects.{Object}
use Rattle.coercion_norm.specs.Held.{Layout, Held, AreHeld}
use Rattle.rt_cast.proofs.Middles.{list_of}

abbrev pub count : Coercions → ℕ
count NoCoercions = 0
count (CoercionThen c rest) = suc (count rest)

abbrev pub nth : Coercions → ℕ → Coercion
nth NoCoercions i = Id
nth (CoercionThen c rest) zero = c
nth (CoercionThen c rest) (suc i) = nth rest i

abbrev pub word_at : List ℕ → ℕ → ℕ
word_at [] i = 0
word_at (w ∷ ws) zero = w
word_at (w ∷ ws) (suc i) = word_at ws i

pub got : (ws : List ℕ) (i : ℕ) → i < length ws → slice_get ws i ≡ Some (word_at ws i)
got [] i lt = absurd (omega arith)
got (w ∷ ws) zero lt = refl
got (w ∷ ws) (suc i) lt = got ws i (omega arith)

pub as_many : (l : Layout) (objects : List Object) (cs : Coercions) (ws : List ℕ) → AreHeld l objects cs ws → count cs ≡
    length ws
as_many l objects NoCoercions [] h = refl
as_many l objects NoCoercions (w ∷ ws) h = absurd h
as_many l objects (CoercionThen c cs) [] h = absurd h
as_many l objects (CoercionThen c cs) (w ∷ ws) h = ap suc (as_many l objects cs ws h.1)

pub nth_held : (l : Layout) (objects : List Object) (cs : Coercions) (ws : List ℕ) → AreHeld l objects cs ws → (i : ℕ)
    → i < length ws → Held l objects (nth cs i) (word_at ws i)
nth_held l objects NoCoercions [] h i lt = absurd (omega arith)
nth_held l objects NoCoercions (w ∷ ws) h i lt = absurd h
nth_held l objects (CoercionThen c cs) [] h i lt = absurd h
nth_held l objects (CoercionThen c cs) (w ∷ ws) h zero lt = h.0
nth_held l objects (CoercionThen c cs) (w ∷ ws) h (suc i) lt = nth_held l objects cs ws h.1 i (omega arith)

pub nth_normal : (rows : ℕ → TypeRow) (cs : Coercions) → AreNormal rows cs → (i : ℕ) → IsNormal rows (nth cs i)
nth_normal rows NoCoercions h i = tt
nth_normal rows (CoercionThen c cs) h zero = h.0
nth_normal rows (CoercionThen c cs) h (suc i) = nth_normal rows cs h.1 i

pub nth_low : (rows : ℕ → TypeRow) (n : ℕ) (cs : Coercions) → AllNoHigher rows cs n → (i : ℕ) → NoHigher rows (nth cs i)
    n
nth_low rows n NoCoercions h i = tt
nth_low rows n (CoercionThen c cs) h zero = h.0
nth_low rows n (CoercionThen c cs) h (suc i) = nth_low rows n cs h.1 i

-- one part of two middles
abbrev pub follow_at : (Coercion → Coercion → Coercion) → Kind → Coercions → Coercions → ℕ → Coercion
follow_at next kind cs ds i = follow_part next (runs_back kind (suc i == count cs)) (nth cs i) (nth ds i)

end_is : (cs : Coercions) → (1 == suc (count cs)) ≡ is_end cs
end_is NoCoercions = refl
end_is (CoercionThen c cs) = grind arith

suc_same : (a b : ℕ) → (suc a == suc b) ≡ (a == b)
suc_same a b = grind arith

pub follow_list : (next : Coercion → Coercion → Coercion) (kind : Kind) (E : ℕ → Coercion) (cs ds : Coercions) (k r : ℕ)
    → r ≡ min (count cs) (count ds) → ((i : ℕ) → i < r → E (k + i) ≡ follow_at next kind cs ds i) → list_of E r k ≡
    follow_parts next kind cs ds
follow_list next kind E NoCoercions ds k r e h = let z : r ≡ 0 = omega arith in ap (λ m. list_of E m k) z
follow_list next kind E (CoercionThen c cs) NoCoercions k r e h = let z : r ≡ 0 = omega arith in ap (λ m. list_of E m k)
    z
follow_list next kind E (CoercionThen c cs) (CoercionThen d ds) k zero e h = absurd (omega arith)
follow_list next kind E (CoercionThen c cs) (CoercionThen d ds) k (suc r) e h =
    let z : k ≡ k + 0 = omega arith in
    ap₂ CoercionThen (ap E z ∙ (h 0 (omega arith) ∙ ap (λ b. follow_part next (runs_back kind b) c d) (end_is cs)))
    (follow_list next kind E cs ds (suc k) r (omega arith) (λ i lt.
    let s : suc k + i ≡ k + suc i = omega arith in
    ap E s ∙ (h (suc i) (omega arith) ∙ ap (λ b. follow_part next (runs_back kind b) (nth cs i) (nth ds i))
    (suc_same (suc i) (count cs)))))
