-- Normal forms of coercions.
use Rattle.std.specs.Prelude.{◌≡◌, ℕ, Bool, true, false}
use Rattle.grift_base.specs.Types.{TypeRow, is_dyn}
use Rattle.coercion_norm.specs.Coercions.{Coercion, Coercions, Id, Fail, Middle, Inject, Project, NoCoercions}
use Rattle.coercion_norm.specs.Coercions.{CoercionThen, all_id}

-- Id or a middle
abbrev pub is_flat : Coercion → Bool
is_flat Id = true
is_flat (Middle kind parts) = true
is_flat _ = false

abbrev pub is_project : Coercion → Bool
is_project (Project wanted label i) = true
is_project _ = false

module _ (rows : ℕ → TypeRow) where
  abbrev mutual
    pub IsNormal : Coercion → Type 0
    IsNormal Id = Unit {0}
    IsNormal (Fail label) = Unit {0}
    IsNormal (Middle kind parts) = (all_id parts ≡ false) × AreNormal parts
    IsNormal (Inject g kept) = (is_flat g ≡ true) × IsNormal g × (is_dyn (rows kept) ≡ false)
    IsNormal (Project wanted label i) = (is_dyn (rows wanted) ≡ false) × (is_project i ≡ false) × IsNormal i

    pub AreNormal : Coercions → Type 0
    AreNormal NoCoercions = Unit {0}
    AreNormal (CoercionThen c rest) = IsNormal c × AreNormal rest
