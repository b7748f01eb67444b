-- What a coercion stands for.
use Rattle.std.specs.Prelude.{◌≡◌, ℕ, zero, suc, Bool, true, false, Option, Some, None, ◌⊎◌}
use Rattle.grift_base.specs.Types.{TypeRow, is_dyn}
use Rattle.coercion_norm.specs.Coercions.{Kind, Coercion, Coercions, Id, Fail, Middle, Inject, Project, NoCoercions}
use Rattle.coercion_norm.specs.Coercions.{CoercionThen, all_id, runs_back, kind_of, slot, slots}
use Rattle.coercion_norm.specs.Paths.{Steps, Stop, Edge, last_type, turned, along, solid, first_clash}

abbrev pub is_none_left : ℕ → Bool
is_none_left zero = true
is_none_left (suc n) = false

-- a middle with these parts, or Id where they are all Id
abbrev pub IsMiddle : Kind → Coercions → Coercion → Type 0
IsMiddle kind parts g = (g ≡ Middle kind parts) ⊎ ((g ≡ Id) × (all_id parts ≡ true))

module _ (rows : ℕ → TypeRow) where
  -- one depth, over what holds of the parts at the depth before
  module _ (Agrees : Coercion → ℕ → Steps → Type 0) where
    -- a part against the path of slot j
    abbrev pub PartAgrees : Bool → Coercion → ℕ → ℕ → Steps → Type 0
    PartAgrees false c j type steps = Agrees c (slot rows j type) (along (slot rows j) steps)
    PartAgrees true c j type steps =
        Agrees c (slot rows j (last_type type steps)) (along (slot rows j) (turned type steps Stop))

    -- the parts against the paths of the slots from j on, of which n are left
    abbrev pub PartsAgree : Kind → Coercions → ℕ → ℕ → ℕ → Steps → Type 0
    PartsAgree kind NoCoercions zero j type steps = Unit {0}
    PartsAgree kind NoCoercions (suc n) j type steps = ⊥
    PartsAgree kind (CoercionThen c rest) zero j type steps = ⊥
    PartsAgree kind (CoercionThen c rest) (suc n) j type steps =
        PartAgrees (runs_back kind (is_none_left n)) c j type steps × PartsAgree kind rest n (suc j) type steps

    -- Id at base types, else a middle
    abbrev pub MiddleIf : Option Kind → ℕ → Coercion → ℕ → Steps → Type 0
    MiddleIf None n g type steps = g ≡ Id
    MiddleIf (Some kind) n g type steps =
        (parts : Coercions) × PartsAgree kind parts n 0 type steps × IsMiddle kind parts g

    abbrev pub MiddleAgrees : Coercion → ℕ → Steps → Type 0
    MiddleAgrees g type steps = MiddleIf (kind_of (rows type)) (slots rows type) g type steps

    -- by the first clash, and by whether the path ends with Dyn
    abbrev pub FinalIf : Option ℕ → Bool → Coercion → ℕ → Steps → Type 0
    FinalIf (Some label) to_dyn c type steps = c ≡ Fail label
    FinalIf None true c type steps = (g : Coercion) × (c ≡ Inject g (last_type type steps)) × MiddleAgrees g type steps
    FinalIf None false c type steps = MiddleAgrees c type steps

    abbrev pub FinalAgrees : Bool → Coercion → ℕ → Steps → Type 0
    FinalAgrees to_dyn c type steps = FinalIf (first_clash rows type steps) to_dyn c type steps

    -- by whether the path begins with Dyn, and whether it ends with it; the steps are without Dyn
    abbrev pub WholeIf : Bool → Bool → Coercion → ℕ → Steps → Type 0
    WholeIf true to_dyn c type Stop = c ≡ Id
    WholeIf true to_dyn c type (Edge label next steps) =
        (i : Coercion) × (c ≡ Project next label i) × FinalAgrees to_dyn i next steps
    WholeIf false to_dyn c type steps = FinalAgrees to_dyn c type steps

    abbrev pub WholeAgrees : Coercion → ℕ → Steps → Type 0
    WholeAgrees c type steps =
        WholeIf (is_dyn (rows type)) (is_dyn (rows (last_type type steps))) c type (solid rows steps)

  -- a coercion agrees with a path to a depth
  abbrev pub AgreesTo : ℕ → Coercion → ℕ → Steps → Type 0
  AgreesTo zero c type steps = Unit {0}
  AgreesTo (suc depth) c type steps = WholeAgrees (AgreesTo depth) c type steps

  abbrev pub StandsFor : Coercion → ℕ → Steps → Type 0
  StandsFor c type steps = (depth : ℕ) → AgreesTo depth c type steps
