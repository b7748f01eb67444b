-- What a part of a value comes to, in the merged mode.
use Rattle.std.specs.Prelude.{ℕ, pos, List, Option, Some, None, slice_get}
use Rattle.grift_base.specs.Types.{TypeHead, TypeRows, row_at}
use Rattle.coercion_norm.specs.Coercions.{Coercion}
use Rattle.coercion_norm.specs.CoercionTables.{cast_of}
use Rattle.cast_modes.specs.Modes.{DynPart, PartCast, NoPart, NoType, kept_part}
use Rattle.coercion_norm.specs.MergedMode.{tuple_coercion}
use Rattle.rt_cast.specs.MergedValues.{Merged, Base, Solid, Proxied, InDyn, Outcome, Stuck, Gives, Blames, then_outcome}
use Rattle.rt_cast.specs.MergedValues.{cast_value}

-- goes on with what is there
abbrev pub with_some : {A B : Type 0} → Option B → (B → Outcome A) → Outcome A
with_some None go = Stuck
with_some (Some b) go = go b

-- told the head of the type of what stands under proxies, and the parts of each tuple there
module _ {A : Type 0} (head : A → TypeHead) (parts : A → List (Merged A)) (types : TypeRows) where
  -- a part of a tuple, cast by its proxy's coercion where it has a proxy
  abbrev pub part_value : ℕ → Merged A → Outcome A
  part_value k (Base h word) = Stuck
  part_value k (Solid a) = with_some (slice_get (parts a) k) (λ x. Gives x)
  part_value k (Proxied a c) =
      with_some (tuple_coercion c (pos k)) (λ d. with_some (slice_get (parts a) k) (λ x. cast_value head types d x))
  part_value k (InDyn kept u) = Stuck

  -- a part of what is in Dyn, cast to Dyn; the label is blamed where the kept type has no such part
  abbrev pub dyn_part_by : DynPart Coercion → ℕ → ℕ → Merged A → Outcome A
  dyn_part_by (PartCast c) k label u = then_outcome (part_value k u) (cast_value head types c)
  dyn_part_by NoPart k label u = Blames label
  dyn_part_by NoType k label u = Stuck

  abbrev pub dyn_part_value : ℕ → ℕ → Merged A → Outcome A
  dyn_part_value k label (Base h word) = Stuck
  dyn_part_value k label (Solid a) = Stuck
  dyn_part_value k label (Proxied a c) = Stuck
  dyn_part_value k label (InDyn kept u) =
      dyn_part_by (kept_part (λ from p to. cast_of types from to p) types (row_at types kept) (pos k) label) k label u
