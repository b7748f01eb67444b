-- The composition of two coercions over the types of a table: by its table, sound, no higher, and what it stands for.
use Rattle.std.proofs.Common.{◌≡◌, ℕ, zero, suc, ◌≤◌, max, Bool, true, false, cond, nat_eq, Option, Some, None, refl}
use Rattle.std.proofs.Common.{arith}
use Rattle.grift_base.specs.Types.{TypeRow, TypeRows, same_head}
use Rattle.type_graph.specs.Trees.{height}
use Rattle.type_graph.specs.TypeTables.{IsOrderedTable}
use Rattle.coercion_norm.specs.Coercions.{Kind, Coercion, Id, Fail, Middle, Inject, Project, all_id, kind_of}
use Rattle.coercion_norm.specs.Coercions.{rows_of, slots}
use Rattle.coercion_norm.specs.Composition.{coerce_below, coerce_middle, coerce_parts, coerce_solid, compose_below}
use Rattle.coercion_norm.specs.Composition.{compose_to, follow}
use Rattle.coercion_norm.specs.CoercionTables.{IsSound, cast_of, composition_of}
use Rattle.coercion_norm.specs.Heights.{AreHeights, NoHigher, coercion_height}
use Rattle.coercion_norm.specs.Paths.{Steps, joined, last_type}
use Rattle.coercion_norm.specs.StandsFor.{StandsFor}
use Rattle.coercion_norm.proofs.HeightLemmas.{CastsKeepHeight, KeepsHeight, coerce_height, coerce_solid_height}
use Rattle.coercion_norm.proofs.HeightLemmas.{compose_height}
use Rattle.coercion_norm.proofs.HeightNumbers.{bound_from_height, height_from_bound, compose_no_higher}
use Rattle.coercion_norm.proofs.NormalLemmas.{compose_normal}
use Rattle.coercion_norm.proofs.EnoughDepth.{SameFollowBelow, compose_enough, same_follow, same_solid}
use Rattle.coercion_norm.proofs.StandingLemmas.{compose_stands_for}
use Rattle.coercion_norm.proofs.TableHeights.{heights_of_a_table}
use Rattle.coercion_norm.proofs.CastLemmas.{below_is_enough}

below_casts : (rows : ℕ → TypeRow) (depth : ℕ) → CastsKeepHeight rows (coerce_below rows depth)
below_casts rows zero n s t p hs ht = tt
below_casts rows (suc depth) n s t p hs ht = coerce_height rows depth n s t p hs ht

below_composed : (rows : ℕ → TypeRow) (depth : ℕ) → KeepsHeight rows (compose_below rows depth)
below_composed rows zero n c d hc hd = tt
below_composed rows (suc depth) n c d hc hd = compose_height rows depth n c d hc hd

module _ (types : TypeRows) (table : IsOrderedTable types) where
  abbrev heights : AreHeights (rows_of types) (height types)
  heights = heights_of_a_table types table.finite table.widths

  bound : (c : Coercion) (n : ℕ) → coercion_height (height types) c ≤ n → NoHigher (rows_of types) c n
  bound c n low = bound_from_height (rows_of types) (height types) heights c n low

  parts_same : (n : ℕ) → SameFollowBelow (rows_of types) n (compose_below (rows_of types) n) (composition_of types)
  parts_same zero = tt
  parts_same (suc n) = λ c d hc hd.
      let lc : coercion_height (height types) c ≤ n =
      height_from_bound (rows_of types) (height types) heights c n hc in
      let ld : coercion_height (height types) d ≤ n =
      height_from_bound (rows_of types) (height types) heights d n hd in
      let most : max (coercion_height (height types) c) (coercion_height (height types) d) ≤ n = omega arith in
      compose_enough (rows_of types) (max (coercion_height (height types) c) (coercion_height (height types) d)) n most
      c d (bound c (max (coercion_height (height types) c) (coercion_height (height types) d)) (omega arith))
      (bound d (max (coercion_height (height types) c) (coercion_height (height types) d)) (omega arith))

  -- the table of composition, with the parts composed by the same function
  pub composition_by_table : (c d : Coercion)
      → composition_of types c d ≡ follow (composition_of types) (coerce_solid (rows_of types) (cast_of types)) c d
  composition_by_table c d = at (max (coercion_height (height types) c) (coercion_height (height types) d))
      (omega arith) (omega arith)
    where
      at : (n : ℕ) → coercion_height (height types) c ≤ n → coercion_height (height types) d ≤ n
          → compose_to (rows_of types) n c d
          ≡ follow (composition_of types) (coerce_solid (rows_of types) (cast_of types)) c d
      at n lc ld =
          same_follow (rows_of types) (compose_below (rows_of types) n) (composition_of types)
          (below_composed (rows_of types) n) (coerce_solid (rows_of types) (coerce_below (rows_of types) n))
          (coerce_solid (rows_of types) (cast_of types))
          (coerce_solid_height (rows_of types) (coerce_below (rows_of types) n) (below_casts (rows_of types) n))
          n (parts_same n)
          (same_solid (rows_of types) (coerce_below (rows_of types) n) (cast_of types) n
          (below_is_enough types table n)) c d (bound c n lc) (bound d n ld)

  pub composition_low : (c d : Coercion) → coercion_height (height types) (composition_of types c d)
      ≤ max (coercion_height (height types) c) (coercion_height (height types) d)
  composition_low c d =
      compose_no_higher (rows_of types) (height types) heights
      (max (coercion_height (height types) c) (coercion_height (height types) d)) c d

  pub composition_sound : (c d : Coercion) → IsSound types c → IsSound types d
      → IsSound types (composition_of types c d)
  composition_sound c d sc sd = record {
    normal = compose_normal (rows_of types)
        (max (coercion_height (height types) c) (coercion_height (height types) d)) c d sc.normal sd.normal;
    low =
        let a = sc.low in
        let b = sd.low in
        let l = composition_low c d in
        omega (arith, a, b, l);
  }

  pub composition_stands : (c d : Coercion) (t u : ℕ) (l m : Steps) → u ≡ last_type t l
      → StandsFor (rows_of types) c t l → StandsFor (rows_of types) d u m
      → StandsFor (rows_of types) (composition_of types c d) t (joined l m)
  composition_stands c d t u l m e sc sd =
      compose_stands_for (rows_of types) (max (coercion_height (height types) c) (coercion_height (height types) d))
      c d t u l m (bound c (max (coercion_height (height types) c) (coercion_height (height types) d)) (omega arith))
      (bound d (max (coercion_height (height types) c) (coercion_height (height types) d)) (omega arith)) e sc sd

-- ---- the coercion of a cast between types that aren't Dyn

-- Id, a fail or a middle
abbrev pub is_inner : Coercion → Bool
is_inner Id = true
is_inner (Fail label) = true
is_inner (Middle kind parts) = true
is_inner (Inject g kept) = false
is_inner (Project wanted label i) = false

module _ (rows : ℕ → TypeRow) (next : ℕ → ℕ → ℕ → Coercion) where
  inner_middle : (o : Option Kind) (from to label : ℕ) → is_inner (coerce_middle rows next o from to label) ≡ true
  inner_middle None from to label = refl
  inner_middle (Some kind) from to label = go (all_id (coerce_parts rows next kind from to label (slots rows from) 0))
    where
      go : (b : Bool)
          → is_inner (cond b Id (Middle kind (coerce_parts rows next kind from to label (slots rows from) 0))) ≡ true
      go true = refl
      go false = refl

  pub solid_is_inner : (from to label : ℕ) → is_inner (coerce_solid rows next from to label) ≡ true
  solid_is_inner from to label = ids (nat_eq from to)
    where
      heads : (b : Bool)
          → is_inner (cond b (coerce_middle rows next (kind_of (rows from)) from to label) (Fail label)) ≡ true
      heads true = inner_middle (kind_of (rows from)) from to label
      heads false = refl

      ids : (b : Bool) → is_inner (cond b Id (cond (same_head (rows from) (rows to))
          (coerce_middle rows next (kind_of (rows from)) from to label) (Fail label))) ≡ true
      ids true = refl
      ids false = heads (same_head (rows from) (rows to))
