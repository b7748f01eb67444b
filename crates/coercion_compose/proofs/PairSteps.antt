-- The pair of two parts: it is there, it is less than the middles, and what is composed of it is the part that follows.
use Rattle.std.proofs.Common.{◌≡◌, ℕ, zero, suc, ◌+◌, ◌*◌, ◌<◌, ◌≤◌, nat_eq, Bool, true, false, refl, sym, ap, ◌∙◌}
use Rattle.std.proofs.Common.{subst}
use Rattle.std.proofs.Common.{arith, List, [], ◌∷◌, length, get_or, All}
use Rattle.std.proofs.lemmas.List.{length-map}
use Rattle.grift_base.specs.Types.{TypeRows}
use Rattle.type_graph.specs.Trees.{height}
use Rattle.coercion_norm.specs.declared.middles.MiddleKind.{MiddleKind as Kind}
use Rattle.coercion_norm.specs.declared.nodes.CoercionId.{CoercionId}
use Rattle.coercion_norm.specs.Coercions.{runs_back}
use Rattle.coercion_norm.specs.Composition.{follow_part}
use Rattle.coercion_norm.specs.CoercionTables.{composition_of}
use Rattle.coercion_norm.specs.Heights.{coercion_height, highest}
use Rattle.coercion_norm.specs.Nodes.{Node, Grows, IsTree, PartsBefore, coercion_places, tree_of, trees}
use Rattle.coercion_norm.proofs.Public.{more_places, part_at, part_no_higher, tree_kept}
use Rattle.coercion_compose.specs.declared.compositions.Pair.{Pair}
use Rattle.coercion_compose.specs.Known.{IsPair, part_pair}
use Rattle.coercion_compose.proofs.BothParts.{both_part, part_of_both}
use Rattle.coercion_compose.proofs.Measures.{high, pair_high, parts_high}

place_at : (parts : List CoercionId) (k : ℕ) (d : CoercionId) → k < length parts
    → (get_or parts k d).0 ≡ get_or (coercion_places parts) k 0
place_at [] k d within = absurd (omega arith)
place_at (part ∷ parts) zero d within = refl
place_at (part ∷ parts) (suc k) d within = place_at parts k d (omega arith)

-- a part of a middle is there, and no higher than the parts are
module _ (types : TypeRows) (old now : List Node) (before : PartsBefore old) (grows : Grows old now) (j : ℕ)
    (parts : List CoercionId) (within : j < length parts)
    (there : All (λ part. part < length old) (coercion_places parts)) (d : CoercionId) where
  part_old : (get_or parts j d).0 < length old
  part_old = part_at (λ part. part < length old) parts j d within there

  part_low : high types now (get_or parts j d).0 ≤ highest (height types) (trees (tree_of old) (coercion_places parts))
  part_low =
      let many : length (coercion_places parts) ≡ length parts = length-map parts (λ (x : CoercionId). x.0) in
      let low = part_no_higher (tree_of old) (height types) (coercion_places parts) j 0 (omega (arith, many)) in
      subst (λ n. n ≤ highest (height types) (trees (tree_of old) (coercion_places parts)))
      (sym (ap (coercion_height (height types)) (tree_kept old now before grows (get_or parts j d).0 part_old
      ∙ ap (tree_of old) (place_at parts j d within)))) low

module _ (types : TypeRows) (old now : List Node) (before : PartsBefore old) (grows : Grows old now)
    (firsts seconds : List CoercionId) (j : ℕ) (first_in : j < length firsts) (second_in : j < length seconds)
    (firsts_there : All (λ part. part < length old) (coercion_places firsts))
    (seconds_there : All (λ part. part < length old) (coercion_places seconds)) (d e : CoercionId) where
  abbrev first : CoercionId
  first = get_or firsts j d

  abbrev second : CoercionId
  second = get_or seconds j e

  first_old : first.0 < length old
  first_old = part_old types old now before grows j firsts first_in firsts_there d

  second_old : second.0 < length old
  second_old = part_old types old now before grows j seconds second_in seconds_there e

  pub pair_there : (back : Bool) (pair : Pair) → pair ≡ part_pair back first second → IsPair now pair
  pair_there back pair is = subst (IsPair now) (sym is) (by back)
    where
      by : (b : Bool) → IsPair now (part_pair b first second)
      by true =
          let more = more_places old now grows in
          let l = first_old in
          let m = second_old in
          record { first_there = omega (arith, more, m); second_there = omega (arith, more, l) }
      by false =
          let more = more_places old now grows in
          let l = first_old in
          let m = second_old in
          record { first_there = omega (arith, more, l); second_there = omega (arith, more, m) }

  first_low : high types now first.0 ≤ highest (height types) (trees (tree_of old) (coercion_places firsts))
  first_low = part_low types old now before grows j firsts first_in firsts_there d

  second_low : high types now second.0 ≤ highest (height types) (trees (tree_of old) (coercion_places seconds))
  second_low = part_low types old now before grows j seconds second_in seconds_there e

  pub pair_falls : (back : Bool) (pair : Pair) → pair ≡ part_pair back first second
      → 137438953472 * pair_high types now pair.first.0 pair.second.0 + 68719476736
      < 137438953472 * parts_high types old (coercion_places firsts) (coercion_places seconds) + 1
  pair_falls back pair is =
      subst (λ (p : Pair). 137438953472 * pair_high types now p.first.0 p.second.0 + 68719476736
      < 137438953472 * parts_high types old (coercion_places firsts) (coercion_places seconds) + 1) (sym is) (by back)
    where
      by : (b : Bool) → 137438953472 * pair_high types now (part_pair b first second).first.0
          (part_pair b first second).second.0 + 68719476736
          < 137438953472 * parts_high types old (coercion_places firsts) (coercion_places seconds) + 1
      by true = let l = first_low in let m = second_low in omega (arith, l, m)
      by false = let l = first_low in let m = second_low in omega (arith, l, m)

  pub pair_made : (kind : Kind) (width : ℕ) (back : Bool) (pair : Pair) (new : List Node) (place : ℕ)
      → back ≡ runs_back kind (nat_eq (j + 1) width) → pair ≡ part_pair back first second
      → IsTree new place (composition_of types (tree_of now pair.first.0) (tree_of now pair.second.0))
      → IsTree new place (part_of_both (composition_of types) kind (tree_of old) (coercion_places firsts)
      (coercion_places seconds) width j)
  pair_made kind width back pair new place is_back is made =
      both_part (composition_of types) kind old now new (coercion_places firsts) (coercion_places seconds) width j place
      first.0 second.0 back before grows is_back (place_at firsts j d first_in) (place_at seconds j e second_in)
      (subst (λ n. n < length old) (place_at firsts j d first_in) first_old)
      (subst (λ n. n < length old) (place_at seconds j e second_in) second_old)
      (by back (subst (λ (p : Pair). IsTree new place (composition_of types (tree_of now p.first.0)
      (tree_of now p.second.0))) is made))
    where
      by : (b : Bool) → IsTree new place (composition_of types (tree_of now (part_pair b first second).first.0)
          (tree_of now (part_pair b first second).second.0))
          → IsTree new place (follow_part (composition_of types) b (tree_of now first.0) (tree_of now second.0))
      by true h = h
      by false h = h
