-- The entries of a map that keeps its order, whose keys are seen as other data: what stands at a place, that no key
-- stands twice, and where a new one goes.
use Rattle.std.proofs.Common.{◌≡◌, ℕ, zero, suc, ◌<◌, Bool, true, false, List, [], ◌∷◌, ◌++◌, length, map, get_or}
use Rattle.std.proofs.Common.{Option, Some, None, refl, sym, ap, ◌∙◌, subst, arith, slice_get, position, Decides}
use Rattle.std.specs.Prelude.{Contains, option_map, is_some, cond}
use Rattle.std.specs.List.{IsDistinct}
use Rattle.std.specs.Map.{keys_of, values_of, lookup}
use Rattle.std.proofs.lemmas.List.{map-append, length-map}
use Rattle.std.proofs.lemmas.List.Quantifiers.{position-Some}
use Rattle.std.proofs.lemmas.Option.{slice_get-get_or, slice_get-map}
use Rattle.indexmap.specs.IndexMap.{insert_entry}
use Rattle.grift_base.specs.Tables.{HasNoRepeats}
use Rattle.grift_base.proofs.Public.{HasNoRepeats-from_IsDistinct}
use Rattle.type_graph.proofs.Places.{none_is_not_some, same_some, contained, slice_get_at}

-- ---- what stands at a place

module _ {K M : Type 0} where
  pub value_of_entry : (es : List (K × M)) (k : ℕ) (e : K × M) → slice_get es k ≡ Some e →
      slice_get (values_of es) k ≡ Some e.1
  value_of_entry es k e at = slice_get-map (λ (x : K × M). x.1) es k ∙ ap (option_map (λ (x : K × M). x.1)) at

  pub length-values_of : (es : List (K × M)) → length (values_of es) ≡ length es
  length-values_of es = length-map es (λ (x : K × M). x.1)

  pub values_of-push : (es : List (K × M)) (key : K) (m : M) → values_of (es ++ (key, m) ∷ []) ≡ values_of es ++ m ∷ []
  values_of-push es key m = map-append (λ (x : K × M). x.1) es ((key, m) ∷ [])

-- the keys of entries, as they are seen
abbrev pub seen_keys : {K M V : Type 0} → (K → V) → List (K × M) → List V
seen_keys view es = map view (keys_of es)

module _ {K M V : Type 0} (view : K → V) where
  pub key_of_entry : (es : List (K × M)) (k : ℕ) (e : K × M) → slice_get es k ≡ Some e →
      slice_get (seen_keys view es) k ≡ Some (view e.0)
  key_of_entry es k e at =
      slice_get-map view (keys_of es) k
      ∙ ap (option_map view) (slice_get-map (λ (x : K × M). x.0) es k)
      ∙ ap (λ o. option_map view (option_map (λ (x : K × M). x.0) o)) at

  pub length-seen_keys : (es : List (K × M)) → length (seen_keys view es) ≡ length es
  length-seen_keys es = length-map (keys_of es) view ∙ length-map es (λ (x : K × M). x.0)

  pub seen_keys-push : (es : List (K × M)) (key : K) (m : M) →
      seen_keys view (es ++ (key, m) ∷ []) ≡ seen_keys view es ++ view key ∷ []
  seen_keys-push es key m =
      ap (map view) (map-append (λ (x : K × M). x.0) es ((key, m) ∷ []))
      ∙ map-append view (keys_of es) (key ∷ [])

-- ---- no key stands twice

module _ {K V : Type 0} (view : K → V) (one : (x y : K) → view x ≡ view y → x ≡ y) where
  some_seen : (x : K) (o : Option K) → Some (view x) ≡ option_map view o → o ≡ Some x
  some_seen x (Some y) e = ap Some (sym (one x y (same_some (view x) (view y) e)))
  some_seen x None e = absurd (none_is_not_some (view x) (sym e))

  HasNoRepeats-seen : (keys : List K) → HasNoRepeats keys → HasNoRepeats (map view keys)
  HasNoRepeats-seen keys apart i j within e = by_key (slice_get_at keys i inside)
    where
      inside : i < length keys
      inside = let l = length-map keys view in omega arith

      by_key : (x : K) × (slice_get keys i ≡ Some x) → i ≡ j
      by_key found =
          let left : slice_get (map view keys) i ≡ Some (view found.0) =
          slice_get-map view keys i ∙ ap (option_map view) found.1 in
          let right : Some (view found.0) ≡ option_map view (slice_get keys j) =
          sym left ∙ e ∙ slice_get-map view keys j in
          apart i j inside (found.1 ∙ sym (some_seen found.0 (slice_get keys j) right))

-- Where the map's test tells whether two keys are the same, and no two keys are seen as one:
module _ {K M V : Type 0} {eq : K → K → Bool} (same : (x y : K) → Decides (eq x y) (x ≡ y)) (view : K → V)
    (one : (x y : K) → view x ≡ view y → x ≡ y) where
  pub seen_keys_have_no_repeats : (es : List (K × M)) → IsDistinct eq (keys_of es) → HasNoRepeats (seen_keys view es)
  seen_keys_have_no_repeats es distinct =
      HasNoRepeats-seen view one (keys_of es) (HasNoRepeats-from_IsDistinct same (keys_of es) distinct)

  -- ---- a key that is looked up

  pub found_key : (es : List (K × M)) (key : K) (i : ℕ) → Some i ≡ position (eq key) (keys_of es) →
      slice_get (seen_keys view es) i ≡ Some (view key)
  found_key es key i e =
      let p = position-Some (eq key) (keys_of es) i key (sym e) in
      let found : key ≡ get_or (keys_of es) i key = (same key (get_or (keys_of es) i key)).0 p.1 in
      slice_get-map view (keys_of es) i
      ∙ ap (option_map view) (slice_get-get_or (keys_of es) i key p.0)
      ∙ ap (λ r. Some (view r)) (sym found)

  missing_from : (key : K) (e : K × M) (es : List (K × M)) (now : Bool) → eq key e.0 ≡ now →
      is_some (cond now (Some e.1) (lookup (eq key) es)) ≡ false →
      (is_some (lookup (eq key) es) ≡ false → (j : ℕ) → slice_get (seen_keys view es) j ≡ Some (view key) → ⊥) →
      (k : ℕ) → slice_get (seen_keys view (e ∷ es)) k ≡ Some (view key) → ⊥
  missing_from key e es true test none later k at = cc
  missing_from key e es false test none later zero at =
      let found : e.0 ≡ key = one e.0 key (same_some (view e.0) (view key) at) in
      let passes : eq key e.0 ≡ true = (same key e.0).1 (sym found) in
      cc
  missing_from key e es false test none later (suc j) at = later none j at

  not_looked_up : (key : K) (es : List (K × M)) → is_some (lookup (eq key) es) ≡ false → (k : ℕ) →
      slice_get (seen_keys view es) k ≡ Some (view key) → ⊥
  not_looked_up key [] none k at = none_is_not_some (view key) at
  not_looked_up key (e ∷ es) none k at =
      missing_from key e es (eq key e.0) refl none (λ fewer j there. not_looked_up key es fewer j there) k at

  pub absent_key : (es : List (K × M)) (key : K) → is_some (lookup (eq key) es) ≡ false →
      ¬ Contains (seen_keys view es) (view key)
  absent_key es key none there =
      not_looked_up key es none there.0
      (slice_get-get_or (seen_keys view es) there.0 (view key) there.1 ∙ ap Some there.2)

  -- ---- a key that is put in

  inserted_from : (key : K) (m : M) (e : K × M) (es : List (K × M)) (now : Bool) → eq key e.0 ≡ now →
      (¬ Contains (seen_keys view (e ∷ es)) (view key)) → insert_entry eq es key m ≡ es ++ (key, m) ∷ [] →
      cond now ((e.0, m) ∷ es) (e ∷ insert_entry eq es key m) ≡ e ∷ (es ++ (key, m) ∷ [])
  inserted_from key m e es true test absent later =
      let found : key ≡ e.0 = (same key e.0).0 test in
      absurd (absent (contained (seen_keys view (e ∷ es)) (view key) 0 (ap (λ r. Some (view r)) (sym found))))
  inserted_from key m e es false test absent later = ap (λ l. e ∷ l) later

  -- a key that is not there goes last
  pub insert_entry-absent : (es : List (K × M)) (key : K) (m : M) → (¬ Contains (seen_keys view es) (view key)) →
      insert_entry eq es key m ≡ es ++ (key, m) ∷ []
  insert_entry-absent [] key m absent = refl
  insert_entry-absent (e ∷ es) key m absent =
      inserted_from key m e es (eq key e.0) refl absent
      (insert_entry-absent es key m (λ there. absent (contained (seen_keys view (e ∷ es)) (view key) (suc there.0)
      (slice_get-get_or (seen_keys view es) there.0 (view key) there.1 ∙ ap Some there.2))))

-- ---- entries that all have a fact

module _ {K V : Type 0} {eq : K → K → Bool} (same : (x y : K) → eq x y ≡ true → x ≡ y) (P : K → V → Type 0) where
  one_entry : (key k : K) (value v : V) (o : Option V) (b : Bool) → eq key k ≡ b → P key value →
      (o ≡ Some v → P k v) → cond b (Some value) o ≡ Some v → P k v
  one_entry key k value v o true test one known e =
      subst (P k) (same_some value v e) (subst (λ x. P x value) (same key k test) one)
  one_entry key k value v o false test one known e = known e

  -- so they are where one more is put in that has it
  pub each_entry-insert : (old new : K → Option V) (key : K) (value : V) →
      ((k : K) (v : V) → old k ≡ Some v → P k v) → P key value →
      ((k : K) → new k ≡ cond (eq key k) (Some value) (old k)) → (k : K) (v : V) → new k ≡ Some v → P k v
  each_entry-insert old new key value known one updates k v e =
      one_entry key k value v (old k) (eq key k) refl one (known k v) (sym (updates k) ∙ e)
