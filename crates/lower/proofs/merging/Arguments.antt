-- Arguments of calls through proxies: their casts, what is like their values, and the words that are handed on.
use Rattle.std.proofs.Common.{◌≡◌, ◌⊎◌, inl, inr, ℕ, suc, ◌+◌, ◌*◌, List, [], ◌∷◌, ◌++◌, length, Some, None}
use Rattle.std.proofs.Common.{Option, refl, sym, ap, ◌∙◌, subst, slice_get, append_assoc}
use Rattle.std.specs.Prelude.{option_map}
use Rattle.grift_base.specs.Types.{TypeRow}
use Rattle.low_ir.specs.Run.{Setting}
use Rattle.coercion_norm.specs.Coercions.{Coercion, Coercions, Id, Fail, Middle, Inject, Project, NoCoercions}
use Rattle.coercion_norm.specs.Coercions.{CoercionThen, rows_of}
use Rattle.coercion_norm.specs.declared.middles.MiddleKind.TheVariants.{Fun, Tup, Ref, Vec}
use Rattle.coercion_norm.specs.Held.{Layout, There}
use Rattle.coercion_norm.specs.MergedMode.{function_parts, split_parts}
use Rattle.coercion_norm.specs.Normal.{IsNormal, AreNormal}
use Rattle.coercion_norm.specs.Objects.{Object, Fixed}
use Rattle.cast_modes.specs.RunValues.{RunInt, RunBool, RunUnit, RunFun, RunTuple, RunLoc, RunWrap, RunInject}
use Rattle.cast_modes.specs.RunValues.{Pending}
use Rattle.cast_modes.specs.RunValues.{all_plain, in_row}
use Rattle.cast_modes.specs.ValueSteps.{onto}
use Rattle.cast_modes.specs.ValueSteps.{cast_all}
use Rattle.flat_ir.specs.Bodies.{Proc}
use Rattle.flat_ir.specs.Machine.{FlatCode, FlatValue}
use Rattle.rt_cast.specs.Carried.{IsVery}
use Rattle.rt_cast.specs.Carried.{AreCarried as RtCarried}
use Rattle.rt_cast.specs.MergedValues.{Merged, Solid}
use Rattle.rt_cast.specs.States.{Placed, Heap}
use Rattle.rt_refs.specs.Arguments.{handed, word_or_zero}
use Rattle.lower.specs.CarriedValues.{AreCarried}
use Rattle.lowered_code.specs.Emit.{cast_word}
use Rattle.lower.specs.MergedMeaning.{merged_meaning, WrapsKind}
use Rattle.lower.specs.SchemeLaws.{at_or_zero}
use Rattle.lower.specs.Storage.{Filled}
use Rattle.lower.proofs.heap.CarriedLater.{function_there}
use Rattle.lower.proofs.heap.Objects.{none_some, same_some, closure_header}
use Rattle.lower.proofs.merging.MeaningLaws.{merged_laws}
use Rattle.lower.proofs.merging.Like.{Like, like_of, like_back}

-- ---- the casts of a function's coercion

abbrev pub AllNormal : (ℕ → TypeRow) → List Coercion → Type 0
AllNormal rows [] = Unit {0}
AllNormal rows (d ∷ ds) = IsNormal rows d × AllNormal rows ds

mapped : {A B : Type 0} (f : A → B) (o : Option A) (b : B) → option_map f o ≡ Some b
    → (a : A) × (o ≡ Some a) × (f a ≡ b)
mapped f None b e = none_some e
mapped f (Some a) b e = (a, refl, same_some (f a) b e)

parts_normal : (rows : ℕ → TypeRow) (parts : Coercions) (ds : List Coercion) (e : Coercion) → AreNormal rows parts
    → split_parts parts ≡ Some (ds, e) → AllNormal rows ds
parts_normal rows NoCoercions ds e n h = none_some h
parts_normal rows (CoercionThen c NoCoercions) ds e n h =
    let p : List Coercion × Coercion = ([], c) in
    let q : List Coercion × Coercion = (ds, e) in
    subst (λ z. AllNormal rows z.0) (same_some p q h) tt
parts_normal rows (CoercionThen c (CoercionThen d rest)) ds e n h =
    let m = mapped (λ parts. (c ∷ parts.0, parts.1)) (split_parts (CoercionThen d rest)) (ds, e) h in
    subst (λ p. AllNormal rows p.0) m.2 (n.0, parts_normal rows (CoercionThen d rest) m.0.0 m.0.1 n.1 m.1)

-- it wraps a function, and its parts are in normal form
pub of_function : (l : Layout) (objects : List Object) (a : ℕ) (c : Coercion) (ds : List Coercion) (e : Coercion)
    → function_parts c ≡ Some (ds, e) → IsNormal (rows_of l.types) c → WrapsKind l objects c a
    → AllNormal (rows_of l.types) ds
    × (code : ℕ) × (rest : List ℕ) × There l objects a (Fixed (closure_header (suc (length rest))) (code ∷ rest))
of_function l objects a (Middle Fun parts) ds e split n f =
    (parts_normal (rows_of l.types) parts ds e n.1 split, f.0, f.1, f.2)
of_function l objects a (Middle Tup parts) ds e split n f = none_some split
of_function l objects a (Middle Ref parts) ds e split n f = none_some split
of_function l objects a (Middle Vec parts) ds e split n f = none_some split
of_function l objects a Id ds e split n f = none_some split
of_function l objects a (Fail label) ds e split n f = none_some split
of_function l objects a (Inject g kept) ds e split n f = none_some split
of_function l objects a (Project wanted label i) ds e split n f = none_some split

-- ---- arguments with one cast each

abbrev pub pendings : List (FlatValue Coercion) → List Coercion → List (Pending Coercion FlatCode)
pendings [] ds = []
pendings (v ∷ vs) [] = []
pendings (v ∷ vs) (d ∷ ds) = record { value = v; casts = d ∷ [] } ∷ pendings vs ds

pub all_cast : (vs : List (FlatValue Coercion)) (ds : List Coercion)
    → (cast_all (all_plain vs) ds ≡ None)
    ⊎ ((cast_all (all_plain vs) ds ≡ Some (pendings vs ds)) × (length ds ≡ length vs))
all_cast [] [] = inr (refl, refl)
all_cast [] (d ∷ ds) = inl refl
all_cast (v ∷ vs) [] = inl refl
all_cast (v ∷ vs) (d ∷ ds) = by_rest (all_cast vs ds)
  where
    by_rest : (cast_all (all_plain vs) ds ≡ None)
        ⊎ ((cast_all (all_plain vs) ds ≡ Some (pendings vs ds)) × (length ds ≡ length vs))
        → (cast_all (all_plain (v ∷ vs)) (d ∷ ds) ≡ None)
        ⊎ ((cast_all (all_plain (v ∷ vs)) (d ∷ ds) ≡ Some (pendings (v ∷ vs) (d ∷ ds)))
        × (length (d ∷ ds) ≡ length (v ∷ vs)))
    by_rest (inl e) = inl (ap (option_map (λ rest. record { value = v; casts = d ∷ [] } ∷ rest)) e)
    by_rest (inr e) = inr (ap (option_map (λ rest. record { value = v; casts = d ∷ [] } ∷ rest)) e.0, ap suc e.1)

-- what is put in front of others stands in front of none, before them
pub onto_before : (pre xs : List (Merged ℕ)) → onto pre xs ≡ onto pre [] ++ xs
onto_before [] xs = refl
onto_before (x ∷ pre) xs =
    onto_before pre (x ∷ xs) ∙ (sym (append_assoc (onto pre []) (x ∷ []) xs)
    ∙ ap (λ ys. ys ++ xs) (sym (onto_before pre (x ∷ []))))

-- the words that are handed on, told in two ways
pub handed_is : (w : ℕ) (ws : List ℕ)
    → handed w ws
    ≡ (w ∷ at_or_zero ws 0 ∷ at_or_zero ws 1 ∷ at_or_zero ws 2 ∷ at_or_zero ws 3 ∷ at_or_zero ws 4 ∷ at_or_zero ws 5
    ∷ length ws ∷ [])
handed_is w ws =
    let a = word_is (slice_get ws 0) in
    let b = word_is (slice_get ws 1) in
    let c = word_is (slice_get ws 2) in
    let d = word_is (slice_get ws 3) in
    let e = word_is (slice_get ws 4) in
    let f = word_is (slice_get ws 5) in
    rw (a, b, c, d, e, f) refl
  where
    word_is : (o : Option ℕ) → word_or_zero o ≡ cast_word o
    word_is None = refl
    word_is (Some w) = refl

-- ---- values and what is like them

module _ (setting : Setting) (l : Layout) (procs : List Proc) (places : List ℕ) (objects : List Object) where
  abbrev pub AllLike : List (FlatValue Coercion) → List (Merged ℕ) → Type 0
  AllLike [] [] = Unit {0}
  AllLike [] (m ∷ ms) = ⊥
  AllLike (v ∷ vs) [] = ⊥
  AllLike (v ∷ vs) (m ∷ ms) = Like setting l procs places objects v m × AllLike vs ms

  pub onto_like : (done : List (FlatValue Coercion)) (pre : List (Merged ℕ)) (vs : List (FlatValue Coercion))
      (ms : List (Merged ℕ)) → AllLike done pre → AllLike vs ms → AllLike (onto done vs) (onto pre ms)
  onto_like [] [] vs ms a b = b
  onto_like [] (m ∷ pre) vs ms a b = absurd a
  onto_like (v ∷ done) [] vs ms a b = absurd a
  onto_like (v ∷ done) (m ∷ pre) vs ms a b = onto_like done pre (v ∷ vs) (m ∷ ms) a.1 (a.0, b)

  pub all_back : (more : List Object) (vs : List (FlatValue Coercion)) (ms : List (Merged ℕ)) (ws : List ℕ)
      → AllLike vs ms → RtCarried l (IsVery l) (objects ++ more) ms ws
      → AreCarried l setting.address procs merged_meaning places (objects ++ more) (in_row vs) ws
  all_back more [] [] [] k c = tt
  all_back more [] [] (w ∷ ws) k c = absurd c
  all_back more [] (m ∷ ms) ws k c = absurd k
  all_back more (v ∷ vs) [] ws k c = absurd k
  all_back more (v ∷ vs) (m ∷ ms) [] k c = absurd c
  all_back more (v ∷ vs) (m ∷ ms) (w ∷ ws) k c =
      (like_back setting l procs places objects more v m k.0 w c.0, all_back more vs ms ws k.1 c.1)

  -- a bare function has this code address
  abbrev pub CodeAt : FlatValue Coercion → ℕ → Type 0
  CodeAt (RunFun code captured) address = address ≡ setting.address (code.first + code.place)
  CodeAt f address = Unit {0}

  module _ (placed : Placed setting l) {number : ℕ} (h : Heap)
      (filled : Filled merged_meaning setting l number objects h) where
    pub all_like : (vs : List (FlatValue Coercion)) (ws : List ℕ)
        → AreCarried l setting.address procs merged_meaning places objects (in_row vs) ws
        → (ms : List (Merged ℕ)) × AllLike vs ms × RtCarried l (IsVery l) objects ms ws × (length ms ≡ length vs)
    all_like [] [] c = ([], tt, tt, refl)
    all_like [] (w ∷ ws) c = absurd c
    all_like (v ∷ vs) [] c = absurd c
    all_like (v ∷ vs) (w ∷ ws) c =
        let a = like_of setting l procs places objects placed h filled v w c.0 in
        let r = all_like vs ws c.1 in
        (a.0 ∷ r.0, (a.1, r.1), (a.2, r.2), ap suc r.3)

    -- what is called, told that some function stands there
    pub called : (f : FlatValue Coercion) (a : ℕ) → Like setting l procs places objects f (Solid a)
        → (code : ℕ) (rest : List ℕ) → There l objects a (Fixed (closure_header (suc (length rest))) (code ∷ rest))
        → (head address : ℕ) × (words : List ℕ) × There l objects a (Fixed head (address ∷ words)) × CodeAt f address
    called (RunFun code captured) a k other rest there =
        let c = k.2 in
        let z = function_there l setting.address procs merged_meaning merged_laws places objects setting placed h filled
        code.first c.0 c.1 code.place c.2 c.4 c.5 in (
          1 + 4294967296 * suc (length z.0),
          setting.address (code.first + code.place),
          z.0,
          subst (λ n. There l objects n (Fixed (1 + 4294967296 * suc (length z.0))
              (setting.address (code.first + code.place) ∷ z.0))) (sym (solid_same a k.0 k.1 ∙ c.3)) z.1,
          refl,
        )
      where
        solid_same : (x y : ℕ) → Solid x ≡ Solid y → x ≡ y
        solid_same x y e = cc
    called (RunTuple values) a k code rest there = (closure_header (suc (length rest)), code, rest, there, tt)
    called (RunLoc cell is_vector) a k code rest there = (closure_header (suc (length rest)), code, rest, there, tt)
    called (RunInt n) a k code rest there = (closure_header (suc (length rest)), code, rest, there, tt)
    called (RunBool b) a k code rest there = (closure_header (suc (length rest)), code, rest, there, tt)
    called RunUnit a k code rest there = (closure_header (suc (length rest)), code, rest, there, tt)
    called (RunWrap v c) a k code rest there = (closure_header (suc (length rest)), code, rest, there, tt)
    called (RunInject v kept) a k code rest there = (closure_header (suc (length rest)), code, rest, there, tt)
