-- Values as the procedures of the merged mode see them, and the words that carry them.
use Rattle.std.proofs.Common.{◌≡◌, inl, inr, ℕ, zero, suc, ◌+◌, ◌*◌, ◌^◌, ◌<◌, ◌≤◌, List, [], ◌∷◌, ◌++◌, length}
use Rattle.std.proofs.Common.{Some, None}
use Rattle.std.proofs.Common.{Bool, true, false, Option, refl, sym, ap, ◌∙◌, subst, arith, slice_get}
use Rattle.std.specs.Prelude.{if◌then◌else◌}
use Rattle.std.specs.Int.{w64, cast_unsigned, int_wrap}
use Rattle.grift_base.specs.Types.{TypeHead, IntHead, BoolHead, UnitHead, is_dyn}
use Rattle.object_layout.specs.declared.kinds.Kind.{Kind as ObjectKind}
use Rattle.object_layout.specs.Kinds.{kind_number as number_of, is_free}
use Rattle.object_layout.specs.declared.kinds.Kind.TheVariants.{Closure, Tuple as TupleKind, Boxed, Vector}
use Rattle.low_ir.specs.Run.{Setting}
use Rattle.coercion_norm.specs.Coercions.{Coercion, rows_of}
use Rattle.coercion_norm.specs.Normal.{IsNormal}
use Rattle.cast_modes.specs.RunValues.{RunInt, RunBool, RunUnit, RunFun, RunTuple, RunLoc, RunWrap, RunInject}
use Rattle.cast_modes.specs.RunValues.{shape_of}
use Rattle.cast_modes.specs.AnswerTypes.{run_head}
use Rattle.coercion_norm.specs.Held.{Layout, There}
use Rattle.coercion_norm.specs.Objects.{Object, Fixed, Cell, header_of}
use Rattle.coercion_norm.specs.ObjectsOfRows.{header}
use Rattle.flat_ir.specs.Bodies.{Proc}
use Rattle.flat_ir.specs.Machine.{FlatValue, flat_arity}
use Rattle.rt_cast.specs.Carried.{IsVery, Carries}
use Rattle.rt_cast.specs.MergedValues.{Merged, Base, Solid, Proxied, InDyn}
use Rattle.rt_cast.specs.MergedValues.{shape_of as merged_shape}
use Rattle.rt_cast.specs.States.{Heap, Placed}
use Rattle.lower.specs.CarriedValues.{CarriedIn}
use Rattle.lower.specs.MergedMeaning.{merged_meaning, WrapsKind}
use Rattle.lower.specs.Storage.{Filled}
use Rattle.lower.proofs.heap.CarriedLater.{later, function_there, carried_small}
use Rattle.lower.proofs.heap.Objects.{none_some, same_some, tuple_header, vector_header, box_header}
use Rattle.lower.proofs.merging.MeaningLaws.{merged_laws, kind_later}
use Rattle.lower.proofs.words.Arithmetic.{header_is}
use Rattle.std.proofs.Common.{nat_eq, eqb-true, eq-eqb}
use Rattle.cast_modes.specs.RunValues.{NoRunValues, RunValueThen, row_list}
use Rattle.rt_cast.specs.Carried.{HoldsParts, HaveParts}

module _ (setting : Setting) (l : Layout) (procs : List Proc) (places : List ℕ) (objects : List Object) where
  abbrev V : Type 0
  V = FlatValue Coercion

  abbrev C : V → List Coercion → ℕ → Type 0
  C v casts w = CarriedIn l setting.address procs merged_meaning places objects v casts w

  abbrev C' : List Object → V → ℕ → Type 0
  C' more v w = CarriedIn l setting.address procs merged_meaning places (objects ++ more) v [] w

  -- a value as the procedures of the merged mode see it
  abbrev pub Like : V → Merged ℕ → Type 0
  Like (RunInt n) m = (w : ℕ) × (m ≡ Base IntHead w) × (w ≡ cast_unsigned w64 n) × (int_wrap w64 n ≡ n)
  Like (RunBool b) m = (w : ℕ) × (m ≡ Base BoolHead w) × (w ≡ (if b then 1 else 0))
  Like RunUnit m = (w : ℕ) × (m ≡ Base UnitHead w) × (w ≡ 0)
  Like (RunFun code captured) m = (a : ℕ) × (m ≡ Solid a) × C (RunFun code captured) [] a
  Like (RunTuple values) m = (a : ℕ) × (m ≡ Solid a) × C (RunTuple values) [] a
  Like (RunLoc cell is_vector) m = (a : ℕ) × (m ≡ Solid a) × C (RunLoc cell is_vector) [] a
  Like (RunWrap v c) m = (a : ℕ) × (m ≡ Proxied a c) × Like v (Solid a) × WrapsKind l objects c a
  Like (RunInject v kept) m = (u : Merged ℕ) × (m ≡ InDyn kept u) × (is_dyn (rows_of l.types kept) ≡ false) × Like v u

  -- the head of what stands under all injections and proxies
  abbrev pub solid_head : V → TypeHead
  solid_head (RunWrap v c) = solid_head v
  solid_head (RunInject v kept) = solid_head v
  solid_head v = run_head (flat_arity procs) v

  pub like_shape : (v : V) (m : Merged ℕ) → Like v m → merged_shape (λ a. solid_head v) m ≡ shape_of (flat_arity procs)
      v
  like_shape (RunInt n) m k = ap (merged_shape (λ a. IntHead)) k.1
  like_shape (RunBool b) m k = ap (merged_shape (λ a. BoolHead)) k.1
  like_shape RunUnit m k = ap (merged_shape (λ a. UnitHead)) k.1
  like_shape (RunFun code captured) m k =
      ap (merged_shape (λ a. run_head (flat_arity procs) (RunFun code captured))) k.1
  like_shape (RunTuple values) m k = ap (merged_shape (λ a. run_head (flat_arity procs) (RunTuple values))) k.1
  like_shape (RunLoc cell is_vector) m k =
      ap (merged_shape (λ a. run_head {C = Coercion} (flat_arity procs) (RunLoc cell is_vector))) k.1
  like_shape (RunWrap v c) m k = ap (merged_shape (λ a. solid_head v)) k.1
  like_shape (RunInject v kept) m k = ap (merged_shape (λ a. solid_head v)) k.1

  module _ (placed : Placed setting l) {number : ℕ} (h : Heap)
      (filled : Filled merged_meaning setting l number objects h) where
    -- an object without coercions that stands at a word
    very : (w : ℕ) (object : Object) (kind : ObjectKind) (count : ℕ) → There l objects w object
        → header_of object ≡ header (number_of kind) 0 count → is_free kind ≡ true → IsVery l objects w w
    very w object kind count there head free = record {
      is = refl;
      solid = record { object = object; there = there; kind = kind; count = count; head = head; free = free };
    }

    -- what is solid
    pub solid : (v : V) (w : ℕ) → C v [] w → Like v (Solid w) → IsVery l objects w w
    solid (RunFun code captured) w c k =
        let z = function_there l setting.address procs merged_meaning merged_laws places objects setting placed h filled
        code.first c.0 c.1 code.place c.2 c.4 c.5 in
        very w (Fixed (1 + 4294967296 * suc (length z.0)) (setting.address (code.first + code.place) ∷ z.0)) Closure
        (suc (length z.0))
        (subst (λ n. There l objects n (Fixed (1 + 4294967296 * suc (length z.0))
        (setting.address (code.first + code.place) ∷ z.0))) (sym c.3) z.1) (sym (header_is 1 (suc (length z.0)))) refl
    solid (RunTuple values) w c k =
        very w (Fixed (tuple_header (length c.0)) c.0) TupleKind (length c.0) c.1 refl refl
    solid (RunLoc cell true) w c k = very w (Cell (vector_header c.0) c.0) Vector c.0 c.2 refl refl
    solid (RunLoc cell false) w c k = very w (Cell (box_header c.0) c.0) Boxed c.0 c.2 refl refl
    solid (RunInt n) w c k = absurd (let z : ⊥ = base_solid k.0 w k.1 in z)
      where
        base_solid : (x a : ℕ) → Solid a ≡ Base IntHead x → ⊥
        base_solid x a e = cc
    solid (RunBool b) w c k = absurd (let z : ⊥ = base_solid k.0 w k.1 in z)
      where
        base_solid : (x a : ℕ) → Solid a ≡ Base BoolHead x → ⊥
        base_solid x a e = cc
    solid RunUnit w c k = absurd (let z : ⊥ = base_solid k.0 w k.1 in z)
      where
        base_solid : (x a : ℕ) → Solid a ≡ Base UnitHead x → ⊥
        base_solid x a e = cc
    solid (RunWrap v cast) w c k = absurd (let z : ⊥ = clash k.0 w k.1 in z)
      where
        clash : (a b : ℕ) → Solid b ≡ Proxied a cast → ⊥
        clash a b e = cc
    solid (RunInject v kept) w c k = absurd (let z : ⊥ = clash k.0 w k.1 in z)
      where
        clash : (a : Merged ℕ) (b : ℕ) → Solid b ≡ InDyn kept a → ⊥
        clash a b e = cc

    pub small : (v : V) (w : ℕ) → C v [] w → w < 2 ^ 64
    small v w c =
        carried_small l setting.address procs merged_meaning merged_laws places objects setting placed h filled v
        w c

    -- what carries a value in proxies is one proxy
    pub like_wrapped : (v : V) (cast : Coercion) (casts : List Coercion) (w : ℕ) → C v (cast ∷ casts) w
        → (casts ≡ []) × (a : ℕ) × Like v (Solid a) × Carries l objects (Proxied a cast) w
        × WrapsKind l objects cast a
    like_wrapped (RunFun code captured) cast [] w c = (
      refl,
      c.0,
      (c.0, refl, c.2),
      (c.0, c.1.0, c.1.1, solid (RunFun code captured) c.0 c.2 (c.0, refl, c.2), c.1.2, c.1.3),
      c.1.4,
    )
    like_wrapped (RunTuple values) cast [] w c = (
      refl,
      c.0,
      (c.0, refl, c.2),
      (c.0, c.1.0, c.1.1, solid (RunTuple values) c.0 c.2 (c.0, refl, c.2), c.1.2, c.1.3),
      c.1.4,
    )
    like_wrapped (RunLoc cell is_vector) cast [] w c = (
      refl,
      c.0,
      (c.0, refl, c.2),
      (c.0, c.1.0, c.1.1, solid (RunLoc cell is_vector) c.0 c.2 (c.0, refl, c.2), c.1.2, c.1.3),
      c.1.4,
    )
    like_wrapped (RunFun code captured) cast (d ∷ casts) w c = absurd c.1
    like_wrapped (RunTuple values) cast (d ∷ casts) w c = absurd c.1
    like_wrapped (RunLoc cell is_vector) cast (d ∷ casts) w c = absurd c.1
    like_wrapped (RunWrap v other) cast casts w c =
        absurd (let z : ⊥ = clash (like_wrapped v other (cast ∷ casts) w c).0 in z)
      where
        clash : (cast ∷ casts) ≡ [] → ⊥
        clash e = cc
    like_wrapped (RunInt n) cast casts w c = absurd c
    like_wrapped (RunBool b) cast casts w c = absurd c
    like_wrapped RunUnit cast casts w c = absurd c
    like_wrapped (RunInject v kept) cast casts w c = absurd c

    pub like_of : (v : V) (w : ℕ) → C v [] w → (m : Merged ℕ) × Like v m × Carries l objects m w
    like_of (RunInt n) w c = (Base IntHead w, (w, refl, c.0, c.1), (refl, small (RunInt n) w c))
    like_of (RunBool b) w c = (Base BoolHead w, (w, refl, c), (refl, small (RunBool b) w c))
    like_of RunUnit w c = (Base UnitHead w, (w, refl, c), (refl, small RunUnit w c))
    like_of (RunFun code captured) w c =
        (Solid w, (w, refl, c), solid (RunFun code captured) w c (w, refl, c))
    like_of (RunTuple values) w c = (Solid w, (w, refl, c), solid (RunTuple values) w c (w, refl, c))
    like_of (RunLoc cell is_vector) w c = (Solid w, (w, refl, c), solid (RunLoc cell is_vector) w c (w, refl, c))
    like_of (RunWrap v cast) w c =
        let z = like_wrapped v cast [] w c in (Proxied z.1 cast, (z.1, refl, z.2, z.4), z.3)
    like_of (RunInject v kept) w c =
        let z = like_of v c.0 c.4 in (InDyn kept z.0, (z.0, refl, c.3, z.1), (c.0, c.1, c.2, c.3, z.2))

  -- ---- and back

  solid_same : (a b : ℕ) → Solid a ≡ Solid b → a ≡ b
  solid_same a b e = cc

  kind_at : (more : List Object) (cast : Coercion) (a w : ℕ) → WrapsKind l objects cast a → w ≡ a
      → WrapsKind l (objects ++ more) cast w
  kind_at more cast a w f e =
      subst (λ n. WrapsKind l (objects ++ more) cast n) (sym e) (kind_later l objects more cast a f)

  back_wrapped : (more : List Object) (v : V) (cast : Coercion) (a w : ℕ) → Like v (Solid a)
      → WrapsKind l objects cast a → Carries l (objects ++ more) (Proxied a cast) w
      → CarriedIn l setting.address procs merged_meaning places (objects ++ more) v (cast ∷ []) w
  back_wrapped more (RunFun code captured) cast a w k f b = (
    b.0,
    (b.1, b.2, b.4, b.5, kind_at more cast a b.0 f b.3.is),
    subst (λ x. C' more (RunFun code captured) x) (sym (b.3.is ∙ solid_same a k.0 k.1))
        (later l setting.address procs merged_meaning merged_laws places objects more (RunFun code captured) k.0 k.2),
  )
  back_wrapped more (RunTuple values) cast a w k f b = (
    b.0,
    (b.1, b.2, b.4, b.5, kind_at more cast a b.0 f b.3.is),
    subst (λ x. C' more (RunTuple values) x) (sym (b.3.is ∙ solid_same a k.0 k.1))
        (later l setting.address procs merged_meaning merged_laws places objects more (RunTuple values) k.0 k.2),
  )
  back_wrapped more (RunLoc cell is_vector) cast a w k f b = (
    b.0,
    (b.1, b.2, b.4, b.5, kind_at more cast a b.0 f b.3.is),
    subst (λ x. C' more (RunLoc cell is_vector) x) (sym (b.3.is ∙ solid_same a k.0 k.1))
        (later l setting.address procs merged_meaning merged_laws places objects more (RunLoc cell is_vector) k.0 k.2),
  )
  back_wrapped more (RunInt n) cast a w k f b = absurd (let z : ⊥ = clash k.0 k.1 in z)
    where
      clash : (x : ℕ) → Solid a ≡ Base IntHead x → ⊥
      clash x e = cc
  back_wrapped more (RunBool b') cast a w k f b = absurd (let z : ⊥ = clash k.0 k.1 in z)
    where
      clash : (x : ℕ) → Solid a ≡ Base BoolHead x → ⊥
      clash x e = cc
  back_wrapped more RunUnit cast a w k f b = absurd (let z : ⊥ = clash k.0 k.1 in z)
    where
      clash : (x : ℕ) → Solid a ≡ Base UnitHead x → ⊥
      clash x e = cc
  back_wrapped more (RunWrap v other) cast a w k f b = absurd (let z : ⊥ = clash k.0 k.1 in z)
    where
      clash : (x : ℕ) → Solid a ≡ Proxied x other → ⊥
      clash x e = cc
  back_wrapped more (RunInject v kept) cast a w k f b = absurd (let z : ⊥ = clash k.0 k.1 in z)
    where
      clash : (x : Merged ℕ) → Solid a ≡ InDyn kept x → ⊥
      clash x e = cc

  pub like_back : (more : List Object) (v : V) (m : Merged ℕ) → Like v m → (w : ℕ) → Carries l (objects ++ more) m w
      → C' more v w
  like_back more (RunInt n) m k w b =
      let c = subst (λ z. Carries l (objects ++ more) z w) k.1 b in (c.0 ∙ k.2, k.3)
  like_back more (RunBool x) m k w b = (subst (λ z. Carries l (objects ++ more) z w) k.1 b).0 ∙ k.2
  like_back more RunUnit m k w b = (subst (λ z. Carries l (objects ++ more) z w) k.1 b).0 ∙ k.2
  like_back more (RunFun code captured) m k w b =
      let c = subst (λ z. Carries l (objects ++ more) z w) k.1 b in
      subst (λ x. C' more (RunFun code captured) x) (sym c.is)
      (later l setting.address procs merged_meaning merged_laws places objects more (RunFun code captured) k.0 k.2)
  like_back more (RunTuple values) m k w b =
      let c = subst (λ z. Carries l (objects ++ more) z w) k.1 b in
      subst (λ x. C' more (RunTuple values) x) (sym c.is)
      (later l setting.address procs merged_meaning merged_laws places objects more (RunTuple values) k.0 k.2)
  like_back more (RunLoc cell is_vector) m k w b =
      let c = subst (λ z. Carries l (objects ++ more) z w) k.1 b in
      subst (λ x. C' more (RunLoc cell is_vector) x) (sym c.is)
      (later l setting.address procs merged_meaning merged_laws places objects more (RunLoc cell is_vector) k.0 k.2)
  like_back more (RunWrap v cast) m k w b =
      back_wrapped more v cast k.0 w k.2 k.3 (subst (λ z. Carries l (objects ++ more) z w) k.1 b)
  like_back more (RunInject v kept) m k w b =
      let c = subst (λ z. Carries l (objects ++ more) z w) k.1 b in
      (c.0, c.1, c.2, c.3, like_back more v k.0 k.3 c.0 c.4)

  -- ---- parts of tuples

  -- what a tuple holds
  abbrev pub values_of : V → List V
  values_of (RunTuple values) = row_list values
  values_of (RunWrap v cast) = values_of v
  values_of v = []

  -- told the head of what is at the place
  abbrev pub head_at : Option V → TypeHead
  head_at None = IntHead
  head_at (Some x) = solid_head x

  module _ (H : TypeHead) (parts : ℕ → List (Merged ℕ)) (k : ℕ) where
    -- what stands there has a part that is like the value's part
    abbrev pub KnownAt : V → ℕ → Type 0
    KnownAt (RunTuple values) a =
        (x : V) → slice_get (row_list values) k ≡ Some x
        → (m : Merged ℕ) × (slice_get (parts a) k ≡ Some m) × Like x m × (solid_head x ≡ H)
    KnownAt u a = Unit {0}

    abbrev pub KnownUnder : V → Merged ℕ → Type 0
    KnownUnder (RunWrap u cast) m = (a : ℕ) → m ≡ Proxied a cast → KnownAt u a × IsNormal (rows_of l.types) cast
    KnownUnder u m = (a : ℕ) → m ≡ Solid a → KnownAt u a

  module _ (placed : Placed setting l) {number : ℕ} (h : Heap)
      (filled : Filled merged_meaning setting l number objects h) where
    all_like : (values : Rattle.flat_ir.specs.Machine.FlatValues Coercion) (ws : List ℕ)
        → Rattle.lower.specs.CarriedValues.AreCarried l setting.address procs merged_meaning places objects values ws
        → (ms : List (Merged ℕ)) × Rattle.rt_cast.specs.Carried.AreCarried l (IsVery l) objects ms ws
        × (length ms ≡ length ws)
        × ((k : ℕ) (x : V) → slice_get (row_list values) k ≡ Some x
        → (m : Merged ℕ) × (slice_get ms k ≡ Some m) × Like x m)
    all_like NoRunValues [] c = ([], tt, refl, λ k x e. none_some e)
    all_like NoRunValues (w ∷ ws) c = absurd c
    all_like (RunValueThen v rest) [] c = absurd c
    all_like (RunValueThen v rest) (w ∷ ws) c =
        let a = like_of placed h filled v w c.0 in
        let r = all_like rest ws c.1 in
        (a.0 ∷ r.0, (a.2, r.1), ap suc r.2, λ k x e. by_place a.0 a.1 r.0 r.3 k x e)
      where
        by_place : (m : Merged ℕ) → Like v m → (ms : List (Merged ℕ))
            → ((k : ℕ) (x : V) → slice_get (row_list rest) k ≡ Some x
            → (m : Merged ℕ) × (slice_get ms k ≡ Some m) × Like x m)
            → (k : ℕ) (x : V) → slice_get (v ∷ row_list rest) k ≡ Some x
            → (n : Merged ℕ) × (slice_get (m ∷ ms) k ≡ Some n) × Like x n
        by_place m like ms later zero x e = (m, refl, subst (λ y. Like y m) (same_some v x e) like)
        by_place m like ms later (suc k) x e = later k x e

    -- told of the head of each part
    abbrev pub HeadsAre : V → ℕ → TypeHead → Type 0
    HeadsAre u k H = (x : V) → slice_get (values_of u) k ≡ Some x → solid_head x ≡ H

    abbrev pub Prepared : ((ℕ → List (Merged ℕ)) → Type 0) → Type 0
    Prepared P =
        (parts : ℕ → List (Merged ℕ)) × HaveParts l (IsVery l) objects parts × ((b : ℕ) → length (parts b) ≤ 8) × P
        parts

    nothing : (P : (ℕ → List (Merged ℕ)) → Type 0) → P (λ b. []) → Prepared P
    nothing P p = ((λ b. []), (λ b w v. inl refl), (λ b. omega arith), p)

    bare_prepared : (u : V) (a : ℕ) → Like u (Solid a)
        → Prepared (λ parts. (k : ℕ) (H : TypeHead) → HeadsAre u k H → KnownAt H parts k u a)
    bare_prepared (RunTuple values) a like = (
      (λ b. if nat_eq b a then ms.0 else []),
      (λ b w v. holds b w v (nat_eq b a) refl),
      (λ b. short (nat_eq b a)),
      λ k H heads x e.
          let z = ms.3 k x e in
          (z.0, ap (λ t. slice_get (if t then ms.0 else []) k) (eq-eqb a a refl) ∙ z.1, z.2, heads x e),
    )
      where
        stands : CarriedIn l setting.address procs merged_meaning places objects (RunTuple values) [] like.0
        stands = like.2

        ms : (ms : List (Merged ℕ)) × Rattle.rt_cast.specs.Carried.AreCarried l (IsVery l) objects ms stands.0
            × (length ms ≡ length stands.0)
            × ((k : ℕ) (x : V) → slice_get (row_list values) k ≡ Some x
            → (m : Merged ℕ) × (slice_get ms k ≡ Some m) × Like x m)
        ms = all_like values stands.0 stands.2

        holds : (b w : ℕ) → IsVery l objects b w → (t : Bool) → nat_eq b a ≡ t
            → HoldsParts l (IsVery l) objects (if t then ms.0 else []) w
        holds b w v true q =
            inr (
              stands.0,
              subst (λ n. There l objects n (Fixed (tuple_header (length stands.0)) stands.0))
                  (sym (v.is ∙ (eqb-true b a q ∙ solid_same a like.0 like.1))) stands.1,
              ms.1,
            )
        holds b w v false q = inl refl

        short : (t : Bool) → length (if t then ms.0 else []) ≤ 8
        short true = let z = ms.2 in let y = stands.3 in omega (arith, z, y)
        short false = omega arith
    bare_prepared (RunInt n) a like = nothing _ (λ k H heads. tt)
    bare_prepared (RunBool b) a like = nothing _ (λ k H heads. tt)
    bare_prepared RunUnit a like = nothing _ (λ k H heads. tt)
    bare_prepared (RunFun code captured) a like = nothing _ (λ k H heads. tt)
    bare_prepared (RunLoc cell is_vector) a like = nothing _ (λ k H heads. tt)
    bare_prepared (RunInject u kept) a like = nothing _ (λ k H heads. tt)
    bare_prepared (RunWrap u cast) a like = nothing _ (λ k H heads. tt)

    proxied_same : (a b : ℕ) (c d : Coercion) → Proxied a c ≡ Proxied b d → a ≡ b
    proxied_same a b c d e = cc

    -- what is known of a value's parts
    pub prepared : (u : V) (m : Merged ℕ) (w : ℕ) → Like u m → Carries l objects m w
        → Prepared (λ parts. (k : ℕ) (H : TypeHead) → HeadsAre u k H → KnownUnder H parts k u m)
    prepared (RunTuple values) m w like c =
        let r = bare_prepared (RunTuple values) like.0 (like.0, refl, like.2) in (
          r.0,
          r.1,
          r.2,
          λ k H heads a e.
              subst (λ b. KnownAt H r.0 k (RunTuple values) b) (solid_same like.0 a (sym like.1 ∙ e)) (r.3 k H heads),
        )
    prepared (RunWrap u cast) m w like c =
        let r = bare_prepared u like.0 like.2 in (
          r.0,
          r.1,
          r.2,
          λ k H heads a e. (
            subst (λ b. KnownAt H r.0 k u b) (proxied_same like.0 a cast cast (sym like.1 ∙ e)) (r.3 k H heads),
            (subst (λ z. Carries l objects z w) like.1 c).5.normal,
          ),
        )
    prepared (RunInt n) m w like c = nothing _ (λ k H heads a e. tt)
    prepared (RunBool b) m w like c = nothing _ (λ k H heads a e. tt)
    prepared RunUnit m w like c = nothing _ (λ k H heads a e. tt)
    prepared (RunFun code captured) m w like c = nothing _ (λ k H heads a e. tt)
    prepared (RunLoc cell is_vector) m w like c = nothing _ (λ k H heads a e. tt)
    prepared (RunInject u kept) m w like c = nothing _ (λ k H heads a e. tt)
