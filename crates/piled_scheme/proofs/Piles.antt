-- Values in piles of wrappers: the outermost one is taken off or put on.
use Rattle.std.proofs.Common.{◌≡◌, ℕ, true, false, List, [], ◌∷◌, ◌++◌}
use Rattle.std.proofs.Common.{None, refl, sym, subst, arith}
use Rattle.object_layout.specs.declared.kinds.Kind.TheVariants.{Boxed, Vector}
use Rattle.object_layout.specs.Kinds.{kind_number}
use Rattle.low_ir.specs.Run.{Setting}
use Rattle.cast_modes.specs.Modes.{TypeCast}
use Rattle.cast_modes.specs.RunValues.{RunInt, RunBool, RunUnit, RunFun, RunTuple, RunLoc, RunWrap, RunInject}
use Rattle.cast_modes.specs.RunValues.{run_cell_behind}
use Rattle.coercion_norm.specs.Objects.{Object, Cell}
use Rattle.coercion_norm.specs.Held.{Layout, There}
use Rattle.coercion_norm.specs.ObjectsOfRows.{header}
use Rattle.flat_ir.specs.Bodies.{Proc}
use Rattle.flat_ir.specs.Machine.{FlatValue, FlatStore}
use Rattle.rt_cast.specs.States.{Placed}
use Rattle.lower.specs.CarriedValues.{CarriedIn, Under, Bare}
use Rattle.lower.proofs.Public.{there_same}
use Rattle.piled_scheme.specs.Piling.{Pile, IsWrapped, piled_meaning}

module _ (l : Layout) (objects : List Object) where
  -- ---- piles

  pub pile_end : (casts : List TypeCast) (cast : TypeCast) (target over w : ℕ) → Pile l objects casts target over
      → IsWrapped l objects cast over w → Pile l objects (casts ++ cast ∷ []) target w
  pile_end [] cast target over w e h = (w, subst (λ x. IsWrapped l objects cast x w) (sym e) h, refl)
  pile_end (c ∷ casts) cast target over w p h = (p.0, p.1, pile_end casts cast p.0 over w p.2 h)

  pub pile_split : (casts : List TypeCast) (cast : TypeCast) (target w : ℕ)
      → Pile l objects (casts ++ cast ∷ []) target w
      → (over : ℕ) × Pile l objects casts target over × IsWrapped l objects cast over w
  pile_split [] cast target w p =
      (target, refl, subst (λ x. IsWrapped l objects cast target x) p.2 p.1)
  pile_split (c ∷ casts) cast target w p =
      let z = pile_split casts cast p.0 w p.2 in (z.0, (p.0, p.1, z.1), z.2)

  module _ (setting : Setting) (procs : List Proc) (places : List ℕ) where
    abbrev pub Carried : FlatValue TypeCast → List TypeCast → ℕ → Type 0
    Carried v casts w = CarriedIn l setting.address procs piled_meaning places objects v casts w

    abbrev Un : List TypeCast → ℕ → (ℕ → Type 0) → Type 0
    Un casts w P = Under l setting.address procs piled_meaning places objects casts w P

    abbrev Ba : List TypeCast → ℕ → (ℕ → Type 0) → Type 0
    Ba casts w P = Bare l setting.address procs piled_meaning places objects casts w P

    -- ---- the outermost wrapper is taken off

    never_bare : (casts : List TypeCast) (cast : TypeCast) (w : ℕ) (P : ℕ → Type 0) → Ba (casts ++ cast ∷ []) w P → ⊥
    never_bare [] cast w P h = h
    never_bare (c ∷ casts) cast w P h = h

    under_peeled : (casts : List TypeCast) (cast : TypeCast) (w : ℕ) (P : ℕ → Type 0) → Un (casts ++ cast ∷ []) w P
        → (inner : ℕ) × Un casts inner P × IsWrapped l objects cast inner w
    under_peeled [] cast w P h =
        (h.0, h.2, subst (λ x. IsWrapped l objects cast h.0 x) h.1.1.2 h.1.1.1)
    under_peeled (c ∷ casts) cast w P h =
        let z = pile_split (c ∷ casts) cast h.0 w h.1.1 in (z.0, (h.0, (h.1.0, z.1), h.2), z.2)

    peeled_in : (v : FlatValue TypeCast) (casts : List TypeCast) (cast : TypeCast) (w : ℕ)
        → Carried v (casts ++ cast ∷ []) w
        → (inner : ℕ) × Carried v casts inner × IsWrapped l objects cast inner w
    peeled_in (RunInt n) casts cast w c = absurd (never_bare casts cast w _ c)
    peeled_in (RunBool b) casts cast w c = absurd (never_bare casts cast w _ c)
    peeled_in RunUnit casts cast w c = absurd (never_bare casts cast w _ c)
    peeled_in (RunFun code captured) casts cast w c = under_peeled casts cast w _ c
    peeled_in (RunTuple values) casts cast w c = under_peeled casts cast w _ c
    peeled_in (RunLoc cell is_vector) casts cast w c = under_peeled casts cast w _ c
    peeled_in (RunWrap v other) casts cast w c = peeled_in v (other ∷ casts) cast w c
    peeled_in (RunInject v kept) casts cast w c = absurd (never_bare casts cast w _ c)

    pub peeled : (v : FlatValue TypeCast) (cast : TypeCast) (w : ℕ) → Carried (RunWrap v cast) [] w
        → (inner : ℕ) × Carried v [] inner × IsWrapped l objects cast inner w
    peeled v cast w c = peeled_in v [] cast w c

    -- ---- one more is put on

    under_more : (c : TypeCast) (casts : List TypeCast) (cast : TypeCast) (over w : ℕ) (P : ℕ → Type 0)
        → Un (c ∷ casts) over P → IsWrapped l objects cast over w → Un ((c ∷ casts) ++ cast ∷ []) w P
    under_more c casts cast over w P h i = (h.0, (h.1.0, pile_end (c ∷ casts) cast h.0 over w h.1.1 i), h.2)

    more_in : (v : FlatValue TypeCast) (c : TypeCast) (casts : List TypeCast) (cast : TypeCast) (over w : ℕ)
        → Carried v (c ∷ casts) over → IsWrapped l objects cast over w → Carried v ((c ∷ casts) ++ cast ∷ []) w
    more_in (RunInt n) c casts cast over w h i = absurd h
    more_in (RunBool b) c casts cast over w h i = absurd h
    more_in RunUnit c casts cast over w h i = absurd h
    more_in (RunFun code captured) c casts cast over w h i = under_more c casts cast over w _ h i
    more_in (RunTuple values) c casts cast over w h i = under_more c casts cast over w _ h i
    more_in (RunLoc cell is_vector) c casts cast over w h i = under_more c casts cast over w _ h i
    more_in (RunWrap v d) c casts cast over w h i = more_in v d (c ∷ casts) cast over w h i
    more_in (RunInject v kept) c casts cast over w h i = absurd h

    pub wrapped_more : (v : FlatValue TypeCast) (old cast : TypeCast) (over w : ℕ) → Carried (RunWrap v old) [] over
        → IsWrapped l objects cast over w → Carried (RunWrap (RunWrap v old) cast) [] w
    wrapped_more v old cast over w h i = more_in v old [] cast over w h i

    pub wrapped_first : (cell : ℕ) (cast : TypeCast) (over w : ℕ) → Carried (RunLoc cell false) [] over
        → IsWrapped l objects cast over w → Carried (RunWrap (RunLoc cell false) cast) [] w
    wrapped_first cell cast over w h i =
        let one : h.0 ≡ 1 = h.3 refl in
        (over, (subst (λ n. There l objects over (Cell (header (kind_number Boxed) 0 n) n)) one h.2, (w, i, refl)), h)

    -- ---- no vector is wrapped

    pub no_vector : Placed setting l → (cell : ℕ) (c : TypeCast) (casts : List TypeCast) (w : ℕ)
        → Carried (RunLoc cell true) (c ∷ casts) w → ⊥
    no_vector placed cell c casts w h =
        apart h.2.0
        (there_same l objects h.0 (Cell (header (kind_number Boxed) 0 1) 1)
        (Cell (header (kind_number Vector) 0 h.2.0) h.2.0) placed.before h.1.0 h.2.2)
      where
        apart : (n : ℕ) → Cell (header (kind_number Boxed) 0 1) 1 ≡ Cell (header (kind_number Vector) 0 n) n → ⊥
        apart n e =
            let a : header (kind_number Boxed) 0 1 ≡ header (kind_number Vector) 0 n = cc in
            let b : 1 ≡ n = cc in
            omega (arith, a, b)

    pub no_cell : Placed setting l → (store : FlatStore TypeCast) (v : FlatValue TypeCast) (c : TypeCast)
        (casts : List TypeCast) (w : ℕ) → Carried v (c ∷ casts) w → run_cell_behind v store ≡ None
    no_cell placed store (RunInt n) c casts w h = refl
    no_cell placed store (RunBool b) c casts w h = refl
    no_cell placed store RunUnit c casts w h = refl
    no_cell placed store (RunFun code captured) c casts w h = refl
    no_cell placed store (RunTuple values) c casts w h = refl
    no_cell placed store (RunLoc cell false) c casts w h = refl
    no_cell placed store (RunLoc cell true) c casts w h = absurd (no_vector placed cell c casts w h)
    no_cell placed store (RunWrap v d) c casts w h = no_cell placed store v d (c ∷ casts) w h
    no_cell placed store (RunInject v kept) c casts w h = refl
