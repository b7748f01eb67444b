-- Where a coercion composes, one of the casts of its path wraps: so what piled casts ask for and pay is enough for the
-- coercion that stands for them.
use Rattle.std.proofs.Common.{◌≡◌, ◌⊎◌, inl, inr, ℕ, zero, suc, ◌+◌, ◌*◌, ◌^◌, ◌≤◌, Bool, true, false, List, [], ◌∷◌}
use Rattle.std.proofs.Common.{Option, Some, None, refl, sym, ap, ◌∙◌, subst, arith}
use Rattle.std.specs.Prelude.{cond}
use Rattle.std.proofs.Math.Nat.{mul_assoc}
use Rattle.grift_base.specs.Types.{TypeRow, TypeRows, DynHead, row_at, is_dyn, is_base, same_head, head_of, equal_heads}
use Rattle.type_graph.specs.TypeTables.{IsOrderedTable}
use Rattle.core_calc.specs.Account.{Measures, wrap_charge, StepKind, Wraps, Casts, Makes, MakesVector, Multiplies, Acts}
use Rattle.core_calc.specs.Account.{rows_kind, cast_kind}
use Rattle.coercion_norm.specs.declared.middles.MiddleKind.{MiddleKind as Kind}
use Rattle.coercion_norm.specs.Coercions.{Coercion, Coercions, Id, Fail, Middle, Inject, Project, kind_of, slots}
use Rattle.coercion_norm.specs.Coercions.{rows_of}
use Rattle.coercion_norm.specs.CoercionTables.{cast_of, composition_of}
use Rattle.coercion_norm.specs.Paths.{Steps, Stop, Edge, last_type, solid, first_clash}
use Rattle.coercion_norm.specs.StandsFor.{MiddleIf, FinalIf, WholeIf, MiddleAgrees, AgreesTo, StandsFor}
use Rattle.coercion_norm.specs.Normal.{IsNormal, is_flat, is_project}
use Rattle.cast_modes.specs.Modes.{Mode, TypeCast, piling}
use Rattle.coercion_norm.specs.MergedMode.{merging}
use Rattle.cast_modes.specs.RunValues.{RunInject}
use Rattle.coercion_norm.proofs.Public.{row_is, heads_exact}
use Rattle.coer_core.specs.Machine.{CoerValue}
use Rattle.coer_core.specs.Results.{pile, IsFine}
use Rattle.coer_core.specs.Carrying.{steps_of, Joins}
use Rattle.coer_core.specs.Tally.{kind_budget}
use Rattle.coer_core.specs.MergedTally.{Effort, Opens, opening_of_kind, half_charge, effort_asks, effort_acts}
use Rattle.coer_core.specs.MergedTally.{effort_budget}
use Rattle.coer_core.specs.Tolls.{Toll, kind_price, merged_price, pile_toll, Fits}
use Rattle.coer_core.proofs.TreeLaw.{stop_is, middle_flat, base_no_kind, left_of}
use Rattle.coer_core.proofs.PiledTolls.{OneMore, Pays, cast_pays, solid_pays, dyn_pays}
use Rattle.coer_core.proofs.MergedTolls.{Within, wider, then_within, keeps_within, Weight, light, composes}
use Rattle.coer_core.proofs.MergedTolls.{composes_into, weight}

module _ (types : TypeRows) (table : IsOrderedTable types) (rows : List TypeCast) (measures : Measures)
    (under under1 : ℕ) where
  abbrev R : ℕ → TypeRow
  R = rows_of types

  abbrev m : Mode TypeCast
  m = piling types rows

  abbrev n : Mode Coercion
  n = merging types rows

  abbrev half : ℕ
  half = half_charge measures

  abbrev tolls : ℕ → CoerValue TypeCast → List TypeCast → Toll
  tolls i v cs = pile_toll (kind_price m measures) under m i v cs

  abbrev tolls1 : ℕ → CoerValue Coercion → List Coercion → Toll
  tolls1 k u ds = pile_toll (merged_price types n measures) under1 n k u ds

  two_halves : wrap_charge measures ≡ 2 * half
  two_halves =
      let parts : ℕ = (2 * measures.width) ^ measures.height in
      let a = mul_assoc 32 (measures.width + 8) parts in
      let b = mul_assoc 16 (measures.width + 8) parts in
      omega (arith, a, b)

  -- the first edge of a path goes to a type of the same head, which has parts
  pub record WrapEdge (t : ℕ) (path : Steps) : Type 0 where
    pub label : ℕ
    pub wanted : ℕ
    pub rest : Steps
    pub is : path ≡ Edge label wanted rest
    pub wraps : rows_kind (R t) (R wanted) ≡ Wraps

  true_false : (b : Bool) → b ≡ true → b ≡ false → ⊥
  true_false true e f = cc
  true_false false e f = cc

  -- a middle stands for no path but one with such an edge
  edge_of : (kind : Kind) (parts : Coercions) (t : ℕ) (path : Steps) → is_dyn (R t) ≡ false
      → IsNormal R (Middle kind parts) → first_clash R t path ≡ None
      → ((k : ℕ) → MiddleAgrees R (AgreesTo R k) (Middle kind parts) t path) → WrapEdge t path
  edge_of kind parts t Stop s norm same agree =
      absurd (no_middle (stop_is types table rows (Middle kind parts) t norm stands))
    where
      no_middle : Middle kind parts ≡ Id → ⊥
      no_middle e = cc

      stands : StandsFor R (Middle kind parts) t Stop
      stands zero = tt
      stands (suc k) = rw s (agree k)
  edge_of kind parts t (Edge label wanted rest) s norm same agree =
      let h = heads (same_head (R t) (R wanted)) refl same in
      let b = not_base (is_base (R t)) refl in
      let d : is_dyn (R wanted) ≡ false =
      ap (λ x. equal_heads x DynHead) (sym (heads_exact (head_of (R t)) (head_of (R wanted)) h)) ∙ s in
      record { label = label; wanted = wanted; rest = rest; is = refl; wraps = rw (s, d, h, b) refl }
    where
      heads : (b : Bool) → same_head (R t) (R wanted) ≡ b → cond b (first_clash R wanted rest) (Some label) ≡ None
          → same_head (R t) (R wanted) ≡ true
      heads true e f = e
      heads false e f = absurd (cc f)

      not_base : (b : Bool) → is_base (R t) ≡ b → is_base (R t) ≡ false
      not_base false e = e
      not_base true e = absurd (no_middle at_base)
        where
          no_middle : Middle kind parts ≡ Id → ⊥
          no_middle e = cc

          at_base : Middle kind parts ≡ Id
          at_base =
              subst (λ o. MiddleIf R (AgreesTo R 0) o (slots R t) (Middle kind parts) t (Edge label wanted rest))
              (base_no_kind types table rows (R t) e) (agree 0)

  -- what a coercion asks for that stands for this path: little, or there is such an edge, and a cast more at the end
  pub data Weighs (e : Coercion) (t : ℕ) (steps : Steps) : Type 0 where
    little : ((k : ℕ) (u : CoerValue Coercion) → Within types rows measures under1 3 1 896 (tolls1 k u (e ∷ [])))
        → Weighs e t steps
    much : (edge : WrapEdge t (solid R steps)) (extra : ℕ)
        → OneMore extra (first_clash R t (solid R steps)) (is_dyn (R (last_type t steps)))
        → ((k : ℕ) (u : CoerValue Coercion)
        → Within types rows measures under1 (half + 3) (1 + extra) (896 + 64 * half + 896 * extra)
        (tolls1 k u (e ∷ [])))
        → Weighs e t steps

  module _ (e : Coercion) (t : ℕ) (steps : Steps) (s : is_dyn (R t) ≡ false) (p : is_project e ≡ false)
      (norm : IsNormal R e) (stands : StandsFor R e t steps) where
    abbrev path : Steps
    path = solid R steps

    abbrev Final : Option ℕ → Bool → Type 0
    Final o b = (k : ℕ) → FinalIf R (AgreesTo R k) o b e t path

    final : Final (first_clash R t path) (is_dyn (R (last_type t steps)))
    final k =
        subst (λ b. WholeIf R (AgreesTo R k) b (is_dyn (R (last_type t steps))) e t path) s (stands (suc k))

    composes_at : (kind : Kind) (parts : Coercions) → e ≡ Middle kind parts
        → ((k : ℕ) (u : CoerValue Coercion)
        → Within types rows measures under1 half 1 (896 + 64 * half) (tolls1 k u (e ∷ [])))
        → (o : Option ℕ) (b : Bool) → first_clash R t path ≡ o → is_dyn (R (last_type t steps)) ≡ b → Final o b
        → Weighs e t steps
    composes_at kind parts is w (Some label) b f d at = absurd (no (sym is ∙ at 0))
      where
        no : Middle kind parts ≡ Fail label → ⊥
        no h = cc
    composes_at kind parts is w None true f d at = absurd (no (sym is ∙ (at 0).1))
      where
        no : Middle kind parts ≡ Inject (at 0).0 (last_type t path) → ⊥
        no h = cc
    composes_at kind parts is w None false f d at =
        much (edge_of kind parts t path s (subst (IsNormal R) is norm) f
        (λ k. subst (λ z. MiddleAgrees R (AgreesTo R k) z t path) is (at k))) 0 (inl refl)
        (λ k u. wider types rows measures under1 half 1 (896 + 64 * half) (half + 3) (1 + 0) (896 + 64 * half + 896 * 0)
        (tolls1 k u (e ∷ [])) (omega arith) (omega arith) (omega arith) (w k u))

    into_at : (kind : Kind) (parts : Coercions) (kept : ℕ) → e ≡ Inject (Middle kind parts) kept
        → ((k : ℕ) (u : CoerValue Coercion)
        → Within types rows measures under1 (half + 3) 2 (1792 + 64 * half) (tolls1 k u (e ∷ [])))
        → (o : Option ℕ) (b : Bool) → first_clash R t path ≡ o → is_dyn (R (last_type t steps)) ≡ b → Final o b
        → Weighs e t steps
    into_at kind parts kept is w (Some label) b f d at = absurd (no (sym is ∙ at 0))
      where
        no : Inject (Middle kind parts) kept ≡ Fail label → ⊥
        no h = cc
    into_at kind parts kept is w None false f d at =
        absurd (no (sym (ap is_flat is) ∙ middle_flat types table rows (AgreesTo R 0) (kind_of (R t)) (slots R t) e t
        path (at 0)))
      where
        no : false ≡ true → ⊥
        no h = cc
    into_at kind parts kept is w None true f d at =
        much (edge_of kind parts t path s (subst (IsNormal R) is norm).1 f
        (λ k. subst (λ z. MiddleAgrees R (AgreesTo R k) z t path) (ap (left_of types table rows) (sym (at k).1 ∙ is))
        (at k).2)) 1 (inr (refl, f, d))
        (λ k u. wider types rows measures under1 (half + 3) 2 (1792 + 64 * half) (half + 3) (1 + 1)
        (896 + 64 * half + 896 * 1) (tolls1 k u (e ∷ [])) (omega arith) (omega arith) (omega arith) (w k u))

    by_weight : Weight types rows measures under1 e → Weighs e t steps
    by_weight (light w) = little w
    by_weight (composes kind parts is w) =
        composes_at kind parts is w (first_clash R t path) (is_dyn (R (last_type t steps))) refl refl final
    by_weight (composes_into kind parts kept is w) =
        into_at kind parts kept is w (first_clash R t path) (is_dyn (R (last_type t steps))) refl refl final

    weighs : Weighs e t steps
    weighs = by_weight (weight types rows measures under1 e p norm)

  -- ---- casts of values that are not in Dyn

  pub solid_fits : (i k : ℕ) (v : CoerValue TypeCast) (u : CoerValue Coercion) (c : TypeCast) (cs : List TypeCast)
      (d : Coercion) → is_dyn (R c.from) ≡ false → Joins c.to cs → is_project d ≡ false → IsNormal R d
      → StandsFor R d c.from (steps_of (c ∷ cs)) → IsFine (pile m (suc i) v (c ∷ cs))
      → Fits under1 (tolls (suc i) v (c ∷ cs)) (tolls1 k u (d ∷ []))
  solid_fits i k v u c cs d s j p norm stands f = of (weighs d c.from (steps_of (c ∷ cs)) s p norm stands)
    where
      of : Weighs d c.from (steps_of (c ∷ cs)) → Fits under1 (tolls (suc i) v (c ∷ cs)) (tolls1 k u (d ∷ []))
      of (little w) =
          let p = cast_pays types rows measures under i v c cs in
          let a = p.most in
          let b = p.budget in
          let c = p.acts in
          let x = (w k u).asks in
          let y = (w k u).budget in
          let z = (w k u).acts in
          record {
            asks = omega (arith, a, x);
            acts = omega (arith, c, z);
            budget = omega (arith, b, y);
            frames = (w k u).frames;
          }
      of (much edge extra more w) =
          let pays : Pays types rows measures under Wraps extra (tolls (suc i) v (c ∷ cs)) =
          subst (λ z. Pays types rows measures under z extra (tolls (suc i) v (c ∷ cs))) edge.wraps
          (solid_pays types rows measures under (suc i) v c cs s j f edge.label edge.wanted edge.rest edge.is extra
          (subst (λ z. OneMore extra (first_clash R c.from z) (is_dyn (R (last_type c.to (steps_of cs))))) edge.is
          more))
          in
          let a = pays.most in
          let b = pays.budget in
          let acts = pays.acts in
          let x = (w k u).asks in
          let y = (w k u).budget in
          let made = (w k u).acts in
          let z = two_halves in
          record {
            asks = omega (arith, a, x, z);
            acts = omega (arith, acts, made);
            budget = omega (arith, b, y, z);
            frames = (w k u).frames;
          }

  -- ---- casts of values in Dyn

  -- Dyn follows alone: nothing is opened
  pub stays_fits : (i k : ℕ) (v : CoerValue TypeCast) (u : CoerValue Coercion) (c : TypeCast) (cs : List TypeCast)
      → Fits under1 (tolls (suc i) v (c ∷ cs)) (tolls1 k u (Id ∷ []))
  stays_fits i k v u c cs =
      let w = keeps_within types rows measures under1 k u in
      let p = cast_pays types rows measures under i v c cs in
      let b = p.budget in
      let c = p.acts in
      let x = w.asks in
      let y = w.budget in
      let z = w.acts in
      record { asks = omega (arith, x); acts = omega (arith, c, z); budget = omega (arith, b, y); frames = w.frames }

  -- an opening composes where the cast from the kept type to the wanted one wraps
  opens_as : (kept wanted : ℕ) → (opening_of_kind (cast_kind (row_at types kept) (row_at types wanted)) ≡ Opens)
      ⊎ (rows_kind (R kept) (R wanted) ≡ Wraps)
  opens_as kept wanted = by_rows (row_at types kept) (row_at types wanted) refl refl
    where
      by_kind : (row other : TypeRow) (kind : StepKind) → rows_kind row other ≡ kind → R kept ≡ row → R wanted ≡ other
          → (opening_of_kind kind ≡ Opens) ⊎ (rows_kind (R kept) (R wanted) ≡ Wraps)
      by_kind row other Wraps e f g =
          inr (ap (λ r. rows_kind r (R wanted)) f ∙ ap (rows_kind row) g ∙ e)
      by_kind row other _ e f g = inl refl

      by_rows : (o p : Option TypeRow) → row_at types kept ≡ o → row_at types wanted ≡ p
          → (opening_of_kind (cast_kind o p) ≡ Opens) ⊎ (rows_kind (R kept) (R wanted) ≡ Wraps)
      by_rows (Some row) (Some other) e f =
          by_kind row other (rows_kind row other) refl (row_is types kept row e) (row_is types wanted other f)
      by_rows (Some row) None e f = inl refl
      by_rows None p e f = inl refl

  effort_small : (e : Effort) → e ≡ Opens → (effort_asks measures e ≤ 13) × (effort_budget measures e ≤ 896)
  effort_small e h =
      subst (λ z. (effort_asks measures z ≤ 13) × (effort_budget measures z ≤ 896)) (sym h) (omega arith, omega arith)

  effort_large : (kind : StepKind) → (effort_asks measures (opening_of_kind kind) ≤ half + 13)
      × (effort_budget measures (opening_of_kind kind) ≤ 896 + 64 * half)
  effort_large Wraps = (omega arith, omega arith)
  effort_large _ = (omega arith, omega arith)

  opening_acts : (kind : StepKind) → effort_acts (opening_of_kind kind) ≤ 1
  opening_acts Wraps = omega arith
  opening_acts _ = omega arith

  kind_small : (kind : StepKind) → 896 ≤ kind_budget measures (Some kind) 0
  kind_small Wraps = omega arith
  kind_small Casts = omega arith
  kind_small Makes = omega arith
  kind_small (MakesVector k) = omega arith
  kind_small Multiplies = omega arith
  kind_small Acts = omega arith

  module _ (i k : ℕ) (v : CoerValue TypeCast) (u : CoerValue Coercion) (kept : ℕ) (c : TypeCast)
      (cs : List TypeCast) (label wanted : ℕ) (inner : Coercion) (more rest : Steps)
      (dyn : is_dyn (R c.from) ≡ true) (s : is_dyn (R kept) ≡ false) (j : Joins c.to cs)
      (path : solid R (steps_of (c ∷ cs)) ≡ Edge label wanted rest)
      (same : solid R (Edge label wanted more) ≡ Edge label wanted rest)
      (ends : last_type wanted more ≡ last_type c.to (steps_of cs))
      (f : IsFine (pile m (suc i) (RunInject v kept) (c ∷ cs))) where
    abbrev e1 : Coercion
    e1 = composition_of types (cast_of types kept wanted label) inner

    abbrev opened : Effort
    opened = opening_of_kind (cast_kind (row_at types kept) (row_at types wanted))

    abbrev first : Toll
    first = tolls (suc i) (RunInject v kept) (c ∷ cs)

    abbrev second : Toll
    second = tolls1 (suc k) (RunInject u kept) (Project wanted label inner ∷ [])

    pays : (extra : ℕ) → OneMore extra (first_clash R kept (Edge label wanted rest))
        (is_dyn (R (last_type c.to (steps_of cs))))
        → Pays types rows measures under (rows_kind (R kept) (R wanted)) (suc extra) first
    pays extra ok =
        dyn_pays types rows measures under (suc i) v kept c cs dyn s j f label wanted rest path extra ok

    -- the opening, and then what is made of what was inside
    opens_within : (a c b a1 b1 : ℕ) → effort_asks measures opened ≤ a1 → effort_budget measures opened ≤ b1
        → Within types rows measures under1 a c b (tolls1 k u (e1 ∷ []))
        → Within types rows measures under1 (a1 + a) (1 + c) (b1 + b) second
    opens_within a c b a1 b1 la lb w =
        then_within types rows measures under1 (effort_asks measures opened) (effort_acts opened)
        (effort_budget measures opened) (suc (0 + under1)) a c b a1 1 b1 (tolls1 k u (e1 ∷ [])) la
        (opening_acts (cast_kind (row_at types kept) (row_at types wanted))) lb (omega arith) w

    pub opens_fits : is_project e1 ≡ false → IsNormal R e1 → StandsFor R e1 kept (Edge label wanted more)
        → Fits under1 first second
    opens_fits p norm stands = of (weighs e1 kept (Edge label wanted more) s p norm stands)
      where
        -- wrappers are opened
        wide : (asks extra budget : ℕ) → asks ≤ half + 3 → budget ≤ 896 + 64 * half + 896 * extra
            → Within types rows measures under1 asks (1 + extra) budget (tolls1 k u (e1 ∷ []))
            → rows_kind (R kept) (R wanted) ≡ Wraps
            → OneMore extra (first_clash R kept (Edge label wanted rest))
            (is_dyn (R (last_type c.to (steps_of cs)))) → Fits under1 first second
        wide asks extra budget few cheap w wraps ok =
            let large = effort_large (cast_kind (row_at types kept) (row_at types wanted)) in
            let both = opens_within asks (1 + extra) budget (half + 13) (896 + 64 * half) large.0 large.1 w in
            let pay : Pays types rows measures under Wraps (suc extra) first =
            subst (λ z. Pays types rows measures under z (suc extra) first) wraps (pays extra ok) in
            let a = pay.most in
            let b = pay.budget in
            let acts = pay.acts in
            let x = both.asks in
            let y = both.budget in
            let made = both.acts in
            let z = two_halves in
            record {
              asks = omega (arith, a, x, z, few);
              acts = omega (arith, acts, made);
              budget = omega (arith, b, y, z, cheap);
              frames = both.frames;
            }

        light_at : Within types rows measures under1 3 1 896 (tolls1 k u (e1 ∷ []))
            → (opened ≡ Opens) ⊎ (rows_kind (R kept) (R wanted) ≡ Wraps) → Fits under1 first second
        light_at w (inl o) =
            let small = effort_small opened o in
            let both = opens_within 3 1 896 13 896 small.0 small.1 w in
            let a = (cast_pays types rows measures under i (RunInject v kept) c cs).most in
            let b = (pays 0 (inl refl)).budget in
            let acts = (pays 0 (inl refl)).acts in
            let l = kind_small (rows_kind (R kept) (R wanted)) in
            let x = both.asks in
            let y = both.budget in
            let made = both.acts in
            record {
              asks = omega (arith, a, x);
              acts = omega (arith, acts, made);
              budget = omega (arith, b, l, y);
              frames = both.frames;
            }
        light_at w (inr wraps) = wide 3 0 896 (omega arith) (omega arith) w wraps (inl refl)

        of : Weighs e1 kept (Edge label wanted more) → Fits under1 first second
        of (little w) = light_at (w k u) (opens_as kept wanted)
        of (much edge extra more_at w) =
            wide (half + 3) extra (896 + 64 * half + 896 * extra) (omega arith) (omega arith) (w k u) wraps ok
          where
            same_wanted : Edge edge.label edge.wanted edge.rest ≡ Edge label wanted rest → edge.wanted ≡ wanted
            same_wanted h = cc h

            wraps : rows_kind (R kept) (R wanted) ≡ Wraps
            wraps = ap (λ t. rows_kind (R kept) (R t)) (sym (same_wanted (sym edge.is ∙ same))) ∙ edge.wraps

            ok : OneMore extra (first_clash R kept (Edge label wanted rest)) (is_dyn (R (last_type c.to (steps_of cs))))
            ok =
                subst (λ t. OneMore extra (first_clash R kept (Edge label wanted rest)) (is_dyn (R t))) ends
                (subst (λ z. OneMore extra (first_clash R kept z) (is_dyn (R (last_type wanted more)))) same more_at)
