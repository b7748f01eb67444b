-- What piled casts ask for and pay: where the first of their types that is not Dyn has the head of the type before, and
-- parts, one of them wraps.
use Rattle.std.proofs.Common.{◌≡◌, ◌⊎◌, inl, inr, ℕ, zero, suc, ◌+◌, ◌*◌, ◌≤◌, Bool, true, false, List, [], ◌∷◌, length}
use Rattle.std.proofs.Common.{Option, Some, None, refl, sym, ap, ◌∙◌, subst, arith, if◌then◌else◌}
use Rattle.std.specs.Prelude.{max, cond, not, ◌&&◌}
use Rattle.std.proofs.Math.Nat.{le-max_left, le-max_right}
use Rattle.grift_base.specs.Types.{TypeRow, TypeRows, row_at, is_dyn, is_base, same_head}
use Rattle.core_calc.specs.Account.{Measures, StepKind, Wraps, Casts, rows_kind}
use Rattle.coercion_norm.specs.Coercions.{rows_of}
use Rattle.coercion_norm.specs.Paths.{Steps, Stop, Edge, last_type, in_front, solid, first_clash}
use Rattle.cast_modes.specs.Modes.{Injected, Decision, Keeping, Wrapping, Injecting, Opening, Blaming}
use Rattle.cast_modes.specs.Modes.{Mode, TypeCast, type_cast, decide, opening, piling}
use Rattle.cast_modes.specs.RunValues.{RunWrap, RunInject, shape_of}
use Rattle.coercion_norm.proofs.Public.{row_is, no_both}
use Rattle.coer_core.specs.Machine.{code_arity, CoerValue}
use Rattle.coer_core.specs.Results.{go_on, pile, IsFine}
use Rattle.coer_core.specs.Carrying.{steps_of, Joins}
use Rattle.coer_core.specs.Tally.{decision_kind, kind_asks, kind_budget}
use Rattle.coer_core.specs.Tolls.{Toll, one_toll, both_tolls, Price, kind_price, toll_on, pile_toll}
use Rattle.coer_core.proofs.TreeLike.{known}

pub left_most : (a b n : ℕ) → n ≤ a → n ≤ max a b
left_most a b n le = let l = le-max_left a b in omega (arith, l, le)

pub right_most : (a b n : ℕ) → n ≤ b → n ≤ max a b
right_most a b n le = let l = le-max_right a b in omega (arith, l, le)

-- nothing, or one cast more where a path goes on to Dyn without a clash
abbrev pub OneMore : ℕ → Option ℕ → Bool → Type 0
OneMore extra clash to_dyn = (extra ≡ 0) ⊎ ((extra ≡ 1) × (clash ≡ None) × (to_dyn ≡ true))

module _ (types : TypeRows) (rows : List TypeCast) (measures : Measures) (under : ℕ) where
  abbrev R : ℕ → TypeRow
  R = rows_of types

  abbrev m : Mode TypeCast
  m = piling types rows

  abbrev price : Price TypeCast
  price = kind_price m measures

  -- one turn asks for what a step of the kind may ask for, and all pay for that step and for so many others
  pub record Pays (kind : StepKind) (more : ℕ) (toll : Toll) : Type 0 where
    pub most : kind_asks measures (Some kind) 0 ≤ toll.most
    pub acts : suc more ≤ toll.acts
    pub budget : kind_budget measures (Some kind) 0 + 896 * more ≤ toll.budget

  abbrev tolls : ℕ → CoerValue TypeCast → List TypeCast → Toll
  tolls n v cs = pile_toll price under m n v cs

  decision_budget : (d : Decision TypeCast) → 896 ≤ kind_budget measures (Some (decision_kind d)) 0
  decision_budget (Wrapping c) = omega arith
  decision_budget _ = omega arith

  decision_asks : (d : Decision TypeCast) → 16 ≤ kind_asks measures (Some (decision_kind d)) 0
  decision_asks (Wrapping c) = omega arith
  decision_asks _ = omega arith

  -- a cast that is made
  pub cast_pays : (n : ℕ) (v : CoerValue TypeCast) (c : TypeCast) (cs : List TypeCast)
      → Pays Casts 0 (tolls (suc n) v (c ∷ cs))
  cast_pays n v c cs =
      let d = m.cast c (shape_of code_arity v) in
      let a = decision_asks d in
      let b = decision_budget d in
      record {
        most = left_most (kind_asks measures (Some (decision_kind d)) 0) _ 16 a;
        acts = omega arith;
        budget = omega (arith, b);
      }

  -- from a type other than Dyn to Dyn there is a cast
  goes_on : (n : ℕ) (v : CoerValue TypeCast) (cs : List TypeCast) (t : ℕ) → is_dyn (R t) ≡ false
      → is_dyn (R (last_type t (steps_of cs))) ≡ true → IsFine (pile m n v cs)
      → (1 ≤ (tolls n v cs).acts) × (896 ≤ (tolls n v cs).budget)
  goes_on n v [] t s e f = no_both (is_dyn (R t)) e s
  goes_on zero v (c ∷ cs) t s e f = absurd f
  goes_on (suc n) v (c ∷ cs) t s e f =
      let p = (cast_pays n v c cs).budget in (omega arith, omega (arith, p))

  -- at a value of a type other than Dyn
  abbrev AtSolid : ℕ → Type 0
  AtSolid n =
      (v : CoerValue TypeCast) (c : TypeCast) (cs : List TypeCast) → is_dyn (R c.from) ≡ false → Joins c.to cs
      → IsFine (pile m n v (c ∷ cs)) → (label wanted : ℕ) (rest : Steps)
      → solid R (steps_of (c ∷ cs)) ≡ Edge label wanted rest → (extra : ℕ)
      → OneMore extra (first_clash R c.from (Edge label wanted rest)) (is_dyn (R (last_type c.to (steps_of cs))))
      → Pays (rows_kind (R c.from) (R wanted)) extra (tolls n v (c ∷ cs))

  -- at a value in Dyn, which is taken out of it
  abbrev AtDyn : ℕ → Type 0
  AtDyn n =
      (v : CoerValue TypeCast) (kept : ℕ) (c : TypeCast) (cs : List TypeCast) → is_dyn (R c.from) ≡ true
      → is_dyn (R kept) ≡ false → Joins c.to cs → IsFine (pile m n (RunInject v kept) (c ∷ cs))
      → (label wanted : ℕ) (rest : Steps) → solid R (steps_of (c ∷ cs)) ≡ Edge label wanted rest → (extra : ℕ)
      → OneMore extra (first_clash R kept (Edge label wanted rest)) (is_dyn (R (last_type c.to (steps_of cs))))
      → Pays (rows_kind (R kept) (R wanted)) (suc extra) (tolls n (RunInject v kept) (c ∷ cs))

  -- the toll of a cast by what is decided
  abbrev by_decision : ℕ → CoerValue TypeCast → List TypeCast → Decision TypeCast → Toll
  by_decision n v cs d =
      both_tolls (one_toll (kind_asks measures (Some (decision_kind d)) 0) 1
      (kind_budget measures (Some (decision_kind d)) 0) (suc (length cs + under)))
      (toll_on (λ x l. tolls n x l) d v cs)

  abbrev PaysBy : ℕ → CoerValue TypeCast → List TypeCast → StepKind → ℕ → Decision TypeCast → Type 0
  PaysBy n v cs kind more d =
      IsFine (go_on (λ x l. pile m n x l) d v cs) → Pays kind more (by_decision n v cs d)

  no_edge : (label wanted : ℕ) (rest : Steps) → Stop ≡ Edge label wanted rest → ⊥
  no_edge label wanted rest e = cc

  -- behind a cast that only turns over what is left
  behind : (kind : StepKind) (more : ℕ) (toll : Toll) (asks acts budget frames : ℕ) → Pays kind more toll
      → Pays kind more (both_tolls (one_toll asks acts budget frames) toll)
  behind kind more toll asks acts budget frames p = record {
    most = right_most asks toll.most _ p.most;
    acts = let a = p.acts in omega (arith, a);
    budget = let b = p.budget in omega (arith, b);
  }

  opened : (kind : StepKind) (extra : ℕ) (toll : Toll) (asks frames : ℕ) → Pays kind extra toll
      → Pays kind (suc extra) (both_tolls (one_toll asks 1 896 frames) toll)
  opened kind extra toll asks frames p = record {
    most = right_most asks toll.most _ p.most;
    acts = let a = p.acts in omega (arith, a);
    budget = let b = p.budget in omega (arith, b);
  }

  module _ (n : ℕ) (at_solid : AtSolid n) (at_dyn : AtDyn n) where
    module _ (v : CoerValue TypeCast) (c : TypeCast) (cs : List TypeCast) (s : is_dyn (R c.from) ≡ false)
        (j : Joins c.to cs) (label wanted : ℕ) (rest : Steps) (extra : ℕ)
        (ok : OneMore extra (first_clash R c.from (Edge label wanted rest)) (is_dyn (R (last_type c.to (steps_of cs)))))
      where
        abbrev kind : StepKind
        kind = rows_kind (R c.from) (R wanted)

        -- into Dyn, and out of it later
        into_dyn : (cs : List TypeCast) → Joins c.to cs → is_dyn (R c.to) ≡ true
            → OneMore extra (first_clash R c.from (Edge label wanted rest)) (is_dyn (R (last_type c.to (steps_of cs))))
            → solid R (steps_of cs) ≡ Edge label wanted rest → PaysBy n v cs kind extra (Injecting c.from)
        into_dyn [] j d ok e f = absurd (no_edge label wanted rest e)
        into_dyn (a ∷ cs) j d ok e f =
            let p = at_dyn v c.from a cs (ap (λ t. is_dyn (R t)) j.0 ∙ d) s j.1 f label wanted rest e extra ok in
            let b = p.budget in
            let acts = p.acts in
            record { most = right_most 16 _ _ p.most; acts = omega (arith, acts); budget = omega (arith, b) }

        extra_paid : (x : CoerValue TypeCast) → is_dyn (R c.to) ≡ false → IsFine (pile m n x cs)
            → (extra ≤ (tolls n x cs).acts) × (896 * extra ≤ (tolls n x cs).budget)
        extra_paid x d f = of ok
          where
            of : OneMore extra (first_clash R c.from (Edge label wanted rest))
                (is_dyn (R (last_type c.to (steps_of cs))))
                → (extra ≤ (tolls n x cs).acts) × (896 * extra ≤ (tolls n x cs).budget)
            of (inl z) = (omega (arith, z), omega (arith, z))
            of (inr q) =
                let l = goes_on n x cs c.to d q.2 f in (omega (arith, q.0, l.0), omega (arith, q.0, l.1))

        none_extra : same_head (R c.from) (R c.to) ≡ false → c.to ≡ wanted → extra ≡ 0
        none_extra h w = of ok
          where
            clashes : first_clash R c.from (Edge label wanted rest) ≡ Some label
            clashes =
                ap (λ b. cond b (first_clash R wanted rest) (Some label))
                (ap (λ t. same_head (R c.from) (R t)) (sym w) ∙ h)

            some_none : Some label ≡ None → ⊥
            some_none e = cc

            of : OneMore extra (first_clash R c.from (Edge label wanted rest))
                (is_dyn (R (last_type c.to (steps_of cs)))) → extra ≡ 0
            of (inl z) = z
            of (inr q) = absurd (some_none (sym clashes ∙ q.1))

        -- the kind of the cast from the one type to the other
        kind_is : is_dyn (R c.to) ≡ false → c.to ≡ wanted
            → kind ≡ cond (same_head (R c.from) (R c.to)) (cond (is_base (R c.from)) Casts Wraps) Casts
        kind_is d w = subst (λ t. rows_kind (R c.from) (R t)
            ≡ cond (same_head (R c.from) (R c.to)) (cond (is_base (R c.from)) Casts Wraps) Casts) w
            (of (same_head (R c.from) (R c.to)) refl)
          where
            of : (b : Bool) → same_head (R c.from) (R c.to) ≡ b
                → rows_kind (R c.from) (R c.to) ≡ cond b (cond (is_base (R c.from)) Casts Wraps) Casts
            of true h = rw (s, d, h) refl
            of false h = rw (s, d, h) refl

        -- to a type other than Dyn
        to_base : (b : Bool) → is_base (R c.from) ≡ b → is_dyn (R c.to) ≡ false → c.to ≡ wanted
            → same_head (R c.from) (R c.to) ≡ true
            → PaysBy n v cs kind extra (if b then Keeping else Wrapping c)
        to_base true e d w h f =
            let l = extra_paid v d f in
            let k : kind ≡ Casts = kind_is d w ∙ ap (λ b. cond b (cond (is_base (R c.from)) Casts Wraps) Casts) h
            ∙ ap (λ b. cond b Casts Wraps) e in
            subst (λ z. Pays z extra (by_decision n v cs Keeping)) (sym k)
            (record {
              most = left_most 16 _ 16 (omega arith);
              acts = omega (arith, l.0);
              budget = omega (arith, l.1);
            })
        to_base false e d w h f =
            let l = extra_paid (RunWrap v c) d f in
            let k : kind ≡ Wraps = kind_is d w ∙ ap (λ b. cond b (cond (is_base (R c.from)) Casts Wraps) Casts) h
            ∙ ap (λ b. cond b Casts Wraps) e in
            subst (λ z. Pays z extra (by_decision n v cs (Wrapping c))) (sym k)
            (record {
              most = left_most (kind_asks measures (Some Wraps) 0) _ _ (omega arith);
              acts = omega (arith, l.0);
              budget = omega (arith, l.1);
            })

        to_solid : (b : Bool) → same_head (R c.from) (R c.to) ≡ b → is_dyn (R c.to) ≡ false → c.to ≡ wanted
            → PaysBy n v cs kind extra
            (if not b then Blaming c.label else if is_base (R c.from) then Keeping else Wrapping c)
        to_solid true h d w f = to_base (is_base (R c.from)) refl d w h f
        to_solid false h d w f =
            let z = none_extra h w in
            let k : kind ≡ Casts = kind_is d w ∙ ap (λ b. cond b (cond (is_base (R c.from)) Casts Wraps) Casts) h in
            subst (λ z. Pays z extra (by_decision n v cs (Blaming c.label))) (sym k)
            (record { most = omega arith; acts = omega (arith, z); budget = omega (arith, z) })

        solid_decided : (b : Bool) → is_dyn (R c.to) ≡ b
            → in_front b c.label c.to (solid R (steps_of cs)) ≡ Edge label wanted rest
            → PaysBy n v cs kind extra (if false && b then Keeping else if b then Injecting c.from else if false
            then opening (shape_of code_arity v) c else if not (same_head (R c.from) (R c.to)) then Blaming c.label
            else if is_base (R c.from) then Keeping else Wrapping c)
        solid_decided true d e = into_dyn cs j d ok e
        solid_decided false d e = to_solid (same_head (R c.from) (R c.to)) refl d cc

    solid_next : AtSolid (suc n)
    solid_next v c cs s j f label wanted rest e extra ok =
        known types rows (PaysBy n v cs (rows_kind (R c.from) (R wanted)) extra) c (shape_of code_arity v)
        (λ f. absurd f) (λ row other e1 e2. decided row other e1 e2) f
      where
        decided : (row other : TypeRow) → row_at types c.from ≡ Some row → row_at types c.to ≡ Some other
            → PaysBy n v cs (rows_kind (R c.from) (R wanted)) extra (decide row other c (shape_of code_arity v))
        decided row other e1 e2 =
            subst (λ x. PaysBy n v cs (rows_kind (R c.from) (R wanted)) extra
            (decide x other c (shape_of code_arity v))) (row_is types c.from row e1)
            (subst (λ x. PaysBy n v cs (rows_kind (R c.from) (R wanted)) extra
            (decide (R c.from) x c (shape_of code_arity v))) (row_is types c.to other e2)
            (subst (λ b. PaysBy n v cs (rows_kind (R c.from) (R wanted)) extra
            (if b && is_dyn (R c.to) then Keeping else if is_dyn (R c.to) then Injecting c.from else if b then
            opening (shape_of code_arity v) c else if not (same_head (R c.from) (R c.to)) then Blaming c.label
            else if is_base (R c.from) then Keeping else Wrapping c)) (sym s)
            (solid_decided v c cs s j label wanted rest extra ok (is_dyn (R c.to)) refl e)))

    module _ (v : CoerValue TypeCast) (kept : ℕ) (c : TypeCast) (s : is_dyn (R kept) ≡ false) (label wanted : ℕ)
        (rest : Steps) (extra : ℕ) where
      abbrev Goal : List TypeCast → Decision TypeCast → Type 0
      Goal cs d = PaysBy n (RunInject v kept) cs (rows_kind (R kept) (R wanted)) (suc extra) d

      abbrev Ok : List TypeCast → Type 0
      Ok cs =
          OneMore extra (first_clash R kept (Edge label wanted rest)) (is_dyn (R (last_type c.to (steps_of cs))))

      stays : (cs : List TypeCast) → Joins c.to cs → Ok cs → is_dyn (R c.to) ≡ true
          → solid R (steps_of cs) ≡ Edge label wanted rest → Goal cs Keeping
      stays [] j ok d e f = absurd (no_edge label wanted rest e)
      stays (a ∷ cs) j ok d e f =
          behind (rows_kind (R kept) (R wanted)) (suc extra) (tolls n (RunInject v kept) (a ∷ cs)) 16 1 896
          (suc (length (a ∷ cs) + under))
          (at_dyn v kept a cs (ap (λ t. is_dyn (R t)) j.0 ∙ d) s j.1 f label wanted rest e extra ok)

      opens : (cs : List TypeCast) → Joins c.to cs → Ok cs
          → solid R (steps_of (c ∷ cs)) ≡ Edge label wanted rest
          → Goal cs (Opening (type_cast kept c.label c.to))
      opens cs j ok e f =
          opened (rows_kind (R kept) (R wanted)) extra (tolls n v (type_cast kept c.label c.to ∷ cs)) 16
          (suc (length cs + under))
          (at_solid v (type_cast kept c.label c.to) cs s j f label wanted rest e extra ok)

      dyn_decided : (cs : List TypeCast) → Joins c.to cs → Ok cs → (b : Bool) → is_dyn (R c.to) ≡ b
          → solid R (steps_of (c ∷ cs)) ≡ Edge label wanted rest
          → in_front b c.label c.to (solid R (steps_of cs)) ≡ Edge label wanted rest
          → Goal cs (if true && b then Keeping else if b then Injecting c.from
          else Opening (type_cast kept c.label c.to))
      dyn_decided cs j ok true d e h = stays cs j ok d h
      dyn_decided cs j ok false d e h = opens cs j ok e

    dyn_next : AtDyn (suc n)
    dyn_next v kept c cs d s j f label wanted rest e extra ok =
        known types rows (Goal v kept c s label wanted rest extra cs) c (Injected kept) (λ f. absurd f)
        (λ row other e1 e2. decided row other e1 e2) f
      where
        decided : (row other : TypeRow) → row_at types c.from ≡ Some row → row_at types c.to ≡ Some other
            → Goal v kept c s label wanted rest extra cs (decide row other c (Injected kept))
        decided row other e1 e2 =
            subst (λ x. Goal v kept c s label wanted rest extra cs (decide x other c (Injected kept)))
            (row_is types c.from row e1)
            (subst (λ x. Goal v kept c s label wanted rest extra cs (decide (R c.from) x c (Injected kept)))
            (row_is types c.to other e2)
            (subst (λ b. Goal v kept c s label wanted rest extra cs
            (if b && is_dyn (R c.to) then Keeping else if is_dyn (R c.to) then Injecting c.from else if b then
            opening (Injected kept) c else if not (same_head (R c.from) (R c.to)) then Blaming c.label
            else if is_base (R c.from) then Keeping else Wrapping c)) (sym d)
            (dyn_decided v kept c s label wanted rest extra cs j ok (is_dyn (R c.to)) refl e e)))

  -- by how many casts there are at most
  both_pay : (n : ℕ) → AtSolid n × AtDyn n
  both_pay zero = (
    λ v c cs s j f label wanted rest e extra ok. absurd f,
    λ v kept c cs d s j f label wanted rest e extra ok. absurd f,
  )
  both_pay (suc n) =
      let below = both_pay n in (solid_next n below.0 below.1, dyn_next n below.0 below.1)

  -- where the next type other than Dyn is wanted, one turn asks for what the cast to it may ask for
  pub solid_pays : (n : ℕ) → AtSolid n
  solid_pays n = (both_pay n).0

  pub dyn_pays : (n : ℕ) → AtDyn n
  dyn_pays n = (both_pay n).1
