-- What compose does, by the height of the coercions.
use Rattle.std.proofs.Common.{◌≡◌, inl, inr, ℕ, zero, suc, ◌+◌, ◌*◌, ◌<◌, ◌≤◌, Bool, true}
use Rattle.std.proofs.Common.{false, cond, List, [], ◌∷◌, Option, Some, None, refl, ap, ap₂, ◌∙◌}
use Rattle.std.proofs.Common.{subst, arith, nat_eq}
use Rattle.std.specs.Prelude.{◌==◌, length}
use Rattle.rt_cast.specs.States.{Heap, Fine, st}
use Rattle.grift_base.specs.Types.{TypeRow, is_dyn, same_head}
use Rattle.low_ir.specs.declared.code.LowSource.TheVariants.{Word, Number}
use Rattle.low_ir.specs.Run.{Waiting, bind}
use Rattle.coercion_norm.specs.declared.middles.MiddleKind.{MiddleKind as Kind}
use Rattle.coercion_norm.specs.Coercions.{Coercion, Coercions, Id, Fail, Middle, Inject, Project}
use Rattle.coercion_norm.specs.Coercions.{all_id, kind_of, runs_back, slots}
use Rattle.coercion_norm.specs.Composition.{final, coerce_parts, coerce_middle, coerce_solid, coerce_below}
use Rattle.coercion_norm.specs.Composition.{coerce_to, coerce_by, follow, follow_part, after_middle, after_inner}
use Rattle.coercion_norm.specs.Composition.{compose_below, compose_to}
use Rattle.coercion_norm.specs.Heights.{coercion_height, NoHigher, TypeNoHigher}
use Rattle.coercion_norm.specs.Normal.{IsNormal, is_flat, is_project}
use Rattle.coercion_norm.proofs.Public.{compose_height, coerce_height, final_height, compose_normal, coerce_normal}
use Rattle.coercion_norm.proofs.Public.{height_from_bound}
use Rattle.rt_cast.specs.Costs.{both_cost, coerce_cost, middle_cost, meet_cost, compose_cost, middle_words, both_price}
use Rattle.rt_cast.specs.Costs.{front_words, front_price, coerce_words, coerce_price, compose_words, compose_price}
use Rattle.coercion_norm.specs.Objects.{Object, Fixed}
use Rattle.coercion_norm.specs.Held.{There, Held, rows_in, height_in}
use Rattle.coercion_norm.specs.ObjectsOfRows.{header, kind_number}
use Rattle.rt_cast.specs.ComposeCodes.{compose_code}
use Rattle.low_ir.specs.Steps.{no_locals}
use Rattle.rt_cast.proofs.Steps.{Budget, More, at_most, if_true, if_false}
use Rattle.rt_cast.proofs.Small.{ReachedIn, grows_not, numbers}
use Rattle.rt_cast.proofs.Middles.{Answers}
use Rattle.rt_cast.proofs.PartWords.{count, nth, nth_normal, nth_low, follow_at}
use Rattle.rt_cast.proofs.ComposeSteps.{ComposeDoes, CoerceDoes, id_first, fail_first, id_second, reads_both, no_middle}
use Rattle.rt_cast.proofs.ComposeSteps.{onto, projects, meets, both}
use Rattle.rt_cast.proofs.Walks.{Walk}
use Rattle.rt_cast.proofs.Objects.{inject_header}

-- no Inject and no Project
abbrev pub is_plain : Coercion → Bool
is_plain Id = true
is_plain (Fail label) = true
is_plain (Middle kind parts) = true
is_plain (Inject g kept) = false
is_plain (Project wanted label i) = false

plain_cond : (b : Bool) (c d : Coercion) → is_plain c ≡ true → is_plain d ≡ true → is_plain (cond b c d) ≡ true
plain_cond true c d p q = p
plain_cond false c d p q = q

plain_middle : (rows : ℕ → TypeRow) (next : ℕ → ℕ → ℕ → Coercion) (o : Option Kind) (s t p : ℕ)
    → is_plain (coerce_middle rows next o s t p) ≡ true
plain_middle rows next None s t p = refl
plain_middle rows next (Some kind) s t p = plain_cond (all_id (coerce_parts rows next kind s t p (slots rows s) 0)) Id
    (Middle kind (coerce_parts rows next kind s t p (slots rows s) 0)) refl refl

pub plain_solid : (rows : ℕ → TypeRow) (next : ℕ → ℕ → ℕ → Coercion) (s t p : ℕ) → is_plain (coerce_solid rows next s t
    p) ≡ true
plain_solid rows next s t p =
    plain_cond (nat_eq s t) Id (cond (same_head (rows s) (rows t)) (coerce_middle rows next (kind_of (rows s)) s t p)
    (Fail p)) refl
    (plain_cond (same_head (rows s) (rows t)) (coerce_middle rows next (kind_of (rows s)) s t p) (Fail p) (plain_middle
    rows next (kind_of (rows s)) s t p) refl)

flat_plain : (c : Coercion) → is_flat c ≡ true → is_plain c ≡ true
flat_plain Id e = refl
flat_plain (Fail label) e = refl
flat_plain (Middle kind parts) e = refl
flat_plain (Inject g kept) e = e
flat_plain (Project wanted label i) e = e

pub follow_plain : (next : Coercion → Coercion → Coercion) (coerce : ℕ → ℕ → ℕ → Coercion) (c d : Coercion) → is_plain c
    ≡ true → follow next coerce c d ≡ after_inner next c d
follow_plain next coerce Id d e = refl
follow_plain next coerce (Fail label) d e = refl
follow_plain next coerce (Middle kind parts) d e = refl
follow_plain next coerce (Inject g kept) d e = absurd (clash e)
  where
    clash : false ≡ true → ⊥
    clash q = cc
follow_plain next coerce (Project wanted label i) d e = absurd (clash e)
  where
    clash : false ≡ true → ⊥
    clash q = cc

-- between types that are not Dyn
pub solid_is : (rows : ℕ → TypeRow) (n kept wanted label : ℕ) → is_dyn (rows kept) ≡ false → is_dyn (rows wanted) ≡
    false
    → coerce_to rows n kept wanted label ≡ coerce_solid rows (coerce_below rows n) kept wanted label
solid_is rows n kept wanted label a b = ap₂ (λ x y. coerce_by rows (coerce_below rows n) x y kept wanted label) a b

module _ {V : Type 0} (walk : Walk V) where
  abbrev R : ℕ → TypeRow
  R = (rows_in walk.l)

  abbrev tall : ℕ → ℕ
  tall = (height_in walk.l)

  abbrev Does : ℕ → ℕ → ℕ → ℕ → Coercion → Coercion → Coercion → Type 0
  Does = ComposeDoes walk

  low_height : (n : ℕ) → n ≤ 65534 → (c : Coercion) → NoHigher R c n → coercion_height tall c < 65535
  low_height n le c h = let z = height_from_bound R tall walk.types.heights c n h in omega arith

  -- coercions of this height
  abbrev pub All : ℕ → Type 0
  All n = (c d : Coercion) → IsNormal R c → IsNormal R d → NoHigher R c n → NoHigher R d n
      → Does (compose_cost walk.l.width n) (suc (suc (suc (suc (4 * n))))) (compose_words walk.l.width n)
      (compose_price walk.l.width n) c d (compose_to R n c d)

  abbrev pub AllCasts : ℕ → Type 0
  AllCasts n = (from to label : ℕ) → TypeNoHigher R n from → TypeNoHigher R n to → CoerceDoes walk
      (coerce_cost walk.l.width n) (suc n) (coerce_words walk.l.width n) (coerce_price walk.l.width n) from to label
      (coerce_to R n from to label)

  -- a Fail follows an object that is neither a Fail nor a Project
  -- more may be allowed
  more : (a b x y v w p q : ℕ) (c d e : Coercion) → Does a x v p c d e → a ≤ b → x ≤ y → v ≤ w → p ≤ q
      → Does b y w q c d e
  more a b x y v w p q c d e does le deeper wider dearer B objects h fine waiting wc wd hc hd go =
      at_most walk (does B objects h fine waiting wc wd hc hd go)
      (omega (arith, le), omega (arith, deeper), omega (arith, wider), omega (arith, dearer))

  fail_second : {B : Budget} → (label : ℕ) (objects : List Object) (h : Heap) (fine : Fine walk.setting walk.l
      walk.around objects h) (waiting : List Waiting) (wc wd k y m : ℕ) (ws : List ℕ) → There walk.l objects wc
      (Fixed (header k y m) ws) → k < 256 → (k == 14) ≡ false → (k == 8) ≡ false → Held walk.l objects (Fail label) wd
      → Answers walk B objects waiting (Fail label) → ReachedIn walk (More 10 0 0 92 B) (st walk.around 12
      (bind 0 (wc ∷ wd ∷ [])
      no_locals) (compose_code walk.first) [] waiting h)
  fail_second label objects h fine waiting wc wd k y m ws there lt no14 no8 hd go =
      at_most walk
      (reads_both walk objects h fine waiting wc wd k y m ws there lt no14 no8 8 0 1 (label ∷ []) hd (omega arith)
      (λ rests. if_true walk objects fine 8 8 refl refl refl
      (go objects h wd 12 _ _ (Word 1) (grows_not objects) fine hd refl)))
      (omega arith, omega arith, omega arith, omega arith)

  -- the words and the price of two middles and of a middle first, by the height of their parts
  abbrev both_words : ℕ → ℕ
  both_words m = middle_words walk.l.width (compose_words walk.l.width m)

  abbrev two_price : ℕ → ℕ
  two_price m = both_price walk.l.width (compose_price walk.l.width m)

  abbrev first_words : ℕ → ℕ
  first_words m = front_words walk.l.width (compose_words walk.l.width m)

  abbrev first_price : ℕ → ℕ
  first_price m = front_price walk.l.width (compose_price walk.l.width m)

  -- a middle before Id or a middle
  middle_flat : (m : ℕ) → suc m ≤ 65534 → All m → (kind : Kind) (cs : Coercions) → IsNormal R (Middle kind cs)
      → NoHigher R (Middle kind cs) (suc m) → (d : Coercion) → is_flat d ≡ true → IsNormal R d → NoHigher R d (suc m)
      → Does (both_cost walk.l.width (compose_cost walk.l.width m)) (suc (4 * suc m)) (both_words m) (two_price m)
      (Middle kind cs) d (after_middle (compose_below R (suc m)) kind cs d)
  middle_flat m le all kind cs nc lc Id f nd ld = λ B objects h fine waiting wc wd hc hd go.
      at_most walk (id_second walk objects h fine waiting wc wd (kind_number kind) (coercion_height tall
      (Middle kind cs)) (length hc.0) hc.0 hc.1 (numbers kind) (no_middle kind 14 (inr (omega arith)))
      (no_middle kind 8 (inl refl)) hd (Middle kind cs) hc go) (omega arith, omega arith, omega arith, omega arith)
  middle_flat m le all kind cs nc lc (Fail label) f nd ld = absurd (clash f)
    where
      clash : false ≡ true → ⊥
      clash q = cc
  middle_flat m le all kind cs nc lc (Inject g kept) f nd ld = absurd (clash f)
    where
      clash : false ≡ true → ⊥
      clash q = cc
  middle_flat m le all kind cs nc lc (Project wanted label i) f nd ld = absurd (clash f)
    where
      clash : false ≡ true → ⊥
      clash q = cc
  middle_flat m le all kind cs nc lc (Middle other ds) f nd ld =
      more (both_cost walk.l.width (compose_cost walk.l.width m)) (both_cost walk.l.width (compose_cost walk.l.width m))
      (suc (suc (suc (suc (suc (4 * m)))))) (suc (4 * suc m)) (both_words m) (both_words m) (two_price m) (two_price m)
      (Middle kind cs) (Middle other ds) (after_middle (compose_below R (suc m)) kind cs (Middle other ds))
      (both walk (compose_cost walk.l.width m) (suc (suc (suc (suc (4 * m))))) (compose_words walk.l.width m)
      (compose_price walk.l.width m) (compose_below R (suc m)) kind other cs
      ds (let z = low_height (suc m) le (Middle kind cs) lc in omega arith) (let z = low_height (suc m) le
      (Middle other ds) ld in omega arith)
      (λ i. all (nth cs i) (nth ds i) (nth_normal R cs nc.1 i) (nth_normal R ds nd.1 i) (nth_low R m cs lc i)
      (nth_low R m ds ld i))
      (λ i. all (nth ds i) (nth cs i) (nth_normal R ds nd.1 i) (nth_normal R cs nc.1 i) (nth_low R m ds ld i)
      (nth_low R m cs lc i))
      (λ i. low_height m (omega (arith, le)) (follow_at (compose_below R (suc m)) kind cs ds i)
      (each (runs_back kind (suc i == count cs)) i))) (omega arith) (omega arith) (omega arith) (omega arith)
    where
      each : (b : Bool) (i : ℕ) → NoHigher R (follow_part (compose_below R (suc m)) b (nth cs i) (nth ds i)) m
      each true i = compose_height R m m (nth ds i) (nth cs i) (nth_low R m ds ld i) (nth_low R m cs lc i)
      each false i = compose_height R m m (nth cs i) (nth ds i) (nth_low R m cs lc i) (nth_low R m ds ld i)

  middle_at : (m : ℕ) → suc m ≤ 65534 → All m → (kind : Kind) (cs : Coercions) → IsNormal R (Middle kind cs)
      → NoHigher R (Middle kind cs) (suc m) → (d : Coercion) → IsNormal R d → NoHigher R d (suc m)
      → Does (middle_cost walk.l.width (compose_cost walk.l.width m)) (suc (suc (4 * suc m))) (first_words m)
      (first_price m) (Middle kind cs) d (after_middle (compose_below R (suc m)) kind cs d)
  middle_at m le all kind cs nc lc Id nd ld = more (both_cost walk.l.width (compose_cost walk.l.width m))
      (middle_cost walk.l.width (compose_cost walk.l.width m)) (suc (4 * suc m)) (suc (suc (4 * suc m)))
      (both_words m) (first_words m) (two_price m) (first_price m)
      (Middle kind cs) Id (Middle kind cs) (middle_flat m le all kind cs nc lc Id refl nd ld) (omega arith)
      (omega arith) (omega arith) (omega arith)
  middle_at m le all kind cs nc lc (Fail label) nd ld = λ B objects h fine waiting wc wd hc hd go.
      at_most walk (fail_second label objects h fine waiting wc wd (kind_number kind) (coercion_height tall
      (Middle kind cs)) (length hc.0) hc.0 hc.1 (numbers kind) (no_middle kind 14 (inr (omega arith)))
      (no_middle kind 8 (inl refl)) hd go) (omega arith, omega arith, omega arith, omega arith)
  middle_at m le all kind cs nc lc (Middle other ds) nd ld = more (both_cost walk.l.width (compose_cost walk.l.width m))
      (middle_cost walk.l.width (compose_cost walk.l.width m)) (suc (4 * suc m)) (suc (suc (4 * suc m)))
      (both_words m) (first_words m) (two_price m) (first_price m)
      (Middle kind cs) (Middle other ds) (after_middle (compose_below R (suc m)) kind cs (Middle other ds))
      (middle_flat m le all kind cs nc lc (Middle other ds) refl nd ld) (omega arith) (omega arith) (omega arith)
      (omega arith)
  middle_at m le all kind cs nc lc (Inject g kept) nd ld =
      more (both_cost walk.l.width (compose_cost walk.l.width m) + 40) (middle_cost walk.l.width (compose_cost
      walk.l.width m)) (suc (suc (4 * suc m))) (suc (suc (4 * suc m))) (both_words m + 3) (first_words m)
      (two_price m + 393) (first_price m) (Middle kind cs) (Inject g kept)
      (after_middle (compose_below R (suc m)) kind cs (Inject g kept)) (onto walk (both_cost walk.l.width
      (compose_cost walk.l.width m)) (suc (4 * suc m)) (both_words m) (two_price m) kind cs g (after_middle
      (compose_below R (suc m)) kind cs g)
      kept (low_height (suc m) le (after_middle (compose_below R (suc m)) kind cs g) (compose_height R (suc m)
      (suc m) (Middle kind cs) g lc ld.0)) (middle_flat m le all kind cs nc lc g nd.0 nd.1 ld.0)) (omega arith)
      (omega arith) (omega arith) (omega arith)
  middle_at m le all kind cs nc lc (Project wanted label i) nd ld = λ B objects h fine waiting wc wd hc hd go.
      at_most walk
      (reads_both walk objects h fine waiting wc wd (kind_number kind) (coercion_height tall (Middle kind cs))
      (length hc.0) hc.0 hc.1 (numbers kind) (no_middle kind 14 (inr (omega arith))) (no_middle kind 8 (inl refl))
      14 (coercion_height tall (Project wanted label i)) 3 (hd.0 ∷ label ∷ hd.1 ∷ []) hd.2 (omega arith)
      (λ rests. if_false walk objects fine 14 8 refl refl refl
      (if_false walk objects fine (kind_number kind) 13 refl refl (no_middle kind 13 (inr (omega arith)))
      (if_false walk objects fine 14 13 refl refl refl
      (if_false walk objects fine (kind_number kind) 14 refl refl (no_middle kind 14 (inr (omega arith)))
      (go objects h 0 12 _ _ (Number 0) (grows_not objects) fine refl refl))))))
      (omega arith, omega arith, omega arith, omega arith)

  -- the turns of a part
  abbrev pub below_cost : ℕ → ℕ
  below_cost zero = 0
  below_cost (suc m) = compose_cost walk.l.width m

  -- the words and the price of a middle first, by its height; at height 0 there is none
  abbrev pub below_words : ℕ → ℕ
  below_words zero = 0
  below_words (suc m) = first_words m

  abbrev pub below_price : ℕ → ℕ
  below_price zero = 56
  below_price (suc m) = first_price m

  some_price : (n : ℕ) → 56 ≤ below_price n
  some_price zero = omega arith
  some_price (suc m) = omega arith

  -- what a composition comes to by these
  pub steps_are : (n : ℕ) → compose_cost walk.l.width n ≡ meet_cost walk.l.width (coerce_cost walk.l.width n)
      (below_cost n) + 45
  steps_are zero = refl
  steps_are (suc m) = refl

  pub words_are : (n : ℕ) → compose_words walk.l.width n ≡ 4 + coerce_words walk.l.width n + 2 * below_words n
  words_are zero = refl
  words_are (suc m) = refl

  pub price_is : (n : ℕ) → compose_price walk.l.width n ≡ 635 + coerce_price walk.l.width n + 2 * below_price n
  price_is zero = refl
  price_is (suc m) = refl

  abbrev Below : ℕ → Type 0
  Below zero = Unit {0}
  Below (suc m) = All m

  middle_by : (n : ℕ) → n ≤ 65534 → Below n → (kind : Kind) (cs : Coercions) (d : Coercion) → IsNormal R
      (Middle kind cs) → IsNormal R d → NoHigher R (Middle kind cs) n → NoHigher R d n → Does (middle_cost walk.l.width
      (below_cost n)) (suc (suc (4 * n))) (below_words n) (below_price n) (Middle kind cs) d
      (compose_to R n (Middle kind cs) d)
  middle_by zero le below kind cs d nc nd lc ld = absurd lc
  middle_by (suc m) le below kind cs d nc nd lc ld = middle_at m le below kind cs nc lc d nd ld

  plain_at : (n : ℕ) → n ≤ 65534 → Below n → (c d : Coercion) → is_plain c ≡ true → IsNormal R c → IsNormal R d
      → NoHigher R c n → NoHigher R d n → Does (middle_cost walk.l.width (below_cost n)) (suc (suc (4 * n)))
      (below_words n) (below_price n) c d (compose_to R n c d)
  plain_at n le below Id d e nc nd lc ld = more 1 (middle_cost walk.l.width (below_cost n)) 0 (suc (suc (4 * n))) 0
      (below_words n) 20 (below_price n) Id d d (id_first walk d) (omega arith) (omega arith) (omega arith)
      (let s = some_price n in omega (arith, s))
  plain_at n le below (Fail label) d e nc nd lc ld = more 5 (middle_cost walk.l.width (below_cost n)) 0
      (suc (suc (4 * n))) 0 (below_words n) 56 (below_price n) (Fail label) d (Fail label) (fail_first walk label d)
      (omega arith) (omega arith) (omega arith) (some_price n)
  plain_at n le below (Middle kind cs) d e nc nd lc ld = middle_by n le below kind cs d nc nd lc ld
  plain_at n le below (Inject g kept) d e nc nd lc ld = absurd (clash e)
    where
      clash : false ≡ true → ⊥
      clash q = cc
  plain_at n le below (Project wanted label i) d e nc nd lc ld = absurd (clash e)
    where
      clash : false ≡ true → ⊥
      clash q = cc

  -- nothing follows an Inject but Id, Fail and Project
  lost : {B : Budget} → (objects : List Object) (h : Heap) (fine : Fine walk.setting walk.l walk.around objects h)
      (waiting : List Waiting) (wc wd y : ℕ) (ws : List ℕ) → There walk.l objects wc (Fixed (inject_header y) ws)
      → (k2 y2 m2 : ℕ) (ws2 : List ℕ) → There walk.l objects wd (Fixed (header k2 y2 m2) ws2) → k2 < 256 → (k2 == 8) ≡
      false → (k2 == 14) ≡ false → Answers walk B objects waiting Id → ReachedIn walk (More 12 0 0 121 B)
      (st walk.around 12
      (bind 0 (wc ∷ wd ∷ []) no_locals) (compose_code walk.first) [] waiting h)
  lost objects h fine waiting wc wd y ws there k2 y2 m2 ws2 there2 lt no8 no14 go =
      at_most walk
      (reads_both walk objects h fine waiting wc wd 13 y 2 ws there (omega arith) refl refl k2 y2 m2 ws2 there2 lt
      (λ rests. if_false walk objects fine k2 8 refl refl no8
      (if_true walk objects fine 13 13 refl refl refl
      (if_false walk objects fine k2 14 refl refl no14
      (go objects h 0 12 _ _ (Number 0) (grows_not objects) fine refl refl)))))
      (omega arith, omega arith, omega arith, omega arith)

  -- an Inject meeting a Project
  abbrev meet_words : ℕ → ℕ
  meet_words n = coerce_words walk.l.width n + below_words n + below_words n

  abbrev meet_price : ℕ → ℕ
  meet_price n = coerce_price walk.l.width n + below_price n + below_price n + 239

  no_project_at : (n : ℕ) → n ≤ 65534 → AllCasts n → Below n → (c d : Coercion) → is_project c ≡ false → IsNormal R c
      → IsNormal R d → NoHigher R c n → NoHigher R d n → Does (meet_cost walk.l.width (coerce_cost walk.l.width n)
      (below_cost n)) (suc (suc (suc (4 * n)))) (meet_words n) (meet_price n) c d (compose_to R n c d)
  no_project_at n le casts below Id d f nc nd lc ld = more 1 (meet_cost walk.l.width (coerce_cost walk.l.width n)
      (below_cost n)) 0 (suc (suc (suc (4 * n)))) 0 (meet_words n) 20 (meet_price n) Id d d (id_first walk d)
      (omega arith) (omega arith) (omega arith) (omega arith)
  no_project_at n le casts below (Fail label) d f nc nd lc ld = more 5 (meet_cost walk.l.width (coerce_cost walk.l.width
      n) (below_cost n)) 0 (suc (suc (suc (4 * n)))) 0 (meet_words n) 56 (meet_price n) (Fail label) d (Fail label)
      (fail_first walk label d) (omega arith) (omega arith) (omega arith) (omega arith)
  no_project_at n le casts below (Middle kind cs) d f nc nd lc ld = more (middle_cost walk.l.width (below_cost n))
      (meet_cost walk.l.width (coerce_cost walk.l.width n) (below_cost n)) (suc (suc (4 * n))) (suc (suc (suc (4 * n))))
      (below_words n) (meet_words n) (below_price n) (meet_price n) (Middle kind cs) d
      (compose_to R n (Middle kind cs) d) (middle_by n le below kind cs d nc nd lc ld) (omega arith) (omega arith)
      (omega arith) (omega arith)
  no_project_at n le casts below (Inject g kept) Id f nc nd lc ld = λ B objects h fine waiting wc wd hc hd go. at_most
      walk ((id_second walk objects h fine waiting wc wd 13 (coercion_height tall (Inject g kept)) 2 (hc.0 ∷ hc.1 ∷ [])
      hc.2 (omega arith) refl refl hd (Inject g kept) hc go)) (omega arith, omega arith, omega arith, omega arith)
  no_project_at n le casts below (Inject g kept) (Fail label) f nc nd lc ld = λ B objects h fine waiting wc wd hc hd go.
      at_most walk ((fail_second label objects h fine waiting wc wd 13 (coercion_height tall (Inject g kept)) 2
      (hc.0 ∷ hc.1 ∷ []) hc.2 (omega arith) refl refl hd go)) (omega arith, omega arith, omega arith, omega arith)
  no_project_at n le casts below (Inject g kept) (Middle kind ds) f nc nd lc ld =
      λ B objects h fine waiting wc wd hc hd go. at_most walk ((lost objects h fine waiting wc wd (coercion_height tall
      (Inject g kept)) (hc.0 ∷ hc.1 ∷ []) hc.2 (kind_number kind) (coercion_height tall (Middle kind ds)) (length hd.0)
      hd.0 hd.1 (numbers kind) (no_middle kind 8 (inl refl)) (no_middle kind 14 (inr (omega arith))) go)) (
        omega arith,
        omega arith,
        omega arith,
        omega arith,
      )
  no_project_at n le casts below (Inject g kept) (Inject g2 kept2) f nc nd lc ld =
      λ B objects h fine waiting wc wd hc hd go. at_most walk ((lost objects h fine waiting wc wd (coercion_height tall
      (Inject g kept)) (hc.0 ∷ hc.1 ∷ []) hc.2 13 (coercion_height tall (Inject g2 kept2)) 2 (hd.0 ∷ hd.1 ∷ []) hd.2
      (omega arith) refl refl go)) (omega arith, omega arith, omega arith, omega arith)
  no_project_at n le casts below (Inject g kept) (Project wanted label i) f nc nd lc ld =
      let e1 = coerce_to R n kept wanted label in
      let solid = solid_is R n kept wanted label nc.2 nd.0 in
      let e2 = compose_to R n e1 i in
      let n1 = coerce_normal R n kept wanted label in
      let l1 = coerce_height R n n kept wanted label lc.1 ld.0 in
      let n2 = compose_normal R n e1 i n1 nd.2 in
      let l2 = compose_height R n n e1 i l1 ld.1 in
      let plain1 : is_plain e1 ≡ true = ap is_plain solid ∙ plain_solid R (coerce_below R n) kept wanted label in
      let plain2 : is_plain g ≡ true = flat_plain g nc.0 in
      let q1 : e2 ≡ after_inner (compose_below R n) e1 i = follow_plain (compose_below R n) (coerce_solid R
      (coerce_below R n)) e1 i plain1 in
      let q2 : compose_to R n g e2 ≡ after_inner (compose_below R n) g e2 = follow_plain (compose_below R n)
      (coerce_solid R (coerce_below R n)) g e2 plain2 in
      let q : compose_to R n g e2 ≡ compose_to R n (Inject g kept) (Project wanted label i) = q2
      ∙ ap (λ x. after_inner (compose_below R n) g x) (q1 ∙ ap (λ x. after_inner (compose_below R n) x i) solid) in
      subst (λ e. Does (meet_cost walk.l.width (coerce_cost walk.l.width n) (below_cost n)) (suc (suc (suc (4 * n))))
      (meet_words n) (meet_price n) (Inject g kept) (Project wanted label i) e) q
      (meets walk (coerce_cost walk.l.width n) (middle_cost walk.l.width (below_cost n)) (middle_cost walk.l.width
      (below_cost n)) (suc (suc (4 * n))) (coerce_words walk.l.width n) (below_words n) (below_words n)
      (coerce_price walk.l.width n) (below_price n) (below_price n) g kept wanted label i e1 e2 (compose_to R n g e2)
      (λ B objects h fine waiting wf wt hf ht small go. at_most walk (casts kept wanted label lc.1 ld.0 B objects h
      fine waiting wf wt hf ht small go) (omega arith, omega arith, omega arith, omega arith))
      (plain_at n le below e1 i plain1 n1 nd.2 l1
      ld.1) (plain_at n le below g e2 plain2 nc.1 n2 lc.0 l2))
  no_project_at n le casts below (Project wanted label i) d f nc nd lc ld = absurd (clash f)
    where
      clash : true ≡ false → ⊥
      clash q = cc

  -- without a Project in front there is some left
  plain_enough : (n : ℕ) (c d e : Coercion) → Does (meet_cost walk.l.width (coerce_cost walk.l.width n) (below_cost n))
      (suc (suc (suc (4 * n)))) (meet_words n) (meet_price n) c d e
      → Does (meet_cost walk.l.width (coerce_cost walk.l.width n) (below_cost n) + 45) (suc (suc (suc (suc (4 * n)))))
      (meet_words n + 4) (meet_price n + 396) c d e
  plain_enough n c d e does =
      more (meet_cost walk.l.width (coerce_cost walk.l.width n) (below_cost n))
      (meet_cost walk.l.width (coerce_cost walk.l.width n) (below_cost n) + 45) (suc (suc (suc (4 * n))))
      (suc (suc (suc (suc (4 * n))))) (meet_words n) (meet_words n + 4) (meet_price n) (meet_price n + 396) c d e does
      (omega arith) (omega arith) (omega arith) (omega arith)

  all_at : (n : ℕ) → n ≤ 65534 → AllCasts n → Below n → (c d : Coercion) → IsNormal R c → IsNormal R d → NoHigher R c n
      → NoHigher R d n → Does (meet_cost walk.l.width (coerce_cost walk.l.width n) (below_cost n) + 45)
      (suc (suc (suc (suc (4 * n))))) (meet_words n + 4) (meet_price n + 396) c d (compose_to R n c d)
  all_at n le casts below Id d nc nd lc ld =
      plain_enough n Id d (compose_to R n Id d) (no_project_at n le casts below Id d refl nc nd lc ld)
  all_at n le casts below (Fail label) d nc nd lc ld =
      plain_enough n (Fail label) d (compose_to R n (Fail label) d)
      (no_project_at n le casts below (Fail label) d refl nc nd lc ld)
  all_at n le casts below (Middle kind cs) d nc nd lc ld =
      plain_enough n (Middle kind cs) d (compose_to R n (Middle kind cs) d)
      (no_project_at n le casts below (Middle kind cs) d refl nc nd lc ld)
  all_at n le casts below (Inject g kept) d nc nd lc ld =
      plain_enough n (Inject g kept) d (compose_to R n (Inject g kept) d)
      (no_project_at n le casts below (Inject g kept) d refl nc nd lc ld)
  all_at n le casts below (Project wanted label i) d nc nd lc ld =
      projects walk (meet_cost walk.l.width (coerce_cost walk.l.width n) (below_cost n)) (suc (suc (suc (4 * n))))
      (meet_words n) (meet_price n) wanted label i d (compose_to R n i d) (low_height n le (final (compose_to R n i d))
      (final_height R n
      (compose_to R n i d) (compose_height R n n i d lc.1 ld))) (no_project_at n le casts below i d nc.1 nc.2 nd
      lc.1 ld)

  -- the same, with words and price as functions of the height
  all_told : (n : ℕ) → n ≤ 65534 → AllCasts n → Below n → All n
  all_told n le casts below c d nc nd lc ld =
      more (meet_cost walk.l.width (coerce_cost walk.l.width n) (below_cost n) + 45) (compose_cost walk.l.width n)
      (suc (suc (suc (suc (4 * n))))) (suc (suc (suc (suc (4 * n))))) (meet_words n + 4) (compose_words walk.l.width n)
      (meet_price n + 396) (compose_price walk.l.width n) c d (compose_to R n c d)
      (all_at n le casts below c d nc nd lc ld) (let z = steps_are n in omega (arith, z)) (omega arith)
      (let z = words_are n in omega (arith, z)) (let z = price_is n in omega (arith, z))

  pub all_composed : ((n : ℕ) → n ≤ 65534 → AllCasts n) → (n : ℕ) → n ≤ 65534 → All n
  all_composed casts zero le = all_told zero le (casts zero le) tt
  all_composed casts (suc m) le = all_told (suc m) le (casts (suc m) le) (all_composed casts m (omega arith))

  below_at : ((n : ℕ) → n ≤ 65534 → AllCasts n) → (n : ℕ) → n ≤ 65534 → Below n
  below_at casts zero le = tt
  below_at casts (suc m) le = all_composed casts m (omega arith)

  -- what has no Inject and no Project first asks for less than any two coercions may
  pub plain_composed : ((n : ℕ) → n ≤ 65534 → AllCasts n) → (n : ℕ) → n ≤ 65534 → (c d : Coercion)
      → is_plain c ≡ true → IsNormal R c → IsNormal R d → NoHigher R c n → NoHigher R d n
      → Does (middle_cost walk.l.width (below_cost n)) (suc (suc (4 * n))) (below_words n) (below_price n) c d
      (compose_to R n c d)
  plain_composed casts n le c d plain nc nd lc ld = plain_at n le (below_at casts n le) c d plain nc nd lc ld

  -- so does whatever has no Project before a middle
  pub before_middle : ((n : ℕ) → n ≤ 65534 → AllCasts n) → (n : ℕ) → n ≤ 65534 → (c : Coercion) (kind : Kind)
      (cs : Coercions) → is_project c ≡ false → IsNormal R c → IsNormal R (Middle kind cs) → NoHigher R c n
      → NoHigher R (Middle kind cs) n
      → Does (middle_cost walk.l.width (below_cost n)) (suc (suc (4 * n))) (below_words n) (below_price n) c
      (Middle kind cs) (compose_to R n c (Middle kind cs))
  before_middle casts n le Id kind cs f nc nd lc ld =
      plain_composed casts n le Id (Middle kind cs) refl nc nd lc ld
  before_middle casts n le (Fail label) kind cs f nc nd lc ld =
      plain_composed casts n le (Fail label) (Middle kind cs) refl nc nd lc ld
  before_middle casts n le (Middle k es) kind cs f nc nd lc ld =
      plain_composed casts n le (Middle k es) (Middle kind cs) refl nc nd lc ld
  before_middle casts zero le (Inject g kept) kind cs f nc nd lc ld = absurd ld
  before_middle casts (suc m) le (Inject g kept) kind cs f nc nd lc ld =
      λ B objects h fine waiting wc wd hc hd go.
      at_most walk
      (lost objects h fine waiting wc wd (coercion_height tall (Inject g kept)) (hc.0 ∷ hc.1 ∷ []) hc.2
      (kind_number kind) (coercion_height tall (Middle kind cs)) (length hd.0) hd.0 hd.1 (numbers kind)
      (no_middle kind 8 (inl refl)) (no_middle kind 14 (inr (omega arith))) go)
      (omega arith, omega arith, omega arith, omega arith)
  before_middle casts n le (Project wanted label i) kind cs f nc nd lc ld = absurd (clash f)
    where
      clash : true ≡ false → ⊥
      clash q = cc
