-- What calls of functions with proxies go through: words that are set, casts of a function's coercion, and one cast.
use Rattle.std.proofs.Common.{◌≡◌, ℕ, zero, suc, ◌+◌, ◌%◌, ◌^◌, ◌<◌, ◌≤◌, true, false}
use Rattle.std.proofs.Common.{List, [], ◌∷◌, ◌++◌, length, Option, Some, None, refl, sym, ap, ap₂, ◌∙◌, subst, arith}
use Rattle.std.specs.Prelude.{◌==◌, nat_lt, option_map}
use Rattle.grift_base.specs.Types.{TypeHead, TypeRow}
use Rattle.low_ir.specs.Prices.{slot_price, source_price}
use Rattle.low_ir.specs.declared.code.LowSource.TheVariants.{Number}
use Rattle.low_ir.specs.Procedures.{Code}
use Rattle.low_ir.specs.Steps.{Locals, no_locals, set_local}
use Rattle.low_ir.specs.Run.{Active, Waiting, LowState, words_of, and_more, bind}
use Rattle.coercion_norm.specs.Coercions.{Coercion, Coercions, Middle, NoCoercions}
use Rattle.coercion_norm.specs.Coercions.{CoercionThen}
use Rattle.coercion_norm.specs.declared.middles.MiddleKind.{MiddleKind as Kind}
use Rattle.coercion_norm.specs.Heights.{coercion_height, highest}
use Rattle.coercion_norm.specs.MergedMode.{part_at, split_parts}
use Rattle.coercion_norm.specs.Normal.{IsNormal, AreNormal}
use Rattle.coercion_norm.specs.Objects.{Object}
use Rattle.coercion_norm.specs.Held.{Layout, Held, rows_in, height_in}
use Rattle.rt_cast.specs.WholeObjects.{IsSolid}
use Rattle.rt_cast.specs.Costs.{cast_cost}
use Rattle.rt_cast.specs.LightCasts.{cast_words_of, cast_price_of}
use Rattle.rt_cast.specs.CastCodes.{cast_code}
use Rattle.rt_cast.specs.States.{Grows, Heap, Fine, st}
use Rattle.rt_cast.specs.MergedValues.{Merged, Outcome, Stuck, Gives, Blames, cast_value}
use Rattle.rt_cast.specs.Carried.{CarriedBy, AreCarried, IsLow}
use Rattle.rt_cast.proofs.Public.{Walk, none_some, same_some, eq_true, eq_false, Budget, End, Out, More}
use Rattle.rt_cast.proofs.Public.{comes_back, ReachedIn}
use Rattle.rt_cast.proofs.Public.{GoesOn, whole_above, no_higher, carried_still, by_either}
use Rattle.rt_cast.proofs.Public.{low_of, decided_cast}
use Rattle.rt_refs.specs.CallCodes.{argument_words}

-- ---- words that are set

pub word_here : (d w : ℕ) (locals : Locals) → set_local d w locals d ≡ Some w
word_here d w locals = let e = eq_true d d refl in rw (e) refl

pub word_other : (d w : ℕ) (locals : Locals) (i : ℕ) → (i == d) ≡ false → set_local d w locals i ≡ locals i
word_other d w locals i e = rw (e) refl

-- the words of arguments, from one on
abbrev pub Has : Locals → ℕ → List ℕ → Type 0
Has locals from [] = Unit {0}
Has locals from (w ∷ ws) = (locals (suc from) ≡ Some w) × Has locals (suc from) ws

pub has_below : (d w : ℕ) (locals : Locals) (from : ℕ) (ws : List ℕ) → from + length ws < d → Has locals from ws
    → Has (set_local d w locals) from ws
has_below d w locals from [] lt h = tt
has_below d w locals from (x ∷ ws) lt h = (
  word_other d w locals (suc from) (eq_false (suc from) d (λ e. omega (arith, e, lt))) ∙ h.0,
  has_below d w locals (suc from) ws (omega (arith, lt)) h.1,
)

pub has_above : (d w : ℕ) (locals : Locals) (from : ℕ) (ws : List ℕ) → d ≤ from → Has locals from ws
    → Has (set_local d w locals) from ws
has_above d w locals from [] lt h = tt
has_above d w locals from (x ∷ ws) lt h = (
  word_other d w locals (suc from) (eq_false (suc from) d (λ e. omega (arith, e, lt))) ∙ h.0,
  has_above d w locals (suc from) ws (omega (arith, lt)) h.1,
)

pub has_more : (locals : Locals) (from : ℕ) (ws : List ℕ) (w : ℕ) → Has locals from ws
    → locals (suc (from + length ws)) ≡ Some w → Has locals from (ws ++ w ∷ [])
has_more locals from [] w h e =
    let z : from + 0 ≡ from = omega arith in (subst (λ n. locals (suc n) ≡ Some w) z e, tt)
has_more locals from (x ∷ ws) w h e =
    let z : from + suc (length ws) ≡ suc from + length ws = omega arith in
    (h.0, has_more locals (suc from) ws w h.1 (subst (λ n. locals (suc n) ≡ Some w) z e))

pub has_words : (locals : Locals) (from : ℕ) (ws : List ℕ) → Has locals from ws
    → words_of locals (argument_words (length ws) from) ≡ Some ws
has_words locals from [] h = refl
has_words locals from (w ∷ ws) h = ap₂ and_more h.0 (has_words locals (suc from) ws h.1)

pub longer : (ws : List ℕ) (w : ℕ) → length (ws ++ w ∷ []) ≡ suc (length ws)
longer [] w = refl
longer (x ∷ ws) w = ap suc (longer ws w)

-- ---- the casts of a function's coercion, from a part on: the arguments and the result

abbrev pub Casts : Coercions → ℕ → List Coercion → Coercion → Type 0
Casts parts k [] e = part_at parts k ≡ Some e
Casts parts k (d ∷ ds) e = (part_at parts k ≡ Some d) × Casts parts (suc k) ds e

casts_shift : (c : Coercion) (parts : Coercions) (k : ℕ) (ds : List Coercion) (e : Coercion) → Casts parts k ds e
    → Casts (CoercionThen c parts) (suc k) ds e
casts_shift c parts k [] e h = h
casts_shift c parts k (d ∷ ds) e h = (h.0, casts_shift c parts (suc k) ds e h.1)

pub mapped : {A B : Type 0} (f : A → B) (o : Option A) (b : B) → option_map f o ≡ Some b
    → (a : A) × (o ≡ Some a) × (f a ≡ b)
mapped f None b e = none_some e
mapped f (Some a) b e = (a, refl, cc)

pub casts_of : (parts : Coercions) (ds : List Coercion) (e : Coercion) → split_parts parts ≡ Some (ds, e)
    → Casts parts 0 ds e
casts_of NoCoercions ds e h = none_some h
casts_of (CoercionThen c NoCoercions) ds e h =
    let p : List Coercion × Coercion = ([], c) in
    let q : List Coercion × Coercion = (ds, e) in
    subst (λ z. Casts (CoercionThen c NoCoercions) 0 z.0 z.1) (same_some p q h) refl
casts_of (CoercionThen c (CoercionThen d rest)) ds e h =
    let m = mapped (λ parts. (c ∷ parts.0, parts.1)) (split_parts (CoercionThen d rest)) (ds, e) h in
    let ih = casts_of (CoercionThen d rest) m.0.0 m.0.1 m.1 in
    subst (λ p. Casts (CoercionThen c (CoercionThen d rest)) 0 p.0 p.1) m.2
    (refl, casts_shift c (CoercionThen d rest) 0 m.0.0 m.0.1 ih)

part_in : (high : ℕ → ℕ) (cs : Coercions) (k : ℕ) (d : Coercion) → part_at cs k ≡ Some d
    → coercion_height high d ≤ highest high cs
part_in high NoCoercions k d e = none_some e
part_in high (CoercionThen c cs) zero d e =
    let s = ap (coercion_height high) (same_some c d e) in omega (arith, s)
part_in high (CoercionThen c cs) (suc k) d e = let z = part_in high cs k d e in omega (arith, z)

pub part_normal : (rows : ℕ → TypeRow) (cs : Coercions) (k : ℕ) (d : Coercion) → AreNormal rows cs
    → part_at cs k ≡ Some d
    → IsNormal rows d
part_normal rows NoCoercions k d h e = none_some e
part_normal rows (CoercionThen c cs) zero d h e = subst (IsNormal rows) (same_some c d e) h.0
part_normal rows (CoercionThen c cs) (suc k) d h e = part_normal rows cs k d h.1 e

-- small numbers, and words of small numbers, are near
pub number_near : (k : ℕ) → k ≤ 6 → source_price (Number k) ≡ 2
number_near k le = grind (arith, le)

pub word_near : (k : ℕ) → k ≤ 6 → slot_price k ≡ 1
word_near k le = grind (arith, le)

pub small_number : (k : ℕ) → k ≤ 6 → k % 2 ^ 64 ≡ k
small_number k le = omega (arith, le)

pub carried_more : (l : Layout) {A : Type 0} (IsHeld : List Object → A → ℕ → Type 0) (objects : List Object)
    (us : List (Merged A)) (ws : List ℕ) (v : Merged A) (w : ℕ) → AreCarried l IsHeld objects us ws
    → CarriedBy l IsHeld objects v w → AreCarried l IsHeld objects (us ++ v ∷ []) (ws ++ w ∷ [])
carried_more l IsHeld objects [] [] v w h c = (c, tt)
carried_more l IsHeld objects [] (x ∷ ws) v w h c = absurd h
carried_more l IsHeld objects (u ∷ us) [] v w h c = absurd h
carried_more l IsHeld objects (u ∷ us) (x ∷ ws) v w h c = (h.0, carried_more l IsHeld objects us ws v w h.1 c)

-- what the procedure has found
pub record Found (locals : Locals) (number function coercion address : ℕ) : Type 0 where
  pub number_is : locals 7 ≡ Some number
  pub function_is : locals 8 ≡ Some function
  pub coercion_is : locals 9 ≡ Some coercion
  pub address_is : locals 10 ≡ Some address

pub found_kept : (d w : ℕ) (locals : Locals) (number function coercion address : ℕ) → (7 == d) ≡ false
    → (8 == d) ≡ false → (9 == d) ≡ false → (10 == d) ≡ false → Found locals number function coercion address
    → Found (set_local d w locals) number function coercion address
found_kept d w locals number function coercion address a b c e f = record {
  number_is = word_other d w locals 7 a ∙ f.number_is;
  function_is = word_other d w locals 8 b ∙ f.function_is;
  coercion_is = word_other d w locals 9 c ∙ f.coercion_is;
  address_is = word_other d w locals 10 e ∙ f.address_is;
}

module _ {V : Type 0} (walk : Walk V) (low : walk.l.tallest ≤ 65534) (A : Type 0)
    (IsHeld : List Object → A → ℕ → Type 0)
    (still : (old new : List Object) → Grows old new → (a : A) (w : ℕ) → IsHeld old a w → IsHeld new a w)
    (is_solid : (objects : List Object) (a : A) (w : ℕ) → IsHeld objects a w → IsSolid walk.l objects w) where
  abbrev pub Goes : Budget → List Object → List Waiting → Outcome A → Type 0
  Goes = GoesOn walk low A IsHeld still is_solid

  abbrev pub above : ℕ
  above = whole_above walk low A IsHeld still is_solid

  abbrev pub cost : ℕ
  cost = cast_cost walk.l.width walk.l.tallest

  abbrev Carried : List Object → Merged A → ℕ → Type 0
  Carried = CarriedBy walk.l IsHeld

  abbrev state : ℕ → Locals → Code → List Code → List Waiting → Heap → LowState
  state = st walk.around

  abbrev Fi : List Object → Heap → Type 0
  Fi = Fine walk.setting walk.l walk.around

  pub part_low : (kind : Kind) (cs : Coercions) (k : ℕ) (d : Coercion) → IsLow walk.l (Middle kind cs)
      → part_at cs k ≡ Some d → IsLow walk.l d
  part_low kind cs k d h e = record {
    normal = part_normal (rows_in walk.l) cs k d h.normal.1 e;
    low = let z = part_in (height_in walk.l) cs k d e in let y = h.low in omega (arith, z, y);
  }

  -- a cast made by a procedure that goes on behind it
  pub cast_behind : (head : A → TypeHead) (B D : Budget) (objects : List Object) (h : Heap) (fine : Fi objects h)
      (waiting : List Waiting)
      (rest : Active) (d : ℕ) → nat_lt d rest.count ≡ true → (c : Coercion) → IsLow walk.l c → (u : Merged A)
      (wv wc : ℕ) → Carried objects u wv → Held walk.l objects c wc
      → (r : Outcome A) → cast_value head walk.l.types c u ≡ r → (r ≡ Stuck → ⊥)
      → ((v : Merged A) → r ≡ Gives v → (new : List Object) (h' : Heap) (w : ℕ) → Grows objects new → Fi new h'
      → Carried new v w
      → ReachedIn walk D (state rest.count (set_local d w rest.locals) rest.code rest.rests waiting h'))
      → ((label : ℕ) → r ≡ Blames label → Goes End objects waiting (Blames label))
      → ReachedIn walk (More cost above (cast_words_of walk.l c u) (cast_price_of walk.l c u) (Out D)) (state 10
      (bind 0 (wv ∷ wc ∷ []) no_locals)
      (cast_code walk.first) []
      (record { rest = rest; answer = d } ∷ waiting) h)
  cast_behind head B D objects h fine waiting rest d lt c lc u wv wc hv hc r e some values blames =
      let is = decided_cast walk.l walk.types head c lc.normal (no_higher walk low A IsHeld still is_solid c lc) u
      (low_of walk.l walk.types head IsHeld objects u wv hv) r some e in
      by_either walk low A IsHeld still is_solid c lc.normal (no_higher walk low A IsHeld still is_solid c lc) u (Out D)
      objects h fine (record { rest = rest; answer = d } ∷ waiting) wv wc hv hc
      (subst (Goes (Out D) objects (record { rest = rest; answer = d } ∷ waiting)) (sym is) (goes r values blames some))
    where
      goes : (r : Outcome A)
          → ((v : Merged A) → r ≡ Gives v → (new : List Object) (h' : Heap) (w : ℕ) → Grows objects new → Fi new h'
          → Carried new v w
          → ReachedIn walk D (state rest.count (set_local d w rest.locals) rest.code rest.rests waiting h'))
          → ((label : ℕ) → r ≡ Blames label → Goes End objects waiting (Blames label)) → (r ≡ Stuck → ⊥)
          → Goes (Out D) objects (record { rest = rest; answer = d } ∷ waiting) r
      goes Stuck values blames some = absurd (some refl)
      goes (Gives v) values blames some = λ new h' w count locals rests a grows fine' held is.
          comes_back walk new fine' w is lt (values v refl new h' w grows fine' held)
      goes (Blames label) values blames some = blames label refl

  pub all_carried_still : (old new : List Object) → Grows old new → (us : List (Merged A)) (ws : List ℕ)
      → AreCarried walk.l IsHeld old us ws → AreCarried walk.l IsHeld new us ws
  all_carried_still old new g [] [] h = h
  all_carried_still old new g [] (w ∷ ws) h = h
  all_carried_still old new g (u ∷ us) [] h = h
  all_carried_still old new g (u ∷ us) (w ∷ ws) h =
      (carried_still walk low A IsHeld still is_solid old new g u w h.0, all_carried_still old new g us ws h.1)
