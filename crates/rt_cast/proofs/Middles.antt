-- A middle that is made part by part.
use Rattle.std.proofs.Common.{◌≡◌, ◌⊎◌, inl, inr, ℕ, zero, suc, ◌+◌, ◌*◌, ◌^◌, ◌%◌, ◌<◌, ◌≤◌, Bool, true}
use Rattle.std.proofs.Common.{false, cond, List, [], ◌∷◌, ◌++◌, Some, None, refl, sym, ap, ap₂, ◌∙◌, subst}
use Rattle.std.proofs.Common.{arith, le_refl, eq-eqb, nat_eq}
use Rattle.std.specs.Prelude.{◌==◌, ◌&&◌, if◌then◌else◌, slice_get, length, max}
use Rattle.rt_cast.specs.States.{Heap, st, Fine, Grows}
use Rattle.low_ir.specs.Operations.{compute}
use Rattle.low_ir.specs.declared.code.WordOp.TheVariants.{Sll, Add, Sltu}
use Rattle.low_ir.specs.Steps.{Locals, no_locals, set_local}
use Rattle.low_ir.specs.declared.code.LowSource.{LowSource}
use Rattle.low_ir.specs.declared.code.LowSource.TheVariants.{Word, Number}
use Rattle.low_ir.specs.Procedures.{Code, Return, Proc}
use Rattle.low_ir.specs.Run.{Waiting, LowState, word_of, words_of, and_more, bind}
use Rattle.coercion_norm.specs.declared.middles.MiddleKind.{MiddleKind as Kind}
use Rattle.coercion_norm.specs.declared.middles.MiddleKind.TheVariants.{Fun as FunKind, Tup as TupKind}
use Rattle.coercion_norm.specs.declared.middles.MiddleKind.TheVariants.{Ref as RefKind, Vec as VecKind}
use Rattle.coercion_norm.specs.Coercions.{Coercion, Coercions, Id, Fail, Middle, Inject, Project, NoCoercions}
use Rattle.coercion_norm.specs.Coercions.{CoercionThen, is_id, all_id}
use Rattle.coercion_norm.specs.Composition.{middle}
use Rattle.coercion_norm.specs.Heights.{coercion_height, highest}
use Rattle.rt_cast.specs.Costs.{parts_cost, middle_words, middle_price}
use Rattle.coercion_norm.specs.Objects.{Object, Fixed, bytes_of_all}
use Rattle.coercion_norm.specs.Nodes.{KindHasWidth}
use Rattle.coercion_norm.specs.Held.{HasWidth, Layout, There, Held, AreHeld, height_in}
use Rattle.coercion_norm.specs.ObjectsOfRows.{header, kind_number}
use Rattle.object_layout.specs.declared.kinds.Kind.TheVariants.{Fail as FailObject, Inject as InjectObject}
use Rattle.object_layout.specs.declared.kinds.Kind.TheVariants.{Project as ProjectObject}
use Rattle.object_layout.specs.Kinds.{is_coercion}
use Rattle.coercion_norm.specs.StaticObjects.{middle_kind}
use Rattle.rt_cast.specs.WholeObjects.{CoercionWord, IdWord, ObjectWord, Highest, WholeMiddle}
use Rattle.rt_cast.specs.PartCodes.{finish_code, parts_code, middle_code}
use Rattle.low_ir.specs.Codes.{words_from}
use Rattle.coercion_norm.proofs.Public.{object_behind}
use Rattle.rt_cast.proofs.Objects.{chosen_true, AreSmall}
use Rattle.rt_cast.proofs.HeaderNumbers.{eq_true, eq_cases, lt_true}
use Rattle.rt_cast.proofs.HeaderNumbers.{header_small}
use Rattle.low_ir.specs.Prices.{slot_price, source_price, sources_price, entering}
use Rattle.rt_cast.proofs.Steps.{Budget, Pay, More, return_price, at_most, sets_word, loads}
use Rattle.rt_cast.proofs.Steps.{computes, if_true, if_false, builds, calls, comes_back, serves}
use Rattle.rt_cast.proofs.Small.{grows_not, grows_on, there_still, HasHeight, not_zero, raised, numbers}
use Rattle.rt_cast.proofs.Small.{ReachedIn}
use Rattle.rt_cast.proofs.Walks.{Walk}
use Rattle.rt_cast.specs.Procs.{raise_proc}

-- ---- what is held stays held

mutual
  pub held_still : (l : Layout) (old new : List Object) → Grows old new → (c : Coercion) (w : ℕ) → Held l old c w
      → Held l new c w
  held_still l old new g Id w h = h
  held_still l old new g (Fail label) w h = there_still l old new w _ g h
  held_still l old new g (Middle kind parts) w h = (
    h.0,
    there_still l old new w _ g h.1,
    are_still l old new g parts
        h.0 h.2,
    h.3,
  )
  held_still l old new g (Inject c kept) w h = (
    h.0,
    h.1,
    there_still l old new w _ g h.2,
    held_still l old new g c h.0
        h.3,
    record { known = h.4.known; is = h.4.is },
  )
  held_still l old new g (Project wanted label c) w h = (
    h.0,
    h.1,
    there_still l old new w _ g h.2,
    record
        { known = h.3.known; is = h.3.is },
    held_still l old new g c h.1 h.4,
  )

  pub are_still : (l : Layout) (old new : List Object) → Grows old new → (cs : Coercions) (ws : List ℕ) → AreHeld l old
      cs ws → AreHeld l new cs ws
  are_still l old new g NoCoercions [] h = h
  are_still l old new g NoCoercions (w ∷ ws) h = h
  are_still l old new g (CoercionThen c cs) [] h = h
  are_still l old new g (CoercionThen c cs) (w ∷ ws) h = (
    held_still l old new g c w h.0,
    are_still l old new g cs ws
        h.1,
  )

-- no middle has more than eight parts
pub few_parts : (kind : Kind) (n : ℕ) → KindHasWidth kind n → n ≤ 8
few_parts FunKind n h = omega (arith, h.1)
few_parts TupKind n h = h.1
few_parts RefKind n h = omega (arith, h)
few_parts VecKind n h = omega (arith, h)

-- ---- parts by their numbers

abbrev pub list_of : (ℕ → Coercion) → ℕ → ℕ → Coercions
list_of E zero k = NoCoercions
list_of E (suc j) k = CoercionThen (E k) (list_of E j (suc k))

abbrev pub upto : (ℕ → ℕ) → ℕ → ℕ → List ℕ
upto W zero k = []
upto W (suc j) k = W k ∷ upto W j (suc k)

upto_long : (W : ℕ → ℕ) (j k : ℕ) → length (upto W j k) ≡ j
upto_long W zero k = refl
upto_long W (suc j) k = ap suc (upto_long W j (suc k))

abbrev pub top_to : (ℕ → ℕ) → (ℕ → Coercion) → ℕ → ℕ
top_to th E zero = 0
top_to th E (suc k) = max (top_to th E k) (coercion_height th (E k))

abbrev pub some_to : (ℕ → Coercion) → ℕ → ℕ
some_to E zero = 0
some_to E (suc k) = some_to E k + cond (is_id (E k)) 0 1

some_small : (E : ℕ → Coercion) (k : ℕ) → some_to E k ≤ k
some_small E zero = omega arith
some_small E (suc k) = by (is_id (E k)) (some_small E k)
  where
    by : (b : Bool) → some_to E k ≤ k → some_to E k + cond b 0 1 ≤ suc k
    by true h = omega arith
    by false h = omega arith

top_is : (th : ℕ → ℕ) (E : ℕ → Coercion) (j k n : ℕ) → n ≡ k + j → max (top_to th E k) (highest th (list_of E j k)) ≡
    top_to th E n
top_is th E zero k n e = let h : n ≡ k = omega arith in subst (λ m. max (top_to th E k) 0 ≡ top_to th E m) (sym h)
    (omega arith)
top_is th E (suc j) k n e = let ih = top_is th E j (suc k) n (omega arith) in omega arith

id_each : (E : ℕ → Coercion) (k i : ℕ) → some_to E k ≡ 0 → i < k → is_id (E i) ≡ true
id_each E zero i e lt = absurd (omega arith)
id_each E (suc k) i e lt = by (λ z y. id_each E k i z y) (eq_cases i k)
  where
    last : (b : Bool) → some_to E k + cond b 0 1 ≡ 0 → b ≡ true
    last true h = refl
    last false h = absurd (omega arith)

    by : (some_to E k ≡ 0 → i < k → is_id (E i) ≡ true) → (i ≡ k) ⊎ ((i == k) ≡ false) → is_id (E i) ≡ true
    by ih (inl h) = subst (λ m. is_id (E m) ≡ true) (sym h) (last (is_id (E k)) e)
    by ih (inr h) = ih (omega arith) (grind (arith, h, lt))

all_ids : (E : ℕ → Coercion) (j k n : ℕ) → n ≡ k + j → some_to E n ≡ 0 → all_id (list_of E j k) ≡ true
all_ids E zero k n e z = refl
all_ids E (suc j) k n e z = ap₂ (λ a b. a && b) (id_each E n k z (omega arith)) (all_ids E j (suc k) n (omega arith) z)

none_to : (E : ℕ → Coercion) (j k n : ℕ) → n ≡ k + j → some_to E k ≡ 0 → all_id (list_of E j k) ≡ true → some_to E n ≡ 0
none_to E zero k n e z a = let h : n ≡ k = omega arith in ap (some_to E) h ∙ z
none_to E (suc j) k n e z a = by (λ y x. none_to E j (suc k) n (omega arith) y x) (is_id (E k)) refl a
  where
    by : (some_to E (suc k) ≡ 0 → all_id (list_of E j (suc k)) ≡ true → some_to E n ≡ 0) → (b : Bool) → is_id (E k) ≡ b
        → (b && all_id (list_of E j (suc k))) ≡ true → some_to E n ≡ 0
    by ih true h x = ih (ap₂ (λ s b. s + cond b 0 1) z h) x
    by ih false h x = absurd (clash x)
      where
        clash : false ≡ true → ⊥
        clash q = cc

abbrev put_part : ℕ → ℕ → ℕ → ℕ → ℕ → ℕ → ℕ → Locals → Locals
put_part k a b w m f c L = set_local 6 c (set_local 10 f (set_local 5 m (set_local (16 + k) w (set_local 9 b
    (set_local 8 a L)))))

part_low : (k a b w m f c : ℕ) (L : Locals) (i : ℕ) → i < 5 → put_part k a b w m f c L i ≡ L i
part_low k a b w m f c L i lt = grind arith

part_early : (k a b w m f c : ℕ) (L : Locals) (i : ℕ) → i < k → put_part k a b w m f c L (16 + i) ≡ L (16 + i)
part_early k a b w m f c L i lt = grind arith

part_new : (k a b w m f c : ℕ) (L : Locals) → put_part k a b w m f c L (16 + k) ≡ Some w
part_new k a b w m f c L = grind arith

three_five : (k a b w : ℕ) (L : Locals) → set_local (16 + k) w (set_local 9 b (set_local 8 a L)) 5 ≡ L 5
three_five k a b w L = grind arith

three_new : (k a b w : ℕ) (L : Locals) → set_local (16 + k) w (set_local 9 b (set_local 8 a L)) (16 + k) ≡ Some w
three_new k a b w L = grind arith

four_new : (k a b w m : ℕ) (L : Locals) → set_local 5 m (set_local (16 + k) w (set_local 9 b (set_local 8 a L)))
    (16 + k) ≡ Some w
four_new k a b w m L = grind arith

five_six : (k a b w m f : ℕ) (L : Locals) → set_local 10 f (set_local 5 m (set_local (16 + k) w (set_local 9 b
    (set_local 8 a L)))) 6 ≡ L 6
five_six k a b w m f L = grind arith

bit_small : (b : Bool) → cond b 0 1 ≤ 1
bit_small true = omega arith
bit_small false = omega arith

skip_five : (a b c d : ℕ) (L : Locals) (i : ℕ) → set_local 5 a (set_local 5 b (set_local 5 c (set_local 5 d L)))
    (16 + i) ≡ L (16 + i)
skip_five a b c d L i = grind arith

-- words and numbers of parts are near
slot_near : (k : ℕ) → k ≤ 8 → slot_price (16 + k) ≡ 1
slot_near k le = grind (arith, le)

place_price : (k : ℕ) → k ≤ 8 → source_price (Number (suc k)) ≡ 2
place_price k le = grind (arith, le)

number_price : (n : ℕ) → source_price (Number n) ≤ 12
number_price n = grind arith

words_price : (j m : ℕ) → m + j ≤ 24 → sources_price (words_from j m) ≡ 4 * j
words_price zero m le = refl
words_price (suc j) m le =
    let s : slot_price m ≡ 1 = grind (arith, le) in
    let z = words_price j (suc m) (omega (arith, le)) in
    omega (arith, s, z)

number_small : (n : ℕ) → n < 2 ^ 64 → n % 2 ^ 64 ≡ n
number_small n h = omega arith

results_are : (L : Locals) (W : ℕ → ℕ) (j k m n : ℕ) → 16 + k ≡ m → n ≡ k + j
    → ((i : ℕ) → i < n → L (16 + i) ≡ Some (W i)) → words_of L (words_from j m) ≡ Some (upto W j k)
results_are L W zero k m n f e h = refl
results_are L W (suc j) k m n f e h =
    ap₂ and_more (subst (λ i. L i ≡ Some (W k)) f (h k (omega arith)))
    (results_are L W j (suc k) (suc m) n (omega (arith, f)) (omega arith) h)

is_id_word : (l : Layout) (objects : List Object) (c : Coercion) (w : ℕ) → ((at head : ℕ) (ws : List ℕ)
    → There l objects at (Fixed head ws) → 65536 ≤ at) → Held l objects c w → compute Sltu 0 w ≡ cond (is_id c) 0 1
is_id_word l objects Id w far h = ap (λ n. compute Sltu 0 n) h
is_id_word l objects (Fail label) w far h = let x = far w _ _ h in grind (arith, x)
is_id_word l objects (Middle kind parts) w far h = let x = far w _ _ h.1 in grind (arith, x)
is_id_word l objects (Inject g kept) w far h = let x = far w _ _ h.2 in grind (arith, x)
is_id_word l objects (Project wanted label i) w far h = let x = far w _ _ h.2 in grind (arith, x)

middle_coercion : (kind : Kind) → is_coercion (middle_kind kind) ≡ true
middle_coercion FunKind = refl
middle_coercion TupKind = refl
middle_coercion RefKind = refl
middle_coercion VecKind = refl

pub coercion_word : (l : Layout) (objects : List Object) (c : Coercion) (w : ℕ)
    → coercion_height (height_in l) c < 65536 → Held l objects c w
    → CoercionWord l objects w (coercion_height (height_in l) c)
coercion_word l objects Id w lt h = IdWord h refl
coercion_word l objects (Fail label) w lt h = ObjectWord FailObject 1 (label ∷ []) h refl lt
coercion_word l objects (Middle kind parts) w lt h =
    ObjectWord (middle_kind kind) (length h.0) h.0 h.1 (middle_coercion kind) lt
coercion_word l objects (Inject g kept) w lt h = ObjectWord InjectObject 2 (h.0 ∷ h.1 ∷ []) h.2 refl lt
coercion_word l objects (Project wanted label i) w lt h =
    ObjectWord ProjectObject 3 (h.0 ∷ label ∷ h.1 ∷ []) h.2 refl lt

highest_words : (l : Layout) (objects : List Object) (cs : Coercions) (ws : List ℕ)
    → highest (height_in l) cs < 65536 → AreHeld l objects cs ws → Highest l objects ws (highest (height_in l) cs)
highest_words l objects NoCoercions [] lt h = refl
highest_words l objects NoCoercions (w ∷ ws) lt h = absurd h
highest_words l objects (CoercionThen c cs) [] lt h = absurd h
highest_words l objects (CoercionThen c cs) (w ∷ ws) lt h = (
  coercion_height (height_in l) c,
  highest (height_in l) cs,
  coercion_word l objects c w (omega arith) h.0,
  highest_words l objects cs ws (omega arith) h.1,
  refl,
)

pub has_height : (l : Layout) (objects : List Object) (c : Coercion) (w : ℕ) → coercion_height (height_in l) c < 65536
    → Held l objects c w → HasHeight l objects w (coercion_height (height_in l) c)
has_height l objects Id w lt h = inl (h, refl)
has_height l objects (Fail label) w lt h = inr (record {
  kind = 8;
  count = 1;
  words = label ∷ [];
  there = h;
  low = omega
      arith;
  small = lt;
})
has_height l objects (Middle kind parts) w lt h = inr (record {
  kind = kind_number kind;
  count = length h.0;
  words =
      h.0;
  there = h.1;
  low = numbers kind;
  small = lt;
})
has_height l objects (Inject g kept) w lt h = inr (record {
  kind = 13;
  count = 2;
  words = h.0 ∷ h.1 ∷ [];
  there = h.2;
  low = omega arith;
  small = lt;
})
has_height l objects (Project wanted label i) w lt h = inr (record {
  kind = 14;
  count = 3;
  words = h.0 ∷ label ∷ h.1 ∷
      [];
  there = h.2;
  low = omega arith;
  small = lt;
})

module _ {V : Type 0} (walk : Walk V) where
  abbrev Reached : Budget → LowState → Type 0
  Reached = ReachedIn walk

  abbrev state : ℕ → Locals → Code → List Code → List Waiting → Heap → LowState
  state = st walk.around

  -- it goes on from each return of a word that holds the coercion, where objects were only added
  abbrev pub Answers : Budget → List Object → List Waiting → Coercion → Type 0
  Answers B objects waiting c = (new : List Object) (h : Heap) (w : ℕ) (count : ℕ) (locals : Locals) (rests : List Code)
      (a : LowSource) → Grows objects new → Fine walk.setting walk.l walk.around new h → Held walk.l new c w
      → word_of locals a ≡ Some w → Reached (Pay (return_price count a) B)
      (state count locals (Return a) rests waiting h)

  pub far : (objects : List Object) (h : Heap) → Fine walk.setting walk.l walk.around objects h → (at head : ℕ)
      (ws : List ℕ) → There walk.l objects at (Fixed head ws) → 65536 ≤ at
  far objects h fine at head ws t = (not_zero walk objects h fine at head ws t).0

  pub held_small : (objects : List Object) (h : Heap) → Fine walk.setting walk.l walk.around objects h → (c : Coercion)
      (w : ℕ) → Held walk.l objects c w → w < 2 ^ 64
  held_small objects h fine Id w x = omega (arith, x)
  held_small objects h fine (Fail label) w x = (not_zero walk objects h fine w _ _ x).1
  held_small objects h fine (Middle kind parts) w x = (not_zero walk objects h fine w _ _ x.1).1
  held_small objects h fine (Inject g kept) w x = (not_zero walk objects h fine w _ _ x.2).1
  held_small objects h fine (Project wanted label i) w x = (not_zero walk objects h fine w _ _ x.2).1

  -- a new object
  pub added : (objects : List Object) (h : Heap) → Fine walk.setting walk.l walk.around objects h → (o : Object)
      → There walk.l (objects ++ o ∷ []) h.alloc o
  added objects h fine o =
      inr (object_behind objects (o ∷ []) walk.l.region h.alloc (omega (arith, fine.filled.ends)) ∙ chosen_true
      (nat_eq h.alloc (walk.l.region + bytes_of_all objects)) (Some o) None (eq-eqb h.alloc (walk.l.region +
      bytes_of_all objects) fine.filled.ends))

  pub one_more : (objects : List Object) (o : Object) → Grows objects (objects ++ o ∷ [])
  one_more objects o = record { more = o ∷ []; is = refl }

  module _ (raise part : ℕ) (p : Proc) (raise_stands : slice_get walk.setting.procs raise ≡ Some raise_proc)
      (part_stands : slice_get walk.setting.procs part ≡ Some p) (takes : serves 6 p ≡ true)
      (enters : entering p.words ≡ 15) where
    module _ (cost above asks price : ℕ) (offset : ℕ → ℕ) (total : ℕ) (few : total ≤ 8) (objects : List Object)
        (waiting : List
        Waiting) (kind : Kind) (wide : HasWidth walk.l kind total) (x y n extra : ℕ) (hx hy : ℕ) (xs ys : List ℕ)
        (x_there : There walk.l objects x (Fixed hx xs)) (y_there : There walk.l objects y (Fixed hy ys)) (E : ℕ
        → Coercion) (X Y index : ℕ → ℕ) (offsets : (k : ℕ) → offset k ≡ 8 * index k) (x_has : (k : ℕ) → k < total
        → slice_get (hx ∷ xs) (index k) ≡ Some (X k)) (y_has : (k : ℕ) → k < total → slice_get (hy ∷ ys) (index k) ≡
        Some (Y k)) (low : (k : ℕ) → k < total → coercion_height (height_in walk.l) (E k) < 65535) where
      abbrev pub PartDoes : ℕ → Type 0
      PartDoes k = (B : Budget) (now : List Object) (h : Heap) (waiting : List Waiting) → Grows objects now
          → Fine walk.setting walk.l walk.around now h → Answers B now waiting (E k)
          → Reached (More cost above asks price B)
          (state p.words (bind 0 (kind_number kind ∷ n ∷ suc k ∷ X k ∷ Y k ∷ extra ∷ []) no_locals) p.code [] waiting h)

      record InPlace (now : List Object) (k : ℕ) (L : Locals) : Type 0 where
        x_is : L 0 ≡ Some x
        y_is : L 1 ≡ Some y
        kind_is : L 2 ≡ Some (kind_number kind)
        n_is : L 3 ≡ Some n
        extra_is : L 4 ≡ Some extra
        top : L 5 ≡ Some (top_to (height_in walk.l) E k)
        some : L 6 ≡ Some (some_to E k)
        W : ℕ → ℕ
        words : (i : ℕ) → i < k → L (16 + i) ≡ Some (W i)
        held : (i : ℕ) → i < k → Held walk.l now (E i) (W i)

      top_low : (k : ℕ) → k ≤ total → top_to (height_in walk.l) E k < 65535
      top_low zero le = omega arith
      top_low (suc k) le = let a = top_low k (omega arith) in let b = low k (omega arith) in omega arith

      all_small : (now : List Object) (h : Heap) → Fine walk.setting walk.l walk.around now h → (W : ℕ → ℕ) (j k : ℕ)
          → ((i : ℕ) → i < k + j → Held walk.l now (E i) (W i)) → AreSmall (upto W j k)
      all_small now h fine W zero k held = tt
      all_small now h fine W (suc j) k held = (
        held_small now h fine (E k) (W k) (held k (omega arith)),
        all_small now h
            fine W j (suc k) (λ i lt. held i (omega arith)),
      )

      all_held : (now : List Object) (W : ℕ → ℕ) (j k : ℕ) → ((i : ℕ) → i < k + j → Held walk.l now (E i) (W i))
          → AreHeld walk.l now (list_of E j k) (upto W j k)
      all_held now W zero k held = tt
      all_held now W (suc j) k held = (held k (omega arith), all_held now W j (suc k) (λ i lt. held i (omega arith)))

      sum_is : (m k : ℕ) → m < 65535 → k < 256 → compute Add (compute Add (compute Sll (compute Add m 1) 16) k)
          (total * 4294967296 % 2 ^ 64) ≡ header k (suc m) total
      sum_is m k a b = omega (arith, few)

      -- all parts are there
      finished : {B : Budget} → (now : List Object) (h : Heap) (fine : Fine walk.setting walk.l walk.around now h)
          → Grows objects now → (L : Locals) → InPlace now total L → Answers B objects waiting
          (middle kind (list_of E total 0)) → (rests : List Code) → Reached (More 7 0 (suc total) (70 + 4 * total) B)
          (state 24 L (finish_code total)
          rests
          waiting h)
      finished {B = B} now h fine grows L at go rests = by_some (eq_cases (some_to E total) 0)
          (by_ids (all_id (list_of E total 0)) refl)
        where
          by_ids : (b : Bool) → all_id (list_of E total 0) ≡ b → (b ≡ true) ⊎ ((all_id (list_of E total 0) ≡ false)
              × (some_to E total ≡ 0 → ⊥))
          by_ids true e = inl refl
          by_ids false e = inr (e, λ z. absurd (clash (sym (all_ids E total 0 total (omega arith) z) ∙ e)))
            where
              clash : true ≡ false → ⊥
              clash q = cc

          by_some : (some_to E total ≡ 0) ⊎ ((some_to E total == 0) ≡ false) → ((all_id (list_of E total 0) ≡ true)
              ⊎ ((all_id (list_of E total 0) ≡ false) × (some_to E total ≡ 0 → ⊥)))
              → Reached (More 7 0 (suc total) (70 + 4 * total) B)
              (state 24 L (finish_code total) rests waiting h)
          by_some (inl z) ids =
              let e : middle kind (list_of E total 0) ≡ Id = ap (λ b. cond b Id (Middle kind (list_of E total 0)))
              (all_ids E total 0 total (omega arith) z) in
              at_most walk
              (if_true walk now fine (some_to E total) 0 at.some refl (eq_true (some_to E total) 0 z)
              (go now h 0 24 L _ (Number 0) grows fine (subst (λ c. Held walk.l now c 0) (sym e) refl) refl))
              (omega arith, omega arith, omega arith, omega arith)
          by_some (inr z) (inl ids) = absurd (clash (sym (ap (λ m. m == 0) (none_to E total 0 total (omega arith) refl
              ids)) ∙ z))
            where
              clash : true ≡ false → ⊥
              clash q = cc
          by_some (inr z) (inr ids) =
              let m = top_to (height_in walk.l) E total in
              let lt = top_low total (le_refl total) in
              let head = header (kind_number kind) (suc m) total in
              let ws = upto at.W total 0 in
              let long : length ws ≡ total = upto_long at.W total 0 in
              let tall : suc m ≡ coercion_height (height_in walk.l) (Middle kind (list_of E total 0)) = let t = top_is
              (height_in walk.l) E total 0 total (omega arith) in omega arith in
              let e : middle kind (list_of E total 0) ≡ Middle kind (list_of E total 0) = ap (λ b. cond b Id
              (Middle kind (list_of E total 0))) ids.0 in
              let s1 = compute Add m 1 in
              let s2 = compute Sll s1 16 in
              let s3 = compute Add s2 (kind_number kind) in
              at_most walk
              (if_false walk now fine (some_to E total) 0 at.some refl z
              (computes walk now fine m 1 s1 at.top refl refl refl
              (computes walk now fine s1 16 s2 refl refl refl refl
              (computes walk now fine s2 (kind_number kind) s3 refl at.kind_is refl refl
              (computes walk now fine s3 (total * 4294967296 % 2 ^ 64) head refl refl (sum_is m (kind_number kind) lt
              (numbers kind)) refl
              (builds walk now fine head ws (ap (λ o. and_more (Some head) o) (results_are _ at.W total 0 16 total refl
              (omega arith) (λ i lt. skip_five head s3 s2 s1 L i ∙ at.words i lt))) (omega (arith, long, few))
              (omega arith) (
                header_small (kind_number kind) (suc m) total (numbers kind) (omega (arith, lt))
                    (omega (arith, few)),
                all_small now h fine at.W total 0 (λ i lt. at.held i (omega arith)),
              )
              (WholeMiddle kind m ws (ap (λ n. Fixed (header (kind_number kind) (suc m) n) ws) (sym long))
              (subst (HasWidth walk.l kind) (sym long) wide) (omega (arith, lt))
              (subst (Highest walk.l now ws) (omega (arith, tall))
              (highest_words walk.l now (list_of E total 0) ws (omega (arith, tall, lt)) (all_held now at.W total 0
              (λ i lt. at.held i
              (omega arith)))))) refl
              (λ h' fine'. go (now ++ Fixed head ws ∷ []) h' h.alloc 24 _ _ (Word 7) (grows_on objects now (now ++ Fixed
              head ws ∷ []) grows (one_more now (Fixed head ws))) fine' (subst (λ c. Held walk.l (now ++ Fixed head
              ws ∷ []) c h.alloc) (sym e) (
                ws,
                subst (λ c. There walk.l (now ++ Fixed head ws ∷ []) h.alloc c)
                    (ap₂ (λ a b. Fixed (header (kind_number kind) a b) ws) tall (sym long)) (added now h fine
                    (Fixed head ws)),
                are_still walk.l now (now ++ Fixed head ws ∷ []) (one_more now (Fixed head ws))
                    (list_of E total 0) ws (all_held now at.W total 0 (λ i lt. at.held i (omega arith))),
                subst
                    (HasWidth walk.l kind) (sym long) wide,
              )) refl))))))) (
                omega arith,
                omega arith,
                omega (arith, long),
                let r = words_price total 16 (omega (arith, few)) in let n = number_price
                    (total * 4294967296) in omega (arith, r, n),
              )

      given_words : (k : ℕ) (L : Locals) → suc k % 2 ^ 64 ≡ suc k → L 2 ≡ Some (kind_number kind) → L 3 ≡ Some n
          → L 4 ≡ Some extra → words_of (set_local 9 (Y k) (set_local 8 (X k) L)) (Word 2 ∷ Word 3 ∷ Number (suc k) ∷
          Word 8 ∷ Word 9 ∷ Word 4 ∷ []) ≡ Some (kind_number kind ∷ n ∷ suc k ∷ X k ∷ Y k ∷ extra ∷ [])
      given_words k L e a b c = rw (a, b, c, e) refl

      next_place : (now new : List Object) → Grows now new → (k w : ℕ) (L : Locals) → InPlace now k L → Held walk.l new
          (E k) w → InPlace new (suc k) (put_part k (X k) (Y k) w (max (top_to (height_in walk.l) E k) (coercion_height
          (height_in walk.l) (E k))) (cond (is_id (E k)) 0 1) (some_to E (suc k)) L)
      next_place now new grows k w L at held = record {
        x_is = low_is 0 (omega arith) ∙ at.x_is;
        y_is = low_is 1 (omega arith) ∙ at.y_is;
        kind_is = low_is 2 (omega arith) ∙ at.kind_is;
        n_is = low_is 3 (omega arith) ∙ at.n_is;
        extra_is = low_is 4 (omega arith) ∙ at.extra_is;
        top = refl;
        some = refl;
        W = W';
        words = λ i lt. word_is i lt (eq_cases i k);
        held = λ i lt. held_is i lt (eq_cases i k);
      }
        where
          m : ℕ
          m = max (top_to (height_in walk.l) E k) (coercion_height (height_in walk.l) (E k))

          f : ℕ
          f = cond (is_id (E k)) 0 1

          L' : Locals
          L' = put_part k (X k) (Y k) w m f (some_to E (suc k)) L

          low_is : (i : ℕ) → i < 5 → L' i ≡ L i
          low_is i lt = part_low k (X k) (Y k) w m f (some_to E (suc k)) L i lt

          W' : ℕ → ℕ
          W' i = if i == k then w else at.W i

          here : W' k ≡ w
          here = ap (λ b. if b then w else at.W k) (eq_true k k refl)

          word_is : (i : ℕ) → i < suc k → (i ≡ k) ⊎ ((i == k) ≡ false) → L' (16 + i) ≡ Some (W' i)
          word_is i lt (inl e) = subst (λ j. L' (16 + j) ≡ Some (W' j)) (sym e) (part_new k (X k) (Y k) w m f
              (some_to E (suc k)) L ∙ ap Some (sym here))
          word_is i lt (inr e) =
              let less : i < k = grind (arith, e) in
              part_early k (X k) (Y k) w m f (some_to E (suc k)) L i less ∙ (at.words i less
              ∙ ap (λ b. Some (if b then w else at.W i)) (sym e))

          held_is : (i : ℕ) → i < suc k → (i ≡ k) ⊎ ((i == k) ≡ false) → Held walk.l new (E i) (W' i)
          held_is i lt (inl e) = subst (λ j. Held walk.l new (E j) (W' j)) (sym e) (subst (Held walk.l new (E k))
              (sym here) held)
          held_is i lt (inr e) =
              let less : i < k = grind (arith, e) in
              subst (Held walk.l new (E i)) (ap (λ b. if b then w else at.W i) (sym e)) (held_still walk.l now new grows
              (E i) (at.W i) (at.held i less))

      -- the parts from k on
      parts_go : {B : Budget} → (j k : ℕ) → k + j ≡ total → ((i : ℕ) → i < total → PartDoes i) → (now : List Object)
          (h : Heap) (fine : Fine walk.setting walk.l walk.around now h) → Grows objects now → (L : Locals)
          → InPlace now k L → Answers B objects waiting (middle kind (list_of E total 0)) → (rests : List Code)
          → Reached (More (parts_cost cost j) (suc above) (suc total + j * asks) (70 + 4 * total + j * (158 + price)) B)
          (state 24 L (parts_code raise part offset total j k) rests
          waiting
          h)
      parts_go zero k e does now h fine grows L at go rests =
          let q : k ≡ total = omega arith in
          at_most walk
          (finished now h fine grows L (subst (λ m. InPlace now m L) q at) go rests)
          (omega arith, omega arith, omega arith, omega arith)
      parts_go (suc j) k e does now h fine grows L at go rests =
          let lt : k < total = omega arith in
          let L1 = set_local 8 (X k) L in
          let L2 = set_local 9 (Y k) L1 in
          at_most walk
          (loads walk now fine x hx xs (index k) (X k) at.x_is (there_still walk.l objects now x (Fixed hx xs) grows
          x_there) (x_has k lt) (offsets k) refl
          (loads walk now fine y hy ys (index k) (Y k) at.y_is (there_still walk.l objects now y (Fixed hy ys) grows
          y_there) (y_has k lt) (offsets k) refl
          (calls walk now fine (kind_number kind ∷ n ∷ suc k ∷ X k ∷ Y k ∷ extra ∷ []) p (given_words k L (number_small
          (suc k) (omega (arith, lt, few))) at.kind_is at.n_is at.extra_is) part_stands takes
          (does k lt _ now h _ grows fine
          (λ new h' w count locals rests' a grows' fine' held is. comes_back walk new fine' w is (lt_true (16 + k) 24
          (omega (arith, lt, few)))
          (calls walk new fine' (top_to (height_in walk.l) E k ∷ w ∷ []) raise_proc
          (ap₂ (λ a b. and_more a (and_more b (Some []))) (three_five k (X k) (Y k) w L ∙ at.top) (three_new k (X k)
          (Y k) w L)) raise_stands refl
          (raised walk new h' fine' _ (top_to (height_in walk.l) E k) w (coercion_height (height_in walk.l) (E k))
          (has_height walk.l new (E k) w (let z = low k lt in omega arith) held)
          (λ count2 locals2 rests2 a2 is2. comes_back walk new fine' (max (top_to (height_in walk.l) E k)
          (coercion_height (height_in walk.l) (E k))) is2 refl
          (computes walk new fine' 0 w (cond (is_id (E k)) 0 1) refl (four_new k (X k) (Y k) w
          (max (top_to (height_in walk.l) E k) (coercion_height (height_in walk.l) (E k))) L) (is_id_word walk.l new
          (E k) w (far new h' fine') held) refl
          (computes walk new fine' (some_to E k) (cond (is_id (E k)) 0 1) (some_to E (suc k)) (five_six k (X k) (Y k) w
          (max (top_to (height_in walk.l) E k) (coercion_height (height_in walk.l) (E k))) (cond (is_id (E k)) 0 1)
          L ∙ at.some) refl (let z = some_small E k in let b = bit_small (is_id (E k)) in omega (arith, lt, few))
          refl
          (parts_go j (suc k) (omega arith) does new h' fine' (grows_on objects now new grows grows') _ (next_place now
          new grows' k w L at held) go rests))))))))))) (
            omega arith,
            omega arith,
            omega arith,
            let s = slot_near k (omega (arith, lt, few)) in let n = place_price k
                (omega (arith, lt, few)) in omega (arith, s, n, enters),
          )

      pub middle_made : {B : Budget} → ((i : ℕ) → i < total → PartDoes i) → (h : Heap) (fine : Fine walk.setting walk.l
          walk.around objects h) → Answers B objects waiting (middle kind (list_of E total 0))
          → Reached (More (2 + parts_cost cost total) (suc above) (middle_words total asks)
          (middle_price total price) B)
          (state 24 (bind 0 (x ∷ y ∷ kind_number kind ∷ n ∷
          extra ∷
          []) no_locals) (middle_code raise part offset total) [] waiting h)
      middle_made does h fine go =
          at_most walk
          (sets_word walk objects fine 0 refl refl
          (sets_word walk objects fine 0 refl refl
          (parts_go total 0 (omega arith) does objects h fine (grows_not objects) _ (record {
            x_is = refl;
            y_is = refl;
            kind_is = refl;
            n_is = refl;
            extra_is = refl;
            top = refl;
            some = refl;
            W = λ i. 0;
            words = λ i lt. absurd
                (omega arith);
            held = λ i lt. absurd (omega arith);
          }) go [])))
          (omega arith, omega arith, omega arith, omega arith)
