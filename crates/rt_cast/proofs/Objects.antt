-- Objects in memory: what stands at a place, what stays as words are stored and objects are added, and headers.
use Rattle.std.proofs.Common.{◌≡◌, inl, inr, ℕ, zero, suc, ◌+◌, ◌*◌, ◌^◌, ◌<◌, ◌≤◌, Bool, true, false}
use Rattle.std.proofs.Common.{cond, nat_eq, List, [], ◌∷◌, ◌++◌, length, Some, None, refl, sym, ap, ◌∙◌}
use Rattle.std.proofs.Common.{subst, arith, eqb-true}
use Rattle.std.specs.Prelude.{slice_get}
use Rattle.machine_words.specs.Memory.{Memory, store_bytes}
use Rattle.machine_words.proofs.Public.{stored_outside, load_stored, load_other, load_same}
use Rattle.low_ir.specs.Operations.{compute}
use Rattle.low_ir.specs.Steps.{store_words}
use Rattle.low_ir.specs.declared.code.WordOp.TheVariants.{And}
use Rattle.object_layout.specs.declared.kinds.Kind.TheVariants.{Closure, Proxy, Dyn, Tuple as TupleKind, Boxed, Vector}
use Rattle.object_layout.specs.declared.kinds.Kind.TheVariants.{Fail, Inject, Project}
use Rattle.object_layout.specs.Kinds.{kind_number}
use Rattle.coercion_norm.specs.ObjectsOfRows.{header}
use Rattle.coercion_norm.specs.Objects.{Object, Fixed, Cell, header_of, bytes_of, bytes_of_all, object_at}
use Rattle.coercion_norm.specs.Objects.{words_of, words_of_all}
use Rattle.coercion_norm.proofs.Public.{bytes_of_words, found_within, words_part}
use Rattle.rt_cast.specs.Objects.{HasWord, HoldsWords}
use Rattle.rt_cast.specs.Objects.{HoldsObject, Holds}
use Rattle.object_layout.specs.Words.{kind_mask}
use Rattle.rt_cast.proofs.HeaderNumbers.{kind_read}

pub none_some : {A B : Type 0} {a : A} → None ≡ Some a → B
none_some {a = a} e = absurd (clash e)
  where
    clash : None ≡ Some a → ⊥
    clash h = cc

pub same_some : {A : Type 0} (a b : A) → Some a ≡ Some b → a ≡ b
same_some a b e = cc

pub chosen_true : {A : Type 0} (b : Bool) (x y : A) → b ≡ true → cond b x y ≡ x
chosen_true b x y e = ap (λ c. cond c x y) e

-- what stands at the place of an object
pub holds_found : (m : Memory) (from : ℕ) (os : List Object) (at : ℕ) (o : Object) → Holds m from os → object_at os from
    at ≡ Some o → HoldsObject m at o
holds_found m from [] at o h e = none_some e
holds_found m from (x ∷ os) at o h e = by_test (holds_found m (from + bytes_of x) os at o h.1) (nat_eq at from) refl e
  where
    by_test : (object_at os (from + bytes_of x) at ≡ Some o → HoldsObject m at o) → (b : Bool) → nat_eq at from ≡ b
        → cond b (Some x) (object_at os (from + bytes_of x) at) ≡ Some o → HoldsObject m at o
    by_test ih true b k =
        subst (λ n. HoldsObject m n o) (sym (eqb-true at from b)) (subst (HoldsObject m from) (same_some x o k) h.0)
    by_test ih false b k = ih k

pub word_found : (m : Memory) (at : ℕ) (ws : List ℕ) (i w to : ℕ) → HoldsWords m at ws → slice_get ws i ≡ Some w
    → to ≡ at + 8 * i → HasWord m to w
word_found m at [] i w to h e t = none_some e
word_found m at (x ∷ ws) zero w to h e t =
    let a : at ≡ to = omega arith in subst (λ n. HasWord m n w) a (subst (HasWord m at) (same_some x w e) h.0)
word_found m at (x ∷ ws) (suc i) w to h e t = word_found m (at + 8) ws i w to h.1 e (omega arith)

-- ---- words of objects

-- an object has its header, and room for it
pub header_held : (m : Memory) (at : ℕ) (o : Object) → HoldsObject m at o → HasWord m at (header_of o)
header_held m at (Fixed header words) h = h.0
header_held m at (Cell header count) h = h

pub header_room : (o : Object) → 8 ≤ bytes_of o
header_room (Fixed header words) = omega arith
header_room (Cell header count) = omega arith

-- words one behind another are held each in its place
pub words_split : (m : Memory) (at : ℕ) (xs ys : List ℕ) → HoldsWords m at (xs ++ ys)
    → HoldsWords m at xs × HoldsWords m (at + 8 * length xs) ys
words_split m = words_part (HasWord m) (HoldsWords m) (λ at. tt) (λ at x xs. (λ h. h, λ h. h))

first_of_words : (m : Memory) (at : ℕ) (o : Object) → HoldsWords m at (words_of o) → HoldsObject m at o
first_of_words m at (Fixed header words) h = h
first_of_words m at (Cell header count) h = h.0

-- objects stand where their words do
pub objects_stand_where_their_words_do : (m : Memory) (at : ℕ) (os : List Object) → HoldsWords m at (words_of_all os)
    → Holds m at os
objects_stand_where_their_words_do m at [] h = tt
objects_stand_where_their_words_do m at (o ∷ os) h =
    let both = words_split m at (words_of o) (words_of_all os) h in
    let e : at + 8 * length (words_of o) ≡ at + bytes_of o = let b = bytes_of_words o in omega (arith, b) in (
      first_of_words m at o both.0,
      objects_stand_where_their_words_do m (at + bytes_of o) os
          (subst (λ n. HoldsWords m n (words_of_all os)) e both.1),
    )

-- ---- memory

-- words that are stored leave what is below
pub stored_below : (ws : List ℕ) (at : ℕ) (m : Memory) (to w : ℕ) → to + 8 ≤ at → HasWord m to w
    → HasWord (store_words ws at m) to w
stored_below [] at m to w le h = h
stored_below (x ∷ ws) at m to w le h =
    stored_below ws (at + 8) (store_bytes 8 m at x) to w (omega arith) (record {
      is = load_other 8 8 m at x to (inl le)
          ∙ h.is;
      small = h.small;
    })

-- the bytes below stay
pub bytes_below : (ws : List ℕ) (at : ℕ) (m : Memory) (i : ℕ) → i < at → store_words ws at m i ≡ m i
bytes_below [] at m i lt = refl
bytes_below (w ∷ ws) at m i lt = bytes_below ws (at + 8) (store_bytes 8 m at w) i (omega arith) ∙ stored_outside 8 m at
    w i (inl lt)

abbrev pub AreSmall : List ℕ → Type 0
AreSmall [] = Unit {0}
AreSmall (w ∷ ws) = (w < 2 ^ 64) × AreSmall ws

pub stored_words : (ws : List ℕ) (at : ℕ) (m : Memory) → AreSmall ws → HoldsWords (store_words ws at m) at ws
stored_words [] at m s = tt
stored_words (w ∷ ws) at m s = (
  stored_below ws (at + 8) (store_bytes 8 m at w) at w (omega arith) (record {
    is = load_stored 8 m at w s.0;
    small =
        s.0;
  }),
  stored_words ws (at + 8) (store_bytes 8 m at w) s.1,
)

words_below : (ws : List ℕ) (at : ℕ) (m : Memory) (to : ℕ) (xs : List ℕ) → to + 8 * length xs ≤ at → HoldsWords m to xs
    → HoldsWords (store_words ws at m) to xs
words_below ws at m to [] le h = tt
words_below ws at m to (x ∷ xs) le h = (
  stored_below ws at m to x (omega arith) h.0,
  words_below ws at m (to + 8) xs
      (omega arith) h.1,
)

object_below : (ws : List ℕ) (at : ℕ) (m : Memory) (to : ℕ) (o : Object) → to + bytes_of o ≤ at → HoldsObject m to o
    → HoldsObject (store_words ws at m) to o
object_below ws at m to (Fixed header words) le h = words_below ws at m to (header ∷ words) (omega arith) h
object_below ws at m to (Cell header count) le h = stored_below ws at m to header (omega arith) h

pub holds_below : (ws : List ℕ) (at : ℕ) (m : Memory) (to : ℕ) (os : List Object) → to + bytes_of_all os ≤ at
    → Holds m to os → Holds (store_words ws at m) to os
holds_below ws at m to [] le h = tt
holds_below ws at m to (o ∷ os) le h = (
  object_below ws at m to o (omega arith) h.0,
  holds_below ws at m (to + bytes_of
      o) os (omega arith) h.1,
)

pub holds_append : (m : Memory) (at : ℕ) (xs ys : List Object) → Holds m at xs → Holds m (at + bytes_of_all xs) ys
    → Holds m at (xs ++ ys)
holds_append m at [] ys h k = let e : at + 0 ≡ at = omega arith in subst (λ n. Holds m n ys) e k
holds_append m at (x ∷ xs) ys h k =
    let e : at + (bytes_of x + bytes_of_all xs) ≡ at + bytes_of x + bytes_of_all xs = omega arith in
    (h.0, holds_append m (at + bytes_of x) xs ys h.1 (subst (λ n. Holds m n ys) e k))

-- ---- memory that is the same somewhere

pub word_same : (m n : Memory) (at w : ℕ) → ((i : ℕ) → at ≤ i → i < at + 8 → n i ≡ m i) → HasWord m at w
    → HasWord n at w
word_same m n at w same h = record {
  is = load_same 8 n m at at (λ i lt. same (at + i) (omega arith) (omega arith)) ∙ h.is;
  small = h.small;
}

pub words_same : (m n : Memory) (at : ℕ) (ws : List ℕ) → ((i : ℕ) → at ≤ i → i < at + 8 * length ws → n i ≡ m i)
    → HoldsWords m at ws → HoldsWords n at ws
words_same m n at [] same h = tt
words_same m n at (w ∷ ws) same h = (
  word_same m n at w (λ i a b. same i a (omega arith)) h.0,
  words_same m n (at + 8) ws (λ i a b. same i (omega arith) (omega arith)) h.1,
)

pub object_same : (m n : Memory) (at : ℕ) (o : Object) → ((i : ℕ) → at ≤ i → i < at + bytes_of o → n i ≡ m i)
    → HoldsObject m at o → HoldsObject n at o
object_same m n at (Fixed header words) same h =
    words_same m n at (header ∷ words) (λ i a b. same i a (omega arith)) h
object_same m n at (Cell header count) same h = word_same m n at header (λ i a b. same i a (omega arith)) h

pub holds_same : (m n : Memory) (at : ℕ) (os : List Object) → ((i : ℕ) → at ≤ i → i < at + bytes_of_all os → n i ≡ m i)
    → Holds m at os → Holds n at os
holds_same m n at [] same h = tt
holds_same m n at (o ∷ os) same h = (
  object_same m n at o (λ i a b. same i a (omega arith)) h.0,
  holds_same m n (at + bytes_of o) os (λ i a b. same i (let z = header_room o in omega arith) (omega arith)) h.1,
)

-- a store into the words of a cell leaves all objects
pub holds_stored : (m : Memory) (os : List Object) (at w head count p y : ℕ) → Holds m at os
    → object_at os at w ≡ Some (Cell head count) → w + 8 ≤ p → p + 8 ≤ w + 8 + 8 * count
    → Holds (store_bytes 8 m p y) at os
holds_stored m [] at w head count p y h e low high = tt
holds_stored m (x ∷ os) at w head count p y h e low high =
    by_test (λ f. holds_stored m os (at + bytes_of x) w head count p y h.1 f low high) (nat_eq w at) refl e
  where
    by_test : (object_at os (at + bytes_of x) w ≡ Some (Cell head count)
        → Holds (store_bytes 8 m p y) (at + bytes_of x) os)
        → (t : Bool) → nat_eq w at ≡ t → cond t (Some x) (object_at os (at + bytes_of x) w) ≡ Some (Cell head count)
        → HoldsObject (store_bytes 8 m p y) at x × Holds (store_bytes 8 m p y) (at + bytes_of x) os
    by_test ih true q f =
        let here : w ≡ at = eqb-true w at q in
        let is : x ≡ Cell head count = same_some x (Cell head count) f in
        let size : bytes_of x ≡ 8 + 8 * count = ap bytes_of is in (
          subst (λ z. HoldsObject (store_bytes 8 m p y) at z) (sym is)
              (word_same m (store_bytes 8 m p y) at head
              (λ i a b. stored_outside 8 m p y i (inl (omega (arith, b, low, here))))
              (subst (λ z. HoldsObject m at z) is h.0)),
          holds_same m (store_bytes 8 m p y) (at + bytes_of x) os
              (λ i a b. stored_outside 8 m p y i (inr (omega (arith, a, high, here, size)))) h.1,
        )
    by_test ih false q f =
        let z = found_within os (at + bytes_of x) w (Cell head count) f in (
          object_same m (store_bytes 8 m p y) at x
              (λ i a b. stored_outside 8 m p y i (inl (omega (arith, b, low, z.low)))) h.0,
          ih f,
        )

-- ---- headers of objects, told how many words are behind them where their kind leaves it open

abbrev pub closure_header : ℕ → ℕ
closure_header count = header (kind_number Closure) 0 count

abbrev pub tuple_header : ℕ → ℕ
tuple_header count = header (kind_number TupleKind) 0 count

abbrev pub box_header : ℕ → ℕ
box_header count = header (kind_number Boxed) 0 count

abbrev pub vector_header : ℕ → ℕ
vector_header count = header (kind_number Vector) 0 count

abbrev pub proxy_header : ℕ
proxy_header = header (kind_number Proxy) 0 2

pub proxy_read : compute And proxy_header kind_mask ≡ kind_number Proxy
proxy_read = kind_read (kind_number Proxy) 0 2 (omega arith)

abbrev pub dyn_header : ℕ
dyn_header = header (kind_number Dyn) 0 2

abbrev pub fail_header : ℕ
fail_header = header (kind_number Fail) 0 1

-- told their heights
abbrev pub inject_header : ℕ → ℕ
inject_header height = header (kind_number Inject) height 2

abbrev pub project_header : ℕ → ℕ
project_header height = header (kind_number Project) height 3
