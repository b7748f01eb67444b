-- Objects and headers of the same row: where the one stands the other does.
use Rattle.std.proofs.Common.{◌≡◌, ℕ, zero, suc, ◌+◌, ◌*◌, Bool, true, false, cond, nat_eq, List, [], ◌∷◌, ◌++◌}
use Rattle.std.proofs.Common.{length, Option, Some, None, refl, sym, ap, ◌∙◌, subst, slice_get, eqb-true, arith}
use Rattle.std.proofs.lemmas.List.{length-map}
use Rattle.grift_base.specs.Types.{TypeRows, parts_of}
use Rattle.type_graph.specs.Trees.{height}
use Rattle.machine_words.specs.Memory.{Memory}
use Rattle.object_layout.specs.declared.headers.Header.{Header}
use Rattle.object_layout.specs.Wholes.{IsNth, StartsAt}
use Rattle.coercion_norm.specs.Coercions.{Coercion, rows_of}
use Rattle.coercion_norm.specs.Heights.{coercion_height}
use Rattle.coercion_norm.specs.Nodes.{Node, IdNode, FailNode, MiddleNode, InjectNode, ProjectNode, grown, tree_of}
use Rattle.coercion_norm.specs.Nodes.{tree_to, trees}
use Rattle.coercion_norm.specs.Objects.{Object, Fixed, Cell, bytes_of, bytes_of_all, object_at, words_of_all}
use Rattle.coercion_norm.specs.ObjectsOfRows.{object_of_type, objects_of_node, objects_of_place, static_objects}
use Rattle.coercion_norm.specs.StaticObjects.{coercion_headers, count_of, static_headers, type_headers, up_to}
use Rattle.rt_cast.specs.Objects.{Holds, HoldsWords}
use Rattle.rt_cast.proofs.Public.{none_some}

-- each object is as long as its header says
abbrev pub Match : List Object → List Header → Type 0
Match [] [] = Unit {0}
Match [] (h ∷ hs) = ⊥
Match (o ∷ os) [] = ⊥
Match (o ∷ os) (h ∷ hs) = (bytes_of o ≡ 8 + 8 * h.count) × Match os hs

-- where an object stands one begins by the headers
pub starts : (os : List Object) (hs : List Header) (from at : ℕ) (o : Object) → Match os hs
    → object_at os from at ≡ Some o → StartsAt from hs at
starts [] hs from at o m e = none_some e
starts (x ∷ os) [] from at o m e = absurd m
starts (x ∷ os) (h ∷ hs) from at o m e =
    by_test (starts os hs (from + bytes_of x) at o m.1) (nat_eq at from) refl e
  where
    by_test : (object_at os (from + bytes_of x) at ≡ Some o → StartsAt (from + bytes_of x) hs at) → (b : Bool)
        → nat_eq at from ≡ b → cond b (Some x) (object_at os (from + bytes_of x) at) ≡ Some o
        → StartsAt from (h ∷ hs) at
    by_test ih true b k = (0, h, (eqb-true at from b, refl))
    by_test ih false b k =
        let r = ih k in (suc r.0, r.1, subst (λ n. IsNth (from + n) hs r.0 at r.1) m.0 r.2)

-- the object at a place, and those before it
pub record Found (from : ℕ) (os : List Object) (at : ℕ) : Type 0 where
  pub first : List Object
  pub object : Object
  pub rest : List Object
  pub is : os ≡ first ++ object ∷ rest
  pub at_is : at ≡ from + bytes_of_all first

pub found : (os : List Object) (hs : List Header) (from place at : ℕ) (h : Header) → Match os hs
    → IsNth from hs place at h → Found from os at
found [] [] from place at h m n = absurd n
found [] (k ∷ hs) from place at h m n = absurd m
found (o ∷ os) [] from place at h m n = absurd n
found (o ∷ os) (k ∷ hs) from zero at h m n =
    record { first = []; object = o; rest = os; is = refl; at_is = let e = n.0 in omega (arith, e) }
found (o ∷ os) (k ∷ hs) from (suc place) at h m n =
    let size = m.0 in
    let f = found os hs (from + bytes_of o) place at h m.1
    (subst (λ b. IsNth (from + b) hs place at h) (sym size) n) in
    let e = f.at_is in
    record {
      first = o ∷ f.first;
      object = f.object;
      rest = f.rest;
      is = ap (λ xs. o ∷ xs) f.is;
      at_is = omega (arith, e);
    }

-- ---- statics

-- each object's words never change, and are as many as its header says
abbrev pub Fit : List Object → List Header → Type 0
Fit [] [] = Unit {0}
Fit [] (h ∷ hs) = ⊥
Fit (o ∷ os) [] = ⊥
Fit (Fixed word words ∷ os) (h ∷ hs) = (length words ≡ h.count) × Fit os hs
Fit (Cell word count ∷ os) (h ∷ hs) = ⊥

pub fit_match : (os : List Object) (hs : List Header) → Fit os hs → Match os hs
fit_match [] [] f = tt
fit_match [] (h ∷ hs) f = f
fit_match (Fixed word words ∷ os) [] f = f
fit_match (Cell word count ∷ os) [] f = f
fit_match (Fixed word words ∷ os) (h ∷ hs) f = let e = f.0 in (omega (arith, e), fit_match os hs f.1)
fit_match (Cell word count ∷ os) (h ∷ hs) f = absurd f

fit_append : (os more : List Object) (hs others : List Header) → Fit os hs → Fit more others
    → Fit (os ++ more) (hs ++ others)
fit_append [] more [] others f g = g
fit_append [] more (h ∷ hs) others f g = absurd f
fit_append (Fixed word words ∷ os) more [] others f g = absurd f
fit_append (Cell word count ∷ os) more [] others f g = absurd f
fit_append (Fixed word words ∷ os) more (h ∷ hs) others f g = (f.0, fit_append os more hs others f.1 g)
fit_append (Cell word count ∷ os) more (h ∷ hs) others f g = absurd f

fit_up_to : (give : ℕ → List Object) (headers : ℕ → List Header) (many : ℕ) → ((n : ℕ) → Fit (give n) (headers n))
    → Fit (up_to give many) (up_to headers many)
fit_up_to give headers zero f = tt
fit_up_to give headers (suc n) f =
    fit_append (up_to give n) (give n) (up_to headers n) (headers n) (fit_up_to give headers n f) (f n)

as_many : (at : ℕ → Coercion) (parts : List ℕ) → count_of (trees at parts) ≡ length parts
as_many at [] = refl
as_many at (part ∷ parts) = ap suc (as_many at parts)

module _ (types : TypeRows) (type_at : ℕ → ℕ) (nodes : List Node) (coercion_at : ℕ → ℕ) where
  node_fits : (at : ℕ → Coercion) (high : ℕ) (node : Option Node)
      → Fit (objects_of_node type_at coercion_at high node) (coercion_headers types (grown at node))
  node_fits at high None = tt
  node_fits at high (Some IdNode) = tt
  node_fits at high (Some (FailNode label)) = (refl, tt)
  node_fits at high (Some (MiddleNode kind parts)) =
      (length-map parts coercion_at ∙ sym (as_many at parts), tt)
  node_fits at high (Some (InjectNode g kept)) = (refl, tt)
  node_fits at high (Some (ProjectNode wanted label i)) = (refl, tt)

  place_fits : (c : ℕ) → Fit (objects_of_place types type_at nodes coercion_at c)
      (coercion_headers types (tree_of nodes c))
  unfolding tree_of
  place_fits c =
      node_fits (tree_to c nodes) (coercion_height (height types) (tree_of nodes c)) (slice_get nodes c)

  -- the objects of the statics fit their headers
  pub statics_fit : Fit (static_objects types type_at nodes coercion_at (length nodes)) (static_headers types nodes)
  statics_fit =
      fit_append (up_to (λ type. object_of_type types type_at type ∷ []) (length types))
      (up_to (objects_of_place types type_at nodes coercion_at) (length nodes))
      (up_to (type_headers types) (length types))
      (up_to (λ c. coercion_headers types (tree_of nodes c)) (length nodes))
      (fit_up_to (λ type. object_of_type types type_at type ∷ []) (type_headers types) (length types)
      (λ type. (length-map (parts_of (rows_of types type)) type_at, tt)))
      (fit_up_to (objects_of_place types type_at nodes coercion_at) (λ c. coercion_headers types (tree_of nodes c))
      (length nodes) place_fits)

-- ---- their words

hold_append : (m : Memory) (at : ℕ) (xs ys : List ℕ) → HoldsWords m at xs → HoldsWords m (at + 8 * length xs) ys
    → HoldsWords m at (xs ++ ys)
hold_append m at [] ys h k = let e : at + 0 ≡ at = omega arith in subst (λ n. HoldsWords m n ys) e k
hold_append m at (x ∷ xs) ys h k =
    let e : at + 8 * suc (length xs) ≡ at + 8 + 8 * length xs = omega arith in
    (h.0, hold_append m (at + 8) xs ys h.1 (subst (λ n. HoldsWords m n ys) e k))

-- objects whose words never change hold all of them
pub words_hold : (m : Memory) (at : ℕ) (os : List Object) (hs : List Header) → Fit os hs → Holds m at os
    → HoldsWords m at (words_of_all os)
words_hold m at [] hs f h = tt
words_hold m at (Fixed word words ∷ os) [] f h = absurd f
words_hold m at (Fixed word words ∷ os) (k ∷ hs) f h =
    let e : at + (8 + 8 * length words) ≡ at + 8 * length (word ∷ words) = omega arith in
    hold_append m at (word ∷ words) (words_of_all os) h.0
    (words_hold m (at + 8 * length (word ∷ words)) os hs f.1 (subst (λ n. Holds m n os) e h.1))
words_hold m at (Cell word count ∷ os) [] f h = absurd f
words_hold m at (Cell word count ∷ os) (k ∷ hs) f h = absurd f
