-- Storage that whole objects fill: what is loaded from it, and what stays as objects are added.
use Rattle.std.proofs.Common.{◌≡◌, inl, inr, ℕ, zero, suc, ◌+◌, ◌*◌, ◌^◌, ◌%◌, ◌<◌, ◌≤◌, true}
use Rattle.std.proofs.Common.{List, [], ◌∷◌, ◌++◌, length, Some}
use Rattle.std.proofs.Common.{subst, arith}
use Rattle.std.specs.Prelude.{slice_get}
use Rattle.machine_words.specs.Memory.{Memory, load_bytes}
use Rattle.low_ir.specs.Steps.{may_load}
use Rattle.low_ir.specs.Run.{Setting}
use Rattle.coercion_norm.specs.Objects.{Object, Fixed, header_of, bytes_of, bytes_of_all}
use Rattle.rt_cast.specs.Objects.{HoldsObject, Holds}
use Rattle.coercion_norm.specs.Held.{Layout, There}
use Rattle.rt_cast.specs.States.{Placed}
use Rattle.rt_cast.specs.States.{Heap}
use Rattle.lower.specs.Storage.{Filled}
use Rattle.lower.specs.Meanings.{Meaning}
use Rattle.lower.proofs.heap.Objects.{none_some, object_kept, found_within, holds_found, word_found}
use Rattle.lower.proofs.heap.Objects.{holds_same}
use Rattle.lower.proofs.heap.Objects.{holds_append, bytes_append, header_held, header_room}

pub may : (top at : ℕ) → at % 8 ≡ 0 → 65536 ≤ at → at + 8 ≤ top → may_load top at ≡ true
may top at e l h = grind arith

pub there_later : (l : Layout) (xs ys : List Object) (at : ℕ) (o : Object) → There l xs at o → There l (xs ++ ys) at o
there_later l xs ys at o (inl e) = inl e
there_later l xs ys at o (inr e) = inr (object_kept xs ys l.region at o e)

pub in_list : (xs : List ℕ) (i w : ℕ) → slice_get xs i ≡ Some w → i < length xs
in_list [] i w e = none_some e
in_list (x ∷ xs) zero w e = omega arith
in_list (x ∷ xs) (suc i) w e = let h = in_list xs i w e in omega arith

module _ (meaning : Meaning) (setting : Setting) (l : Layout) (placed : Placed setting l) where
  -- a word that may be loaded
  pub record WordThere (m : Memory) (at w : ℕ) : Type 0 where
    pub may : may_load setting.top at ≡ true
    pub is : load_bytes 8 m at ≡ w
    pub small : w < 2 ^ 64
    pub end : at + 8 < 2 ^ 64

  -- where an object stands
  pub record Stands (h : Heap) (at size : ℕ) : Type 0 where
    pub low : 65536 ≤ at
    pub high : at + size ≤ h.alloc
    pub even : at % 8 ≡ 0

  module _ {number : ℕ} where
    pub stands : (objects : List Object) (h : Heap) → Filled meaning setting l number objects h → (at : ℕ) (o : Object)
        → There l objects at o → Stands h at (bytes_of o)
    stands objects h f at o (inl e) =
        let z = found_within l.statics l.first at o e in
        record {
          low = omega (arith, z.low, placed.low);
          high = omega (arith, z.high, placed.before, f.ends);
          even = z.even placed.even_first;
        }
    stands objects h f at o (inr e) =
        let z = found_within objects l.region at o e in
        record {
          low = omega (arith, z.low, placed.low, placed.before);
          high = omega (arith, z.high, f.ends);
          even = z.even placed.even_region;
        }

    held_there : (objects : List Object) (h : Heap) → Filled meaning setting l number objects h → (at : ℕ) (o : Object)
        → There l objects at o → HoldsObject h.memory at o
    held_there objects h f at o (inl e) = holds_found h.memory l.first l.statics at o f.statics_stand e
    held_there objects h f at o (inr e) = holds_found h.memory l.region objects at o f.objects_stand e

    pub word_there : (objects : List Object) (h : Heap) → Filled meaning setting l number objects h
        → (at header : ℕ) (ws : List ℕ)
        → There l objects at (Fixed header ws) → (i w to : ℕ) → slice_get (header ∷ ws) i ≡ Some w → to ≡ at + 8 * i
        → WordThere h.memory to w
    word_there objects h f at header ws e i w to g t =
        let z = stands objects h f at (Fixed header ws) e in
        let x = word_found h.memory at (header ∷ ws) i w to (held_there objects h f at (Fixed header ws) e) g t in
        let n = in_list (header ∷ ws) i w g in
        record {
          may = may setting.top to (omega (arith, z.even, t)) (omega (arith, z.low, t))
              (omega (arith, z.high, t, n, f.fits));
          is = x.is;
          small = x.small;
          end = omega (arith, z.high, t, n, f.fits, placed.top);
        }

    -- the header of any object
    pub header_there : (objects : List Object) (h : Heap) → Filled meaning setting l number objects h
        → (at : ℕ) (o : Object)
        → There l objects at o → WordThere h.memory at (header_of o)
    header_there objects h f at o e =
        let z = stands objects h f at o e in
        let x = header_held h.memory at o (held_there objects h f at o e) in
        let r = header_room o in
        record {
          may = may setting.top at z.even z.low (omega (arith, z.high, r, f.fits));
          is = x.is;
          small = x.small;
          end = omega (arith, z.high, r, f.fits, placed.top);
        }

    -- memory that changes above the allocation word
    pub filled_above : (objects : List Object) (h : Heap) (m : Memory) (words : ℕ)
        → Filled meaning setting l number objects h
        → ((i : ℕ) → i < h.alloc → m i ≡ h.memory i)
        → Filled meaning setting l number objects (record { memory = m; alloc = h.alloc; words = words })
    filled_above objects h m words f same = record {
      objects_stand =
          holds_same h.memory m l.region objects (λ i a b. same i (omega (arith, f.ends, b))) f.objects_stand;
      statics_stand =
          holds_same h.memory m l.first l.statics (λ i a b. same i (omega (arith, f.ends, b, placed.before)))
          f.statics_stand;
      ends = f.ends;
      fits = f.fits;
      keeps = f.keeps;
    }

    -- objects that are stored behind the others, of which the test holds
    pub filled_more : {after : ℕ} (objects more : List Object) (h : Heap) (m : Memory) (alloc words : ℕ)
        → Filled meaning setting l number objects h
        → ((i : ℕ) → i < h.alloc → m i ≡ h.memory i) → Holds m h.alloc more → meaning.Keeps l (objects ++ more) after
        → alloc ≡ h.alloc + bytes_of_all more → alloc ≤ setting.top
        → Filled meaning setting l after (objects ++ more) (record { memory = m; alloc = alloc; words = words })
    filled_more objects more h m alloc words f same stand keeps e fits = record {
      objects_stand =
          holds_append m l.region objects more
          (holds_same h.memory m l.region objects (λ i a b. same i (omega (arith, f.ends, b))) f.objects_stand)
          (subst (λ n. Holds m n more) f.ends stand);
      statics_stand =
          holds_same h.memory m l.first l.statics (λ i a b. same i (omega (arith, f.ends, b, placed.before)))
          f.statics_stand;
      ends = let b = bytes_append objects more in omega (arith, f.ends, b, e);
      fits = fits;
      keeps = keeps;
    }
