-- Steps that the procedures of boxes and vectors make beside those of casts, and the words of cells.
use Rattle.std.proofs.Common.{◌≡◌, ◌⊎◌, inl, inr, ℕ, zero, suc, ◌+◌, ◌*◌, ◌%◌, ◌^◌, ◌<◌, ◌≤◌, Bool, true, false}
use Rattle.std.proofs.Common.{List, [], ◌∷◌, length, Some, refl, ap, ◌∙◌, arith}
use Rattle.std.specs.Prelude.{nat_le, slice_get, pos}
use Rattle.run_laws.specs.Machines.{Go}
use Rattle.machine_words.specs.Memory.{store_bytes}
use Rattle.machine_words.specs.Arithmetic.{plus}
use Rattle.low_ir.specs.declared.code.LowSource.{LowSource}
use Rattle.low_ir.specs.Procedures.{Code, Done, Store}
use Rattle.low_ir.specs.Steps.{Locals, given, only_if, may_load, may_store}
use Rattle.low_ir.specs.Run.{Waiting, LowState, word_of, store, code_turns}
use Rattle.coercion_norm.specs.Objects.{Object, Cell}
use Rattle.coercion_norm.specs.Held.{There}
use Rattle.coercion_norm.proofs.Public.{found_within}
use Rattle.low_ir.specs.Frames.{frame_room, stack_room, waiting_room}
use Rattle.rt_cast.specs.Objects.{HoldsWords}
use Rattle.rt_cast.specs.States.{Heap, Fine, Within, st}
use Rattle.low_ir.specs.Prices.{source_price}
use Rattle.rt_cast.proofs.Public.{Pay, paid_for, Walk, none_some, word_found, Budget, One, Spare, Comes}
use Rattle.rt_cast.proofs.Public.{goes, WordThere}
use Rattle.rt_cast.proofs.Public.{one_less}

plus_is : (x n : ℕ) → x + n < 2 ^ 64 → plus x (pos n) ≡ x + n
plus_is x n h = grind arith

pub may : (top at : ℕ) → at % 8 ≡ 0 → 65536 ≤ at → at + 8 ≤ top → may_load top at ≡ true
may top at e l h = grind arith

pub may_be_stored : (region top at : ℕ) → at % 8 ≡ 0 → region ≤ at → at + 8 ≤ top → may_store region top at ≡ true
may_be_stored region top at e l h = grind arith

pub le_true : (a b : ℕ) → a ≤ b → nat_le a b ≡ true
le_true a b h = grind arith

abbrev pub le_cases : (b : Bool) → (b ≡ true) ⊎ (b ≡ false)
le_cases true = inl refl
le_cases false = inr refl

pub in_list : (xs : List ℕ) (i w : ℕ) → slice_get xs i ≡ Some w → i < length xs
in_list [] i w e = none_some e
in_list (x ∷ xs) zero w e = omega arith
in_list (x ∷ xs) (suc i) w e = let h = in_list xs i w e in omega arith

-- frames and words are within what a procedure may take
pub in_bounds : {s t : LowState} {frames words : ℕ} → stack_room t ≤ waiting_room s.waiting + 25 * (frames + 1)
    → t.words ≤ s.words + words → Within s frames words t
in_bounds room asked = record { room = room; asked = asked }

module _ {V : Type 0} (walk : Walk V) where
  abbrev St : ℕ → Locals → Code → List Code → List Waiting → Heap → LowState
  St = st walk.around

  abbrev Fi : List Object → Heap → Type 0
  Fi = Fine walk.setting walk.l walk.around

  pub here_at : (count : ℕ) (locals : Locals) (rests : List Code) (waiting : List Waiting) (h : Heap)
      (objects : List Object) → Fi objects h → (code : Code) → code_turns code ≤ 10 → {B : Budget}
      → Spare walk B (frame_room count + waiting_room waiting) h.words → walk.P (St count locals code rests waiting h)
  here_at count locals rests waiting h objects fine code few s =
      walk.calm (record { count = count; locals = locals; code = code; rests = rests }) waiting h objects fine few
      (let r = s.room in omega arith) (let r = s.left in omega arith)

  -- a word behind a header that stands somewhere below the top
  word_behind : (h : Heap) (at : ℕ) (ws : List ℕ) → at % 8 ≡ 0 → 65536 ≤ at → at + 8 * length ws + 8 ≤ walk.setting.top
      → HoldsWords h.memory (at + 8) ws → (i w to : ℕ) → slice_get ws i ≡ Some w → to ≡ at + 8 * i + 8
      → WordThere walk h to w
  word_behind h at ws even low high held i w to g t =
      let x = word_found h.memory (at + 8) ws i w to held g (omega (arith, t)) in
      let n = in_list ws i w g in
      record {
        may = may walk.setting.top to (omega (arith, even, t)) (omega (arith, low, t)) (omega (arith, high, t, n));
        is = x.is;
        small = x.small;
        place = omega (arith, low, t);
        end = omega (arith, high, t, n, walk.placed.top);
      }

  -- a word of a cell
  pub cell_word : (objects : List Object) (h : Heap) → Fi objects h → (at head : ℕ) (ws : List ℕ)
      → There walk.l objects at (Cell head (length ws)) → HoldsWords h.memory (at + 8) ws → (i w to : ℕ)
      → slice_get ws i ≡ Some w → to ≡ at + 8 * i + 8 → WordThere walk h to w
  cell_word objects h f at head ws (inl e) =
      let z = found_within walk.l.statics walk.l.first at (Cell head (length ws)) e in
      word_behind h at ws (z.even walk.placed.even_first) (omega (arith, z.low, walk.placed.low))
      (omega (arith, z.high, walk.placed.before, f.filled.ends, f.filled.fits))
  cell_word objects h f at head ws (inr e) =
      let z = found_within objects walk.l.region at (Cell head (length ws)) e in
      word_behind h at ws (z.even walk.placed.even_region) (omega (arith, z.low, walk.placed.low, walk.placed.before))
      (omega (arith, z.high, f.filled.ends, f.filled.fits))

  module _ {B : Budget} {count : ℕ} {locals : Locals} {rests : List Code} {waiting : List Waiting} {h : Heap}
      (objects : List Object) (fine : Fi objects h) where
    -- a branch ends
    pub ends_branch : {rest : Code} → Comes walk B (St count locals rest rests waiting h)
        → Comes walk (Pay 10 (One B)) (St count locals Done (rest ∷ rests) waiting h)
    ends_branch {rest = rest} c =
        goes walk (St count locals Done (rest ∷ rests) waiting h) (St count locals rest rests waiting h) refl
        (λ s. here_at count locals (rest ∷ rests) waiting h objects fine Done (omega arith) s) (λ s. one_less walk
        (paid_for walk s))
        refl (omega arith) c

    pub stores : {b a : LowSource} {offset : ℕ} {rest : Code} (x y : ℕ) → word_of locals b ≡ Some y
        → word_of locals a ≡ Some x → may_store walk.setting.region walk.setting.top (x + offset) ≡ true
        → x + offset < 2 ^ 64
        → Comes walk B (St count locals rest rests waiting (record {
          memory = store_bytes 8 h.memory (x + offset) y;
          alloc = h.alloc;
          words = h.words;
        }))
        → Comes walk (Pay (source_price b + source_price a + 1) (One B))
        (St count locals (Store b a offset rest) rests waiting h)
    stores {b = b} {a = a} {offset = offset} {rest = rest} x y f e m small c =
        let p = plus_is x offset small in
        let next = St count locals rest rests waiting h in
        let s = St count locals (Store b a offset rest) rests waiting h in
        let t' = St count locals rest rests waiting (record {
          memory = store_bytes 8 h.memory (x + offset) y;
          alloc = h.alloc;
          words = h.words;
        })
        in
        goes walk s t' (
        ap (λ z. given s z (λ x. given s (word_of locals b)
        (λ y. store walk.reading walk.setting (plus x (pos offset)) y next))) e
        ∙ (ap (λ z. given s z (λ y. store walk.reading walk.setting (plus x (pos offset)) y next)) f
        ∙ (ap (λ n. store walk.reading walk.setting n y next) p
        ∙ ap (λ b. only_if next b (Go t')) m))
        ) (λ s. here_at count locals rests waiting h objects fine (Store b a offset rest) (omega arith) s)
        (λ s. one_less walk (paid_for walk s)) refl (omega arith) c
