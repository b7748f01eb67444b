-- What is carried stays carried as objects are added, and what the parts of a carried value are.
use Rattle.std.proofs.Common.{Option, None, ◌≡◌, inr, ℕ, zero, suc, ◌+◌, ◌*◌, ◌^◌, ◌<◌, true, false}
use Rattle.std.proofs.Common.{List, [], ◌∷◌, ◌++◌, length, Some, refl, sym, ap}
use Rattle.std.proofs.Common.{subst, arith}
use Rattle.std.specs.Prelude.{slice_get, FitsSigned}
use Rattle.std.specs.Int.{w64}
use Rattle.std.proofs.lemmas.Int.{SFits-int_wrap}
use Rattle.std.proofs.Math.Facts.{Fits-of_z}
use Rattle.machine_words.specs.Memory.{Memory}
use Rattle.low_ir.specs.Run.{Setting}
use Rattle.cast_modes.specs.RunValues.{RunInt, RunBool, RunUnit, RunFun, RunTuple, RunLoc, RunWrap, RunInject}
use Rattle.cast_modes.specs.RunValues.{NoRunValues, RunValueThen, in_row, row_list}
use Rattle.coercion_norm.specs.Objects.{Object, Fixed, Cell}
use Rattle.coercion_norm.specs.Held.{rows_in, Layout, There}
use Rattle.rt_cast.specs.States.{Placed}
use Rattle.rt_cast.specs.States.{Heap}
use Rattle.rt_cast.specs.DynWords.{small_dyn, IsDynBy, IsDyn}
use Rattle.rt_cast.proofs.Public.{dyn_still, small_fits}
use Rattle.lower.specs.Storage.{Filled}
use Rattle.flat_ir.specs.Bodies.{Proc}
use Rattle.flat_ir.specs.Machine.{FlatValue, FlatValues, FlatStore, or_unit}
use Rattle.lowered_code.specs.Numbering.{function_offset}
use Rattle.lower.specs.CarriedValues.{IsGroup, Under, Bare, CarriedIn, IsCarried, AreCarried, CellsFrom}
use Rattle.lower.specs.CarriedValues.{CellsHeld}
use Rattle.lower.proofs.heap.Objects.{none_some, object_kept, AreSmall, words_same, header_room}
use Rattle.lower.proofs.heap.Filled.{there_later, stands}
use Rattle.lower.specs.Meanings.{Meaning, MeaningLaws}

module _ (l : Layout) (address : ℕ → ℕ) (procs : List Proc) (meaning : Meaning) (laws : MeaningLaws meaning) where
  -- where objects and cells were added
  module _ (places bigger : List ℕ)
      (kept : (i w : ℕ) → slice_get places i ≡ Some w → slice_get bigger i ≡ Some w) (objects more : List Object) where
    under_grown : (casts : List meaning.Cast) (w : ℕ) {P Q : ℕ → Type 0} → ((x : ℕ) → P x → Q x)
        → Under l address procs meaning places objects casts w P
        → Under l address procs meaning bigger (objects ++ more) casts w Q
    under_grown [] w f u = f w u
    under_grown (cast ∷ casts) w f u =
        (u.0, laws.wraps_later l objects more (cast ∷ casts) u.0 w u.1, f u.0 u.2)

    bare_grown : (casts : List meaning.Cast) (w : ℕ) {P Q : ℕ → Type 0} → ((x : ℕ) → P x → Q x)
        → Bare l address procs meaning places objects casts w P
        → Bare l address procs meaning bigger (objects ++ more) casts w Q
    bare_grown [] w f u = f w u
    bare_grown (cast ∷ casts) w f u = absurd u

    pub group_grown : (first leader count : ℕ) (words : List ℕ)
        → IsGroup l address procs meaning places objects first leader count words
        → IsGroup l address procs meaning bigger (objects ++ more) first leader count words
    group_grown first leader count words g = record {
      members = g.members;
      leads = there_later l objects more leader _ g.leads;
      others = λ i lt. there_later l objects more _ _ (g.others i lt);
    }

    mutual
      pub grown : (v : FlatValue meaning.Cast) (casts : List meaning.Cast) (w : ℕ)
          → CarriedIn l address procs meaning places objects v casts w
          → CarriedIn l address procs meaning bigger (objects ++ more) v casts w
      grown (RunInt n) casts w c = bare_grown casts w (λ x p. p) c
      grown (RunBool b) casts w c = bare_grown casts w (λ x p. p) c
      grown RunUnit casts w c = bare_grown casts w (λ x p. p) c
      grown (RunFun code captured) casts w c =
          under_grown casts w (λ x p. (
            p.0,
            p.1,
            p.2,
            p.3,
            p.4,
            group_grown code.first p.0 p.1 p.2 p.5,
            all_grown captured p.2 p.6,
          )) c
      grown (RunTuple values) casts w c =
          under_grown casts w (λ x p. (p.0, there_later l objects more x _ p.1, all_grown values p.0 p.2, p.3)) c
      grown (RunLoc cell is_vector) casts w c =
          under_grown casts w (λ x p. (p.0, kept cell x p.1, there_later l objects more x _ p.2, p.3)) c
      grown (RunWrap v cast) casts w c = grown v (cast ∷ casts) w c
      grown (RunInject v keeps) casts w c =
          bare_grown casts w (λ x p. (
            p.0,
            dyn_still l objects (objects ++ more) (record { more = more; is = refl }) keeps p.0 x p.1,
            p.2,
            p.3,
            grown v [] p.0 p.4,
          )) c

      pub all_grown : (vs : FlatValues meaning.Cast) (ws : List ℕ)
          → AreCarried l address procs meaning places objects vs ws
          → AreCarried l address procs meaning bigger (objects ++ more) vs ws
      all_grown NoRunValues [] c = c
      all_grown NoRunValues (w ∷ ws) c = c
      all_grown (RunValueThen v rest) [] c = c
      all_grown (RunValueThen v rest) (w ∷ ws) c = (grown v [] w c.0, all_grown rest ws c.1)

    pub cells_grown : (low : ℕ) (m : Memory) (at : List ℕ) (store : FlatStore meaning.Cast)
        → CellsFrom l address procs meaning places objects low m at store
        → CellsFrom l address procs meaning bigger (objects ++ more) low m at store
    cells_grown low m [] [] c = c
    cells_grown low m [] (vs ∷ store) c = c
    cells_grown low m (a ∷ at) [] c = c
    cells_grown low m (a ∷ at) (vs ∷ store) c = (
      c.0,
      record {
        head = c.1.head;
        words = c.1.words;
        is = object_kept objects more l.region a _ c.1.is;
        held = c.1.held;
        carried = all_grown (in_row vs) c.1.words c.1.carried;
      },
      cells_grown (suc a) m at store c.2,
    )

module _ (l : Layout) (address : ℕ → ℕ) (procs : List Proc) (meaning : Meaning) (laws : MeaningLaws meaning)
    (places : List ℕ) where
  module _ (objects more : List Object) where
    abbrev same : (i w : ℕ) → slice_get places i ≡ Some w → slice_get places i ≡ Some w
    same i w e = e

    pub later : (v : FlatValue meaning.Cast) (w : ℕ) → IsCarried l address procs meaning places objects v w
        → IsCarried l address procs meaning places (objects ++ more) v w
    later v w c = grown l address procs meaning laws places places same objects more v [] w c

    pub all_later : (vs : FlatValues meaning.Cast) (ws : List ℕ)
        → AreCarried l address procs meaning places objects vs ws
        → AreCarried l address procs meaning places (objects ++ more) vs ws
    all_later = all_grown l address procs meaning laws places places same objects more

    pub cells_later : (m : Memory) (at : List ℕ) (store : FlatStore meaning.Cast)
        → CellsHeld l address procs meaning places objects m at store
        → CellsHeld l address procs meaning places (objects ++ more) m at store
    cells_later m at store c = cells_grown l address procs meaning laws places places same objects more 0 m at store c

  module _ (objects : List Object) where
    abbrev C : FlatValue meaning.Cast → ℕ → Type 0
    C v w = IsCarried l address procs meaning places objects v w

    abbrev Cs : FlatValues meaning.Cast → List ℕ → Type 0
    Cs vs ws = AreCarried l address procs meaning places objects vs ws

    -- as many words as values
    pub as_many : (vs : List (FlatValue meaning.Cast)) (ws : List ℕ) → Cs (in_row vs) ws → length ws ≡ length vs
    as_many [] [] c = refl
    as_many [] (w ∷ ws) c = absurd c
    as_many (v ∷ vs) [] c = absurd c
    as_many (v ∷ vs) (w ∷ ws) c = ap suc (as_many vs ws c.1)

    -- the word of a value in a row
    pub carried_at : (vs : FlatValues meaning.Cast) (ws : List ℕ) (i : ℕ) → Cs vs ws → i < length ws
        → (w : ℕ) × (slice_get ws i ≡ Some w) × C (or_unit (slice_get (row_list vs) i)) w
    carried_at NoRunValues [] i c lt = absurd (omega arith)
    carried_at NoRunValues (w ∷ ws) i c lt = absurd c
    carried_at (RunValueThen v rest) [] i c lt = absurd c
    carried_at (RunValueThen v rest) (w ∷ ws) zero c lt = (w, refl, c.0)
    carried_at (RunValueThen v rest) (w ∷ ws) (suc i) c lt = carried_at rest ws i c.1 (omega arith)

    pub part_carried : (vs : FlatValues meaning.Cast) (ws : List ℕ) (i : ℕ) (v : FlatValue meaning.Cast) → Cs vs ws
        → slice_get (row_list vs) i ≡ Some v → (w : ℕ) × (slice_get ws i ≡ Some w) × C v w
    part_carried NoRunValues ws i v c e = none_some e
    part_carried (RunValueThen u rest) [] i v c e = absurd c
    part_carried (RunValueThen u rest) (w ∷ ws) zero v c e =
        let same : u ≡ v = cc in (w, refl, subst (λ x. C x w) same c.0)
    part_carried (RunValueThen u rest) (w ∷ ws) (suc i) v c e = part_carried rest ws i v c.1 e

    module _ (setting : Setting) (placed : Placed setting l) {number : ℕ} (h : Heap)
        (filled : Filled meaning setting l number objects h) where
      there_small : (w : ℕ) (o : Object) → There l objects w o → w < 2 ^ 64
      there_small w o t =
          let s = stands meaning setting l placed objects h filled w o t in let r = header_room o in omega
          (arith, s.high, filled.fits, placed.top, r)

      -- a function of a group
      pub function_there : (first leader count place : ℕ) (words : List ℕ) → place < count
          → IsGroup l address procs meaning places objects first leader count words
          → (rest : List ℕ) × There l objects (leader + function_offset (length words) place)
          (Fixed (1 + 4294967296 * suc (length rest)) (address (first + place) ∷ rest))
      function_there first leader count zero words lt g = (
        words,
        (let e : leader ≡ leader + function_offset (length words) zero = omega arith in
            let k : 1 + 0 * 65536 + suc (length words) * 4294967296
            ≡ 1 + 4294967296 * suc (length words) = omega arith in
            let a : first ≡ first + zero = omega arith in
            subst (λ n. There l objects n (Fixed (1 + 4294967296 * suc (length words))
            (address (first + zero) ∷ words))) e
            (subst (λ n. There l objects leader (Fixed n (address (first + zero) ∷ words))) k
            (subst (λ n. There l objects leader (Fixed (1 + 0 * 65536 + suc (length words) * 4294967296)
            (address n ∷ words))) a g.leads))),
      )
      function_there first leader count (suc i) words lt g = ([], g.others i lt)

      pub function_small : (first leader count place : ℕ) (words : List ℕ) → place < count
          → IsGroup l address procs meaning places objects first leader count words
          → leader + function_offset (length words) place < 2 ^ 64
      function_small first leader count place words lt g =
          let z = function_there first leader count place words lt g in
          there_small (leader + function_offset (length words) place) _ z.1

      under_small : (casts : List meaning.Cast) (w : ℕ) {P : ℕ → Type 0} → ((x : ℕ) → P x → x < 2 ^ 64)
          → Under l address procs meaning places objects casts w P → w < 2 ^ 64
      under_small [] w f u = f w u
      under_small (cast ∷ casts) w f u = there_small w _ (laws.wrapper l objects (cast ∷ casts) u.0 w u.1).there

      bare_small : (casts : List meaning.Cast) (w : ℕ) {P : ℕ → Type 0} → ((x : ℕ) → P x → x < 2 ^ 64)
          → Bare l address procs meaning places objects casts w P → w < 2 ^ 64
      bare_small [] w f u = f w u
      bare_small (cast ∷ casts) w f u = absurd u

      -- a word in Dyn, which stands behind a tag or is an address
      dyn_small : (kept x w : ℕ) → IsDyn l objects kept x w → w < 2 ^ 64
      dyn_small kept x w d = by (small_dyn (rows_in l kept) x) refl d
        where
          by : (o : Option ℕ) → small_dyn (rows_in l kept) x ≡ o → IsDynBy l objects o kept x w → w < 2 ^ 64
          by (Some small) e h = subst (λ n. n < 2 ^ 64) (sym h.0) (small_fits (rows_in l kept) x small e)
          by None e h = there_small w _ h.1

      carried_in_small : (v : FlatValue meaning.Cast) (casts : List meaning.Cast) (w : ℕ)
          → CarriedIn l address procs meaning places objects v casts w → w < 2 ^ 64
      carried_in_small (RunInt n) casts w c =
          bare_small casts w (λ x p. subst (λ y. y < 2 ^ 64) (sym p.0)
          (Fits-of_z (subst (FitsSigned w64) p.1 (SFits-int_wrap w64 n))).fits) c
      carried_in_small (RunBool true) casts w c = bare_small casts w (λ x p. omega (arith, p)) c
      carried_in_small (RunBool false) casts w c = bare_small casts w (λ x p. omega (arith, p)) c
      carried_in_small RunUnit casts w c = bare_small casts w (λ x p. omega (arith, p)) c
      carried_in_small (RunFun code captured) casts w c =
          under_small casts w (λ x p. subst (λ y. y < 2 ^ 64) (sym p.3)
          (function_small code.first p.0 p.1 code.place p.2 p.4 p.5)) c
      carried_in_small (RunTuple values) casts w c = under_small casts w (λ x p. there_small x _ p.1) c
      carried_in_small (RunLoc cell is_vector) casts w c = under_small casts w (λ x p. there_small x _ p.2) c
      carried_in_small (RunWrap v cast) casts w c = carried_in_small v (cast ∷ casts) w c
      carried_in_small (RunInject v kept) casts w c = bare_small casts w (λ x p. dyn_small kept p.0 x p.1) c

      pub carried_small : (v : FlatValue meaning.Cast) (w : ℕ) → C v w → w < 2 ^ 64
      carried_small v w c = carried_in_small v [] w c

      pub all_small : (vs : FlatValues meaning.Cast) (ws : List ℕ) → Cs vs ws → AreSmall ws
      all_small NoRunValues [] c = tt
      all_small NoRunValues (w ∷ ws) c = absurd c
      all_small (RunValueThen v rest) [] c = absurd c
      all_small (RunValueThen v rest) (w ∷ ws) c = (carried_small v w c.0, all_small rest ws c.1)

      -- what the cells hold stays where memory changes above alone
      cells_from_below : (low : ℕ) (m : Memory) → ((i : ℕ) → i < h.alloc → m i ≡ h.memory i) → (at : List ℕ)
          (store : FlatStore meaning.Cast) → CellsFrom l address procs meaning places objects low h.memory at store
          → CellsFrom l address procs meaning places objects low m at store
      cells_from_below low m same [] [] c = c
      cells_from_below low m same [] (vs ∷ store) c = c
      cells_from_below low m same (a ∷ at) [] c = c
      cells_from_below low m same (a ∷ at) (vs ∷ store) c = (
        c.0,
        record {
          head = c.1.head;
          words = c.1.words;
          is = c.1.is;
          held = words_same h.memory m (a + 8) c.1.words (λ i p q. same i (below i q)) c.1.held;
          carried = c.1.carried;
        },
        cells_from_below (suc a) m same at store c.2,
      )
        where
          below : (i : ℕ) → i < a + 8 + 8 * length c.1.words → i < h.alloc
          below i q =
              let s = stands meaning setting l placed objects h filled a (Cell c.1.head (length c.1.words))
              (inr c.1.is) in
              omega (arith, s.high, q)

      pub cells_below : (m : Memory) → ((i : ℕ) → i < h.alloc → m i ≡ h.memory i) → (at : List ℕ)
          (store : FlatStore meaning.Cast) → CellsHeld l address procs meaning places objects h.memory at store
          → CellsHeld l address procs meaning places objects m at store
      cells_below m same at store c = cells_from_below 0 m same at store c
