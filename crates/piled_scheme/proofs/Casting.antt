-- The procedure for casts keeps, blames or wraps, as the casts of this scheme do.
use Rattle.std.proofs.Common.{◌≡◌, inr, ℕ, zero, suc, ◌+◌, ◌*◌, ◌^◌, ◌<◌, ◌≤◌, Bool, true, false, List}
use Rattle.std.proofs.Common.{[], ◌∷◌, ◌++◌, Some, None, refl, sym, ap, ◌∙◌, subst, arith, slice_get}
use Rattle.std.proofs.Common.{append-nil, ap₂}
use Rattle.std.specs.Prelude.{if◌then◌else◌, nat_eq, map}
use Rattle.std.proofs.lemmas.Nat.{and_mask}
use Rattle.grift_base.specs.Types.{TypeRow, TypeRows, IntRow, BoolRow, UnitRow, DynRow, FunRow, TupleRow, RefRow}
use Rattle.grift_base.specs.Types.{VectRow, row_at, same_head, is_base}
use Rattle.grift_base.specs.declared.verdicts.Verdict.TheVariants.{Blame}
use Rattle.run_laws.specs.Runs.{Verdict as EndsWith}
use Rattle.machine_words.specs.Memory.{Memory}
use Rattle.machine_words.specs.declared.conditions.Cond.TheVariants.{Eq}
use Rattle.core_calc.specs.Account.{Measures, wrap_charge}
use Rattle.low_ir.specs.declared.code.LowSource.TheVariants.{Word, Number}
use Rattle.low_ir.specs.declared.code.WordOp.TheVariants.{And, Srl}
use Rattle.low_ir.specs.Operations.{compute}
use Rattle.low_ir.specs.Procedures.{Code, Done, Build, Return as ReturnCode}
use Rattle.low_ir.specs.Steps.{Locals, no_locals, set_local, store_words}
use Rattle.low_ir.specs.Run.{Setting, LowState, bind, entered}
use Rattle.coercion_norm.specs.Coercions.{rows_of}
use Rattle.cast_modes.specs.Modes.{TypeCast, Shape, Decision, Keeping, Wrapping, Blaming, NoCast, piling}
use Rattle.cast_modes.specs.Modes.{fits}
use Rattle.cast_modes.specs.RunValues.{RunInt, RunBool, RunUnit, RunFun, RunTuple, RunLoc, RunWrap, RunInject}
use Rattle.cast_modes.specs.RunValues.{shape_of}
use Rattle.cast_modes.specs.ValueSteps.{Return, decision_wraps}
use Rattle.coercion_norm.specs.Held.{Layout, There}
use Rattle.coercion_norm.specs.Objects.{Object, object_at}
use Rattle.coercion_norm.proofs.Public.{last_stands}
use Rattle.flat_ir.specs.Bodies.{Proc}
use Rattle.flat_ir.specs.Counts.{decision_at}
use Rattle.flat_ir.specs.FlatTally.{cast_cost}
use Rattle.coer_core.specs.TurnPrices.{piled_prices}
use Rattle.flat_ir.specs.Machine.{FlatValue, FlatFrame, FlatStore, flat_arity, flat_cast}
use Rattle.low_ir.specs.Codes.{either}
use Rattle.rt_cast.specs.States.{Heap, Placed, heap_of}
use Rattle.lowered_code.specs.declared.served.CastWay.TheVariants.{Called}
use Rattle.lowered_code.specs.CastWays.{way_between, cast_way, cast_ways, way_at, in_place}
use Rattle.lowered_code.specs.Emit.{cast_word}
use Rattle.lower.specs.SchemeLaws.{Here, ReturnsAt, After, Aim, StopsNow, cast_leaves}
use Rattle.lower.specs.Storage.{Filled}
use Rattle.lower.proofs.Public.{AreSmall, stored_words, bytes_below, filled_more, carried_small, later}
use Rattle.lower.proofs.Public.{cells_later}
use Rattle.lower.proofs.Public.{cells_below, at, left_of, here, computes, if_true, if_false, builds}
use Rattle.piled_scheme.specs.Codes.{cast_proc, blame_part}
use Rattle.piled_scheme.specs.Piling.{IsKnown, PlainType, BoxType, IsPiled, IsBoxCast, IsWrapped, piled_meaning, fate}
use Rattle.piled_scheme.specs.Piling.{word_between, word_of, wrapper_object, wrapper_header, most_labels, AreStacked}
use Rattle.piled_scheme.proofs.Deciding.{by_heads, kept_or_blamed, known_not_dyn, solid_decides, plain_between}
use Rattle.piled_scheme.proofs.Laws.{piled_laws, wrapper_more}
use Rattle.piled_scheme.proofs.Looking.{Walk, walk, ends, blamed}
use Rattle.piled_scheme.proofs.Piles.{Carried, peeled, wrapped_more, wrapped_first}
use Rattle.piled_scheme.proofs.Turns.{C, GoesOn, Decided, returned, no_more, speech}
use Rattle.piled_scheme.proofs.Walking.{room_of, calm_at, walks, blames}
use Rattle.piled_scheme.proofs.Reading.{is_some}

-- ---- what known casts do

pub row_is : (types : TypeRows) (type : ℕ) (row : TypeRow) → row_at types type ≡ Some row → rows_of types type ≡ row
row_is [] type row e = absurd (let z : ⊥ = cc in z)
row_is (x ∷ types) zero row e = let same : x ≡ row = cc in same
row_is (x ∷ types) (suc type) row e = row_is types type row e

-- whether a value is kept, blamed or wrapped
pub data Makes (types : TypeRows) (all : List TypeCast) (cast : TypeCast) (row other : TypeRow) : Type 0 where
  NotWrapped : ((shape : Shape TypeCast) → (piling types all).cast cast shape
      ≡ (if fits row cast shape then kept_or_blamed row other cast.label else NoCast))
      → word_between types row other cast.label ≡ 2 * fate row other cast.label → Makes types all cast row other
  IsBoxed : (content : ℕ) (part : ℕ) → row ≡ RefRow content → IsBoxCast types cast part
      → ((shape : Shape TypeCast) → (piling types all).cast cast shape
      ≡ (if fits (RefRow content) cast shape then Wrapping cast else NoCast))
      → word_between types row other cast.label ≡ 1 + 2 * part → Makes types all cast row other

-- the word of a cast that doesn't wrap
plain_word : (types : TypeRows) (row other : TypeRow) (label : ℕ) → is_base row ≡ true
    → word_between types row other label ≡ 2 * fate row other label
plain_word types IntRow other label h = refl
plain_word types BoolRow other label h = refl
plain_word types UnitRow other label h = refl
plain_word types DynRow other label h = absurd (let z : ⊥ = cc in z)
plain_word types (FunRow ps a) other label h = absurd (let z : ⊥ = cc in z)
plain_word types (TupleRow ps) other label h = absurd (let z : ⊥ = cc in z)
plain_word types (RefRow a) other label h = absurd (let z : ⊥ = cc in z)
plain_word types (VectRow a) other label h = absurd (let z : ⊥ = cc in z)

-- no box is of a plain type
out_of_box : (types : TypeRows) (content : ℕ) (other : TypeRow) (label : ℕ) → is_base other ≡ true
    → (same_head (RefRow content) other ≡ false)
    × (word_between types (RefRow content) other label ≡ 2 * fate (RefRow content) other label)
out_of_box types content IntRow label h = (refl, refl)
out_of_box types content BoolRow label h = (refl, refl)
out_of_box types content UnitRow label h = (refl, refl)
out_of_box types content DynRow label h = absurd (let z : ⊥ = cc in z)
out_of_box types content (FunRow ps a) label h = absurd (let z : ⊥ = cc in z)
out_of_box types content (TupleRow ps) label h = absurd (let z : ⊥ = cc in z)
out_of_box types content (RefRow a) label h = absurd (let z : ⊥ = cc in z)
out_of_box types content (VectRow a) label h = absurd (let z : ⊥ = cc in z)

module _ (types : TypeRows) (all : List TypeCast) (cast : TypeCast) where
  pub makes : (p : IsPiled types cast) → Makes types all cast p.row p.other
  makes p = by p.row p.other p.known p.known_other p.from_is p.to_is
    where
      solid : (row other : TypeRow) → IsKnown types row → IsKnown types other → row_at types cast.from ≡ Some row
          → row_at types cast.to ≡ Some other → (shape : Shape TypeCast)
          → (piling types all).cast cast shape
          ≡ (if fits row cast shape then by_heads (same_head row other) (is_base row) cast else NoCast)
      solid row other known known_other e f shape =
          solid_decides types all cast row other e f (known_not_dyn types row known)
          (known_not_dyn types other known_other) shape

      by : (row other : TypeRow) → IsKnown types row → IsKnown types other → row_at types cast.from ≡ Some row
          → row_at types cast.to ≡ Some other → Makes types all cast row other
      by row other (PlainType r h) known_other e f =
          NotWrapped (λ shape. solid row other (PlainType row h) known_other e f shape
          ∙ ap (λ base. if fits row cast shape then by_heads (same_head row other) base cast else NoCast) h)
          (plain_word types row other cast.label h)
      by row other (BoxType content inner c h) (PlainType o g) e f =
          let apart = out_of_box types content other cast.label g in
          NotWrapped (λ shape. solid (RefRow content) other (BoxType content inner c h) (PlainType other g) e f shape
          ∙ (ap (λ same. if fits (RefRow content) cast shape then by_heads same false cast else NoCast) apart.0
          ∙ sym (ap (λ same. if fits (RefRow content) cast shape then (if same then Keeping else Blaming cast.label)
          else NoCast) apart.0))) apart.1
      by row other (BoxType content inner c h) (BoxType wanted outer w g) e f =
          IsBoxed content (fate inner outer cast.label) refl
          (record {
            content = content;
            wanted = wanted;
            from_is = e;
            to_is = f;
            reading = plain_between types content wanted cast.label inner outer c w h g p.small;
          })
          (λ shape. solid (RefRow content) (RefRow wanted) (BoxType content inner c h) (BoxType wanted outer w g) e f
          shape) (rw (c, w) refl)

-- ---- the procedure

even_word : (n : ℕ) → compute And (2 * n) 1 ≡ 0
even_word n = and_mask (2 * n) 1 ∙ omega arith

odd_word : (n : ℕ) → compute And (1 + 2 * n) 1 ≡ 1
odd_word n = and_mask (1 + 2 * n) 1 ∙ omega arith

half_even : (n : ℕ) → compute Srl (2 * n) 1 ≡ n
half_even n = omega arith

half_odd : (n : ℕ) → compute Srl (1 + 2 * n) 1 ≡ n
half_odd n = omega arith

fate_small : (row other : TypeRow) (label : ℕ) → label < most_labels → fate row other label < 2 ^ 33
fate_small row other label small = by (same_head row other)
  where
    by : (b : Bool) → (if b then 0 else suc label) < 2 ^ 33
    by true = omega arith
    by false = omega (arith, small)

module _ (setting : Setting) (l : Layout) (procs : List Proc) (casts : List TypeCast) (m : Measures)
    (placed : Placed setting l) (s : LowState) (number : ℕ) (places : List ℕ) (objects : List Object)
    (store : FlatStore TypeCast) (here_is : Here piled_meaning setting l procs casts m places objects store number
    (heap_of s)) (base : List (FlatFrame TypeCast)) where
  open (speech setting l procs casts m s places objects store base cast_leaves) use {Carries, inside}

  abbrev Decides : Decision TypeCast → FlatValue TypeCast → LowState → Type 0
  Decides decision v te =
      Decided setting l procs casts m s places objects store base cast_leaves 0 base v decision 0 number te

  abbrev aim : Aim piled_meaning setting l procs casts m
  aim = GoesOn setting l procs casts m s places objects store base cast_leaves 0

  abbrev begun : ℕ → ℕ → LowState
  begun w word = entered s cast_proc (w ∷ word ∷ [])

  abbrev words_at : ℕ → ℕ → ℕ → ℕ → Locals
  words_at w word action operand =
      set_local 3 operand (set_local 2 action (bind 0 (w ∷ word ∷ []) no_locals))

  abbrev choices : Code
  choices =
      either Eq (Word 2) (Number 1)
      (Build 4 (Number wrapper_header ∷ Word 0 ∷ Word 3 ∷ []) (ReturnCode (Word 4))) (
      either Eq (Word 3) (Number 0) (ReturnCode (Word 0))
      blame_part)

  abbrev walking : (t : LowState) (asks need n' : ℕ) (X : ℕ → LowState → Type 0) → t.words ≡ s.words → Walk setting s
  walking t asks need n' X same =
      walk setting l procs casts m placed s objects t asks need number n' X same here_is.filled

  module _ (t : LowState) (asks need n' : ℕ) (X : ℕ → LowState → Type 0) (same : t.words ≡ s.words) where
    open (walking t asks need n' X same) use {Q, P, To, calm}

    -- the word of the cast is taken apart
    opens : (w word action operand : ℕ) → compute And word 1 ≡ action → compute Srl word 1 ≡ operand
        → To (inside [] (words_at w word action operand) choices) → To (begun w word)
    opens w word action operand e f c =
        computes setting P Q calm word 1 action refl refl e (omega arith)
        (computes setting P Q calm word 1 operand refl refl f (omega arith) c)

  cost : (w word : ℕ) → left_of setting (begun w word) ≤ 300
  cost w word = omega arith

  -- the value is kept
  kept : (v : FlatValue TypeCast) (w : ℕ) → Carries v w → Decides Keeping v (begun w 0)
  kept v w c =
      let X = λ (left : ℕ) (u : LowState). aim (Return v) base store (number + 0) left u in
      let te = begun w 0 in
      let way = walking te 16 cast_leaves (number + 0) X refl in
      let last = inside (Done ∷ Done ∷ []) (words_at w 0 0 0) (ReturnCode (Word 0)) in (
        refl,
        walks setting l procs casts m s te 16 (0 + 896) cast_leaves number (number + 0) X
            (opens te 16 cast_leaves (number + 0) X refl w 0 0 0 refl refl
            (if_false setting way.P way.Q way.calm 0 1 refl refl refl
            (if_true setting way.P way.Q way.calm 0 0 refl refl refl
            (ends setting l procs casts m placed s objects te 16 cast_leaves number (number + 0) X refl here_is.filled
            (Done ∷ Done ∷ []) last.active.locals (ReturnCode (Word 0))
            (λ left le. (
              refl,
              le,
              returned setting l procs casts m s places objects store last (number + 0)
                  (subst (λ k. Filled piled_meaning setting l k objects (heap_of s)) (no_more number) here_is.filled)
                  here_is.cells v w c (Word 0) refl refl refl refl,
            ))))))
            (let z = cost w 0 in omega (arith, z)),
      )

  -- a label is blamed
  blamed_so : (v : FlatValue TypeCast) (w label : ℕ) → label < most_labels
      → Decides (Blaming label) v (begun w (2 * suc label))
  blamed_so v w label small = (
    refl,
    λ place found.
        let X = λ (left : ℕ) (u : LowState). StopsNow piled_meaning setting l procs casts m s number
        (EndsWith (Blame place)) u in
        let te = begun w (2 * suc label) in
        let way = walking te 16 0 number X refl in
        walks setting l procs casts m s te 16 (0 + 896) 0 number number X
        (opens te 16 0 number X refl w (2 * suc label) 0 (suc label) (even_word (suc label)) (half_even (suc label))
        (if_false setting way.P way.Q way.calm 0 1 refl refl refl
        (if_false setting way.P way.Q way.calm (suc label) 0 refl refl
        (is_some (suc label) (λ e. omega (arith, e)))
        (blamed setting l procs casts m placed s objects te 16 0 number number X refl here_is.filled label small refl
        (λ left le. blames setting l procs casts m s number label place found objects (heap_of s) here_is.filled
        (Done ∷ Done ∷ []) _ refl)))))
        (let z = cost w (2 * suc label) in omega (arith, z)),
  )

  -- ---- a wrapper is made

  module _ (v : FlatValue TypeCast) (w : ℕ) (c : C setting l procs casts m s places objects store v w)
      (cast : TypeCast) (part : ℕ) (is : IsBoxCast l.types cast part) (part_small : part < 2 ^ 33)
      (under : Object) (stands_under : There l objects w under)
      (wraps : (os : List Object) (over at : ℕ) → Carried l os setting procs places v [] over
      → IsWrapped l os cast over at → Carried l os setting procs places (RunWrap v cast) [] at) where
    abbrev o : Object
    o = wrapper_object w part

    abbrev ws : List ℕ
    ws = wrapper_header ∷ w ∷ part ∷ []

    abbrev bytes : Memory
    bytes = store_words ws s.alloc s.memory

    abbrev grown_heap : Heap
    grown_heap = record { memory = bytes; alloc = s.alloc + 24; words = s.words + 3 }

    w_small : w < 2 ^ 64
    w_small = carried_small l setting.address procs piled_meaning piled_laws places objects setting placed (heap_of s)
        here_is.filled v w c

    small : AreSmall (wrapper_header ∷ w ∷ part ∷ [])
    small = (omega arith, (w_small, (omega (arith, part_small), tt)))

    counted : AreStacked l [] (objects ++ wrapper_object w part ∷ []) (number + 1)
    counted = wrapper_more l [] objects number w part under stands_under here_is.filled.keeps

    below : (i : ℕ) → i < s.alloc → store_words (wrapper_header ∷ w ∷ part ∷ []) s.alloc s.memory i ≡ s.memory i
    below i lt = bytes_below (wrapper_header ∷ w ∷ part ∷ []) s.alloc s.memory i lt

    full : s.alloc + 24 ≤ setting.top
        → Filled piled_meaning setting l (number + 1) (objects ++ wrapper_object w part ∷ [])
        (record {
          memory = store_words (wrapper_header ∷ w ∷ part ∷ []) s.alloc s.memory;
          alloc = s.alloc + 24;
          words = s.words + 3;
        })
    full room =
        filled_more piled_meaning setting l placed objects (wrapper_object w part ∷ []) (heap_of s) bytes (s.alloc + 24)
        (s.words + 3) here_is.filled below
        (stored_words (wrapper_header ∷ w ∷ part ∷ []) s.alloc s.memory small, tt) counted (omega arith) room

    stands_there : object_at (objects ++ wrapper_object w part ∷ []) l.region s.alloc ≡ Some (wrapper_object w part)
    stands_there = last_stands objects [] (wrapper_object w part) l.region s.alloc here_is.filled.ends

    made : (t : LowState) → t.active.code ≡ ReturnCode (Word 4) → t.active.locals 4 ≡ Some s.alloc
        → heap_of t ≡ grown_heap → t.waiting ≡ s.waiting → t.world ≡ s.world → s.alloc + 24 ≤ setting.top
        → ReturnsAt piled_meaning setting l procs casts m s places objects (RunWrap v cast) store (number + 1) t
    made t code local heap waits world room = record {
      cells = [];
      more = wrapper_object w part ∷ [];
      here = subst (λ ps. Here piled_meaning setting l procs casts m ps (objects ++ wrapper_object w part ∷ []) store
          (number + 1) (heap_of t)) (sym (append-nil places))
          (subst (λ h. Here piled_meaning setting l procs casts m places (objects ++ wrapper_object w part ∷ []) store
          (number + 1) h) (sym heap) (record {
            filled = full room;
            cells =
                cells_later l setting.address procs piled_meaning piled_laws places objects (wrapper_object w part ∷ [])
                bytes places store
                (cells_below l setting.address procs piled_meaning piled_laws places objects setting placed (heap_of s)
                here_is.filled bytes below places store here_is.cells);
          }));
      word = s.alloc;
      carried = subst (λ ps. Carried l (objects ++ wrapper_object w part ∷ []) setting procs ps (RunWrap v cast) []
          s.alloc) (sym (append-nil places))
          (wraps (objects ++ wrapper_object w part ∷ []) w s.alloc
          (later l setting.address procs piled_meaning piled_laws places objects (wrapper_object w part ∷ []) v w c)
          (record { part = part; there = inr stands_there; is = is }));
      source = Word 4;
      code = code;
      is = local;
      waits = waits;
      same = world;
    }

    wrapped : Decides (Wrapping cast) v (begun w (1 + 2 * part))
    wrapped =
        let X = λ (left : ℕ) (u : LowState). aim (Return (RunWrap v cast)) base store (number + 1) left u in
        let te = begun w (1 + 2 * part) in
        let asks = wrap_charge m + 16 in
        let way = walking te asks cast_leaves (number + 1) X refl in
        let locals = words_at w (1 + 2 * part) 1 part in
        let last = at s.world grown_heap s.waiting 6 (Done ∷ []) (set_local 4 s.alloc locals) (ReturnCode (Word 4)) in (
          refl,
          walks setting l procs casts m s te asks (0 + (896 + 64 * wrap_charge m))
              cast_leaves number (number + 1) X
              (opens te asks cast_leaves (number + 1) X refl w (1 + 2 * part) 1 part (odd_word part) (half_odd part)
              (if_true setting way.P way.Q way.calm 1 1 refl refl refl
              (builds setting way.P way.Q way.calm (wrapper_header ∷ w ∷ part ∷ []) refl (omega arith)
              (omega arith)
              (calm_at setting l procs casts m s te asks number (number + 1) way.Q objects
              (record { memory = s.memory; alloc = s.alloc; words = s.words + 3 })
              (record {
                objects_stand = here_is.filled.objects_stand;
                statics_stand = here_is.filled.statics_stand;
                ends = here_is.filled.ends;
                fits = here_is.filled.fits;
                keeps = here_is.filled.keeps;
              }) (omega arith) 6 (omega arith)) (omega arith)
              (λ room. here setting way.P way.Q last (
                omega arith,
                room_of setting l procs casts m s last refl (omega arith),
                λ left le. (refl, le, made last refl refl refl refl refl room),
              )))))
              (let z = cost w (1 + 2 * part) in omega (arith, z)),
        )

  -- ---- the procedure as it is handed the word of a known cast

  abbrev CastMade : TypeCast → FlatValue TypeCast → ℕ → ℕ → Type 0
  CastMade cast v w word =
      After piled_meaning setting l procs casts m s aim
      (flat_cast procs (piling l.types casts) store s.world v cast base)
      (cast_cost procs (piling l.types casts) (piled_prices (piling l.types casts) m) (Some cast) v) 0 number
      (decision_wraps (decision_at procs (piling l.types casts) (Some cast) v)) (begun w word)

  -- boxes, wrapped or not, are wrapped
  box_wrapped : (content part : ℕ) (cast : TypeCast) → IsBoxCast l.types cast part → part < 2 ^ 33
      → (v : FlatValue TypeCast) (w : ℕ) → Carries v w
      → Decides (if fits (RefRow content) cast (shape_of (flat_arity procs) v) then Wrapping cast else NoCast) v
      (begun w (1 + 2 * part))
  box_wrapped content part cast is little (RunInt x) w c = refl
  box_wrapped content part cast is little (RunBool x) w c = refl
  box_wrapped content part cast is little RunUnit w c = refl
  box_wrapped content part cast is little (RunFun code captured) w c = refl
  box_wrapped content part cast is little (RunTuple values) w c = refl
  box_wrapped content part cast is little (RunLoc cell true) w c = refl
  box_wrapped content part cast is little (RunLoc cell false) w c =
      wrapped (RunLoc cell false) w c cast part is little _ c.2
      (λ os over at h i. wrapped_first l os setting procs places cell cast over at h i)
  box_wrapped content part cast is little (RunInject v keeps) w c = refl
  box_wrapped content part cast is little (RunWrap v old) w c = by (nat_eq old.to cast.from)
    where
      by : (b : Bool)
          → Decides (if b then Wrapping cast else NoCast) (RunWrap v old) (begun w (1 + 2 * part))
      by true =
          wrapped (RunWrap v old) w c cast part is little _ (peeled l objects setting procs places v old w c).2.there
          (λ os over at h i. wrapped_more l os setting procs places v old cast over at h i)
      by false = refl

  pub cast_made : (cast : TypeCast) (p : IsPiled l.types cast) (v : FlatValue TypeCast) (w word : ℕ) → Carries v w
      → word ≡ word_between l.types p.row p.other cast.label → CastMade cast v w word
  cast_made cast p v w word c word_is = by (makes l.types casts cast p)
    where
      decided : (d : Decision TypeCast)
          → (piling l.types casts).cast cast (shape_of (flat_arity procs) v) ≡ d → Decides d v (begun w word)
          → CastMade cast v w word
      decided d e h = subst (λ x. Decides x v (begun w word)) (sym e) h

      not_wrapped : (n : ℕ) → fate p.row p.other cast.label ≡ n → word ≡ 2 * n → (b : Bool)
          → same_head p.row p.other ≡ b
          → Decides (if b then Keeping else Blaming cast.label) v (begun w word)
      not_wrapped n e f true same =
          let none : fate p.row p.other cast.label ≡ 0 = ap (λ b. if b then 0 else suc cast.label) same in
          let zero_word : word ≡ 0 = omega (arith, e, f, none) in
          subst (λ x. Decides Keeping v (begun w x)) (sym zero_word) (kept v w c)
      not_wrapped n e f false same =
          let some : fate p.row p.other cast.label ≡ suc cast.label =
          ap (λ b. if b then 0 else suc cast.label) same in
          let blamed_word : word ≡ 2 * suc cast.label = omega (arith, e, f, some) in
          subst (λ x. Decides (Blaming cast.label) v (begun w x)) (sym blamed_word) (blamed_so v w cast.label p.small)

      by : Makes l.types casts cast p.row p.other → CastMade cast v w word
      by (NotWrapped each is) =
          decided _ (each (shape_of (flat_arity procs) v))
          (by_fit (fits p.row cast (shape_of (flat_arity procs) v)))
        where
          by_fit : (b : Bool)
              → Decides (if b then kept_or_blamed p.row p.other cast.label else NoCast) v (begun w word)
          by_fit true =
              not_wrapped (fate p.row p.other cast.label) refl (word_is ∙ is) (same_head p.row p.other) refl
          by_fit false = refl
      by (IsBoxed content part row_is box each is) =
          decided _ (each (shape_of (flat_arity procs) v))
          (subst (λ x. Decides (if fits (RefRow content) cast (shape_of (flat_arity procs) v) then Wrapping cast else
          NoCast) v (begun w x)) (sym (word_is ∙ is))
          (box_wrapped content part cast box
          (let b = box.reading in
          subst (λ x. x < 2 ^ 33) (sym b.part_is) (fate_small b.inner b.outer cast.label b.small)) v w c))

-- ---- what is handed on is a word, and nothing is done in place

pub handed_on : (types : TypeRows) (casts : List TypeCast) (words : List ℕ) → words ≡ map (word_of types) casts
    → (number : ℕ) (cast : TypeCast) → slice_get casts number ≡ Some cast → (p : IsPiled types cast)
    → cast_word (slice_get words number) ≡ word_between types p.row p.other cast.label
handed_on types casts words is number cast e p =
    ap (λ ws. cast_word (slice_get ws number)) is ∙ (mapped casts number e
    ∙ (let a = p.from_is in let b = p.to_is in rw (a, b) refl))
  where
    mapped : (casts : List TypeCast) (number : ℕ) → slice_get casts number ≡ Some cast
        → cast_word (slice_get (map (word_of types) casts) number) ≡ word_of types cast
    mapped [] number e = absurd (let z : ⊥ = cc in z)
    mapped (c ∷ casts) zero e = let same : c ≡ cast = cc in ap (word_of types) same
    mapped (c ∷ casts) (suc number) e = mapped casts number e

pub known_words : (types : TypeRows) (all : List TypeCast) (cast : TypeCast) (p : IsPiled types cast)
    → word_between types p.row p.other cast.label < 2 ^ 64
known_words types all cast p = by (makes types all cast p)
  where
    by : Makes types all cast p.row p.other → word_between types p.row p.other cast.label < 2 ^ 64
    by (NotWrapped each is) =
        let z = fate_small p.row p.other cast.label p.small in omega (arith, z, is)
    by (IsBoxed content part row_is box each is) =
        let b = box.reading in
        let z = fate_small b.inner b.outer cast.label b.small in
        let y = b.part_is in
        omega (arith, z, y, is)

-- no cast of a known type to a known type has a way in place
all_called : (types : TypeRows) (row other : TypeRow) → IsKnown types row → IsKnown types other
    → way_between row other ≡ Called
all_called types row other known known_other =
    let a = known_not_dyn types row known in let b = known_not_dyn types other known_other in rw (a, b) refl

pub none_in_place : (types : TypeRows) (casts : List TypeCast) (number : ℕ) (cast : TypeCast)
    → slice_get casts number ≡ Some cast → IsPiled types cast → (w word : ℕ)
    → in_place (way_at (slice_get (cast_ways types casts) number)) w ≡ Some word → ⊥
none_in_place types [] number cast e p w word h = cc
none_in_place types (c ∷ casts) (suc number) cast e p w word h =
    none_in_place types casts number cast e p w word h
none_in_place types (c ∷ casts) zero cast e p w word h =
    let same : c ≡ cast = cc in
    let a = row_is types cast.from p.row p.from_is in
    let b = row_is types cast.to p.other p.to_is in
    let way : cast_way types cast ≡ Called =
    ap₂ way_between a b ∙ all_called types p.row p.other p.known p.known_other in
    let z : None ≡ Some word =
    sym (ap (λ x. in_place x w) way) ∙ (ap (λ x. in_place (cast_way types x) w) (sym same) ∙ h) in
    cc
