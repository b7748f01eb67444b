-- Casts of plain values as turns of the numbered procedures, and a word that comes back where nothing was changed.
use Rattle.std.proofs.Common.{◌≡◌, ℕ, suc, ◌+◌, Bool, true, false, List, []}
use Rattle.std.proofs.Common.{◌++◌, Some, refl, sym, ap, ◌∙◌, subst, arith, append-nil}
use Rattle.std.specs.Prelude.{if◌then◌else◌}
use Rattle.grift_base.specs.Types.{same_head}
use Rattle.core_calc.specs.Account.{Measures}
use Rattle.low_ir.specs.declared.code.LowSource.{LowSource}
use Rattle.low_ir.specs.Procedures.{Code, Return as ReturnCode}
use Rattle.low_ir.specs.Run.{Setting, LowState, word_of}
use Rattle.low_ir.specs.Steps.{Locals}
use Rattle.cast_modes.specs.Modes.{TypeCast, Decision, Keeping, Blaming, NoCast, piling, fits}
use Rattle.cast_modes.specs.RunValues.{shape_of}
use Rattle.cast_modes.specs.ValueSteps.{make, decision_wraps}
use Rattle.coercion_norm.specs.Held.{Layout}
use Rattle.coercion_norm.specs.Objects.{Object}
use Rattle.coer_core.specs.Tally.{decision_kind}
use Rattle.flat_ir.specs.Bodies.{Proc}
use Rattle.flat_ir.specs.Counts.{decision_at}
use Rattle.flat_ir.specs.FlatTally.{cast_cost}
use Rattle.coer_core.specs.TurnPrices.{kind_cost, piled_prices}
use Rattle.flat_ir.specs.Machine.{FlatValue, FlatFrame, FlatStore, flat_arity, flat_entered, flat_cast}
use Rattle.rt_cast.specs.States.{heap_of}
use Rattle.lower.specs.Storage.{Filled}
use Rattle.lower.specs.CarriedValues.{CellsHeld}
use Rattle.lower.specs.SchemeLaws.{Here, ReturnsAt, Returns, After, Goes, Aim}
use Rattle.lower.proofs.Public.{at}
use Rattle.piled_scheme.specs.Piling.{piled_meaning, fate, IsPlain}
use Rattle.piled_scheme.proofs.Deciding.{plain_decides, kept_or_blamed}
use Rattle.piled_scheme.proofs.Piles.{Carried}

pub no_more : (n : ℕ) → n ≡ n + 0
no_more n = omega arith

-- what the laws of a procedure that begins in a state speak of: that storage is as it has to be after so many wrap
-- steps, which word stands for a value, how the turns go on, and the states in which the procedure is
pub record Speech (setting : Setting) (l : Layout) (procs : List Proc) (casts : List TypeCast) (m : Measures)
    : Type 1 where
  pub Filling : ℕ → Type 0
  pub grown_number : (n : ℕ) → Filling n → Filling (n + 0)
  pub Carries : FlatValue TypeCast → ℕ → Type 0
  pub Going : ℕ → Aim piled_meaning setting l procs casts m
  pub inside : List Code → Locals → Code → LowState

module _ (setting : Setting) (l : Layout) (procs : List Proc) (casts : List TypeCast) (m : Measures)
    (s : LowState) (places : List ℕ) (objects : List Object) (store : FlatStore TypeCast) where
  abbrev pub FilledAt : ℕ → LowState → Type 0
  FilledAt n t = Filled piled_meaning setting l n objects (heap_of t)

  abbrev pub CellsAt : LowState → Type 0
  CellsAt t = CellsHeld l setting.address procs piled_meaning places objects t.memory places store

  abbrev pub C : FlatValue TypeCast → ℕ → Type 0
  C v w = Carried l objects setting procs places v [] w

  -- a return of this word, where nothing is changed
  pub returned : (t : LowState) (n : ℕ) → FilledAt n t → CellsAt t → (v : FlatValue TypeCast) (w : ℕ) → C v w
      → (source : LowSource) → t.active.code ≡ ReturnCode source → word_of t.active.locals source ≡ Some w
      → t.waiting ≡ s.waiting → t.world ≡ s.world
      → ReturnsAt piled_meaning setting l procs casts m s places objects v store n t
  returned t n filled cells v w c source code is waits same = record {
    cells = [];
    more = [];
    here = subst (λ ps. Here piled_meaning setting l procs casts m ps (objects ++ []) store n (heap_of t))
        (sym (append-nil places))
        (subst (λ os. Here piled_meaning setting l procs casts m places os store n (heap_of t)) (sym
        (append-nil objects))
        (record { filled = filled; cells = cells }));
    word = w;
    carried = subst (λ ps. Carried l (objects ++ []) setting procs ps v [] w) (sym (append-nil places))
        (subst (λ os. Carried l os setting procs places v [] w) (sym (append-nil objects)) c);
    source = source;
    code = code;
    is = is;
    waits = waits;
    same = same;
  }

  module _ (base : List (FlatFrame TypeCast)) (leaves : ℕ) where
    abbrev pub aim : Aim piled_meaning setting l procs casts m
    aim = Returns piled_meaning setting l procs casts m s leaves places objects base

    abbrev pub GoesOn : ℕ → Aim piled_meaning setting l procs casts m
    GoesOn i = Goes piled_meaning setting l procs casts m s aim i

    abbrev pub speech : Speech setting l procs casts m
    speech = record {
      Filling = λ n. FilledAt n s;
      grown_number = λ n filled. subst (λ k. FilledAt k s) (no_more n) filled;
      Carries = C;
      Going = GoesOn;
      inside = λ rests locals code. at s.world (heap_of s) s.waiting 6 rests locals code;
    }

    -- what a decision comes to, whatever the frames behind it
    abbrev pub Decided : ℕ → List (FlatFrame TypeCast) → FlatValue TypeCast → Decision TypeCast → ℕ → ℕ → LowState
        → Type 0
    Decided i frames v decision credit n t =
        After piled_meaning setting l procs casts m s (GoesOn i)
        (make (piling l.types casts) (flat_arity procs) (flat_entered procs) store s.world decision v frames)
        (kind_cost m (Some (decision_kind decision)) 0 0) credit n (decision_wraps decision) t

    -- a cast of a plain value: it is kept or blamed, or it has no meaning
    pub plain_turn : (cast : TypeCast) (part : ℕ) (p : IsPlain l.types cast part) (i : ℕ)
        (frames : List (FlatFrame TypeCast)) (v : FlatValue TypeCast) (credit n : ℕ) (t : LowState)
        → Decided i frames v (kept_or_blamed p.inner p.outer cast.label) credit n t
        → After piled_meaning setting l procs casts m s (GoesOn i)
        (flat_cast procs (piling l.types casts) store s.world v cast frames)
        (cast_cost procs (piling l.types casts) (piled_prices (piling l.types casts) m) (Some cast) v) credit n
        (decision_wraps (decision_at procs (piling l.types casts) (Some cast) v)) t
    plain_turn cast part p i frames v credit n t h =
        subst (λ d. Decided i frames v d credit n t)
        (sym (plain_decides l.types casts cast part p (shape_of (flat_arity procs) v)))
        (by (fits p.inner cast (shape_of (flat_arity procs) v)))
      where
        by : (b : Bool)
            → Decided i frames v (if b then kept_or_blamed p.inner p.outer cast.label else NoCast) credit n t
        by true = h
        by false = refl

    -- the value is kept
    pub keeps : (cast : TypeCast) (part : ℕ) (p : IsPlain l.types cast part) → part ≡ 0 → (i : ℕ)
        (frames : List (FlatFrame TypeCast)) (v : FlatValue TypeCast) (credit n : ℕ) (t : LowState)
        → Decided i frames v Keeping credit n t
        → Decided i frames v (kept_or_blamed p.inner p.outer cast.label) credit n t
    keeps cast part p none i frames v credit n t h = by (same_head p.inner p.outer) refl
      where
        by : (b : Bool) → same_head p.inner p.outer ≡ b
            → Decided i frames v (if b then Keeping else Blaming cast.label) credit n t
        by true e = h
        by false e =
            let z : fate p.inner p.outer cast.label ≡ suc cast.label =
            ap (λ b. if b then 0 else suc cast.label) e in
            let y = p.part_is in
            absurd (omega (arith, z, y, none))

    -- the label is blamed
    pub blames_it : (cast : TypeCast) (part : ℕ) (p : IsPlain l.types cast part) → (part ≡ 0 → ⊥) → (i : ℕ)
        (frames : List (FlatFrame TypeCast)) (v : FlatValue TypeCast) (credit n : ℕ) (t : LowState)
        → (part ≡ suc cast.label → Decided i frames v (Blaming cast.label) credit n t)
        → Decided i frames v (kept_or_blamed p.inner p.outer cast.label) credit n t
    blames_it cast part p some i frames v credit n t h = by (same_head p.inner p.outer) refl
      where
        by : (b : Bool) → same_head p.inner p.outer ≡ b
            → Decided i frames v (if b then Keeping else Blaming cast.label) credit n t
        by true e =
            let z : fate p.inner p.outer cast.label ≡ 0 = ap (λ b. if b then 0 else suc cast.label) e in
            absurd (some (p.part_is ∙ z))
        by false e =
            let z : fate p.inner p.outer cast.label ≡ suc cast.label =
            ap (λ b. if b then 0 else suc cast.label) e in
            h (p.part_is ∙ z)
