-- What a relation of states keeps: as words change that its names are not in, and as objects are added.
use Rattle.std.proofs.Common.{◌≡◌, ◌≢◌, ◌⊎◌, inl, inr, ℕ, suc, ◌+◌, ◌<◌, ◌≤◌, Bool, true, false}
use Rattle.std.proofs.Common.{List, [], ◌∷◌, ◌++◌, Some, refl, sym, ap, ◌∙◌, subst, arith}
use Rattle.std.specs.Prelude.{nat_lt, nat_eq, if◌then◌else◌}
use Rattle.std.proofs.lemmas.Bool.{eqb-false}
use Rattle.std.proofs.Common.{cond, eqb-true, ne_eqb, eq-eqb}
use Rattle.grift_base.specs.Types.{TypeRow}
use Rattle.low_ir.specs.Procedures.{Code, Done}
use Rattle.low_ir.specs.Steps.{Locals, set_local}
use Rattle.low_ir.specs.Run.{Setting, Waiting as LowWaiting}
use Rattle.cast_modes.specs.ValueSteps.{CastFrame, ProjFrame, PrimFrame, EnterFrame, OwnFrame}
use Rattle.flat_ir.specs.Bodies.{Body, Proc}
use Rattle.flat_ir.specs.Machine.{FlatValue, FlatFrame, Group, Locals as FlatLocals, Waiting}
use Rattle.flat_ir.specs.Machine.{set_local as set_flat}
use Rattle.coercion_norm.specs.Objects.{Object}
use Rattle.coercion_norm.specs.Held.{Layout}
use Rattle.lowered_code.specs.declared.numbering.Shape.{Shape}
use Rattle.lowered_code.specs.declared.served.Served.{Served}
use Rattle.lowered_code.specs.Numbering.{own_word, local_word}
use Rattle.lowered_code.specs.Emit.{Then, ToCaller, Into}
use Rattle.lower.specs.Relation.{Carried, OwnGroup, Knows, Waits, Rest, Callers}
use Rattle.std.specs.Prelude.{slice_get}
use Rattle.lower.proofs.heap.CarriedLater.{group_grown, grown, all_grown}
use Rattle.lower.specs.Meanings.{Meaning, MeaningLaws}

-- ---- words

pub word_here : (d w : ℕ) (words : Locals) → set_local d w words d ≡ Some w
word_here d w words = ap (λ b. if b then Some w else words d) (eq-eqb d d refl)

pub word_other : (d w : ℕ) (words : Locals) (i : ℕ) → i ≢ d → set_local d w words i ≡ words i
word_other d w words i ne = ap (λ b. if b then Some w else words i) (ne_eqb i d ne)

-- where the name of a level lies: with the arguments, or behind the words to compute in
pub local_low : (s : Shape) (i : ℕ) → i < s.params → local_word s i ≡ suc i
local_low s i lt = let e : nat_lt i s.params ≡ true = grind (arith, lt) in ap (λ b. if b then suc i else i + 10) e

pub local_high : (s : Shape) (i : ℕ) → s.params ≤ i → local_word s i ≡ i + 10
local_high s i le = let e : nat_lt i s.params ≡ false = grind (arith, le) in ap (λ b. if b then suc i else i + 10) e

-- the words that the names below a level lie in, and that of the function itself
pub data Named (s : Shape) (depth i : ℕ) : Type 0 where
  OwnName : i ≡ 0 → Named s depth i
  LowName : 0 < i → i ≤ s.params → Named s depth i
  HighName : s.params + 10 ≤ i → i < depth + 10 → Named s depth i

pub named_local : (s : Shape) (depth i : ℕ) → i < depth → Named s depth (local_word s i)
named_local s depth i lt = by_test (nat_lt i s.params) refl
  where
    by_test : (b : Bool) → nat_lt i s.params ≡ b → Named s depth (local_word s i)
    by_test true e =
        let less : i < s.params = grind (arith, e) in
        let w = local_low s i less in
        LowName (omega (arith, w)) (omega (arith, w, less))
    by_test false e =
        let more : s.params ≤ i = grind (arith, e) in
        let w = local_high s i more in
        HighName (omega (arith, w, more)) (omega (arith, w, lt))

-- these words are the same
abbrev pub SameNamed : Shape → ℕ → Locals → Locals → Type 0
SameNamed s depth words new = (i : ℕ) → Named s depth i → new i ≡ words i

pub fewer_named : (s : Shape) (slot depth : ℕ) → slot ≤ depth → (i : ℕ) → Named s slot i → Named s depth i
fewer_named s slot depth le i (OwnName e) = OwnName e
fewer_named s slot depth le i (LowName p q) = LowName p q
fewer_named s slot depth le i (HighName p q) = HighName p (omega (arith, q, le))

-- a word that no name below a level lies in
pub data IsFree (s : Shape) (depth d : ℕ) : Type 0 where
  Between : s.params < d → d < s.params + 10 → IsFree s depth d
  Behind : s.params ≤ depth → depth + 10 ≤ d → IsFree s depth d

pub free_other : (s : Shape) (depth d i : ℕ) → IsFree s depth d → Named s depth i → i ≢ d
free_other s depth d i (Between p q) (OwnName e) = λ z. omega (arith, z, e, p)
free_other s depth d i (Between p q) (LowName a b) = λ z. omega (arith, z, b, p)
free_other s depth d i (Between p q) (HighName a b) = λ z. omega (arith, z, a, q)
free_other s depth d i (Behind p q) (OwnName e) = λ z. omega (arith, z, e, q)
free_other s depth d i (Behind p q) (LowName a b) = λ z. omega (arith, z, b, p, q)
free_other s depth d i (Behind p q) (HighName a b) = λ z. omega (arith, z, b, q)

pub set_named : (s : Shape) (depth d w : ℕ) (words : Locals) → IsFree s depth d
    → SameNamed s depth words (set_local d w words)
set_named s depth d w words free i named = word_other d w words i (free_other s depth d i free named)

pub same_then : (s : Shape) (depth : ℕ) (a b c : Locals) → SameNamed s depth a b → SameNamed s depth b c
    → SameNamed s depth a c
same_then s depth a b c p q i named = q i named ∙ p i named

-- a body waits as before, below another level, where the words that it has know its names
pub waits_so : (setting : Setting) (l : Layout) (run : Served) (procs : List Proc) (answer : TypeRow)
    (meaning : Meaning) (places bigger : List ℕ) (objects later : List Object) {s : Shape} {count size : ℕ}
    {group : Group meaning.Cast} {depth slot : ℕ} {rest : Body} {locals : FlatLocals meaning.Cast}
    {other : Group meaning.Cast} {d : ℕ} {words : Locals} (level : ℕ) (new : Locals) → slot ≤ level
    → Knows setting l run procs answer meaning bigger later s count group slot locals new
    → Waits setting l run procs answer meaning places objects s count size group depth slot rest locals other d words
    → Waits setting l run procs answer meaning bigger later s count size group level slot rest locals other d new
waits_so setting l run procs answer meaning places bigger objects later level new deep knows w =
    assumption (w, deep, knows)

module _ (setting : Setting) (l : Layout) (run : Served) (procs : List Proc) (answer : TypeRow)
    (meaning : Meaning) (laws : MeaningLaws meaning) (places : List ℕ) where
  module _ (objects : List Object) where
    abbrev KnowsHere : Shape → ℕ → Group meaning.Cast → ℕ → FlatLocals meaning.Cast → Locals → Type 0
    KnowsHere s count group depth locals words =
        Knows setting l run procs answer meaning places objects s count group depth locals words

    abbrev RestHere : (List (FlatFrame meaning.Cast) → Type 0) → Shape → ℕ → ℕ → Group meaning.Cast → ℕ
        → List (FlatFrame meaning.Cast) → Then → List Code → Locals → Type 0
    RestHere P s count size group depth frames next rests words =
        Rest setting l run procs answer meaning places objects P s count size group depth frames next rests words

    pub knows_same : (s : Shape) (count : ℕ) (group : Group meaning.Cast) (depth : ℕ) (locals : FlatLocals meaning.Cast)
        (words new : Locals) → SameNamed s depth words new → KnowsHere s count group depth locals words
        → KnowsHere s count group depth locals new
    knows_same s count group depth locals words new same k = record {
      own = k.own;
      own_is = same own_word (OwnName refl) ∙ k.own_is;
      own_group = k.own_group;
      local = λ i lt.
          let z = k.local i lt in (z.0, same (local_word s i) (named_local s depth i lt) ∙ z.1, z.2);
    }

    pub rest_same : (P : List (FlatFrame meaning.Cast) → Type 0) (s : Shape) (count size : ℕ)
        (group : Group meaning.Cast)
        (depth : ℕ) (frames : List (FlatFrame meaning.Cast)) (next : Then) (rests : List Code) (words new : Locals)
        → SameNamed s depth words new → RestHere P s count size group depth frames next rests words
        → RestHere P s count size group depth frames next rests new
    rest_same P s count size group depth frames ToCaller rests words new same r = r
    rest_same P s count size group depth [] (Into d k) rests words new same r = r
    rest_same P s count size group depth (OwnFrame (Waiting slot rest locals other) ∷ frames) (Into d k) rests words new
        same r =
        let below : SameNamed s slot words new = λ i n. same i (fewer_named s slot depth r.0.deep i n) in (
          waits_so setting l run procs answer meaning places places objects objects depth new r.0.deep
              (knows_same s count group slot locals words new below r.0.knows) r.0,
          r.1,
          r.2,
          r.3,
          r.4,
          rest_same P s count size group slot frames r.1 r.2 words new below r.5,
        )
    rest_same P s count size group depth (CastFrame c ∷ frames) (Into d k) rests words new same r = r
    rest_same P s count size group depth (ProjFrame i ∷ frames) (Into d k) rests words new same r = r
    rest_same P s count size group depth (PrimFrame op done ∷ frames) (Into d k) rests words new same r = r
    rest_same P s count size group depth (EnterFrame f done todo ∷ frames) (Into d k) rests words new same r = r

    pub rest_deeper : (P : List (FlatFrame meaning.Cast) → Type 0) (s : Shape) (count size : ℕ)
        (group : Group meaning.Cast)
        (depth more : ℕ) (frames : List (FlatFrame meaning.Cast)) (next : Then) (rests : List Code) (words : Locals)
        → depth ≤ more → RestHere P s count size group depth frames next rests words
        → RestHere P s count size group more frames next rests words
    rest_deeper P s count size group depth more frames ToCaller rests words le r = r
    rest_deeper P s count size group depth more [] (Into d k) rests words le r = r
    rest_deeper P s count size group depth more (OwnFrame (Waiting slot rest locals other) ∷ frames) (Into d k) rests
        words le r = (
          waits_so setting l run procs answer meaning places places objects objects more words
              (let z = r.0.deep in omega (arith, z, le)) r.0.knows r.0,
          r.1,
          r.2,
          r.3,
          r.4,
          r.5,
        )
    rest_deeper P s count size group depth more (CastFrame c ∷ frames) (Into d k) rests words le r = r
    rest_deeper P s count size group depth more (ProjFrame i ∷ frames) (Into d k) rests words le r = r
    rest_deeper P s count size group depth more (PrimFrame op done ∷ frames) (Into d k) rests words le r = r
    rest_deeper P s count size group depth more (EnterFrame f done todo ∷ frames) (Into d k) rests words le r = r

    -- in a branch, behind which stands what stood behind the place before
    pub rest_branch : (P : List (FlatFrame meaning.Cast) → Type 0) (s : Shape) (count size : ℕ)
        (group : Group meaning.Cast)
        (depth : ℕ) (frames : List (FlatFrame meaning.Cast)) (d : ℕ) (k : Code) (rests : List Code) (words : Locals)
        → RestHere P s count size group depth frames (Into d k) rests words
        → RestHere P s count size group depth frames (Into d Done) (k ∷ rests) words
    rest_branch P s count size group depth [] d k rests words r = r
    rest_branch P s count size group depth (OwnFrame (Waiting slot rest locals other) ∷ frames) d k rests words r = (
      r.0,
      r.1,
      r.2,
      suc r.3,
      (refl, r.4),
      r.5,
    )
    rest_branch P s count size group depth (CastFrame c ∷ frames) d k rests words r = r
    rest_branch P s count size group depth (ProjFrame i ∷ frames) d k rests words r = r
    rest_branch P s count size group depth (PrimFrame op done ∷ frames) d k rests words r = r
    rest_branch P s count size group depth (EnterFrame f done todo ∷ frames) d k rests words r = r

    -- a new local name in a word of its own
    pub knows_more : (s : Shape) (count : ℕ) (group : Group meaning.Cast) (slot : ℕ) (locals : FlatLocals meaning.Cast)
        (words : Locals) (v : FlatValue meaning.Cast) (w : ℕ) → words (local_word s slot) ≡ Some w
        → Carried setting l run procs answer meaning places objects v w → KnowsHere s count group slot locals words
        → KnowsHere s count group (suc slot) (set_flat locals slot v) words
    knows_more s count group slot locals words v w e c k = record {
      own = k.own;
      own_is = k.own_is;
      own_group = k.own_group;
      local = λ i lt. by_test i lt (nat_eq i slot) refl;
    }
      where
        C : FlatValue meaning.Cast → ℕ → Type 0
        C u x = Carried setting l run procs answer meaning places objects u x

        by_test : (i : ℕ) → i < suc slot → (b : Bool) → nat_eq i slot ≡ b
            → (x : ℕ) × (words (local_word s i) ≡ Some x) × C (set_flat locals slot v i) x
        by_test i lt true b =
            let same = eqb-true i slot b in (
              w,
              ap (λ j. words (local_word s j)) same ∙ e,
              subst (λ u. C u w) (sym (ap (λ z. cond z v (locals i)) b)) c,
            )
        by_test i lt false b =
            let ne : i ≢ slot = eqb-false i slot b in
            let z = k.local i (omega (arith, lt, ne)) in
            (z.0, z.1, subst (λ u. C u z.0) (sym (ap (λ y. cond y v (locals i)) b)) z.2)

-- ---- objects and cells that are added

module _ (setting : Setting) (l : Layout) (run : Served) (procs : List Proc) (answer : TypeRow)
    (meaning : Meaning) (laws : MeaningLaws meaning) (places bigger : List ℕ)
    (kept : (i w : ℕ) → slice_get places i ≡ Some w → slice_get bigger i ≡ Some w) (objects more : List Object) where
  pub own_grown : (s : Shape) (count : ℕ) (group : Group meaning.Cast) (own : ℕ)
      → OwnGroup setting l run procs answer meaning places objects s count group own
      → OwnGroup setting l run procs answer meaning bigger (objects ++ more) s count group own
  own_grown s count group own g = record {
    leader = g.leader;
    words = g.words;
    is = g.is;
    long = g.long;
    inside = g.inside;
    stands =
        group_grown l setting.address procs meaning laws places bigger kept objects more group.first g.leader count
        g.words g.stands;
    carried = all_grown l setting.address procs meaning laws places bigger kept objects more group.captured g.words
        g.carried;
  }

  pub knows_grown : (s : Shape) (count : ℕ) (group : Group meaning.Cast) (depth : ℕ) (locals : FlatLocals meaning.Cast)
      (words : Locals) → Knows setting l run procs answer meaning places objects s count group depth locals words
      → Knows setting l run procs answer meaning bigger (objects ++ more) s count group depth locals words
  knows_grown s count group depth locals words k = record {
    own = k.own;
    own_is = k.own_is;
    own_group = by_own k.own_group;
    local = λ i lt.
        let z = k.local i lt in
        (z.0, z.1, grown l setting.address procs meaning laws places bigger kept objects more (locals i) [] z.0 z.2);
  }
    where
      by_own : ((s.captured ≡ 0) × (count ≡ 0))
          ⊎ OwnGroup setting l run procs answer meaning places objects s count group k.own
          → ((s.captured ≡ 0) × (count ≡ 0))
          ⊎ OwnGroup setting l run procs answer meaning bigger (objects ++ more) s count group k.own
      by_own (inl e) = inl e
      by_own (inr g) = inr (own_grown s count group k.own g)

  pub rest_grown : (P Q : List (FlatFrame meaning.Cast) → Type 0) → ((frames : List (FlatFrame meaning.Cast)) → P frames
      → Q frames) → (s : Shape) (count size : ℕ) (group : Group meaning.Cast) (depth : ℕ)
      (frames : List (FlatFrame meaning.Cast)) (next : Then) (rests : List Code) (words : Locals)
      → Rest setting l run procs answer meaning places objects P s count size group depth frames next rests words
      → Rest setting l run procs answer meaning bigger (objects ++ more) Q s count size group depth frames next rests
      words
  rest_grown P Q f s count size group depth frames ToCaller rests words r = f frames r
  rest_grown P Q f s count size group depth [] (Into d k) rests words r = r
  rest_grown P Q f s count size group depth (OwnFrame (Waiting slot rest locals other) ∷ frames) (Into d k) rests
      words r = (
        waits_so setting l run procs answer meaning places bigger objects (objects ++ more) depth words r.0.deep
            (knows_grown s count group slot locals words r.0.knows) r.0,
        r.1,
        r.2,
        r.3,
        r.4,
        rest_grown P Q f s count size group slot frames r.1 r.2 words r.5,
      )
  rest_grown P Q f s count size group depth (CastFrame c ∷ frames) (Into d k) rests words r = r
  rest_grown P Q f s count size group depth (ProjFrame i ∷ frames) (Into d k) rests words r = r
  rest_grown P Q f s count size group depth (PrimFrame op done ∷ frames) (Into d k) rests words r = r
  rest_grown P Q f s count size group depth (EnterFrame g done todo ∷ frames) (Into d k) rests words r = r

  pub callers_grown : (waiting : List LowWaiting) (frames : List (FlatFrame meaning.Cast))
      → Callers setting l run procs answer meaning places objects waiting frames
      → Callers setting l run procs answer meaning bigger (objects ++ more) waiting frames
  callers_grown [] frames c = c
  callers_grown (w ∷ ws) frames (inl e) = inl e
  callers_grown (w ∷ ws) frames (inr (inl r)) = inr (inl (
    r.0,
    r.1,
    r.2,
    r.3,
    rest_grown (Callers setting l run procs answer meaning places objects ws)
        (Callers setting l run procs answer meaning bigger (objects ++ more) ws)
        (λ fs c. callers_grown ws fs c) r.0 r.1 w.rest.count r.2 r.3 frames (Into w.answer w.rest.code) w.rest.rests
        w.rest.locals r.4,
  ))
  callers_grown (w ∷ ws) frames (inr (inr r)) = inr (inr (
    r.0,
    r.1,
    r.2,
    r.3,
    laws.resumes_later setting l objects more w (r.0 ∷ r.1) r.4,
    callers_grown ws r.2 r.5,
  ))

module _ (setting : Setting) (l : Layout) (run : Served) (procs : List Proc) (answer : TypeRow)
    (meaning : Meaning) (laws : MeaningLaws meaning) (places : List ℕ) (objects more : List Object) where
  pub knows_later : (s : Shape) (count : ℕ) (group : Group meaning.Cast) (depth : ℕ) (locals : FlatLocals meaning.Cast)
      (words : Locals) → Knows setting l run procs answer meaning places objects s count group depth locals words
      → Knows setting l run procs answer meaning places (objects ++ more) s count group depth locals words
  knows_later = knows_grown setting l run procs answer meaning laws places places (λ i w e. e) objects more

  pub rest_later : (P Q : List (FlatFrame meaning.Cast) → Type 0) → ((frames : List (FlatFrame meaning.Cast)) → P frames
      → Q frames) → (s : Shape) (count size : ℕ) (group : Group meaning.Cast) (depth : ℕ)
      (frames : List (FlatFrame meaning.Cast)) (next : Then) (rests : List Code) (words : Locals)
      → Rest setting l run procs answer meaning places objects P s count size group depth frames next rests words
      → Rest setting l run procs answer meaning places (objects ++ more) Q s count size group depth frames next rests
      words
  rest_later = rest_grown setting l run procs answer meaning laws places places (λ i w e. e) objects more

  pub callers_later : (waiting : List LowWaiting) (frames : List (FlatFrame meaning.Cast))
      → Callers setting l run procs answer meaning places objects waiting frames
      → Callers setting l run procs answer meaning places (objects ++ more) waiting frames
  callers_later = callers_grown setting l run procs answer meaning laws places places (λ i w e. e) objects more
