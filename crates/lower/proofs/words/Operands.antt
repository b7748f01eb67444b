-- Operands are fetched: afterwards each is found in a source whose word carries its value.
use Rattle.std.proofs.Common.{◌≡◌, ◌≢◌, ◌⊎◌, inl, inr, ℕ, suc, ◌+◌, ◌^◌, ◌%◌, ◌<◌, ◌≤◌, Bool, true}
use Rattle.std.proofs.Common.{false, List, [], ◌∷◌, length, Option, Some, refl, sym, ap, ap₂, ◌∙◌, subst, arith}
use Rattle.std.specs.Prelude.{nat_lt, ◌==◌, ◌&&◌, if◌then◌else◌}
use Rattle.std.specs.Int.{w64, cast_unsigned, int_wrap}
use Rattle.std.proofs.Common.{eqb-true, mod-eq_of_lt, ℤ}
use Rattle.std.specs.Prelude.{FitsSigned}
use Rattle.std.proofs.lemmas.Int.{SFits-int_wrap}
use Rattle.std.proofs.Math.Facts.{Fits-of_z}
use Rattle.machine_words.specs.Memory.{load_bytes}
use Rattle.low_ir.specs.Steps.{may_load}
use Rattle.grift_base.specs.World.{WorldState}
use Rattle.machine_words.specs.Arithmetic.{add, subtract}
use Rattle.low_ir.specs.declared.code.WordOp.TheVariants.{Add as Plus, Sub as Minus}
use Rattle.low_ir.specs.declared.code.LowSource.{LowSource}
use Rattle.low_ir.specs.declared.code.LowSource.TheVariants.{Word, Number}
use Rattle.low_ir.specs.Procedures.{Code, Compute, Load}
use Rattle.low_ir.specs.Steps.{Locals, set_local}
use Rattle.low_ir.specs.Run.{Waiting, word_of, words_of, and_more}
use Rattle.cast_modes.specs.RunValues.{in_row}
use Rattle.flat_ir.specs.declared.code.Operand.{Operand}
use Rattle.flat_ir.specs.declared.code.Operand.TheVariants.{Local, Captured, Sibling, Int, Bool as BoolCase}
use Rattle.flat_ir.specs.declared.code.Operand.TheVariants.{Unit as UnitCase}
use Rattle.flat_ir.specs.Closed.{operand_bound, operands_bound}
use Rattle.flat_ir.specs.Machine.{Group, Locals as FlatLocals, value, values}
use Rattle.coercion_norm.specs.Objects.{Object}
use Rattle.low_ir.specs.Frames.{frame_room, waiting_room}
use Rattle.rt_cast.specs.States.{Heap}
use Rattle.lowered_code.specs.declared.numbering.Shape.{Shape}
use Rattle.lowered_code.specs.Numbering.{own_word, operand_word, test_word, local_word, function_offset}
use Rattle.lowered_code.specs.Numbering.{captured_offset}
use Rattle.lowered_code.specs.Emit.{load_far, leader_code, leader, fetch, found, fetch_all, found_all}
use Rattle.lower.specs.Relation.{OwnGroup, Knows}
use Rattle.lower.proofs.heap.Filled.{WordThere, word_there}
use Rattle.lower.proofs.heap.CarriedLater.{carried_at, function_small}
use Rattle.lower.proofs.words.Steps.{at, Calm, computes, loads}
use Rattle.lower.proofs.words.Scene.{Scene, Carries, CarryAll, Arrives, Fills}
use Rattle.lower.proofs.simulation.RelationKept.{word_here, word_other, Named, OwnName, LowName, HighName}
use Rattle.lower.proofs.simulation.RelationKept.{named_local}
use Rattle.lower.proofs.simulation.RelationKept.{SameNamed}
use Rattle.lower.proofs.simulation.RelationKept.{knows_same}

-- all words but one are the same
abbrev pub Changes : ℕ → Locals → Locals → Type 0
Changes d words new = (j : ℕ) → j ≢ d → new j ≡ words j

-- all words but so many from one on are the same
abbrev pub ChangesFrom : ℕ → ℕ → Locals → Locals → Type 0
ChangesFrom low n words new = (j : ℕ) → (j < low) ⊎ (low + n ≤ j) → new j ≡ words j

pub and_true : (a b : Bool) → (a && b) ≡ true → (a ≡ true) × (b ≡ true)
and_true true true e = (refl, refl)
and_true true false e = absurd (let z : ⊥ = cc in z)
and_true false b e = absurd (let z : ⊥ = cc in z)

pub both_words : (a : Option ℕ) (b : Option (List ℕ)) (w : ℕ) (ws : List ℕ) → a ≡ Some w → b ≡ Some ws
    → and_more a b ≡ Some (w ∷ ws)
both_words a b w ws e f = ap₂ and_more e f

-- the words to compute in are no names
pub named_besides : (s : Shape) (depth low n : ℕ) → s.params < low → low + n ≤ s.params + 10 → (j : ℕ)
    → Named s depth j → (j < low) ⊎ (low + n ≤ j)
named_besides s depth low n a b j (OwnName e) = inl (omega (arith, a, e))
named_besides s depth low n a b j (LowName p q) = inl (omega (arith, a, q))
named_besides s depth low n a b j (HighName p q) = inr (omega (arith, b, p))

pub same_besides : (s : Shape) (depth low n : ℕ) (words new : Locals) → s.params < low → low + n ≤ s.params + 10
    → ChangesFrom low n words new → SameNamed s depth words new
same_besides s depth low n words new a b c j named = c j (named_besides s depth low n a b j named)

subtracted : (x n : ℕ) → n < 2 ^ 64 → x + n < 2 ^ 64 → subtract (x + n) (n % 2 ^ 64) ≡ x
subtracted x n small fits = grind arith

pub added : (x n : ℕ) → x + n < 2 ^ 64 → add x (n % 2 ^ 64) ≡ x + n
added x n fits = grind arith

number_word : (n : ℤ) → int_wrap w64 n ≡ n → Some (cast_unsigned w64 n % 2 ^ 64) ≡ Some (cast_unsigned w64 n)
number_word n fits =
    let small : cast_unsigned w64 n < 2 ^ 64 = (Fits-of_z (subst (FitsSigned w64) fits (SFits-int_wrap w64 n))).fits in
    ap Some (mod-eq_of_lt small)

apart : (d j : ℕ) → (j < d) ⊎ (d + 1 ≤ j) → j ≢ d
apart d j (inl p) = λ e. omega (arith, p, e)
apart d j (inr p) = λ e. omega (arith, p, e)

apart_all : (d j n : ℕ) → (j < d) ⊎ (d + suc n ≤ j) → j ≢ d
apart_all d j n (inl p) = λ e. omega (arith, p, e)
apart_all d j n (inr p) = λ e. omega (arith, p, e)

behind : (d j n low : ℕ) → low ≡ suc d → (j < d) ⊎ (d + suc n ≤ j) → (j < low) ⊎ (low + n ≤ j)
behind d j n low e (inl p) = inl (omega (arith, p, e))
behind d j n low e (inr p) = inr (omega (arith, p, e))

module _ (scene : Scene) (world : WorldState) (h : Heap) (allowed : scene.allowed world h.words)
    (objects : List Object) (filled : Fills scene.program objects h) (waiting : List Waiting) (size : ℕ)
    (frames_fit : frame_room size + waiting_room waiting ≤ scene.room) (rests : List Code) where
  abbrev calm : Calm scene.program.setting scene.P scene.Q size waiting world h
  calm = scene.calm world h objects filled allowed size waiting frames_fit

  abbrev pub On : Locals → Code → Type 0
  On words code = Arrives scene (at world h waiting size rests words code)

  abbrev pub KnowsHere : Shape → ℕ → Group scene.program.meaning.Cast → ℕ → FlatLocals scene.program.meaning.Cast
      → Locals → Type 0
  KnowsHere s count group depth locals words = Knows scene.program.setting scene.program.l scene.program.run
      scene.program.procs scene.program.answer
      scene.program.meaning scene.places objects s count group depth locals words

  abbrev pub OwnHere : Shape → ℕ → Group scene.program.meaning.Cast → ℕ → Type 0
  OwnHere s count group own = OwnGroup scene.program.setting scene.program.l scene.program.run scene.program.procs
      scene.program.answer scene.program.meaning
      scene.places objects s count group own

  pub load_far_reads : (d : ℕ) (base : LowSource) (offset : ℕ) (k : Code) (words : Locals) (x w : ℕ)
      → word_of words base ≡ Some x → WordThere scene.program.meaning scene.program.setting scene.program.l
      scene.program.placed h.memory (x + offset) w
      → d < size
      → ((new : Locals) → new d ≡ Some w → Changes d words new → On new k) → On words (load_far d base offset k)
  load_far_reads d base offset k words x w e there lt go = by_size (nat_lt offset 2048) refl
    where
      by_size : (b : Bool) → nat_lt offset 2048 ≡ b → On words (load_far d base offset k)
      by_size true q =
          subst (λ c. On words (if c then Load d base offset k
          else Compute Plus d base (Number offset) (Load d (Word d) 0 k))) (sym q)
          (loads scene.program.setting scene.P scene.Q calm x w e there.may there.is
          (let z = there.end in omega arith) lt
          (go (set_local d w words) (word_here d w words) (λ j ne. word_other d w words j ne)))
      by_size false q =
          let fits : x + offset < 2 ^ 64 = let z = there.end in omega arith in
          let first = set_local d (x + offset) words in
          let none : x + offset ≡ x + offset + 0 = omega arith in
          subst (λ c. On words (if c then Load d base offset k
          else Compute Plus d base (Number offset) (Load d (Word d) 0 k))) (sym q)
          (computes scene.program.setting scene.P scene.Q calm x (offset % 2 ^ 64)
          (x + offset) e refl (added x offset fits) lt
          (loads scene.program.setting scene.P scene.Q calm (x + offset) w
          (word_here d (x + offset) words)
          (subst (λ n. may_load scene.program.setting.top n ≡ true) none there.may)
          (subst (λ n. load_bytes 8 h.memory n ≡ w) none there.is)
          (omega (arith, fits)) lt
          (go (set_local d w first) (word_here d w first)
          (λ j ne. word_other d w first j ne ∙ word_other d (x + offset) words j ne))))

  module _ (s : Shape) (count : ℕ) (group : Group scene.program.meaning.Cast) where
    -- the first function of the group
    pub leader_reads : (own : ℕ) (g : OwnHere s count group own) (d : ℕ) (k : Code) (words : Locals)
        → words own_word ≡ Some own → d < size
        → ((new : Locals) → word_of new (leader s d) ≡ Some g.leader → Changes d words new → On new k)
        → On words (leader_code s d k)
    leader_reads own g d k words e lt go = by_place (s.place == 0) refl
      where
        offset : ℕ
        offset = function_offset s.captured s.place

        offset_is : function_offset s.captured s.place ≡ function_offset (length g.words) s.place
        offset_is = ap (λ n. function_offset n s.place) g.long

        own_is : own ≡ g.leader + function_offset s.captured s.place
        own_is = omega (arith, g.is, offset_is)

        fits : g.leader + function_offset (length g.words) s.place < 2 ^ 64
        fits = function_small scene.program.l scene.program.setting.address scene.program.procs scene.program.meaning
            scene.program.laws scene.places objects
            scene.program.setting scene.program.placed h filled group.first g.leader count s.place g.words g.inside
            g.stands

        by_place : (b : Bool) → (s.place == 0) ≡ b → On words (leader_code s d k)
        by_place true q =
            let zeroth : s.place ≡ 0 = eqb-true s.place 0 q in
            let none : function_offset s.captured s.place ≡ 0 = ap (function_offset s.captured) zeroth in
            let same : own ≡ g.leader = omega (arith, own_is, none) in
            subst (λ c. On words (if c then k
            else Compute Minus d (Word own_word) (Number (function_offset s.captured s.place)) k)) (sym q)
            (go words (ap (λ c. word_of words (if c then Word own_word else Word d)) q ∙ (e ∙ ap Some same))
            (λ j ne. refl))
        by_place false q =
            let back : subtract own (function_offset s.captured s.place % 2 ^ 64) ≡ g.leader =
            ap (λ n. subtract n (function_offset s.captured s.place % 2 ^ 64)) own_is
            ∙ subtracted g.leader (function_offset s.captured s.place) (omega (arith, fits, offset_is))
            (omega (arith, fits, offset_is)) in
            subst (λ c. On words (if c then k
            else Compute Minus d (Word own_word) (Number (function_offset s.captured s.place)) k)) (sym q)
            (computes scene.program.setting scene.P scene.Q calm own
            (function_offset s.captured s.place % 2 ^ 64) g.leader e refl back lt
            (go (set_local d g.leader words)
            (ap (λ c. word_of (set_local d g.leader words) (if c then Word own_word else Word d)) q
            ∙ word_here d g.leader words) (λ j ne. word_other d g.leader words j ne)))

    module _ (depth : ℕ) (locals : FlatLocals scene.program.meaning.Cast) where
      abbrev Reads : ℕ → Operand → Locals → Code → Type 0
      Reads d o words k =
          (w : ℕ) (new : Locals) → Carries scene objects (value locals group o) w → word_of new (found s d o) ≡ Some w
          → Changes d words new → On new k

      -- what is captured
      captured_reads : (i d : ℕ) → i < s.captured → (k : Code) (words : Locals) (own : ℕ) → OwnHere s count group own
          → words own_word ≡ Some own → d < size → Reads d (Captured i) words k
          → On words (fetch s d (Captured i) k)
      captured_reads i d less k words own g e lt go =
          let z = carried_at scene.program.l scene.program.setting.address scene.program.procs scene.program.meaning
          scene.program.laws scene.places objects
          group.captured g.words i g.carried (omega (arith, less, g.long)) in
          let there = word_there scene.program.meaning scene.program.setting scene.program.l scene.program.placed
          objects h filled g.leader _
          (scene.program.setting.address group.first ∷ g.words) g.stands.leads (suc (suc i)) z.0
          (g.leader + captured_offset i) z.1 (omega arith) in
          leader_reads own g d (load_far d (leader s d) (captured_offset i) k) words e lt
          (λ new is changed. load_far_reads d (leader s d) (captured_offset i) k new g.leader z.0 is there lt
          (λ last found changed'. go z.0 last z.2 found (λ j ne. changed' j ne ∙ changed j ne)))

      -- a function of the group
      sibling_reads : (i d : ℕ) → i < count → (k : Code) (words : Locals) (own : ℕ) → OwnHere s count group own
          → words own_word ≡ Some own → d < size → Reads d (Sibling i) words k
          → On words (fetch s d (Sibling i) k)
      sibling_reads i d less k words own g e lt go =
          let w = g.leader + function_offset (length g.words) i in
          let fits : w < 2 ^ 64 = function_small scene.program.l scene.program.setting.address scene.program.procs
          scene.program.meaning scene.program.laws
          scene.places
          objects scene.program.setting scene.program.placed h filled group.first g.leader count i g.words less g.stands
          in
          let offset_is : function_offset s.captured i ≡ function_offset (length g.words) i =
          ap (λ n. function_offset n i) g.long in
          let sum : add g.leader (function_offset s.captured i % 2 ^ 64) ≡ w =
          added g.leader (function_offset s.captured i) (omega (arith, fits, offset_is))
          ∙ ap (λ n. g.leader + n) offset_is in
          leader_reads own g d (Compute Plus d (leader s d) (Number (function_offset s.captured i)) k) words e lt
          (λ new is changed. computes scene.program.setting scene.P scene.Q calm
          g.leader (function_offset s.captured i % 2 ^ 64) w is refl sum lt
          (go w (set_local d w new) (g.leader, count, g.words, refl, less, g.stands, g.carried) (word_here d w new)
          (λ j ne. word_other d w new j ne ∙ changed j ne)))

      -- an operand
      pub fetch_reads : (o : Operand) (d : ℕ) → operand_bound s.captured count depth o ≡ true → d < size
          → (words : Locals) → KnowsHere s count group depth locals words → (k : Code) → Reads d o words k
          → On words (fetch s d o k)
      fetch_reads (Local level) d bound lt words knows k go =
          let less : level < depth = grind (arith, bound) in
          let z = knows.local level less in
          go z.0 words z.2 z.1 (λ j ne. refl)
      fetch_reads (Captured i) d bound lt words knows k go = by_own knows.own_group
        where
          less : i < s.captured
          less = grind (arith, bound)

          by_own : ((s.captured ≡ 0) × (count ≡ 0)) ⊎ OwnHere s count group knows.own
              → On words (fetch s d (Captured i) k)
          by_own (inl e) = absurd (omega (arith, less, e.0))
          by_own (inr g) = captured_reads i d less k words knows.own g knows.own_is lt go
      fetch_reads (Sibling i) d bound lt words knows k go = by_own knows.own_group
        where
          less : i < count
          less = grind (arith, bound)

          by_own : ((s.captured ≡ 0) × (count ≡ 0)) ⊎ OwnHere s count group knows.own
              → On words (fetch s d (Sibling i) k)
          by_own (inl e) = absurd (omega (arith, less, e.1))
          by_own (inr g) = sibling_reads i d less k words knows.own g knows.own_is lt go
      fetch_reads (Int n) d bound lt words knows k go =
          let fits : int_wrap w64 n ≡ n = grind (arith, bound) in
          go (cast_unsigned w64 n) words (refl, fits) (number_word n fits) (λ j ne. refl)
      fetch_reads (BoolCase true) d bound lt words knows k go = go 1 words refl refl (λ j ne. refl)
      fetch_reads (BoolCase false) d bound lt words knows k go = go 0 words refl refl (λ j ne. refl)
      fetch_reads UnitCase d bound lt words knows k go = go 0 words refl refl (λ j ne. refl)

      -- the value of an operand is carried, whether it is fetched or not
      pub value_carried : (o : Operand) → operand_bound s.captured count depth o ≡ true → (words : Locals)
          → KnowsHere s count group depth locals words → (w : ℕ) × Carries scene objects (value locals group o) w
      value_carried (Local level) bound words knows = let z = knows.local level (grind (arith, bound)) in (z.0, z.2)
      value_carried (Captured i) bound words knows = by_own knows.own_group
        where
          less : i < s.captured
          less = grind (arith, bound)

          by_own : ((s.captured ≡ 0) × (count ≡ 0)) ⊎ OwnHere s count group knows.own
              → (w : ℕ) × Carries scene objects (value locals group (Captured i)) w
          by_own (inl e) = absurd (omega (arith, less, e.0))
          by_own (inr g) =
              let z = carried_at scene.program.l scene.program.setting.address scene.program.procs scene.program.meaning
              scene.program.laws scene.places objects
              group.captured g.words i g.carried (omega (arith, less, g.long)) in
              (z.0, z.2)
      value_carried (Sibling i) bound words knows = by_own knows.own_group
        where
          less : i < count
          less = grind (arith, bound)

          by_own : ((s.captured ≡ 0) × (count ≡ 0)) ⊎ OwnHere s count group knows.own
              → (w : ℕ) × Carries scene objects (value locals group (Sibling i)) w
          by_own (inl e) = absurd (omega (arith, less, e.1))
          by_own (inr g) = (
            g.leader + function_offset (length g.words) i,
            (g.leader, count, g.words, refl, less, g.stands, g.carried),
          )
      value_carried (Int n) bound words knows = (cast_unsigned w64 n, (refl, grind (arith, bound)))
      value_carried (BoolCase b) bound words knows = ((if b then 1 else 0), refl)
      value_carried UnitCase bound words knows = (0, refl)

      pub values_carried : (os : List Operand) → operands_bound s.captured count depth os ≡ true → (words : Locals)
          → KnowsHere s count group depth locals words
          → (ws : List ℕ) × CarryAll scene objects (in_row (values locals group os)) ws
      values_carried [] bound words knows = ([], tt)
      values_carried (o ∷ os) bound words knows =
          let x = and_true (operand_bound s.captured count depth o) (operands_bound s.captured count depth os) bound in
          let c = value_carried o x.0 words knows in
          let cs = values_carried os x.1 words knows in
          (c.0 ∷ cs.0, (c.1, cs.1))

      -- a source that is found stays where it is
      pub found_same : (o : Operand) (d : ℕ) → operand_bound s.captured count depth o ≡ true → (words new : Locals)
          → SameNamed s depth words new → new d ≡ words d → word_of new (found s d o) ≡ word_of words (found s d o)
      found_same (Local level) d bound words new same e =
          same (local_word s level) (named_local s depth level (grind (arith, bound)))
      found_same (Captured i) d bound words new same e = e
      found_same (Sibling i) d bound words new same e = e
      found_same (Int n) d bound words new same e = refl
      found_same (BoolCase b) d bound words new same e = refl
      found_same UnitCase d bound words new same e = refl

      pub found_all_same : (os : List Operand) (i : ℕ) → operands_bound s.captured count depth os ≡ true
          → i + length os ≤ 8 → (words new : Locals) → Changes (test_word s) words new
          → words_of new (found_all s i os) ≡ words_of words (found_all s i os)
      found_all_same [] i bound few words new changed = refl
      found_all_same (o ∷ os) i bound few words new changed =
          let both = and_true (operand_bound s.captured count depth o) (operands_bound s.captured count depth os) bound
          in
          ap₂ and_more
          (found_same o (operand_word s i) both.0 words new
          (λ j named. changed j (named_apart j named)) (changed (operand_word s i) (λ e. omega (arith, e, few))))
          (found_all_same os (suc i) both.1 (omega (arith, few)) words new changed)
        where
          named_apart : (j : ℕ) → Named s depth j → j ≢ test_word s
          named_apart j (OwnName e) = λ z. omega (arith, z, e)
          named_apart j (LowName p q) = λ z. omega (arith, z, q)
          named_apart j (HighName p q) = λ z. omega (arith, z, p)

      abbrev AllRead : ℕ → List Operand → Locals → Code → Type 0
      AllRead i os words k =
          (ws : List ℕ) (new : Locals) → CarryAll scene objects (in_row (values locals group os)) ws
          → words_of new (found_all s i os) ≡ Some ws
          → ChangesFrom (operand_word s i) (length os) words new → On new k

      -- operands in order, in the words from a place on
      pub fetch_all_reads : (os : List Operand) (i : ℕ) → operands_bound s.captured count depth os ≡ true
          → i + length os ≤ 8 → s.params + 10 ≤ size → (words : Locals)
          → KnowsHere s count group depth locals words → (k : Code) → AllRead i os words k
          → On words (fetch_all s i os k)
      fetch_all_reads [] i bound few room words knows k go = go [] words tt refl (λ j side. refl)
      fetch_all_reads (o ∷ os) i bound few room words knows k go =
          let both = and_true (operand_bound s.captured count depth o) (operands_bound s.captured count depth os) bound
          in
          let d = operand_word s i in
          fetch_reads o d both.0 (omega (arith, room, few)) words knows (fetch_all s (suc i) os k)
          (λ w new carried is changed.
          let same : SameNamed s depth words new = same_besides s depth d 1 words new (omega arith)
          (omega (arith, few)) (λ j side. changed j (apart d j side)) in
          fetch_all_reads os (suc i) both.1 (omega (arith, few)) room new
          (knows_same scene.program.setting scene.program.l scene.program.run scene.program.procs scene.program.answer
          scene.program.meaning scene.program.laws scene.places
          objects s
          count group depth locals words new same knows) k
          (λ ws last all are changed'.
          let more : SameNamed s depth new last = same_besides s depth (operand_word s (suc i)) (length os) new last
          (omega arith) (omega (arith, few)) changed' in
          let kept : last d ≡ new d = changed' d (inl (omega arith)) in
          go (w ∷ ws) last (carried, all)
          (both_words (word_of last (found s d o)) (words_of last (found_all s (suc i) os)) w ws
          (found_same o d both.0 new last more kept ∙ is) are)
          (λ j side. changed' j (behind d j (length os) (operand_word s (suc i)) (omega arith) side)
          ∙ changed j (apart_all d j (length os) side))))
