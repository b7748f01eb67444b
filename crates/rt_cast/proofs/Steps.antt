-- Steps of the word machine, in the style of "and then", where these objects stand.
use Rattle.std.proofs.Common.{◌≡◌, ◌⊎◌, inl, inr, ℕ, zero, suc, ◌+◌, ◌-◌, ◌*◌, ◌^◌, ◌%◌, ◌<◌, ◌≤◌, Bool, true}
use Rattle.std.proofs.Common.{false, cond, List, [], ◌∷◌, ◌++◌, Option, Some, None, refl, sym, ap, ◌∙◌}
use Rattle.std.proofs.Common.{subst, arith, append-nil, append_assoc}
use Rattle.std.specs.Prelude.{◌==◌, ◌&&◌, nat_lt, nat_le, slice_get, length, pos, max}
use Rattle.low_ir.specs.Frames.{frame_room, waiting_room, stack_room}
use Rattle.rt_cast.specs.States.{Heap, st, Fine}
use Rattle.run_laws.specs.Machines.{Go, Stop, Machine, Reaches, Onward}
use Rattle.run_laws.proofs.Public.{by_step}
use Rattle.machine_words.specs.declared.conditions.Cond.{Cond}
use Rattle.machine_words.specs.Memory.{load_bytes}
use Rattle.machine_words.specs.Halts.{Lacks, Region}
use Rattle.machine_words.specs.Arithmetic.{plus}
use Rattle.machine_words.specs.Conditions.{holds}
use Rattle.low_ir.specs.declared.code.WordOp.{WordOp}
use Rattle.low_ir.specs.Operations.{compute}
use Rattle.low_ir.specs.Steps.{Locals, no_locals, set_local, given, only_if, may_load, store_words}
use Rattle.low_ir.specs.declared.code.LowSource.{LowSource}
use Rattle.low_ir.specs.Procedures.{Code, Set, Compute, Load, Build, Call, If, Return, TailCall, Proc}
use Rattle.low_ir.specs.Run.{Active, Waiting, LowState, LowShown, word_of, words_of, bind}
use Rattle.low_ir.specs.Run.{low_machine, load, sets, and_more, code_turns}
use Rattle.low_ir.specs.Prices.{source_price, sources_price, slot_price, entering, entering_some, leaving, step_price}
use Rattle.low_ir.specs.Prices.{low_price, CostsAtMost}
use Rattle.low_ir.proofs.Public.{costs_on, costs_last}
use Rattle.coercion_norm.specs.Objects.{Object, Fixed, header_of}
use Rattle.rt_cast.specs.Objects.{HoldsWords, Holds}
use Rattle.coercion_norm.specs.Held.{Layout, There}
use Rattle.rt_cast.specs.WholeObjects.{IsWhole, Wholes}
use Rattle.coercion_norm.proofs.Public.{found_within}
use Rattle.rt_cast.proofs.Objects.{holds_found, word_found, AreSmall, stored_words, bytes_below}
use Rattle.coercion_norm.proofs.Public.{bytes_append}
use Rattle.rt_cast.proofs.Objects.{holds_below, holds_append, header_held, header_room}
use Rattle.rt_cast.proofs.Objects.{none_some, same_some}
use Rattle.rt_cast.proofs.Walks.{Walk}

plus_is : (x n : ℕ) → x + n < 2 ^ 64 → plus x (pos n) ≡ x + n
plus_is x n h = grind arith

may : (top at : ℕ) → at % 8 ≡ 0 → 65536 ≤ at → at + 8 ≤ top → may_load top at ≡ true
may top at e l h = grind arith

le_true : (a b : ℕ) → a ≤ b → nat_le a b ≡ true
le_true a b h = grind arith

pub wholes_more : (l : Layout) (before os : List Object) (o : Object) → Wholes l before os → IsWhole l (before ++ os) o
    → Wholes l before (os ++ o ∷ [])
wholes_more l before [] o h w = (subst (λ x. IsWhole l x o) (append-nil before) w, tt)
wholes_more l before (x ∷ os) o h w = (
  h.0,
  wholes_more l (before ++ x ∷ []) os o h.1 (subst (λ y. IsWhole l y o)
      (sym (append_assoc before (x ∷ []) os)) w),
)

in_list : (xs : List ℕ) (i w : ℕ) → slice_get xs i ≡ Some w → i < length xs
in_list [] i w e = none_some e
in_list (x ∷ xs) zero w e = omega arith
in_list (x ∷ xs) (suc i) w e = let h = in_list xs i w e in omega arith

pub no_true : false ≡ true → ⊥
no_true e = cc

pub first_true : (b c : Bool) → (b && c) ≡ true → b ≡ true
first_true true c e = refl
first_true false c e = absurd (no_true e)

pub second_true : (b c : Bool) → (b && c) ≡ true → c ≡ true
second_true true c e = e
second_true false c e = absurd (no_true e)

abbrev le_cases : (b : Bool) → (b ≡ true) ⊎ (b ≡ false)
le_cases true = inl refl
le_cases false = inr refl

-- how many words, where there are so many sources
as_long : (locals : Locals) (args : List LowSource) (ws : List ℕ) → words_of locals args ≡ Some ws
    → length args ≡ length ws
as_long locals [] [] e = refl
as_long locals [] (w ∷ ws) e = absurd (let z : ⊥ = cc in z)
as_long locals (a ∷ args) ws e = by_first (word_of locals a) e (λ xs h. as_long locals args xs h)
  where
    by_both : (x : ℕ) (o : Option (List ℕ)) → ((xs : List ℕ) → o ≡ Some xs → length args ≡ length xs)
        → and_more (Some x) o ≡ Some ws → suc (length args) ≡ length ws
    by_both x None ih f = absurd (let z : ⊥ = cc in z)
    by_both x (Some xs) ih f = ap suc (ih xs refl) ∙ ap length (same_some (x ∷ xs) ws f)

    by_first : (o : Option ℕ) → and_more o (words_of locals args) ≡ Some ws
        → ((xs : List ℕ) → words_of locals args ≡ Some xs → length args ≡ length xs)
        → suc (length args) ≡ length ws
    by_first None f ih = absurd (let z : ⊥ = cc in z)
    by_first (Some x) f ih = by_both x (words_of locals args) ih f

-- a procedure takes so many words
abbrev takes : ℕ → Proc → Bool
takes n p = (n == p.params) && (nat_le p.params 8 && nat_le p.params p.words)

-- it takes them, and has no more words than procedures that serve may have
abbrev pub serves : ℕ → Proc → Bool
serves n p = takes n p && nat_le p.words 24

serves_takes : (n : ℕ) (p : Proc) → serves n p ≡ true → takes n p ≡ true
serves_takes n p e = first_true (takes n p) (nat_le p.words 24) e

serves_small : (n : ℕ) (p : Proc) → serves n p ≡ true → p.words ≤ 24
serves_small n p e = let z = second_true (takes n p) (nat_le p.words 24) e in grind (arith, z)

-- the words that a procedure takes are few
takes_few : (locals : Locals) (args : List LowSource) (ws : List ℕ) (p : Proc) → words_of locals args ≡ Some ws
    → takes (length ws) p ≡ true → 1 + length args ≤ 10
takes_few locals args ws p e g = let z = as_long locals args ws e in grind (arith, z, g)

-- steps in the order in which they are made: single ones, calls, returns, what they cost and the words that they ask
-- for, and so many at once, with so many procedures above, so many words and this price
pub data Budget : Type 0 where
  End : Budget
  One : Budget → Budget
  In : Budget → Budget
  Out : Budget → Budget
  Pay : ℕ → Budget → Budget
  Ask : ℕ → Budget → Budget
  More : ℕ → ℕ → ℕ → ℕ → Budget → Budget

-- how many steps
abbrev pub total : Budget → ℕ
total End = 0
total (One b) = suc (total b)
total (In b) = suc (total b)
total (Out b) = suc (total b)
total (Pay p b) = total b
total (Ask w b) = total b
total (More n d w p b) = n + total b

-- how many procedures are above, at most; each has 24 words at most, so its frame takes 25 words of room
abbrev pub deep : Budget → ℕ
deep End = 0
deep (One b) = deep b
deep (In b) = suc (deep b)
deep (Out b) = deep b - 1
deep (Pay p b) = deep b
deep (Ask w b) = deep b
deep (More n d w p b) = max d (deep b)

-- how many words are asked for
abbrev pub asked : Budget → ℕ
asked End = 0
asked (One b) = asked b
asked (In b) = asked b
asked (Out b) = asked b
asked (Pay p b) = asked b
asked (Ask w b) = w + asked b
asked (More n d w p b) = w + asked b

-- what all of it costs
abbrev pub priced : Budget → ℕ
priced End = 0
priced (One b) = priced b
priced (In b) = priced b
priced (Out b) = priced b
priced (Pay p b) = p + priced b
priced (Ask w b) = priced b
priced (More n d w p b) = p + priced b

-- no more steps, procedures and words, and no higher price
abbrev pub Below : Budget → Budget → Type 0
Below A B = (total A ≤ total B) × (deep A ≤ deep B) × (asked A ≤ asked B) × (priced A ≤ priced B)

-- the price of a call of a procedure, of going on with it in place of one that has so many words, and of a return from
-- such a one
abbrev pub call_price : ℕ → List LowSource → Proc → ℕ
call_price d args p = sources_price args + 11 + slot_price d + entering p.words

abbrev pub leave_price : ℕ → List LowSource → Proc → ℕ
leave_price words args p = sources_price args + 10 + leaving words + entering p.words

abbrev pub return_price : ℕ → LowSource → ℕ
return_price words a = source_price a + 2 + leaving words

module _ {V : Type 0} (walk : Walk V) where
  abbrev pub N : Machine LowState LowShown V
  N = low_machine walk.reading walk.setting

  abbrev St : ℕ → Locals → Code → List Code → List Waiting → Heap → LowState
  St = st walk.around

  abbrev Fi : List Object → Heap → Type 0
  Fi = Fine walk.setting walk.l walk.around

  -- a word of an object
  pub record WordThere (h : Heap) (at w : ℕ) : Type 0 where
    pub may : may_load walk.setting.top at ≡ true
    pub is : load_bytes 8 h.memory at ≡ w
    pub small : w < 2 ^ 64
    pub place : 65536 ≤ at
    pub end : at + 8 < 2 ^ 64

  pub word_there : (objects : List Object) (h : Heap) → Fi objects h → (at header : ℕ) (ws : List ℕ) → There walk.l
      objects at (Fixed header ws) → (i w to : ℕ) → slice_get (header ∷ ws) i ≡ Some w → to ≡ at + 8 * i → WordThere h
      to w
  word_there objects h f at header ws (inl e) i w to g t =
      let z = found_within walk.l.statics walk.l.first at (Fixed header ws) e in
      let x = word_found h.memory at (header ∷ ws) i w to (holds_found h.memory walk.l.first walk.l.statics at
      (Fixed header ws) f.filled.statics_stand e) g t in
      let n = in_list (header ∷ ws) i w g in
      let even = z.even walk.placed.even_first in
      record {
        may = may walk.setting.top to (omega (arith, even, t)) (omega (arith, z.low, walk.placed.low, t))
            (omega (arith, z.high, walk.placed.before, f.filled.ends, f.filled.fits, t, n));
        is = x.is;
        small = x.small;
        place = omega (arith, z.low, walk.placed.low, t);
        end = omega (arith, z.high, walk.placed.before, f.filled.ends, f.filled.fits, t, n, walk.placed.top);
      }
  word_there objects h f at header ws (inr e) i w to g t =
      let z = found_within objects walk.l.region at (Fixed header ws) e in
      let x = word_found h.memory at (header ∷ ws) i w to (holds_found h.memory walk.l.region objects at (Fixed header
      ws) f.filled.objects_stand e) g t in
      let n = in_list (header ∷ ws) i w g in
      let even = z.even walk.placed.even_region in
      record {
        may = may walk.setting.top to (omega (arith, even, t)) (omega (
          arith,
          z.low,
          walk.placed.low,
          walk.placed.before,
          t,
        )) (omega (arith, z.high, f.filled.ends, f.filled.fits, t, n));
        is = x.is;
        small = x.small;
        place = omega (arith, z.low, walk.placed.low, walk.placed.before, t);
        end = omega (arith, z.high, f.filled.ends, f.filled.fits, t, n, walk.placed.top);
      }

  -- the header of any object
  pub header_there : (objects : List Object) (h : Heap) → Fi objects h → (at : ℕ) (o : Object) → There walk.l objects at
      o → WordThere h at (header_of o)
  header_there objects h f at o (inl e) =
      let z = found_within walk.l.statics walk.l.first at o e in
      let x = header_held h.memory at o (holds_found h.memory walk.l.first walk.l.statics at o f.filled.statics_stand e)
      in
      let even = z.even walk.placed.even_first in
      let r = header_room o in
      record {
        may = may walk.setting.top at even (omega (arith, z.low, walk.placed.low))
            (omega (arith, z.high, walk.placed.before, f.filled.ends, f.filled.fits, r));
        is = x.is;
        small = x.small;
        place = omega (arith, z.low, walk.placed.low);
        end = omega (arith, z.high, walk.placed.before, f.filled.ends, f.filled.fits, r, walk.placed.top);
      }
  header_there objects h f at o (inr e) =
      let z = found_within objects walk.l.region at o e in
      let x = header_held h.memory at o (holds_found h.memory walk.l.region objects at o f.filled.objects_stand e) in
      let even = z.even walk.placed.even_region in
      let r = header_room o in
      record {
        may = may walk.setting.top at even (omega (arith, z.low, walk.placed.low, walk.placed.before))
            (omega (arith, z.high, f.filled.ends, f.filled.fits, r));
        is = x.is;
        small = x.small;
        place = omega (arith, z.low, walk.placed.low, walk.placed.before);
        end = omega (arith, z.high, f.filled.ends, f.filled.fits, r, walk.placed.top);
      }

  -- a budget is left where frames take so much room and so many words were asked for
  pub record Spare (B : Budget) (taken words : ℕ) : Type 0 where
    pub room : taken + 25 * deep B ≤ walk.room
    pub left : words + asked B ≤ walk.most

  -- the machine comes to where Q holds, or is exhausted
  pub record Comes (B : Budget) (t : LowState) : Type 0 where
    pub steps : ℕ
    pub few : steps ≤ total B
    pub cheap : CostsAtMost walk.reading walk.setting steps t (priced B)
    pub reach : Spare B (stack_room t) t.words → Reaches N walk.P walk.Q steps t

  pub goes : {B C : Budget} (t t' : LowState) → N.step t ≡ Go t'
      → (Spare C (stack_room t) t.words → walk.P t)
      → (Spare C (stack_room t) t.words → Spare B (stack_room t') t'.words)
      → total C ≡ suc (total B) → low_price walk.setting.procs t + priced B ≤ priced C → Comes B t' → Comes C t
  goes {B = B} {C = C} t t' e p spare long dear c = record {
    steps = suc c.steps;
    few = let z = c.few in omega (arith, long);
    cheap = costs_on walk.reading walk.setting c.steps (priced B) (priced C) t t' e c.cheap dear;
    reach = λ s. by_step N walk.P walk.Q c.steps t (Go t') e (p s) (c.reach (spare s));
  }

  -- it has come there, whatever the budget
  pub arrives : {B : Budget} {t : LowState} → (stack_room t ≤ walk.room → t.words ≤ walk.most → walk.Q t) → Comes B t
  arrives q = record {
    steps = 0;
    few = omega arith;
    cheap = omega arith;
    reach = λ s. q (let r = s.room in omega (arith, r)) (let a = s.left in omega (arith, a));
  }

  -- what a budget says, where there is room for its frames and its words
  pub counted : {n d a p : ℕ} {t : LowState} → Comes (More n d a p End) t → stack_room t + 25 * d ≤ walk.room
      → t.words + a ≤ walk.most
      → (k : ℕ) × (k ≤ n) × Reaches N walk.P walk.Q k t × CostsAtMost walk.reading walk.setting k t p
  counted z room asked = (
    z.steps,
    (let f = z.few in omega (arith, f)),
    z.reach (record { room = omega (arith, room); left = omega (arith, asked) }),
    let c = z.cheap in omega (arith, c),
  )

  -- within a greater budget
  pub at_most : {A B : Budget} {t : LowState} → Comes A t → Below A B → Comes B t
  at_most c le = record {
    steps = c.steps;
    few = let z = c.few in omega (arith, le.0);
    cheap = let z = c.cheap in omega (arith, z, le.3);
    reach = λ s. c.reach (record {
      room = let r = s.room in omega (arith, le.1);
      left = let r = s.left in omega (arith, le.2);
    });
  }

  here_at : (count : ℕ) (locals : Locals) (rests : List Code) (waiting : List Waiting) (h : Heap)
      (objects : List Object) → Fi objects h → (code : Code) → code_turns code ≤ 10 → {B : Budget}
      → Spare B (frame_room count + waiting_room waiting) h.words → walk.P (St count locals code rests waiting h)
  here_at count locals rests waiting h objects fine code few s =
      walk.calm (record { count = count; locals = locals; code = code; rests = rests }) waiting h objects fine few
      (let r = s.room in omega arith) (let r = s.left in omega arith)

  -- one step is gone
  pub one_less : {B : Budget} {taken words : ℕ} → Spare (One B) taken words → Spare B taken words
  one_less s = record { room = s.room; left = s.left }

  -- a procedure of so few words is entered, above the others or in place of one
  one_in : {B : Budget} {taken words : ℕ} (callee : ℕ) → callee ≤ 24 → Spare (In B) taken words
      → Spare B (frame_room callee + taken) words
  one_in callee small s = record { room = let r = s.room in omega (arith, r, small); left = s.left }

  one_instead : {B : Budget} {words : ℕ} (taken caller callee : ℕ) → callee ≤ 24
      → Spare (One B) (frame_room caller + taken) words → Spare B (frame_room callee + taken) words
  one_instead taken caller callee small s = record { room = let r = s.room in omega (arith, r, small); left = s.left }

  -- and one is left, of however many words
  one_out : {B : Budget} {taken words : ℕ} (callee : ℕ) → Spare (Out B) (frame_room callee + taken) words
      → Spare B taken words
  one_out callee s = record { room = let r = s.room in omega (arith, r); left = s.left }

  -- what it costs is no step, and asks for nothing
  pub paid_for : {p : ℕ} {B : Budget} {taken words : ℕ} → Spare (Pay p B) taken words → Spare B taken words
  paid_for s = record { room = s.room; left = s.left }

  module _ {B : Budget} {count : ℕ} {locals : Locals} {rests : List Code} {waiting : List Waiting} {h : Heap}
      (objects : List Object) (fine : Fi objects h) where
    -- a step to the same procedure, with other words set and other code
    within : (code : Code) → code_turns code ≤ 10 → (locals' : Locals) (code' : Code) (rests' : List Code)
        → N.step (St count locals code rests waiting h) ≡ Go (St count locals' code' rests' waiting h)
        → Comes B (St count locals' code' rests' waiting h) → Comes (Pay (step_price walk.setting.procs count code)
        (One B)) (St count locals code rests waiting h)
    within code few locals' code' rests' e c =
        goes (St count locals code rests waiting h) (St count locals' code' rests' waiting h) e
        (λ s. here_at count locals rests waiting h objects fine code few s) (λ s. one_less (paid_for s)) refl
        (omega arith) c

    pub sets_word : {d : ℕ} {a : LowSource} {rest : Code} (w : ℕ) → word_of locals a ≡ Some w → nat_lt d count ≡ true
        → Comes B (St count (set_local d w locals) rest rests waiting h)
        → Comes (Pay (step_price walk.setting.procs count (Set d a rest)) (One B)) (St count locals
        (Set d a rest) rests waiting h)
    sets_word {d = d} {a = a} {rest = rest} w e lt c =
        within (Set d a rest) (omega arith) (set_local d w locals) rest rests (rw (e, lt) refl) c

    pub computes : {op : WordOp} {d : ℕ} {a b : LowSource} {rest : Code} (x y w : ℕ) → word_of locals a ≡ Some x
        → word_of locals b ≡ Some y → compute op x y ≡ w → nat_lt d count ≡ true
        → Comes B (St count (set_local d w locals) rest rests waiting h)
        → Comes (Pay (step_price walk.setting.procs count (Compute op d a b rest)) (One B)) (St count locals
        (Compute op d a b rest) rests waiting h)
    computes {op = op} {d = d} {a = a} {b = b} {rest = rest} x y w e f g lt c =
        within (Compute op d a b rest) (omega arith) (set_local d w locals) rest rests (rw (e, f, g, lt) refl) c

    pub loads_at : {d offset : ℕ} {a : LowSource} {rest : Code} (at w : ℕ) → word_of locals a ≡ Some at
        → WordThere h (at + offset) w → nat_lt d count ≡ true
        → Comes B (St count (set_local d w locals) rest rests waiting h)
        → Comes (Pay (step_price walk.setting.procs count (Load d a offset rest)) (One B)) (St count locals
        (Load d a offset rest) rests waiting h)
    loads_at {d = d} {offset = offset} {a = a} {rest = rest} at w e z lt c =
        let p = plus_is at offset (omega (arith, z.end)) in
        let m = z.may in
        let s = z.is in
        let next = St count locals rest rests waiting h in
        within (Load d a offset rest) (omega arith) (set_local d w locals) rest rests (
        ap (λ x. given (St count locals (Load d a offset rest) rests waiting h) x (λ x. load walk.reading walk.setting d
        (plus x (pos offset)) next)) e
        ∙ (ap (λ n. load walk.reading walk.setting d n next) p
        ∙ (ap (λ b. only_if next b (sets walk.reading walk.setting d (load_bytes 8 h.memory (at + offset)) next)) m
        ∙ (ap (λ n. sets walk.reading walk.setting d n next) s
        ∙ ap (λ b. only_if next b (Go (St count (set_local d w locals) rest rests waiting h))) lt)))
        ) c

    pub loads : {d offset : ℕ} {a : LowSource} {rest : Code} (at header : ℕ) (ws : List ℕ) (i w : ℕ)
        → word_of locals a ≡ Some at → There walk.l objects at (Fixed header ws) → slice_get (header ∷ ws) i ≡ Some w
        → offset ≡ 8 * i → nat_lt d count ≡ true → Comes B (St count (set_local d w locals) rest rests waiting h)
        → Comes (Pay (step_price walk.setting.procs count (Load d a offset rest)) (One B)) (St count locals
        (Load d a offset rest) rests waiting h)
    loads {d = d} {offset = offset} {a = a} {rest = rest} at header ws i w e there g o lt c =
        loads_at at w e (word_there objects h fine at header ws there i w (at + offset) g (omega arith)) lt c

    pub if_true : {cond : Cond} {a b : LowSource} {one other rest : Code} (x y : ℕ) → word_of locals a ≡ Some x
        → word_of locals b ≡ Some y → holds cond x y ≡ true → Comes B (St count locals one (rest ∷ rests) waiting h)
        → Comes (Pay (step_price walk.setting.procs count (If cond a b one other rest)) (One B))
        (St count locals (If cond a b one other rest) rests waiting h)
    if_true {cond = cond} {a = a} {b = b} {one = one} {other = other} {rest = rest} x y e f g c =
        within (If cond a b one other rest) (omega arith) locals one (rest ∷ rests) (rw (e, f, g) refl) c

    pub if_false : {cond : Cond} {a b : LowSource} {one other rest : Code} (x y : ℕ) → word_of locals a ≡ Some x
        → word_of locals b ≡ Some y → holds cond x y ≡ false
        → Comes B (St count locals other (rest ∷ rests) waiting h)
        → Comes (Pay (step_price walk.setting.procs count (If cond a b one other rest)) (One B))
        (St count locals (If cond a b one other rest) rests waiting h)
    if_false {cond = cond} {a = a} {b = b} {one = one} {other = other} {rest = rest} x y e f g c =
        within (If cond a b one other rest) (omega arith) locals other (rest ∷ rests) (rw (e, f, g) refl) c

    -- an object is built, or the region is out
    pub builds : {d : ℕ} {args : List LowSource} {rest : Code} (header : ℕ) (ws : List ℕ)
        → words_of locals args ≡ Some (header ∷ ws) → length ws ≤ 8 → code_turns rest ≤ 10 → AreSmall (header ∷ ws)
        → IsWhole walk.l objects (Fixed header ws) → nat_lt d count ≡ true
        → ((h' : Heap) → Fi (objects ++ Fixed header ws ∷ []) h'
        → Comes B (St count (set_local d h.alloc locals) rest rests waiting h'))
        → Comes (Pay (step_price walk.setting.procs count (Build d args rest)) (Ask (suc (length ws)) (One B)))
        (St count locals (Build d args rest) rests waiting h)
    builds {d = d} {args = args} {rest = rest} header ws e few turns small whole lt go =
        by_room (le_cases (nat_le (h.alloc + 8 * suc (length ws)) walk.setting.top))
      where
        short : nat_lt (suc (length ws)) 256 ≡ true
        short = grind (arith, few)

        turns_here : code_turns (Build d args rest) ≤ 10
        turns_here = let z = as_long locals args (header ∷ ws) e in omega (arith, few)

        s0 : LowState
        s0 = St count locals (Build d args rest) rests waiting h

        h1 : Heap
        h1 = record {
          memory = store_words (header ∷ ws) h.alloc h.memory;
          alloc = h.alloc + 8 * suc (length ws);
          words = h.words + suc (length ws);
        }

        -- where there is no room
        h2 : Heap
        h2 = record { memory = h.memory; alloc = h.alloc; words = h.words + suc (length ws) }

        refused : LowState
        refused = St count locals rest rests waiting h2

        still : Fi objects h2
        still = record {
          filled = record {
            objects_stand = fine.filled.objects_stand;
            statics_stand = fine.filled.statics_stand;
            ends = fine.filled.ends;
            fits = fine.filled.fits;
            whole = fine.filled.whole;
          };
          beyond = fine.beyond;
          kept = fine.kept;
        }

        more_stand : Holds h1.memory walk.l.region (objects ++ Fixed header ws ∷ [])
        more_stand =
            holds_append h1.memory walk.l.region objects (Fixed header ws ∷ [])
            (holds_below (header ∷ ws) h.alloc h.memory walk.l.region objects (omega (arith, fine.filled.ends))
            fine.filled.objects_stand) (
              subst (λ n. HoldsWords h1.memory n (header ∷ ws)) fine.filled.ends (stored_words (header ∷ ws) h.alloc
                  h.memory
                  small),
              tt,
            )

        by_room : (nat_le (h.alloc + 8 * suc (length ws)) walk.setting.top ≡ true)
            ⊎ (nat_le (h.alloc + 8 * suc (length ws)) walk.setting.top ≡ false)
            → Comes (Pay (step_price walk.setting.procs count (Build d args rest)) (Ask (suc (length ws)) (One B))) s0
        by_room (inl r) =
            goes s0 (St count (set_local d h.alloc locals) rest rests waiting h1) (rw (e, short, r, lt) refl)
            (λ s. here_at count locals rests waiting h objects fine (Build d args rest) turns_here s)
            (λ s. record { room = s.room; left = let z = s.left in omega arith }) refl (omega arith) (go h1 (record {
              filled = record {
                objects_stand = more_stand;
                statics_stand =
                    holds_below (header ∷ ws) h.alloc h.memory walk.l.first walk.l.statics
                    (omega (arith, fine.filled.ends, walk.placed.before)) fine.filled.statics_stand;
                ends = let b = bytes_append objects (Fixed header ws ∷ []) in omega (arith, fine.filled.ends, b);
                fits = grind (arith, r);
                whole = wholes_more walk.l [] objects (Fixed header ws) fine.filled.whole whole;
              };
              beyond = let b = fine.beyond in omega arith;
              kept = λ i lt.
                  bytes_below (header ∷ ws) h.alloc h.memory i (let b = fine.beyond in omega arith) ∙ fine.kept i lt;
            }))
        by_room (inr r) = record {
          steps = 1;
          few = omega arith;
          cheap =
              costs_last walk.reading walk.setting (priced (Pay (step_price walk.setting.procs count
              (Build d args rest)) B)) s0 refused
              (walk.reading (Lacks Region)) (rw (e, short, r) refl) (omega arith);
          reach = λ s.
              by_step N walk.P walk.Q 0 s0 (Stop (walk.reading (Lacks Region)) refused) (rw (e, short, r) refl)
              (here_at count locals rests waiting h objects fine (Build d args rest) turns_here s)
              (subst (λ x. Onward (Stop x refused) walk.P walk.Q) (sym walk.exhausts)
              (walk.calm (record { count = count; locals = locals; code = rest; rests = rests }) waiting h2 objects
              still turns (let z = s.room in omega arith) (let z = s.left in omega arith)));
        }

    -- a procedure is called, or goes on for this one
    pub calls : {d k : ℕ} {args : List LowSource} {rest : Code} (ws : List ℕ) (p : Proc)
        → words_of locals args ≡ Some ws → slice_get walk.setting.procs k ≡ Some p → serves (length ws) p ≡ true
        → Comes B (St p.words (bind 0 ws no_locals) p.code [] (record {
          rest = record { count = count; locals = locals; code = rest; rests = rests };
          answer = d;
        } ∷ waiting) h) → Comes (Pay (call_price d args p) (In B))
        (St count locals (Call d k args rest) rests waiting h)
    calls {d = d} {k = k} {args = args} {rest = rest} ws p e f g c =
        goes (St count locals (Call d k args rest) rests waiting h) (St p.words (bind 0 ws no_locals) p.code []
        (record {
          rest = record { count = count; locals = locals; code = rest; rests = rests };
          answer = d;
        } ∷ waiting) h) (let z = serves_takes (length ws) p g in rw (e, f, z) refl)
        (λ s. here_at count locals rests waiting h objects fine (Call d k args rest) (takes_few locals args ws p e
        (serves_takes (length ws) p g)) s)
        (λ s. one_in p.words (serves_small (length ws) p g) (paid_for s)) refl
        (let y = ap entering_some f in omega (arith, y)) c

    pub tail_calls : {k : ℕ} {args : List LowSource} (ws : List ℕ) (p : Proc) → words_of locals args ≡ Some ws
        → slice_get walk.setting.procs k ≡ Some p → serves (length ws) p ≡ true
        → Comes B (St p.words (bind 0 ws no_locals) p.code [] waiting h)
        → Comes (Pay (leave_price count args p) (One B)) (St count locals (TailCall k args) rests waiting h)
    tail_calls {k = k} {args = args} ws p e f g c =
        goes (St count locals (TailCall k args) rests waiting h) (St p.words (bind 0 ws no_locals) p.code [] waiting h)
        (let z = serves_takes (length ws) p g in rw (e, f, z) refl)
        (λ s. here_at count locals rests waiting h objects fine (TailCall k args) (takes_few locals args ws p e
        (serves_takes (length ws) p g)) s)
        (λ s. one_instead (waiting_room waiting) count p.words (serves_small (length ws) p g) (paid_for s)) refl
        (let y = ap entering_some f in omega (arith, y)) c

  -- a call comes back
  pub comes_back : {B : Budget} {count : ℕ} {locals : Locals} {rests : List Code} {a : LowSource} {d : ℕ}
      {rest : Active} {waiting : List Waiting} {h : Heap} (objects : List Object) (fine : Fi objects h) (w : ℕ)
      → word_of locals a ≡ Some w → nat_lt d rest.count ≡ true
      → Comes B (St rest.count (set_local d w rest.locals) rest.code rest.rests waiting h)
      → Comes (Pay (return_price count a) (Out B))
      (St count locals (Return a) rests (record { rest = rest; answer = d } ∷ waiting) h)
  comes_back {count = count} {locals = locals} {rests = rests} {a = a} {d = d} {rest = rest} {waiting = waiting}
      {h = h} objects fine w e lt c =
      goes (St count locals (Return a) rests (record { rest = rest; answer = d } ∷ waiting) h)
      (St rest.count (set_local d w rest.locals) rest.code rest.rests waiting h) (rw (e, lt) refl)
      (λ s. here_at count locals rests (record { rest = rest; answer = d } ∷ waiting) h objects fine (Return a)
      (omega arith) s) (λ s. one_out count (paid_for s)) refl (omega arith) c
