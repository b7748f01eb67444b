-- Sets at the marks of a closed program's code, by which each item reads only what is held.
use Rattle.std.proofs.Common.{append_assoc, ℕ, zero, suc, ◌+◌, ◌-◌, ◌*◌, ◌<◌, ◌≤◌, ◌≡◌, ⊎_elim}
use Rattle.std.proofs.Common.{true, false, Bool, List, [], ◌∷◌, ◌++◌, Option, Some, None, refl, sym, ◌∙◌, ap, subst}
use Rattle.std.proofs.Common.{arith}
use Rattle.std.specs.Prelude.{◌==◌, ◌&&◌, ◌||◌, nat_lt, nat_le, length, slice_get, if◌then◌else◌}
use Rattle.grift_base.specs.declared.environment.TheConstants.{END_CALL, REGION_OUT_CALL}
use Rattle.machine_words.specs.declared.conditions.Cond.{Cond}
use Rattle.machine_words.specs.declared.conditions.Cond.TheVariants.{Ltu}
use Rattle.low_ir.specs.declared.code.WordOp.TheVariants.{Add, Sub, Sll, Srl}
use Rattle.low_ir.specs.declared.code.LowSource.{LowSource}
use Rattle.low_ir.specs.declared.code.LowSource.TheVariants.{Word, Number}
use Rattle.low_ir.specs.Procedures.{Code, Done, Set, Compute as LowCompute, Load as LowLoad, Store as LowStore}
use Rattle.low_ir.specs.Procedures.{CodeOf as LowCodeOf, Build, Request, Take, Environment as LowEnvironment}
use Rattle.low_ir.specs.Procedures.{Call as LowCall, CallAt as LowCallAt, If, Return as LowReturn}
use Rattle.low_ir.specs.Procedures.{TailCall as LowTailCall, TailCallAt as LowTailCallAt, Proc}
use Rattle.low_ir.specs.Closed.{all_words, go_if, meet, then_known, behind, is_there, proc_closed, each_closed}
use Rattle.low_ir.specs.Closed.{takes_none, is_closed, fits, reads as code_reads, names_fit, is_read, are_read}
use Rattle.rv_select.specs.declared.convention.TheConstants.{FIRST_SCRATCH, SECOND_SCRATCH, THIRD_SCRATCH}
use Rattle.rv_select.specs.declared.convention.TheConstants.{FIRST_ARGUMENT, SECOND_ARGUMENT, ANSWER, CALL_NUMBER}
use Rattle.rv_select.specs.declared.convention.TheConstants.{ALLOCATION, REGION_END}
use Rattle.rv_select.specs.declared.code.VReg.{VReg}
use Rattle.rv_select.specs.declared.code.VReg.TheVariants.{Real, Virtual}
use Rattle.rv_select.specs.declared.code.VirtualItem.{VirtualItem}
use Rattle.rv_select.specs.declared.code.VirtualItem.TheVariants.{Constant, Move, Compute, ComputeWith, Load, Store}
use Rattle.rv_select.specs.declared.code.VirtualItem.TheVariants.{CodeOf, Mark, Procedure, Jump, Branch, Call, CallAt}
use Rattle.rv_select.specs.declared.code.VirtualItem.TheVariants.{TailCall, TailCallAt, Return, Environment}
use Rattle.rv_select.specs.Run.{is_fixed}
use Rattle.rv_select.specs.Holding.{IsHolding, writes, Among, handed_on}
use Rattle.rv_select.specs.Select.{put_item, source_reg, source_items, is_small, number_of, second_items, compute_item}
use Rattle.rv_select.specs.Select.{args_items, params_items, stores_items, marks_in, code_items, out_items, body_items}
use Rattle.rv_select.specs.Select.{procs_items, answer_items, select_items}
use Rattle.rv_select.proofs.Closedness.{closed_parts}
use Rattle.rv_select.proofs.Walking.{own, walk, walked, is_reg, among, is_spared, before, after, ReadsHeld, NextOk}
use Rattle.rv_select.proofs.Walking.{Good, and_split, or_split}

-- the words of a procedure that are set
abbrev pub Known : Type 0
Known = ℕ → Bool

or_right : (c d : Bool) → d ≡ true → (c || d) ≡ true
or_right true d h = refl
or_right false d h = h

or_left : (c d : Bool) → c ≡ true → (c || d) ≡ true
or_left true d h = refl
or_left false d h = absurd (let z : ⊥ = cc in z)

and_both : (c d : Bool) → c ≡ true → d ≡ true → (c && d) ≡ true
and_both true true h k = refl
and_both true false h k = k
and_both false d h k = h

equal_self : (n : ℕ) → (n == n) ≡ true
equal_self n = grind arith

is_self : (a : VReg) → is_reg a a ≡ true
is_self (Real r) = equal_self r
is_self (Virtual v) = equal_self v

abbrev also : ℕ → Known → ℕ → Bool
also d known i = (i == d) || known i

abbrev both : Known → Known → ℕ → Bool
both a b i = a i && b i

-- a source has a word
abbrev is_known : Known → LowSource → Bool
is_known known (Word i) = known i
is_known known (Number n) = true

abbrev are_known : Known → List LowSource → Bool
are_known known [] = true
are_known known (a ∷ args) = is_known known a && are_known known args

read_known : (n : ℕ) (known : ℕ → Bool) (a : LowSource) → is_read all_words n known a ≡ true → is_known known a ≡ true
read_known n known (Word i) h = (and_split (nat_lt i n) (known i) h).1
read_known n known (Number m) h = refl

read_all : (n : ℕ) (known : ℕ → Bool) (args : List LowSource) → are_read all_words n known args ≡ true
    → are_known known args ≡ true
read_all n known [] h = refl
read_all n known (a ∷ args) h =
    let k = and_split (is_read all_words n known a) (are_read all_words n known args) h in
    and_both (is_known known a) (are_known known args) (read_known n known a k.0) (read_all n known args k.1)

-- what is read first, and what is read then
read_first : (n : ℕ) (known : ℕ → Bool) (a : LowSource) (args : List LowSource)
    → are_read all_words n known (a ∷ args) ≡ true → is_known known a ≡ true
read_first n known a args h =
    read_known n known a (and_split (is_read all_words n known a) (are_read all_words n known args) h).0

read_then : (n : ℕ) (known : ℕ → Bool) (a : LowSource) (args : List LowSource)
    → are_read all_words n known (a ∷ args) ≡ true → are_read all_words n known args ≡ true
read_then n known a args h = (and_split (is_read all_words n known a) (are_read all_words n known args) h).1

-- a set of registers
abbrev pub Held : Type 0
Held = VReg → Bool

abbrev Up : Held → Held → Type 0
Up L K = (a : VReg) → L a ≡ true → K a ≡ true

-- a register more
abbrev with_reg : VReg → Held → Held
with_reg rd L a = among a (rd ∷ []) || L a

up_reg : (rd : VReg) (L : Held) → Up L (with_reg rd L)
up_reg rd L a h = or_right (among a (rd ∷ [])) (L a) h

reg_there : (rd : VReg) (L : Held) → with_reg rd L rd ≡ true
reg_there rd L = or_left (among rd (rd ∷ [])) (L rd) (or_left (is_reg rd rd) false (is_self rd))

-- the fixed registers, and a procedure's words that are set
abbrev pub lift : ℕ → Known → Held
lift first known (Real r) = is_fixed r
lift first known (Virtual v) = nat_le first v && known (v - first)

-- it has the fixed registers and the words that are known
abbrev pub Has : Held → ℕ → Known → Type 0
Has L first known = ((r : ℕ) → is_fixed r ≡ true → L (Real r) ≡ true) × ((i : ℕ) → known i ≡ true
    → L (Virtual (first + i)) ≡ true)

lifted : (L : Held) (first : ℕ) (known : Known) → Has L first known → (a : VReg) → lift first known a ≡ true
    → L a ≡ true
lifted L first known h (Real r) e = h.0 r e
lifted L first known h (Virtual v) e =
    let k = and_split (nat_le first v) (known (v - first)) e in
    let le = k.0 in
    let same : first + (v - first) ≡ v = grind arith in
    subst (λ x. L (Virtual x) ≡ true) same (h.1 (v - first) k.1)

lift_has : (L : Held) (first : ℕ) (known : Known) → ((a : VReg) → L a ≡ lift first known a) → Has L first known
lift_has L first known e = (
  λ r h. e (Real r) ∙ h,
  λ i h.
      let le : nat_le first (first + i) ≡ true = grind arith in
      let same : first + i - first ≡ i = omega arith in
      e (Virtual (first + i)) ∙ and_both (nat_le first (first + i)) (known (first + i - first)) le (ap known same ∙ h),
)

has_up : (L K : Held) (first : ℕ) (known : Known) → Up L K → Has L first known → Has K first known
has_up L K first known u h = (λ r e. u (Real r) (h.0 r e), λ i e. u (Virtual (first + i)) (h.1 i e))

has_also : (L : Held) (first d : ℕ) (known : Known) → Has L first known → L (Virtual (first + d)) ≡ true
    → Has L first (also d known)
has_also L first d known h k = (
  h.0,
  λ i e. ⊎_elim (λ s. let same : i ≡ d = grind arith in
      subst (λ x. L (Virtual (first + x)) ≡ true) (sym same) k) (λ s. h.1 i s.1) (or_split (i == d) (known i) e),
)

go_split : (b : Bool) (o : Option Known) (k : Known) → go_if b o ≡ Some k → (b ≡ true) × (o ≡ Some k)
go_split true o k e = (refl, e)
go_split false o k e = absurd (let z : ⊥ = cc in z)

-- what is read is there, what is named fits, and what is known behind
parted : (procs : List Proc) (n : ℕ) (known : ℕ → Bool) (c : Code) (o : Option Known) (k : ℕ → Bool)
    → go_if (fits all_words procs n known c) o ≡ Some k → (are_read all_words n known (code_reads c) ≡ true)
    × (o ≡ Some k)
parted procs n known c o k e =
    let g = go_split (fits all_words procs n known c) o k e in
    ((and_split (are_read all_words n known (code_reads c)) (names_fit procs n c) g.0).0, g.1)

some_known : (a b : Known) → Some a ≡ Some b → a ≡ b
some_known a b e = cc

module _ (M : ℕ → Held) where
  -- the items read what is held, from a set that may come before them
  pub record Ok (L : Held) (xs : List VirtualItem) : Type 0 where
    pub next : NextOk M L xs
    pub good : Good M L xs

  -- items that write registers or leave, and name no mark
  abbrev IsPlain : VirtualItem → Type 0
  IsPlain (Mark m) = ⊥
  IsPlain (Procedure k first count) = ⊥
  IsPlain (Call k n) = ⊥
  IsPlain (CallAt f n) = ⊥
  IsPlain (Jump m) = ⊥
  IsPlain (Branch c a b m) = ⊥
  IsPlain x = Unit {0}

  plain_ok : (x : VirtualItem) (L : Held) (xs : List VirtualItem) → IsPlain x → ReadsHeld x L
      → Ok (λ a. among a (writes x) || L a) xs → Ok L (x ∷ xs)
  plain_ok (Mark m) L xs p r k = absurd p
  plain_ok (Procedure i first count) L xs p r k = absurd p
  plain_ok (Call i n) L xs p r k = absurd p
  plain_ok (CallAt f n) L xs p r k = absurd p
  plain_ok (Jump m) L xs p r k = absurd p
  plain_ok (Branch c a b m) L xs p r k = absurd p
  plain_ok x L xs p r k = record {
    next = λ a h. h;
    good = (
      r,
      λ f. k.next,
      λ m a e h. absurd (let z : ⊥ = cc in z),
      k.good,
    );
  }

  branch_ok : (c : Cond) (a b : VReg) (m : ℕ) (L : Held) (xs : List VirtualItem) → L a ≡ true → L b ≡ true
      → ((z : VReg) → M m z ≡ true → L z ≡ true) → Ok L xs → Ok L (Branch c a b m ∷ xs)
  branch_ok c a b m L xs ha hb t k =
      record {
        next = λ z h. h;
        good = (
          λ z h. ⊎_elim (λ e. subst (λ y. L y ≡ true) e ha) (λ i. ⊎_elim (λ e. subst (λ y. L y ≡ true) e hb)
              (λ e. absurd e) i) h,
          λ f. k.next,
          λ q z e h. t z (let same : q ≡ m = cc in subst (λ y. M y z ≡ true) same h),
          k.good,
        );
      }

  jump_ok : (m : ℕ) (L : Held) (xs : List VirtualItem) → ((z : VReg) → M m z ≡ true → L z ≡ true) → Good M L xs
      → Ok L (Jump m ∷ xs)
  jump_ok m L xs t k =
      record {
        next = λ z h. h;
        good = (
          λ z h. absurd h,
          λ f. absurd (let z : ⊥ = cc in z),
          λ q z e h. t z (let same : q ≡ m = cc in subst (λ y. M y z ≡ true) same h),
          k,
        );
      }

  mark_ok : (m : ℕ) (L : Held) (xs : List VirtualItem) → ((z : VReg) → M m z ≡ true → L z ≡ true) → Ok (M m) xs
      → Ok L (Mark m ∷ xs)
  mark_ok m L xs t k = record {
    next = t;
    good = (
      λ z h. absurd h,
      λ f. k.next,
      λ q z e h. absurd (let y : ⊥ = cc in y),
      k.good,
    );
  }

  one_read : (L : Held) (a z : VReg) → L a ≡ true → Among z (a ∷ []) → L z ≡ true
  one_read L a z h i = ⊎_elim (λ e. subst (λ y. L y ≡ true) e h) (λ e. absurd e) i

  two_read : (L : Held) (a b z : VReg) → L a ≡ true → L b ≡ true → Among z (a ∷ b ∷ []) → L z ≡ true
  two_read L a b z h k i = ⊎_elim (λ e. subst (λ y. L y ≡ true) e h) (λ j. one_read L b z k j) i

  module _ (first out : ℕ) where
    put_ok : (rd : VReg) (a : LowSource) (known : Known) (L : Held) (xs : List VirtualItem) → Has L first known
        → is_known known a ≡ true → Ok (with_reg rd L) xs → Ok L (put_item first rd a ∷ xs)
    put_ok rd (Word i) known L xs h e k =
        plain_ok (Move rd (Virtual (first + i))) L xs tt (λ z r. one_read L (Virtual (first + i)) z (h.1 i e) r) k
    put_ok rd (Number n) known L xs h e k = plain_ok (Constant rd n) L xs tt (λ z r. absurd r) k

    source_ok : (r : ℕ) (a : LowSource) (known : Known) (L : Held) (xs : List VirtualItem) → Has L first known
        → is_known known a ≡ true → ((K : Held) → Up L K → K (source_reg first r a) ≡ true → Ok K xs)
        → Ok L (source_items r a ++ xs)
    source_ok r (Word i) known L xs h e go = go L (λ z y. y) (h.1 i e)
    source_ok r (Number zero) known L xs h e go = go L (λ z y. y) (h.0 0 refl)
    source_ok r (Number (suc n)) known L xs h e go =
        plain_ok (Constant (Real r) (suc n)) L xs tt (λ z y. absurd y)
        (go (with_reg (Real r) L) (up_reg (Real r) L) (reg_there (Real r) L))

    args_ok : (args : List LowSource) (from : ℕ) (known : Known) (L : Held) (xs : List VirtualItem)
        → Has L first known → are_known known args ≡ true → ((K : Held) → Up L K
        → ((i : ℕ) → from ≤ i → i < from + length args → K (Real (FIRST_ARGUMENT + i)) ≡ true) → Ok K xs)
        → Ok L (args_items first from args ++ xs)
    args_ok [] from known L xs h e go = go L (λ z y. y) (λ i p q. absurd (let z : ⊥ = omega (arith, p, q) in z))
    args_ok (a ∷ args) from known L xs h e go =
        let k = and_split (is_known known a) (are_known known args) e in
        let rd : VReg = Real (FIRST_ARGUMENT + from) in
        let L1 : Held = with_reg rd L in
        put_ok rd a known L (args_items first (suc from) args ++ xs) h k.0
        (args_ok args (suc from) known L1 xs (has_up L L1 first known (up_reg rd L) h) k.1 (λ K u has.
        go K (λ z y. u z (up_reg rd L z y)) (λ i p q. pick K u has i p q (i == from) refl)))
      where
        pick : (K : Held) → Up (with_reg (Real (FIRST_ARGUMENT + from)) L) K
            → ((i : ℕ) → suc from ≤ i → i < suc from + length args
            → K (Real (FIRST_ARGUMENT + i)) ≡ true) → (i : ℕ) → from ≤ i → i < from + suc (length args) → (c : Bool)
            → (i == from) ≡ c → K (Real (FIRST_ARGUMENT + i)) ≡ true
        pick K u has i p q true e =
            let same : i ≡ from = grind arith in subst (λ x. K (Real (FIRST_ARGUMENT + x)) ≡ true) (sym same)
            (u (Real (FIRST_ARGUMENT + from)) (reg_there (Real (FIRST_ARGUMENT + from)) L))
        pick K u has i p q false e = has i (grind arith) (omega (arith, q))

    handed_held : (L : Held) (n from : ℕ) → ((i : ℕ) → from ≤ i → i < from + n → L (Real (FIRST_ARGUMENT + i)) ≡ true)
        → (z : VReg)
        → Among z (handed_on from n) → L z ≡ true
    handed_held L zero from has z r = absurd r
    handed_held L (suc n) from has z r =
        ⊎_elim (λ e. subst (λ y. L y ≡ true) e (has from (omega arith) (omega arith)))
        (λ i. handed_held L n (suc from) (λ j p q. has j (omega (arith, p)) (omega (arith, q))) z i) r

    abbrev behind_call : Held → Held
    behind_call L a = is_reg (Real ANSWER) a || (L a && is_spared a)

    call_has : (L : Held) (known : Known) → Has L first known → Has (behind_call L) first known
    call_has L known h = (
      λ r e. or_right (ANSWER == r) (L (Real r) && is_fixed r) (and_both (L (Real r)) (is_fixed r) (h.0 r e) e),
      λ i e. and_both (L (Virtual (first + i))) true (h.1 i e) refl,
    )

    call_ok : (k n : ℕ) (L : Held) (xs : List VirtualItem)
        → ((i : ℕ) → 0 ≤ i → i < 0 + n → L (Real (FIRST_ARGUMENT + i)) ≡ true)
        → Ok (behind_call L) xs → Ok L (Call k n ∷ xs)
    call_ok k n L xs has o = record {
      next = λ a h. h;
      good = (
        λ z r. handed_held L n 0 has z r,
        λ f. o.next,
        λ m a e h. absurd (let z : ⊥ = cc in z),
        o.good,
      );
    }

    call_at_ok : (f : VReg) (n : ℕ) (L : Held) (xs : List VirtualItem) → L f ≡ true
        → ((i : ℕ) → 0 ≤ i → i < 0 + n → L (Real (FIRST_ARGUMENT + i)) ≡ true) → Ok (behind_call L) xs
        → Ok L (CallAt f n ∷ xs)
    call_at_ok f n L xs hf has o =
        record {
          next = λ a h. h;
          good = (
            λ z r. ⊎_elim (λ e. subst (λ y. L y ≡ true) e hf) (λ i. handed_held L n 0 has z i) r,
            λ g. o.next,
            λ m a e h. absurd (let z : ⊥ = cc in z),
            o.good,
          );
        }

    stores_ok : (args : List LowSource) (offset : ℕ) (known : Known) (L : Held) (xs : List VirtualItem)
        → Has L first known → are_known known args ≡ true → ((K : Held) → Up L K → Ok K xs)
        → Ok L (stores_items first offset args ++ xs)
    stores_ok [] offset known L xs h e go = go L (λ z y. y)
    stores_ok (a ∷ args) offset known L xs h e go =
        let k = and_split (is_known known a) (are_known known args) e in
        let later : List VirtualItem = stores_items first (offset + 8) args in
        let item : VirtualItem = Store (source_reg first FIRST_SCRATCH a) (Real ALLOCATION) offset in
        subst (Ok L) (sym (append_assoc (source_items FIRST_SCRATCH a) (item ∷ later) xs))
        (source_ok FIRST_SCRATCH a known L (item ∷ (later ++ xs)) h k.0 (λ K u s.
        plain_ok item K (later ++ xs) tt (λ z r. two_read K (Real ALLOCATION) (source_reg first FIRST_SCRATCH a) z
        (u (Real ALLOCATION) (h.0 ALLOCATION refl)) s r) (stores_ok args (offset + 8) known K xs
        (has_up L K first known u h) k.1
        (λ J v. go J (λ z y. v z (u z y))))))

-- ---- code

module _ (M : ℕ → Held) (procs : List Proc) (n first out : ℕ) (fixed_out : (a : VReg) → M out a ≡ true
    → lift first (λ i. false) a ≡ true) where
  -- the sets at a code's marks are those of its words
  abbrev pub Sets : ℕ → Known → Code → Type 0
  Sets m known Done = Unit {0}
  Sets m known (Set d a rest) = Sets m (also d known) rest
  Sets m known (LowCompute op d a b rest) = Sets m (also d known) rest
  Sets m known (LowLoad d a offset rest) = Sets m (also d known) rest
  Sets m known (LowStore b a offset rest) = Sets m known rest
  Sets m known (LowCodeOf d k rest) = Sets m (also d known) rest
  Sets m known (Build d args rest) = Sets m (also d known) rest
  Sets m known (Request d a rest) = Sets m (also d known) rest
  Sets m known (Take a rest) = Sets m known rest
  Sets m known (LowEnvironment number a b d e rest) = Sets m (also e (also d known)) rest
  Sets m known (LowCall d k args rest) = Sets m (also d known) rest
  Sets m known (LowCallAt d f args rest) = Sets m (also d known) rest
  Sets m known (If cond a b one other rest) =
      ((z : VReg) → M m z ≡ lift first known z) × Sets (suc (suc m)) known other
      × Sets (suc (suc m) + marks_in other) known one × ((k : Known)
      → meet all_words (behind all_words procs n known one) (behind all_words procs n known other) ≡ Some k
      → ((z : VReg) → M (suc m) z ≡ lift first k z) × Sets (suc (suc m) + marks_in other + marks_in one) k rest)
  Sets m known (LowReturn a) = Unit {0}
  Sets m known (LowTailCall k args) = Unit {0}
  Sets m known (LowTailCallAt f args) = Unit {0}

  out_held : (L : Held) (known : Known) → Has L first known → (z : VReg) → M out z ≡ true → L z ≡ true
  out_held L known h z e = lifted L first (λ i. false) (h.0, λ i k. absurd (let y : ⊥ = cc in y)) z (fixed_out z e)

  meet_split : (a b : Option Known) (k : Known) → meet all_words a b ≡ Some k → (x : Known)
      × (y : Known) × (a ≡ Some x) × (b ≡ Some y) × (both x y ≡ k)
  meet_split None b k e = absurd (let z : ⊥ = cc in z)
  meet_split (Some a) None k e = absurd (let z : ⊥ = cc in z)
  meet_split (Some a) (Some b) k e = (a, b, refl, refl, some_known (both a b) k e)

  then_split : (o : Option Known) (go : Known → Option Known) (k : Known) → then_known o go ≡ Some k
      → (x : Known) × (o ≡ Some x) × (go x ≡ Some k)
  then_split None go k e = absurd (let z : ⊥ = cc in z)
  then_split (Some x) go k e = (x, refl, e)

  has_left : (L : Held) (x y : Known) → Has L first x → Has L first (both x y)
  has_left L x y h = (h.0, λ i e. h.1 i (and_split (x i) (y i) e).0)

  has_right : (L : Held) (x y : Known) → Has L first y → Has L first (both x y)
  has_right L x y h = (h.0, λ i e. h.1 i (and_split (x i) (y i) e).1)

  -- a word is set by an item
  abbrev Then : Known → List VirtualItem → Type 0
  Then known ys = (K : Held) → Has K first known → Ok M K ys

  set_has : (L : Held) (known : Known) (d : ℕ) → Has L first known
      → Has (with_reg (Virtual (first + d)) L) first (also d known)
  set_has L known d h =
      let K : Held = with_reg (Virtual (first + d)) L in
      has_also K first d known (has_up L K first known (up_reg (Virtual (first + d)) L) h)
      (reg_there (Virtual (first + d)) L)

  -- code of which something is known behind it reads what is held
  pub good_code : (c : Code) (m : ℕ) (known k : Known) (L : Held) (ys : List VirtualItem) → Has L first known
      → behind all_words procs n known c ≡ Some k → Sets m known c → Then k ys → Ok M L (code_items first out m c ++ ys)
  good_code Done m known k L ys h e s go = go L (let same : known ≡ k = cc in subst (Has L first) same h)
  good_code (Set d a rest) m known k L ys h e s go =
      let g = parted procs n known (Set d a rest) _ k e in
      let kb : is_known known a ≡ true = read_first n known a [] g.0 in
      put_ok M first out (Virtual (first + d)) a known L (code_items first out m rest
      ++ ys) h kb (good_code rest m (also d known) k _ ys (set_has L known d h) g.1 s go)
  good_code (LowCompute op d a b rest) m known k L ys h e s go =
      let g = parted procs n known (LowCompute op d a b rest) _ k e in
      let ka : is_known known a ≡ true = read_first n known a (b ∷ []) g.0 in
      let kb : is_known known b ≡ true = read_first n known b [] (read_then n known a (b ∷ []) g.0) in
      let code : List VirtualItem = code_items first out m rest in
      subst (Ok M L) (sym (append_assoc (source_items FIRST_SCRATCH a) (second_items (is_small op b) b
      ++ (compute_item (is_small op b) first op (Virtual (first + d)) a b ∷ code)) ys))
      (source_ok M first out FIRST_SCRATCH a known L _ h ka (λ K u v.
      computed (is_small op b) K (has_up L K first known u h) v kb (λ J w.
      good_code rest m (also d known) k _ ys (set_has J known d w) g.1 s go)))
    where
      computed : (c : Bool) (K : Held) → Has K first known → K (source_reg first FIRST_SCRATCH a) ≡ true
          → is_known known b ≡ true
          → ((J : Held) → Has J first known → Ok M (with_reg (Virtual (first + d)) J) (code_items first out m rest
          ++ ys)) → Ok M K ((second_items c b ++ (compute_item c first op (Virtual (first + d)) a b
          ∷ code_items first out m rest)) ++ ys)
      computed true K hk va kb next =
          plain_ok M (ComputeWith op (Virtual (first + d)) (source_reg first FIRST_SCRATCH a) (number_of b)) K _ tt
          (λ z r. one_read M K (source_reg first FIRST_SCRATCH a) z va r) (next K hk)
      computed false K hk va kb next =
          let item : VirtualItem = Compute op (Virtual (first + d)) (source_reg first FIRST_SCRATCH a)
          (source_reg first SECOND_SCRATCH b) in
          subst (Ok M K) (sym (append_assoc (source_items SECOND_SCRATCH b) (item ∷ code_items first out m rest) ys))
          (source_ok M first out SECOND_SCRATCH b known K _ hk kb (λ J w vb.
          plain_ok M item J _ tt (λ z r.
          two_read M J (source_reg first FIRST_SCRATCH a) (source_reg first SECOND_SCRATCH b) z (w _ va) vb r)
          (next J (has_up K J first known w hk))))
  good_code (LowLoad d a offset rest) m known k L ys h e s go =
      let g = parted procs n known (LowLoad d a offset rest) _ k e in
      let ka : is_known known a ≡ true = read_first n known a [] g.0 in
      let item : VirtualItem = Load (Virtual (first + d)) (source_reg first FIRST_SCRATCH a) offset in
      subst (Ok M L) (sym (append_assoc (source_items FIRST_SCRATCH a) (item ∷ code_items first out m rest) ys))
      (source_ok M first out FIRST_SCRATCH a known L _ h ka (λ K u v.
      plain_ok M item K _ tt (λ z r. one_read M K (source_reg first FIRST_SCRATCH a) z v r)
      (good_code rest m (also d known) k _ ys (set_has K known d (has_up L K first known u h)) g.1 s go)))
  good_code (LowStore b a offset rest) m known k L ys h e s go =
      let g = parted procs n known (LowStore b a offset rest) _ k e in
      let kb : is_known known b ≡ true = read_first n known b (a ∷ []) g.0 in
      let ka : is_known known a ≡ true = read_first n known a [] (read_then n known b (a ∷ []) g.0) in
      let item : VirtualItem = Store (source_reg first SECOND_SCRATCH b) (source_reg first FIRST_SCRATCH a) offset in
      let code : List VirtualItem = code_items first out m rest in
      subst (Ok M L) (sym (append_assoc (source_items FIRST_SCRATCH a) (source_items SECOND_SCRATCH b
      ++ (item ∷ code)) ys))
      (source_ok M first out FIRST_SCRATCH a known L _ h ka (λ K u va.
      subst (Ok M K) (sym (append_assoc (source_items SECOND_SCRATCH b) (item ∷ code) ys))
      (source_ok M first out SECOND_SCRATCH b known K _ (has_up L K first known u h) kb (λ J w vb.
      plain_ok M item J _ tt (λ z r.
      two_read M J (source_reg first FIRST_SCRATCH a) (source_reg first SECOND_SCRATCH b) z (w _ va) vb r)
      (good_code rest m known k _ ys (has_up K J first known w (has_up L K first known u h)) g.1 s go)))))
  good_code (LowCodeOf d i rest) m known k L ys h e s go =
      let g = parted procs n known (LowCodeOf d i rest) _ k e in
      plain_ok M (CodeOf (Virtual (first + d)) i) L _ tt (λ z r. absurd r)
      (good_code rest m (also d known) k _ ys (set_has L known d h) g.1 s go)
  good_code (Build d args rest) m known k L ys h e s go =
      let g = parted procs n known (Build d args rest) _ k e in
      let ka : are_known known args ≡ true = read_all n known args g.0 in
      let L1 : Held = with_reg (Real FIRST_SCRATCH) L in
      let L2 : Held = with_reg (Real SECOND_SCRATCH) L1 in
      let u2 : Up L L2 = (λ z y. up_reg (Real SECOND_SCRATCH) L1 z (up_reg (Real FIRST_SCRATCH) L z y)) in
      let h2 : Has L2 first known = has_up L L2 first known u2 h in
      let code : List VirtualItem = code_items first out m rest in
      let tail : List VirtualItem = Move (Virtual (first + d)) (Real ALLOCATION)
      ∷ Compute Add (Real ALLOCATION) (Real ALLOCATION) (Real SECOND_SCRATCH)
      ∷ code in
      plain_ok M (Compute Sub (Real FIRST_SCRATCH) (Real REGION_END) (Real ALLOCATION)) L _ tt (λ z r.
      two_read M L (Real REGION_END) (Real ALLOCATION) z (h.0 REGION_END refl) (h.0 ALLOCATION refl) r) (
      plain_ok M (Constant (Real SECOND_SCRATCH) (8 * length args)) L1 _ tt (λ z r. absurd r) (
      branch_ok M Ltu (Real FIRST_SCRATCH) (Real SECOND_SCRATCH) out L2 _
      (up_reg (Real SECOND_SCRATCH) L1 (Real FIRST_SCRATCH) (reg_there (Real FIRST_SCRATCH) L))
      (reg_there (Real SECOND_SCRATCH) L1) (out_held L2 known h2) (
      subst (Ok M L2) (sym (append_assoc (stores_items first 0 args) tail ys))
      (stores_ok M first out args 0 known L2 (tail ++ ys) h2 ka (λ K u.
      let hk : Has K first known = has_up L2 K first known u h2 in
      let K1 : Held = with_reg (Virtual (first + d)) K in
      let six : K1 (Real SECOND_SCRATCH) ≡ true = up_reg (Virtual (first + d)) K (Real SECOND_SCRATCH)
      (u (Real SECOND_SCRATCH) (reg_there (Real SECOND_SCRATCH) L1)) in
      let h3 = set_has K known d hk in
      plain_ok M (Move (Virtual (first + d)) (Real ALLOCATION)) K _ tt
      (λ z r. one_read M K (Real ALLOCATION) z (hk.0 ALLOCATION refl) r) (
      plain_ok M (Compute Add (Real ALLOCATION) (Real ALLOCATION) (Real SECOND_SCRATCH)) K1 _ tt (λ z r.
      two_read M K1 (Real ALLOCATION) (Real SECOND_SCRATCH) z (h3.0 ALLOCATION refl) six r) (
      good_code rest m (also d known) k _ ys (has_up K1 (with_reg (Real ALLOCATION) K1) first (also d known)
      (up_reg (Real ALLOCATION) K1) h3) g.1 s go)))))))
  good_code (Request d a rest) m known k L ys h e s go =
      let g = parted procs n known (Request d a rest) _ k e in
      let ka : is_known known a ≡ true = read_first n known a [] g.0 in
      let code : List VirtualItem = code_items first out m rest in
      let reg : VReg = source_reg first THIRD_SCRATCH a in
      let tail : List VirtualItem = Compute Sub (Real FIRST_SCRATCH) (Real REGION_END) (Real ALLOCATION)
      ∷ ComputeWith Srl (Real FIRST_SCRATCH) (Real FIRST_SCRATCH) 3
      ∷ Branch Ltu (Real FIRST_SCRATCH) reg out ∷ Move (Virtual (first + d)) (Real ALLOCATION) ∷ code in
      subst (Ok M L) (sym (append_assoc (source_items THIRD_SCRATCH a) tail ys))
      (source_ok M first out THIRD_SCRATCH a known L _ h ka (λ K u v.
      let hk : Has K first known = has_up L K first known u h in
      let K1 : Held = with_reg (Real FIRST_SCRATCH) K in
      let K2 : Held = with_reg (Real FIRST_SCRATCH) K1 in
      let h2 : Has K2 first known =
      has_up K K2 first known (λ z y. up_reg (Real FIRST_SCRATCH) K1 z (up_reg (Real FIRST_SCRATCH) K z y)) hk in
      plain_ok M (Compute Sub (Real FIRST_SCRATCH) (Real REGION_END) (Real ALLOCATION)) K _ tt (λ z r.
      two_read M K (Real REGION_END) (Real ALLOCATION) z (hk.0 REGION_END refl) (hk.0 ALLOCATION refl) r) (
      plain_ok M (ComputeWith Srl (Real FIRST_SCRATCH) (Real FIRST_SCRATCH) 3) K1 _ tt (λ z r.
      one_read M K1 (Real FIRST_SCRATCH) z (reg_there (Real FIRST_SCRATCH) K) r) (
      branch_ok M Ltu (Real FIRST_SCRATCH) reg out K2 _ (reg_there (Real FIRST_SCRATCH) K1)
      (up_reg (Real FIRST_SCRATCH) K1 reg (up_reg (Real FIRST_SCRATCH) K reg v))
      (out_held K2 known h2) (
      plain_ok M (Move (Virtual (first + d)) (Real ALLOCATION)) K2 _ tt
      (λ z r. one_read M K2 (Real ALLOCATION) z (h2.0 ALLOCATION refl) r) (
      good_code rest m (also d known) k _ ys (set_has K2 known d h2) g.1 s go))))))
  good_code (Take a rest) m known k L ys h e s go =
      let g = parted procs n known (Take a rest) _ k e in
      let ka : is_known known a ≡ true = read_first n known a [] g.0 in
      let code : List VirtualItem = code_items first out m rest in
      let reg : VReg = source_reg first THIRD_SCRATCH a in
      let tail : List VirtualItem = ComputeWith Sll (Real FIRST_SCRATCH) reg 3
      ∷ Compute Add (Real ALLOCATION) (Real ALLOCATION) (Real FIRST_SCRATCH) ∷ code in
      subst (Ok M L) (sym (append_assoc (source_items THIRD_SCRATCH a) tail ys))
      (source_ok M first out THIRD_SCRATCH a known L _ h ka (λ K u v.
      let hk : Has K first known = has_up L K first known u h in
      let K1 : Held = with_reg (Real FIRST_SCRATCH) K in
      let h1 : Has K1 first known = has_up K K1 first known (up_reg (Real FIRST_SCRATCH) K) hk in
      plain_ok M (ComputeWith Sll (Real FIRST_SCRATCH) reg 3) K _ tt (λ z r. one_read M K reg z v r) (
      plain_ok M (Compute Add (Real ALLOCATION) (Real ALLOCATION) (Real FIRST_SCRATCH)) K1 _ tt (λ z r.
      two_read M K1 (Real ALLOCATION) (Real FIRST_SCRATCH) z (h1.0 ALLOCATION refl)
      (reg_there (Real FIRST_SCRATCH) K) r) (
      good_code rest m known k _ ys
      (has_up K1 (with_reg (Real ALLOCATION) K1) first known (up_reg (Real ALLOCATION) K1) h1) g.1 s
      go))))
  good_code (LowEnvironment number a b d e rest) m known k L ys h q s go =
      let g = parted procs n known (LowEnvironment number a b d e rest) _ k q in
      let ka : is_known known a ≡ true = read_first n known a (b ∷ []) g.0 in
      let kb : is_known known b ≡ true = read_first n known b [] (read_then n known a (b ∷ []) g.0) in
      let L1 : Held = with_reg (Real FIRST_ARGUMENT) L in
      let L2 : Held = with_reg (Real SECOND_ARGUMENT) L1 in
      let L3 : Held = with_reg (Real CALL_NUMBER) L2 in
      let L4 : Held = (λ z. among z (Real FIRST_ARGUMENT ∷ Real SECOND_ARGUMENT ∷ []) || L3 z) in
      let h1 : Has L1 first known = has_up L L1 first known (up_reg (Real FIRST_ARGUMENT) L) h in
      let h2 : Has L2 first known = has_up L1 L2 first known (up_reg (Real SECOND_ARGUMENT) L1) h1 in
      let h3 : Has L3 first known = has_up L2 L3 first known (up_reg (Real CALL_NUMBER) L2) h2 in
      let h4 : Has L4 first known =
      has_up L3 L4 first known (λ z y. or_right (among z (Real FIRST_ARGUMENT ∷ Real SECOND_ARGUMENT ∷ [])) (L3 z) y)
      h3 in
      let L5 : Held = with_reg (Virtual (first + d)) L4 in
      put_ok M first out (Real FIRST_ARGUMENT) a known L _ h ka (
      put_ok M first out (Real SECOND_ARGUMENT) b known L1 _ h1 kb (
      plain_ok M (Constant (Real CALL_NUMBER) number) L2 _ tt (λ z y. absurd y) (
      plain_ok M Environment L3 _ tt (λ z y. ⊎_elim (λ e0. subst (λ x. L3 x ≡ true) e0 refl)
      (λ i. two_read M L3 (Real FIRST_ARGUMENT) (Real SECOND_ARGUMENT) z refl refl i) y) (
      plain_ok M (Move (Virtual (first + d)) (Real FIRST_ARGUMENT)) L4 _ tt
      (λ z y. one_read M L4 (Real FIRST_ARGUMENT) z refl y) (
      plain_ok M (Move (Virtual (first + e)) (Real SECOND_ARGUMENT)) L5 _ tt
      (λ z y. one_read M L5 (Real SECOND_ARGUMENT) z refl y) (
      good_code rest m (also e (also d known)) k _ ys (set_has L5 (also d known) e (set_has L4 known d h4)) g.1 s
      go))))))
  good_code (LowCall d i args rest) m known k L ys h e s go =
      let g = parted procs n known (LowCall d i args rest) _ k e in
      let ka : are_known known args ≡ true = read_all n known args g.0 in
      let tail : List VirtualItem = Call i (length args) ∷ Move (Virtual (first + d)) (Real ANSWER)
      ∷ code_items first out m rest in
      subst (Ok M L) (sym (append_assoc (args_items first 0 args) tail ys))
      (args_ok M first out args 0 known L (tail ++ ys) h ka (λ K u has.
      let K1 : Held = behind_call M first out K in
      let h1 : Has K1 first known = call_has M first out K known (has_up L K first known u h) in
      call_ok M first out i (length args) K _ has (
      plain_ok M (Move (Virtual (first + d)) (Real ANSWER)) K1 _ tt (λ z r. one_read M K1 (Real ANSWER) z refl r) (
      good_code rest m (also d known) k _ ys (set_has K1 known d h1) g.1 s go))))
  good_code (LowCallAt d f args rest) m known k L ys h e s go =
      let g = parted procs n known (LowCallAt d f args rest) _ k e in
      let kf : is_known known f ≡ true = read_first n known f args g.0 in
      let ka : are_known known args ≡ true = read_all n known args (read_then n known f args g.0) in
      let reg : VReg = source_reg first THIRD_SCRATCH f in
      let tail : List VirtualItem = CallAt reg (length args) ∷ Move (Virtual (first + d)) (Real ANSWER)
      ∷ code_items first out m rest in
      subst (Ok M L) (sym (append_assoc (source_items THIRD_SCRATCH f) (args_items first 0 args ++ tail) ys))
      (source_ok M first out THIRD_SCRATCH f known L _ h kf (λ J w v.
      subst (Ok M J) (sym (append_assoc (args_items first 0 args) tail ys))
      (args_ok M first out args 0 known J (tail ++ ys) (has_up L J first known w h) ka (λ K u has.
      let K1 : Held = behind_call M first out K in
      let h1 : Has K1 first known =
      call_has M first out K known (has_up J K first known u (has_up L J first known w h)) in
      call_at_ok M first out reg (length args) K _ (u reg v) has (
      plain_ok M (Move (Virtual (first + d)) (Real ANSWER)) K1 _ tt (λ z y. one_read M K1 (Real ANSWER) z refl y) (
      good_code rest m (also d known) k _ ys (set_has K1 known d h1) g.1 s go))))))
  good_code (If cond a b one other rest) m known k L ys h e s go =
      let g = parted procs n known (If cond a b one other rest) _ k e in
      let ka : is_known known a ≡ true = read_first n known a (b ∷ []) g.0 in
      let kb : is_known known b ≡ true = read_first n known b [] (read_then n known a (b ∷ []) g.0) in
      let t = then_split (meet all_words (behind all_words procs n known one) (behind all_words procs n known other))
      (λ j. behind all_words procs n j rest) k g.1 in
      let x = meet_split (behind all_words procs n known one) (behind all_words procs n known other) t.0 t.1 in
      let later = s.3 t.0 t.1 in
      let m2 : ℕ = suc (suc m) in
      let m3 : ℕ = m2 + marks_in other in
      let m4 : ℕ = m3 + marks_in one in
      let other_code : List VirtualItem = code_items first out m2 other in
      let one_code : List VirtualItem = code_items first out m3 one in
      let rest_code : List VirtualItem = code_items first out m4 rest in
      let end : List VirtualItem = Mark (suc m) ∷ rest_code in
      let mid : List VirtualItem = Jump (suc m) ∷ Mark m ∷ (one_code ++ end) in
      let ra : VReg = source_reg first FIRST_SCRATCH a in
      let rb : VReg = source_reg first SECOND_SCRATCH b in
      let all : List VirtualItem = Branch cond ra rb m ∷ (other_code ++ mid) in
      let at_end : (K : Held) → Has K first t.0 → (z : VReg) → M (suc m) z ≡ true → K z ≡ true =
      (λ K hk z y. lifted K first t.0 hk z (sym (later.0 z) ∙ y)) in
      let end_ok : Ok M (M (suc m)) (rest_code ++ ys) =
      good_code rest m4 t.0 k (M (suc m)) ys (lift_has (M (suc m)) first t.0 later.0) t.2 later.1 go in
      let both_of : (K : Held) → Has K first (both x.0 x.1) → Has K first t.0 = (λ K hk. subst (Has K first) x.4 hk) in
      let one_ok : Ok M (M m) (one_code ++ (end ++ ys)) =
      good_code one m3 known x.0 (M m) (end ++ ys) (lift_has (M m) first known s.0) x.2 s.2
      (λ K hk. mark_ok M (suc m) K (rest_code ++ ys) (at_end K (both_of K (has_left K x.0 x.1 hk))) end_ok) in
      let one_ok1 : Ok M (M m) ((one_code ++ end) ++ ys) =
      subst (Ok M (M m)) (sym (append_assoc one_code end ys)) one_ok in
      subst (Ok M L) (sym (append_assoc (source_items FIRST_SCRATCH a) (source_items SECOND_SCRATCH b ++ all) ys))
      (source_ok M first out FIRST_SCRATCH a known L _ h ka (λ K u va.
      subst (Ok M K) (sym (append_assoc (source_items SECOND_SCRATCH b) all ys))
      (source_ok M first out SECOND_SCRATCH b known K (all
      ++ ys) (has_up L K first known u h) kb (λ J w vb.
      let hj : Has J first known = has_up K J first known w (has_up L K first known u h) in
      branch_ok M cond ra rb m J ((other_code ++ mid) ++ ys) (w ra va) vb
      (λ z y. lifted J first known hj z (sym (s.0 z) ∙ y)) (
      subst (Ok M J) (sym (append_assoc other_code mid ys)) (good_code other m2 known x.1 J (mid
      ++ ys) hj x.3 s.1 (λ H hh.
      jump_ok M (suc m) H (Mark m ∷ ((one_code ++ end) ++ ys)) (at_end H (both_of H (has_right H x.0 x.1 hh)))
      (mark_good m H ((one_code ++ end) ++ ys) one_ok1))))))))
    where
      mark_good : (m : ℕ) (L : Held) (xs : List VirtualItem) → Ok M (M m) xs → Good M L (Mark m ∷ xs)
      mark_good m L xs k = (λ z h. absurd h, λ f. k.next, λ q z e h. absurd (let y : ⊥ = cc in y), k.good)
  good_code (LowReturn a) m known k L ys h e s go =
      let g = parted procs n known (LowReturn a) _ k e in
      let ka : is_known known a ≡ true = read_first n known a [] g.0 in
      let L1 : Held = with_reg (Real ANSWER) L in
      put_ok M first out (Real ANSWER) a known L _ h ka (
      plain_ok M Return L1 ys tt (λ z r. one_read M L1 (Real ANSWER) z refl r)
      (go L1 (subst (Has L1 first) (some_known known k g.1) (has_up L L1 first known (up_reg (Real ANSWER) L) h))))
  good_code (LowTailCall i args) m known k L ys h e s go =
      let g = parted procs n known (LowTailCall i args) _ k e in
      let ka : are_known known args ≡ true = read_all n known args g.0 in
      subst (Ok M L) (sym (append_assoc (args_items first 0 args) (TailCall i (length args) ∷ []) ys))
      (args_ok M first out args 0 known L _ h ka (λ K u has.
      plain_ok M (TailCall i (length args)) K ys tt (λ z r. handed_held M first out K (length args) 0 has z r)
      (go K (subst (Has K first) (some_known known k g.1) (has_up L K first known u h)))))
  good_code (LowTailCallAt f args) m known k L ys h e s go =
      let g = parted procs n known (LowTailCallAt f args) _ k e in
      let kf : is_known known f ≡ true = read_first n known f args g.0 in
      let ka : are_known known args ≡ true = read_all n known args (read_then n known f args g.0) in
      let reg : VReg = source_reg first THIRD_SCRATCH f in
      let tail : List VirtualItem = TailCallAt reg (length args) ∷ [] in
      subst (Ok M L) (sym (append_assoc (source_items THIRD_SCRATCH f) (args_items first 0 args ++ tail) ys))
      (source_ok M first out THIRD_SCRATCH f known L _ h kf (λ J w v.
      subst (Ok M J) (sym (append_assoc (args_items first 0 args) tail ys))
      (args_ok M first out args 0 known J _ (has_up L J first known w h) ka (λ K u has.
      plain_ok M (TailCallAt reg (length args)) K ys tt (λ z y. ⊎_elim (λ e0. subst (λ x. K x ≡ true) e0 (u reg v))
      (λ i. handed_held M first out K (length args) 0 has z i) y)
      (go K (subst (Has K first) (some_known known k g.1) (has_up J K first known u
      (has_up L J first known w h))))))))

-- ---- the sets of a program

-- what is known, or nothing
abbrev pub known_or : Option Known → Known
known_or None i = false
known_or (Some k) i = k i

module _ (procs : List Proc) where
  -- the sets at the marks of a code, told the first register, the first mark and what is known before it
  abbrev pub sets_at : ℕ → ℕ → ℕ → Known → Code → ℕ → Held
  sets_at n first m known Done w z = false
  sets_at n first m known (Set d a rest) w z = sets_at n first m (also d known) rest w z
  sets_at n first m known (LowCompute op d a b rest) w z = sets_at n first m (also d known) rest w z
  sets_at n first m known (LowLoad d a offset rest) w z = sets_at n first m (also d known) rest w z
  sets_at n first m known (LowStore b a offset rest) w z = sets_at n first m known rest w z
  sets_at n first m known (LowCodeOf d k rest) w z = sets_at n first m (also d known) rest w z
  sets_at n first m known (Build d args rest) w z = sets_at n first m (also d known) rest w z
  sets_at n first m known (Request d a rest) w z = sets_at n first m (also d known) rest w z
  sets_at n first m known (Take a rest) w z = sets_at n first m known rest w z
  sets_at n first m known (LowEnvironment number a b d e rest) w z = sets_at n first m (also e (also d known)) rest w z
  sets_at n first m known (LowCall d k args rest) w z = sets_at n first m (also d known) rest w z
  sets_at n first m known (LowCallAt d f args rest) w z = sets_at n first m (also d known) rest w z
  sets_at n first m known (If cond a b one other rest) w z =
      if w == m then lift first known z else if w == suc m then lift first
      (known_or (meet all_words (behind all_words procs n known one) (behind all_words procs n known other))) z
      else if nat_lt w (suc (suc m) + marks_in other) then sets_at n first (suc (suc m)) known other w z
      else if nat_lt w (suc (suc m) + marks_in other + marks_in one) then sets_at n first (suc (suc m) + marks_in other)
      known one w z
      else sets_at n first (suc (suc m) + marks_in other + marks_in one)
      (known_or (meet all_words (behind all_words procs n known one) (behind all_words procs n known other))) rest w
      z
  sets_at n first m known (LowReturn a) w z = false
  sets_at n first m known (LowTailCall k args) w z = false
  sets_at n first m known (LowTailCallAt f args) w z = false

  choose : (b : Bool) (x y : Bool) → b ≡ true → (if b then x else y) ≡ x
  choose true x y e = refl
  choose false x y e = absurd (let z : ⊥ = cc in z)

  choose_not : (b : Bool) (x y : Bool) → b ≡ false → (if b then x else y) ≡ y
  choose_not false x y e = refl
  choose_not true x y e = absurd (let z : ⊥ = cc in z)

  module _ (M : ℕ → Held) (n first out : ℕ) (fixed_out : (a : VReg) → M out a ≡ true
      → lift first (λ i. false) a ≡ true) where
    abbrev In : ℕ → Known → Code → Type 0
    In m known c = (w : ℕ) → m ≤ w → w < m + marks_in c → (z : VReg) → M w z ≡ sets_at n first m known c w z

    abbrev Has_sets : ℕ → Known → Code → Type 0
    Has_sets m known c = Sets M procs n first out fixed_out m known c

    sets_hold : (c : Code) (m : ℕ) (known : Known) → In m known c → Has_sets m known c
    sets_hold Done m known h = tt
    sets_hold (Set d a rest) m known h = sets_hold rest m (also d known) h
    sets_hold (LowCompute op d a b rest) m known h = sets_hold rest m (also d known) h
    sets_hold (LowLoad d a offset rest) m known h = sets_hold rest m (also d known) h
    sets_hold (LowStore b a offset rest) m known h = sets_hold rest m known h
    sets_hold (LowCodeOf d k rest) m known h = sets_hold rest m (also d known) h
    sets_hold (Build d args rest) m known h = sets_hold rest m (also d known) h
    sets_hold (Request d a rest) m known h = sets_hold rest m (also d known) h
    sets_hold (Take a rest) m known h = sets_hold rest m known h
    sets_hold (LowEnvironment number a b d e rest) m known h = sets_hold rest m (also e (also d known)) h
    sets_hold (LowCall d k args rest) m known h = sets_hold rest m (also d known) h
    sets_hold (LowCallAt d f args rest) m known h = sets_hold rest m (also d known) h
    sets_hold (If cond a b one other rest) m known h = (
      (λ z. h m (omega arith) (omega arith) z ∙ choose (m == m) _ _ (equal_self m)),
      sets_hold other m2 known (λ w p q z. h w (omega (arith, p)) (omega (arith, q)) z
          ∙ (first_two w z p ∙ choose (nat_lt w m3) _ _ (grind arith))),
      sets_hold one m3 known (λ w p q z. h w (omega (arith, p)) (omega (arith, q)) z
          ∙ (first_two w z (omega (arith, p)) ∙ (choose_not (nat_lt w m3) _ _ (grind arith)
          ∙ choose (nat_lt w m4) _ _ (grind arith)))),
      (λ k e. (
        (λ z. h (suc m) (omega arith) (omega arith) z ∙ (choose_not (suc m == m) _ _ (grind arith)
            ∙ (choose (suc m == suc m) _ _ (equal_self (suc m)) ∙ ap (λ o. lift first (known_or o) z) e))),
        subst (λ o. Has_sets m4 (known_or o) rest) e (sets_hold rest m4 (known_or end)
            (λ w p q z. h w (omega (arith, p)) (omega (arith, q)) z ∙ (first_two w z (omega (arith, p))
            ∙ (choose_not (nat_lt w m3) _ _ (grind arith) ∙ choose_not (nat_lt w m4) _ _ (grind arith))))),
      )),
    )
      where
        m2 : ℕ
        m2 = suc (suc m)

        m3 : ℕ
        m3 = suc (suc m) + marks_in other

        m4 : ℕ
        m4 = suc (suc m) + marks_in other + marks_in one

        end : Option Known
        end = meet all_words (behind all_words procs n known one) (behind all_words procs n known other)

        later : ℕ → Held
        later w z =
            if nat_lt w m3 then sets_at n first m2 known other w z else if nat_lt w m4 then sets_at n first m3 known one
            w z else sets_at n first m4 (known_or end) rest w z

        first_two : (w : ℕ) (z : VReg) → suc (suc m) ≤ w → sets_at n first m known (If cond a b one other rest) w z
            ≡ later w z
        first_two w z p = choose_not (w == m) _ _ (grind arith) ∙ choose_not (w == suc m) _ _ (grind arith)
    sets_hold (LowReturn a) m known h = tt
    sets_hold (LowTailCall k args) m known h = tt
    sets_hold (LowTailCallAt f args) m known h = tt

  -- those of procedures, whose registers and marks begin with these
  abbrev pub all_sets : ℕ → ℕ → List Proc → ℕ → Held
  all_sets first mark [] w z = false
  all_sets first mark (p ∷ ps) w z =
      if w == mark then lift first (λ i. false) z
      else if nat_lt w (suc mark + marks_in p.code) then sets_at p.words first (suc mark) (λ i. nat_lt i p.params)
      p.code w z
      else all_sets (first + p.words) (suc mark + marks_in p.code) ps w z

  module _ (M : ℕ → Held) where
    -- a procedure's parameters
    params_ok : (k first from : ℕ) (L : Held) (xs : List VirtualItem) → ((i : ℕ) → L (Real i) ≡ true)
        → ((i : ℕ) → nat_lt i from ≡ true → L (Virtual (first + i)) ≡ true)
        → ((K : Held) → Has K first (λ i. nat_lt i (from + k)) → Ok M K xs) → Ok M L (params_items first from k ++ xs)
    params_ok zero first from L xs r v go =
        let same : from + 0 ≡ from =
        omega arith in go L ((λ i e. r i), (λ i e. v i (ap (λ x. nat_lt i x) (sym same) ∙ e)))
    params_ok (suc k) first from L xs r v go =
        let K : Held = with_reg (Virtual (first + from)) L in
        let same : suc from + k ≡ from + suc k = omega arith in
        plain_ok M (Move (Virtual (first + from)) (Real (FIRST_ARGUMENT + from))) L (params_items first (suc from) k
        ++ xs) tt (λ z y. one_read M L (Real (FIRST_ARGUMENT + from)) z (r (FIRST_ARGUMENT + from)) y)
        (params_ok k first (suc from) K xs (λ i. up_reg (Virtual (first + from)) L (Real i) (r i))
        (λ i e. pick i e (i == from) refl) (λ J h. go J (subst (λ x. Has J first (λ i. nat_lt i x)) same h)))
      where
        pick : (i : ℕ) → nat_lt i (suc from) ≡ true → (c : Bool) → (i == from) ≡ c
            → with_reg (Virtual (first + from)) L (Virtual (first + i)) ≡ true
        pick i e true h =
            let same : i ≡ from = grind arith in
            subst (λ x. with_reg (Virtual (first + from)) L (Virtual (first + x)) ≡ true) (sym same)
            (reg_there (Virtual (first + from)) L)
        pick i e false h = let less : nat_lt i from ≡ true =
            grind arith in up_reg (Virtual (first + from)) L (Virtual (first + i)) (v i less)

    -- where a request finds no room
    out_ok : (first out : ℕ) (L : Held) (xs : List VirtualItem) → ((z : VReg) → M out z ≡ lift first (λ i. false) z)
        → Has L first (λ i. false)
        → Good M (with_reg (Real CALL_NUMBER) (with_reg (Real SECOND_ARGUMENT)
        (with_reg (Real FIRST_ARGUMENT) (M out)))) xs
        → ((K : Held) → Good M K xs) → Ok M L (out_items out ++ xs)
    out_ok first out L xs e h g more =
        let L1 : Held = with_reg (Real FIRST_ARGUMENT) (M out) in
        let L2 : Held = with_reg (Real SECOND_ARGUMENT) L1 in
        let L3 : Held = with_reg (Real CALL_NUMBER) L2 in
        let L4 : Held = (λ z. among z (Real FIRST_ARGUMENT ∷ Real SECOND_ARGUMENT ∷ []) || L3 z) in
        mark_ok M out L _ (λ z y. lifted L first (λ i. false) h z (sym (e z) ∙ y)) (
        plain_ok M (Constant (Real FIRST_ARGUMENT) 0) (M out) _ tt (λ z y. absurd y) (
        plain_ok M (Constant (Real SECOND_ARGUMENT) 0) L1 _ tt (λ z y. absurd y) (
        plain_ok M (Constant (Real CALL_NUMBER) REGION_OUT_CALL) L2 _ tt (λ z y. absurd y) (
        plain_ok M Environment L3 _ tt (λ z y. ⊎_elim (λ e0. subst (λ x. L3 x ≡ true) e0 refl)
        (λ i. two_read M L3 (Real FIRST_ARGUMENT) (Real SECOND_ARGUMENT) z refl refl i) y) (
        jump_ok M out L4 xs (λ z y. or_right (among z (Real FIRST_ARGUMENT ∷ Real SECOND_ARGUMENT ∷ [])) (L3 z)
        (up_reg (Real CALL_NUMBER) L2 z (up_reg (Real SECOND_ARGUMENT) L1 z
        (up_reg (Real FIRST_ARGUMENT) (M out) z y)))) (more L4))))))

    there : (o : Option Known) → is_there o ≡ true → (k : Known) × (o ≡ Some k)
    there None e = absurd (let z : ⊥ = cc in z)
    there (Some k) e = (k, refl)

    good_proc : (p : Proc) (i first mark : ℕ) (L : Held) (tail : List VirtualItem) → proc_closed procs p ≡ true
        → ((z : VReg) → M mark z ≡ lift first (λ j. false) z) → ((w : ℕ) → suc mark ≤ w → w < suc mark + marks_in p.code
        → (z : VReg) → M w z ≡ sets_at p.words first (suc mark) (λ j. nat_lt j p.params) p.code w z)
        → ((K : Held) → Good M K tail) → Good M L (Procedure i first p.words ∷ (body_items first mark p ++ tail))
    good_proc p i first mark L tail c out_is in_code tail_good =
        (λ z y. absurd y, (λ f. body.next), (λ m z e y. absurd (let x : ⊥ = cc in x)), body.good)
      where
        out : ℕ
        out = mark

        known : Known
        known = λ j. nat_lt j p.params

        code_closed : (k : ℕ → Bool) × (behind all_words procs p.words known p.code ≡ Some k)
        code_closed = there (behind all_words procs p.words known p.code) (closed_parts procs p c).there

        fixed_out : (z : VReg) → M out z ≡ true → lift first (λ j. false) z ≡ true
        fixed_out z e = sym (out_is z) ∙ e

        sets : Sets M procs p.words first out fixed_out (suc mark) known p.code
        sets = sets_hold M p.words first out fixed_out p.code (suc mark) known in_code

        code : List VirtualItem
        code = code_items first out (suc mark) p.code

        entered : Held
        entered = after (Procedure i first p.words) (before M (Procedure i first p.words) L)

        body : Ok M entered (body_items first mark p ++ tail)
        body =
            subst (Ok M entered) (sym (append_assoc (params_items first 0 p.params) (code ++ out_items out) tail))
            (params_ok p.params first 0 entered ((code ++ out_items out)
            ++ tail) (λ j. refl) (λ j e. absurd (let x : ⊥ = grind arith in x)) (λ K hk.
            subst (Ok M K) (sym (append_assoc code (out_items out) tail))
            (good_code M procs p.words first out fixed_out p.code (suc mark) known code_closed.0 K (out_items out
            ++ tail) (subst (λ x. Has K first (λ j. nat_lt j x)) (let e : 0 + p.params ≡ p.params = omega arith in
            e) hk) code_closed.1 sets (λ J hj.
            out_ok first out J tail out_is (hj.0, λ j e. absurd (let x : ⊥ = cc in x)) (tail_good _) tail_good))))

    good_procs : (ps : List Proc) (i first mark : ℕ) (L : Held) → each_closed procs ps ≡ true
        → ((w : ℕ) → mark ≤ w → (z : VReg) → M w z ≡ all_sets first mark ps w z)
        → Good M L (procs_items i first mark ps)
    good_procs [] i first mark L c h = tt
    good_procs (p ∷ ps) i first mark L c h =
        let closed = and_split (proc_closed procs p) (each_closed procs ps) c in
        good_proc p i first mark L (procs_items (suc i) (first + p.words) (suc mark + marks_in p.code) ps) closed.0
        (λ z. h mark (omega arith) z ∙ choose (mark == mark) _ _ (equal_self mark))
        (λ w q r z. h w (omega (arith, q)) z ∙ (choose_not (w == mark) _ _ (grind arith)
        ∙ choose (nat_lt w (suc mark + marks_in p.code)) _ _ (grind arith))) (λ K.
        good_procs ps (suc i) (first + p.words) (suc mark + marks_in p.code) K closed.1
        (λ w q z. h w (omega (arith, q)) z ∙ (choose_not (w == mark) _ _ (grind arith)
        ∙ choose_not (nat_lt w (suc mark + marks_in p.code)) _ _ (grind arith))))

-- real registers that no call changes
abbrev pub at_start : Held
at_start (Real r) = is_fixed r
at_start (Virtual v) = false

-- those of a program
abbrev pub program_sets : List Proc → ℕ → Held
program_sets procs = all_sets procs 0 (length procs) procs

-- each item of a closed program's code reads only what is held
pub selected_good : (entry : ℕ) (procs : List Proc) → is_closed procs entry ≡ true
    → Good (program_sets procs) at_start (select_items entry procs)
selected_good entry procs closed =
    let M : ℕ → Held = program_sets procs in
    let all : (K : Held) → Good M K (procs_items 0 0 (length procs) procs) =
    (λ K. good_procs procs M procs 0 0 (length procs) K (and_split (takes_none (slice_get procs entry))
    (each_closed procs procs) closed).1 (λ w q z. refl)) in
    let L0 : Held = (λ z. is_reg (Real ANSWER) z || (at_start z && is_spared z)) in
    let L1 : Held = with_reg (Real SECOND_ARGUMENT) L0 in
    let L2 : Held = with_reg (Real FIRST_ARGUMENT) L1 in
    let L3 : Held = with_reg (Real CALL_NUMBER) L2 in
    let L4 : Held = (λ z. among z (Real FIRST_ARGUMENT ∷ Real SECOND_ARGUMENT ∷ []) || L3 z) in
    let rest : List VirtualItem = procs_items 0 0 (length procs) procs in
    let last : Ok M L4 (Return ∷ rest) =
    record {
      next = λ z h. h;
      good = (
        λ z y. one_read M L4 (Real FIRST_ARGUMENT) z refl y,
        λ f. absurd (let x : ⊥ = cc in x),
        λ m z e h. absurd (let x : ⊥ = cc in x),
        all (after Return L4),
      );
    } in
    let answer : Ok M L0 (answer_items ++ rest) =
    plain_ok M (Move (Real SECOND_ARGUMENT) (Real ANSWER)) L0 _ tt (λ z y. one_read M L0 (Real ANSWER) z refl y)
    (plain_ok M (Constant (Real FIRST_ARGUMENT) 0) L1 _ tt (λ z y. absurd y)
    (plain_ok M (Constant (Real CALL_NUMBER) END_CALL) L2 _ tt
    (λ z y. absurd y) (plain_ok M Environment L3 (Return ∷ rest) tt
    (λ z y. ⊎_elim (λ e0. subst (λ x. L3 x ≡ true) e0 refl) (λ i. two_read M L3 (Real FIRST_ARGUMENT)
    (Real SECOND_ARGUMENT) z refl refl i)
    y) last))) in
    (λ z y. absurd y, (λ f. answer.next), (λ m z e y. absurd (let x : ⊥ = cc in x)), answer.good)

-- so the sets that are walked are a holding, with a slot for each register
pub selected_holding : (entry : ℕ) (procs : List Proc) → is_closed procs entry ≡ true
    → IsHolding (select_items entry procs) own (walk (program_sets procs) at_start (select_items entry procs))
selected_holding entry procs closed =
    walked (program_sets procs) (select_items entry procs) at_start (λ v. refl) (selected_good entry procs closed)
