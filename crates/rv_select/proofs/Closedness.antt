-- A closed program has small numbers.
use Rattle.std.proofs.Common.{Bool, true, false, ◌&&◌, ℕ, zero, suc, ◌<◌, ◌≤◌, ◌≡◌, List, [], ◌∷◌, Option, Some, None}
use Rattle.std.proofs.Common.{length, refl, subst, arith}
use Rattle.std.specs.Prelude.{nat_lt, nat_le, ◌==◌, slice_get}
use Rattle.std.proofs.lemmas.Option.{slice_get_within}
use Rattle.low_ir.specs.declared.code.LowSource.{LowSource}
use Rattle.low_ir.specs.Procedures.{Code, Done, Set, Compute, Load, Store, CodeOf, Build, Request, Take, Environment}
use Rattle.low_ir.specs.Procedures.{Call, CallAt, If, Return, TailCall, TailCallAt, Proc}
use Rattle.low_ir.specs.Closed.{Knowledge, go_if, then_known, reads, takes_words, names_fit, are_read, meet, behind}
use Rattle.low_ir.specs.Closed.{is_there, leaves, all_words, proc_closed, each_closed, takes_none, is_closed}
use Rattle.rv_select.specs.Sizes.{HasSmallNumbers, AreSmall}

both : (a b : Bool) → (a && b) ≡ true → (a ≡ true) × (b ≡ true)
both true b e = (refl, e)
both false b e = absurd (let z : ⊥ = cc in z)

-- what goes on where a test holds
passed : {A : Type 0} (b : Bool) (o : Option A) → is_there (go_if b o) ≡ true → (b ≡ true) × (is_there o ≡ true)
passed true o h = (refl, h)
passed false o h = absurd (let z : ⊥ = cc in z)

then_there : {A : Type 0} (o : Option A) (f : A → Option A) → is_there (then_known o f) ≡ true
    → (k : A) × (o ≡ Some k) × (is_there (f k) ≡ true)
then_there None f h = absurd (let z : ⊥ = cc in z)
then_there (Some k) f h = (k, refl, h)

is_less : (m n : ℕ) → nat_lt m n ≡ true → m < n
is_less m n h = grind arith

is_at_most : (m n : ℕ) → nat_le m n ≡ true → m ≤ n
is_at_most m n h = grind arith

is_as_many : (m n k : ℕ) → (m == n) ≡ true → n ≤ k → m ≤ k
is_as_many m n k h l = grind arith

-- procedures that are named are among so many
abbrev pub NamesThere : ℕ → Code → Type 0
NamesThere n Done = Unit {0}
NamesThere n (Set d a rest) = NamesThere n rest
NamesThere n (Compute op d a b rest) = NamesThere n rest
NamesThere n (Load d a offset rest) = NamesThere n rest
NamesThere n (Store b a offset rest) = NamesThere n rest
NamesThere n (CodeOf d k rest) = (k < n) × NamesThere n rest
NamesThere n (Build d args rest) = NamesThere n rest
NamesThere n (Request d a rest) = NamesThere n rest
NamesThere n (Take a rest) = NamesThere n rest
NamesThere n (Environment number a b d e rest) = NamesThere n rest
NamesThere n (Call d k args rest) = (k < n) × NamesThere n rest
NamesThere n (CallAt d f args rest) = NamesThere n rest
NamesThere n (If cond a b one other rest) = NamesThere n one × NamesThere n other × NamesThere n rest
NamesThere n (Return a) = Unit {0}
NamesThere n (TailCall k args) = k < n
NamesThere n (TailCallAt f args) = Unit {0}

-- those of each procedure
abbrev pub AllThere : ℕ → List Proc → Type 0
AllThere n [] = Unit {0}
AllThere n (p ∷ ps) = NamesThere n p.code × AllThere n ps

module _ {A : Type 0} (K : Knowledge A) (procs : List Proc) (n : ℕ)
    (few : (k : ℕ) (p : Proc) → slice_get procs k ≡ Some p → p.params ≤ 8) where
  meet_there : (a b : Option A) (k : A) → meet K a b ≡ Some k → (is_there a ≡ true) × (is_there b ≡ true)
  meet_there None b k h = absurd (let z : ⊥ = cc in z)
  meet_there (Some x) None k h = absurd (let z : ⊥ = cc in z)
  meet_there (Some x) (Some y) k h = (refl, refl)

  -- a procedure that is there takes as many words as it is handed
  taken : (k : ℕ) (args : List LowSource) (o : Option Proc) → slice_get procs k ≡ o → takes_words o args ≡ true
      → length args ≤ 8
  taken k args None e h = absurd (let z : ⊥ = cc in z)
  taken k args (Some p) e h = is_as_many (length args) p.params 8 h (few k p e)

  -- what a code names fits, and what is known behind it is there
  fitting : (known : A) (c : Code) (o : Option A)
      → is_there (go_if (are_read K n known (reads c) && names_fit procs n c) o) ≡ true
      → (names_fit procs n c ≡ true) × (is_there o ≡ true)
  fitting known c o h =
      let p = passed (are_read K n known (reads c) && names_fit procs n c) o h in
      ((both (are_read K n known (reads c)) (names_fit procs n c) p.0).1, p.1)

  -- a procedure that takes words is there
  is_there_at : (k : ℕ) (args : List LowSource) (o : Option Proc) → slice_get procs k ≡ o → takes_words o args ≡ true
      → k < length procs
  is_there_at k args None e h = absurd (let z : ⊥ = cc in z)
  is_there_at k args (Some p) e h = slice_get_within procs k p e

  -- code of which something is known behind it has small numbers, and names procedures that are there
  behind_fits : (c : Code) (known : A) → is_there (behind K procs n known c) ≡ true
      → HasSmallNumbers c × NamesThere (length procs) c
  behind_fits Done known h = (tt, tt)
  behind_fits (Set d a rest) known h = behind_fits rest _ (fitting known (Set d a rest) _ h).1
  behind_fits (Compute op d a b rest) known h = behind_fits rest _ (fitting known (Compute op d a b rest) _ h).1
  behind_fits (Load d a offset rest) known h =
      let f = fitting known (Load d a offset rest) _ h in
      let r = behind_fits rest _ f.1 in
      ((is_less offset 2048 (both (nat_lt d n) (nat_lt offset 2048) f.0).1, r.0), r.1)
  behind_fits (Store b a offset rest) known h =
      let f = fitting known (Store b a offset rest) _ h in
      let r = behind_fits rest _ f.1 in
      ((is_less offset 2048 f.0, r.0), r.1)
  behind_fits (CodeOf d k rest) known h =
      let f = fitting known (CodeOf d k rest) _ h in
      let r = behind_fits rest _ f.1 in
      (r.0, (is_less k (length procs) (both (nat_lt d n) (nat_lt k (length procs)) f.0).1, r.1))
  behind_fits (Build d args rest) known h =
      let f = fitting known (Build d args rest) _ h in
      let r = behind_fits rest _ f.1 in
      ((is_less (length args) 256 (both (nat_lt d n) (nat_lt (length args) 256) f.0).1, r.0), r.1)
  behind_fits (Request d a rest) known h = behind_fits rest _ (fitting known (Request d a rest) _ h).1
  behind_fits (Take a rest) known h = behind_fits rest _ (fitting known (Take a rest) _ h).1
  behind_fits (Environment number a b d e rest) known h =
      behind_fits rest _ (fitting known (Environment number a b d e rest) _ h).1
  behind_fits (Call d k args rest) known h =
      let f = fitting known (Call d k args rest) _ h in
      let there = (both (nat_lt d n) (takes_words (slice_get procs k) args) f.0).1 in
      let r = behind_fits rest _ f.1 in
      ((taken k args (slice_get procs k) refl there, r.0), (is_there_at k args (slice_get procs k) refl there, r.1))
  behind_fits (CallAt d g args rest) known h =
      let f = fitting known (CallAt d g args rest) _ h in
      let r = behind_fits rest _ f.1 in
      ((is_at_most (length args) 8 (both (nat_lt d n) (nat_le (length args) 8) f.0).1, r.0), r.1)
  behind_fits (If cond a b one other rest) known h =
      let f = fitting known (If cond a b one other rest) _ h in
      let k = then_there (meet K (behind K procs n known one) (behind K procs n known other)) _ f.1 in
      let parts = meet_there (behind K procs n known one) (behind K procs n known other) k.0 k.1 in
      let x = behind_fits one known parts.0 in
      let y = behind_fits other known parts.1 in
      let r = behind_fits rest k.0 k.2 in
      ((x.0, y.0, r.0), (x.1, y.1, r.1))
  behind_fits (Return a) known h = (tt, tt)
  behind_fits (TailCall k args) known h =
      let f = fitting known (TailCall k args) _ h in
      (taken k args (slice_get procs k) refl f.0, is_there_at k args (slice_get procs k) refl f.0)
  behind_fits (TailCallAt g args) known h =
      (is_at_most (length args) 8 (fitting known (TailCallAt g args) _ h).0, tt)

  pub behind_small : (c : Code) (known : A) → is_there (behind K procs n known c) ≡ true → HasSmallNumbers c
  behind_small c known h = (behind_fits c known h).0

  pub behind_there : (c : Code) (known : A) → is_there (behind K procs n known c) ≡ true
      → NamesThere (length procs) c
  behind_there c known h = (behind_fits c known h).1

-- the parts of a closed procedure
pub record ClosedParts (procs : List Proc) (p : Proc) : Type 0 where
  pub few : p.params ≤ 8
  pub enough : p.params ≤ p.words
  pub leaves : leaves p.code ≡ true
  pub there : is_there (behind all_words procs p.words (λ i. nat_lt i p.params) p.code) ≡ true

-- what it is for a procedure to be closed
pub closed_parts : (procs : List Proc) (p : Proc) → proc_closed procs p ≡ true → ClosedParts procs p
closed_parts procs p h =
    let there = is_there (behind all_words procs p.words (λ i. nat_lt i p.params) p.code) in
    let x = both (nat_le p.params 8 && nat_le p.params p.words && leaves p.code) there h in
    let y = both (nat_le p.params 8 && nat_le p.params p.words) (leaves p.code) x.0 in
    let z = both (nat_le p.params 8) (nat_le p.params p.words) y.0 in
    record {
      few = is_at_most p.params 8 z.0;
      enough = is_at_most p.params p.words z.1;
      leaves = y.1;
      there = x.1;
    }

-- each procedure of a closed program is closed
pub closed_at : (procs ps : List Proc) (k : ℕ) (p : Proc) → each_closed procs ps ≡ true → slice_get ps k ≡ Some p
    → proc_closed procs p ≡ true
closed_at procs [] zero p h e = absurd (let z : ⊥ = cc in z)
closed_at procs [] (suc k) p h e = absurd (let z : ⊥ = cc in z)
closed_at procs (q ∷ ps) zero p h e =
    let same : q ≡ p = cc in
    subst (λ r. proc_closed procs r ≡ true) same (both (proc_closed procs q) (each_closed procs ps) h).0
closed_at procs (q ∷ ps) (suc k) p h e =
    closed_at procs ps k p (both (proc_closed procs q) (each_closed procs ps) h).1 e

-- all numbers of a closed program are small
pub closed_small : (procs : List Proc) (entry : ℕ) → is_closed procs entry ≡ true → AreSmall procs
closed_small procs entry h = small procs (both (takes_none (slice_get procs entry)) (each_closed procs procs) h).1
  where
    all : each_closed procs procs ≡ true
    all = (both (takes_none (slice_get procs entry)) (each_closed procs procs) h).1

    few : (k : ℕ) (p : Proc) → slice_get procs k ≡ Some p → p.params ≤ 8
    few k p e = (closed_parts procs p (closed_at procs procs k p all e)).few

    small : (ps : List Proc) → each_closed procs ps ≡ true → AreSmall ps
    small [] c = tt
    small (p ∷ ps) c =
        let x = both (proc_closed procs p) (each_closed procs ps) c in
        let parts = closed_parts procs p x.0 in
        ((parts.few, behind_small all_words procs p.words few p.code _ parts.there), small ps x.1)

-- all procedures that it names are there
pub closed_there : (procs : List Proc) (entry : ℕ) → is_closed procs entry ≡ true → AllThere (length procs) procs
closed_there procs entry h = there procs all
  where
    all : each_closed procs procs ≡ true
    all = (both (takes_none (slice_get procs entry)) (each_closed procs procs) h).1

    few : (k : ℕ) (p : Proc) → slice_get procs k ≡ Some p → p.params ≤ 8
    few k p e = (closed_parts procs p (closed_at procs procs k p all e)).few

    there : (ps : List Proc) → each_closed procs ps ≡ true → AllThere (length procs) ps
    there [] c = tt
    there (p ∷ ps) c =
        let x = both (proc_closed procs p) (each_closed procs ps) c in
        (behind_there all_words procs p.words few p.code _ (closed_parts procs p x.0).there, there ps x.1)

-- the procedure that a closed program begins with takes no words
pub closed_entry : (procs : List Proc) (entry : ℕ) → is_closed procs entry ≡ true
    → (p : Proc) × (slice_get procs entry ≡ Some p) × (p.params ≡ 0)
closed_entry procs entry h =
    found (slice_get procs entry) refl (both (takes_none (slice_get procs entry)) (each_closed procs procs) h).0
  where
    found : (o : Option Proc) → slice_get procs entry ≡ o → takes_none o ≡ true
        → (p : Proc) × (slice_get procs entry ≡ Some p) × (p.params ≡ 0)
    found None e k = absurd (let z : ⊥ = cc in z)
    found (Some p) e k = (p, e, none p.params k)
      where
        none : (n : ℕ) → (n == 0) ≡ true → n ≡ 0
        none n c = grind arith

-- the procedure that it begins with is there
pub closed_within : (procs : List Proc) (entry : ℕ) → is_closed procs entry ≡ true → entry < length procs
closed_within procs entry h =
    let found = closed_entry procs entry h in slice_get_within procs entry found.0 found.1
