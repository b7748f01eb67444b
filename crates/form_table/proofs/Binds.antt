-- One step of a walk after another.
use Rattle.std.proofs.Common.{◌≡◌, Bool, true, false, refl, ap, sym, subst, ◌∙◌}
use Rattle.std.specs.Prelude.{Result, Ok, Err, IsErrAnd}
use Rattle.grift_base.specs.declared.places.Pos.{Pos}
use Rattle.grift_base.specs.declared.refusals.RefusalKind.{RefusalKind}
use Rattle.grift_base.specs.declared.refusals.FrontFault.{FrontFault}
use Rattle.grift_base.specs.declared.refusals.FrontFault.TheVariants.{Refused, OutOfMemory}
use Rattle.form_table.specs.Walking.{Walked, Reads, Refuses, followed_by, test}
use Rattle.form_table.specs.Claims.{Answers}

pub bind_reads : {A B : Type 0} {first : Walked A} (next : A → Walked B) {a : A} {w : Walked B} → first ≡ Reads a
    → next a ≡ w → followed_by first next ≡ w
unfolding followed_by
bind_reads next e f = ap (λ m. followed_by m next) e ∙ f

-- what was read when both were done
pub parts_of : {A B : Type 0} {first : Walked A} {next : A → Walked B} {b : B} → followed_by first next ≡ Reads b
    → (a : A) × (first ≡ Reads a) × (next a ≡ Reads b)
unfolding followed_by
parts_of {A} {B} {first} {next} {b} e = one first refl e
  where
    one : (w : Walked A) → first ≡ w → followed_by w next ≡ Reads b → (a : A) × (first ≡ Reads a) × (next a ≡ Reads b)
    one (Reads a) h k = (a, h, k)
    one (Refuses kind p) h k = absurd cc

pub refused : {A : Type 0} {kind : RefusalKind} {p : Pos} {a : A} → Refuses kind p ≡ Reads a → ⊥
refused e = cc

pub read_is_one : {A : Type 0} {a b : A} → Reads a ≡ Reads b → a ≡ b
read_is_one e = cc

pub test_reads : (b : Bool) (kind : RefusalKind) (p : Pos) → b ≡ true → test b kind p ≡ Reads true
test_reads true kind p e = refl
test_reads false kind p e = absurd cc

pub test_holds : (b : Bool) (kind : RefusalKind) (p : Pos) {c : Bool} → test b kind p ≡ Reads c → b ≡ true
test_holds true kind p e = refl
test_holds false kind p e = absurd cc

-- ---- what the readers answer

-- a refusal or want of memory
abbrev pub stopped : {R : Type 0} → FrontFault → Result R FrontFault
stopped fault = Err fault

-- what is answered at the exit of a `?`
pub went_out : {S : Type 0} (result : Result S FrontFault) (fault : FrontFault) → IsErrAnd result (λ f. f ≡ fault)
    → result ≡ Err fault
went_out (Ok s) fault h = absurd h
went_out (Err f) fault h = ap (λ f. Err f) h

pub walk_ok : {A B R : Type 0} (first : Walked A) (next : A → Walked B) (result : Result R FrontFault) (view : R → B)
    (a : A) → first ≡ Reads a → Answers result view (next a) → Answers result view (followed_by first next)
unfolding followed_by
walk_ok first next result view a e h = subst (λ m. Answers result view (followed_by m next)) (sym e) h

ends : {A B R S : Type 0} (first : Walked A) (next : A → Walked B) (view : R → A) (wider : S → B) (fault : FrontFault)
    → Answers (stopped {R = R} fault) view first → Answers (stopped {R = S} fault) wider (followed_by first next)
unfolding followed_by
ends first next view wider (Refused refusal) h = ap (λ m. followed_by m next) h
ends first next view wider OutOfMemory h = tt

-- the exit of a `?` behind the first step
pub walk_exit : {A B R S : Type 0} (first : Walked A) (next : A → Walked B) (view : R → A) (wider : S → B)
    (fault : FrontFault) (given : Result R FrontFault) (result : Result S FrontFault)
    → given ≡ Err fault → IsErrAnd result (λ f. f ≡ fault) → Answers given view first
    → Answers result wider (followed_by first next)
walk_exit {A} {B} {R} {S} first next view wider fault given result e f h =
    subst (λ r. Answers r wider (followed_by first next)) (sym (went_out result fault f))
    (ends first next view wider fault (subst (λ g. Answers g view first) e h))

pub walk_refused : {B R : Type 0} (result : Result R FrontFault) (view : R → B) (kind : RefusalKind) (p : Pos)
    (w : Walked B) → result ≡ Err (Refused (record { kind = kind; pos = p })) → w ≡ Refuses kind p
    → Answers result view w
walk_refused result view kind p w e h = subst (λ r. Answers r view w) (sym e) h
