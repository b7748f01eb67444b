-- The rows of the pass as the reader goes through them.
use Rattle.std.proofs.Common.{◌≡◌, ℕ, ℤ, pos, ◌≤ℤ◌, ◌<ℤ◌, Bool, true, false, List, refl, ap, ◌∙◌, sym, subst, arith}
use Rattle.std.specs.Prelude.{negsuc, Result, Err, IsErrAnd}
use Rattle.std.proofs.lemmas.Int.{ints}
use Rattle.grift_base.specs.declared.places.Pos.{Pos}
use Rattle.grift_base.specs.declared.refusals.RefusalKind.{RefusalKind}
use Rattle.grift_base.specs.declared.refusals.RefusalKind.TheVariants.{BadForm}
use Rattle.grift_base.specs.declared.refusals.FrontFault.{FrontFault}
use Rattle.grift_base.specs.declared.refusals.FrontFault.TheVariants.{Refused, OutOfMemory}
use Rattle.form_table.specs.declared.words.Word.TheVariants.{Colon}
use Rattle.form_table.specs.declared.words.Mark.{Mark}
use Rattle.form_table.specs.declared.words.Mark.TheVariants.{Reserved, Free}
use Rattle.form_table.specs.Marked.{Sexpr, Sexprs, number, word, end, ◌▹◌, marked_symbol}
use Rattle.surface_trees.specs.Trees.{TypeExpr}
use Rattle.form_table.specs.Walking.{Walked, Reads, Refuses, followed_by}
use Rattle.form_table.specs.Walk.{walk_param_list}
use Rattle.form_table.specs.TopWalk.{has_body}
use Rattle.form_table.specs.Pass.{Parsing, then_with, paired, parse_lambda}
use Rattle.surface_syntax.specs.Parts.{part_number, parse_behind}
use Rattle.form_table.specs.Claims.{Answers, Parses}
use Rattle.form_table.proofs.Public.{stopped, went_out}

-- ---- one line after another, and the first that is refused

pub bind_reads : {A B : Type 0} (first : Walked (A × ℕ)) (next : A → Parsing B) (a : A) (names : ℕ)
    (w : Walked (B × ℕ)) → first ≡ Reads (a, names) → next a names ≡ w → then_with first next ≡ w
unfolding then_with
bind_reads first next a names w e h = ap (λ m. then_with m next) e ∙ h

pub bind_ok : {A B R : Type 0} (first : Walked (A × ℕ)) (next : A → Parsing B) (result : Result R FrontFault)
    (view : R → B) (new : ℕ) (a : A) (names : ℕ)
    → first ≡ Reads (a, names) → Parses result view new (next a names)
    → Parses result view new (then_with first next)
unfolding then_with
bind_ok first next result view new a names e h =
    subst (λ m. Parses result view new (then_with m next)) (sym e) h

-- a refusal or want of memory of the first line is that of all of them
pub stops : {A B R S : Type 0} (first : Walked (A × ℕ)) (next : A → Parsing B) (view : R → A) (wider : S → B)
    (names new : ℕ) (fault : FrontFault) → Parses (stopped {R = R} fault) view names first
    → Parses (stopped {R = S} fault) wider new (then_with first next)
unfolding then_with
stops first next view wider names new (Refused refusal) h = ap (λ m. then_with m next) h
stops first next view wider names new OutOfMemory h = tt

pub bind_err : {A B R S : Type 0} (first : Walked (A × ℕ)) (next : A → Parsing B) (view : R → A) (wider : S → B)
    (names new : ℕ) (fault : FrontFault) (given : Result R FrontFault) (result : Result S FrontFault)
    → given ≡ Err fault → result ≡ Err fault → Parses given view names first
    → Parses result wider new (then_with first next)
bind_err {A} {B} {R} {S} first next view wider names new fault given result e f h =
    subst (λ r. Parses r wider new (then_with first next)) (sym f)
    (stops first next view wider names new fault (subst (λ g. Parses g view names first) e h))

-- the exit of a `?` behind the first line
pub bind_exit : {A B R S : Type 0} (first : Walked (A × ℕ)) (next : A → Parsing B) (view : R → A) (wider : S → B)
    (names new : ℕ) (fault : FrontFault) (given : Result R FrontFault) (result : Result S FrontFault)
    → given ≡ Err fault → IsErrAnd result (λ f. f ≡ fault) → Parses given view names first
    → Parses result wider new (then_with first next)
bind_exit first next view wider names new fault given result e f h =
    bind_err first next view wider names new fault given result e (went_out result fault f) h

-- a refusal
pub answers_refused : {B R : Type 0} (result : Result R FrontFault) (view : R → B) (names : ℕ) (kind : RefusalKind)
    (p : Pos) (w : Walked (B × ℕ)) → result ≡ Err (Refused (record { kind = kind; pos = p })) → w ≡ Refuses kind p
    → Parses result view names w
answers_refused result view names kind p w e h = subst (λ r. Parses r view names w) (sym e) h

-- the same of what needs no fresh names
pub plain_reads : {A : Type 0} (walked : Walked A) (a : A) (names : ℕ) → walked ≡ Reads a
    → paired walked names ≡ Reads (a, names)
unfolding paired
plain_reads walked a names e = ap (λ w. paired w names) e

plain_stops : {A R S : Type 0} (walked : Walked A) (view : R → A) (wider : S → A) (names new : ℕ) (fault : FrontFault)
    → Answers (stopped {R = R} fault) view walked → Parses (stopped {R = S} fault) wider new (paired walked names)
unfolding paired
plain_stops walked view wider names new (Refused refusal) h = ap (λ w. paired w names) h
plain_stops walked view wider names new OutOfMemory h = tt

pub plain_err : {A B R S : Type 0} (walked : Walked A) (next : A → Parsing B) (view : R → A) (wider : S → B)
    (names new : ℕ) (fault : FrontFault) (given : Result R FrontFault) (result : Result S FrontFault)
    → given ≡ Err fault → result ≡ Err fault → Answers given view walked
    → Parses result wider new (then_with (paired walked names) next)
plain_err {A} {B} {R} {S} walked next view wider names new fault given result e f h =
    subst (λ r. Parses r wider new (then_with (paired walked names) next)) (sym f)
    (stops (paired walked names) next view wider names new fault
    (plain_stops walked view view names names fault (subst (λ g. Answers g view walked) e h)))

pub plain_exit : {A B R S : Type 0} (walked : Walked A) (next : A → Parsing B) (view : R → A) (wider : S → B)
    (names new : ℕ) (fault : FrontFault) (given : Result R FrontFault) (result : Result S FrontFault)
    → given ≡ Err fault → IsErrAnd result (λ f. f ≡ fault) → Answers given view walked
    → Parses result wider new (then_with (paired walked names) next)
plain_exit walked next view wider names new fault given result e f h =
    plain_err walked next view wider names new fault given result e (went_out result fault f) h

-- ---- lambdas

truth_is_one : true ≡ false → ⊥
truth_is_one e = cc

pub lambda_lacks : (p : Pos) (ps : Sexpr) (rest : Sexprs) (names : ℕ) → has_body rest ≡ false
    → parse_lambda p (ps ▹ rest) names ≡ Refuses BadForm p
unfolding then_with paired
lambda_lacks p ps end names e = refl
lambda_lacks p ps (word q Colon ▹ end) names e = refl
lambda_lacks p ps (word q Colon ▹ t ▹ end) names e = refl
lambda_lacks p ps (word q Colon ▹ t ▹ b ▹ more) names e = absurd (truth_is_one e)
lambda_lacks p ps (s ▹ rest) names e = absurd (truth_is_one e)

pub lambda_has : (p : Pos) (ps : Sexpr) (rest : Sexprs) (names : ℕ) → has_body rest ≡ true
    → parse_lambda p (ps ▹ rest) names
    ≡ then_with (paired (walk_param_list ps) names) (λ params. parse_behind p params rest)
unfolding then_with paired
lambda_has p ps end names e = absurd (truth_is_one (sym e))
lambda_has p ps (word q Colon ▹ end) names e = absurd (truth_is_one (sym e))
lambda_has p ps (word q Colon ▹ t ▹ end) names e = absurd (truth_is_one (sym e))
lambda_has p ps (word q Colon ▹ t ▹ b ▹ more) names e = refl
lambda_has p ps (s ▹ rest) names e = refl

-- ---- names with written types

pub typed_then : {A : Type 0} (x : Walked (List ℕ)) (c : Walked Bool) (t : Walked TypeExpr)
    (next : List ℕ → TypeExpr → Parsing A) (names : ℕ)
    → then_with (paired x names) (λ bytes names. then_with (paired c names) (λ done names.
    then_with (paired t names) (λ type names. next bytes type names)))
    ≡ then_with {A = List ℕ × TypeExpr} (paired (followed_by x (λ bytes. followed_by c (λ done.
    followed_by t (λ type. Reads (bytes, type))))) names) (λ named names. next named.0 named.1 names)
unfolding then_with paired followed_by
typed_then (Refuses kind p) c t next names = refl
typed_then (Reads x) (Refuses kind p) t next names = refl
typed_then (Reads x) (Reads c) (Refuses kind p) next names = refl
typed_then (Reads x) (Reads c) (Reads t) next names = refl

-- ---- parts of tuples

pub number_at : (r : Pos) (k : ℤ) → pos 0 ≤ℤ k → part_number (number r k) ≡ Reads k
number_at r (pos k) h = refl
number_at r (negsuc k) h = absurd (omega arith)

pub number_below : (r : Pos) (k : ℤ) → k <ℤ pos 0 → part_number (number r k) ≡ Refuses BadForm r
number_below r (pos k) h = absurd (let z : ⊥ = omega (arith, ints, h) in z)
number_below r (negsuc k) h = refl

pub no_number : (r : Pos) (x : List ℕ) (m : Mark) → part_number (marked_symbol r x m) ≡ Refuses BadForm r
no_number r x (Reserved w) = refl
no_number r x (Free t) = refl

pub ruleset number_steps = (
  number_at,
  number_below,
  no_number,
)
