-- What follows from results, and how the forms that end a body answer.
use Rattle.std.proofs.Common.{◌≡◌, Result, Ok, Err, Option, Some, None, subst}
use Rattle.std.specs.Prelude.{IfOk, OnOk, MatchOption}
use Rattle.flat_ir.specs.declared.code.FlatBody.{FlatBody}
use Rattle.flat_ir.specs.Views.{body_of}
use Rattle.coer_core.specs.Terms.{RowTerm}
use Rattle.coer_core.specs.Views.{row_term_of}
use Rattle.coer_core.specs.declared.terms.CoerTerm.{CoerTerm}
use Rattle.closure_convert.specs.declared.conversion.Converter.{Converter}
use Rattle.closure_convert.specs.declared.waits.Waits.{Waits}
use Rattle.closure_convert.specs.Converting.{state}
use Rattle.closure_convert.specs.Keeping.{Opened}
use Rattle.closure_convert.specs.Scopes.{known}
use Rattle.closure_convert.specs.Waits.{ahead}
use Rattle.closure_convert.proofs.Ending.{Ended}

-- what holds in any case holds where there is an answer
pub in_any_case : {A E P : Type 0} (r : Result A E) → P → OnOk r P
in_any_case (Ok a) h = h
in_any_case (Err e) h = tt

-- what follows where there is an answer
pub on_ok_then : {A E P Q : Type 0} (r : Result A E) → (P → Q) → OnOk r P → OnOk r Q
on_ok_then (Ok a) f h = f h
on_ok_then (Err e) f h = tt

pub on_ok_both : {A E P Q R : Type 0} (r : Result A E) → (P → Q → R) → OnOk r P → OnOk r Q → OnOk r R
on_ok_both (Ok a) f h k = f h k
on_ok_both (Err e) f h k = tt

-- what follows from an answer
pub if_ok_then : {A E : Type 0} {P Q : A → Type 0} (r : Result A E) → ((a : A) → P a → Q a) → IfOk r P → IfOk r Q
if_ok_then (Ok a) f h = f a h
if_ok_then (Err e) f h = tt

pub if_ok_with : {A E : Type 0} {P S : A → Type 0} {Q R : Type 0} (r : Result A E)
    → ((a : A) → P a → Q → R → S a) → IfOk r P → OnOk r Q → OnOk r R → IfOk r S
if_ok_with (Ok a) f h k l = f a h k l
if_ok_with (Err e) f h k l = tt

-- a choice that was made
pub in_some : {A : Type 0} (P : Type 0) (Q : A → Type 0) (r : Option A) (a : A) → r ≡ Some a → MatchOption r P Q → Q a
in_some P Q r a e m = subst (λ x. MatchOption x P Q) e m

pub in_none : {A : Type 0} (P : Type 0) (Q : A → Type 0) (r : Option A) → r ≡ None → MatchOption r P Q → P
in_none P Q r e m = subst (λ x. MatchOption x P Q) e m

-- the last body for a term, from what was known and what waited to what is known and waits then
pub record Ends (before after : Converter) (waits later : Waits) (term : CoerTerm) (last : FlatBody) : Type 0 where
  pub opened : Opened before.names after.names
  pub ended : Ended (known before.names) (state before) (state after) waits.waits.items waits.depth (row_term_of term)
      (ahead later.waits.items (body_of last))

-- by the form, and by what it came to
pub ends : {before after now : Converter} {waits later those : Waits} {term : CoerTerm} {last it : FlatBody}
    (t : RowTerm) → row_term_of term ≡ t → now ≡ after → those ≡ later → last ≡ it → Opened before.names after.names
    → Ended (known before.names) (state before) (state after) waits.waits.items waits.depth t
    (ahead later.waits.items (body_of it)) → Ends before now waits those term last
ends t l e f g opened ended = rw (e, f, g) (record { opened = opened; ended = rw l ended })
