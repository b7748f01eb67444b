-- Work whose first step was made, or failed; and lists that have a first element.
use Rattle.std.proofs.Common.{◌≡◌, List, [], ◌∷◌, sym, ap, ◌∙◌, subst, ◌≤◌, ◌-◌, length, take, take_all, get_or, arith}
use Rattle.grift_base.specs.declared.places.Pos.{Pos}
use Rattle.grift_base.specs.declared.refusals.RefusalKind.{RefusalKind}
use Rattle.std.specs.Prelude.{Result, Err, drop}
use Rattle.grift_base.specs.declared.refusals.FrontFault.{FrontFault}
use Rattle.grift_base.specs.declared.refusals.FrontFault.TheVariants.{Refused, OutOfMemory}
use Rattle.insert_steps.specs.Views.{Answers}
use Rattle.cast_rules.specs.Making.{Work, Made, Makes, Refuses, Making, then_make}

abbrev pub failed_with : {C : Type 0} → FrontFault → Result C FrontFault
failed_with fault = Err fault

-- where the whole is refused as the part is, what the part answers is what the whole answers
pub failed_as : {R S A B : Type 0} (fault : FrontFault) (view : S → A) (seen : R → B) (result : Result R FrontFault)
    (after : Work) (part : Made A) (whole : Made B) → result ≡ Err fault →
    Answers (failed_with fault) view after part →
    ((kind : RefusalKind) (place : Pos) (last : Work) → part ≡ Refuses kind place last →
    whole ≡ Refuses kind place last) →
    Answers result seen after whole
failed_as {R} {S} {A} {B} (Refused refusal) view seen result after part whole e answer same =
    subst (λ (r : Result R FrontFault). Answers r seen after whole) (sym e) (same refusal.kind refusal.pos after answer)
failed_as {R} {S} {A} {B} OutOfMemory view seen result after part whole e answer same =
    subst (λ (r : Result R FrontFault). Answers r seen after whole) (sym e) tt

-- the first step fails, and so do all
pub failed_first : {R S A B : Type 0} (fault : FrontFault) (view : S → A) (seen : R → B) (result : Result R FrontFault)
    (after : Work) (made : Made A) (next : A → Making B) → result ≡ Err fault →
    Answers (failed_with fault) view after made → Answers result seen after (then_make made next)
unfolding then_make
failed_first fault view seen result after made next e answer =
    failed_as fault view seen result after made (then_make made next) e answer
    (λ kind place last refused. ap (λ m. then_make m next) refused)

-- the first step was made, and what is left answers
pub made_first : {R A B : Type 0} (seen : R → B) (result : Result R FrontFault) (after : Work) (made : Made A)
    (next : A → Making B) (a : A) (work : Work) → made ≡ Makes a work → Answers result seen after (next a work) →
    Answers result seen after (then_make made next)
unfolding then_make
made_first seen result after made next a work e answer =
    subst (λ (m : Made _). Answers result seen after (then_make m next)) (sym e) answer

pub made_then : {A B : Type 0} (made : Made A) (next : A → Making B) (a : A) (work : Work) (whole : Made B) →
    made ≡ Makes a work → next a work ≡ whole → then_make made next ≡ whole
unfolding then_make
made_then made next a work whole e rest = ap (λ m. then_make m next) e ∙ rest

-- a list whose first element is known
pub first_split : {A : Type 0} (xs : List A) (x : A) → 1 ≤ length xs → x ≡ get_or xs 0 x →
    xs ≡ x ∷ take (length xs - 1) (drop 1 xs)
first_split [] x some e = absurd (omega arith)
first_split (y ∷ ys) x some e =
    ap (λ z. z ∷ ys) (sym e) ∙ ap (λ zs. x ∷ zs) (sym (take_all (length (y ∷ ys) - 1) ys (omega arith)))
