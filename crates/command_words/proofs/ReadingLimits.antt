-- Limits at the front of words.
use Rattle.std.proofs.Common.{ℕ, ◌%◌, ◌≡◌, List, [], ◌∷◌, ◌++◌, get_or, inl, inr, refl, sym, ap, subst, ◌∙◌}
use Rattle.std.proofs.Common.{append_assoc, arith}
use Rattle.std.specs.Prelude.{codes, ◌≢◌, Bool, Option}
use Rattle.rv_machine.specs.Start.{IsRegionSize, IsStackSize}
use Rattle.command_words.specs.Commands.{AreLimits, IsFlag, IsNumberOption, IsNameOption, IsStepLimit, region_default}
use Rattle.command_words.specs.Commands.{stack_default, steps_default}
use Rattle.command_words.specs.declared.commands.Limits.{Limits}
use Rattle.command_words.specs.ReadCommands.{BeginOtherwise, IsWithin, LimitsAtFront, NumberAtFront}
use Rattle.command_words.proofs.ReadingOptions.{heads, one_front}

-- ---- the option of steps, of which each multiple of 1 is allowed

allowed_front : (name : List ℕ) (A B : ℕ → Type 0) (default : ℕ) (words : List (List ℕ)) (n : ℕ) (rest : List (List ℕ))
    → ((m : ℕ) → A m → B m) → NumberAtFront name A default words n rest → NumberAtFront name B default words n rest
allowed_front name A B default words n rest f a = record {
  part = a.part;
  words_are = a.words_are;
  option = elim a.option [ inl p ↦ inl p | inr p ↦ inr (p.0, p.1, p.2, f n p.3) ];
  absent = a.absent;
}

multiple_of_one : (n : ℕ) → n % 1 ≡ 0
multiple_of_one n = omega arith

pub steps_front : (words : List (List ℕ)) (n : ℕ) (rest : List (List ℕ))
    → NumberAtFront (codes "--steps") (IsWithin 1 9223372036854775807) steps_default words n rest
    → NumberAtFront (codes "--steps") IsStepLimit steps_default words n rest
steps_front words n rest =
    allowed_front (codes "--steps") (IsWithin 1 9223372036854775807) IsStepLimit steps_default words n rest (λ m h. h.1)

pub steps_within : (words : List (List ℕ)) (n : ℕ) (rest : List (List ℕ))
    → NumberAtFront (codes "--steps") IsStepLimit steps_default words n rest
    → NumberAtFront (codes "--steps") (IsWithin 1 9223372036854775807) steps_default words n rest
steps_within words n rest =
    allowed_front (codes "--steps") IsStepLimit (IsWithin 1 9223372036854775807) steps_default words n rest
    (λ m h. (multiple_of_one m, h))

-- ---- what is refused

pub no_stack : (words after left : List (List ℕ)) (n : ℕ)
    → NumberAtFront (codes "--region") IsRegionSize region_default words n after
    → ((m : ℕ) (rest : List (List ℕ)) → NumberAtFront (codes "--stack") IsStackSize stack_default after m rest → ⊥)
    → (limits : Limits) → LimitsAtFront words limits left → ⊥
no_stack words after left n r none limits a =
    let same = one_front (codes "--region") IsRegionSize region_default words limits.region n a.after_region after
    a.region r in
    none limits.stack a.after_stack (subst (λ (ws : List (List ℕ)). NumberAtFront
    (codes "--stack") IsStackSize stack_default ws limits.stack a.after_stack) same.1 a.stack)

pub no_steps : (words middle after left : List (List ℕ)) (n m : ℕ)
    → NumberAtFront (codes "--region") IsRegionSize region_default words n middle
    → NumberAtFront (codes "--stack") IsStackSize stack_default middle m after
    → ((k : ℕ) (rest : List (List ℕ)) → NumberAtFront (codes "--steps") (IsWithin 1 9223372036854775807) steps_default
    after k rest → ⊥)
    → (limits : Limits) → LimitsAtFront words limits left → ⊥
no_steps words middle after left n m r s none limits a =
    let same = one_front (codes "--region") IsRegionSize region_default words limits.region n a.after_region middle
    a.region r in
    let stack = subst (λ (ws : List (List ℕ)). NumberAtFront (codes "--stack") IsStackSize stack_default ws
    limits.stack a.after_stack) same.1 a.stack in
    let same2 = one_front (codes "--stack") IsStackSize stack_default middle limits.stack m a.after_stack after stack
    s in
    none limits.steps left (steps_within after limits.steps left
    (subst (λ (ws : List (List ℕ)). NumberAtFront (codes "--steps") IsStepLimit steps_default ws limits.steps
    left) same2.1 a.steps))

-- ---- one reading

limits_same : (a b : Limits) → a.region ≡ b.region → a.stack ≡ b.stack → a.steps ≡ b.steps → a ≡ b
limits_same a b r s t = λ i. record { region = r i; stack = s i; steps = t i }

pub one_limits : (words rest left : List (List ℕ)) (limits other : Limits) → LimitsAtFront words limits rest
    → LimitsAtFront words other left → (limits ≡ other) × (rest ≡ left)
one_limits words rest left limits other a b =
    let r = one_front (codes "--region") IsRegionSize region_default words limits.region other.region a.after_region
    b.after_region a.region b.region in
    let stack = subst (λ (ws : List (List ℕ)). NumberAtFront (codes "--stack") IsStackSize stack_default ws
    limits.stack a.after_stack) r.1 a.stack in
    let s = one_front (codes "--stack") IsStackSize stack_default b.after_region limits.stack other.stack
    a.after_stack b.after_stack stack b.stack in
    let steps = subst (λ (ws : List (List ℕ)). NumberAtFront (codes "--steps") IsStepLimit steps_default ws
    limits.steps rest) s.1 a.steps in
    let t = one_front (codes "--steps") IsStepLimit steps_default b.after_stack limits.steps other.steps rest left
    steps b.steps in
    (limits_same limits other r.0 s.0 t.0, t.1)

-- ---- limits of a command are limits at the front of its words

option_begins : (name other : List ℕ) (IsAllowed : ℕ → Type 0) (default n : ℕ) (part rest : List (List ℕ))
    → name ≢ other → IsNumberOption other IsAllowed default part n → BeginOtherwise name rest
    → BeginOtherwise name (part ++ rest)
option_begins name other IsAllowed default n part rest differ option h = elim option [
  | inl p ↦ subst (λ (ws : List (List ℕ)). BeginOtherwise name (ws ++ rest)) (sym p.0) h
  | inr p ↦ λ left e. differ (sym (heads other name (p.0 ∷ rest) left
      (sym (ap (λ (ws : List (List ℕ)). ws ++ rest) p.1) ∙ e)))
]

pub named_begins : (name other : List ℕ) (part rest : List (List ℕ)) (found : Option (List ℕ)) → name ≢ other
    → IsNameOption other part found → BeginOtherwise name rest → BeginOtherwise name (part ++ rest)
named_begins name other part rest found differ option h = elim option [
  | inl p ↦ subst (λ (ws : List (List ℕ)). BeginOtherwise name (ws ++ rest)) (sym p.0) h
  | inr p ↦ λ left e. differ (sym (heads other name (p.0 ∷ rest) left
      (sym (ap (λ (ws : List (List ℕ)). ws ++ rest) p.1) ∙ e)))
]

pub flag_begins : (name other : List ℕ) (part rest : List (List ℕ)) (stands : Bool) → name ≢ other
    → IsFlag other part stands → BeginOtherwise name rest → BeginOtherwise name (part ++ rest)
flag_begins name other part rest stands differ option h = elim option [
  | inl p ↦ subst (λ (ws : List (List ℕ)). BeginOtherwise name (ws ++ rest)) (sym p.0) h
  | inr p ↦ λ left e. differ (sym (heads other name rest left
      (sym (ap (λ (ws : List (List ℕ)). ws ++ rest) p.0) ∙ e)))
]

pub no_words_begin : (name : List ℕ) → BeginOtherwise name []
no_words_begin name left e = let z : ⊥ = cc in z

-- two names that differ at a place
pub differ_at : (place : ℕ) (name other : List ℕ) → get_or name place 0 ≢ get_or other place 0 → name ≢ other
differ_at place name other h e = h (ap (λ (xs : List ℕ). get_or xs place 0) e)

region_is_not_stack : codes "--region" ≢ codes "--stack"
region_is_not_stack = differ_at 2 (codes "--region") (codes "--stack") (omega arith)

region_is_not_steps : codes "--region" ≢ codes "--steps"
region_is_not_steps = differ_at 2 (codes "--region") (codes "--steps") (omega arith)

stack_is_not_steps : codes "--stack" ≢ codes "--steps"
stack_is_not_steps = differ_at 4 (codes "--stack") (codes "--steps") (omega arith)

-- the words begin with no limit
pub record NoLimitBegins (words : List (List ℕ)) : Type 0 where
  pub region : BeginOtherwise (codes "--region") words
  pub stack : BeginOtherwise (codes "--stack") words
  pub steps : BeginOtherwise (codes "--steps") words

pub limits_front : (words limit_words rest : List (List ℕ)) (limits : Limits)
    → words ≡ limit_words ++ rest → AreLimits limit_words limits → NoLimitBegins rest
    → LimitsAtFront words limits rest
limits_front words limit_words rest limits e a others =
    let in_steps = others.steps in
    let in_stack = option_begins (codes "--stack") (codes "--steps") IsStepLimit steps_default limits.steps
    a.steps_words rest stack_is_not_steps a.steps others.stack in
    let in_region = option_begins (codes "--region") (codes "--stack") IsStackSize stack_default limits.stack
    a.stack_words (a.steps_words ++ rest) region_is_not_stack a.stack
    (option_begins (codes "--region") (codes "--steps") IsStepLimit steps_default limits.steps a.steps_words
    rest region_is_not_steps a.steps others.region) in
    let whole : words ≡ a.region_words ++ (a.stack_words ++ (a.steps_words ++ rest)) =
    e ∙ ap (λ (ws : List (List ℕ)). ws ++ rest) a.words_are ∙ (rw (append_assoc, append_assoc) refl) in
    record {
      after_region = a.stack_words ++ (a.steps_words ++ rest);
      after_stack = a.steps_words ++ rest;
      region = record { part = a.region_words; words_are = whole; option = a.region; absent = λ p. in_region };
      stack = record { part = a.stack_words; words_are = refl; option = a.stack; absent = λ p. in_stack };
      steps = record { part = a.steps_words; words_are = refl; option = a.steps; absent = λ p. in_steps };
    }

-- ---- and back

pub record LimitWords (words : List (List ℕ)) (limits : Limits) (rest : List (List ℕ)) : Type 0 where
  pub limit_words : List (List ℕ)
  pub words_are : words ≡ limit_words ++ rest
  pub limits_are : AreLimits limit_words limits

pub limit_words : (words rest : List (List ℕ)) (limits : Limits) → LimitsAtFront words limits rest
    → LimitWords words limits rest
limit_words words rest limits a =
    let r = a.region.part in
    let s = a.stack.part in
    let t = a.steps.part in
    let whole : words ≡ r ++ (s ++ (t ++ rest)) =
    a.region.words_are ∙ ap (λ (ws : List (List ℕ)). r ++ ws)
    (a.stack.words_are ∙ ap (λ (ws : List (List ℕ)). s ++ ws) a.steps.words_are) in
    record {
      limit_words = r ++ (s ++ t);
      words_are =
          whole ∙ sym (append_assoc r (s ++ t) rest ∙ ap (λ (ws : List (List ℕ)). r ++ ws) (append_assoc s t rest));
      limits_are =
          record {
            region_words = r;
            stack_words = s;
            steps_words = t;
            words_are = refl;
            region = a.region.option;
            stack = a.stack.option;
            steps = a.steps.option;
          };
    }
