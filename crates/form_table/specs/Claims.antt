-- What the definitions say of one another, and what the calls answer.
use Rattle.std.specs.Prelude.{◌≡◌, ℕ, Result, Ok, Err}
use Rattle.grift_base.specs.declared.refusals.FrontFault.{FrontFault}
use Rattle.grift_base.specs.declared.refusals.FrontFault.TheVariants.{Refused, OutOfMemory}
use Rattle.form_table.specs.Walking.{Walked, Reads, Refuses}

-- the answer is the defined one, unless memory runs out
abbrev pub Answers : {R A : Type 0} → Result R FrontFault → (R → A) → Walked A → Type 0
Answers (Ok r) view defined = defined ≡ Reads (view r)
Answers (Err (Refused refusal)) view defined = defined ≡ Refuses refusal.kind refusal.pos
Answers (Err OutOfMemory) view defined = Unit {0}

-- the same, with how many fresh names there are then
abbrev pub Parses : {R A : Type 0} → Result R FrontFault → (R → A) → ℕ → Walked (A × ℕ) → Type 0
Parses (Ok r) view names defined = defined ≡ Reads (view r, names)
Parses (Err (Refused refusal)) view names defined = defined ≡ Refuses refusal.kind refusal.pos
Parses (Err OutOfMemory) view names defined = Unit {0}
