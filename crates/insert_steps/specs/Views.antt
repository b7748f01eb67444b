-- The crate's types as those of the definitions, and what a call answers.
use Rattle.std.specs.Prelude.{◌≡◌, ℕ, List, map, Option, Some, None, Result, Ok, Err}
use Rattle.grift_base.specs.declared.places.TypeId.{TypeId}
use Rattle.grift_base.specs.declared.refusals.FrontFault.{FrontFault}
use Rattle.grift_base.specs.declared.refusals.FrontFault.TheVariants.{Refused, OutOfMemory}
use Rattle.core_calc.specs.Views.{term_of}
use Rattle.insert_steps.specs.declared.casts.CastEntry.{CastEntry}
use Rattle.insert_steps.specs.declared.casts.CastEntry.TheVariants.{Cast, Part}
use Rattle.insert_steps.specs.declared.progress.Progress.{Progress}
use Rattle.insert_steps.specs.declared.progress.Typed.{Typed as RustTyped}
use Rattle.insert_steps.specs.declared.names.Meaning.{Meaning as RustMeaning}
use Rattle.cast_rules.specs.Making.{Entry, CastFrom, PartOf, Work, Made, Makes, Refuses, Typed}
use Rattle.cast_rules.specs.Environments.{Meaning}

-- ---- what is kept

abbrev pub entry_of : CastEntry → Entry
entry_of (Cast label from to inside) = CastFrom label.0 from.0 to.0 inside
entry_of (Part label part) = PartOf label.0 part

abbrev pub entries_of : List CastEntry → List Entry
entries_of entries = map entry_of entries

abbrev pub work_of : Progress → Work
work_of progress = record {
  types = progress.types;
  labels = progress.labels;
  casts = entries_of progress.casts;
  next = progress.next;
}

-- ---- terms with their types

abbrev pub typed_of : RustTyped → Typed
typed_of e = record { term = term_of e.core.value; type = e.ty.0; entry = e.entry }

-- the place of a type, if there is one
abbrev pub place_if : Option TypeId → Option ℕ
place_if None = None
place_if (Some type) = Some type.0

-- ---- names

abbrev pub meaning_seen : RustMeaning → Meaning
meaning_seen meaning = record {
  variable = meaning.variable.0;
  type = meaning.ty.0;
  written = place_if meaning.written;
  place = meaning.pos;
}

abbrev pub meaning_if : Option RustMeaning → Option Meaning
meaning_if None = None
meaning_if (Some meaning) = Some (meaning_seen meaning)

-- ---- answers

-- the answer is the defined one, with the work after it, unless memory runs out
abbrev pub Answers : {R A : Type 0} → Result R FrontFault → (R → A) → Work → Made A → Type 0
Answers (Ok r) view after defined = defined ≡ Makes (view r) after
Answers (Err (Refused refusal)) view after defined = defined ≡ Refuses refusal.kind refusal.pos after
Answers (Err OutOfMemory) view after defined = Unit {0}
