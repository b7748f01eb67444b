-- What a load from a shelf comes to, and a shelf in memory as data.
use Rattle.std.specs.Prelude.{ℕ, ◌≡◌, ◌<◌, ◌≤◌, ◌==◌, ◌||◌, Bool, true, false, List, [], ◌∷◌, ◌++◌, length, find}
use Rattle.std.specs.Prelude.{Option, IfSome, option_map, is_none, Vec, Result, Ok, Err, bytes_eq, if◌then◌else◌}
use Rattle.std.specs.List.{list_any}
use Rattle.grift_base.specs.Outside.{next_count}
use Rattle.grift_base.specs.declared.shelves.LoadFault.{LoadFault}
use Rattle.grift_base.specs.declared.shelves.LoadFault.TheVariants.{Failed, TooLong, OutOfMemory}

-- ---- a shelf over a call

-- what is seen of a shelf: what names hold and the names that it was asked for, where these are told, and the count of
-- its faults, before and after a call
pub record ShelfSeen : Type 0 where
  pub holds : List ℕ → Option (List ℕ)
  pub asked : Option (List (List ℕ))
  pub asked_after : Option (List (List ℕ))
  pub faults : ℕ
  pub faults_after : ℕ

-- what is seen of two states of a shelf, told how these are read off a state
abbrev pub shelf_seen : {S : Type 0} → (S → List ℕ → Option (List ℕ)) → (S → Option (List (List ℕ))) → (S → ℕ) → S → S
    → ShelfSeen
shelf_seen holds asked fault_count old new = record {
  holds = holds old;
  asked = asked old;
  asked_after = asked new;
  faults = fault_count old;
  faults_after = fault_count new;
}

-- whether a load failed
abbrev pub load_failed : {A : Type 0} → Result A LoadFault → Bool
load_failed (Ok loaded) = false
load_failed (Err Failed) = true
load_failed (Err TooLong) = false
load_failed (Err OutOfMemory) = false

-- what a load answers within this limit, where the bytes that the name holds are told: these bytes, or that there are
-- too many of them
abbrev pub Loads : {Z : Type 0} → Option (List ℕ) → ℕ → Result (Vec ℕ Z) LoadFault → Type 0
Loads told max (Ok loaded) = (length loaded.items ≤ max) × IfSome told (λ bytes. loaded.items ≡ bytes)
Loads told max (Err TooLong) = IfSome told (λ bytes. max < length bytes)
Loads told max (Err Failed) = Unit {0}
Loads told max (Err OutOfMemory) = Unit {0}

-- the names asked for, after a load of this name with this answer
abbrev pub asked_after : {A : Type 0} → Result A LoadFault → List ℕ → List (List ℕ) → List (List ℕ)
asked_after (Ok loaded) name names = names ++ name ∷ []
asked_after (Err Failed) name names = names ++ name ∷ []
asked_after (Err TooLong) name names = names ++ name ∷ []
asked_after (Err OutOfMemory) name names = names

-- ---- a shelf in memory

-- its files, the numbers of the loads that are to fail, the names that it was asked for
-- and the count of its faults
pub record ShelfState : Type 0 where
  pub files : List (List ℕ × List ℕ)
  pub failing : List ℕ
  pub asked : List (List ℕ)
  pub faults : ℕ

-- what a name holds: the bytes beside its first place
abbrev pub held : List (List ℕ × List ℕ) → List ℕ → Option (List ℕ)
held files name = option_map (λ file. file.1) (find (λ file. bytes_eq file.0 name) files)

-- whether a load of this name fails: its number, counted from 0, was told, or the name isn't there
abbrev pub fails_to_load : ShelfState → List ℕ → Bool
fails_to_load shelf name =
    list_any (λ call. call == length shelf.asked) shelf.failing || is_none (held shelf.files name)

-- a load with this answer found no memory, or failed exactly where it was to
abbrev pub FailsWhere : {A : Type 0} → Bool → Result A LoadFault → Type 0
FailsWhere fails (Ok loaded) = fails ≡ false
FailsWhere fails (Err Failed) = fails ≡ true
FailsWhere fails (Err TooLong) = fails ≡ false
FailsWhere fails (Err OutOfMemory) = Unit {0}

-- the shelf after a load of this name with this answer
abbrev pub shelf_after : {A : Type 0} → Result A LoadFault → List ℕ → ShelfState → ShelfState
shelf_after answer name shelf = record shelf {
  asked = asked_after answer name shelf.asked;
  faults = if load_failed answer then next_count shelf.faults else shelf.faults;
}
