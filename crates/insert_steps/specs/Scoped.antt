-- How names are found: each entry keeps which older entry of its name it hides.
use Rattle.std.specs.Prelude.{◌≡◌, ◌≤◌, ℕ, cond, List, [], ◌∷◌, length, map, reverse, Option, Some, None}
use Rattle.std.specs.declared.hash.FoldHasher.{FoldHasher}
use Rattle.std.specs.declared.hash.BuildHasherDefault.{BuildHasherDefault}
use Rattle.std.specs.HashMap.{HashMap, get}
use Rattle.surface_trees.specs.declared.names.Ident.{Ident}
use Rattle.surface_trees.specs.contracts.names.IdentPartialEq.TheImpl.{ghosts}
use Rattle.insert_steps.specs.declared.names.Entry.{Entry}
use Rattle.insert_steps.specs.declared.names.Named.{Named}
use Rattle.cast_rules.specs.Sources.{equal_idents}
use Rattle.cast_rules.specs.Environments.{Environment}
use Rattle.insert_steps.specs.Views.{meaning_seen}

-- names with their meanings
abbrev pub names_in : List Entry → Environment
names_in entries = map (λ entry. (entry.name, meaning_seen entry.meaning)) entries

abbrev pub env_of : List Named → Environment
env_of entries = map (λ entry. (entry.name, meaning_seen entry.meaning)) entries

-- the place, from the oldest one on, of the newest entry with this name; the newest entry stands first
abbrev pub newest_in : Ident → List Entry → Option ℕ
newest_in name [] = None
newest_in name (entry ∷ older) = cond (equal_idents name entry.name) (Some (length older)) (newest_in name older)

-- each entry keeps the place of the newest older one with its name
abbrev pub AreLinked : List Entry → Type 0
AreLinked [] = Unit {0}
AreLinked (entry ∷ older) = (entry.hidden ≡ newest_in entry.name older) × AreLinked older

abbrev pub Places : Type 0
Places = HashMap Ident (Option ℕ) (BuildHasherDefault FoldHasher)

-- a place that is kept, if there is one
abbrev pub kept_place : Option (Option ℕ) → Option ℕ
kept_place None = None
kept_place (Some place) = place

-- the places that are kept are those of the newest entries
pub record AreFound (entries : List Entry) (places : Places) : Type 0 where
  pub few : length entries ≤ 4294967295
  pub found : (name : Ident) → kept_place (get ghosts.eq places name) ≡ newest_in name (reverse entries)
  pub linked : AreLinked (reverse entries)
