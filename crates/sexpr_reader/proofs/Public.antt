-- The laws of reading, for other crates.
use Rattle.std.proofs.Common.{◌≡◌, ◌⊎◌, inl, inr, ℕ, List, refl, Option, Some, None}
use Rattle.grift_base.specs.declared.refusals.Refusal.{Refusal as ARefusal}
use Rattle.sexpr_reader.specs.Datum.{Datums}
use Rattle.sexpr_reader.specs.Token.{tokens}
use Rattle.sexpr_reader.specs.Grammar.{FormsAll, Reads}
use Rattle.sexpr_reader.specs.Refused.{IsRefused}
use Rattle.sexpr_reader.proofs.Walk.{refusal_of_tokens}
use Rattle.sexpr_reader.proofs.Readings.{FormsAll-unique, has_reading}
use Rattle.sexpr_reader.proofs.FirstRefusals.{AreRefused-walk, read_is_not_refused, one_refusal}

pub a_text_reads_or_is_refused : (text : List ℕ) → ((ds : Datums) × Reads text ds) ⊎ ((r : ARefusal) × IsRefused text r)
a_text_reads_or_is_refused text = by_walk (refusal_of_tokens (tokens text)) refl
  where
    by_walk : (o : Option ARefusal) → refusal_of_tokens (tokens text) ≡ o →
        ((ds : Datums) × Reads text ds) ⊎ ((r : ARefusal) × IsRefused text r)
    by_walk (Some r) e = inr (r, AreRefused-walk (tokens text) r e)
    by_walk None e =
        let read = has_reading (tokens text) e in
        inl (read.0, record { forms = read.1.0; some = read.1.1; shallow = read.1.2 })

pub what_reads_is_not_refused : (text : List ℕ) (ds : Datums) (r : ARefusal) → Reads text ds → IsRefused text r → ⊥
what_reads_is_not_refused text ds r read refused =
    read_is_not_refused (tokens text) ds r (read.forms, read.some, read.shallow) refused

pub a_text_has_one_reading : (text : List ℕ) (first second : Datums) → FormsAll (tokens text) first →
    FormsAll (tokens text) second → first ≡ second
a_text_has_one_reading text first second f g = FormsAll-unique (tokens text) first second f g

pub a_text_has_one_refusal : (text : List ℕ) (first second : ARefusal) → IsRefused text first → IsRefused text second →
    first ≡ second
a_text_has_one_refusal text first second h k = one_refusal (tokens text) first second h k
