-- What the reader's answer says of the text.
use Rattle.std.proofs.Common.{◌≡◌, ℕ, List, [], ◌∷◌, Result, Ok, Err, sym, ap, ◌∙◌}
use Rattle.std.specs.Prelude.{IfOk, IfErr}
use Rattle.grift_base.specs.declared.refusals.FrontFault.{FrontFault}
use Rattle.grift_base.specs.declared.refusals.FrontFault.TheVariants.{Refused as RefusedFault, OutOfMemory}
use Rattle.sexpr_reader.specs.Datum.{Datums}
use Rattle.sexpr_reader.specs.Token.{Token, tokens}
use Rattle.sexpr_reader.specs.Meaning.{meaning}
use Rattle.sexpr_reader.specs.Grammar.{depth_limit, Reads}
use Rattle.sexpr_reader.specs.Reader.{ReaderState, start, step, go_on, run, ended, not_empty}
use Rattle.sexpr_reader.specs.View.{datums_of}
use Rattle.sexpr_reader.specs.Answers.{IsFault}
use Rattle.sexpr_reader.specs.Parts.{Goes, Gives}
use Rattle.sexpr_reader.specs.declared.sexps.SexpList.{SexpList}
use Rattle.sexpr_reader.specs.declared.atoms.Meaning.{Meaning}
use Rattle.sexpr_reader.proofs.Readings.{IsRead, IsRead-run, refusal_of_tokens-run}
use Rattle.sexpr_reader.proofs.FirstRefusals.{AreRefused-walk}

Reads-run : (text : List ℕ) (ds : Datums) → not_empty (run depth_limit (tokens text) start) ≡ Ok ds → Reads text ds
Reads-run text ds e =
    let read : IsRead (tokens text) ds = IsRead-run (tokens text) ds e in
    record { forms = read.0; some = read.1; shallow = read.2 }

-- the run along all tokens has come to its end
abbrev pub Ends : List ℕ → ReaderState → List Token → Type 0
Ends text s ts = run depth_limit ts s ≡ run depth_limit (tokens text) start

module _ (text : List ℕ) (s : ReaderState) (ts : List Token) (all : Ends text s ts) (none : ts ≡ []) where
  answer : not_empty (run depth_limit (tokens text) start) ≡ not_empty (ended s.around s.items)
  answer = ap not_empty (sym all ∙ ap (λ l. run depth_limit l s) none)

  pub reads_rightly : (r : Result SexpList FrontFault) → Gives r (not_empty (ended s.around s.items))
      → IfOk r (λ list. Reads text (datums_of list))
  reads_rightly (Ok list) g = Reads-run text (datums_of list) (answer ∙ g)
  reads_rightly (Err fault) g = tt

  pub refuses_rightly : (r : Result SexpList FrontFault) → Gives r (not_empty (ended s.around s.items))
      → IfErr r (IsFault text)
  refuses_rightly (Ok list) g = tt
  refuses_rightly (Err (RefusedFault x)) g =
      AreRefused-walk (tokens text) x (refusal_of_tokens-run (tokens text) x (answer ∙ g))
  refuses_rightly (Err OutOfMemory) g = tt

-- a step that refuses ends the run
pub refuses_step : (text : List ℕ) (s new : ReaderState) (t : Token) (ts : List Token) (m : Meaning)
    (fault : FrontFault) →
    Ends text s (t ∷ ts) → m ≡ meaning t.lexeme → Goes (Err fault) new (step depth_limit t.pos m s) → IsFault text fault
refuses_step text s new t ts m (RefusedFault x) all e g =
    AreRefused-walk (tokens text) x (refusal_of_tokens-run (tokens text) x (ap not_empty
    (sym all ∙ ap (λ k. go_on (run depth_limit ts) (step depth_limit t.pos k s)) (sym e)
    ∙ ap (go_on (run depth_limit ts)) g)))
refuses_step text s new t ts m OutOfMemory all e g = tt
