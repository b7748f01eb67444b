-- The reader's run refuses what the walk along the brackets refuses.
use Rattle.std.proofs.Common.{◌≡◌, suc, Bool, true, false, cond, List, [], ◌∷◌, ◌++◌, length, Option, Some, None}
use Rattle.std.proofs.Common.{Result, Ok, Err, refl, ap, ◌∙◌, sym, ltb}
use Rattle.grift_base.specs.declared.places.Pos.{Pos}
use Rattle.grift_base.specs.declared.refusals.Refusal.{Refusal}
use Rattle.grift_base.specs.declared.refusals.RefusalKind.TheVariants.{Unopened, TooDeep}
use Rattle.sexpr_reader.specs.Datum.{integer, truth, symbol, Datum, leaf_datum, list_datum, Datums}
use Rattle.sexpr_reader.specs.Token.{Token}
use Rattle.sexpr_reader.specs.Meaning.{meaning}
use Rattle.sexpr_reader.specs.Grammar.{depth_limit}
use Rattle.sexpr_reader.specs.Reader.{OpenList, ReaderState, same_shape, in_row, with_item, closed, step, ended, go_on}
use Rattle.sexpr_reader.specs.Reader.{run}
use Rattle.sexpr_reader.specs.declared.scan.Shape.{Shape}
use Rattle.sexpr_reader.specs.declared.atoms.Meaning.{Meaning}
use Rattle.sexpr_reader.specs.declared.atoms.Meaning.TheVariants.{Opening, Closing, Int, Bool as Truth, Symbol, Refused}
use Rattle.sexpr_reader.specs.declared.readers.Bracket.{Bracket}
use Rattle.sexpr_reader.proofs.Walk.{why_refused, open_behind, unclosed, refused_here, first_refusal}

abbrev pub refusal_in : Result Datums Refusal → Option Refusal
refusal_in (Ok ds) = None
refusal_in (Err r) = Some r

abbrev pub brackets : List OpenList → List Bracket
brackets [] = []
brackets (o ∷ os) = o.bracket ∷ brackets os

length-brackets : (os : List OpenList) → length (brackets os) ≡ length os
length-brackets [] = refl
length-brackets (o ∷ os) = ap suc (length-brackets os)

-- what the run refuses is what is refused first
abbrev RefusesRightly : List Token → Type 0
RefusesRightly ts = (s : ReaderState) → refusal_in (run depth_limit ts s) ≡ first_refusal (brackets s.around) ts

refused_opening : (ts : List Token) → RefusesRightly ts → (b : Bracket) (s : ReaderState) (fits : Bool) →
    refusal_in (go_on (run depth_limit ts) (cond fits
    (Ok (record { around = record { bracket = b; before = s.items } ∷ s.around; items = [] }))
    (Err (record { kind = TooDeep; pos = b.pos }))))
    ≡ refused_here b.pos (cond fits None (Some TooDeep)) (first_refusal (b ∷ brackets s.around) ts)
refused_opening ts ih b s true =
    ih (record { around = record { bracket = b; before = s.items } ∷ s.around; items = [] })
refused_opening ts ih b s false = refl

refused_closing : (ts : List Token) → RefusesRightly ts
    → (b : Bracket) (o : OpenList) (around : List OpenList) (items : List Datum) (same : Bool) →
    refusal_in (go_on (run depth_limit ts) (cond same
    (Ok (record { around = around; items = o.before ++ list_datum o.bracket.pos (in_row items) ∷ [] }))
    (Err (record { kind = Unopened; pos = b.pos }))))
    ≡ refused_here b.pos (cond same None (Some Unopened)) (first_refusal (brackets around) ts)
refused_closing ts ih b o around items true =
    ih (record { around = around; items = o.before ++ list_datum o.bracket.pos (in_row items) ∷ [] })
refused_closing ts ih b o around items false = refl

refused_closed : (ts : List Token) → RefusesRightly ts
    → (p : Pos) (shape : Shape) (around : List OpenList) (items : List Datum) →
    refusal_in (go_on (run depth_limit ts) (closed (record { shape = shape; pos = p }) around items))
    ≡ refused_here p (why_refused (brackets around) (Closing shape))
    (first_refusal (open_behind (brackets around) p (Closing shape)) ts)
refused_closed ts ih p shape [] items = refl
refused_closed ts ih p shape (o ∷ around) items =
    refused_closing ts ih (record { shape = shape; pos = p }) o around items (same_shape o.bracket.shape shape)

refused_step : (ts : List Token) → RefusesRightly ts → (p : Pos) (m : Meaning) (s : ReaderState) →
    refusal_in (go_on (run depth_limit ts) (step depth_limit p m s))
    ≡ refused_here p (why_refused (brackets s.around) m) (first_refusal (open_behind (brackets s.around) p m) ts)
refused_step ts ih p (Opening shape) s =
    let b : Bracket = record { shape = shape; pos = p } in
    refused_opening ts ih b s (ltb (length s.around) depth_limit)
    ∙ ap (λ n. refused_here p (cond (ltb n depth_limit) None (Some TooDeep))
    (first_refusal (b ∷ brackets s.around) ts)) (sym (length-brackets s.around))
refused_step ts ih p (Closing shape) s = refused_closed ts ih p shape s.around s.items
refused_step ts ih p (Int n) s = ih (with_item (leaf_datum p (integer n)) s)
refused_step ts ih p (Truth b) s = ih (with_item (leaf_datum p (truth b)) s)
refused_step ts ih p (Symbol name) s = ih (with_item (leaf_datum p (symbol name)) s)
refused_step ts ih p (Refused kind) s = refl

refused_end : (around : List OpenList) (items : List Datum)
    → refusal_in (ended around items) ≡ unclosed (brackets around)
refused_end [] items = refl
refused_end (o ∷ around) items = refl

pub refusal_in-run : (ts : List Token) → RefusesRightly ts
refusal_in-run [] s = refused_end s.around s.items
refusal_in-run (t ∷ ts) s = refused_step ts (refusal_in-run ts) t.pos (meaning t.lexeme) s
