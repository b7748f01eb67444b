-- Which brackets tokens leave open: those that stand between whole s-expressions.
use Rattle.std.proofs.Common.{◌≡◌, ◌⊎◌, inl, inr, ℕ, zero, suc, Bool, true, false, List, [], ◌∷◌, ◌++◌, refl, ap, ◌∙◌}
use Rattle.std.proofs.Common.{sym, subst, append_assoc, append-nil}
use Rattle.sexpr_reader.specs.Datum.{Leaf, integer, truth, symbol, Datum, leaf_datum, list_datum, Datums, no_datums}
use Rattle.sexpr_reader.specs.Datum.{datum_then}
use Rattle.sexpr_reader.specs.Token.{Token}
use Rattle.sexpr_reader.specs.Meaning.{alone, meaning}
use Rattle.sexpr_reader.specs.Grammar.{Forms, FormsAll, AreForms}
use Rattle.sexpr_reader.specs.Refused.{Closes, IsOpen, AreOpen}
use Rattle.sexpr_reader.specs.declared.scan.Shape.{Shape}
use Rattle.sexpr_reader.specs.declared.atoms.Meaning.{Meaning}
use Rattle.sexpr_reader.specs.declared.atoms.Meaning.TheVariants.{Opening, Closing, Int, Bool as Truth, Symbol, Refused}
use Rattle.sexpr_reader.specs.declared.readers.Bracket.{Bracket}

-- ---- brackets that close more than was opened

-- the test of the tokens behind one with this meaning, where so many brackets are open
abbrev falls_by : Meaning → (ℕ → Bool) → ℕ → Bool
falls_by (Opening shape) rest n = rest (suc n)
falls_by (Closing shape) rest zero = true
falls_by (Closing shape) rest (suc n) = rest n
falls_by (Int x) rest n = rest n
falls_by (Truth b) rest n = rest n
falls_by (Symbol name) rest n = rest n
falls_by (Refused kind) rest n = rest n

-- somewhere among these tokens more brackets are closed than were open, where so many were open before them
abbrev pub falls : List Token → ℕ → Bool
falls [] n = false
falls (t ∷ ts) n = falls_by (meaning t.lexeme) (falls ts) n

falls_by-alone : (leaf : Leaf) (rest : ℕ → Bool) (n : ℕ) → falls_by (alone leaf) rest n ≡ rest n
falls_by-alone (integer x) rest n = refl
falls_by-alone (truth b) rest n = refl
falls_by-alone (symbol name) rest n = refl

-- whole s-expressions close what they open, and no more
mutual
  falls-form : (d : Datum) (front rest : List Token) (n : ℕ) → Forms front d → falls (front ++ rest) n ≡ falls rest n
  falls-form (leaf_datum p leaf) front rest n f =
      ap (λ l. falls (l ++ rest) n) f.1
      ∙ ap (λ m. falls_by m (falls rest) n) f.3
      ∙ falls_by-alone leaf (falls rest) n
  falls-form (list_datum p ds) front rest n f =
      ap (λ l. falls (l ++ rest) n) f.4
      ∙ ap (λ m. falls_by m (falls ((f.2 ++ f.3 ∷ []) ++ rest)) n) f.6
      ∙ ap (λ l. falls l (suc n)) (append_assoc f.2 (f.3 ∷ []) rest)
      ∙ falls-forms ds f.2 (f.3 ∷ rest) (suc n) f.8
      ∙ ap (λ m. falls_by m (falls rest) (suc n)) f.7

  falls-forms : (ds : Datums) (front rest : List Token) (n : ℕ) → FormsAll front ds →
      falls (front ++ rest) n ≡ falls rest n
  falls-forms no_datums front rest n f = ap (λ l. falls (l ++ rest) n) f
  falls-forms (datum_then d ds) front rest n f =
      ap (λ l. falls (l ++ rest) n) f.2
      ∙ ap (λ l. falls l n) (append_assoc f.0 f.1 rest)
      ∙ falls-form d f.0 (f.1 ++ rest) n f.3
      ∙ falls-forms ds f.1 rest n f.4

-- where more brackets are open before, it is the harder to close too many
falls_by-more : (rest : ℕ → Bool) → ((k : ℕ) → rest k ≡ false → rest (suc k) ≡ false) → (m : Meaning) (k : ℕ) →
    falls_by m rest k ≡ false → falls_by m rest (suc k) ≡ false
falls_by-more rest more (Opening shape) k h = more (suc k) h
falls_by-more rest more (Closing shape) zero h = cc
falls_by-more rest more (Closing shape) (suc k) h = more k h
falls_by-more rest more (Int x) k h = more k h
falls_by-more rest more (Truth b) k h = more k h
falls_by-more rest more (Symbol name) k h = more k h
falls_by-more rest more (Refused kind) k h = more k h

falls-more : (ts : List Token) (n : ℕ) → falls ts n ≡ false → falls ts (suc n) ≡ false
falls-more [] n h = refl
falls-more (t ∷ ts) n h = falls_by-more (falls ts) (λ k low. falls-more ts k low) (meaning t.lexeme) n h

-- ---- what whole s-expressions leave open: nothing

leaf_is_no_bracket : (leaf : Leaf) (shape : Shape) → alone leaf ≡ Opening shape → ⊥
leaf_is_no_bracket (integer x) shape e = cc
leaf_is_no_bracket (truth b) shape e = cc
leaf_is_no_bracket (symbol name) shape e = cc

-- a token that is not open itself
past_closed : (t : Token) (ts : List Token) (opened : List Bracket) → AreOpen ts opened →
    ((shape : Shape) → IsOpen t shape ts → ⊥) → AreOpen (t ∷ ts) opened
past_closed t ts opened h closed = (opened, h, inr (closed, refl))

mutual
  past_form : (d : Datum) (front rest : List Token) (opened : List Bracket) → Forms front d → AreOpen rest opened →
      AreOpen (front ++ rest) opened
  past_form (leaf_datum p leaf) front rest opened f h =
      subst (λ (l : List Token). AreOpen (l ++ rest) opened) (sym f.1)
      (past_closed f.0 rest opened h (λ shape o. leaf_is_no_bracket leaf shape (sym f.3 ∙ o.bracket)))
  past_form (list_datum p ds) front rest opened f h =
      let behind : (f.2 ++ f.3 ∷ []) ++ rest ≡ f.2 ++ (f.3 ∷ rest) = append_assoc f.2 (f.3 ∷ []) rest in
      let last_closed : AreOpen (f.3 ∷ rest) opened =
      past_closed f.3 rest opened h (λ shape o. closing_is_not_opening f.0 shape f.3 f.7 o.bracket) in
      let inside : AreOpen ((f.2 ++ f.3 ∷ []) ++ rest) opened =
      subst (λ (l : List Token). AreOpen l opened) (sym behind)
      (past_forms ds f.2 (f.3 ∷ rest) opened f.8 last_closed) in
      subst (λ (l : List Token). AreOpen (l ++ rest) opened) (sym f.4)
      (past_closed f.1 ((f.2 ++ f.3 ∷ []) ++ rest) opened inside
      (λ shape o. o.unclosed f.2 f.3 rest behind
      (record { whole = (ds, f.8); bracket = same_closing f.0 shape f.1 f.3 f.6 o.bracket f.7 })))
    where
      closing_is_not_opening : (a b : Shape) (t : Token) → meaning t.lexeme ≡ Closing a → meaning t.lexeme ≡ Opening b
          → ⊥
      closing_is_not_opening a b t e h = cc

      same_closing : (a b : Shape) (first last : Token) → meaning first.lexeme ≡ Opening a →
          meaning first.lexeme ≡ Opening b → meaning last.lexeme ≡ Closing a → meaning last.lexeme ≡ Closing b
      same_closing a b first last e g h = let same : a ≡ b = cc in h ∙ ap Closing same

  past_forms : (ds : Datums) (front rest : List Token) (opened : List Bracket) → FormsAll front ds →
      AreOpen rest opened → AreOpen (front ++ rest) opened
  past_forms no_datums front rest opened f h = subst (λ (l : List Token). AreOpen (l ++ rest) opened) (sym f) h
  past_forms (datum_then d ds) front rest opened f h =
      subst (λ (l : List Token). AreOpen l opened)
      (sym (ap (λ l. l ++ rest) f.2 ∙ append_assoc f.0 f.1 rest))
      (past_form d f.0 (f.1 ++ rest) opened f.3 (past_forms ds f.1 rest opened f.4 h))

-- ---- whole s-expressions with open brackets between them

-- whole s-expressions, then an opening bracket, whole s-expressions, the next bracket, and so on; the innermost first
abbrev pub Leaves : List Token → List Bracket → Type 0
Leaves done [] = AreForms done
Leaves done (b ∷ outer) =
    (front : List Token) × (first : Token) × (inner : List Token) × (done ≡ front ++ first ∷ inner)
    × (first.pos ≡ b.pos) × (meaning first.lexeme ≡ Opening b.shape) × AreForms inner × Leaves front outer

-- these brackets are open, and with those that are open behind they are all
opened_before : (opened : List Bracket) (done rest : List Token) (later : List Bracket) → Leaves done opened →
    falls rest 0 ≡ false → AreOpen rest later → AreOpen (done ++ rest) (later ++ opened)
opened_before [] done rest later l low h =
    subst (λ (bs : List Bracket). AreOpen (done ++ rest) bs) (sym (append-nil later))
    (past_forms l.0 done rest later l.1 h)
opened_before (b ∷ outer) done rest later l low h =
    let front : List Token = l.0 in
    let first : Token = l.1 in
    let behind : List Token = l.2 ++ rest in
    let low_behind : falls behind 0 ≡ false = falls-forms l.6.0 l.2 rest 0 l.6.1 ∙ low in
    let is_open : IsOpen first b.shape behind =
    record {
      bracket = l.5;
      unclosed = λ between last after e c. not_closed b.shape behind between last after
          low_behind e c;
    } in
    let same : b ∷ [] ≡ record { shape = b.shape; pos = first.pos } ∷ [] =
    λ i. record { shape = b.shape; pos = sym l.4 i } ∷ [] in
    let here : AreOpen (first ∷ behind) (later ++ b ∷ []) =
    (later, past_forms l.6.0 l.2 rest later l.6.1 h, inl (b.shape, is_open, ap (λ bs. later ++ bs) same)) in
    let low_here : falls (first ∷ behind) 0 ≡ false =
    ap (λ m. falls_by m (falls behind) 0) l.5 ∙ falls-more behind 0 low_behind in
    subst (λ (ts : List Token). AreOpen ts (later ++ (b ∷ outer)))
    (sym (ap (λ ts. ts ++ rest) l.3 ∙ append_assoc front (first ∷ l.2) rest))
    (subst (λ (bs : List Bracket). AreOpen (front ++ (first ∷ behind)) bs) (append_assoc later (b ∷ []) outer)
    (opened_before outer front (first ∷ behind) (later ++ b ∷ []) l.7 low_here here))
  where
    not_closed : (shape : Shape) (behind between : List Token) (last : Token) (after : List Token) →
        falls behind 0 ≡ false → behind ≡ between ++ last ∷ after → Closes shape between last → ⊥
    not_closed shape behind between last after low e c =
        let too_many : falls behind 0 ≡ true =
        ap (λ ts. falls ts 0) e
        ∙ falls-forms c.whole.0 between (last ∷ after) 0 c.whole.1
        ∙ ap (λ m. falls_by m (falls after) 0) c.bracket in
        cc

-- the brackets between whole s-expressions are those that are open
pub AreOpen-from_Leaves : (opened : List Bracket) (done : List Token) → Leaves done opened → AreOpen done opened
AreOpen-from_Leaves opened done l =
    subst (λ (ts : List Token). AreOpen ts opened) (append-nil done) (opened_before opened done [] [] l refl refl)

-- which brackets are open is determined
pub AreOpen-unique : (ts : List Token) (bs cs : List Bracket) → AreOpen ts bs → AreOpen ts cs → bs ≡ cs
AreOpen-unique [] bs cs h k = h ∙ sym k
AreOpen-unique (t ∷ ts) bs cs h k = by_first (AreOpen-unique ts h.0 k.0 h.1 k.1) h.2 k.2
  where
    by_first : {inner others : List Bracket} → inner ≡ others →
        ((shape : Shape) × IsOpen t shape ts × (bs ≡ inner ++ record { shape = shape; pos = t.pos } ∷ []))
        ⊎ (((shape : Shape) → IsOpen t shape ts → ⊥) × (bs ≡ inner)) →
        ((shape : Shape) × IsOpen t shape ts × (cs ≡ others ++ record { shape = shape; pos = t.pos } ∷ []))
        ⊎ (((shape : Shape) → IsOpen t shape ts → ⊥) × (cs ≡ others)) → bs ≡ cs
    by_first {inner} {others} same (inl a) (inl b) =
        let one : Opening a.0 ≡ Opening b.0 = sym a.1.bracket ∙ b.1.bracket in
        let shapes : a.0 ≡ b.0 = cc in
        a.2 ∙ (λ i. same i ++ record { shape = shapes i; pos = t.pos } ∷ []) ∙ sym b.2
    by_first same (inl a) (inr b) = absurd (b.0 a.0 a.1)
    by_first same (inr a) (inl b) = absurd (a.0 b.0 b.1)
    by_first same (inr a) (inr b) = a.1 ∙ same ∙ sym b.1

-- ---- one token more

forms_append : (ds es : Datums) (front back : List Token) → FormsAll front ds → FormsAll back es
    → AreForms (front ++ back)
forms_append no_datums es front back f g =
    (es, subst (λ (l : List Token). FormsAll (l ++ back) es) (sym f) g)
forms_append (datum_then d ds) es front back f g =
    let rest = forms_append ds es f.1 back f.4 g in
    (datum_then d rest.0, (f.0, f.1 ++ back, ap (λ l. l ++ back) f.2 ∙ append_assoc f.0 f.1 back, f.3, rest.1))

-- whole s-expressions more
pub Leaves-forms : (opened : List Bracket) (done more : List Token) → Leaves done opened → AreForms more →
    Leaves (done ++ more) opened
Leaves-forms [] done more l w = forms_append l.0 w.0 done more l.1 w.1
Leaves-forms (b ∷ outer) done more l w = (
  l.0,
  l.1,
  l.2 ++ more,
  ap (λ ts. ts ++ more) l.3 ∙ append_assoc l.0 (l.1 ∷ l.2) more,
  l.4,
  l.5,
  forms_append l.6.0 w.0 l.2 more l.6.1 w.1,
  l.7,
)
