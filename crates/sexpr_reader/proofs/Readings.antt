-- What the reader's run reads is a reading, and each reading is what the run reads.
use Rattle.std.proofs.Common.{◌≡◌, ◌≢◌, ℕ, ◌+◌, ◌-◌, ◌<◌, ◌≤◌, Bool, true, false, cond, List, [], ◌∷◌, ◌++◌, length}
use Rattle.std.proofs.Common.{Some, None, Result, Ok, Err, refl, ap, ◌∙◌, sym, subst, arith, append_assoc, append-nil}
use Rattle.std.proofs.Common.{ltb}
use borrow.Author.Tests.{ltb-true, lt-ltb}
use Rattle.grift_base.specs.declared.places.Pos.{Pos}
use Rattle.grift_base.specs.declared.refusals.Refusal.{Refusal}
use Rattle.grift_base.specs.declared.refusals.RefusalKind.TheVariants.{Unopened, TooDeep}
use Rattle.sexpr_reader.specs.Datum.{Leaf, integer, truth, symbol, Datum, leaf_datum, list_datum, Datums, no_datums}
use Rattle.sexpr_reader.specs.Datum.{datum_then, depth, depth_of}
use Rattle.sexpr_reader.specs.Token.{Token}
use Rattle.sexpr_reader.specs.Meaning.{alone, meaning}
use Rattle.sexpr_reader.specs.Grammar.{Forms, FormsAll, depth_limit}
use Rattle.sexpr_reader.specs.declared.scan.Shape.TheVariants.{Round, Square}
use Rattle.sexpr_reader.specs.declared.scan.Shape.{Shape}
use Rattle.sexpr_reader.specs.declared.atoms.Meaning.{Meaning}
use Rattle.sexpr_reader.specs.declared.atoms.Meaning.TheVariants.{Opening, Closing, Int, Bool as Truth, Symbol, Refused}
use Rattle.sexpr_reader.specs.declared.readers.Bracket.{Bracket}
use Rattle.sexpr_reader.specs.Reader.{OpenList, ReaderState, same_shape, start, in_row, with_item, closed, step, ended}
use Rattle.sexpr_reader.specs.Reader.{go_on, run, not_empty}
use Rattle.sexpr_reader.proofs.Rows.{elements, in_row-elements, FormsAll-push, depth_of-push}
use Rattle.sexpr_reader.proofs.Walk.{refusal_of_tokens}
use Rattle.sexpr_reader.proofs.Running.{refusal_in, refusal_in-run}

pub same_shape-true : (a b : Shape) → same_shape a b ≡ true → a ≡ b
same_shape-true Round Round h = refl
same_shape-true Round Square h = cc
same_shape-true Square Round h = cc
same_shape-true Square Square h = refl

pub same_shape-self : (a : Shape) → same_shape a a ≡ true
same_shape-self Round = refl
same_shape-self Square = refl

-- the tokens so far form the open lists and the elements so far
abbrev pub Pending : ℕ → List OpenList → List Token → List Datum → Type 0
Pending limit [] done items = FormsAll done (in_row items) × (depth_of (in_row items) ≤ limit)
Pending limit (o ∷ around) done items =
    (outer : List Token) × (first : Token) × (inner : List Token)
    × (done ≡ outer ++ first ∷ inner) × (first.pos ≡ o.bracket.pos) × (meaning first.lexeme ≡ Opening o.bracket.shape)
    × FormsAll inner (in_row items) × (length around + 1 + depth_of (in_row items) ≤ limit)
    × Pending limit around outer o.before

-- one s-expression more
Pending-push : (limit : ℕ) (around : List OpenList) (done : List Token) (items : List Datum) (front : List Token)
    (d : Datum) →
    Pending limit around done items → Forms front d → length around + depth d ≤ limit
    → Pending limit around (done ++ front) (items ++ d ∷ [])
Pending-push limit [] done items front d p one low =
    (FormsAll-push items d done front p.0 one, depth_of-push items d limit p.1 (omega arith))
Pending-push limit (o ∷ around) done items front d p one low =
    let room : ℕ = limit - (length around + 1) in
    let deep : depth_of (in_row (items ++ d ∷ [])) ≤ room = depth_of-push items d room (omega (arith, p.7))
    (omega (arith, low)) in (
      p.0,
      p.1,
      p.2 ++ front,
      ap (λ ts. ts ++ front) p.3 ∙ append_assoc p.0 (p.1 ∷ p.2) front,
      p.4,
      p.5,
      FormsAll-push items d p.2 front p.6 one,
      omega (arith, deep, p.7),
      p.8,
    )

-- what is read
abbrev pub Formed : ℕ → List Token → Datums → Type 0
Formed limit ts ds = FormsAll ts ds × (depth_of ds ≤ limit)

abbrev ReadsSoundly : ℕ → List Token → Type 0
ReadsSoundly limit ts =
    (s : ReaderState) (done : List Token) → Pending limit s.around done s.items → (ds : Datums)
    → run limit ts s ≡ Ok ds → Formed limit (done ++ ts) ds

sound_end : (limit : ℕ) (around : List OpenList) (items : List Datum) (done : List Token)
    → Pending limit around done items → (ds : Datums) → ended around items ≡ Ok ds → Formed limit (done ++ []) ds
sound_end limit [] items done p ds e =
    let same : in_row items ≡ ds = cc in
    subst (λ (ts : List Token). Formed limit ts ds) (sym (append-nil done))
    (subst (λ (x : Datums). Formed limit done x) same p)
sound_end limit (o ∷ around) items done p ds e = cc

module _ (limit : ℕ) (t : Token) (ts : List Token) (ih : ReadsSoundly limit ts) (done : List Token) where
  -- the state behind t stands for one token more
  behind : (s : ReaderState) → Pending limit s.around (done ++ t ∷ []) s.items → (ds : Datums)
      → run limit ts s ≡ Ok ds → Formed limit (done ++ t ∷ ts) ds
  behind s p ds e =
      subst (λ (l : List Token). Formed limit l ds) (append_assoc done (t ∷ []) ts) (ih s (done ++ t ∷ []) p ds e)

  sound_opening : (shape : Shape) → meaning t.lexeme ≡ Opening shape → (s : ReaderState)
      → Pending limit s.around done s.items → (fits : Bool) → ltb (length s.around) limit ≡ fits → (ds : Datums) →
      go_on (run limit ts) (cond fits (Ok (record {
        around = record { bracket = record { shape = shape; pos = t.pos }; before = s.items } ∷ s.around;
        items = [];
      })) (Err (record { kind = TooDeep; pos = t.pos }))) ≡ Ok ds → Formed limit (done ++ t ∷ ts) ds
  sound_opening shape m s p true fits ds e =
      let room : length s.around < limit = ltb-true _ _ fits in
      behind (record {
        around = record {
          bracket = record { shape = shape; pos = t.pos };
          before = s.items;
        } ∷ s.around;
        items = [];
      })
      (done, t, [], refl, refl, m, refl, omega (arith, room), p) ds e
  sound_opening shape m s p false fits ds e = cc

  sound_closing : (shape : Shape) → meaning t.lexeme ≡ Closing shape
      → (o : OpenList) (around : List OpenList) (items : List Datum) → Pending limit (o ∷ around) done items
      → (same : Bool) → same_shape o.bracket.shape shape ≡ same → (ds : Datums) →
      go_on (run limit ts) (cond same (Ok (record
      { around = around; items = o.before ++ list_datum o.bracket.pos (in_row items) ∷ [] }))
      (Err (record { kind = Unopened; pos = t.pos }))) ≡ Ok ds → Formed limit (done ++ t ∷ ts) ds
  sound_closing shape m o around items p true same ds e =
      let whole : done ++ t ∷ [] ≡ p.0 ++ (p.1 ∷ p.2 ++ t ∷ []) = ap (λ l. l ++ t ∷ []) p.3
      ∙ append_assoc p.0 (p.1 ∷ p.2) (t ∷ []) in
      let ends : meaning t.lexeme ≡ Closing o.bracket.shape = m
      ∙ ap Closing (sym (same_shape-true o.bracket.shape shape same)) in
      let one : Forms (p.1 ∷ p.2 ++ t ∷ []) (list_datum o.bracket.pos (in_row items)) = (
        o.bracket.shape,
        p.1,
        p.2,
        t,
        refl,
        p.4,
        p.5,
        ends,
        p.6,
      ) in
      behind (record { around = around; items = o.before ++ list_datum o.bracket.pos (in_row items) ∷ [] })
      (subst (λ (l : List Token). Pending limit around l (o.before ++ list_datum o.bracket.pos (in_row items) ∷ []))
      (sym whole)
      (Pending-push limit around p.0 o.before (p.1 ∷ p.2 ++ t ∷ []) (list_datum o.bracket.pos (in_row items)) p.8 one
      (omega (arith, p.7)))) ds e
  sound_closing shape m o around items p false same ds e = cc

  sound_closed : (shape : Shape) → meaning t.lexeme ≡ Closing shape → (around : List OpenList) (items : List Datum)
      → Pending limit around done items → (ds : Datums) →
      go_on (run limit ts) (closed (record { shape = shape; pos = t.pos }) around items) ≡ Ok ds
      → Formed limit (done ++ t ∷ ts) ds
  sound_closed shape m [] items p ds e = cc
  sound_closed shape m (o ∷ around) items p ds e =
      sound_closing shape m o around items p (same_shape o.bracket.shape shape) refl ds e

  fits_around : (around : List OpenList) (items : List Datum) → Pending limit around done items
      → length around + 0 ≤ limit
  fits_around [] items p = omega arith
  fits_around (o ∷ around) items p = omega (arith, p.7)

  sound_alone : (leaf : Leaf) → meaning t.lexeme ≡ alone leaf → (s : ReaderState) →
      Pending limit s.around done s.items → (ds : Datums) →
      run limit ts (with_item (leaf_datum t.pos leaf) s) ≡ Ok ds → Formed limit (done ++ t ∷ ts) ds
  sound_alone leaf m s p ds e =
      behind (with_item (leaf_datum t.pos leaf) s)
      (Pending-push limit s.around done s.items (t ∷ []) (leaf_datum t.pos leaf) p (t, refl, refl, m)
      (fits_around s.around s.items p)) ds e

  sound_step : (m : Meaning) → meaning t.lexeme ≡ m → (s : ReaderState) → Pending limit s.around done s.items
      → (ds : Datums) →
      go_on (run limit ts) (step limit t.pos m s) ≡ Ok ds → Formed limit (done ++ t ∷ ts) ds
  sound_step (Opening shape) m s p ds e = sound_opening shape m s p (ltb (length s.around) limit) refl ds e
  sound_step (Closing shape) m s p ds e = sound_closed shape m s.around s.items p ds e
  sound_step (Int n) m s p ds e = sound_alone (integer n) m s p ds e
  sound_step (Truth b) m s p ds e = sound_alone (truth b) m s p ds e
  sound_step (Symbol name) m s p ds e = sound_alone (symbol name) m s p ds e
  sound_step (Refused kind) m s p ds e = cc

pub run-sound : (limit : ℕ) (ts : List Token) → ReadsSoundly limit ts
run-sound limit [] s done p ds e = sound_end limit s.around s.items done p ds e
run-sound limit (t ∷ ts) s done p ds e =
    sound_step limit t ts (run-sound limit ts) done (meaning t.lexeme) refl s p ds e

step-alone : (limit : ℕ) (p : Pos) (leaf : Leaf) (s : ReaderState) →
    step limit p (alone leaf) s ≡ Ok (with_item (leaf_datum p leaf) s)
step-alone limit p (integer n) s = refl
step-alone limit p (truth b) s = refl
step-alone limit p (symbol name) s = refl

-- the run goes past tokens that form s-expressions, and has read these
mutual
  run-past : (limit : ℕ) (d : Datum) (front rest : List Token) → Forms front d
      → (around : List OpenList) (items : List Datum) → length around + depth d ≤ limit →
      run limit (front ++ rest) (record { around = around; items = items })
      ≡ run limit rest (record { around = around; items = items ++ d ∷ [] })
  run-past limit (leaf_datum p leaf) front rest f around items low =
      let s : ReaderState = record { around = around; items = items } in
      ap (λ l. run limit (l ++ rest) s) f.1
      ∙ ap (λ m. go_on (run limit rest) (step limit f.0.pos m s)) f.3
      ∙ ap (go_on (run limit rest)) (step-alone limit f.0.pos leaf s)
      ∙ ap (λ q. run limit rest (with_item (leaf_datum q leaf) s)) f.2
  run-past limit (list_datum p ds) front rest f around items low =
      let s : ReaderState = record { around = around; items = items } in
      let b : Bracket = record { shape = f.0; pos = f.1.pos } in
      let o : OpenList = record { bracket = b; before = items } in
      let inside : ReaderState = record { around = o ∷ around; items = [] } in
      let room : ltb (length around) limit ≡ true = lt-ltb _ _ (omega arith) in
      let opens : run limit (f.1 ∷ (f.2 ++ f.3 ∷ []) ++ rest) s ≡ run limit ((f.2 ++ f.3 ∷ []) ++ rest) inside =
      ap (λ m. go_on (run limit ((f.2 ++ f.3 ∷ []) ++ rest)) (step limit f.1.pos m s)) f.6
      ∙ ap (λ fits. go_on (run limit ((f.2 ++ f.3 ∷ []) ++ rest))
      (cond fits (Ok inside) (Err (record { kind = TooDeep; pos = f.1.pos })))) room in
      let regroup : run limit ((f.2 ++ f.3 ∷ []) ++ rest) inside ≡ run limit (f.2 ++ (f.3 ∷ rest)) inside =
      ap (λ l. run limit l inside) (append_assoc f.2 (f.3 ∷ []) rest) in
      let elements_read : run limit (f.2 ++ (f.3 ∷ rest)) inside ≡ run limit (f.3 ∷ rest)
      (record { around = o ∷ around; items = elements ds }) =
      run-past_all limit ds f.2 (f.3 ∷ rest) f.8 (o ∷ around) [] (omega arith) in
      let closes : run limit (f.3 ∷ rest) (record { around = o ∷ around; items = elements ds })
      ≡ run limit rest (record {
        around = around;
        items = items ++ list_datum f.1.pos (in_row (elements ds)) ∷ [];
      }) =
      ap (λ m. go_on (run limit rest) (step limit f.3.pos m (record { around = o ∷ around; items = elements ds }))) f.7
      ∙ ap (λ same. go_on (run limit rest) (cond same
      (Ok (record { around = around; items = items ++ list_datum f.1.pos (in_row (elements ds)) ∷ [] }))
      (Err (record { kind = Unopened; pos = f.3.pos })))) (same_shape-self f.0) in
      ap (λ l. run limit (l ++ rest) s) f.4 ∙ opens ∙ regroup ∙ elements_read ∙ closes
      ∙ ap (λ x. run limit rest (record { around = around; items = items ++ list_datum f.1.pos x ∷ [] }))
      (in_row-elements ds)
      ∙ ap (λ q. run limit rest (record { around = around; items = items ++ list_datum q ds ∷ [] })) f.5

  run-past_all : (limit : ℕ) (ds : Datums) (front rest : List Token) → FormsAll front ds
      → (around : List OpenList) (items : List Datum) → length around + depth_of ds ≤ limit →
      run limit (front ++ rest) (record { around = around; items = items })
      ≡ run limit rest (record { around = around; items = items ++ elements ds })
  run-past_all limit no_datums front rest f around items low =
      ap (λ l. run limit (l ++ rest) (record { around = around; items = items })) f
      ∙ ap (λ l. run limit rest (record { around = around; items = l })) (sym (append-nil items))
  run-past_all limit (datum_then d ds) front rest f around items low =
      ap (λ l. run limit (l ++ rest) (record { around = around; items = items })) f.2
      ∙ ap (λ l. run limit l (record { around = around; items = items })) (append_assoc f.0 f.1 rest)
      ∙ run-past limit d f.0 (f.1 ++ rest) f.3 around items (omega arith)
      ∙ run-past_all limit ds f.1 rest f.4 around (items ++ d ∷ []) (omega arith)
      ∙ ap (λ l. run limit rest (record { around = around; items = l })) (append_assoc items (d ∷ []) (elements ds))

-- the run reads each reading
pub run-complete : (limit : ℕ) (ts : List Token) (ds : Datums) → FormsAll ts ds → depth_of ds ≤ limit
    → run limit ts start ≡ Ok ds
run-complete limit ts ds f low =
    ap (λ l. run limit l start) (sym (append-nil ts))
    ∙ run-past_all limit ds ts [] f [] [] (omega arith)
    ∙ ap (λ x. Ok x) (in_row-elements ds)

-- no tokens form two rows of s-expressions
pub FormsAll-unique : (ts : List Token) (xs ys : Datums) → FormsAll ts xs → FormsAll ts ys → xs ≡ ys
FormsAll-unique ts xs ys f g =
    let limit : ℕ = depth_of xs + depth_of ys in
    let first : run limit ts start ≡ Ok xs = run-complete limit ts xs f (omega arith) in
    let second : run limit ts start ≡ Ok ys = run-complete limit ts ys g (omega arith) in
    cc

-- what stands for a text's reading
abbrev pub IsRead : List Token → Datums → Type 0
IsRead ts ds = FormsAll ts ds × (ds ≢ no_datums) × (depth_of ds ≤ depth_limit)

pub not_refused : (ts : List Token) (ds : Datums) → IsRead ts ds → refusal_of_tokens ts ≡ None
not_refused [] ds r = absurd (r.1 (FormsAll-unique [] ds no_datums r.0 refl))
not_refused (t ∷ ts) ds r =
    sym (refusal_in-run (t ∷ ts) start) ∙ ap refusal_in (run-complete depth_limit (t ∷ ts) ds r.0 r.2)

pub formed_by_run : (ts : List Token) (ds : Datums) → run depth_limit ts start ≡ Ok ds → Formed depth_limit ts ds
formed_by_run ts ds e = run-sound depth_limit ts start [] (refl, omega arith) ds e

-- where the run is done, its answer tells what the text is
read_rightly : (ts : List Token) (r : Result Datums Refusal) → run depth_limit ts start ≡ r → (ds : Datums)
    → not_empty r ≡ Ok ds → IsRead ts ds
read_rightly ts (Ok no_datums) e ds f = cc
read_rightly ts (Ok (datum_then x xs)) e ds f =
    let same : datum_then x xs ≡ ds = cc in
    let formed : Formed depth_limit ts ds = formed_by_run ts ds (e ∙ ap (λ y. Ok y) same) in
    (formed.0, (λ none. let clash : datum_then x xs ≡ no_datums = same ∙ none in cc), formed.1)
read_rightly ts (Err x) e ds f = cc

pub IsRead-run : (ts : List Token) (ds : Datums) → not_empty (run depth_limit ts start) ≡ Ok ds → IsRead ts ds
IsRead-run ts ds e = read_rightly ts (run depth_limit ts start) refl ds e

refused_rightly : (ts : List Token) (r : Result Datums Refusal) → run depth_limit ts start ≡ r → (x : Refusal)
    → not_empty r ≡ Err x → refusal_of_tokens ts ≡ Some x
refused_rightly ts (Ok no_datums) e x f =
    let none : ts ≡ [] = (formed_by_run ts no_datums e).0 in
    ap refusal_of_tokens none ∙ (cc)
refused_rightly ts (Ok (datum_then d ds)) e x f = cc
refused_rightly [] (Err y) e x f = cc
refused_rightly (t ∷ ts) (Err y) e x f =
    let same : y ≡ x = cc in
    sym (refusal_in-run (t ∷ ts) start) ∙ ap refusal_in e ∙ ap (λ z. Some z) same

pub refusal_of_tokens-run : (ts : List Token) (x : Refusal) → not_empty (run depth_limit ts start) ≡ Err x
    → refusal_of_tokens ts ≡ Some x
refusal_of_tokens-run ts x e = refused_rightly ts (run depth_limit ts start) refl x e

read_or_refused : (ts : List Token) (r : Result Datums Refusal) → not_empty (run depth_limit ts start) ≡ r
    → refusal_of_tokens ts ≡ None → (ds : Datums) × IsRead ts ds
read_or_refused ts (Ok ds) e n = (ds, IsRead-run ts ds e)
read_or_refused ts (Err x) e n = let some : refusal_of_tokens ts ≡ Some x = refusal_of_tokens-run ts x e in cc

-- tokens that aren't refused are read
pub has_reading : (ts : List Token) → refusal_of_tokens ts ≡ None → (ds : Datums) × IsRead ts ds
has_reading ts n = read_or_refused ts (not_empty (run depth_limit ts start)) refl n
