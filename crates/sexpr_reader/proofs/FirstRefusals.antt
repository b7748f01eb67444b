-- What the walk along the brackets refuses is what is refused, and no text is refused twice.
use Rattle.std.proofs.Common.{◌≡◌, ◌≢◌, ◌⊎◌, inl, inr, ◌<◌, ◌≤◌, Bool, true, false, cond, List, [], ◌∷◌, ◌++◌}
use Rattle.std.proofs.Common.{length, Option, Some, None, refl, ap, ◌∙◌, sym, subst, arith, append_assoc, append-nil}
use Rattle.std.proofs.Common.{ltb}
use borrow.Author.Tests.{ltb-true, ltb-false}
use Rattle.grift_base.specs.declared.refusals.Refusal.{Refusal as ARefusal}
use Rattle.grift_base.specs.declared.refusals.RefusalKind.{RefusalKind}
use Rattle.grift_base.specs.declared.refusals.RefusalKind.TheVariants.{Unclosed, Unopened, TooDeep}
use Rattle.sexpr_reader.specs.Datum.{Leaf, integer, truth, symbol, Datums, no_datums, datum_then, leaf_datum}
use Rattle.sexpr_reader.specs.Datum.{list_datum}
use Rattle.sexpr_reader.specs.Token.{Token}
use Rattle.sexpr_reader.specs.Meaning.{alone, meaning}
use Rattle.sexpr_reader.specs.Grammar.{AreForms, depth_limit}
use Rattle.sexpr_reader.specs.Reader.{same_shape}
use Rattle.sexpr_reader.specs.Refused.{AreOpen, IsReason, IsTokenRefused, NoneIsRefused, IsOfToken}
use Rattle.sexpr_reader.specs.Refused.{IsOfOpenBracket, IsOfNothing, AreRefused}
use Rattle.sexpr_reader.specs.declared.scan.Shape.{Shape}
use Rattle.sexpr_reader.specs.declared.atoms.Meaning.{Meaning}
use Rattle.sexpr_reader.specs.declared.atoms.Meaning.TheVariants.{Opening, Closing, Int, Bool as Truth, Symbol, Refused}
use Rattle.sexpr_reader.specs.declared.readers.Bracket.{Bracket}
use Rattle.sexpr_reader.proofs.Walk.{why_refused, open_behind, unclosed, refused_here, first_refusal, refusal_of_tokens}
use Rattle.sexpr_reader.proofs.Opened.{Leaves, AreOpen-from_Leaves, AreOpen-unique, Leaves-forms}
use Rattle.sexpr_reader.proofs.Readings.{IsRead, not_refused, same_shape-true, same_shape-self}

-- ---- splits of a list

no_middle : {A : Type 0} (front : List A) (a : A) (back : List A) → [] ≡ front ++ a ∷ back → ⊥
no_middle [] a back e = cc
no_middle (x ∷ front) a back e = cc

-- a list with one more at its end splits there or before
split_at_end : {A : Type 0} (xs : List A) (a : A) (front : List A) (b : A) (back : List A) →
    xs ++ a ∷ [] ≡ front ++ b ∷ back →
    ((xs ≡ front) × (a ≡ b)) ⊎ ((rest : List A) × (xs ≡ front ++ b ∷ rest))
split_at_end [] a [] b back e = inl (refl, cc)
split_at_end [] a (x ∷ front) b back e = absurd (no_middle front b back (tails e))
  where
    tails : a ∷ [] ≡ x ∷ (front ++ b ∷ back) → [] ≡ front ++ b ∷ back
    tails e = cc
split_at_end {A} (x ∷ xs) a [] b back e =
    let same : x ≡ b = cc in
    inr (xs, ap (λ (y : A). y ∷ xs) same)
split_at_end {A} (x ∷ xs) a (y ∷ front) b back e = by_rest (split_at_end xs a front b back tails)
  where
    tails : xs ++ a ∷ [] ≡ front ++ b ∷ back
    tails = cc

    heads : x ≡ y
    heads = cc

    by_rest : ((xs ≡ front) × (a ≡ b)) ⊎ ((rest : List A) × (xs ≡ front ++ b ∷ rest)) →
        ((x ∷ xs ≡ y ∷ front) × (a ≡ b)) ⊎ ((rest : List A) × (x ∷ xs ≡ y ∷ (front ++ b ∷ rest)))
    by_rest (inl h) = inl ((λ i. heads i ∷ h.0 i), h.1)
    by_rest (inr h) = inr (h.0, λ i. heads i ∷ h.1 i)

-- of two splits of a list one comes first, or they are one
abbrev OneComesFirst : {A : Type 0} → List A → A → List A → A → Type 0
OneComesFirst {A} front a other b =
    ((front ≡ other) × (a ≡ b))
    ⊎ (((rest : List A) × (other ≡ front ++ a ∷ rest)) ⊎ ((rest : List A) × (front ≡ other ++ b ∷ rest)))

two_splits : {A : Type 0} (front : List A) (a : A) (back other : List A) (b : A) (rest : List A) →
    front ++ a ∷ back ≡ other ++ b ∷ rest → OneComesFirst front a other b
two_splits [] a back [] b rest e = inl (refl, cc)
two_splits {A} [] a back (y ∷ other) b rest e =
    let same : y ≡ a = cc in
    inr (inl (other, ap (λ (x : A). x ∷ other) same))
two_splits {A} (x ∷ front) a back [] b rest e =
    let same : x ≡ b = cc in
    inr (inr (front, ap (λ (y : A). y ∷ front) same))
two_splits {A} (x ∷ front) a back (y ∷ other) b rest e = by_rest (two_splits front a back other b rest tails)
  where
    tails : front ++ a ∷ back ≡ other ++ b ∷ rest
    tails = cc

    heads : x ≡ y
    heads = cc

    by_rest : OneComesFirst front a other b → OneComesFirst (x ∷ front) a (y ∷ other) b
    by_rest (inl h) = inl ((λ i. heads i ∷ h.0 i), h.1)
    by_rest (inr (inl h)) = inr (inl (h.0, λ i. sym heads i ∷ h.1 i))
    by_rest (inr (inr h)) = inr (inr (h.0, λ i. heads i ∷ h.1 i))

-- ---- reasons

opening_reason : (opened : List Bracket) (fits : Bool) → ltb (length opened) depth_limit ≡ fits → (kind : RefusalKind) →
    cond fits None (Some TooDeep) ≡ Some kind → (kind ≡ TooDeep) × (depth_limit ≤ length opened)
opening_reason opened true e kind h = cc
opening_reason opened false e kind h =
    let full : depth_limit ≤ length opened = ltb-false _ _ e in
    (cc, full)

closing_reason : (innermost shape : Shape) (same : Bool) → same_shape innermost shape ≡ same → (kind : RefusalKind) →
    cond same None (Some Unopened) ≡ Some kind → (kind ≡ Unopened) × (innermost ≢ shape)
closing_reason innermost shape true e kind h = cc
closing_reason innermost shape false e kind h = (cc, λ equal. differ equal)
  where
    differ : innermost ≡ shape → ⊥
    differ equal =
        let self : same_shape innermost shape ≡ true =
        ap (λ s. same_shape innermost s) (sym equal) ∙ same_shape-self innermost in
        cc

-- why the walk refuses a token is a reason
reason_from_walk : (opened : List Bracket) (m : Meaning) (kind : RefusalKind) → why_refused opened m ≡ Some kind →
    IsReason opened m kind
reason_from_walk opened (Opening shape) kind h = opening_reason opened (ltb (length opened) depth_limit) refl kind h
reason_from_walk [] (Closing shape) kind h = (cc, tt)
reason_from_walk (innermost ∷ outer) (Closing shape) kind h =
    closing_reason innermost.shape shape (same_shape innermost.shape shape) refl kind h
reason_from_walk opened (Int n) kind h = cc
reason_from_walk opened (Truth b) kind h = cc
reason_from_walk opened (Symbol name) kind h = cc
reason_from_walk opened (Refused own) kind h = cc

no_room : (opened : List Bracket) (fits : Bool) → ltb (length opened) depth_limit ≡ fits → depth_limit ≤ length opened →
    cond fits None (Some TooDeep) ≡ Some TooDeep
no_room opened true e h =
    let room : length opened < depth_limit = ltb-true _ _ e in
    absurd (omega arith)
no_room opened false e h = refl

no_partner : (innermost shape : Shape) (same : Bool) → same_shape innermost shape ≡ same → innermost ≢ shape →
    cond same None (Some Unopened) ≡ Some Unopened
no_partner innermost shape true e h = absurd (h (same_shape-true innermost shape e))
no_partner innermost shape false e h = refl

-- and for each reason the walk refuses it
walk_from_reason : (opened : List Bracket) (m : Meaning) (kind : RefusalKind) → IsReason opened m kind →
    why_refused opened m ≡ Some kind
walk_from_reason opened (Opening shape) kind h =
    no_room opened (ltb (length opened) depth_limit) refl h.1 ∙ ap Some (sym h.0)
walk_from_reason [] (Closing shape) kind h = ap Some (sym h.0)
walk_from_reason (innermost ∷ outer) (Closing shape) kind h =
    no_partner innermost.shape shape (same_shape innermost.shape shape) refl h.1 ∙ ap Some (sym h.0)
walk_from_reason opened (Int n) kind h = absurd h
walk_from_reason opened (Truth b) kind h = absurd h
walk_from_reason opened (Symbol name) kind h = absurd h
walk_from_reason opened (Refused own) kind h = ap Some (sym h)

one_reason : (opened : List Bracket) (m : Meaning) (kind other : RefusalKind) → IsReason opened m kind →
    IsReason opened m other → kind ≡ other
one_reason opened m kind other h k =
    let first : why_refused opened m ≡ Some kind = walk_from_reason opened m kind h in
    let second : why_refused opened m ≡ Some other = walk_from_reason opened m other k in
    cc

-- ---- one token of the walk

one_leaf : (t : Token) (leaf : Leaf) → meaning t.lexeme ≡ alone leaf → AreForms (t ∷ [])
one_leaf t leaf e = (datum_then (leaf_datum t.pos leaf) no_datums, (t ∷ [], [], refl, (t, refl, refl, e), refl))

-- what stands behind a token that is not refused
leaves_more : (opened : List Bracket) (done : List Token) (t : Token) (m : Meaning) → meaning t.lexeme ≡ m →
    why_refused opened m ≡ None → Leaves done opened → Leaves (done ++ t ∷ []) (open_behind opened t.pos m)
leaves_more opened done t (Opening shape) e fine l = (done, t, [], refl, refl, e, (no_datums, refl), l)
leaves_more [] done t (Closing shape) e fine l = cc
leaves_more (b ∷ outer) done t (Closing shape) e fine l =
    by_test (same_shape b.shape shape) refl fine
  where
    list_more : b.shape ≡ shape → Leaves (done ++ t ∷ []) outer
    list_more same =
        let last : meaning t.lexeme ≡ Closing b.shape = e ∙ ap Closing (sym same) in
        let whole : AreForms (l.1 ∷ l.2 ++ t ∷ []) = (
          datum_then (list_datum b.pos l.6.0) no_datums,
          (
            l.1 ∷ l.2 ++ t ∷ [],
            [],
            sym (append-nil (l.1 ∷ l.2 ++ t ∷ [])),
            (b.shape, l.1, l.2, t, refl, l.4, l.5, last, l.6.1),
            refl,
          ),
        ) in
        subst (λ (ts : List Token). Leaves ts outer)
        (sym (ap (λ ts. ts ++ t ∷ []) l.3 ∙ append_assoc l.0 (l.1 ∷ l.2) (t ∷ [])))
        (Leaves-forms outer l.0 (l.1 ∷ l.2 ++ t ∷ []) l.7 whole)

    by_test : (same : Bool) → same_shape b.shape shape ≡ same → cond same None (Some Unopened) ≡ None →
        Leaves (done ++ t ∷ []) outer
    by_test true test fine = list_more (same_shape-true b.shape shape test)
    by_test false test fine = cc
leaves_more opened done t (Int n) e fine l =
    Leaves-forms opened done (t ∷ []) l (one_leaf t (integer n) e)
leaves_more opened done t (Truth b) e fine l =
    Leaves-forms opened done (t ∷ []) l (one_leaf t (truth b) e)
leaves_more opened done t (Symbol name) e fine l =
    Leaves-forms opened done (t ∷ []) l (one_leaf t (symbol name) e)
leaves_more opened done t (Refused kind) e fine l = cc

none_more : (done : List Token) (t : Token) → NoneIsRefused done
    → ((kind : RefusalKind) → IsTokenRefused done t kind → ⊥) →
    NoneIsRefused (done ++ t ∷ [])
none_more done t none fine before u after kind split refused = by_split (split_at_end done t before u after split)
  where
    by_split : ((done ≡ before) × (t ≡ u)) ⊎ ((rest : List Token) × (done ≡ before ++ u ∷ rest)) → ⊥
    by_split (inl h) =
        fine kind (subst (λ (ts : List Token). IsTokenRefused ts t kind) (sym h.0)
        (subst (λ (v : Token). IsTokenRefused before v kind) (sym h.1) refused))
    by_split (inr h) = none before u h.0 kind h.1 refused

-- ---- the walk

-- what is known of tokens of which the walk refuses this
abbrev IsOutcome : List Token → Option ARefusal → Type 0
IsOutcome ts None = NoneIsRefused ts × AreOpen ts []
IsOutcome ts (Some r) = IsOfToken ts r ⊎ IsOfOpenBracket ts r

outcome_at_end : (done : List Token) (opened : List Bracket) → Leaves done opened → NoneIsRefused done →
    IsOutcome done (unclosed opened)
outcome_at_end done [] l none = (none, AreOpen-from_Leaves [] done l)
outcome_at_end done (b ∷ outer) l none =
    inr (record {
      none = none;
      innermost = b;
      outer = outer;
      are_open = AreOpen-from_Leaves (b ∷ outer) done l;
      refusal = refl;
    })

-- the token that the walk comes to
module _ (opened : List Bracket) (done : List Token) (t : Token) (ts : List Token) (l : Leaves done opened)
    (none : NoneIsRefused done) where
  passed : why_refused opened (meaning t.lexeme) ≡ None → (kind : RefusalKind) → IsTokenRefused done t kind → ⊥
  passed e kind refused =
      let same : refused.opened ≡ opened =
      AreOpen-unique done refused.opened opened refused.are_open (AreOpen-from_Leaves opened done l) in
      let some : why_refused opened (meaning t.lexeme) ≡ Some kind =
      ap (λ bs. why_refused bs (meaning t.lexeme)) (sym same)
      ∙ walk_from_reason refused.opened (meaning t.lexeme) kind refused.reason in
      cc

  abbrev behind : List Bracket
  behind = open_behind opened t.pos (meaning t.lexeme)

  outcome_of_token : (Leaves (done ++ t ∷ []) behind → NoneIsRefused (done ++ t ∷ []) →
      IsOutcome ((done ++ t ∷ []) ++ ts) (first_refusal behind ts)) →
      (o : Option RefusalKind) → why_refused opened (meaning t.lexeme) ≡ o →
      IsOutcome (done ++ t ∷ ts) (refused_here t.pos o (first_refusal behind ts))
  outcome_of_token later (Some kind) e =
      inl (record {
        before = done;
        token = t;
        after = ts;
        split = refl;
        none_before = none;
        refused = record {
          opened = opened;
          are_open = AreOpen-from_Leaves opened done l;
          reason = reason_from_walk opened (meaning t.lexeme) kind e;
        };
        place = refl;
      })
  outcome_of_token later None e =
      subst (λ (l : List Token). IsOutcome l (first_refusal behind ts)) (append_assoc done (t ∷ []) ts)
      (later (leaves_more opened done t (meaning t.lexeme) refl e l)
      (none_more done t none (λ kind refused. passed e kind refused)))

walk_outcome : (ts : List Token) (opened : List Bracket) (done : List Token) → Leaves done opened → NoneIsRefused done →
    IsOutcome (done ++ ts) (first_refusal opened ts)
walk_outcome [] opened done l none =
    subst (λ (ts : List Token). IsOutcome ts (unclosed opened)) (sym (append-nil done))
    (outcome_at_end done opened l none)
walk_outcome (t ∷ ts) opened done l none =
    outcome_of_token opened done t ts l none
    (λ more none_so_far. walk_outcome ts (open_behind opened t.pos (meaning t.lexeme))
    (done ++ t ∷ []) more none_so_far)
    (why_refused opened (meaning t.lexeme)) refl

no_tokens_none_refused : NoneIsRefused []
no_tokens_none_refused before t after kind split refused = no_middle before t after split

tokens_outcome : (t : Token) (ts : List Token) → IsOutcome (t ∷ ts) (first_refusal [] (t ∷ ts))
tokens_outcome t ts = walk_outcome (t ∷ ts) [] [] (no_datums, refl) no_tokens_none_refused

-- what the walk refuses is refused
pub AreRefused-walk : (ts : List Token) (r : ARefusal) → refusal_of_tokens ts ≡ Some r → AreRefused ts r
AreRefused-walk [] r e = inr (inr (record { none = refl; refusal = cc }))
AreRefused-walk (t ∷ ts) r e = apart (subst (λ (o : Option ARefusal). IsOutcome (t ∷ ts) o) e (tokens_outcome t ts))
  where
    apart : IsOfToken (t ∷ ts) r ⊎ IsOfOpenBracket (t ∷ ts) r → AreRefused (t ∷ ts) r
    apart (inl h) = inl h
    apart (inr h) = inr (inl h)

-- what reads is not refused
pub read_is_not_refused : (ts : List Token) (ds : Datums) (r : ARefusal) → IsRead ts ds → AreRefused ts r → ⊥
read_is_not_refused ts ds r read refused = by_tokens ts (not_refused ts ds read) refused
  where
    by_tokens : (ts : List Token) → refusal_of_tokens ts ≡ None → AreRefused ts r → ⊥
    by_tokens [] e h = cc
    by_tokens (t ∷ ts) e h =
        by_refusal (subst (λ (o : Option ARefusal). IsOutcome (t ∷ ts) o) e (tokens_outcome t ts)) h
      where
        by_refusal : IsOutcome (t ∷ ts) None → AreRefused (t ∷ ts) r → ⊥
        by_refusal known (inl h) = known.0 h.before h.token h.after r.kind h.split h.refused
        by_refusal known (inr (inl h)) =
            let same : [] ≡ h.innermost ∷ h.outer = AreOpen-unique (t ∷ ts) []
            (h.innermost ∷ h.outer) known.1 h.are_open in
            cc
        by_refusal known (inr (inr h)) = let none : t ∷ ts ≡ [] = h.none in cc

-- ---- one refusal

one_of_tokens : (ts : List Token) (r s : ARefusal) → IsOfToken ts r → IsOfToken ts s → r ≡ s
one_of_tokens ts r s h k =
    by_order (two_splits h.before h.token h.after k.before k.token k.after (sym h.split ∙ k.split))
  where
    by_order : OneComesFirst h.before h.token k.before k.token → r ≡ s
    by_order (inl e) =
        let refused : IsTokenRefused h.before h.token s.kind =
        subst (λ (front : List Token). IsTokenRefused front h.token s.kind) (sym e.0)
        (subst (λ (t : Token). IsTokenRefused k.before t s.kind) (sym e.1) k.refused) in
        let opened : h.refused.opened ≡ refused.opened =
        AreOpen-unique h.before h.refused.opened refused.opened h.refused.are_open refused.are_open in
        let kinds : r.kind ≡ s.kind =
        one_reason refused.opened (meaning h.token.lexeme) r.kind s.kind
        (subst (λ (bs : List Bracket). IsReason bs (meaning h.token.lexeme) r.kind) opened h.refused.reason)
        refused.reason in
        let places : r.pos ≡ s.pos = h.place ∙ ap (λ (t : Token). t.pos) e.1 ∙ sym k.place in
        λ i. record { kind = kinds i; pos = places i }
    by_order (inr (inl e)) = absurd (k.none_before h.before h.token e.0 r.kind e.1 h.refused)
    by_order (inr (inr e)) = absurd (h.none_before k.before k.token e.0 s.kind e.1 k.refused)

one_of_open_brackets : (ts : List Token) (r s : ARefusal) → IsOfOpenBracket ts r → IsOfOpenBracket ts s → r ≡ s
one_of_open_brackets ts r s h k =
    let same : h.innermost ∷ h.outer ≡ k.innermost ∷ k.outer = AreOpen-unique ts _ _ h.are_open k.are_open in
    let innermost : h.innermost ≡ k.innermost = cc in
    h.refusal ∙ ap (λ (b : Bracket). record { kind = Unclosed; pos = b.pos }) innermost ∙ sym k.refusal

-- a token or an open bracket is one where there is none
something_of_nothing : (ts : List Token) (r s : ARefusal) → IsOfToken ts r → IsOfNothing ts s → ⊥
something_of_nothing ts r s h k = no_middle h.before h.token h.after (sym k.none ∙ h.split)

bracket_of_nothing : (ts : List Token) (r s : ARefusal) → IsOfOpenBracket ts r → IsOfNothing ts s → ⊥
bracket_of_nothing ts r s h k =
    let none : h.innermost ∷ h.outer ≡ [] =
    subst (λ (l : List Token). AreOpen l (h.innermost ∷ h.outer)) k.none h.are_open in
    cc

token_of_open_bracket : (ts : List Token) (r s : ARefusal) → IsOfToken ts r → IsOfOpenBracket ts s → ⊥
token_of_open_bracket ts r s h k = k.none h.before h.token h.after r.kind h.split h.refused

pub one_refusal : (ts : List Token) (r s : ARefusal) → AreRefused ts r → AreRefused ts s → r ≡ s
one_refusal ts r s (inl h) (inl k) = one_of_tokens ts r s h k
one_refusal ts r s (inl h) (inr (inl k)) = absurd (token_of_open_bracket ts r s h k)
one_refusal ts r s (inl h) (inr (inr k)) = absurd (something_of_nothing ts r s h k)
one_refusal ts r s (inr (inl h)) (inl k) = absurd (token_of_open_bracket ts s r k h)
one_refusal ts r s (inr (inl h)) (inr (inl k)) = one_of_open_brackets ts r s h k
one_refusal ts r s (inr (inl h)) (inr (inr k)) = absurd (bracket_of_nothing ts r s h k)
one_refusal ts r s (inr (inr h)) (inl k) = absurd (something_of_nothing ts s r k h)
one_refusal ts r s (inr (inr h)) (inr (inl k)) = absurd (bracket_of_nothing ts s r k h)
one_refusal ts r s (inr (inr h)) (inr (inr k)) = h.refusal ∙ sym k.refusal
