-- Names that are bound on the way, and bindings that are undone.
use Rattle.std.proofs.Common.{◌≡◌, ◌≤◌, ℕ, zero, suc, List, [], ◌∷◌, ◌++◌, length, take, drop, Some, refl, sym, ap}
use Rattle.std.proofs.Common.{◌∙◌, arith, append_assoc, append-nil}
use Rattle.flat_ir.specs.declared.code.Operand.{Operand}
use Rattle.closure_convert.specs.declared.names.Meaning.{Meaning}
use Rattle.closure_convert.specs.declared.names.Names.{Names}
use Rattle.closure_convert.specs.Conversion.{Scope}
use Rattle.closure_convert.specs.Keeping.{Kept, Opened}
use Rattle.closure_convert.specs.Scopes.{known, set_meaning, undone}
use Rattle.closure_convert.proofs.Scoping.{undone_append, set_back}

take_first : {A : Type 0} (xs ys : List A) (n : ℕ) → n ≡ length xs → take n (xs ++ ys) ≡ xs
take_first {A = A} xs ys n e = ap (λ k. take k (xs ++ ys)) e ∙ all xs
  where
    all : (xs : List A) → take (length xs) (xs ++ ys) ≡ xs
    all [] = refl
    all (x ∷ xs) = ap (λ r. x ∷ r) (all xs)

drop_first : {A : Type 0} (xs ys : List A) (n : ℕ) → n ≡ length xs → drop n (xs ++ ys) ≡ ys
drop_first {A = A} xs ys n e = ap (λ k. drop k (xs ++ ys)) e ∙ all xs
  where
    all : (xs : List A) → drop (length xs) (xs ++ ys) ≡ ys
    all [] = refl
    all (x ∷ xs) = all xs

pub kept_none : (a b : Names) → known b ≡ known a → b.before.items ≡ a.before.items → Kept a b
kept_none a b k m = record { scope = k; log = m }

pub kept_then : (a b c : Names) → Kept a b → Kept b c → Kept a c
kept_then a b c f g = record { scope = g.scope ∙ f.scope; log = g.log ∙ f.log }

pub opened_none : (a : Names) → Opened a a
opened_none a = record { added = []; log = sym (append-nil a.before.items); back = refl }

pub opened_then : (a b c : Names) → Opened a b → Opened b c → Opened a c
opened_then a b c f g = record {
  added = f.added ++ g.added;
  log = g.log ∙ ap (λ r. r ++ g.added) f.log ∙ append_assoc a.before.items f.added g.added;
  back = undone_append f.added g.added (known c) ∙ ap (undone f.added) g.back ∙ f.back;
}

pub opened_kept : (a b c : Names) → Opened a b → Kept b c → Opened a c
opened_kept a b c f g = record {
  added = f.added;
  log = g.log ∙ f.log;
  back = ap (undone f.added) g.scope ∙ f.back;
}

pub kept_opened : (a b c : Names) → Kept a b → Opened b c → Opened a c
kept_opened a b c f g = record {
  added = g.added;
  log = g.log ∙ ap (λ r. r ++ g.added) f.log;
  back = g.back ∙ f.scope;
}

-- a name that is bound
pub opened_set : (a b : Names) (name : ℕ) (o : Operand) (m : Meaning) → m.name ≡ name → m.operand ≡ known a name
    → known b ≡ set_meaning name (Some o) (known a) → b.before.items ≡ a.before.items ++ m ∷ [] → Opened a b
opened_set a b name o m n p k e = record {
  added = m ∷ [];
  log = e;
  back = ap (set_meaning m.name m.operand) k ∙ ap (λ x. set_meaning x m.operand (set_meaning name (Some o) (known a))) n
      ∙ ap (λ x. set_meaning name x (set_meaning name (Some o) (known a))) p ∙ set_back name (Some o) (known a);
}

-- where all that was bound since is undone, the same is known as before
pub undone_kept : (a b c : Names) (mark : ℕ) → mark ≡ length a.before.items → Opened a b
    → known c ≡ undone (drop mark b.before.items) (known b) → c.before.items ≡ take mark b.before.items → Kept a c
undone_kept a b c mark e f k t = record {
  scope = k ∙ ap (λ r. undone (drop mark r) (known b)) f.log
      ∙ ap (λ r. undone r (known b)) (drop_first a.before.items f.added mark e) ∙ f.back;
  log = t ∙ ap (take mark) f.log ∙ take_first a.before.items f.added mark e;
}

-- one binding less is left to undo
pub undo_more : (all rest : List Meaning) (m : Meaning) (mark : ℕ) (scope : Scope) → all ≡ rest ++ m ∷ []
    → mark ≤ length rest
    → undone (drop mark rest) (set_meaning m.name m.operand scope) ≡ undone (drop mark all) scope
undo_more all rest m mark scope e le =
    sym (undone_append (drop mark rest) (m ∷ []) scope)
    ∙ ap (λ r. undone r scope) (sym (drop_less rest mark le) ∙ sym (ap (drop mark) e))
  where
    drop_less : (rest : List Meaning) (mark : ℕ) → mark ≤ length rest
        → drop mark (rest ++ m ∷ []) ≡ drop mark rest ++ m ∷ []
    drop_less rest zero le = refl
    drop_less [] (suc mark) le = absurd (omega arith)
    drop_less (x ∷ rest) (suc mark) le = drop_less rest mark (omega arith)

pub take_more : (all rest : List Meaning) (m : Meaning) (mark : ℕ) → all ≡ rest ++ m ∷ [] → mark ≤ length rest
    → take mark rest ≡ take mark all
take_more all rest m mark e le = sym (ap (take mark) e ∙ take_less rest mark le)
  where
    take_less : (rest : List Meaning) (mark : ℕ) → mark ≤ length rest → take mark (rest ++ m ∷ []) ≡ take mark rest
    take_less rest zero le = refl
    take_less [] (suc mark) le = absurd (omega arith)
    take_less (x ∷ rest) (suc mark) le = ap (λ r. x ∷ r) (take_less rest mark (omega arith))
