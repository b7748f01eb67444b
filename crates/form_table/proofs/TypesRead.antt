-- The walk reads each type of the table.
use Rattle.std.proofs.Common.{◌≡◌, ◌≤◌, ℕ, zero, suc, true, false, refl, ap, ◌∙◌, arith}
use Rattle.grift_base.specs.declared.places.Pos.{Pos}
use Rattle.grift_base.specs.declared.refusals.RefusalKind.TheVariants.{BadForm}
use Rattle.surface_trees.specs.Trees.{TypeExpr, TypeAt, FunType, TypeExprs, TypeThen, NoTypes}
use Rattle.form_table.specs.declared.words.Word.TheVariants.{Arrow}
use Rattle.form_table.specs.declared.words.TypeWord.TheVariants.{Tuple as TupleWord, Ref, Vect, Rec}
use Rattle.form_table.specs.Marked.{Sexpr, Sexprs, number, truth_value, word, name, list, end, ◌▹◌, how_many}
use Rattle.form_table.specs.Walking.{Walked, Reads, followed_by, give, test, is_arrow, is_arrow_at}
use Rattle.form_table.specs.Walking.{is_result}
use Rattle.form_table.specs.Walk.{Signature, walk_type, walk_types, walk_signature}
use Rattle.form_table.specs.Table.{IsType, is_int, is_bool, is_unit, is_dyn, is_empty, is_tuple, is_ref, is_vect}
use Rattle.form_table.specs.Table.{is_function, AreTypes, no_types, type_then, AreArrow, arrow_to, from_then}
use Rattle.std.specs.Prelude.{not, cond, Some}
use Rattle.form_table.proofs.Steps.{signature_next}
use Rattle.form_table.proofs.Binds.{bind_reads, refused, test_reads}

-- a list whose first element is a type is one of a function
pub function_row : (p : Pos) (t : Sexpr) (rest : Sexprs) (type : TypeExpr) → walk_type t ≡ Reads type
    → walk_type (list p (t ▹ rest)) ≡ followed_by (test (is_arrow (t ▹ rest)) BadForm p)
    (λ done. followed_by (walk_signature 6 (t ▹ rest))
    (λ signature. give (TypeAt p (FunType signature.parameters signature.result))))
function_row p (name q x (Some TupleWord)) rest type e = absurd (refused e)
function_row p (name q x (Some Ref)) rest type e = absurd (refused e)
function_row p (name q x (Some Vect)) rest type e = absurd (refused e)
function_row p (name q x (Some Rec)) rest type e = absurd (refused e)
function_row p t rest type e = refl

not_arrow : (t : Sexpr) (type : TypeExpr) → walk_type t ≡ Reads type → is_arrow_at t ≡ false
not_arrow (word p w) type e = absurd (refused e)
not_arrow (number p n) type e = refl
not_arrow (truth_value p b) type e = refl
not_arrow (name p x t) type e = refl
not_arrow (list p l) type e = refl

arrow_after : (t : Sexpr) (rest : Sexprs) (type : TypeExpr) → walk_type t ≡ Reads type → is_arrow rest ≡ true
    → is_arrow (t ▹ rest) ≡ true
arrow_after t rest type e f = ap (λ b. cond b (is_result rest) (is_arrow rest)) (not_arrow t type e) ∙ f

arrow_end : (q : Pos) (t : Sexpr) (type : TypeExpr) → walk_type t ≡ Reads type
    → is_arrow (word q Arrow ▹ t ▹ end) ≡ true
arrow_end q t type e = ap not (not_arrow t type e)

signature_step : (room : ℕ) (t : Sexpr) (rest : Sexprs) (type : TypeExpr) (signature : Signature)
    → walk_type t ≡ Reads type → walk_signature room rest ≡ Reads signature
    → walk_signature (suc room) (t ▹ rest) ≡ Reads
    (record { parameters = TypeThen type signature.parameters; result = signature.result })
signature_step room t rest type signature e f =
    signature_next room t rest (not_arrow t type e) ∙ bind_reads _ e (bind_reads _ f refl)

abbrev Row : Pos → Sexprs → Walked TypeExpr
Row p ds =
    followed_by (test (is_arrow ds) BadForm p)
    (λ done. followed_by (walk_signature 6 ds)
    (λ signature. give (TypeAt p (FunType signature.parameters signature.result))))

signature_end : (room : ℕ) (q : Pos) (t : Sexpr) (type : TypeExpr) → walk_type t ≡ Reads type
    → walk_signature room (word q Arrow ▹ t ▹ end) ≡ Reads (record { parameters = NoTypes; result = type })
signature_end zero q t type e = bind_reads _ e refl
signature_end (suc room) q t type e = bind_reads _ e refl

two_at_least : {ds : Sexprs} {types : TypeExprs} {result : TypeExpr} → AreArrow ds types result → 2 ≤ how_many ds
two_at_least (arrow_to h) = omega arith
two_at_least (from_then h k) = let more = two_at_least k in omega arith

mutual
  pub type_read : {s : Sexpr} {type : TypeExpr} → IsType s type → walk_type s ≡ Reads type
  type_read is_int = refl
  type_read is_bool = refl
  type_read is_unit = refl
  type_read is_dyn = refl
  type_read is_empty = refl
  type_read (is_tuple h few) = bind_reads _ refl (bind_reads _ (types_read h 8 few) refl)
  type_read (is_ref h) = bind_reads _ (type_read h) refl
  type_read (is_vect h) = bind_reads _ (type_read h) refl
  type_read (is_function {p = p} h few) =
      let others = signature_read h 6 few in
      others.2 p ∙ bind_reads _ (test_reads _ BadForm p others.1) (bind_reads _ others.0 refl)

  pub types_read : {ds : Sexprs} {types : TypeExprs} → AreTypes ds types → (room : ℕ) → how_many ds ≤ room
      → walk_types room ds ≡ Reads types
  types_read no_types zero few = refl
  types_read no_types (suc room) few = refl
  types_read (type_then h k) zero few = absurd (omega arith)
  types_read (type_then h k) (suc room) few =
      bind_reads _ (type_read h) (bind_reads _ (types_read k room (omega arith)) refl)

  signature_read : {ds : Sexprs} {types : TypeExprs} {result : TypeExpr} → AreArrow ds types result → (room : ℕ)
      → how_many ds ≤ suc (suc room) → (walk_signature room ds
      ≡ Reads (record { parameters = types; result = result })) × (is_arrow ds ≡ true)
      × ((p : Pos) → walk_type (list p ds) ≡ Row p ds)
  signature_read (arrow_to {q = q} {t = t} h) room few =
      (signature_end room q t _ (type_read h), arrow_end q t _ (type_read h), λ p. refl)
  signature_read (from_then h k) zero few = let more = two_at_least k in absurd (omega arith)
  signature_read (from_then {t = t} {rest = rest} h k) (suc room) few =
      let others = signature_read k room (omega arith) in (
        signature_step room t rest _ _ (type_read h) others.0,
        arrow_after t rest _ (type_read h) others.1,
        λ p. function_row p t rest _ (type_read h),
      )
