-- What the walk reads as a type is in the table.
use Rattle.std.proofs.Common.{◌≡◌, ◌≤◌, ℕ, zero, suc, true, List, Some, refl}
use Rattle.std.proofs.Common.{subst, arith}
use Rattle.grift_base.specs.declared.places.Pos.{Pos}
use Rattle.grift_base.specs.declared.refusals.RefusalKind.TheVariants.{BadForm}
use Rattle.surface_trees.specs.Trees.{TypeExpr, TypeAt, TupleType, RefType, VectType, TypeExprs}
use Rattle.surface_trees.specs.Trees.{NoTypes}
use Rattle.form_table.specs.declared.words.Word.TheVariants.{Arrow}
use Rattle.form_table.specs.declared.words.TypeWord.TheVariants.{Int, Bool as BoolWord, Unit as UnitWord, Dyn}
use Rattle.form_table.specs.declared.words.TypeWord.TheVariants.{Tuple as TupleWord, Ref, Vect, Rec}
use Rattle.form_table.specs.Marked.{Sexpr, Sexprs, word, name, list, end, ◌▹◌, how_many}
use Rattle.form_table.specs.Walking.{Reads, is_some}
use Rattle.form_table.specs.Walk.{Signature, walk_type, walk_only, walk_types, walk_signature}
use Rattle.form_table.specs.Table.{IsType, is_int, is_bool, is_unit, is_dyn, is_empty, is_tuple, is_ref, is_vect}
use Rattle.form_table.specs.Table.{is_function, AreTypes, no_types, type_then, AreArrow, arrow_to, from_then}
use Rattle.form_table.proofs.Binds.{parts_of, refused, read_is_one, test_holds}

as_type : {s : Sexpr} {a b : TypeExpr} → IsType s a → Reads a ≡ Reads b → IsType s b
as_type {s = s} h e = subst (IsType s) (read_is_one e) h

as_types : {ds : Sexprs} {a b : TypeExprs} → AreTypes ds a → Reads a ≡ Reads b → AreTypes ds b
as_types {ds = ds} h e = subst (AreTypes ds) (read_is_one e) h

as_arrow : {ds : Sexprs} {types : TypeExprs} {result : TypeExpr} {b : Signature} → AreArrow ds types result
    → Reads (record { parameters = types; result = result }) ≡ Reads b → AreArrow ds b.parameters b.result
as_arrow {ds = ds} h e = subst (λ b. AreArrow ds b.parameters b.result) (read_is_one e) h

tuple_of : (p q : Pos) (x : List ℕ) (parts : Sexprs) (types : TypeExprs) → is_some parts ≡ true → AreTypes parts types
    → how_many parts ≤ 8 → IsType (list p (name q x (Some TupleWord) ▹ parts)) (TypeAt p (TupleType types))
tuple_of p q x end types e h few = absurd cc
tuple_of p q x (t ▹ rest) types e h few = is_tuple h few

-- one element, which is this type
abbrev IsOnly : Sexprs → TypeExpr → Type 0
IsOnly (t ▹ end) type = IsType t type
IsOnly _ type = ⊥

ref_found : (p q : Pos) (x : List ℕ) (rest : Sexprs) (type content : TypeExpr) → IsOnly rest content
    → Reads (TypeAt p (RefType content)) ≡ Reads type → IsType (list p (name q x (Some Ref) ▹ rest)) type
ref_found p q x (t ▹ end) type content h e = as_type (is_ref h) e
ref_found p q x end type content h e = absurd h
ref_found p q x (t ▹ u ▹ rest) type content h e = absurd h

vect_found : (p q : Pos) (x : List ℕ) (rest : Sexprs) (type content : TypeExpr) → IsOnly rest content
    → Reads (TypeAt p (VectType content)) ≡ Reads type → IsType (list p (name q x (Some Vect) ▹ rest)) type
vect_found p q x (t ▹ end) type content h e = as_type (is_vect h) e
vect_found p q x end type content h e = absurd h
vect_found p q x (t ▹ u ▹ rest) type content h e = absurd h

result_found : (q : Pos) (rest : Sexprs) (result : TypeExpr) → IsOnly rest result
    → AreArrow (word q Arrow ▹ rest) NoTypes result × (how_many (word q Arrow ▹ rest) ≡ 2)
result_found q (t ▹ end) result h = (arrow_to h, refl)
result_found q end result h = absurd h
result_found q (t ▹ u ▹ rest) result h = absurd h

mutual
  pub type_found : (s : Sexpr) (type : TypeExpr) → walk_type s ≡ Reads type → IsType s type
  type_found (name p x (Some Int)) type e = as_type is_int e
  type_found (name p x (Some BoolWord)) type e = as_type is_bool e
  type_found (name p x (Some UnitWord)) type e = as_type is_unit e
  type_found (name p x (Some Dyn)) type e = as_type is_dyn e
  type_found (list p end) type e = as_type is_empty e
  type_found (list p (name q x (Some TupleWord) ▹ parts)) type e =
      let one = parts_of e in
      let two = parts_of one.2 in
      let h = types_found parts 8 two.0 two.1 in
      as_type (tuple_of p q x parts two.0 (test_holds _ BadForm p one.1) h.0 h.1) two.2
  type_found (list p (name q x (Some Ref) ▹ rest)) type e =
      let one = parts_of e in
      ref_found p q x rest type one.0 (only_found p rest one.0 one.1) one.2
  type_found (list p (name q x (Some Vect) ▹ rest)) type e =
      let one = parts_of e in
      vect_found p q x rest type one.0 (only_found p rest one.0 one.1) one.2
  type_found (list p (name q x (Some Rec) ▹ rest)) type e = absurd (refused e)
  type_found (list p elements) type e =
      let one = parts_of e in
      let two = parts_of one.2 in
      let h = signature_found elements 6 two.0 two.1 in
      as_type (is_function h.0 h.1) two.2
  type_found s type e = absurd (refused e)

  pub types_found : (ds : Sexprs) (room : ℕ) (types : TypeExprs) → walk_types room ds ≡ Reads types
      → AreTypes ds types × (how_many ds ≤ room)
  types_found end zero types e = (as_types no_types e, omega arith)
  types_found end (suc room) types e = (as_types no_types e, omega arith)
  types_found (t ▹ rest) zero types e = absurd (refused e)
  types_found (t ▹ rest) (suc room) types e =
      let one = parts_of e in
      let two = parts_of one.2 in
      let h = types_found rest room two.0 two.1 in
      let few : how_many rest ≤ room = h.1 in
      (as_types (type_then (type_found t one.0 one.1) h.0) two.2, omega arith)

  only_found : (p : Pos) (ds : Sexprs) (type : TypeExpr) → walk_only p ds ≡ Reads type → IsOnly ds type
  only_found p (t ▹ end) type e = type_found t type e
  only_found p end type e = absurd (refused e)
  only_found p (t ▹ u ▹ rest) type e = absurd (refused e)

  pub signature_found : (ds : Sexprs) (room : ℕ) (signature : Signature) → walk_signature room ds ≡ Reads signature
      → AreArrow ds signature.parameters signature.result × (how_many ds ≤ suc (suc room))
  signature_found (word q Arrow ▹ rest) zero signature e =
      let one = parts_of e in
      let h = result_found q rest one.0 (only_found q rest one.0 one.1) in
      let two : how_many (word q Arrow ▹ rest) ≡ 2 = h.1 in
      (as_arrow h.0 one.2, omega arith)
  signature_found (word q Arrow ▹ rest) (suc room) signature e =
      let one = parts_of e in
      let h = result_found q rest one.0 (only_found q rest one.0 one.1) in
      let two : how_many (word q Arrow ▹ rest) ≡ 2 = h.1 in
      (as_arrow h.0 one.2, omega arith)
  signature_found (t ▹ rest) zero signature e = absurd (refused e)
  signature_found (t ▹ rest) (suc room) signature e =
      let one = parts_of e in
      let two = parts_of one.2 in
      let h = signature_found rest room two.0 two.1 in
      let few : how_many rest ≤ suc (suc room) = h.1 in
      (as_arrow (from_then (type_found t one.0 one.1) h.0) two.2, omega arith)
  signature_found end zero signature e = absurd (refused e)
  signature_found end (suc room) signature e = absurd (refused e)
