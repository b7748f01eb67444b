-- The reader's own types as plain data, for the contracts of its private functions.
use Rattle.surface_syntax.specs.declared.type_forms.Signature.{Signature as RustSignature}
use Rattle.std.specs.Prelude.{ℕ, ℤ, pos, List, [], ◌∷◌, Some, None}
use Rattle.std.specs.Global.{Box}
use Rattle.grift_base.specs.declared.places.Pos.{Pos}
use Rattle.grift_base.specs.declared.refusals.RefusalKind.TheVariants.{BadForm}
use Rattle.surface_syntax.specs.declared.type_forms.TypeHead.{TypeHead}
use Rattle.surface_syntax.specs.declared.type_forms.TypeHead.TheVariants.{Tuple as TupleHead, Ref as RefHead}
use Rattle.surface_syntax.specs.declared.type_forms.TypeHead.TheVariants.{Vect as VectHead, Rec as RecHead, Other}
use Rattle.form_table.specs.declared.words.TypeWord.{TypeWord}
use Rattle.form_table.specs.declared.words.TypeWord.TheVariants.{Tuple, Ref, Vect, Rec}
use Rattle.derived_forms.specs.declared.loops.Range.{Range as RustRange}
use Rattle.surface_trees.specs.declared.exprs.Expr.{Expr as RustExpr}
use Rattle.surface_trees.specs.declared.exprs.Binding.{Binding as RustBinding}
use Rattle.surface_trees.specs.declared.exprs.Member.{Member as RustMember}
use Rattle.form_table.specs.declared.words.Word.TheVariants.{Colon}
use Rattle.form_table.specs.Marked.{Sexpr, Sexprs, number, word, name, end, ◌▹◌, place}
use Rattle.surface_trees.specs.Trees.{TypeExpr, TypeAt, FunType, TupleType, RefType, VectType, Expr, ExprAt, CallNode}
use Rattle.surface_trees.specs.Trees.{LambdaExpr, LambdaAt, Exprs, ExprThen, LetBindings, LetThen, LetrecMembers}
use Rattle.surface_trees.specs.Trees.{LetrecThen, Param}
use Rattle.form_table.specs.Walk.{Signature, Bound, walk_type, walk_only, walk_types, walk_signature}
use Rattle.form_table.specs.Walking.{Walked, Reads, Refuses, followed_by, test, some, is_arrow, binder, colon}
use Rattle.form_table.specs.Pass.{Parsing, ParsedRange, ◌>>=◌, give, refuse, plain, parse, parse_each}
use Rattle.form_table.specs.Pass.{parse_within}
use Rattle.surface_trees.specs.Views.{type_of, types_of, source_of, expr_of, name_of_binding, type_of_binding}
use Rattle.surface_trees.specs.Views.{value_of_binding, name_of_member, type_of_member, fun_of_member}

abbrev pub signature_of : RustSignature → Signature
signature_of s = record { parameters = types_of s.parameters; result = type_of s.result }

abbrev pub head_of_word : TypeWord → TypeHead
head_of_word Tuple = TupleHead
head_of_word Ref = RefHead
head_of_word Vect = VectHead
head_of_word Rec = RecHead
head_of_word _ = Other

-- which type a list with this first element writes
abbrev pub type_head : Sexpr → TypeHead
type_head (name p x (Some w)) = head_of_word w
type_head _ = Other

-- the type of a list with this head
abbrev pub headed_type : TypeHead → Pos → Sexprs → Walked TypeExpr
headed_type head p end = Refuses BadForm p
headed_type TupleHead p (s ▹ parts) =
    followed_by (some p parts) (λ done. followed_by (walk_types 8 parts) (λ types. Reads (TypeAt p (TupleType types))))
headed_type RefHead p (s ▹ rest) = followed_by (walk_only p rest) (λ content. Reads (TypeAt p (RefType content)))
headed_type VectHead p (s ▹ rest) = followed_by (walk_only p rest) (λ content. Reads (TypeAt p (VectType content)))
headed_type RecHead p (s ▹ rest) = Refuses BadForm p
headed_type Other p (s ▹ rest) =
    followed_by (test (is_arrow (s ▹ rest)) BadForm p) (λ done. followed_by (walk_signature 6 (s ▹ rest)) (λ signature.
    Reads (TypeAt p (FunType signature.parameters signature.result))))

-- ---- expressions

-- what is on the heap, seen as this
abbrev pub in_box : {A B : Type 0} → (A → B) → Box A → B
in_box view b = view b.value

-- a call whose function is no reserved word
abbrev pub parse_call : Pos → Sexprs → Parsing Expr
parse_call p end = refuse BadForm p
parse_call p (f ▹ arguments) = do
  function ← parse f
  exprs ← parse_within 6 arguments
  give (ExprAt p (CallNode function exprs))

-- the number of a tuple's part
abbrev pub part_number : Sexpr → Walked ℤ
part_number (number r (pos k)) = Reads (pos k)
part_number s = Refuses BadForm (place s)

-- a name that is bound, `:` and a type
abbrev pub typed_name : List (List ℕ) → Sexpr → Sexpr → Sexpr → Walked (List ℕ × TypeExpr)
typed_name seen x c t =
    followed_by (binder seen x) (λ bytes. followed_by (colon c) (λ done. followed_by (walk_type t) (λ type.
    Reads (bytes, type))))

-- a lambda with these parameters, from what stands behind them
abbrev pub parse_behind : Pos → List Param → Sexprs → Parsing LambdaExpr
parse_behind p params (word c Colon ▹ t ▹ body) = do
  result ← plain (walk_type t)
  exprs ← parse_each body
  give (LambdaAt p params (Some result) exprs)
parse_behind p params (word c Colon ▹ end) = refuse BadForm p
parse_behind p params (e ▹ rest) = do
  exprs ← parse_each (e ▹ rest)
  give (LambdaAt p params None exprs)
parse_behind p params end = refuse BadForm p

abbrev pub range_of : RustRange → ParsedRange
range_of r = record { counter = r.counter; first = expr_of r.first.value; bound = expr_of r.bound.value }

abbrev pub bound_of : RustBinding → Bound Expr
bound_of b = record {
  name = source_of (name_of_binding b);
  written = type_of_binding b;
  value = value_of_binding b;
}

abbrev pub member_of : RustMember → Bound LambdaExpr
member_of m = record {
  name = source_of (name_of_member m);
  written = type_of_member m;
  value = fun_of_member m;
}

-- ---- lists from vectors

abbrev pub exprs_before : List (Box RustExpr) → Exprs → Exprs
exprs_before [] rest = rest
exprs_before (e ∷ es) rest = ExprThen (expr_of e.value) (exprs_before es rest)

abbrev pub lets_before : List (Box RustBinding) → LetBindings → LetBindings
lets_before [] rest = rest
lets_before (b ∷ bs) rest =
    LetThen (name_of_binding b.value) (type_of_binding b.value) (value_of_binding b.value) (lets_before bs rest)

abbrev pub letrecs_before : List (Box RustMember) → LetrecMembers → LetrecMembers
letrecs_before [] rest = rest
letrecs_before (m ∷ ms) rest =
    LetrecThen (name_of_member m.value) (type_of_member m.value) (fun_of_member m.value) (letrecs_before ms rest)
