-- The forms of the pass, by what their elements are.
use Rattle.std.proofs.Common.{◌≡◌, ℕ, Bool, true, false, List, Some, None, refl, ap, sym, subst, ◌∙◌}
use Rattle.std.specs.Prelude.{pos, nat_eq, Option, Result, Ok, Err}
use Rattle.std.specs.Option.{option_map}
use Rattle.grift_base.specs.declared.refusals.FrontFault.{FrontFault}
use Rattle.grift_base.specs.declared.refusals.FrontFault.TheVariants.{Refused, OutOfMemory}
use Rattle.grift_base.specs.declared.places.Pos.{Pos}
use Rattle.grift_base.specs.declared.refusals.RefusalKind.TheVariants.{BadForm}
use Rattle.form_table.specs.declared.words.Word.{Word}
use Rattle.form_table.specs.declared.words.Word.TheVariants.{Lambda, Let, Letrec, If, Begin, And, Or, Repeat, Tuple}
use Rattle.form_table.specs.declared.words.Word.TheVariants.{TupleProj, Define, Colon, Arrow, Operator}
use Rattle.surface_syntax.specs.declared.operands.Head.TheVariants.{Operator as OperatorHead}
use Rattle.form_table.specs.Words.{is_arrow_word, operand_count}
use Rattle.form_table.specs.Marked.{Sexpr, Sexprs, number, word, name, list, end, ◌▹◌, place}
use Rattle.form_table.specs.Marked.{reserved_at, how_many}
use Rattle.surface_trees.specs.Trees.{Expr, TypeExpr, Param, ExprAt, LambdaNode, AscribeNode}
use Rattle.form_table.specs.Walking.{Walked, Reads, Refuses, followed_by, test, binder, colon}
use Rattle.form_table.specs.Walk.{Bound, walk_type, walk_param_list}
use Rattle.form_table.specs.TopWalk.{has_body}
use Rattle.form_table.specs.Pass.{Parsing, ParsedRange, then_with, paired, parse, parse_list, parse_lambda}
use Rattle.form_table.specs.Pass.{parse_binding, parse_member, parse_lambda_form, parse_range}
use Rattle.surface_syntax.specs.Parts.{parse_behind}
use Rattle.surface_syntax.specs.Forms.{parse_operands, applied_to, headed_of, lambda_from}
use Rattle.surface_syntax.specs.Forms.{body_from, behind_from, function_from, bound_from}
use Rattle.surface_syntax.specs.Forms.{range_from, counted_of, gathered_of, repeat_behind}
use Rattle.form_table.specs.Claims.{Answers, Parses}
use Rattle.form_table.proofs.Public.{reserved_is}
use Rattle.surface_syntax.proofs.FormRows.{lambda_lacks, lambda_has}

-- ---- lines without fresh names, one after another

-- what is read, in another form, and that in another
plain_as : {A B C D : Type 0} (w : Walked A) (f : A → B) (g : B → C) (next : C → Parsing D) (names : ℕ)
    → then_with (paired w names) (λ a names. next (g (f a)) names)
    ≡ then_with (paired (followed_by (followed_by w (λ a. Reads (f a))) (λ b. Reads (g b))) names) next
unfolding then_with paired followed_by
plain_as (Reads a) f g next names = refl
plain_as (Refuses kind p) f g next names = refl

-- the last line
plain_last : {A B C : Type 0} (first : Walked (A × ℕ)) (w : Walked C) (f : A → C → B)
    → then_with first (λ a names. then_with (paired w names) (λ c names. Reads (f a c, names)))
    ≡ then_with first (λ a names. paired (followed_by w (λ c. Reads (f a c))) names)
unfolding then_with paired followed_by
plain_last (Refuses kind p) w f = refl
plain_last (Reads done) (Refuses kind p) f = refl
plain_last (Reads done) (Reads c) f = refl

-- a test, and what is known where it holds
plain_test : {A C : Type 0} (b : Bool) (p : Pos) (a : A) (next : A → Parsing C) (names : ℕ)
    → then_with (paired (test b BadForm p) names) (λ done. next a)
    ≡ then_with (paired (followed_by (test b BadForm p) (λ done. Reads a)) names) next
unfolding then_with paired followed_by
plain_test true p a next names = refl
plain_test false p a next names = refl

-- a name and its written type
plain_typed : {A B : Type 0} (x : Walked (List ℕ)) (c : Walked Bool) (t : Walked TypeExpr)
    (g : List ℕ × Option TypeExpr → B) (next : B → Parsing A) (names : ℕ)
    → then_with (paired x names) (λ bytes names. then_with (paired c names) (λ done names.
    then_with (paired t names) (λ type names. next (g (bytes, Some type)) names)))
    ≡ then_with (paired (followed_by (followed_by x (λ bytes. followed_by (followed_by c (λ done. followed_by t
    (λ type. Reads (Some type)))) (λ type. Reads (bytes, type)))) (λ known. Reads (g known))) names) next
unfolding then_with paired followed_by
plain_typed (Refuses kind p) c t g next names = refl
plain_typed (Reads x) (Refuses kind p) t g next names = refl
plain_typed (Reads x) (Reads c) (Refuses kind p) g next names = refl
plain_typed (Reads x) (Reads c) (Reads t) g next names = refl

-- ---- lambdas

lambda_parted : (p : Pos) (ps : Sexpr) (rest : Sexprs) (names : ℕ) (b : Bool) → has_body rest ≡ b
    → parse_lambda p (ps ▹ rest) names
    ≡ then_with {A = Sexpr × Sexprs} (paired (followed_by (test b BadForm p) (λ done. Reads (ps, rest))) names)
    (λ parts names. then_with (paired (walk_param_list parts.0) names)
    (λ params names. parse_behind p params parts.1 names))
unfolding then_with paired followed_by
lambda_parted p ps rest names true e = lambda_has p ps rest names e
lambda_parted p ps rest names false e = lambda_lacks p ps rest names e

pub lambda_row : (p : Pos) (ds : Sexprs) (names : ℕ) → parse_lambda p ds names ≡ lambda_from p ds names
unfolding then_with paired
lambda_row p end names = refl
lambda_row p (ps ▹ rest) names = lambda_parted p ps rest names (has_body rest) refl

pub behind_row : (p : Pos) (params : List Param) (ds : Sexprs) (names : ℕ)
    → parse_behind p params ds names ≡ behind_from p params ds names
unfolding then_with paired followed_by
behind_row p params (word q Colon ▹ end) names = refl
behind_row p params (word q Colon ▹ t ▹ body) names = refl
behind_row p params ds names = refl

pub function_row : (s : Sexpr) (names : ℕ) → parse_lambda_form s names ≡ function_from s names
unfolding then_with paired
function_row (list r (word q Lambda ▹ rest)) names = lambda_row r rest names
function_row s names = refl

-- ---- the forms of words

-- the form that a word other than `->` heads
headed_row : (p q : Pos) (w : Word) (rest : Sexprs) (names : ℕ) → is_arrow_word w ≡ false
    → parse_list p (word q w ▹ rest) names ≡ headed_of w p rest names
unfolding then_with paired followed_by
headed_row p q Lambda rest names e =
    ap (λ w. then_with w (λ lambda names. Reads (ExprAt p (LambdaNode lambda), names))) (lambda_row p rest names)
headed_row p q Let end names e = refl
headed_row p q Let (list r ds ▹ end) names e = refl
headed_row p q Let (list r ds ▹ s ▹ more) names e = refl
headed_row p q Let (s ▹ end) names e = refl
headed_row p q Let (s ▹ t ▹ more) names e = refl
headed_row p q Letrec end names e = refl
headed_row p q Letrec (list r ds ▹ end) names e = refl
headed_row p q Letrec (list r ds ▹ s ▹ more) names e = refl
headed_row p q Letrec (s ▹ end) names e = refl
headed_row p q Letrec (s ▹ t ▹ more) names e = refl
headed_row p q If (a ▹ b ▹ c ▹ end) names e = refl
headed_row p q If rest names e = refl
headed_row p q Begin end names e = refl
headed_row p q Begin rest names e = refl
headed_row p q And rest names e = refl
headed_row p q Or rest names e = refl
headed_row p q Repeat (a ▹ b ▹ c ▹ end) names e = refl
headed_row p q Repeat rest names e = refl
headed_row p q Tuple end names e = refl
headed_row p q Tuple rest names e = refl
headed_row p q TupleProj (a ▹ (number r (pos k)) ▹ end) names e = refl
headed_row p q TupleProj (a ▹ k ▹ end) names e = refl
headed_row p q TupleProj rest names e = refl
headed_row p q Define rest names e = refl
headed_row p q Colon (a ▹ t ▹ end) names e =
    plain_last (parse a names) (walk_type t) (λ expr type. ExprAt p (AscribeNode expr type))
headed_row p q Colon rest names e = refl
headed_row p q Arrow rest names e = absurd (let z : ⊥ = cc in z)
headed_row p q (Operator o) rest names e =
    plain_test (nat_eq (how_many rest) (operand_count o)) p None
    (λ room names. then_with (parse_operands room rest names)
    (λ exprs names. Reads (applied_to (OperatorHead o) p exprs, names))) names

-- what is answered where a word is this one
pub headed_by : {R : Type 0} (result : Result R FrontFault) (view : R → Expr) (new : ℕ) (w v : Word) (p : Pos)
    (rest : Sexprs) (names : ℕ)
    → w ≡ v → Parses result view new (headed_of v p rest names) → Parses result view new (headed_of w p rest names)
headed_by result view new w v p rest names e h =
    subst (λ w. Parses result view new (headed_of w p rest names)) (sym e) h

-- a list that begins with a word other than `->`
pub list_row : (p : Pos) (s : Sexpr) (rest : Sexprs) (w : Word) (names : ℕ) → reserved_at s ≡ Some w
    → is_arrow_word w ≡ false → parse_list p (s ▹ rest) names ≡ headed_of w p rest names
list_row p s rest w names e f =
    ap (λ x. parse_list p (x ▹ rest) names) (reserved_is s w e) ∙ headed_row p (place s) w rest names f

-- ---- names that are bound

-- what is read of what is bound to a name
abbrev valued : {A : Type 0} → (Sexpr → Parsing A) → (List ℕ × Option TypeExpr) × Sexpr → Parsing (Bound A)
valued read bound names =
    then_with (read bound.1 names) (λ value names. Reads (
      record {
        name = bound.0.0;
        written = bound.0.1;
        value = value;
      },
      names,
    ))

-- without a written type, and with one
bare_row : {A : Type 0} (read : Sexpr → Parsing A) (seen : List (List ℕ)) (r : Pos) (x e : Sexpr) (names : ℕ)
    → then_with (paired (binder seen x) names) (λ bytes. valued read ((bytes, None), e))
    ≡ bound_from read seen (list r (x ▹ e ▹ end)) names
unfolding then_with paired followed_by
bare_row read seen r x e names =
    plain_as (binder seen x) (λ name. (name, None)) (λ known. (known, e)) (valued read) names

typed_row : {A : Type 0} (read : Sexpr → Parsing A) (seen : List (List ℕ)) (r : Pos) (x c t e : Sexpr) (names : ℕ)
    → then_with (paired (binder seen x) names) (λ bytes names. then_with (paired (colon c) names) (λ done names.
    then_with (paired (walk_type t) names) (λ type. valued read ((bytes, Some type), e))))
    ≡ bound_from read seen (list r (x ▹ c ▹ t ▹ e ▹ end)) names
unfolding then_with paired followed_by
typed_row read seen r x c t e names =
    plain_typed (binder seen x) (colon c) (walk_type t) (λ known. (known, e)) (valued read) names

pub binding_row : (seen : List (List ℕ)) (s : Sexpr) (names : ℕ)
    → parse_binding seen s names ≡ bound_from parse seen s names
unfolding then_with paired followed_by
binding_row seen (list r (x ▹ e ▹ end)) names = bare_row parse seen r x e names
binding_row seen (list r (x ▹ c ▹ t ▹ e ▹ end)) names = typed_row parse seen r x c t e names
binding_row seen s names = refl

pub member_row : (seen : List (List ℕ)) (s : Sexpr) (names : ℕ)
    → parse_member seen s names ≡ bound_from parse_lambda_form seen s names
unfolding then_with paired followed_by
member_row seen (list r (x ▹ e ▹ end)) names = bare_row parse_lambda_form seen r x e names
member_row seen (list r (x ▹ c ▹ t ▹ e ▹ end)) names = typed_row parse_lambda_form seen r x c t e names
member_row seen s names = refl

-- ---- the head of a `repeat`

pub range_row : (s : Sexpr) (names : ℕ) → parse_range s names ≡ range_from s names
unfolding then_with paired followed_by
range_row (list r (a ▹ b ▹ c ▹ end)) names = refl
range_row s names = refl

-- ---- what the readers answer

-- a call without fresh names, as the last line
pub plain_answers : {A R : Type 0} (result : Result R FrontFault) (view : R → A) (w : Walked A) (names : ℕ)
    → Answers result view w → Parses result view names (paired w names)
unfolding paired
plain_answers (Ok r) view w names h = ap (λ w. paired w names) h
plain_answers (Err (Refused refusal)) view w names h = ap (λ w. paired w names) h
plain_answers (Err OutOfMemory) view w names h = tt

pub none_of : {A : Type 0} (o : Option A) → ((a : A) → o ≡ Some a → ⊥) → o ≡ None
none_of None f = refl
none_of (Some a) f = absurd (f a refl)

-- a `repeat` without an accumulator
pub counted_here : {A : Type 0} (f : A → Sexpr) (o : Option A) (p : Pos) (range : ParsedRange) (body : Sexpr)
    (names : ℕ) → o ≡ None
    → repeat_behind p range (option_map f o) body names ≡ counted_of p range body names
counted_here f o p range body names e = ap (λ o. repeat_behind p range (option_map f o) body names) e

-- a `repeat` with an accumulator
pub gathered_here : {A : Type 0} (f : A → Sexpr) (o : Option A) (a : A) (p : Pos) (range : ParsedRange) (body : Sexpr)
    (names : ℕ) → o ≡ Some a
    → repeat_behind p range (option_map f o) body names ≡ gathered_of p range (f a) body names
gathered_here f o a p range body names e = ap (λ o. repeat_behind p range (option_map f o) body names) e

-- a lambda without a written type of its result
pub plain_body : {A : Type 0} (f : A → Sexpr × Sexprs) (o : Option A) (p : Pos) (params : List Param) (ds : Sexprs)
    (names : ℕ) → o ≡ None
    → body_from p params (option_map f o) ds names ≡ body_from p params None ds names
plain_body f o p params ds names e = ap (λ o. body_from p params (option_map f o) ds names) e

-- a lambda with the written type of its result
pub typed_here : {A : Type 0} (f : A → Sexpr × Sexprs) (o : Option A) (a : A) (p : Pos) (params : List Param)
    (ds : Sexprs) (names : ℕ) → o ≡ Some a
    → body_from p params (option_map f o) ds names ≡ body_from p params (Some (f a)) ds names
typed_here f o a p params ds names e = ap (λ o. body_from p params (option_map f o) ds names) e
