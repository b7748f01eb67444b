-- The pass is the walk with its answer expanded.
use Rattle.std.proofs.Common.{◌≡◌, ℕ, zero, suc, pos, List, [], ◌∷◌, ◌++◌, refl, ap, ◌∙◌}
use Rattle.std.specs.Prelude.{nat_eq}
use Rattle.grift_base.specs.declared.places.Pos.{Pos}
use Rattle.grift_base.specs.declared.refusals.RefusalKind.TheVariants.{BadForm}
use Rattle.form_table.specs.declared.words.Word.TheVariants.{Lambda, Let, Letrec, If, Begin, And, Or, Repeat, Tuple}
use Rattle.form_table.specs.declared.words.Word.TheVariants.{TupleProj, Colon, Arrow, Operator}
use Rattle.form_table.specs.Words.{operand_count}
use Rattle.form_table.specs.Marked.{Sexpr, Sexprs, number, truth_value, word, name, list, end, ◌▹◌, how_many}
use Rattle.derived_forms.specs.Written.{Form}
use Rattle.form_table.specs.Walking.{Walked, Reads, Refuses, followed_by, test, some, colon, binder}
use Rattle.form_table.specs.Walk.{Range, Bound, walk_type, walk_param_list, walk, walk_list, walk_part, walk_each}
use Rattle.form_table.specs.Walk.{walk_within, walk_lambda, walk_binding, walk_lets, walk_member, walk_lambda_form}
use Rattle.form_table.specs.Walk.{walk_letrecs, walk_range}
use Rattle.derived_forms.specs.Expansion.{Naming, ◌>>=◌ as ◌>>>=◌, give, fresh, loop_names, expand, expand_all}
use Rattle.derived_forms.specs.Expansion.{expand_lambda, expand_lets, expand_letrecs}
use Rattle.form_table.specs.Pass.{Parsing, then_with, paired, named, refuse, ParsedRange, parse, parse_list}
use Rattle.form_table.specs.Pass.{parse_part, parse_each, parse_within, parse_lambda, parse_binding, parse_lets}
use Rattle.form_table.specs.Pass.{parse_member, parse_lambda_form, parse_letrecs, parse_range}

pub fun_ext : {A B : Type 0} {f g : A → B} → ((a : A) → f a ≡ g a) → f ≡ g
fun_ext h = λ i. λ a. h a i

-- what was read, expanded
abbrev pub expanded : {A B : Type 0} → (A → Naming B) → Walked A → Parsing B
expanded f (Reads a) = named (f a)
expanded f (Refuses kind p) = refuse kind p

abbrev expand_bound : {A B : Type 0} → (A → Naming B) → Bound A → Naming (Bound B)
expand_bound f one =
    ◌>>>=◌ (f one.value) (λ value. give (record { name = one.name; written = one.written; value = value }))

abbrev expand_range : Range → Naming ParsedRange
expand_range r = ◌>>>=◌ (expand r.first) (λ first. ◌>>>=◌ (expand r.bound) (λ bound.
    give (record { counter = r.counter; first = first; bound = bound })))

-- ---- one line of the pass after another, as the walk has them

-- a line without fresh names
plain_line : {A C D : Type 0} (g : C → Naming D) (w : Walked A) (next : A → Parsing D) (behind : A → Walked C)
    (now first : ℕ) → ((a : A) → next a now ≡ expanded g (behind a) first)
    → then_with (paired w now) next ≡ expanded g (followed_by w behind) first
unfolding then_with paired followed_by
plain_line g (Reads a) next behind now first h = h a
plain_line g (Refuses kind p) next behind now first h = refl

line_here : {A B C D : Type 0} (f : A → Naming B) (g : C → Naming D) (w : Walked A) (next : B → Parsing D)
    (behind : A → Walked C) (now first : ℕ)
    → ((a : A) → next (f a now).0 (f a now).1 ≡ expanded g (behind a) first)
    → then_with (expanded f w now) next ≡ expanded g (followed_by w behind) first
unfolding then_with followed_by
line_here f g (Reads a) next behind now first h = h a
line_here f g (Refuses kind p) next behind now first h = refl

-- a line whose answer is expanded
line : {A B C D : Type 0} (f : A → Naming B) (g : C → Naming D) (parsed : Parsing B) (w : Walked A)
    (next : B → Parsing D) (behind : A → Walked C) (now first : ℕ) → parsed ≡ expanded f w
    → ((a : A) → next (f a now).0 (f a now).1 ≡ expanded g (behind a) first)
    → then_with (parsed now) next ≡ expanded g (followed_by w behind) first
line {B = B} f g parsed w next behind now first same h =
    ap (λ (m : Parsing B). then_with (m now) next) same ∙ line_here f g w next behind now first h

-- a line that names alone
name_line : {A B : Type 0} (f : Naming A) (next : A → Parsing B) (now : ℕ) (w : Walked (B × ℕ))
    → next (f now).0 (f now).1 ≡ w → then_with (named f now) next ≡ w
unfolding then_with
name_line f next now w h = h

part_is : (p : Pos) (form : Form) (k : Sexpr) (names : ℕ)
    → parse_part p (expand form names).0 k (expand form names).1 ≡ expanded expand (walk_part p form k) names
unfolding ◌>>>=◌
part_is p form (number r (pos k)) names = refl
part_is p form k names = refl

-- ---- each s-expression

mutual
  unfolding ◌>>>=◌

  pub parse_is : (s : Sexpr) → parse s ≡ expanded expand (walk s)
  parse_is (number p n) = refl
  parse_is (truth_value p b) = refl
  parse_is (name p x t) = refl
  parse_is (word p w) = refl
  parse_is (list p elements) = parse_list_is p elements

  pub parse_list_is : (p : Pos) (ds : Sexprs) → parse_list p ds ≡ expanded expand (walk_list p ds)
  parse_list_is p end = refl
  parse_list_is p (word q Arrow ▹ rest) = refl
  parse_list_is p (word q Lambda ▹ rest) =
      fun_ext (λ names. line _ _ _ _ _ _ _ _ (parse_lambda_is p rest) (λ l. refl))
  parse_list_is p (word q Let ▹ list r bindings ▹ body) =
      fun_ext (λ names. plain_line _ (some p body) _ _ _ _ (λ done.
      line _ _ _ _ _ _ _ _ (parse_lets_is [] bindings) (λ ls.
      line _ _ _ _ _ _ _ _ (parse_each_is body) (λ es. refl))))
  parse_list_is p (word q Let ▹ s ▹ body) = fun_ext (λ names. plain_line _ (some p body) _ _ _ _ (λ done. refl))
  parse_list_is p (word q Letrec ▹ list r bindings ▹ body) =
      fun_ext (λ names. plain_line _ (some p body) _ _ _ _ (λ done.
      line _ _ _ _ _ _ _ _ (parse_letrecs_is [] bindings) (λ ls.
      line _ _ _ _ _ _ _ _ (parse_each_is body) (λ es. refl))))
  parse_list_is p (word q Letrec ▹ s ▹ body) = fun_ext (λ names. plain_line _ (some p body) _ _ _ _ (λ done. refl))
  parse_list_is p (word q If ▹ c ▹ t ▹ e ▹ end) =
      fun_ext (λ names. line _ _ _ _ _ _ _ _ (parse_is c) (λ c. line _ _ _ _ _ _ _ _ (parse_is t) (λ t.
      line _ _ _ _ _ _ _ _ (parse_is e) (λ e. refl))))
  parse_list_is p (word q Begin ▹ body) =
      fun_ext (λ names. plain_line _ (some p body) _ _ _ _ (λ done.
      line _ _ _ _ _ _ _ _ (parse_each_is body) (λ es. refl)))
  parse_list_is p (word q Colon ▹ e ▹ t ▹ end) =
      fun_ext (λ names. line _ _ _ _ _ _ _ _ (parse_is e) (λ e. plain_line _ (walk_type t) _ _ _ _ (λ type. refl)))
  parse_list_is p (word q And ▹ operands) =
      fun_ext (λ names. line _ _ _ _ _ _ _ _ (parse_within_is 8 operands) (λ es. refl))
  parse_list_is p (word q Or ▹ operands) =
      fun_ext (λ names. line _ _ _ _ _ _ _ _ (parse_within_is 8 operands) (λ es. refl))
  parse_list_is p (word q Repeat ▹ h ▹ e ▹ end) =
      fun_ext (λ names. line _ _ _ _ _ _ _ _ (parse_range_is h) (λ r.
      line _ _ _ _ _ _ _ _ (parse_is e) (λ e. name_line loop_names _ _ _ refl)))
  parse_list_is p (word q Repeat ▹ h ▹ c ▹ e ▹ end) =
      fun_ext (λ names. line _ _ _ _ _ _ _ _ (parse_range_is h) (λ r.
      line _ _ _ _ _ _ _ _ (parse_binding_is (r.counter ∷ []) c)
      (λ s. line _ _ _ _ _ _ _ _ (parse_is e) (λ e. name_line loop_names _ _ _ (name_line fresh _ _ _ refl)))))
  parse_list_is p (word q Tuple ▹ parts) =
      fun_ext (λ names. plain_line _ (some p parts) _ _ _ _ (λ done.
      line _ _ _ _ _ _ _ _ (parse_within_is 8 parts) (λ es. refl)))
  parse_list_is p (word q TupleProj ▹ e ▹ k ▹ end) =
      fun_ext (λ names. line _ _ _ _ _ _ _ _ (parse_is e) (λ form. part_is p form k names))
  parse_list_is p (word q (Operator o) ▹ operands) =
      fun_ext (λ names. plain_line _ (test (nat_eq (how_many operands) (operand_count o)) BadForm p) _ _ _ _ (λ done.
      line _ _ _ _ _ _ _ _ (parse_each_is operands) (λ es. refl)))
  parse_list_is p (word q w ▹ rest) = refl
  parse_list_is p (f ▹ arguments) =
      fun_ext (λ names. line expand _ (parse f) (walk f) _ _ _ _ (parse_is f) (λ f.
      line _ _ _ _ _ _ _ _ (parse_within_is 6 arguments) (λ es. refl)))

  pub parse_each_is : (ds : Sexprs) → parse_each ds ≡ expanded expand_all (walk_each ds)
  parse_each_is end = refl
  parse_each_is (e ▹ rest) =
      fun_ext (λ names. line _ _ _ _ _ _ _ _ (parse_is e) (λ e.
      line _ _ _ _ _ _ _ _ (parse_each_is rest) (λ es. refl)))

  pub parse_within_is : (room : ℕ) (ds : Sexprs) → parse_within room ds ≡ expanded expand_all (walk_within room ds)
  parse_within_is zero end = refl
  parse_within_is (suc room) end = refl
  parse_within_is zero (e ▹ rest) = refl
  parse_within_is (suc room) (e ▹ rest) =
      fun_ext (λ names. line _ _ _ _ _ _ _ _ (parse_is e) (λ e.
      line _ _ _ _ _ _ _ _ (parse_within_is room rest) (λ es. refl)))

  pub parse_lambda_is : (p : Pos) (ds : Sexprs) → parse_lambda p ds ≡ expanded expand_lambda (walk_lambda p ds)
  parse_lambda_is p (ps ▹ word c Colon ▹ t ▹ body) =
      fun_ext (λ names. plain_line _ (some p body) _ _ _ _ (λ done. plain_line _ (walk_param_list ps) _ _ _ _ (λ params.
      plain_line _ (walk_type t) _ _ _ _ (λ type. line _ _ _ _ _ _ _ _ (parse_each_is body) (λ es. refl)))))
  parse_lambda_is p (ps ▹ word c Colon ▹ end) = refl
  parse_lambda_is p (ps ▹ body) =
      fun_ext (λ names. plain_line _ (some p body) _ _ _ _ (λ done. plain_line _ (walk_param_list ps) _ _ _ _ (λ params.
      line expand_all _ (parse_each body) (walk_each body) _ _ _ _ (parse_each_is body) (λ es. refl))))
  parse_lambda_is p end = refl

  pub parse_binding_is : (seen : List (List ℕ)) (s : Sexpr)
      → parse_binding seen s ≡ expanded (expand_bound expand) (walk_binding seen s)
  parse_binding_is seen (list p (x ▹ e ▹ end)) =
      fun_ext (λ names. plain_line _ (binder seen x) _ _ _ _ (λ bytes. line _ _ _ _ _ _ _ _ (parse_is e) (λ e. refl)))
  parse_binding_is seen (list p (x ▹ c ▹ t ▹ e ▹ end)) =
      fun_ext (λ names. plain_line _ (binder seen x) _ _ _ _ (λ bytes. plain_line _ (colon c) _ _ _ _ (λ done.
      plain_line _ (walk_type t) _ _ _ _ (λ type. line _ _ _ _ _ _ _ _ (parse_is e) (λ e. refl)))))
  parse_binding_is seen s = refl

  pub parse_lets_is : (seen : List (List ℕ)) (ds : Sexprs)
      → parse_lets seen ds ≡ expanded expand_lets (walk_lets seen ds)
  parse_lets_is seen end = refl
  parse_lets_is seen (s ▹ rest) =
      fun_ext (λ names. line _ _ _ _ _ _ _ _ (parse_binding_is seen s) (λ one.
      line _ _ _ _ _ _ _ _ (parse_lets_is (seen ++ one.name ∷ []) rest) (λ others. refl)))

  pub parse_member_is : (seen : List (List ℕ)) (s : Sexpr)
      → parse_member seen s ≡ expanded (expand_bound expand_lambda) (walk_member seen s)
  parse_member_is seen (list p (x ▹ e ▹ end)) =
      fun_ext (λ names. plain_line _ (binder seen x) _ _ _ _ (λ bytes.
      line _ _ _ _ _ _ _ _ (parse_lambda_form_is e) (λ l. refl)))
  parse_member_is seen (list p (x ▹ c ▹ t ▹ e ▹ end)) =
      fun_ext (λ names. plain_line _ (binder seen x) _ _ _ _ (λ bytes. plain_line _ (colon c) _ _ _ _ (λ done.
      plain_line _ (walk_type t) _ _ _ _ (λ type.
      line _ _ _ _ _ _ _ _ (parse_lambda_form_is e) (λ l. refl)))))
  parse_member_is seen s = refl

  pub parse_lambda_form_is : (s : Sexpr) → parse_lambda_form s ≡ expanded expand_lambda (walk_lambda_form s)
  parse_lambda_form_is (list r (word q Lambda ▹ rest)) = parse_lambda_is r rest
  parse_lambda_form_is s = refl

  pub parse_letrecs_is : (seen : List (List ℕ)) (ds : Sexprs)
      → parse_letrecs seen ds ≡ expanded expand_letrecs (walk_letrecs seen ds)
  parse_letrecs_is seen end = refl
  parse_letrecs_is seen (s ▹ rest) =
      fun_ext (λ names. line _ _ _ _ _ _ _ _ (parse_member_is seen s) (λ one.
      line _ _ _ _ _ _ _ _ (parse_letrecs_is (seen ++ one.name ∷ []) rest) (λ others. refl)))

  pub parse_range_is : (s : Sexpr) → parse_range s ≡ expanded expand_range (walk_range s)
  parse_range_is (list r (i_ ▹ a ▹ b ▹ end)) =
      fun_ext (λ names. plain_line _ (binder [] i_) _ _ _ _ (λ counter. line _ _ _ _ _ _ _ _ (parse_is a) (λ first.
      line _ _ _ _ _ _ _ _ (parse_is b) (λ bound. refl))))
  parse_range_is s = refl
