-- How deep the expression of a program is, and which fresh names it binds.
use Rattle.std.proofs.Common.{◌≡◌, ◌≤◌, ◌+◌, ◌*◌, ℕ, suc, max, List, [], ◌∷◌, length, Option, refl}
use Rattle.std.proofs.Common.{ap, ap₂, arith}
use Rattle.std.proofs.lemmas.Bool.Decides.{nat_tests}
use Rattle.grift_base.specs.declared.places.Pos.{Pos}
use Rattle.sexpr_reader.specs.Datum.{Datum, leaf_datum, list_datum, integer, truth, symbol, Datums, no_datums}
use Rattle.sexpr_reader.specs.Datum.{datum_then, depth as datum_depth, depth_of as datums_depth}
use Rattle.form_table.specs.declared.words.Mark.{Mark}
use Rattle.form_table.specs.declared.words.Mark.TheVariants.{Reserved, Free}
use Rattle.form_table.specs.Words.{mark_of}
use Rattle.form_table.specs.Marked.{Sexpr, Sexprs, how_many, marked, all_marked, marked_symbol}
use Rattle.surface_trees.specs.Trees.{TypeExpr}
use Rattle.derived_forms.specs.Written.{Top}
use Rattle.derived_forms.specs.Expansion.{◌>>=◌, Part, ExprPart, ValuePart, FunctionPart, expand_top, expand_tops}
use Rattle.derived_forms.specs.Expansion.{Rest, Alone, Run, closed, before, ending, joined, whole, expand_program}
use Rattle.form_table.specs.TopTable.{IsBound, function_bound, value_bound, IsTop, function_row, define_row}
use Rattle.form_table.specs.TopTable.{typed_define_row, expression_row, AreTops, no_tops, top_then}
use Rattle.form_table.specs.Depth.{depth, depth_of_lambda}
use Rattle.form_table.specs.Freshness.{times, times_in_lambda, is_below, BindsFreshOnce}
use Rattle.form_table.proofs.Sound.{brackets, brackets_of, Fits, form_fits, lambda_fits}

-- ---- depths of s-expressions

symbol_brackets : (p : Pos) (x : List ℕ) (m : Mark) → brackets (marked_symbol p x m) ≡ 0
symbol_brackets p x (Reserved w) = refl
symbol_brackets p x (Free t) = refl

mutual
  brackets_are : (d : Datum) → brackets (marked d) ≡ datum_depth d
  brackets_are (leaf_datum p (integer n)) = refl
  brackets_are (leaf_datum p (truth b)) = refl
  brackets_are (leaf_datum p (symbol x)) = symbol_brackets p x (mark_of x)
  brackets_are (list_datum p ds) = ap (λ n. 1 + n) (brackets_of_are ds)

  pub brackets_of_are : (ds : Datums) → brackets_of (all_marked ds) ≡ datums_depth ds
  brackets_of_are no_datums = refl
  brackets_of_are (datum_then d ds) = ap₂ max (brackets_are d) (brackets_of_are ds)

-- ---- forms of a program

abbrev part_depth : Part → ℕ
part_depth (ExprPart p e) = depth e
part_depth (ValuePart p x t e) = depth e
part_depth (FunctionPart p x t l) = depth_of_lambda l

abbrev part_times : ℕ → Part → ℕ
part_times k (ExprPart p e) = times k e
part_times k (ValuePart p x t e) = times k e
part_times k (FunctionPart p x t l) = times_in_lambda k l

abbrev parts_depth : List Part → ℕ
parts_depth [] = 0
parts_depth (part ∷ rest) = max (part_depth part) (parts_depth rest)

abbrev parts_times : ℕ → List Part → ℕ
parts_times k [] = 0
parts_times k (part ∷ rest) = part_times k part + parts_times k rest

abbrev TopFits : ℕ → ℕ → Sexpr → Top → Type 0
TopFits k n s top =
    let done = expand_top top n in Fits (7 * brackets s + 1) (part_depth done.0) k (part_times k done.0) n done.1

bound_fits : (k n : ℕ) {p : Pos} {x : List ℕ} {t : Option TypeExpr} {e : Sexpr} {top : Top} → IsBound p x t e top
    → TopFits k n e top
unfolding ◌>>=◌
bound_fits k n (function_bound h) =
    let l = lambda_fits k n h in record { shallow = omega arith; once = omega arith }
bound_fits k n (value_bound h other) =
    let one = form_fits k n h in record { shallow = omega arith; once = omega arith }

top_fits : (k n : ℕ) {s : Sexpr} {top : Top} → IsTop s top → TopFits k n s top
unfolding ◌>>=◌
top_fits k n (function_row x h) =
    let l = lambda_fits k n h in record { shallow = omega arith; once = omega arith }
top_fits k n (define_row x h) =
    let one = bound_fits k n h in record { shallow = omega arith; once = omega arith }
top_fits k n (typed_define_row x t h) =
    let one = bound_fits k n h in record { shallow = omega arith; once = omega arith }
top_fits k n (expression_row h) =
    let one = form_fits k n h in record { shallow = omega arith; once = omega arith }

record TopsFit (k n : ℕ) (ds : Sexprs) (tops : List Top) : Type 0 where
  shallow : parts_depth (expand_tops tops n).0 ≤ 7 * brackets_of ds + 1
  once : parts_times k (expand_tops tops n).0 + is_below k n ≡ is_below k (expand_tops tops n).1
  count : length (expand_tops tops n).0 ≡ how_many ds

tops_fit : (k n : ℕ) {ds : Sexprs} {tops : List Top} → AreTops ds tops → TopsFit k n ds tops
unfolding ◌>>=◌
tops_fit k n no_tops = record { shallow = omega arith; once = omega arith; count = refl }
tops_fit k n (top_then {top = top} h hs) =
    let one = top_fits k n h in
    let others = tops_fit k (expand_top top n).1 hs in
    record { shallow = omega arith; once = omega arith; count = omega arith }

-- ---- forms put together

before_shallow : (part : Part) (rest : Rest) (limit more : ℕ) → part_depth part ≤ limit
    → depth (closed rest) ≤ limit + more → depth (closed (before part rest)) ≤ limit + suc more
before_shallow (ExprPart p e) rest limit more h k = omega arith
before_shallow (ValuePart p x t e) rest limit more h k = omega arith
before_shallow (FunctionPart p x t l) (Alone body) limit more h k = omega arith
before_shallow (FunctionPart p x t l) (Run q members body) limit more h k = omega arith

before_times : (k : ℕ) (part : Part) (rest : Rest)
    → times k (closed (before part rest)) ≡ part_times k part + times k (closed rest)
before_times k (ExprPart p e) rest = omega arith
before_times k (ValuePart p x t e) rest = omega arith
before_times k (FunctionPart p x t l) (Alone body) = omega arith
before_times k (FunctionPart p x t l) (Run q members body) = omega arith

ending_shallow : (part : Part) (limit : ℕ) → part_depth part ≤ limit → 1 ≤ limit
    → depth (closed (ending part)) ≤ limit + 1
ending_shallow (ExprPart p e) limit h one = omega arith
ending_shallow (ValuePart p x t e) limit h one = omega arith
ending_shallow (FunctionPart p x t l) limit h one = omega arith

ending_times : (k : ℕ) (part : Part) → times k (closed (ending part)) ≡ part_times k part
ending_times k (ExprPart p e) = refl
ending_times k (ValuePart p x t e) = omega arith
ending_times k (FunctionPart p x t l) = omega arith

joined_shallow : (part : Part) (rest : List Part) (limit : ℕ) → parts_depth (part ∷ rest) ≤ limit → 1 ≤ limit
    → depth (closed (joined part rest)) ≤ limit + length (part ∷ rest)
joined_shallow part [] limit h one = let deep = ending_shallow part limit (omega arith) one in omega arith
joined_shallow part (next ∷ rest) limit h one =
    let deep = before_shallow part (joined next rest) limit (length (next ∷ rest)) (omega arith)
    (joined_shallow next rest limit (omega arith) one) in
    omega arith

joined_times : (k : ℕ) (part : Part) (rest : List Part)
    → times k (closed (joined part rest)) ≡ parts_times k (part ∷ rest)
joined_times k part [] = let last = ending_times k part in omega arith
joined_times k part (next ∷ rest) =
    let behind = joined_times k next rest in
    let here = before_times k part (joined next rest) in
    omega arith

whole_shallow : (parts : List Part) (limit : ℕ) → parts_depth parts ≤ limit → 1 ≤ limit
    → depth (whole parts) ≤ limit + length parts
whole_shallow [] limit h one = omega arith
whole_shallow (part ∷ rest) limit h one = joined_shallow part rest limit h one

whole_times : (k : ℕ) (parts : List Part) → times k (whole parts) ≡ parts_times k parts
whole_times k [] = refl
whole_times k (part ∷ rest) = joined_times k part rest

below_none : (k : ℕ) → is_below k 0 ≡ 0
below_none k = grind (arith, nat_tests)

pub program_shallow : {ds : Sexprs} {tops : List Top} → AreTops ds tops
    → depth (expand_program tops) ≤ 7 * brackets_of ds + how_many ds + 1
program_shallow {ds = ds} {tops = tops} h =
    let fit = tops_fit 0 0 h in
    let deep = whole_shallow (expand_tops tops 0).0 (7 * brackets_of ds + 1) fit.shallow (omega arith) in
    omega arith

pub program_fresh : {ds : Sexprs} {tops : List Top} → AreTops ds tops → BindsFreshOnce (expand_program tops)
program_fresh {ds = ds} {tops = tops} h = (
  (expand_tops tops 0).1,
  λ k.
      let fit = tops_fit k 0 h in
      let all = whole_times k (expand_tops tops 0).0 in
      let none = below_none k in
      omega arith,
)
