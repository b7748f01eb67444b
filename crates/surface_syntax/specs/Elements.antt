-- What the elements of a form are, before any of them is read.
use Rattle.std.specs.Prelude.{Option, Some, None}
use Rattle.grift_base.specs.declared.places.Pos.{Pos}
use Rattle.grift_base.specs.declared.refusals.RefusalKind.TheVariants.{BadForm}
use Rattle.form_table.specs.declared.words.Word.TheVariants.{Lambda, Colon}
use Rattle.form_table.specs.Marked.{Sexpr, Sexprs, word, list, end, ◌▹◌, place}
use Rattle.form_table.specs.Walking.{Walked, Reads, Refuses, followed_by, test, some}
use Rattle.form_table.specs.TopWalk.{has_body}

-- the elements of a list
abbrev pub elements : Sexpr → Walked Sexprs
elements (list p ds) = Reads ds
elements s = Refuses BadForm (place s)

abbrev pub two_of : Pos → Sexprs → Walked (Sexpr × Sexpr)
two_of p (a ▹ b ▹ end) = Reads (a, b)
two_of p ds = Refuses BadForm p

-- three elements
pub record Three : Type 0 where
  pub first : Sexpr
  pub second : Sexpr
  pub third : Sexpr

abbrev pub three_of : Pos → Sexprs → Walked Three
three_of p (a ▹ b ▹ c ▹ end) = Reads (record { first = a; second = b; third = c })
three_of p ds = Refuses BadForm p

-- the counter, its first value and the bound in the head of a `repeat`
abbrev pub range_parts : Sexpr → Walked Three
range_parts s = followed_by (elements s) (λ ds. three_of (place s) ds)

-- a list of names that are bound, and the body
abbrev pub names_and_body : Pos → Sexprs → Walked (Sexprs × Sexprs)
names_and_body p end = Refuses BadForm p
names_and_body p (s ▹ body) =
    followed_by (some p body) (λ done. followed_by (elements s) (λ names. Reads (names, body)))

-- the parts of a `repeat`: its head, what is bound to the accumulator if it has one, and the body
pub record RepeatParts : Type 0 where
  pub head : Sexpr
  pub start : Option Sexpr
  pub body : Sexpr

abbrev pub repeat_parts : Pos → Sexprs → Walked RepeatParts
repeat_parts p (h ▹ e ▹ end) = Reads (record { head = h; start = None; body = e })
repeat_parts p (h ▹ s ▹ e ▹ end) = Reads (record { head = h; start = Some s; body = e })
repeat_parts p ds = Refuses BadForm p

-- a name that is bound, `:` and a type where these are written, and what is bound to it
pub record BoundParts : Type 0 where
  pub name : Sexpr
  pub written : Option (Sexpr × Sexpr)
  pub value : Sexpr

abbrev pub bound_parts : Sexpr → Walked BoundParts
bound_parts (list p (x ▹ e ▹ end)) = Reads (record { name = x; written = None; value = e })
bound_parts (list p (x ▹ c ▹ t ▹ e ▹ end)) = Reads (record { name = x; written = Some (c, t); value = e })
bound_parts s = Refuses BadForm (place s)

-- the parameters of a lambda, and what stands behind them
abbrev pub lambda_parts : Pos → Sexprs → Walked (Sexpr × Sexprs)
lambda_parts p end = Refuses BadForm p
lambda_parts p (ps ▹ rest) = followed_by (test (has_body rest) BadForm p) (λ done. Reads (ps, rest))

-- the written type of a lambda's result and the body behind it, where a type is written
abbrev pub typed_body : Pos → Sexprs → Walked (Option (Sexpr × Sexprs))
typed_body p end = Refuses BadForm p
typed_body p (word c Colon ▹ t ▹ body) = Reads (Some (t, body))
typed_body p (word c Colon ▹ end) = Refuses BadForm p
typed_body p (e ▹ rest) = Reads None

-- what stands behind the head of a `lambda` form
abbrev pub behind_lambda : Sexpr → Walked Sexprs
behind_lambda (list r (word q Lambda ▹ rest)) = Reads rest
behind_lambda s = Refuses BadForm (place s)
