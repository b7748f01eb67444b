-- The rows of the pass over expressions, by what is known of their elements.
use Rattle.std.proofs.Common.{◌≡◌, ◌≢◌, ◌-◌, ℕ, zero, suc, true, Some, None, refl, ap, ◌∙◌, arith}
use Rattle.grift_base.specs.declared.places.Pos.{Pos}
use Rattle.grift_base.specs.declared.refusals.RefusalKind.TheVariants.{BadForm, TooWide}
use Rattle.form_table.specs.declared.words.Word.{Word}
use Rattle.form_table.specs.declared.words.Word.TheVariants.{Arrow}
use Rattle.form_table.specs.Words.{is_arrow_word}
use Rattle.form_table.specs.Marked.{Sexpr, Sexprs, number, truth_value, word, name, list, ◌▹◌, place, reserved_at}
use Rattle.surface_trees.specs.Trees.{ExprThen}
use Rattle.form_table.specs.Walking.{Reads, Refuses}
use Rattle.form_table.specs.Pass.{then_with, parse, parse_list, parse_within}
use Rattle.surface_syntax.specs.Parts.{parse_call}
use Rattle.form_table.proofs.Public.{reserved_is}

-- ---- so many expressions

pub within_full : (room : ℕ) (e : Sexpr) (rest : Sexprs) (names : ℕ) → room ≡ 0
    → parse_within room (e ▹ rest) names ≡ Refuses TooWide (place e)
within_full zero e rest names h = refl
within_full (suc room) e rest names h = absurd (omega arith)

pub within_more : (room : ℕ) (e : Sexpr) (rest : Sexprs) (names : ℕ) → room ≢ 0
    → parse_within room (e ▹ rest) names
    ≡ then_with (parse e names) (λ expr names. then_with (parse_within (room - 1) rest names)
    (λ exprs names. Reads (ExprThen expr exprs, names)))
within_more zero e rest names h = absurd (h refl)
within_more (suc room) e rest names h =
    let same : room ≡ suc room - 1 = omega arith in
    ap (λ n. then_with (parse e names) (λ expr names. then_with (parse_within n rest names)
    (λ exprs names. Reads (ExprThen expr exprs, names)))) same

-- ---- lists by their heads

pub no_word : (p : Pos) (s : Sexpr) (rest : Sexprs) (names : ℕ) → reserved_at s ≡ None
    → parse_list p (s ▹ rest) names ≡ parse_call p (s ▹ rest) names
no_word p (word q w) rest names e = absurd (let z : ⊥ = cc in z)
no_word p (name q x t) rest names e = refl
no_word p (number q n) rest names e = refl
no_word p (truth_value q b) rest names e = refl
no_word p (list q ds) rest names e = refl

arrow_is : (w : Word) → is_arrow_word w ≡ true → w ≡ Arrow
arrow_is Arrow e = refl
arrow_is w e = absurd (let z : ⊥ = cc in z)

-- `->` heads no expression
pub arrow_heads : (p : Pos) (s : Sexpr) (rest : Sexprs) (w : Word) (names : ℕ) → reserved_at s ≡ Some w
    → is_arrow_word w ≡ true → parse_list p (s ▹ rest) names ≡ Refuses BadForm (place s)
arrow_heads p s rest w names e f =
    ap (λ x. parse_list p (x ▹ rest) names) (reserved_is s Arrow (e ∙ ap (λ w. Some w) (arrow_is w f)))
