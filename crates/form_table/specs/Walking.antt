-- A walk gives an answer or the first refusal.
use Rattle.std.specs.Prelude.{ℕ, Bool, true, false, not, cond, nat_eq, List}
use Rattle.std.specs.List.{list_any}
use Rattle.std.specs.Cmp.Lexicographic.{pointwise}
use Rattle.grift_base.specs.declared.places.Pos.{Pos}
use Rattle.grift_base.specs.declared.refusals.RefusalKind.{RefusalKind}
use Rattle.grift_base.specs.declared.refusals.RefusalKind.TheVariants.{BadForm, RepeatedName, ReservedName}
use Rattle.form_table.specs.Words.{is_colon_word, is_arrow_word, is_lambda_word, is_define_word}
use Rattle.form_table.specs.Marked.{Sexpr, Sexprs, word, name, end, ◌▹◌, place}

pub data Walked (A : Type 0) : Type 0 where
  Reads : A → Walked A
  Refuses : RefusalKind → Pos → Walked A

unfoldable pub followed_by : {A B : Type 0} → Walked A → (A → Walked B) → Walked B
followed_by (Reads a) next = next a
followed_by (Refuses kind p) next = Refuses kind p

abbrev pub ◌>>=◌ : {A B : Type 0} → Walked A → (A → Walked B) → Walked B
◌>>=◌ first next = followed_by first next

abbrev pub ◌>>◌ : {A B : Type 0} → Walked A → Walked B → Walked B
◌>>◌ first next = ◌>>=◌ first (λ done. next)

abbrev pub give : {A : Type 0} → A → Walked A
give a = Reads a

abbrev pub refuse : {A : Type 0} → RefusalKind → Pos → Walked A
refuse kind p = Refuses kind p

-- nothing, or a refusal
abbrev pub test : Bool → RefusalKind → Pos → Walked Bool
test true kind p = Reads true
test false kind p = Refuses kind p

abbrev pub is_some : Sexprs → Bool
is_some end = false
is_some (s ▹ rest) = true

-- where there is at least one
abbrev pub some : Pos → Sexprs → Walked Bool
some p elements = test (is_some elements) BadForm p

-- whether a name is among these
abbrev pub is_among : List (List ℕ) → List ℕ → Bool
is_among seen x = list_any (pointwise nat_eq x) seen

abbrev pub is_colon : Sexpr → Bool
is_colon (word p w) = is_colon_word w
is_colon _ = false

abbrev pub colon : Sexpr → Walked Bool
colon s = test (is_colon s) BadForm (place s)

-- a name that is bound, where these are bound already in its scope
abbrev pub binder : List (List ℕ) → Sexpr → Walked (List ℕ)
binder seen (name p bytes t) = do
  test (not (is_among seen bytes)) RepeatedName p
  give bytes
binder seen (word p w) = refuse ReservedName p
binder seen s = refuse BadForm (place s)

abbrev pub is_arrow_at : Sexpr → Bool
is_arrow_at (word p w) = is_arrow_word w
is_arrow_at _ = false

abbrev pub is_lambda_at : Sexpr → Bool
is_lambda_at (word p w) = is_lambda_word w
is_lambda_at _ = false

abbrev pub is_define_at : Sexpr → Bool
is_define_at (word p w) = is_define_word w
is_define_at _ = false

-- whether this is one element that isn't `->`
abbrev pub is_result : Sexprs → Bool
is_result (t ▹ end) = not (is_arrow_at t)
is_result _ = false

-- whether `->` stands once, as the last element but one
abbrev pub is_arrow : Sexprs → Bool
is_arrow end = false
is_arrow (t ▹ rest) = cond (is_arrow_at t) (is_result rest) (is_arrow rest)
