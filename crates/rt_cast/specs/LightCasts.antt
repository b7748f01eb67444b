-- Casts that make no proxy and no coercion but a Fail, and what they ask for and cost, whatever heights types have.
use Rattle.std.specs.Prelude.{ℕ, if◌then◌else◌, Bool, true, false, ◌&&◌, ◌||◌, not, Option, Some, None}
use Rattle.grift_base.specs.Types.{TypeRow, same_head}
use Rattle.coercion_norm.specs.declared.middles.MiddleKind.{MiddleKind as Kind}
use Rattle.coercion_norm.specs.Coercions.{Coercion, Id, Fail, Middle, Inject, Project, kind_of}
use Rattle.coercion_norm.specs.Held.{Layout, rows_in}
use Rattle.rt_cast.specs.Costs.{cast_words, cast_price}
use Rattle.rt_cast.specs.MergedValues.{Merged, Base, Solid, Proxied, InDyn}

-- Id or a Fail
abbrev pub is_simple : Coercion → Bool
is_simple Id = true
is_simple (Fail label) = true
is_simple (Middle kind parts) = false
is_simple (Inject g kept) = false
is_simple (Project wanted label i) = false

-- one of these, or one of these before Dyn
abbrev pub ends_simply : Coercion → Bool
ends_simply Id = true
ends_simply (Fail label) = true
ends_simply (Middle kind parts) = false
ends_simply (Inject g kept) = is_simple g
ends_simply (Project wanted label i) = false

abbrev pub has_none : Option Kind → Bool
has_none None = true
has_none (Some kind) = false

-- no middle stands between these types: their heads differ, or have no parts
abbrev pub has_no_middle : TypeRow → TypeRow → Bool
has_no_middle from to = not (same_head from to) || has_none (kind_of from)

-- no middle meets the value, and none is made for it; out of Dyn between different heads it comes to a blame, whatever
-- stands behind the Project
abbrev pub is_light : {A : Type 0} → (ℕ → TypeRow) → Coercion → Merged A → Bool
is_light rows Id u = true
is_light rows (Fail label) u = true
is_light rows (Middle kind parts) u = false
is_light rows (Inject g kept) u = is_simple g
is_light rows (Project wanted label i) (Base head x) = false
is_light rows (Project wanted label i) (Solid a) = false
is_light rows (Project wanted label i) (Proxied a c) = false
is_light rows (Project wanted label i) (InDyn kept u) =
    not (same_head (rows kept) (rows wanted)) || (has_none (kind_of (rows kept)) && ends_simply i)

-- a value in Dyn has three words, and a Fail that is made on opening one two
abbrev pub light_words : Coercion → ℕ
light_words Id = 0
light_words (Fail label) = 0
light_words (Middle kind parts) = 0
light_words (Inject g kept) = 3
light_words (Project wanted label i) = 5

abbrev pub light_price : Coercion → ℕ
light_price Id = 20
light_price (Fail label) = 39
light_price (Middle kind parts) = 0
light_price (Inject g kept) = 221
light_price (Project wanted label i) = 620

-- what a cast of this value asks for and costs, by whether it is light
abbrev pub cast_words_of : {A : Type 0} → Layout → Coercion → Merged A → ℕ
cast_words_of l c u = if is_light (rows_in l) c u then light_words c else cast_words l.width l.tallest

abbrev pub cast_price_of : {A : Type 0} → Layout → Coercion → Merged A → ℕ
cast_price_of l c u = if is_light (rows_in l) c u then light_price c else cast_price l.width l.tallest
