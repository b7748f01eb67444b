-- The set of casts numbers them as the definitions do.
use Rattle.std.proofs.Common.{◌≡◌, Bool, true, false, List, [], ◌∷◌, ◌++◌, refl, sym, ap, ◌∙◌, if◌then◌else◌}
use Rattle.std.specs.List.{list_any, position_or_len}
use Rattle.std.proofs.lemmas.List.{map-append}
use Rattle.indexmap.specs.IndexSet.{insert_key}
use Rattle.coercion_norm.specs.declared.casts.Cast.{Cast}
use Rattle.coercion_norm.specs.contracts.casts.CastPartialEq.TheImpl.{ghosts}
use Rattle.coer_core.specs.Conversion.{same_cast, number_of, with_cast, cast_view, cast_views}

any_views : (cast : Cast) (keys : List Cast)
    → list_any (same_cast (cast_view cast)) (cast_views keys) ≡ list_any (ghosts.eq cast) keys
any_views cast [] = refl
any_views cast (key ∷ rest) = rw (any_views cast rest) refl

pub number_views : (cast : Cast) (keys : List Cast)
    → position_or_len (ghosts.eq cast) keys ≡ number_of (cast_views keys) (cast_view cast)
number_views cast [] = refl
number_views cast (key ∷ rest) = rw (number_views cast rest) refl

with_view : (b : Bool) (cast : Cast) (keys : List Cast) → cast_views (if b then keys else keys ++ cast ∷ [])
    ≡ (if b then cast_views keys else cast_views keys ++ cast_view cast ∷ [])
with_view true cast keys = refl
with_view false cast keys = map-append cast_view keys (cast ∷ [])

pub with_views : (cast : Cast) (keys : List Cast)
    → cast_views (insert_key ghosts.eq keys cast) ≡ with_cast (cast_views keys) (cast_view cast)
with_views cast keys =
    with_view (list_any (ghosts.eq cast) keys) cast keys
    ∙ ap (λ b. if b then cast_views keys else cast_views keys ++ cast_view cast ∷ []) (sym (any_views cast keys))
