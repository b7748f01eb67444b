use Rattle.std.proofs.Common.{refl, sym, [], length, ap, ◌∙◌, append-nil}
use Rattle.std.proofs.lemmas.List.{length-map}
use Rattle.coercion_norm.specs.CastRows.{row_cast, row_casts}
use Rattle.coercion_norm.specs.Objects.{words_of_all}
use Rattle.coercion_norm.specs.Statics.{objects_of}
use Rattle.coer_core.proofs.Public.{no_wider}
use Rattle.lower.specs.MergedMeaning.{width_of}
use Rattle.piled_scheme.specs.Piling.{word_of}
use Rattle.piled_scheme.proofs.scheme.PiledScheme.statics.Goals as goal

pub returns-clause-many : goal.returns-clause-many
returns-clause-many c =
    ap length c.in_ok-cast_at.ensures
    ∙ (length-map (row_casts c.args.casts.now) (word_of c.args.types.now) ∙ length-map c.args.casts.now row_cast)

pub returns-clause-serves : goal.returns-clause-serves
returns-clause-serves c = λ known region.
    let types = c.args.types.now in
    let nodes = c.args.table.now.nodes in
    let placed = c.in_ok-placed.placed in
    record {
      types_are = refl;
      first_is = refl;
      region_is = refl;
      says = c.in_ok-placed.ensures.says ∙ ap words_of_all (sym (append-nil (objects_of types nodes placed)));
      types_stand = c.in_ok-placed.ensures.types_stand [] region 0 (width_of types) (no_wider types);
      cast_words = (known, c.in_ok-cast_at.ensures);
    }
