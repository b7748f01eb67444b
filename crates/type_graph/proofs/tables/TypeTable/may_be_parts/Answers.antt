use Rattle.std.proofs.Common.{◌≡◌, ℕ, List, get_or, take, refl, sym, ◌∙◌, subst}
use Rattle.std.specs.Prelude.{All}
use Rattle.std.proofs.lemmas.List.{map_more, take_all}
use Rattle.std.proofs.lemmas.List.Elements.{All-push}
use Rattle.grift_base.specs.declared.places.TypeId.{TypeId}
use Rattle.type_graph.specs.Rows.{places_of}
use Rattle.type_graph.specs.TypeTables.{MayBePart}
use Rattle.type_graph.proofs.MeasureLemmas.{part_at}
use Rattle.type_graph.proofs.tables.TypeTable.may_be_parts.Goals as goal

-- stands for an element where there is none
abbrev nowhere : TypeId
nowhere = record { 0 = 0 }

pub returns-then-not-may_be_part : goal.returns-then-not-may_be_part
returns-then-not-may_be_part c = (
  λ e. cc,
  λ all.
      let part = part_at (MayBePart c.args.self.now) c.args.parts.now c.loop-part.part-index nowhere
      c.loop-part-test.true all in
      sym c.if-not-may_be_part.true ∙ c.may_be_part.ensures.1 part,
)

pub loop-part-preserved : goal.loop-part-preserved
loop-part-preserved c =
    subst (λ (parts : List ℕ). All (MayBePart c.args.self.now) parts)
    (sym (map_more (λ (id : TypeId). id.0) c.args.parts.now c.loop-part.part-index nowhere c.loop-part-test.true))
    (All-push (MayBePart c.args.self.now) (places_of (take c.loop-part.part-index c.args.parts.now))
    (get_or c.args.parts.now c.loop-part.part-index nowhere).0 c.loop-part.invariant
    (c.may_be_part.ensures.0 c.if-not-may_be_part.false))

pub returns : goal.returns
returns c =
    let whole : take c.loop-part.part-index c.args.parts.now ≡ c.args.parts.now =
    take_all c.loop-part.part-index c.args.parts.now c.loop-part-test.false in (
      λ e.
          subst (λ (parts : List TypeId). All (MayBePart c.args.self.now) (places_of parts)) whole
          c.loop-part.invariant,
      λ all. refl,
    )
