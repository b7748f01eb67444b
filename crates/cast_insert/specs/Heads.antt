-- Members and their heads as those of the definitions.
use Rattle.std.specs.Prelude.{List, map, Option}
use Rattle.grift_base.specs.declared.places.Pos.{Pos}
use Rattle.surface_trees.specs.declared.names.Ident.{Ident}
use Rattle.surface_trees.specs.declared.exprs.Member.{Member, out-Member}
use Rattle.surface_trees.specs.Trees.{TypeExpr, LambdaExpr}
use Rattle.surface_trees.specs.Views.{lambda_of, written_of}
use Rattle.type_graph.specs.Rows.{places_of}
use Rattle.cast_insert.specs.declared.heads.Head.{Head as RustHead}
use Rattle.cast_rules.specs.Environments.{Head}
use Rattle.insert_steps.specs.Views.{meaning_seen}

abbrev pub name_in : Member → Ident
name_in member = (out-Member member).name

abbrev pub written_in : Member → Option TypeExpr
written_in member = written_of (out-Member member).ty

abbrev pub lambda_in : Member → LambdaExpr
lambda_in member = lambda_of (out-Member member).fun

abbrev pub place_in : Member → Pos
place_in member = (out-Member member).fun.pos

abbrev pub head_seen : RustHead → Head
head_seen head = record {
  name = head.name;
  meaning = meaning_seen head.meaning;
  parameters = places_of head.parameters.items;
  answer = head.answer.0;
}

abbrev pub heads_seen : List RustHead → List Head
heads_seen heads = map head_seen heads
