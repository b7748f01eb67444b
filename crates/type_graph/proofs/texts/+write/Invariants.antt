use Rattle.std.proofs.Common.{◌≡◌, ◌+◌, ◌*◌, ◌++◌, take}
use Rattle.type_graph.specs.Rows.{places_of}
use Rattle.type_graph.specs.Trees.{above_all, height}
use Rattle.type_graph.specs.Texts.{each_between, type_text}
use Rattle.type_graph.proofs.texts.+write.Given as goal

abbrev pub decreases-write_type : goal.decreases-write_type
decreases-write_type l = 2 * height l.types.now l.t.0 + 1

abbrev pub decreases-write_each : goal.decreases-write_each
decreases-write_each l = 2 * above_all (height l.types.now) (places_of l.parts.now)

abbrev pub invariant-write_each-loop-part : goal.invariant-write_each-loop-part
invariant-write_each-loop-part l =
    l.text ≡ l.fn.text ++ each_between l.before l.behind (type_text l.types) (places_of (take l.part-index l.parts))
