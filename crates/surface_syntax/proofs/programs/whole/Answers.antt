use Rattle.std.proofs.Common.{◌∙◌}
use Rattle.surface_syntax.specs.TopParts.{rest_of}
use Rattle.surface_syntax.proofs.Joined.{ends, stands_before}
use Rattle.surface_syntax.proofs.programs.whole.Goals as goal

pub loop-part-init : goal.loop-part-init
loop-part-init c =
    ends c.args.parts.items c.pop.new.self.items c.in-Some.last (rest_of c.in_ok-rest.rest) c.in-Some.ensures.items
    c.in_ok-rest.ensures

pub loop-part-preserved : goal.loop-part-preserved
loop-part-preserved c =
    stands_before c.loop-part.parts.items c.pop-in-loop-part.new.self.items c.in-Some-pop.part
    (rest_of c.loop-part.rest) (rest_of c.in_ok-rest-2.rest) c.in-Some-pop.ensures.items c.in_ok-rest-2.ensures
    ∙ c.loop-part.invariant
