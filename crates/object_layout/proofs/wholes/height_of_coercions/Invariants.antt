use Rattle.std.proofs.Common.{◌≡◌, ◌+◌, ◌-◌, ◌*◌, ◌≤◌, replicate}
use Rattle.grift_base.specs.Words.{word_within}
use Rattle.object_layout.specs.declared.kinds.Wanted.TheVariants.{Coercion}
use Rattle.object_layout.specs.Wholes.{AreWanted, highest}
use Rattle.object_layout.proofs.wholes.height_of_coercions.Given as goal

abbrev pub decreases-loop-left : goal.decreases-loop-left
decreases-loop-left g l = l.left

abbrev pub invariant-loop-left : goal.invariant-loop-left
invariant-loop-left g l =
    let told = word_within (g.W.Words.first l.memory) (g.W.Words.end l.memory) (g.W.Words.word_at l.memory) in
    record {
      within : l.left ≤ l.count;
      stand : AreWanted told l.own (l.own + 8 + 8 * l.left) (replicate (l.count - l.left) Coercion);
      height : l.highest ≡ highest told (l.own + 8 + 8 * l.left) (replicate (l.count - l.left) Coercion);
    }
