use Rattle.std.proofs.Common.{◌≡◌}
use Rattle.surface_trees.specs.Views.{letrecs_of}
use Rattle.cast_rules.specs.Environments.{heads_of, names_of_heads, with_names}
use Rattle.cast_insert.specs.Heads.{heads_seen}
use Rattle.cast_rules.specs.Programs.{AreSourceMembers}
use Rattle.cast_rules.specs.Room.{Grows}
use Rattle.insert_steps.specs.Views.{work_of}
use Rattle.cast_insert.proofs.Loops.{heads_behind}
use Rattle.cast_insert.proofs.heads.heads.Given as goal

-- the heads so far and those behind them are all heads, and the names so far are bound
abbrev pub invariant-loop-left : goal.invariant-loop-left
invariant-loop-left l = record {
  made : heads_behind (heads_seen l.done.items) (heads_of (letrecs_of l.left) (work_of l.progress))
      ≡ heads_of (letrecs_of l.fn.list) (work_of l.fn.progress);
  named : l.scopes ≡ with_names (names_of_heads (heads_seen l.done.items)) l.fn.scopes;
  source : AreSourceMembers (letrecs_of l.left);
  grows : Grows l.fn.progress.types l.progress.types;
}
