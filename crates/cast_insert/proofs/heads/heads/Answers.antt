use Rattle.surface_trees.specs.Views.{letrecs_of}
use Rattle.cast_insert.specs.Heads.{name_in, written_in, lambda_in}
use Rattle.insert_steps.specs.Views.{work_of}
use Rattle.cast_insert.proofs.Loops.{heads_more, head_named}
use Rattle.surface_trees.specs.Trees.{LetrecThen}
use Rattle.cast_rules.specs.Programs.{AreSourceMembers}
use Rattle.cast_rules.proofs.Public.{grows_on}
use Rattle.cast_insert.proofs.heads.heads.Goals as goal

pub member_head-requires-clause-lambda : goal.member_head-requires-clause-lambda
member_head-requires-clause-lambda c =
    let member = c.in-Cons.first.value in
    let source : AreSourceMembers (LetrecThen (name_in member) (written_in member) (lambda_in member)
    (letrecs_of c.in-Cons.rest.value)) = (rw c.in-Cons.is at c.loop-left.invariant.source) in
    rw c.deref.ensures source.0

pub member_head-requires-clause-written : goal.member_head-requires-clause-written
member_head-requires-clause-written c =
    let member = c.in-Cons.first.value in
    let source : AreSourceMembers (LetrecThen (name_in member) (written_in member) (lambda_in member)
    (letrecs_of c.in-Cons.rest.value)) = (rw c.in-Cons.is at c.loop-left.invariant.source) in
    rw c.deref.ensures source.1

pub loop-left-preserved : goal.loop-left-preserved
loop-left-preserved c =
    let member = c.in-Cons.first.value in
    let source : AreSourceMembers (LetrecThen (name_in member) (written_in member) (lambda_in member)
    (letrecs_of c.in-Cons.rest.value)) = (rw c.in-Cons.is at c.loop-left.invariant.source) in
    record {
      made = rw (c.in_ok-push.ensures, c.deref-left.ensures)
          (heads_more c.loop-left.done.items c.in_ok-head.head (name_in member) (written_in member) (lambda_in member)
          (letrecs_of c.in-Cons.rest.value) (work_of c.loop-left.progress) (work_of c.member_head.new.progress) _
          (rw c.deref.ensures at c.in_ok-head.ensures.answer)
          (rw c.in-Cons.is at c.loop-left.invariant.made));
      named = rw c.in_ok-push.ensures
          (head_named c.loop-left.done.items c.in_ok-head.head c.args.scopes.now c.loop-left.scopes c.bind.new.self
          c.loop-left.invariant.named c.in_ok-bind.ensures);
      source = rw c.deref-left.ensures source.2;
      grows = grows_on c.args.progress.now.types c.loop-left.progress.types c.member_head.new.progress.types
          c.loop-left.invariant.grows c.in_ok-head.ensures.grows;
    }
