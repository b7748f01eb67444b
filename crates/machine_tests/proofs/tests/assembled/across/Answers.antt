use Rattle.machine_tests.proofs.Across.{across_items}
use Rattle.machine_tests.proofs.tests.assembled.across.Goals as goal

pub returns : goal.returns
returns c =
    rw (
      c.in_ok-extend.ensures.ok,
      c.in_ok-put_fillers.ensures,
      c.in_ok-items.ensures,
      c.branch.ensures,
      c.branch-2.ensures,
      c.branch-3.ensures,
      c.register.ensures,
      c.branch-4.ensures,
      c.register-2.ensures,
      c.branch-5.ensures,
      c.register-3.ensures,
      c.register-4.ensures,
      c.go.ensures,
      c.add.ensures,
      c.go-2.ensures,
      c.register-5.ensures,
      c.branch-6.ensures,
      c.register-6.ensures,
      c.register-7.ensures,
      c.go-3.ensures,
      c.add-2.ensures,
      c.add-3.ensures,
      c.go-4.ensures,
    )
    (across_items c.args.fillers)
