use Rattle.std.proofs.Common.{◌+◌, ◌≤◌, ◌^◌, sym, subst, rules}
use Rattle.rv_machine.specs.Image.{statics_len, code_len}
use Rattle.compile_driver.specs.Space.{KeepsSpace}
use Rattle.compile_driver.proofs.compiling.made_of.Goals as goal

pub image_of-requires : goal.image_of-requires
image_of-requires c = c.in_ok-words.ensures.stands.closed

pub returns-clause-whole : goal.returns-clause-whole
returns-clause-whole c = c.in_ok-image.ensures.whole

pub returns-clause-follows : goal.returns-clause-follows
returns-clause-follows c =
    let short : statics_len c.in_ok-image.image + code_len c.in_ok-image.image ≤ 2 ^ 33 = search rules in
    (c.in_ok-words.ensures.stands.images c.in_ok-image.image c.in_ok-image.ensures short).0

pub returns-clause-space : goal.returns-clause-space
returns-clause-space c =
    let short : statics_len c.in_ok-image.image + code_len c.in_ok-image.image ≤ 2 ^ 33 = search rules in
    subst (λ n. KeepsSpace c.in_ok-image.image c.args.types.now n) (sym c.in_ok-words.ensures.tallest)
    (c.in_ok-words.ensures.stands.images c.in_ok-image.image c.in_ok-image.ensures short).1

pub returns-clause-account : goal.returns-clause-account
returns-clause-account c =
    let short : statics_len c.in_ok-image.image + code_len c.in_ok-image.image ≤ 2 ^ 33 = search rules in
    (c.in_ok-words.ensures.stands.images c.in_ok-image.image c.in_ok-image.ensures short).2
