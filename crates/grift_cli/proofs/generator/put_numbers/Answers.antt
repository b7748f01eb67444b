use Rattle.std.proofs.Common.{length, ◌∙◌}
use Rattle.insert_steps.specs.Views.{entries_of}
use Rattle.grift_cli.specs.Generating.{numbers_text}
use Rattle.grift_cli.proofs.Generated.{as_many, same_numbers}
use Rattle.grift_cli.proofs.Putting.{numbers_put}
use Rattle.grift_cli.proofs.generator.put_numbers.Goals as goal

pub returns-in-Ok-put : goal.returns-in-Ok-put
returns-in-Ok-put g c =
    let compiled = c.args.compiled.now in
    let source = c.args.source in
    numbers_put compiled.image c.as_slice.result.now
    (numbers_text source compiled.forms (length (entries_of compiled.elab.casts))) _ c.in-Some.report c.requires
    c.in-Some.ensures.told
    (c.as_slice.ensures ∙ c.in-Ok.ensures
    ∙ same_numbers source compiled.forms _ _ _ _ (as_many _ _ c.len-casts.ensures) c.in-Some.ensures.output)
    c.in-Ok-put.ensures
