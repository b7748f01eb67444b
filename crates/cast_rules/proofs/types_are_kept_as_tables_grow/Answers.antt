use Rattle.cast_rules.proofs.Growing.{grow_term}
use Rattle.cast_rules.proofs.types_are_kept_as_tables_grow.Goals as goal

pub returns : goal.returns
returns c = λ types more labels later cells context term type within h. grow_term types more labels later within cells
    term context type h
