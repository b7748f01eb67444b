use Rattle.cast_rules.proofs.Listing.{elaborated_programs_list_their_casts}
use Rattle.cast_rules.proofs.Elaborated.{entries_elaborated, program_elaborated}
use Rattle.cast_rules.proofs.elaborated_programs_are_program_terms.Goals as goal

pub returns-clause-typed : goal.returns-clause-typed
returns-clause-typed c = λ program e after source made. program_elaborated program e after source made

pub returns-clause-entries : goal.returns-clause-entries
returns-clause-entries c = λ program e after source made. entries_elaborated program e after source made

pub returns-clause-listed : goal.returns-clause-listed
returns-clause-listed c = λ program e after made. elaborated_programs_list_their_casts program e after made
