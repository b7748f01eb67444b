use Rattle.form_table.proofs.Public.{the_walk_reads_the_table_of_programs-alone}
use Rattle.form_table.proofs.Public.{the_walk_reads_the_table_of_programs-each}
use Rattle.form_table.proofs.Public.{the_walk_reads_the_table_of_programs-one}
use Rattle.form_table.proofs.laws.the_walk_reads_the_table_of_programs.Goals as goal

pub returns-clause-each : goal.returns-clause-each
returns-clause-each c = the_walk_reads_the_table_of_programs-each

pub returns-clause-alone : goal.returns-clause-alone
returns-clause-alone c = the_walk_reads_the_table_of_programs-alone

pub returns-clause-one : goal.returns-clause-one
returns-clause-one c = the_walk_reads_the_table_of_programs-one
