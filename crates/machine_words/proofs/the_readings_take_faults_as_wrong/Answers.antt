use Rattle.machine_words.proofs.Readings.{the_readings_take_faults_as_wrong-endings}
use Rattle.machine_words.proofs.Readings.{the_readings_take_faults_as_wrong-stops}
use Rattle.machine_words.proofs.the_readings_take_faults_as_wrong.Goals as goal

pub returns-clause-endings : goal.returns-clause-endings
returns-clause-endings c = the_readings_take_faults_as_wrong-endings

pub returns-clause-stops : goal.returns-clause-stops
returns-clause-stops c = the_readings_take_faults_as_wrong-stops
