-- The readings of stops that the project uses take faults, and nothing else, as wrong.
use Rattle.std.proofs.Common.{◌≡◌, refl}
use Rattle.run_laws.specs.Runs.{Wrong}
use Rattle.machine_words.specs.Halts.{Room, Region, Stack, Lacks, ending_of, stop_of, IsReading}

pub the_readings_take_faults_as_wrong-endings : IsReading ending_of
the_readings_take_faults_as_wrong-endings = record {
  wrong = λ fault. refl;
  ended = λ verdict e. let f : ⊥ = cc in f;
  lacking = λ room e. let f : ⊥ = cc in f;
}

lack_is_verdict : (room : Room) → stop_of (Lacks room) ≡ Wrong → ⊥
lack_is_verdict Region e = cc
lack_is_verdict Stack e = cc

pub the_readings_take_faults_as_wrong-stops : IsReading stop_of
the_readings_take_faults_as_wrong-stops =
    record { wrong = λ fault. refl; ended = λ verdict e. let f : ⊥ = cc in f; lacking = lack_is_verdict }
