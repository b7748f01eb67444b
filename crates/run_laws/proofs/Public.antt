-- The laws of runs for other crates. What a clause says has the clause's name: that of its function, and behind a dash
-- its own where the function has several.
pub use Rattle.run_laws.proofs.Following.{prefix_refl, prefix_trans, has_verdict_of_some, each_run_follows_itself}
pub use Rattle.run_laws.proofs.Following.{follows_is_transitive, follows_by_trans, follows_of, follows_equal}
pub use Rattle.run_laws.proofs.Following.{follows_by_weaken, follows_by_before, follows_by_behind}
pub use Rattle.run_laws.proofs.Following.{follower_never_goes_wrong, follower_gives_same_answer}
pub use Rattle.run_laws.proofs.Following.{what_never_runs_out_is_followed_back, exhausted_back}
pub use Rattle.run_laws.proofs.Running.{run_go, run_stop, later_steps_go_on_from_earlier_ones-machines}
pub use Rattle.run_laws.proofs.Running.{what_has_ended_stays-machines, output_only_grows-machines, Safely, never_wrong}
pub use Rattle.run_laws.proofs.Running.{RunsOut, runs_out}
pub use Rattle.run_laws.proofs.Reducing.{later_steps_go_on_from_earlier_ones-reductions}
pub use Rattle.run_laws.proofs.Reducing.{what_has_ended_stays-reductions, output_only_grows-reductions}
pub use Rattle.run_laws.proofs.Reducing.{state_after_stays, state_after_keeps, reduction_never_wrong, machine_comes}
pub use Rattle.run_laws.proofs.Reducing.{machine_never_wrong, machine_never_wrong_back, machine_adds_output}
pub use Rattle.run_laws.proofs.Reducing.{reduction_and_machine_follow_each_other-before_end}
pub use Rattle.run_laws.proofs.Reducing.{reduction_and_machine_follow_each_other-after_end}
pub use Rattle.run_laws.proofs.Reducing.{reduction_and_machine_follow_each_other-reduction}
pub use Rattle.run_laws.proofs.Reducing.{reduction_and_machine_follow_each_other-machine}
pub use Rattle.run_laws.proofs.Simulation.{by_step, reaches_then, reaches_weaken, unless_wrong_map}
pub use Rattle.run_laws.proofs.Simulation.{follows_by_simulation, follows_from_start}
pub use Rattle.run_laws.proofs.IndexedSimulation.{DoesAt, IndexedSimulation, follows_by_index}
pub use Rattle.run_laws.proofs.Metering.{meter_changes_nothing_else-machines, meter_changes_nothing_else-reductions}
pub use Rattle.run_laws.proofs.Metering.{metered_never_wrong, unmetered_never_wrong, follows_metered, metered_follows}
pub use Rattle.run_laws.proofs.Metering.{metered_reduction_never_wrong, metered_machine_follows}
pub use Rattle.run_laws.proofs.Metering.{follows_metered_machine, by_step_at_cost, follows_at_cost}
pub use Rattle.run_laws.proofs.Metering.{follows_at_cost_from_start, spends_through}
pub use Rattle.run_laws.proofs.Turns.{bounded_spending_bounds_turns-ends, bounded_spending_bounds_turns-comes}
pub use Rattle.run_laws.proofs.Lockstep.{Alone, Both, Over, Lockstep, paid, charged, lockstep_follows}
pub use Rattle.run_laws.proofs.Rounds.{Along, run_along, mid_along, along_then, Between, Midway, Paths, Round}
pub use Rattle.run_laws.proofs.Rounds.{LastRound, WrongRound, Goes, goes_after, goes_later, rounds_follow}
pub use Rattle.run_laws.proofs.Within.{within_of, within_weaken, within_trans, within_back}
pub use Rattle.run_laws.proofs.Turns.{an_account_bounds_turns}
pub use Rattle.run_laws.proofs.RoundsWithin.{goes_within_after, goes_within_later, rounds_follow_within}
pub use Rattle.run_laws.proofs.ShowingLockstep.{OnItsOwn, Together, AtEnd, ShowingLockstep, showing_lockstep_follows}
