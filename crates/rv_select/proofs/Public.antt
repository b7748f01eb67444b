-- What other crates may cite. What a clause says has the clause's name.
pub use Rattle.rv_select.proofs.StackSizes.{frames_fill_no_more_than_the_largest-bytes, stack_held}
pub use Rattle.rv_select.proofs.WordCounts.{frames_go_by_the_size_of_code}
pub use Rattle.rv_select.proofs.Spared.{calls_spare_what_is_known_behind_them}
-- steps that are paid out of a purse, each at a cost of its own
pub use Rattle.rv_select.proofs.Paying.{Pays, pays_weaken, DoesPaid, PaidSimulation, does_with_more, follows_paid}
pub use Rattle.rv_select.proofs.Paying.{unmetered}
pub use Rattle.rv_select.proofs.Closedness.{closed_entry}
pub use Rattle.rv_select.proofs.Straight.{with_few}
