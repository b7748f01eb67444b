-- What other crates may cite.
pub mod Public
mod Walks
mod Objects
mod Steps
mod HeaderNumbers
mod Small
mod Middles
mod DynWords
mod PartWords
mod ComposeSteps
mod IntoDyn
mod BaseCasts
mod ComposeRuns
mod CoerceRuns
mod Reaching
mod Closing
mod ClosedForms
mod PartCodeLemmas
mod CastCases
mod CastRuns
mod CastDecisions
mod HeavyTurns
mod CastReaching
mod ProjectRuns
mod ProjectReaching
mod Samples
mod WholeRows
