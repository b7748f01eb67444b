mod Places
mod RowLemmas
mod TreeLemmas
mod InternLemmas
mod MapEntries
mod EntryLemmas
mod MeasureLemmas
mod TextLemmas
mod RowParts
mod RelatedLists
mod Examples
pub mod Public
