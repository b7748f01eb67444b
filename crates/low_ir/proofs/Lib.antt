pub mod Public
mod OneByOne
mod WindowLemmas
mod ClosedInWindows
mod CallEndings
mod Leading
pub mod CountedWords
mod Priced
mod Made
