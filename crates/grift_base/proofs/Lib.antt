pub mod Public
mod TableLemmas
mod Utf8Texts
mod Numerals
mod ReadingExamples
mod ReadNumbers
mod CallNumbers
mod EachRow
