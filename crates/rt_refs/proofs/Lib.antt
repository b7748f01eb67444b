pub mod Public
mod Closing
mod ArgumentWords
mod Walking
mod Sums
mod Doubling
mod Remainders
mod Dividing
mod Signs
mod Dividends
