mod Across
mod Samples
