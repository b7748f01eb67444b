mod ReadingNumbers
mod ReadingOptions
mod ReadingLimits
mod ReadingCommands
