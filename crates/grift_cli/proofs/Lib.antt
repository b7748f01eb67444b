mod Putting
mod Stopping
mod Loading
mod StoppedStorage
mod Saying
mod Generated
