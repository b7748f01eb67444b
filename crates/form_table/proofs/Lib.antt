pub mod Public
mod TextTables
mod Steps
mod NewNames
mod Runs
mod Binds
mod TypesFound
mod TypesRead
mod FormsFound
mod FormsRead
mod TopsFound
mod TopsRead
mod Bridge
mod TopBridge
mod Sound
mod TopSound
