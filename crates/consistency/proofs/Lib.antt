mod ConsistentLemmas
mod BlendLemmas
mod FormedBlends
pub mod Public
