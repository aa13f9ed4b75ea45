pub mod Before
pub mod CallerLemmas
pub mod Pairs
pub mod Keeping
pub mod Nodes
pub mod Ranks
