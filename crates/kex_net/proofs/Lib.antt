pub mod ChainLemmas
pub mod Flows
pub mod Pieces
pub mod TreeNets
pub mod TreeLoops
pub mod GateNets
pub mod Heights
pub mod GateHeights
