pub mod TimeNetwork
pub mod TimeArcs
pub mod TimeBounds
pub mod Plans
