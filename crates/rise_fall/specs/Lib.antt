pub mod Waves
pub mod GateWaves
pub mod Showing
pub mod Inside
