pub mod PinTests
pub mod RankPass
pub mod LaneBits
mod Filling
mod LaneBlocks
mod Flagging
mod KeptLinks
