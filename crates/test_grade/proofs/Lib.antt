pub mod Blocks
mod Counting
mod GradedPaths
mod GradedSides
mod KnownLanes
mod Picking
mod Served
