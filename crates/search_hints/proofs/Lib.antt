mod Behind
mod Cones
mod FramesAlike
mod Kept
mod Noted
mod Weighing
