-- What functions of this crate alone say of what they found so far; no public clause cites it.
pub mod BoundsJudging
pub mod Checking
pub mod Grading
pub mod InputJudging
pub mod Judging
pub mod ReplayEndings
pub mod RiseFallReplaying
pub mod RunJudging
pub mod ScanJudging
pub mod TestsAndPaths
