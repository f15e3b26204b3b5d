pub mod Chains
pub mod Inside
pub mod ScanFile
pub mod ScanRefusals
pub mod SkewedLinks
