pub mod Annotation
pub mod Fields
pub mod Rows
pub mod DelayFile
pub mod LastRows
pub mod RiseFall
pub mod Settling
pub mod Taking
