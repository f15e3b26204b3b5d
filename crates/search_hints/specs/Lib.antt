pub mod Blamed
pub mod Drafts
pub mod Weighed
