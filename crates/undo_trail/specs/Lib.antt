pub mod Noted
pub mod Undoing
