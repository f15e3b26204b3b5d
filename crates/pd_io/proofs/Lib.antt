pub mod Handing
pub mod Reading
pub mod Tellings
pub mod OpenFile
mod NamedFiles
