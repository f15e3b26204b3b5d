mod Leasts
mod Passes
mod Shown
mod Results
mod Taken
mod BareRows
mod Gathering
pub mod LogLaws
