mod Times
mod Swallowing
mod WindowLaws
mod SeenWaves
mod EndLaws
mod Measuring
pub mod LatePaths
