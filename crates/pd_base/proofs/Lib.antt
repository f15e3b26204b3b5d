pub mod ListBounds
