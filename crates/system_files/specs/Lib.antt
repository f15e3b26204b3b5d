pub mod StdFiles
