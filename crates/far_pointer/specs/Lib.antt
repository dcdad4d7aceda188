pub mod Layout
pub mod Reading
