pub mod JobsUnchanged
