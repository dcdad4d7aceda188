pub mod ByKey
pub mod Dense
pub mod Folds
pub mod Live
pub mod KeyTree
pub mod CountSums
pub mod Walks
