pub mod Begun
pub mod Joined
pub mod JoiningLaws
pub mod Named
pub mod Orders
pub mod Searched
pub mod Walks
pub mod Whole
