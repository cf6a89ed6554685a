-- The search of a range: definitions in `Search` and `Answers`; the other files have laws, and open with what they define.
pub mod Search
pub mod Answers
pub mod Leaders
pub mod Preceding
pub mod Joined
pub mod Walks
pub mod Joining
pub mod Begun
pub mod Orders
