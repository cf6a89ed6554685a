-- What a call refuses and answers: definitions in `Verdicts`, `Answers`, `Told` and `Meanings`, laws in `Orders`, `Answered` and `Telling`.
pub mod Verdicts
pub mod Answers
pub mod Told
pub mod Meanings
pub mod Orders
pub mod Answered
pub mod Telling
