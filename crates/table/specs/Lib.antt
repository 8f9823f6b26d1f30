pub mod Answers
pub mod Records
pub mod Subjects
pub mod Tables
pub mod Queues
