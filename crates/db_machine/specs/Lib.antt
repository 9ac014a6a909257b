pub mod OwnAnswers
pub mod Memory
pub mod Replies
pub mod Running
pub mod Machine
pub mod Crashes
pub mod Database
