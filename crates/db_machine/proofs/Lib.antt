pub mod Rooms
pub mod OwnAnswers
pub mod Replying
pub mod Stepping
pub mod Refusing
pub mod Sessions
pub mod Sends
pub mod Crashes
