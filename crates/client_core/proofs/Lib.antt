pub mod Asks
pub mod Works
pub mod Resumes
pub mod Begins
pub mod Still
pub mod AnswerWrites
