pub mod Numbers
pub mod KeptLog
