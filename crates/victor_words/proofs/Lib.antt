pub mod Saying
pub mod Numbers
pub mod Forms
pub mod Written
