pub mod Standing
pub mod ToVerdict
pub mod Turn
pub mod First
pub mod Ends
pub mod Judged
pub mod Begins
pub mod Stopped
