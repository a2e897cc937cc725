mod Written
mod Ends
