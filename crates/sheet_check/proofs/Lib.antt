mod Ends
mod Headers
