mod Standing
mod Loops
