mod Shuffling
mod Parting
