mod Behind
mod Sums
