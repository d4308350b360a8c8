mod Trees
mod Paths
mod Crowds
mod Growth
mod Widening
mod Exploring
mod Numbers
