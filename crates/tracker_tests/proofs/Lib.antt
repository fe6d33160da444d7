mod Crossed
mod Placed
mod Standing
