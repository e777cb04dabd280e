mod Found
mod Lined
mod Named
