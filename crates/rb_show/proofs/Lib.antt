mod Ends
mod Exploring
mod Faulting
mod Held
mod Putting
mod Ready
mod Wishes
