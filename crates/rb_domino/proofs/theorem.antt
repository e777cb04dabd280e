-- That a failure leaves the greatest consistent line, and that the drops are its certificate.
pub mod Descending
pub mod StatesOf
pub mod Causes
pub mod Falls
pub mod Forced
pub mod Left
pub mod Ends
pub mod Outcomes
pub mod Greatest
pub mod Whole
