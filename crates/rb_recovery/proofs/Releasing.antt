pub mod LinesLent
