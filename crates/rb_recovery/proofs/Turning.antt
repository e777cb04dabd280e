pub mod TestLines
pub mod InnermostLevel
