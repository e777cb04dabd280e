pub mod InnermostLevels
