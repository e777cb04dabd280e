pub mod ScriptLines
pub mod Following
