-- Room for the operands of expressions.
pub mod InBrackets
pub mod Needed
pub mod Pushed
pub mod FewArguments
pub mod RoomFound
