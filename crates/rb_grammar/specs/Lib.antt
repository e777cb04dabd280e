-- What a reader of the grammar reads: words and marks, the rows, how many brackets are open, and the verdict of a source.
pub mod Terminals
pub mod Operators
pub mod Parts
pub mod Values
pub mod Taking
pub mod Grammar
pub mod Brackets
pub mod Verdict
-- What the laws say beside: names and recovery blocks from left to right, the depth of trees, and the laws.
pub mod Order
pub mod Depth
pub mod Laws
pub mod VerdictLaws
-- What the parser is proved by: plans, the table that tells a plan by what stands first, and the machine that reads by it.
-- No verdict rests on them: only the laws of the first bad token and of an early end say where the machine stops.
pub mod Plans
pub mod ExpressionTable
pub mod StatementTable
pub mod Table
pub mod Machine
-- What the contracts of the parser's own functions speak of.
pub mod Spellings
pub mod Allowed
pub mod Reading
pub mod Finding
