-- What the clauses of this crate speak of stands in rb_grammar.
pub use Rattle.rb_grammar.specs.Grammar
pub use Rattle.rb_grammar.specs.Laws
pub use Rattle.rb_grammar.specs.VerdictLaws
pub use Rattle.rb_grammar.specs.Verdict
