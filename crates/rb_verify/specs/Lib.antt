-- What is refused, as the search has it.
pub use Rattle.rb_search.specs.Found
