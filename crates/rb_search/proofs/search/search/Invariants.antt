use Rattle.std.proofs.Common.{◌≡◌, length}
use Rattle.rb_code.specs.Instructions.Plain.{code as plain}
use Rattle.rb_conv.specs.Conversations.{memberships, opening}
use Rattle.rb_search.specs.Search.{IsSearching}
use Rattle.rb_search.specs.Found.{found, pending, IsWell}
use Rattle.rb_search.specs.Weight.{left}
use Rattle.rb_search.proofs.search.search.Given as goal

abbrev pub invariant-rounds : goal.invariant-rounds
invariant-rounds l = record {
  well : IsWell l.lists l.cells l.work;
  size : length l.cells ≡ length l.code.instrs.items;
  searching : IsSearching (plain l.code) (memberships (opening l.nested)) (found l.lists l.cells) (pending l.cells);
}

abbrev pub decreases-rounds : goal.decreases-rounds
decreases-rounds l = left l.lists l.cells l.work
