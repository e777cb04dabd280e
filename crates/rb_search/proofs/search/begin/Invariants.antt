use Rattle.std.proofs.Common.{◌≡◌, length}
use Rattle.rb_code.specs.Instructions.Plain.{code as plain}
use Rattle.rb_conv.specs.Conversations.{memberships, opening}
use Rattle.rb_search.specs.Search.{IsBeginning}
use Rattle.rb_search.specs.Found.{found, pending, IsWell}
use Rattle.rb_search.proofs.search.begin.Given as goal

abbrev pub invariant-loop-p : goal.invariant-loop-p
invariant-loop-p l = record {
  well : IsWell l.lists l.cells l.work;
  size : length l.cells ≡ length l.code.instrs.items;
  beginning : IsBeginning (plain l.code) (memberships (opening l.nested)) l.p (found l.lists l.cells) (pending l.cells);
}
