use Rattle.rb_lists.proofs.Listed.{List_theirs}
use Rattle.rb_lists.proofs.channels.are_listed.Given as goal

-- those so far list their channels
abbrev pub invariant-loop-number : goal.invariant-loop-number
invariant-loop-number l = List_theirs l.code l.number
