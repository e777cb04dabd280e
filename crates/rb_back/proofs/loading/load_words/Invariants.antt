use Rattle.std.proofs.Common.{◌≡◌, ◌++◌, pos, drop, replicate, take}
use Rattle.rb_base.specs.Lines.{belonging}
use Rattle.rb_back.proofs.loading.load_words.Given as goal

-- the words so far are those of the machine
abbrev pub invariant-loop-at : goal.invariant-loop-at
invariant-loop-at g l =
    l.words.words ≡ take l.at (belonging (g.M.Final.words l.machine) l.process) ++ drop l.at (replicate l.size (pos 0))
