use Rattle.std.proofs.Common.{◌≡◌, take}
use Rattle.rb_back.specs.Picture.{words_in}
use Rattle.rb_back.proofs.loading.load_view.Given as goal

-- the processes so far
abbrev pub invariant-loop-p : goal.invariant-loop-p
invariant-loop-p g l = record {
  states : l.states.items ≡ take l.p (g.M.Final.states l.machine);
  words : words_in l.words.items ≡ take l.p (g.M.Final.words l.machine);
}
