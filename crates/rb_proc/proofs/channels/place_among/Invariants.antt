use Rattle.std.proofs.Common.{◌≡◌, ◌+◌, drop}
use Rattle.rb_code.specs.WordMachine.Workspace.{place_among}
use Rattle.rb_proc.proofs.channels.place_among.Given as goal

abbrev pub invariant-loop-place : goal.invariant-loop-place
invariant-loop-place l = place_among l.channel l.channels ≡ l.place + place_among l.channel (drop l.place l.channels)
