use Rattle.std.proofs.Common.{◌≡◌, map, string_bytes}
use Rattle.rb_outside.specs.Started.{stored_files}
use Rattle.rb_web.proofs.named.files_named.Given as goal

-- each name that came has its text
abbrev pub invariant-loop-name : goal.invariant-loop-name
invariant-loop-name l = stored_files l.files.items ≡ map (λ pair. record { name = string_bytes pair.0.now; bytes = pair.1.now.now }) l.yielded
