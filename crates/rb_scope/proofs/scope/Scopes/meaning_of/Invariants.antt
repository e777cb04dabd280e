use Rattle.std.proofs.Common.{◌≡◌}
use Rattle.rb_scope.specs.Scopes.{meaning_of}
use Rattle.rb_scope.specs.Memory.{scopes_of}
use Rattle.rb_scope.proofs.scope.Scopes.meaning_of.Given as goal

abbrev pub invariant-scopes : goal.invariant-scopes
invariant-scopes l = meaning_of l.name (scopes_of l.rest) ≡ meaning_of l.name (scopes_of l.initial.rest)
