use Rattle.std.proofs.Common.{drop}
use Rattle.rb_syntax.specs.Plain.{alternates_of, commands_of}
use Rattle.rb_draft.specs.Output.{Output, output}
use Rattle.rb_gen.specs.Writes.{WritesCommands}
use Rattle.rb_gen.proofs.RecoveryRows.{Completes}
use Rattle.rb_gen.proofs.statements.+statement.Given as goal

-- whatever stands for the rest completes it
abbrev pub invariant-emit_statements-statements : goal.invariant-emit_statements-statements
invariant-emit_statements-statements l =
    (after : Output)
    → WritesCommands l.slots l.words (commands_of (drop l.statement-index l.statements)) (output l.draft) after
    → WritesCommands l.slots l.words
    (commands_of l.statements) (output l.fn.draft) after

abbrev pub invariant-emit_alternates-others : goal.invariant-emit_alternates-others
invariant-emit_alternates-others l =
    Completes l.slots l.words (alternates_of l.fn.alternates)
    (alternates_of (drop l.other-index l.others)) l.addresses.items l.places.items (output l.fn.draft) (output l.draft)
