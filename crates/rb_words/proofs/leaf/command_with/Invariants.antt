use Rattle.std.proofs.Common.{◌≡◌, [], false, map, take}
use Rattle.clap.specs.Words.{app_of}
use Rattle.clap.specs.declared.builder.command.Command.TheViews.{out-Command as fields_of}
use Rattle.rb_words.specs.Leaf.{command_with}
use Rattle.rb_words.proofs.leaf.command_with.Given as goal

-- the command takes the words so far
abbrev pub invariant-loop-word : goal.invariant-loop-word
invariant-loop-word l = record {
  app : app_of l.command ≡ record { top = command_with l.name (map (λ w. w.now) (take l.word-index l.words)); subs = [] };
  local : (fields_of l.command).has_globals ≡ false;
}
