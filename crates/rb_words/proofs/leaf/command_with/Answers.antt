use Rattle.std.proofs.Common.{◌≡◌, ◌∙◌, ap₂, rules}
use Rattle.clap.specs.Words.{with_rule, rule_of}
use Rattle.rb_words.specs.Leaf.{required_word}
use Rattle.rb_words.proofs.Leaves.{command_more}
use Rattle.rb_words.proofs.leaf.command_with.Goals as goal

pub loop-word-preserved : goal.loop-word-preserved
loop-word-preserved c = record {
  app = let rule : rule_of c.required.result ≡ required_word c.new.result.id.now = search rules in
      c.in_ok-command.ensures.shape (search rules)
      ∙ ap₂ with_rule c.loop-word.invariant.app rule
      ∙ command_more c.args.name.now c.args.words.now c.loop-word.word-index c.new.result.id c.loop-word-test.true (search rules);
  local = let h = c.in_ok-command.ensures.globals in search rules;
}
