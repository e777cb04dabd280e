use Rattle.std.proofs.Common.{◌≡◌, ℕ, Option, ap, ◌∙◌}
use Rattle.rb_syntax.specs.Plain.{tree}
use Rattle.rb_meaning.specs.Groups.{conversation_of}
use Rattle.rb_meaning.specs.Nesting.{innermost}
use Rattle.rb_nest.specs.Answers.{first_answer}
use Rattle.rb_nest.specs.Blocks.{blocks_of}
use Rattle.rb_uses.proofs.Around.{innermost_numbered}
use Rattle.rb_uses.proofs.spot.Spot.use_of.Goals as goal

pub returns : goal.returns
returns c =
    let spot = c.args.self.now in
    let whole = tree spot.program.now in
    let within : c.innermost.result ≡ conversation_of whole (innermost (blocks_of spot.around.now)) =
    c.innermost.ensures ∙ ap (first_answer (λ (n : Option ℕ). n)) spot.numbered ∙ innermost_numbered whole (blocks_of spot.around.now)
    in
    cc
