use Rattle.std.proofs.Common.{ℤ, List, ◌<◌, length, pos, w64, ap, sym, ◌∙◌, subst, arith, rules}
use Rattle.std.specs.Prelude.{get_or}
use Rattle.std.proofs.lemmas.Int.{to_z-of_z}
use Rattle.rb_world.specs.World.{copy_of, last_of}
use Rattle.rb_code.specs.WordMachine.Turn.{prior_words}
use Rattle.rb_code.specs.WordMachine.Workspace.{word_at}
use Rattle.rb_recoverable.specs.Contents.{Contents}
use Rattle.rb_recoverable.proofs.Levels.{word_is}
use Rattle.rb_recoverable.proofs.Tied.{last_copy_is, prior_long, prior_there}
use Rattle.rb_recoverable.proofs.recoverable.Recoverable.prior.Goals as goal

pub overflow_cast-at : goal.overflow_cast-at
overflow_cast-at g c =
    let at = subst (λ (r : Contents). c.args.at < length (prior_words (copy_of (last_of r.levels)))) (sym c.self.view_is) c.requires in
    let long = prior_long _ _ _ _ _ _ _ _ _ c.self.invariant in
    let few = c.self.invariant.few_words in
    omega arith

pub prior-requires-clause-some : goal.prior-requires-clause-some
prior-requires-clause-some g c =
    prior_there _ _ _ _ _ _ _ _ _ c.self.invariant c.args.at
    (subst (λ (r : Contents). c.args.at < length (prior_words (copy_of (last_of r.levels)))) (sym c.self.view_is) c.requires)

pub prior-requires-clause-at : goal.prior-requires-clause-at
prior-requires-clause-at g c =
    subst (λ (ws : List ℤ). c.args.at < length ws) (sym (last_copy_is _ _ _ _ _ _ _ _ _ c.self.invariant))
    (subst (λ (r : Contents). c.args.at < length (prior_words (copy_of (last_of r.levels)))) (sym c.self.view_is) c.requires)

pub returns-clause-word : goal.returns-clause-word
returns-clause-word g c =
    to_z-of_z w64 c.prior.result (search rules) ∙ c.prior.ensures.word
    ∙ ap (λ (ws : List ℤ). get_or ws c.args.at (pos 0)) (last_copy_is _ _ _ _ _ _ _ _ _ c.self.invariant)
    ∙ word_is _ c.args.at
    ∙ ap (λ (r : Contents). word_at (prior_words (copy_of (last_of r.levels))) c.args.at) c.self.view_is
