use Rattle.std.proofs.Common.{ℤ, List, ◌<◌, length, pos, w64, ap, sym, ◌∙◌, subst, arith, rules}
use Rattle.std.specs.Prelude.{get_or, slice_get}
use Rattle.std.proofs.lemmas.Int.{to_z-of_z}
use Rattle.rb_world.specs.World.{copy_of}
use Rattle.rb_code.specs.WordMachine.Workspace.{word_at}
use Rattle.rb_code.specs.WordMachine.Turn.{prior_words}
use Rattle.rb_recoverable.specs.Contents.{Contents}
use Rattle.rb_recoverable.proofs.Levels.{word_is}
use Rattle.rb_recoverable.proofs.Looked.{copy_is, height_is, level_there, word_beyond}
use Rattle.rb_recoverable.proofs.Tied.{marks_levels}
use Rattle.rb_recoverable.proofs.recoverable.Recoverable.at_entry.Goals as goal

pub index-requires : goal.index-requires
index-requires g c =
    let levels = marks_levels _ _ _ _ _ _ _ _ _ c.self.invariant in
    let same = ap (λ (r : Contents). length r.levels) c.self.view_is in
    omega arith

pub at_entry-requires-clause-level : goal.at_entry-requires-clause-level
at_entry-requires-clause-level g c =
    level_there _ _ _ _ _ _ _ _ _ c.self.invariant c.args.level
    (subst (λ (r : Contents). c.args.level < length r.levels) (sym c.self.view_is) c.requires)

pub at_entry-requires-clause-at : goal.at_entry-requires-clause-at
at_entry-requires-clause-at g c =
    let open_now = subst (λ (r : Contents). c.args.level < length r.levels) (sym c.self.view_is) c.requires in
    let tall = height_is _ _ _ _ _ _ _ _ _ c.self.invariant c.args.level open_now c.index.result.now c.index.ensures in
    omega arith

pub returns-then-at-index-clause-word : goal.returns-then-at-index-clause-word
returns-then-at-index-clause-word g c =
    let open_now = subst (λ (r : Contents). c.args.level < length r.levels) (sym c.self.view_is) c.requires in
    to_z-of_z w64 c.at_entry.result (search rules) ∙ c.at_entry.ensures.word
    ∙ ap (λ (ws : List ℤ). get_or ws c.args.at (pos 0)) (sym (copy_is _ _ _ _ _ _ _ _ _ c.self.invariant c.args.level open_now))
    ∙ word_is _ c.args.at
    ∙ ap (λ (r : Contents). word_at (prior_words (copy_of (slice_get r.levels c.args.level))) c.args.at) c.self.view_is

pub returns-else-at-index-clause-word : goal.returns-else-at-index-clause-word
returns-else-at-index-clause-word g c =
    let open_now = subst (λ (r : Contents). c.args.level < length r.levels) (sym c.self.view_is) c.requires in
    let tall = height_is _ _ _ _ _ _ _ _ _ c.self.invariant c.args.level open_now c.index.result.now c.index.ensures in
    word_beyond _ c.args.at (omega arith)
    ∙ ap (λ (ws : List ℤ). word_at ws c.args.at) (sym (copy_is _ _ _ _ _ _ _ _ _ c.self.invariant c.args.level open_now))
    ∙ ap (λ (r : Contents). word_at (prior_words (copy_of (slice_get r.levels c.args.level))) c.args.at) c.self.view_is
