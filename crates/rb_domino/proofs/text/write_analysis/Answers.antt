use Rattle.std.proofs.Common.{◌≡◌, ℕ, List, ap, ◌∙◌}
use Rattle.std.specs.List.{flat_map}
use Rattle.rb_outside.proofs.Puts.{puts_both, puts_same, puts_stopped_at}
use Rattle.rb_domino.specs.Recovery.{line_of, outcome_of}
use Rattle.rb_domino.specs.Written.{drop_text, line_text}
use Rattle.rb_domino.specs.declared.analysis.Dropped.{Dropped}
use Rattle.rb_domino.proofs.text.write_analysis.Goals as goal

pub returns-in_err-write_drops : goal.returns-in_err-write_drops
returns-in_err-write_drops g c =
    let story = c.args.history.now in
    let drops : List Dropped = (outcome_of story).drops in
    let same_drops : c.as_slice.result.now ≡ drops = c.as_slice.ensures.value ∙ c.requires.drops in
    puts_stopped_at (flat_map (drop_text story) drops) (line_text story.processes (line_of (outcome_of story).left)) _ _ _ _ _
    c.from_residual.result c.from_residual.ensures.0
    (puts_same _ _ _ _ _ _ _ (ap (flat_map (drop_text story)) same_drops) c.in_err-write_drops.ensures)

pub returns : goal.returns
returns g c =
    let story = c.args.history.now in
    let drops : List Dropped = (outcome_of story).drops in
    let line : List ℕ = line_of (outcome_of story).left in
    let same_drops : c.as_slice.result.now ≡ drops = c.as_slice.ensures.value ∙ c.requires.drops in
    let same_line : c.as_slice-2.result.now ≡ line = c.as_slice-2.ensures.value ∙ c.requires.line in
    puts_both (flat_map (drop_text story) drops) (line_text story.processes line) _ _ _ _ _ _ _ _
    (puts_same _ _ _ _ _ _ _ (ap (flat_map (drop_text story)) same_drops) c.in_ok-write_drops.ensures)
    (puts_same _ _ _ _ _ _ _ (λ i. line_text (c.processes.ensures i) (same_line i)) c.write_line.ensures)
