-- Only the process whose turn it is has counted it.
use Rattle.std.proofs.Common.{ap, ◌∙◌, set, position}
use Rattle.rb_world.specs.Turn.{is_over, turn_used}
use Rattle.rb_conv.proofs.Places.{set-changes}
use Rattle.rb_proc.specs.Process.{Seen}
use Rattle.rb_recovery.specs.Rejections.{changed}
use Rattle.rb_machine.proofs.Knowing.CountedTurns.{set_there}
use Rattle.rb_machine.proofs.moves.count.Goals as goal

pub returns-clause-counted : goal.returns-clause-counted
returns-clause-counted g c =
    let procs = c.args.procs.now in
    ap (set procs c.args.p) c.count_turn.ensures.turn ∙ set-changes (changed turn_used) procs c.args.p c.index-procs-p.result c.requires.process

pub returns-clause-over : goal.returns-clause-over
returns-clause-over g c one there =
    c.count_turn.ensures.over
    ∙ ap (λ (x : Seen). position is_over x.process.levels) (set_there c.args.procs.now c.args.p c.count_turn.new.self one c.requires.process there)
