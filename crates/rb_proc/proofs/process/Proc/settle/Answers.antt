use Rattle.std.proofs.Common.{List, ap, sym, ◌∙◌, subst}
use Rattle.rb_world.specs.Kind.{Membership}
use Rattle.rb_world.specs.World.{Process, settled}
use Rattle.rb_code.specs.Instructions.Plain.{code as plain}
use Rattle.rb_code.specs.SoundCode.Stands.{SettlesSoundly}
use Rattle.rb_code.specs.WordMachine.Turn.{Copy, Standing}
use Rattle.rb_proc.specs.Process.{Seen, kind_of}
use Rattle.rb_proc.specs.ProcessInside.{standing}
use Rattle.rb_proc.proofs.Landing.{landed}
use Rattle.rb_proc.proofs.process.Proc.settle.Goals as goal

pub returns-in-Some-clause-settled : goal.returns-in-Some-clause-settled
returns-in-Some-clause-settled g c =
    let code = plain c.args.code.now in
    let i = c.self.inside in
    let settles =
    subst (λ (old : Seen). (groups : List Membership) × SettlesSoundly code groups old.process.state old.process.levels)
    (sym c.self.view_is) c.requires.settles in
    ap (λ (q : Process Standing Copy). record { process = q; waiting = i.memory.waiting })
    (landed code settles.0 (standing i.memory i.process i.at i.last_kept) i.memory.levels c.in-Some.to settles.1 c.in-Some.ensures)
    ∙ ap (λ (old : Seen). record old { process = settled (kind_of code) old.process.state old.process.levels }) c.self.view_is
