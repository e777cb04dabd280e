use Rattle.std.proofs.Common.{◌-◌, ◌<◌, ◌^◌, sym, subst}
use Rattle.rb_world.specs.Standing.{Each}
use Rattle.rb_world.specs.World.{Level}
use Rattle.rb_code.specs.WordMachine.Turn.{Copy}
use Rattle.rb_proc.specs.Process.{Seen}
use Rattle.rb_proc.proofs.process.Proc.count_turn.Goals as goal

pub count_turn-requires : goal.count_turn-requires
count_turn-requires g c =
    subst (λ (old : Seen). Each (λ _ (level : Level Copy). level.used < 2 ^ 32 - 1) old.process.levels) (sym c.self.view_is) c.requires.few
