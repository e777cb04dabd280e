-- How a command ends whose text another crate writes, and who takes memory for it.
use Rattle.std.proofs.Common.{◌≡◌, ℕ, List, Option, Result, Ok, Err, inr, sym, subst}
use Rattle.rb_outside.specs.Outside.{Faults}
use Rattle.rb_run.specs.Surviving.{Survives}
use Rattle.rb_run.specs.declared.surviving.Ended.{Ended}
use Rattle.rb_run.specs.declared.surviving.Ended.TheVariants as ended
use Rattle.rb_back.specs.Showing.{Shows}
use Rattle.rb_back.specs.declared.showing.Stopped.{Stopped}
use Rattle.rb_back.specs.declared.showing.Stopped.TheVariants as stopped
use Rattle.rb_hall.specs.declared.command.Unwritten.{Unwritten}
use Rattle.rb_turns.specs.Written.{PutsOrMemory}
use Rattle.rb_commands.specs.Written.{PutsFrontOrMemory, unwritten_of_following, unwritten_of_survival}
use Rattle.rb_commands.specs.declared.why.Why.{Why}

module _ (text meant : List ℕ) (same : text ≡ meant) where
  -- the survivors of a run
  survived : (ran : Result (Unit {0}) Ended) (old new : Option (List ℕ)) (before after : Faults) → Survives meant old new before after ran
      → PutsOrMemory meant old new before after (unwritten_of_survival ran)
  survived (Ok done) old new before after puts = (puts.ok, puts.quiet)
  survived (Err ended.WriteFault) old new before after puts = (puts.err, puts.failed)
  survived (Err ended.Memory) old new before after still = still

  pub survival_puts : (ran : Result (Unit {0}) Ended) (result : Result (Unit {0}) (Unwritten Why)) (old new : Option (List ℕ))
      (before after : Faults) → Survives text old new before after ran → result ≡ unwritten_of_survival ran
      → PutsOrMemory meant old new before after result
  survival_puts ran result old new before after puts is =
      subst (PutsOrMemory meant old new before after) (sym is)
      (survived ran old new before after (subst (λ bytes. Survives bytes old new before after ran) same puts))

  -- and what a session shows
  followed : (shown : Result (Unit {0}) Stopped) (old new : Option (List ℕ)) (before after : Faults) → Shows meant old new before after shown
      → PutsFrontOrMemory meant old new before after (unwritten_of_following shown)
  followed (Ok done) old new before after puts = (puts.ok, puts.quiet)
  followed (Err stopped.WriteFault) old new before after puts = (puts.err, puts.failed)
  followed (Err stopped.Memory) old new before after part = inr part

  pub following_puts : (shown : Result (Unit {0}) Stopped) (result : Result (Unit {0}) (Unwritten Why)) (old new : Option (List ℕ))
      (before after : Faults) → Shows text old new before after shown → result ≡ unwritten_of_following shown
      → PutsFrontOrMemory meant old new before after result
  following_puts shown result old new before after puts is =
      subst (PutsFrontOrMemory meant old new before after) (sym is)
      (followed shown old new before after (subst (λ bytes. Shows bytes old new before after shown) same puts))
