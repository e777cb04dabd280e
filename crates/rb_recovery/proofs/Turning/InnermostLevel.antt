-- The innermost level of a process, and the alternate that its next step starts.
use Rattle.std.proofs.Common.{◌≡◌, ℕ, ◌-◌, ◌<◌, List, length, get_or, slice_get, Option, Some, None, refl, sym, ap, ◌∙◌, subst, arith}
use Rattle.std.proofs.lemmas.Option.{slice_get_read}
use Rattle.rb_world.specs.Turn.{tried_at}
use Rattle.rb_world.specs.World.{Level, last_of}
use Rattle.rb_code.specs.Instructions.Plain.{Code}
use Rattle.rb_code.specs.WordMachine.Turn.{Copy, want}
use Rattle.rb_proc.proofs.Stepping.{alternate_is}
use Rattle.rb_proc.specs.Given.{alternate_by}
use Rattle.rb_proc.specs.Process.{Seen, alternate_for}
use Rattle.rb_recoverable.specs.Views.{IsViewOf}
use Rattle.rb_recoverable.specs.declared.level_view.LevelView.{LevelView}
use Rattle.rb_proc.specs.declared.answers.Wanted.{Wanted}
use Rattle.rb_recovery.specs.Innermost.{WantsThere}
use Rattle.rb_recovery.specs.Innermost.{IsInnermost, tried_by}
use Rattle.rb_recovery.proofs.Changed.{last_there}

-- the level at the last number is the innermost one
pub innermost_seen : (levels : List (Level Copy)) (n : ℕ) (view : LevelView) → n ≡ length levels → (n ≡ 0 → ⊥)
    → IsViewOf (slice_get levels (n - 1)) view
    → IsInnermost (last_of levels) (Some view)
innermost_seen levels n view long some h = by (slice_get levels (n - 1)) refl h
  where
    by : (o : Option (Level Copy)) → slice_get levels (n - 1) ≡ o → IsViewOf o view → IsInnermost (last_of levels) (Some view)
    by None e h = absurd h
    by (Some level) e h =
        subst (λ o. IsInnermost o (Some view)) (sym (last_there levels (n - 1) level (omega (arith, long, some)) e)) h

-- what is seen of it tells its alternate and its conversation
pub tried_seen : (o : Option (Level Copy)) (seen : Option LevelView) → IsInnermost o seen → tried_by seen ≡ tried_at o
tried_seen None None h = refl
tried_seen None (Some view) h = absurd h
tried_seen (Some level) None h = absurd h
tried_seen (Some level) (Some view) h = h.1

-- what a process that was read wants tells the alternate of its step
pub alternate_known : (c : Code) (procs : List Seen) (p : ℕ) (read : Seen) (answer : Wanted) (n : ℕ) → p < length procs → read ≡ get_or procs p read
    → WantsThere c procs p answer → n ≡ alternate_by answer read.process.levels → n ≡ alternate_for (want c read.process.state) read.process.levels
alternate_known c procs p read answer n within is wants told =
    let levels = read.process.levels in
    told ∙ (ap (λ (w : Wanted). alternate_by w levels) (wants read (slice_get_read procs (length procs) p read refl within is))
    ∙ alternate_is (want c read.process.state) levels)
