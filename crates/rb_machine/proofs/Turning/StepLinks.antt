-- The link of a turn says the same of how the process stands before its step and behind it.
use Rattle.std.proofs.Common.{◌≡◌, ℕ, ◌+◌, ℤ, [], Option, ap, sym, ◌∙◌}
use Rattle.rb_world.specs.Kind.{Held}
use Rattle.rb_world.specs.Slots.{Slots}
use Rattle.rb_world.specs.World.{Process, copy_of, goes_on, last_of}
use Rattle.rb_code.specs.Instructions.Plain.{Code}
use Rattle.rb_code.specs.WordMachine.Act.{Accepts, Going, Outcome, Stopped, Trapped as Trap, Unfinished, execute}
use Rattle.rb_code.specs.WordMachine.Turn.{Common, Copy, Standing, came_to, memory_of, most_steps, sight, standing_at, want}
use Rattle.rb_proc.specs.Given.{alternate_by}
use Rattle.rb_proc.specs.Process.{StepsTo, alternate_for, kind_of, step_of}
use Rattle.rb_proc.specs.declared.answers.Outcome.TheVariants as outcome
use Rattle.rb_proc.specs.declared.answers.Wanted.{Wanted}
use Rattle.rb_recovery.specs.declared.links.Link.{Link}
use Rattle.rb_machine.proofs.Turning.StepFacts.{SameProcess, held_test, same_process, went_on}

-- where an acceptance test held, number and last kept turn are the same too
came_held : (s : Standing) (memory : Common) (later : Standing) (o : Outcome) → came_to s memory o ≡ Held later → SameProcess s later
came_held s memory later (Stopped at m) e = absurd (let no_way : ⊥ = cc in no_way)
came_held s memory later (Accepts at m) e =
    let is : standing_at at m s ≡ later = cc in
    record { number = ap (λ (x : Standing). x.process) (sym is); last = ap (λ (x : Standing). x.last_kept) (sym is) }
came_held s memory later (Trap cause) e = absurd (let no_way : ⊥ = cc in no_way)
came_held s memory later (Going at operands m) e = absurd (let no_way : ⊥ = cc in no_way)
came_held s memory later Unfinished e = absurd (let no_way : ⊥ = cc in no_way)

-- the link of turn number t of process p, by how the process stands
abbrev pub link_by : ℕ → ℕ → Wanted → Process Standing Copy → Link
link_by t p wanted q =
    record { turn = t; process = p; alternate = alternate_by wanted q.levels; before = q.state.last_kept }

module _ (t p : ℕ) (wanted : Wanted) (c : Code) (q : Process Standing Copy) (slots : Slots) (message : Option ℤ) (r : Process Standing Copy)
    (after : Slots) where
  pub went_link : StepsTo c q slots (step_of c q slots message) outcome.Went r after → link_by t p wanted r ≡ link_by t p wanted q
  went_link h =
      let went = went_on c q slots (step_of c q slots message) r after h in
      ap (link_by t p wanted) went.process
      ∙ ap (λ n. record { turn = t; process = p; alternate = alternate_by wanted q.levels; before = n })
      (same_process c q slots message went.later went.memory went.is).last

  pub held_link : StepsTo c q slots (step_of c q slots message) outcome.Accepts r after → link_by t p wanted r ≡ link_by t p wanted q
  held_link h =
      let held = held_test c q slots (step_of c q slots message) r after h in
      ap (link_by t p wanted) held.process
      ∙ ap (λ n. record { turn = t; process = p; alternate = alternate_by wanted q.levels; before = n })
      (came_held q.state (record { slots = slots; links = [] }) held.later (execute c
      (sight q.state (alternate_for (want c q.state) q.levels) (copy_of (last_of q.levels)) message)
      (most_steps c) (q.state.at + 1) [] (memory_of q.state slots)) held.is).last
