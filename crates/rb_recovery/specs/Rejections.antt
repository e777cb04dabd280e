-- One rejection of a cascade: what is told of it, what it does to each process, and how the cascade goes on.
use Rattle.std.specs.Prelude.{◌≡◌, ◌+◌, ℕ, Bool, true, false, cond, List, [], ◌∷◌, ◌++◌, Option, Some, None}
use Rattle.rb_base.specs.declared.event.Cause.{Cause}
use Rattle.rb_base.specs.declared.event.Cause.TheVariants.{Inner}
use Rattle.rb_base.specs.declared.event.Event.{Event}
use Rattle.rb_base.specs.declared.event.Event.TheVariants.{Reject, RejectAll}
use Rattle.rb_world.specs.Kind.{Kind}
use Rattle.rb_world.specs.Reject.{after_event, fallen_inside, put_back, raised, reject, where_inside}
use Rattle.rb_world.specs.World.{Process, World}
use Rattle.rb_code.specs.Instructions.Plain.{Code}
use Rattle.rb_code.specs.WordMachine.Turn.{Common, Copy, Standing}
use Rattle.rb_conv.specs.Conversations.{Conversation}
use Rattle.rb_recoverable.specs.declared.level_view.LevelView.{LevelView}
use Rattle.rb_proc.specs.Process.{Seen}
use Rattle.rb_recovery.specs.Worlds.{kind_with, world_of}

-- the rejection of a level that is private, or one of a conversation
abbrev pub told_of : ℕ → LevelView → Cause → Option ℕ → Event
told_of p level cause None = Reject p level.line level.alternate cause
told_of p level cause (Some c) = RejectAll c level.alternate p cause

abbrev pub rejection_of : ℕ → LevelView → Cause → Event
rejection_of p level cause = told_of p level cause level.conversation

-- a process of the machine whose process of the word machine was changed
abbrev pub changed : (Process Standing Copy → Process Standing Copy) → Seen → Seen
changed f one = record one { process = f one.process }

-- level number j goes back, and on to its next alternate if one is left
abbrev pub tried_alone : {S C M : Type 0} → Kind S C M → Bool → ℕ → Process S C → Process S C
tried_alone k true j q = raised j (put_back k j q)
tried_alone k false j q = put_back k j q

-- who is inside a conversation goes back, and on to the next alternate if one is left; if none is, and no conversation lies around it,
-- it fails
abbrev pub tried_together : {S C M : Type 0} → Kind S C M → Bool → Bool → ℕ → Process S C → Process S C
tried_together k true lone c q = where_inside raised c (where_inside (put_back k) c q)
tried_together k false true c q = fallen_inside k c (where_inside (put_back k) c q)
tried_together k false false c q = where_inside (put_back k) c q

-- The rejection of level number j of process p is told by an event, and leads from one world to another; and if the level has no alternate
-- left and another is around it, that is rejected next.
abbrev pub IsRejection : {S C M : Type 0} → Kind S C M → ℕ → ℕ → Cause → Bool → Event → World S C M → World S C M → Type 0
IsRejection k p j cause spent event w w' = reject k p (j + 1) cause w ≡ after_event event (cond spent (reject k p j Inner w') (w', []))

-- Level number j of process p was rejected, and one event tells it. If the level is spent the next one out is to be rejected.
pub record HasRejected (p j : ℕ) (cause : Cause) (spent : Bool) (procs : List Seen) (table : List Conversation) (events : List Event)
    (procs' : List Seen) (table' : List Conversation) (events' : List Event) : Type 0 where
  pub event : Event
  pub told : events' ≡ events ++ event ∷ []
  pub worlds : (c : Code) (memory : Common)
      → IsRejection (kind_with c table) p j cause spent event (world_of procs table memory) (world_of procs' table' memory)
