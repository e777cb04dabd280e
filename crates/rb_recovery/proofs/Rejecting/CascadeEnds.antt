-- The end of a cascade, where process p fails; and that each rejection is told by one event.
use Rattle.std.proofs.Common.{◌≡◌, ◌∷◌, ◌<◌, ◌+◌, ℕ, Bool, [], List, length, get_or, set, sym, ap, ◌∙◌, subst, append-nil, length-append}
use Rattle.rb_base.specs.declared.event.Cause.{Cause}
use Rattle.rb_base.specs.declared.event.Event.{Event}
use Rattle.rb_world.specs.Reject.{fallen, reject}
use Rattle.rb_world.specs.World.{change_at}
use Rattle.rb_conv.specs.Conversations.{Conversation}
use Rattle.rb_conv.proofs.Places.{set-changes}
use Rattle.rb_code.specs.Instructions.Plain.{Code}
use Rattle.rb_code.specs.WordMachine.Turn.{Common}
use Rattle.rb_proc.specs.Process.{Seen, kind_of}
use Rattle.rb_recovery.specs.Cascade.{HasHappened}
use Rattle.rb_recovery.specs.Rejections.{HasRejected, changed}
use Rattle.rb_recovery.specs.Worlds.{NoneWaits, kind_with, world_of}
use Rattle.rb_recovery.proofs.Rejecting.QuietProcesses.{waits_at}
use Rattle.rb_recovery.proofs.SeenWorlds.{processes_at}
use Rattle.rb_recovery.proofs.Beginning.SomeCode.{some_code}

-- without a level left process p fails
module _ (procs : List Seen) (table : List Conversation) (p : ℕ) (cause : Cause) (d new : Seen) (within : p < length procs)
    (is_new : (c : Code) → new ≡ changed (fallen (kind_of c) cause) (get_or procs p d)) where
  fallen_at : (c : Code) → set procs p new ≡ change_at p (changed (fallen (kind_of c) cause)) procs
  fallen_at c = ap (set procs p) (is_new c) ∙ set-changes (changed (fallen (kind_of c) cause)) procs p d within

  pub falls : (left : ℕ) → left ≡ 0 → (events : List Event) (c : Code) (memory : Common)
      → HasHappened (reject (kind_with c table) p left cause) memory procs table events (set procs p new) table events
  falls left none events c memory =
      subst (λ (n : ℕ). HasHappened (reject (kind_with c table) p n cause) memory procs table events (set procs p new) table events) (sym none)
      (record {
        world = ap (λ (later : List Seen). world_of later table memory) (fallen_at c)
            ∙ ap (λ qs. record { processes = qs; talks = (world_of procs table memory).talks; memory = memory })
            (processes_at p (fallen (kind_of c) cause) procs);
        told = sym (append-nil events);
      })

  pub falls_quietly : NoneWaits procs → NoneWaits (set procs p new)
  falls_quietly waits = subst NoneWaits (sym (fallen_at some_code)) (waits_at p (fallen (kind_of some_code) cause) procs waits)

-- one event was told
pub one_told : {p j : ℕ} {cause : Cause} {spent : Bool} {procs procs' : List Seen} {table table' : List Conversation} (events events' : List Event)
    → HasRejected p j cause spent procs table events procs' table' events' → length events' ≡ length events + 1
one_told events events' rejected = ap (λ (told : List Event). length told) rejected.told ∙ length-append events (rejected.event ∷ [])
