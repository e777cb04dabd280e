-- What a process that may act wants and takes.
use Rattle.std.proofs.Common.{◌≡◌, ℕ, ◌<◌, List, length, get_or, refl, ap, sym, ◌∙◌}
use Rattle.rb_world.specs.Kind.{Want, NothingLeft, SendsOn, ReceivesOn, MayReceiveOn, Enters, Starts, Acts}
use Rattle.rb_world.specs.Slots.{Slots}
use Rattle.std.proofs.lemmas.Option.{slice_get_read}
use Rattle.rb_world.proofs.ListFacts.{some_same}
use Rattle.rb_code.specs.Instructions.Plain.{Code}
use Rattle.rb_code.specs.WordMachine.Turn.{want}
use Rattle.rb_conv.specs.Conversations.{Conversation}
use Rattle.rb_proc.specs.Executable.{HasNext}
use Rattle.rb_proc.specs.Process.{Seen, wanted_by}
use Rattle.rb_proc.specs.declared.answers.Wanted.{Wanted}
use Rattle.rb_machine.specs.AtWork.{IsAtWork, MayAct}
use Rattle.rb_ready.specs.Readiness.{IsReceiverIf, ReceivesThere}
use Rattle.rb_recovery.specs.Innermost.{WantsThere}
use Rattle.rb_recovery.specs.declared.links.Link.{Link as Held}
use Rattle.rb_machine.proofs.Passing.Receivers.{next_at_work, takes_as_receiver, waits_as_receiver}

-- the answer of a process that was read tells what the process wants
pub wants_read : (c : Code) (procs : List Seen) (p : ℕ) (read : Seen) (answer : Wanted) → p < length procs → read ≡ get_or procs p read
    → answer ≡ wanted_by (want c read.process.state) → WantsThere c procs p answer
wants_read c procs p read answer within is says one there =
    says
    ∙ ap (λ (x : Seen). wanted_by (want c x.process.state)) (some_same (sym (slice_get_read procs (length procs) p read refl within is) ∙ there))

-- which has another instruction behind its own, unless it is done
pub next_read : (c : Code) (t : ℕ) (procs : List Seen) (table : List Conversation) (slots : Slots) (links : List Held)
    → IsAtWork c t procs table slots links → (p : ℕ) (read : Seen) → p < length procs → read ≡ get_or procs p read → MayAct procs p
    → HasNext c read.process.state.at
next_read c t procs table slots links work p read within is may =
    let there = slice_get_read procs (length procs) p read refl within is in
    next_at_work c t procs table slots links work p read there (may read there)

-- who takes a message of a channel is its receiver
pub receives_there : (c : Code) (t : ℕ) (procs : List Seen) (table : List Conversation) (slots : Slots) (links : List Held)
    → IsAtWork c t procs table slots links → (p : ℕ) → MayAct procs p → ReceivesThere c procs p
receives_there c t procs table slots links work p may one there = by (want c one.process.state) refl
  where
    by : (w : Want) → want c one.process.state ≡ w → IsReceiverIf c p w
    by NothingLeft e = tt
    by (SendsOn channel) e = tt
    by (ReceivesOn channel) e = waits_as_receiver c t procs table slots links work p one there (may one there) channel e
    by (MayReceiveOn channel) e = takes_as_receiver c t procs table slots links work p one there (may one there) channel e
    by (Enters facts) e = tt
    by Starts e = tt
    by Acts e = tt
