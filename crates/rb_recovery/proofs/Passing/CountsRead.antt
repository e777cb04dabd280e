-- The counts of a channel are the cursors of its two ends.
use Rattle.std.proofs.Common.{◌≡◌, ◌+◌, ◌<◌, ℕ, ℤ, zero, suc, nat_eq, Bool, cond, List, [], ◌∷◌, length, get_or, map, option_map, slice_get, Option, Some, refl, ap, sym, subst, ◌∙◌, arith, zero-add, eq-eqb}
use Rattle.std.proofs.lemmas.List.{length-map}
use Rattle.std.proofs.lemmas.Option.{slice_get-map}
use Rattle.rb_world.specs.Kind.{Ends}
use Rattle.rb_world.specs.World.{Process}
use Rattle.rb_world.proofs.ListFacts.{none_some, slice_get-there, some_same}
use Rattle.rb_code.specs.Instructions.Plain.{Code, channel as ends_of, code as plain}
use Rattle.rb_code.specs.declared.code.ChannelCode.{ChannelCode}
use Rattle.rb_code.specs.declared.code.Code.{Code as Held}
use Rattle.rb_code.specs.SoundCode.Safe.{IsThere}
use Rattle.rb_code.specs.SoundCode.Sound.{IsReceiver, IsSender}
use Rattle.rb_code.specs.WordMachine.Turn.{Copy, Standing}
use Rattle.rb_code.specs.WordMachine.WordKind.{cursor_in, sent_by, taken_by}
use Rattle.rb_code.specs.WordMachine.WordRun.{by_standing, counts_sent, counts_taken}
use Rattle.rb_code.proofs.InWords.Channels.{receives, sends}
use Rattle.rb_proc.specs.Process.{Seen}
use Rattle.rb_recovery.specs.Reading.{AreCounted, HasEnd, sent_of, taken_of}
use Rattle.rb_recovery.specs.Worlds.{processes_of}
use Rattle.rb_recovery.proofs.Passing.RoomsAndMessages.{channel_lent}

-- how many values the sender of a channel has sent, and the receiver of one has taken, by the channel's number
abbrev sent_in : Code → List Standing → ℕ → Ends → ℕ
sent_in c standings channel ends = by_standing (λ s. sent_by c s.process s.words channel (Some ends)) (slice_get standings ends.sender)

abbrev taken_in : Code → List Standing → ℕ → Ends → ℕ
taken_in c standings channel ends = by_standing (λ s. taken_by c s.process s.words channel (Some ends)) (slice_get standings ends.receiver)

-- these are the counts of a channel, of those from a number on
sent_at : (c : Code) (standings : List Standing) (from n : ℕ) (list : List Ends) (ends : Ends) → slice_get list n ≡ Some ends
    → slice_get (counts_sent c standings from list) n ≡ Some (sent_in c standings (from + n) ends)
sent_at c standings from n [] ends e = absurd (none_some e)
sent_at c standings from zero (first ∷ list) ends e =
    let here : from ≡ from + 0 = omega arith in
    ap (λ (m : ℕ). Some (sent_in c standings m first)) here ∙ ap (λ (one : Ends). Some (sent_in c standings (from + 0) one)) (some_same e)
sent_at c standings from (suc n) (first ∷ list) ends e =
    let here : (from + 1) + n ≡ from + suc n = omega arith in
    sent_at c standings (from + 1) n list ends e ∙ ap (λ (m : ℕ). Some (sent_in c standings m ends)) here

taken_at : (c : Code) (standings : List Standing) (from n : ℕ) (list : List Ends) (ends : Ends) → slice_get list n ≡ Some ends
    → slice_get (counts_taken c standings from list) n ≡ Some (taken_in c standings (from + n) ends)
taken_at c standings from n [] ends e = absurd (none_some e)
taken_at c standings from zero (first ∷ list) ends e =
    let here : from ≡ from + 0 = omega arith in
    ap (λ (m : ℕ). Some (taken_in c standings m first)) here ∙ ap (λ (one : Ends). Some (taken_in c standings (from + 0) one)) (some_same e)
taken_at c standings from (suc n) (first ∷ list) ends e =
    let here : (from + 1) + n ≡ from + suc n = omega arith in
    taken_at c standings (from + 1) n list ends e ∙ ap (λ (m : ℕ). Some (taken_in c standings m ends)) here

-- there are as many counts as channels
sent_long : (c : Code) (standings : List Standing) (from : ℕ) (list : List Ends) → length (counts_sent c standings from list) ≡ length list
sent_long c standings from [] = refl
sent_long c standings from (ends ∷ list) = ap suc (sent_long c standings (from + 1) list)

taken_long : (c : Code) (standings : List Standing) (from : ℕ) (list : List Ends) → length (counts_taken c standings from list) ≡ length list
taken_long c standings from [] = refl
taken_long c standings from (ends ∷ list) = ap suc (taken_long c standings (from + 1) list)

-- the state of a process by its number
state_there : (procs : List Seen) (p : ℕ) (one : Seen) → slice_get procs p ≡ Some one
    → slice_get (map (λ (q : Process Standing Copy). q.state) (processes_of procs)) p ≡ Some one.process.state
state_there procs p one e =
    slice_get-map (λ (q : Process Standing Copy). q.state) (processes_of procs) p
    ∙ ap (option_map (λ (q : Process Standing Copy). q.state))
    (slice_get-map (λ (one : Seen). one.process) procs p ∙ ap (option_map (λ (one : Seen). one.process)) e)

-- the cursor of an end, where the process knows that it is that end
own_cursor : (c : Code) (end p channel : ℕ) (words : List ℤ) → p ≡ end
    → cond (nat_eq end p) (cursor_in c p words (0 + channel)) 0 ≡ cursor_in c end words channel
own_cursor c end p channel words e =
    ap (λ (p : ℕ). cond (nat_eq end p) (cursor_in c p words (0 + channel)) 0) e
    ∙ ap (λ (b : Bool). cond b (cursor_in c end words (0 + channel)) 0) (eq-eqb end end refl)
    ∙ ap (cursor_in c end words) (zero-add channel)

module _ (c : Code) (procs : List Seen) (counted : AreCounted c procs) (channel : ℕ) (ends : Ends)
    (at : slice_get c.channels channel ≡ Some ends) where
  there : (p : ℕ) → p < length c.processes → p < length procs
  there p h = omega (arith, h, counted.numbered.as_many)

  exists : (p : ℕ) → p < length c.processes → IsThere (slice_get c.processes p)
  exists p h = let found = slice_get-there c.processes p h in subst IsThere (sym found.1) tt

  -- both ends of the channel have cursors for it
  pub sender_counts : HasEnd c procs channel ends.sender
  sender_counts = record {
    there = there ends.sender (counted.ends channel ends at).sender;
    among = sends c counted.numbered.lists ends.sender (exists ends.sender (counted.ends channel ends at).sender) channel
        (subst (λ o. IsSender o ends.sender) (sym at) refl);
  }

  pub receiver_counts : HasEnd c procs channel ends.receiver
  receiver_counts = record {
    there = there ends.receiver (counted.ends channel ends at).receiver;
    among = receives c counted.numbered.lists ends.receiver (exists ends.receiver (counted.ends channel ends at).receiver) channel
        (subst (λ o. IsReceiver o ends.receiver) (sym at) refl);
  }

  -- which are its counts
  pub sent_is : (one : Seen) → slice_get procs ends.sender ≡ Some one
      → slice_get (sent_of c (processes_of procs)) channel ≡ Some (cursor_in c ends.sender one.process.state.words channel)
  sent_is one e =
      sent_at c (map (λ (q : Process Standing Copy). q.state) (processes_of procs)) 0 channel c.channels ends at
      ∙ ap (λ (o : Option Standing). Some (by_standing (λ s. sent_by c s.process s.words (0 + channel) (Some ends)) o))
      (state_there procs ends.sender one e)
      ∙ ap Some (own_cursor c ends.sender one.process.state.process channel one.process.state.words (counted.numbered.numbers ends.sender one e))

  pub taken_is : (one : Seen) → slice_get procs ends.receiver ≡ Some one
      → slice_get (taken_of c (processes_of procs)) channel ≡ Some (cursor_in c ends.receiver one.process.state.words channel)
  taken_is one e =
      taken_at c (map (λ (q : Process Standing Copy). q.state) (processes_of procs)) 0 channel c.channels ends at
      ∙ ap (λ (o : Option Standing). Some (by_standing (λ s. taken_by c s.process s.words (0 + channel) (Some ends)) o))
      (state_there procs ends.receiver one e)
      ∙ ap Some (own_cursor c ends.receiver one.process.state.process channel one.process.state.words (counted.numbered.numbers ends.receiver one e))

-- a channel of the code that was read by its number
-- a channel of which someone is the receiver is there
pub receiver_within : (list : List Ends) (k p : ℕ) → IsReceiver (slice_get list k) p → k < length list
receiver_within [] k p h = absurd h
receiver_within (ends ∷ list) zero p h = omega arith
receiver_within (ends ∷ list) (suc k) p h = omega (arith, receiver_within list k p h)

pub channel_there : (code : Held) (n : ℕ) (one : ChannelCode) → n < length (plain code).channels → one ≡ get_or code.channels.items n one
    → slice_get (plain code).channels n ≡ Some (ends_of one)
channel_there code n one h read =
    let within : n < length code.channels.items = omega (arith, h, length-map code.channels.items ends_of) in
    channel_lent code code.channels.items n one refl within read
