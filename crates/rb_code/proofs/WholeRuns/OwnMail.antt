-- A process sends and takes on the channels alone of which it is an end, and its cursors count both.
use Rattle.std.proofs.Common.{◌≡◌, ◌⊎◌, inl, inr, ◌≤◌, ◌<◌, ℕ, ℤ, pos, zero, suc, nat_eq, Bool, true, false, cond, List, [], length, replicate, slice_get, unwrap_or, Option, Some, None, refl, sym, ap, ◌∙◌, subst, arith}
use Rattle.std.proofs.lemmas.Bool.{eqb-true, eqb-false, cases_lt}
use Rattle.std.proofs.lemmas.List.{length-map, length-replicate}
use Rattle.std.proofs.lemmas.Option.{slice_get_past}
use Rattle.rb_syntax.specs.Tree.{ProcessDeclaration, Tree}
use Rattle.rb_world.specs.Kind.{Ends, Want, NothingLeft, SendsOn, ReceivesOn, MayReceiveOn, Enters, Starts, Acts, Went, Held}
use Rattle.rb_world.specs.World.{Process}
use Rattle.rb_world.proofs.Erasing.ErasableKinds.{Moves, receives_on, sends_by, takes_by, takes_if}
use Rattle.rb_world.proofs.ListFacts.{nothing_within}
use Rattle.rb_meaning.specs.Environment.{Environment, natural}
use Rattle.rb_meaning.specs.State.{State}
use Rattle.rb_meaning.specs.Step.{Nothing, Result_of_step, step, wants_first}
use Rattle.rb_meaning.specs.Groups.{channels_of, ends_of}
use Rattle.rb_meaning.specs.Laws.{blocks_left}
use Rattle.rb_meaning.specs.Meaning.{opening_state, sent_on, taken_on}
use Rattle.rb_meaning.specs.Nesting.{IsNested}
use Rattle.rb_meaning.proofs.Nesting.ChannelEnds.{first_receives, first_sends}
use Rattle.rb_meaning.proofs.Knowing.KnownOfProcess.{Known}
use Rattle.rb_meaning.proofs.Trees.MailOfSteps.{Posts}
use Rattle.rb_meaning.proofs.Nesting.NestedProgram.{procedures_kept}
use Rattle.rb_meaning.proofs.Trees.StepsChangeMail.{IsPassed, steps_post}
use Rattle.rb_meaning.proofs.Nesting.StepsKeepRules.{Continues, Passes, StepsTo, steps_keep}
use Rattle.rb_meaning.proofs.Trees.TreeParts.{moves_by, parts_of}
use Rattle.rb_meaning.proofs.Trees.TreeErasure.{none_taken}
use Rattle.rb_code.specs.Instructions.Plain.{Code}
use Rattle.rb_code.specs.WordMachine.Workspace.{OpenCall, cursor_place, part_of, word_at}
use Rattle.rb_code.specs.WordMachine.WordKind.{cursor_in, sent_by, taken_by}
use Rattle.rb_code.proofs.Agreeing.StatesMeet.{WordsMeet}

-- process p has an entry for each channel, and has sent and taken nothing on those of which it is no end
pub record HasOwnMail (c : Code) (p : ℕ) (s : State) : Type 0 where
  pub sent_long : length s.sent ≡ length c.channels
  pub taken_long : length s.taken ≡ length c.channels
  pub sent_own : (channel : ℕ) (ends : Ends) → slice_get c.channels channel ≡ Some ends → (ends.sender ≡ p → ⊥) → length (sent_on s channel) ≡ 0
  pub taken_own : (channel : ℕ) (ends : Ends) → slice_get c.channels channel ≡ Some ends → (ends.receiver ≡ p → ⊥) → taken_on s channel ≡ 0

abbrev nothing : {A : Type 0} → List A
nothing = []

-- past the end of a list that is as long as the channels
none_past : {A B : Type 0} (xs : List A) (ys : List B) (k : ℕ) → length ys ≡ length xs → slice_get xs k ≡ None → slice_get ys k ≡ None
none_past xs ys k same none = by_order (cases_lt k (length ys))
  where
    by_order : (k < length ys) ⊎ (length ys ≤ k) → slice_get ys k ≡ None
    by_order (inl below) = absurd (nothing_within xs k (omega (arith, same, below)) none)
    by_order (inr past) = slice_get_past ys k past

-- states with the same lists
pub same_mail : {c : Code} {p : ℕ} (s t : State) → t.sent ≡ s.sent → t.taken ≡ s.taken → HasOwnMail c p s → HasOwnMail c p t
same_mail s t sent taken mail = record {
  sent_long = ap (λ (lists : List (List ℤ)). length lists) sent ∙ mail.sent_long;
  taken_long = ap (λ (numbers : List ℕ). length numbers) taken ∙ mail.taken_long;
  sent_own = λ channel ends e other. ap (λ (lists : List (List ℤ)). length (unwrap_or (slice_get lists channel) [])) sent
      ∙ mail.sent_own channel ends e other;
  taken_own = λ channel ends e other. ap (λ (numbers : List ℕ). unwrap_or (slice_get numbers channel) 0) taken ∙ mail.taken_own channel ends e other;
}

-- before the first turn
pub none_sent : (n channel : ℕ) → length (unwrap_or (slice_get (replicate n (nothing {A = ℤ})) channel) []) ≡ 0
none_sent zero channel = refl
none_sent (suc n) zero = refl
none_sent (suc n) (suc channel) = none_sent n channel

pub opening_mail : (tree : Tree) (c : Code) → c.channels ≡ channels_of tree → (p : ℕ) (process : ProcessDeclaration)
    → HasOwnMail c p (opening_state tree p process)
opening_mail tree c channels_are p process =
    let as_many : length tree.channels ≡ length c.channels =
    sym (ap (λ (channels : List Ends). length channels) channels_are ∙ length-map tree.channels (ends_of tree)) in
    record {
      sent_long = length-replicate (length tree.channels) [] ∙ as_many;
      taken_long = length-replicate (length tree.channels) 0 ∙ as_many;
      sent_own = λ channel ends e other. none_sent (length tree.channels) channel;
      taken_own = λ channel ends e other. none_taken (length tree.channels) channel;
    }

module _ (tree : Tree) (c : Code) (p : ℕ) where
  -- the cursor of a channel counts
  by_sender : (s : State) (words : List ℤ) (channel : ℕ) (ends : Ends) (own : Bool) → nat_eq ends.sender p ≡ own
      → (ends.sender ≡ p → word_at words (cursor_place (part_of c p) channel) ≡ pos (length (sent_on s channel)))
      → ((ends.sender ≡ p → ⊥) → length (sent_on s channel) ≡ 0)
      → length (sent_on s channel) ≡ cond own (cursor_in c p words channel) 0
  by_sender s words channel ends true e cursor none = sym (ap natural (cursor (eqb-true ends.sender p e)))
  by_sender s words channel ends false e cursor none = none (eqb-false ends.sender p e)

  by_receiver : (s : State) (words : List ℤ) (channel : ℕ) (ends : Ends) (own : Bool) → nat_eq ends.receiver p ≡ own
      → (ends.receiver ≡ p → word_at words (cursor_place (part_of c p) channel) ≡ pos (taken_on s channel))
      → ((ends.receiver ≡ p → ⊥) → taken_on s channel ≡ 0)
      → taken_on s channel ≡ cond own (cursor_in c p words channel) 0
  by_receiver s words channel ends true e cursor none = sym (ap natural (cursor (eqb-true ends.receiver p e)))
  by_receiver s words channel ends false e cursor none = none (eqb-false ends.receiver p e)

  sent_at : (s : State) (words : List ℤ) (channel : ℕ) (o : Option Ends) → slice_get c.channels channel ≡ o → HasOwnMail c p s
      → ((ends : Ends) → slice_get c.channels channel ≡ Some ends → ends.sender ≡ p
      → word_at words (cursor_place (part_of c p) channel) ≡ pos (length (sent_on s channel)))
      → length (sent_on s channel) ≡ sent_by c p words channel o
  sent_at s words channel None e mail cursor = ap (λ o. length (unwrap_or o [])) (none_past c.channels s.sent channel mail.sent_long e)
  sent_at s words channel (Some ends) e mail cursor =
      by_sender s words channel ends (nat_eq ends.sender p) refl (cursor ends e) (mail.sent_own channel ends e)

  taken_at : (s : State) (words : List ℤ) (channel : ℕ) (o : Option Ends) → slice_get c.channels channel ≡ o → HasOwnMail c p s
      → ((ends : Ends) → slice_get c.channels channel ≡ Some ends → ends.receiver ≡ p
      → word_at words (cursor_place (part_of c p) channel) ≡ pos (taken_on s channel))
      → taken_on s channel ≡ taken_by c p words channel o
  taken_at s words channel None e mail cursor = ap (λ o. unwrap_or o 0) (none_past c.channels s.taken channel mail.taken_long e)
  taken_at s words channel (Some ends) e mail cursor =
      by_receiver s words channel ends (nat_eq ends.receiver p) refl (cursor ends e) (mail.taken_own channel ends e)

  -- as many were sent, and taken, as the words say
  pub sent_counts : (s : State) (words : List ℤ) (calls : List OpenCall) (channel : ℕ) → HasOwnMail c p s → WordsMeet tree c p s words calls
      → length (sent_on s channel) ≡ sent_by c p words channel (slice_get c.channels channel)
  sent_counts s words calls channel mail meet = sent_at s words channel (slice_get c.channels channel) refl mail (meet.sent channel)

  pub taken_counts : (s : State) (words : List ℤ) (calls : List OpenCall) (channel : ℕ) → HasOwnMail c p s → WordsMeet tree c p s words calls
      → taken_on s channel ≡ taken_by c p words channel (slice_get c.channels channel)
  taken_counts s words calls channel mail meet = taken_at s words channel (slice_get c.channels channel) refl mail (meet.taken channel)

-- what does not send on a channel sends nothing on it
sends_if : (here : Bool) (d channel : ℕ) → nat_eq d channel ≡ here → (SendsOn d ≡ SendsOn channel → ⊥) → ◌≡◌ {A = ℕ} (cond here 1 0) 0
sends_if true d channel e never = absurd (never (ap SendsOn (eqb-true d channel e)))
sends_if false d channel e never = refl

sends_none : (want : Want) (channel : ℕ) → (want ≡ SendsOn channel → ⊥) → sends_by want channel ≡ 0
sends_none NothingLeft channel never = refl
sends_none (SendsOn d) channel never = sends_if (nat_eq d channel) d channel refl never
sends_none (ReceivesOn d) channel never = refl
sends_none (MayReceiveOn d) channel never = refl
sends_none (Enters facts) channel never = refl
sends_none Starts channel never = refl
sends_none Acts channel never = refl

-- what does not receive on it takes nothing
takes_only : (message : Option ℤ) (here : Bool) (d channel : ℕ) → nat_eq d channel ≡ here → (Some d ≡ Some channel → ⊥) → takes_if message here ≡ 0
takes_only None here d channel e never = refl
takes_only (Some v) true d channel e never = absurd (never (ap Some (eqb-true d channel e)))
takes_only (Some v) false d channel e never = refl

takes_none : (want : Want) (message : Option ℤ) (channel : ℕ) → (receives_on want ≡ Some channel → ⊥) → takes_by want message channel ≡ 0
takes_none NothingLeft message channel never = refl
takes_none (SendsOn d) message channel never = refl
takes_none (ReceivesOn d) message channel never = takes_only message (nat_eq d channel) d channel refl never
takes_none (MayReceiveOn d) message channel never = takes_only message (nat_eq d channel) d channel refl never
takes_none (Enters facts) message channel never = refl
takes_none Starts message channel never = refl
takes_none Acts message channel never = refl

module _ (tree : Tree) (nested : IsNested tree) (c : Code) (channels_are : c.channels ≡ channels_of tree) (p : ℕ)
    (q : Process State State) (known : Known tree p q) where
  declared_there : (channel : ℕ) (ends : Ends) → slice_get c.channels channel ≡ Some ends → slice_get (channels_of tree) channel ≡ Some ends
  declared_there channel ends e = ap (λ (channels : List Ends). slice_get channels channel) (sym channels_are) ∙ e

  -- a step that went on
  moved_mail : (message : Option ℤ) (t : State) → Moves (parts_of tree) message q.state t
      → length t.sent ≡ length q.state.sent → length t.taken ≡ length q.state.taken
      → HasOwnMail c p q.state → HasOwnMail c p t
  moved_mail message t moves sent_long taken_long mail = record {
    sent_long = sent_long ∙ mail.sent_long;
    taken_long = taken_long ∙ mail.taken_long;
    sent_own = λ channel ends e other.
        let declared = declared_there channel ends e in
        let none : sends_by (wants_first tree q.state.items) channel ≡ 0 =
        sends_none (wants_first tree q.state.items) channel
        (λ wants. other (first_sends tree p channel ends q.state.items known.own.clear wants declared)) in
        omega (arith, moves.sent channel ends declared, none, mail.sent_own channel ends e other);
    taken_own = λ channel ends e other.
        let declared = declared_there channel ends e in
        let none : takes_by (wants_first tree q.state.items) message channel ≡ 0 =
        takes_none (wants_first tree q.state.items) message channel
        (λ wants. other (first_receives tree p channel ends q.state.items known.own.clear wants declared)) in
        omega (arith, moves.taken channel ends declared, none, mail.taken_own channel ends e other);
  }

  pub went_mail : (alternate : ℕ) (prior : Option Environment) (message : Option ℤ) (t : State) (m : Nothing)
      → step tree alternate prior q.state message ≡ Went t m
      → HasOwnMail c p q.state → HasOwnMail c p t
  went_mail alternate prior message t m e mail =
      let posts : Posts (wants_first tree q.state.items) message q.state t =
      subst (λ (r : Result_of_step). StepsTo (Posts (wants_first tree q.state.items) message q.state)
      (IsPassed (wants_first tree q.state.items) q.state) r) e
      (steps_post tree alternate prior q.state message q.state.items) in
      let next : Continues tree p (blocks_left q.state.items) q.state t =
      subst (λ (r : Result_of_step). StepsTo (Continues tree p (blocks_left q.state.items) q.state) (Passes tree p q.state) r) e
      (steps_keep tree p (procedures_kept tree nested p) alternate prior message q.state q.state.items known.own.process refl known.own.clear) in
      moved_mail message t (moves_by tree message q.state t known.own.sent known.own.taken posts) next.sent next.taken mail

  -- a test that held
  pub held_mail : (alternate : ℕ) (prior : Option Environment) (message : Option ℤ) (t : State) → step tree alternate prior q.state message ≡ Held t
      → HasOwnMail c p q.state → HasOwnMail c p t
  held_mail alternate prior message t e mail =
      let passed : IsPassed (wants_first tree q.state.items) q.state t =
      subst (λ (r : Result_of_step). StepsTo (Posts (wants_first tree q.state.items) message q.state)
      (IsPassed (wants_first tree q.state.items) q.state) r) e
      (steps_post tree alternate prior q.state message q.state.items) in
      same_mail q.state t passed.sent passed.taken mail
