-- A `send` and a `receive` do the same in the meaning and in the machine.
use Rattle.std.proofs.Common.{◌≡◌, inl, ℕ, ◌+◌, ℤ, pos, List, [], ◌∷◌, length, slice_get, unwrap_or, Option, Some, None, Ok, refl, sym, ap, ◌∙◌, subst}
use Rattle.rb_base.specs.declared.place.Place.{Place}
use Rattle.rb_world.proofs.ListFacts.{slice_get-end}
use Rattle.rb_world.specs.Slots.{Slots, put_slot}
use Rattle.rb_syntax.specs.Tree.{Sending, Receiving, Expression, Identifier, Otherwise, NoElse, Else, Reference, Tree}
use Rattle.rb_meaning.specs.Environment.{natural, store}
use Rattle.rb_meaning.specs.State.{Item, State, continue_with, with_environment, with_taken}
use Rattle.rb_meaning.specs.Groups.{channel_number, channels_of}
use Rattle.rb_meaning.specs.Step.{performs, present_value, pushes, put_at, receives, takes}
use Rattle.rb_meaning.specs.Meaning.{message_number, sent_on}
use Rattle.rb_scope.specs.InFrames.{CommandInFrames, IsScalar, OtherwiseInFrames, ReferenceInFrames}
use Rattle.rb_scope.specs.declared.slot.Slot.{Slot}
use Rattle.rb_code.specs.Instructions.Plain.{Code}
use Rattle.rb_code.specs.WordMachine.Workspace.{Workspace, cursor_place, part_of, word_at, written}
use Rattle.rb_code.specs.WordMachine.Act.{Going, Outcome, Sight, act, if_there, put, risen}
use Rattle.rb_code.specs.Agreement.Slots.{channel_in, channel_of}
use Rattle.rb_code.specs.Agreement.Template.{One}
use Rattle.rb_code.specs.Agreement.Forms.{CommandForm, StoreCode}
use Rattle.rb_code.specs.declared.instr.Instr.TheVariants.{Absent, Put, Room, Take, There}
use Rattle.rb_code.proofs.Agreeing.Placed.{BodyPlaced, CommandPlaced, ReceiptPlaced}
use Rattle.rb_code.proofs.Agreeing.Leads.{Leads, goes, passes, stays}
use Rattle.rb_code.proofs.Agreeing.ResultsReached.{recounted}
use Rattle.rb_code.proofs.Agreeing.ResultsReached.{kept_here}
use Rattle.rb_code.proofs.InWords.LaidOut.{place_lying, stacks_of}
use Rattle.rb_code.proofs.Agreeing.TextLeft.{Left, owner_of}
use Rattle.rb_code.proofs.Agreeing.Loops.{jumps, to_there}
use Rattle.rb_code.proofs.Agreeing.Stores.{frames_of, plain_comes, store_took}
use Rattle.rb_code.proofs.Agreeing.Assignments.{left_stored, words_stored}
use Rattle.rb_code.proofs.Agreeing.Blocks.{block_took}
use Rattle.rb_code.proofs.InWords.Cursors.{IsReceiver, IsSender, one_sent, one_taken, sent_there, words_sent, words_taken}
use Rattle.rb_code.proofs.Agreeing.StepOutcomes.{HasCursors, InTurn, Took, arrives, took_from, took_on, words_continue}

module _ (tree : Tree) (slots : List Slot) (c : Code) (see : Sight) (has : HasCursors c see.process) (s : State)
    (m : Workspace) (turn : InTurn tree slots c see has s m)
    (channels : c.channels ≡ channels_of tree) (edition : c.edition ≡ tree.edition) where
  -- the slots behind a send
  abbrev pub slots_then : ℕ → State → Slots
  slots_then channel later =
      put_slot (channels_of tree) channel (length (sent_on s channel)) (message_number later channel (length (sent_on s channel))) m.slots

  slots_put : (channel : ℕ) (v : ℤ) (rest : List Item) → IsSender c see.process s channel
      → (put c see channel v m).slots ≡ slots_then channel (one_sent channel v (continue_with rest s))
  slots_put channel v rest me =
      let n = length (sent_on s channel) in
      let sent : natural (word_at m.words (cursor_place (part_of c see.process) channel)) ≡ n =
      ap natural (turn.words_meet.sent channel me.ends me.at me.is) in
      let last : message_number (one_sent channel v s) channel n ≡ v =
      ap (λ xs. unwrap_or (slice_get xs n) (pos 0)) (sent_there s channel v me.within)
      ∙ ap (λ o. unwrap_or o (pos 0)) (slice_get-end (sent_on s channel) v) in
      ap (λ k. put_slot c.channels channel k v m.slots) sent ∙ ap (λ cs. put_slot cs channel n v m.slots) channels
      ∙ ap (λ x. put_slot (channels_of tree) channel n x m.slots) (sym last)

  pub sending_took : (name : Identifier) (e : Expression) (rest : List Item) (a b : ℕ) → IsSender c see.process s (channel_number tree name.text)
      → CommandPlaced tree slots (owner_of tree see.process) (Sending name e) c a b
      → CommandInFrames tree slots see.process (frames_of tree slots c see has s) (Sending name e)
      → Left tree slots c see.process (stacks_of s.environment.calls) rest m.calls b
      → Took tree slots c see has (a + 1) [] m (slots_then (channel_number tree name.text)) (performs tree see.message s rest (Sending name e))
  unfolding CommandForm
  sending_took name e rest a b me (d, begin, (d1, room, (d2, code, last))) is left =
      let channel = channel_number tree name.text in
      let same : channel_of slots name.id ≡ channel = ap channel_in is.0.slot in
      took_from tree slots c see has (a + 1) d1 [] [] m m (slots_then channel) (performs tree see.message s rest (Sending name e))
      (subst (λ x. Leads c see x [] m d1 [] m) begin.1 (passes c see (Room (channel_of slots name.id)) d d1 [] [] m m room refl))
      (took_on tree slots c see has d1 d2 [] m (λ v. v ∷ []) (λ v. m) (slots_then channel) (present_value s.environment e) _
      (plain_comes tree slots c see has s m turn e is.1 d1 d2 m.counters [] turn.two code)
      (λ v later at many. took_from tree slots c see has d2 b (v ∷ []) [] (recounted later m)
      (recounted later (put c see channel v m)) (slots_then channel)
      (Ok (one_sent channel v (continue_with rest s)))
      (passes c see (Put channel) d2 b (v ∷ []) [] (recounted later m) (recounted later (put c see channel v m))
      (subst (λ x. One (Put x) c d2 b) same last) refl)
      (arrives tree slots c see has (one_sent channel v (continue_with rest s)) b (recounted later (put c see channel v m)) (slots_then channel)
      (record {
        words_meet = words_continue tree c see.process has (one_sent channel v s) (put c see channel v m).words m.calls rest
            (words_sent tree c see.process has s m.words m.calls turn.words_meet channel v me);
        held = turn.held;
        two = many ∙ turn.two;
      })
      left (slots_put channel v rest me))))

  -- a message is taken, and what is left stands at an address to which the machine goes on
  takes_took : (v : ℤ) → see.message ≡ Some v → (channel : ℕ) → IsReceiver c see.process s channel → (to : Reference) (rest : List Item) (a e b : ℕ)
      → ReferenceInFrames slots (frames_of tree slots c see has s) (IsScalar slots (frames_of tree slots c see has s)) to
      → StoreCode slots to (One (Take channel)) c a e → ((n : Workspace) → Leads c see e [] n b [] n)
      → Left tree slots c see.process (stacks_of s.environment.calls) rest m.calls b
      → Took tree slots c see has a [] m (λ later. m.slots) (takes (continue_with rest s) channel to v)
  takes_took v there channel me to rest a e b is code onward left =
      store_took tree slots c see has s m turn (One (Take channel)) (Ok v) (risen c see channel m) refl
      (λ a1 b1 set os two code1. (
        set,
        kept_here 0 set,
        passes c see (Take channel) a1 b1 os (v ∷ os) (recounted set m) (recounted set (risen c see channel m)) code1
            (ap (λ o. if_there o (λ x. Going (a1 + 1) (x ∷ os) (recounted set (risen c see channel m)))) there),
      ))
      (λ later. m.slots) (λ place y. Ok (with_taken taken (with_environment (put_at s.environment y place) (continue_with rest s)))) e
      (λ x at found k l y later two.
      let n = written (place_lying (part_of c see.process) m.calls at + k) y (recounted later (risen c see channel m)) in
      let s1 = with_taken taken (with_environment (store s.environment x k y) (continue_with rest s)) in
      took_from tree slots c see has e b [] [] n n (λ later. m.slots) (Ok s1) (onward n)
      (arrives tree slots c see has s1 b n (λ later. m.slots)
      (record {
        words_meet = words_continue tree c see.process has (with_environment (store s.environment x k y) (one_taken channel s)) n.words m.calls rest
            (words_stored tree slots c see has (one_taken channel s) (risen c see channel m)
            (words_taken tree c see.process has s m.words m.calls turn.words_meet channel me) x at found k y l);
        held = turn.held;
        two = two;
      })
      (left_stored tree slots c see has s rest m.calls x k y b left) refl))
      to a is code
    where
      taken : List ℕ
      taken = (one_taken channel s).taken

  -- what `absent` does, by the message
  abbrev by_message : Option ℤ → ℕ → ℕ → Outcome
  by_message None none d = Going none [] m
  by_message (Some v) none d = Going (d + 1) [] m

  absent_by : (message : Option ℤ) → see.message ≡ message → (channel none d : ℕ) → act c see (Absent channel none) d [] m ≡ by_message message none d
  absent_by message there channel none d =
      ap (λ o. let look : Sight = record see { message = o } in act c look (Absent channel none) d [] m) there ∙ by message
    where
      by : (o : Option ℤ) → (let look : Sight = record see { message = o } in act c look (Absent channel none) d [] m) ≡ by_message o none d
      by None = refl
      by (Some v) = refl

  -- a `receive` whose message is there, or which has an `else`
  abbrev pub MayReceive : Option ℤ → Otherwise → Type 0
  MayReceive (Some v) otherwise = Unit {0}
  MayReceive None NoElse = ⊥
  MayReceive None (Else other) = Unit {0}

  receipt_took : (place : Option Place) (message : Option ℤ) → see.message ≡ message → (channel : ℕ) → IsReceiver c see.process s channel
      → (to : Reference) (otherwise : Otherwise)
      (rest : List Item) (a b : ℕ) → MayReceive message otherwise
      → ReceiptPlaced tree slots (owner_of tree see.process) place channel (StoreCode slots to (One (Take channel))) otherwise c a b
      → ReferenceInFrames slots (frames_of tree slots c see has s) (IsScalar slots (frames_of tree slots c see has s)) to
      → OtherwiseInFrames tree slots see.process (frames_of tree slots c see has s) otherwise
      → Left tree slots c see.process (stacks_of s.environment.calls) rest m.calls b
      → Took tree slots c see has (a + 1) [] m (λ later. m.slots) (receives tree channel to otherwise rest s message)
  unfolding CommandForm
  receipt_took place (Some v) there channel me to NoElse rest a b may (d, begin, (d1, is_there, taken)) is other_is left =
      took_from tree slots c see has (a + 1) d1 [] [] m m (λ later. m.slots) (takes (continue_with rest s) channel to v)
      (subst (λ x. Leads c see x [] m d1 [] m) begin.1 (passes c see (There channel) d d1 [] [] m m is_there refl))
      (takes_took v there channel me to rest d1 b b is taken (λ n. stays c see b [] n) left)
  receipt_took place (Some v) there channel me to (Else other) rest a b may
      (none, (end, (d, begin, (d1, absent, (d2, taken, (d3, jump, (d4, at_none, (d5, other_code, at_end)))))))) is other_is left =
      took_from tree slots c see has (a + 1) d1 [] [] m m (λ later. m.slots) (takes (continue_with rest s) channel to v)
      (subst (λ x. Leads c see x [] m d1 [] m) begin.1
      (passes c see (Absent channel none) d d1 [] [] m m absent (absent_by (Some v) there channel none d)))
      (takes_took v there channel me to rest d1 d2 b is taken
      (λ n. to_there c see d2 end b [] [] n n (sym (at_end.1 ∙ at_end.0)) (jumps c see d2 end d3 [] n jump)) left)
  receipt_took place None there channel me to NoElse rest a b may code is other_is left = absurd may
  receipt_took place None there channel me to (Else other) rest a b may
      (none, (end, (d, begin, (d1, absent, (d2, taken, (d3, jump, (d4, at_none, (d5, other_code, at_end)))))))) is other_is left =
      took_from tree slots c see has (a + 1) none [] [] m m (λ later. m.slots) (pushes tree.edition other rest s)
      (subst (λ x. Leads c see x [] m none [] m) begin.1
      (goes c see (Absent channel none) d none [] [] m m absent.0 (absent_by None there channel none d)))
      (subst (λ e. Took tree slots c see has none [] m (λ later. m.slots) (pushes e other rest s)) edition
      (block_took tree slots c see has s m turn other rest none d5 b
      (subst (λ z. BodyPlaced tree slots (owner_of tree see.process) other c z d5) (at_none.1 ∙ at_none.0) other_code) other_is (inl at_end.1) left))

  pub receiving_took : (name : Identifier) (to : Reference) (otherwise : Otherwise) (rest : List Item) (a b : ℕ)
      → IsReceiver c see.process s (channel_number tree name.text) → MayReceive see.message otherwise
      → CommandPlaced tree slots (owner_of tree see.process) (Receiving name to otherwise) c a b
      → CommandInFrames tree slots see.process (frames_of tree slots c see has s) (Receiving name to otherwise)
      → Left tree slots c see.process (stacks_of s.environment.calls) rest m.calls b
      → Took tree slots c see has (a + 1) [] m (λ later. m.slots) (performs tree see.message s rest (Receiving name to otherwise))
  unfolding CommandForm
  receiving_took name to otherwise rest a b me may code is left =
      let same : channel_of slots name.id ≡ channel_number tree name.text = ap channel_in is.0.slot in
      receipt_took (Some name.place) see.message refl (channel_number tree name.text) me to otherwise rest a b may
      (subst (λ x. ReceiptPlaced tree slots (owner_of tree see.process) (Some name.place) x (StoreCode slots to (One (Take x))) otherwise c a b) same code) is.1 is.2 left
