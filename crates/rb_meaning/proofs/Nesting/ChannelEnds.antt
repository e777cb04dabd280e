-- Who sends on a channel is its sender, and who receives from it is its receiver: of what stands first, by the rules of nesting.
use Rattle.std.proofs.Common.{◌≡◌, ℕ, true, ◌&&◌, List, [], ◌∷◌, slice_get, Option, Some, ap, ◌∙◌, subst}
use Rattle.std.proofs.lemmas.Bool.{eqb-true}
use Rattle.rb_syntax.specs.Tree.{Command, Assignment, Printing, Sending, Receiving, Conditional, Loop, Invocation, Failure, Recovering, Otherwise, NoElse, Else, Tree}
use Rattle.rb_world.specs.Kind.{Ends, SendsOn}
use Rattle.rb_world.proofs.Erasing.ErasableKinds.{receives_on}
use Rattle.rb_world.proofs.ListFacts.{first_holds, none_some, second_holds, some_same}
use Rattle.rb_meaning.specs.State.{Item, Perform, StartOf, TestOf, EndBlock, EndCall}
use Rattle.rb_meaning.specs.Groups.{channel_number, channels_of}
use Rattle.rb_meaning.specs.Step.{wants, wants_first, wants_receipt}
use Rattle.rb_meaning.specs.Nesting.{Receives, Sends, Use, is_end, keeps_n1, keeps_n2, keeps_n4, keeps_n5, keeps_n9, uses_in_otherwise}
use Rattle.rb_meaning.proofs.Nesting.RulesLeft.{AreClear, AreKept, IsClear, keeps_rules, kept_first, spot_before}

-- the rule on ends, of one use
rule_of_ends : (tree : Tree) (one : Use) → AreKept tree (one ∷ []) → keeps_n9 tree one ≡ true
rule_of_ends tree one kept =
    let all : keeps_rules tree one ≡ true = first_holds (keeps_rules tree one) true kept in
    second_holds (keeps_n5 tree one) (keeps_n9 tree one)
    (second_holds (keeps_n4 tree one) (keeps_n5 tree one && keeps_n9 tree one)
    (second_holds (keeps_n2 tree one) (keeps_n4 tree one && (keeps_n5 tree one && keeps_n9 tree one))
    (second_holds (keeps_n1 tree one) (keeps_n2 tree one && (keeps_n4 tree one && (keeps_n5 tree one && keeps_n9 tree one))) all)))

sender_is : (p : ℕ) (ends : Ends) (o : Option Ends) → o ≡ Some ends → is_end Sends p o ≡ true → ends.sender ≡ p
sender_is p ends o e rule = eqb-true ends.sender p (subst (λ (x : Option Ends). is_end Sends p x ≡ true) e rule)

receiver_is : (p : ℕ) (ends : Ends) (o : Option Ends) → o ≡ Some ends → is_end Receives p o ≡ true → ends.receiver ≡ p
receiver_is p ends o e rule = eqb-true ends.receiver p (subst (λ (x : Option Ends). is_end Receives p x ≡ true) e rule)

module _ (tree : Tree) (p : ℕ) where
  -- a `receive` asks for no room
  receipt_is_no_send : (d c : ℕ) (otherwise : Otherwise) → wants_receipt d otherwise ≡ SendsOn c → ⊥
  receipt_is_no_send d c NoElse e = cc
  receipt_is_no_send d c (Else body) e = cc

  command_sends : (c : ℕ) (ends : Ends) (rest : List Item) (command : Command) → IsClear tree p (Perform command) rest
      → wants tree command ≡ SendsOn c
      → slice_get (channels_of tree) c ≡ Some ends → ends.sender ≡ p
  command_sends c ends rest (Assignment to e) clear w at = absurd cc
  command_sends c ends rest (Printing items) clear w at = absurd cc
  command_sends c ends rest (Sending channel e) clear w at =
      let same : channel_number tree channel.text ≡ c = cc in
      sender_is p ends (slice_get (channels_of tree) (channel_number tree channel.text)) (ap (slice_get (channels_of tree)) same ∙ at)
      (rule_of_ends tree (record { name = channel; deed = Sends; spot = spot_before p rest }) clear)
  command_sends c ends rest (Receiving channel to otherwise) clear w at = absurd (receipt_is_no_send (channel_number tree channel.text) c otherwise w)
  command_sends c ends rest (Conditional test body otherwise) clear w at = absurd cc
  command_sends c ends rest (Loop test body) clear w at = absurd cc
  command_sends c ends rest (Invocation procedure arguments) clear w at = absurd cc
  command_sends c ends rest Failure clear w at = absurd cc
  command_sends c ends rest (Recovering block) clear w at = absurd cc

  -- of what stands first, the sender
  pub first_sends : (c : ℕ) (ends : Ends) (items : List Item) → AreClear tree p items → wants_first tree items ≡ SendsOn c
      → slice_get (channels_of tree) c ≡ Some ends → ends.sender ≡ p
  first_sends c ends [] clear w at = absurd cc
  first_sends c ends (Perform command ∷ rest) clear w at = command_sends c ends rest command clear.0 w at
  first_sends c ends (StartOf block ∷ rest) clear w at = absurd cc
  first_sends c ends (TestOf block ∷ rest) clear w at = absurd cc
  first_sends c ends (EndBlock ∷ rest) clear w at = absurd cc
  first_sends c ends (EndCall ∷ rest) clear w at = absurd cc

  receipt_from : (d c : ℕ) (otherwise : Otherwise) → receives_on (wants_receipt d otherwise) ≡ Some c → d ≡ c
  receipt_from d c NoElse e = some_same e
  receipt_from d c (Else body) e = some_same e

  command_receives : (c : ℕ) (ends : Ends) (rest : List Item) (command : Command) → IsClear tree p (Perform command) rest
      → receives_on (wants tree command) ≡ Some c → slice_get (channels_of tree) c ≡ Some ends → ends.receiver ≡ p
  command_receives c ends rest (Assignment to e) clear w at = absurd (none_some w)
  command_receives c ends rest (Printing items) clear w at = absurd (none_some w)
  command_receives c ends rest (Sending channel e) clear w at = absurd (none_some w)
  command_receives c ends rest (Receiving channel to otherwise) clear w at =
      let same = receipt_from (channel_number tree channel.text) c otherwise w in
      let one : Use = record { name = channel; deed = Receives; spot = spot_before p rest } in
      receiver_is p ends (slice_get (channels_of tree) (channel_number tree channel.text)) (ap (slice_get (channels_of tree)) same ∙ at)
      (rule_of_ends tree one (kept_first tree (one ∷ []) (uses_in_otherwise (spot_before p rest) otherwise) clear))
  command_receives c ends rest (Conditional test body otherwise) clear w at = absurd (none_some w)
  command_receives c ends rest (Loop test body) clear w at = absurd (none_some w)
  command_receives c ends rest (Invocation procedure arguments) clear w at = absurd (none_some w)
  command_receives c ends rest Failure clear w at = absurd (none_some w)
  command_receives c ends rest (Recovering block) clear w at = absurd (none_some w)

  -- and the receiver
  pub first_receives : (c : ℕ) (ends : Ends) (items : List Item) → AreClear tree p items → receives_on (wants_first tree items) ≡ Some c
      → slice_get (channels_of tree) c ≡ Some ends → ends.receiver ≡ p
  first_receives c ends [] clear w at = absurd (none_some w)
  first_receives c ends (Perform command ∷ rest) clear w at = command_receives c ends rest command clear.0 w at
  first_receives c ends (StartOf block ∷ rest) clear w at = absurd (none_some w)
  first_receives c ends (TestOf block ∷ rest) clear w at = absurd (none_some w)
  first_receives c ends (EndBlock ∷ rest) clear w at = absurd (none_some w)
  first_receives c ends (EndCall ∷ rest) clear w at = absurd (none_some w)
