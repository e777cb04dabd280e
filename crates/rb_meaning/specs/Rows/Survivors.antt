-- Survivors, and the plain runs of records.
use Rattle.std.specs.Prelude.{◌≡◌, [], ◌∷◌, ◌++◌, codes, Ok, Err}
use Rattle.rb_meaning.specs.PlainRun.{plain_text}
use Rattle.rb_meaning.specs.Rows.Build.{first, kept, rounds, second, started, survived, survivors_after, times}
use Rattle.rb_meaning.specs.Rows.Blocks.{exhausted_tree, one_rejection_tree}
use Rattle.rb_meaning.specs.Rows.Conversations.{conversation_tree, fewer_inside_tree, full_channel_inside_tree, nested_tree, not_yet_inside_tree}
use Rattle.rb_meaning.specs.Rows.Limits.{traps_tree}
use Rattle.rb_meaning.specs.Rows.Messages.{maybe_tree, private_message_tree, slot_tree}

abbrev pub SurvivorsOfOneRejection : Type 0
SurvivorsOfOneRejection =
    survived one_rejection_tree (times 20 first)
    ≡ codes "1 p\n2 p\n7 p 2\n8 p\n9 p\n10 p\n"

-- An entry survives its alternates.
abbrev pub SurvivorsOfExhausted : Type 0
SurvivorsOfExhausted =
    survived exhausted_tree (times 9 first)
    ≡ codes "1 p\n2 p\n"

abbrev pub SurvivorsOfAPrivateMessage : Type 0
SurvivorsOfAPrivateMessage =
    survived private_message_tree
    (times 4 first ++ times 1 second ++ times 1 first ++ times 1 second ++ times 3 first ++ times 1 second
    ++ times 1 first ++ times 2 second)
    ≡ codes "1 p\n8 p 2\n9 p\n10 p\n12 p\n13 q\n14 q\n"

abbrev pub SurvivorsOfAConversation : Type 0
SurvivorsOfAConversation =
    survived conversation_tree (rounds 12 2)
    ≡ codes "1 p\n2 q\n13 p 2\n14 q 2\n15 p\n17 p\n18 q\n19 p\n20 q\n21 p\n22 q\n"

abbrev pub SurvivorsOfMaybeReceived : Type 0
SurvivorsOfMaybeReceived =
    survived maybe_tree (times 3 first ++ times 3 second ++ times 1 first ++ times 2 second)
    ≡ codes "1 p\n2 p 1\n3 p\n4 q\n5 q\n6 q\n7 p\n8 q\n9 q\n"

abbrev pub PlainOneRejection : Type 0
PlainOneRejection =
    plain_text one_rejection_tree (survivors_after one_rejection_tree (times 20 first))
    ≡ Ok (codes "10 out p two\np.x = 7\n")

abbrev pub PlainExhausted : Type 0
PlainExhausted =
    plain_text exhausted_tree (survivors_after exhausted_tree (times 9 first))
    ≡ Ok (codes "p.x = 3\n")

abbrev pub PlainPrivateMessage : Type 0
PlainPrivateMessage =
    plain_text private_message_tree
    (survivors_after private_message_tree
    (times 4 first ++ times 1 second ++ times 1 first ++ times 1 second ++ times 3 first ++ times 1 second
    ++ times 1 first ++ times 2 second))
    ≡ Ok (codes "14 out q 20\np.x = 2\nq.y = 20\nc sent 1 taken 1\n")

abbrev pub PlainConversation : Type 0
PlainConversation =
    plain_text conversation_tree (survivors_after conversation_tree (rounds 12 2))
    ≡ Ok (codes "22 out p p2\n22 out q q 6\np.a = 2\nq.b = 6\nc sent 1 taken 1\n")

abbrev pub PlainNestedConversation : Type 0
PlainNestedConversation =
    plain_text nested_tree (survivors_after nested_tree (rounds 23 2))
    ≡ Ok (codes "p.i = 2\np.a = 1\nq.j = 2\n")

abbrev pub PlainMaybeReceived : Type 0
PlainMaybeReceived =
    plain_text maybe_tree (survivors_after maybe_tree (times 3 first ++ times 3 second ++ times 1 first ++ times 2 second))
    ≡ Ok (codes "6 out q 1\n9 out q 7\nq.x = 7\nc sent 1 taken 1\n")

abbrev pub PlainFullChannelInside : Type 0
PlainFullChannelInside =
    plain_text full_channel_inside_tree (survivors_after full_channel_inside_tree (rounds 12 2))
    ≡ Ok (codes "q.a = 3\nq.b = 4\nc sent 2 taken 2\n")

abbrev pub PlainNotYetInside : Type 0
PlainNotYetInside =
    plain_text not_yet_inside_tree (survivors_after not_yet_inside_tree (times 6 first ++ times 10 second ++ times 1 first ++ times 1 second))
    ≡ Ok (codes "17 out q 1\n18 out q 5\nq.a = 5\nc sent 1 taken 1\n")

abbrev pub PlainFewerInside : Type 0
PlainFewerInside =
    plain_text fewer_inside_tree (survivors_after fewer_inside_tree (rounds 9 3))
    ≡ Ok (codes "27 out r r 2\np.a = 1\nr.a = 2\n")

abbrev pub PlainRecord : Type 0
PlainRecord =
    plain_text one_rejection_tree (kept 1 first ∷ kept 2 first ∷ started 7 first 2 ∷ kept 8 first ∷ kept 9 first ∷ kept 10 first ∷ [])
    ≡ Ok (codes "10 out p two\np.x = 7\n")

-- Turn 10 is the `print` here. The test is never taken, and the line stays held.
abbrev pub PlainLeftOpen : Type 0
PlainLeftOpen =
    plain_text one_rejection_tree (kept 1 first ∷ kept 2 first ∷ started 7 first 2 ∷ kept 8 first ∷ kept 10 first ∷ [])
    ≡ Ok (codes "p.x = 7\n")

-- The test does not hold.
abbrev pub StuckAtTest : Type 0
StuckAtTest =
    plain_text one_rejection_tree (kept 1 first ∷ kept 2 first ∷ started 7 first 1 ∷ kept 8 first ∷ kept 9 first ∷ kept 10 first ∷ [])
    ≡ Err 10

abbrev pub StuckWithoutAlternate : Type 0
StuckWithoutAlternate =
    plain_text one_rejection_tree (kept 1 first ∷ kept 2 first ∷ kept 7 first ∷ kept 8 first ∷ kept 9 first ∷ kept 10 first ∷ [])
    ≡ Err 7

-- The block has two alternates.
abbrev pub StuckWithAThirdAlternate : Type 0
StuckWithAThirdAlternate =
    plain_text one_rejection_tree (kept 1 first ∷ kept 2 first ∷ started 7 first 3 ∷ kept 8 first ∷ kept 9 first ∷ kept 10 first ∷ [])
    ≡ Err 7

-- An assignment has no alternate.
abbrev pub StuckWithAnAlternate : Type 0
StuckWithAnAlternate =
    plain_text one_rejection_tree (started 1 first 1 ∷ [])
    ≡ Err 1

abbrev pub StuckWhenDone : Type 0
StuckWhenDone =
    plain_text one_rejection_tree (kept 1 first ∷ kept 2 first ∷ started 7 first 2 ∷ kept 8 first ∷ kept 9 first ∷ kept 10 first ∷ kept 11 first ∷ [])
    ≡ Err 11

abbrev pub StuckAtAWait : Type 0
StuckAtAWait =
    plain_text private_message_tree (kept 1 second ∷ [])
    ≡ Err 1

abbrev pub StuckAtATrap : Type 0
StuckAtATrap =
    plain_text traps_tree (kept 1 first ∷ started 2 first 1 ∷ kept 3 first ∷ kept 4 first ∷ [])
    ≡ Err 4

abbrev pub StuckWithoutRoom : Type 0
StuckWithoutRoom =
    plain_text slot_tree (kept 1 first ∷ kept 2 first ∷ kept 3 second ∷ started 4 second 1 ∷ kept 5 second ∷ kept 6 first ∷ [])
    ≡ Err 6

-- The process stands at the test line of D.
abbrev pub StuckAtTheLine : Type 0
StuckAtTheLine =
    plain_text not_yet_inside_tree
    (kept 1 first ∷ started 2 first 1 ∷ kept 3 first ∷ started 4 first 1 ∷ kept 5 first ∷ kept 6 first ∷ kept 7 first ∷ [])
    ≡ Err 7
