-- Programs that keep the rules of nesting, and one that does not.
use Rattle.std.specs.Prelude.{◌≡◌, false, [], ◌∷◌}
use Rattle.std.specs.List.{list_all}
use Rattle.rb_syntax.specs.Tree.{Tree}
use Rattle.rb_meaning.specs.Nesting.{IsNested, keeps_n1, uses_of}
use Rattle.rb_meaning.specs.Rows.Build.{assign, block, called, conversation_called, converse, ensure, process_called, program_called, scalar, whole}
use Rattle.rb_meaning.specs.Rows.Conversations.{conversation_tree, nested_tree}
use Rattle.rb_meaning.specs.Rows.Messages.{private_message_tree}

-- a conversation of two, with a channel between them
abbrev pub ConversationIsNested : Type 0
ConversationIsNested = IsNested conversation_tree

-- a conversation in another
abbrev pub ConversationInConversationIsNested : Type 0
ConversationInConversationIsNested = IsNested nested_tree

-- a message that is sent in an `ensure`
abbrev pub PrivateMessageIsNested : Type 0
PrivateMessageIsNested = IsNested private_message_tree

--     program e;
--     conversation C (p, q);
--     process p { var a;
--     ensure 1 within 20 by { converse C ensure 1 within 9 by { a := 1; } else error; } else error; }
--     process q { var b; converse C ensure 1 within 9 by { b := 1; } else error; }
--     end.
abbrev pub converse_in_ensure_tree : Tree
converse_in_ensure_tree =
    let conversed_1 = converse "C" 4 (whole 1) 9 (block (assign "a" (whole 1) ∷ []) ∷ []) in
    let ensured_1 = ensure 4 (whole 1) 20 (block (conversed_1 ∷ []) ∷ []) in
    let conversed_2 = converse "C" 5 (whole 1) 9 (block (assign "b" (whole 1) ∷ []) ∷ []) in
    let process_p = process_called "p" (scalar "a" ∷ []) [] (ensured_1 ∷ []) in
    let process_q = process_called "q" (scalar "b" ∷ []) [] (conversed_2 ∷ []) in
    program_called "e" [] (conversation_called "C" (called "p" ∷ called "q" ∷ []) ∷ []) (process_p ∷ process_q ∷ [])

-- A `converse` in an `ensure` breaks N1.
abbrev pub ConverseInEnsureIsNotNested : Type 0
ConverseInEnsureIsNotNested = list_all (keeps_n1 converse_in_ensure_tree) (uses_of converse_in_ensure_tree) ≡ false
