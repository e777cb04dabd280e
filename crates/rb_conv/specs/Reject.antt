-- A conversation that is rejected, for all members that are inside (Randell 1975). Those below it are as if nobody had entered
-- them. Without an alternate left it is left by all; and without a parent it is then broken for good, which is this project's own.
use Rattle.std.specs.Prelude.{ℕ, ◌+◌, nat_lt, Bool, true, false, cond, List, [], ◌∷◌, length, map, Option, Some, None}
use Rattle.rb_world.specs.Reject.{broken_talk, is_below, next_talk}
use Rattle.rb_world.specs.World.{change_at}
use Rattle.rb_conv.specs.declared.member.Member.{Member}
use Rattle.rb_conv.specs.declared.member.Place.{Place}
use Rattle.rb_conv.specs.declared.member.Place.TheVariants.{Outside, Inside, AtLine}
use Rattle.rb_conv.specs.Conversations.{Conversation, all_outside, conversation_at, emptied, goes, memberships}

-- who stands at the test line goes back inside
abbrev pub off_line : Place → Place
off_line Outside = Outside
off_line Inside = Inside
off_line AtLine = Inside

-- a member that stands at the test line goes back inside
abbrev pub goes_off_line : Member → Member
goes_off_line member = goes (off_line member.place) member

-- an alternate is left
abbrev pub has_next : Conversation → Bool
has_next conversation = nat_lt conversation.talk.alternate conversation.alternates

-- all who are inside go on to the next alternate
abbrev pub raised : Conversation → Conversation
raised conversation = record {
  members = map goes_off_line conversation.members;
  parent = conversation.parent;
  alternates = conversation.alternates;
  talk = next_talk conversation.talk;
}

-- nobody is inside a conversation that is broken for good
abbrev pub broken : Conversation → Conversation
broken conversation = record {
  members = all_outside conversation.members;
  parent = conversation.parent;
  alternates = conversation.alternates;
  talk = broken_talk conversation.talk;
}

-- without an alternate left all leave, and without a parent the conversation is broken
abbrev pub exhausted : Option ℕ → Conversation → Conversation
exhausted None conversation = broken conversation
exhausted (Some parent) conversation = emptied conversation

-- what a rejection does to the conversation itself: the next alternate, if one is left
abbrev pub put_back : Bool → Conversation → Conversation
put_back true conversation = raised conversation
put_back false conversation = exhausted conversation.parent conversation

-- of the conversations from number d on, those below another are emptied
abbrev pub emptied_from : (ℕ → Bool) → ℕ → List Conversation → List Conversation
emptied_from below d [] = []
emptied_from below d (conversation ∷ conversations) =
    cond (below d) (emptied conversation) conversation ∷ emptied_from below (d + 1) conversations

-- every conversation below number c is emptied
abbrev pub emptied_below : ℕ → List Conversation → List Conversation
emptied_below c conversations = emptied_from (is_below (memberships conversations) (length conversations) c) 0 conversations

-- conversation number c is rejected
abbrev pub rejected : ℕ → List Conversation → List Conversation
rejected c conversations =
    change_at c (put_back (has_next (conversation_at conversations c))) (emptied_below c conversations)
