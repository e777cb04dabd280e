-- What the calls of the table do, as a world sees it: which alternate each conversation tries and whether it is broken, and who
-- its members are. So a machine may keep the table in the place of the world's conversations. This project's own.
use Rattle.std.specs.Prelude.{◌≡◌, ◌<◌, ℕ, nat_eq, Bool, true, false, not, cond, ◌&&◌, ◌||◌, List, length, slice_get, Option, Some, None}
use Rattle.std.specs.List.{IsDistinct, list_all, list_any}
use Rattle.rb_base.specs.declared.names.Nested.{Nested}
use Rattle.rb_world.specs.Reject.{broken_talk, first_again, is_below, next_talk, parent_of, reset_below}
use Rattle.rb_world.specs.Turn.{opening_talks}
use Rattle.rb_world.specs.World.{Talk, change_at}
use Rattle.rb_conv.specs.Conversations.{Conversation, all_stand, arrived, conversation_at, emptied, entered, is_inside, membership, memberships, opening, stands, talks}
use Rattle.rb_conv.specs.Reject.{emptied_below, has_next, put_back, rejected}

-- a conversation that was rejected is at its next alternate, or back at the first; without a parent it is then broken
abbrev pub talk_after : Bool → Option ℕ → Talk → Talk
talk_after true parent talk = next_talk talk
talk_after false None talk = broken_talk talk
talk_after false (Some parent) talk = first_again talk

-- the world's conversations after each call
pub record TalksAfter (before : List Conversation) (c p : ℕ) : Type 0 where
  pub entry : talks (change_at c (entered p) before) ≡ talks before
  pub arrival : talks (change_at c (arrived p) before) ≡ talks before
  pub passing : talks (change_at c emptied before) ≡ change_at c first_again (talks before)
  pub rejection : talks (rejected c before)
      ≡ change_at c (talk_after (has_next (conversation_at before c)) (parent_of (slice_get (memberships before) c)))
      (reset_below (memberships before) c (talks before))

-- members and parents are the same after each call
pub record MembersAfter (before : List Conversation) (c p : ℕ) : Type 0 where
  pub entry : memberships (change_at c (entered p) before) ≡ memberships before
  pub arrival : memberships (change_at c (arrived p) before) ≡ memberships before
  pub passing : memberships (change_at c emptied before) ≡ memberships before
  pub rejection : memberships (rejected c before) ≡ memberships before

-- at the opening and after each call the table has the alternates and the broken marks of the world
abbrev pub TalksAreTheWorlds : Type 0
TalksAreTheWorlds =
    ((nested : Nested) → talks (opening nested) ≡ opening_talks (memberships (opening nested)))
    × ((before : List Conversation) (c p : ℕ) → TalksAfter before c p)

-- no call changes who the members of a conversation are, or what is around it
abbrev pub MembersStay : Type 0
MembersStay = (before : List Conversation) (c p : ℕ) → MembersAfter before c p

-- a declared member
abbrev pub is_member : ℕ → Conversation → Bool
is_member p conversation = list_any (λ member. nat_eq member.process p) conversation.members

-- who is inside a conversation, and who stands at its test line, after each change
pub record PlacesAfter (before : Conversation) (p r : ℕ) (left : Bool) : Type 0 where
  pub entry : before.talk.is_broken ≡ false → is_inside r (entered p before) ≡ ((nat_eq r p && is_member p before) || is_inside r before)
  pub entry_line : before.talk.is_broken ≡ false → stands r (entered p before) ≡ (not (nat_eq r p) && stands r before)
  pub arrival : is_inside r (arrived p before) ≡ ((nat_eq r p && is_member p before) || is_inside r before)
  pub arrival_line : stands r (arrived p before) ≡ ((nat_eq r p && is_member p before) || stands r before)
  pub passing : is_inside r (emptied before) ≡ false
  pub passing_line : stands r (emptied before) ≡ false
  pub rejection : is_inside r (put_back left before) ≡ (left && is_inside r before)
  pub rejection_line : stands r (put_back left before) ≡ false

-- who enters or arrives comes to its place and no other process does; at a passing all leave; at a rejection nobody is left at
-- the line, and inside is who was, if an alternate is left
abbrev pub PlacesAreExact : Type 0
PlacesAreExact = (before : Conversation) (p r : ℕ) (left : Bool) → PlacesAfter before p r left

-- which conversation stands at each number, once one was changed or those below one were emptied
abbrev pub OthersStay : Type 0
OthersStay =
    ((f : Conversation → Conversation) (before : List Conversation) (c d : ℕ) → c < length before
    → conversation_at (change_at c f before) d ≡ cond (nat_eq d c) (f (conversation_at before d)) (conversation_at before d))
    × ((before : List Conversation) (c d : ℕ) → d < length before → conversation_at (emptied_below c before) d
    ≡ cond (is_below (memberships before) (length before) c d) (emptied (conversation_at before d)) (conversation_at before d))

-- with distinct members, all stand exactly where each declared member does
abbrev pub AllStandByEach : Type 0
AllStandByEach = (conversation : Conversation) → IsDistinct nat_eq (membership conversation).members
    → all_stand conversation ≡ list_all (λ p. stands p conversation) (membership conversation).members
