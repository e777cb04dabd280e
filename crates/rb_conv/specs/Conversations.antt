-- What contracts see of the conversations of a program. Members enter at different times, and all leave together once each of
-- them has passed its test (Randell 1975). That a conversation may be broken for good is this project's own.
use Rattle.std.specs.Prelude.{ℕ, nat_eq, Bool, true, false, cond, ◌&&◌, List, [], map, slice_index_or, Option, None}
use Rattle.std.specs.List.{list_all, list_any}
use Rattle.rb_base.specs.declared.names.Group.{Group}
use Rattle.rb_base.specs.declared.names.Nested.{Nested}
use Rattle.rb_world.specs.Kind.{Membership}
use Rattle.rb_world.specs.Reject.{first_again}
use Rattle.rb_world.specs.World.{Talk}
use Rattle.rb_conv.specs.declared.member.Member.{Member}
use Rattle.rb_conv.specs.declared.member.Place.{Place}
use Rattle.rb_conv.specs.declared.member.Place.TheVariants.{Outside, Inside, AtLine}

-- a conversation: where each member is, the conversation right around it, how many alternates it has, and its present one
pub record Conversation : Type 0 where
  pub members : List Member
  pub parent : Option ℕ
  pub alternates : ℕ
  pub talk : Talk

-- who stands at the test line is still inside
abbrev pub is_within : Place → Bool
is_within Outside = false
is_within Inside = true
is_within AtLine = true

-- at the test line
abbrev pub is_at_line : Place → Bool
is_at_line Outside = false
is_at_line Inside = false
is_at_line AtLine = true

-- process p is inside a conversation
abbrev pub is_inside : ℕ → Conversation → Bool
is_inside p conversation = list_any (λ member. nat_eq member.process p && is_within member.place) conversation.members

-- process p stands at the test line of a conversation
abbrev pub stands : ℕ → Conversation → Bool
stands p conversation = list_any (λ member. nat_eq member.process p && is_at_line member.place) conversation.members

-- every member stands at the test line
abbrev pub all_stand : Conversation → Bool
all_stand conversation = list_all (λ member. is_at_line member.place) conversation.members

-- a member goes to a place
abbrev pub goes : Place → Member → Member
goes place member = record { process = member.process; place = place }

-- the member that is process p goes to a place
abbrev pub goes_if : ℕ → Place → Member → Member
goes_if p place member = cond (nat_eq member.process p) (goes place member) member

-- of all members, process p goes to a place
abbrev pub one_goes : ℕ → Place → List Member → List Member
one_goes p place members = map (goes_if p place) members

-- all members leave
abbrev pub all_outside : List Member → List Member
all_outside members = map (goes Outside) members

-- a conversation with its members at other places
abbrev pub with_members : List Member → Conversation → Conversation
with_members members conversation = record {
  members = members;
  parent = conversation.parent;
  alternates = conversation.alternates;
  talk = conversation.talk;
}

-- process p enters, unless the conversation is broken
abbrev pub entered : ℕ → Conversation → Conversation
entered p conversation =
    cond conversation.talk.is_broken conversation (with_members (one_goes p Inside conversation.members) conversation)

-- process p comes to the test line
abbrev pub arrived : ℕ → Conversation → Conversation
arrived p conversation = with_members (one_goes p AtLine conversation.members) conversation

-- nobody is inside, and the first alternate is next
abbrev pub emptied : Conversation → Conversation
emptied conversation = record {
  members = all_outside conversation.members;
  parent = conversation.parent;
  alternates = conversation.alternates;
  talk = first_again conversation.talk;
}

-- the members and the parent of a conversation
abbrev pub membership : Conversation → Membership
membership conversation = record { members = map (λ member. member.process) conversation.members; parent = conversation.parent }

-- the members and the parent of each conversation
abbrev pub memberships : List Conversation → List Membership
memberships conversations = map membership conversations

-- the present alternate of each conversation, and whether it is broken
abbrev pub talks : List Conversation → List Talk
talks conversations = map (λ conversation. conversation.talk) conversations

-- a conversation without members
abbrev pub nobody : Conversation
nobody = record { members = []; parent = None; alternates = 0; talk = record { alternate = 1; is_broken = false } }

-- conversation number c, and one without members where there is none
abbrev pub conversation_at : List Conversation → ℕ → Conversation
conversation_at conversations c = slice_index_or conversations c nobody

-- a member that is not inside
abbrev pub outsider : ℕ → Member
outsider p = record { process = p; place = Outside }

-- at the opening nobody is inside a conversation, and the first alternate is next
abbrev pub opened : Group → Conversation
opened group = record {
  members = map outsider group.members.items;
  parent = group.parent;
  alternates = group.alternates;
  talk = record { alternate = 1; is_broken = false };
}

-- all conversations at the opening
abbrev pub opening : Nested → List Conversation
opening nested = map opened nested.conversations.items
