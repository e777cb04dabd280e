-- What the rules of nesting ask of a use. The recovery blocks around it are told by the answers that they give.
use Rattle.std.specs.Prelude.{ℕ, nat_eq, nat_lt, Bool, true, false, not, cond, ◌&&◌, List, [], ◌∷◌, ◌++◌, map, filter, slice_get, Option, Some, None}
use Rattle.std.specs.List.{list_any, list_all}
use Rattle.rb_base.specs.declared.limits.TheConstants.{MOST_NESTED}
use Rattle.rb_base.specs.declared.fault.SourceFault.{SourceFault}
use Rattle.rb_base.specs.declared.fault.FaultName.TheVariants.{N1, N2, N3, N4, N5, N7, N8, N9, N10, N13}
use Rattle.rb_syntax.specs.Tree.{Identifier, Tree}
use Rattle.rb_world.specs.Kind.{Ends}
use Rattle.rb_world.specs.Reject.{parent_of}
use Rattle.rb_world.specs.World.{is_number}
use Rattle.rb_world.specs.Plain.{when}
use Rattle.rb_meaning.specs.Environment.{same_name}
use Rattle.rb_meaning.specs.Groups.{channel_number, channels_of, conversation_number, conversation_of, groups_of}
use Rattle.rb_meaning.specs.Nesting.{Deed, Joins, Sends, Receives, Use, alternates_of, have_both, innermost, is_converse, is_end, is_member, is_same_conversation, joined_with, members_in, uses_of}
use Rattle.rb_scope.specs.Rules.{where_broken}
use Rattle.rb_nest.specs.Rules.{are_among, conversations_around}

-- a use: its name with the number that the name has, what is done there, and where; the innermost conversation around, whether
-- each recovery block around is a `converse`, and whether one conversation more may stand inside those around
pub record Summary : Type 0 where
  pub name : Identifier
  pub number : ℕ
  pub deed : Deed
  pub process : ℕ
  pub in_procedure : Bool
  pub within : Option ℕ
  pub all_converse : Bool
  pub has_room : Bool

-- the number of a conversation that is joined, or of a channel
abbrev pub number_of_use : Tree → Deed → List ℕ → ℕ
number_of_use tree (Joins alternates) x = conversation_number tree x
number_of_use tree Sends x = channel_number tree x
number_of_use tree Receives x = channel_number tree x

abbrev pub summary : Tree → Use → Summary
summary tree one = record {
  name = one.name;
  number = number_of_use tree one.deed one.name.text;
  deed = one.deed;
  process = one.spot.process;
  in_procedure = one.spot.in_procedure;
  within = conversation_of tree (innermost one.spot.around);
  all_converse = list_all is_converse one.spot.around;
  has_room = nat_lt (conversations_around one.spot.around) MOST_NESTED;
}

-- all uses of a tree
abbrev pub summaries : Tree → List Summary
summaries tree = map (summary tree) (uses_of tree)

-- a conversation is joined
abbrev pub is_join : Deed → Bool
is_join (Joins alternates) = true
is_join Sends = false
is_join Receives = false

-- another joins the same conversation in the same process
abbrev pub joins_like : Summary → Summary → Bool
joins_like one other = is_join other.deed && (nat_eq one.process other.process && same_name one.name.text other.name.text)

-- process p joins the conversation of this name
abbrev pub joins_at : ℕ → List ℕ → Summary → Bool
joins_at p x one = is_join one.deed && (nat_eq one.process p && same_name one.name.text x)

-- what lies around the `converse` for the conversation of this name
abbrev pub within_for : List ℕ → Summary → Option (Option ℕ)
within_for x one = when (is_join one.deed && same_name one.name.text x) (Some one.within)

-- how many alternates the `converse` for conversation c has
abbrev pub alternates_for : ℕ → Summary → Option ℕ
alternates_for c one = joined_with one.deed (nat_eq one.number c)

-- those of several that join
abbrev pub joins_among : List Summary → List Summary
joins_among uses = filter (λ one. is_join one.deed) uses

-- the members of a conversation by its number, if one is around
abbrev pub members_within : Tree → Option ℕ → Option (List ℕ)
members_within tree None = None
members_within tree (Some c) = Some (members_in tree c)

-- where a conversation lies around, both ends of the channel are its members
abbrev pub speaks_within : Tree → Option ℕ → Option Ends → Bool
speaks_within tree None ends = true
speaks_within tree (Some c) ends = have_both (members_in tree c) ends

-- a `converse` stands in no procedure, and in no alternate of an `ensure`
abbrev pub may_join : Summary → Bool
may_join one = not one.in_procedure && one.all_converse

-- the rules of a `converse` with so many alternates, where another for its conversation stands before it in its process or not
abbrev pub join_faults : Tree → Bool → ℕ → Summary → List SourceFault
join_faults tree again alternates one =
    where_broken (not (may_join one)) N1 one.name.place
    ++ (where_broken (not (is_member one.process (members_in tree one.number))) N2 one.name.place
    ++ (where_broken (not (are_among (members_in tree one.number) (members_within tree one.within))) N3 one.name.place
    ++ (where_broken (not (is_same_conversation one.within (parent_of (slice_get (groups_of tree) one.number)))) N4 one.name.place
    ++ (where_broken (not (is_number (alternates_of tree one.number) alternates)) N5 one.name.place
    ++ (where_broken again N7 one.name.place
    ++ where_broken (not one.has_room) N13 one.name.place)))))

-- the rules of a message
abbrev pub message_faults : Tree → Deed → Summary → List SourceFault
message_faults tree deed one =
    where_broken one.in_procedure N8 one.name.place
    ++ (where_broken (not (is_end deed one.process (slice_get (channels_of tree) one.number))) N9 one.name.place
    ++ where_broken (not (speaks_within tree one.within (slice_get (channels_of tree) one.number))) N10 one.name.place)

-- the rules of a use by what is done
abbrev pub deed_faults : Tree → Bool → Summary → Deed → List SourceFault
deed_faults tree again one (Joins alternates) = join_faults tree again alternates one
deed_faults tree again one Sends = message_faults tree Sends one
deed_faults tree again one Receives = message_faults tree Receives one

-- the rules of a use, before which these join
abbrev pub faults_behind : Tree → List Summary → Summary → List SourceFault
faults_behind tree joins one = deed_faults tree (list_any (joins_like one) joins) one one.deed

-- the `converse`s so far, and this one if it is one
abbrev pub with_join : List Summary → Summary → List Summary
with_join joins one = cond (is_join one.deed) (joins ++ one ∷ []) joins

-- the rules of uses in the order of the text, before which these join
abbrev pub summaries_faults : Tree → List Summary → List Summary → List SourceFault
summaries_faults tree joins [] = []
summaries_faults tree joins (one ∷ others) = faults_behind tree joins one ++ summaries_faults tree (with_join joins one) others
