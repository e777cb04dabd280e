-- The rules of nesting: for each use of a conversation or a channel, and for each declaration of one, the rules that it may
-- break, each told as a fault at its place. That conversations nest, and that inside one its members speak with each other alone,
-- is Randell's (1975); all else that this crate defines is this project's own.
use Rattle.std.specs.Prelude.{ℕ, ◌+◌, nat_eq, nat_lt, Bool, true, false, not, cond, ◌&&◌, List, [], ◌∷◌, ◌++◌, length, Option, Some, None}
use Rattle.std.specs.List.{list_any, list_all, flat_map}
use Rattle.rb_base.specs.declared.limits.TheConstants.{MOST_NESTED}
use Rattle.rb_base.specs.declared.fault.SourceFault.{SourceFault}
use Rattle.rb_base.specs.declared.fault.FaultName.TheVariants.{N1, N2, N3, N4, N5, N6, N7, N8, N9, N10, N11, N12, N13}
use Rattle.rb_syntax.specs.Tree.{Identifier, ChannelDeclaration, ConversationDeclaration, Tree}
use Rattle.rb_meaning.specs.Environment.{same_name}
use Rattle.rb_meaning.specs.Groups.{conversation_number, ends_of, process_number}
use Rattle.rb_meaning.specs.Nesting.{Use, Deed, Joins, Sends, Receives, if_joins, innermost, is_member, keeps_n1, keeps_n2, keeps_n4, keeps_n5, keeps_n8, keeps_n9, keeps_n10, keeps_n12, members_in, uses_of}
use Rattle.rb_scope.specs.Rules.{where_broken}

-- the members of the innermost conversation around, if one is
abbrev pub members_around : Tree → Option Identifier → Option (List ℕ)
members_around tree None = None
members_around tree (Some name) = Some (members_in tree (conversation_number tree name.text))

-- all of these are among the members around, where a conversation is around
abbrev pub are_among : List ℕ → Option (List ℕ) → Bool
are_among members None = true
are_among members (Some around) = list_all (λ m. is_member m around) members

-- N3: the members of a conversation are members of the innermost one around its `converse`
abbrev pub keeps_n3 : Tree → Use → Bool
keeps_n3 tree one = if_joins one.deed
    (are_among (members_in tree (conversation_number tree one.name.text)) (members_around tree (innermost one.spot.around)))

-- a use joins the same conversation in the same process
abbrev pub joins_too : Use → Use → Bool
joins_too one other = if_joins' other.deed (nat_eq one.spot.process other.spot.process && same_name one.name.text other.name.text)
  where
    if_joins' : Deed → Bool → Bool
    if_joins' (Joins alternates) same = same
    if_joins' Sends same = false
    if_joins' Receives same = false

-- N7: no `converse` for the conversation stands before this one in its process
abbrev pub keeps_n7 : List Use → Use → Bool
keeps_n7 earlier one = if_joins one.deed (not (list_any (joins_too one) earlier))

-- how many conversations are around
abbrev pub conversations_around : List (Option Identifier) → ℕ
conversations_around [] = 0
conversations_around (None ∷ around) = conversations_around around
conversations_around (Some name ∷ around) = conversations_around around + 1

-- N13: fewer than so many others are around a `converse`
abbrev pub keeps_n13 : Use → Bool
keeps_n13 one = if_joins one.deed (nat_lt (conversations_around one.spot.around) MOST_NESTED)

-- the rules of a use, before which these uses stand in the text
abbrev pub use_faults : Tree → List Use → Use → List SourceFault
use_faults tree earlier one =
    where_broken (not (keeps_n1 tree one)) N1 one.name.place
    ++ (where_broken (not (keeps_n2 tree one)) N2 one.name.place
    ++ (where_broken (not (keeps_n3 tree one)) N3 one.name.place
    ++ (where_broken (not (keeps_n4 tree one)) N4 one.name.place
    ++ (where_broken (not (keeps_n5 tree one)) N5 one.name.place
    ++ (where_broken (not (keeps_n7 earlier one)) N7 one.name.place
    ++ (where_broken (not (keeps_n8 tree one)) N8 one.name.place
    ++ (where_broken (not (keeps_n9 tree one)) N9 one.name.place
    ++ (where_broken (not (keeps_n10 tree one)) N10 one.name.place
    ++ where_broken (not (keeps_n13 one)) N13 one.name.place))))))))

-- the rules of uses in the order of the text
abbrev pub uses_faults : Tree → List Use → List Use → List SourceFault
uses_faults tree earlier [] = []
uses_faults tree earlier (one ∷ others) = use_faults tree earlier one ++ uses_faults tree (earlier ++ one ∷ []) others

-- process p joins the conversation of this name somewhere
abbrev pub joins_in : ℕ → List ℕ → Use → Bool
joins_in p conversation one = is_join one.deed && (nat_eq one.spot.process p && same_name one.name.text conversation)
  where
    is_join : Deed → Bool
    is_join (Joins alternates) = true
    is_join Sends = false
    is_join Receives = false

-- N11: a member is named again. N6: a member has no `converse` for the conversation, told where it is named first.
abbrev pub members_faults : Tree → List ℕ → List Identifier → List Identifier → List SourceFault
members_faults tree conversation earlier [] = []
members_faults tree conversation earlier (name ∷ names) =
    cond (list_any (λ other. same_name other.text name.text) earlier)
    (where_broken true N11 name.place)
    (where_broken (not (list_any (joins_in (process_number tree name.text) conversation) (uses_of tree))) N6 name.place)
    ++ members_faults tree conversation (name ∷ earlier) names

-- the rules of a conversation; N11: it has fewer than two names of members
abbrev pub conversation_faults : Tree → ConversationDeclaration → List SourceFault
conversation_faults tree conversation =
    where_broken (nat_lt (length conversation.members) 2) N11 conversation.name.place
    ++ members_faults tree conversation.name.text [] conversation.members

-- the rule of a channel; N12: it leads from a process to itself
abbrev pub channel_faults : Tree → ChannelDeclaration → List SourceFault
channel_faults tree channel = where_broken (not (keeps_n12 (ends_of tree channel))) N12 channel.receiver.place

-- all faults of nesting that a tree has
abbrev pub nesting_faults : Tree → List SourceFault
nesting_faults tree =
    flat_map (channel_faults tree) tree.channels
    ++ (flat_map (conversation_faults tree) tree.conversations ++ uses_faults tree [] (uses_of tree))
