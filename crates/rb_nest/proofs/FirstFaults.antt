-- Of the faults of nesting that a tree has, one is the first, and only one.
use Rattle.std.proofs.Common.{◌≡◌, ℕ, zero, suc, Bool, true, false, not, cond, nat_lt, List, [], ◌∷◌, ◌++◌, length, refl}
use Rattle.std.specs.List.{flat_map, list_any}
use Rattle.rb_base.specs.declared.fault.FaultName.{FaultName}
use Rattle.rb_base.specs.declared.fault.SourceFault.{SourceFault}
use Rattle.rb_base.specs.declared.fault.FaultName.TheVariants.{N1, N2, N3, N4, N5, N6, N7, N8, N9, N10, N11, N12, N13}
use Rattle.rb_syntax.specs.Tree.{Identifier, ChannelDeclaration, ConversationDeclaration, Tree}
use Rattle.rb_meaning.specs.Environment.{same_name}
use Rattle.rb_meaning.specs.Groups.{ends_of, process_number}
use Rattle.rb_meaning.specs.Nesting.{Use, keeps_n1, keeps_n2, keeps_n4, keeps_n5, keeps_n8, keeps_n9, keeps_n10, keeps_n12, uses_of}
use Rattle.rb_scope.specs.FirstFault.{number_of}
use Rattle.rb_scope.specs.Rules.{where_broken}
use Rattle.rb_scope.proofs.OneFirst.{AreNamed, judged, named_both, named_flat, named_where, one_first}
use Rattle.rb_nest.specs.Laws.{AreJudged, HaveOneFirst}
use Rattle.rb_nest.specs.Rules.{channel_faults, conversation_faults, joins_in, keeps_n13, keeps_n3, keeps_n7, members_faults, nesting_faults, use_faults, uses_faults}

pub are_judged : AreJudged
are_judged tree = judged (nesting_faults tree)

-- the fault of nesting of this number
abbrev pub name_of : ℕ → FaultName
name_of (suc zero) = N1
name_of (suc (suc zero)) = N2
name_of (suc (suc (suc zero))) = N3
name_of (suc (suc (suc (suc zero)))) = N4
name_of (suc (suc (suc (suc (suc zero))))) = N5
name_of (suc (suc (suc (suc (suc (suc zero)))))) = N6
name_of (suc (suc (suc (suc (suc (suc (suc zero))))))) = N7
name_of (suc (suc (suc (suc (suc (suc (suc (suc zero)))))))) = N8
name_of (suc (suc (suc (suc (suc (suc (suc (suc (suc zero))))))))) = N9
name_of (suc (suc (suc (suc (suc (suc (suc (suc (suc (suc zero)))))))))) = N10
name_of (suc (suc (suc (suc (suc (suc (suc (suc (suc (suc (suc zero))))))))))) = N11
name_of (suc (suc (suc (suc (suc (suc (suc (suc (suc (suc (suc (suc zero)))))))))))) = N12
name_of _ = N13

-- one rule more
and_where : (broken : Bool) (name : FaultName) (place : _) (faults : List SourceFault) → name_of (number_of name) ≡ name → AreNamed name_of faults
    → AreNamed name_of (where_broken broken name place ++ faults)
and_where broken name place faults e rest =
    named_both name_of (where_broken broken name place) faults (named_where name_of broken name place e) rest

named_use : (tree : Tree) (earlier : List Use) (one : Use) → AreNamed name_of (use_faults tree earlier one)
named_use tree earlier one =
    and_where (not (keeps_n1 tree one)) N1 one.name.place _ refl
    (and_where (not (keeps_n2 tree one)) N2 one.name.place _ refl
    (and_where (not (keeps_n3 tree one)) N3 one.name.place _ refl
    (and_where (not (keeps_n4 tree one)) N4 one.name.place _ refl
    (and_where (not (keeps_n5 tree one)) N5 one.name.place _ refl
    (and_where (not (keeps_n7 earlier one)) N7 one.name.place _ refl
    (and_where (not (keeps_n8 tree one)) N8 one.name.place _ refl
    (and_where (not (keeps_n9 tree one)) N9 one.name.place _ refl
    (and_where (not (keeps_n10 tree one)) N10 one.name.place _ refl
    (named_where name_of (not (keeps_n13 one)) N13 one.name.place refl)))))))))

named_uses : (tree : Tree) (earlier uses : List Use) → AreNamed name_of (uses_faults tree earlier uses)
named_uses tree earlier [] = tt
named_uses tree earlier (one ∷ others) =
    named_both name_of (use_faults tree earlier one) (uses_faults tree (earlier ++ one ∷ []) others)
    (named_use tree earlier one) (named_uses tree (earlier ++ one ∷ []) others)

named_choice : (b : Bool) (xs ys : List SourceFault) → AreNamed name_of xs → AreNamed name_of ys → AreNamed name_of (cond b xs ys)
named_choice true xs ys a b = a
named_choice false xs ys a b = b

named_members : (tree : Tree) (conversation : List ℕ) (earlier names : List Identifier)
    → AreNamed name_of (members_faults tree conversation earlier names)
named_members tree conversation earlier [] = tt
named_members tree conversation earlier (name ∷ names) =
    named_both name_of _ (members_faults tree conversation (name ∷ earlier) names)
    (named_choice (list_any (λ other. same_name other.text name.text) earlier) (where_broken true N11 name.place)
    (where_broken (not (list_any (joins_in (process_number tree name.text) conversation) (uses_of tree))) N6 name.place)
    (named_where name_of true N11 name.place refl)
    (named_where name_of (not (list_any (joins_in (process_number tree name.text) conversation) (uses_of tree))) N6 name.place refl))
    (named_members tree conversation (name ∷ earlier) names)

named_conversation : (tree : Tree) (conversation : ConversationDeclaration) → AreNamed name_of (conversation_faults tree conversation)
named_conversation tree conversation =
    and_where (nat_lt (length conversation.members) 2) N11 conversation.name.place _ refl
    (named_members tree conversation.name.text [] conversation.members)

named_channel : (tree : Tree) (channel : ChannelDeclaration) → AreNamed name_of (channel_faults tree channel)
named_channel tree channel = named_where name_of (not (keeps_n12 (ends_of tree channel))) N12 channel.receiver.place refl

named_tree : (tree : Tree) → AreNamed name_of (nesting_faults tree)
named_tree tree =
    named_both name_of (flat_map (channel_faults tree) tree.channels)
    (flat_map (conversation_faults tree) tree.conversations ++ uses_faults tree [] (uses_of tree))
    (named_flat name_of (channel_faults tree) tree.channels (named_channel tree))
    (named_both name_of (flat_map (conversation_faults tree) tree.conversations) (uses_faults tree [] (uses_of tree))
    (named_flat name_of (conversation_faults tree) tree.conversations (named_conversation tree))
    (named_uses tree [] (uses_of tree)))

pub have_one_first : HaveOneFirst
have_one_first tree fault other f g = one_first name_of (nesting_faults tree) fault other (named_tree tree) f g
