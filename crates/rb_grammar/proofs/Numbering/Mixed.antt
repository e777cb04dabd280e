-- The names of channels and conversations as the text mixes them are those of all channels and then of all conversations,
-- in another order.
use Rattle.std.proofs.Common.{◌≡◌, List, [], ◌∷◌, subst}
use Rattle.std.proofs.lemmas.List.Sorted.{IsPermutation-refl, IsPermutation-cons, IsPermutation-trans, IsPermutation-middle}
use Rattle.std.specs.List.Sorted.{IsPermutation}
use Rattle.rb_grammar.specs.Order.{each, channel_told, conversation_told, process_told, Connection, AChannel, AConversation}
use Rattle.rb_grammar.specs.Order.{channels_among, conversations_among, connection_told, names_alone, names_with, tree_names}
use Rattle.rb_syntax.specs.Tree.{Identifier, ChannelDeclaration, Tree}

-- these names, and then the rest
abbrev all_of : List Identifier → List Identifier → List Identifier
all_of names rest = each (λ name others. name ∷ others) names rest

all_under : (names xs ys : List Identifier) → IsPermutation xs ys → IsPermutation (all_of names xs) (all_of names ys)
all_under [] xs ys p = p
all_under (name ∷ names) xs ys p = IsPermutation-cons name _ _ (all_under names xs ys p)

under_channel : (channel : ChannelDeclaration) (xs ys : List Identifier) → IsPermutation xs ys →
    IsPermutation (channel_told names_alone channel xs) (channel_told names_alone channel ys)
under_channel channel xs ys p = all_under (channel.name ∷ channel.sender ∷ channel.receiver ∷ []) xs ys p

-- a name behind channels is brought before them
name_first : (channels : List ChannelDeclaration) (name : Identifier) (rest : List Identifier) →
    IsPermutation (each (channel_told names_alone) channels (name ∷ rest)) (name ∷ each (channel_told names_alone) channels rest)
name_first [] name rest = IsPermutation-refl (name ∷ rest)
name_first (channel ∷ channels) name rest =
    IsPermutation-trans _ _ _ (under_channel channel _ _ (name_first channels name rest))
    (IsPermutation-middle (channel.name ∷ channel.sender ∷ channel.receiver ∷ []) name
    (each (channel_told names_alone) channels rest))

names_first : (channels : List ChannelDeclaration) (names rest : List Identifier) →
    IsPermutation (each (channel_told names_alone) channels (all_of names rest))
    (all_of names (each (channel_told names_alone) channels rest))
names_first channels [] rest = IsPermutation-refl (each (channel_told names_alone) channels rest)
names_first channels (name ∷ names) rest =
    IsPermutation-trans _ _ _ (name_first channels name (all_of names rest)) (IsPermutation-cons name _ _ (names_first channels names rest))

mixed : (connections : List Connection) (rest : List Identifier) →
    IsPermutation (each (channel_told names_alone) (channels_among connections)
    (each (conversation_told names_alone) (conversations_among connections) rest))
    (each (connection_told names_alone) connections rest)
mixed [] rest = IsPermutation-refl rest
mixed (AChannel channel ∷ others) rest = under_channel channel _ _ (mixed others rest)
mixed (AConversation conversation ∷ others) rest =
    let names : List Identifier = conversation.name ∷ conversation.members in
    IsPermutation-trans _ _ _ (names_first (channels_among others) names
    (each (conversation_told names_alone) (conversations_among others) rest)) (all_under names _ _ (mixed others rest))

-- the names of a tree, with its channels and conversations mixed in any way
pub mixed_tree : (tree : Tree) (connections : List Connection) → channels_among connections ≡ tree.channels →
    conversations_among connections ≡ tree.conversations → IsPermutation (tree_names tree) (names_with connections tree)
mixed_tree tree connections c d =
    let rest : List Identifier = each (process_told names_alone) tree.processes [] in
    subst (λ channels. IsPermutation (tree.name ∷ each (channel_told names_alone) channels
    (each (conversation_told names_alone) tree.conversations rest)) (names_with connections tree)) c
    (subst (λ conversations. IsPermutation (tree.name ∷ each (channel_told names_alone) (channels_among connections)
    (each (conversation_told names_alone) conversations rest)) (names_with connections tree)) d
    (IsPermutation-cons tree.name _ _ (mixed connections rest)))
