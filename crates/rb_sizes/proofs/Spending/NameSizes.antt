-- Names and conversations take in an image what is left of sixteen bytes for each byte that their declarations weigh.
use Rattle.std.proofs.Common.{◌≡◌, ℕ, ◌+◌, ◌*◌, ◌≤◌, List, [], ◌∷◌, ◌++◌, length, map, option_map, Option, Some, None, arith, length-append}
use Rattle.std.specs.List.{zip}
use Rattle.std.proofs.lemmas.List.{length-map}
use Rattle.rb_syntax.specs.declared.expression.Number.{Number}
use Rattle.rb_syntax.specs.Tree.{ChannelDeclaration, ConversationDeclaration, Declaration, ProcessDeclaration, Tree}
use Rattle.rb_world.specs.Kind.{Membership}
use Rattle.rb_world.specs.Text.{ProcessNaming, VariableNaming}
use Rattle.rb_meaning.specs.Environment.{size_of}
use Rattle.rb_meaning.specs.Groups.{membership_of}
use Rattle.rb_meaning.specs.Meaning.{process_named, variables_named}
use Rattle.rb_image.specs.Pieces.{list, natural, optional, text}
use Rattle.rb_image.specs.Image.{group, process_names, variable}
use Rattle.rb_sizes.proofs.Weighing.Sizes.{size_long, size_some}
use Rattle.rb_sizes.proofs.Weighing.Weights.{channels_weight, conversations_weight, declarations_weight, processes_weight, size_weight}
use Rattle.rb_sizes.proofs.Spending.Spent.{joined_cost}
use Rattle.rb_sizes.proofs.Spending.ProcessCosts.{processes_bound}
use Rattle.rb_sizes.proofs.Spending.ImageSizes.{behind_long, items_long, items_more, items_none, list_long, natural_long, naturals_long, optional_long, text_long}

sized_small : (o : Option Number) → joined_cost (option_map (λ (n : Number). size_of (Some n)) o) ≤ 16 * size_weight o
sized_small None = omega arith
sized_small (Some n) = omega arith

pub variable_long : (one : VariableNaming) → length (variable one) ≡ 24 + length one.name + joined_cost one.size
variable_long one =
    let a = length-append (text one.name) (natural one.at ++ optional one.size) in
    let b = text_long one.name in
    let d = behind_long one.at (optional one.size) in
    let e = optional_long one.size in
    omega arith

variables_fit : (at : ℕ) (variables : List Declaration) → items_long variable (variables_named at variables) ≤ 16 * declarations_weight variables
variables_fit at [] = let none = items_none variable in omega arith
variables_fit at (one ∷ others) =
    let first : VariableNaming = record { name = one.name.text; at = at; size = option_map (λ n. size_of (Some n)) one.size } in
    let more = items_more variable first (variables_named (at + size_of one.size) others) in
    let here = variable_long first in
    let small = sized_small one.size in
    let long = size_long one.name.text in
    let some = size_some one.name.text in
    let rest = variables_fit (at + size_of one.size) others in
    omega arith

pub process_names_long : (one : ProcessNaming) → length (process_names one) ≡ 16 + length one.name + items_long variable one.variables
process_names_long one =
    let a = length-append (text one.name) (list variable one.variables) in
    let b = text_long one.name in
    let d = list_long variable one.variables in
    omega arith

pub processes_fit : (processes : List ProcessDeclaration)
    → items_long process_names (map process_named processes) + processes_bound processes ≤ 16 * processes_weight processes
processes_fit [] = let none = items_none process_names in omega arith
processes_fit (process ∷ others) =
    let more = items_more process_names (process_named process) (map process_named others) in
    let here = process_names_long (process_named process) in
    let variables = variables_fit 0 process.variables in
    let long = size_long process.name.text in
    let some = size_some process.name.text in
    let rest = processes_fit others in
    omega arith

-- a channel takes 40 bytes beside its name: 24 in the list of channels, and 8 with each end
pub channels_fit : (channels : List ChannelDeclaration)
    → items_long text (map (λ (one : ChannelDeclaration). one.name.text) channels) + 40 * length channels ≤ 16 * channels_weight channels
channels_fit [] = let none = items_none text in omega arith
channels_fit (one ∷ others) =
    let more = items_more text one.name.text (map (λ (one : ChannelDeclaration). one.name.text) others) in
    let here = text_long one.name.text in
    let long = size_long one.name.text in
    let rest = channels_fit others in
    omega arith

-- a conversation takes 32 bytes beside its name, and 8 for each member
abbrev pub groups_bound : List ConversationDeclaration → ℕ
groups_bound [] = 0
groups_bound (one ∷ others) = 32 + 8 * length one.members + groups_bound others

pub conversations_fit : (conversations : List ConversationDeclaration)
    → items_long text (map (λ (one : ConversationDeclaration). one.name.text) conversations) + groups_bound conversations
    ≤ 16 * conversations_weight conversations
conversations_fit [] = let none = items_none text in omega arith
conversations_fit (one ∷ others) =
    let more = items_more text one.name.text (map (λ (one : ConversationDeclaration). one.name.text) others) in
    let here = text_long one.name.text in
    let long = size_long one.name.text in
    let rest = conversations_fit others in
    omega arith

joined_few : (o : Option ℕ) → joined_cost o ≤ 8
joined_few None = omega arith
joined_few (Some n) = omega arith

group_fits : (one : Membership) (n : ℕ) → length (group (one, n)) ≤ 32 + 8 * length one.members
group_fits one n =
    let a = naturals_long one.members in
    let b = length-append (list natural one.members) (optional one.parent ++ natural n) in
    let d = length-append (optional one.parent) (natural n) in
    let e = natural_long n in
    let f = optional_long one.parent in
    let few = joined_few one.parent in
    omega arith

pub groups_fit : (tree : Tree) (conversations : List ConversationDeclaration) (counts : List ℕ)
    → items_long group (zip (map (membership_of tree) conversations) counts) ≤ groups_bound conversations
groups_fit tree [] counts = let none = items_none group in omega arith
groups_fit tree (one ∷ others) [] = let none = items_none group in omega arith
groups_fit tree (one ∷ others) (n ∷ counts) =
    let member = membership_of tree one in
    let more = items_more group (member, n) (zip (map (membership_of tree) others) counts) in
    let here = group_fits member n in
    let members : length member.members ≡ length one.members = length-map one.members _ in
    let rest = groups_fit tree others counts in
    omega arith
