-- The names of a whole tree are those at its sites. The sites of a scope come before those of the parts that its names belong to, so
-- names of procedures, channels, conversations and processes are counted apart.
use Rattle.std.proofs.Common.{◌≡◌, ℕ, ◌+◌, true, false, cond, List, [], ◌∷◌, ◌++◌, length, refl, arith}
use Rattle.std.specs.List.{flat_map}
use Rattle.rb_base.specs.declared.limits.TheConstants.{MOST_CONNECTIONS, MOST_PARAMETERS}
use Rattle.rb_base.specs.Limits.{most_processes, most_words}
use Rattle.rb_base.specs.declared.place.Place.{Place}
use Rattle.rb_base.specs.declared.edition.Edition.{Edition}
use Rattle.rb_grammar.specs.Order.{body_told, channel_told, commands_told, conversation_told, declaration_told, each, names_alone, procedure_told, process_told, tree_names}
use Rattle.rb_syntax.specs.Tree.{Identifier, Declaration, Body, Scope, ChannelDeclaration, ConversationDeclaration, ProcedureDeclaration, ProcessDeclaration, Tree}
use Rattle.rb_scope.specs.FirstFault.{is_before}
use Rattle.rb_scope.specs.Scopes.{Declared, channels_from, conversations_from, in_text_order, parameters_from, procedures_from, process_scope, processes_from, program_scope, take_place, variables_from, words_in, words_of}
use Rattle.rb_scope.specs.Sites.{Site, Spot, channel_sites, conversation_sites, in_program, list_sites, member_sites, commands_sites, procedure_sites, process_sites, scope_sites, size_sites, within, words_sites}
use Rattle.rb_scope.specs.Slots.{numbers_in}
use Rattle.rb_scope.specs.declared.slot.Slot.TheVariants.{Global, Local}
use Rattle.rb_judge.proofs.Hits.{hit, hits, named}
use Rattle.rb_judge.proofs.NamesAtSites.{IsTold, at_sites, at_sites-append, both, commands_names, declaring, no_list, no_sizes, nothing, using, variables_names}

-- how often a number is that of one of these declarations
abbrev among : ℕ → List Declared → ℕ
among n [] = 0
among n (one ∷ others) = hit n one.name.id + among n others

among-append : (n : ℕ) (xs ys : List Declared) → among n (xs ++ ys) ≡ among n xs + among n ys
among-append n [] ys = omega arith
among-append n (x ∷ xs) ys = let later = among-append n xs ys in omega arith

-- a scope has the names of its declarations
at_scope : (n : ℕ) (earlier ones : List Declared) → at_sites n (scope_sites earlier ones) ≡ among n ones
at_scope n earlier [] = refl
at_scope n earlier (one ∷ others) = let later = at_scope n (earlier ++ one ∷ []) others in omega arith

-- a declaration that takes its place among others is one more
among-take_place : (n : ℕ) (one : Declared) (others : List Declared)
    → among n (take_place one others) ≡ hit n one.name.id + among n others
among-take_place n one [] = refl
among-take_place n one (other ∷ others) =
    let later = among-take_place n one others in
    elim (is_before one.name.place other.name.place)
    as (λ before. among n (cond before (one ∷ other ∷ others) (other ∷ take_place one others))
    ≡ hit n one.name.id + (hit n other.name.id + among n others))
    [ true ↦ refl | false ↦ omega arith ]

among-in_text_order : (n : ℕ) (ones others : List Declared) → among n (in_text_order ones others) ≡ among n ones + among n others
among-in_text_order n [] others = omega arith
among-in_text_order n (one ∷ more) others =
    let placed = among-take_place n one others in
    let later = among-in_text_order n more (take_place one others) in
    omega arith

-- the parameters and the block of a procedure are one scope
parameters_names : (n at : ℕ) (earlier : List Declared) (parameters : List Identifier) (told rest : List Identifier) (ones : List Declared)
    → ((before : List Declared) → IsTold n told (scope_sites before ones) rest)
    → IsTold n (each names_alone.name parameters told) (scope_sites earlier (parameters_from at parameters ++ ones)) rest
parameters_names n at earlier [] told rest ones h = h earlier
parameters_names n at earlier (name ∷ names) told rest ones h =
    declaring earlier _ (parameters_names n (at + 1) (earlier ++ _ ∷ []) names told rest ones h)

procedure_names : (n : ℕ) (spot : Spot) (name : Identifier) (parameters : List Identifier) (body : Body) (rest : List Identifier)
    → IsTold n (each names_alone.name parameters (body_told names_alone body rest))
    (procedure_sites spot (record { name = name; parameters = parameters; body = body })) rest
procedure_names n spot name parameters (Scope variables commands) rest =
    let told : List Identifier = commands_told names_alone commands rest in
    let own : List Declared = variables_from Local (length parameters) variables in
    both (no_list n (λ one. one.place) MOST_PARAMETERS 0 parameters _)
    (both (parameters_names n 0 [] parameters (each (declaration_told names_alone) variables told) told own
    (λ before. variables_names n Local (length parameters) before variables told))
    (both (no_sizes n variables told)
    (commands_names n (within (parameters_from 0 parameters ++ own) (length parameters + words_in variables) spot) commands rest)))

-- the names of procedures are declared by their process
procedures_names : (n k : ℕ) (spot : Spot) (procedures : List ProcedureDeclaration) (rest : List Identifier)
    → named n (each (procedure_told names_alone) procedures rest)
    ≡ among n (procedures_from k procedures) + at_sites n (flat_map (procedure_sites spot) procedures) + named n rest
procedures_names n k spot [] rest = omega arith
procedures_names n k spot (one ∷ others) rest =
    let told : List Identifier = each (procedure_told names_alone) others rest in
    let here = (procedure_names n spot one.name one.parameters one.body told).as_often in
    let sites = at_sites-append n (procedure_sites spot one) (flat_map (procedure_sites spot) others) in
    let later = procedures_names n (k + 1) spot others rest in
    omega arith

-- the words that variables take have no names
no_words : (n most before : ℕ) (variables : List Declaration) (rest : List Identifier)
    → IsTold n rest (words_sites most before variables) rest
no_words n most before [] rest = nothing n rest
no_words n most before (one ∷ others) rest = record { as_often = (no_words n most (before + words_of one.size) others rest).as_often }

-- a process behind its name
process_names : (n : ℕ) (edition : Edition) (spot : Spot) (process : ProcessDeclaration) (rest : List Identifier)
    → named n (process_told names_alone process rest) ≡ hit n process.name.id + (at_sites n (process_sites edition spot process) + named n rest)
process_names n edition spot process rest =
    let inside : Spot = within (process_scope process) 0 spot in
    let told : List Identifier = commands_told names_alone process.commands rest in
    let procedures_told : List Identifier = each (procedure_told names_alone) process.procedures told in
    let own : List Declared = variables_from Global 0 process.variables in
    let variables = (variables_names n Global 0 [] process.variables procedures_told).as_often in
    let scope = at_scope n [] own in
    let procedures = procedures_names n 0 inside process.procedures told in
    let commands = (commands_names n inside process.commands rest).as_often in
    let declared = among-append n own (procedures_from 0 process.procedures) in
    let whole_scope = at_scope n [] (process_scope process) in
    let sizes = (no_sizes n process.variables rest).as_often in
    let words = (no_words n (most_words edition) 0 process.variables rest).as_often in
    let last : List Site = flat_map (procedure_sites inside) process.procedures ++ commands_sites inside process.commands in
    let third : List Site = words_sites (most_words edition) 0 process.variables ++ last in
    let second : List Site = flat_map (λ one. size_sites one.size) process.variables ++ third in
    let with_scope = at_sites-append n (scope_sites [] (process_scope process)) second in
    let with_sizes = at_sites-append n (flat_map (λ one. size_sites one.size) process.variables) third in
    let with_words = at_sites-append n (words_sites (most_words edition) 0 process.variables) last in
    let with_procedures = at_sites-append n (flat_map (procedure_sites inside) process.procedures) (commands_sites inside process.commands) in
    omega arith

-- processes, channels and conversations, whose names the program declares
processes_names : (n k : ℕ) (edition : Edition) (spot : Spot) (processes : List ProcessDeclaration) (rest : List Identifier)
    → named n (each (process_told names_alone) processes rest)
    ≡ among n (processes_from k processes) + at_sites n (flat_map (process_sites edition spot) processes) + named n rest
processes_names n k edition spot [] rest = omega arith
processes_names n k edition spot (one ∷ others) rest =
    let here = process_names n edition spot one (each (process_told names_alone) others rest) in
    let sites = at_sites-append n (process_sites edition spot one) (flat_map (process_sites edition spot) others) in
    let later = processes_names n (k + 1) edition spot others rest in
    omega arith

channels_names : (n k : ℕ) (spot : Spot) (channels : List ChannelDeclaration) (rest : List Identifier)
    → named n (each (channel_told names_alone) channels rest)
    ≡ among n (channels_from k channels) + at_sites n (flat_map (channel_sites spot) channels) + named n rest
channels_names n k spot [] rest = omega arith
channels_names n k spot (one ∷ others) rest = let later = channels_names n (k + 1) spot others rest in omega arith

members_names : (n : ℕ) (spot : Spot) (members : List Identifier) (rest : List Identifier)
    → IsTold n (each names_alone.name members rest) (member_sites spot members) rest
members_names n spot [] rest = nothing n rest
members_names n spot (name ∷ names) rest = using _ name spot.scopes (members_names n spot names rest)

conversations_names : (n k : ℕ) (spot : Spot) (conversations : List ConversationDeclaration) (rest : List Identifier)
    → named n (each (conversation_told names_alone) conversations rest)
    ≡ among n (conversations_from k conversations) + at_sites n (flat_map (conversation_sites spot) conversations) + named n rest
conversations_names n k spot [] rest = omega arith
conversations_names n k spot (one ∷ others) rest =
    let here = (members_names n spot one.members (each (conversation_told names_alone) others rest)).as_often in
    let sites = at_sites-append n (member_sites spot one.members) (flat_map (conversation_sites spot) others) in
    let later = conversations_names n (k + 1) spot others rest in
    omega arith

-- a list, before which and behind which the same names are told, has no site of a name
no_lists : {A : Type 0} (n : ℕ) (place : A → Place) (most : ℕ) (items : List A) → at_sites n (list_sites place most 0 items) ≡ 0
no_lists n place most items = let none = (no_list n place most 0 items []).as_often in omega arith

-- each number stands as often among the names of a tree as among those at its sites
pub tree_names_hit : (n : ℕ) (tree : Tree) → named n (tree_names tree) ≡ hits n (numbers_in tree)
tree_names_hit n tree =
    let spot : Spot = in_program tree in
    let processes_told : List Identifier = each (process_told names_alone) tree.processes [] in
    let conversations_told : List Identifier = each (conversation_told names_alone) tree.conversations processes_told in
    let channels = channels_names n 0 spot tree.channels conversations_told in
    let conversations = conversations_names n 0 spot tree.conversations processes_told in
    let processes = processes_names n 0 tree.edition spot tree.processes [] in
    let connections : List Declared = in_text_order (conversations_from 0 tree.conversations) (channels_from 0 tree.channels) in
    let ordered = among-in_text_order n (conversations_from 0 tree.conversations) (channels_from 0 tree.channels) in
    let declared = among-append n connections (processes_from 0 tree.processes) in
    let scope = at_scope n [] (program_scope tree) in
    let no_channels = no_lists n (λ one. one.name.place) MOST_CONNECTIONS tree.channels in
    let no_conversations = no_lists n (λ one. one.name.place) MOST_CONNECTIONS tree.conversations in
    let no_processes = no_lists n (λ one. one.name.place) (most_processes tree.edition) tree.processes in
    let last : List Site = flat_map (conversation_sites spot) tree.conversations ++ flat_map (process_sites tree.edition spot) tree.processes in
    let fifth : List Site = flat_map (channel_sites spot) tree.channels ++ last in
    let fourth : List Site = list_sites (λ one. one.name.place) (most_processes tree.edition) 0 tree.processes ++ fifth in
    let third : List Site = list_sites (λ one. one.name.place) MOST_CONNECTIONS 0 tree.conversations ++ fourth in
    let second : List Site = list_sites (λ one. one.name.place) MOST_CONNECTIONS 0 tree.channels ++ third in
    let with_scope = at_sites-append n (scope_sites [] (program_scope tree)) second in
    let with_channels = at_sites-append n (list_sites (λ one. one.name.place) MOST_CONNECTIONS 0 tree.channels) third in
    let with_conversations = at_sites-append n (list_sites (λ one. one.name.place) MOST_CONNECTIONS 0 tree.conversations) fourth in
    let with_processes = at_sites-append n (list_sites (λ one. one.name.place) (most_processes tree.edition) 0 tree.processes) fifth in
    let in_channels = at_sites-append n (flat_map (channel_sites spot) tree.channels) last in
    let in_conversations =
    at_sites-append n (flat_map (conversation_sites spot) tree.conversations) (flat_map (process_sites tree.edition spot) tree.processes) in
    omega arith
