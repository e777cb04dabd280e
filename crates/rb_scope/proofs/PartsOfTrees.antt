-- A fact of each site of a tree, part by part: those of its lists, of its channels and conversations, and of each process.
use Rattle.std.proofs.Common.{◌+◌, [], length}
use Rattle.std.specs.List.{AllByRecursion, flat_map}
use Rattle.rb_base.specs.declared.limits.TheConstants.{MOST_CONNECTIONS, MOST_PARAMETERS}
use Rattle.rb_base.specs.declared.edition.Edition.{Edition}
use Rattle.rb_base.specs.Limits.{most_processes, most_words}
use Rattle.rb_syntax.specs.Tree.{ChannelDeclaration, ConversationDeclaration, Identifier, ProcedureDeclaration, ProcessDeclaration, Tree}
use Rattle.rb_scope.specs.Scopes.{procedure_scope, process_scope, program_scope, variables_in, words_in}
use Rattle.rb_scope.specs.Sites.{Site, Spot, channel_sites, commands_in, commands_sites, conversation_sites, in_program, list_sites, procedure_sites, process_sites, scope_sites, size_sites, tree_sites, within, words_sites}
use Rattle.rb_scope.proofs.EachSite.{all_split}

-- in the text of a process, and in that of a procedure
abbrev pub within_process : ProcessDeclaration → Spot → Spot
within_process process spot = within (process_scope process) 0 spot

abbrev pub within_procedure : ProcedureDeclaration → Spot → Spot
within_procedure procedure spot =
    within (procedure_scope procedure) (length procedure.parameters + words_in (variables_in procedure.body)) spot

module _ (P : Site → Type 0) where
  -- the lists of a program, and its parts
  pub record TreeParts (tree : Tree) : Type 0 where
    pub declares : AllByRecursion P (scope_sites [] (program_scope tree))
    pub few_channels : AllByRecursion P (list_sites (λ one. one.name.place) MOST_CONNECTIONS 0 tree.channels)
    pub few_conversations : AllByRecursion P (list_sites (λ one. one.name.place) MOST_CONNECTIONS 0 tree.conversations)
    pub few_processes : AllByRecursion P (list_sites (λ one. one.name.place) (most_processes tree.edition) 0 tree.processes)
    pub channels : AllByRecursion P (flat_map (channel_sites (in_program tree)) tree.channels)
    pub conversations : AllByRecursion P (flat_map (conversation_sites (in_program tree)) tree.conversations)
    pub processes : AllByRecursion P (flat_map (process_sites tree.edition (in_program tree)) tree.processes)

  pub tree_parts : (tree : Tree) → AllByRecursion P (tree_sites tree) → TreeParts tree
  tree_parts tree all =
      let one = all_split P (scope_sites [] (program_scope tree)) _ all in
      let channels = list_sites (λ (c : ChannelDeclaration). c.name.place) MOST_CONNECTIONS 0 tree.channels in
      let conversations = list_sites (λ (c : ConversationDeclaration). c.name.place) MOST_CONNECTIONS 0 tree.conversations in
      let processes = list_sites (λ (p : ProcessDeclaration). p.name.place) (most_processes tree.edition) 0 tree.processes in
      let two = all_split P channels _ one.1 in
      let three = all_split P conversations _ two.1 in
      let four = all_split P processes _ three.1 in
      let five = all_split P _ _ four.1 in
      let six = all_split P _ _ five.1 in record {
        declares = one.0;
        few_channels = two.0;
        few_conversations = three.0;
        few_processes = four.0;
        channels = five.0;
        conversations = six.0;
        processes = six.1;
      }

  -- of a process
  pub record ProcessParts (edition : Edition) (spot : Spot) (process : ProcessDeclaration) : Type 0 where
    pub sizes : AllByRecursion P (flat_map (λ one. size_sites one.size) process.variables)
    pub words : AllByRecursion P (words_sites (most_words edition) 0 process.variables)
    pub procedures : AllByRecursion P (flat_map (procedure_sites (within_process process spot)) process.procedures)
    pub commands : AllByRecursion P (commands_sites (within_process process spot) process.commands)

  pub process_parts : (edition : Edition) (spot : Spot) (process : ProcessDeclaration)
      → AllByRecursion P (process_sites edition spot process) → ProcessParts edition spot process
  process_parts edition spot process all =
      let one = all_split P (scope_sites [] (process_scope process)) _ all in
      let two = all_split P _ _ one.1 in
      let three = all_split P _ _ two.1 in
      let four = all_split P _ _ three.1 in record { sizes = two.0; words = three.0; procedures = four.0; commands = four.1 }

  -- of a procedure
  pub record ProcedureParts (spot : Spot) (procedure : ProcedureDeclaration) : Type 0 where
    pub parameters : AllByRecursion P (list_sites (λ name. name.place) MOST_PARAMETERS 0 procedure.parameters)
    pub sizes : AllByRecursion P (flat_map (λ one. size_sites one.size) (variables_in procedure.body))
    pub commands : AllByRecursion P (commands_sites (within_procedure procedure spot) (commands_in procedure.body))

  pub procedure_parts : (spot : Spot) (procedure : ProcedureDeclaration) → AllByRecursion P (procedure_sites spot procedure)
      → ProcedureParts spot procedure
  procedure_parts spot procedure all =
      let one = all_split P (list_sites (λ (name : Identifier). name.place) MOST_PARAMETERS 0 procedure.parameters) _ all in
      let two = all_split P (scope_sites [] (procedure_scope procedure)) _ one.1 in
      let three = all_split P _ _ two.1 in record { parameters = one.0; sizes = three.0; commands = three.1 }
