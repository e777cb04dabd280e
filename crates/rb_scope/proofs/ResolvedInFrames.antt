-- In a tree that is resolved each name stands for what the meaning finds under it.
use Rattle.std.proofs.Common.{◌≡◌, Option, ℕ, ◌+◌, List, [], ◌∷◌, length, Some, None, refl, sym, subst, zero-add}
use Rattle.std.specs.List.{AllByRecursion, flat_map, slice_get}
use Rattle.std.proofs.lemmas.List.Elements.{All-from_recursion}
use Rattle.rb_syntax.specs.Tree.{Body, ChannelDeclaration, ConversationDeclaration, Identifier, ProcedureDeclaration, ProcessDeclaration, Scope, Tree}
use Rattle.rb_meaning.specs.Environment.{frame_of, or_else}
use Rattle.rb_scope.specs.Frames.{call_shape, lies_in, lying, main_frames, procedure_frames, shape_of}
use Rattle.rb_scope.specs.InFrames.{ChannelInFrames, ConversationInFrames, IsProcess, ProcedureInFrames, ProcessInFrames}
use Rattle.rb_scope.specs.Laws.{ResolvedInFrames}
use Rattle.rb_scope.specs.Limits.{HasDistinctNames}
use Rattle.rb_scope.specs.Scopes.{Declared, declared_in, meaning_of, procedure_scope, procedures_from, program_scope, variables_from, words_in}
use Rattle.rb_scope.specs.Sites.{Uses, channel_sites, conversation_sites, in_program, member_sites, procedure_sites, process_sites, size_sites}
use Rattle.rb_scope.specs.declared.want.Want.TheVariants.{AProcess}
use Rattle.rb_scope.specs.declared.slot.Slot.{Slot}
use Rattle.rb_scope.specs.declared.slot.Slot.TheVariants.{Global}
use Rattle.rb_scope.proofs.EachSite.{AreSettled, IsSettled, all_at, all_parts, all_settled, kept_of, of_parts}
use Rattle.rb_scope.proofs.PartsOfTrees.{process_parts, procedure_parts, tree_parts, within_procedure, within_process}
use Rattle.rb_scope.proofs.Uses.{HaveArraySizes, all_sized, used}
use Rattle.rb_scope.proofs.Rows.{call_lies, call_words, declared_behind, variables_lie}
use Rattle.rb_scope.proofs.Meanings.{MeansIt, procedures_lie, process_means}
use Rattle.rb_scope.proofs.NamesInFrames.{process_used}
use Rattle.rb_scope.proofs.CommandsInFrames.{AreAround, around_more, commands_known}
use Rattle.rb_scope.proofs.DistinctNames.{have_distinct_names}
use Rattle.rb_scope.proofs.ProgramNames.{program_means}

-- around the statements of a process
around_process : (tree : Tree) (p : ℕ) (process : ProcessDeclaration) → HasDistinctNames tree → slice_get tree.processes p ≡ Some process
    → HaveArraySizes process.variables → AreAround tree p (within_process process (in_program tree)) (main_frames process)
around_process tree p process distinct there sized = record {
  alike = record {
    names = λ x.
        let variables = variables_from Global 0 process.variables in
        let procedures = procedures_from 0 process.procedures in
        let outer = meaning_of x (program_scope tree ∷ []) in
        let Means : Option Declared → Type 0 = λ inner. MeansIt tree p x (lying (main_frames process) x) None (or_else inner outer) in
        subst Means (sym (declared_behind x variables procedures))
        (process_means tree p x process (declared_in x variables) (lies_in x (shape_of (frame_of process.variables)))
        (declared_in x procedures) outer there (variables_lie Global x 0 process.variables sized) (procedures_lie x 0 process.procedures)
        (program_means tree p x distinct));
    quantified = refl;
    in_test = refl;
  };
  taken = refl;
  no_counter = refl;
}

module _ (tree : Tree) (slots : List Slot) where
  -- a procedure
  procedure_known : (p : ℕ) (process : ProcessDeclaration)
      → AreAround tree p (within_process process (in_program tree)) (main_frames process)
      → (name : Identifier) (parameters : List Identifier) (body : Body)
      → AreSettled slots
      (procedure_sites (within_process process (in_program tree)) (record { name = name; parameters = parameters; body = body }))
      → ProcedureInFrames tree slots p process (record { name = name; parameters = parameters; body = body })
  procedure_known p process around name parameters (Scope variables commands) all =
      let procedure : ProcedureDeclaration = record { name = name; parameters = parameters; body = Scope variables commands } in
      let spot = within_process process (in_program tree) in
      let parts = procedure_parts (IsSettled slots) spot procedure all in
      let sized = all_sized variables (kept_of slots (flat_map (λ one. size_sites one.size) variables) parts.sizes) in
      let lie = λ (x : List ℕ). call_lies x 0 (length parameters) parameters variables (zero-add (length parameters)) sized in
      let inside = around_more tree p spot (main_frames process) (procedure_scope procedure) (length parameters + words_in variables)
      (call_shape procedure) lie (call_words parameters variables sized) around in
      commands_known tree p slots (within_procedure procedure spot) (procedure_frames process procedure) inside commands parts.commands

  -- a process
  process_known : HasDistinctNames tree → (p : ℕ) (process : ProcessDeclaration) → slice_get tree.processes p ≡ Some process
      → AreSettled slots (process_sites tree.edition (in_program tree) process) → ProcessInFrames tree slots p process
  process_known distinct p process there all =
      let spot = within_process process (in_program tree) in
      let parts = process_parts (IsSettled slots) tree.edition (in_program tree) process all in
      let sized = all_sized process.variables (kept_of slots (flat_map (λ one. size_sites one.size) process.variables) parts.sizes) in
      let around = around_process tree p process distinct there sized in record {
        procedures =
            of_parts (IsSettled slots) (procedure_sites spot) (ProcedureInFrames tree slots p process) process.procedures
            (λ one. procedure_known p process around one.name one.parameters one.body) parts.procedures;
        commands = commands_known tree p slots spot (main_frames process) around process.commands parts.commands;
      }

  -- a process that a channel or a conversation names
  named_known : HasDistinctNames tree → (name : Identifier) → IsSettled slots (Uses AProcess name (program_scope tree ∷ []))
      → IsProcess tree slots name
  named_known distinct name settled =
      let meaning = meaning_of name.text (program_scope tree ∷ []) in
      let u = used slots AProcess name meaning settled.0 settled.1 in
      process_used tree 0 slots name meaning u (program_means tree 0 name.text distinct)

  channel_known : HasDistinctNames tree → (channel : ChannelDeclaration) → AreSettled slots (channel_sites (in_program tree) channel)
      → ChannelInFrames tree slots channel
  channel_known distinct channel all =
      record { sender = named_known distinct channel.sender all.0; receiver = named_known distinct channel.receiver all.1.0 }

  members_known : HasDistinctNames tree → (names : List Identifier) → AreSettled slots (member_sites (in_program tree) names)
      → AllByRecursion (IsProcess tree slots) names
  members_known distinct [] all = tt
  members_known distinct (name ∷ names) all = (named_known distinct name all.0, members_known distinct names all.1)

  conversation_known : HasDistinctNames tree → (conversation : ConversationDeclaration)
      → AreSettled slots (conversation_sites (in_program tree) conversation) → ConversationInFrames tree slots conversation
  conversation_known distinct conversation all =
      All-from_recursion (IsProcess tree slots) conversation.members (members_known distinct conversation.members all)

pub resolved_in_frames : ResolvedInFrames
resolved_in_frames tree slots resolved =
    let distinct = have_distinct_names tree resolved.no_fault in
    let spot = in_program tree in
    let parts = tree_parts (IsSettled slots) tree (all_settled tree slots resolved) in
    let Each : ProcessDeclaration → Type 0 = λ process. AreSettled slots (process_sites tree.edition spot process) in
    let each = all_parts (IsSettled slots) (process_sites tree.edition spot) Each tree.processes (λ process h. h) parts.processes in
    record {
      channels =
          of_parts (IsSettled slots) (channel_sites spot) (ChannelInFrames tree slots) tree.channels (channel_known tree slots distinct)
          parts.channels;
      conversations =
          of_parts (IsSettled slots) (conversation_sites spot) (ConversationInFrames tree slots) tree.conversations
          (conversation_known tree slots distinct) parts.conversations;
      processes = λ p process there. process_known tree slots distinct p process there (all_at Each tree.processes p process each there);
    }
