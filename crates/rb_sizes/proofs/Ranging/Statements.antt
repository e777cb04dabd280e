-- The numbers in the code of statements, of procedures and of processes are small.
use Rattle.std.proofs.Common.{◌≡◌, ℕ, ◌+◌, ◌*◌, ◌≤◌, ◌^◌, List, [], ◌∷◌, ◌++◌, length, sym, ◌∙◌, arith}
use Rattle.std.specs.List.{flat_map}
use Rattle.rb_base.specs.declared.limits.TheConstants.{MOST_ITEMS}
use Rattle.rb_syntax.specs.Tree.{Expression, PrintItem, Command, Assignment, Printing, Sending, Receiving, Conditional, Loop, Invocation, Failure, Recovering, Commands, NoCommand, Then, Body, Scope, NoElse, Else, Recovers, Alternates, NoAlternate, Alternate, Declaration, Tree}
use Rattle.rb_meaning.specs.Environment.{frame_of, frame_words, natural}
use Rattle.rb_scope.specs.Scopes.{variables_from, words_in}
use Rattle.rb_scope.specs.Sites.{Bounds, Spot, alternates_sites, body_sites, command_sites, commands_sites, expression_sites, joined_sites, list_sites, reference_sites, scope_sites, size_sites, tested, within}
use Rattle.rb_scope.specs.declared.slot.Slot.{Slot}
use Rattle.rb_scope.specs.declared.slot.Slot.TheVariants.{Local}
use Rattle.rb_scope.specs.declared.want.Want.TheVariants.{AScalar}
use Rattle.rb_scope.proofs.EachSite.{AreSettled, IsSettled, all_split, kept_of}
use Rattle.rb_scope.proofs.Rows.{variables_words}
use Rattle.rb_scope.proofs.Uses.{all_sized}
use Rattle.rb_scope.proofs.WithinLimits.{shape_words-frame}
use Rattle.rb_code.specs.Instructions.Plain.{Code}
use Rattle.rb_code.specs.Agreement.Slots.{channel_of, procedure_of}
use Rattle.rb_code.specs.Agreement.Forms.{AlternatesCode, BodyCode, CommandCode, CommandForm, CommandsCode, OthersCode, Owner, TellsOf, procedure_words}
use Rattle.rb_code.specs.declared.instr.Instr.TheVariants as instr
use Rattle.rb_image.specs.Ranges.{IsNatural}
use Rattle.rb_sizes.proofs.Weighing.Weights.{alternates_weight, arguments_weight, body_weight, command_weight, commands_weight, declarations_weight}
use Rattle.rb_sizes.proofs.Ranging.Kept.{Keeps, at, in_list, labelled, nothing, one, only, with_block, ◌then◌}
use Rattle.rb_sizes.proofs.Ranging.Expressions.{arguments_keep, called_keeps, drop_keeps, expression_keeps, frame_keeps, items_keep, store_keeps}
use Rattle.rb_sizes.proofs.Ranging.Slots.{AreFew, locals_few, words_in_few}

arguments_few : (arguments : List Expression) → length arguments ≤ arguments_weight arguments
arguments_few [] = omega arith
arguments_few (argument ∷ arguments) = let rest = arguments_few arguments in omega arith

-- each procedure of a process has few words
abbrev pub OwnerFits : Owner → Type 0
OwnerFits owner = (number : ℕ) → IsNatural (procedure_words owner.procedures number)

-- the words of a block, of which each array has a size that it may have
pub block_words : (slots : List Slot) (variables : List Declaration)
    → AreSettled slots (flat_map (λ (one : Declaration). size_sites one.size) variables)
    → frame_words (frame_of variables) ≤ 1024 * declarations_weight variables
block_words slots variables settled =
    let same : words_in variables ≡ frame_words (frame_of variables) =
    sym (variables_words variables (all_sized variables (kept_of slots _ settled))) ∙ shape_words-frame (frame_of variables) in
    let few = words_in_few variables in
    omega arith

module _ {c : Code} (tree : Tree) (slots : List Slot) (owner : Owner) (fits : OwnerFits owner) where
  mutual
    unfolding CommandForm

    command_keeps : (command : Command) (spot : Spot) → AreSettled slots (command_sites spot command) → AreFew spot.scopes
        → spot.taken + 1024 * command_weight command ≤ 2 ^ 31 → Keeps c (CommandCode tree slots owner command)
    command_keeps (Assignment to value) spot settled few light =
        let parts = all_split (IsSettled slots) (reference_sites spot AScalar to) (expression_sites spot value) settled in
        one instr.Turn tt
        then store_keeps slots to spot parts.0 few (omega arith) (expression_keeps slots value spot parts.1 few (omega arith))
    command_keeps (Printing items) spot settled few light =
        let parts = all_split (IsSettled slots) (list_sites (λ (item : PrintItem). item.place) MOST_ITEMS 0 items) _ settled in
        one instr.Turn tt then items_keep slots items spot parts.1 few (omega arith) then one instr.Print tt
    command_keeps (Sending channel value) spot settled few light =
        one instr.Turn tt then one (instr.Room (channel_of slots channel.id)) tt then expression_keeps slots value spot settled.1 few (omega arith)
        then one (instr.Put (channel_of slots channel.id)) tt
    command_keeps (Receiving channel to NoElse) spot settled few light =
        let parts = all_split (IsSettled slots) (reference_sites spot AScalar to) _ settled.1 in
        one instr.Turn tt then one (instr.There (channel_of slots channel.id)) tt
        then store_keeps slots to spot parts.0 few (omega arith) (one (instr.Take (channel_of slots channel.id)) tt)
    command_keeps (Receiving channel to (Else other)) spot settled few light =
        let parts = all_split (IsSettled slots) (reference_sites spot AScalar to) _ settled.1 in
        labelled (λ none. labelled (λ end.
        one instr.Turn tt then one (instr.Absent (channel_of slots channel.id) none) tt
        then store_keeps slots to spot parts.0 few (omega arith) (one (instr.Take (channel_of slots channel.id)) tt)
        then one (instr.Jump end) tt then at none then body_keeps other spot parts.1 few (omega arith) then at end))
    command_keeps (Conditional test body NoElse) spot settled few light =
        let parts = all_split (IsSettled slots) (expression_sites spot test) (body_sites spot body ++ []) settled in
        let rest = all_split (IsSettled slots) (body_sites spot body) [] parts.1 in
        labelled (λ end.
        one instr.Turn tt then expression_keeps slots test spot parts.0 few (omega arith) then one (instr.JumpZero end) tt
        then body_keeps body spot rest.0 few (omega arith) then at end)
    command_keeps (Conditional test body (Else other)) spot settled few light =
        let parts = all_split (IsSettled slots) (expression_sites spot test) (body_sites spot body ++ body_sites spot other) settled in
        let rest = all_split (IsSettled slots) (body_sites spot body) (body_sites spot other) parts.1 in
        labelled (λ no. labelled (λ end.
        one instr.Turn tt then expression_keeps slots test spot parts.0 few (omega arith) then one (instr.JumpZero no) tt
        then body_keeps body spot rest.0 few (omega arith)
        then one (instr.Jump end) tt then at no then body_keeps other spot rest.1 few (omega arith) then at end))
    command_keeps (Loop test body) spot settled few light =
        let parts = all_split (IsSettled slots) (expression_sites spot test) (body_sites spot body) settled in
        labelled (λ loop. labelled (λ end.
        at loop then one instr.Turn tt then expression_keeps slots test spot parts.0 few (omega arith) then one (instr.JumpZero end) tt
        then body_keeps body spot parts.1 few (omega arith) then one (instr.Jump loop) tt then at end))
    command_keeps (Invocation procedure arguments) spot settled few light =
        let many = arguments_few arguments in
        one instr.Turn tt then arguments_keep slots arguments spot settled.1.1 few (omega arith)
        then called_keeps owner.number (procedure_of slots procedure.id) (length arguments)
        (procedure_words owner.procedures (procedure_of slots procedure.id)) (omega arith) (fits (procedure_of slots procedure.id))
    command_keeps Failure spot settled few light = one instr.Turn tt then one instr.Fail tt
    command_keeps (Recovering (Recovers number conversation place test bound alternates)) spot settled few light =
        let parts = all_split (IsSettled slots) (joined_sites spot conversation) _ settled in
        let rest = all_split (IsSettled slots) (expression_sites (tested spot) test) (Bounds bound ∷ alternates_sites spot alternates) parts.1 in
        with_block number (λ block.
        only (TellsOf tree conversation place.line (natural bound.value) block) then one instr.Turn tt then one (instr.Enter number) tt
        then at block.restart then one instr.Turn tt then one (instr.Start number) tt
        then alternates_keep alternates spot rest.1.1 few (omega arith) block.alternates block.test
        then at block.test then one instr.Turn tt then expression_keeps slots test (tested spot) rest.0 few (omega arith)
        then one (instr.Test number) tt)

    pub commands_keep : (commands : Commands) (spot : Spot) → AreSettled slots (commands_sites spot commands) → AreFew spot.scopes
        → spot.taken + 1024 * commands_weight commands ≤ 2 ^ 31 → Keeps c (CommandsCode tree slots owner commands)
    commands_keep NoCommand spot settled few light = nothing
    commands_keep (Then first rest) spot settled few light =
        let parts = all_split (IsSettled slots) (command_sites spot first) (commands_sites spot rest) settled in
        command_keeps first spot parts.0 few (omega arith) then commands_keep rest spot parts.1 few (omega arith)

    body_keeps : (body : Body) (spot : Spot) → AreSettled slots (body_sites spot body) → AreFew spot.scopes
        → spot.taken + 1024 * body_weight body ≤ 2 ^ 31 → Keeps c (BodyCode tree slots owner body)
    body_keeps (Scope variables commands) spot settled few light =
        let parts = all_split (IsSettled slots) (scope_sites [] (variables_from Local spot.taken variables)) _ settled in
        let rest = all_split (IsSettled slots) (flat_map (λ (one : Declaration). size_sites one.size) variables) _ parts.1 in
        let words = block_words slots variables rest.0 in
        let taken = words_in_few variables in
        let inside = within (variables_from Local spot.taken variables) (words_in variables) spot in
        frame_keeps (frame_words (frame_of variables)) (omega arith)
        then commands_keep commands inside rest.1 (locals_few spot.taken variables (omega arith), few) (omega arith)
        then drop_keeps (frame_words (frame_of variables)) (omega arith)

    alternates_keep : (alternates : Alternates) (spot : Spot) → AreSettled slots (alternates_sites spot alternates) → AreFew spot.scopes
        → spot.taken + 1024 * alternates_weight alternates ≤ 2 ^ 31 → (addresses : List ℕ) (test : ℕ)
        → Keeps c (AlternatesCode tree slots owner alternates addresses test)
    alternates_keep NoAlternate spot settled few light addresses test = only (addresses ≡ [])
    alternates_keep (Alternate body others) spot settled few light addresses test =
        let parts = all_split (IsSettled slots) (body_sites spot body) (alternates_sites spot others) settled in
        in_list addresses (λ more. body_keeps body spot parts.0 few (omega arith) then others_keep others spot parts.1 few (omega arith) more test)

    others_keep : (others : Alternates) (spot : Spot) → AreSettled slots (alternates_sites spot others) → AreFew spot.scopes
        → spot.taken + 1024 * alternates_weight others ≤ 2 ^ 31 → (addresses : List ℕ) (test : ℕ)
        → Keeps c (OthersCode tree slots owner others addresses test)
    others_keep NoAlternate spot settled few light addresses test = only (addresses ≡ [])
    others_keep (Alternate body others) spot settled few light addresses test =
        let parts = all_split (IsSettled slots) (body_sites spot body) (alternates_sites spot others) settled in
        one (instr.Jump test) tt
        then in_list addresses (λ more. body_keeps body spot parts.0 few (omega arith) then others_keep others spot parts.1 few (omega arith) more test)
