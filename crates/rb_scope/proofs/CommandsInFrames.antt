-- The names of statements stand for what the meaning finds under them.
use Rattle.std.proofs.Common.{◌≡◌, ℕ, ◌+◌, List, [], ◌∷◌, length, Option, Some, None, refl, sym, ap, subst, ◌∙◌, arith}
use Rattle.std.specs.List.{All, flat_map}
use Rattle.std.proofs.lemmas.List.Sums.{sum_by-cons}
use Rattle.rb_syntax.specs.Tree.{Identifier, Expression, Declaration, PrintItem, Command, Assignment, Printing, Sending, Receiving, Conditional, Loop, Invocation, Failure, Recovering, Commands, NoCommand, Then, Body, Scope, Otherwise, NoElse, Else, RecoveryBlock, Recovers, Alternates, NoAlternate, Alternate, Tree}
use Rattle.rb_meaning.specs.Environment.{frame_of}
use Rattle.rb_scope.specs.Frames.{Frames, Shape, counter_among, in_acceptance, lies_among, lies_in, lying, pushed, shape_of, shape_words, shapes_words}
use Rattle.rb_scope.specs.InFrames.{AlternatesInFrames, BodyInFrames, CommandInFrames, CommandsInFrames, ExpressionInFrames, JoinedInFrames, OtherwiseInFrames, PrintedInFrames, RecoveryInFrames}
use Rattle.rb_scope.specs.Scopes.{Declared, declared_in, meaning_of, variables_from, words_in}
use Rattle.rb_scope.specs.Sites.{Spot, alternates_sites, body_sites, command_sites, commands_sites, expression_sites, joined_sites, otherwise_sites, printed_sites, recovery_sites, size_sites, tested, within}
use Rattle.rb_scope.specs.declared.slot.Slot.{Slot}
use Rattle.rb_scope.specs.declared.slot.Slot.TheVariants.{Local}
use Rattle.rb_scope.proofs.EachSite.{AreSettled, IsSettled, all_split, kept_of, of_parts}
use Rattle.rb_scope.proofs.Uses.{HaveArraySizes, all_sized}
use Rattle.rb_scope.proofs.Rows.{LiesThere, variables_lie, variables_words}
use Rattle.rb_scope.proofs.Meanings.{MeansIt, frame_more}
use Rattle.rb_scope.proofs.NamesInFrames.{AreAlike, channel_used, conversation_used, procedure_used}
use Rattle.rb_scope.proofs.ExpressionsInFrames.{expression_known, printed_known, target_known}

-- Around statements no quantified expression stands, and the words that are taken are those of the frames.
pub record AreAround (tree : Tree) (p : ℕ) (spot : Spot) (frames : Frames) : Type 0 where
  pub alike : AreAlike tree p spot frames
  pub taken : spot.taken ≡ shapes_words frames.running
  pub no_counter : frames.counters ≡ []

-- one frame of the call more
abbrev with_frame : Shape → Frames → Frames
with_frame shape frames = record frames { running = shape ∷ frames.running }

-- one scope more, and its frame
pub around_more : (tree : Tree) (p : ℕ) (spot : Spot) (frames : Frames) (scope : List Declared) (words : ℕ) (shape : Shape)
    → ((x : List ℕ) → LiesThere Local spot.taken (declared_in x scope) (lies_in x shape)) → shape_words shape ≡ words
    → AreAround tree p spot frames → AreAround tree p (within scope words spot) (with_frame shape frames)
around_more tree p spot frames scope words shape lie many around = record {
  alike = record {
    names = λ x.
        let before = meaning_of x spot.scopes in
        let after = meaning_of x (scope ∷ spot.scopes) in
        let Before : Option ℕ → Type 0 = λ counts. MeansIt tree p x (lying frames x) counts before in
        let After : Option ℕ → Type 0 = λ counts. MeansIt tree p x (lying (with_frame shape frames) x) counts after in
        let none : counter_among frames.counters x ≡ None = ap (λ cs. counter_among cs x) around.no_counter in
        let means = subst Before none (around.alike.names x) in
        subst After (sym none)
        (frame_more tree p x spot.taken (shapes_words frames.running) (declared_in x scope) (lies_in x shape) before
        (lies_among x frames.running) _ around.taken (lie x) means);
    quantified = around.alike.quantified;
    in_test = around.alike.in_test;
  };
  taken =
      ap (λ n. n + words) around.taken ∙ ap (λ n. shapes_words frames.running + n) (sym many)
      ∙ sym (sum_by-cons shape_words shape frames.running ∙ omega arith);
  no_counter = around.no_counter;
}

-- in a block
abbrev within_block : List Declaration → Spot → Spot
within_block variables spot = within (variables_from Local spot.taken variables) (words_in variables) spot

around_block : (tree : Tree) (p : ℕ) (spot : Spot) (frames : Frames) (variables : List Declaration) → HaveArraySizes variables
    → AreAround tree p spot frames → AreAround tree p (within_block variables spot) (pushed variables frames)
around_block tree p spot frames variables sized around =
    around_more tree p spot frames (variables_from Local spot.taken variables) (words_in variables) (shape_of (frame_of variables))
    (λ x. variables_lie Local x spot.taken variables sized) (variables_words variables sized) around

-- in an acceptance test
alike_tested : (tree : Tree) (p : ℕ) (spot : Spot) (frames : Frames) → AreAlike tree p spot frames
    → AreAlike tree p (tested spot) (in_acceptance frames)
alike_tested tree p spot frames alike = record { names = alike.names; quantified = alike.quantified; in_test = refl }

module _ (tree : Tree) (p : ℕ) (slots : List Slot) where
  printing_known : (spot : Spot) (frames : Frames) → AreAlike tree p spot frames → (items : List PrintItem)
      → AreSettled slots (flat_map (λ item. printed_sites spot item.what) items)
      → All (λ item. PrintedInFrames slots frames item.what) items
  printing_known spot frames alike items all =
      of_parts (IsSettled slots) (λ (item : PrintItem). printed_sites spot item.what) (λ item. PrintedInFrames slots frames item.what)
      items (λ item. printed_known tree p slots spot frames alike item.what) all

  arguments_known : (spot : Spot) (frames : Frames) → AreAlike tree p spot frames → (arguments : List Expression)
      → AreSettled slots (flat_map (expression_sites spot) arguments) → All (ExpressionInFrames slots frames) arguments
  arguments_known spot frames alike arguments all =
      of_parts (IsSettled slots) (expression_sites spot) (ExpressionInFrames slots frames) arguments
      (expression_known tree p slots spot frames alike) all

  joined_known : (spot : Spot) (frames : Frames) → AreAlike tree p spot frames → (name : Option Identifier)
      → AreSettled slots (joined_sites spot name) → JoinedInFrames tree slots name
  joined_known spot frames alike None all = tt
  joined_known spot frames alike (Some name) all = conversation_used tree p slots spot frames alike name all.0

  mutual
    pub command_known : (spot : Spot) (frames : Frames) → AreAround tree p spot frames → (c : Command)
        → AreSettled slots (command_sites spot c) → CommandInFrames tree slots p frames c
    command_known spot frames around (Assignment to value) all =
        let parts = all_split (IsSettled slots) _ _ all in (
          target_known tree p slots spot frames around.alike to parts.0,
          expression_known tree p slots spot frames around.alike value parts.1,
        )
    command_known spot frames around (Printing items) all =
        printing_known spot frames around.alike items (all_split (IsSettled slots) _ _ all).1
    command_known spot frames around (Sending channel value) all = (
      channel_used tree p slots spot frames around.alike channel all.0,
      expression_known tree p slots spot frames around.alike value all.1,
    )
    command_known spot frames around (Receiving channel to otherwise) all =
        let parts = all_split (IsSettled slots) _ _ all.1 in (
          channel_used tree p slots spot frames around.alike channel all.0,
          target_known tree p slots spot frames around.alike to parts.0,
          otherwise_known spot frames around otherwise parts.1,
        )
    command_known spot frames around (Conditional test body otherwise) all =
        let parts = all_split (IsSettled slots) _ _ all in
        let rest = all_split (IsSettled slots) _ _ parts.1 in (
          expression_known tree p slots spot frames around.alike test parts.0,
          body_known spot frames around body rest.0,
          otherwise_known spot frames around otherwise rest.1,
        )
    command_known spot frames around (Loop test body) all =
        let parts = all_split (IsSettled slots) _ _ all in
        (expression_known tree p slots spot frames around.alike test parts.0, body_known spot frames around body parts.1)
    command_known spot frames around (Invocation procedure arguments) all = (
      procedure_used tree p slots spot frames around.alike procedure (length arguments) all.0 all.1.0,
      arguments_known spot frames around.alike arguments all.1.1,
    )
    command_known spot frames around Failure all = tt
    command_known spot frames around (Recovering block) all = recovery_known spot frames around block all

    pub commands_known : (spot : Spot) (frames : Frames) → AreAround tree p spot frames → (cs : Commands)
        → AreSettled slots (commands_sites spot cs) → CommandsInFrames tree slots p frames cs
    commands_known spot frames around NoCommand all = tt
    commands_known spot frames around (Then first rest) all =
        let parts = all_split (IsSettled slots) _ _ all in
        (command_known spot frames around first parts.0, commands_known spot frames around rest parts.1)

    body_known : (spot : Spot) (frames : Frames) → AreAround tree p spot frames → (body : Body)
        → AreSettled slots (body_sites spot body) → BodyInFrames tree slots p frames body
    body_known spot frames around (Scope variables commands) all =
        let parts = all_split (IsSettled slots) _ _ all in
        let rest = all_split (IsSettled slots) _ _ parts.1 in
        let sized = all_sized variables (kept_of slots (flat_map (λ one. size_sites one.size) variables) rest.0) in
        let inside = around_block tree p spot frames variables sized around in
        commands_known (within_block variables spot) (pushed variables frames) inside commands rest.1

    otherwise_known : (spot : Spot) (frames : Frames) → AreAround tree p spot frames → (otherwise : Otherwise)
        → AreSettled slots (otherwise_sites spot otherwise) → OtherwiseInFrames tree slots p frames otherwise
    otherwise_known spot frames around NoElse all = tt
    otherwise_known spot frames around (Else body) all = body_known spot frames around body all

    recovery_known : (spot : Spot) (frames : Frames) → AreAround tree p spot frames → (block : RecoveryBlock)
        → AreSettled slots (recovery_sites spot block) → RecoveryInFrames tree slots p frames block
    recovery_known spot frames around (Recovers number conversation place test bound alternates) all =
        let parts = all_split (IsSettled slots) _ _ all in
        let rest = all_split (IsSettled slots) _ _ parts.1 in (
          joined_known spot frames around.alike conversation parts.0,
          expression_known tree p slots (tested spot) (in_acceptance frames) (alike_tested tree p spot frames around.alike) test rest.0,
          alternates_known spot frames around alternates rest.1.1,
        )

    alternates_known : (spot : Spot) (frames : Frames) → AreAround tree p spot frames → (alternates : Alternates)
        → AreSettled slots (alternates_sites spot alternates) → AlternatesInFrames tree slots p frames alternates
    alternates_known spot frames around NoAlternate all = tt
    alternates_known spot frames around (Alternate body others) all =
        let parts = all_split (IsSettled slots) _ _ all in
        (body_known spot frames around body parts.0, alternates_known spot frames around others parts.1)
