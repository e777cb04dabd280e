-- What is left of a process's text keeps the rules of nesting. A statement that is left has a spot, as one of the text has:
-- its process, whether the end of a call comes later, and the recovery blocks of the running call whose start or test comes
-- later, the innermost first.
use Rattle.std.proofs.Common.{◌≡◌, ℕ, Bool, true, false, ◌&&◌, List, [], ◌∷◌, ◌++◌, map, Option, refl, sym, ap, ◌∙◌, subst, true≢false}
use Rattle.std.specs.List.{list_all}
use Rattle.std.proofs.lemmas.List.Folds.{list_all-append}
use Rattle.rb_syntax.specs.Tree.{Identifier, Commands, NoCommand, Then, RecoveryBlock, Recovers, Tree}
use Rattle.rb_world.proofs.ListFacts.{first_holds, second_holds}
use Rattle.rb_meaning.specs.Environment.{Environment, pop_frame, pop_call}
use Rattle.rb_meaning.specs.State.{Item, Perform, StartOf, TestOf, EndBlock, EndCall, performed, settle_items}
use Rattle.rb_meaning.specs.Nesting.{Spot, Use, uses_in, uses_in_block, uses_in_command, keeps_n1, keeps_n2, keeps_n4, keeps_n5, keeps_n9}
use Rattle.rb_meaning.specs.Laws.{blocks_left}

-- the end of a call is left
abbrev pub in_call : List Item → Bool
in_call [] = false
in_call (Perform command ∷ items) = in_call items
in_call (StartOf block ∷ items) = in_call items
in_call (TestOf block ∷ items) = in_call items
in_call (EndBlock ∷ items) = in_call items
in_call (EndCall ∷ items) = true

-- the conversation of a recovery block, if it has one
abbrev pub conversation_named : RecoveryBlock → Option Identifier
conversation_named (Recovers number conversation place test bound alternates) = conversation

-- the conversations of the recovery blocks that are left of the running call, the innermost first
abbrev pub around_left : List Item → List (Option Identifier)
around_left [] = []
around_left (Perform command ∷ items) = around_left items
around_left (StartOf block ∷ items) = conversation_named block ∷ around_left items
around_left (TestOf block ∷ items) = conversation_named block ∷ around_left items
around_left (EndBlock ∷ items) = around_left items
around_left (EndCall ∷ items) = []

-- the spot of what stands before these items
abbrev pub spot_before : ℕ → List Item → Spot
spot_before p items = record { process = p; in_procedure = in_call items; around = around_left items }

-- the rules that are asked of a use: N1, N2, N4, N5 and N9
abbrev pub keeps_rules : Tree → Use → Bool
keeps_rules tree one = keeps_n1 tree one && (keeps_n2 tree one && (keeps_n4 tree one && (keeps_n5 tree one && keeps_n9 tree one)))

-- uses that keep the rules
abbrev pub AreKept : Tree → List Use → Type 0
AreKept tree uses = list_all (keeps_rules tree) uses ≡ true

-- an item that is left, before others: its uses keep the rules at its spot
abbrev pub IsClear : Tree → ℕ → Item → List Item → Type 0
IsClear tree p (Perform command) rest = AreKept tree (uses_in_command (spot_before p rest) command)
IsClear tree p (StartOf block) rest = AreKept tree (uses_in_block (spot_before p rest) block)
IsClear tree p (TestOf block) rest = AreKept tree (uses_in_block (spot_before p rest) block)
IsClear tree p EndBlock rest = Unit {0}
IsClear tree p EndCall rest = Unit {0}

-- all items that are left
abbrev pub AreClear : Tree → ℕ → List Item → Type 0
AreClear tree p [] = Unit {0}
AreClear tree p (item ∷ rest) = IsClear tree p item rest × AreClear tree p rest

-- uses of two parts
pub kept_first : (tree : Tree) (xs ys : List Use) → AreKept tree (xs ++ ys) → AreKept tree xs
kept_first tree xs ys e =
    first_holds (list_all (keeps_rules tree) xs) (list_all (keeps_rules tree) ys) (sym (list_all-append (keeps_rules tree) xs ys) ∙ e)

-- the uses of the second part
pub kept_second : (tree : Tree) (xs ys : List Use) → AreKept tree (xs ++ ys) → AreKept tree ys
kept_second tree xs ys e =
    second_holds (list_all (keeps_rules tree) xs) (list_all (keeps_rules tree) ys) (sym (list_all-append (keeps_rules tree) xs ys) ∙ e)

-- Statements that are put before what is left change no spot and no block that is left.
pub spot_performed : (p : ℕ) (commands : Commands) (rest : List Item) → spot_before p (performed commands rest) ≡ spot_before p rest
spot_performed p NoCommand rest = refl
spot_performed p (Then first commands) rest = spot_performed p commands rest

-- they leave the same blocks
pub blocks_performed : (commands : Commands) (rest : List Item) → blocks_left (performed commands rest) ≡ blocks_left rest
blocks_performed NoCommand rest = refl
blocks_performed (Then first commands) rest = blocks_performed commands rest

-- they keep the rules, and so does what was left
pub clear_performed : (tree : Tree) (p : ℕ) (commands : Commands) (rest : List Item) → AreKept tree (uses_in (spot_before p rest) commands)
    → AreClear tree p rest → AreClear tree p (performed commands rest)
clear_performed tree p NoCommand rest kept clear = clear
clear_performed tree p (Then first commands) rest kept clear = (
  subst (λ (spot : Spot). AreKept tree (uses_in_command spot first)) (sym (spot_performed p commands rest))
      (kept_first tree (uses_in_command (spot_before p rest) first) (uses_in (spot_before p rest) commands) kept),
  clear_performed tree p commands rest
      (kept_second tree (uses_in_command (spot_before p rest) first) (uses_in (spot_before p rest) commands) kept) clear,
)

-- Settling takes ends away, and no block that is left.
pub clear_settled : (tree : Tree) (p : ℕ) (items : List Item) (env : Environment) → AreClear tree p items → AreClear tree p (settle_items items env).0
clear_settled tree p [] env clear = clear
clear_settled tree p (Perform command ∷ items) env clear = clear
clear_settled tree p (StartOf block ∷ items) env clear = clear
clear_settled tree p (TestOf block ∷ items) env clear = clear
clear_settled tree p (EndBlock ∷ items) env clear = clear_settled tree p items (pop_frame env) clear.1
clear_settled tree p (EndCall ∷ items) env clear = clear_settled tree p items (pop_call env) clear.1

-- the blocks that are left stay
pub blocks_settled : (items : List Item) (env : Environment) → blocks_left (settle_items items env).0 ≡ blocks_left items
blocks_settled [] env = refl
blocks_settled (Perform command ∷ items) env = refl
blocks_settled (StartOf block ∷ items) env = refl
blocks_settled (TestOf block ∷ items) env = refl
blocks_settled (EndBlock ∷ items) env = blocks_settled items (pop_frame env)
blocks_settled (EndCall ∷ items) env = blocks_settled items (pop_call env)

-- where no end of a call is left, all blocks that are left are around
pub around_all : (items : List Item) → in_call items ≡ false → around_left items ≡ map conversation_named (blocks_left items)
around_all [] e = refl
around_all (Perform command ∷ items) e = around_all items e
around_all (StartOf block ∷ items) e = ap (λ x. conversation_named block ∷ x) (around_all items e)
around_all (TestOf block ∷ items) e = ap (λ x. conversation_named block ∷ x) (around_all items e)
around_all (EndBlock ∷ items) e = around_all items e
around_all (EndCall ∷ items) e = absurd (true≢false e)
