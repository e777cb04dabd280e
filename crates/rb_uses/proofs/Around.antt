-- The innermost conversation around, by the numbers that are kept.
use Rattle.std.proofs.Common.{◌≡◌, ℕ, ◌+◌, List, [], ◌∷◌, length, map, Option, Some, None, refl, ap, ◌∙◌, add-one}
use Rattle.rb_syntax.specs.Tree.{Identifier, Tree}
use Rattle.rb_syntax.specs.Plain.{alternates_of}
use Rattle.rb_syntax.specs.declared.statement.Block.{Block}
use Rattle.rb_meaning.specs.Groups.{conversation_of, count_alternates}
use Rattle.rb_meaning.specs.Nesting.{innermost}
use Rattle.rb_nest.specs.Answers.{first_answer}

pub innermost_numbered : (tree : Tree) (around : List (Option Identifier))
    → first_answer (λ (n : Option ℕ). n) (map (conversation_of tree) around) ≡ conversation_of tree (innermost around)
innermost_numbered tree [] = refl
innermost_numbered tree (None ∷ around) = innermost_numbered tree around
innermost_numbered tree (Some name ∷ around) = refl

-- alternates in a row are as many as they count
pub counted : (blocks : List Block) → count_alternates (alternates_of blocks) ≡ length blocks
counted [] = refl
counted (block ∷ blocks) = ap (λ n. n + 1) (counted blocks) ∙ add-one (length blocks)
