-- The start of an alternate: its block, with the acceptance test behind it.
use Rattle.std.proofs.Common.{◌≡◌, List, ◌∷◌, Option, Some, Result, ap, ◌∙◌}
use Rattle.rb_base.specs.declared.edition.Edition.{Edition}
use Rattle.rb_base.specs.declared.event.Cause.{Cause}
use Rattle.rb_syntax.specs.declared.statement.Block.{Block}
use Rattle.rb_syntax.specs.declared.statement.Recovery.{Recovery}
use Rattle.rb_syntax.specs.Tree.{Body}
use Rattle.rb_syntax.specs.Plain.{body, recovery_block}
use Rattle.rb_meaning.specs.State.{Item, State, TestOf, continue_with}
use Rattle.rb_meaning.specs.Step.{pushes, starts_body}

-- from the state with its first item taken away, and then with the test put first, the block begins
pub alternate_starts : (edition : Edition) (recovery : Recovery) (block : Block) (found : Option Body) (s skipped : State) (rest items : List Item)
    → Some (body block) ≡ found → skipped ≡ continue_with rest s → items ≡ TestOf (recovery_block recovery) ∷ skipped.items
    → pushes edition (body block) items (continue_with items skipped) ≡ starts_body edition (recovery_block recovery) rest s found
alternate_starts edition recovery block found s skipped rest items is left front =
    let begins : State → Result State Cause = λ m. pushes edition (body block) m.items m in
    let tested : List Item → List Item = λ those. TestOf (recovery_block recovery) ∷ those in
    ap (λ m. begins (continue_with items m)) left
    ∙ ap (λ those. begins (continue_with those s)) (front ∙ ap (λ m. tested m.items) left)
    ∙ ap (starts_body edition (recovery_block recovery) rest s) is
