use Rattle.std.proofs.Common.{ℕ, List, [], ◌∷◌, ◌++◌, map, decimal, ap}
use Rattle.rb_outside.proofs.Puts.{puts_both, puts_same, puts_stopped_at}
use Rattle.rb_trace.specs.Lines.{spaced}
use Rattle.rb_code.specs.Instructions.Limits.{block_limits}
use Rattle.rb_code.proofs.line.put_block_addresses.Goals as goal

pub returns-in_err-put_limits : goal.returns-in_err-put_limits
returns-in_err-put_limits g c =
    let block = c.args.block.now in
    puts_stopped_at (block_limits block.bound block.restart block.test)
    (spaced (map decimal block.alternates.items) ++ 10
    ∷ []) _ _ _ _ _ c.from_residual.result c.from_residual.ensures.0 c.in_err-put_limits.ensures

pub returns : goal.returns
returns g c =
    let block = c.args.block.now in
    puts_both (block_limits block.bound block.restart block.test)
    (spaced (map decimal block.alternates.items) ++ 10 ∷ []) _ _ _ _ _ _ _ _ c.in_ok-put_limits.ensures
    (puts_same _ _ _ _ _ _ _ (ap (λ (xs : List ℕ). spaced (map decimal xs) ++ 10 ∷ []) c.deref.ensures.value) c.put_alternates_line.ensures)
