use Rattle.std.proofs.Common.{ap, ◌∙◌, arith}
use Rattle.std.specs.List.{insert, position_or_len}
use Rattle.rb_scope.specs.Memory.{all_held}
use Rattle.rb_faults.proofs.Placing.{stands_behind, placed}
use Rattle.rb_faults.proofs.rows.place.Goals as goal

pub insert-requires : goal.insert-requires
insert-requires c = omega (arith, c.place_for-index.ensures.within, c.deref.ensures.len)

pub returns : goal.returns
returns c =
    let index = c.place_for-index.ensures.first ∙ ap (position_or_len (stands_behind c.args.one)) c.deref.ensures.value in
    ap all_held c.in_ok-insert.ensures.items
    ∙ ap (λ n. all_held (insert c.args.declared.now.items n c.args.one)) index
    ∙ placed c.args.one c.args.declared.now.items
