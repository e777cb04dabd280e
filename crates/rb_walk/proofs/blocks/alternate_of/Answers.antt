use Rattle.std.proofs.Common.{sym, ◌∙◌, ap, option_map}
use Rattle.rb_syntax.specs.Plain.{body}
use Rattle.rb_walk.proofs.Lookups.{alternate_before, alternate_found}
use Rattle.rb_walk.proofs.blocks.alternate_of.Goals as goal

pub returns-in_err-place : goal.returns-in_err-place
returns-in_err-place c =
    ap (option_map (λ block. body block.now)) c.from_residual.ensures
    ∙ sym (alternate_before c.args.block.now c.args.alternate c.in_err-place.ensures)

pub returns : goal.returns
returns c =
    let numbered = c.in_ok-place.ensures in
    alternate_found c.args.block.now c.args.alternate c.in_ok-place.place c.deref.result.now c.get.result numbered.0 numbered.1 c.deref.ensures.value c.get.ensures.lookup.3
