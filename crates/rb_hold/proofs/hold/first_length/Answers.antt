use Rattle.std.proofs.Common.{ap, sym, ◌∙◌, position}
use Rattle.rb_hold.specs.Stored.{lines_in}
use Rattle.rb_hold.proofs.Lines.{is_end, are_lines, first_end}
use Rattle.rb_hold.proofs.hold.first_length.Goals as goal

pub returns : goal.returns
returns c =
    c.first_end.ensures ∙ ap (position is_end) (sym c.requires) ∙ first_end (lines_in c.args.bytes.now) (are_lines c.args.bytes.now)
