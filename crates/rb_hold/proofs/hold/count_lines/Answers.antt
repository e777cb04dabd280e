use Rattle.std.proofs.Common.{◌∙◌, arith}
use Rattle.std.proofs.lemmas.List.Sums.{count_by-le-length}
use Rattle.rb_hold.proofs.Lines.{is_end, lines_counted}
use Rattle.rb_hold.proofs.hold.count_lines.Goals as goal

pub returns-clause-count : goal.returns-clause-count
returns-clause-count c = c.count_ends.ensures ∙ lines_counted c.args.bytes.now c.requires.lines

pub returns-clause-few : goal.returns-clause-few
returns-clause-few c = omega (arith, c.count_ends.ensures, count_by-le-length is_end c.args.bytes.now, c.requires.few)
