use Rattle.std.proofs.Common.{◌<◌, false, length, ◌∙◌, arith}
use Rattle.std.proofs.lemmas.List.{get_or_read}
use Rattle.rb_domino.proofs.reader.Reader.is_taken.Goals as goal

pub returns : goal.returns
returns c =
    let marks = c.args.self.now.taken in
    let within : c.args.m < length marks.items = omega (arith, c.requires.known, marks.ok.0) in
    get_or_read marks.items c.args.m c.index.result.now within c.index.ensures false ∙ c.requires.stands.marked c.args.m
