use Rattle.std.proofs.Common.{◌<◌, sym, ap, length, arith}
use Rattle.std.proofs.lemmas.Grind.{common_steps}
use Rattle.rb_cache.specs.Merging.{innermost}
use Rattle.rb_cache.proofs.Stamps.{reverse-last}
use Rattle.rb_cache.proofs.merge.top_of.Goals as goal

pub returns : goal.returns
returns c =
    let some : 0 < length c.args.marks.now = grind (arith, common_steps, c.if-is_empty.ensures, c.if-is_empty.false) in
    sym (ap innermost (reverse-last c.args.marks.now (record { first = 0; height = 0 }) some))
