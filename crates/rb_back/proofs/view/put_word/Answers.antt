use Rattle.std.proofs.Common.{List, ℤ, ap, arith, rules}
use Rattle.rb_back.specs.Picture.{picture}
use Rattle.rb_back.proofs.Pictures.{cells_with_word}
use Rattle.rb_back.proofs.view.put_word.Goals as goal

pub returns-then-process-len-clause-view : goal.returns-then-process-len-clause-view
returns-then-process-len-clause-view g c =
    ap (λ (words : List (List ℤ)). record (picture c.args.view.now) { words = words })
    (cells_with_word c.args.view.now.words.items c.args.process c.args.at c.args.value c.index_mut.result.now c.write.new.words (omega arith)
    c.index_mut.ensures.value (search rules))
