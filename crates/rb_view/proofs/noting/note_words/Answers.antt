use Rattle.std.proofs.Common.{ap, sym, Some, ◌∙◌, arith, rules, w64}
use Rattle.std.proofs.lemmas.Int.{to_z-of_z}
use Rattle.rb_view.proofs.Filling.{filled_all, filled_more, long_set}
use Rattle.rb_view.proofs.noting.note_words.Goals as goal

pub loop-at-preserved : goal.loop-at-preserved
loop-at-preserved g c = record {
  long = long_set c.loop-at.words.items c.loop-at.at _ ∙ c.loop-at.invariant.long;
  noted = filled_more c.loop-at.words.items _ c.loop-at.at _
      (omega (arith, c.loop-at.invariant.long, c.loop-at-test.true, c.len-at-end.ensures))
      (c.word.ensures.value ∙ ap Some (sym (to_z-of_z w64 c.word.result (search rules)))) c.loop-at.invariant.noted;
}

pub returns : goal.returns
returns g c =
    filled_all c.loop-at.words.items _ c.loop-at.at (omega (arith, c.loop-at.invariant.long, c.loop-at-test.false, c.len-at-end.ensures))
    (c.loop-at.invariant.long ∙ c.requires.long) c.loop-at.invariant.noted
