use Rattle.std.proofs.Common.{◌+◌, ◌≤◌, ◌++◌, ◌∷◌, ℤ, [], length, ap, ◌∙◌, arith, rules, w64}
use Rattle.std.proofs.lemmas.Int.{to_z-of_z}
use Rattle.rb_meaning.specs.Environment.{global_words}
use Rattle.rb_plain.proofs.Endings.{size_same, word_more}
use Rattle.rb_plain.proofs.values.values_of.Goals as goal

pub loop-k-preserved : goal.loop-k-preserved
loop-k-preserved c =
    let words = global_words c.args.environment.now in
    let within : c.args.variable.now.at + c.unwrap_or-size.result ≤ length words =
    omega (arith, c.requires, c.unwrap_or-size.ensures, size_same c.args.variable.now.size) in
    record {
      same = word_more words c.args.variable.now.at c.unwrap_or-size.result c.loop-k.k c.loop-k.values.items c.push_reserved.new.self.items c.word.result
          within c.loop-k-test.true c.loop-k.invariant.same c.word.ensures
          (c.push_reserved.ensures.items ∙ ap (λ (z : ℤ). c.loop-k.values.items ++ z ∷ []) (to_z-of_z w64 c.word.result (search rules)));
      many = omega arith;
      room = omega arith;
    }
