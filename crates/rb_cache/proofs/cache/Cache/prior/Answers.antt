use Rattle.std.proofs.Common.{◌≡◌, ◌-◌, ◌<◌, ℕ, pos, [], reverse, length, get_or, w64, rules, ◌∙◌, ap, sym, subst, arith}
use Rattle.std.proofs.lemmas.List.{length-reverse}
use Rattle.std.proofs.lemmas.Int.{to_z-of_z}
use Rattle.rb_cache.specs.Copies.{restored}
use Rattle.rb_cache.proofs.Views.{length-levels, length-restored}
use Rattle.rb_cache.proofs.cache.Cache.prior.Goals as goal

pub at_entry-requires-clause-at : goal.at_entry-requires-clause-at
at_entry-requires-clause-at g c =
    let rs = c.args.self.now.regions in
    let ws = c.args.cells.now.words in
    let cs = reverse (restored ws rs) in
    let n : length cs - 1 ≡ c.levels.result - 1 =
    omega (arith, c.levels.ensures.count, length-levels rs, length-restored ws rs, length-reverse (restored ws rs)) in
    subst (λ (k : ℕ). c.args.at < length (get_or cs k [])) n c.requires.at

pub returns-clause-word : goal.returns-clause-word
returns-clause-word g c =
    let rs = c.args.self.now.regions in
    let ws = c.args.cells.now.words in
    let cs = reverse (restored ws rs) in
    let n : length cs - 1 ≡ c.levels.result - 1 =
    omega (arith, c.levels.ensures.count, length-levels rs, length-restored ws rs, length-reverse (restored ws rs)) in
    to_z-of_z w64 c.at_entry.result (search rules) ∙ c.at_entry.ensures.word ∙ sym (ap (λ (k : ℕ). get_or (get_or cs k []) c.args.at (pos 0)) n)
