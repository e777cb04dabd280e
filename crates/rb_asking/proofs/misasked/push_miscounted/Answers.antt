use Rattle.std.proofs.Common.{◌≡◌, ◌∙◌, ◌++◌, List, ℕ, Bor, ap, map, subst, lt-ltb}
use Rattle.std.specs.Result.{OnOk}
use Rattle.rb_asking.specs.Guides.{guide_of}
use Rattle.rb_asking.specs.Misasked.{too_few}
use Rattle.rb_asking.proofs.Counted.{missing_told}
use Rattle.rb_asking.proofs.misasked.push_miscounted.Goals as goal

pub returns-then-count-guide : goal.returns-then-count-guide
returns-then-count-guide c =
    subst (λ (text : List ℕ). OnOk c.push_too_few.result (c.push_too_few.new.told.items ≡ c.args.told.now.items ++ text))
    (ap (λ (words : List (Bor (List ℕ))). too_few c.args.program.now (guide_of c.args.guide) (map (λ word. word.now) words)) c.missing.ensures
    ∙ missing_told c.args.program.now c.args.guide c.args.count (lt-ltb _ _ c.if-count-guide.true))
    c.push_too_few.ensures
