use Rattle.std.proofs.Common.{List, ℕ, [], ◌∷◌, map, take, Bor, ap, ◌∙◌, subst}
use Rattle.rb_web.specs.Called.{CallEnds}
use Rattle.rb_web.specs.declared.over_texts.Program.TheVariants.{Rbl}
use Rattle.rb_web.proofs.Three.{first_of_three}
use Rattle.rb_web.proofs.rbl_ask.Goals as goal

pub returns-clause-ends : goal.returns-clause-ends
returns-clause-ends c =
    let three : List (Bor (List ℕ)) = c.args.first ∷ c.args.second ∷ c.args.third ∷ [] in
    subst (λ texts. CallEnds Rbl c.args.words.now texts c.ask.new.out c.ask.new.reason c.ask.result)
    (ap (λ n. map (λ text. text.now) (take n three)) c.min.ensures ∙ first_of_three c.args.count c.args.first c.args.second c.args.third)
    c.ask.ensures.ends
