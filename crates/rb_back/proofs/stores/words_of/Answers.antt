use Rattle.std.proofs.Common.{◌≤◌, ◌<◌, ◌+◌, subst}
use Rattle.rb_back.specs.Stores.{LiesAt}
use Rattle.rb_back.proofs.stores.words_of.Goals as goal

pub returns-in-Global : goal.returns-in-Global
returns-in-Global c k low may =
    let lies : (c.in-Global.first ≤ k) × (k < c.in-Global.first + c.args.many) =
    subst (λ spot. LiesAt spot c.args.many k) c.in-Global.is may in
    c.words_at.ensures k low lies.0 lies.1
