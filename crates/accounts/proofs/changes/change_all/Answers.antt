use Rattle.std.proofs.Common.{◌∙◌, length, ap, arith}
use Rattle.std.proofs.lemmas.List.{length_push}
use Rattle.accounts.proofs.Levels.{length_accepted, length_changed}
use Rattle.accounts.proofs.changes.change_all.Goals as goal

pub returns-then-make_all-clause-levels : goal.returns-then-make_all-clause-levels
returns-then-make_all-clause-levels g c =
    let opened = ap length c.open.ensures.levels ∙ length_push _ _ in
    let made = c.make_all.ensures.levels in
    let accepted = ap length c.accept.ensures.levels ∙ length_accepted _ in
    omega arith

pub returns-else-make_all-clause-levels : goal.returns-else-make_all-clause-levels
returns-else-make_all-clause-levels g c =
    let opened = ap length c.open.ensures.levels ∙ length_push _ _ in
    let made = c.make_all.ensures.levels in
    let back = ap length c.reject.ensures.levels ∙ length_changed _ _ in
    let accepted = ap length c.accept-else-make_all.ensures.levels ∙ length_accepted _ in
    omega arith
