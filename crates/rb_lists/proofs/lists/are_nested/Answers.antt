use Rattle.std.proofs.Common.{◌≡◌, true, false, sym, ◌∙◌}
use Rattle.std.proofs.lemmas.Bool.{true≢false}
use Rattle.rb_lists.proofs.lists.are_nested.Goals as goal
use Rattle.rb_lists.proofs.lists.are_nested.Goals.{then-all_allowed, else-all_allowed}

pub returns-then-all_allowed-2 : goal.returns-then-all_allowed-2
returns-then-all_allowed-2 c =
    elim c.if-all_allowed.branch [
      | then-all_allowed w ↦
          let parents : w.all_allowed-then-all_allowed.result ≡ true = cc in (
            (λ e. record {
              members = c.all_allowed.ensures.0 w.if-all_allowed.true;
              parents = w.all_allowed-then-all_allowed.ensures.0 parents;
              chains = c.all_allowed-then-all_allowed-2.ensures.0 e;
            }),
            (λ nested. c.all_allowed-then-all_allowed-2.ensures.1 nested.chains),
          )
      | else-all_allowed w ↦
          let none : true ≡ false = cc in
          absurd (true≢false none)
    ]

pub returns-else-all_allowed-2 : goal.returns-else-all_allowed-2
returns-else-all_allowed-2 c = (
  (λ e. absurd (true≢false (sym e ∙ c.if-all_allowed-2.false))),
  (λ nested.
      elim c.if-all_allowed.branch [
        | then-all_allowed w ↦
            let parents = w.all_allowed-then-all_allowed.ensures.1 nested.parents in
            cc
        | else-all_allowed w ↦ absurd (true≢false (sym (c.all_allowed.ensures.1 nested.members) ∙ w.if-all_allowed.false))
      ]),
)
