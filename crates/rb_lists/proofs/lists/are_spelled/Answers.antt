use Rattle.std.proofs.Common.{◌≡◌, ◌↔◌, true, false, IsTrue, List, ℕ, subst, sym, ◌∙◌}
use Rattle.std.specs.List.{All}
use Rattle.std.proofs.lemmas.Bool.{true≢false}
use Rattle.rb_code.specs.declared.code.ProcessCode.{ProcessCode}
use Rattle.rb_lists.specs.Naming.{AreQuotable, NamesProcedures}
use Rattle.rb_lists.proofs.lists.are_spelled.Goals as goal
use Rattle.rb_lists.proofs.lists.are_spelled.Goals.{then-names_spelled, else-names_spelled}

pub returns-then-all_allowed : goal.returns-then-all_allowed
returns-then-all_allowed c =
    let Named : List ProcessCode → Type 0 = λ processes. All (λ (process : ProcessCode). NamesProcedures c.args.code.now.edition process) processes in
    let texts =
    subst (λ (texts : List (List ℕ)). IsTrue c.are_quotable.result ↔ AreQuotable texts) c.deref-then-all_allowed.ensures.value
    c.are_quotable.ensures in
    elim c.if-names_spelled.branch [
      | then-names_spelled w ↦
          let procedures =
          subst (λ (processes : List ProcessCode). IsTrue w.all_allowed.result ↔ Named processes) w.deref.ensures.value
          w.all_allowed.ensures in
          let named : w.all_allowed.result ≡ true = cc in (
            (λ e. record { names = c.names_spelled.ensures.0 w.if-names_spelled.true; procedures = procedures.0 named; texts = texts.0 e }),
            (λ spelled. texts.1 spelled.texts),
          )
      | else-names_spelled w ↦
          let none : true ≡ false = cc in
          absurd (true≢false none)
    ]

pub returns-else-all_allowed : goal.returns-else-all_allowed
returns-else-all_allowed c =
    let Named : List ProcessCode → Type 0 = λ processes. All (λ (process : ProcessCode). NamesProcedures c.args.code.now.edition process) processes in (
      (λ e. absurd (true≢false (sym e ∙ c.if-all_allowed.false))),
      (λ spelled.
          elim c.if-names_spelled.branch [
            | then-names_spelled w ↦
                let procedures =
                subst (λ (processes : List ProcessCode). IsTrue w.all_allowed.result ↔ Named processes) w.deref.ensures.value
                w.all_allowed.ensures in
                let named = procedures.1 spelled.procedures in
                cc
            | else-names_spelled w ↦ absurd (true≢false (sym (c.names_spelled.ensures.1 spelled.names) ∙ w.if-names_spelled.false))
          ]),
    )
