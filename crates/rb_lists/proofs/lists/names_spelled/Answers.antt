use Rattle.std.proofs.Common.{◌≡◌, ◌↔◌, true, false, IsTrue, List, ℕ, subst, sym, ◌∙◌}
use Rattle.std.proofs.lemmas.Bool.{true≢false}
use Rattle.rb_base.specs.declared.names.ProcessNames.{ProcessNames}
use Rattle.rb_trace.specs.Naming.{process_naming}
use Rattle.rb_code.specs.SoundCode.WellFormed.{NamesProcess}
use Rattle.rb_lists.specs.Naming.{AreNamings}
use Rattle.rb_lists.proofs.Each.{tells_same}
use Rattle.rb_lists.proofs.lists.names_spelled.Goals as goal
use Rattle.rb_lists.proofs.lists.names_spelled.Goals.{then-all_allowed, else-all_allowed}

pub returns-then-are_namings : goal.returns-then-are_namings
returns-then-are_namings c =
    let edition = c.args.edition in
    let Named : ProcessNames → Type 0 = λ process. NamesProcess edition (process_naming process) in
    let processes = tells_same Named _ _ _ c.deref.ensures.value c.all_allowed.ensures in
    let conversations =
    subst (λ (names : List (List ℕ)). IsTrue c.are_namings-then-are_namings.result ↔ AreNamings edition names)
    c.deref-then-are_namings.ensures.value c.are_namings-then-are_namings.ensures in
    elim c.if-all_allowed.branch [
      | then-all_allowed w ↦
          let channels =
          subst (λ (names : List (List ℕ)). IsTrue w.are_namings.result ↔ AreNamings edition names)
          w.deref-then-all_allowed.ensures.value w.are_namings.ensures in
          let named : w.are_namings.result ≡ true = cc in (
            (λ e. record { processes = processes.0 w.if-all_allowed.true; channels = channels.0 named; conversations = conversations.0 e }),
            (λ spelled. conversations.1 spelled.conversations),
          )
      | else-all_allowed w ↦
          let none : true ≡ false = cc in
          absurd (true≢false none)
    ]

pub returns-else-are_namings : goal.returns-else-are_namings
returns-else-are_namings c =
    let edition = c.args.edition in
    let Named : ProcessNames → Type 0 = λ process. NamesProcess edition (process_naming process) in
    let processes = tells_same Named _ _ _ c.deref.ensures.value c.all_allowed.ensures in (
      (λ e. absurd (true≢false (sym e ∙ c.if-are_namings.false))),
      (λ spelled.
          elim c.if-all_allowed.branch [
            | then-all_allowed w ↦
                let channels =
                subst (λ (names : List (List ℕ)). IsTrue w.are_namings.result ↔ AreNamings edition names)
                w.deref-then-all_allowed.ensures.value w.are_namings.ensures in
                let named = channels.1 spelled.channels in
                cc
            | else-all_allowed w ↦ absurd (true≢false (sym (processes.1 spelled.processes) ∙ w.if-all_allowed.false))
          ]),
    )
