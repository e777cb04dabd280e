-- Where so many processes are known to rest as there are, no turn changes anything any more.
use Rattle.std.proofs.Common.{length, sym, ◌∙◌, subst}
use Rattle.std.proofs.lemmas.Bool.{eqb-true}
use Rattle.rb_code.specs.Instructions.Plain.{code as plain}
use Rattle.rb_conv.specs.Conversations.{memberships}
use Rattle.rb_machine.specs.Machine.{IsOver, Seen}
use Rattle.rb_recovery.specs.Parts.{world}
use Rattle.rb_machine.proofs.Unmoved.Tallied.{all_rest}
use Rattle.rb_machine.proofs.machine.Machine.is_over.Goals as goal

pub returns : goal.returns
returns g c e =
    let inside = c.self.inside in
    let resting = inside.resting in
    let tied = c.self.invariant in
    subst (λ (machine : Seen). IsOver machine) c.self.view_is
    (all_rest (plain inside.code.now) (memberships inside.parts.table) (world inside.parts) resting.rests.items resting.changed resting.noted
    inside.taken tied.noted tied.tallied tied.freed (eqb-true resting.noted (length resting.rests.items) (sym c.is_all.ensures ∙ e)))
