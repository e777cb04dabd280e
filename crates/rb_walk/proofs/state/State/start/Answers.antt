use Rattle.std.proofs.Common.{Result, reverse, ap, sym, subst}
use Rattle.rb_base.specs.declared.event.Cause.{Cause}
use Rattle.rb_base.specs.declared.event.Cause.TheVariants.{Fail}
use Rattle.rb_syntax.specs.Plain.{recovery_block}
use Rattle.rb_meaning.specs.Environment.{rest_of}
use Rattle.rb_meaning.specs.State.{State}
use Rattle.rb_meaning.specs.Step.{alternate_number, alternates_in, starts_body}
use Rattle.rb_walk.specs.Comes.{Comes}
use Rattle.rb_walk.specs.Items.{items_of}
use Rattle.rb_walk.specs.States.{state_of}
use Rattle.rb_walk.proofs.Starting.{alternate_starts}
use Rattle.rb_walk.proofs.state.State.start.Goals as goal

pub returns-in_default : goal.returns-in_default
returns-in_default c =
    let s = state_of c.args.self.now in
    (Fail, ap (starts_body c.args.edition (recovery_block c.args.block.now) (rest_of s.items) s) (sym c.in_default.ensures))

pub returns : goal.returns
returns c =
    let s = state_of c.args.self.now in
    let skipped = state_of c.skip.new.self in
    let items = items_of (reverse c.put_first.new.items.items) in
    let found = alternate_number c.args.alternate (alternates_in (recovery_block c.args.block.now)) in
    let begins = alternate_starts c.args.edition c.args.block.now c.in-Some.body.now found s skipped
    (rest_of s.items) items c.in-Some.ensures c.skip.ensures c.in_ok-put_first.ensures in
    let P : Result State Cause → Type 0 = λ outcome. Comes outcome (state_of c.push_block.new.self) c.push_block.result in
    subst P begins c.push_block.ensures
