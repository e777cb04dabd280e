use Rattle.std.proofs.Common.{◌≡◌, List, Ok, map, ap, sym, subst, ◌∙◌, ℕ}
use Rattle.rb_base.specs.declared.event.Cause.TheVariants.{Fail}
use Rattle.rb_syntax.specs.declared.expression.Expr.{Expr}
use Rattle.rb_syntax.specs.declared.statement.Item.{Item}
use Rattle.rb_syntax.specs.Plain.{body, command, expression, identifier, otherwise, print_item, recovery_block, reference, tree}
use Rattle.rb_syntax.specs.Tree.{Assignment, Command, Conditional, Failure, Invocation, Loop, Printing, Receiving, Recovering, Sending}
use Rattle.rb_syntax.proofs.Bridge.{command_assign, command_call, command_fail, command_if, command_print, command_receive, command_recover, command_send, command_while}
use Rattle.rb_meaning.specs.Environment.{rest_of}
use Rattle.rb_meaning.specs.State.{Perform}
use Rattle.rb_meaning.specs.Step.{invokes, performs, prints, sends}
use Rattle.rb_walk.specs.Comes.{Comes}
use Rattle.rb_walk.specs.Items.{StandsFirst}
use Rattle.rb_walk.specs.States.{state_of}
use Rattle.rb_walk.proofs.Skipped.{comes_first}
use Rattle.rb_walk.proofs.state.State.perform.Goals as goal

pub repeat-requires : goal.repeat-requires
repeat-requires c =
    let is : command c.args.statement.now ≡ Loop (expression c.in-While.test) (body c.in-While.block) =
    ap command c.in-While.is ∙ command_while c.in-While.test c.in-While.block.vars c.in-While.block.body in
    let First : Command → Type 0 = λ form. StandsFirst (Perform form) (state_of c.args.self.now).items in
    subst First is c.requires

pub returns-in-Assign : goal.returns-in-Assign
returns-in-Assign c =
    let is : command c.args.statement.now ≡ Assignment (reference c.in-Assign.to) (expression c.in-Assign.value) =
    ap command c.in-Assign.is ∙ command_assign c.in-Assign.to c.in-Assign.value in
    comes_first (tree c.args.program.now) c.args.message (state_of c.args.self.now) (state_of c.skip.new.self) (state_of c.assign.new.self)
    (command c.args.statement.now) _ c.assign.result c.skip.ensures is c.assign.ensures

pub returns-in-Print : goal.returns-in-Print
returns-in-Print c =
    let is : command c.args.statement.now ≡ Printing (map print_item c.in-Print.items.items) =
    ap command c.in-Print.is ∙ command_print c.in-Print.items in
    let Came : List Item → Type 0 =
    λ items. Comes (prints (state_of c.skip-in-Print.new.self) (map print_item items)) (state_of c.print.new.self) c.print.result in
    comes_first (tree c.args.program.now) c.args.message (state_of c.args.self.now) (state_of c.skip-in-Print.new.self) (state_of c.print.new.self)
    (command c.args.statement.now) _ c.print.result c.skip-in-Print.ensures is (subst Came c.deref.ensures.value c.print.ensures)

pub returns-in-Send : goal.returns-in-Send
returns-in-Send c =
    let is : command c.args.statement.now ≡ Sending (identifier c.in-Send.channel) (expression c.in-Send.value) =
    ap command c.in-Send.is ∙ command_send c.in-Send.channel c.in-Send.value in
    let Came : ℕ → Type 0 =
    λ channel. Comes (sends (state_of c.skip-in-Send.new.self) channel (expression c.in-Send.value))
    (state_of c.send.new.self) c.send.result in
    comes_first (tree c.args.program.now) c.args.message (state_of c.args.self.now) (state_of c.skip-in-Send.new.self) (state_of c.send.new.self)
    (command c.args.statement.now) _ c.send.result c.skip-in-Send.ensures is (subst Came c.channel_number.ensures c.send.ensures)

pub returns-in-Receive : goal.returns-in-Receive
returns-in-Receive c =
    let is : command c.args.statement.now
    ≡ Receiving (identifier c.in-Receive.channel) (reference c.in-Receive.to) (otherwise c.in-Receive.other) =
    ap command c.in-Receive.is ∙ command_receive c.in-Receive.channel c.in-Receive.to c.in-Receive.other in
    comes_first (tree c.args.program.now) c.args.message (state_of c.args.self.now) (state_of c.skip-in-Receive.new.self)
    (state_of c.receive.new.self)
    (command c.args.statement.now) _ c.receive.result c.skip-in-Receive.ensures is c.receive.ensures

pub returns-in-If : goal.returns-in-If
returns-in-If c =
    let is : command c.args.statement.now ≡ Conditional (expression c.in-If.test) (body c.in-If.block) (otherwise c.in-If.other) =
    ap command c.in-If.is ∙ command_if c.in-If.test c.in-If.block.vars c.in-If.block.body c.in-If.other in
    comes_first (tree c.args.program.now) c.args.message (state_of c.args.self.now) (state_of c.skip-in-If.new.self) (state_of c.choose.new.self)
    (command c.args.statement.now) _ c.choose.result c.skip-in-If.ensures is c.choose.ensures

pub returns-in-While : goal.returns-in-While
returns-in-While c =
    let s = state_of c.args.self.now in
    let is : command c.args.statement.now ≡ Loop (expression c.in-While.test) (body c.in-While.block) =
    ap command c.in-While.is ∙ command_while c.in-While.test c.in-While.block.vars c.in-While.block.body in
    let Came : Command → Type 0 =
    λ form. Comes (performs (tree c.args.program.now) c.args.message s (rest_of s.items) form)
    (state_of c.repeat.new.self) c.repeat.result in
    subst Came (sym is) c.repeat.ensures

pub returns-in-Call : goal.returns-in-Call
returns-in-Call c =
    let is : command c.args.statement.now ≡ Invocation (identifier c.in-Call.procedure) (map expression c.in-Call.arguments.items) =
    ap command c.in-Call.is ∙ command_call c.in-Call.procedure c.in-Call.arguments in
    let skipped = state_of c.skip-in-Call.new.self in
    let Came : List Expr → Type 0 =
    λ arguments. Comes (invokes (tree c.args.program.now) (identifier c.in-Call.procedure) (map expression arguments) skipped.items skipped)
    (state_of c.invoke.new.self) c.invoke.result in
    comes_first (tree c.args.program.now) c.args.message (state_of c.args.self.now) (state_of c.skip-in-Call.new.self) (state_of c.invoke.new.self)
    (command c.args.statement.now) _ c.invoke.result c.skip-in-Call.ensures is (subst Came c.deref-in-Call.ensures.value c.invoke.ensures)

pub returns-in-Fail : goal.returns-in-Fail
returns-in-Fail c =
    let s = state_of c.args.self.now in
    let is : command c.args.statement.now ≡ Failure = ap command c.in-Fail.is ∙ command_fail in
    (Fail, ap (performs (tree c.args.program.now) c.args.message s (rest_of s.items)) is)

pub returns-in-Recover : goal.returns-in-Recover
returns-in-Recover c =
    let s = state_of c.args.self.now in
    let is : command c.args.statement.now ≡ Recovering (recovery_block c.in-Recover.field-0) =
    ap command c.in-Recover.is ∙ command_recover c.in-Recover.field-0 in
    ap (performs (tree c.args.program.now) c.args.message s (rest_of s.items)) is ∙ ap Ok (sym c.skip-in-Recover.ensures)
