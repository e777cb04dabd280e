use Rattle.std.proofs.Common.{◌≡◌, ℕ, ◌+◌, ◌-◌, ◌++◌, length, take, option_map, drop, List, [], ◌∷◌, ap, ◌∙◌, sym, subst, arith, map, refl}
use Rattle.std.proofs.lemmas.Grind.{common_steps}
use Rattle.rb_syntax.specs.Plain.{identifier, expression as plain, command, commands_of, body, otherwise, alternates_of, reference, recovery_block, print_item, declaration}
use Rattle.rb_syntax.specs.Tree.{Assignment, Printing, Sending, Receiving, Conditional, Loop, Invocation, Failure, Recovering, NoAlternate, Alternate, Then, NoCommand}
use Rattle.rb_syntax.proofs.Bridge.{trees, recovery_out}
use Rattle.rb_syntax.specs.declared.statement.Recovery.{Recovery, Recovery-F, out-Recovery}
use Rattle.rb_syntax.specs.declared.statement.Statement.{Statement}
use Rattle.rb_syntax.specs.declared.statement.Block.{Block}
use Rattle.rb_meaning.specs.Environment.{frame_of, frame_words}
use Rattle.rb_code.specs.Instructions.Plain.{Block as Entry}
use Rattle.rb_code.specs.declared.instr.Instr.TheVariants.{Jump, JumpZero}
use Rattle.rb_draft.specs.Output.{output, filled_with, patched}
use Rattle.rb_gen.specs.Writes.{WritesAlternates}
use Rattle.rb_gen.proofs.Rows.{last_call}
use Rattle.rb_gen.proofs.StatementRows.{assigned, printing, sending, called, failed, received, received_else, branched, no_else, some_else, looped, same_command, no_command, one_command, body_row, else_row}
use Rattle.rb_gen.proofs.RecoveryRows.{recovered, no_alternate, alternates_init, alternates_step, alternates_end}
use Rattle.rb_gen.proofs.Slices.{none_left, split}
use Rattle.rb_gen.proofs.statements.+statement.Goals.{emit_otherwise-in-None+in_ok-no-in-None, emit_otherwise-in-Some+in_ok-no-in-Some}
use Rattle.rb_gen.proofs.statements.+statement.Goals as goal

pub emit_statements-returns : goal.emit_statements-returns
emit_statements-returns t c =
    let is : commands_of (drop c.statements.statement-index c.args.statements.now) ≡ NoCommand = grind (arith, common_steps) in
    c.statements.invariant _ (no_command c.args.slots.now c.args.words.now _ is)

pub emit_statements-statements-preserved : goal.emit_statements-statements-preserved
emit_statements-statements-preserved t c =
    let is : commands_of (drop c.statements.statement-index c.args.statements.now) ≡ Then (command c.statement-item.result)
    (commands_of (drop (c.statements.statement-index + 1) c.args.statements.now)) =
    grind (arith, common_steps) in
    λ after h. c.statements.invariant after (one_command c.args.slots.now c.args.words.now is c.in_ok-emit_statement.ensures h)

pub emit_body-returns : goal.emit_body-returns
emit_body-returns t c =
    last_call c.put_drop.result c.put_drop.ensures (λ h. body_row c.args.slots.now c.args.words.now (map declaration c.args.block.now.vars.items)
    (commands_of c.args.block.now.body.items) (ap commands_of c.deref-2.ensures.value)
    (c.in_ok-size.ensures
    ∙ ap (λ xs. frame_words
    (frame_of (map declaration xs))) c.deref.ensures.value) c.in_ok-put_frame.ensures c.in_ok-emit_statements.ensures h)

pub emit_else-returns : goal.emit_else-returns
emit_else-returns t c =
    else_row c.args.slots.now c.args.words.now
    (body c.args.block.now) c.in_ok-skip.ensures c.in_ok-start.ensures c.in_ok-emit_body.ensures c.in_ok-end.ensures c.patch.ensures

pub emit_statement-returns-in-Assign : goal.emit_statement-returns-in-Assign
emit_statement-returns-in-Assign t c =
    let is : command c.args.statement.now ≡ Assignment (reference c.in-Assign.target) (plain c.in-Assign.value) = grind (arith, trees) in
    last_call c.emit_assignment.result c.emit_assignment.ensures (λ h. assigned c.args.slots.now c.args.words.now is h)

pub emit_statement-returns-in-Print : goal.emit_statement-returns-in-Print
emit_statement-returns-in-Print t c =
    let is : command c.args.statement.now ≡ Printing (map print_item c.deref.result.now) = grind (arith, trees) in
    last_call c.emit_printing.result c.emit_printing.ensures (λ h. printing c.args.slots.now c.args.words.now is h)

pub emit_statement-returns-in-Send : goal.emit_statement-returns-in-Send
emit_statement-returns-in-Send t c =
    let is : command c.args.statement.now ≡ Sending (identifier c.in-Send.channel) (plain c.in-Send.value) = grind (arith, trees) in
    last_call c.emit_sending.result c.emit_sending.ensures (λ h. sending c.args.slots.now c.args.words.now is h)

pub emit_statement-returns-in-Call : goal.emit_statement-returns-in-Call
emit_statement-returns-in-Call t c =
    let is : command c.args.statement.now ≡ Invocation (identifier c.in-Call.procedure) (map plain c.deref-in-Call.result.now) =
    grind (arith, trees) in
    last_call c.emit_call.result c.emit_call.ensures (λ h. called c.args.slots.now c.args.words.now is h)

pub emit_statement-returns-in-Fail : goal.emit_statement-returns-in-Fail
emit_statement-returns-in-Fail t c =
    let is : command c.args.statement.now ≡ Failure = grind (arith, trees) in
    last_call c.emit_failure.result c.emit_failure.ensures (λ h. failed c.args.slots.now c.args.words.now is h)

pub emit_statement-returns-in-Recover : goal.emit_statement-returns-in-Recover
emit_statement-returns-in-Recover t c =
    let is : command c.args.statement.now ≡ Recovering (recovery_block c.in-Recover.recovery) = grind (arith, trees) in
    last_call c.emit_recovery.result c.emit_recovery.ensures (λ h. same_command c.args.slots.now c.args.words.now is h)

pub emit_statement-returns-in-Receive : goal.emit_statement-returns-in-Receive
emit_statement-returns-in-Receive t c =
    let is : command c.args.statement.now
    ≡ Receiving (identifier c.in-Receive.channel) (reference c.in-Receive.target) (otherwise c.in-Receive.other) =
    grind (arith, trees) in
    last_call c.emit_receipt.result c.emit_receipt.ensures (λ h. same_command c.args.slots.now c.args.words.now is h)

pub emit_statement-returns-in-While : goal.emit_statement-returns-in-While
emit_statement-returns-in-While t c =
    let is : command c.args.statement.now ≡ Loop (plain c.in-While.test) (body c.in-While.block) = grind (arith, trees) in
    last_call c.emit_loop.result c.emit_loop.ensures (λ h. same_command c.args.slots.now c.args.words.now is h)

pub emit_statement-returns-in_ok-over-in-If : goal.emit_statement-returns-in_ok-over-in-If
emit_statement-returns-in_ok-over-in-If t c =
    let is : command c.args.statement.now ≡ Conditional (plain c.in-If.test) (body c.in-If.block) (otherwise c.in-If.other) =
    grind (arith, trees) in
    last_call c.emit_otherwise.result c.emit_otherwise.ensures (λ h. branched c.args.slots.now c.args.words.now is c.in_ok-over-in-If.ensures h)

pub emit_otherwise-returns : goal.emit_otherwise-returns
emit_otherwise-returns t c = elim c.match-other.branch [
  | emit_otherwise-in-None+in_ok-no-in-None w ↦
      no_else c.args.slots.now c.args.words.now c.args.over (output c.args.draft.now) (ap otherwise w.in-None.is) w.in_ok-no-in-None.ensures
      (subst (λ n. output c.patch.new.draft ≡ patched (output c.args.draft.now) c.args.over (JumpZero n)) w.no-is
      (subst (λ d. output c.patch.new.draft ≡ patched (output d) c.args.over (JumpZero c.match-other.no)) w.draft-is c.patch.ensures))
  | emit_otherwise-in-Some+in_ok-no-in-Some w ↦
      some_else c.args.slots.now c.args.words.now c.args.over (ap otherwise w.in-Some.is) w.in_ok-no-in-Some.ensures
      (subst (λ n. output c.patch.new.draft ≡ patched (output w.emit_else.new.draft) c.args.over (JumpZero n)) w.no-is
      (subst (λ d. output c.patch.new.draft ≡ patched (output d) c.args.over (JumpZero c.match-other.no)) w.draft-is c.patch.ensures))
]

pub emit_receipt-returns-in_ok-put-in-None : goal.emit_receipt-returns-in_ok-put-in-None
emit_receipt-returns-in_ok-put-in-None t c =
    let of = Receiving (identifier c.args.channel.now) (reference c.args.target.now) in
    last_call c.emit_taking.result c.emit_taking.ensures (λ h. received c.args.slots.now c.args.words.now (ap of (ap otherwise c.in-None.is)) c.channel_of-number.ensures
    (c.in_ok-put.ensures refl) (c.in_ok-put-in-None.ensures refl)
    h)

pub emit_receipt-returns-in_ok-none-in-Some : goal.emit_receipt-returns-in_ok-none-in-Some
emit_receipt-returns-in_ok-none-in-Some t c =
    let of = Receiving (identifier c.args.channel.now) (reference c.args.target.now) in
    received_else c.args.slots.now c.args.words.now (ap of (ap otherwise c.in-Some.is)) c.channel_of-number.ensures
    (c.in_ok-put.ensures refl) c.in_ok-absent-in-Some.ensures
    c.in_ok-emit_taking-in-Some.ensures c.in_ok-none-in-Some.ensures c.patch.ensures

pub emit_loop-returns : goal.emit_loop-returns
emit_loop-returns t c =
    looped c.args.slots.now c.args.words.now refl c.in_ok-start.ensures c.in_ok-over.ensures c.in_ok-emit_body.ensures
    (c.in_ok-put.ensures refl) c.in_ok-end.ensures c.patch.ensures

pub emit_recovery-returns : goal.emit_recovery-returns
emit_recovery-returns t c =
    let r : Recovery-F Statement Block Recovery = out-Recovery c.args.recovery.now in
    let addresses = c.in_ok-alternates.alternates.items in
    let entry : Entry =
    record {
      line = r.place.line;
      conversation = c.joined_of.result;
      bound = c.in_ok-bound.bound;
      restart =
          c.in_ok-restart.restart;
      test = c.in_ok-test.test;
      alternates = addresses;
    } in
    let before = output c.put_entry.new.draft in
    let behind = output c.emit_alternates.new.draft in
    let inside : WritesAlternates c.args.slots.now c.args.words.now (alternates_of r.alternates.items) addresses c.in_ok-test.test before behind =
    subst (λ xs. WritesAlternates c.args.slots.now c.args.words.now
    (alternates_of xs) addresses c.in_ok-test.test before behind) c.deref.ensures.value
    (subst
    (λ (n : ℕ). WritesAlternates c.args.slots.now c.args.words.now (alternates_of c.deref.result.now) addresses n before behind)
    (sym c.in_ok-test.ensures) c.in_ok-alternates.ensures) in
    recovered c.args.slots.now c.args.words.now r.number (option_map identifier r.conversation) r.place
    (plain r.test) r.bound (alternates_of r.alternates.items) entry
    (recovery_out c.args.recovery.now)
    refl c.joined_of.ensures c.in_ok-bound.ensures c.in_ok-restart.ensures inside c.in_ok-test.ensures c.in_ok-emit_acceptance.ensures
    c.settle.ensures

pub emit_alternates-returns : goal.emit_alternates-returns
emit_alternates-returns t c =
    let is : alternates_of (drop c.others.other-index (take (length c.args.alternates.now - 1) (drop 1 c.args.alternates.now))) ≡ NoAlternate =
    grind (arith, common_steps) in
    alternates_end c.args.slots.now c.args.words.now _ c.in_ok-test.test c.others.addresses.items c.others.places.items is c.in_ok-test.ensures
    (c.fill.ensures ∙ ap (λ (hs : List ℕ). filled_with hs (Jump c.in_ok-test.test) (output c.others.draft)) c.deref.ensures.value) c.others.invariant

pub emit_alternates-returns-in_default : goal.emit_alternates-returns-in_default
emit_alternates-returns-in_default t c =
    no_alternate c.args.slots.now c.args.words.now _ _ _
    (ap alternates_of (none_left c.args.alternates.now c.in_default.len_below)) c.new-addresses.ensures.items

pub emit_alternates-others-init : goal.emit_alternates-others-init
emit_alternates-others-init t c =
    alternates_init c.args.slots.now c.args.words.now _ (length c.args.draft.now.instrs.items) _ _
    (ap alternates_of (split c.args.alternates.now c.first-item.result c.in-len1-up.len_at_least c.first-item.is)) refl
    (c.in_ok-emit_alternate.ensures.address
    ∙ ap (λ xs. xs ++ (length c.args.draft.now.instrs.items ∷ [])) c.new-addresses.ensures.items) c.new-places.ensures.items
    c.in_ok-emit_alternate.ensures.code

pub emit_alternates-others-preserved : goal.emit_alternates-others-preserved
emit_alternates-others-preserved t c =
    let others = take (length c.args.alternates.now - 1) (drop 1 c.args.alternates.now) in
    let is : alternates_of (drop c.others.other-index others)
    ≡ Alternate (body c.other-item.result) (alternates_of (drop (c.others.other-index + 1) others)) =
    grind (arith, common_steps) in
    alternates_step c.args.slots.now c.args.words.now _ (length c.leave.new.draft.instrs.items) c.in_ok-place.place _ _ _ _ is c.in_ok-place.ensures
    refl c.in_ok-emit_alternate-2.ensures.code c.in_ok-emit_alternate-2.ensures.address c.in_ok-push.ensures.items c.others.invariant

pub emit_alternate-returns : goal.emit_alternate-returns
emit_alternate-returns t c = record {
  address = last_call c.emit_body.result c.emit_body.ensures (λ _.
      c.in_ok-push.ensures.items ∙ ap (λ (start : ℕ). c.args.addresses.now.items ++ (start ∷ [])) c.in_ok-start.ensures);
  code = c.emit_body.ensures;
}
