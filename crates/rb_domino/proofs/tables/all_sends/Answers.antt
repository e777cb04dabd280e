use Rattle.std.proofs.Common.{◌≡◌, ℕ, ◌<◌, ◌++◌, [], ◌∷◌, List, length, get_or, slice_set, replicate, refl, sym, ap, ◌∙◌, subst, arith, ◌-◌, drop, length-take}
use Rattle.std.proofs.lemmas.Grind.{common_steps}
use Rattle.std.proofs.lemmas.List.{get_or_read}
use Rattle.rb_domino.specs.declared.line.Message.{Message}
use Rattle.rb_domino.specs.Recovery.{no_message}
use Rattle.rb_domino.specs.Board.{AreSends, list_at, stack, stacks}
use Rattle.rb_domino.proofs.Orderly.{few_named}
use Rattle.rb_domino.proofs.Stacks.{stack_pushed, stack_read, stacks_set}
use Rattle.rb_domino.proofs.AllSent.{Sending, sending_none, sending_step}
use Rattle.rb_domino.proofs.tables.all_sends.Goals as goal

pub overflow_add-m : goal.overflow_add-m
overflow_add-m g c =
    let few = few_named c.requires.whole.history in
    let all = c.loop-rest.invariant.sending.all in
    omega (arith, few, all, c.requires.whole.few_lines)

pub loop-rest-init : goal.loop-rest-init
loop-rest-init g c =
    let story = c.args.history.now in
    let none : stacks c.in_ok-sends.sends.items ≡ replicate (length story.processes) [] = grind (arith, common_steps) in
    record {
      sending = subst (λ (ms : List Message). Sending story 0 ms (stacks c.in_ok-sends.sends.items)) (sym c.messages-rest.ensures)
          (sending_none story (stacks c.in_ok-sends.sends.items) none c.requires.orderly.messages);
      work = grind (arith, common_steps);
    }

pub index_mut-requires : goal.index_mut-requires
index_mut-requires g c = grind (arith, common_steps)

pub loop-rest-preserved : goal.loop-rest-preserved
loop-rest-preserved g c =
    let some : 0 < length c.loop-rest.rest.now = omega arith in
    let sends = c.loop-rest.sends.items in
    let m = c.loop-rest.m in
    let q = c.message-item.result.sender in
    let within : q < length sends = grind (arith, common_steps) in
    let from : (get_or c.loop-rest.rest.now 0 no_message).sender ≡ q =
    ap (λ (one : Message). one.sender) (sym (get_or_read c.loop-rest.rest.now 0 c.message-item.result some c.message-item.is no_message)) in
    let read : list_at (stacks sends) q ≡ stack c.index_mut.result.now.items =
    stack_read sends q c.index_mut.result.now within c.index_mut.ensures.value in
    let items : c.push.new.self.items ≡ c.index_mut.result.now.items ++ m ∷ [] = grind (arith, common_steps) in
    let pushed : stack c.push.new.self.items ≡ m ∷ list_at (stacks sends) q =
    ap stack items ∙ stack_pushed c.index_mut.result.now.items m ∙ ap (λ (own : List ℕ). m ∷ own) (sym read) in
    let new : stacks (slice_set sends q c.push.new.self) ≡ slice_set (stacks sends) q (m ∷ list_at (stacks sends) q) =
    stacks_set sends q c.push.new.self ∙ ap (slice_set (stacks sends) q) pushed in
    record {
      sending = sending_step c.args.history.now m _ q c.loop-rest.rest.now (stacks sends) _ refl some c.loop-rest.invariant.sending from new;
      work = omega (arith, c.tick.ensures, c.loop-rest.invariant.work);
    }

pub returns-clause-sends : goal.returns-clause-sends
returns-clause-sends g c =
    let all : c.loop-rest.m ≡ length c.args.history.now.messages = let rest = c.loop-rest.invariant.sending.all in omega arith in
    subst (λ (n : ℕ). AreSends c.args.history.now n (stacks c.loop-rest.sends.items)) all c.loop-rest.invariant.sending.sends

pub returns-in_err-push-clause-work : goal.returns-in_err-push-clause-work
returns-in_err-push-clause-work g c =
    omega (arith, c.tick.ensures, c.loop-rest.invariant.work, c.loop-rest.invariant.sending.all, c.in-len1-up.len_at_least)

pub returns-clause-work : goal.returns-clause-work
returns-clause-work g c = omega (arith, c.loop-rest.invariant.work, c.loop-rest.invariant.sending.all)

pub bounds-rest-0 : goal.bounds-rest-0
bounds-rest-0 g c = c.in-len1-up.len_at_least

pub slice_bounds-after-start : goal.slice_bounds-after-start
slice_bounds-after-start g c = c.in-len1-up.len_at_least

pub slice_bounds-after-count : goal.slice_bounds-after-count
slice_bounds-after-count g c = c.in-len1-up.len_at_least

pub loop-rest-smaller : goal.loop-rest-smaller
loop-rest-smaller g c =
    let rest = c.loop-rest.rest.now in
    omega (arith, length-take (length rest - 1) (drop 1 rest), c.in-len1-up.len_at_least)
