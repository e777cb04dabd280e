use Rattle.std.proofs.Common.{◌≡◌, ℕ, ◌+◌, ◌≤◌, ◌<◌, Bool, true, length, btree_set_len, List, [], Vec, Global, get_or, Some, refl, ap, sym, ◌∙◌, subst, arith}
use Rattle.std.specs.Bool.{if◌then◌else◌}
use Rattle.std.proofs.lemmas.Option.{get_or_from_slice_get, slice_get_within}
use Rattle.std.proofs.lemmas.Grind.{common_steps}
use Rattle.rb_domino.specs.declared.state.State.{State}
use Rattle.rb_domino.specs.declared.line.Message.{Message}
use Rattle.rb_domino.specs.declared.line.Line.{Line}
use Rattle.rb_domino.specs.declared.line.Line.TheVariants.{Begin, Take}
use Rattle.rb_domino.specs.Recovery.{first_fall, fall_by, stands, message_at}
use Rattle.rb_domino.specs.History.{IsTakenAt, Story}
use Rattle.rb_domino.specs.Board.{AreSplit, IsOrderly, is_in, left_on, stacks}
use Rattle.rb_domino.proofs.Pending.{is_removed}
use Rattle.rb_domino.proofs.Opening.{message_between, message_known}
use Rattle.rb_domino.proofs.FirstFall.{IsLeast, least_first, line_taken, message_read, pending_first, pending_none, split_without}
use Rattle.rb_domino.proofs.board.Board.next_fall.Goals as goal
use Rattle.rb_domino.proofs.board.Board.next_fall.Goals.{in-Take+else-taken-place, in_default-lines}

-- the receiver of a message that is taken is known
receiver_known : (story : Story) (messages : List Message) (taken m : ℕ) (message : Message) → messages ≡ story.messages → IsOrderly story
    → IsTakenAt story m taken → message ≡ get_or messages m message → (get_or messages m message).receiver < length story.processes
receiver_known story messages taken m message same orderly is read =
    subst (λ (one : Message). one.receiver < length story.processes)
    (sym (message_read story messages taken m message same orderly is read) ∙ read)
    (message_between story m orderly (message_known story m taken orderly is)).receiver

pub returns-then-taken-place-clause-fall : goal.returns-then-taken-place-clause-fall
returns-then-taken-place-clause-fall g c =
    let story = c.args.history.now in
    let holds = c.loop-taken.invariant.holds in
    let left = left_on c.loop-taken.self in
    let pending = c.loop-taken.self.pending in
    let taken = c.in-Some.taken in
    let m = c.in-Take.m in
    let least : IsLeast pending taken = least_first pending c.first.result taken c.in-Some.ensures c.first.ensures.member c.first.ensures.least in
    let is : IsTakenAt story m taken =
    line_taken story left c.lines.result.now taken m (Begin 0) c.lines.ensures.lines (holds.split.sound taken least.here) c.in-Take.is in
    let message : c.index-messages-m.result ≡ message_at story m =
    message_read story c.messages.result.now taken m c.index-messages-m.result c.messages.ensures holds.orderly is c.index-messages-m.is in
    let receiver : (get_or c.messages.result.now m c.index-messages-m.result).receiver ≡ (message_at story m).receiver =
    ap (λ (one : Message). one.receiver) (sym c.index-messages-m.is ∙ message) in
    let behind : taken < (stands left (message_at story m).receiver).place =
    subst (λ (r : ℕ). taken < (stands left r).place) receiver (subst (λ (p : ℕ). taken < p) c.place.ensures c.if-taken-place.true) in
    let fall : first_fall story left ≡ Some (fall_by (message_at story m) m taken) =
    pending_first story left (stacks c.loop-taken.self.sends.items) pending m taken holds.split is least.here least.least behind in
    let same : left_on c.args.self.now ≡ left =
    ap (λ (states : Vec (Vec State Global) Global). stacks states.items) (sym c.loop-taken.invariant.states) in
    let told : Some (record { process = (get_or c.messages.result.now m c.index-messages-m.result).receiver; after = taken; message = Some m })
    ≡ Some (fall_by (message_at story m) m taken) =
    λ i. Some (record { process = receiver i; after = taken; message = Some m }) in
    told ∙ sym fall ∙ ap (first_fall story) (sym same)

pub loop-taken-preserved : goal.loop-taken-preserved
loop-taken-preserved g c =
    let story = c.args.history.now in
    let holds = c.loop-taken.invariant.holds in
    let left = left_on c.loop-taken.self in
    let old = c.loop-taken.self.pending in
    let new = c.remove.new.self in
    let taken = c.in-Some.taken in
    let sends = stacks c.loop-taken.self.sends.items in
    let least : IsLeast old taken = least_first old c.first.result taken c.in-Some.ensures c.first.ensures.member c.first.ensures.least in
    let split : AreSplit story left sends (is_in new) =
    elim c.match-lines-taken.branch [
      | in-Take+else-taken-place w ↦
          let m = w.in-Take.m in
          let is : IsTakenAt story m taken =
          line_taken story left c.lines.result.now taken m (Begin 0) c.lines.ensures.lines (holds.split.sound taken least.here) w.in-Take.is in
          let message : w.index-messages-m.result ≡ message_at story m =
          message_read story w.messages.result.now taken m w.index-messages-m.result w.messages.ensures holds.orderly is w.index-messages-m.is in
          let receiver : (get_or w.messages.result.now m w.index-messages-m.result).receiver ≡ (message_at story m).receiver =
          ap (λ (one : Message). one.receiver) (sym w.index-messages-m.is ∙ message) in
          let up_to : (stands left (message_at story m).receiver).place ≤ taken =
          subst (λ (r : ℕ). (stands left r).place ≤ taken) receiver (subst (λ (p : ℕ). p ≤ taken) w.place.ensures w.if-taken-place.false) in
          split_without story left sends old new m taken holds.split is up_to (is_removed old new taken c.remove.ensures.updates.0)
      | in_default-lines w ↦
          let pends = holds.split.sound taken least.here in
          let there : get_or story.lines taken (Begin 0) ≡ Take pends.message =
          get_or_from_slice_get story.lines taken (Take pends.message) (Begin 0) pends.is_taken in
          let read : get_or c.lines.result.now taken (Begin 0) ≡ Take pends.message =
          ap (λ (ls : List Line). get_or ls taken (Begin 0)) c.lines.ensures.lines ∙ there in
          absurd (w.in_default-lines.not-Take pends.message read)
    ] in
    record {
      states = c.loop-taken.invariant.states;
      holds = record {
        orderly = holds.orderly;
        takes = holds.takes;
        all_takes = holds.all_takes;
        all_states = holds.all_states;
        all_sends = holds.all_sends;
        split = split;
      };
      work = grind (arith, common_steps);
    }

pub returns-clause-fall : goal.returns-clause-fall
returns-clause-fall g c =
    let story = c.args.history.now in
    let holds = c.loop-taken.invariant.holds in
    let left = left_on c.loop-taken.self in
    let none : c.loop-taken.self.pending.keys ≡ [] = grind (arith, common_steps) in
    let same : left_on c.args.self.now ≡ left =
    ap (λ (states : Vec (Vec State Global) Global). stacks states.items) (sym c.loop-taken.invariant.states) in
    sym (pending_none story left (stacks c.loop-taken.self.sends.items) c.loop-taken.self.pending holds.split none) ∙ ap (first_fall story) (sym same)

pub loop-taken-init : goal.loop-taken-init
loop-taken-init g c = record { states = refl; holds = c.requires; work = omega arith }

pub place-requires : goal.place-requires
place-requires g c =
    let story = c.args.history.now in
    let holds = c.loop-taken.invariant.holds in
    let taken = c.in-Some.taken in
    let m = c.in-Take.m in
    let least : IsLeast c.loop-taken.self.pending taken =
    least_first c.loop-taken.self.pending c.first.result taken c.in-Some.ensures c.first.ensures.member c.first.ensures.least in
    let is : IsTakenAt story m taken =
    line_taken story (left_on c.loop-taken.self) c.lines.result.now taken m (Begin 0) c.lines.ensures.lines (holds.split.sound taken least.here) c.in-Take.is in
    let known = receiver_known story c.messages.result.now taken m c.index-messages-m.result c.messages.ensures holds.orderly is c.index-messages-m.is in
    omega (arith, known, holds.all_states)

pub returns-then-taken-place-clause-known : goal.returns-then-taken-place-clause-known
returns-then-taken-place-clause-known g c =
    let story = c.args.history.now in
    let holds = c.loop-taken.invariant.holds in
    let taken = c.in-Some.taken in
    let m = c.in-Take.m in
    let least : IsLeast c.loop-taken.self.pending taken =
    least_first c.loop-taken.self.pending c.first.result taken c.in-Some.ensures c.first.ensures.member c.first.ensures.least in
    let is : IsTakenAt story m taken =
    line_taken story (left_on c.loop-taken.self) c.lines.result.now taken m (Begin 0) c.lines.ensures.lines (holds.split.sound taken least.here) c.in-Take.is in
    receiver_known story c.messages.result.now taken m c.index-messages-m.result c.messages.ensures holds.orderly is c.index-messages-m.is

pub loop-taken-smaller : goal.loop-taken-smaller
loop-taken-smaller g c =
    let pending = c.loop-taken.self.pending in
    let least : IsLeast pending c.in-Some.taken =
    least_first pending c.first.result c.in-Some.taken c.in-Some.ensures c.first.ensures.member c.first.ensures.least in
    let there : c.remove.result ≡ true = c.remove.ensures.test ∙ least.here in
    let fewer : btree_set_len c.remove.new.self + 1 ≡ btree_set_len pending =
    subst (λ (b : Bool). btree_set_len c.remove.new.self + (if b then 1 else 0) ≡ btree_set_len pending) there c.remove.ensures.len in
    omega (arith, fewer)

pub bounds-lines-taken : goal.bounds-lines-taken
bounds-lines-taken g c = grind (arith, common_steps)

pub bounds-messages-m : goal.bounds-messages-m
bounds-messages-m g c = grind (arith, common_steps)

pub bounds-messages-m-in-Take : goal.bounds-messages-m-in-Take
bounds-messages-m-in-Take g c = grind (arith, common_steps)

pub bounds : goal.bounds
bounds g c =
    let pending = c.loop-taken.self.pending in
    let taken = c.in-Some.taken in
    let least : IsLeast pending taken = least_first pending c.first.result taken c.in-Some.ensures c.first.ensures.member c.first.ensures.least in
    let pends = c.loop-taken.invariant.holds.split.sound taken least.here in
    subst (λ (ls : List Line). taken < length ls) (sym c.lines.ensures.lines)
    (slice_get_within c.args.history.now.lines taken (Take pends.message) pends.is_taken)
