use Rattle.std.proofs.Common.{◌≡◌, ◌≤◌, ◌<◌, ℕ, List, ◌∷◌, Some, None, drop, length, slice_get, ap, ◌∙◌, arith, subst, sym}
use Rattle.std.specs.BTreeSet.{BTreeSet}
use Rattle.std.specs.List.{AllByRecursion}
use Rattle.std.proofs.lemmas.Option.{slice_get-get_or}
use Rattle.std.proofs.lemmas.Grind.{common_steps}
use Rattle.rb_domino.specs.Board.{stack, is_in}
use Rattle.rb_domino.specs.Recovery.{message_at}
use Rattle.rb_domino.proofs.Pending.{is_added}
use Rattle.rb_domino.proofs.Stacks.{popped}
use Rattle.rb_domino.proofs.Unsent.{Adds, adds_none, adds_one, unsending_at, unsending_none, unsent_at}
use Rattle.rb_domino.proofs.sends.unsend.Goals as goal
use Rattle.rb_domino.proofs.sends.unsend.Goals.{in-Some-takes+in_ok-insert, in_default-takes}

-- the message on top of the stack
top_of : (slice items : List ℕ) (m : ℕ) → slice ≡ items → stack slice ≡ m ∷ drop 1 (stack slice) → stack items ≡ m ∷ drop 1 (stack items)
top_of slice items m same top = subst (λ (xs : List ℕ). stack xs ≡ m ∷ drop 1 (stack xs)) same top

pub returns-then-messages-m-clause-unsends : goal.returns-then-messages-m-clause-unsends
returns-then-messages-m-clause-unsends g c =
    let story = c.args.history.now in
    let m = c.in-Some.m in
    let left = stack c.loop-m.sends.items in
    let top : left ≡ m ∷ drop 1 left = top_of _ _ _ c.as_slice.ensures.value c.in-Some.ensures in
    let up_to : (message_at story m).sent ≤ c.args.place = grind (arith, common_steps) in
    unsent_at story c.args.takes.now c.args.place m _ left _ _ c.requires.orderly c.loop-m.invariant.unsending top up_to

pub loop-m-preserved : goal.loop-m-preserved
loop-m-preserved g c =
    let story = c.args.history.now in
    let m = c.in-Some.m in
    let left = stack c.loop-m.sends.items in
    let top : left ≡ m ∷ drop 1 left = top_of _ _ _ c.as_slice.ensures.value c.in-Some.ensures in
    let behind : c.args.place < (message_at story m).sent = grind (arith, common_steps) in
    let next : stack c.pop.new.self.items ≡ drop 1 left = grind (arith, common_steps) in
    let inside : m < length story.messages = (subst (AllByRecursion (λ n. n < length story.messages)) top c.loop-m.invariant.unsending.known).0 in
    let within : m < length c.args.takes.now = omega (arith, inside, c.requires.takes) in
    let adds : Adds c.args.takes.now m (is_in c.loop-m.pending) (is_in c.match-takes-m.pending) =
    elim c.match-takes-m.branch [
      | in-Some-takes+in_ok-insert w ↦
          let k = w.in-Some-takes.taken in
          let told : slice_get c.args.takes.now m ≡ Some (Some k) = slice_get-get_or c.args.takes.now m None within ∙ ap Some w.in-Some-takes.is in
          subst (λ (set : BTreeSet ℕ). Adds c.args.takes.now m (is_in c.loop-m.pending) (is_in set)) (sym w.pending-is)
          (adds_one c.args.takes.now m k c.loop-m.pending w.insert.new.self told
          (is_added c.loop-m.pending w.insert.new.self k w.in_ok-insert.ensures.updates.0))
      | in_default-takes w ↦
          let told : slice_get c.args.takes.now m ≡ Some None = slice_get-get_or c.args.takes.now m None within ∙ ap Some w.in_default-takes.is in
          subst (λ (set : BTreeSet ℕ). Adds c.args.takes.now m (is_in c.loop-m.pending) (is_in set)) (sym w.pending-is)
          (adds_none c.args.takes.now m (is_in c.loop-m.pending) told)
    ] in
    record {
      unsending = unsending_at story c.args.takes.now c.args.place m _ left _ _ _ _ c.loop-m.invariant.unsending top next behind adds;
      work = grind (arith, common_steps);
    }

pub loop-m-smaller : goal.loop-m-smaller
loop-m-smaller g c =
    let same = ap length c.as_slice.ensures.value in
    popped c.as_slice.result.now c.in-Some.m c.pop.result _ _ c.in-Some.ensures
    (omega (arith, c.loop-m.sends.ok.0, same)) c.pop.ensures.cases

pub bounds-takes-m : goal.bounds-takes-m
bounds-takes-m g c =
    let top = top_of _ _ _ c.as_slice.ensures.value c.in-Some.ensures in
    let inside = (subst (AllByRecursion (λ n. n < length c.args.history.now.messages)) top c.loop-m.invariant.unsending.known).0 in
    omega (arith, inside, c.requires.takes)

pub bounds : goal.bounds
bounds g c =
    let top = top_of _ _ _ c.as_slice.ensures.value c.in-Some.ensures in
    let inside = (subst (AllByRecursion (λ n. n < length c.args.history.now.messages)) top c.loop-m.invariant.unsending.known).0 in
    omega (arith, inside, c.requires.takes)

pub loop-m-init : goal.loop-m-init
loop-m-init g c = record { unsending = unsending_none _ _ _ _ _ c.requires.falling c.requires.known; work = omega arith }
