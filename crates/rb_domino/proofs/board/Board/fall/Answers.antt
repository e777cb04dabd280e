use Rattle.std.proofs.Common.{◌≡◌, ℕ, ◌<◌, ◌++◌, List, Vec, vec_len, length, map, slice_set, Option, Result, Ok, Err, OnOk, ap, sym, ◌∙◌, subst, arith}
use Rattle.std.proofs.lemmas.List.{length-map}
use Rattle.std.proofs.lemmas.Result.{IfOk-weaker}
use Rattle.std.specs.List.{AllByRecursion}
use Rattle.rb_domino.specs.declared.state.State.{State}
use Rattle.rb_domino.specs.Recovery.{latest, left_to, stands, states_after, states_before}
use Rattle.rb_domino.specs.Board.{AreFalling, AreSplit, Unsends, is_in, list_at, stack, stacks}
use Rattle.rb_domino.proofs.Stacks.{stack_read, stacks_set}
use Rattle.rb_domino.proofs.GivenUp.{dropped_in}
use Rattle.rb_domino.proofs.Work.{in_all_set}
use Rattle.rb_domino.proofs.Falling.{split_fallen, stands_fallen}
use Rattle.rb_domino.proofs.board.Board.fall.Goals as goal

-- a vector of so many has one of each smaller number
item_there : {X A : Type 0} (vector : Vec X A) (n q : ℕ) → q < n → vec_len vector ≡ n → q < length vector.items
item_there vector n q within long = omega (arith, vector.ok.0)

-- what is so whatever comes out
on_ok : {T E : Type 0} (r : Result T E) {P : Type 0} → P → OnOk r P
on_ok (Ok value) so = so
on_ok (Err error) so = tt

pub unsend-requires-clause-falling : goal.unsend-requires-clause-falling
unsend-requires-clause-falling g c =
    let own = c.args.self.now.sends.items in
    let within : c.args.fall.process < length own =
    item_there c.args.self.now.sends _ c.args.fall.process c.requires.known c.requires.holds.all_sends in
    subst AreFalling (stack_read own c.args.fall.process c.index_mut-2.result.now within c.index_mut-2.ensures.value)
    (c.requires.holds.split.falling c.args.fall.process)

pub unsend-requires-clause-known : goal.unsend-requires-clause-known
unsend-requires-clause-known g c =
    let own = c.args.self.now.sends.items in
    let within : c.args.fall.process < length own =
    item_there c.args.self.now.sends _ c.args.fall.process c.requires.known c.requires.holds.all_sends in
    subst (AllByRecursion (λ m. m < length c.args.history.now.messages))
    (stack_read own c.args.fall.process c.index_mut-2.result.now within c.index_mut-2.ensures.value)
    (c.requires.holds.split.known c.args.fall.process)

pub returns-clause-left : goal.returns-clause-left
returns-clause-left g c =
    let states = c.args.self.now.states.items in
    let q = c.args.fall.process in
    let within : q < length states = item_there c.args.self.now.states _ q c.requires.known c.requires.holds.all_states in
    let read : list_at (stacks states) q ≡ stack c.index_mut.result.now.items =
    stack_read states q c.index_mut.result.now within c.index_mut.ensures.value in
    let new = states_before c.args.fall.after (list_at (stacks states) q) in
    let left : stacks (slice_set states q c.give_up.new.states) ≡ slice_set (stacks states) q new =
    stacks_set states q c.give_up.new.states
    ∙ ap (slice_set (stacks states) q) (c.in_ok-give_up.ensures.left ∙ ap (states_before c.args.fall.after) (sym read)) in
    on_ok c.unsend.result left

pub returns-clause-holds : goal.returns-clause-holds
returns-clause-holds g c =
    let story = c.args.history.now in
    let old = c.args.self.now in
    let states = old.states.items in
    let sends = old.sends.items in
    let fall = c.args.fall in
    let q = fall.process in
    let known : q < length states = item_there old.states _ q c.requires.known c.requires.holds.all_states in
    let sending : q < length sends = item_there old.sends _ q c.requires.known c.requires.holds.all_sends in
    let within : q < length (stacks states) = omega (arith, length-map states (λ v. stack v.items)) in
    let within_sends : q < length (stacks sends) = omega (arith, length-map sends (λ v. stack v.items)) in
    let read : list_at (stacks states) q ≡ stack c.index_mut.result.now.items =
    stack_read states q c.index_mut.result.now known c.index_mut.ensures.value in
    let read_sends : list_at (stacks sends) q ≡ stack c.index_mut-2.result.now.items =
    stack_read sends q c.index_mut-2.result.now sending c.index_mut-2.ensures.value in
    let new = states_before fall.after (left_to (stacks states) q) in
    let left : stacks (slice_set states q c.give_up.new.states) ≡ slice_set (stacks states) q new =
    stacks_set states q c.give_up.new.states
    ∙ ap (slice_set (stacks states) q) (c.in_ok-give_up.ensures.left ∙ ap (states_before fall.after) (sym read)) in
    let place : c.place-place.result ≡ (latest new).place =
    c.place-place.ensures ∙ ap (λ (l : List (List State)). (stands l q).place) left
    ∙ ap (λ (s : State). s.place) (stands_fallen (stacks states) q new within) in
    let own = stack c.unsend.new.sends.items in
    let now = is_in c.unsend.new.pending in
    IfOk-weaker c.unsend.result
    (λ _. Unsends story c.as_slice.result.now c.place-place.result (stack c.index_mut-2.result.now.items) own (is_in old.pending) now) _
    (λ _ unsends.
    let by_takes : Unsends story old.takes.items c.place-place.result (stack c.index_mut-2.result.now.items) own (is_in old.pending) now =
    subst (λ (takes : List (Option ℕ)). Unsends story takes c.place-place.result (stack c.index_mut-2.result.now.items) own (is_in old.pending) now)
    c.as_slice.ensures.value unsends in
    let unsent : Unsends story old.takes.items (latest new).place (list_at (stacks sends) q) own (is_in old.pending) now =
    subst (λ (ms : List ℕ). Unsends story old.takes.items (latest new).place ms own (is_in old.pending) now) (sym read_sends)
    (subst (λ (p : ℕ). Unsends story old.takes.items p (stack c.index_mut-2.result.now.items) own (is_in old.pending) now) place by_takes) in
    let split = split_fallen story old.takes.items (stacks states) (stacks sends) (is_in old.pending) now q fall.after
    own within within_sends c.requires.holds.takes c.requires.holds.split unsent in
    record {
      orderly = c.requires.holds.orderly;
      takes = c.requires.holds.takes;
      all_takes = c.requires.holds.all_takes;
      all_states = c.requires.holds.all_states;
      all_sends = c.requires.holds.all_sends;
      split =
          subst (λ (l : List (List State)). AreSplit story l (stacks (slice_set sends q c.unsend.new.sends)) now) (sym left)
          (subst (λ (l : List (List ℕ)). AreSplit story (slice_set (stacks states) q new) l now) (sym (stacks_set sends q c.unsend.new.sends)) split);
    }) c.unsend.ensures.unsends

pub returns-clause-drops : goal.returns-clause-drops
returns-clause-drops g c =
    let states = c.args.self.now.states.items in
    let fall = c.args.fall in
    let known : fall.process < length states = item_there c.args.self.now.states _ fall.process c.requires.known c.requires.holds.all_states in
    let read : list_at (stacks states) fall.process ≡ stack c.index_mut.result.now.items =
    stack_read states fall.process c.index_mut.result.now known c.index_mut.ensures.value in
    on_ok c.unsend.result
    (c.in_ok-give_up.ensures.drops
    ∙ ap (λ (own : List State). c.args.drops.now.items ++ map (dropped_in fall) (states_after fall.after own)) (sym read))

pub returns-in_err-give_up-clause-work : goal.returns-in_err-give_up-clause-work
returns-in_err-give_up-clause-work g c =
    let states = c.args.self.now.states.items in
    let q = c.args.fall.process in
    let within : q < length states = item_there c.args.self.now.states _ q c.requires.known c.requires.holds.all_states in
    omega (
      arith,
      c.give_up.ensures.work,
      in_all_set states q c.index_mut.result.now c.give_up.new.states within c.index_mut.ensures.value,
    )

pub returns-clause-work : goal.returns-clause-work
returns-clause-work g c =
    let states = c.args.self.now.states.items in
    let sends = c.args.self.now.sends.items in
    let q = c.args.fall.process in
    let within : q < length states = item_there c.args.self.now.states _ q c.requires.known c.requires.holds.all_states in
    let sending : q < length sends = item_there c.args.self.now.sends _ q c.requires.known c.requires.holds.all_sends in
    omega (
      arith,
      c.give_up.ensures.work,
      c.unsend.ensures.work,
      in_all_set states q c.index_mut.result.now c.give_up.new.states within c.index_mut.ensures.value,
      in_all_set sends q c.index_mut-2.result.now c.unsend.new.sends sending c.index_mut-2.ensures.value,
    )
