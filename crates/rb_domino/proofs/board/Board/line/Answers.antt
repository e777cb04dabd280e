use Rattle.std.proofs.Common.{◌≡◌, ℕ, zero, suc, ◌+◌, ◌<◌, ◌≤◌, List, [], ◌∷◌, ◌++◌, length, slice_index_or, take, Vec, add-one, ap, arith, sym, ◌∙◌}
use Rattle.std.proofs.lemmas.List.{length-map, take_all}
use Rattle.std.specs.declared.alloc.Global.{Global}
use Rattle.rb_domino.specs.Board.{left_on, stack, stacks}
use Rattle.rb_domino.specs.Recovery.{latest, line_of}
use Rattle.rb_domino.specs.declared.state.State.{State}
use Rattle.rb_domino.proofs.board.Board.line.Goals as goal

-- one process more
line_more : (vectors : List (Vec State Global)) (i : ℕ) (vector : Vec State Global) → i < length vectors
    → vector ≡ slice_index_or vectors i vector
    → take (suc i) (line_of (stacks vectors)) ≡ take i (line_of (stacks vectors)) ++ (latest (stack vector.items)).number ∷ []
line_more [] i vector within is = absurd (omega arith)
line_more (v ∷ vs) zero vector within is = ap (λ (u : Vec State Global). (latest (stack u.items)).number ∷ []) (sym is)
line_more (v ∷ vs) (suc i) vector within is = ap (λ (ns : List ℕ). (latest (stack v.items)).number ∷ ns) (line_more vs i vector (omega arith) is)

-- its state was added to the line
line_added : (vectors : List (Vec State Global)) (i : ℕ) (vector : Vec State Global) (states : List State) (state : State) (line added : List ℕ)
    → i < length vectors → vector ≡ slice_index_or vectors i vector → states ≡ vector.items → state ≡ latest (stack states)
    → line ≡ take i (line_of (stacks vectors)) → added ≡ line ++ state.number ∷ [] → added ≡ take (i + 1) (line_of (stacks vectors))
line_added vectors i vector states state line added within is same latest_is so_far more =
    more ∙ ap (λ (ns : List ℕ). ns ++ state.number ∷ []) so_far
    ∙ ap (λ (s : State). take i (line_of (stacks vectors)) ++ s.number ∷ []) (latest_is ∙ ap (λ (xs : List State). latest (stack xs)) same)
    ∙ sym (line_more vectors i vector within is)
    ∙ ap (λ k. take k (line_of (stacks vectors))) (sym (add-one i))

pub loop-states-init : goal.loop-states-init
loop-states-init g c = record {
  line = c.in_ok-line.ensures.items;
  many = c.in_ok-line.ensures.len;
  room = omega (arith, c.in_ok-line.ensures.capacity);
  work = omega arith;
}

pub push_reserved-requires : goal.push_reserved-requires
push_reserved-requires g c =
    omega (arith, c.loop-states.invariant.many, c.loop-states.invariant.room, c.deref-states-items.ensures.len)

pub loop-states-preserved : goal.loop-states-preserved
loop-states-preserved g c =
    let i = c.loop-states.states-index in
    let here = c.states-item.result in
    let same = c.deref-states-items.ensures.value in
    let within : i < length c.args.self.now.states.items = omega (arith, ap length same) in
    let is : here ≡ slice_index_or c.args.self.now.states.items i here = c.states-item.is ∙ ap (λ vs. slice_index_or vs i here) same in
    record {
      line = line_added c.args.self.now.states.items i here c.as_slice.result.now c.latest.result c.loop-states.line.items c.push_reserved.new.self.items
          within is c.as_slice.ensures.value c.latest.ensures c.loop-states.invariant.line c.push_reserved.ensures.items;
      many = omega (arith, c.push_reserved.ensures.len, c.loop-states.invariant.many);
      room = omega (arith, c.push_reserved.ensures.capacity, c.loop-states.invariant.room);
      work = omega (arith, c.tick.ensures, c.loop-states.invariant.work);
    }

pub returns-clause-line : goal.returns-clause-line
returns-clause-line g c =
    let whole : length (line_of (left_on c.args.self.now)) ≤ c.loop-states.states-index =
    omega (
      arith,
      length-map (left_on c.args.self.now) (λ states. (latest states).number),
      length-map c.args.self.now.states.items (λ one. stack one.items),
      c.deref-states-items.ensures.len,
      c.args.self.now.states.ok.0,
    ) in
    c.loop-states.invariant.line ∙ take_all _ _ whole

pub returns-clause-work : goal.returns-clause-work
returns-clause-work g c = omega (arith, c.loop-states.invariant.work, c.deref-states-items.ensures.len)
