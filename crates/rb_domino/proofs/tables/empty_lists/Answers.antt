use Rattle.std.proofs.Common.{◌≡◌, ℕ, ◌+◌, ◌∷◌, ◌++◌, [], List, Vec, replicate, ap, ◌∙◌, arith}
use Rattle.std.proofs.lemmas.List.{map-append, replicate_more}
use Rattle.rb_domino.specs.Board.{stack, stacks}
use Rattle.rb_domino.proofs.tables.empty_lists.Goals as goal

-- an empty list more
stacks_empty : {X A : Type 0} (vectors more : List (Vec X A)) (vector : Vec X A) (n : ℕ) → stacks vectors ≡ replicate n []
    → more ≡ vectors ++ vector ∷ [] → vector.items ≡ [] → stacks more ≡ replicate (n + 1) []
stacks_empty {X} vectors more vector n so_far is empty =
    ap stacks is ∙ map-append (λ v. stack v.items) vectors (vector ∷ [])
    ∙ ap (λ (lists : List (List X)). lists ++ stack vector.items ∷ []) so_far
    ∙ ap (λ (xs : List X). replicate n [] ++ stack xs ∷ []) empty ∙ replicate_more n []

pub loop-made-init : goal.loop-made-init
loop-made-init g c = record {
  lists = ap stacks c.in_ok-lists.ensures.items;
  many = c.in_ok-lists.ensures.len;
  room = c.in_ok-lists.ensures.capacity;
  work = omega arith;
}

pub push_reserved-requires : goal.push_reserved-requires
push_reserved-requires g c = omega (arith, c.loop-made.invariant.many, c.loop-made.invariant.room)

pub loop-made-preserved : goal.loop-made-preserved
loop-made-preserved g c = record {
  lists = stacks_empty c.loop-made.lists.items c.push_reserved.new.self.items c.new.result c.loop-made._made c.loop-made.invariant.lists
      c.push_reserved.ensures.items c.new.ensures.items;
  many = omega (arith, c.push_reserved.ensures.len, c.loop-made.invariant.many);
  room = omega (arith, c.push_reserved.ensures.capacity, c.loop-made.invariant.room);
  work = omega (arith, c.tick.ensures, c.loop-made.invariant.work);
}

pub returns-clause-lists : goal.returns-clause-lists
returns-clause-lists g c = let all : c.loop-made._made ≡ c.args.n = omega arith in c.loop-made.invariant.lists ∙ ap (λ k. replicate k []) all

pub returns-clause-work : goal.returns-clause-work
returns-clause-work g c = omega (arith, c.loop-made.invariant.work)
