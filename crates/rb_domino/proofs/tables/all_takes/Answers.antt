use Rattle.std.proofs.Common.{◌≡◌, ℕ, ◌<◌, ◌++◌, ◌∷◌, [], List, Option, None, length, vec_len, get_or, replicate, refl, ap, ◌∙◌, sym, subst, arith, ◌-◌, drop, length-take}
use Rattle.std.proofs.lemmas.List.{replicate_more}
use Rattle.rb_domino.specs.declared.line.Line.{Line}
use Rattle.rb_domino.specs.declared.line.Message.{Message}
use Rattle.rb_domino.specs.declared.line.Line.TheVariants.{Begin}
use Rattle.rb_domino.specs.Board.{TakeKnown}
use Rattle.rb_domino.proofs.AllTaken.{Taking, first_take, taking_all, taking_none, taking_step}
use Rattle.rb_domino.proofs.tables.all_takes.Goals as goal

pub loop-made-init : goal.loop-made-init
loop-made-init g c = record {
  takes = c.in_ok-takes.ensures.items;
  many = c.in_ok-takes.ensures.len;
  room = c.in_ok-takes.ensures.capacity;
  work = omega arith;
}

pub push_reserved-requires : goal.push_reserved-requires
push_reserved-requires g c = omega (arith, c.loop-made.invariant.many, c.loop-made.invariant.room)

pub loop-made-preserved : goal.loop-made-preserved
loop-made-preserved g c = record {
  takes = c.push_reserved.ensures.items ∙ ap (λ (ts : List (Option ℕ)). ts ++ None ∷ []) c.loop-made.invariant.takes
      ∙ replicate_more c.loop-made._made None;
  many = omega (arith, c.push_reserved.ensures.len, c.loop-made.invariant.many);
  room = omega (arith, c.push_reserved.ensures.capacity, c.loop-made.invariant.room);
  work = omega (arith, c.tick.ensures, c.loop-made.invariant.work);
}

pub overflow_add-at : goal.overflow_add-at
overflow_add-at g c = omega (arith, c.loop-rest.invariant.taking.all, c.requires.whole.few_lines)

pub loop-rest-init : goal.loop-rest-init
loop-rest-init g c =
    let story = c.args.history.now in
    let same = ap (length {A = Message}) c.messages-messages.ensures in
    let all : c.loop-made._made ≡ length story.messages = omega (arith, same) in
    let none : c.loop-made.takes.items ≡ replicate (length story.messages) None = c.loop-made.invariant.takes ∙ ap (λ n. replicate n None) all in
    record {
      taking = subst (λ (ls : List Line). Taking story 0 ls c.loop-made.takes.items) (sym c.lines-rest.ensures.lines)
          (taking_none story c.loop-made.takes.items none);
      work = omega (arith, all, c.loop-made.invariant.work);
    }

pub note_take-requires : goal.note_take-requires
note_take-requires g c =
    let some : 0 < length c.loop-rest.rest.now = omega arith in
    let counted : length c.loop-rest.takes.items ≡ vec_len c.loop-rest.takes = sym c.loop-rest.takes.ok.0 in
    subst (λ (n : ℕ). TakeKnown n (get_or c.loop-rest.rest.now 0 (Begin 0))) counted
    (first_take c.args.history.now c.loop-rest.at c.loop-rest.rest.now c.loop-rest.takes.items c.requires.orderly some
    c.loop-rest.invariant.taking)

pub loop-rest-preserved : goal.loop-rest-preserved
loop-rest-preserved g c =
    let some : 0 < length c.loop-rest.rest.now = omega arith in
    record {
      taking = taking_step c.args.history.now c.loop-rest.at _ c.loop-rest.rest.now c.loop-rest.takes.items _
          c.requires.orderly refl some c.loop-rest.invariant.taking c.note_take.ensures;
      work = omega (arith, c.tick-in-len1-up.ensures, c.loop-rest.invariant.work);
    }

pub returns-clause-takes : goal.returns-clause-takes
returns-clause-takes g c =
    let none : length c.loop-rest.rest.now ≡ 0 = omega arith in
    taking_all c.args.history.now c.loop-rest.at c.loop-rest.rest.now c.loop-rest.takes.items c.loop-rest.invariant.taking none

pub returns-clause-all : goal.returns-clause-all
returns-clause-all g c = c.loop-rest.takes.ok.0 ∙ c.loop-rest.invariant.taking.counted

pub returns-clause-work : goal.returns-clause-work
returns-clause-work g c = omega (arith, c.loop-rest.invariant.work, c.loop-rest.invariant.taking.all)

pub bounds-rest-0 : goal.bounds-rest-0
bounds-rest-0 g c = c.in-len1-up.len_at_least

pub slice_bounds-after-start : goal.slice_bounds-after-start
slice_bounds-after-start g c = c.in-len1-up.len_at_least

pub slice_bounds-after-count : goal.slice_bounds-after-count
slice_bounds-after-count g c = c.in-len1-up.len_at_least

pub loop-rest-smaller : goal.loop-rest-smaller
loop-rest-smaller g c =
    let rest = c.loop-rest.rest.now in
    omega (arith, length-take (length rest - 1) (drop 1 rest), c.in-len1-up.len_at_least)
