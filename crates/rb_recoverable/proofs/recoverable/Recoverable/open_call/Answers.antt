use Rattle.std.proofs.Common.{◌≡◌, ℕ, ℤ, ◌+◌, ◌<◌, List, ◌∷◌, ◌++◌, pos, length, ap, sym, ◌∙◌, subst, arith}
use Rattle.std.specs.Prelude.{replicate, vec_capacity}
use Rattle.std.proofs.lemmas.List.{append_assoc, length-append, length-replicate}
use Rattle.rb_cell.specs.Store.{Store}
use Rattle.rb_cache.specs.Copies.{Fits, copies}
use Rattle.rb_recoverable.specs.Contents.{Contents}
use Rattle.rb_recoverable.specs.Inside.{IsTied, contents}
use Rattle.rb_recoverable.specs.declared.recoverable.OpenCall.{OpenCall as Held}
use Rattle.rb_recoverable.proofs.Returns.{calls_long}
use Rattle.rb_recoverable.proofs.Tied.{more_keeps, seen_called, seen_more, tied_called, tied_more}
use Rattle.rb_recoverable.proofs.recoverable.Recoverable.open_call.Goals as goal

pub invariant_of-self : goal.invariant_of-self
invariant_of-self g c =
    let i = c.self.inside in
    let t = c.self.invariant in
    let more = c.args.arguments.now ++ replicate c.args.zeros (pos 0) in
    let call : Held = record { back = c.args.back; base = c.height-base.result } in
    let stored = c.push_zeros.ensures.words
    ∙ ap (λ (s : Store). record { words = s.words ++ replicate c.args.zeros (pos 0); limit = s.limit }) c.push_words.ensures.words
    ∙ ap (λ (ws : List ℤ). record { words = ws; limit = i.cells.limit })
    (append_assoc i.cells.words c.args.arguments.now (replicate c.args.zeros (pos 0))) in
    let same = ap (λ (r : Contents). length r.words) c.self.view_is in
    let calls_same = ap (λ (r : Contents). length r.calls) c.self.view_is in
    let calls = calls_long i.calls.items in
    let long : length more ≡ length c.args.arguments.now + c.args.zeros =
    omega (arith, length-append c.args.arguments.now (replicate c.args.zeros (pos 0)), length-replicate c.args.zeros (pos 0)) in
    let k = subst (λ (s : Store). (copies s.words i.cache ≡ copies i.cells.words i.cache) × Fits s.words i.cache)
    (sym stored) (more_keeps _ _ _ _ _ _ _ _ _ t more) in
    let tied = tied_more _ _ _ _ _ _ _ _ _ t c.push_zeros.new.self more stored k.0 k.1 (omega arith) in
    let room = c.put.ensures.room in
    let many = t.many_calls in
    let above : 0 < c.height-base.result = let some = t.some in let h = c.height-base.ensures.words in omega arith in
    subst
    (λ (cs : List Held). IsTied i.clock i.deadline c.push_zeros.new.self i.cache cs (vec_capacity c.put.new.items) i.marks.items (vec_capacity i.marks) i.hold)
    (sym c.put.ensures.items)
    (tied_called _ _ _ _ _ _ _ _ _ tied call above (vec_capacity c.put.new.items) (omega arith) (omega arith))

pub returns-clause-call : goal.returns-clause-call
returns-clause-call g c =
    let i = c.self.inside in
    let t = c.self.invariant in
    let more = c.args.arguments.now ++ replicate c.args.zeros (pos 0) in
    let call : Held = record { back = c.args.back; base = c.height-base.result } in
    let stored = c.push_zeros.ensures.words
    ∙ ap (λ (s : Store). record { words = s.words ++ replicate c.args.zeros (pos 0); limit = s.limit }) c.push_words.ensures.words
    ∙ ap (λ (ws : List ℤ). record { words = ws; limit = i.cells.limit })
    (append_assoc i.cells.words c.args.arguments.now (replicate c.args.zeros (pos 0))) in
    let same = ap (λ (r : Contents). length r.words) c.self.view_is in
    let long : length more ≡ length c.args.arguments.now + c.args.zeros =
    omega (arith, length-append c.args.arguments.now (replicate c.args.zeros (pos 0)), length-replicate c.args.zeros (pos 0)) in
    let k = subst (λ (s : Store). (copies s.words i.cache ≡ copies i.cells.words i.cache) × Fits s.words i.cache)
    (sym stored) (more_keeps _ _ _ _ _ _ _ _ _ t more) in
    let tied = tied_more _ _ _ _ _ _ _ _ _ t c.push_zeros.new.self more stored k.0 k.1 (omega arith) in
    let above : 0 < c.height-base.result = let some = t.some in let h = c.height-base.ensures.words in omega arith in
    ap (λ (cs : List Held). contents i.clock c.push_zeros.new.self.words i.cache cs i.marks.items i.hold) c.put.ensures.items
    ∙ seen_called _ _ _ _ _ _ _ _ _ tied call above
    ∙ ap (λ (r : Contents). record r { calls = record { back = c.args.back; base = c.height-base.result } ∷ r.calls })
    (seen_more _ _ _ _ _ _ _ _ _ t c.push_zeros.new.self more stored k.0 k.1 (omega arith))
    ∙ ap (λ (n : ℕ). record
    (contents i.clock i.cells.words i.cache i.calls.items i.marks.items i.hold) {
      words = i.cells.words ++ more;
      calls =
          record { back = c.args.back; base = n }
          ∷ (contents i.clock i.cells.words i.cache i.calls.items i.marks.items i.hold).calls;
    }) c.height-base.ensures.words
    ∙ ap (λ (r : Contents). record r {
      words = r.words ++ more;
      calls =
          record { back = c.args.back; base = length r.words } ∷ r.calls;
    }) c.self.view_is
