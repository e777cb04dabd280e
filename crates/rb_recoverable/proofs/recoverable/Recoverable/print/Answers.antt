use Rattle.std.proofs.Common.{◌≡◌, ℤ, [], ◌∷◌, ◌++◌, pos, w64, ap, sym, ◌∙◌, subst, rules}
use Rattle.std.specs.Prelude.{cond, slice_set, vec_capacity}
use Rattle.std.proofs.lemmas.Int.{to_z-of_z}
use Rattle.rb_hold.specs.Held.{TwoLists, held_bytes}
use Rattle.rb_recoverable.specs.Inside.{IsTied}
use Rattle.rb_recoverable.proofs.Fronts.{fronts_more, held_written}
use Rattle.rb_recoverable.proofs.Tied.{tied_written}
use Rattle.rb_recoverable.proofs.recoverable.Recoverable.print.Goals as goal

pub invariant_of-self : goal.invariant_of-self
invariant_of-self g c =
    let i = c.self.inside in
    let t = c.self.invariant in
    let after : TwoLists = record { held = i.hold.held ++ c.args.line.now ∷ []; released = i.hold.released } in
    let hold_is : c.add-fits.new.self ≡ after = c.add-fits.ensures.after ∙ ap (λ b. cond b after i.hold) c.if-fits.true in
    let value : c.from.result ≡ pos (held_bytes after.held) =
    c.from.ensures ∙ ap pos (c.length-length.ensures ∙ ap (λ (two : TwoLists). held_bytes two.held) hold_is) in
    let stored = c.write.ensures.cells
    ∙ ap (λ (v : ℤ). record { words = slice_set i.cells.words 0 v; limit = i.cells.limit })
    (to_z-of_z w64 c.from.result (search rules) ∙ value) in
    subst
    (λ (two : TwoLists). IsTied i.clock i.deadline c.write.new.cells c.write.new.self i.calls.items (vec_capacity i.calls) i.marks.items
    (vec_capacity i.marks) two)
    (sym hold_is)
    (tied_written _ _ _ _ _ _ _ _ _ t c.write.new.self c.write.new.cells 0
    (pos (held_bytes after.held)) stored c.write.ensures.copies c.write.ensures.levels
    after (held_written i.cells.words (pos (held_bytes after.held)) t.some)
    (fronts_more i.hold.held (c.args.line.now ∷ []) _ t.fronts) c.write.ensures.fits c.write.ensures.limits)
