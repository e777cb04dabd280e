use Rattle.std.proofs.Common.{ℤ, w64, ap, ◌∙◌, [], ◌∷◌, rules}
use Rattle.std.proofs.lemmas.Int.{to_z-of_z}
use Rattle.std.specs.Prelude.{slice_set}
use Rattle.rb_cache.specs.Copies.{change_last, joined}
use Rattle.rb_recoverable.specs.Contents.{Contents}
use Rattle.rb_recoverable.proofs.Tied.{seen_store, tied_store}
use Rattle.rb_recoverable.proofs.recoverable.Recoverable.store.Goals as goal

pub invariant_of-self : goal.invariant_of-self
invariant_of-self g c =
    let stored = c.write.ensures.cells
    ∙ ap
    (λ (v : ℤ). record { words = slice_set c.self.inside.cells.words c.args.at v; limit = c.self.inside.cells.limit })
    (to_z-of_z w64 c.args.value (search rules)) in
    tied_store _ _ _ _ _ _ _ _ _ c.self.invariant c.write.new.self c.write.new.cells c.args.at c.args.value stored c.write.ensures.copies
    c.write.ensures.levels c.requires.some c.write.ensures.fits c.write.ensures.limits

pub returns-clause-word : goal.returns-clause-word
returns-clause-word g c =
    let stored = c.write.ensures.cells
    ∙ ap
    (λ (v : ℤ). record { words = slice_set c.self.inside.cells.words c.args.at v; limit = c.self.inside.cells.limit })
    (to_z-of_z w64 c.args.value (search rules)) in
    seen_store _ _ _ _ _ _ _ _ _ c.self.invariant c.write.new.self c.write.new.cells c.args.at c.args.value stored c.write.ensures.copies
    c.write.ensures.levels
    ∙ ap (λ (r : Contents). record r {
      words = slice_set r.words c.args.at c.args.value;
      touched =
          change_last (joined (c.args.at ∷ [])) r.touched;
    }) c.self.view_is
