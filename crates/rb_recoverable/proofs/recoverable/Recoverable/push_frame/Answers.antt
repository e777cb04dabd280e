use Rattle.std.proofs.Common.{◌≡◌, ◌++◌, length, pos, ap, sym, ◌∙◌, subst, arith}
use Rattle.std.specs.Prelude.{replicate}
use Rattle.std.proofs.lemmas.List.{length-replicate}
use Rattle.rb_cell.specs.Store.{Store}
use Rattle.rb_cache.specs.Copies.{Fits, copies}
use Rattle.rb_recoverable.specs.Contents.{Contents}
use Rattle.rb_recoverable.proofs.Tied.{more_keeps, seen_more, tied_more}
use Rattle.rb_recoverable.proofs.recoverable.Recoverable.push_frame.Goals as goal

pub invariant_of-self : goal.invariant_of-self
invariant_of-self g c =
    let same = ap (λ (r : Contents). length r.words) c.self.view_is in
    let k = subst
    (λ (s : Store). (copies s.words c.self.inside.cache ≡ copies c.self.inside.cells.words c.self.inside.cache)
    × Fits s.words c.self.inside.cache)
    (sym c.push_zeros.ensures.words) (more_keeps _ _ _ _ _ _ _ _ _ c.self.invariant (replicate c.args.n (pos 0))) in
    tied_more _ _ _ _ _ _ _ _ _ c.self.invariant c.push_zeros.new.self (replicate c.args.n (pos 0)) c.push_zeros.ensures.words k.0 k.1
    (omega (arith, length-replicate c.args.n (pos 0)))

pub returns-clause-words : goal.returns-clause-words
returns-clause-words g c =
    let same = ap (λ (r : Contents). length r.words) c.self.view_is in
    let k = subst
    (λ (s : Store). (copies s.words c.self.inside.cache ≡ copies c.self.inside.cells.words c.self.inside.cache)
    × Fits s.words c.self.inside.cache)
    (sym c.push_zeros.ensures.words) (more_keeps _ _ _ _ _ _ _ _ _ c.self.invariant (replicate c.args.n (pos 0))) in
    seen_more _ _ _ _ _ _ _ _ _ c.self.invariant c.push_zeros.new.self (replicate c.args.n (pos 0)) c.push_zeros.ensures.words k.0 k.1
    (omega (arith, length-replicate c.args.n (pos 0)))
    ∙ ap (λ (r : Contents). record r { words = r.words ++ replicate c.args.n (pos 0) }) c.self.view_is
