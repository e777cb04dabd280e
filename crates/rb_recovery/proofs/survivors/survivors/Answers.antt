-- The turns that were reached, from the oldest on, are the survivors.
use Rattle.std.proofs.Common.{ℕ, List, map, reverse, refl, sym, ap, ◌∙◌}
use Rattle.rb_recovery.specs.Parts.{world}
use Rattle.rb_recovery.specs.Survivors.{reached}
use Rattle.rb_recovery.specs.Worlds.{link_of}
use Rattle.rb_recovery.specs.declared.links.Link.{Link}
use Rattle.rb_recovery.proofs.Linking.Reached.{last_of_each, walk_survives}
use Rattle.rb_recovery.proofs.Linking.ReachedLinks.{in_order}
use Rattle.rb_recovery.proofs.survivors.survivors.Goals as goal

pub returns : goal.returns
returns g c =
    let parts = c.args.parts.now in
    let links = c.in-Some.links.now in
    let wanted = c.deref_mut.result.now in
    in_order links wanted c.in_ok-kept.kept.items c.reverse.new.self.items c.in_ok-kept.ensures c.reverse.ensures.items
    ∙ (ap (λ (all : List Link). reverse (reached (reverse (map link_of all)) wanted)) c.in-Some.ensures
    ∙ (ap (λ (turns : List ℕ). reverse (reached (reverse (map link_of parts.links.items)) turns))
    (c.deref_mut.ensures.value ∙ (c.in_ok-wanted.ensures ∙ ap last_of_each c.deref.ensures.value))
    ∙ sym (walk_survives c.requires.0 parts.procs.items (world parts) refl c.requires.1)))
