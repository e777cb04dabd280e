use Rattle.std.proofs.lemmas.Grind.{common_steps}
use Rattle.std.proofs.Common.{◌≡◌, ◌-◌, ℕ, List, ◌∷◌, refl, reverse, take, length, ◌∙◌, ap, rules, arith}
use Rattle.rb_cache.specs.declared.entry.Mark.{Mark}
use Rattle.rb_cache.specs.Merging.{innermost}
use Rattle.rb_cache.proofs.Merges.{pop_marks, entries_within, accepted_all}
use Rattle.rb_cache.proofs.merge.accept_top.Goals as goal

pub merge-requires-clause-within : goal.merge-requires-clause-within
merge-requires-clause-within c =
    let marks = c.args.marks.now.items in
    let rest = take (length marks - 1) marks in
    let t = c.top_of-top.result in
    let top : t ≡ innermost (reverse marks) = c.top_of-top.ensures ∙ ap (λ (xs : List Mark). innermost (reverse xs)) c.deref.ensures.value in
    let e : reverse marks ≡ t ∷ reverse rest = pop_marks marks rest t c.requires.some top refl in
    entries_within (length c.args.stamps.now.items) t (reverse rest) (reverse marks) c.args.stamps.now.items c.args.arena.now.items e c.requires.holds

pub returns : goal.returns
returns c =
    let marks = c.args.marks.now.items in
    let rest = c.truncate.new.self.items in
    let t = c.top_of-top.result in
    let top : t ≡ innermost (reverse marks) = c.top_of-top.ensures ∙ ap (λ (xs : List Mark). innermost (reverse xs)) c.deref.ensures.value in
    let lower : c.top_of-lower.result ≡ innermost (reverse rest) = c.top_of-lower.ensures
    ∙ ap (λ (xs : List Mark). innermost (reverse xs)) c.deref-2.ensures.value in
    let n : c.len.result ≡ length marks = c.len.ensures ∙ c.args.marks.now.ok.0 in
    let cut : rest ≡ take (length marks - 1) marks = c.truncate.ensures.items ∙ ap (λ (i : ℕ). take (i - 1) marks) n in
    let e : reverse marks ≡ t ∷ reverse rest = pop_marks marks rest t c.requires.some top cut in
    let r =
    accepted_all (length c.args.stamps.now.items) t c.top_of-lower.result (reverse rest)
    (reverse marks) c.args.stamps.now.items c.args.arena.now.items
    (record { stamps = c.merge.new.stamps.items; log = c.merge.new.arena.items }) e lower c.requires.holds c.merge.ensures.merged in
    record {
      holds = r.0;
      regions = r.1;
      len = search rules;
      marks_room = search rules;
      arena_room = search rules;
      stamps_room = search rules;
    }

pub merge-requires-clause-first : goal.merge-requires-clause-first
merge-requires-clause-first c = grind (arith, common_steps)
