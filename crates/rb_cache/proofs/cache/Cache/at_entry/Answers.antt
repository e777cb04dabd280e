use Rattle.std.proofs.lemmas.Grind.{common_steps}
use Rattle.std.proofs.Common.{◌≡◌, ◌<◌, ℕ, ℤ, pos, List, [], Option, Some, None, map, reverse, drop, length, get_or, w64, rules, sym, ◌∙◌, ap, subst, arith}
use Rattle.std.proofs.lemmas.Int.{to_z-of_z}
use Rattle.rb_cache.specs.declared.entry.Entry.{Entry}
use Rattle.rb_cache.specs.declared.entry.Mark.{Mark}
use Rattle.rb_cache.specs.Undo.{Saved, Region}
use Rattle.rb_cache.specs.Copies.{RecoveryCache, open_levels, restored, copy_at}
use Rattle.rb_cache.specs.Arena.{saved_of, regions_of, last_of, Holds}
use Rattle.rb_cache.specs.Chains.{first_saved, or_value}
use Rattle.rb_cache.proofs.Seen.{seen, length-open_levels, regions_seen}
use Rattle.rb_cache.proofs.Chains.{EntryWord, entry_word, stamp_known}
use Rattle.rb_cache.proofs.cache.Cache.at_entry.Goals as goal

-- the copy's word, from the fields
word_seen : (ws : List ℤ) (k : RecoveryCache) (marks : List Mark) (st : List ℕ) (log : List Entry) (l w level at : ℕ) (m : Mark)
    → seen marks log l w ≡ k
    → Holds (length st) (reverse marks) st log
    → level < length (open_levels k) → m ≡ get_or marks level m → at < length (copy_at ws k level)
    → EntryWord ws (copy_at ws k level) (map saved_of (drop m.first log)) at
word_seen ws k marks st log l w level at m v holds there is within =
    let copy : List Region → List ℤ = λ (rs : List Region). get_or (reverse (restored ws rs)) level [] in
    let lt : level < length marks = omega (arith, there, length-open_levels marks log l w k v) in
    let saved : Mark → List Saved = λ (x : Mark). map saved_of (drop x.first log) in
    let P : List Region → Type 0 = λ (rs : List Region). at < length (copy rs) → EntryWord ws (copy rs) (saved m) at in
    let here : P (regions_of (reverse marks) log) =
    λ h. subst (λ (x : Mark). EntryWord ws (copy (regions_of (reverse marks) log)) (saved x) at) (sym is)
    (entry_word ws marks log level at m holds.cuts lt h) in
    subst P (regions_seen marks log l w k v) here within

pub index-requires : goal.index-requires
index-requires g c =
    let i = c.self.inside in
    omega (arith, c.requires.level, length-open_levels i.marks.items i.arena.items i.levels i.words c.args.self.now c.self.view_is, i.marks.ok.0)

pub first_value-requires-clause-last : goal.first_value-requires-clause-last
first_value-requires-clause-last g c =
    let i = c.self.inside in
    c.stamp_at-last.ensures
    ∙ ap (λ (xs : List ℕ). get_or xs c.args.at 0) c.deref.ensures.value
    ∙ stamp_known (length i.stamps.items) (reverse i.marks.items) i.stamps.items i.arena.items c.args.at c.self.invariant.holds
    ∙ ap (λ (xs : List Entry). last_of xs c.args.at) (sym c.deref-2.ensures.value)

pub read-requires : goal.read-requires
read-requires g c =
    let i = c.self.inside in
    let ws = c.args.cells.now.words in
    let e = word_seen ws c.args.self.now i.marks.items i.stamps.items i.arena.items i.levels i.words c.args.level c.args.at c.index.result.now
    c.self.view_is c.self.invariant.holds c.requires.level c.index.ensures c.requires.at in
    e.within

pub returns-in-Some-clause-word : goal.returns-in-Some-clause-word
returns-in-Some-clause-word g c =
    let i = c.self.inside in
    let ws = c.args.cells.now.words in
    let first = c.index.result.now.first in
    let e = word_seen ws c.args.self.now i.marks.items i.stamps.items i.arena.items i.levels i.words c.args.level c.args.at c.index.result.now
    c.self.view_is c.self.invariant.holds c.requires.level c.index.ensures c.requires.at in
    let r : Some c.in-Some.value ≡ first_saved c.args.at (map saved_of (drop first i.arena.items)) =
    c.in-Some.ensures ∙ ap (λ (xs : List Entry). first_saved c.args.at (map saved_of (drop first xs))) c.deref-2.ensures.value in
    to_z-of_z w64 c.in-Some.value (search rules) ∙ ap (λ (o : Option ℤ). or_value o (get_or ws c.args.at (pos 0))) r ∙ sym e.word

pub returns-in-None-clause-word : goal.returns-in-None-clause-word
returns-in-None-clause-word g c =
    let i = c.self.inside in
    let ws = c.args.cells.now.words in
    let first = c.index.result.now.first in
    let e = word_seen ws c.args.self.now i.marks.items i.stamps.items i.arena.items i.levels i.words c.args.level c.args.at c.index.result.now
    c.self.view_is c.self.invariant.holds c.requires.level c.index.ensures c.requires.at in
    let r : None ≡ first_saved c.args.at (map saved_of (drop first i.arena.items)) =
    c.in-None.ensures ∙ ap (λ (xs : List Entry). first_saved c.args.at (map saved_of (drop first xs))) c.deref-2.ensures.value in
    to_z-of_z w64 c.read.result (search rules) ∙ c.read.ensures.word ∙ ap (λ (o : Option ℤ). or_value o (get_or ws c.args.at (pos 0))) r ∙ sym e.word

pub first_value-requires-clause-before : goal.first_value-requires-clause-before
first_value-requires-clause-before g c = grind (arith, common_steps)
