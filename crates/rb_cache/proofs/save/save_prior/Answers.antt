use Rattle.std.proofs.Common.{◌≡◌, ◌-◌, ◌<◌, ℤ, sym, ◌∙◌, ap, reverse, length, arith, pos, w64, to_z, of_z, rules, get_or, refl}
use Rattle.std.proofs.lemmas.List.{get_or_default}
use Rattle.std.proofs.lemmas.Int.{to_z-of_z}
use Rattle.std.proofs.lemmas.Grind.{common_steps}
use Rattle.rb_cache.specs.declared.entry.Entry.{Entry}
use Rattle.rb_cache.specs.declared.entry.Mark.{Mark}
use Rattle.rb_cache.specs.Regions.{recorded}
use Rattle.rb_cache.specs.Arena.{regions_of}
use Rattle.rb_cache.proofs.Stamps.{noted, not_noted}
use Rattle.rb_cache.proofs.Reach.{below_last}
use Rattle.rb_cache.proofs.save.save_prior.Goals as goal
use Rattle.rb_cache.proofs.save.save_prior.Goals.{else-at-top-via-then-at-top+else-index-top, else-at-top-via-else-at-top}

pub note-requires-clause-room : goal.note-requires-clause-room
note-requires-clause-room g c =
    let st = c.args.stamps.now.items in
    let log = c.args.arena.now.items in
    let some : 0 < length c.args.marks.now = grind (arith, common_steps, c.if-is_empty.ensures, c.if-is_empty.false) in
    let none : Mark = record { first = 0; height = 0 } in
    let within = c.requires.within (below_last c.args.marks.now none c.args.at some c.if-at-top.true) in
    let s : get_or st c.args.at 0 ≡ c.index.result.now = get_or_default st c.args.at 0 c.index.result.now within ∙ sym c.index.ensures in
    let entry : Entry = record { place = c.args.at; value = pos 0; earlier = get_or st c.args.at 0 } in
    let n =
    noted c.args.marks.now st log entry none some c.requires.holds within c.if-at-top.true (omega (arith, s, c.if-index-top.true)) refl in
    omega (arith, n.room, c.requires.room, c.args.arena.now.ok.0)

pub returns-then-index-top-clause-holds : goal.returns-then-index-top-clause-holds
returns-then-index-top-clause-holds g c =
    let st = c.args.stamps.now.items in
    let log = c.args.arena.now.items in
    let some : 0 < length c.args.marks.now = grind (arith, common_steps, c.if-is_empty.ensures, c.if-is_empty.false) in
    let none : Mark = record { first = 0; height = 0 } in
    let within = c.requires.within (below_last c.args.marks.now none c.args.at some c.if-at-top.true) in
    let s : get_or st c.args.at 0 ≡ c.index.result.now = get_or_default st c.args.at 0 c.index.result.now within ∙ sym c.index.ensures in
    let entry : Entry = record { place = c.args.at; value = to_z w64 (of_z w64 c.read-value.result); earlier = get_or st c.args.at 0 } in
    let n =
    noted c.args.marks.now st log entry none some c.requires.holds within c.if-at-top.true (omega (arith, s, c.if-index-top.true)) refl in
    rw (c.note.ensures.arena, c.note.ensures.stamps) n.holds

pub returns-then-index-top-clause-regions : goal.returns-then-index-top-clause-regions
returns-then-index-top-clause-regions g c =
    let st = c.args.stamps.now.items in
    let log = c.args.arena.now.items in
    let ws = c.args.cells.now.words in
    let some : 0 < length c.args.marks.now = grind (arith, common_steps, c.if-is_empty.ensures, c.if-is_empty.false) in
    let none : Mark = record { first = 0; height = 0 } in
    let within = c.requires.within (below_last c.args.marks.now none c.args.at some c.if-at-top.true) in
    let s : get_or st c.args.at 0 ≡ c.index.result.now = get_or_default st c.args.at 0 c.index.result.now within ∙ sym c.index.ensures in
    let z : to_z w64 (of_z w64 c.read-value.result) ≡ get_or ws c.args.at (pos 0) = to_z-of_z w64 c.read-value.result (search rules)
    ∙ c.read-value.ensures.word in
    let entry : Entry = record { place = c.args.at; value = to_z w64 (of_z w64 c.read-value.result); earlier = get_or st c.args.at 0 } in
    let n =
    noted c.args.marks.now st log entry none some c.requires.holds within c.if-at-top.true (omega (arith, s, c.if-index-top.true)) refl in
    ap (regions_of (reverse c.args.marks.now)) c.note.ensures.arena ∙ n.regions
    ∙ ap (λ (v : ℤ). recorded c.args.at v (regions_of (reverse c.args.marks.now) log)) z

pub returns-else-at-top-clause-regions : goal.returns-else-at-top-clause-regions
returns-else-at-top-clause-regions g c =
    let st = c.args.stamps.now.items in
    let some : 0 < length c.args.marks.now = grind (arith, common_steps, c.if-is_empty.ensures, c.if-is_empty.false) in
    let none : Mark = record { first = 0; height = 0 } in
    let within : c.args.at < (get_or c.args.marks.now (length c.args.marks.now - 1) none).height → c.args.at < length st =
    λ h. c.requires.within (below_last c.args.marks.now none c.args.at some h) in
    not_noted c.args.marks.now st c.args.arena.now.items c.args.at
    (get_or c.args.cells.now.words c.args.at (pos 0)) none some c.requires.holds
    within
    (λ h. elim c.else-at-top.branch [
      | else-at-top-via-then-at-top+else-index-top w ↦ omega
          (arith, get_or_default st c.args.at 0 w.index.result.now (within h), w.index.ensures, w.if-index-top.false)
      | else-at-top-via-else-at-top w ↦ omega (arith, w.if-at-top.false, h)
    ])

pub returns-then-is_empty-clause-regions : goal.returns-then-is_empty-clause-regions
returns-then-is_empty-clause-regions g c = grind (arith, common_steps)

pub index-requires : goal.index-requires
index-requires g c =
    let some : 0 < length c.args.marks.now = grind (arith, common_steps, c.if-is_empty.ensures, c.if-is_empty.false) in
    let none : Mark = record { first = 0; height = 0 } in
    let within = c.requires.within (below_last c.args.marks.now none c.args.at some c.if-at-top.true) in
    omega (arith, within)

pub note-requires-clause-within : goal.note-requires-clause-within
note-requires-clause-within g c =
    let some : 0 < length c.args.marks.now = grind (arith, common_steps, c.if-is_empty.ensures, c.if-is_empty.false) in
    let none : Mark = record { first = 0; height = 0 } in
    c.requires.within (below_last c.args.marks.now none c.args.at some c.if-at-top.true)
