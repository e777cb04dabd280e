use Rattle.std.proofs.Common.{◌≡◌, ℕ, ◌+◌, ◌<◌, ℤ, List, length, take, ap, sym, ◌∙◌, subst, arith, rules}
use Rattle.std.specs.Prelude.{get_or, slice_get, vec_capacity}
use Rattle.rb_cell.specs.Store.{Store}
use Rattle.rb_hold.specs.Held.{IsLengthOf, TwoLists}
use Rattle.rb_recoverable.specs.Contents.{Contents, IsMarkOf, PutBack}
use Rattle.rb_recoverable.specs.Touched.{places_touched}
use Rattle.rb_recoverable.specs.Inside.{IsTied, contents, told}
use Rattle.rb_recoverable.specs.declared.recoverable.LevelMark.{LevelMark}
use Rattle.rb_recoverable.specs.declared.recoverable.OpenCall.{OpenCall as Held}
use Rattle.rb_recoverable.proofs.Backs.{few_bytes, front, front_length, lines_taken, lines_then, mark_of, same_pick, seen_then, tied_then}
use Rattle.rb_recoverable.proofs.Tied.{marks_levels, marks_open}
use Rattle.rb_recoverable.proofs.recoverable.Recoverable.put_back.Goals as goal

pub put_back-requires-clause-level : goal.put_back-requires-clause-level
put_back-requires-clause-level g c =
    let t = c.self.invariant in
    let levels = marks_levels _ _ _ _ _ _ _ _ _ t in
    let long = marks_open _ _ _ _ _ _ _ _ _ t in
    let same = ap (λ (r : Contents). length r.levels) c.self.view_is in
    omega arith

pub index-mark-requires : goal.index-mark-requires
index-mark-requires g c =
    let t = c.self.invariant in
    let levels = marks_levels _ _ _ _ _ _ _ _ _ t in
    let same = ap (λ (r : Contents). length r.levels) c.self.view_is in
    omega arith

pub told-held-requires : goal.told-held-requires
told-held-requires g c =
    let i = c.self.inside in
    let t = c.self.invariant in
    let k = c.args.level in
    let mark = c.index-mark.result.now in
    let levels = marks_levels _ _ _ _ _ _ _ _ _ t in
    let length_is = ap (λ (r : Contents). length r.levels) c.self.view_is in
    let within : k < length i.marks.items = omega arith in
    let mark_is : (m : LevelMark) → get_or i.marks.items k m ≡ mark = λ m. same_pick i.marks.items k m mark within ∙ sym c.index-mark.ensures in
    let words_are = ap (λ (s : Store). s.words) c.put_back.ensures.cells in
    subst (λ (ws : List ℤ). 0 < length ws) (sym words_are) (front _ _ _ _ _ _ _ _ _ t k mark within mark_is).0.some

pub overflow_cast-held : goal.overflow_cast-held
overflow_cast-held g c =
    let i = c.self.inside in
    let t = c.self.invariant in
    let k = c.args.level in
    let mark = c.index-mark.result.now in
    let levels = marks_levels _ _ _ _ _ _ _ _ _ t in
    let length_is = ap (λ (r : Contents). length r.levels) c.self.view_is in
    let within : k < length i.marks.items = omega arith in
    let mark_is : (m : LevelMark) → get_or i.marks.items k m ≡ mark = λ m. same_pick i.marks.items k m mark within ∙ sym c.index-mark.ensures in
    let words_are = ap (λ (s : Store). s.words) c.put_back.ensures.cells in
    let told_is = c.told-held.ensures.told ∙ ap told words_are in
    let few = few_bytes _ _ _ _ _ _ _ _ _ t k mark within mark_is in
    let all = c.length-all.ensures in
    let fits = c.length-all.type_inv in
    omega arith

pub cut_to-requires-clause-prefix : goal.cut_to-requires-clause-prefix
cut_to-requires-clause-prefix g c =
    let i = c.self.inside in
    let t = c.self.invariant in
    let k = c.args.level in
    let mark = c.index-mark.result.now in
    let levels = marks_levels _ _ _ _ _ _ _ _ _ t in
    let length_is = ap (λ (r : Contents). length r.levels) c.self.view_is in
    let within : k < length i.marks.items = omega arith in
    let mark_is : (m : LevelMark) → get_or i.marks.items k m ≡ mark = λ m. same_pick i.marks.items k m mark within ∙ sym c.index-mark.ensures in
    let words_are = ap (λ (s : Store). s.words) c.put_back.ensures.cells in
    let told_is = c.told-held.ensures.told ∙ ap told words_are in (
      length (lines_then _ _ _ _ _ _ _ _ _ t k mark within mark_is),
      subst (λ n. IsLengthOf n (length (lines_then _ _ _ _ _ _ _ _ _ t k mark within mark_is)) i.hold.held) (sym told_is)
          (front_length _ _ _ _ _ _ _ _ _ t k mark within mark_is),
    )

pub invariant_of-self : goal.invariant_of-self
invariant_of-self g c =
    let i = c.self.inside in
    let t = c.self.invariant in
    let k = c.args.level in
    let mark = c.index-mark.result.now in
    let levels = marks_levels _ _ _ _ _ _ _ _ _ t in
    let length_is = ap (λ (r : Contents). length r.levels) c.self.view_is in
    let within : k < length i.marks.items = omega arith in
    let mark_is : (m : LevelMark) → get_or i.marks.items k m ≡ mark = λ m. same_pick i.marks.items k m mark within ∙ sym c.index-mark.ensures in
    let words_are = ap (λ (s : Store). s.words) c.put_back.ensures.cells in
    let told_is = c.told-held.ensures.told ∙ ap told words_are in
    let prefix = subst (λ n. IsLengthOf n (length (lines_then _ _ _ _ _ _ _ _ _ t k mark within mark_is)) i.hold.held)
    (sym told_is) (front_length _ _ _ _ _ _ _ _ _ t k mark within mark_is) in
    let hold_is = c.cut_to.ensures _ prefix
    ∙ ap (λ (held : List (List ℕ)). record { held = held; released = i.hold.released })
    (lines_taken _ _ _ _ _ _ _ _ _ t k mark within mark_is) in
    let tied = tied_then _ _ _ _ _ _ _ _ _ t k mark within mark_is c.put_back.new.cells c.put_back.new.cache c.put_back.ensures.cells c.put_back.ensures.copies
    c.put_back.ensures.levels c.sooner-self-inside.result (vec_capacity c.truncate-2.new.self) (vec_capacity c.truncate.new.self)
    c.sooner-self-inside.ensures.outer c.sooner-self-inside.ensures.own (search rules) (search rules)
    c.put_back.ensures.fits c.put_back.ensures.limits in
    subst
    (λ (cs : List Held). IsTied i.clock c.sooner-self-inside.result c.put_back.new.cells c.put_back.new.cache cs
    (vec_capacity c.truncate-2.new.self) c.truncate.new.self.items
    (vec_capacity c.truncate.new.self) c.cut_to.new.self)
    (sym c.truncate-2.ensures.items)
    (subst
    (λ (ms : List LevelMark). IsTied i.clock c.sooner-self-inside.result c.put_back.new.cells c.put_back.new.cache (take mark.calls i.calls.items)
    (vec_capacity c.truncate-2.new.self) ms (vec_capacity c.truncate.new.self) c.cut_to.new.self)
    (sym c.truncate.ensures.items)
    (subst
    (λ (two : TwoLists). IsTied i.clock c.sooner-self-inside.result c.put_back.new.cells c.put_back.new.cache (take mark.calls i.calls.items)
    (vec_capacity c.truncate-2.new.self) (take (k + 1) i.marks.items) (vec_capacity c.truncate.new.self) two)
    (sym hold_is) tied))

pub returns-clause-back : goal.returns-clause-back
returns-clause-back g c =
    let i = c.self.inside in
    let t = c.self.invariant in
    let k = c.args.level in
    let mark = c.index-mark.result.now in
    let levels = marks_levels _ _ _ _ _ _ _ _ _ t in
    let length_is = ap (λ (r : Contents). length r.levels) c.self.view_is in
    let within : k < length i.marks.items = omega arith in
    let mark_is : (m : LevelMark) → get_or i.marks.items k m ≡ mark = λ m. same_pick i.marks.items k m mark within ∙ sym c.index-mark.ensures in
    let words_are = ap (λ (s : Store). s.words) c.put_back.ensures.cells in
    let told_is = c.told-held.ensures.told ∙ ap told words_are in
    let prefix = subst (λ n. IsLengthOf n (length (lines_then _ _ _ _ _ _ _ _ _ t k mark within mark_is)) i.hold.held)
    (sym told_is) (front_length _ _ _ _ _ _ _ _ _ t k mark within mark_is) in
    let hold_is = c.cut_to.ensures _ prefix
    ∙ ap (λ (held : List (List ℕ)). record { held = held; released = i.hold.released })
    (lines_taken _ _ _ _ _ _ _ _ _ t k mark within mark_is) in
    let seen = seen_then _ _ _ _ _ _ _ _ _ t k mark within mark_is c.put_back.new.cells c.put_back.new.cache c.put_back.ensures.cells c.put_back.ensures.copies
    c.put_back.ensures.levels in
    subst (λ (old : Contents). PutBack k old (slice_get old.levels k)
    (contents i.clock c.put_back.new.cells.words c.put_back.new.cache c.truncate-2.new.self.items c.truncate.new.self.items c.cut_to.new.self)) c.self.view_is
    (subst
    (λ (cs : List Held). PutBack k (contents i.clock i.cells.words i.cache i.calls.items i.marks.items i.hold)
    (slice_get (contents i.clock i.cells.words i.cache i.calls.items i.marks.items i.hold).levels k)
    (contents i.clock c.put_back.new.cells.words c.put_back.new.cache cs c.truncate.new.self.items c.cut_to.new.self))
    (sym c.truncate-2.ensures.items)
    (subst
    (λ (ms : List LevelMark). PutBack k (contents i.clock i.cells.words i.cache i.calls.items i.marks.items i.hold)
    (slice_get (contents i.clock i.cells.words i.cache i.calls.items i.marks.items i.hold).levels k)
    (contents i.clock c.put_back.new.cells.words c.put_back.new.cache (take mark.calls i.calls.items) ms c.cut_to.new.self))
    (sym c.truncate.ensures.items)
    (subst
    (λ (two : TwoLists). PutBack k (contents i.clock i.cells.words i.cache i.calls.items i.marks.items i.hold)
    (slice_get (contents i.clock i.cells.words i.cache i.calls.items i.marks.items i.hold).levels k)
    (contents i.clock c.put_back.new.cells.words c.put_back.new.cache (take mark.calls i.calls.items) (take (k + 1) i.marks.items) two))
    (sym hold_is) seen)))

pub returns-clause-mark : goal.returns-clause-mark
returns-clause-mark g c =
    let i = c.self.inside in
    let t = c.self.invariant in
    let k = c.args.level in
    let mark = c.index-mark.result.now in
    let levels = marks_levels _ _ _ _ _ _ _ _ _ t in
    let length_is = ap (λ (r : Contents). length r.levels) c.self.view_is in
    let within : k < length i.marks.items = omega arith in
    let mark_is : (m : LevelMark) → get_or i.marks.items k m ≡ mark = λ m. same_pick i.marks.items k m mark within ∙ sym c.index-mark.ensures in
    subst (λ (old : Contents). IsMarkOf (slice_get old.levels k) mark) c.self.view_is (mark_of _ _ _ _ _ _ _ _ _ t k mark within mark_is)

pub returns-clause-work : goal.returns-clause-work
returns-clause-work g c =
    let before = ap (λ (r : Contents). places_touched r.touched) c.self.view_is in
    omega (arith, c.put_back.ensures.work, c.told-held.ensures.ticks)
