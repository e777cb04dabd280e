use Rattle.std.proofs.Common.{◌≡◌, ◌+◌, ◌<◌, ℤ, List, [], length, take, refl, ap, sym, ◌∙◌, arith}
use Rattle.std.proofs.lemmas.List.{take_all}
use Rattle.rb_cell.specs.Store.{Store}
use Rattle.rb_cache.specs.Copies.{Level as Touched, change_last, copies, copy_at, last_copy, last_or, open_levels}
use Rattle.rb_recoverable.proofs.Backs.{clear, last_or-take, length-accepted, length-cleared, out_copies, out_long, out_open}
use Rattle.rb_recoverable.proofs.Tied.{copies_long, open_long}
use Rattle.rb_recoverable.proofs.TouchedPlaces.{back_pays, going_pays}
use Rattle.rb_recoverable.proofs.recoverable.putting_back.put_back.Goals as goal

pub inner-init : goal.inner-init
inner-init g c =
    let ls = open_levels c.args.cache.now in
    let cs = copies c.args.cells.now.words c.args.cache.now in
    let a = open_long c.args.cache.now in
    let b = copies_long c.args.cells.now.words c.args.cache.now in
    record {
      fits = c.requires.fits;
      level = c.requires.level;
      fewer = omega arith;
      levels = sym (take_all (length ls) ls (omega arith));
      copied = sym (take_all (length ls) cs (omega arith));
      limit = refl;
      limits = refl;
      work = omega arith;
    }

pub inner-smaller : goal.inner-smaller
inner-smaller g c =
    let n = length (open_levels c.inner.cache) in
    let long = ap length c.accept.ensures.levels ∙ length-accepted (open_levels c.reject.new.self) in
    let back = ap length c.reject.ensures.levels ∙ length-cleared (open_levels c.inner.cache) in
    let level = c.inner.invariant.level in
    let less : length (open_levels c.accept.new.self) < length (open_levels c.inner.cache) = omega arith in less

pub inner-preserved : goal.inner-preserved
inner-preserved g c =
    let n = length (open_levels c.inner.cache) in
    let first = open_levels c.args.cache.now in
    let all = copies c.args.cells.now.words c.args.cache.now in
    let i = c.inner.invariant in
    let long = out_long first all n c.inner.cells.words c.reject.new.cells.words c.inner.cache c.reject.new.self c.accept.new.self refl i.levels i.copied
    c.reject.ensures.levels c.reject.ensures.copies c.accept.ensures.levels c.accept.ensures.copies in
    let fewer = i.fewer in
    let count = c.levels.ensures.count in
    let test = c.inner-test.true in
    record {
      fits = c.accept.ensures.fits;
      level = omega arith;
      fewer = omega arith;
      levels = out_open first all n c.inner.cells.words c.reject.new.cells.words c.inner.cache c.reject.new.self c.accept.new.self refl i.levels i.copied
          c.reject.ensures.levels c.reject.ensures.copies c.accept.ensures.levels c.accept.ensures.copies;
      copied = out_copies first all n c.inner.cells.words c.reject.new.cells.words c.inner.cache c.reject.new.self c.accept.new.self refl i.levels i.copied
          c.reject.ensures.levels c.reject.ensures.copies c.accept.ensures.levels c.accept.ensures.copies;
      limit = ap (λ (s : Store). s.limit) c.reject.ensures.cells ∙ i.limit;
      limits = c.accept.ensures.limits ∙ c.reject.ensures.limits ∙ i.limits;
      work = omega (
        arith,
        i.work,
        c.reject.ensures.ticks,
        going_pays c.inner.cache c.reject.new.self c.accept.new.self c.reject.ensures.levels c.accept.ensures.levels,
      );
    }

pub returns-clause-cells : goal.returns-clause-cells
returns-clause-cells g c =
    let all = copies c.args.cells.now.words c.args.cache.now in
    let i = c.inner.invariant in
    let level = i.level in
    let test = c.inner-test.false in
    let count = c.levels.ensures.count in
    let n : length (open_levels c.inner.cache) ≡ c.args.level + 1 = omega arith in
    let a = open_long c.args.cache.now in
    let b = copies_long c.args.cells.now.words c.args.cache.now in
    let asked = c.requires.level in
    let last : last_copy c.inner.cells.words c.inner.cache ≡ copy_at c.args.cells.now.words c.args.cache.now c.args.level =
    ap (λ (cs : List (List ℤ)). last_or cs []) (i.copied ∙ ap (λ k. take k all) n) ∙ last_or-take all c.args.level [] (omega arith) in
    c.reject-2.ensures.cells
    ∙ ap (λ (ws : List ℤ). record { words = ws; limit = c.inner.cells.limit }) last
    ∙ ap (λ l. record { words = copy_at c.args.cells.now.words c.args.cache.now c.args.level; limit = l }) i.limit

pub returns-clause-copies : goal.returns-clause-copies
returns-clause-copies g c =
    let all = copies c.args.cells.now.words c.args.cache.now in
    let i = c.inner.invariant in
    let level = i.level in
    let test = c.inner-test.false in
    let count = c.levels.ensures.count in
    let n : length (open_levels c.inner.cache) ≡ c.args.level + 1 = omega arith in
    c.reject-2.ensures.copies ∙ i.copied ∙ ap (λ k. take k all) n

pub returns-clause-levels : goal.returns-clause-levels
returns-clause-levels g c =
    let i = c.inner.invariant in
    let level = i.level in
    let test = c.inner-test.false in
    let count = c.levels.ensures.count in
    let n : length (open_levels c.inner.cache) ≡ c.args.level + 1 = omega arith in
    c.reject-2.ensures.levels ∙ ap (λ (ls : List Touched). change_last clear ls) (i.levels ∙ ap (λ k. take k (open_levels c.args.cache.now)) n)

pub returns-clause-limits : goal.returns-clause-limits
returns-clause-limits g c = c.reject-2.ensures.limits ∙ c.inner.invariant.limits

pub returns-clause-work : goal.returns-clause-work
returns-clause-work g c =
    omega (arith, c.inner.invariant.work, c.reject-2.ensures.ticks, back_pays c.inner.cache c.reject-2.new.self c.reject-2.ensures.levels)
