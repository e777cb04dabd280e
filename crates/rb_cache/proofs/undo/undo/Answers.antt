use Rattle.std.proofs.lemmas.Grind.{common_steps}
use Rattle.std.proofs.Common.{◌≡◌, ◌+◌, ◌≤◌, ◌++◌, ◌∷◌, [], List, ℕ, ℤ, sym, ◌∙◌, ap, length, map, subst, arith, w64, to_z, of_z, rules, take, drop, set, ◌<◌}
use Rattle.std.proofs.lemmas.List.{length_push, take-take, take-append-le, take_all, length-set}
use Rattle.std.proofs.lemmas.Int.{to_z-of_z}
use Rattle.std.specs.List.{AllByRecursion}
use Rattle.rb_cell.specs.Store.{Store}
use Rattle.rb_cache.specs.declared.entry.Entry.{Entry}
use Rattle.rb_cache.specs.Undo.{Saved, put_back}
use Rattle.rb_cache.specs.Arena.{saved_of, WellStamped}
use Rattle.rb_cache.proofs.Stamps.{popped_all, popped_words, WellStamped-pop}
use Rattle.rb_cache.proofs.undo.undo.Goals as goal

front_of : (all now log : List Entry) (e : Entry) → take (length now) all ≡ now → now ≡ log ++ e ∷ [] → take (length log) all ≡ log
front_of all now log e f it =
    let n : length now ≡ length log + 1 = ap length it ∙ length_push log e in
    sym (take-take (length log) (length now) all (omega arith))
    ∙ ap (take (length log)) (f ∙ it)
    ∙ take-append-le (length log) log (e ∷ []) (omega arith)
    ∙ take_all (length log) log (omega arith)

pub index_mut-requires : goal.index_mut-requires
index_mut-requires g c =
    let log = c.pop.new.self.items in
    let e = c.in-Some.entry in
    let it : c.loop-arena.arena.items ≡ log ++ e ∷ [] = c.in-Some.ensures.items in
    let n : length c.loop-arena.arena.items ≡ length log + 1 = ap length it ∙ length_push log e in
    let le : c.args.first ≤ length log = omega (arith, n, c.loop-arena-test.true, c.len.ensures, c.loop-arena.arena.ok.0) in
    let P = λ (o : Saved). o.place < length c.loop-arena.stamps.items in
    let h =
    popped_all P c.args.first log e le
    (subst (λ (xs : List Entry). AllByRecursion P (map saved_of (drop c.args.first xs))) it c.loop-arena.invariant.below) in
    omega (arith, h.1, c.loop-arena.stamps.ok.0)

pub write-requires : goal.write-requires
write-requires g c =
    let log = c.pop.new.self.items in
    let e = c.in-Some.entry in
    let it : c.loop-arena.arena.items ≡ log ++ e ∷ [] = c.in-Some.ensures.items in
    let n : length c.loop-arena.arena.items ≡ length log + 1 = ap length it ∙ length_push log e in
    let le : c.args.first ≤ length log = omega (arith, n, c.loop-arena-test.true, c.len.ensures, c.loop-arena.arena.ok.0) in
    let P = λ (o : Saved). o.place < length c.loop-arena.cells.words in
    (popped_all P c.args.first log e le
    (subst (λ (xs : List Entry). AllByRecursion P (map saved_of (drop c.args.first xs))) it c.loop-arena.invariant.within)).1

pub loop-arena-preserved : goal.loop-arena-preserved
loop-arena-preserved g c =
    let inv = c.loop-arena.invariant in
    let log = c.pop.new.self.items in
    let e = c.in-Some.entry in
    let it : c.loop-arena.arena.items ≡ log ++ e ∷ [] = c.in-Some.ensures.items in
    let n : length c.loop-arena.arena.items ≡ length log + 1 = ap length it ∙ length_push log e in
    let le : c.args.first ≤ length log = omega (arith, n, c.loop-arena-test.true, c.len.ensures, c.loop-arena.arena.ok.0) in
    let P = λ (o : Saved). o.place < length c.loop-arena.stamps.items in
    let a = popped_all P c.args.first log e le (subst (λ (xs : List Entry). AllByRecursion P (map saved_of (drop c.args.first xs))) it inv.below) in
    let Q = λ (o : Saved). o.place < length c.loop-arena.cells.words in
    let b = popped_all Q c.args.first log e le (subst (λ (xs : List Entry). AllByRecursion Q (map saved_of (drop c.args.first xs))) it inv.within) in
    let st = c.loop-arena.stamps.items in
    let ws = c.loop-arena.cells.words in
    let rest = map saved_of (drop c.args.first log) in
    record {
      first = le;
      front = front_of c.args.arena.now.items c.loop-arena.arena.items log e inv.front it;
      room = c.pop.ensures.capacity ∙ inv.room;
      stamps_room = inv.stamps_room;
      size = length-set st e.place e.earlier ∙ inv.size;
      stamped = WellStamped-pop st log e (subst (λ (xs : List Entry). WellStamped st xs) it inv.stamped) a.1;
      below = subst (λ (k : ℕ). AllByRecursion (λ (o : Saved). o.place < k) (map saved_of (drop c.args.first log)))
          (sym (length-set st e.place e.earlier)) a.0;
      within = subst (λ (s : Store). AllByRecursion (λ (o : Saved). o.place < length s.words) rest) (sym c.write.ensures.words)
          (subst (λ (k : ℕ). AllByRecursion (λ (o : Saved). o.place < k) rest) (sym (length-set ws e.place (to_z w64 (of_z w64 e.value)))) b.0);
      words = ap (λ (s : Store). put_back s.words rest) c.write.ensures.words
          ∙ ap (λ (v : ℤ). put_back (set ws e.place v) rest) (to_z-of_z w64 e.value (search rules))
          ∙ sym (popped_words ws c.args.first log e le)
          ∙ ap (λ (xs : List Entry). put_back ws (map saved_of (drop c.args.first xs))) (sym it)
          ∙ inv.words;
      limit = ap (λ (s : Store). s.limit) c.write.ensures.words ∙ inv.limit;
      ticks = omega (arith, c.write.ensures.ticks, inv.ticks, n);
    }

pub loop-arena-init : goal.loop-arena-init
loop-arena-init g c = grind (arith, common_steps)

pub returns-clause-cells : goal.returns-clause-cells
returns-clause-cells g c = grind (arith, common_steps)

pub returns-clause-stamped : goal.returns-clause-stamped
returns-clause-stamped g c = grind (arith, common_steps)
