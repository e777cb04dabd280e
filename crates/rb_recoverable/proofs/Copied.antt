-- The copy of an open level beside its words, and the open calls by number.
use Rattle.std.proofs.Common.{◌≡◌, ℕ, ◌-◌, ◌<◌, ◌≤◌, ℤ, List, [], ◌++◌, map, length, take, drop, reverse, refl, ap, sym, ◌∙◌, subst, arith, length-drop}
use Rattle.std.specs.Prelude.{get_or, slice_get, Option, Some}
use Rattle.std.proofs.Math.Seq.{drop-append_seam}
use Rattle.std.proofs.lemmas.List.{get_or-reverse, length-map, map-append, reverse-append, take-append-drop}
use Rattle.std.proofs.lemmas.Option.{slice_get-get_or}
use Rattle.rb_world.specs.World.{Level}
use Rattle.rb_cell.specs.Store.{Store}
use Rattle.rb_cache.specs.Copies.{RecoveryCache, copies}
use Rattle.rb_hold.specs.Held.{TwoLists}
use Rattle.rb_code.specs.WordMachine.Turn.{Copy}
use Rattle.rb_code.specs.WordMachine.Workspace.{OpenCall}
use Rattle.rb_recoverable.specs.Contents.{Contents}
use Rattle.rb_recoverable.specs.Inside.{IsTied, call_of, calls_at, calls_of, contents, level_of}
use Rattle.rb_recoverable.specs.Views.{IsCopyOf}
use Rattle.rb_recoverable.specs.declared.level_view.CopyView.{CopyView}
use Rattle.rb_recoverable.specs.declared.recoverable.LevelMark.{LevelMark}
use Rattle.rb_recoverable.specs.declared.recoverable.OpenCall.{OpenCall as Held}
use Rattle.rb_recoverable.proofs.Backs.{pick, pick_map, rise_below}
use Rattle.rb_recoverable.proofs.Looked.{height_is}
use Rattle.rb_recoverable.proofs.Returns.{calls_long}
use Rattle.rb_recoverable.proofs.Tied.{marks_copied, marks_levels}

-- the first calls are those that are open without the newest
newest_first : (calls : List Held) (m : ℕ) → calls_of calls ≡ calls_of (drop m calls) ++ calls_of (take m calls)
newest_first calls m =
    ap calls_of (sym (take-append-drop m calls)) ∙ ap reverse (map-append call_of (take m calls) (drop m calls))
    ∙ reverse-append (map call_of (take m calls)) (map call_of (drop m calls))

without_newest : (calls : List Held) (m : ℕ) → calls_of (take m calls) ≡ drop (length calls - m) (calls_of calls)
without_newest calls m =
    sym (drop-append_seam (calls_of (drop m calls)) (calls_of (take m calls)))
    ∙ ap (λ n. drop n (calls_of (drop m calls) ++ calls_of (take m calls))) (calls_long (drop m calls) ∙ length-drop m calls)
    ∙ ap (λ (cs : List OpenCall). drop (length calls - m) cs) (sym (newest_first calls m))

-- an open call by its number
pub call_there : (calls : List Held) (k : ℕ) (one : Held) → k < length calls → one ≡ get_or calls (length calls - 1 - k) one
    → slice_get (calls_of calls) k ≡ Some (call_of one)
call_there calls k one h is =
    let long = length-map calls call_of in
    let within : length calls - 1 - k < length calls = omega arith in
    slice_get-get_or (calls_of calls) k (call_of one) (omega (arith, calls_long calls))
    ∙ ap (λ (call : OpenCall). Some call)
    (get_or-reverse (map call_of calls) k (call_of one) (omega (arith, long))
    ∙ ap (λ n. get_or (map call_of calls) (n - 1 - k) (call_of one)) long
    ∙ pick_map call_of calls (length calls - 1 - k) one (call_of one) within ∙ ap call_of (sym is))

module _ (clock deadline : ℕ) (store : Store) (cache : RecoveryCache) (calls : List Held) (room : ℕ) (marks : List LevelMark) (marks_room : ℕ) (lines : TwoLists)
    (tied : IsTied clock deadline store cache calls room marks marks_room lines) where
  abbrev pub before : Contents
  before = contents clock store.words cache calls marks lines

  -- the copy of an open level
  module _ (k : ℕ) (open_now : k < length before.levels) (mark : LevelMark) (mark_is : mark ≡ get_or marks k mark) where
    marked : k < length marks
    marked = omega (arith, marks_levels _ _ _ _ _ _ _ _ _ tied)

    pub few_calls : mark.calls ≤ length calls
    few_calls =
        let e = length-map marks calls_at in
        let low = rise_below (map calls_at marks) k (length calls) (let m = marked in omega arith) tied.entries in
        let here = pick_map calls_at marks k mark 0 marked in
        let is = ap calls_at mark_is in
        omega arith

    pub copy_seen : (view : CopyView) → view.at ≡ mark.at → view.height ≡ mark.height → view.newer_calls ≡ length calls - mark.calls
        → IsCopyOf (slice_get before.levels k) before.calls view
    copy_seen view at height newer =
        let copy = get_or (copies store.words cache) k [] in
        let found : slice_get before.levels k ≡ Some (level_of clock mark copy calls) =
        pick clock marks (copies store.words cache) calls k mark marked (marks_copied _ _ _ _ _ _ _ _ _ tied)
        ∙ ap (λ (m : LevelMark). Some (level_of clock m copy calls)) (sym mark_is) in
        subst (λ (o : Option (Level Copy)). IsCopyOf o before.calls view) (sym found) (record {
          at = at;
          height = height ∙ height_is _ _ _ _ _ _ _ _ _ tied k open_now mark mark_is;
          newer = let few = few_calls in omega (arith, newer, calls_long calls);
          calls_then = without_newest calls mark.calls ∙ ap (λ n. drop n (calls_of calls)) (sym newer);
        })
