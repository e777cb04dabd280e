-- What is looked up among open levels, by their marks.
use Rattle.std.proofs.Common.{◌≡◌, ℕ, zero, suc, ◌+◌, ◌-◌, ◌<◌, ◌≤◌, ℤ, Bool, not, cond, pos, List, [], ◌∷◌, map, length, take, drop, refl, ap, sym, ◌∙◌, subst, arith}
use Rattle.std.specs.Prelude.{get_or, nat_lt, position, slice_get, Some, None}
use Rattle.std.specs.List.{AllByRecursion, position_or_len}
use Rattle.std.specs.Option.{is_none}
use Rattle.std.proofs.lemmas.List.{get_or-drop, get_or-take, length-map, length-take}
use Rattle.std.proofs.lemmas.Option.{slice_get-get_or}
use Rattle.rb_world.specs.Standing.{Each}
use Rattle.rb_world.specs.Turn.{is_last_of, is_over, one_used}
use Rattle.rb_world.specs.World.{Level, copy_of, is_of, last_of}
use Rattle.rb_cell.specs.Store.{Store}
use Rattle.rb_cache.specs.Copies.{RecoveryCache, copies, copy_at, open_levels}
use Rattle.rb_hold.specs.Held.{TwoLists}
use Rattle.rb_code.specs.Instructions.Plain.{Code}
use Rattle.rb_code.specs.WordMachine.Workspace.{word_at}
use Rattle.rb_code.specs.WordMachine.Turn.{Copy, prior_words}
use Rattle.rb_code.specs.WordMachine.WordKind.{cursor_in}
use Rattle.rb_recoverable.specs.Contents.{Contents}
use Rattle.rb_recoverable.specs.Inside.{HasBegun, IsTied, Rise, calls_at, contents, height_at, level_of, levels_of}
use Rattle.rb_recoverable.specs.Marks.{earlier, is_last_mark_in, is_mark_in, is_mark_over}
use Rattle.rb_recoverable.specs.Views.{CursorThen}
use Rattle.rb_recoverable.specs.declared.recoverable.LevelMark.{LevelMark}
use Rattle.rb_recoverable.specs.declared.recoverable.OpenCall.{OpenCall as Held}
use Rattle.rb_recoverable.proofs.Backs.{pick_map}
use Rattle.rb_recoverable.proofs.Counted.{none_over}
use Rattle.rb_recoverable.proofs.Timed.{timed_earlier, timed_tick}
use Rattle.rb_recoverable.proofs.Levels.{levels_long, word_is}
use Rattle.rb_recoverable.proofs.Tied.{marks_copied, marks_levels, marks_open}

-- a mark that did not begin with the clock
abbrev pub IsLater : LevelMark → Type 0
IsLater mark = 0 < mark.since

-- a word of those that stand between two places
pub word_there : (words : List ℤ) (m n at : ℕ) → at < length (take n (drop m words))
    → slice_get (take n (drop m words)) at ≡ Some (word_at words (m + at))
word_there words m n at h =
    let within : at < n = omega (arith, length-take n (drop m words)) in
    slice_get-get_or (take n (drop m words)) at (pos 0) h
    ∙ ap (λ (w : ℤ). Some w) (get_or-take n (drop m words) at (pos 0) within ∙ get_or-drop m words at (pos 0) ∙ word_is words (m + at))

-- there is no word beyond the last
pub word_beyond : (words : List ℤ) (at : ℕ) → length words ≤ at → pos 0 ≡ word_at words at
word_beyond [] at h = refl
word_beyond (w ∷ words) zero h = absurd (omega arith)
word_beyond (w ∷ words) (suc at) h = word_beyond words at (omega arith)

-- a cursor in the copy of an open level
pub cursor_there : (c : Code) (p channel n : ℕ) (levels : List (Level Copy)) (k : ℕ) → k < length levels
    → n ≡ cursor_in c p (prior_words (copy_of (slice_get levels k))) channel → CursorThen c p channel (slice_get levels k) n
cursor_there c p channel n [] k h e = absurd (omega arith)
cursor_there c p channel n (level ∷ levels) zero h e = e
cursor_there c p channel n (level ∷ levels) (suc k) h e = cursor_there c p channel n levels k (omega arith) e

-- the last of a list, by its place
pub last_there : {A : Type 0} (xs : List A) → slice_get xs (length xs - 1) ≡ last_of xs
last_there [] = refl
last_there (x ∷ []) = refl
last_there (x ∷ y ∷ ys) =
    let k : length (x ∷ y ∷ ys) - 1 ≡ suc (length (y ∷ ys) - 1) = omega arith in
    ap (slice_get (x ∷ y ∷ ys)) k ∙ last_there (y ∷ ys)

-- what passes a test among levels passes it among their marks, where the test asks what a mark tells
module _ (clock : ℕ) (p : Level Copy → Bool) (q : LevelMark → Bool)
    (alike : (m : LevelMark) (words : List ℤ) (calls : List Held) → p (level_of clock m words calls) ≡ q m) where
  place_is : (marks : List LevelMark) (copied : List (List ℤ)) (calls : List Held) → length marks ≡ length copied
      → position_or_len p (levels_of clock marks copied calls) ≡ position_or_len q marks
  place_is [] copied calls e = refl
  place_is (m ∷ marks) [] calls e = absurd (omega arith)
  place_is (m ∷ marks) (ws ∷ copied) calls e =
      ap (λ b. cond (not b) (1 + position_or_len p (levels_of clock marks copied calls)) 0) (alike m ws calls)
      ∙ ap (λ n. cond (not (q m)) (1 + n) 0) (place_is marks copied calls (omega arith))

  pub first_is : (marks : List LevelMark) (copied : List (List ℤ)) (calls : List Held) → length marks ≡ length copied
      → position p (levels_of clock marks copied calls) ≡ position q marks
  first_is marks copied calls e =
      ap (λ n. cond (nat_lt n (length (levels_of clock marks copied calls))) (Some n) None) (place_is marks copied calls e)
      ∙ ap (λ k. cond (nat_lt (position_or_len q marks) k) (Some (position_or_len q marks)) None) (levels_long clock marks copied calls e)

-- the innermost level of a conversation
pub last_in : (clock c : ℕ) (marks : List LevelMark) (copied : List (List ℤ)) (calls : List Held) → length marks ≡ length copied
    → is_last_mark_in c (last_of marks) ≡ is_last_of c (last_of (levels_of clock marks copied calls))
last_in clock c [] copied calls e = refl
last_in clock c (m ∷ marks) [] calls e = absurd (omega arith)
last_in clock c (m ∷ []) (ws ∷ []) calls e = refl
last_in clock c (m ∷ []) (ws ∷ vs ∷ copied) calls e = absurd (omega arith)
last_in clock c (m ∷ n ∷ marks) (ws ∷ []) calls e = absurd (omega arith)
last_in clock c (m ∷ n ∷ marks) (ws ∷ vs ∷ copied) calls e = last_in clock c (n ∷ marks) (vs ∷ copied) calls (omega arith)

-- each level has used one turn more where the clock goes on
clock_used : (clock : ℕ) (marks : List LevelMark) (copied : List (List ℤ)) (calls : List Held) → AllByRecursion (HasBegun clock) marks
    → levels_of (clock + 1) marks copied calls ≡ map one_used (levels_of clock marks copied calls)
clock_used clock [] copied calls begun = refl
clock_used clock (m ∷ marks) [] calls begun = refl
clock_used clock (m ∷ marks) (ws ∷ copied) calls begun =
    let more : (clock + 1) - m.since ≡ (clock - m.since) + 1 = let h = begun.0 in omega arith in
    ap (λ n. record (level_of clock m ws calls) { used = n } ∷ levels_of (clock + 1) marks copied calls) more
    ∙ ap (λ (ls : List (Level Copy)). one_used (level_of clock m ws calls) ∷ ls) (clock_used clock marks copied calls begun.1)

-- or where each mark began one turn earlier
earlier_used : (clock : ℕ) (marks : List LevelMark) (copied : List (List ℤ)) (calls : List Held) → AllByRecursion (HasBegun clock) marks
    → AllByRecursion IsLater marks → levels_of clock (map earlier marks) copied calls ≡ map one_used (levels_of clock marks copied calls)
earlier_used clock [] copied calls begun later = refl
earlier_used clock (m ∷ marks) [] calls begun later = refl
earlier_used clock (m ∷ marks) (ws ∷ copied) calls begun later =
    let more : clock - (m.since - 1) ≡ (clock - m.since) + 1 = let h = begun.0 in let l = later.0 in omega arith in
    ap (λ n. record (level_of clock m ws calls) { used = n } ∷ levels_of clock (map earlier marks) copied calls) more
    ∙ ap (λ (ls : List (Level Copy)). one_used (level_of clock m ws calls) ∷ ls) (earlier_used clock marks copied calls begun.1 later.1)

calls_earlier : (marks : List LevelMark) → map calls_at (map earlier marks) ≡ map calls_at marks
calls_earlier [] = refl
calls_earlier (m ∷ marks) = ap (λ (ns : List ℕ). m.calls ∷ ns) (calls_earlier marks)

heights_earlier : (marks : List LevelMark) → map height_at (map earlier marks) ≡ map height_at marks
heights_earlier [] = refl
heights_earlier (m ∷ marks) = ap (λ (ns : List ℕ). m.height ∷ ns) (heights_earlier marks)

-- whose level has used fewer turns than the clock counted began later than it
marks_later : (clock : ℕ) (marks : List LevelMark) (copied : List (List ℤ)) (calls : List Held) → length marks ≡ length copied
    → Each (λ _ (level : Level Copy). level.used < clock) (levels_of clock marks copied calls) → AllByRecursion IsLater marks
marks_later clock [] copied calls e few = tt
marks_later clock (m ∷ marks) [] calls e few = absurd (omega arith)
marks_later clock (m ∷ marks) (ws ∷ copied) calls e few = (
  let h = few zero (level_of clock m ws calls) refl in omega arith,
  marks_later clock marks copied calls (omega arith) (λ k level there. few (suc k) level there),
)

-- the copies of levels are those of the cache
copies_there : (clock : ℕ) (marks : List LevelMark) (copied : List (List ℤ)) (calls : List Held) (k : ℕ) → k < length marks → length marks ≡ length copied
    → prior_words (copy_of (slice_get (levels_of clock marks copied calls) k)) ≡ get_or copied k []
copies_there clock [] copied calls k h e = absurd (omega arith)
copies_there clock (m ∷ marks) [] calls k h e = absurd (omega arith)
copies_there clock (m ∷ marks) (ws ∷ copied) calls zero h e = refl
copies_there clock (m ∷ marks) (ws ∷ copied) calls (suc k) h e = copies_there clock marks copied calls k (omega arith) (omega arith)

module _ (clock deadline : ℕ) (store : Store) (cache : RecoveryCache) (calls : List Held) (room : ℕ) (marks : List LevelMark) (marks_room : ℕ) (lines : TwoLists)
    (tied : IsTied clock deadline store cache calls room marks marks_room lines) where
  abbrev pub before : Contents
  before = contents clock store.words cache calls marks lines

  copied_long : length marks ≡ length (copies store.words cache)
  copied_long = marks_copied _ _ _ _ _ _ _ _ _ tied

  pub place_seen : (c : ℕ) → position (is_mark_in c) marks ≡ position (is_of c) before.levels
  place_seen c = sym (first_is clock (is_of c) (is_mark_in c) (λ m words others. refl) marks (copies store.words cache) calls copied_long)

  pub last_seen : (c : ℕ) → is_last_mark_in c (last_of marks) ≡ is_last_of c (last_of before.levels)
  last_seen c = last_in clock c marks (copies store.words cache) calls copied_long

  pub later_seen : Each (λ _ (level : Level Copy). level.used < clock) before.levels → AllByRecursion IsLater marks
  later_seen few = marks_later clock marks (copies store.words cache) calls copied_long few

  -- the clock counts a turn
  pub tied_tick : IsTied (clock + 1) deadline store cache calls room marks marks_room lines
  tied_tick = record {
    limit_is = tied.limit_is;
    few_words = tied.few_words;
    levels_limit = tied.levels_limit;
    words_limit = tied.words_limit;
    few_calls = tied.few_calls;
    many_calls = tied.many_calls;
    few_levels = tied.few_levels;
    many_levels = tied.many_levels;
    levels_are = tied.levels_are;
    fits = tied.fits;
    heights = tied.heights;
    tall = tied.tall;
    entries = tied.entries;
    some = tied.some;
    held = tied.held;
    fronts = tied.fronts;
    bases = tied.bases;
    timed = timed_tick clock deadline marks tied.timed;
  }

  pub seen_tick : contents (clock + 1) store.words cache calls marks lines ≡ record before { levels = map one_used before.levels }
  seen_tick =
      ap (λ (ls : List (Level Copy)). record before { levels = ls }) (clock_used clock marks (copies store.words cache) calls tied.timed.begun)

  -- each level began one turn earlier
  pub tied_earlier : (room_after : ℕ) → marks_room ≤ room_after → IsTied clock 0 store cache calls room (map earlier marks) room_after lines
  tied_earlier room_after much = record {
    limit_is = tied.limit_is;
    few_words = tied.few_words;
    levels_limit = tied.levels_limit;
    words_limit = tied.words_limit;
    few_calls = tied.few_calls;
    many_calls = tied.many_calls;
    few_levels = let few = tied.few_levels in omega (arith, length-map marks earlier);
    many_levels = let many = tied.many_levels in omega arith;
    levels_are = length-map marks earlier ∙ tied.levels_are;
    fits = tied.fits;
    heights = tied.heights;
    tall = heights_earlier marks ∙ tied.tall;
    entries = subst (λ (ns : List ℕ). Rise ns (length calls)) (sym (calls_earlier marks)) tied.entries;
    some = tied.some;
    held = tied.held;
    fronts = tied.fronts;
    bases = tied.bases;
    timed = timed_earlier clock deadline marks tied.timed;
  }

  pub seen_earlier : AllByRecursion IsLater marks
      → contents clock store.words cache calls (map earlier marks) lines ≡ record before { levels = map one_used before.levels }
  seen_earlier later =
      ap (λ (ls : List (Level Copy)). record before { levels = ls })
      (earlier_used clock marks (copies store.words cache) calls tied.timed.begun later)

  -- which level is over its bound
  pub over_seen : position (is_mark_over clock) marks ≡ position is_over before.levels
  over_seen = sym (first_is clock is_over (is_mark_over clock) (λ m words others. refl) marks (copies store.words cache) calls copied_long)

  over_next : position (is_mark_over (clock + 1)) marks ≡ position is_over (map one_used before.levels)
  over_next =
      sym (first_is (clock + 1) is_over (is_mark_over (clock + 1)) (λ m words others. refl) marks (copies store.words cache) calls copied_long)
      ∙ ap (λ (ls : List (Level Copy)). position is_over ls) (clock_used clock marks (copies store.words cache) calls tied.timed.begun)

  pub within_seen : clock < deadline → position is_over (map one_used before.levels) ≡ None
  within_seen h = sym over_next ∙ none_over (clock + 1) deadline marks tied.timed.within (omega arith)

  -- the copy of an open level
  module _ (k : ℕ) (open_now : k < length before.levels) where
    level_marked : k < length marks
    level_marked = omega (arith, marks_levels _ _ _ _ _ _ _ _ _ tied)

    pub level_there : k < length (open_levels cache)
    level_there = let marked = level_marked in omega (arith, marks_open _ _ _ _ _ _ _ _ _ tied)

    pub copy_is : prior_words (copy_of (slice_get before.levels k)) ≡ copy_at store.words cache k
    copy_is = copies_there clock marks (copies store.words cache) calls k level_marked copied_long

    pub height_is : (mark : LevelMark) → mark ≡ get_or marks k mark → mark.height ≡ length (copy_at store.words cache k)
    height_is mark mark_is =
        let copied = copies store.words cache in
        ap height_at mark_is ∙ sym (pick_map height_at marks k mark 0 level_marked) ∙ ap (λ (ns : List ℕ). get_or ns k 0) tied.tall
        ∙ pick_map length copied k [] 0 (let marked = level_marked in omega (arith, copied_long))
