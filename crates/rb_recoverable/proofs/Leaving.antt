-- Levels go on to other alternates, or go; and held lines are released.
use Rattle.std.proofs.Common.{◌≡◌, ℕ, zero, suc, ◌-◌, ◌<◌, ◌≤◌, ◌^◌, ℤ, pos, List, [], ◌∷◌, map, length, reverse, refl, ap, sym, ◌∙◌, subst, arith}
use Rattle.std.specs.Prelude.{get_or, nat_lt, slice_get, slice_set, Some}
use Rattle.std.proofs.lemmas.Bool.{le-ltb, lt-ltb}
use Rattle.std.proofs.lemmas.List.{length-set}
use Rattle.rb_world.specs.Reject.{next_alternate}
use Rattle.rb_world.specs.World.{Level, change_at}
use Rattle.rb_cell.specs.Store.{Store}
use Rattle.rb_cache.specs.Copies.{Fits, Level as Touched, Limits, RecoveryCache, change_last, copies, joined, open_levels}
use Rattle.rb_hold.specs.Held.{TwoLists, held_bytes}
use Rattle.rb_code.specs.WordMachine.Workspace.{held_place, word_at}
use Rattle.rb_code.specs.WordMachine.Turn.{Copy}
use Rattle.rb_recoverable.specs.Contents.{Contents, IsBelowLast, TellsHeld}
use Rattle.rb_recoverable.specs.declared.recoverable.LevelMark.{LevelMark}
use Rattle.rb_recoverable.specs.declared.recoverable.OpenCall.{OpenCall as Held}
use Rattle.rb_recoverable.specs.Inside.{Fronts, IsTied, IsTimed, Rise, calls_at, contents, height_at, level_of, levels_of}
use Rattle.rb_recoverable.proofs.Backs.{pick}
use Rattle.rb_recoverable.proofs.Fronts.{held_cons, held_written}
use Rattle.rb_recoverable.proofs.Timed.{next_of}
use Rattle.rb_recoverable.proofs.Tied.{copies_long, marks_copied, marks_levels, marks_open, open_long, seen_store, tied_written}

pub none_there : {A : Type 0} (xs : List A) → length xs ≡ 0 → xs ≡ []
none_there [] e = refl
none_there (x ∷ xs) e = absurd (omega arith)

levels_set : (clock : ℕ) (marks : List LevelMark) (copied : List (List ℤ)) (calls : List Held) (k : ℕ) (m : LevelMark) → k < length marks
    → get_or marks k m ≡ m → levels_of clock (slice_set marks k (next_of clock m)) copied calls ≡ change_at k next_alternate (levels_of clock marks copied calls)
levels_set clock [] copied calls k m h e = absurd (omega arith)
levels_set clock (n ∷ marks) [] calls zero m h e = refl
levels_set clock (n ∷ marks) [] calls (suc k) m h e = refl
levels_set clock (n ∷ marks) (ws ∷ copied) calls zero m h e =
    ap (λ (x : LevelMark). level_of clock (next_of clock x) ws calls ∷ levels_of clock marks copied calls) (sym e)
    ∙ ap (λ used. record (level_of clock (next_of clock n) ws calls) { used = used } ∷ levels_of clock marks copied calls) (omega arith)
levels_set clock (n ∷ marks) (ws ∷ copied) calls (suc k) m h e =
    ap (λ (ls : List (Level Copy)). level_of clock n ws calls ∷ ls) (levels_set clock marks copied calls k m (omega arith) e)

calls_set : (clock : ℕ) (marks : List LevelMark) (k : ℕ) (m : LevelMark) → k < length marks → get_or marks k m ≡ m
    → map calls_at (slice_set marks k (next_of clock m)) ≡ map calls_at marks
calls_set clock [] k m h e = absurd (omega arith)
calls_set clock (n ∷ marks) zero m h e = ap (λ (x : LevelMark). x.calls ∷ map calls_at marks) (sym e)
calls_set clock (n ∷ marks) (suc k) m h e = ap (λ (ns : List ℕ). n.calls ∷ ns) (calls_set clock marks k m (omega arith) e)

heights_set : (clock : ℕ) (marks : List LevelMark) (k : ℕ) (m : LevelMark) → k < length marks → get_or marks k m ≡ m
    → map height_at (slice_set marks k (next_of clock m)) ≡ map height_at marks
heights_set clock [] k m h e = absurd (omega arith)
heights_set clock (n ∷ marks) zero m h e = ap (λ (x : LevelMark). x.height ∷ map height_at marks) (sym e)
heights_set clock (n ∷ marks) (suc k) m h e = ap (λ (ns : List ℕ). n.height ∷ ns) (heights_set clock marks k m (omega arith) e)

module _ (clock deadline : ℕ) (store : Store) (cache : RecoveryCache) (calls : List Held) (room : ℕ) (marks : List LevelMark) (marks_room : ℕ) (lines : TwoLists)
    (tied : IsTied clock deadline store cache calls room marks marks_room lines) where
  abbrev pub before : Contents
  before = contents clock store.words cache calls marks lines

  module _ (k : ℕ) (m : LevelMark) (within : k < length marks) (e : get_or marks k m ≡ m) where
    pub tied_raise : (later room_after : ℕ) → marks_room ≤ room_after → IsTimed clock later (slice_set marks k (next_of clock m))
        → IsTied clock later store cache calls room (slice_set marks k (next_of clock m)) room_after lines
    tied_raise later room_after much timed = record {
      limit_is = tied.limit_is;
      few_words = tied.few_words;
      levels_limit = tied.levels_limit;
      words_limit = tied.words_limit;
      few_calls = tied.few_calls;
      many_calls = tied.many_calls;
      few_levels = let few = tied.few_levels in omega (arith, length-set marks k (next_of clock m));
      many_levels = let many = tied.many_levels in omega arith;
      levels_are = length-set marks k (next_of clock m) ∙ tied.levels_are;
      fits = tied.fits;
      heights = tied.heights;
      tall = heights_set clock marks k m within e ∙ tied.tall;
      entries = subst (λ (ns : List ℕ). Rise ns (length calls)) (sym (calls_set clock marks k m within e)) tied.entries;
      some = tied.some;
      held = tied.held;
      fronts = tied.fronts;
      bases = tied.bases;
      timed = timed;
    }

    pub seen_raise : contents clock store.words cache calls (slice_set marks k (next_of clock m)) lines
        ≡ record before { levels = change_at k next_alternate before.levels }
    seen_raise = ap (λ (ls : List (Level Copy)). record before { levels = ls }) (levels_set clock marks (copies store.words cache) calls k m within e)

    pub can_rise : IsBelowLast (slice_get before.levels k) → m.alternate < 2 ^ 32 - 1
    can_rise h =
        subst IsBelowLast (pick clock marks (copies store.words cache) calls k m within (marks_copied _ _ _ _ _ _ _ _ _ tied)
        ∙ ap (λ (x : LevelMark). Some (level_of clock x (get_or (copies store.words cache) k []) calls)) e) h

  module _ (after : RecoveryCache) (none : length (open_levels after) ≡ 0) where
    no_copies : copies store.words after ≡ []
    no_copies = none_there (copies store.words after) (copies_long store.words after ∙ sym (open_long after) ∙ none)

    pub tied_forget : (later room_after : ℕ) → marks_room ≤ room_after → Fits store.words after → after.limits ≡ cache.limits
        → IsTied clock later store after calls room [] room_after lines
    tied_forget later room_after much fits limits = record {
      limit_is = tied.limit_is;
      few_words = tied.few_words;
      levels_limit = ap (λ (l : Limits). l.levels) limits ∙ tied.levels_limit;
      words_limit = ap (λ (l : Limits). l.words) limits ∙ tied.words_limit;
      few_calls = tied.few_calls;
      many_calls = tied.many_calls;
      few_levels = omega arith;
      many_levels = let many = tied.many_levels in omega arith;
      levels_are = sym none ∙ open_long after;
      fits = fits;
      heights = subst (λ (cs : List (List ℤ)). Rise (map length cs) (length store.words)) (sym no_copies) tt;
      tall = ap (λ (cs : List (List ℤ)). map length cs) (sym no_copies);
      entries = tt;
      some = tied.some;
      held = tied.held;
      fronts = subst (λ (cs : List (List ℤ)). Fronts lines.held (reverse cs)) (sym no_copies) tt;
      bases = tied.bases;
      timed = record { begun = tt; within = tt; around = tt };
    }

    pub seen_forget : contents clock store.words after calls [] lines ≡ record before { touched = []; levels = [] }
    seen_forget = ap (λ (ts : List Touched). record before { touched = ts; levels = [] }) (none_there (open_levels after) none)

  module _ (none : length before.levels ≡ 0) (later : Store) (after : RecoveryCache)
      (stored : later ≡ record { words = slice_set store.words 0 (pos 0); limit = store.limit })
      (copies_are : copies later.words after ≡ copies store.words cache)
      (open_are : open_levels after ≡ change_last (joined (0 ∷ [])) (open_levels cache)) where
    no_marks : length marks ≡ 0
    no_marks = sym (marks_levels _ _ _ _ _ _ _ _ _ tied) ∙ none

    no_copy : copies store.words cache ≡ []
    no_copy = none_there (copies store.words cache) (sym (marks_copied _ _ _ _ _ _ _ _ _ tied) ∙ no_marks)

    no_open : open_levels cache ≡ []
    no_open = none_there (open_levels cache) (marks_open _ _ _ _ _ _ _ _ _ tied ∙ no_marks)

    pub tied_release : Fits later.words after → after.limits ≡ cache.limits
        → IsTied clock deadline later after calls room marks marks_room (record { held = []; released = lines.held })
    tied_release fits limits =
        tied_written _ _ _ _ _ _ _ _ _ tied after later 0 (pos 0) stored copies_are open_are (record { held = []; released = lines.held })
        (held_written store.words (pos 0) tied.some) (subst (λ (cs : List (List ℤ)). Fronts [] (reverse cs)) (sym no_copy) tt) fits limits

    pub seen_release : contents clock later.words after calls marks (record { held = []; released = lines.held })
        ≡ record before { words = slice_set store.words held_place (pos 0); held = []; waiting = before.held }
    seen_release =
        ap (λ (r : Contents). record r { held = []; waiting = before.held })
        (seen_store _ _ _ _ _ _ _ _ _ tied after later 0 (pos 0) stored copies_are open_are)
        ∙ ap (λ (ts : List Touched). record before {
          words = slice_set store.words held_place (pos 0);
          touched =
              change_last (joined (0 ∷ [])) ts;
          held = [];
          waiting = before.held;
        }) no_open
        ∙ ap
        (λ (ts : List Touched). record before {
          words = slice_set store.words held_place (pos 0);
          touched = ts;
          held =
              [];
          waiting = before.held;
        })
        (sym no_open)

-- where lines are held the held bytes are some, and where none is the held length is 0 as it stands
kept_zero : (words : List ℤ) → 0 < length words → word_at words held_place ≡ pos 0 → slice_set words held_place (pos 0) ≡ words
kept_zero [] some e = absurd (omega arith)
kept_zero (w ∷ words) some e = ap (λ (v : ℤ). v ∷ words) (sym e)

pub holds_is : (n : ℕ) (lines : List (List ℕ)) (words : List ℤ) → n ≡ held_bytes lines → word_at words held_place ≡ pos (held_bytes lines)
    → 0 < length words → TellsHeld (nat_lt 0 n) lines words
holds_is n [] words e held some =
    subst (λ b. TellsHeld b [] words) (sym (le-ltb 0 n (omega arith))) (refl, kept_zero words some held)
holds_is n (line ∷ lines) words e held some =
    subst (λ b. TellsHeld b (line ∷ lines) words) (sym (lt-ltb 0 n (omega (arith, e, held_cons line lines)))) (omega arith)
