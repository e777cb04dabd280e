-- What ties the parts of a process stays through each change of them, and what each change is for contracts.
use Rattle.std.proofs.Common.{◌≡◌, ℕ, ◌+◌, ◌-◌, ◌<◌, ◌≤◌, ℤ, pos, List, [], ◌∷◌, ◌++◌, map, length, take, reverse, replicate, refl, ap, sym, ◌∙◌, subst, arith}
use Rattle.std.specs.Prelude.{get_or, slice_set}
use Rattle.std.specs.List.{AllByRecursion}
use Rattle.std.proofs.lemmas.List.{length-append, length-reverse, length-take-le, length-replicate, length-set, map-append, reverse-append, take_all, take-append-le}
use Rattle.std.specs.List.{take-map}
use Rattle.rb_base.specs.declared.limits.TheConstants.{MOST_OPEN_CALLS, MOST_OPEN_LEVELS}
use Rattle.rb_world.specs.World.{Level, copy_of, last_of, without_last}
use Rattle.rb_cell.specs.Store.{Store}
use Rattle.rb_cache.specs.Copies.{Fits, Level as Touched, Limits, RecoveryCache, accepted, change_last, copies, entered, joined, last_copy, open_levels}
use Rattle.rb_cache.proofs.Copies.{restored-same}
use Rattle.rb_cache.proofs.Views.{length-levels, length-restored}
use Rattle.rb_cache.proofs.LawsHold.{heights_lengths, shrunk, weaker}
use Rattle.rb_hold.specs.Held.{TwoLists, held_bytes}
use Rattle.rb_code.specs.WordMachine.Workspace.{OpenCall, held_place, word_at}
use Rattle.rb_code.specs.SoundCode.Safe.{StayAbove}
use Rattle.rb_code.specs.WordMachine.Turn.{Copy, prior_words}
use Rattle.rb_recoverable.specs.Contents.{Contents}
use Rattle.rb_recoverable.specs.Places.{most_places}
use Rattle.rb_recoverable.specs.declared.recoverable.LevelMark.{LevelMark}
use Rattle.rb_recoverable.specs.declared.recoverable.OpenCall.{OpenCall as Held}
use Rattle.rb_recoverable.specs.Inside.{Fronts, IsTied, Rise, call_of, calls_at, calls_of, contents, height_at, level_of, levels_of}
use Rattle.rb_recoverable.proofs.Rising.{all_low, rise_above, rise_more, rise_push, rise_take}
use Rattle.rb_recoverable.proofs.Fronts.{fronts_accept, fronts_open, held_cut, held_more, held_none, held_set}
use Rattle.rb_recoverable.proofs.Timed.{timed_open, timed_outer}
use Rattle.rb_recoverable.proofs.Levels.{last_is, last_or-low, levels_long, levels_more, levels_push, levels_take, without_last_is}

-- each level has a copy
pub copies_long : (words : List ℤ) (cache : RecoveryCache) → length (copies words cache) ≡ length cache.regions
copies_long words cache = length-reverse _ ∙ length-restored words cache.regions

pub open_long : (cache : RecoveryCache) → length (open_levels cache) ≡ length cache.regions
open_long cache = length-levels cache.regions

abbrev pub IsAbove : Held → Type 0
IsAbove call = 0 < call.base

bases_push : (calls : List Held) (call : Held) → AllByRecursion IsAbove calls → 0 < call.base → AllByRecursion IsAbove (calls ++ call ∷ [])
bases_push [] call a h = (h, tt)
bases_push (x ∷ calls) call a h = (a.0, bases_push calls call a.1 h)

pub bases_front : (calls more : List Held) → AllByRecursion IsAbove (calls ++ more) → AllByRecursion IsAbove calls
bases_front [] more a = tt
bases_front (x ∷ calls) more a = (a.0, bases_front calls more a.1)

pub bases_last : (calls : List Held) (call : Held) → AllByRecursion IsAbove (calls ++ call ∷ []) → 0 < call.base
bases_last [] call a = a.0
bases_last (x ∷ calls) call a = bases_last calls call a.1

module _ (clock deadline : ℕ) (store : Store) (cache : RecoveryCache) (calls : List Held) (room : ℕ) (marks : List LevelMark) (marks_room : ℕ) (lines : TwoLists)
    (tied : IsTied clock deadline store cache calls room marks marks_room lines) where
  abbrev pub copied : List (List ℤ)
  copied = copies store.words cache

  abbrev pub seen : Contents
  seen = contents clock store.words cache calls marks lines

  pub marks_copied : length marks ≡ length copied
  marks_copied = tied.levels_are ∙ sym (copies_long store.words cache)

  pub marks_levels : length seen.levels ≡ length marks
  marks_levels = levels_long clock marks copied calls marks_copied

  pub marks_open : length (open_levels cache) ≡ length marks
  marks_open = open_long cache ∙ sym tied.levels_are

  -- the innermost copy
  pub last_copy_is : last_copy store.words cache ≡ prior_words (copy_of (last_of seen.levels))
  last_copy_is = sym (last_is clock marks copied calls marks_copied)

  -- where words lie in the innermost copy a level is open
  pub prior_there : (at : ℕ) → at < length (prior_words (copy_of (last_of seen.levels))) → 0 < length (open_levels cache)
  prior_there at h = by marks refl
    where
      by : (ms : List LevelMark) → marks ≡ ms → 0 < length (open_levels cache)
      by [] e = absurd
          (let none : 0 ≡ length (prior_words (copy_of (last_of seen.levels))) =
          sym (ap (λ ms. length (prior_words (copy_of (last_of (levels_of clock ms copied calls))))) e) in omega arith)
      by (m ∷ ms) e = let k = marks_open in let n = ap length e in omega arith

  -- a level is opened
  module _ (after : RecoveryCache) (mark : LevelMark) (copies_are : copies store.words after ≡ copied ++ store.words ∷ [])
      (opened : open_levels after ≡ open_levels cache ++ entered (length store.words) ∷ []) (calls_are : mark.calls ≡ length calls)
      (since_is : mark.since ≡ clock) where
    pub tied_open : (later room_after : ℕ) → mark.around ≡ deadline → later ≤ deadline → later ≤ mark.since + mark.facts.bound → mark.height ≡ length store.words → Fits store.words after → after.limits ≡ cache.limits
        → length marks < MOST_OPEN_LEVELS → MOST_OPEN_LEVELS ≤ room_after → IsTied clock later store after calls room (marks ++ mark ∷ []) room_after lines
    tied_open later room_after around outer own height_is fits limits few much = record {
      limit_is = tied.limit_is;
      few_words = tied.few_words;
      levels_limit = ap (λ (l : Limits). l.levels) limits ∙ tied.levels_limit;
      words_limit = ap (λ (l : Limits). l.words) limits ∙ tied.words_limit;
      few_calls = tied.few_calls;
      many_calls = tied.many_calls;
      few_levels = omega (arith, length-append marks (mark ∷ []));
      many_levels = much;
      levels_are =
          length-append marks (mark ∷ []) ∙ ap (λ n. n + 1) (sym marks_open)
          ∙ sym (length-append (open_levels cache) (entered (length store.words) ∷ [])) ∙ ap length (sym opened) ∙ open_long after;
      fits = fits;
      heights = subst (λ (cs : List (List ℤ)). Rise (map length cs) (length store.words)) (sym copies_are)
          (subst (λ ns. Rise ns (length store.words)) (sym (map-append length copied (store.words ∷ [])))
          (rise_push (map length copied) (length store.words) (length store.words) tied.heights (omega arith)));
      tall =
          map-append height_at marks (mark ∷ []) ∙ ap (λ (hs : List ℕ). hs ++ mark.height ∷ []) tied.tall
          ∙ ap (λ h. map length copied ++ h ∷ []) height_is ∙ sym (map-append length copied (store.words ∷ []))
          ∙ ap (λ (cs : List (List ℤ)). map length cs) (sym copies_are);
      entries = subst (λ ns. Rise ns (length calls)) (sym (map-append calls_at marks (mark ∷ [])))
          (rise_push (map calls_at marks) mark.calls (length calls) (subst (Rise (map calls_at marks)) (sym calls_are) tied.entries) (omega arith));
      some = tied.some;
      held = tied.held;
      fronts = subst (λ (cs : List (List ℤ)). Fronts lines.held (reverse cs)) (sym copies_are)
          (fronts_open lines.held store.words copied tied.some tied.held tied.fronts);
      bases = tied.bases;
      timed = timed_open clock deadline marks tied.timed later mark (omega arith) (omega arith) outer own;
    }

    pub seen_open : contents clock store.words after calls (marks ++ mark ∷ []) lines
        ≡ record seen {
          touched = seen.touched ++ entered (length store.words) ∷ [];
          levels = seen.levels
              ++ record (level_of clock mark store.words calls) {
                used = 0;
                copy =
                    record { at = mark.at; words = store.words; calls = calls_of calls; last_kept = mark.last_kept };
              }
              ∷ [];
        }
    seen_open =
        ap (λ (ts : List Touched). record {
          words = store.words;
          calls = calls_of calls;
          held = lines.held;
          touched =
              ts;
          levels = levels_of clock (marks ++ mark ∷ []) (copies store.words after) calls;
          waiting = lines.released;
        }) opened
        ∙ ap (λ (cs : List (List ℤ)). record seen {
          touched = seen.touched ++ entered (length store.words) ∷ [];
          levels =
              levels_of clock (marks ++ mark ∷ []) cs calls;
        }) copies_are
        ∙ ap
        (λ (ls : List (Level Copy)). record seen { touched = seen.touched ++ entered (length store.words) ∷ []; levels = ls })
        (levels_push clock marks copied calls mark store.words marks_copied)
        ∙ ap (λ (cs : List Held). record seen {
          touched = seen.touched ++ entered (length store.words) ∷ [];
          levels = seen.levels
              ++ record (level_of clock mark store.words calls) {
                copy =
                    record { at = mark.at; words = store.words; calls = calls_of cs; last_kept = mark.last_kept };
              }
              ∷ [];
        })
        (take_all mark.calls calls (omega (arith, calls_are)))
        ∙ ap (λ (n : ℕ). record seen {
          touched = seen.touched ++ entered (length store.words) ∷ [];
          levels = seen.levels
              ++ record (level_of clock mark store.words calls) {
                used = n;
                copy =
                    record { at = mark.at; words = store.words; calls = calls_of calls; last_kept = mark.last_kept };
              }
              ∷ [];
        })
        (omega (arith, since_is))

  -- the innermost level goes
  module _ (after : RecoveryCache) (copies_are : copies store.words after ≡ take (length (open_levels cache) - 1) copied)
      (open_are : open_levels after ≡ accepted (open_levels cache)) (some : 0 < length marks) where
    fewer : take (length (open_levels cache) - 1) copied ≡ take (length marks - 1) copied
    fewer = ap (λ n. take (n - 1) copied) marks_open

    pub tied_accept : (top : LevelMark) → get_or marks (length marks - 1) top ≡ top → Fits store.words after → after.limits ≡ cache.limits
        → IsTied clock top.around store after calls room (take (length marks - 1) marks) marks_room lines
    tied_accept top top_is fits limits = record {
      limit_is = tied.limit_is;
      few_words = tied.few_words;
      levels_limit = ap (λ (l : Limits). l.levels) limits ∙ tied.levels_limit;
      words_limit = ap (λ (l : Limits). l.words) limits ∙ tied.words_limit;
      few_calls = tied.few_calls;
      many_calls = tied.many_calls;
      few_levels = let few = tied.few_levels in omega (arith, length-take-le (length marks - 1) marks (omega arith));
      many_levels = tied.many_levels;
      levels_are =
          length-take-le (length marks - 1) marks (omega arith)
          ∙ sym (length-take-le (length marks - 1) copied (let k = marks_copied in omega arith))
          ∙ ap length (sym (copies_are ∙ fewer)) ∙ copies_long store.words after;
      fits = fits;
      heights = subst (λ (cs : List (List ℤ)). Rise (map length cs) (length store.words)) (sym (copies_are ∙ fewer))
          (subst (λ ns. Rise ns (length store.words)) (take-map length (length marks - 1) copied)
          (rise_take (length marks - 1) (map length copied) (length store.words) tied.heights));
      tall =
          sym (take-map height_at (length marks - 1) marks) ∙ ap (take (length marks - 1)) tied.tall
          ∙ take-map length (length marks - 1) copied ∙ ap (λ (cs : List (List ℤ)). map length cs) (sym (copies_are ∙ fewer));
      entries = subst (λ ns. Rise ns (length calls)) (take-map calls_at (length marks - 1) marks)
          (rise_take (length marks - 1) (map calls_at marks) (length calls) tied.entries);
      some = tied.some;
      held = tied.held;
      fronts = subst (λ (cs : List (List ℤ)). Fronts lines.held (reverse cs)) (sym (copies_are ∙ fewer))
          (fronts_accept lines.held copied (length marks) marks_copied some tied.fronts);
      bases = tied.bases;
      timed = timed_outer clock deadline marks tied.timed (length marks - 1) top (omega arith) top_is;
    }

    pub seen_accept : contents clock store.words after calls (take (length marks - 1) marks) lines
        ≡ record seen { touched = accepted seen.touched; levels = without_last seen.levels }
    seen_accept =
        ap (λ (ts : List Touched). record {
          words = store.words;
          calls = calls_of calls;
          held = lines.held;
          touched =
              ts;
          levels = levels_of clock (take (length marks - 1) marks) (copies store.words after) calls;
          waiting =
              lines.released;
        }) open_are
        ∙ ap
        (λ (cs : List (List ℤ)). record seen {
          touched = accepted seen.touched;
          levels =
              levels_of clock (take (length marks - 1) marks) cs calls;
        })
        (copies_are ∙ fewer)
        ∙ ap (λ (ls : List (Level Copy)). record seen { touched = accepted seen.touched; levels = ls })
        (levels_take clock (length marks - 1) marks copied calls ∙ ap (λ n. take (n - 1) seen.levels) (sym marks_levels) ∙ without_last_is seen.levels)

  -- a word is written
  module _ (after : RecoveryCache) (later : Store) (at : ℕ) (value : ℤ)
      (stored : later ≡ record { words = slice_set store.words at value; limit = store.limit })
      (copies_are : copies later.words after ≡ copied) (open_are : open_levels after ≡ change_last (joined (at ∷ [])) (open_levels cache)) where
    words_are : later.words ≡ slice_set store.words at value
    words_are = ap (λ (s : Store). s.words) stored

    long : length later.words ≡ length store.words
    long = ap length words_are ∙ length-set store.words at value

    pub tied_written : (after_lines : TwoLists) → word_at (slice_set store.words at value) held_place ≡ pos (held_bytes after_lines.held)
        → Fronts after_lines.held (reverse copied) → Fits later.words after → after.limits ≡ cache.limits
        → IsTied clock deadline later after calls room marks marks_room after_lines
    tied_written after_lines held fronts fits limits = record {
      limit_is = ap (λ (s : Store). s.limit) stored ∙ tied.limit_is;
      few_words = let few = tied.few_words in omega (arith, long);
      levels_limit = ap (λ (l : Limits). l.levels) limits ∙ tied.levels_limit;
      words_limit = ap (λ (l : Limits). l.words) limits ∙ tied.words_limit;
      few_calls = tied.few_calls;
      many_calls = tied.many_calls;
      few_levels = tied.few_levels;
      many_levels = tied.many_levels;
      levels_are = marks_copied ∙ ap length (sym copies_are) ∙ copies_long later.words after;
      fits = fits;
      heights = subst (λ (cs : List (List ℤ)). Rise (map length cs) (length later.words)) (sym copies_are)
          (subst (Rise (map length copied)) (sym long) tied.heights);
      tall = tied.tall ∙ ap (λ (cs : List (List ℤ)). map length cs) (sym copies_are);
      entries = tied.entries;
      some = let some = tied.some in omega (arith, long);
      held = ap (λ ws. word_at ws held_place) words_are ∙ held;
      fronts = subst (λ (cs : List (List ℤ)). Fronts after_lines.held (reverse cs)) (sym copies_are) fronts;
      bases = tied.bases;
      timed = tied.timed;
    }

    pub tied_store : 0 < at → Fits later.words after → after.limits ≡ cache.limits → IsTied clock deadline later after calls room marks marks_room lines
    tied_store above fits limits = tied_written lines (held_set store.words at value above ∙ tied.held) tied.fronts fits limits

    pub seen_store : contents clock later.words after calls marks lines
        ≡ record seen { words = slice_set store.words at value; touched = change_last (joined (at ∷ [])) seen.touched }
    seen_store =
        ap (λ (cs : List (List ℤ)). record {
          words = later.words;
          calls = calls_of calls;
          held = lines.held;
          touched =
              open_levels after;
          levels = levels_of clock marks cs calls;
          waiting = lines.released;
        }) copies_are
        ∙ ap (λ (ws : List ℤ). record seen { words = ws; touched = open_levels after }) words_are
        ∙ ap (λ (ts : List Touched). record seen { words = slice_set store.words at value; touched = ts }) open_are

  -- words come above all copies
  module _ (later : Store) (more : List ℤ) (stored : later ≡ record { words = store.words ++ more; limit = store.limit })
      (copies_are : copies later.words cache ≡ copied) (fits_are : Fits later.words cache)
      (few : length store.words + length more ≤ most_places) where
    more_long : length later.words ≡ length store.words + length more
    more_long = ap (λ (s : Store). length s.words) stored ∙ length-append store.words more

    pub tied_more : IsTied clock deadline later cache calls room marks marks_room lines
    tied_more = record {
      limit_is = ap (λ (s : Store). s.limit) stored ∙ tied.limit_is;
      few_words = omega (arith, more_long);
      levels_limit = tied.levels_limit;
      words_limit = tied.words_limit;
      few_calls = tied.few_calls;
      many_calls = tied.many_calls;
      few_levels = tied.few_levels;
      many_levels = tied.many_levels;
      levels_are = tied.levels_are;
      fits = fits_are;
      heights = subst (λ (cs : List (List ℤ)). Rise (map length cs) (length later.words)) (sym copies_are)
          (rise_more (map length copied) (length store.words) (length later.words) (omega (arith, more_long)) tied.heights);
      tall = tied.tall ∙ ap (λ (cs : List (List ℤ)). map length cs) (sym copies_are);
      entries = tied.entries;
      some = let some = tied.some in omega (arith, more_long);
      held = ap (λ (s : Store). word_at s.words held_place) stored ∙ held_more store.words more tied.some ∙ tied.held;
      fronts = subst (λ (cs : List (List ℤ)). Fronts lines.held (reverse cs)) (sym copies_are) tied.fronts;
      bases = tied.bases;
      timed = tied.timed;
    }

    pub seen_more : contents clock later.words cache calls marks lines ≡ record seen { words = store.words ++ more }
    seen_more =
        ap (λ (cs : List (List ℤ)). record {
          words = later.words;
          calls = calls_of calls;
          held = lines.held;
          touched =
              open_levels cache;
          levels = levels_of clock marks cs calls;
          waiting = lines.released;
        }) copies_are
        ∙ ap (λ (s : Store). record seen { words = s.words }) stored

  -- words above all copies go
  pub all_above : (h : ℕ) → StayAbove seen.touched h → Rise (map length copied) h
  all_above h stay =
      let same = heights_lengths store.words cache tied.fits in
      subst (λ ns. Rise ns h) (sym same)
      (rise_above (open_levels cache) (length store.words) h (subst (λ ns. Rise ns (length store.words)) same tied.heights) stay)

  pub cut_keeps : (h : ℕ) → h ≤ length store.words → StayAbove seen.touched h
      → (copies (take h store.words) cache ≡ copied) × Fits (take h store.words) cache
  cut_keeps h le stay = shrunk store.words cache h tied.fits le (all_low copied h (all_above h stay))

  module _ (later : Store) (h : ℕ) (stored : later ≡ record { words = take h store.words; limit = store.limit }) (le : h ≤ length store.words)
      (some : 0 < h) (stay : StayAbove seen.touched h) where
    kept : (copies later.words cache ≡ copied) × Fits later.words cache
    kept = subst (λ (s : Store). (copies s.words cache ≡ copied) × Fits s.words cache) (sym stored) (cut_keeps h le stay)

    cut_long : length later.words ≡ h
    cut_long = ap (λ (s : Store). length s.words) stored ∙ length-take-le h store.words le

    pub tied_cut : IsTied clock deadline later cache calls room marks marks_room lines
    tied_cut = record {
      limit_is = ap (λ (s : Store). s.limit) stored ∙ tied.limit_is;
      few_words = let few = tied.few_words in omega (arith, cut_long);
      levels_limit = tied.levels_limit;
      words_limit = tied.words_limit;
      few_calls = tied.few_calls;
      many_calls = tied.many_calls;
      few_levels = tied.few_levels;
      many_levels = tied.many_levels;
      levels_are = tied.levels_are;
      fits = kept.1;
      heights = subst (λ (cs : List (List ℤ)). Rise (map length cs) (length later.words)) (sym kept.0)
          (subst (Rise (map length copied)) (sym cut_long) (all_above h stay));
      tall = tied.tall ∙ ap (λ (cs : List (List ℤ)). map length cs) (sym kept.0);
      entries = tied.entries;
      some = omega (arith, cut_long);
      held = ap (λ (s : Store). word_at s.words held_place) stored ∙ held_cut store.words h some ∙ tied.held;
      fronts = subst (λ (cs : List (List ℤ)). Fronts lines.held (reverse cs)) (sym kept.0) tied.fronts;
      bases = tied.bases;
      timed = tied.timed;
    }

    pub seen_cut : contents clock later.words cache calls marks lines ≡ record seen { words = take h store.words }
    seen_cut =
        ap (λ (cs : List (List ℤ)). record {
          words = later.words;
          calls = calls_of calls;
          held = lines.held;
          touched =
              open_levels cache;
          levels = levels_of clock marks cs calls;
          waiting = lines.released;
        }) kept.0
        ∙ ap (λ (s : Store). record seen { words = s.words }) stored

  -- words of any kind come above all copies
  pub more_keeps : (more : List ℤ) → (copies (store.words ++ more) cache ≡ copied) × Fits (store.words ++ more) cache
  more_keeps more = (
    ap reverse (restored-same (length store.words) (store.words ++ more) store.words cache.regions tied.fits
        (take-append-le (length store.words) store.words more (omega arith))),
    weaker (length store.words) (length (store.words ++ more)) cache.regions (omega (arith, length-append store.words more)) tied.fits,
  )

  -- one call more
  module _ (call : Held) (above : 0 < call.base) where
    pub tied_called : (room_after : ℕ) → length calls < MOST_OPEN_CALLS → MOST_OPEN_CALLS ≤ room_after
        → IsTied clock deadline store cache (calls ++ call ∷ []) room_after marks marks_room lines
    tied_called room_after few much = record {
      limit_is = tied.limit_is;
      few_words = tied.few_words;
      levels_limit = tied.levels_limit;
      words_limit = tied.words_limit;
      few_calls = omega (arith, length-append calls (call ∷ []));
      many_calls = much;
      few_levels = tied.few_levels;
      many_levels = tied.many_levels;
      levels_are = tied.levels_are;
      fits = tied.fits;
      heights = tied.heights;
      tall = tied.tall;
      entries = rise_more (map calls_at marks) (length calls) (length (calls ++ call ∷ []))
          (omega (arith, length-append calls (call ∷ []))) tied.entries;
      some = tied.some;
      held = tied.held;
      fronts = tied.fronts;
      bases = bases_push calls call tied.bases above;
      timed = tied.timed;
    }

    pub seen_called : contents clock store.words cache (calls ++ call ∷ []) marks lines ≡ record seen { calls = call_of call ∷ seen.calls }
    seen_called =
        ap (λ (cs : List OpenCall). record {
          words = store.words;
          calls = cs;
          held = lines.held;
          touched =
              open_levels cache;
          levels = levels_of clock marks copied (calls ++ call ∷ []);
          waiting = lines.released;
        })
        (ap reverse (map-append call_of calls (call ∷ [])) ∙ reverse-append (map call_of calls) (call_of call ∷ []))
        ∙ ap (λ (ls : List (Level Copy)). record seen { calls = call_of call ∷ seen.calls; levels = ls })
        (levels_more clock marks copied calls (call ∷ []) tied.entries)

  -- the innermost copy is no longer than the words
  pub prior_long : length (prior_words (copy_of (last_of seen.levels))) ≤ length store.words
  prior_long = subst (λ (ws : List ℤ). length ws ≤ length store.words) (sym (last_is clock marks copied calls marks_copied))
      (last_or-low copied (length store.words) tied.heights)

-- no call, no level, no line, and so many words that are 0
module _ (clock deadline n : ℕ) (some : 0 < n) (few : n ≤ most_places) where
  tied_first : (room marks_room : ℕ) → MOST_OPEN_CALLS ≤ room → MOST_OPEN_LEVELS ≤ marks_room
      → IsTied clock deadline (record { words = replicate n (pos 0); limit = most_places })
      (record { regions = []; limits = record { levels = MOST_OPEN_LEVELS; words = most_places } })
      [] room [] marks_room (record { held = []; released = [] })
  tied_first room marks_room many much = record {
    limit_is = refl;
    few_words = omega (arith, length-replicate n (pos 0));
    levels_limit = refl;
    words_limit = refl;
    few_calls = omega arith;
    many_calls = many;
    few_levels = omega arith;
    many_levels = much;
    levels_are = refl;
    fits = tt;
    heights = tt;
    tall = refl;
    entries = tt;
    some = omega (arith, length-replicate n (pos 0));
    held = held_none n some;
    fronts = tt;
    bases = tt;
    timed = record { begun = tt; within = tt; around = tt };
  }

  pub tied_new : (store : Store) (cache : RecoveryCache) (calls : List Held) (room : ℕ) (marks : List LevelMark) (marks_room : ℕ) (lines : TwoLists)
      → store ≡ record { words = replicate n (pos 0); limit = most_places }
      → cache ≡ record { regions = []; limits = record { levels = MOST_OPEN_LEVELS; words = most_places } } → calls ≡ [] → marks ≡ []
      → lines ≡ record { held = []; released = [] } → MOST_OPEN_CALLS ≤ room → MOST_OPEN_LEVELS ≤ marks_room
      → IsTied clock deadline store cache calls room marks marks_room lines
  tied_new store cache calls room marks marks_room lines s k cs ms ls many much =
      let first : Store = record { words = replicate n (pos 0); limit = most_places } in
      let bare : RecoveryCache = record { regions = []; limits = record { levels = MOST_OPEN_LEVELS; words = most_places } } in
      subst (λ (x : Store). IsTied clock deadline x cache calls room marks marks_room lines) (sym s)
      (subst (λ (x : RecoveryCache). IsTied clock deadline first x calls room marks marks_room lines) (sym k)
      (subst (λ (x : List Held). IsTied clock deadline first bare x room marks marks_room lines) (sym cs)
      (subst (λ (x : List LevelMark). IsTied clock deadline first bare [] room x marks_room lines) (sym ms)
      (subst (λ (x : TwoLists). IsTied clock deadline first bare [] room [] marks_room x) (sym ls) (tied_first room marks_room many much)))))
