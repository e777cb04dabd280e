-- Putting levels back from the inside out.
use Rattle.std.proofs.Common.{◌≡◌, ℕ, zero, suc, ◌+◌, ◌-◌, ◌<◌, ◌≤◌, ℤ, List, [], ◌∷◌, ◌++◌, map, length, take, drop, reverse, refl, ap, sym, ◌∙◌, subst, arith}
use Rattle.std.specs.Prelude.{get_or, slice_get, Option, Some}
use Rattle.std.specs.List.{AllByRecursion, take-map}
use Rattle.std.proofs.lemmas.List.{append-nil, length-map, length-take-le, get_or-take, reverse-append, take-append-drop, take-take, take_more}
use Rattle.std.proofs.lemmas.List.Sums.{sum_by-take-le}
use Rattle.rb_meaning.specs.Environment.{natural}
use Rattle.rb_world.specs.World.{Level}
use Rattle.rb_cell.specs.Store.{Store}
use Rattle.rb_cache.specs.Copies.{Fits, Level as Touched, Limits, RecoveryCache, accepted, change_last, copies, entered, joined, last_or, open_levels}
use Rattle.rb_hold.specs.Held.{IsLengthOf, TwoLists, held_bytes}
use Rattle.rb_code.specs.WordMachine.Workspace.{cut_held, held_place, word_at}
use Rattle.rb_code.specs.WordMachine.Turn.{Copy}
use Rattle.rb_recoverable.specs.Contents.{Contents, IsMarkOf, PutBack, back_at}
use Rattle.rb_recoverable.specs.declared.recoverable.LevelMark.{LevelMark}
use Rattle.rb_recoverable.specs.declared.recoverable.OpenCall.{OpenCall as Held}
use Rattle.rb_recoverable.specs.Inside.{Fronts, IsFront, IsTied, Rise, calls_at, calls_of, contents, height_at, level_of, levels_of, told}
use Rattle.rb_recoverable.proofs.Rising.{rise_first, rise_push}
use Rattle.rb_recoverable.proofs.Fronts.{cut_length, cut_take, fronts_open, fronts_out}
use Rattle.rb_recoverable.proofs.Levels.{levels_fewer, levels_take}
use Rattle.rb_recoverable.proofs.Timed.{timed_up_to}
use Rattle.rb_recoverable.proofs.Tied.{IsAbove, bases_front, copies_long, marks_copied}
use Rattle.rb_recoverable.specs.Places.{most_places}

-- one level fewer
pub length-accepted : (ls : List Touched) → length (accepted ls) ≡ length ls - 1
length-accepted [] = refl
length-accepted (top ∷ []) = refl
length-accepted (l ∷ top ∷ []) = refl
length-accepted (l ∷ m ∷ n ∷ inner) = let h = length-accepted (m ∷ n ∷ inner) in omega arith

abbrev pub clear : Touched → Touched
clear touched = entered touched.height

pub length-cleared : (ls : List Touched) → length (change_last clear ls) ≡ length ls
length-cleared [] = refl
length-cleared (l ∷ []) = refl
length-cleared (l ∷ m ∷ inner) = ap suc (length-cleared (m ∷ inner))

-- a level that was put back adds nothing to the one around it
nothing_joins : (l : Touched) (h : ℕ) → joined (entered h).touched l ≡ l
nothing_joins l h = ap (λ ts. record { height = l.height; touched = ts }) (append-nil l.touched)

pub gone : (ls : List Touched) → accepted (change_last clear ls) ≡ take (length ls - 1) ls
gone [] = refl
gone (top ∷ []) = refl
gone (l ∷ top ∷ []) = ap (λ (x : Touched). x ∷ []) (nothing_joins l top.height)
gone (l ∷ m ∷ n ∷ []) =
    ap (λ (xs : List Touched). l ∷ xs) (gone (m ∷ n ∷ []))
gone (l ∷ m ∷ n ∷ o ∷ inner) =
    let k : length (l ∷ m ∷ n ∷ o ∷ inner) - 1 ≡ suc (length (m ∷ n ∷ o ∷ inner) - 1) = omega arith in
    ap (λ (xs : List Touched). l ∷ xs) (gone (m ∷ n ∷ o ∷ inner)) ∙ sym (ap (λ i. take i (l ∷ m ∷ n ∷ o ∷ inner)) k)

-- the last of the first ones
pub last_or-take : {A : Type 0} (xs : List A) (k : ℕ) (d : A) → k < length xs → last_or (take (k + 1) xs) d ≡ get_or xs k d
last_or-take xs k d h =
    let long = length-take-le (k + 1) xs (omega arith) in
    let at : length (take (k + 1) xs) - 1 ≡ k = omega arith in
    ap (λ i. get_or (take (k + 1) xs) i d) at ∙ get_or-take (k + 1) xs k d (omega arith)

-- one step inwards out: a level is put back, and goes
module _ (first : List Touched) (all : List (List ℤ)) (n : ℕ) (words later : List ℤ) (cache back out : RecoveryCache)
    (n_is : n ≡ length (open_levels cache)) (open_is : open_levels cache ≡ take n first) (copies_is : copies words cache ≡ take n all)
    (cleared : open_levels back ≡ change_last clear (open_levels cache)) (kept : copies later back ≡ copies words cache)
    (accept : open_levels out ≡ accepted (open_levels back))
    (fewer : copies later out ≡ take (length (open_levels back) - 1) (copies later back)) where
  back_long : length (open_levels back) ≡ n
  back_long = ap length cleared ∙ length-cleared (open_levels cache) ∙ sym n_is

  pub out_long : length (open_levels out) ≡ n - 1
  out_long = ap length accept ∙ length-accepted (open_levels back) ∙ ap (λ k. k - 1) back_long

  out_take : open_levels out ≡ take (n - 1) first
  out_take =
      accept ∙ ap accepted cleared ∙ gone (open_levels cache)
      ∙ ap (λ k. take (k - 1) (open_levels cache)) (sym n_is) ∙ ap (take (n - 1)) open_is ∙ take-take (n - 1) n first (omega arith)

  pub out_open : open_levels out ≡ take (length (open_levels out)) first
  out_open = out_take ∙ ap (λ k. take k first) (sym out_long)

  pub out_copies : copies later out ≡ take (length (open_levels out)) all
  out_copies =
      fewer ∙ ap (λ k. take (k - 1) (copies later back)) back_long ∙ ap (take (n - 1)) (kept ∙ copies_is) ∙ take-take (n - 1) n all (omega arith)
      ∙ ap (λ k. take k all) (sym out_long)

-- what is looked up in lists of one length
pub pick : (clock : ℕ) (marks : List LevelMark) (copied : List (List ℤ)) (calls : List Held) (k : ℕ) (m : LevelMark) → k < length marks
    → length marks ≡ length copied → slice_get (levels_of clock marks copied calls) k ≡ Some (level_of clock (get_or marks k m) (get_or copied k []) calls)
pick clock [] copied calls k m h e = absurd (omega arith)
pick clock (mark ∷ marks) [] calls k m h e = absurd (omega arith)
pick clock (mark ∷ marks) (ws ∷ copied) calls zero m h e = refl
pick clock (mark ∷ marks) (ws ∷ copied) calls (suc k) m h e = pick clock marks copied calls k m (omega arith) (omega arith)

-- the first of rising numbers, up to one of them
rise_to : (ns : List ℕ) (k last : ℕ) → k < length ns → Rise ns last → Rise (take k ns) (get_or ns k 0)
rise_to ns zero last h r = tt
rise_to [] (suc k) last h r = absurd (omega arith)
rise_to (n ∷ []) (suc k) last h r = absurd (omega arith)
rise_to (n ∷ m ∷ ns) (suc zero) last h r = (r.0, tt)
rise_to (n ∷ m ∷ ns) (suc (suc k)) last h r = (r.0, rise_to (m ∷ ns) (suc k) last (omega arith) r.1)

pub rise_up_to : (ns : List ℕ) (k last : ℕ) → k < length ns → Rise ns last → Rise (take (k + 1) ns) (get_or ns k 0)
rise_up_to ns k last h r =
    subst (λ (xs : List ℕ). Rise xs (get_or ns k 0)) (sym (take_more ns k 0 h))
    (rise_push (take k ns) (get_or ns k 0) (get_or ns k 0) (rise_to ns k last h r) (omega arith))

pub rise_below : (ns : List ℕ) (k last : ℕ) → k < length ns → Rise ns last → get_or ns k 0 ≤ last
rise_below [] k last h r = absurd (omega arith)
rise_below (n ∷ ns) zero last h r = let b = rise_first ns last r.1 in let x = r.0 in omega arith
rise_below (n ∷ ns) (suc k) last h r = rise_below ns k last (omega arith) r.1

pub pick_map : {A B : Type 0} (f : A → B) (xs : List A) (k : ℕ) (a : A) (b : B) → k < length xs → get_or (map f xs) k b ≡ f (get_or xs k a)
pick_map f [] k a b h = absurd (omega arith)
pick_map f (x ∷ xs) zero a b h = refl
pick_map f (x ∷ xs) (suc k) a b h = pick_map f xs k a b (omega arith)

-- what is there does not depend on the default
pub same_pick : {A : Type 0} (xs : List A) (k : ℕ) (a b : A) → k < length xs → get_or xs k a ≡ get_or xs k b
same_pick [] k a b h = absurd (omega arith)
same_pick (x ∷ xs) zero a b h = refl
same_pick (x ∷ xs) (suc k) a b h = same_pick xs k a b (omega arith)

-- lines that were held at the entry of a level
fronts_inner : (lines : List (List ℕ)) (inner outer : List (List ℤ)) → Fronts lines (inner ++ outer) → Fronts lines outer
fronts_inner lines [] outer f = f
fronts_inner lines (ws ∷ inner) outer f = fronts_inner lines inner outer (fronts_out lines ws (inner ++ outer) f)

pub front_at : (lines : List (List ℕ)) (copied : List (List ℤ)) (k : ℕ) → k < length copied → Fronts lines (reverse copied)
    → IsFront lines (get_or copied k []) × Fronts (cut_held (told (get_or copied k [])) lines) (reverse (take k copied))
front_at lines copied k h f =
    let split = ap reverse (sym (take-append-drop (k + 1) copied)) ∙ reverse-append (take (k + 1) copied) (drop (k + 1) copied) in
    let outer = fronts_inner lines (reverse (drop (k + 1) copied)) (reverse (take (k + 1) copied)) (subst (Fronts lines) split f) in
    let turned = ap reverse (take_more copied k [] h) ∙ reverse-append (take k copied) (get_or copied k [] ∷ []) in
    subst (Fronts lines) turned outer

module _ (clock deadline : ℕ) (store : Store) (cache : RecoveryCache) (calls : List Held) (room : ℕ) (marks : List LevelMark) (marks_room : ℕ) (lines : TwoLists)
    (tied : IsTied clock deadline store cache calls room marks marks_room lines) (k : ℕ) (mark : LevelMark) (within : k < length marks)
    (mark_is : (m : LevelMark) → get_or marks k m ≡ mark) where
  abbrev pub copied_now : List (List ℤ)
  copied_now = copies store.words cache

  abbrev pub before : Contents
  before = contents clock store.words cache calls marks lines

  abbrev pub copy : List ℤ
  copy = get_or copied_now k []

  abbrev pub lines_then : List (List ℕ)
  lines_then = cut_held (told copy) lines.held

  there : k < length copied_now
  there = let e = marks_copied _ _ _ _ _ _ _ _ _ tied in omega arith

  pub front : IsFront lines.held copy × Fronts lines_then (reverse (take k copied_now))
  front = front_at lines.held copied_now k there tied.fronts

  pub front_length : IsLengthOf (told copy) (length lines_then) lines.held
  front_length = cut_length lines.held (told copy) (sym (ap natural front.0.bytes))

  pub few_bytes : told copy ≤ held_bytes lines.held
  few_bytes = subst (λ n. n ≤ held_bytes lines.held) (front_length.1)
      (sum_by-take-le (λ (line : List ℕ). length line + 1) lines.held (length lines_then))

  pub lines_taken : take (length lines_then) lines.held ≡ lines_then
  lines_taken = cut_take lines.held (told copy)

  calls_then : get_or (map calls_at marks) k 0 ≡ mark.calls
  calls_then = pick_map calls_at marks k mark 0 within ∙ ap calls_at (mark_is mark)

  few_then : mark.calls ≤ length calls
  few_then = subst (λ n. n ≤ length calls) calls_then
      (rise_below (map calls_at marks) k (length calls) (let e = length-map marks calls_at in omega arith) tied.entries)

  calls_kept : length (take mark.calls calls) ≡ mark.calls
  calls_kept = length-take-le mark.calls calls few_then

  entries_then : Rise (map calls_at (take (k + 1) marks)) mark.calls
  entries_then =
      subst (λ n. Rise (map calls_at (take (k + 1) marks)) n) calls_then
      (subst (λ ns. Rise ns (get_or (map calls_at marks) k 0)) (take-map calls_at (k + 1) marks)
      (rise_up_to (map calls_at marks) k (length calls) (let e = length-map marks calls_at in omega arith) tied.entries))

  heights_then : Rise (map length (take (k + 1) copied_now)) (length copy)
  heights_then =
      subst (λ n. Rise (map length (take (k + 1) copied_now)) n) (pick_map length copied_now k [] 0 there)
      (subst (λ ns. Rise ns (get_or (map length copied_now) k 0)) (take-map length (k + 1) copied_now)
      (rise_up_to (map length copied_now) k (length store.words) (let e = length-map copied_now length in let t = there in omega arith) tied.heights))

  module _ (later : Store) (after : RecoveryCache) (stored : later ≡ record { words = copy; limit = store.limit })
      (copies_are : copies later.words after ≡ take (k + 1) copied_now)
      (open_are : open_levels after ≡ change_last clear (take (k + 1) (open_levels cache))) where
    words_then : later.words ≡ copy
    words_then = ap (λ (s : Store). s.words) stored

    copy_few : length copy ≤ most_places
    copy_few =
        let low = rise_below (map length copied_now) k (length store.words)
        (let e = length-map copied_now length in let t = there in omega arith) tied.heights in
        let same = pick_map length copied_now k [] 0 there in
        let few = tied.few_words in
        omega arith

    pub tied_then : (until room_after marks_after : ℕ) → until ≤ mark.around → until ≤ mark.since + mark.facts.bound → room ≤ room_after → marks_room ≤ marks_after → Fits later.words after → after.limits ≡ cache.limits
        → IsTied clock until later after (take mark.calls calls) room_after (take (k + 1) marks) marks_after
        (record { held = lines_then; released = lines.released })
    tied_then until room_after marks_after outer own calls_room levels_room fits limits = record {
      limit_is = ap (λ (s : Store). s.limit) stored ∙ tied.limit_is;
      few_words = subst (λ (ws : List ℤ). length ws ≤ most_places) (sym words_then) copy_few;
      levels_limit = ap (λ (l : Limits). l.levels) limits ∙ tied.levels_limit;
      words_limit = ap (λ (l : Limits). l.words) limits ∙ tied.words_limit;
      few_calls = let few = tied.few_calls in let a = few_then in let e = calls_kept in omega arith;
      many_calls = let many = tied.many_calls in omega arith;
      few_levels = let few = tied.few_levels in let e = length-take-le (k + 1) marks (omega arith) in omega arith;
      many_levels = let many = tied.many_levels in omega arith;
      levels_are =
          length-take-le (k + 1) marks (omega arith) ∙ sym (length-take-le (k + 1) copied_now (let t = there in omega arith))
          ∙ ap length (sym copies_are) ∙ copies_long later.words after;
      fits = fits;
      heights = subst (λ (cs : List (List ℤ)). Rise (map length cs) (length later.words)) (sym copies_are)
          (subst (λ (ws : List ℤ). Rise (map length (take (k + 1) copied_now)) (length ws)) (sym words_then) heights_then);
      tall =
          sym (take-map height_at (k + 1) marks) ∙ ap (take (k + 1)) tied.tall ∙ take-map length (k + 1) copied_now
          ∙ ap (λ (cs : List (List ℤ)). map length cs) (sym copies_are);
      entries = subst (Rise (map calls_at (take (k + 1) marks))) (sym calls_kept) entries_then;
      some = subst (λ (ws : List ℤ). 0 < length ws) (sym words_then) front.0.some;
      held = ap (λ (ws : List ℤ). word_at ws held_place) words_then ∙ front.0.bytes;
      fronts = subst (λ (cs : List (List ℤ)). Fronts lines_then (reverse cs)) (sym (copies_are ∙ take_more copied_now k [] there))
          (fronts_open lines_then copy (take k copied_now) front.0.some front.0.bytes front.1);
      bases = bases_front (take mark.calls calls) (drop mark.calls calls)
          (subst (AllByRecursion IsAbove) (sym (take-append-drop mark.calls calls)) tied.bases);
      timed = timed_up_to clock deadline marks tied.timed k until mark within (mark_is mark) outer own;
    }

    pub seen_then : PutBack k before (slice_get before.levels k)
        (contents clock later.words after (take mark.calls calls) (take (k + 1) marks) (record { held = lines_then; released = lines.released }))
    seen_then =
        let found : slice_get before.levels k ≡ Some (level_of clock mark copy calls) =
        pick clock marks copied_now calls k mark within (marks_copied _ _ _ _ _ _ _ _ _ tied)
        ∙ ap (λ (m : LevelMark). Some (level_of clock m copy calls)) (mark_is mark) in
        subst (λ (o : Option (Level Copy)). PutBack k before o
        (contents clock later.words after (take mark.calls calls) (take (k + 1) marks) (record { held = lines_then; released = lines.released })))
        (sym found) whole
      where
        levels_then : levels_of clock (take (k + 1) marks) (copies later.words after) (take mark.calls calls) ≡ take (k + 1) before.levels
        levels_then =
            levels_fewer clock (take (k + 1) marks) (copies later.words after) calls mark.calls entries_then
            ∙ ap (λ (cs : List (List ℤ)). levels_of clock (take (k + 1) marks) cs calls) copies_are
            ∙ levels_take clock (k + 1) marks copied_now calls

        whole : contents clock later.words after (take mark.calls calls) (take (k + 1) marks) (record { held = lines_then; released = lines.released })
            ≡ back_at k before (level_of clock mark copy calls)
        whole =
            ap (λ (ls : List (Level Copy)). record {
              words = later.words;
              calls = calls_of (take mark.calls calls);
              held =
                  lines_then;
              touched = open_levels after;
              levels = ls;
              waiting = lines.released;
            }) levels_then
            ∙ ap (λ (ws : List ℤ). record {
              words = ws;
              calls = calls_of (take mark.calls calls);
              held =
                  lines_then;
              touched = open_levels after;
              levels = take (k + 1) before.levels;
              waiting =
                  lines.released;
            }) words_then
            ∙ ap (λ (ts : List Touched). record {
              words = copy;
              calls = calls_of (take mark.calls calls);
              held =
                  lines_then;
              touched = ts;
              levels = take (k + 1) before.levels;
              waiting = lines.released;
            }) open_are

  pub mark_of : IsMarkOf (slice_get before.levels k) mark
  mark_of =
      let found : slice_get before.levels k ≡ Some (level_of clock mark copy calls) =
      pick clock marks copied_now calls k mark within (marks_copied _ _ _ _ _ _ _ _ _ tied)
      ∙ ap (λ (m : LevelMark). Some (level_of clock m copy calls)) (mark_is mark) in
      subst (λ (o : Option (Level Copy)). IsMarkOf o mark) (sym found) (refl, refl)
