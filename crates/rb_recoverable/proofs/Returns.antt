-- A call is gone back from: its words go, and each level has its calls.
use Rattle.std.proofs.Common.{◌≡◌, ℕ, ◌<◌, ◌≤◌, ℤ, List, [], ◌∷◌, ◌++◌, map, length, take, reverse, refl, ap, sym, ◌∙◌, subst, arith}
use Rattle.std.proofs.lemmas.List.{length-append, length-map, length-reverse, length-take-le, map-append, reverse-append, take_at}
use Rattle.rb_world.specs.World.{Level, copy_of, last_of}
use Rattle.rb_cell.specs.Store.{Store}
use Rattle.rb_cache.specs.Copies.{RecoveryCache, copies, open_levels}
use Rattle.rb_hold.specs.Held.{TwoLists}
use Rattle.rb_code.specs.WordMachine.Workspace.{OpenCall}
use Rattle.rb_code.specs.SoundCode.Safe.{HasCall, StayAbove}
use Rattle.rb_code.specs.SoundCode.Stays.{entry_calls}
use Rattle.rb_code.specs.WordMachine.Turn.{Copy}
use Rattle.rb_recoverable.specs.Contents.{Contents}
use Rattle.rb_recoverable.specs.declared.recoverable.LevelMark.{LevelMark}
use Rattle.rb_recoverable.specs.declared.recoverable.OpenCall.{OpenCall as Held}
use Rattle.rb_recoverable.specs.Inside.{IsTied, Rise, call_of, calls_at, calls_of, contents, levels_of}
use Rattle.rb_recoverable.proofs.Levels.{levels_fewer}
use Rattle.rb_recoverable.proofs.Tied.{bases_front, bases_last, marks_copied, seen_cut, tied_cut}

-- how many calls a list in memory stands for
pub calls_long : (calls : List Held) → length (calls_of calls) ≡ length calls
calls_long calls = length-reverse (map call_of calls) ∙ length-map calls call_of

-- where the innermost level has no more calls than these, no level has
pub entry_rise : (clock : ℕ) (marks : List LevelMark) (copied : List (List ℤ)) (calls : List Held) (k : ℕ) → length marks ≡ length copied
    → Rise (map calls_at marks) (length calls) → entry_calls (copy_of (last_of (levels_of clock marks copied calls))) ≤ k → Rise (map calls_at marks) k
entry_rise clock [] copied calls k e r h = tt
entry_rise clock (m ∷ marks) [] calls k e r h = absurd (omega arith)
entry_rise clock (m ∷ []) (ws ∷ []) calls k e r h =
    let long = calls_long (take m.calls calls) in
    let taken = length-take-le m.calls calls r.0 in
    (omega arith, tt)
entry_rise clock (m ∷ []) (ws ∷ vs ∷ copied) calls k e r h = absurd (omega arith)
entry_rise clock (m ∷ n ∷ marks) (ws ∷ []) calls k e r h = absurd (omega arith)
entry_rise clock (m ∷ n ∷ marks) (ws ∷ vs ∷ copied) calls k e r h =
    (r.0, entry_rise clock (n ∷ marks) (vs ∷ copied) calls k (omega arith) r.1 h)

module _ (clock deadline : ℕ) (store : Store) (cache : RecoveryCache) (calls : List Held) (call : Held) (room : ℕ) (marks : List LevelMark) (marks_room : ℕ)
    (lines : TwoLists) (tied : IsTied clock deadline store cache (calls ++ call ∷ []) room marks marks_room lines) where
  abbrev pub before : Contents
  before = contents clock store.words cache (calls ++ call ∷ []) marks lines

  pub turned : calls_of (calls ++ call ∷ []) ≡ call_of call ∷ calls_of calls
  turned = ap reverse (map-append call_of calls (call ∷ [])) ∙ reverse-append (map call_of calls) (call_of call ∷ [])

  module _ (asked : HasCall before.calls (λ one. (one.base ≤ length store.words) × StayAbove before.touched one.base))
      (levels : entry_calls (copy_of (last_of before.levels)) < length before.calls) where
    here : (call.base ≤ length store.words) × StayAbove before.touched call.base
    here = subst (λ (cs : List OpenCall). HasCall cs (λ one. (one.base ≤ length store.words) × StayAbove before.touched one.base)) turned asked

    pub base_within : call.base ≤ length store.words
    base_within = here.0

    entries : Rise (map calls_at marks) (length calls)
    entries =
        let long = ap length turned in
        let few = calls_long calls in
        entry_rise clock marks (copies store.words cache) (calls ++ call ∷ []) (length calls) (marks_copied _ _ _ _ _ _ _ _ _ tied) tied.entries (omega arith)

    first_calls : take (length calls) (calls ++ call ∷ []) ≡ calls
    first_calls = take_at calls (call ∷ []) (length calls) refl

    module _ (later : Store) (stored : later ≡ record { words = take call.base store.words; limit = store.limit }) where
      cut : IsTied clock deadline later cache (calls ++ call ∷ []) room marks marks_room lines
      cut = tied_cut _ _ _ _ _ _ _ _ _ tied later call.base stored here.0 (bases_last calls call tied.bases) here.1

      pub tied_back : (room_after : ℕ) → room ≤ room_after → IsTied clock deadline later cache calls room_after marks marks_room lines
      tied_back room_after much = record {
        limit_is = cut.limit_is;
        few_words = cut.few_words;
        levels_limit = cut.levels_limit;
        words_limit = cut.words_limit;
        few_calls = let few = cut.few_calls in omega (arith, length-append calls (call ∷ []));
        many_calls = let many = cut.many_calls in omega arith;
        few_levels = cut.few_levels;
        many_levels = cut.many_levels;
        levels_are = cut.levels_are;
        fits = cut.fits;
        heights = cut.heights;
        tall = cut.tall;
        entries = entries;
        some = cut.some;
        held = cut.held;
        fronts = cut.fronts;
        bases = bases_front calls (call ∷ []) cut.bases;
        timed = cut.timed;
      }

      pub seen_back : contents clock later.words cache calls marks lines ≡ record before { words = take call.base store.words; calls = calls_of calls }
      seen_back =
          ap (λ (ls : List (Level Copy)). record {
            words = later.words;
            calls = calls_of calls;
            held = lines.held;
            touched =
                open_levels cache;
            levels = ls;
            waiting = lines.released;
          })
          (ap (levels_of clock marks (copies later.words cache)) (sym first_calls)
          ∙ levels_fewer clock marks (copies later.words cache) (calls ++ call ∷ []) (length calls) entries)
          ∙ ap (λ (r : Contents). record r { calls = calls_of calls })
          (seen_cut _ _ _ _ _ _ _ _ _ tied later call.base stored here.0 (bases_last calls call tied.bases) here.1)
