-- Instructions that change something and go on in the same body: a process stands again, in the mode changed.
use Rattle.std.proofs.Common.{◌≡◌, ℕ, ◌+◌, ◌-◌, ◌<◌, ◌≤◌, ℤ, pos, ◌+ℤ◌, nat_lt, cond, List, [], ◌∷◌, ◌++◌, length, filter, map, replicate, reverse, slice_set, take, Option, None, refl, ap, sym, ◌∙◌, subst, arith, length-append, length-take-le}
use Rattle.std.proofs.lemmas.List.{length-set, length-replicate, reverse-append}
use Rattle.rb_base.specs.declared.event.Cause.TheVariants.{Hold, Stack, Test as TestCause}
use Rattle.rb_world.specs.Kind.{Membership}
use Rattle.rb_world.specs.Slots.{Slots, put_slot}
use Rattle.rb_cache.specs.Copies.{accepted, change_last, joined}
use Rattle.rb_meaning.specs.Environment.{natural}
use Rattle.rb_meaning.specs.Step.{most_held}
use Rattle.rb_meaning.specs.Value.{is_zero}
use Rattle.rb_code.specs.Instructions.Plain.{Code}
use Rattle.rb_code.specs.WordMachine.Workspace.{Workspace, cursor_place, framed, held_place, word_at}
use Rattle.rb_code.specs.WordMachine.Act.{Accepts, Going, Outcome, Sight, Trapped, act, has_words_for, here, joined_pieces, line_held, place, risen}
use Rattle.rb_code.specs.SoundCode.Sound.{Changed, Entry, Fine, InnermostIs, LeadsTo, OpenBlock, Table, at_address, changed, is_in}
use Rattle.rb_code.specs.SoundCode.Stands.{BeganBefore, BodyFits, Fits, Levels, LoopsFit, ModeFits, OperandsFit, height_of}
use Rattle.rb_code.specs.declared.instr.Spot.{Spot}
use Rattle.rb_code.specs.declared.instr.Instr.TheVariants.{Store, StoreAt, Frame, Drop, Print, Put, Take, Test}
use Rattle.rb_code.proofs.Executing.OpenLevels.{heights-accepted, heights-touched, innermost}
use Rattle.rb_code.proofs.Executing.PlainSteps.{there_goes}
use Rattle.rb_code.proofs.Executing.Weaker.{arrives, may_frame, may_trap, rank, rank_zero}
use Rattle.rb_code.proofs.Executing.Progress.{AcceptsAt, Most, Progress, changes, cond_goes, top_goes, two_go}

module _ (c : Code) (groups : List Membership) (t : Table) (see : Sight) (levels : Levels) (P : Workspace → Type 0)
    (a : ℕ) (e : Entry) (operands : List ℤ) (m : Workspace) (in_code : a < length c.instrs)
    (fits : Fits c t see levels a e operands m) (began : BeganBefore (a + 1) e.loops) (clean : 2 ≤ rank e.mode → P m) where
  abbrev Goes : Outcome → Type 0
  Goes = Progress c groups t see levels P m (Most c groups t see levels P a e operands m in_code fits began)

  -- a word is written, and a slot may be
  writes : (os : List (Option ℕ)) (xs : List ℤ) (at : ℕ) (x : ℤ) (k : ℕ) (hs : List (List ℕ)) (ss : Slots) (ps : List (List ℕ))
      → LeadsTo c groups t (a + 1) (record e { operands = os; words = e.words; pieces = k; mode = Changed }) → OperandsFit os xs
      → length ps ≡ k
      → Goes (Going (a + 1) xs (record m {
        words = slice_set m.words at x;
        touched = change_last (joined (at ∷ [])) m.touched;
        held = hs;
        slots = ss;
        pieces = ps;
      }))
  writes os xs at x k hs ss ps leads fit pieces =
      changes c groups t see levels P a e operands m in_code fits began os e.words k xs (slice_set m.words at x)
      (change_last (joined (at ∷ [])) m.touched) hs ss ps leads fit (length-set m.words at x ∙ fits.layout.words_are)
      (heights-touched (at ∷ []) m.touched) pieces

  pub store_goes : (v : Spot) → Fine c groups t (Store v) a e → Goes (act c see (Store v) a operands m)
  store_goes v fine =
      top_goes c groups t see levels P m _ e.operands operands _ _ fine fits.operands_fit
      (λ o os x rest q h1 h2. writes os rest (place c see m.calls v) x e.pieces m.held m.slots m.pieces q.1 h2 fits.pieces_are)

  pub store_at_goes : (v : Spot) → Fine c groups t (StoreAt v) a e → Goes (act c see (StoreAt v) a operands m)
  store_at_goes v fine =
      two_go c groups t see levels P m _ e.operands operands _ _ fine fits.operands_fit
      (λ o os p ps x i rest q h1 h2.
      writes ps rest (place c see m.calls v + natural i) x e.pieces m.held m.slots m.pieces q.1 h2 fits.pieces_are)

  pub put_goes : (channel : ℕ) → Fine c groups t (Put channel) a e → Goes (act c see (Put channel) a operands m)
  put_goes channel fine =
      top_goes c groups t see levels P m _ e.operands operands _ _ fine.1 fits.operands_fit
      (λ o os x rest leads h1 h2.
      writes os rest (cursor_place (here c see) channel) (word_at m.words (cursor_place (here c see) channel) +ℤ pos 1) e.pieces m.held
      (put_slot c.channels channel (natural (word_at m.words (cursor_place (here c see) channel))) x m.slots) m.pieces leads h2 fits.pieces_are)

  pub take_goes : (channel : ℕ) → Fine c groups t (Take channel) a e → Goes (act c see (Take channel) a operands m)
  take_goes channel fine =
      there_goes see.message (λ v. Going (a + 1) (v ∷ operands) (risen c see channel m)) Goes
      (subst (ModeFits c see a) fine.0 fits.mode_fits).1
      (λ v q.
      writes (None ∷ e.operands) (v ∷ operands) (cursor_place (here c see) channel)
      (word_at m.words (cursor_place (here c see) channel) +ℤ pos 1) e.pieces m.held m.slots m.pieces fine.2 (tt, fits.operands_fit)
      fits.pieces_are)

  pub print_goes : Fine c groups t Print a e → Goes (act c see Print a operands m)
  print_goes fine =
      let line = joined_pieces m.pieces in
      let bytes = natural (word_at m.words held_place) + (length line + 1) in
      cond_goes c groups t see levels P m _ (nat_lt most_held bytes) (Trapped Hold) (Going (a + 1) operands (line_held bytes line m))
      (λ q. clean (may_trap e.mode fine.0))
      (λ q. writes e.operands operands held_place (pos bytes) 0 (m.held ++ line ∷ []) m.slots [] fine.1 fits.operands_fit refl)

  pub frame_goes : (n : ℕ) → Fine c groups t (Frame n) a e → Goes (act c see (Frame n) a operands m)
  frame_goes n fine =
      cond_goes c groups t see levels P m _ (has_words_for c (here c see) (length m.words + n)) (Going (a + 1) operands (framed n m))
      (Trapped Stack)
      (λ q. changes c groups t see levels P a e operands m in_code fits began e.operands (e.words + n) e.pieces operands
      (m.words ++ replicate n (pos 0)) m.touched m.held m.slots m.pieces fine.1 fits.operands_fit
      (let r = length-replicate n (pos 0) in let w = fits.layout.words_are in omega (arith, length-append m.words (replicate n (pos 0))))
      refl fits.pieces_are)
      (λ q. clean (may_frame e.mode fine.0))

  pub drop_goes : (n : ℕ) → Fine c groups t (Drop n) a e → Goes (act c see (Drop n) a operands m)
  drop_goes n fine =
      changes c groups t see levels P a e operands m in_code fits began e.operands (e.words - n) e.pieces operands
      (take (length m.words - n) m.words) m.touched m.held m.slots m.pieces fine.2 fits.operands_fit
      (let w = fits.layout.words_are in
      let k = fine.0 in
      length-take-le (length m.words - n) m.words (omega arith) ∙ omega arith)
      refl fits.pieces_are

  -- the level of a block whose test held may go
  accepts : (b : ℕ) (blocks : List OpenBlock) → e.blocks ≡ blocks → e.loops ≡ [] → e.pieces ≡ 0
      → InnermostIs blocks (λ block around. (block.number ≡ b) × (block.words ≡ e.words)
      × LeadsTo c groups t (a + 1) (record (changed [] e.words e) { blocks = around }))
      → AcceptsAt c groups t see levels P (a + 1) m
  accepts b [] q loops pieces h = absurd h
  accepts b (block ∷ around) q loops pieces h =
      let i = innermost c t see.process m.calls e.within block around levels
      (subst (λ bs. BodyFits c t see.process m.calls e.within bs levels) q fits.layout.body) in
      let e1 : Entry = at_address (a + 1) (record (changed [] e.words e) { blocks = around }) in
      let none : e1.loops ≡ [] = ap (λ loops. filter (is_in (a + 1)) loops) loops in
      let later : Workspace = record m { touched = accepted m.touched; pieces = []; counters = None ∷ None ∷ [] } in
      let fit : Fits c t see i.others (a + 1) e1 [] later = record {
        operands_fit = tt;
        layout = record {
          words_are = fits.layout.words_are;
          calls_few = fits.layout.calls_few;
          body = i.body;
          heights = heights-accepted m.touched (reverse (map height_of i.others)) (height_of i.level)
              (fits.layout.heights ∙ (ap (λ ls. reverse (map height_of ls)) i.levels_are
              ∙ reverse-append (height_of i.level ∷ []) (map height_of i.others)));
        };
        pieces_are = sym pieces;
        counters_two = refl;
        loops_fit = subst (LoopsFit later) (sym none) tt;
        mode_fits = tt;
      } in
      let x = arrives c t see i.others (a + 1) e1 [] later h.2 fit in
      record {
        level = i.level;
        others = i.others;
        levels_are = i.levels_are;
        entry = x.entry;
        there = x.there;
        operands_none = no_operands x.entry.operands x.fits.operands_fit;
        pieces_none = sym x.fits.pieces_are;
        loops_none = x.loops_are ∙ none;
        mode_is = rank_zero x.entry.mode (let l = x.low in omega arith);
        layout = x.fits.layout;
      }
    where
      no_operands : (os : List (Option ℕ)) → OperandsFit os [] → os ≡ []
      no_operands [] h = refl
      no_operands (o ∷ os) h = absurd h

  pub test_goes : (b : ℕ) → Fine c groups t (Test b) a e → Goes (act c see (Test b) a operands m)
  test_goes b fine =
      top_goes c groups t see levels P m _ e.operands operands _ (λ x rest. cond (is_zero x) (Trapped TestCause) (Accepts (a + 1) m)) fine.3
      fits.operands_fit
      (λ o os x rest q h1 h2. cond_goes c groups t see levels P m _ (is_zero x) (Trapped TestCause) (Accepts (a + 1) m)
      (λ z. clean (may_trap e.mode fine.0))
      (λ z. (clean (may_trap e.mode fine.0), clean (may_trap e.mode fine.0), accepts b e.blocks refl fine.2 fine.1 q.1)))
