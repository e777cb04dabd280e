-- A process that stands goes on standing: as turns are kept and lines released, as a block is entered, and as a copy is put back.
use Rattle.std.proofs.Common.{◌≡◌, ℕ, ◌+◌, ℤ, pos, List, [], ◌∷◌, ◌++◌, length, map, reverse, slice_get, Option, Some, None, refl, ap, sym, ◌∙◌, subst, arith}
use Rattle.std.specs.Option.{unwrap_or}
use Rattle.std.proofs.lemmas.List.{length-replicate, map-append, reverse-append}
use Rattle.rb_cache.specs.Copies.{Level as Touched, entered}
use Rattle.rb_world.specs.Kind.{Facts, Membership, Want, Enters}
use Rattle.rb_world.specs.World.{Level}
use Rattle.rb_code.specs.Instructions.Plain.{Block, Code, Part}
use Rattle.rb_code.specs.WordMachine.Workspace.{OpenCall, base_of, body_place, no_part, part_of}
use Rattle.rb_code.specs.WordMachine.Turn.{Copy, Standing, block_facts, enters, want, wants_behind, wants_there}
use Rattle.rb_code.specs.SoundCode.Sound.{Changed, Entry, Fine, FineAt, Fresh, Has, HasTable, OpenBlock, Table, at_address}
use Rattle.rb_code.specs.SoundCode.Safe.{IsThere}
use Rattle.rb_code.specs.SoundCode.Stands.{BodyFits, IsLaidOut, LevelFits, Levels, RestsAt, Settles, Stands, height_of, inside_out, opened}
use Rattle.rb_code.specs.SoundCode.WellFormed.{ListsChannels}
use Rattle.rb_code.specs.WordMachine.WordKind.{copied, entered_at}
use Rattle.rb_code.specs.WordMachine.WordRun.{opening_standing}
use Rattle.rb_code.specs.declared.instr.Instr.{Instr}
use Rattle.rb_code.specs.declared.instr.Instr.TheVariants.{Turn, Enter, Done}
use Rattle.rb_code.proofs.Executing.InsideOut.{inside_end}
use Rattle.rb_code.proofs.Executing.OpenLevels.{heights_of}
use Rattle.rb_code.proofs.Executing.Recovering.{body_entered}
use Rattle.rb_code.proofs.Executing.StandingSteps.{at_turn}

module _ (c : Code) (t : Table) where
  laid_like : (p : ℕ) (levels more : Levels) (e : Entry) (words ws : List ℤ) (calls : List OpenCall) (touched ts : List Touched)
      → length ws ≡ length words → heights_of ts ≡ heights_of touched → more ≡ levels → IsLaidOut c t p levels e words calls touched
      → IsLaidOut c t p more e ws calls ts
  laid_like p levels more e words ws calls touched ts long heights same h = record {
    words_are = long ∙ h.words_are;
    calls_few = h.calls_few;
    body = subst (λ ls. BodyFits c t p calls e.within e.blocks ls) (sym same) h.body;
    heights = heights ∙ (h.heights ∙ ap (λ ls. reverse (map height_of ls)) (sym same));
  }

  -- with as many words, the same heights, and levels that know the same
  pub stands_like : (s : Standing) (levels more : List (Level Copy)) (ws : List ℤ) (n : ℕ) (hs : List (List ℕ)) (ts : List Touched)
      → length ws ≡ length s.words → heights_of ts ≡ heights_of s.touched → inside_out more ≡ inside_out levels → Stands c t s levels
      → Stands c t (record s { words = ws; last_kept = n; held = hs; touched = ts }) more
  stands_like s levels more ws n hs ts long heights same h = record {
    exists = h.exists;
    rests = h.rests;
    entry = h.entry;
    there = h.there;
    layout = laid_like s.process (inside_out levels) (inside_out more) h.entry s.words ws s.calls s.touched ts long heights same h.layout;
  }

  pub settles_like : (s : Standing) (levels more : List (Level Copy)) (ws : List ℤ) (n : ℕ) (hs : List (List ℕ)) (ts : List Touched)
      → length ws ≡ length s.words → heights_of ts ≡ heights_of s.touched → inside_out more ≡ inside_out levels → Settles c t s levels
      → Settles c t (record s { words = ws; last_kept = n; held = hs; touched = ts }) more
  settles_like s levels more ws n hs ts long heights same h = record {
    exists = h.exists;
    entry = h.entry;
    there = h.there;
    operands_none = h.operands_none;
    pieces_none = h.pieces_none;
    loops_none = h.loops_none;
    mode_is = h.mode_is;
    layout = laid_like s.process (inside_out levels) (inside_out more) h.entry s.words ws s.calls s.touched ts long heights same h.layout;
  }

  -- before the first turn
  pub opening_settles : (groups : List Membership) → HasTable c groups t → (p : ℕ) (part : Part) → slice_get c.processes p ≡ Some part
      → Settles c t (opening_standing p part) []
  opening_settles groups has p part e =
      let is : part_of c p ≡ part = ap (λ o. unwrap_or o no_part) e in
      record {
        exists = subst IsThere (sym e) tt;
        entry = record {
          within = record { process = p; procedure = None };
          operands = [];
          words = 0;
          blocks = [];
          loops = [];
          pieces = 0;
          mode = Changed;
        };
        there = has.mains p part e;
        operands_none = refl;
        pieces_none = refl;
        loops_none = refl;
        mode_is = refl;
        layout = record {
          words_are = length-replicate (body_place part) (pos 0)
              ∙ (ap body_place (sym is) ∙ (let n = body_place (part_of c p) in omega arith));
          calls_few = omega arith;
          body = (refl, refl);
          heights = refl;
        };
      }

-- the block that is entered
module _ (c : Code) (groups : List Membership) (t : Table) (has : HasTable c groups t) (lists : ListsChannels c) (s : Standing)
    (levels : List (Level Copy)) (stands : Stands c t s levels) (facts : Facts) (wants : want c s ≡ Enters facts) where
  record EntersHere : Type 0 where
    turn : slice_get c.instrs s.at ≡ Some Turn
    block : ℕ
    at : slice_get c.instrs (s.at + 1) ≡ Some (Enter block)
    one : Block
    is_block : slice_get c.blocks block ≡ Some one
    facts_are : facts ≡ block_facts block one

  abbrev IsEntry : Want → Type 0
  IsEntry (Enters known) = known ≡ facts
  IsEntry other = ⊥

  enters_here : EntersHere
  enters_here = by (slice_get c.instrs s.at) refl stands.rests (subst IsEntry (sym wants) refl)
    where
      entered_block : slice_get c.instrs s.at ≡ Some Turn → (b : ℕ) → slice_get c.instrs (s.at + 1) ≡ Some (Enter b)
          → (o : Option Block) → slice_get c.blocks b ≡ o → IsEntry (enters b o) → EntersHere
      entered_block turn b e None q h = absurd h
      entered_block turn b e (Some one) q h = record { turn = turn; block = b; at = e; one = one; is_block = q; facts_are = sym h }

      behind : slice_get c.instrs s.at ≡ Some Turn → (o : Option Instr) → slice_get c.instrs (s.at + 1) ≡ o → IsEntry (wants_behind c o)
          → EntersHere
      behind turn None e h = absurd h
      behind turn (Some (Enter b)) e h = entered_block turn b e (slice_get c.blocks b) refl h
      behind turn (Some i) e h = absurd h

      by : (o : Option Instr) → slice_get c.instrs s.at ≡ o → RestsAt o → IsEntry (wants_there c o (slice_get c.instrs (s.at + 1)))
          → EntersHere
      by None e r h = absurd r
      by (Some Turn) e r h = behind e (slice_get c.instrs (s.at + 1)) refl h
      by (Some Done) e r h = absurd h
      by (Some i) e r h = absurd r

  -- what is known at an address that an entry leads to
  record LedTo (a : ℕ) (e : Entry) : Type 0 where
    entry : Entry
    there : t a ≡ Some entry
    within_is : entry.within ≡ e.within
    words_are : entry.words ≡ e.words
    blocks_are : entry.blocks ≡ e.blocks

  led_to : (a : ℕ) (e : Entry) → Has (t a) (at_address a e) → LedTo a e
  led_to a e h = by (t a) refl h
    where
      by : (o : Option Entry) → t a ≡ o → Has o (at_address a e) → LedTo a e
      by None q h = absurd h
      by (Some g) q h = record { entry = g; there = q; within_is = h.within; words_are = h.words; blocks_are = h.blocks }

  -- at the restart of the block, whatever its level's alternate and its last kept turn
  pub entered_stands : (n alternate : ℕ)
      → Stands c t (record (entered_at s) { last_kept = n })
      (levels ++ record { facts = facts; alternate = alternate; used = 0; copy = copied (record (entered_at s) { last_kept = n }) } ∷ [])
  entered_stands n alternate =
      let here = enters_here in
      let g = led_to (s.at + 1) (record stands.entry { mode = Fresh }) (at_turn c groups t has lists s levels stands here.turn).3 in
      let fine : Fine c groups t (Enter here.block) (s.at + 1) g.entry =
      subst (λ o. FineAt c groups t o (s.at + 1) g.entry) here.at (has.each (s.at + 1) g.entry g.there).fine in
      let block : OpenBlock = record { number = here.block; words = g.entry.words } in
      let r = led_to ((s.at + 1) + 1) (record g.entry { operands = []; mode = Changed; blocks = block ∷ g.entry.blocks }) fine.5 in
      let two : (s.at + 1) + 1 ≡ s.at + 2 = omega arith in
      let state : Standing = record (entered_at s) { last_kept = n } in
      let level : Level Copy = record { facts = facts; alternate = alternate; used = 0; copy = copied state } in
      let turn : slice_get c.instrs (s.at + 2) ≡ Some Turn = subst (λ a. slice_get c.instrs a ≡ Some Turn) two fine.3 in
      let there : t (s.at + 2) ≡ Some r.entry = subst (λ a. t a ≡ Some r.entry) two r.there in
      let within : r.entry.within ≡ stands.entry.within = r.within_is ∙ g.within_is in
      let blocks : r.entry.blocks ≡ block ∷ stands.entry.blocks = r.blocks_are ∙ ap (λ bs. block ∷ bs) g.blocks_are in
      let long : length s.words ≡ base_of (part_of c s.process) s.calls + g.entry.words =
      stands.layout.words_are ∙ ap (λ k. base_of (part_of c s.process) s.calls + k) (sym g.words_are) in
      let fits : LevelFits c t stands.entry.within block stands.entry.blocks
      (base_of (part_of c s.process) s.calls + block.words) s.calls (opened level) = record {
        one = here.one;
        is_block = here.is_block;
        facts = here.facts_are;
        words_are = long;
        calls_are = refl;
        restart = turn;
        entry = r.entry;
        there = there;
        within_is = within;
        above_base = r.words_are;
        blocks_are = blocks;
        entered = record { at = s.at + 1; instr = here.at; entry = g.entry; there = g.there; within_is = g.within_is };
      } in
      let body : BodyFits c t s.process s.calls stands.entry.within (block ∷ stands.entry.blocks) (opened level ∷ inside_out levels) =
      body_entered c t s.process s.calls stands.entry.within block stands.entry.blocks (opened level) (inside_out levels) fits stands.layout.body in
      record {
        exists = stands.exists;
        rests = subst RestsAt (sym turn) tt;
        entry = r.entry;
        there = there;
        layout = record {
          words_are = long ∙ ap (λ k. base_of (part_of c s.process) s.calls + k) (sym r.words_are);
          calls_few = stands.layout.calls_few;
          body = subst (BodyFits c t s.process s.calls r.entry.within r.entry.blocks) (sym (inside_end levels level))
              (subst (λ w. BodyFits c t s.process s.calls w r.entry.blocks (opened level ∷ inside_out levels)) (sym within)
              (subst (λ bs. BodyFits c t s.process s.calls stands.entry.within bs (opened level ∷ inside_out levels)) (sym blocks) body));
          heights = map-append _ s.touched (entered (length s.words) ∷ [])
              ∙ (ap (λ hs. hs ++ length s.words ∷ []) stands.layout.heights
              ∙ (sym (reverse-append (length s.words ∷ []) (map height_of (inside_out levels)))
              ∙ ap (λ ls. reverse (map height_of ls)) (sym (inside_end levels level))));
        };
      }
