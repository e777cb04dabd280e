-- The calls of the innermost level's entry stay open within a turn, and the words never are none.
use Rattle.std.proofs.Common.{◌≡◌, ℕ, zero, suc, ◌+◌, ◌<◌, ◌≤◌, ℤ, List, [], ◌∷◌, length, map, slice_get, option_map, Option, Some, None, refl, ap, sym, ◌∙◌, subst, arith}
use Rattle.std.proofs.lemmas.Option.{slice_get_within}
use Rattle.rb_world.specs.Kind.{Membership}
use Rattle.rb_world.specs.World.{Level, copy_of, last_of}
use Rattle.rb_world.proofs.ListFacts.{none_some, some_same}
use Rattle.rb_code.specs.Instructions.Plain.{Code}
use Rattle.rb_code.specs.WordMachine.Workspace.{Counting, Workspace, OpenCall, base_of, body_place, part_of}
use Rattle.rb_code.specs.WordMachine.Act.{Accepts, Going, Outcome, Sight, Stopped, Trapped, Unfinished, act, act_at, here}
use Rattle.rb_code.specs.WordMachine.Turn.{Copy, Standing, memory_of, most_steps, sight}
use Rattle.rb_code.specs.SoundCode.Sound.{Mode, MayPut, MayTake, Entry, Fine, FineAt, HasTable, OpenBlock, Table, Within}
use Rattle.rb_code.specs.SoundCode.Safe.{IsThere}
use Rattle.rb_code.specs.SoundCode.Stands.{IsAmong, BodyFits, Fits, IsLaidOut, Levels, LevelsFit, LoopsFit, ModeFits, OperandsFit, Opened, ReturnsTo, Settles, inside_out, opened}
use Rattle.rb_code.specs.SoundCode.WellFormed.{ListsChannels}
use Rattle.rb_code.specs.SoundCode.Stays.{CursorStays, HasEnough, SoundSettlingStays, SoundStepsStay, Stays, StaysOn, entry_calls}
use Rattle.rb_code.specs.declared.instr.Instr.{Instr}
use Rattle.rb_code.specs.declared.instr.Instr.TheVariants.{Put, Take, Turn}
use Rattle.rb_code.proofs.InWords.Channels.{receives, sends}
use Rattle.rb_code.proofs.Executing.OpenLevels.{bases_rise}
use Rattle.rb_code.proofs.Looping.OpenLoops.{began_here}
use Rattle.rb_code.proofs.Executing.LastOf.{former_is, last_level, reverse_none}
use Rattle.rb_code.proofs.Looping.LoopSteps.{left_at}
use Rattle.rb_code.proofs.Executing.Needs.{former_words}
use Rattle.rb_code.proofs.Executing.Weaker.{rank}
use Rattle.rb_code.proofs.Executing.Progress.{Progress, left_from, potential}
use Rattle.rb_code.proofs.Executing.Safety.{From, from_here}
use Rattle.rb_code.proofs.Executing.Served.{is_turn, met}
use Rattle.rb_code.proofs.Executing.StandingSteps as standing
use Rattle.rb_code.proofs.Executing.Steps.{goes}

-- the calls of the innermost level's entry
abbrev pub former_calls : Levels → ℕ
former_calls [] = 0
former_calls (level ∷ levels) = length level.copy.calls

module _ (c : Code) (t : Table) (p : ℕ) where
  -- in the main body no level has a call
  main_calls : (within : Within) (base : ℕ) (blocks : List OpenBlock) (levels : Levels)
      → LevelsFit c t within base [] blocks levels (λ others. others ≡ []) → former_calls levels ≤ 0
  main_calls within base [] levels h = subst (λ ls. former_calls ls ≤ 0) (sym h) (omega arith)
  main_calls within base (block ∷ around) [] h = absurd h
  main_calls within base (block ∷ around) (level ∷ levels) h = let e = ap length h.0.calls_are in omega arith

  -- levels have the calls of their bodies
  pub body_calls : (calls : List OpenCall) (within : Within) (blocks : List OpenBlock) (levels : Levels)
      → BodyFits c t p calls within blocks levels → former_calls levels ≤ length calls
  body_calls [] within blocks levels h = main_calls within (body_place (part_of c p)) blocks levels h.1
  body_calls (call ∷ calls) within (block ∷ around) [] h = absurd h.2
  body_calls (call ∷ calls) within (block ∷ around) (level ∷ levels) h = let e = ap length h.2.0.calls_are in omega arith
  body_calls (call ∷ calls) within [] levels h =
      let k = back (λ w bs ls. body_calls calls w bs ls) (t call.back) h.2 in omega arith
    where
      back : ((w : Within) (bs : List OpenBlock) (ls : Levels) → BodyFits c t p calls w bs ls → former_calls ls ≤ length calls)
          → (o : Option Entry)
          → ReturnsTo o (λ e. (call.base ≡ base_of (part_of c p) calls + e.words) × BodyFits c t p calls e.within e.blocks levels)
          → former_calls levels ≤ length calls
      back rest None r = absurd r
      back rest (Some e) r = rest e.within e.blocks levels r.4.1

-- where a process settles
pub settling_fits : (c : Code) (t : Table) (s : Standing) (levels : List (Level Copy)) (see : Sight) → see.process ≡ s.process
    → (h : Settles c t s levels) → Fits c t see (inside_out levels) s.at h.entry [] (memory_of s [])
settling_fits c t s levels see same h = record {
  operands_fit = subst (λ os. OperandsFit os []) (sym h.operands_none) tt;
  layout = subst (λ p. IsLaidOut c t p (inside_out levels) h.entry s.words s.calls s.touched) (sym same) h.layout;
  pieces_are = sym h.pieces_none;
  counters_two = refl;
  loops_fit = subst (LoopsFit (memory_of s [])) (sym h.loops_none) tt;
  mode_fits = subst (ModeFits c see s.at) (sym h.mode_is) tt;
}

module _ (c : Code) (groups : List Membership) (t : Table) (see : Sight) (levels : Levels) (start : List ℤ)
    (has : HasTable c groups t) (lists : ListsChannels c) (exists : IsThere (slice_get c.processes see.process))
    (former : see.prior ≡ former_words levels) where
  -- the words are those of the beginning
  abbrev pub Same : Workspace → Type 0
  Same m = m.words ≡ start

  pub keeps : (m : Workspace) (pieces : List (List ℕ)) (counters : List (Option Counting)) → Same m
      → Same (record m { pieces = pieces; counters = counters })
  keeps m pieces counters h = h

  -- where a process stands
  enough_here : (a : ℕ) (e : Entry) (xs : List ℤ) (m : Workspace) → Fits c t see levels a e xs m → HasEnough (former_calls levels) m
  enough_here a e xs m fits =
      let up = bases_rise c t see.process m.calls e.within e.blocks levels fits.layout.body in
      let long = fits.layout.words_are in
      record {
        calls_stay = body_calls c t see.process m.calls e.within e.blocks levels fits.layout.body;
        words_stay = omega arith;
      }

  -- a cursor is used before anything is changed
  among : (a channel : ℕ) (mode : Mode) → mode ≡ MayPut channel → ModeFits c see a mode → IsAmong channel (here c see).channels
  among a channel mode e h = subst (ModeFits c see a) e h

  among_taken : (a channel : ℕ) (mode : Mode) → mode ≡ MayTake channel → ModeFits c see a mode → IsAmong channel (here c see).channels
  among_taken a channel mode e h = let k : ModeFits c see a (MayTake channel) = subst (ModeFits c see a) e h in k.0

  cursor_here : (a : ℕ) (e : Entry) (xs : List ℤ) (m : Workspace) (i : Instr) → Fits c t see levels a e xs m → (2 ≤ rank e.mode → Same m)
      → Fine c groups t i a e → CursorStays c see (former_calls levels) start (Some i) m.words
  cursor_here a e xs m (Put channel) fits clean fine =
      (among a channel e.mode fine.0 fits.mode_fits, clean (let r = ap rank fine.0 in omega arith))
  cursor_here a e xs m (Take channel) fits clean fine =
      (among_taken a channel e.mode fine.0 fits.mode_fits, clean (let r = ap rank fine.0 in omega arith))
  cursor_here a e xs m i fits clean fine = tt

  cursor_at : (a : ℕ) (e : Entry) (xs : List ℤ) (m : Workspace) (o : Option Instr) → Fits c t see levels a e xs m → (2 ≤ rank e.mode → Same m)
      → FineAt c groups t o a e → CursorStays c see (former_calls levels) start o m.words
  cursor_at a e xs m None fits clean fine = absurd fine
  cursor_at a e xs m (Some i) fits clean fine = cursor_here a e xs m i fits clean fine

  abbrev pub Staying : ℕ → ℕ → List ℤ → Workspace → Type 0
  Staying = Stays c see (former_calls levels) start

  on_stays : (n most : ℕ) (m : Workspace) (o : Outcome) → most < suc n → Progress c groups t see levels Same m most o
      → From c groups t see levels Same keeps has lists exists former (Staying n) n → StaysOn c see (former_calls levels) start o (Staying n)
  on_stays n most m (Going b xs later) lt p next = next b p.entry xs later p.there p.fits p.clean (let d = p.less in omega arith)
  on_stays n most m (Stopped b later) lt p next = tt
  on_stays n most m (Accepts b later) lt p next = tt
  on_stays n most m (Trapped cause) lt p next = tt
  on_stays n most m Unfinished lt p next = tt

  pub stays : (n : ℕ) → From c groups t see levels Same keeps has lists exists former (Staying n) n
  stays zero a e xs m q fits clean lt = absurd (omega arith)
  stays (suc n) a e xs m q fits clean lt = (
    (enough_here a e xs m fits, cursor_at a e xs m (slice_get c.instrs a) fits clean (has.each a e q).fine),
    by (stays n) (slice_get c.instrs a) refl (has.each a e q).fine lt,
  )
    where
      by : From c groups t see levels Same keeps has lists exists former (Staying n) n → (o : Option Instr) → slice_get c.instrs a ≡ o
          → FineAt c groups t o a e
          → potential c groups t see levels Same (rank e.mode) m.calls (left_from o (left_at (length c.instrs) m e.loops a)) < suc n
          → StaysOn c see (former_calls levels) start (act_at c see o a xs m) (Staying n)
      by next None at fine low = tt
      by next (Some Turn) at fine low = tt
      by next (Some i) at fine low =
          on_stays n _ m (act c see i a xs m) low
          (goes c groups t see levels Same keeps (sends c lists see.process exists) (receives c lists see.process exists) a e xs m
          (slice_get_within c.instrs a i at) q fits (began_here a e.loops (has.each a e q).around) clean i at fine)
          next

-- the calls of the innermost copy are those of the innermost level
pub former_calls_are : (levels : List (Level Copy)) → entry_calls (copy_of (last_of levels)) ≡ former_calls (inside_out levels)
former_calls_are levels = by (inside_out levels) refl (last_of levels) refl
  where
    none_mapped : (l : List (Level Copy)) → map opened l ≡ [] → l ≡ []
    none_mapped [] e = refl
    none_mapped (x ∷ l) e = absurd (let n = ap length e in omega arith)

    by : (inner : Levels) → inside_out levels ≡ inner → (o : Option (Level Copy)) → last_of levels ≡ o
        → entry_calls (copy_of (last_of levels)) ≡ former_calls inner
    by [] e o f = ap (λ l. entry_calls (copy_of (last_of l))) (none_mapped levels (reverse_none (map opened levels) e))
    by (x ∷ others) e None f = absurd (none_some (sym (ap (option_map opened) f) ∙ last_level levels x others e))
    by (x ∷ others) e (Some level) f =
        ap (λ p. entry_calls (copy_of p)) f
        ∙ ap (λ (y : Opened). length y.copy.calls) (some_same (sym (ap (option_map opened) f) ∙ last_level levels x others e))

pub steps_stay : SoundStepsStay
steps_stay c groups s levels alternate message slots h serves =
    let m = memory_of s slots in
    let see = sight s alternate (copy_of (last_of levels)) message in
    let turn = is_turn c groups h.table h.has h.lists s levels h.stands alternate message serves in
    let x = standing.behind c groups h.table h.has h.lists s levels h.stands turn slots see refl
    (met c groups h.table h.has h.lists s levels h.stands alternate message serves) in
    subst (λ k. Stays c see k s.words (most_steps c) (s.at + 1) [] m) (sym (former_calls_are levels))
    (from_here c groups h.table see (inside_out levels) (λ later. later.words ≡ s.words) (λ later pieces counters k. k) h.has h.lists
    h.stands.exists (former_is levels) (Stays c see (former_calls (inside_out levels)) s.words (most_steps c))
    (stays c groups h.table see (inside_out levels) s.words h.has h.lists h.stands.exists (former_is levels) (most_steps c))
    (s.at + 1) x.entry [] m x.there x.fits (λ k. refl))

pub settling_stays : SoundSettlingStays
settling_stays c groups s levels start h =
    let m = memory_of s [] in
    let see = sight s 0 (copy_of (last_of levels)) None in
    subst (λ k. Stays c see k start (most_steps c) s.at [] m) (sym (former_calls_are levels))
    (from_here c groups h.table see (inside_out levels) (λ later. later.words ≡ start) (λ later pieces counters k. k) h.has h.lists
    h.settles.exists (former_is levels) (Stays c see (former_calls (inside_out levels)) start (most_steps c))
    (stays c groups h.table see (inside_out levels) start h.has h.lists h.settles.exists (former_is levels) (most_steps c))
    s.at h.settles.entry [] m h.settles.there (settling_fits c h.table s levels see refl h.settles)
    (λ k. absurd (let e = ap rank h.settles.mode_is in omega arith)))
