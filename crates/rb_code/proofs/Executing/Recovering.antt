-- From the copy of each open level a process stands; and a level that is entered fits.
use Rattle.std.proofs.Common.{◌≡◌, ℕ, ◌+◌, ◌≤◌, List, [], ◌∷◌, ◌++◌, length, ap, sym, ◌∙◌, subst, arith}
use Rattle.rb_meaning.specs.Step.{most_calls}
use Rattle.rb_code.specs.Instructions.Plain.{Code}
use Rattle.rb_code.specs.WordMachine.Workspace.{OpenCall, base_of, part_of}
use Rattle.rb_code.specs.SoundCode.Sound.{OpenBlock, Table, Within}
use Rattle.rb_code.specs.SoundCode.Stands.{BodyFits, LevelFits, Levels, LevelsFit, Opened}
use Rattle.rb_code.specs.SoundCode.StandsInRuns.{AllRecover, Recovers}
use Rattle.rb_code.proofs.Executing.OpenLevels.{at_back}

module _ (c : Code) (t : Table) (p : ℕ) where
  one_recovers : (calls : List OpenCall) (within : Within) (block : OpenBlock) (around : List OpenBlock) (level : Opened) (others : Levels)
      → LevelFits c t within block around (base_of (part_of c p) calls + block.words) calls level
      → BodyFits c t p calls within (block ∷ around) (level ∷ others) → length calls ≤ most_calls → Recovers c t p others level
  one_recovers calls within block around level others f body few = record {
    entry = f.entry;
    there = f.there;
    restart = f.restart;
    words_are = f.words_are
        ∙ (ap (λ cs. base_of (part_of c p) cs + block.words) (sym f.calls_are)
        ∙ ap (λ n. base_of (part_of c p) level.copy.calls + n) (sym f.above_base));
    calls_few = subst (λ cs. length cs ≤ most_calls) (sym f.calls_are) few;
    body = subst (λ cs. BodyFits c t p cs f.entry.within f.entry.blocks (level ∷ others)) (sym f.calls_are)
        (subst (λ w. BodyFits c t p calls w f.entry.blocks (level ∷ others)) (sym f.within_is)
        (subst (λ bs. BodyFits c t p calls within bs (level ∷ others)) (sym f.blocks_are) body));
  }

  -- the levels of one body, and those around it
  in_body : (calls : List OpenCall) (within : Within) (Around : Levels → Type 0) (blocks : List OpenBlock) (levels : Levels)
      → ((bs : List OpenBlock) (ls : Levels) → LevelsFit c t within (base_of (part_of c p) calls) calls bs ls Around
      → BodyFits c t p calls within bs ls)
      → LevelsFit c t within (base_of (part_of c p) calls) calls blocks levels Around → length calls ≤ most_calls
      → ((others : Levels) → Around others → AllRecover c t p others) → AllRecover c t p levels
  in_body calls within Around [] levels body h few rest = rest levels h
  in_body calls within Around (block ∷ around) [] body h few rest = absurd h
  in_body calls within Around (block ∷ around) (level ∷ others) body h few rest = (
    one_recovers calls within block around level others h.0 (body (block ∷ around) (level ∷ others) h) few,
    in_body calls within Around around others body h.1 few rest,
  )

  pub all_recover : (calls : List OpenCall) (within : Within) (blocks : List OpenBlock) (levels : Levels)
      → BodyFits c t p calls within blocks levels → length calls ≤ most_calls → AllRecover c t p levels
  all_recover [] within blocks levels h few =
      in_body [] within (λ others. others ≡ []) blocks levels (λ bs ls k. (h.0, k)) h.1 few
      (λ others e. subst (AllRecover c t p) (sym e) tt)
  all_recover (call ∷ calls) within blocks levels h few =
      in_body (call ∷ calls) within _ blocks levels (λ bs ls k. (h.0, h.1, k)) h.2 few
      (λ others r. at_back c t p _ call.back _ r (λ g q k. all_recover calls g.within g.blocks others k.1 (omega arith)))

  -- of levels that recover the outer ones do
  pub outer_recover : (inner levels : Levels) → AllRecover c t p (inner ++ levels) → AllRecover c t p levels
  outer_recover [] levels h = h
  outer_recover (level ∷ inner) levels h = outer_recover inner levels h.1

  -- one level more
  pub body_entered : (calls : List OpenCall) (within : Within) (block : OpenBlock) (blocks : List OpenBlock) (level : Opened) (levels : Levels)
      → LevelFits c t within block blocks (base_of (part_of c p) calls + block.words) calls level → BodyFits c t p calls within blocks levels
      → BodyFits c t p calls within (block ∷ blocks) (level ∷ levels)
  body_entered [] within block blocks level levels f h = (h.0, (f, h.1))
  body_entered (call ∷ calls) within block blocks level levels f h = (h.0, h.1, (f, h.2))
