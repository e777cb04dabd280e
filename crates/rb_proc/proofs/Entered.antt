-- Recovery blocks of a code in memory.
use Rattle.std.proofs.Common.{◌≡◌, ℕ, zero, suc, ◌+◌, ◌<◌, Bool, false, List, [], ◌∷◌, ◌++◌, map, length, refl, ap, sym, ◌∙◌, subst, arith}
use Rattle.std.specs.Prelude.{get_or, slice_get, Option, Some, None}
use Rattle.std.proofs.lemmas.Option.{slice_get_within}
use Rattle.rb_world.specs.Kind.{Want, Enters}
use Rattle.rb_cache.specs.Copies.{entered}
use Rattle.rb_world.specs.World.{status_at}
use Rattle.rb_code.specs.Instructions.Plain.{Block, Code}
use Rattle.rb_code.specs.WordMachine.Turn.{Copy, Standing, enters, want, wants_at, wants_by, wants_there}
use Rattle.rb_code.specs.declared.instr.Instr.{Instr}
use Rattle.rb_code.specs.declared.instr.Instr.TheVariants.{Done, Enter}
use Rattle.rb_recoverable.specs.Contents.{Contents, facts_of}
use Rattle.rb_proc.specs.Entries.{EntersAs, WantsBlock}
use Rattle.rb_proc.specs.ProcessInside.{seen, standing}
use Rattle.rb_proc.specs.Statuses.{status_of}
use Rattle.rb_proc.specs.declared.answers.ProcessStatus.{ProcessStatus}
use Rattle.rb_recoverable.specs.declared.recoverable.BlockFacts.{BlockFacts}

pub mapped_there : {A B : Type 0} (f : A → B) (xs : List A) (k : ℕ) (a : A) → k < length xs → a ≡ get_or xs k a → slice_get (map f xs) k ≡ Some (f a)
mapped_there f [] k a h e = absurd (omega arith)
mapped_there f (x ∷ xs) zero a h e = ap (λ y. Some (f y)) (sym e)
mapped_there f (x ∷ xs) (suc k) a h e = mapped_there f xs k a (omega arith) e

-- the block that a process at an address wants to enter is there, and so is the instruction that enters it
pub record StandsBefore (c : Code) (at b : ℕ) : Type 0 where
  pub next : at + 1 < length c.instrs
  pub there : b < length c.blocks
  pub wants : wants_there c (slice_get c.instrs at) (slice_get c.instrs (at + 1)) ≡ enters b (slice_get c.blocks b)

module _ (c : Code) (b : ℕ) where
  by_block : (k : ℕ) (o : Option Block) → slice_get c.blocks k ≡ o → WantsBlock b (enters k o) → (k ≡ b) × (b < length c.blocks)
  by_block k None e h = absurd h
  by_block k (Some block) e h = (h, subst (λ n. n < length c.blocks) h (slice_get_within c.blocks k block e))

  by_entry : (i : Instr) → WantsBlock b (wants_by c i) → (b < length c.blocks) × (wants_by c i ≡ enters b (slice_get c.blocks b))
  by_entry (Enter k) h =
      let q = by_block k (slice_get c.blocks k) refl h in
      (q.1, ap (λ n. enters n (slice_get c.blocks n)) q.0)
  by_entry _ h = absurd h

  by_next : (i : Instr) (next : Option Instr) → WantsBlock b (wants_at c i next)
      → (j : Instr) × (next ≡ Some j) × WantsBlock b (wants_by c j) × (wants_at c i next ≡ wants_by c j)
  by_next Done next h = absurd h
  by_next _ None h = absurd h
  by_next _ (Some j) h = (j, refl, h, refl)

  module _ (at : ℕ) where
    by_instrs : (one next : Option Instr) → slice_get c.instrs at ≡ one → slice_get c.instrs (at + 1) ≡ next
        → WantsBlock b (wants_there c one next) → StandsBefore c at b
    by_instrs None next e f h = absurd h
    by_instrs (Some i) next e f h =
        let q = by_next i next h in
        let entry = by_entry q.0 q.2 in
        record {
          next = slice_get_within c.instrs (at + 1) q.0 (f ∙ q.1);
          there = entry.0;
          wants =
              ap (λ (o : Option Instr). wants_there c o (slice_get c.instrs (at + 1))) e
              ∙ ap (λ (o : Option Instr). wants_there c (Some i) o) f
              ∙ q.3
              ∙ entry.1;
        }

    pub stands_before : WantsBlock b (wants_there c (slice_get c.instrs at) (slice_get c.instrs (at + 1))) → StandsBefore c at b
    stands_before h = by_instrs (slice_get c.instrs at) (slice_get c.instrs (at + 1)) refl refl h

-- a level was opened for the block that stands next, and the process stands behind its entry
pub entered_so : (c : Code) (r later : Contents) (process at last_kept : ℕ) (at_line : Bool) (before after : ProcessStatus) (one : BlockFacts)
    (alternate turn : ℕ)
    → wants_there c (slice_get c.instrs at) (slice_get c.instrs (at + 1)) ≡ Enters (facts_of one)
    → later ≡ record r {
      touched = r.touched ++ entered (length r.words) ∷ [];
      levels = r.levels ++ record { facts = facts_of one; alternate = alternate; used = 0; copy = record { at = at + 2; words = r.words; calls = r.calls; last_kept = turn } } ∷ [];
    }
    → status_of after ≡ status_at (wants_there c (slice_get c.instrs (at + 2)) (slice_get c.instrs (at + 2 + 1)))
    → EntersAs c (want c (standing r process at last_kept)) alternate turn (seen r process at last_kept at_line before).process
    (seen later process (at + 2) turn false after).process
entered_so c r later process at last_kept at_line before after one alternate turn stands opened told =
    subst
    (λ (w : Want). EntersAs c w alternate turn (seen r process at last_kept at_line before).process
    (seen later process (at + 2) turn false after).process)
    (sym stands) (rw (opened, told) refl)
