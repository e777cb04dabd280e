-- The start of an alternate does the same in the meaning and in the machine, and so does `fail`.
use Rattle.std.proofs.Common.{◌≡◌, inl, inr, ℕ, zero, suc, ◌+◌, List, [], ◌∷◌, slice_get, Option, Some, None, refl, sym, ap, ◌∙◌, subst}
use Rattle.rb_base.specs.declared.event.Cause.TheVariants.{Fail as FailCause}
use Rattle.rb_world.proofs.ListFacts.{none_some, some_same}
use Rattle.rb_syntax.specs.Tree.{Alternates, NoAlternate, Alternate, Body, Failure, RecoveryBlock, Recovers, Tree}
use Rattle.rb_meaning.specs.State.{Item, State, TestOf}
use Rattle.rb_meaning.specs.Step.{alternate_number, alternates_in, performs, pushes, starts_body}
use Rattle.rb_scope.specs.Frames.{Frames}
use Rattle.rb_scope.specs.InFrames.{AlternatesInFrames, BodyInFrames, RecoveryInFrames}
use Rattle.rb_scope.specs.declared.slot.Slot.{Slot}
use Rattle.rb_code.specs.Instructions.Plain.{Block, Code}
use Rattle.rb_code.specs.WordMachine.Workspace.{Workspace}
use Rattle.rb_code.specs.WordMachine.Act.{Going, Sight, Trapped, alternate_address, if_there}
use Rattle.rb_code.specs.Agreement.Forms.{CommandForm, Owner}
use Rattle.rb_code.specs.declared.instr.Instr.TheVariants.{Fail, Start}
use Rattle.rb_code.proofs.Agreeing.Placed.{AlternatesPlaced, BodyPlaced, CommandPlaced, OthersPlaced}
use Rattle.rb_code.proofs.Agreeing.Leads.{ends, goes}
use Rattle.rb_code.proofs.InWords.LaidOut.{stacks_of}
use Rattle.rb_code.proofs.Agreeing.TextLeft.{Left, Onward, StartCode, TestCode, owner_of}
use Rattle.rb_code.proofs.Agreeing.Stores.{frames_of}
use Rattle.rb_code.proofs.Agreeing.Blocks.{block_took}
use Rattle.rb_code.proofs.Agreeing.StepOutcomes.{HasCursors, InTurn, Took, took_from}

-- An alternate of a block stands at its address, and behind it the acceptance test, or a jump to it.
pub record IsAlternate (tree : Tree) (slots : List Slot) (owner : Owner) (c : Code) (frames : Frames) (addresses : List ℕ)
    (test k : ℕ) (body : Body) : Type 0 where
  pub first : ℕ
  pub end : ℕ
  pub entry : slice_get addresses k ≡ Some first
  pub code : BodyPlaced tree slots owner body c first end
  pub on : Onward c end test
  pub in_frames : BodyInFrames tree slots owner.number frames body

module _ (tree : Tree) (slots : List Slot) (owner : Owner) (c : Code) (frames : Frames) (test : ℕ) where
  abbrev At : List ℕ → ℕ → Body → Type 0
  At addresses k body = IsAlternate tree slots owner c frames addresses test k body

  -- one further on in the list
  one_on : (a : ℕ) (addresses more : List ℕ) (k : ℕ) (body : Body) → addresses ≡ a ∷ more → At more k body → At addresses (suc k) body
  one_on a addresses more k body e is = record {
    first = is.first;
    end = is.end;
    entry = ap (λ xs. slice_get xs (suc k)) e ∙ is.entry;
    code = is.code;
    on = is.on;
    in_frames = is.in_frames;
  }

  -- behind an alternate its test stands, or a jump to it
  others_onward : (others : Alternates) (addresses : List ℕ) (a b : ℕ)
      → OthersPlaced tree slots owner others addresses test c a b → b ≡ test → Onward c a test
  unfolding CommandForm
  others_onward NoAlternate addresses a b code e = inl (sym e ∙ code.1)
  others_onward (Alternate body more) addresses a b (d, jump, code) e = inr jump.0

  mutual
    unfolding CommandForm

    pub alternate_at : (alternates : Alternates) (addresses : List ℕ) (a b k : ℕ) (body : Body)
        → AlternatesPlaced tree slots owner alternates addresses test c a b
        → b ≡ test → AlternatesInFrames tree slots owner.number frames alternates
        → alternate_number (suc k) alternates ≡ Some body → At addresses k body
    alternate_at NoAlternate addresses a b k body code e is n = absurd (none_some n)
    alternate_at (Alternate first others) addresses a b zero body (more, same, (d, code, rest)) e is n =
        let it : first ≡ body = some_same n in
        record {
          first = a;
          end = d;
          entry = ap (λ xs. slice_get xs 0) same;
          code = subst (λ x. BodyPlaced tree slots owner x c a d) it code;
          on = others_onward others more d b rest e;
          in_frames = subst (λ x. BodyInFrames tree slots owner.number frames x) it is.0;
        }
    alternate_at (Alternate first others) addresses a b (suc k) body (more, same, (d, code, rest)) e is n =
        one_on a addresses more k body same (other_at others more d b k body rest e is.1 n)

    other_at : (others : Alternates) (addresses : List ℕ) (a b k : ℕ) (body : Body) → OthersPlaced tree slots owner others addresses test c a b
        → b ≡ test → AlternatesInFrames tree slots owner.number frames others → alternate_number (suc k) others ≡ Some body → At addresses k body
    other_at NoAlternate addresses a b k body code e is n = absurd (none_some n)
    other_at (Alternate first others) addresses a b zero body (h, jump, (more, same, (d, code, rest))) e is n =
        let it : first ≡ body = some_same n in
        record {
          first = h;
          end = d;
          entry = ap (λ xs. slice_get xs 0) same;
          code = subst (λ x. BodyPlaced tree slots owner x c h d) it code;
          on = others_onward others more d b rest e;
          in_frames = subst (λ x. BodyInFrames tree slots owner.number frames x) it is.0;
        }
    other_at (Alternate first others) addresses a b (suc k) body (h, jump, (more, same, (d, code, rest))) e is n =
        one_on h addresses more k body same (other_at others more d b k body rest e is.1 n)

  -- a block that has no such alternate has no address for it
  mutual
    unfolding CommandForm

    pub no_alternate_at : (alternates : Alternates) (addresses : List ℕ) (a b k : ℕ) → AlternatesPlaced tree slots owner alternates addresses test c a b
        → alternate_number (suc k) alternates ≡ None → slice_get addresses k ≡ None
    no_alternate_at NoAlternate addresses a b k code n = ap (λ xs. slice_get xs k) code.0
    no_alternate_at (Alternate first others) addresses a b zero code n = absurd (none_some (sym n))
    no_alternate_at (Alternate first others) addresses a b (suc k) (more, same, (d, code, rest)) n =
        ap (λ xs. slice_get xs (suc k)) same ∙ no_other_at others more d b k rest n

    no_other_at : (others : Alternates) (addresses : List ℕ) (a b k : ℕ) → OthersPlaced tree slots owner others addresses test c a b
        → alternate_number (suc k) others ≡ None → slice_get addresses k ≡ None
    no_other_at NoAlternate addresses a b k code n = ap (λ xs. slice_get xs k) code.0
    no_other_at (Alternate first others) addresses a b zero code n = absurd (none_some (sym n))
    no_other_at (Alternate first others) addresses a b (suc k) (h, jump, (more, same, (d, code, rest))) n =
        ap (λ xs. slice_get xs (suc k)) same ∙ no_other_at others more d b k rest n

module _ (tree : Tree) (slots : List Slot) (c : Code) (see : Sight) (has : HasCursors c see.process) (s : State)
    (m : Workspace) (turn : InTurn tree slots c see has s m) where
  pub failure_took : (rest : List Item) (a b : ℕ) → CommandPlaced tree slots (owner_of tree see.process) Failure c a b
      → Took tree slots c see has (a + 1) [] m (λ later. m.slots) (performs tree see.message s rest Failure)
  unfolding CommandForm
  failure_took rest a b (d, begin, code) =
      ends c see Fail (a + 1) [] m (Trapped FailCause) (subst (λ z. slice_get c.instrs z ≡ Some Fail) begin.1 code.0) refl refl

  -- by the alternate that is started
  started : (number : ℕ) (blk : Block) (alternates : Alternates) (block : RecoveryBlock) (rest : List Item) (f h end n : ℕ)
      → slice_get c.blocks number ≡ Some blk
      → slice_get c.instrs f ≡ Some (Start number) → see.alternate ≡ n
      → AlternatesPlaced tree slots (owner_of tree see.process) alternates blk.alternates blk.test c h end
      → end ≡ blk.test → AlternatesInFrames tree slots see.process (frames_of tree slots c see has s) alternates
      → Left tree slots c see.process (stacks_of s.environment.calls) (TestOf block ∷ rest) m.calls blk.test
      → (o : Option Body) → alternate_number n alternates ≡ o
      → Took tree slots c see has f [] m (λ later. m.slots) (starts_body c.edition block rest s o)
  started number blk alternates block rest f h end n there instr at code is_end is left None e =
      ends c see (Start number) f [] m (Trapped FailCause) instr
      (ap (λ o. if_there (alternate_address o see.alternate) (λ at. Going at [] m)) there
      ∙ ap (λ k. if_there (alternate_address (Some blk) k) (λ at. Going at [] m)) at
      ∙ ap (λ o. if_there o (λ at. Going at [] m)) (by n e)) refl
    where
      by : (n : ℕ) → alternate_number n alternates ≡ None → alternate_address (Some blk) n ≡ None
      by zero e = refl
      by (suc k) e =
          no_alternate_at tree slots (owner_of tree see.process) c
          (frames_of tree slots c see has s) blk.test alternates blk.alternates h end k code e
  started number blk alternates block rest f h end zero there instr at code is_end is left (Some body) e = absurd (none_zero alternates e)
    where
      none_zero : (alternates : Alternates) → alternate_number zero alternates ≡ Some body → ⊥
      none_zero NoAlternate e = none_some e
      none_zero (Alternate first others) e = none_some e
  started number blk alternates block rest f h end (suc k) there instr at code is_end is left (Some body) e =
      let it = alternate_at tree slots (owner_of tree see.process) c
      (frames_of tree slots c see has s) blk.test alternates blk.alternates h end k body code is_end is e in
      took_from tree slots c see has f it.first [] [] m m (λ later. m.slots) (pushes c.edition body (TestOf block ∷ rest) s)
      (goes c see (Start number) f it.first [] [] m m instr
      (ap (λ o. if_there (alternate_address o see.alternate) (λ at. Going at [] m)) there
      ∙ ap (λ k. if_there (alternate_address (Some blk) k) (λ at. Going at [] m)) at
      ∙ ap (λ o. if_there o (λ at. Going at [] m)) it.entry))
      (block_took tree slots c see has s m turn body (TestOf block ∷ rest) it.first it.end blk.test it.code it.in_frames it.on left)

  pub start_took : c.edition ≡ tree.edition → (block : RecoveryBlock) (rest : List Item) (a b : ℕ)
      → StartCode tree slots (owner_of tree see.process) block c a b
      → RecoveryInFrames tree slots see.process (frames_of tree slots c see has s) block
      → Left tree slots c see.process (stacks_of s.environment.calls) rest m.calls b
      → Took tree slots c see has (a + 1) [] m (λ later. m.slots)
      (starts_body tree.edition block rest s (alternate_number see.alternate (alternates_in block)))
  start_took edition (Recovers number conversation place test bound alternates) rest a b
      (blk, there, (d, tells, (e, at_restart, (f, turn1, (g, start, (h, code, (i, at_test, (j, turn2, (k, test_code, tests))))))))) is left =
      let block = Recovers number conversation place test bound alternates in
      let begin : f ≡ a + 1 = turn1.1 ∙ ap (λ z. z + 1) (at_restart.1 ∙ tells.1) in
      subst (λ x. Took tree slots c see has (a + 1) [] m (λ later. m.slots)
      (starts_body x block rest s (alternate_number see.alternate alternates))) edition
      (started number blk alternates block rest (a + 1) g h see.alternate there
      (subst (λ z. slice_get c.instrs z ≡ Some (Start number)) begin start.0) refl code at_test.0 is.2 (
        b,
        (subst (λ z. TestCode tree slots block c z b) (at_test.1 ∙ at_test.0)
            (j, turn2, (k, test_code, tests))),
        is.1,
        left,
      )
      (alternate_number see.alternate alternates) refl)
