-- Sound code can be executed, if 32 bits number its instructions and its alternates.
use Rattle.std.proofs.Common.{◌≡◌, ◌≢◌, ℕ, suc, ◌+◌, ◌-◌, ◌^◌, ◌<◌, ◌≤◌, Bool, true, false, cond, ◌||◌, nat_eq, nat_lt, List, [], ◌∷◌, length, map, slice_get, Some, ap, sym, ◌∙◌, subst, arith}
use Rattle.std.specs.List.{list_all}
use Rattle.std.specs.Option.{unwrap_or}
use Rattle.std.proofs.lemmas.Bool.{ltb-true}
use Rattle.std.proofs.lemmas.List.Elements.{recursion_from_All}
use Rattle.std.proofs.lemmas.List.Sums.{AllPass-from_list_all}
use Rattle.rb_base.specs.Limits.{most_words}
use Rattle.rb_base.specs.declared.edition.Edition.{Edition}
use Rattle.rb_base.specs.declared.edition.Edition.TheVariants.{First, Second}
use Rattle.rb_scope.specs.Spelled.{IsQuotable, is_quotable}
use Rattle.rb_world.specs.Kind.{Ends, Membership}
use Rattle.rb_world.proofs.ListFacts.{slice_get-there}
use Rattle.rb_world.proofs.Erasing.Releasing.SameLinesReleased.{get_mapped}
use Rattle.rb_code.specs.Instructions.Plain.{Block, Code, Part, block}
use Rattle.rb_code.specs.WordMachine.Workspace.{no_part, part_of}
use Rattle.rb_code.specs.Agreement.StandsFor.{channels_from}
use Rattle.rb_code.specs.SoundCode.WellFormed.{IsPart, IsWellFormed}
use Rattle.rb_code.specs.declared.code.BlockCode.{BlockCode}
use Rattle.rb_code.proofs.WholeRuns.ProcessesBegin.{all_there}
use Rattle.rb_proc.specs.Executable.{IsExecutable}
use Rattle.rb_operands.specs.Pieces.{IsText}
use Rattle.rb_machine.specs.AtWork.{HasFewAlternates}

-- a process has no more channels than there are
few_from : (p n : ℕ) (channels : List Ends) → length (channels_from p n channels) ≤ length channels
few_from p n [] = omega arith
few_from p n (ends ∷ others) =
    let h : length (channels_from p (n + 1) others) ≤ length others = few_from p (n + 1) others in
    by (nat_eq ends.sender p || nat_eq ends.receiver p) (few_from p (n + 1) others)
  where
    by : (b : Bool) → length (channels_from p (n + 1) others) ≤ length others
        → length (cond b (n ∷ channels_from p (n + 1) others) (channels_from p (n + 1) others)) ≤ suc (length others)
    by true h = omega arith
    by false h = omega arith

-- both editions have no more words than this
words_few : (edition : Edition) → most_words edition ≤ 4096
words_few First = omega arith
words_few Second = omega arith

-- no byte of a text that may be quoted ends a line
not_end : (b : ℕ) → is_quotable b ≡ true → b ≢ 10
not_end b h e = absurd (ended (subst (λ n. is_quotable n ≡ true) e h))
  where
    ended : is_quotable 10 ≡ true → ⊥
    ended h = cc

quotable_line : (text : List ℕ) → IsQuotable text → IsText text
quotable_line text h = record {
  short = h.1;
  line = λ k d within. not_end _ (AllPass-from_list_all is_quotable text h.0 k d within);
}

module _ (c : Code) (groups : List Membership) (well : IsWellFormed c groups) where
  -- the part of a process
  part_is : (p : ℕ) → p < length c.processes → (part : Part) × (slice_get c.processes p ≡ Some part) × (part_of c p ≡ part)
  part_is p h =
      let there = slice_get-there c.processes p h in
      (there.0, there.1, ap (λ o. unwrap_or o no_part) there.1)

  channels_few : (p : ℕ) → p < length c.processes → length (part_of c p).channels ≤ 64
  channels_few p h =
      let is = part_is p h in
      let few = few_from p 0 c.channels in
      let same = ap length (ap (λ (part : Part). part.channels) is.2 ∙ well.lists p is.0 is.1) in
      omega (arith, well.few_channels)

  pub is_executable : length c.instrs < 2 ^ 32 → HasFewAlternates c → IsExecutable c
  is_executable numbered few = record {
    addresses = numbered;
    texts = recursion_from_All IsText c.texts (λ k d h. quotable_line _ (well.texts k d h));
    places = λ p h. omega (arith, channels_few p h, words_few c.edition);
    words = λ p h.
        let is = part_is p h in
        subst (λ (part : Part). part.words ≤ most_words c.edition) (sym is.2) (all_there (IsPart c) c.processes p is.0 well.processes is.1).words;
    alternates = λ b block there. omega (arith, few b block there);
  }

-- of blocks in memory it was told that none has too many alternates
pub few_alternates : (blocks : List BlockCode) → list_all (λ (one : BlockCode). nat_lt (length one.alternates.items) (2 ^ 32 - 1)) blocks ≡ true
    → (b : ℕ) (one : Block) → slice_get (map block blocks) b ≡ Some one → length one.alternates < 2 ^ 32 - 1
few_alternates blocks h b one there =
    let image = get_mapped block blocks b one there in
    let few = all_there (λ (held : BlockCode). nat_lt (length held.alternates.items) (2 ^ 32 - 1) ≡ true) blocks b image.origin
    (AllPass-from_list_all (λ (held : BlockCode). nat_lt (length held.alternates.items) (2 ^ 32 - 1)) blocks h) image.there in
    subst (λ (plain : Block). length plain.alternates < 2 ^ 32 - 1) image.same (ltb-true (length image.origin.alternates.items) (2 ^ 32 - 1) few)
