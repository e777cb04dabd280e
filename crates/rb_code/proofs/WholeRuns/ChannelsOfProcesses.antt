-- In code that stands for a nested and resolved tree each process lists its channels, and so has a cursor for each of which it is an end.
use Rattle.std.proofs.Common.{◌≡◌, ◌⊎◌, inl, inr, ◌<◌, ℕ, zero, suc, Bool, true, not, List, [], ◌∷◌, length, option_map, slice_get, Option, Some, None, refl, sym, ap, ◌∙◌, subst, eq-eqb, true≢false, arith}
use Rattle.std.specs.List.{list_all}
use Rattle.std.proofs.lemmas.Option.{slice_get-map}
use Rattle.rb_syntax.specs.Tree.{ChannelDeclaration, ProcessDeclaration, Tree}
use Rattle.rb_world.specs.Kind.{Ends}
use Rattle.rb_world.proofs.ListFacts.{first_holds, none_some, second_holds, some_same}
use Rattle.rb_meaning.specs.Groups.{channels_of, ends_of}
use Rattle.rb_meaning.specs.Nesting.{IsNested, keeps_n12}
use Rattle.rb_scope.specs.InFrames.{ChannelInFrames, Resolved}
use Rattle.rb_scope.specs.declared.slot.Slot.{Slot}
use Rattle.rb_code.specs.Instructions.Plain.{Code, Part}
use Rattle.rb_code.specs.SoundCode.Sound.{IsReceiver, IsSender}
use Rattle.rb_code.specs.SoundCode.Safe.{IsThere}
use Rattle.rb_code.specs.SoundCode.Stands.{IsAmong}
use Rattle.rb_code.specs.WordMachine.Workspace.{part_of}
use Rattle.rb_code.specs.Agreement.StandsFor.{StandsFor, channels_from}
use Rattle.rb_code.specs.SoundCode.WellFormed.{ListsChannels}
use Rattle.rb_code.proofs.InWords.Channels.{receives, sends}
use Rattle.rb_code.proofs.Agreeing.StepOutcomes.{HasCursors}
use Rattle.rb_code.proofs.WholeRuns.Openings.{AsMany, parts_stand}
use Rattle.rb_code.proofs.WholeRuns.ProcessesBegin.{all_there, stands_at}

-- as many parts as processes: where one list has an element, the other has one
process_for : (processes : List ProcessDeclaration) (parts : List Part) (p : ℕ) (part : Part) → AsMany processes parts → slice_get parts p ≡ Some part
    → (process : ProcessDeclaration) × (slice_get processes p ≡ Some process)
process_for [] [] p part many e = absurd (none_some e)
process_for [] (one ∷ parts) p part many e = absurd many
process_for (process ∷ processes) [] p part many e = absurd many
process_for (process ∷ processes) (one ∷ parts) zero part many e = (process, refl)
process_for (process ∷ processes) (one ∷ parts) (suc p) part many e = process_for processes parts p part many.1 e

part_for : (processes : List ProcessDeclaration) (parts : List Part) (p : ℕ) → AsMany processes parts → p < length processes
    → (part : Part) × (slice_get parts p ≡ Some part)
part_for [] parts p many below = absurd (omega (arith, below))
part_for (process ∷ processes) [] p many below = absurd many
part_for (process ∷ processes) (one ∷ parts) zero many below = (one, refl)
part_for (process ∷ processes) (one ∷ parts) (suc p) many below = part_for processes parts p many.1 (omega (arith, below))

-- a test that holds of all
pub holds_at : {A : Type 0} (test : A → Bool) (xs : List A) (i : ℕ) (x : A) → list_all test xs ≡ true → slice_get xs i ≡ Some x → test x ≡ true
holds_at test [] i x all e = absurd (none_some e)
holds_at test (y ∷ xs) zero x all e = ap test (sym (some_same e)) ∙ first_holds (test y) (list_all test xs) all
holds_at test (y ∷ xs) (suc i) x all e = holds_at test xs i x (second_holds (test y) (list_all test xs) all) e

-- a channel that is declared
declared_by : (tree : Tree) (o : Option ChannelDeclaration) (ends : Ends) → option_map (ends_of tree) o ≡ Some ends
    → (channel : ChannelDeclaration) × (o ≡ Some channel) × (ends_of tree channel ≡ ends)
declared_by tree None ends e = absurd (none_some e)
declared_by tree (Some channel) ends e = (channel, refl, some_same e)

module _ (tree : Tree) (slots : List Slot) (c : Code) (stands : StandsFor tree slots c) (nested : IsNested tree)
    (resolved : Resolved tree slots) where
  as_many : AsMany tree.processes c.processes
  as_many = parts_stand tree slots c 0 0 (length c.instrs) tree.processes c.processes stands.instrs_are

  pub lists_channels : ListsChannels c
  lists_channels p part e =
      let found = process_for tree.processes c.processes p part as_many e in
      let at = stands_at tree slots c stands p found.0 part found.1 e in
      at.code.0.channels_are ∙ ap (channels_from p 0) (sym stands.channels_are)

  is_there : (o : Option Part) (part : Part) → o ≡ Some part → IsThere o
  is_there None part e = absurd (none_some e)
  is_there (Some one) part e = tt

  ends_within : (channel : ℕ) (ends : Ends) → slice_get c.channels channel ≡ Some ends
      → (ends.sender < length tree.processes) × (ends.receiver < length tree.processes)
  ends_within channel ends e =
      let found = declared_by tree (slice_get tree.channels channel) ends
      (sym (slice_get-map (ends_of tree) tree.channels channel)
      ∙ ap (λ (channels : List Ends). slice_get channels channel) (sym stands.channels_are) ∙ e) in
      let inside : ChannelInFrames tree slots found.0 =
      all_there (ChannelInFrames tree slots) tree.channels channel found.0 resolved.channels found.1 in (
        subst (λ (x : Ends). x.sender < length tree.processes) found.2 inside.sender.there,
        subst (λ (x : Ends). x.receiver < length tree.processes) found.2 inside.receiver.there,
      )

  process_there : (p : ℕ) → p < length tree.processes → IsThere (slice_get c.processes p)
  process_there p below = let found = part_for tree.processes c.processes p as_many below in is_there (slice_get c.processes p) found.0 found.1

  cursor_there : (p channel : ℕ) (ends : Ends) → slice_get c.channels channel ≡ Some ends → (ends.sender ≡ p) ⊎ (ends.receiver ≡ p)
      → IsAmong channel (part_of c p).channels
  cursor_there p channel ends e (inl own) =
      sends c lists_channels p (process_there p (subst (λ (n : ℕ). n < length tree.processes) own (ends_within channel ends e).0)) channel
      (subst (λ o. IsSender o p) (sym e) own)
  cursor_there p channel ends e (inr own) =
      receives c lists_channels p (process_there p (subst (λ (n : ℕ). n < length tree.processes) own (ends_within channel ends e).1)) channel
      (subst (λ o. IsReceiver o p) (sym e) own)

  two_ends : (channel : ℕ) (ends : Ends) → slice_get c.channels channel ≡ Some ends → (ends.sender ≡ ends.receiver) → ⊥
  two_ends channel ends e same =
      let kept : keeps_n12 ends ≡ true =
      holds_at keeps_n12 (channels_of tree) channel ends nested.n12
      (ap (λ (channels : List Ends). slice_get channels channel) (sym stands.channels_are) ∙ e) in
      true≢false (sym kept ∙ ap not (eq-eqb ends.sender ends.receiver same))

  -- So each process has its cursors.
  pub has_cursors : (p : ℕ) → HasCursors c p
  has_cursors p = record {
    place = λ channel ends e own. cursor_there p channel ends e own;
    apart = λ channel ends e one other. two_ends channel ends e (one ∙ sym other);
  }
