-- What is shown of channels, one by one; and how many words, channels and conversations are kept in mind.
use Rattle.std.proofs.Common.{◌≡◌, ℕ, zero, suc, ◌+◌, pos, false, List, [], ◌∷◌, length, map, replicate, slice_get, unwrap_or, Option, Some, refl, ap, sym, ◌∙◌, arith}
use Rattle.std.proofs.lemmas.List.{length-map, length-replicate}
use Rattle.rb_base.specs.declared.names.Group.{Group}
use Rattle.rb_conv.specs.Conversations.{memberships, opened}
use Rattle.rb_world.specs.Kind.{Ends, Membership}
use Rattle.rb_world.specs.Turn.{opening_talks}
use Rattle.rb_world.specs.World.{Process, Talk}
use Rattle.rb_world.proofs.ListFacts.{none_some, some_same}
use Rattle.rb_code.specs.Instructions.Plain.{Code, Part}
use Rattle.rb_code.specs.WordMachine.Turn.{Common, Copy, Standing}
use Rattle.rb_code.specs.WordMachine.WordRun.{WordWorld}
use Rattle.rb_code.specs.WordMachine.Workspace.{no_part, part_of}
use Rattle.rb_changes.specs.Noted.{process_noted}
use Rattle.rb_changes.specs.Shown.{Reading, channel_of, channels_shown, process_shown}
use Rattle.rb_picture.specs.Trace.{before_opening, process_before, word_reading}
use Rattle.rb_machine.specs.Machine.{Seen}
use Rattle.rb_view.specs.Noting.{talks_noted, words_long}
use Rattle.rb_view.specs.Steady.{IsSized, IsSteady, noted_now}

module _ (r : Reading Standing Copy Common) (w : WordWorld) where
  pub channel_shown_at : (n k : ℕ) (channels : List Ends) (ends : Ends) → slice_get channels k ≡ Some ends
      → slice_get (channels_shown r w n channels) k
      ≡ Some (channel_of r w.memory (n + k) ends.size (slice_get w.processes ends.sender) (slice_get w.processes ends.receiver))
  channel_shown_at n k [] ends e = absurd (none_some e)
  channel_shown_at n zero (one ∷ channels) ends e =
      let same : n + 0 ≡ n = omega arith in
      λ j. Some (channel_of r w.memory (sym same j) (some_same e j).size (slice_get w.processes (some_same e j).sender)
      (slice_get w.processes (some_same e j).receiver))
  channel_shown_at n (suc k) (one ∷ channels) ends e =
      let same : n + 1 + k ≡ n + suc k = omega arith in
      channel_shown_at (n + 1) k channels ends e
      ∙ ap (λ m. Some (channel_of r w.memory m ends.size (slice_get w.processes ends.sender) (slice_get w.processes ends.receiver))) same

  pub channels_long : (n : ℕ) (channels : List Ends) → length (channels_shown r w n channels) ≡ length channels
  channels_long n [] = refl
  channels_long n (ends ∷ channels) = ap suc (channels_long (n + 1) channels)

-- before the opening
pub first_long : (parts : List Part) → map words_long (map process_before parts) ≡ map (λ (part : Part). part.words) parts
first_long [] = refl
first_long (part ∷ parts) = λ j. length-replicate part.words (pos 0) j ∷ first_long parts j

-- between turns
pub shown_long : (c : Code) (r : Reading Standing Copy Common) (m : Common) (qs : List (Process Standing Copy)) (parts : List Part)
    → length qs ≡ length parts
    → ((k : ℕ) (q : Process Standing Copy) (part : Part) → slice_get qs k ≡ Some q → slice_get parts k ≡ Some part → length (r.words q.state) ≡ part.words)
    → map words_long (map process_noted (map (process_shown r m) qs)) ≡ map (λ (part : Part). part.words) parts
shown_long c r m [] [] long each = refl
shown_long c r m [] (part ∷ parts) long each = absurd (omega (arith, long))
shown_long c r m (q ∷ qs) [] long each = absurd (omega (arith, long))
shown_long c r m (q ∷ qs) (part ∷ parts) long each =
    let rest = shown_long c r m qs parts (omega (arith, long)) (λ k. each (suc k)) in
    λ j. each 0 q part refl refl j ∷ rest j

-- the part of a process that is there
pub part_there : (c : Code) (p : ℕ) (part : Part) → slice_get c.processes p ≡ Some part → part_of c p ≡ part
part_there c p part e = ap (λ (o : Option Part). unwrap_or o no_part) e

-- What is kept in mind before the opening, and between two turns, has the sizes of the code's lists.
pub sized_first : (c : Code) (groups : List Membership) → IsSized c groups (before_opening c groups)
sized_first c groups = record {
  processes = first_long c.processes;
  channels = length-map c.channels _;
  talks = length-map groups _;
}

pub sized_now : (m : Seen) → IsSteady m → IsSized m.code m.groups (noted_now m)
sized_now m h = record {
  processes = shown_long m.code (word_reading m.code m.groups []) m.world.memory m.world.processes m.code.processes h.processes
      (λ k q part there is. h.words k q there ∙ ap (λ (one : Part). one.words) (part_there m.code k part is));
  channels = length-map _ _ ∙ channels_long (word_reading m.code m.groups []) m.world 0 m.code.channels;
  talks = h.talks;
}

-- conversations before the opening
pub first_talks : (groups : List Group) → talks_noted (replicate (length groups) (record { alternate = 1; is_broken = false }))
    ≡ opening_talks (memberships (map opened groups))
first_talks [] = refl
first_talks (group ∷ groups) = ap (λ (talks : List Talk). record { alternate = 1; is_broken = false } ∷ talks) (first_talks groups)
