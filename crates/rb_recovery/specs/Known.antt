-- What is known of every world of a run of sound code: each process stands in the table, its levels are nested and are those of members,
-- all numbers that a turn counts are small, and links lead to kept turns of one process.
use Rattle.std.specs.Prelude.{◌≡◌, ℕ, ◌<◌, ◌≤◌, nat_eq, true, ℤ, List, length, slice_get, Some}
use Rattle.std.specs.List.{list_any}
use Rattle.rb_meaning.specs.Environment.{natural}
use Rattle.rb_world.specs.Kind.{Membership}
use Rattle.rb_world.specs.Nested.{AreNested, IsLevelOf}
use Rattle.rb_world.specs.Present.{TryPresent}
use Rattle.rb_world.specs.Standing.{Each, IsBareIfFailed, IsShallow}
use Rattle.rb_world.specs.Turn.{members_of}
use Rattle.rb_world.specs.World.{Level, Process, Talk}
use Rattle.rb_code.specs.WordMachine.Workspace.{cursor_place, part_of, word_at}
use Rattle.rb_code.specs.Instructions.Plain.{Block, Code}
use Rattle.rb_code.specs.SoundCode.Sound.{Table}
use Rattle.rb_code.specs.SoundCode.Stands.{IsAmong}
use Rattle.rb_code.specs.SoundCode.StandsInRuns.{ProcessStands}
use Rattle.rb_code.specs.WordMachine.Turn.{Copy, Standing, block_facts}
use Rattle.rb_code.specs.SoundCode.WellFormed.{IsSound}
use Rattle.rb_code.specs.WordMachine.WordRun.{WordWorld}
use Rattle.rb_recovery.specs.Linked.{AreLinked}
use Rattle.rb_recovery.specs.Rising.{NoneFalls}

-- there are numbers of alternates of its conversations with which the code is sound
abbrev pub IsSoundFor : Code → List Membership → Type 0
IsSoundFor c groups = (counts : List ℕ) × IsSound c groups counts

-- each level of a conversation is one of a member's
abbrev pub OfMembers : {C : Type 0} → List Membership → ℕ → List (Level C) → Type 0
OfMembers groups p levels = (i d : ℕ) → IsLevelOf d levels i → list_any (nat_eq p) (members_of (slice_get groups d)) ≡ true

-- a level is one of a block of the code
pub record IsOfBlock {C : Type 0} (c : Code) (level : Level C) : Type 0 where
  pub number : ℕ
  pub block : Block
  pub there : slice_get c.blocks number ≡ Some block
  pub facts : level.facts ≡ block_facts number block

-- Process number p stands in the table, and its levels are those of blocks, one in the other.
pub record IsPlaced (c : Code) (groups : List Membership) (t : Table) (p : ℕ) (q : Process Standing Copy) : Type 0 where
  pub number : q.state.process ≡ p
  pub stands : ProcessStands c t q
  pub nested : AreNested groups q.levels
  pub members : OfMembers groups p q.levels
  pub blocks : Each (λ _ level. IsOfBlock c level) q.levels

-- a level tries an alternate that it has
pub record IsTried {C : Type 0} (level : Level C) : Type 0 where
  pub first : 1 ≤ level.alternate
  pub last : level.alternate ≤ level.facts.alternates

-- a conversation is at an alternate that its blocks have
abbrev pub IsTalked : List ℕ → ℕ → Talk → Type 0
IsTalked counts d talk = (n : ℕ) → slice_get counts d ≡ Some n → (1 ≤ talk.alternate) × (talk.alternate ≤ n)

-- cursors among these words are below a number
abbrev pub CursorsBelow : Code → ℕ → ℕ → List ℤ → Type 0
CursorsBelow c p t words = (channel : ℕ) → IsAmong channel (part_of c p).channels → natural (word_at words (cursor_place (part_of c p) channel)) < t

-- No cursor of process number p falls from the copy of a level to that of a level inside it, nor to words that are later than all of them.
pub record RiseInward (c : Code) (p : ℕ) (levels : List (Level Copy)) (words : List ℤ) : Type 0 where
  pub inward : (i j : ℕ) (outer inner : Level Copy) → i < j → slice_get levels i ≡ Some outer → slice_get levels j ≡ Some inner
      → NoneFalls c p outer.copy.words inner.copy.words
  pub on : Each (λ _ level. NoneFalls c p level.copy.words words) levels

-- Of process number p no level has used as many turns as a number, and no cursor, in the present or in a copy, has come as far as another;
-- and none has fallen since a level was entered.
pub record IsBelow (c : Code) (turns messages p : ℕ) (q : Process Standing Copy) : Type 0 where
  pub used : Each (λ _ level. level.used < turns) q.levels
  pub cursors : CursorsBelow c p messages q.state.words
  pub copied : Each (λ _ level. CursorsBelow c p messages level.copy.words) q.levels
  pub rising : RiseInward c p q.levels q.state.words

-- Before turn number t both lie below that number.
abbrev pub IsCounted : Code → ℕ → ℕ → Process Standing Copy → Type 0
IsCounted c t p q = IsBelow c t t p q

-- All of it of a world, before turn number t.
pub record IsKnown (c : Code) (groups : List Membership) (counts : List ℕ) (table : Table) (t : ℕ) (w : WordWorld) : Type 0 where
  pub processes : length w.processes ≡ length c.processes
  pub talks : length w.talks ≡ length groups
  pub shallow : Each IsShallow w.processes
  pub bare : Each IsBareIfFailed w.processes
  pub placed : Each (IsPlaced c groups table) w.processes
  pub counted : Each (IsCounted c t) w.processes
  pub tried : Each (λ _ q. Each (λ _ level. IsTried level) q.levels) w.processes
  pub present : Each (λ _ q. TryPresent w.talks q.levels) w.processes
  pub talked : Each (IsTalked counts) w.talks
  pub linked : AreLinked t w
