-- A word that no address on the way may store stays, through a step and its settling.
use Rattle.std.proofs.Common.{◌≡◌, ℕ, zero, suc, ◌+◌, ◌-◌, ◌<◌, ◌^◌, ℤ, List, slice_get, Option, Some, None, refl, ◌∙◌}
use Rattle.std.proofs.lemmas.Option.{slice_get_within}
use Rattle.rb_world.specs.Kind.{Membership}
use Rattle.rb_code.specs.Instructions.Plain.{Code}
use Rattle.rb_code.specs.WordMachine.Workspace.{Workspace, variables_place}
use Rattle.rb_code.specs.WordMachine.Act.{Accepts, Going, Outcome, Sight, Stopped, Trapped, Unfinished, act, act_at, execute, here, then_go}
use Rattle.rb_code.specs.SoundCode.Reached.{successors}
use Rattle.rb_code.specs.SoundCode.Safe.{IsThere}
use Rattle.rb_code.specs.SoundCode.Sound.{Entry, Fine, FineAt, HasTable, IsMember, Table}
use Rattle.rb_code.specs.SoundCode.Stands.{Fits, Levels}
use Rattle.rb_code.specs.SoundCode.WellFormed.{ListsChannels}
use Rattle.rb_code.specs.declared.instr.Instr.{Instr}
use Rattle.rb_code.specs.declared.instr.Instr.TheVariants.{Turn, Bound}
use Rattle.rb_code.proofs.InWords.Channels.{receives, sends}
use Rattle.rb_code.proofs.Looping.OpenLoops.{began_here}
use Rattle.rb_code.proofs.Executing.Progress.{Progress}
use Rattle.rb_code.proofs.Executing.Steps.{goes}
use Rattle.rb_back.specs.declared.stores.Stores.{Stores}
use Rattle.rb_back.specs.Stores.{AreBoundBy, AreRanges, MayBeIn, MayStoreFrom, UnlessTurn}
use Rattle.rb_back.proofs.Storing.Bounds.{AreSmall, IsBound, flows}
use Rattle.rb_back.proofs.Storing.WordStays.{Stays, stays}

-- the bounds of a code
bound_at : (instrs : List Instr) (most a : ℕ) (i : Instr) → AreBoundBy instrs most → slice_get instrs a ≡ Some i → IsBound most i
bound_at instrs most a (Bound n) bounds at = bounds a n at
bound_at instrs most a i bounds at = tt

module _ (c : Code) (groups : List Membership) (t : Table) (has : HasTable c groups t) (lists : ListsChannels c) (ranges : List Stores)
    (are : AreRanges c ranges) (see : Sight) (exists : IsThere (slice_get c.processes see.process)) (levels : Levels) (k : ℕ)
    (inside : k < (here c see).words) (low : k < 2 ^ 32 - 1) where
  abbrev pub Place : ℕ
  Place = variables_place (here c see) + k

  -- from an address on the word isn't stored
  abbrev pub IsQuiet : ℕ → Type 0
  IsQuiet a = MayStoreFrom c ranges a k → ⊥

  -- what is executed up to an end leaves the word as it is, and what settles behind it doesn't store it either
  abbrev pub IsLeft : List ℤ → Outcome → Type 0
  IsLeft words (Going b operands later) = Unit {0}
  IsLeft words (Stopped b later) = slice_get later.words Place ≡ slice_get words Place
  IsLeft words (Accepts b later) = (slice_get later.words Place ≡ slice_get words Place) × IsQuiet b
  IsLeft words (Trapped cause) = Unit {0}
  IsLeft words Unfinished = Unit {0}

  same_left : (words others : List ℤ) (o : Outcome) → slice_get others Place ≡ slice_get words Place → IsLeft others o → IsLeft words o
  same_left words others (Going b operands later) same h = tt
  same_left words others (Stopped b later) same h = h ∙ same
  same_left words others (Accepts b later) same h = (h.0 ∙ same, h.1)
  same_left words others (Trapped cause) same h = tt
  same_left words others Unfinished same h = tt

  abbrev Nothing : Workspace → Type 0
  Nothing m = Unit {0}

  abbrev pub From : ℕ → Type 0
  From n = (b : ℕ) (g : Entry) (xs : List ℤ) (m : Workspace) → t b ≡ Some g → Fits c t see levels b g xs m → AreSmall are.most g.operands
      → IsQuiet b → IsLeft m.words (execute c see n b xs m)

  module _ (n a : ℕ) (e : Entry) (xs : List ℤ) (m : Workspace) (there : t a ≡ Some e) (fits : Fits c t see levels a e xs m)
      (small : AreSmall are.most e.operands) (rest : From n) where
    on_left : (i : Instr) → slice_get c.instrs a ≡ Some i → Fine c groups t i a e
        → ((b : ℕ) → IsMember b (successors c i a) → IsQuiet b) → (most : ℕ) (o : Outcome)
        → Progress c groups t see levels Nothing m most o → Stays c see k (successors c i a) m.words o
        → IsLeft m.words (then_go o (execute c see n))
    on_left i at fine on most (Going b ys later) p h =
        same_left m.words later.words (execute c see n b ys later) h.0
        (rest b p.entry ys later p.there p.fits
        (flows c groups t are.most a e small i fine (bound_at c.instrs are.most a i are.bounds at) b h.1 p.entry p.there) (on b h.1))
    on_left i at fine on most (Stopped b later) p h = h
    on_left i at fine on most (Accepts b later) p h = (h.0, on b h.1)
    on_left i at fine on most (Trapped cause) p h = tt
    on_left i at fine on most Unfinished p h = tt

    one_left : (i : Instr) → slice_get c.instrs a ≡ Some i → Fine c groups t i a e → (MayBeIn k (slice_get ranges a) → ⊥)
        → IsLeft m.words (then_go (act c see i a xs m) (execute c see n))
    one_left i at fine none =
        on_left i at fine (λ b to stored. none ((are.each a).behind i b k at to low stored)) _ (act c see i a xs m)
        (goes c groups t see levels Nothing (λ m pieces counters h. h) (sends c lists see.process exists)
        (receives c lists see.process exists) a e xs m (slice_get_within c.instrs a i at) there fits
        (began_here a e.loops (has.each a e there).around) (λ r. tt) i at fine)
        (stays c groups t see levels are.most k inside a e xs m fits small i fine (λ own. none ((are.each a).own i k at low own)))

    by_left : (o : Option Instr) → slice_get c.instrs a ≡ o → FineAt c groups t o a e → (UnlessTurn o (MayBeIn k (slice_get ranges a)) → ⊥)
        → IsLeft m.words (then_go (act_at c see o a xs m) (execute c see n))
    by_left None at fine none = absurd fine
    by_left (Some Turn) at fine none = refl
    by_left (Some i) at fine none = one_left i at fine none

  pub from : (n : ℕ) → From n
  from zero a e xs m there fits small quiet = tt
  from (suc n) a e xs m there fits small quiet =
      by_left n a e xs m there fits small (from n) (slice_get c.instrs a) refl (has.each a e there).fine quiet
