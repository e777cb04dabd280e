-- The world after a running process acted, for each form of what stands first.
use Rattle.std.proofs.Common.{◌≡◌, ◌∷◌, ◌++◌, ℕ, ℤ, Bool, true, false, cond, nat_eq, nat_lt, ◌&&◌, ◌⊎◌, inl, inr, List, [], length, Option, Some, None, option_map, Result, Ok, Err, refl, ap, sym, ◌∙◌, subst, true≢false, arith}
use Rattle.std.specs.Option.{is_some}
use Rattle.std.proofs.lemmas.Bool.Decides.{nat_tests}
use Rattle.rb_base.specs.declared.event.Cause.{Cause}
use Rattle.rb_base.specs.declared.event.Cause.TheVariants.{Test}
use Rattle.rb_syntax.specs.Plain.{command}
use Rattle.rb_syntax.specs.Tree.{Tree, Assignment, Command, Conditional, Else, Failure, Invocation, Loop, NoElse, Printing, Receiving, Recovering, RecoveryBlock, Sending}
use Rattle.rb_world.specs.Kind.{Want, NothingLeft, SendsOn, ReceivesOn, MayReceiveOn, Enters, Starts, Acts, Stepped, Trapped, Went, Held}
use Rattle.rb_world.specs.World.{copy_of, goes_on, last_of, settled}
use Rattle.rb_world.specs.Channels.{has_room, message_there}
use Rattle.rb_world.specs.Turn.{Moved, accepted, most_levels, new_level, open_at}
use Rattle.rb_base.specs.declared.kept.Kept.{Kept}
use Rattle.rb_world.specs.Plain.{has_alternate, no_alternate, plain_acts, plain_receives, plain_stepped, plain_steps, when}
use Rattle.rb_meaning.specs.Environment.{rest_of}
use Rattle.rb_meaning.specs.State.{Item, Perform, StartOf, TestOf, EndBlock, EndCall, State}
use Rattle.rb_meaning.specs.Step.{Nothing, alternate_number, alternates_in, enter, former, goes, judged, performs, starts_body, step_items, test_in, wants, wants_first}
use Rattle.rb_meaning.specs.Value.{Outcome, is_zero, value}
use Rattle.rb_meaning.specs.Groups.{facts_of}
use Rattle.rb_meaning.specs.PlainRun.{EntryPoint, PlainWorld, environment_at}
use Rattle.rb_walk.specs.declared.halt.Halt.{Halt}
use Rattle.rb_walk.specs.declared.halt.Halt.TheVariants.{Stuck, Memory}
use Rattle.rb_walk.specs.Comes.{Judges}
use Rattle.rb_walk.specs.declared.items.First.{First}
use Rattle.rb_walk.specs.declared.items.First.TheVariants.{BlockEnd, CallEnd}
use Rattle.rb_walk.specs.declared.items.First.TheVariants as stands
use Rattle.rb_walk.specs.Items.{IsFirst, StandsFirst}
use Rattle.rb_levels.specs.Moves.{PlainProcess, entered_by, gone_on, performed_by, skipped, started_by}
use Rattle.rb_plain.specs.Turns.{acted_world, may_give, with_moved}
use Rattle.rb_levels.specs.Worlds.{unkept_kind, MovesTo}

-- the value of an acceptance test in a process
abbrev pub tested_in : RecoveryBlock → PlainProcess → Outcome
tested_in block q =
    value q.state.environment (former q.state.environment (environment_at (copy_of (last_of q.levels)))) [] (test_in block)

-- a world that is there, or not, as the conditions hold
when_moved : (p : ℕ) (w : PlainWorld) (b : Bool) (o : Option (Moved State EntryPoint Nothing)) (moved : Option PlainProcess)
    → option_map (λ m. m.world) o ≡ with_moved p w moved → option_map (λ m. m.world) (when b o) ≡ with_moved p w (when b moved)
when_moved p w true o moved e = e
when_moved p w false o moved e = refl

-- no alternate is given where there is none to give
pub no_number : (n : ℕ) → nat_eq n 0 ≡ true → n ≡ 0
no_number n e = grind (arith, nat_tests)

pub end_given : (first : First) (n : ℕ) → (first ≡ BlockEnd) ⊎ (first ≡ CallEnd) → may_give first n ≡ true → n ≡ 0
end_given first n (inl e) given = no_number n (subst (λ f. may_give f n ≡ true) e given)
end_given first n (inr e) given = no_number n (subst (λ f. may_give f n ≡ true) e given)

-- no statement waits for the start of an alternate
never_starts : (tree : Tree) (command : Command) → wants tree command ≡ Starts → ⊥
never_starts tree (Assignment to e) starts = cc
never_starts tree (Printing items) starts = cc
never_starts tree (Sending channel e) starts = cc
never_starts tree (Receiving channel to NoElse) starts = cc
never_starts tree (Receiving channel to (Else body)) starts = cc
never_starts tree (Conditional test body other) starts = cc
never_starts tree (Loop test body) starts = cc
never_starts tree (Invocation procedure arguments) starts = cc
never_starts tree Failure starts = cc
never_starts tree (Recovering block) starts = cc

module _ (tree : Tree) (kept : Kept) (q : PlainProcess) (w : PlainWorld) where
  -- what a step of the process comes to
  abbrev Comes : Stepped State Nothing → Option PlainWorld
  Comes stepped = option_map (λ m. m.world) (plain_stepped (unkept_kind tree) kept q.levels w stepped)

  -- what the process comes to by what stands first
  abbrev CanAct : Want → Option PlainWorld
  CanAct want = option_map (λ m. m.world) (plain_acts (unkept_kind tree) kept q w want)

  -- one step, by what is left of the text
  abbrev Steps : Option ℤ → List Item → Option PlainWorld
  Steps message items = Comes (step_items tree kept.alternate (environment_at (copy_of (last_of q.levels))) q.state message items)

  -- a step goes on, or the turn is stuck
  went : (outcome : Result State Cause) → Comes (goes outcome) ≡ with_moved kept.process w (gone_on tree q.levels outcome)
  went (Ok s) = refl
  went (Err cause) = refl

  -- a statement that stands first is performed
  performed : (command : Command) (message : Option ℤ) → StandsFirst (Perform command) q.state.items
      → option_map (λ m. m.world) (plain_steps (unkept_kind tree) kept message q w) ≡ with_moved kept.process w (performed_by tree message command q)
  performed command message first =
      ap (Steps message) first ∙ went (performs tree message q.state (rest_of q.state.items) command)

  -- no alternate is given
  given_none : kept.alternate ≡ 0 → no_alternate kept ≡ true
  given_none e = ap (λ n. nat_eq n 0) e

  -- an alternate is given for something else than a start
  pub stuck_before : (want : Want) → (want ≡ Starts → ⊥) → no_alternate kept ≡ false → CanAct want ≡ None
  stuck_before NothingLeft other e = refl
  stuck_before (SendsOn c) other e =
      ap (λ b. option_map (λ m. m.world) (when (b && has_room (unkept_kind tree) w c) (plain_steps (unkept_kind tree) kept None q w))) e
  stuck_before (ReceivesOn c) other e =
      ap (λ b. option_map (λ m. m.world) (when b (plain_receives (unkept_kind tree) kept q w (message_there (unkept_kind tree) w c)))) e
  stuck_before (MayReceiveOn c) other e =
      ap (λ b. option_map (λ m. m.world) (when b (plain_steps (unkept_kind tree) kept (message_there (unkept_kind tree) w c) q w))) e
  stuck_before (Enters facts) other e =
      ap (λ b. option_map (λ m. m.world)
      (when (b && nat_lt (length q.levels) most_levels) (Some (open_at (unkept_kind tree) kept.turn kept.process facts 0 q w)))) e
  stuck_before Starts other e = absurd (other refl)
  stuck_before Acts other e = ap (λ b. option_map (λ m. m.world) (when b (plain_steps (unkept_kind tree) kept None q w))) e

  -- the same, by what stands first
  pub stuck_given : (first : First) → IsFirst q.state.items first → may_give first kept.alternate ≡ false → acted_world tree kept q w ≡ None
  stuck_given stands.Nothing first given = ap CanAct (ap (wants_first tree) first)
  stuck_given (stands.Statement statement) first given =
      ap CanAct (ap (wants_first tree) first)
      ∙ stuck_before (wants tree (command statement.now)) (never_starts tree (command statement.now)) given
  stuck_given (stands.Start block) first given = absurd (true≢false given)
  stuck_given (stands.Test block) first given = ap CanAct (ap (wants_first tree) first) ∙ stuck_before Acts (λ e. cc) given
  stuck_given stands.BlockEnd first given = ap CanAct (ap (wants_first tree) first) ∙ stuck_before Acts (λ e. cc) given
  stuck_given stands.CallEnd first given = ap CanAct (ap (wants_first tree) first) ∙ stuck_before Acts (λ e. cc) given

  -- an alternate starts
  pub starts : (block : RecoveryBlock) → StandsFirst (StartOf block) q.state.items
      → acted_world tree kept q w ≡ with_moved kept.process w (started_by tree kept block q)
  starts block first =
      ap CanAct (ap (wants_first tree) first)
      ∙ when_moved kept.process w (has_alternate kept q) (plain_steps (unkept_kind tree) kept None q w)
      (gone_on tree q.levels (starts_body tree.edition block (rest_of q.state.items) q.state (alternate_number kept.alternate (alternates_in block))))
      (ap (Steps None) first
      ∙ went (starts_body tree.edition block (rest_of q.state.items) q.state (alternate_number kept.alternate (alternates_in block))))

  module _ (plain : kept.alternate ≡ 0) where
    -- an end that stands first is taken away
    ends : (item : Item) → StandsFirst item q.state.items → wants_first tree (item ∷ rest_of q.state.items) ≡ Acts
        → step_items tree kept.alternate (environment_at (copy_of (last_of q.levels))) q.state None (item ∷ rest_of q.state.items) ≡ Went q.state tt
        → acted_world tree kept q w ≡ with_moved kept.process w (Some (settled (unkept_kind tree) q.state q.levels))
    ends item first want stays =
        ap CanAct (ap (wants_first tree) first ∙ want)
        ∙ ap (λ b. option_map (λ m. m.world) (when b (plain_steps (unkept_kind tree) kept None q w))) (given_none plain)
        ∙ ap (Steps None) first ∙ ap Comes stays

    -- an end of a block, or of a call
    pub ended : (first : First) → (first ≡ BlockEnd) ⊎ (first ≡ CallEnd) → IsFirst q.state.items first
        → acted_world tree kept q w ≡ with_moved kept.process w (Some (settled (unkept_kind tree) q.state q.levels))
    ended first (inl e) stands = ends EndBlock (subst (IsFirst q.state.items) e stands) refl refl
    ended first (inr e) stands = ends EndCall (subst (IsFirst q.state.items) e stands) refl refl

    module _ (command : Command) (first : StandsFirst (Perform command) q.state.items) where
      wanted : (want : Want) → wants tree command ≡ want → wants_first tree q.state.items ≡ want
      wanted want e = ap (wants_first tree) first ∙ e

      -- a statement that asks for nothing
      pub acts : wants tree command ≡ Acts → acted_world tree kept q w ≡ with_moved kept.process w (performed_by tree None command q)
      acts e =
          ap CanAct (wanted Acts e)
          ∙ ap (λ b. option_map (λ m. m.world) (when b (plain_steps (unkept_kind tree) kept None q w))) (given_none plain)
          ∙ performed command None first

      -- a send with room
      pub sends : (c : ℕ) → wants tree command ≡ SendsOn c → has_room (unkept_kind tree) w c ≡ true
          → acted_world tree kept q w ≡ with_moved kept.process w (performed_by tree None command q)
      sends c e room =
          ap CanAct (wanted (SendsOn c) e)
          ∙ ap
          (λ b. option_map (λ m. m.world) (when (b && has_room (unkept_kind tree) w c) (plain_steps (unkept_kind tree) kept None q w)))
          (given_none plain)
          ∙ ap (λ b. option_map (λ m. m.world) (when (true && b) (plain_steps (unkept_kind tree) kept None q w))) room
          ∙ performed command None first

      -- a send without room
      pub sends_not : (c : ℕ) → wants tree command ≡ SendsOn c → has_room (unkept_kind tree) w c ≡ false → acted_world tree kept q w ≡ None
      sends_not c e full =
          ap CanAct (wanted (SendsOn c) e)
          ∙ ap
          (λ b. option_map (λ m. m.world) (when (b && has_room (unkept_kind tree) w c) (plain_steps (unkept_kind tree) kept None q w)))
          (given_none plain)
          ∙ ap (λ b. option_map (λ m. m.world) (when (true && b) (plain_steps (unkept_kind tree) kept None q w))) full

      -- a receipt whose message is there
      received : (message : Option ℤ) → is_some message ≡ true
          → option_map (λ m. m.world) (plain_receives (unkept_kind tree) kept q w message)
          ≡ with_moved kept.process w (performed_by tree message command q)
      received None there = cc
      received (Some v) there = performed command (Some v) first

      pub receives : (c : ℕ) (message : Option ℤ) → wants tree command ≡ ReceivesOn c
          → message ≡ message_there (unkept_kind tree) w c → is_some message ≡ true
          → acted_world tree kept q w ≡ with_moved kept.process w (performed_by tree message command q)
      receives c message e is there =
          ap CanAct (wanted (ReceivesOn c) e)
          ∙ ap
          (λ b. option_map (λ m. m.world) (when b (plain_receives (unkept_kind tree) kept q w (message_there (unkept_kind tree) w c))))
          (given_none plain)
          ∙ ap (λ o. option_map (λ m. m.world) (plain_receives (unkept_kind tree) kept q w o)) (sym is)
          ∙ received message there

      -- a receipt whose message is not there
      received_not : (message : Option ℤ) → is_some message ≡ false
          → option_map (λ m. m.world) (plain_receives (unkept_kind tree) kept q w message) ≡ None
      received_not None missing = refl
      received_not (Some v) missing = cc

      pub receives_not : (c : ℕ) (message : Option ℤ) → wants tree command ≡ ReceivesOn c
          → message ≡ message_there (unkept_kind tree) w c → is_some message ≡ false → acted_world tree kept q w ≡ None
      receives_not c message e is missing =
          ap CanAct (wanted (ReceivesOn c) e)
          ∙ ap
          (λ b. option_map (λ m. m.world) (when b (plain_receives (unkept_kind tree) kept q w (message_there (unkept_kind tree) w c))))
          (given_none plain)
          ∙ ap (λ o. option_map (λ m. m.world) (plain_receives (unkept_kind tree) kept q w o)) (sym is)
          ∙ received_not message missing

      -- a receipt that may find nothing
      pub may_receive : (c : ℕ) (message : Option ℤ) → wants tree command ≡ MayReceiveOn c → message ≡ message_there (unkept_kind tree) w c
          → acted_world tree kept q w ≡ with_moved kept.process w (performed_by tree message command q)
      may_receive c message e there =
          ap CanAct (wanted (MayReceiveOn c) e)
          ∙ ap
          (λ b. option_map (λ m. m.world) (when b (plain_steps (unkept_kind tree) kept (message_there (unkept_kind tree) w c) q w)))
          (given_none plain)
          ∙ ap (λ o. option_map (λ m. m.world) (plain_steps (unkept_kind tree) kept o q w)) (sym there)
          ∙ performed command message first

      -- the entry of a recovery block
      pub enters : (block : RecoveryBlock) → command ≡ Recovering block
          → acted_world tree kept q w ≡ with_moved kept.process w (entered_by tree block q)
      enters block e =
          let facts = facts_of tree block in
          let k = unkept_kind tree in
          ap CanAct (wanted (Enters facts) (ap (wants tree) e))
          ∙ ap
          (λ b. option_map (λ m. m.world)
          (when (b && nat_lt (length q.levels) most_levels) (Some (open_at k kept.turn kept.process facts 0 q w))))
          (given_none plain)
          ∙ when_moved kept.process w (nat_lt (length q.levels) most_levels) (Some (open_at k kept.turn kept.process facts 0 q w))
          (Some (goes_on k (enter q.state) (q.levels ++ new_level k facts 0 (enter q.state) ∷ []))) refl

    module _ (block : RecoveryBlock) (first : StandsFirst (TestOf block) q.state.items) where
      tests : acted_world tree kept q w ≡ Comes (judged (rest_of q.state.items) q.state (tested_in block q))
      tests =
          ap CanAct (ap (wants_first tree) first)
          ∙ ap (λ b. option_map (λ m. m.world) (when b (plain_steps (unkept_kind tree) kept None q w))) (given_none plain)
          ∙ ap (Steps None) first

      -- it holds
      pub holds : (v : ℤ) → tested_in block q ≡ Ok v → is_zero v ≡ false
          → acted_world tree kept q w ≡ Some (accepted (unkept_kind tree) kept.process q.levels (last_of q.levels) w (skipped q.state, tt)).world
      holds v e true_ =
          tests ∙ ap (λ o. Comes (judged (rest_of q.state.items) q.state o)) e
          ∙ ap (λ b. Comes (cond b (Trapped Test) (Held (skipped q.state)))) true_

      -- it does not
      by_outcome : (o : Outcome) → ((v : ℤ) → o ≡ Ok v → is_zero v ≡ true) → Comes (judged (rest_of q.state.items) q.state o) ≡ None
      by_outcome (Ok v) zero_ = ap (λ b. Comes (cond b (Trapped Test) (Held (skipped q.state)))) (zero_ v refl)
      by_outcome (Err cause) zero_ = refl

      pub fails : (A : Type 0) (halt : Halt) (new : PlainWorld) → Judges {A = A} (tested_in block q) (Err halt)
          → MovesTo {A = A} (acted_world tree kept q w) new (Err halt)
      fails A Stuck new zero_ = tests ∙ by_outcome (tested_in block q) zero_
      fails A Memory new never = absurd never
