-- A present process makes the same step in the plain run: at the same alternate, with the same message, and it comes to the same.
--
-- What others need of this file, for `here : IsPresent x Known f p q w v` (see PresentProcess):
--
--   went_shown : .. StepsAt (whole x) p q w alternate message → x.step alternate .. message ≡ Went s tt
--       → plain_moves (plain x) (record { turn = t; process = p; alternate = alternate }) v (slice_get v.processes p)
--       ≡ Some (took (moved_to (plain x) p (plain_levels x q.levels) v (x.keep t alternate s, tt)))
--   held_shown : .. ≡ Held s → plain_moves .. ≡ Some (accepted (plain x) p (plain_levels x q.levels) (last_of (plain_levels x q.levels)) v (x.keep t alternate s, tt))
--
use Rattle.std.proofs.Common.{◌≡◌, ◌≤◌, ℕ, ℤ, Bool, true, false, cond, ◌&&◌, List, option_map, slice_get, Option, Some, None, refl, sym, ap, ◌∙◌, nat_lt, nat_le, eq-eqb, lt-ltb, le-leb}
use Rattle.std.proofs.lemmas.Bool.{and_from}
use Rattle.rb_world.specs.Kind.{Ends, Want, SendsOn, ReceivesOn, MayReceiveOn, Starts, Acts, Stepped, Went, Held}
use Rattle.rb_world.specs.World.{Level, Process, World, last_of, copy_of}
use Rattle.rb_world.specs.Channels.{has_room, message_there}
use Rattle.rb_world.specs.Turn.{Moved, accepted, moved_to, took}
use Rattle.rb_base.specs.declared.kept.Kept.{Kept}
use Rattle.rb_world.specs.Plain.{alternates_of, has_alternate, no_alternate, plain_acts, plain_moves, plain_receives, plain_runs, plain_stepped, plain_steps, when}
use Rattle.rb_world.proofs.LastLevels.{last_of-map}
use Rattle.rb_world.proofs.TurnFacts.{IsReady, ToSend, ToReceive, ToReceiveIfThere, ToStart, ToAct, StepsAt, alternate_for}
use Rattle.rb_world.proofs.Erasing.ErasableKinds.{IsErasable, Nothing, Parts, plain, receives_on, whole}
use Rattle.rb_world.proofs.Erasing.Showing.Cuts.{plain_level, plain_levels}
use Rattle.rb_world.proofs.Erasing.Stepping.PresentProcess.{IsPresent, as_is, present_there}
use Rattle.rb_world.proofs.Erasing.Stepping.SameRoom.{has_room_shown}
use Rattle.rb_world.proofs.Erasing.Stepping.SameMessageThere.{message_there_shown}

said : {A : Type 0} (b : Bool) (a : Option A) → b ≡ true → when b a ≡ a
said true a e = refl
said false a e = cc

-- what stands first is not both: a start, and one of the steps among which are acceptance tests
starts_not : Acts ≡ Starts → ⊥
starts_not e = cc

module _ {S E P : Type 0} (x : Parts S E P) where
  -- the innermost level, as a plain run has it
  pub plain_last : (ls : List (Level S)) → last_of (plain_levels x ls) ≡ option_map (plain_level x) (last_of ls)
  plain_last ls = last_of-map (plain_level x) ls

  plain_alternates : (level : Option (Level S)) → alternates_of (option_map (plain_level x) level) ≡ alternates_of level
  plain_alternates None = refl
  plain_alternates (Some level) = refl

  module _ (Known : ℕ → Process S S → Type 0) (laws : IsErasable x Known) where
    plain_environment : (level : Option (Level S))
        → option_map x.point_environment (copy_of (option_map (plain_level x) level)) ≡ option_map x.environment (copy_of level)
    plain_environment None = refl
    plain_environment (Some level) = ap Some (laws.point_environment level.copy)

    -- what `prior` reads is the same
    pub environment_shown : (ls : List (Level S))
        → option_map x.point_environment (copy_of (last_of (plain_levels x ls))) ≡ option_map x.environment (copy_of (last_of ls))
    environment_shown ls = ap (λ (o : Option (Level P)). option_map x.point_environment (copy_of o)) (plain_last ls) ∙ plain_environment (last_of ls)

    module _ (f : ℕ → ℕ) (p : ℕ) (q : Process S S) (w : World S S Nothing) (v : World S P Nothing)
        (here : IsPresent x Known f p q w v) (t alternate : ℕ) (message : Option ℤ) (result : Stepped S Nothing)
        (step : x.step alternate (option_map x.environment (copy_of (last_of q.levels))) q.state message ≡ result) where
      abbrev TheTurn : Kept
      TheTurn = record { turn = t; process = p; alternate = alternate }

      abbrev ThePlain : Process S P
      ThePlain = as_is x q

      abbrev TheEnd : Option (Moved S P Nothing)
      TheEnd = plain_stepped (plain x) TheTurn (plain_levels x q.levels) v result

      same_step : plain_steps (plain x) TheTurn message ThePlain v ≡ TheEnd
      same_step = ap (plain_stepped (plain x) TheTurn (plain_levels x q.levels) v)
          (ap (λ (point : Option E). x.step alternate point q.state message) (environment_shown q.levels) ∙ step)

      with_message : (other : Option ℤ) → message ≡ other → plain_steps (plain x) TheTurn other ThePlain v ≡ TheEnd
      with_message other e = ap (λ (m : Option ℤ). plain_steps (plain x) TheTurn m ThePlain v) (sym e) ∙ same_step

      -- no alternate is given where it is no start
      none_given : (want : Want) → x.want q.state ≡ want → alternate_for want (last_of q.levels) ≡ 0
          → alternate ≡ alternate_for (x.want q.state) (last_of q.levels)
          → no_alternate TheTurn ≡ true
      none_given want wants none at = eq-eqb alternate 0 (at ∙ (ap (λ (one : Want). alternate_for one (last_of q.levels)) wants ∙ none))

      receiver_is : (c : ℕ) → receives_on (x.want q.state) ≡ Some c → (ends : Ends) → slice_get x.channels c ≡ Some ends → ends.receiver ≡ p
      receiver_is c wants ends channel = laws.receives p q c ends (here.grounded p q here.there).known wants channel

      same_message : (c : ℕ) → receives_on (x.want q.state) ≡ Some c → message_there (plain x) v c ≡ message_there (whole x) w c
      same_message c wants = message_there_shown x Known laws f p q w v here c (receiver_is c wants)

      ready_shown : IsReady (whole x) q w message → alternate ≡ alternate_for (x.want q.state) (last_of q.levels)
          → (x.want q.state ≡ Starts → has_alternate TheTurn ThePlain ≡ true) → plain_acts (plain x) TheTurn ThePlain v (x.want q.state) ≡ TheEnd
      ready_shown (ToSend c wants room none) at starts =
          ap (plain_acts (plain x) TheTurn ThePlain v) wants
          ∙ (said (no_alternate TheTurn && has_room (plain x) v c) (plain_steps (plain x) TheTurn None ThePlain v)
          (and_from (no_alternate TheTurn) (has_room (plain x) v c) (none_given (SendsOn c) wants refl at)
          (has_room_shown x Known laws f p q w v here c (λ ends. laws.sends p q c ends (here.grounded p q here.there).known wants) ∙ room))
          ∙ with_message None none)
      ready_shown (ToReceive c value wants there same) at starts =
          ap (plain_acts (plain x) TheTurn ThePlain v) wants
          ∙ (said (no_alternate TheTurn) (plain_receives (plain x) TheTurn ThePlain v (message_there (plain x) v c))
          (none_given (ReceivesOn c) wants refl at)
          ∙ (ap (plain_receives (plain x) TheTurn ThePlain v) (same_message c (ap receives_on wants) ∙ there)
          ∙ with_message (Some value) same))
      ready_shown (ToReceiveIfThere c wants same) at starts =
          ap (plain_acts (plain x) TheTurn ThePlain v) wants
          ∙ (said (no_alternate TheTurn) (plain_steps (plain x) TheTurn (message_there (plain x) v c) ThePlain v)
          (none_given (MayReceiveOn c) wants refl at)
          ∙ with_message (message_there (plain x) v c) (same ∙ sym (same_message c (ap receives_on wants))))
      ready_shown (ToStart wants none) at starts =
          ap (plain_acts (plain x) TheTurn ThePlain v) wants
          ∙ (said (has_alternate TheTurn ThePlain) (plain_steps (plain x) TheTurn None ThePlain v) (starts wants) ∙ with_message None none)
      ready_shown (ToAct wants none) at starts =
          ap (plain_acts (plain x) TheTurn ThePlain v) wants
          ∙ (said (no_alternate TheTurn) (plain_steps (plain x) TheTurn None ThePlain v) (none_given Acts wants refl at) ∙ with_message None none)

      -- the plain turn of a present process that steps
      moves_shown : StepsAt (whole x) p q w alternate message → (x.want q.state ≡ Starts → has_alternate TheTurn ThePlain ≡ true)
          → plain_moves (plain x) TheTurn v (slice_get v.processes p) ≡ TheEnd
      moves_shown at starts =
          ap (plain_moves (plain x) TheTurn v) (present_there x Known f p q w v here)
          ∙ (ap (plain_runs (plain x) TheTurn ThePlain v) here.running
          ∙ (ap (λ (line : Bool). cond line None (plain_acts (plain x) TheTurn ThePlain v (x.want q.state))) at.acts.away
          ∙ ready_shown at.ready at.at starts))

      -- the block has the alternate
      alternate_given : (1 ≤ alternate) × (alternate ≤ alternates_of (last_of q.levels)) → has_alternate TheTurn ThePlain ≡ true
      alternate_given given =
          and_from (nat_lt 0 alternate) (nat_le alternate (alternates_of (last_of (plain_levels x q.levels)))) (lt-ltb 0 alternate given.0)
          (ap (λ (level : Option (Level P)). nat_le alternate (alternates_of level)) (plain_last q.levels)
          ∙ (ap (nat_le alternate) (plain_alternates (last_of q.levels)) ∙ le-leb alternate (alternates_of (last_of q.levels)) given.1))

    module _ (f : ℕ → ℕ) (p : ℕ) (q : Process S S) (w : World S S Nothing) (v : World S P Nothing)
        (here : IsPresent x Known f p q w v) (t alternate : ℕ) (message : Option ℤ) (s : S)
        (at : StepsAt (whole x) p q w alternate message) where
      -- a step that goes on does so in the plain run too
      pub went_shown : x.step alternate (option_map x.environment (copy_of (last_of q.levels))) q.state message ≡ Went s tt
          → plain_moves (plain x) (record { turn = t; process = p; alternate = alternate }) v (slice_get v.processes p)
          ≡ Some (took (moved_to (plain x) p (plain_levels x q.levels) v (x.keep t alternate s, tt)))
      went_shown step =
          moves_shown f p q w v here t alternate message (Went s tt) step at
          (λ wants. alternate_given f p q w v here t alternate message (Went s tt) step
          (laws.starts p q alternate (option_map x.environment (copy_of (last_of q.levels))) message s
          (here.grounded p q here.there).known at.acts.runs.running at.acts.away wants step))

      -- an acceptance test that holds does so in the plain run too
      pub held_shown : x.step alternate (option_map x.environment (copy_of (last_of q.levels))) q.state message ≡ Held s
          → plain_moves (plain x) (record { turn = t; process = p; alternate = alternate }) v (slice_get v.processes p)
          ≡ Some (accepted (plain x) p (plain_levels x q.levels) (last_of (plain_levels x q.levels)) v (x.keep t alternate s, tt))
      held_shown step =
          moves_shown f p q w v here t alternate message (Held s) step at
          (λ wants. absurd (starts_not
          (sym (laws.holds_acting p q alternate (option_map x.environment (copy_of (last_of q.levels))) message s
          (here.grounded p q here.there).known step) ∙ wants)))
