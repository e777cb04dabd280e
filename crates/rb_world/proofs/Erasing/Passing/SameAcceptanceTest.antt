-- An acceptance test that held: what is known of the step, and that the plain run makes it too.
use Rattle.std.proofs.Common.{◌≡◌, ℕ, ℤ, Bool, true, false, true≢false, cond, nat_eq, List, ◌∷◌, ◌++◌, [], Option, Some, None, refl, sym, ap, ◌∙◌, subst}
use Rattle.std.specs.Option.{option_map}
use Rattle.rb_world.specs.Kind.{Kind, Want, NothingLeft, SendsOn, ReceivesOn, MayReceiveOn, Enters, Starts, Acts, Held}
use Rattle.rb_world.specs.World.{Level, Running, Process, World, last_of, copy_of}
use Rattle.rb_world.specs.Turn.{accepted}
use Rattle.rb_base.specs.declared.kept.Kept.{Kept}
use Rattle.rb_world.specs.Plain.{plain_acts, plain_moves, plain_runs, plain_stepped, plain_steps, when}
use Rattle.rb_world.proofs.TurnFacts.{IsReady, ToSend, ToReceive, ToReceiveIfThere, ToStart, ToAct, StepsAt, alternate_for}
use Rattle.rb_world.proofs.Erasing.ErasableKinds.{Nothing, Parts, whole, plain, IsErasable, LeavesAlone, SameMail}
use Rattle.rb_world.proofs.Erasing.Showing.Cuts.{plain_level, plain_levels}
use Rattle.rb_world.proofs.Erasing.Stepping.PresentProcess.{as_is}
use Rattle.rb_world.proofs.Erasing.Showing.MailKept.{mail_then}
use Rattle.rb_world.proofs.LastLevels.{last_of-map}

-- whether an action stands first
abbrev is_acting : Want → Bool
is_acting NothingLeft = false
is_acting (SendsOn c) = false
is_acting (ReceivesOn c) = false
is_acting (MayReceiveOn c) = false
is_acting (Enters facts) = false
is_acting Starts = false
is_acting Acts = true

-- the same want is no other
other_want : {A : Type 0} (one other : Want) → one ≡ other → is_acting one ≡ true → is_acting other ≡ false → A
other_want one other e acts rests = absurd (true≢false (sym acts ∙ ap is_acting e ∙ rests))

-- an action takes no message
pub acts_alone : {S C M : Type 0} (k : Kind S C M) (q : Process S C) (w : World S C M) (message : Option ℤ)
    → k.want q.state ≡ Acts → IsReady k q w message → message ≡ None
acts_alone k q w message acts (ToSend c e room none) = none
acts_alone k q w message acts (ToReceive c v e there some) = other_want (k.want q.state) (ReceivesOn c) e (ap is_acting acts) refl
acts_alone k q w message acts (ToReceiveIfThere c e there) = other_want (k.want q.state) (MayReceiveOn c) e (ap is_acting acts) refl
acts_alone k q w message acts (ToStart e none) = none
acts_alone k q w message acts (ToAct e none) = none

-- what `prior` reads is the same in the plain run
environment_shown : {S E P : Type 0} (x : Parts S E P) (level : Option (Level S)) → ((s : S) → x.point_environment (x.point s) ≡ x.environment s)
    → option_map x.point_environment (copy_of (option_map (plain_level x) level)) ≡ option_map x.environment (copy_of level)
environment_shown x None same = refl
environment_shown x (Some level) same = ap Some (same level.copy)

module _ {S E P : Type 0} (x : Parts S E P) (Known : ℕ → Process S S → Type 0) (laws : IsErasable x Known) where
  -- p's test held, and the state is s: what stands first is an action, so the step took no message and started nothing
  pub record HeldAt (p : ℕ) (q : Process S S) (w : World S S Nothing) (alternate : ℕ) (s : S) : Type 0 where
    pub acts : x.want q.state ≡ Acts
    pub no_start : alternate ≡ 0
    pub held : x.step alternate (option_map x.environment (copy_of (last_of q.levels))) q.state None ≡ Held s
    pub alone : LeavesAlone x q.state s

  -- so it is of every step that came to a test which held
  pub held_at : (p : ℕ) (q : Process S S) (w : World S S Nothing) (alternate : ℕ) (message : Option ℤ) (s : S) → Known p q
      → StepsAt (whole x) p q w alternate message
      → x.step alternate (option_map x.environment (copy_of (last_of q.levels))) q.state message ≡ Held s
      → HeldAt p q w alternate s
  held_at p q w alternate message s known at e =
      let acts : x.want q.state ≡ Acts = laws.holds_acting p q alternate (option_map x.environment (copy_of (last_of q.levels))) message s known e in
      record {
        acts = acts;
        no_start = at.at ∙ ap (λ (want : Want). alternate_for want (last_of q.levels)) acts;
        held = subst (λ (m : Option ℤ). x.step alternate (option_map x.environment (copy_of (last_of q.levels))) q.state m ≡ Held s)
            (acts_alone (whole x) q w message acts at.ready) e;
        alone = laws.holds p q w alternate message s known at e;
      }

  -- the plain run's step comes to the same
  pub plain_holds : (t p alternate : ℕ) (q : Process S S) (w : World S S Nothing) (v : World S P Nothing) (s : S)
      → q.status ≡ Running → q.at_line ≡ false
      → HeldAt p q w alternate s
      → plain_moves (plain x) (record { turn = t; process = p; alternate = alternate }) v (Some (as_is x q))
      ≡ Some (accepted (plain x) p (plain_levels x q.levels) (last_of (plain_levels x q.levels)) v (x.keep t alternate s, v.memory))
  plain_holds t p alternate q w v s running away at =
      let kept : Kept = record { turn = t; process = p; alternate = alternate } in
      ap (plain_runs (plain x) kept (as_is x q) v) running
      ∙ ap (λ (line : Bool). cond line None (plain_acts (plain x) kept (as_is x q) v (x.want q.state))) away
      ∙ ap (plain_acts (plain x) kept (as_is x q) v) at.acts
      ∙ ap (λ (a : ℕ). when (nat_eq a 0) (plain_steps (plain x) kept None (as_is x q) v)) at.no_start
      ∙ ap (plain_stepped (plain x) kept (plain_levels x q.levels) v)
      (ap (λ (point : Option E). x.step alternate point q.state None)
      (ap (λ (level : Option (Level P)). option_map x.point_environment (copy_of level)) (last_of-map (plain_level x) q.levels)
      ∙ environment_shown x (last_of q.levels) laws.point_environment) ∙ at.held)

  -- the test changed no mail
  pub held_mail : (t p alternate : ℕ) (q : Process S S) (w : World S S Nothing) (s : S) → HeldAt p q w alternate s
      → SameMail x q.state (x.keep t alternate s)
  held_mail t p alternate q w s at = mail_then x at.alone.mail (laws.keeps_mail t alternate s)

  -- the kept turns are those before, and this one
  pub held_kept : (t p alternate : ℕ) (q : Process S S) (w : World S S Nothing) (s : S) → HeldAt p q w alternate s
      → x.kept (x.keep t alternate s) ≡ x.kept q.state ++ (t, alternate) ∷ []
  held_kept t p alternate q w s at = laws.keeps t alternate s ∙ ap (λ (turns : List (ℕ × ℕ)). turns ++ (t, alternate) ∷ []) at.alone.kept
