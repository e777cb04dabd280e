-- Processes that stand together agree through whole runs, where steps come to the same and the machine stands upright.
use Rattle.std.proofs.Common.{◌≡◌, ◌⊎◌, ℕ, ℤ, ◌+◌, false, List, [], ◌∷◌, option_map, Option, Some, None, refl, sym, ap, ◌∙◌, subst, true≢false}
use Rattle.rb_syntax.specs.Tree.{Tree}
use Rattle.rb_world.specs.Kind.{Want, Starts, Stepped, Trapped, Went, Held}
use Rattle.rb_world.specs.World.{Process, last_of}
use Rattle.rb_world.specs.Slots.{Slots, stepped_with_slots}
use Rattle.rb_world.proofs.LastLevels.{last_of-map}
use Rattle.rb_world.proofs.ListFacts.{heads_same, none_some, some_same}
use Rattle.rb_world.proofs.Relating.Simulation.{copies_of}
use Rattle.rb_meaning.specs.State.{Item, Perform, StartOf, TestOf, EndBlock, EndCall, State, settle}
use Rattle.rb_meaning.specs.Step.{Nothing, Result_of_step, step, wants_first}
use Rattle.rb_meaning.specs.Groups.{channels_of}
use Rattle.rb_meaning.specs.Meaning.{environment_of, tree_kind}
use Rattle.rb_meaning.specs.Nesting.{IsNested}
use Rattle.rb_meaning.proofs.InsideOut.{onto}
use Rattle.rb_scope.specs.declared.slot.Slot.{Slot}
use Rattle.rb_code.specs.Instructions.Plain.{Code}
use Rattle.rb_code.specs.WordMachine.Act.{Accepts, Outcome, Sight, Stopped, Trapped as Trap, execute}
use Rattle.rb_code.specs.WordMachine.Turn.{Common, Copy, Standing, came_to, memory_of, most_steps, sight, standing_at, step as steps, want}
use Rattle.rb_code.proofs.Agreeing.Leads.{EndsIn, IsEnd, enough}
use Rattle.rb_code.proofs.Agreeing.StatesMeet.{IsPrior, Meets}
use Rattle.rb_code.proofs.InWords.LaidOut.{stacks_of}
use Rattle.rb_code.proofs.WholeRuns.Agreeing.{Meeting, MayStep, StepsAgree}
use Rattle.rb_code.proofs.WholeRuns.OwnMail.{held_mail, same_mail, went_mail}
use Rattle.rb_code.proofs.WholeRuns.Pairs.{Pairs}
use Rattle.rb_code.proofs.WholeRuns.PointsLie.{LiesWell, front_gone, stacks_at}
use Rattle.rb_code.proofs.WholeRuns.StacksLeft.{Stacks, held_leaves, left_in, settled_left, stacks_in, stacks_left, went_leaves}
use Rattle.rb_code.proofs.WholeRuns.StandTogether.{ComesTo, CopyTogether, Fell, IsUpright, PriorFor, StandTogether, StandsOrFell, StepsCome, Uprightness, Whole}
use Rattle.rb_code.proofs.WholeRuns.StepsFollow.{Follows, held_follows, went_follows}
use Rattle.rb_code.proofs.WholeRuns.WantsAgree.{wants_agree}
use Rattle.rb_code.proofs.WholeRuns.WordsOfStates.{is_prior}

-- the last of a list that is told from the inside out
onto_last : {A : Type 0} (others xs : List A) (y : A) (ys : List A) (x : A) → onto others (x ∷ xs) ≡ y ∷ ys → last_of (x ∷ xs) ≡ Some y
onto_last others [] y ys x e = ap Some (heads_same e)
onto_last others (x' ∷ xs) y ys x e = onto_last (x ∷ others) xs y ys x' e

last_told : {A : Type 0} (xs : List A) (y : A) (ys : List A) → onto [] xs ≡ y ∷ ys → last_of xs ≡ Some y
last_told [] y ys e = absurd cc
last_told (x ∷ xs) y ys e = onto_last [] xs y ys x e

-- the last pair
pairs_last : {A B : Type 0} (R : A → B → Type 0) (xs : List A) (ys : List B) (x : A) → Pairs R xs ys → last_of xs ≡ Some x
    → (y : B) × (last_of ys ≡ Some y) × R x y
pairs_last R [] ys x both e = absurd (none_some e)
pairs_last R (a ∷ xs) [] x both e = absurd both
pairs_last R (a ∷ []) (b ∷ []) x both e = (b, refl, subst (λ z. R z b) (some_same e) both.0)
pairs_last R (a ∷ []) (b ∷ b' ∷ ys) x both e = absurd both.1
pairs_last R (a ∷ a' ∷ xs) (b ∷ []) x both e = absurd both.1
pairs_last R (a ∷ a' ∷ xs) (b ∷ b' ∷ ys) x both e = pairs_last R (a' ∷ xs) (b' ∷ ys) x both.1 e

module _ (tree : Tree) (slots : List Slot) (c : Code) where
  -- the copy that `prior` reads
  last_copy : (u : Standing) (s : State) (cs : List State) (ds : List Copy) (others : List Stacks)
      → Meets tree slots c u.process s u.at u.words u.calls
      → Pairs (CopyTogether tree slots c u.process) cs ds → stacks_in s ∷ others ≡ onto [] (stacks_at cs)
      → (copy : State) × (seen : Copy) × (last_of cs ≡ Some copy) × (last_of ds ≡ Some seen)
      × IsPrior tree c u.process s u.calls copy seen.words u.calls
  last_copy u s cs ds others meets pairs e =
      found (last_of cs) refl (sym (last_of-map stacks_in cs) ∙ last_told (stacks_at cs) (stacks_in s) others (sym e))
    where
      found : (o : Option State) → last_of cs ≡ o → option_map stacks_in o ≡ Some (stacks_in s)
          → (copy : State) × (seen : Copy) × (last_of cs ≡ Some copy) × (last_of ds ≡ Some seen)
          × IsPrior tree c u.process s u.calls copy seen.words u.calls
      found None there same = absurd (none_some same)
      found (Some copy) there same =
          let pair = pairs_last (CopyTogether tree slots c u.process) cs ds copy pairs there in (
            copy,
            pair.0,
            there,
            pair.1,
            is_prior tree slots c u.process s copy u.words pair.0.words u.calls pair.0.calls meets.words_meet pair.2.meets.words_meet
                (some_same same),
          )

  prior_for : (u : Standing) (s : State) (cs : List State) (ds : List Copy) (items : List Item) → Meets tree slots c u.process s u.at u.words u.calls
      → Pairs (CopyTogether tree slots c u.process) cs ds → stacks_left items (stacks_in s) ≡ onto [] (stacks_at cs)
      → PriorFor tree slots c u s items (last_of cs) (last_of ds)
  prior_for u s cs ds [] meets pairs e = tt
  prior_for u s cs ds (Perform command ∷ rest) meets pairs e = tt
  prior_for u s cs ds (StartOf block ∷ rest) meets pairs e = tt
  prior_for u s cs ds (TestOf block ∷ rest) meets pairs e = last_copy u s cs ds (stacks_left rest (stacks_in s)) meets pairs e
  prior_for u s cs ds (EndBlock ∷ rest) meets pairs e = tt
  prior_for u s cs ds (EndCall ∷ rest) meets pairs e = tt

-- where all copies are there, the machine stands upright
pub whole_upright : {tree : Tree} {slots : List Slot} {c : Code} {upright : Uprightness} {cs : List State} {s : State} {ds : List Copy} {u : Standing}
    → left_in s ≡ onto [] (stacks_at cs) → StandsOrFell tree slots c upright false cs s ds u → upright false ds u
whole_upright e (Whole whole up) = up
whole_upright e (Fell line none some) = absurd (some (e ∙ ap (λ copies. onto [] (stacks_at copies)) none))

module _ (tree : Tree) (slots : List Slot) (c : Code) (upright : Uprightness) (keeps : IsUpright c upright)
    (come : StepsCome tree slots c) (nested : IsNested tree)
    (channels_are : c.channels ≡ channels_of tree) where
  abbrev pub together : Meeting
  together = StandTogether tree slots c upright

  pub want_same : (cs : List State) (s : State) (ds : List Copy) (u : Standing) → together false cs s ds u → wants_first tree s.items ≡ want c u
  want_same cs s ds u both =
      wants_agree c tree slots u.process (stacks_of s.environment.calls) s.items u.calls u.at both.meets.left (both.settled refl)

  -- One step.
  module _ (q : Process State State) (alternate : ℕ) (message : Option ℤ) (memory : Common) (ds : List Copy) (u : Standing)
      (lies : LiesWell tree u.process q)
      (whole : left_in q.state ≡ onto [] (stacks_at (copies_of q.levels)))
      (may : MayStep (wants_first tree q.state.items) message) (at : (wants_first tree q.state.items ≡ Starts) ⊎ (alternate ≡ 0))
      (both : together false (copies_of q.levels) q.state ds u) where
    abbrev see : Sight
    see = sight u alternate (last_of ds) message

    abbrev prior : Option State
    prior = last_of (copies_of q.levels)

    abbrev did : Outcome
    did = execute c see (most_steps c) (u.at + 1) [] (memory_of u memory.slots)

    up : upright false ds u
    up = whole_upright whole both.stands

    may_word : MayStep (want c u) message
    may_word = subst (λ (w : Want). MayStep w message) (want_same (copies_of q.levels) q.state ds u both) may

    at_word : (want c u ≡ Starts) ⊎ (alternate ≡ 0)
    at_word = subst (λ (w : Want). (w ≡ Starts) ⊎ (alternate ≡ 0)) (want_same (copies_of q.levels) q.state ds u both) at

    ended : (end : Outcome) → IsEnd end → EndsIn c see (u.at + 1) [] (memory_of u memory.slots) end → did ≡ end
    ended end is ends =
        enough c see (most_steps c) (u.at + 1) [] (memory_of u memory.slots) end is ends
        (keeps.finishes ds u alternate message memory.slots up may_word at_word)

    agrees_after : (end : Outcome) (x : Stepped State (Nothing × Slots)) → did ≡ end
        → StepsAgree together (copies_of q.levels) ds x (came_to u memory end)
        → StepsAgree together (copies_of q.levels) ds x (steps c alternate (last_of ds) u message memory)
    agrees_after end x e agree = subst (λ (o : Outcome). StepsAgree together (copies_of q.levels) ds x (came_to u memory o)) (sym e) agree

    step_agrees : (x : Result_of_step) → step tree alternate (environment_of prior) q.state message ≡ x
        → ComesTo tree slots c u see memory.slots (stepped_with_slots (tree_kind tree) q.state memory.slots x)
        → StepsAgree together (copies_of q.levels) ds (stepped_with_slots (tree_kind tree) q.state memory.slots x)
        (steps c alternate (last_of ds) u message memory)
    step_agrees (Trapped cause) e comes = agrees_after (Trap cause) (Trapped cause) (ended (Trap cause) tt comes) refl
    step_agrees (Went t m) e comes =
        let follows : Follows q.state t = went_follows q.state tree alternate (environment_of prior) message t m e in
        let end : did ≡ Stopped comes.to comes.later = ended (Stopped comes.to comes.later) tt comes.ends in
        agrees_after (Stopped comes.to comes.later) (stepped_with_slots (tree_kind tree) q.state memory.slots (Went t m)) end (record {
          same_slots = sym comes.slots_are;
          same_lines = comes.held;
          they_meet = record {
            process = follows.process ∙ both.process;
            meets = comes.meets;
            settled = λ _. comes.settled;
            mail = same_mail t (settle t) refl refl
                (went_mail tree nested c channels_are u.process q lies.known alternate (environment_of prior) message t m e both.mail);
            copies = both.copies;
            points = both.points;
            stands = Whole (settled_left t.items t.environment ∙ went_leaves q.state tree alternate (environment_of prior) message t m e ∙ whole)
                (keeps.went ds u alternate message memory (record memory { slots = comes.later.slots })
                (standing_at comes.to comes.later u) up may_word at_word
                (ap (came_to u memory) end));
          };
        })
    step_agrees (Held t) e comes =
        let follows : Follows q.state t = held_follows q.state tree alternate (environment_of prior) message t e in
        let end : did ≡ Accepts comes.to comes.later = ended (Accepts comes.to comes.later) tt comes.ends in
        agrees_after (Accepts comes.to comes.later) (Held t) end (record {
          same_lines = comes.held;
          they_meet = record {
            process = follows.process ∙ both.process;
            meets = comes.meets;
            settled = λ line. absurd (true≢false line);
            mail = held_mail tree nested c channels_are u.process q lies.known alternate (environment_of prior) message t e both.mail;
            copies = both.copies;
            points = both.points;
            stands = Whole (front_gone (stacks_in q.state) (left_in t) (stacks_at (copies_of q.levels))
                (sym (held_leaves q.state tree alternate (environment_of prior) message t e) ∙ whole))
                (keeps.held ds u alternate message memory (standing_at comes.to comes.later u) up may_word at_word (ap (came_to u memory) end));
          };
        })

    pub takes_step : u.held ≡ q.state.held
        → StepsAgree together (copies_of q.levels) ds
        (stepped_with_slots (tree_kind tree) q.state memory.slots (step tree alternate (environment_of prior) q.state message))
        (steps c alternate (last_of ds) u message memory)
    takes_step lines =
        step_agrees (step tree alternate (environment_of prior) q.state message) refl
        (come u q.state alternate prior (last_of ds) message memory.slots lies.known.own both.mail lines both.meets (both.settled refl)
        (prior_for tree slots c u q.state (copies_of q.levels) ds q.state.items both.meets both.copies whole) may at)
