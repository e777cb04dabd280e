-- Processes that stand together still do after an entry, once a level was accepted, once lines were released, and once a copy was put back.
use Rattle.std.proofs.Common.{◌≡◌, ℕ, ℤ, ◌+◌, suc, Bool, true, false, List, [], ◌∷◌, ◌++◌, slice_get, take, Some, None, refl, sym, ap, ◌∙◌, subst, true≢false, arith}
use Rattle.rb_syntax.specs.Tree.{Recovering, RecoveryBlock, Recovers, Tree}
use Rattle.rb_world.specs.Kind.{Facts, Enters}
use Rattle.rb_world.specs.World.{last_of, without_last}
use Rattle.rb_world.proofs.Relating.ImageRuns.{more-map, take-map}
use Rattle.rb_world.proofs.LastLevels.{without_last-map}
use Rattle.rb_world.proofs.ListFacts.{none_some}
use Rattle.rb_meaning.specs.State.{Item, Perform, StartOf, State, settle, with_held, with_kept}
use Rattle.rb_meaning.specs.Step.{enter, entered_items, wants_first}
use Rattle.rb_meaning.proofs.InsideOut.{onto, onto-more, onto-some}
use Rattle.rb_meaning.proofs.Knowing.KnownFacts.{IsEntered, entered_block}
use Rattle.rb_scope.specs.Frames.{Shape}
use Rattle.rb_scope.specs.declared.slot.Slot.{Slot}
use Rattle.rb_code.specs.Instructions.Plain.{Code}
use Rattle.rb_code.specs.WordMachine.Workspace.{OpenCall}
use Rattle.rb_code.specs.WordMachine.Act.{Sight, Stopped}
use Rattle.rb_code.specs.Agreement.Forms.{CommandForm}
use Rattle.rb_code.specs.WordMachine.Turn.{Copy, Standing, memory_of, most_steps, settled_by, settle as settles, sight, standing_at, want}
use Rattle.rb_code.specs.WordMachine.WordKind.{copied, entered_at, released, restored}
use Rattle.rb_code.proofs.Agreeing.Placed.{CommandPlaced}
use Rattle.rb_code.proofs.InWords.LaidOut.{stacks_of}
use Rattle.rb_code.proofs.Agreeing.Leads.{enough}
use Rattle.rb_code.proofs.Agreeing.TextLeft.{IsSettled, Left, StartCode, owner_of}
use Rattle.rb_code.proofs.Agreeing.StatesMeet.{Meets}
use Rattle.rb_code.proofs.Agreeing.StepOutcomes.{HasCursors, Reached, arrives}
use Rattle.rb_code.proofs.WholeRuns.Agreeing.{accepted_touched, cut_touched, kept_last}
use Rattle.rb_code.proofs.WholeRuns.OwnMail.{same_mail}
use Rattle.rb_code.proofs.WholeRuns.Pairs.{Pairs, pairs_front, pairs_get, pairs_more, pairs_take}
use Rattle.rb_code.proofs.WholeRuns.PointsLie.{entered_left as left_entered, lie_front, lie_more, lie_taken, lies_at, stacks_at}
use Rattle.rb_code.proofs.WholeRuns.StandTogether.{CopyTogether, Fell, IsUpright, StandTogether, StandsOrFell, Uprightness, Whole}
use Rattle.rb_code.proofs.WholeRuns.StacksLeft.{left_in, settled_left, stacks_in}
use Rattle.rb_code.proofs.WholeRuns.TogetherAgrees.{whole_upright}
use Rattle.rb_code.proofs.WholeRuns.WordsOfStates.{kept_meets, released_meets}

module _ (tree : Tree) (slots : List Slot) (c : Code) (p : ℕ) where
  -- behind its entry the start of a recovery block stands
  start_behind : (block : RecoveryBlock) (a b : ℕ) → CommandPlaced tree slots (owner_of tree p) (Recovering block) c a b
      → StartCode tree slots (owner_of tree p) block c (a + 2) b
  unfolding CommandForm
  start_behind (Recovers number conversation place test bound alternates) a b (block, there, (d, tells, (e, turn, (f, enter, more)))) =
      let at : f ≡ a + 2 = omega (arith, enter.1, turn.1, tells.1) in
      subst (λ x. StartCode tree slots (owner_of tree p) (Recovers number conversation place test bound alternates) c x b) at
      (block, there, (f, (tells.0, refl), more))

  start_left : (stacks : List (List Shape)) (block : RecoveryBlock) (rest : List Item) (calls : List OpenCall) (a : ℕ)
      → Left tree slots c p stacks (Perform (Recovering block) ∷ rest) calls a → Left tree slots c p stacks (StartOf block ∷ rest) calls (a + 2)
  start_left stacks block rest calls a (b, code, inside, left) = (b, start_behind block a b code, inside, left)

  entered_left : (stacks : List (List Shape)) (items : List Item) (facts : Facts) (calls : List OpenCall) (a : ℕ) → IsEntered tree items facts
      → Left tree slots c p stacks items calls a → Left tree slots c p stacks (entered_items items) calls (a + 2)
  entered_left stacks items facts calls a entry left =
      subst (λ (list : List Item). Left tree slots c p stacks list calls (a + 2)) (sym (ap entered_items entry.is))
      (start_left stacks entry.block entry.rest calls a (subst (λ (list : List Item). Left tree slots c p stacks list calls a) entry.is left))

  -- an entry changes what is left alone
  entered_meets : (s : State) (facts : Facts) (kept : List (ℕ × ℕ)) (a : ℕ) (all : List ℤ) (calls : List OpenCall) → IsEntered tree s.items facts
      → Meets tree slots c p s a all calls → Meets tree slots c p (with_kept kept (enter s)) (a + 2) all calls
  entered_meets s facts kept a all calls entry meets =
      let w = meets.words_meet in
      record {
        words_meet = record { front = w.front; laid = w.laid; globals = w.globals; few = w.few; held = w.held; sent = w.sent; taken = w.taken };
        left = entered_left (stacks_of s.environment.calls) s.items facts calls a entry meets.left;
      }

  entered_settled : (items : List Item) (facts : Facts) → IsEntered tree items facts → IsSettled (entered_items items)
  entered_settled items facts entry = subst IsSettled (sym (ap entered_items entry.is)) tt

module _ (tree : Tree) (slots : List Slot) (c : Code) (upright : Uprightness) (keeps : IsUpright c upright) where
  abbrev Together : Bool → List State → State → List Copy → Standing → Type 0
  Together = StandTogether tree slots c upright

  pub enters_together : (cs : List State) (s : State) (ds : List Copy) (u : Standing) (facts : Facts) (kept : List (ℕ × ℕ)) (t : ℕ)
      → wants_first tree s.items ≡ Enters facts → want c u ≡ Enters facts → left_in s ≡ onto [] (stacks_at cs)
      → StandTogether tree slots c upright false cs s ds u
      → let x = with_kept kept (enter s) in
      let y = kept_last t (entered_at u) in
      StandTogether tree slots c upright false (cs ++ x ∷ []) x (ds ++ copied y ∷ []) y
  enters_together cs s ds u facts kept t wants asks whole both =
      let entry = entered_block tree s.items facts wants in
      let all : left_in (with_kept kept (enter s)) ≡ stacks_in s ∷ onto [] (stacks_at cs) =
      left_entered tree s facts entry ∙ ap (λ others. stacks_in s ∷ others) whole in
      let x = with_kept kept (enter s) in
      let y = kept_last t (entered_at u) in
      let met = entered_meets tree slots c u.process s facts kept u.at u.words u.calls entry both.meets in
      let settled = entered_settled tree slots c u.process s.items facts entry in
      let mail = same_mail s x refl refl both.mail in
      record {
        process = both.process;
        meets = met;
        settled = λ _. settled;
        mail = mail;
        copies = pairs_more (CopyTogether tree slots c u.process) cs ds x (copied y) both.copies
            (record { process = both.process; meets = met; settled = settled; mail = mail });
        points = lie_more [] cs x both.points all;
        stands = Whole (all ∙ sym (onto-more [] (stacks_at cs) (stacks_in s)) ∙ ap (onto []) (sym (more-map stacks_in cs x)))
            (keeps.enters ds u facts t (whole_upright whole both.stands) asks);
      }

  pub keeps_together : (line : Bool) (cs : List State) (s : State) (ds : List Copy) (u : Standing) (kept : List (ℕ × ℕ)) (t : ℕ)
      → StandTogether tree slots c upright line cs s ds u → StandTogether tree slots c upright line cs (with_kept kept s) ds (kept_last t u)
  keeps_together line cs s ds u kept t both = record {
    process = both.process;
    meets = kept_meets tree slots c u.process s u.at u.words u.calls kept both.meets;
    settled = both.settled;
    mail = same_mail s (with_kept kept s) refl refl both.mail;
    copies = both.copies;
    points = both.points;
    stands = by both.stands;
  }
    where
      by : StandsOrFell tree slots c upright line cs s ds u → StandsOrFell tree slots c upright line cs (with_kept kept s) ds (kept_last t u)
      by (Whole e up) = Whole e (keeps.keeps line ds u t up)
      by (Fell away none some) = Fell away none some

  pub releases_together : (line : Bool) (s : State) (u : Standing) → StandTogether tree slots c upright line [] s [] u
      → StandTogether tree slots c upright line [] (with_held [] s) [] (released u)
  releases_together line s u both = record {
    process = both.process;
    meets = released_meets tree slots c u.process s u.at u.words u.calls both.meets;
    settled = both.settled;
    mail = same_mail s (with_held [] s) refl refl both.mail;
    copies = tt;
    points = tt;
    stands = by both.stands;
  }
    where
      by : StandsOrFell tree slots c upright line [] s [] u → StandsOrFell tree slots c upright line [] (with_held [] s) [] (released u)
      by (Whole e up) = Whole e (keeps.releases line u up)
      by (Fell away none some) = Fell away none some

  pub back_together : (line : Bool) (cs : List State) (s : State) (ds : List Copy) (u : Standing) (j : ℕ) (x : State) (y : Copy)
      → StandTogether tree slots c upright line cs s ds u → slice_get cs j ≡ Some x → slice_get ds j ≡ Some y
      → StandTogether tree slots c upright false (take (suc j) cs) x (take (suc j) ds) (restored (cut_touched (suc j) u) y)
  back_together line cs s ds u j x y both at at' =
      let copy = pairs_get (CopyTogether tree slots c u.process) cs ds j x y both.copies at at' in
      record {
        process = copy.process;
        meets = copy.meets;
        settled = λ _. copy.settled;
        mail = copy.mail;
        copies = pairs_take (CopyTogether tree slots c u.process) (suc j) cs ds both.copies;
        points = lie_taken [] (suc j) cs both.points;
        stands = by both.stands;
      }
    where
      by : StandsOrFell tree slots c upright line cs s ds u
          → StandsOrFell tree slots c upright false (take (suc j) cs) x (take (suc j) ds) (restored (cut_touched (suc j) u) y)
      by (Whole e up) = Whole (lies_at [] j cs x both.points at ∙ ap (onto []) (take-map stacks_in (suc j) cs)) (keeps.back line ds u j y up at')
      by (Fell away none some) = absurd (none_some (ap (λ (copies : List State). slice_get copies j) (sym none) ∙ at))

  pub falls_together : (cs : List State) (s : State) (ds : List Copy) (u : Standing) → StandTogether tree slots c upright false cs s ds u
      → StandTogether tree slots c upright false [] s [] (cut_touched 0 u)
  falls_together cs s ds u both = record {
    process = both.process;
    meets = both.meets;
    settled = both.settled;
    mail = both.mail;
    copies = tt;
    points = tt;
    stands = by cs ds both.copies both.stands;
  }
    where
      by : (xs : List State) (ys : List Copy) → Pairs (CopyTogether tree slots c u.process) xs ys → StandsOrFell tree slots c upright false xs s ys u
          → StandsOrFell tree slots c upright false [] s [] (cut_touched 0 u)
      by xs ys pairs (Fell away none some) = Fell refl refl some
      by [] [] pairs (Whole e up) = Whole e (keeps.falls u up)
      by [] (y ∷ ys) pairs (Whole e up) = absurd pairs
      by (x ∷ xs) ys pairs (Whole e up) = Fell refl refl (λ none. onto-some (stacks_in x) [] (stacks_at xs) (sym none ∙ e))

  -- once a level was accepted, ends of blocks and calls are taken off
  module _ (cursors : (p : ℕ) → HasCursors c p) (cs : List State) (s : State) (ds : List Copy) (u : Standing) (lines : u.held ≡ s.held)
      (both : StandTogether tree slots c upright true cs s ds u) where
    -- who stands at a line has not fallen
    whole_at_line : StandsOrFell tree slots c upright true cs s ds u → (left_in s ≡ onto [] (without_last (stacks_at cs))) × upright true ds u
    whole_at_line (Whole e up) = (e, up)
    whole_at_line (Fell away none some) = absurd (true≢false away)

    abbrev gone : Standing
    gone = accepted_touched u

    abbrev seen : Sight
    seen = sight gone 0 (last_of (without_last ds)) None

    abbrev reached : Type 0
    reached = Reached tree slots c seen (cursors u.process) u.at [] (memory_of gone []) (settle s) []

    comes : reached
    comes = arrives tree slots c seen (cursors u.process) s u.at (memory_of gone []) (λ _. [])
        (record { words_meet = both.meets.words_meet; held = lines; two = refl }) both.meets.left refl

    settled_is : (r : reached) → settles c (last_of (without_last ds)) gone ≡ standing_at r.to r.later gone
    settled_is r =
        ap (settled_by gone)
        (enough c seen (most_steps c) u.at [] (memory_of gone []) (Stopped r.to r.later) tt r.ends
        (keeps.settles_finish ds u (whole_at_line both.stands).1))

    pub leaves_together : StandTogether tree slots c upright false (without_last cs) (settle s) (without_last ds)
        (settles c (last_of (without_last ds)) gone)
    leaves_together =
        let r = comes in
        let is = settled_is r in
        subst (λ (v : Standing). StandTogether tree slots c upright false (without_last cs) (settle s) (without_last ds) v) (sym is) (record {
          process = both.process;
          meets = r.meets;
          settled = λ _. r.settled;
          mail = same_mail s (settle s) refl refl both.mail;
          copies = pairs_front (CopyTogether tree slots c u.process) cs ds both.copies;
          points = lie_front [] cs both.points;
          stands = Whole (settled_left s.items s.environment ∙ (whole_at_line both.stands).0 ∙ ap (onto []) (without_last-map stacks_in cs))
              (subst (λ (v : Standing). upright false (without_last ds) v) is (keeps.leaves ds u (whole_at_line both.stands).1));
        })

    pub leaves_lines : (settles c (last_of (without_last ds)) gone).held ≡ u.held
    leaves_lines = let r = comes in ap (λ (v : Standing). v.held) (settled_is r) ∙ r.held ∙ sym lines
