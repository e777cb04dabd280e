-- A receipt is never left without its message: nobody has taken more from a channel than it can see there. Show the sender at
-- its first level that it does not share with the receiver; if that is a level of a conversation, show everyone inside that
-- conversation at its level of it, and the receiver is not inside. The numbers of this cut say so.
use Rattle.std.proofs.Common.{◌≡◌, ◌≢◌, ◌≤◌, ℕ, zero, suc, nat_eq, Bool, true, false, cond, List, [], ◌∷◌, position, slice_get, unwrap_or, Option, Some, None, refl, sym, ap, ◌∙◌, subst, subst₂, true≢false, eq-eqb, ne_eqb, eqb-true, arith}
use Rattle.rb_world.specs.Kind.{Ends}
use Rattle.rb_world.specs.World.{Level, Process, World, is_of, is_shared, levels_of}
use Rattle.rb_world.specs.Channels.{seen_copy, seen_count}
use Rattle.rb_world.specs.Turn.{Told, most_levels, opening, run}
use Rattle.rb_world.specs.Standing.{Each, IsShallow}
use Rattle.rb_world.specs.Nested.{IsLevelOf, AreNested}
use Rattle.rb_world.proofs.Keeping.EachProcess.{KeepsEach}
use Rattle.rb_world.proofs.ListFacts.{none_some, some_same}
use Rattle.rb_world.proofs.Erasing.ErasableKinds.{Nothing, Parts, whole, plain, IsErasable}
use Rattle.rb_world.proofs.Erasing.Showing.Cuts.{IsConsistent, ShowsOne, with_shown}
use Rattle.rb_world.proofs.Erasing.Showing.ErasureInvariant.{IsGrounded, ShowsCut}
use Rattle.rb_world.proofs.Erasing.Showing.ShownWorlds.{IsShown, get_shown}
use Rattle.rb_world.proofs.Keeping.NestedSame.{same_number}
use Rattle.rb_world.proofs.LevelFacts.{any_level, level_at_place, no_place, some_none}
use Rattle.rb_world.proofs.Erasing.ErasureIsInvariant.{ErasureIsKept}
use Rattle.rb_world.proofs.Erasing.SurvivorsRunAlone.{OpensErasably, IsShownWhole, all_present, consistent_present, present, run_shown, state_at_level, state_present}

-- the first level that is not shared, with its recovery point
pub record IsUnshared {C : Type 0} (ls ms : List (Level C)) (copy : C) : Type 0 where
  pub number : ℕ
  pub level : Level C
  pub there : slice_get ls number ≡ Some level
  pub same : level.copy ≡ copy
  pub apart : (m : Level C) → slice_get ms number ≡ Some m → is_shared level.facts.conversation m.facts.conversation ≡ false

unshared_if : {C : Type 0} (l m : Level C) (ls ms : List (Level C)) (copy : C) (shared : Bool)
    → is_shared l.facts.conversation m.facts.conversation ≡ shared
    → (seen_copy ls ms ≡ Some copy → IsUnshared ls ms copy) → cond shared (seen_copy ls ms) (Some l.copy) ≡ Some copy
    → IsUnshared (l ∷ ls) (m ∷ ms) copy
unshared_if l m ls ms copy true e rest seen =
    let found = rest seen in
    record { number = suc found.number; level = found.level; there = found.there; same = found.same; apart = found.apart }
unshared_if l m ls ms copy false e rest seen = record {
  number = zero;
  level = l;
  there = refl;
  same = some_same seen;
  apart = λ n at. subst (λ (z : Level _). is_shared l.facts.conversation z.facts.conversation ≡ false) (some_same at) e;
}

pub first_unshared : {C : Type 0} (ls ms : List (Level C)) (copy : C) → seen_copy ls ms ≡ Some copy → IsUnshared ls ms copy
first_unshared [] ms copy e = absurd (none_some e)
first_unshared (l ∷ ls) [] copy e = record { number = zero; level = l; there = refl; same = some_same e; apart = λ m at. absurd (none_some at) }
first_unshared (l ∷ ls) (m ∷ ms) copy e =
    unshared_if l m ls ms copy (is_shared l.facts.conversation m.facts.conversation) refl (first_unshared ls ms copy) e

-- two levels of one conversation are shared
shared_same : (d : ℕ) (o o' : Option ℕ) → o ≡ Some d → o' ≡ Some d → is_shared o o' ≡ false → ⊥
shared_same d o o' e e' apart =
    true≢false (sym (eq-eqb d d refl) ∙ subst₂ (λ (a b : Option ℕ). is_shared a b ≡ false) e e' apart)

-- The cut that shows everyone inside conversation d at the level of it, and all others as they are.
abbrev pub at_levels_of : {S : Type 0} → ℕ → List (Process S S) → ℕ → ℕ
at_levels_of d qs r = unwrap_or (position (is_of d) (levels_of (slice_get qs r))) most_levels

module _ {S E P : Type 0} {x : Parts S E P} {Known : ℕ → Process S S → Type 0} (laws : IsErasable x Known) (qs : List (Process S S))
    (each : Each (IsGrounded x Known) qs) (shallow : Each IsShallow qs) where
  -- at a level of it is who is inside; nobody else is at a level
  shown_by : (d r : ℕ) (q : Process S S) → slice_get qs r ≡ Some q → (place : Option ℕ)
      → position (is_of d) q.levels ≡ place → at_levels_of d qs r ≡ unwrap_or place most_levels
  shown_by d r q e place at =
      ap (λ (o : Option (Process S S)). unwrap_or (position (is_of d) (levels_of o)) most_levels) e
      ∙ ap (λ (o : Option ℕ). unwrap_or o most_levels) at

  no_level : (r : ℕ) (q : Process S S) (level : Level S) → slice_get qs r ≡ Some q → slice_get q.levels most_levels ≡ Some level → ⊥
  no_level r q level e there = some_none (sym there ∙ all_present qs shallow r q e)

  both_inside : (d r c : ℕ) (q : Process S S) → slice_get qs r ≡ Some q → (place : Option ℕ) → position (is_of d) q.levels ≡ place
      → IsLevelOf c q.levels (unwrap_or place most_levels) → c ≡ d
  both_inside d r c q e None at of_c = absurd (no_level r q of_c.level e of_c.there)
  both_inside d r c q e (Some j) at of_c =
      let of_d : IsLevelOf d q.levels j = level_at_place d j q.levels at in
      some_same (sym of_c.of_it ∙ ap (λ (l : Level S). l.facts.conversation) (some_same (sym of_c.there ∙ of_d.there)) ∙ of_d.of_it)

  -- whoever has a level of d is shown there
  placed : (d r j : ℕ) (q : Process S S) → slice_get qs r ≡ Some q → (place : Option ℕ) → position (is_of d) q.levels ≡ place
      → IsLevelOf d q.levels j → unwrap_or place most_levels ≡ j
  placed d r j q e None at of_d = absurd (no_place (is_of d) q.levels (any_level d j q.levels of_d) at)
  placed d r j q e (Some i) at of_d =
      let nested : AreNested x.groups q.levels = laws.nested r q (each r q e).known in
      same_number x.groups q.levels q.levels nested nested d i j (level_at_place d i q.levels at) of_d

  pub consistent_levels : (d : ℕ) → IsConsistent (at_levels_of d qs) qs
  consistent_levels d r other c j q q' e e' at at' =
      let same : c ≡ d = both_inside d r c q e (position (is_of d) q.levels) refl
      (subst (IsLevelOf c q.levels) (shown_by d r q e (position (is_of d) q.levels) refl) at) in
      let here : at_levels_of d qs other ≡ j = shown_by d other q' e' (position (is_of d) q'.levels) refl
      ∙ placed d other j q' e' (position (is_of d) q'.levels) refl (subst (λ (n : ℕ). IsLevelOf n q'.levels j) same at') in
      omega (arith, here)

  -- The cut that shows one process at a private level, and all others as they are.
  private_level : (p i r c : ℕ) (sender q : Process S S) (level : Level S) → slice_get qs p ≡ Some sender → slice_get sender.levels i ≡ Some level
      → level.facts.conversation ≡ None → slice_get qs r ≡ Some q → (here : Bool) → nat_eq r p ≡ here
      → IsLevelOf c q.levels (cond here i most_levels) → ⊥
  private_level p i r c sender q level e there alone e' true same at =
      let q_is : q ≡ sender = some_same (sym e' ∙ ap (slice_get qs) (eqb-true r p same) ∙ e) in
      none_some (sym alone ∙ ap (λ (l : Level S). l.facts.conversation)
      (some_same (sym there ∙ ap (λ (z : Process S S). slice_get z.levels i) (sym q_is) ∙ at.there)) ∙ at.of_it)
  private_level p i r c sender q level e there alone e' false other at = no_level r q at.level e' at.there

  pub consistent_private : (p i : ℕ) (sender : Process S S) (level : Level S) → slice_get qs p ≡ Some sender → slice_get sender.levels i ≡ Some level
      → level.facts.conversation ≡ None → IsConsistent (with_shown present p i) qs
  consistent_private p i sender level e there alone r other c j q q' e' _ at _ =
      absurd (private_level p i r c sender q level e there alone e' (nat_eq r p) refl at)

-- each receiver's number taken is at most the length of what it can see
abbrev pub AreSeen : {S E P : Type 0} → Parts S E P → World S S Nothing → Type 0
AreSeen {S} x w = (c : ℕ) (ends : Ends) (sender receiver : Process S S) → slice_get x.channels c ≡ Some ends
    → slice_get w.processes ends.sender ≡ Some sender → slice_get w.processes ends.receiver ≡ Some receiver
    → x.taken receiver.state c ≤ seen_count (whole x) sender.state (seen_copy sender.levels receiver.levels) c

-- a channel lies between two processes
abbrev pub AreBetweenTwo : List Ends → Type 0
AreBetweenTwo channels = (c : ℕ) (ends : Ends) → slice_get channels c ≡ Some ends → ends.receiver ≢ ends.sender

module _ {S E P : Type 0} {x : Parts S E P} {Known : ℕ → Process S S → Type 0} (laws : IsErasable x Known) (two : AreBetweenTwo x.channels)
    {start : World S P Nothing} {all : List Told} {w : World S S Nothing} (shown : IsShownWhole x Known start all w)
    (c : ℕ) (ends : Ends) (sender receiver : Process S S) (channel : slice_get x.channels c ≡ Some ends)
    (there : slice_get w.processes ends.sender ≡ Some sender) (there' : slice_get w.processes ends.receiver ≡ Some receiver) where
  -- what the plain world of a cut says of the two ends
  in_cut : (f : ℕ → ℕ) (s r : S) → IsConsistent f w.processes → ((u : Process S P) → ShowsOne x (f ends.sender) sender u → u.state ≡ s)
      → ((u : Process S P) → ShowsOne x (f ends.receiver) receiver u → u.state ≡ r) → x.taken r c ≤ x.sent s c
  in_cut f s r consistent sends takes =
      let cut : ShowsCut x start shown.turn all w f = shown.shown f consistent in
      let a : IsShown x (f ends.sender) ends.sender sender cut.world.processes =
      get_shown x f ends.sender w.processes cut.world.processes sender cut.shows there in
      let b : IsShown x (f ends.receiver) ends.receiver receiver cut.world.processes =
      get_shown x f ends.receiver w.processes cut.world.processes receiver cut.shows there' in
      omega (
        arith,
        cut.erased.sent c ends a.process b.process channel a.there b.there,
        ap (λ (t : S). x.sent t c) (sends a.process a.shows),
        ap (λ (t : S). x.taken t c) (takes b.process b.shows),
      )

  -- the receiver as it is
  as_it_is : (n : ℕ) → n ≡ most_levels → (u : Process S P) → ShowsOne x n receiver u → u.state ≡ receiver.state
  as_it_is n e u one = state_present x n receiver u one
      (subst (λ (m : ℕ). slice_get receiver.levels m ≡ None) (sym e) (all_present w.processes shown.shallow ends.receiver receiver there'))

  -- the sender at its level
  at_its_level : (n i : ℕ) (level : Level S) → n ≡ i → slice_get sender.levels i ≡ Some level → (u : Process S P)
      → ShowsOne x n sender u → u.state ≡ level.copy
  at_its_level n i level e at u one = state_at_level x n sender u level one
      (subst (λ (m : ℕ). slice_get sender.levels m ≡ Some level) (sym e) at) (shown.ground.each ends.sender sender there).bare

  in_private : (i : ℕ) (level : Level S) → slice_get sender.levels i ≡ Some level → level.facts.conversation ≡ None
      → x.taken receiver.state c ≤ x.sent level.copy c
  in_private i level at alone =
      in_cut (with_shown present ends.sender i) level.copy receiver.state
      (consistent_private laws w.processes shown.ground.each shown.shallow ends.sender i sender level there at alone)
      (at_its_level (with_shown present ends.sender i ends.sender) i level
      (ap (λ (b : Bool). cond b i most_levels) (eq-eqb ends.sender ends.sender refl)) at)
      (as_it_is (with_shown present ends.sender i ends.receiver)
      (ap (λ (b : Bool). cond b i most_levels) (ne_eqb ends.receiver ends.sender (two c ends channel))))

  -- the receiver is not inside the sender's first conversation that is not shared
  outside : (i d : ℕ) (level : Level S) → slice_get sender.levels i ≡ Some level → level.facts.conversation ≡ Some d
      → ((m : Level S) → slice_get receiver.levels i ≡ Some m → is_shared level.facts.conversation m.facts.conversation ≡ false)
      → (place : Option ℕ) → position (is_of d) receiver.levels ≡ place → unwrap_or place most_levels ≡ most_levels
  outside i d level at of_d apart None e = refl
  outside i d level at of_d apart (Some j) e =
      let m : IsLevelOf d receiver.levels j = level_at_place d j receiver.levels e in
      let same : j ≡ i = same_number x.groups receiver.levels sender.levels
      (laws.nested ends.receiver receiver (shown.ground.each ends.receiver receiver there').known)
      (laws.nested ends.sender sender (shown.ground.each ends.sender sender there).known)
      d j i m (record { level = level; there = at; of_it = of_d }) in
      absurd (shared_same d level.facts.conversation m.level.facts.conversation of_d m.of_it
      (apart m.level (subst (λ (n : ℕ). slice_get receiver.levels n ≡ Some m.level) same m.there)))

  in_conversation : (i d : ℕ) (level : Level S) → slice_get sender.levels i ≡ Some level → level.facts.conversation ≡ Some d
      → ((m : Level S) → slice_get receiver.levels i ≡ Some m → is_shared level.facts.conversation m.facts.conversation ≡ false)
      → x.taken receiver.state c ≤ x.sent level.copy c
  in_conversation i d level at of_d apart =
      in_cut (at_levels_of d w.processes) level.copy receiver.state (consistent_levels laws w.processes shown.ground.each shown.shallow d)
      (at_its_level (at_levels_of d w.processes ends.sender) i level
      (shown_by laws w.processes shown.ground.each shown.shallow d ends.sender sender there (position (is_of d) sender.levels) refl
      ∙ placed laws w.processes shown.ground.each shown.shallow d ends.sender i sender there (position (is_of d) sender.levels) refl
      (record { level = level; there = at; of_it = of_d })) at)
      (as_it_is (at_levels_of d w.processes ends.receiver)
      (shown_by laws w.processes shown.ground.each shown.shallow d ends.receiver receiver there' (position (is_of d) receiver.levels) refl
      ∙ outside i d level at of_d apart (position (is_of d) receiver.levels) refl))

  in_either : (found : Level S) (i : ℕ) → slice_get sender.levels i ≡ Some found
      → ((m : Level S) → slice_get receiver.levels i ≡ Some m → is_shared found.facts.conversation m.facts.conversation ≡ false)
      → (conversation : Option ℕ) → found.facts.conversation ≡ conversation → x.taken receiver.state c ≤ x.sent found.copy c
  in_either found i at apart None alone = in_private i found at alone
  in_either found i at apart (Some d) of_d = in_conversation i d found at of_d apart

  receipt_seen : (copy : Option S) → seen_copy sender.levels receiver.levels ≡ copy
      → x.taken receiver.state c ≤ seen_count (whole x) sender.state copy c
  receipt_seen None e =
      in_cut present sender.state receiver.state (consistent_present present w.processes (all_present w.processes shown.shallow))
      (λ u one. state_present x most_levels sender u one (all_present w.processes shown.shallow ends.sender sender there))
      (as_it_is most_levels refl)
  receipt_seen (Some copy) e =
      let found : IsUnshared sender.levels receiver.levels copy = first_unshared sender.levels receiver.levels copy e in
      subst (λ (s : S). x.taken receiver.state c ≤ x.sent s c) found.same
      (in_either found.level found.number found.there found.apart found.level.facts.conversation refl)

module _ {S E P : Type 0} {x : Parts S E P} {Known : ℕ → Process S S → Type 0} (keeps : KeepsEach (whole x) Known)
    (laws : IsErasable x Known) (two : AreBetweenTwo x.channels)
    {states : List S} (opens : OpensErasably x Known states)
    (kept : ErasureIsKept x Known (opening (plain x) states tt)) where
  -- No receipt stands whose message was taken back.
  pub no_receipt_taken_back : (turns : List ℕ) → AreSeen x (run (whole x) 1 turns (opening (whole x) states tt)).0
  no_receipt_taken_back turns c ends sender receiver channel there there' =
      receipt_seen laws two (run_shown keeps laws opens kept turns) c ends sender receiver channel there there'
      (seen_copy sender.levels receiver.levels) refl
