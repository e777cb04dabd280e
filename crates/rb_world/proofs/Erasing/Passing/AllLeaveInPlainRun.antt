-- All members leave a conversation, and the cut shows each of them as it is: they leave in the plain run too.
use Rattle.std.proofs.Common.{◌≡◌, ◌≤◌, ℕ, Bool, true, false, true≢false, cond, List, length, map, slice_get, Option, Some, None, refl, sym, ap, ◌∙◌, subst, suc-le-suc, le_trans, le_of_eq}
use Rattle.std.specs.List.{list_all}
use Rattle.rb_base.specs.declared.event.Event.TheVariants.{Pass}
use Rattle.rb_world.specs.World.{Level, Process, World, settled, talk_at, without_last}
use Rattle.rb_world.specs.Standing.{Each}
use Rattle.rb_world.specs.Turn.{all_leave, all_stand, alternate_of, at_test_line, leaves, members_of, passed, stands_at, stands_there, took}
use Rattle.rb_world.proofs.Keeping.StandingFacts.{status_at-whole}
use Rattle.rb_world.proofs.Erasing.ErasableKinds.{Nothing, Parts, whole, plain, IsErasable, SameMail}
use Rattle.rb_world.proofs.Erasing.Showing.Cuts.{plain_level, ShowsOne, Alive, Shows}
use Rattle.rb_world.proofs.Erasing.Showing.ShownWorlds.{get_shown, map_shown}
use Rattle.rb_world.proofs.Erasing.Stepping.PresentProcess.{as_is, shown_present}
use Rattle.rb_world.proofs.Erasing.Showing.ShownOlder.{running_whole, shown_alive}
use Rattle.rb_world.proofs.Erasing.Showing.MailKept.{same_mail}
use Rattle.rb_world.proofs.LastLevels.{length-with_last, without_last-map}
use Rattle.rb_world.proofs.Erasing.Showing.TestLinesInCuts.{list_all_implied, present_stands, stands_shown}
use Rattle.rb_world.proofs.Erasing.Passing.LeavingCuts.{stands_last, leaves_not, leaves_goes}
use Rattle.rb_world.proofs.Erasing.Passing.AllOrNoneLeave.{StandsThere, before_leaving, leaving_at}
use Rattle.rb_world.proofs.Erasing.Passing.AllLeaveUnseen.{stander_runs}

module _ {S E P : Type 0} (x : Parts S E P) (c : ℕ) where
  -- who leaves in the plain run, and who stays
  plain_leaves_goes : (u : Process S P) → stands_at c u ≡ true → leaves (plain x) c u ≡ settled (plain x) u.state (without_last u.levels)
  plain_leaves_goes u e = ap (λ (b : Bool). cond b (settled (plain x) u.state (without_last u.levels)) u) e

  plain_leaves_not : (u : Process S P) → stands_at c u ≡ false → leaves (plain x) c u ≡ u
  plain_leaves_not u e = ap (λ (b : Bool). cond b (settled (plain x) u.state (without_last u.levels)) u) e

  -- to leave changes no mail
  pub leaves_mail : ((s : S) → SameMail x s (x.settle s)) → (u : Process S P) → (stands : Bool) → stands_at c u ≡ stands
      → SameMail x u.state (leaves (plain x) c u).state
  leaves_mail settles u true e = subst (λ (a : Process S P). SameMail x u.state a.state) (sym (plain_leaves_goes u e)) (settles u.state)
  leaves_mail settles u false e = subst (λ (a : Process S P). SameMail x u.state a.state) (sym (plain_leaves_not u e)) (same_mail x u.state)

  -- and no kept turns
  pub leaves_kept : ((s : S) → x.kept (x.settle s) ≡ x.kept s) → (u : Process S P) → (stands : Bool) → stands_at c u ≡ stands
      → x.kept (leaves (plain x) c u).state ≡ x.kept u.state
  leaves_kept settles u true e = ap (λ (a : Process S P). x.kept a.state) (plain_leaves_goes u e) ∙ settles u.state
  leaves_kept settles u false e = ap (λ (a : Process S P). x.kept a.state) (plain_leaves_not u e)

  -- where all stand, the line is passed
  pub all_pass : (v : World S P Nothing) → all_stand (plain x) c v ≡ true
      → at_test_line (plain x) c v ≡ passed (Pass c (alternate_of (talk_at v c))) (all_leave (plain x) c v)
  all_pass v e = ap (λ (b : Bool). cond b (passed (Pass c (alternate_of (talk_at v c))) (all_leave (plain x) c v)) (took v)) e

  -- a process that stands, is shown as it is, and leaves, is shown as it is
  leaver_shown : (m : ℕ) (z : Process S S) → stands_at c z ≡ true → length (without_last z.levels) ≤ m
      → ShowsOne x m (leaves (whole x) c z) (leaves (plain x) c (as_is x z))
  leaver_shown m z stands here =
      let gone : Process S S = settled (whole x) z.state (without_last z.levels) in
      subst (λ (a : Process S S). ShowsOne x m a (leaves (plain x) c (as_is x z))) (sym (leaves_goes x c z stands))
      (Alive (status_at-whole (x.want (x.settle z.state)))
      (plain_leaves_goes (as_is x z) (present_stands x c z ∙ stands)
      ∙ ap (λ (ls : List (Level P)). settled (plain x) z.state ls) (without_last-map (plain_level x) z.levels)
      ∙ sym (shown_present x m gone here)))

  -- and one that does not stand, does not in what is shown
  stayer_shown : (m : ℕ) (z : Process S S) (u : Process S P) → stands_at c z ≡ false → ShowsOne x m z u → (stands : Bool) → stands_at c u ≡ stands
      → ShowsOne x m (leaves (whole x) c z) (leaves (plain x) c u)
  stayer_shown m z u away shows true e = absurd (true≢false (sym (stands_shown x m c z u shows e) ∙ away))
  stayer_shown m z u away shows false e =
      subst (λ (a : Process S S). ShowsOne x m a (leaves (plain x) c u)) (sym (leaves_not x c z away))
      (subst (ShowsOne x m z) (sym (plain_leaves_not u e)) shows)

module _ {S E P : Type 0} (x : Parts S E P) (Known : ℕ → Process S S → Type 0) (laws : IsErasable x Known) (c : ℕ)
    (qs : List (Process S S)) (known : Each Known qs)
    (f : ℕ → ℕ) (here : (r : ℕ) (z : Process S S) → StandsThere c r qs z → length (without_last z.levels) ≤ f r) where
  -- who stands is shown as it is by the cut before
  shown_standing : (r : ℕ) (z : Process S S) (u : Process S P) → StandsThere c r qs z → ShowsOne x (before_leaving c qs f r) z u → u ≡ as_is x z
  shown_standing r z u at shows =
      let last = stands_last c z at.stands in
      shown_alive x (before_leaving c qs f r) z u (running_whole x z (stander_runs x Known laws c qs known r z at)) shows
      ∙ shown_present x (before_leaving c qs f r) z
      (le_trans (le_of_eq (length-with_last z.levels last.last last.is_last))
      (le_trans (suc-le-suc (here r z at)) (le_of_eq (sym (leaving_at c r qs f z true at.there at.stands)))))

  one_kept_leaves : (r : ℕ) (z : Process S S) (u : Process S P) → slice_get qs r ≡ Some z → ShowsOne x (before_leaving c qs f r) z u
      → (stands : Bool) → stands_at c z ≡ stands → ShowsOne x (f r) (leaves (whole x) c z) (leaves (plain x) c u)
  one_kept_leaves r z u e shows true stands =
      let at : StandsThere c r qs z = record { there = e; stands = stands } in
      subst (λ (a : Process S P). ShowsOne x (f r) (leaves (whole x) c z) (leaves (plain x) c a)) (sym (shown_standing r z u at shows))
      (leaver_shown x c (f r) z stands (here r z at))
  one_kept_leaves r z u e shows false stands =
      stayer_shown x c (f r) z u stands (subst (λ (n : ℕ). ShowsOne x n z u) (leaving_at c r qs f z false e stands) shows) (stands_at c u) refl

  -- so once all have left on both sides, the cut is shown
  pub kept_leaves : (us : List (Process S P)) → Shows x (before_leaving c qs f) qs us
      → Shows x f (map (leaves (whole x) c) qs) (map (leaves (plain x) c) us)
  kept_leaves us shows =
      map_shown x (before_leaving c qs f) f (leaves (whole x) c) (leaves (plain x) c) qs us
      (λ r z u e _ h. one_kept_leaves r z u e h (stands_at c z) refl) shows

  -- who stands, stands in the plain run
  stands_plainly : (m : ℕ) (us : List (Process S P)) → Shows x (before_leaving c qs f) qs us → (z : Option (Process S S)) → slice_get qs m ≡ z
      → stands_there c z ≡ true → stands_there c (slice_get us m) ≡ true
  stands_plainly m us shows None e stands = absurd (true≢false (sym stands))
  stands_plainly m us shows (Some z) e stands =
      let found = get_shown x (before_leaving c qs f) m qs us z shows e in
      ap (stands_there c) found.there
      ∙ ap (stands_at c) (shown_standing m z found.process (record { there = e; stands = stands }) found.shows)
      ∙ present_stands x c z ∙ stands

  -- so all stand there
  pub all_stand_plainly : (v : World S P Nothing) → Shows x (before_leaving c qs f) qs v.processes
      → list_all (λ m. stands_there c (slice_get qs m)) (members_of (slice_get x.groups c)) ≡ true → all_stand (plain x) c v ≡ true
  all_stand_plainly v shows all =
      list_all_implied (λ m. stands_there c (slice_get qs m)) (λ m. stands_there c (slice_get v.processes m)) (members_of (slice_get x.groups c))
      (λ m. stands_plainly m v.processes shows (slice_get qs m) refl) all
