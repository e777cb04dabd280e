-- Erasure, the end of a turn: held lines are released, in the run and in the plain run alike, and every consistent cut is shown.
use Rattle.std.proofs.Common.{◌≡◌, ◌+◌, ℕ, List, [], ◌∷◌, ◌++◌, length, map, option_map, refl, sym, ap, ap₂, ◌∙◌, subst, append-nil, length-append, arith}
use Rattle.std.proofs.lemmas.List.{length-map}
use Rattle.std.proofs.lemmas.Option.{slice_get-map}
use Rattle.rb_world.specs.World.{Level, Process, World, change_at, with_each}
use Rattle.rb_world.specs.Turn.{Told, freed, freed_lines, state_freed, told}
use Rattle.rb_base.specs.declared.kept.Kept.{Kept}
use Rattle.rb_world.specs.Plain.{plain_run, plain_turned, survivors_of}
use Rattle.rb_world.specs.Standing.{Each}
use Rattle.rb_world.specs.Erased.{Released, Rises, numbered, released_from, released_in}
use Rattle.rb_world.proofs.Keeping.Invariant.{BothBetween, Releases}
use Rattle.rb_world.proofs.Erasing.ErasableKinds.{Nothing, Parts, whole, plain, IsErasable}
use Rattle.rb_world.proofs.Erasing.Showing.Cuts.{IsConsistent, Shows}
use Rattle.rb_world.proofs.Erasing.Showing.ErasureInvariant.{IsGrounded, IsQuiet, kept_in, AreBefore, AreSent, ShowsCut, KeepsTurn, ShowsAfter, StaysShown, TurnKept, ErasedBefore, ErasedAfter, GroundedAfter}
use Rattle.rb_world.proofs.Erasing.Releasing.SurvivorsGrow.{before_grows, before_next, plain_run_more, rises_more, survivors_below, survivors_grow}
use Rattle.rb_world.proofs.Erasing.Releasing.ReleasedLines.{released_from-none, released_in-more, released_next}
use Rattle.rb_world.proofs.Erasing.Releasing.SameLinesReleased.{IsImageAt, all_freed_same, all_freed_shown, all_lines_freed_none, all_lines_shown, get_mapped}

module _ {S E P : Type 0} {x : Parts S E P} {Known : ℕ → Process S S → Type 0} (laws : IsErasable x Known) (start : World S P Nothing) where
  -- a cut of the world after the release was one before it
  consistent_before : (f : ℕ → ℕ) (qs : List (Process S S)) → IsConsistent f (map (freed (whole x)) qs) → IsConsistent f qs
  consistent_before f qs h = λ r other c j q q' e e' at at'.
      h r other c j (freed (whole x) q) (freed (whole x) q')
      (slice_get-map (freed (whole x)) qs r ∙ ap (option_map (freed (whole x))) e)
      (slice_get-map (freed (whole x)) qs other ∙ ap (option_map (freed (whole x))) e')
      (record { level = at.level; there = at.there; of_it = at.of_it }) (record { level = at'.level; there = at'.there; of_it = at'.of_it })

  -- nobody released a line, and the plain run is as it was
  stays_shown : (t : ℕ) (past : List Told) (w : World S S Nothing) (one : Told) (f : ℕ → ℕ) → t ≡ length past + 1
      → one.released ≡ freed_lines (whole x) w
      → Each (IsQuiet x) w.processes → ShowsCut x start t past w f → ShowsCut x start (t + 1) (past ++ one ∷ []) (with_each (freed (whole x)) w) f
  stays_shown t past w one f number released quiet cut = record {
    world = cut.world;
    shows = subst (λ (qs : List (Process S S)). Shows x f qs cut.world.processes) (sym (all_freed_same laws w.processes quiet)) cut.shows;
    erased = record {
      lines = cut.erased.lines;
      ran = cut.erased.ran;
      released = cut.erased.released
          ∙ sym (released_next past t one number
          ∙ ap (λ (rest : List Released). released_in (numbered 1 past) ++ rest)
          (ap (released_from t 0) released ∙ released_from-none t 0 (freed_lines (whole x) w) (all_lines_freed_none laws w.processes quiet))
          ∙ append-nil (released_in (numbered 1 past)));
      before = before_next t (kept_in x cut.world) cut.erased.before;
      rises = cut.erased.rises;
      sent = cut.erased.sent;
    };
  }

  -- a release keeps the kept turns and the mail
  freed_kept : (s : S) (levels : List (Level P)) → x.kept (state_freed (plain x) s levels) ≡ x.kept s
  freed_kept s [] = laws.releases_kept s
  freed_kept s (l ∷ levels) = refl

  freed_taken : (s : S) (levels : List (Level P)) (c : ℕ) → x.taken (state_freed (plain x) s levels) c ≡ x.taken s c
  freed_taken s [] c = (laws.releases_mail s).taken c
  freed_taken s (l ∷ levels) c = refl

  freed_sent : (s : S) (levels : List (Level P)) (c : ℕ) → x.sent (state_freed (plain x) s levels) c ≡ x.sent s c
  freed_sent s [] c = (laws.releases_mail s).sent c
  freed_sent s (l ∷ levels) c = refl

  all_freed_kept : (us : List (Process S P))
      → map (λ (u : Process S P). x.kept u.state) (map (freed (plain x)) us) ≡ map (λ (u : Process S P). x.kept u.state) us
  all_freed_kept [] = refl
  all_freed_kept (u ∷ us) =
      ap₂ (λ (one : List (ℕ × ℕ)) (others : List (List (ℕ × ℕ))). one ∷ others) (freed_kept u.state u.levels) (all_freed_kept us)

  all_freed_sent : (v : World S P Nothing) → AreSent x v → AreSent x (with_each (freed (plain x)) v)
  all_freed_sent v sent = λ c ends sender receiver channel at at'.
      let s : IsImageAt (freed (plain x)) v.processes ends.sender sender = get_mapped (freed (plain x)) v.processes ends.sender sender at in
      let r : IsImageAt (freed (plain x)) v.processes ends.receiver receiver = get_mapped (freed (plain x)) v.processes ends.receiver receiver at' in
      omega (
        arith,
        sent c ends s.origin r.origin channel s.there r.there,
        freed_sent s.origin.state s.origin.levels c,
        freed_taken r.origin.state r.origin.levels c,
        ap (λ (u : Process S P). x.sent u.state c) s.same,
        ap (λ (u : Process S P). x.taken u.state c) r.same,
      )

  -- the newest kept turn, in the plain run and in its record
  abbrev newest : {t : ℕ} {past : List Told} {w : World S S Nothing} {f : ℕ → ℕ} → KeepsTurn x start t past w f → Kept
  newest {t} kept = record { turn = t; process = kept.process; alternate = kept.alternate }

  kept_next : (t : ℕ) (past : List Told) (w : World S S Nothing) (f : ℕ → ℕ) (kept : KeepsTurn x start t past w f)
      → kept_in x (with_each (freed (plain x)) kept.moved.world)
      ≡ change_at kept.process (λ turns. turns ++ (t, kept.alternate) ∷ []) (kept_in x kept.old)
  kept_next t past w f kept = all_freed_kept kept.moved.world.processes ∙ kept.keeps

  survivors_next : (t : ℕ) (past : List Told) (w : World S S Nothing) (f : ℕ → ℕ) (kept : KeepsTurn x start t past w f)
      → survivors_of (kept_in x (with_each (freed (plain x)) kept.moved.world)) ≡ survivors_of (kept_in x kept.old) ++ newest kept ∷ []
  survivors_next t past w f kept =
      ap survivors_of (kept_next t past w f kept)
      ∙ survivors_grow t kept.process kept.alternate (kept_in x kept.old) kept.erased.before
      (omega (arith, kept.here, length-map kept.old.processes (λ (u : Process S P). x.kept u.state)))

  -- the turn is kept, and what was held is released on both sides
  turn_kept : (t : ℕ) (past : List Told) (w : World S S Nothing) (one : Told) (f : ℕ → ℕ) → t ≡ length past + 1
      → one.released ≡ freed_lines (whole x) w
      → Each (IsGrounded x Known) w.processes → KeepsTurn x start t past w f
      → ShowsCut x start (t + 1) (past ++ one ∷ []) (with_each (freed (whole x)) w) f
  turn_kept t past w one f number released each kept =
      let told_of : Told = told (plain x) kept.old kept.moved in
      record {
        world = with_each (freed (plain x)) kept.moved.world;
        shows = all_freed_shown laws f w.processes kept.moved.world.processes each kept.shows;
        erased = record {
          lines = kept.erased.lines ++ (t, told_of) ∷ [];
          ran = ap (λ (turns : List Kept). plain_run (plain x) turns start) (survivors_next t past w f kept)
              ∙ plain_run_more (plain x) (survivors_of (kept_in x kept.old)) (newest kept) start kept.old
              (with_each (freed (plain x)) kept.moved.world) kept.erased.lines told_of kept.erased.ran
              (ap (plain_turned (plain x) kept.old) kept.moves);
          released = released_in-more kept.erased.lines t told_of
              ∙ ap (λ (lines : List Released). lines ++ released_from t 0 told_of.released) kept.erased.released
              ∙ ap (λ (lists : List (List (List ℕ))). released_in (numbered 1 past) ++ released_from t 0 lists)
              (all_lines_shown laws f w.processes kept.moved.world.processes each kept.shows ∙ sym released)
              ∙ sym (released_next past t one number);
          before = subst (AreBefore (t + 1)) (sym (kept_next t past w f kept))
              (before_grows t kept.process kept.alternate (kept_in x kept.old) kept.erased.before);
          rises = subst Rises (sym (survivors_next t past w f kept))
              (rises_more (survivors_of (kept_in x kept.old)) (newest kept) kept.erased.rises
              (survivors_below t (kept_in x kept.old) kept.erased.before) (omega (arith, number)));
          sent = all_freed_sent kept.moved.world kept.sent;
        };
      }

  after_shown : (t : ℕ) (past : List Told) (w : World S S Nothing) (one : Told) (f : ℕ → ℕ) → t ≡ length past + 1
      → one.released ≡ freed_lines (whole x) w
      → Each (IsGrounded x Known) w.processes → ShowsAfter x start t past w f
      → ShowsCut x start (t + 1) (past ++ one ∷ []) (with_each (freed (whole x)) w) f
  after_shown t past w one f number released each (StaysShown quiet cut) = stays_shown t past w one f number released quiet cut
  after_shown t past w one f number released each (TurnKept kept) = turn_kept t past w one f number released each kept

  -- the law of a release
  pub erased_releases : Releases (whole x) (BothBetween (GroundedAfter x Known) (ErasedAfter x start)) (ErasedBefore x start)
  erased_releases t past w one h released = (
    omega (arith, h.1.0, length-append past (one ∷ [])),
    λ f consistent. after_shown t past w one f h.1.0 released h.0.each (h.1.1 f (consistent_before f w.processes consistent)),
  )
