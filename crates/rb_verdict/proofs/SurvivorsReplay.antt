-- What `plain` makes of what `survive` wrote.
use Rattle.std.proofs.Common.{◌≡◌, ◌∙◌, ◌≤◌, ℕ, List, [], ◌∷◌, ◌++◌, length, refl, sym, ap, subst}
use Rattle.rb_base.specs.declared.limits.TheConstants.{MOST_BYTES}
use Rattle.rb_syntax.specs.Tree.{Tree}
use Rattle.rb_meaning.specs.Laws.{IsErasedInText}
use Rattle.rb_meaning.specs.Meaning.{run_of, run_text, survivors}
use Rattle.rb_meaning.proofs.Trees.ErasedText.{erasure_in_text}
use Rattle.rb_judge.specs.Verdict.{IsAccepted}
use Rattle.rb_judge.proofs.Accepted.{of_accepted}
use Rattle.rb_record.specs.Record.{record_of}
use Rattle.rb_sched.proofs.Walk.{turns_known}
use Rattle.rb_world.proofs.ListFacts.{heads_same, tails_same}
use Rattle.rb_hall.specs.Judgement.{Writes}
use Rattle.rb_hall.proofs.Limits.{AreWithin, short_ends, wrote_within}
use Rattle.rb_verdict.specs.Words.{Replay, Run, Survive, plain_of, run_of as run_request, survive_of}
use Rattle.rb_verdict.specs.Texts.{ScheduleRuns, names_of, survivors_text}
use Rattle.rb_verdict.specs.Judging.{Judges, OverSchedule, PlainGoesOn, plays, reads_record, reads_schedule, runs}
use Rattle.rb_verdict.specs.Laws.{Replays, SurvivorsReplay, replayed_text}
use Rattle.rb_verdict.proofs.BothTexts.{second_writes}
use Rattle.rb_verdict.proofs.SurvivorsKept.{survivors_read_back}
use Rattle.rb_verdict.proofs.Wrote.{wrote}

module _ (source schedule kept : List ℕ) (short : length kept ≤ MOST_BYTES) where
  -- of a source and a schedule that are no longer than they may be
  module _ (small : length source ≤ MOST_BYTES) (few_lines : length schedule ≤ MOST_BYTES) (tree : Tree) (accepted : IsAccepted source tree)
      (ran : ScheduleRuns (names_of tree) (survivors_text tree) schedule kept) where
    replays : Replays source schedule kept
    replays =
        let turns = ran.turns in
        let last = (run_of tree turns).0 in
        let few = (turns_known (names_of tree) schedule turns ran.listed).1 in
        let listed = ap (record_of (names_of tree)) ran.is ∙ survivors_read_back source tree accepted turns few in
        let played = of_accepted IsErasedInText erasure_in_text source tree accepted turns in
        record {
          tree = tree;
          turns = turns;
          accepted = accepted;
          listed = ran.listed;
          replayed = λ program record_name.
              short_ends (Judges Replay) (plain_of program record_name).files (source ∷ kept ∷ []) (Writes (replayed_text tree turns))
              (small, (short, tt))
              (second_writes PlainGoesOn source kept tree accepted reads_record (replayed_text tree turns)
              (plays kept (replayed_text tree turns) (record { turns = survivors last; listed = listed; is = played })));
          ran = λ program plan.
              short_ends (Judges Run) (run_request program plan).files (source ∷ schedule ∷ []) (Writes (run_text tree turns))
              (small, (few_lines, tt))
              (second_writes (OverSchedule run_text) source schedule tree accepted reads_schedule (run_text tree turns)
              (runs schedule (run_text tree turns) (record { turns = turns; listed = ran.listed; is = refl })));
        }

-- the texts that were read are the first of two, and they are two
same_both : (read left : List (List ℕ)) (a b source schedule : List ℕ) → read ++ left ≡ source ∷ schedule ∷ [] → read ≡ a ∷ b ∷ []
    → (a ≡ source) × (b ≡ schedule)
same_both read left a b source schedule parts both =
    let same : a ∷ b ∷ left ≡ source ∷ schedule ∷ [] = ap (λ (ts : List (List ℕ)). ts ++ left) (sym both) ∙ parts in
    (heads_same same, heads_same (tails_same same))

pub survivors_replay : SurvivorsReplay
survivors_replay program plan source schedule kept ends short =
    let request = survive_of program plan in
    let within = wrote_within (Judges Survive) request.files (source ∷ schedule ∷ []) kept ends in
    let found = wrote survivors_text kept within.read within.judged in
    let same = same_both within.read within.left found.source found.schedule source schedule within.parts found.both in
    let small = subst (AreWithin request.files) found.both within.within in
    let first = same.0 in
    let second = same.1 in
    replays source schedule kept short
    (subst (λ (s : List ℕ). length s ≤ MOST_BYTES) first small.0) (subst (λ (s : List ℕ). length s ≤ MOST_BYTES) second small.1.0)
    found.tree (subst (λ (s : List ℕ). IsAccepted s found.tree) first found.accepted)
    (subst (λ (s : List ℕ). ScheduleRuns (names_of found.tree) (survivors_text found.tree) s kept) second found.ran)
