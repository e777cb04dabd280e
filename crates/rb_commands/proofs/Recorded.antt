-- What `plain` makes of a source and a record for it.
use Rattle.std.proofs.Common.{◌≡◌, ℕ, List, [], ◌∷◌, ◌++◌, map, vec_len, Option, Some, inl, inr, Result, Ok, Err, refl, sym, ap, subst, ◌∙◌, arith}
use Rattle.std.proofs.lemmas.Simd.{map-map}
use Rattle.rb_base.specs.Naming.{process_names}
use Rattle.rb_base.specs.declared.fault.TextFault.{TextFault}
use Rattle.rb_base.specs.declared.kept.Kept.{Kept}
use Rattle.rb_nest.specs.Groups.{membership}
use Rattle.rb_outside.specs.Outside.{Faults}
use Rattle.rb_syntax.specs.Plain.{tree as tree_of}
use Rattle.rb_syntax.specs.Tree.{Tree}
use Rattle.rb_world.specs.Kind.{Membership}
use Rattle.rb_world.specs.Plain.{PlainEnd, Ended, StuckAt}
use Rattle.rb_meaning.specs.PlainRun.{EntryPoint, plain_text, plain_text_at}
use Rattle.rb_meaning.specs.State.{State}
use Rattle.rb_meaning.specs.Step.{Nothing}
use Rattle.rb_judge.specs.Judged.{IsJudged}
use Rattle.rb_judge.specs.declared.judging.Judged.{Judged}
use Rattle.rb_record.specs.Record.{record_of}
use Rattle.rb_record.specs.Recorded.{AreKept}
use Rattle.rb_plain.specs.Members.{HasMembers}
use Rattle.rb_plain.specs.Played.{Plays, played, stuck_in, unkept_opening}
use Rattle.rb_plain.specs.Stuck.{stuck_turn}
use Rattle.rb_plain.specs.declared.stuck.StuckTurn.{StuckTurn}
use Rattle.rb_plain.proofs.StuckTurns.{stuck_turns_are_found}
use Rattle.rb_plain.proofs.Unkept.{unnoted_tell_same}
use Rattle.rb_levels.specs.declared.answer.PlainAnswer.TheVariants as answer
use Rattle.rb_hall.specs.declared.command.Stop.{Stop}
use Rattle.rb_hall.specs.declared.command.Unwritten.{Unwritten}
use Rattle.rb_hall.specs.declared.command.Unwritten.TheVariants as unwritten
use Rattle.rb_hall.specs.declared.fault.Fault.{Fault}
use Rattle.rb_hall.specs.declared.fault.Fault.TheVariants as of
use Rattle.rb_hall.specs.Ends.{HoldsOn, IfRefused, Refuses, WriteEnds}
use Rattle.rb_hall.specs.Judgement.{ReadsOn, RefusedWith, Wants}
use Rattle.rb_hall.proofs.Ends.{ends_as}
use Rattle.rb_verdict.specs.Judging.{Judges, PlainGoesOn, first_accepted, first_refused, plays, reads_record, record_refused}
use Rattle.rb_verdict.specs.Texts.{SourceRefused, bad_record, names_of, stuck_record}
use Rattle.rb_verdict.specs.Words.{Replay, text_named}
use Rattle.rb_commands.specs.Explained.{ExplainsRecord, NamesOfSource, of_record, of_source, of_stuck}
use Rattle.rb_commands.specs.Held.{HoldsRecord}
use Rattle.rb_commands.specs.Written.{EndsForStuck, EndsPlain, KnowsStuck}
use Rattle.rb_commands.specs.declared.plain.Played.{Played}
use Rattle.rb_commands.specs.declared.plain.Played.TheVariants as held
use Rattle.rb_commands.specs.declared.why.Why.{Why}
use Rattle.rb_commands.specs.declared.why.Why.TheVariants as why
use Rattle.rb_commands.proofs.Scheduled.{scheduled_names}
use Rattle.rb_commands.proofs.Taken.{refused_as}

module _ (source : List ℕ) (judged : Judged) (is : IsJudged source judged) where
  abbrev meant : Tree
  meant = tree_of judged.checked.program

  -- a record that was read with its names was read with those of its tree
  listed_of : (kept : List ℕ) (read : Result (List Kept) TextFault)
      → record_of (process_names judged.names) kept ≡ read → record_of (names_of meant) kept ≡ read
  listed_of kept read e = ap (λ (names : List (List ℕ)). record_of names kept) (sym (scheduled_names judged.names meant is.names)) ∙ e

  -- it has the members of the tree's conversations
  pub members_are : HasMembers meant judged.nested
  members_are =
      sym (map-map (λ (m : Membership). m.members) membership judged.nested.conversations.items)
      ∙ ap (λ (groups : List Membership). map (λ (m : Membership). m.members) groups) is.conversations.groups

  its_names : NamesOfSource source judged.names
  its_names = record { tree = meant; accepted = is.accepted; named = is.names }

  -- the turn at which a record of it is stuck explains the record's fault
  stuck_explained : (kept : List ℕ) (turns : List Kept) → record_of (names_of meant) kept ≡ Ok turns → (fault : Fault) (known : Why)
      → KnowsStuck meant turns fault known → ExplainsRecord (source ∷ kept ∷ []) fault known
  stuck_explained kept turns listed fault known (turn, found, names, is_fault, is_known, stuck) =
      subst (λ (f : Fault). ExplainsRecord (source ∷ kept ∷ []) f known) (sym is_fault)
      (subst (λ (w : Why). ExplainsRecord (source ∷ kept ∷ []) (of.Stuck turn) w) (sym is_known)
      (of_stuck source kept meant turns turn found names is.accepted listed stuck))

abbrev files : List ℕ → List ℕ → List Wants
files a b = text_named a ∷ text_named b ∷ []

-- the source is the first text
pub source_taken : (a b text : List ℕ) (judged : Judged) → IsJudged text judged → (texts : List (List ℕ)) → HoldsRecord texts held.Nothing
    → HoldsOn (Judges Replay) (files a b) HoldsRecord (texts ++ text ∷ []) (held.Source judged)
source_taken a b text judged is texts none =
    subst (λ (ts : List (List ℕ)). HoldsOn (Judges Replay) (files a b) HoldsRecord (ts ++ text ∷ []) (held.Source judged)) (sym none)
    ((text, refl, is), λ more. first_accepted text (tree_of judged.checked.program) [] ReadsOn is.accepted reads_record)

pub source_not_taken : (text : List ℕ) (stop : Stop Why)
    → IfRefused {T = Judged} (Err stop) (λ fault known. SourceRefused text fault × (known ≡ why.Plain))
    → IfRefused {T = Played} (Err stop) (λ fault known. (texts : List (List ℕ)) → HoldsRecord texts held.Nothing
    → Refuses (Judges Replay) ExplainsRecord (texts ++ text ∷ []) fault known)
source_not_taken text stop refused =
    refused_as Judged Played (λ fault known. SourceRefused text fault × (known ≡ why.Plain))
    (λ fault known. (texts : List (List ℕ)) → HoldsRecord texts held.Nothing → Refuses (Judges Replay) ExplainsRecord (texts ++ text ∷ []) fault known)
    stop said refused
  where
    said : (fault : Fault) (known : Why) → SourceRefused text fault × (known ≡ why.Plain) → (texts : List (List ℕ)) → HoldsRecord texts held.Nothing
        → Refuses (Judges Replay) ExplainsRecord (texts ++ text ∷ []) fault known
    said fault known (bad, plain) texts none =
        subst (λ (ts : List (List ℕ)). Refuses (Judges Replay) ExplainsRecord (ts ++ text ∷ []) fault known) (sym none)
        (first_refused text fault bad, subst (ExplainsRecord (text ∷ []) fault) (sym plain) (of_source text fault))

-- the record is the second: it is one
pub record_taken : (a b kept : List ℕ) (judged : Judged) (turns : List Kept) → record_of (process_names judged.names) kept ≡ Ok turns
    → AreKept (vec_len judged.names.processes) 0 turns → (texts : List (List ℕ)) → HoldsRecord texts (held.Source judged)
    → HoldsOn (Judges Replay) (files a b) HoldsRecord (texts ++ kept ∷ []) (held.Both judged turns)
record_taken a b kept judged turns listed known texts (source, e, is) =
    subst (λ (ts : List (List ℕ)). HoldsOn (Judges Replay) (files a b) HoldsRecord (ts ++ kept ∷ []) (held.Both judged turns)) (sym e)
    ((source, kept, refl, is, listed_of source judged is kept (Ok turns) listed, known), λ more. absurd (omega (arith, more)))

-- or it has a fault
pub record_not_taken : (kept : List ℕ) (judged : Judged) (fault : TextFault) → record_of (process_names judged.names) kept ≡ Err fault
    → (texts : List (List ℕ)) → HoldsRecord texts (held.Source judged)
    → Refuses (Judges Replay) ExplainsRecord (texts ++ kept ∷ []) (of.Text fault) (why.Names judged.names)
record_not_taken kept judged fault bad texts (source, e, is) =
    subst (λ (ts : List (List ℕ)). Refuses (Judges Replay) ExplainsRecord (ts ++ kept ∷ []) (of.Text fault) (why.Names judged.names)) (sym e) (
      first_accepted source (tree_of judged.checked.program) (kept ∷ []) (RefusedWith (of.Text fault)) is.accepted
          (record_refused kept (of.Text fault) (bad_record fault (listed_of source judged is kept (Err fault) bad))),
      of_record source kept fault judged.names (its_names source judged is),
    )

-- both were read
pub both_end : (judged : Judged) (turns : List Kept) (old new : Option (List ℕ)) (before after : Faults)
    (result : Result (Unit {0}) (Unwritten Why)) → EndsPlain (tree_of judged.checked.program) turns old new before after result
    → (texts : List (List ℕ)) → HoldsRecord texts (held.Both judged turns)
    → WriteEnds (Judges Replay texts) (ExplainsRecord texts) (Unit {0}) old new before after result
both_end judged turns old new before after result ends texts (source, kept, e, is, listed, known) =
    subst (λ (ts : List (List ℕ)). WriteEnds (Judges Replay ts) (ExplainsRecord ts) (Unit {0}) old new before after result) (sym e)
    (ends_as (PlainGoesOn (meant source judged is) (kept ∷ [])) (Judges Replay (source ∷ kept ∷ []))
    (KnowsStuck (meant source judged is) turns) (ExplainsRecord (source ∷ kept ∷ [])) (Unit {0}) (Unit {0}) old new before after result
    (λ j h. first_accepted source (meant source judged is) (kept ∷ []) j is.accepted h)
    (stuck_explained source judged is kept turns listed) (λ may. may) (ends kept listed))

-- ---- the plain run

module _ (tree : Tree) (turns : List Kept) (old new : Option (List ℕ)) (before after : Faults) where
  -- it has a text
  pub ends_played : (done : Unit {0}) → Plays (plain_text tree turns) old new before after (Ok done) → EndsPlain tree turns old new before after (Ok done)
  ends_played done (text, is, puts) kept listed =
      (text, plays kept text (record { turns = turns; listed = listed; is = is }), puts.ok, puts.quiet)

  pub ends_failed : Plays (plain_text tree turns) old new before after (Err answer.WriteFault)
      → EndsPlain tree turns old new before after (Err unwritten.Fault)
  ends_failed (text, is, puts) kept listed =
      (text, plays kept text (record { turns = turns; listed = listed; is = is }), puts.err, puts.failed)

  -- where memory was wanting, nothing was written, or a front of it
  pub ends_short : Plays (plain_text tree turns) old new before after (Err answer.Memory) → EndsPlain tree turns old new before after (Err unwritten.Memory)
  ends_short (inl still) kept listed = inl still
  ends_short (inr (text, is, part, quiet)) kept listed =
      inr (tt, (text, plays kept text (record { turns = turns; listed = listed; is = is }), part, quiet))

  -- or it is stuck at a turn, with nothing written
  pub ends_stuck : (turn : ℕ) → plain_text tree turns ≡ Err turn → new ≡ old → after ≡ before → (end : Unwritten Why)
      → EndsForStuck tree turns turn end → EndsPlain tree turns old new before after (Err end)
  ends_stuck turn stuck none quiet (unwritten.Refused fault known) (is, knows) kept listed = (
    subst (λ (f : Fault). PlainGoesOn tree (kept ∷ []) (RefusedWith f)) (sym is)
        (record_refused kept (of.Stuck turn) (stuck_record turns turn listed stuck)),
    knows,
    none,
    quiet,
  )
  ends_stuck turn stuck none quiet unwritten.Fault h kept listed = absurd h
  ends_stuck turn stuck none quiet unwritten.Memory h kept listed = inl (none, quiet)

-- where no text is there, it is stuck
stuck_without_text : (tree : Tree) (end : PlainEnd State EntryPoint Nothing) (turn : ℕ) → plain_text_at tree end ≡ Err turn → stuck_in end ≡ Some turn
stuck_without_text tree (Ended w lines) turn e = absurd (cc)
stuck_without_text tree (StuckAt t) turn e = let same : t ≡ turn = cc in ap Some same

-- and the turn is found
pub turn_found : (tree : Tree) (turns : List Kept) (processes turn : ℕ) → AreKept processes 0 turns → plain_text tree turns ≡ Err turn
    → (found : StuckTurn) × (stuck_turn tree turn turns ≡ Some found)
turn_found tree turns processes turn rise stuck =
    let there = stuck_turns_are_found tree turns processes turn rise
    (stuck_without_text tree (played tree turns (unkept_opening tree)) turn (unnoted_tell_same tree turns ∙ stuck)) in
    (there.0, there.1)

-- so it is told
pub stuck_told : (source : List ℕ) (judged : Judged) → IsJudged source judged → (turns : List Kept) (turn : ℕ) (found : StuckTurn)
    → Some found ≡ stuck_turn (tree_of judged.checked.program) turn turns
    → EndsForStuck (tree_of judged.checked.program) turns turn (unwritten.Refused (of.Stuck turn) (why.Stuck found judged.names))
stuck_told source judged is turns turn found there =
    (refl, (turn, found, judged.names, refl, refl, record { stuck = sym there; named = is.names }))
