-- From what was read and judged, and what was written, to the answer of the call, for every way to judge.
use Rattle.std.proofs.Common.{◌≡◌, ℕ, List, [], Option, Some, Result, Ok, Err, refl, sym, ap, subst, ◌∙◌, inl, inr}
use Rattle.rb_outside.specs.Outside.{File, Faults, Start, then_written}
use Rattle.rb_hall.specs.declared.fault.Fault.{Fault}
use Rattle.rb_hall.specs.declared.outcome.Refusal.{Refusal}
use Rattle.rb_hall.specs.declared.outcome.Outcome.TheVariants as out
use Rattle.rb_hall.specs.declared.command.Unwritten.{Unwritten}
use Rattle.rb_hall.specs.declared.command.Unwritten.TheVariants as unwritten
use Rattle.rb_hall.specs.Judgement.{Explained, Explaining, Judging, RefusedWith, Writes, Wants, Limited, as_judged, line_of}
use Rattle.rb_hall.specs.Answers.{Scene, EndedIn, IsOfLast, RefusesIn, ReadAll, its_text, its_line, Answers}
use Rattle.rb_hall.specs.Ends.{EndsAfter, IsRefused, WriteEnds}
use Rattle.rb_hall.specs.declared.outcome.Outcome.{Outcome}
use Rattle.rb_hall.proofs.Driving.{ends_short}

module _ {W : Type 0} (files others : Option (List File)) (judges : Judging) (explains : Explaining W) (wanted : List Wants) (takes : Type 0)
    (old now : List Start) (r0 r1 f0 f1 : Faults) (w0 w1 : Option (List ℕ)) where
  abbrev pub before : Scene
  before = record { files = files; starts = old; read_faults = r0; written = w0; write_faults = f0 }

  abbrev pub after : Scene
  after = record { files = others; starts = now; read_faults = r1; written = w1; write_faults = f1 }

  -- the texts of all files were judged, and nothing but the text is to be written
  module _ {H : Type 0} (holds : List (List ℕ) → H → Type 0) (held : H) (number : ℕ) (bytes : List ℕ)
      (all : ReadAll files judges wanted holds old now held number bytes)
      (well : r1.count ≡ r0.count) where
    ended : (text : List ℕ) → judges all.texts (Writes text) → EndedIn files (Limited judges wanted) wanted old now (Writes text)
    ended text judged = record {
      texts = all.texts;
      rest = [];
      read = all.read;
      judged = as_judged all.texts [] (Writes text) all.short judged;
    }

    pub done_answers : (done : Unit {0}) → WriteEnds (judges all.texts) (explains all.texts) takes w0 w1 f0 f1 (Ok done)
        → Answers (Limited judges wanted) explains wanted takes before after out.Done
    done_answers done (text, judged, e, quiet) = (text, ended text judged, well, record { written = e; well = quiet })

    pub fault_answers : WriteEnds (judges all.texts) (explains all.texts) takes w0 w1 f0 f1 (Err unwritten.Fault)
        → Answers (Limited judges wanted) explains wanted takes before after out.WriteFault
    fault_answers (text, judged, part, failed) = (text, its_text (ended text judged), well, record { written = part; failed = failed })

    pub memory_answers : WriteEnds (judges all.texts) (explains all.texts) takes w0 w1 f0 f1 (Err unwritten.Memory)
        → Answers (Limited judges wanted) explains wanted takes before after out.Memory
    memory_answers (inl (e, same)) = (
      ends_short files (Limited judges wanted) wanted all.texts [] old now all.read,
      well,
      inl (record { written = e; faults = same }),
    )
    memory_answers (inr (takes_memory, (text, judged, part, quiet))) = (
      ends_short files (Limited judges wanted) wanted all.texts [] old now all.read,
      well,
      inr (takes_memory, record { text = text; ended = ended text judged; front = part; well = quiet }),
    )

    -- the last text was refused
    pub last_refused : (fault : Fault) (why : W) (refusal : Refusal W)
        → WriteEnds (judges all.texts) (explains all.texts) takes w0 w1 f0 f1 (Err (unwritten.Refused fault why))
        → refusal.fault ≡ fault → refusal.why ≡ Some why → refusal.number ≡ number → refusal.text.now ≡ bytes → RefusesIn files (Limited judges wanted) explains wanted old now refusal
    last_refused fault why refusal (judged, known, e, same) is why_is numbered keeps = record {
      texts = all.texts;
      rest = [];
      read = all.read;
      judged = subst (λ (f : Fault). Limited judges wanted all.texts (RefusedWith f)) (sym is) (as_judged all.texts [] (RefusedWith fault) all.short judged);
      explained = subst (λ (f : Fault). Explained explains all.texts f refusal.why) (sym is)
          (subst (λ (w : Option W). Explained explains all.texts fault w) (sym why_is) known);
      keeps = subst (λ (n : ℕ). IsOfLast files wanted all.texts n refusal.text.now) (sym numbered)
          (subst (λ (bs : List ℕ). IsOfLast files wanted all.texts number bs) (sym keeps) all.keeps);
    }

  -- a text was refused, and the line of the refusal is to be written
  pub refused_answers : (refusal : Refusal W) (outcome : Outcome W) → RefusesIn files (Limited judges wanted) explains wanted old now refusal → r1.count ≡ r0.count →
      IsRefused refusal w0 w1 f0 f1 outcome → Answers (Limited judges wanted) explains wanted takes before after outcome
  refused_answers refusal (out.Refused told) refuses well (e, written, quiet) = (
    subst (λ (r : Refusal W). RefusesIn files (Limited judges wanted) explains wanted old now r) (sym e) refuses,
    well,
    record { written = written ∙ ap (λ (r : Refusal W). then_written w0 (line_of r.fault)) (sym e); well = quiet },
  )
  refused_answers refusal out.WriteFault refuses well (part, failed) = (
    line_of refusal.fault,
    its_line refusal.fault (record { texts = refuses.texts; rest = refuses.rest; read = refuses.read; judged = refuses.judged }) refl,
    well,
    record { written = part; failed = failed },
  )
  refused_answers refusal out.Done refuses well h = absurd h
  refused_answers refusal (out.ReadFault number) refuses well h = absurd h
  refused_answers refusal out.Memory refuses well h = absurd h

-- nothing was written before the line of a refusal
pub refused_later : {W : Type 0} (refusal : Refusal W) (w0 w1 w2 : Option (List ℕ)) (f0 f1 f2 : Faults) (outcome : Outcome W) → w1 ≡ w0 → f1 ≡ f0 →
    IsRefused refusal w1 w2 f1 f2 outcome → IsRefused refusal w0 w2 f0 f2 outcome
refused_later refusal w0 w1 w2 f0 f1 f2 outcome e same told =
    subst (λ (w : Option (List ℕ)). IsRefused refusal w w2 f0 f2 outcome) e (subst (λ (f : Faults). IsRefused refusal w1 w2 f f2 outcome) same told)

module _ {W : Type 0} (files others : Option (List File)) (judges : Judging) (explains : Explaining W) (wanted : List Wants) (takes : Type 0)
    (old now : List Start) (r0 r1 : Faults) {H : Type 0} (holds : List (List ℕ) → H → Type 0) (held : H) (number : ℕ) (bytes : List ℕ)
    (all : ReadAll files judges wanted holds old now held number bytes) (well : r1.count ≡ r0.count)
    (w0 w1 w2 : Option (List ℕ)) (f0 f1 f2 : Faults) where
  abbrev first : Scene
  first = record { files = files; starts = old; read_faults = r0; written = w0; write_faults = f0 }

  abbrev last : Scene
  last = record { files = others; starts = now; read_faults = r1; written = w2; write_faults = f2 }

  -- nothing more was written behind this end
  stays : (ended : Result (Unit {0}) (Unwritten W)) → w2 ≡ w1 → f2 ≡ f1
      → WriteEnds (judges all.texts) (explains all.texts) takes w0 w1 f0 f1 ended → WriteEnds (judges all.texts) (explains all.texts) takes w0 w2 f0 f2 ended
  stays ended same still ends =
      subst (λ (w : Option (List ℕ)). WriteEnds (judges all.texts) (explains all.texts) takes w0 w f0 f2 ended) (sym same)
      (subst (λ (f : Faults). WriteEnds (judges all.texts) (explains all.texts) takes w0 w1 f0 f ended) (sym still) ends)

  -- the call ends as the command that wrote
  pub written_answers : (ended : Result (Unit {0}) (Unwritten W)) (outcome : Outcome W)
      → WriteEnds (judges all.texts) (explains all.texts) takes w0 w1 f0 f1 ended → EndsAfter ended number bytes w1 w2 f1 f2 outcome
      → Answers (Limited judges wanted) explains wanted takes first last outcome
  written_answers (Ok done) outcome ends (is, same, still) =
      subst (Answers (Limited judges wanted) explains wanted takes first last) (sym is)
      (done_answers files others judges explains wanted takes old now r0 r1 f0 f2 w0 w2 holds held number bytes all well done
      (stays (Ok done) same still ends))
  written_answers (Err unwritten.Fault) outcome ends (is, same, still) =
      subst (Answers (Limited judges wanted) explains wanted takes first last) (sym is)
      (fault_answers files others judges explains wanted takes old now r0 r1 f0 f2 w0 w2 holds held number bytes all well
      (stays (Err unwritten.Fault) same still ends))
  written_answers (Err unwritten.Memory) outcome ends (is, same, still) =
      subst (Answers (Limited judges wanted) explains wanted takes first last) (sym is)
      (memory_answers files others judges explains wanted takes old now r0 r1 f0 f2 w0 w2 holds held number bytes all well
      (stays (Err unwritten.Memory) same still ends))
  written_answers (Err (unwritten.Refused fault why)) outcome ends (refusal, is, numbered, keeps, known, refused) =
      refused_answers files others judges explains wanted takes old now r0 r1 f0 f2 w0 w2 refusal outcome
      (last_refused files others judges explains wanted takes old now r0 r1 f0 f1 w0 w1 holds held number bytes all well fault why refusal ends is known
      numbered keeps) well
      (refused_later refusal w0 w1 w2 f0 f1 f2 outcome ends.2 ends.3 refused)
