-- What a request that is done has written says of the texts that it has read.
use Rattle.std.proofs.Common.{◌≡◌, ℕ, List, Option, refl, sym, subst, ◌∙◌}
use Rattle.rb_outside.specs.Outside.{File, Start}
use Rattle.rb_hall.specs.Answers.{HasReadIn, Scene}
use Rattle.rb_hall.specs.Ending.{EndsBehind}
use Rattle.rb_hall.specs.Judgement.{Explaining, Judgement, Judging, Limited, Wants, Writes, as_judged, too_long}
use Rattle.rb_hall.specs.declared.outcome.Outcome.{Outcome}
use Rattle.rb_hall.specs.declared.outcome.Outcome.TheVariants as out
use Rattle.rb_verdict.specs.Judging.{Judges, JudgesWithin}
use Rattle.rb_verdict.specs.Words.{Request}
use Rattle.rb_verdict.proofs.Lasting.{lasts}
use Rattle.rb_commands.specs.Requests.{LastsBehind}
use Rattle.rb_commands.specs.declared.why.Why.{Why}

-- a text that is written within the limits is written
written_within : (judges : Judging) (wanted : List Wants) (texts : List (List ℕ)) (judgement : Judgement) (text : List ℕ)
    → Limited judges wanted texts judgement → judgement ≡ Writes text → judges texts (Writes text)
written_within judges wanted texts judgement text (as_judged read rest same short judged) is = subst (judges read) is judged
written_within judges wanted texts judgement text (too_long read next rest long short goes above) is = absurd (cc)

-- the starts of the shelf are the same behind the buffer
read_behind : (files : Option (List File)) (judges : Judging) (wanted : List Wants) (texts : List (List ℕ)) (rest : List Wants) (old told now : List Start)
    → now ≡ told → HasReadIn files judges wanted texts rest old told → HasReadIn files judges wanted texts rest old now
read_behind files judges wanted texts rest old told now same read = subst (HasReadIn files judges wanted texts rest old) (sym same) read

pub lasts_behind : (request : Request) (explains : Explaining Why) (takes : Type 0) (old new : Scene) (outcome : Outcome Why)
    → EndsBehind (JudgesWithin request) explains request.files takes old new outcome → LastsBehind request old new outcome
lasts_behind request explains takes old new out.Done ends =
    let done = ends.answers in
    let ended = done.1 in
    record {
      texts = ended.texts;
      rest = ended.rest;
      text = done.0;
      read = read_behind old.files (JudgesWithin request) request.files ended.texts ended.rest old.starts ends.told.starts new.starts ends.seen.starts
          ended.read;
      lasts = lasts request.command ended.texts done.0
          (written_within (Judges request.command) request.files ended.texts (Writes done.0) done.0 ended.judged refl);
      written = ends.seen.written ∙ done.3.written;
    }
lasts_behind request explains takes old new (out.Refused refusal) ends = tt
lasts_behind request explains takes old new (out.ReadFault number) ends = tt
lasts_behind request explains takes old new out.WriteFault ends = tt
lasts_behind request explains takes old new out.Memory ends = tt
