use Rattle.std.proofs.Common.{◌≡◌, subst}
use Rattle.rb_trace.specs.Naming.{naming}
use Rattle.rb_hall.proofs.Ends.{ends_as}
use Rattle.rb_commands.specs.Explained.{ExplainsSource}
use Rattle.rb_commands.specs.Held.{HoldsCompiled}
use Rattle.rb_commands.specs.declared.why.Why.TheVariants.{Plain}
use Rattle.rb_schedules.specs.Plain.{plain_answer}
use Rattle.rb_show.specs.Explored.{JudgesExplored, told_of}
use Rattle.rb_show.proofs.Exploring.{explored_lawful, explored_sound, explored_tells}
use Rattle.rb_show.proofs.explore.Explore.put.Goals as goal

pub search-requires-clause-sound : goal.search-requires-clause-sound
search-requires-clause-sound g c =
    explored_sound c.in-Program.prepared c.requires.0 (subst (λ held. HoldsCompiled c.requires.0 held) c.in-Program.is c.requires.2)

pub search-requires-clause-lawful : goal.search-requires-clause-lawful
search-requires-clause-lawful g c =
    explored_lawful c.in-Program.prepared c.requires.0 (subst (λ held. HoldsCompiled c.requires.0 held) c.in-Program.is c.requires.2)

pub returns-in-Ok : goal.returns-in-Ok
returns-in-Ok g c =
    let number = c.args.self.now.number in
    let prepared = c.in-Program.prepared in
    let answer = plain_answer c.in-Ok.answer in
    rw c.in-Program.is (λ texts many holds.
    ends_as (λ judgement. judgement ≡ told_of (naming prepared.code.names) number answer) (JudgesExplored number texts) (λ fault known. known ≡ Plain)
    (ExplainsSource texts) ⊥ ⊥ (g.S.Sink.written c.args.out.now) (g.S.Sink.written c.tell_answer.new.out) (g.S.Sink.faults c.args.out.now)
    (g.S.Sink.faults c.tell_answer.new.out) c.tell_answer.result
    (λ judgement is. explored_tells number prepared answer c.in-Ok.ensures texts holds judgement is) (λ fault known plain. plain) (λ never. never)
    c.tell_answer.ensures)
