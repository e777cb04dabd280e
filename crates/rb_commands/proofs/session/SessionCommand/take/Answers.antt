use Rattle.std.proofs.Common.{[], ◌∷◌, subst}
use Rattle.rb_commands.specs.Held.{HoldsSession}
use Rattle.rb_commands.proofs.Sessions.{session_taken, source_not_taken, source_taken, turns_held, turns_not_held}
use Rattle.rb_commands.proofs.Taken.{next_is_short}
use Rattle.rb_commands.proofs.session.SessionCommand.take.Goals as goal

pub prepare_source-requires : goal.prepare_source-requires
prepare_source-requires c =
    next_is_short (c.args.self.now.source.now ∷ c.args.self.now.schedule.now ∷ c.args.self.now.session.now ∷ []) c.args.text.now
    (λ texts. HoldsSession texts c.args.held) c.requires

pub returns-in-Ok-clause-held : goal.returns-in-Ok-clause-held
returns-in-Ok-clause-held c =
    rw c.in-Nothing.is
    (source_taken c.args.self.now.source.now c.args.self.now.schedule.now c.args.self.now.session.now c.args.text.now c.in-Ok.prepared
    c.in-Ok.ensures.prepared)

pub returns-in-Err-clause-refused : goal.returns-in-Err-clause-refused
returns-in-Err-clause-refused c = rw c.in-Nothing.is (source_not_taken c.args.text.now c.in-Err.stop c.in-Err.ensures.refused)

pub take_turns-requires-clause-prepared : goal.take_turns-requires-clause-prepared
take_turns-requires-clause-prepared c =
    let held = subst (HoldsSession c.requires.0) c.in-Program.is c.requires.4 in (held.0, held.2)

pub take_turns-requires-clause-short : goal.take_turns-requires-clause-short
take_turns-requires-clause-short c =
    next_is_short (c.args.self.now.source.now ∷ c.args.self.now.schedule.now ∷ c.args.self.now.session.now ∷ []) c.args.text.now
    (λ texts. HoldsSession texts c.args.held) c.requires

pub returns-in-Program-clause-held : goal.returns-in-Program-clause-held
returns-in-Program-clause-held c =
    rw c.in-Program.is
    (turns_held c.args.text.now c.in-Program.prepared c.args.self.now.source.now c.args.self.now.schedule.now c.args.self.now.session.now
    c.take_turns.result c.take_turns.ensures)

pub returns-in-Program-clause-refused : goal.returns-in-Program-clause-refused
returns-in-Program-clause-refused c =
    rw c.in-Program.is (turns_not_held c.args.text.now c.in-Program.prepared c.take_turns.result c.take_turns.ensures)

pub returns-in-Turns-clause-held : goal.returns-in-Turns-clause-held
returns-in-Turns-clause-held c =
    rw c.in-Turns.is
    (session_taken c.args.self.now.source.now c.args.self.now.schedule.now c.args.self.now.session.now c.in-Turns.schedule c.in-Turns.turns
    c.args.text c.in-Turns.prepared
    (next_is_short (c.args.self.now.source.now ∷ c.args.self.now.schedule.now ∷ c.args.self.now.session.now ∷ []) c.args.text.now
    (λ texts. HoldsSession texts c.args.held) c.requires))
