use Rattle.rb_view.proofs.noting.note.Goals as goal

pub returns-clause-noted : goal.returns-clause-noted
returns-clause-noted g c = λ j. record {
  processes = c.note_processes.ensures.noted j;
  channels = c.note_channels.ensures j;
  talks = c.note_talks.ensures j;
}
