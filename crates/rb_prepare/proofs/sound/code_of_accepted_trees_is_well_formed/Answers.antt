use Rattle.rb_prepare.proofs.Forming.FormedCode.{code_is_well_formed}
use Rattle.rb_prepare.proofs.sound.code_of_accepted_trees_is_well_formed.Goals as goal

pub returns : goal.returns
returns c = λ tree slots code resolved scoped nested spelled numbered alternates few stands. code_is_well_formed tree slots code record {
  resolved = resolved;
  scoped = scoped;
  nested = nested;
  spelled = spelled;
  numbered = numbered;
  alternates = alternates;
  few = few;
  stands = stands;
}
