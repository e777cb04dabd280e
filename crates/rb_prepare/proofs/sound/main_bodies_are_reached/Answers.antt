use Rattle.rb_prepare.proofs.MainBodies.{main_body_is_reached}
use Rattle.rb_prepare.proofs.sound.main_bodies_are_reached.Goals as goal

pub returns : goal.returns
returns c = λ tree slots code resolved scoped nested spelled numbered alternates few stands. main_body_is_reached tree slots code record {
  resolved = resolved;
  scoped = scoped;
  nested = nested;
  spelled = spelled;
  numbered = numbered;
  alternates = alternates;
  few = few;
  stands = stands;
}
