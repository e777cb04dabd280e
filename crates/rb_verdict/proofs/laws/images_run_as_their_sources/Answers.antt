use Rattle.rb_verdict.proofs.ImagesRun.{images_run_as_their_sources as run_as_their_sources}
use Rattle.rb_verdict.proofs.laws.images_run_as_their_sources.Goals as goal

pub returns : goal.returns
returns c = run_as_their_sources
