use Rattle.rb_verdict.proofs.ItsFiles.{requests_have_their_files as have_their_files}
use Rattle.rb_verdict.proofs.laws.requests_have_their_files.Goals as goal

pub returns : goal.returns
returns c = have_their_files
