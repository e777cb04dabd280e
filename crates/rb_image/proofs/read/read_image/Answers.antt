use Rattle.std.proofs.Common.{arith}
use Rattle.rb_image.proofs.Found.{is_found, is_refused}
use Rattle.rb_image.proofs.read.read_image.Goals as goal

pub returns-clause-image : goal.returns-clause-image
returns-clause-image c = is_found c.args.bytes.now c.read_all.result (λ i. omega (arith, c.type_inv.bytes i)) c.read_all.ensures

pub returns-clause-refused : goal.returns-clause-refused
returns-clause-refused c = is_refused c.args.bytes.now c.read_all.result c.read_all.ensures
