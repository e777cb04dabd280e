use Rattle.std.proofs.Common.{length}
use Rattle.rb_outside.proofs.Puts.{puts_both, puts_stopped_at}
use Rattle.rb_image.specs.Pieces.{natural}
use Rattle.rb_image.proofs.write.number.put_bytes.Goals as goal

pub returns-clause-text : goal.returns-clause-text
returns-clause-text g c =
    puts_both (natural (length c.args.bytes.now)) c.args.bytes.now _ _ _ _ _ _ _ _ c.in_ok-put_length.ensures c.put.ensures

pub returns-in_err-put_length-clause-text : goal.returns-in_err-put_length-clause-text
returns-in_err-put_length-clause-text g c =
    puts_stopped_at (natural (length c.args.bytes.now)) c.args.bytes.now _ _ _ _ _ c.from_residual.result c.from_residual.ensures.0
    c.in_err-put_length.ensures
