use Rattle.std.proofs.Common.{ℕ, ap}
use Rattle.rb_outside.proofs.Puts.{puts_both, puts_same, puts_stopped_at}
use Rattle.rb_image.specs.Image.{edition_number, magic}
use Rattle.rb_image.specs.Pieces.{natural}
use Rattle.rb_image.proofs.write.image.put_edition.Goals as goal

pub returns-in_err-put : goal.returns-in_err-put
returns-in_err-put g c =
    puts_stopped_at magic (natural (edition_number c.args.edition)) _ _ _ _ _ c.from_residual.result c.from_residual.ensures.0
    c.in_err-put.ensures

pub returns : goal.returns
returns g c =
    puts_both magic (natural (edition_number c.args.edition)) _ _ _ _ _ _ _ _ c.in_ok-put.ensures
    (puts_same _ _ _ _ _ _ _ (ap (λ (n : ℕ). natural n) c.number_of.ensures) c.put_natural.ensures)
