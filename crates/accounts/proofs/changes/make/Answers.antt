use Rattle.std.proofs.Common.{length, ap, ◌∙◌}
use Rattle.std.proofs.lemmas.List.{length-set}
use Rattle.accounts.proofs.Levels.{length_changed}
use Rattle.accounts.proofs.changes.make.Goals as goal

pub returns-in-Some : goal.returns-in-Some
returns-in-Some g c =
    let write = c.write.ensures in
    record {
      copies_same = write.copies;
      fits = write.fits;
      levels = ap length write.levels ∙ length_changed _ _;
      limits = write.limits;
      words = ap (λ store. length store.words) write.cells ∙ length-set _ _ _;
      limit = ap (λ store. store.limit) write.cells;
    }
