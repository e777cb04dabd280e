-- Each request of `rbl` names the files of its command, each with its limit.
use Rattle.std.proofs.Common.{ℕ, List, refl}
use Rattle.rb_verdict.specs.Words.{HasItsFiles}
use Rattle.rb_commands.specs.Asked.{asked}
use Rattle.rb_commands.specs.declared.over_schedule.Product.{Product}
use Rattle.rb_commands.specs.declared.over_schedule.Product.TheVariants.{Text, Survivors, Standing}
use Rattle.rb_commands.specs.declared.request.Request.{Request}
use Rattle.rb_commands.specs.declared.request.Request.TheVariants as given
use Rattle.rb_commands.specs.Products.{request_over}

over_has : (product : Product) (source schedule : List ℕ) → HasItsFiles (request_over product source schedule)
over_has Text source schedule = refl
over_has Survivors source schedule = refl
over_has Standing source schedule = refl

pub has_its_files : (request : Request) → HasItsFiles (asked request)
has_its_files (given.OverSchedule over) = over_has over.product over.source.now over.schedule.now
has_its_files (given.Plain plain) = refl
has_its_files (given.Check check) = refl
has_its_files (given.Code code) = refl
has_its_files (given.Compile compile) = refl
has_its_files (given.Trial trial) = refl
has_its_files (given.Load load) = refl
has_its_files (given.Session session) = refl
has_its_files (given.Domino domino) = refl
has_its_files (given.Usage usage) = refl
