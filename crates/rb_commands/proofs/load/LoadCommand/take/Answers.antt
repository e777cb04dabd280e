use Rattle.std.proofs.Common.{subst}
use Rattle.rb_commands.specs.Held.{HoldsLoaded}
use Rattle.rb_commands.specs.declared.load.Loaded.{Loaded}
use Rattle.rb_commands.proofs.Images.{files, image_is_short, image_not_taken, image_taken, schedule_is_short, schedule_taken}
use Rattle.rb_commands.proofs.Taken.{IsNext}
use Rattle.rb_commands.proofs.load.LoadCommand.take.Goals as goal

pub take_image-requires : goal.take_image-requires
take_image-requires c =
    let a = c.args.self.now.image.now in
    let b = c.args.self.now.schedule.now in
    image_is_short a b c.args.text.now
    (subst (λ (held : Loaded). IsNext (files a b) c.args.text.now (λ texts. HoldsLoaded texts held)) c.in-Nothing.is c.requires)

pub returns-in-Ok-clause-held : goal.returns-in-Ok-clause-held
returns-in-Ok-clause-held c =
    rw c.in-Nothing.is
    (image_taken c.args.self.now.image.now c.args.self.now.schedule.now c.args.text.now c.in-Ok.image c.in-Ok.ensures.holds)

pub returns-in-Err-clause-refused : goal.returns-in-Err-clause-refused
returns-in-Err-clause-refused c = rw c.in-Nothing.is (image_not_taken c.args.text.now c.in-Err.stop c.in-Err.ensures.refused)

pub returns-in-Program-clause-held : goal.returns-in-Program-clause-held
returns-in-Program-clause-held c =
    let a = c.args.self.now.image.now in
    let b = c.args.self.now.schedule.now in
    let next = subst (λ (held : Loaded). IsNext (files a b) c.args.text.now (λ texts. HoldsLoaded texts held)) c.in-Program.is c.requires in
    rw c.in-Program.is
    (schedule_taken a b c.args.text c.in-Program.image (schedule_is_short a b c.args.text.now c.in-Program.image next))
