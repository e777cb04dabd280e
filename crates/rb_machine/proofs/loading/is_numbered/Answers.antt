-- No block has too many alternates if none of the blocks in memory has.
use Rattle.rb_machine.proofs.Beginning.ExecutableCode.{few_alternates}
use Rattle.rb_machine.proofs.loading.is_numbered.Goals as goal

pub returns-then-len-clause-alternates : goal.returns-then-len-clause-alternates
returns-then-len-clause-alternates c = λ h.
    let told = c.have_few_alternates.ensures in
    let blocks = c.deref.ensures.value in
    few_alternates c.args.code.now.blocks.items (cc)
