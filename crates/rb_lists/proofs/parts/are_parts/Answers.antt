use Rattle.rb_code.specs.Instructions.Plain.{code as plain, part as plain_part}
use Rattle.rb_code.specs.SoundCode.WellFormed.{IsPart}
use Rattle.rb_code.specs.declared.code.ProcessCode.{ProcessCode}
use Rattle.rb_lists.proofs.Each.{tells_same}
use Rattle.rb_lists.proofs.parts.are_parts.Goals as goal

pub returns : goal.returns
returns c =
    tells_same (λ (process : ProcessCode). IsPart (plain c.args.code.now) (plain_part process)) _ _ _ c.deref.ensures.value
    c.all_allowed.ensures
