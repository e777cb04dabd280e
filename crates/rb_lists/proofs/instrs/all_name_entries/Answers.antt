use Rattle.rb_code.specs.Instructions.Plain.{code as plain}
use Rattle.rb_code.specs.SoundCode.WellFormed.{Names as NamesThere}
use Rattle.rb_lists.proofs.Each.{tells_same}
use Rattle.rb_lists.proofs.instrs.all_name_entries.Goals as goal

pub returns : goal.returns
returns c = tells_same (NamesThere (plain c.args.code.now)) _ _ _ c.deref.ensures.value c.all_allowed.ensures
