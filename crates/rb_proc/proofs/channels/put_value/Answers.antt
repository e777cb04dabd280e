use Rattle.std.proofs.Common.{rules}
use Rattle.rb_code.specs.Instructions.Plain.{code as plain}
use Rattle.rb_proc.proofs.Mailed.{put_comes}
use Rattle.rb_proc.proofs.channels.put_value.Goals as goal

pub returns-clause-moved : goal.returns-clause-moved
returns-clause-moved g c see pieces counters same =
    put_comes (plain c.args.code.now) see c.args.process c.args.channel c.args.at c.cursor_place-place.result c.args.operands.now c.pop-value.new.self
    c.pop-value.result c.load-cursor.result c.one_further.result c.args.memory.now c.store.new.self c.args.mails.now c.put_mail.new.mails pieces counters
    same (search rules) (search rules) (search rules) (search rules) (search rules)
    (let h = c.put_mail.ensures.put (plain c.args.code.now) c.requires.sized in search (rules, h))
