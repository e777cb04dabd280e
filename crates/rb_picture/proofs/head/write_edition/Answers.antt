use Rattle.rb_picture.proofs.head.write_edition.Goals as goal

pub returns-in-First : goal.returns-in-First
returns-in-First g c = rw (c.in-First.is) c.put.ensures

pub returns-in-Second : goal.returns-in-Second
returns-in-Second g c = rw (c.in-Second.is) c.put-in-Second.ensures
