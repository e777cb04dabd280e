-- What the head of a trace tells, as it is in memory.
use Rattle.rb_base.specs.declared.names.Group.{Group}
use Rattle.rb_picture.specs.Head.{Meeting}

-- a conversation in memory
abbrev pub meeting : Group → Meeting
meeting group = record { members = group.members.items; parent = group.parent; alternates = group.alternates }
