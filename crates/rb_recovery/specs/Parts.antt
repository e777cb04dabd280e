-- The world that the machine's parts stand for.
use Rattle.rb_code.specs.WordMachine.WordRun.{WordWorld}
use Rattle.rb_recovery.specs.Worlds.{memory_of, world_of}
use Rattle.rb_recovery.specs.declared.parts.Parts.{Parts}

-- the world that parts stand for
abbrev pub world : {L : Type 0} → Parts L → WordWorld
world parts = world_of parts.procs.items parts.table (memory_of parts.mails parts.links.items)
