-- The bytes of a compiled image, of a code and of its conversations with their numbers of alternates. All of it is this project's own.
use Rattle.std.specs.Prelude.{ℕ, List, ◌++◌, codes}
use Rattle.std.specs.List.{zip}
use Rattle.rb_base.specs.declared.edition.Edition.{Edition}
use Rattle.rb_base.specs.declared.edition.Edition.TheVariants.{First, Second}
use Rattle.rb_world.specs.Kind.{Ends, Membership}
use Rattle.rb_world.specs.Text.{ProcessNaming, VariableNaming}
use Rattle.rb_code.specs.Instructions.Plain.{Block, Code, Part, Procedure}
use Rattle.rb_image.specs.Pieces.{list, natural, optional, text}
use Rattle.rb_image.specs.Instrs.{instr}

-- a procedure: its name and its first address
abbrev pub procedure : Procedure → List ℕ
procedure one = text one.name ++ natural one.start

-- a process: where its body begins, how many words it has, its channels and its procedures
abbrev pub process : Part → List ℕ
process one = natural one.start ++ (natural one.words ++ (list natural one.channels ++ list procedure one.procedures))

-- a recovery block: its line, its conversation, its turn bound, and where its restart, its test and its alternates stand
abbrev pub block : Block → List ℕ
block one =
    natural one.line
    ++ (optional one.conversation
    ++ (natural one.bound ++ (natural one.restart ++ (natural one.test ++ list natural one.alternates))))

-- a channel: its sender, its receiver and its size
abbrev pub channel : Ends → List ℕ
channel one = natural one.sender ++ (natural one.receiver ++ natural one.size)

-- a variable: its name, its first word, and its size where it is an array
abbrev pub variable : VariableNaming → List ℕ
variable one = text one.name ++ (natural one.at ++ optional one.size)

-- a process's name and its variables
abbrev pub process_names : ProcessNaming → List ℕ
process_names one = text one.name ++ list variable one.variables

-- a conversation: its members, the one around it, and its number of alternates
abbrev pub group : Membership × ℕ → List ℕ
group one = list natural one.0.members ++ (optional one.0.parent ++ natural one.1)

abbrev pub edition_number : Edition → ℕ
edition_number First = 1
edition_number Second = 2

-- the first bytes of each image
abbrev pub magic : List ℕ
magic = codes "RBL2"

-- the edition and the lists of a code
abbrev pub code : Code → List ℕ
code c =
    natural (edition_number c.edition)
    ++ (list instr c.instrs
    ++ (list process c.processes ++ (list block c.blocks ++ (list channel c.channels ++ (list text c.texts
    ++ (list process_names c.names.processes ++ (list text c.names.channels ++ list text c.names.conversations)))))))

-- the whole image
abbrev pub image_of : Code → List Membership → List ℕ → List ℕ
image_of c groups counts = magic ++ (code c ++ list group (zip groups counts))
