-- The head of a trace: what a program has, as far as its code and its conversations tell.
use Rattle.std.specs.Prelude.{ℕ, List, [], ◌∷◌, ◌++◌, codes, decimal, map, Option, Some, None}
use Rattle.std.specs.List.{flat_map}
use Rattle.rb_base.specs.declared.edition.Edition.{Edition}
use Rattle.rb_base.specs.declared.edition.Edition.TheVariants.{First, Second}
use Rattle.rb_world.specs.Kind.{Ends, Facts, Membership}
use Rattle.rb_world.specs.Text.{Naming, ProcessNaming, VariableNaming, conversation_word, line_of, process_word}
use Rattle.rb_trace.specs.Lines.{spaced}
use Rattle.rb_code.specs.Instructions.Plain.{Block, Code}
use Rattle.rb_code.specs.WordMachine.Turn.{block_facts}
use Rattle.rb_changes.specs.Numbered.{numbered}
use Rattle.rb_picture.specs.Turns.{channel_word}

abbrev pub edition_word : Edition → List ℕ
edition_word First = codes "1"
edition_word Second = codes "2"

-- a number, and `-` for none
abbrev pub size_word : Option ℕ → List ℕ
size_word None = codes "-"
size_word (Some n) = decimal n

-- a conversation's name, and `-` for none
abbrev pub conversation_or : Naming → Option ℕ → List ℕ
conversation_or names None = codes "-"
conversation_or names (Some d) = conversation_word names d

abbrev pub variable_head : List ℕ → VariableNaming → List ℕ
variable_head process variable = line_of (codes "var" ∷ process ∷ variable.name ∷ size_word variable.size ∷ [])

-- a process, and its variables behind it
abbrev pub process_head : ProcessNaming → List ℕ
process_head process = line_of (codes "process" ∷ process.name ∷ []) ++ flat_map (variable_head process.name) process.variables

abbrev pub channel_head : Naming → ℕ → Ends → List ℕ
channel_head names c ends =
    line_of (codes "channel" ∷ channel_word names c ∷ codes "from" ∷ process_word names ends.sender ∷ codes "to"
    ∷ process_word names ends.receiver ∷ codes "size" ∷ decimal ends.size ∷ [])

-- a conversation: the one right around it, its number of alternates, and its members
pub record Meeting : Type 0 where
  pub members : List ℕ
  pub parent : Option ℕ
  pub alternates : ℕ

abbrev pub meetings : List Membership → List ℕ → List Meeting
meetings [] counts = []
meetings (group ∷ groups) [] = []
meetings (group ∷ groups) (n ∷ counts) = record { members = group.members; parent = group.parent; alternates = n } ∷ meetings groups counts

-- the line of a conversation up to its members
abbrev pub group_text : Naming → ℕ → Meeting → List ℕ
group_text names d meeting =
    flat_map (λ piece. piece) (codes "conversation " ∷ conversation_word names d ∷ codes " parent " ∷ conversation_or names meeting.parent ∷ codes " alternates "
    ∷ decimal meeting.alternates ∷ codes " members" ∷ [])

abbrev pub conversation_head : Naming → ℕ → Meeting → List ℕ
conversation_head names d meeting =
    group_text names d meeting ++ (spaced (map (process_word names) meeting.members) ++ 10 ∷ [])

-- a recovery block, by what is known of it at its entry
abbrev pub facts_head : Naming → Facts → List ℕ
facts_head names block =
    line_of (codes "block" ∷ decimal block.number ∷ codes "line" ∷ decimal block.line ∷ codes "conversation" ∷ conversation_or names block.conversation
    ∷ codes "within" ∷ decimal block.bound ∷ codes "alternates" ∷ decimal block.alternates ∷ [])

-- a recovery block of a code, by its number
abbrev pub block_head : Naming → ℕ → Block → List ℕ
block_head names b block = facts_head names (block_facts b block)

-- the head of the trace of a run of so many turns, with the lines of all recovery blocks
abbrev pub head_with : Edition → Naming → List Ends → List Meeting → List ℕ → ℕ → List ℕ
head_with edition names channels all blocks turns =
    line_of (codes "trace" ∷ codes "1" ∷ [])
    ++ (line_of (codes "edition" ∷ edition_word edition ∷ [])
    ++ (flat_map process_head names.processes
    ++ (numbered (channel_head names) 0 channels
    ++ (numbered (conversation_head names) 0 all ++ (blocks ++ line_of (codes "turns" ∷ decimal turns ∷ []))))))

-- that of a code
abbrev pub head_of : Code → List Meeting → ℕ → List ℕ
head_of c all turns = head_with c.edition c.names c.channels all (numbered (block_head c.names) 0 c.blocks) turns

abbrev pub head_text : Code → List Membership → List ℕ → ℕ → List ℕ
head_text c groups counts turns = head_of c (meetings groups counts) turns
