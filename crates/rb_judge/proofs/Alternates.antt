-- The grammar gives each recovery block an alternate: its alternates begin with one, and others may follow.
use Rattle.std.proofs.Common.{◌≤◌, arith}
use Rattle.std.specs.List.{All}
use Rattle.std.proofs.lemmas.List.Elements.{All-cons, All-nil}
use Rattle.rb_meaning.specs.Groups.{count_alternates}
use Rattle.rb_grammar.specs.Grammar.{Point, joined, Derives, first_edition_row, second_edition_row, program_row, processes_row, no_process_row, more_processes_row, process_row}
use Rattle.rb_grammar.specs.Grammar.{no_procedure_row, procedures_row, procedure_row, block_row, statements_row, receive_row, never_waits_row, if_row, else_row, while_row}
use Rattle.rb_grammar.specs.Grammar.{recover_row, converse_row, recovery_row, alternates_row, alternate_row, other_alternates_row}
use Rattle.rb_grammar.specs.Parts.{Part}
use Rattle.rb_grammar.specs.Values.{Value}
use Rattle.rb_syntax.specs.Tree.{Identifier, RecoveryBlock, Recovers, ProcedureDeclaration}
use Rattle.rb_judge.specs.HasAlternates.{CommandHasAlternates, CommandsHaveAlternates, BodyHasAlternates, OtherwiseHasAlternates, RecoveryHasAlternates, AlternatesHaveAlternates, ProcessHasAlternates, HasAlternates}
use Rattle.rb_judge.specs.Laws.{OfEveryAccepted}

-- a procedure has its block's
abbrev ProcedureKept : ProcedureDeclaration → Type 0
ProcedureKept procedure = BodyHasAlternates procedure.body

-- what each part keeps; the others have no recovery block
abbrev Kept : (part : Part) → Value part → Type 0
Kept Part.Program v = HasAlternates v
Kept (Part.Unmarked edition) v = HasAlternates v
Kept (Part.Process edition) v = ProcessHasAlternates v
Kept (Part.Processes edition) v = All ProcessHasAlternates v
Kept (Part.MoreProcesses edition) v = All ProcessHasAlternates v
Kept (Part.Procedures edition) v = All ProcedureKept v
Kept (Part.Procedure edition) v = BodyHasAlternates v.body
Kept (Part.Block edition) v = BodyHasAlternates v
Kept (Part.Statements edition) v = CommandsHaveAlternates v
Kept (Part.Statement edition) v = CommandHasAlternates v
Kept (Part.OptionalElse edition) v = OtherwiseHasAlternates v
Kept (Part.ReceiptEnd edition) v = OtherwiseHasAlternates v
Kept (Part.Recovery edition) v = RecoveryHasAlternates v
Kept (Part.Alternates edition) v = (1 ≤ count_alternates v) × AlternatesHaveAlternates v
Kept (Part.Alternate edition) v = BodyHasAlternates v
Kept (Part.OtherAlternates edition) v = AlternatesHaveAlternates v
Kept part v = Unit {0}

joined_keeps : (name : Identifier) (block : RecoveryBlock) → RecoveryHasAlternates block → RecoveryHasAlternates (joined name block)
joined_keeps name (Recovers number conversation place test bound alternates) h = h

kept : {part : Part} {value : Value part} {a b : Point} → Derives part value a b → Kept part value
kept (first_edition_row d) = kept d
kept (second_edition_row t u v d) = kept d
kept (program_row t n u d e v w) = kept e
kept (processes_row {first = first} {others = others} d e) = All-cons ProcessHasAlternates first others (kept d) (kept e)
kept no_process_row = All-nil ProcessHasAlternates
kept (more_processes_row {first = first} {others = others} d e) = All-cons ProcessHasAlternates first others (kept d) (kept e)
kept (process_row t n u d e f v) = record { procedures = kept e; commands = kept f }
kept no_procedure_row = All-nil ProcedureKept
kept (procedures_row {first = first} {others = others} d e) = All-cons ProcedureKept first others (kept d) (kept e)
kept (procedure_row t n u d v e) = kept e
kept (block_row t d e u) = kept e
kept (statements_row d e) = (kept d, kept e)
kept (receive_row t n d e) = kept e
kept (never_waits_row t d) = kept d
kept (if_row t d e f) = (kept e, kept f)
kept (else_row t d) = kept d
kept (while_row t d e) = kept e
kept (recover_row d) = kept d
kept (converse_row {conversation = name} {block = block} t n d) = joined_keeps name block (kept d)
kept (recovery_row m d t e f) = kept f
kept (alternates_row d e) = (omega arith, (kept d, kept e))
kept (alternate_row t d u) = kept d
kept (other_alternates_row d e) = (kept d, kept e)
kept _ = tt

pub accepted_have_alternates : OfEveryAccepted HasAlternates
accepted_have_alternates source tree a = kept a.derived.derived.derived
