-- The formats of the parts of an image, and how many bytes each has at least.
use Rattle.std.proofs.Common.{◌≡◌, ℕ, ◌+◌, ◌≤◌, List, ◌++◌, length, Option, Some, None, refl, ap, arith, append_assoc}
use Rattle.std.specs.List.{flat_map}
use Rattle.std.proofs.lemmas.List.{length-append}
use Rattle.rb_base.specs.declared.edition.Edition.{Edition}
use Rattle.rb_world.specs.Kind.{Ends, Membership}
use Rattle.rb_world.specs.Text.{Naming, ProcessNaming, VariableNaming}
use Rattle.rb_code.specs.Instructions.Plain.{Block, Code, Part, Procedure}
use Rattle.rb_code.specs.declared.instr.Instr.{Instr}
use Rattle.rb_image.specs.Pieces.{list, natural, optional, text}
use Rattle.rb_image.specs.Instrs.{instr}
use Rattle.rb_image.specs.Image.{block, channel, code, edition_number, group, procedure, process, process_names, variable}
use Rattle.rb_image.specs.Ranges.{Are, AreFew, AreNames, AreProcessNames, IsBlock, IsChannel, IsCode, IsGroup, IsInstr, IsNatural, IsProcedure, IsProcess, IsText, IsVariable}
use Rattle.rb_image.specs.Reading.{few_at, list_at, natural_at, text_at}
use Rattle.rb_image.specs.ReadInstrs.{instr_at}
use Rattle.rb_image.specs.ReadParts.{Tables, block_at, block_of, channel_at, code_at, code_of, ends_of, group_at, group_of, names_at, naming_of, part_of, procedure_at, process_at, process_names_at, process_names_of, tables_at, variable_at, variable_of}
use Rattle.rb_image.proofs.Formats.{IsFormat, both_is, made_is}
use Rattle.rb_image.proofs.Numbers.{length-natural, natural_is}
use Rattle.rb_image.proofs.Lists.{few_is, list_is, text_is}
use Rattle.rb_image.proofs.Flags.{edition_is, optional_is}
use Rattle.rb_image.proofs.Instructions.{instr_is, instr_long}

-- how many bytes there are at least
natural_long : (n : ℕ) → 8 ≤ length (natural n)
natural_long n = omega (arith, length-natural n)

text_long : (bytes : List ℕ) → 8 ≤ length (text bytes)
text_long bytes = omega (arith, length-append (natural (length bytes)) bytes, length-natural (length bytes))

list_long : {X : Type 0} (item : X → List ℕ) (items : List X) → 8 ≤ length (list item items)
list_long item items = omega (arith, length-append (natural (length items)) (flat_map item items), length-natural (length items))

optional_long : (number : Option ℕ) → 8 ≤ length (optional number)
optional_long None = natural_long 0
optional_long (Some n) = omega (arith, length-append (natural 1) (natural n), length-natural 1)

-- two, and what each has at least
both_long : (a b : ℕ) (x y : List ℕ) → a ≤ length x → b ≤ length y → a + b ≤ length (x ++ y)
both_long a b x y first second = omega (arith, length-append x y)

procedure_long : (one : Procedure) → 16 ≤ length (procedure one)
procedure_long one = both_long 8 8 (text one.name) (natural one.start) (text_long one.name) (natural_long one.start)

process_long : (one : Part) → 32 ≤ length (process one)
process_long one =
    let lists = both_long 8 8 (list natural one.channels) (list procedure one.procedures) (list_long natural one.channels)
    (list_long procedure one.procedures) in
    let words = both_long 8 16 (natural one.words) _ (natural_long one.words) lists in
    both_long 8 24 (natural one.start) _ (natural_long one.start) words

block_long : (one : Block) → 48 ≤ length (block one)
block_long one =
    let test = both_long 8 8 (natural one.test) (list natural one.alternates) (natural_long one.test) (list_long natural one.alternates) in
    let restart = both_long 8 16 (natural one.restart) _ (natural_long one.restart) test in
    let bound = both_long 8 24 (natural one.bound) _ (natural_long one.bound) restart in
    let conversation = both_long 8 32 (optional one.conversation) _ (optional_long one.conversation) bound in
    both_long 8 40 (natural one.line) _ (natural_long one.line) conversation

channel_long : (one : Ends) → 24 ≤ length (channel one)
channel_long one =
    both_long 8 16 (natural one.sender) _ (natural_long one.sender)
    (both_long 8 8 (natural one.receiver) (natural one.size) (natural_long one.receiver) (natural_long one.size))

variable_long : (one : VariableNaming) → 24 ≤ length (variable one)
variable_long one =
    both_long 8 16 (text one.name) _ (text_long one.name)
    (both_long 8 8 (natural one.at) (optional one.size) (natural_long one.at) (optional_long one.size))

process_names_long : (one : ProcessNaming) → 16 ≤ length (process_names one)
process_names_long one =
    both_long 8 8 (text one.name) (list variable one.variables) (text_long one.name) (list_long variable one.variables)

group_long : (one : Membership × ℕ) → 24 ≤ length (group one)
group_long one =
    both_long 8 16 (list natural one.0.members) _ (list_long natural one.0.members)
    (both_long 8 8 (optional one.0.parent) (natural one.1) (optional_long one.0.parent) (natural_long one.1))

-- the formats
naturals_is : IsFormat (list natural) (list_at 8 natural_at) (Are IsNatural)
naturals_is = list_is natural natural_at IsNatural natural_is 8 (omega arith) natural_long

procedure_is : IsFormat procedure procedure_at IsProcedure
unfolding procedure_at
procedure_is =
    made_is (λ (x : List ℕ × ℕ). record { name = x.0; start = x.1 }) (λ (y : Procedure). (y.name, y.start)) procedure IsProcedure
    (λ _ _. refl) (λ _ _. refl) (λ _ h. record { name = h.0; start = h.1 }) (λ _ h. (h.name, h.start)) (both_is text_is natural_is)

process_is : IsFormat process process_at IsProcess
unfolding process_at
process_is =
    made_is part_of (λ (y : Part). (y.start, (y.words, (y.channels, y.procedures)))) process IsProcess (λ _ _. refl) (λ _ _. refl)
    (λ _ h. record { start = h.0; words = h.1.0; channels = h.1.1.0; procedures = h.1.1.1 })
    (λ _ h. (h.start, (h.words, (h.channels, h.procedures))))
    (both_is natural_is (both_is natural_is (both_is naturals_is
    (list_is procedure procedure_at IsProcedure procedure_is 16 (omega arith) procedure_long))))

block_is : IsFormat block block_at IsBlock
unfolding block_at
block_is =
    made_is block_of (λ (y : Block). (y.line, (y.conversation, (y.bound, (y.restart, (y.test, y.alternates)))))) block IsBlock
    (λ _ _. refl) (λ _ _. refl)
    (λ _ h. record {
      line = h.0;
      conversation = h.1.0;
      bound = h.1.1.0;
      restart = h.1.1.1.0;
      test = h.1.1.1.1.0;
      alternates = h.1.1.1.1.1;
    })
    (λ _ h. (h.line, (h.conversation, (h.bound, (h.restart, (h.test, h.alternates))))))
    (both_is natural_is (both_is optional_is (both_is natural_is (both_is natural_is (both_is natural_is naturals_is)))))

channel_is : IsFormat channel channel_at IsChannel
unfolding channel_at
channel_is =
    made_is ends_of (λ (y : Ends). (y.sender, (y.receiver, y.size))) channel IsChannel (λ _ _. refl) (λ _ _. refl)
    (λ _ h. record { sender = h.0; receiver = h.1.0; size = h.1.1 }) (λ _ h. (h.sender, (h.receiver, h.size)))
    (both_is natural_is (both_is natural_is natural_is))

variable_is : IsFormat variable variable_at IsVariable
unfolding variable_at
variable_is =
    made_is variable_of (λ (y : VariableNaming). (y.name, (y.at, y.size))) variable IsVariable (λ _ _. refl) (λ _ _. refl)
    (λ _ h. record { name = h.0; at = h.1.0; size = h.1.1 }) (λ _ h. (h.name, (h.at, h.size)))
    (both_is text_is (both_is natural_is optional_is))

process_names_is : IsFormat process_names process_names_at AreProcessNames
unfolding process_names_at
process_names_is =
    made_is process_names_of (λ (y : ProcessNaming). (y.name, y.variables)) process_names AreProcessNames (λ _ _. refl) (λ _ _. refl)
    (λ _ h. record { name = h.0; variables = h.1 }) (λ _ h. (h.name, h.variables))
    (both_is text_is (list_is variable variable_at IsVariable variable_is 24 (omega arith) variable_long))

few_texts_is : IsFormat (list text) (few_at 8 text_at) (AreFew IsText)
few_texts_is = few_is text text_at IsText text_is 8 (omega arith) text_long

abbrev names : Naming → List ℕ
names all = list process_names all.processes ++ (list text all.channels ++ list text all.conversations)

names_is : IsFormat names names_at AreNames
unfolding names_at
names_is =
    made_is naming_of (λ (y : Naming). (y.processes, (y.channels, y.conversations))) names AreNames (λ _ _. refl) (λ _ _. refl)
    (λ _ h. record { processes = h.0; channels = h.1.0; conversations = h.1.1 }) (λ _ h. (h.processes, (h.channels, h.conversations)))
    (both_is (few_is process_names process_names_at AreProcessNames process_names_is 16 (omega arith) process_names_long)
    (both_is few_texts_is few_texts_is))

abbrev pub IsCounted : Membership × ℕ → Type 0
IsCounted one = IsGroup one.0 × IsNatural one.1

group_is : IsFormat group group_at IsCounted
unfolding group_at
group_is =
    made_is group_of (λ (y : Membership × ℕ). (y.0.members, (y.0.parent, y.1))) group IsCounted (λ _ _. refl) (λ _ _. refl)
    (λ _ h. (record { members = h.0; parent = h.1.0 }, h.1.1)) (λ _ h. (h.0.members, (h.0.parent, h.1)))
    (both_is naturals_is (both_is optional_is natural_is))

pub groups_are : IsFormat (list group) (few_at 24 group_at) (AreFew IsCounted)
groups_are = few_is group group_at IsCounted group_is 24 (omega arith) group_long

-- the lists of a code before its names
abbrev tables : Tables → List ℕ
tables x = list process x.0 ++ (list block x.1.0 ++ (list channel x.1.1.0 ++ list text x.1.1.1))

abbrev AreTables : Tables → Type 0
AreTables x = Are IsProcess x.0 × (Are IsBlock x.1.0 × (Are IsChannel x.1.1.0 × Are IsText x.1.1.1))

tables_are : IsFormat tables tables_at AreTables
unfolding tables_at
tables_are =
    both_is (list_is process process_at IsProcess process_is 32 (omega arith) process_long)
    (both_is (list_is block block_at IsBlock block_is 48 (omega arith) block_long)
    (both_is (list_is channel channel_at IsChannel channel_is 24 (omega arith) channel_long)
    (list_is text text_at IsText text_is 8 (omega arith) text_long)))

regrouped : (a b c d e : List ℕ) → a ++ (b ++ (c ++ (d ++ e))) ≡ (a ++ (b ++ (c ++ d))) ++ e
regrouped a b c d e = simp append_assoc

abbrev parts_of : Code → Edition × (List Instr × (Tables × Naming))
parts_of c = (c.edition, (c.instrs, ((c.processes, (c.blocks, (c.channels, c.texts))), c.names)))

pub code_is : IsFormat code code_at IsCode
unfolding code_at
code_is =
    made_is code_of parts_of code IsCode (λ _ _. refl)
    (λ x _. ap (λ (s : List ℕ). natural (edition_number x.0) ++ (list instr x.1.0 ++ s))
    (regrouped (list process x.1.1.0.0) (list block x.1.1.0.1.0) (list channel x.1.1.0.1.1.0) (list text x.1.1.0.1.1.1) (names x.1.1.1)))
    (λ _ h. record {
      instrs = h.1.0;
      processes = h.1.1.0.0;
      blocks = h.1.1.0.1.0;
      channels = h.1.1.0.1.1.0;
      texts = h.1.1.0.1.1.1;
      names = h.1.1.1;
    })
    (λ _ h. (tt, (h.instrs, ((h.processes, (h.blocks, (h.channels, h.texts))), h.names))))
    (both_is edition_is (both_is (list_is instr instr_at IsInstr instr_is 1 (omega arith) instr_long) (both_is tables_are names_is)))
