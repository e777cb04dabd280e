-- What an image has of each part, as its pieces one behind another are written.
use Rattle.std.proofs.Common.{◌≡◌, ℕ, List, ◌++◌, map, ap, ap₂, subst, arith}
use Rattle.std.proofs.lemmas.List.{length-map, map-id}
use Rattle.rb_base.specs.declared.names.Group.{Group}
use Rattle.rb_base.specs.declared.names.Names.{Names}
use Rattle.rb_trace.specs.Naming.{naming, process_naming}
use Rattle.rb_nest.specs.Groups.{membership}
use Rattle.rb_code.specs.Instructions.Plain.{block, channel, code as plain_code, part, procedure}
use Rattle.rb_code.specs.declared.code.BlockCode.{BlockCode}
use Rattle.rb_code.specs.declared.code.Code.{Code}
use Rattle.rb_code.specs.declared.code.ProcessCode.{ProcessCode}
use Rattle.rb_image.specs.Image.{block as block_bytes, channel as channel_bytes, group, procedure as procedure_bytes, process as process_bytes, process_names}
use Rattle.rb_image.specs.Instrs.{instr}
use Rattle.rb_image.specs.Pieces.{list, natural, optional, text}
use Rattle.rb_image.specs.Ranges.{Are, AreNames, AreProcessNames, IsBlock, IsChannel, IsCode, IsGroup, IsInstr, IsNatural, IsOptional, IsProcedure, IsProcess, IsText}

-- a list of what is without its place in memory what it is with it
abbrev pub plain : {X : Type 0} → List X → List X
plain xs = map (λ x. x) xs

list_is : {X : Type 0} (bytes : X → List ℕ) (xs : List X) → list bytes (plain xs) ≡ list bytes xs
list_is bytes xs = ap (list bytes) (map-id xs)

are : {X : Type 0} (fits : X → Type 0) (xs : List X) → Are fits (plain xs) → Are fits xs
are fits xs all = subst (Are fits) (map-id xs) all

pub process_spelled : (one : ProcessCode)
    → natural one.start ++ (natural one.words ++ (list natural (plain one.channels.items) ++ list procedure_bytes (map procedure one.procedures.items)))
    ≡ process_bytes (part one)
process_spelled one =
    ap (λ (channels : List ℕ). natural one.start ++ (natural one.words ++ (channels ++ list procedure_bytes (map procedure one.procedures.items))))
    (list_is natural one.channels.items)

pub process_fits : (one : ProcessCode)
    → IsNatural one.start × (IsNatural one.words × (Are IsNatural (plain one.channels.items) × Are IsProcedure (map procedure one.procedures.items)))
    → IsProcess (part one)
process_fits one fits =
    record { start = fits.0; words = fits.1.0; channels = are IsNatural one.channels.items fits.1.1.0; procedures = fits.1.1.1 }

pub block_spelled : (one : BlockCode)
    → natural one.line ++ (optional one.conversation ++ (natural one.bound
    ++ (natural one.restart ++ (natural one.test ++ list natural (plain one.alternates.items)))))
    ≡ block_bytes (block one)
block_spelled one =
    ap (λ (alternates : List ℕ).
    natural one.line ++ (optional one.conversation ++ (natural one.bound ++ (natural one.restart ++ (natural one.test ++ alternates)))))
    (list_is natural one.alternates.items)

pub block_fits : (one : BlockCode)
    → IsNatural one.line × (IsOptional one.conversation × (IsNatural one.bound
    × (IsNatural one.restart × (IsNatural one.test × Are IsNatural (plain one.alternates.items)))))
    → IsBlock (block one)
block_fits one fits = record {
  line = fits.0;
  conversation = fits.1.0;
  bound = fits.1.1.0;
  restart = fits.1.1.1.0;
  test = fits.1.1.1.1.0;
  alternates = are IsNatural one.alternates.items fits.1.1.1.1.1;
}

pub group_spelled : (one : Group)
    → list natural (plain one.members.items) ++ (optional one.parent ++ natural one.alternates) ≡ group (membership one, one.alternates)
group_spelled one =
    ap (λ (members : List ℕ). members ++ (optional one.parent ++ natural one.alternates)) (list_is natural one.members.items)

pub group_fits : (one : Group) → Are IsNatural (plain one.members.items) × (IsOptional one.parent × IsNatural one.alternates)
    → IsGroup (membership one) × IsNatural one.alternates
group_fits one fits = (record { members = are IsNatural one.members.items fits.0; parent = fits.1.0 }, fits.1.1)

abbrev pub names_bytes : Names → List ℕ
names_bytes names =
    list process_names (map process_naming names.processes.items) ++ (list text names.channels.items ++ list text names.conversations.items)

pub names_spelled : (names : Names)
    → list process_names (map process_naming names.processes.items)
    ++ (list text (plain names.channels.items) ++ list text (plain names.conversations.items))
    ≡ names_bytes names
names_spelled names =
    ap₂ (λ (channels conversations : List ℕ). list process_names (map process_naming names.processes.items) ++ (channels ++ conversations))
    (list_is text names.channels.items) (list_is text names.conversations.items)

pub names_fit : (names : Names)
    → Are AreProcessNames (map process_naming names.processes.items)
    × (Are IsText (plain names.channels.items) × Are IsText (plain names.conversations.items))
    → AreNames (naming names)
names_fit names fits = record {
  processes = (
    fits.0,
    omega (arith, length-map names.processes.items process_naming, names.processes.ok.0, names.few_processes),
  );
  channels = (are IsText names.channels.items fits.1.0, omega (arith, names.channels.ok.0, names.few_channels));
  conversations = (are IsText names.conversations.items fits.1.1, omega (arith, names.conversations.ok.0, names.few_conversations));
}

pub lists_spelled : (code : Code)
    → list instr (plain code.instrs.items)
    ++ (list process_bytes (map part code.processes.items)
    ++ (list block_bytes (map block code.blocks.items)
    ++ (list channel_bytes (map channel code.channels.items) ++ (list text (plain code.texts.items) ++ names_bytes code.names))))
    ≡ list instr code.instrs.items
    ++ (list process_bytes (map part code.processes.items)
    ++ (list block_bytes (map block code.blocks.items)
    ++ (list channel_bytes (map channel code.channels.items) ++ (list text code.texts.items ++ names_bytes code.names))))
lists_spelled code =
    ap₂ (λ (instrs texts : List ℕ).
    instrs
    ++ (list process_bytes (map part code.processes.items)
    ++ (list block_bytes (map block code.blocks.items)
    ++ (list channel_bytes (map channel code.channels.items) ++ (texts ++ names_bytes code.names)))))
    (list_is instr code.instrs.items) (list_is text code.texts.items)

pub lists_fit : (code : Code)
    → Are IsInstr (plain code.instrs.items)
    × (Are IsProcess (map part code.processes.items)
    × (Are IsBlock (map block code.blocks.items)
    × (Are IsChannel (map channel code.channels.items) × (Are IsText (plain code.texts.items) × AreNames (naming code.names)))))
    → IsCode (plain_code code)
lists_fit code fits = record {
  instrs = are IsInstr code.instrs.items fits.0;
  processes = fits.1.0;
  blocks = fits.1.1.0;
  channels = fits.1.1.1.0;
  texts = are IsText code.texts.items fits.1.1.1.1.0;
  names = fits.1.1.1.1.1;
}
