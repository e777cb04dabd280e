-- Reading the parts of an image, and the whole.
use Rattle.std.specs.Prelude.{ℕ, zero, suc, nat_eq, cond, List, length, take, drop, Option, Some, None}
use Rattle.std.specs.Cmp.Lexicographic.{pointwise}
use Rattle.rb_base.specs.declared.edition.Edition.{Edition}
use Rattle.rb_base.specs.declared.edition.Edition.TheVariants.{First, Second}
use Rattle.rb_world.specs.Kind.{Ends, Membership}
use Rattle.rb_world.specs.Text.{Naming, ProcessNaming, VariableNaming}
use Rattle.rb_code.specs.Instructions.Plain.{Block, Code, Part, Procedure}
use Rattle.rb_code.specs.declared.instr.Instr.{Instr}
use Rattle.rb_image.specs.Image.{magic}
use Rattle.rb_image.specs.Reading.{◌>>=◌, Reading, both, few_at, list_at, made, natural_at, optional_at, text_at, word_at}
use Rattle.rb_image.specs.ReadInstrs.{instr_at}

unfoldable pub procedure_at : Reading Procedure
procedure_at = made (λ (x : List ℕ × ℕ). record { name = x.0; start = x.1 }) (both text_at natural_at)

abbrev pub part_of : ℕ × (ℕ × (List ℕ × List Procedure)) → Part
part_of x = record { start = x.0; words = x.1.0; channels = x.1.1.0; procedures = x.1.1.1 }

unfoldable pub process_at : Reading Part
process_at = made part_of (both natural_at (both natural_at (both (list_at 8 natural_at) (list_at 16 procedure_at))))

abbrev pub block_of : ℕ × (Option ℕ × (ℕ × (ℕ × (ℕ × List ℕ)))) → Block
block_of x =
    record { line = x.0; conversation = x.1.0; bound = x.1.1.0; restart = x.1.1.1.0; test = x.1.1.1.1.0; alternates = x.1.1.1.1.1 }

unfoldable pub block_at : Reading Block
block_at =
    made block_of (both natural_at (both optional_at (both natural_at (both natural_at (both natural_at (list_at 8 natural_at))))))

abbrev pub ends_of : ℕ × (ℕ × ℕ) → Ends
ends_of x = record { sender = x.0; receiver = x.1.0; size = x.1.1 }

unfoldable pub channel_at : Reading Ends
channel_at = made ends_of (both natural_at (both natural_at natural_at))

abbrev pub variable_of : List ℕ × (ℕ × Option ℕ) → VariableNaming
variable_of x = record { name = x.0; at = x.1.0; size = x.1.1 }

unfoldable pub variable_at : Reading VariableNaming
variable_at = made variable_of (both text_at (both natural_at optional_at))

abbrev pub process_names_of : List ℕ × List VariableNaming → ProcessNaming
process_names_of x = record { name = x.0; variables = x.1 }

unfoldable pub process_names_at : Reading ProcessNaming
process_names_at = made process_names_of (both text_at (list_at 24 variable_at))

abbrev pub naming_of : List ProcessNaming × (List (List ℕ) × List (List ℕ)) → Naming
naming_of x = record { processes = x.0; channels = x.1.0; conversations = x.1.1 }

unfoldable pub names_at : Reading Naming
names_at = made naming_of (both (few_at 16 process_names_at) (both (few_at 8 text_at) (few_at 8 text_at)))

abbrev pub group_of : List ℕ × (Option ℕ × ℕ) → Membership × ℕ
group_of x = (record { members = x.0; parent = x.1.0 }, x.1.1)

unfoldable pub group_at : Reading (Membership × ℕ)
group_at = made group_of (both (list_at 8 natural_at) (both optional_at natural_at))

abbrev pub edition_behind : ℕ → Reading Edition
edition_behind zero bytes = None
edition_behind (suc zero) bytes = Some (First, bytes)
edition_behind (suc (suc zero)) bytes = Some (Second, bytes)
edition_behind (suc (suc (suc n))) bytes = None

unfoldable pub edition_at : Reading Edition
edition_at bytes = word_at bytes >>= λ n. edition_behind n.0 n.1

-- the lists of a code before its names
abbrev pub Tables : Type 0
Tables = List Part × (List Block × (List Ends × List (List ℕ)))

unfoldable pub tables_at : Reading Tables
tables_at = both (list_at 32 process_at) (both (list_at 48 block_at) (both (list_at 24 channel_at) (list_at 8 text_at)))

abbrev pub code_of : Edition × (List Instr × (Tables × Naming)) → Code
code_of x = record {
  edition = x.0;
  instrs = x.1.0;
  processes = x.1.1.0.0;
  blocks = x.1.1.0.1.0;
  channels = x.1.1.0.1.1.0;
  texts = x.1.1.0.1.1.1;
  names = x.1.1.1;
}

unfoldable pub code_at : Reading Code
code_at = made code_of (both edition_at (both (list_at 1 instr_at) (both tables_at names_at)))

-- what stands behind the first bytes of an image
unfoldable pub behind_magic : List ℕ → Option (List ℕ)
behind_magic bytes = cond (pointwise nat_eq (take 4 bytes) magic) (Some (drop 4 bytes)) None

-- all of the bytes
unfoldable pub image_at : List ℕ → Option (Code × List (Membership × ℕ))
image_at bytes = do
  rest ← behind_magic bytes
  x ← both code_at (few_at 24 group_at) rest
  cond (nat_eq (length x.1) 0) (Some x.0) None
