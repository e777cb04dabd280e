-- Programs as images hold them, and as sources are compiled to them.
use Rattle.std.specs.Prelude.{◌≡◌, ℕ, ◌+◌, ◌≤◌, List, [], ◌∷◌, map, unwrap_or}
use Rattle.std.specs.List.{AllByRecursion, AllZip}
use Rattle.rb_base.specs.declared.names.Nested.{Nested}
use Rattle.rb_syntax.specs.Tree.{Tree}
use Rattle.rb_world.specs.Kind.{Membership}
use Rattle.rb_world.specs.Text.{ProcessNaming, VariableNaming, size_of}
use Rattle.rb_meaning.specs.Groups.{groups_of}
use Rattle.rb_meaning.specs.Nesting.{alternates_of}
use Rattle.rb_scope.specs.InFrames.{Resolved}
use Rattle.rb_scope.specs.Resolved.{IsResolved}
use Rattle.rb_scope.specs.declared.slot.Slot.{Slot}
use Rattle.rb_nest.specs.Groups.{alternates, memberships}
use Rattle.rb_code.specs.declared.code.Code.{Code as Held}
use Rattle.rb_code.specs.Instructions.Plain.{Code, Part, code as plain}
use Rattle.rb_code.specs.Instructions.Listing.{listing_text}
use Rattle.rb_code.specs.Agreement.StandsFor.{StandsFor}
use Rattle.rb_code.specs.SoundCode.WellFormed.{IsSound}
use Rattle.rb_image.specs.Laws.{IsImage}

-- the code stands for a tree, of which each name that is used has its slot
pub record IsCodeFor (tree : Tree) (code : Code) : Type 0 where
  pub slots : List Slot
  pub resolved : IsResolved tree slots
  pub frames : Resolved tree slots
  pub stands : StandsFor tree slots code

-- the text lists the code that stands for a tree
pub record ListsCodeOf (tree : Tree) (text : List ℕ) : Type 0 where
  pub listed : Code
  pub made : IsCodeFor tree listed
  pub is : text ≡ listing_text listed

-- how many alternates these conversations have, the first of which has this number, and none where nobody joins one
abbrev pub counts_from : Tree → ℕ → List Membership → List ℕ
counts_from tree d [] = []
counts_from tree d (group ∷ groups) = unwrap_or (alternates_of tree d) 0 ∷ counts_from tree (d + 1) groups

-- the text is the image of the code that stands for a tree, and of the tree's conversations with their numbers of alternates; each of its numbers
-- lies in the range of its field
pub record IsImageOf (tree : Tree) (text : List ℕ) : Type 0 where
  pub compiled : Code
  pub made : IsCodeFor tree compiled
  pub is_image : IsImage text compiled (groups_of tree) (counts_from tree 0 (groups_of tree))

-- what an image holds: a code, its conversations, and how many alternates each of these has
pub record Program : Type 0 where
  pub code : Code
  pub groups : List Membership
  pub counts : List ℕ

-- the program of a code and its conversations in memory
abbrev pub program_of : Held → Nested → Program
program_of held nested = record { code = plain held; groups = memberships nested; counts = alternates nested }

-- the variables that are printed of a process lie within its words
abbrev pub VariablesLie : ProcessNaming → Part → Type 0
VariablesLie naming part =
    AllByRecursion (λ (variable : VariableNaming). variable.at + size_of variable.size ≤ part.words) naming.variables

-- A program may be run: it is sound, and what is printed of each process lies within its words.
pub record MayRun (program : Program) : Type 0 where
  pub sound : IsSound program.code program.groups program.counts
  pub lie : AllZip VariablesLie program.code.names.processes program.code.processes

-- the names that a schedule for a program may give: those of its processes, in their order
abbrev pub names_in : Program → List (List ℕ)
names_in program = map (λ process. process.name) program.code.names.processes
