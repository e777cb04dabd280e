-- What a command makes of the texts that it has read: its one text, a refusal, or the wish for its next file. All of it is this project's own.
use Rattle.std.specs.Prelude.{◌≡◌, ℕ, ◌<◌, ◌≤◌, List, [], ◌∷◌, ◌++◌, length, codes, decimal, Option, Some, None}
use Rattle.rb_base.specs.declared.fault.SourceFault.{SourceFault}
use Rattle.rb_base.specs.declared.fault.TextFault.{TextFault}
use Rattle.rb_base.specs.Words.{fault_word}
use Rattle.rb_hall.specs.declared.fault.Fault.{Fault}
use Rattle.rb_hall.specs.declared.fault.Fault.TheVariants as of

-- a file that a command reads: its name, and how many bytes it may have at most
pub record Wants : Type 0 where
  pub name : List ℕ
  pub most : ℕ

-- what a command makes of what it has read: it reads its next file, or it ends, refused for a fault, or with its text
pub data Judgement : Type 0 where
  ReadsOn : Judgement
  RefusedWith : (fault : Fault) → Judgement
  Writes : (text : List ℕ) → Judgement

-- a way to judge the texts that were read
abbrev pub Judging : Type 1
Judging = List (List ℕ) → Judgement → Type 0

-- what is known of a fault for which the last of the texts that were read is refused
abbrev pub Explaining : Type 0 → Type 1
Explaining W = List (List ℕ) → Fault → W → Type 0

-- What is known of a fault: nothing of a text that is too long, which the driver finds; else what the command says.
abbrev pub Explained : {W : Type 0} → Explaining W → List (List ℕ) → Fault → Option W → Type 0
Explained explains texts fault None = fault ≡ of.Long
Explained explains texts fault (Some why) = explains texts fault why

-- the line for a fault of the source: its name and its place
abbrev pub source_line : SourceFault → List ℕ
source_line fault =
    codes "refused "
    ++ (fault_word fault.name ++ (codes " at " ++ (decimal fault.place.line ++ (codes ":" ++ (decimal fault.place.column ++ codes "\n")))))

-- the line for a fault of another text: its name and the number of the line that has it
abbrev pub text_line : TextFault → List ℕ
text_line fault = codes "refused " ++ (fault_word fault.name ++ (codes " at " ++ (decimal fault.at ++ codes "\n")))

-- the line for a record whose plain run is stuck: the turn at which it is
abbrev pub stuck_line : ℕ → List ℕ
stuck_line turn = codes "refused V4 at " ++ (decimal turn ++ codes "\n")

-- the line where words ask for an outcome of a number that the program has not
abbrev pub missing_line : ℕ → List ℕ
missing_line number = codes "no outcome " ++ (decimal number ++ codes "\n")

-- the line that a refusal for this fault is told with
abbrev pub line_of : Fault → List ℕ
line_of (of.Source fault) = source_line fault
line_of (of.Text fault) = text_line fault
line_of (of.Stuck turn) = stuck_line turn
line_of of.NoImage = codes "refused I1\n"
line_of of.Unsound = codes "refused I2\n"
line_of of.Long = codes "refused L0\n"
line_of (of.NoOutcome number) = missing_line number

-- These texts were read of these files, each no longer than its file may be, and these files are left.
pub data AreShort (wanted : List Wants) : List (List ℕ) → List Wants → Type 0 where
  none_yet : AreShort wanted [] wanted
  one_short : (texts : List (List ℕ)) (next : Wants) (rest : List Wants) (text : List ℕ) → AreShort wanted texts (next ∷ rest)
      → length text ≤ next.most → AreShort wanted (texts ++ text ∷ []) rest

-- Who judges so keeps its files' limits: a text above its limit is refused for that, before anything else is said of it.
pub data Limited (judges : List (List ℕ) → Judgement → Type 0) (wanted : List Wants) : List (List ℕ) → Judgement → Type 0 where
  as_judged : (texts : List (List ℕ)) (rest : List Wants) (judgement : Judgement) → AreShort wanted texts rest → judges texts judgement
      → Limited judges wanted texts judgement
  too_long : (texts : List (List ℕ)) (next : Wants) (rest : List Wants) (text : List ℕ) → AreShort wanted texts (next ∷ rest)
      → judges texts ReadsOn → next.most < length text → Limited judges wanted (texts ++ text ∷ []) (RefusedWith of.Long)

-- The judgement with which whoever makes so of texts ends: these texts were read already, and these are those of the files after them.
pub data EndsBy (judges : List (List ℕ) → Judgement → Type 0) : List (List ℕ) → List (List ℕ) → Judgement → Type 0 where
  refused_here : (read rest : List (List ℕ)) (fault : Fault) → judges read (RefusedWith fault) → EndsBy judges read rest (RefusedWith fault)
  written_here : (read rest : List (List ℕ)) (text : List ℕ) → judges read (Writes text) → EndsBy judges read rest (Writes text)
  later : (read : List (List ℕ)) (next : List ℕ) (rest : List (List ℕ)) (judgement : Judgement) → judges read ReadsOn →
      EndsBy judges (read ++ next ∷ []) rest judgement → EndsBy judges read (next ∷ rest) judgement
