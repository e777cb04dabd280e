-- Worked histories: what is written of each, or its first fault.
use Rattle.std.specs.Prelude.{◌≡◌, ℕ, List, codes, Result, Ok, Err}
use Rattle.rb_base.specs.declared.fault.TextFault.{TextFault}
use Rattle.rb_base.specs.declared.fault.FaultName.{FaultName}
use Rattle.rb_base.specs.declared.fault.FaultName.TheVariants.{H1, H2, H3, H4, H5}
use Rattle.rb_domino.specs.History.{Story, history_of}
use Rattle.rb_domino.specs.Recovery.{outcome_of}
use Rattle.rb_domino.specs.Written.{outcome_text}

-- what is written of a history that was read
abbrev pub told : Result Story TextFault → Result (List ℕ) TextFault
told (Ok story) = Ok (outcome_text story (outcome_of story))
told (Err fault) = Err fault

-- what is written of this text
abbrev pub Tells : List ℕ → List ℕ → Type 0
Tells text written = told (history_of text) ≡ Ok written

-- this text has its first fault on this line
abbrev pub IsAtFault : List ℕ → FaultName → ℕ → Type 0
IsAtFault text name at = told (history_of text) ≡ Err (record { name = name; at = at })

-- each drop makes the next message break the line
abbrev pub Domino : Type 0
Domino =
    Tells (codes "process p\nprocess q\nsend a p q\ntake a\npoint q\nsend b q p\ntake b\npoint p\nsend c p q\ntake c\nfail p\n")
    (codes "drop p now by fail\ndrop q now by c\ndrop p 1 by b\ndrop q 1 by a\nline p 0\nline q 0\n")

-- without the last message one process alone goes back
abbrev pub WithoutLastMessage : Type 0
WithoutLastMessage =
    Tells (codes "process p\nprocess q\nsend a p q\ntake a\npoint q\nsend b q p\ntake b\npoint p\nfail p\n")
    (codes "drop p now by fail\nline p 1\nline q now\n")

-- three processes go back to where they began
abbrev pub Uncontrolled : Type 0
Uncontrolled =
    Tells (codes "process p\nprocess q\nprocess r\nsend a p q\ntake a\npoint q\nsend b q r\ntake b\npoint r\nsend c r p\ntake c\npoint p\nsend d p q\ntake d\nfail p")
    (codes "drop p now by fail\ndrop q now by d\ndrop r now by b\ndrop r 1 by b\ndrop p 1 by c\ndrop q 1 by a\nline p 0\nline q 0\nline r 0\n")

-- a message that was sent before the line and taken after it is given again by its channel
abbrev pub GivenAgain : Type 0
GivenAgain =
    Tells (codes "process p\nprocess q\nsend a p q\npoint p\npoint q\ntake a\nfail q\n")
    (codes "drop q now by fail\nline p now\nline q 1\n")

-- a message to the process that failed, which never took it
abbrev pub ToTheFailed : Type 0
ToTheFailed =
    Tells (codes "process p\nprocess q\npoint q\nsend a p q\nfail q\n")
    (codes "drop q now by fail\nline p now\nline q 1\n")

-- a recovery point right behind a `take` is given up with it
abbrev pub PointBehindTake : Type 0
PointBehindTake =
    Tells (codes "process p\nprocess q\nsend a p q\ntake a\npoint q\nfail p\n")
    (codes "drop p now by fail\ndrop q now by a\ndrop q 1 by a\nline p 0\nline q 0\n")

-- a process without messages stays where it is
abbrev pub WithoutMessages : Type 0
WithoutMessages =
    Tells (codes "process p\nprocess q\nprocess r\nsend a p q\ntake a\npoint r\nfail p\n")
    (codes "drop p now by fail\ndrop q now by a\nline p 0\nline q 0\nline r now\n")

abbrev pub Alone : Type 0
Alone =
    Tells (codes "process p\npoint p # its first\n\n\tpoint  p\r\nfail p#at last\r")
    (codes "drop p now by fail\nline p 2\n")

abbrev pub FailsAtOnce : Type 0
FailsAtOnce =
    Tells (codes "process p\nprocess q\nfail p\n\n # nothing follows\n")
    (codes "drop p now by fail\nline p 0\nline q now\n")

-- The first message that breaks the line is the first by the order of the `take` lines, not of the `send` lines: b forces q back
-- before a does.
abbrev pub ByTheirTakes : Type 0
ByTheirTakes =
    Tells (codes "process p\nprocess q\nsend a p q\nsend b p q\ntake b\npoint q\ntake a\nfail p\n")
    (codes "drop p now by fail\ndrop q now by b\ndrop q 1 by b\nline p 0\nline q 0\n")

-- a message to oneself never breaks a line
abbrev pub ToOneself : Type 0
ToOneself =
    Tells (codes "process p\nsend a p p\ntake a\npoint p\nfail p\n")
    (codes "drop p now by fail\nline p 1\n")

-- no form of a line
abbrev pub UnknownWord : Type 0
UnknownWord = IsAtFault (codes "process p\npoints p\nfail p\n") H1 2

-- a CR that ends no line
abbrev pub StrayReturn : Type 0
StrayReturn = IsAtFault (codes "process p\nfail p\r#\n") H1 2

abbrev pub LongName : Type 0
LongName = IsAtFault (codes "process aaaaaaaaaabbbbbbbbbbccccccccccddddddddddeeeeeeeeeeffffffffffggggg\n") H1 1

abbrev pub UnknownProcess : Type 0
UnknownProcess = IsAtFault (codes "process p\nsend a p q\nprocess q\nfail p\n") H2 2

-- of two faults of one line the least counts
abbrev pub LeastOfLine : Type 0
LeastOfLine = IsAtFault (codes "process p\nsend a p p\nsend a p q\nfail p\n") H2 3

abbrev pub TwoOfOneName : Type 0
TwoOfOneName = IsAtFault (codes "process p\nsend p p p\nsend p p p\nfail p\n") H3 3

abbrev pub TakenByNobody : Type 0
TakenByNobody = IsAtFault (codes "process p\ntake a\nsend a p p\nfail p\n") H4 2

abbrev pub TakenTwice : Type 0
TakenTwice = IsAtFault (codes "process p\nsend a p p\ntake a\ntake a\nfail p\n") H4 4

abbrev pub BehindFailure : Type 0
BehindFailure = IsAtFault (codes "process p\nfail p\n# a comment\npoint p\n") H5 4

-- a line behind the failure that has a fault of its own
abbrev pub FaultBehindFailure : Type 0
FaultBehindFailure = IsAtFault (codes "process p\nfail p\nfail q\n") H2 3

abbrev pub NoFailure : Type 0
NoFailure = IsAtFault (codes "process p\npoint p\n") H5 3

abbrev pub EmptyText : Type 0
EmptyText = IsAtFault (codes "") H5 1
