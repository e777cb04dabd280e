-- The fixed words of the sentence about a fault, around what it is about.
use Rattle.std.specs.Prelude.{ℕ, List, [], ◌++◌, codes}
use Rattle.rb_base.specs.declared.fault.FaultName.{FaultName}
use Rattle.rb_base.specs.declared.fault.FaultName.TheVariants.{X1, X2, X3, X4, X5, Y1, Y2, S1, S2, S3, S4, S5, S6, S7, S8, S9, S10, S11, N1, N2, N3, N4, N5, N6, N7, N8, N9, N10, N11, N12, N13, T1, T2, T3, T4, V1, V2, V3, V4, B1, B2, B3, H1, H2, H3, H4, H5, I1, I2}

-- the words before what a sentence is about
abbrev pub front_words : FaultName → List ℕ
front_words X1 = codes "no token, blank, comment or text has the byte "
front_words X2 = codes "this text has no closing quote on its line"
front_words X3 = codes "this number is above 9,223,372,036,854,775,807, which is the largest"
front_words X4 = codes "this text has more than 256 bytes between its quotes"
front_words X5 = codes "this name has more than 64 bytes"
front_words Y1 = codes "`"
front_words Y2 = codes "`"
front_words S1 = codes "no scope around this place declares `"
front_words S2 = codes "`"
front_words S3 = codes "`"
front_words S4 = codes "this call of `"
front_words S5 = codes "`"
front_words S6 = codes "`"
front_words S7 = codes "`"
front_words S8 = codes "`"
front_words S9 = codes "`"
front_words S10 = codes "with `"
front_words S11 = codes "`"
front_words N1 = codes "the `converse` for `"
front_words N2 = codes "this process is no member of `"
front_words N3 = codes "`"
front_words N4 = codes "`"
front_words N5 = codes "this `converse` for `"
front_words N6 = codes "`"
front_words N7 = codes "this process has a second `converse` for `"
front_words N8 = codes "a message goes over `"
front_words N9 = codes "this process is not at this end of `"
front_words N10 = codes "`"
front_words N11 = codes "a conversation has two or more members, each named once, and at `"
front_words N12 = codes "both ends of this channel are `"
front_words N13 = codes "`"
front_words T1 = codes "a line of a schedule is a process or `all`, and a count"
front_words T2 = codes "`"
front_words T3 = codes "`"
front_words T4 = codes "with this line the turns are more than 1,000,000"
front_words V1 = codes "a line of a record is a turn, a process and, at a start, an alternate, each number from 1 to 1,000,000"
front_words V2 = codes "`"
front_words V3 = codes "turn `"
front_words V4 = codes "this turn cannot be taken"
front_words B1 = codes "a line of a session is `step N`, `back N` or `show P`, with N from 1 to 1,000,000"
front_words B2 = codes "`"
front_words B3 = codes "this goes past the last turn of the schedule, or back past the first"
front_words H1 = codes "a line of a history is `process P`, `point P`, `send M P Q`, `take M` or `fail P`, with names of at most 64 bytes"
front_words H2 = codes "this line names a process that no line before it declares"
front_words H3 = codes "this line declares a process or sends a message under a name that was used before"
front_words H4 = codes "this line takes a message that was not sent before, or was taken already"
front_words H5 = codes "a history ends with its one line `fail P`"
front_words I1 = codes "the bytes are no image: they end too early or too late, or a number is out of its range"
front_words I2 = codes "the image is not sound: its code may do what no compiled source does"

-- the words behind it
abbrev pub back_words : FaultName → List ℕ
back_words X1 = codes " here"
back_words X2 = []
back_words X3 = []
back_words X4 = []
back_words X5 = []
back_words Y1 = codes "` cannot stand here"
back_words Y2 = codes "` would be the 101st bracket that is open here, and 100 are the most"
back_words S1 = codes "`"
back_words S2 = codes "` is declared a second time in this scope"
back_words S3 = codes "` is of another kind than this place wants"
back_words S4 = codes "` has another number of arguments than the procedure has parameters"
back_words S5 = codes "` stands outside an acceptance test"
back_words S6 = codes "` is no size of an array, which has 1 to 1,024 elements"
back_words S7 = codes "` is one more than a list of this kind may have"
back_words S8 = codes "` is no size of a channel, which holds 1 to 65,536 messages"
back_words S9 = codes "` is no turn bound, which is from 1 to 1,000,000"
back_words S10 = codes "` the variables of this process are more numbers than it may have: 2,048, in edition 2 4,096"
back_words S11 = codes "` stands within two other quantified expressions"
back_words N1 = codes "` stands inside an `ensure` or in a procedure"
back_words N2 = codes "`"
back_words N3 = codes "` stands inside a conversation that lacks one of its members"
back_words N4 = codes "` stands inside another conversation here than at its first `converse`"
back_words N5 = codes "` has another number of alternates than the first one"
back_words N6 = codes "` is a member of this conversation and has no `converse` for it"
back_words N7 = codes "`"
back_words N8 = codes "` in a procedure, and only the text of a process sends and receives"
back_words N9 = codes "`"
back_words N10 = codes "` has an end that is no member of the conversation around this place"
back_words N11 = codes "` that does not hold"
back_words N12 = codes "`"
back_words N13 = codes "` stands inside eight other conversations"
back_words T1 = []
back_words T2 = codes "` is no process of this program"
back_words T3 = codes "` is no count, which is from 1 to 1,000,000"
back_words T4 = []
back_words V1 = []
back_words V2 = codes "` is no process of this program"
back_words V3 = codes "` is not above that of the line before"
back_words V4 = []
back_words B1 = []
back_words B2 = codes "` is no process of this program"
back_words B3 = []
back_words H1 = []
back_words H2 = []
back_words H3 = []
back_words H4 = []
back_words H5 = []
back_words I1 = []
back_words I2 = []

-- the sentence about a fault, with what it is about
abbrev pub sentence : FaultName → List ℕ → List ℕ
sentence name subject = front_words name ++ (subject ++ back_words name)

-- the sentence about a file that is too long
abbrev pub long_words : List ℕ
long_words = codes "this file is too long: a text may have 1,048,576 bytes, and an image 16,777,216"
