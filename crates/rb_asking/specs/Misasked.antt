-- What was wrong with words that ask for nothing; or how the commands are used, or the version, where the words ask for that.
use Rattle.std.specs.Prelude.{ℕ, ◌+◌, ◌==◌, nat_eq, nat_lt, Bool, false, not, cond, List, [], ◌∷◌, length, drop, map, codes, Option, Some, None}
use Rattle.std.specs.List.{concat, find, flat_map}
use Rattle.std.specs.Cmp.Lexicographic.{pointwise}
use Rattle.rb_near.specs.Nearest.{nearest}
use Rattle.rb_words.specs.Plain.{is_plain_word}
use Rattle.rb_asking.specs.Guides.{Guide}
use Rattle.rb_asking.specs.Leading.{is_help, is_help_alone, is_version}

-- ---- a command and its words

-- a word behind a name
unfoldable pub spaced : List ℕ → List ℕ
spaced word = concat (codes " " ∷ word ∷ [])

-- one that may be left out
unfoldable pub spaced_last : Option (List ℕ) → List ℕ
spaced_last None = []
spaced_last (Some word) = concat (codes " [" ∷ word ∷ codes "]" ∷ [])

-- a command with its words
unfoldable pub usage : Guide → List ℕ
usage guide = concat (codes "  " ∷ guide.name ∷ flat_map spaced guide.takes ∷ spaced_last guide.last ∷ [])

-- a line for a command
unfoldable pub usage_row : Guide → List ℕ
usage_row guide = concat (usage guide ∷ codes "\n" ∷ [])

-- a command with what it does, and an example
unfoldable pub help_rows : Guide → List ℕ
help_rows guide = concat (usage guide ∷ codes ": " ∷ guide.does ∷ codes "\n      " ∷ guide.example ∷ codes "\n" ∷ [])

-- ---- lists

-- what stands between a word and those behind it
unfoldable pub between : List (List ℕ) → List ℕ
between [] = []
between (last ∷ []) = codes " and "
between (word ∷ another ∷ more) = codes ", "

-- words, as a sentence has them
unfoldable pub listed : List (List ℕ) → List ℕ
listed [] = []
listed (word ∷ more) = concat (word ∷ between more ∷ listed more ∷ [])

-- and a word that may be left out
unfoldable pub perhaps : Option (List ℕ) → List ℕ
perhaps None = []
perhaps (Some word) = concat (codes " and perhaps " ∷ word ∷ [])

-- ---- what was wrong

-- no word
unfoldable pub command_missing : List Guide → List ℕ → List ℕ
command_missing guides program = concat (program ∷ codes ": a command is missing\n" ∷ flat_map usage_row guides ∷ [])

-- a word that is empty or begins with `-`
unfoldable pub no_word : List ℕ → List ℕ → List ℕ
no_word program word = concat (program ∷ codes ": `" ∷ word ∷ codes "` is no word for a command\n" ∷ [])

-- the name that was meant, if it is known
unfoldable pub meant : Option (List ℕ) → List ℕ
meant None = []
meant (Some name) = concat (codes "; did you mean `" ∷ name ∷ codes "`?" ∷ [])

-- a name of nothing, where these are the names of all things of a kind
unfoldable pub misnamed_text : List ℕ → List ℕ → List (List ℕ) → List ℕ → List ℕ
misnamed_text kind program names name =
    concat (program ∷ codes ": there is no " ∷ kind ∷ codes " `" ∷ name ∷ codes "`" ∷ meant (nearest name names) ∷ codes "\n" ∷ [])

-- a first word that is no command
unfoldable pub no_command : List Guide → List ℕ → List ℕ → List ℕ
no_command guides program name =
    cond (is_plain_word name)
    (concat (misnamed_text (codes "command") program (map (λ guide. guide.name) guides) name ∷ flat_map usage_row guides ∷ []))
    (no_word program name)

-- the words that it takes, if any, and one that may be left out
unfoldable pub taken : List (List ℕ) → Option (List ℕ) → List ℕ
taken [] None = codes "nothing"
taken [] (Some word) = concat (word ∷ codes " or nothing" ∷ [])
taken (first ∷ more) last = concat (listed (first ∷ more) ∷ perhaps last ∷ [])

-- what a command takes
unfoldable pub takes_words : List ℕ → Guide → List ℕ
takes_words program guide = concat (program ∷ codes ": `" ∷ guide.name ∷ codes "` takes " ∷ taken guide.takes guide.last ∷ [])

-- that it has too few words, of which these are missing
unfoldable pub too_few : List ℕ → Guide → List (List ℕ) → List ℕ
too_few program guide missing =
    concat (takes_words program guide ∷ codes "; " ∷ listed missing
    ∷ cond (length missing == 1) (codes " is missing\n") (codes " are missing\n") ∷ [])

-- that it has too many
unfoldable pub too_many : List ℕ → Guide → List ℕ
too_many program guide = concat (takes_words program guide ∷ codes ", and no more\n" ∷ [])

-- that its number is none
unfoldable pub no_number : List ℕ → Guide → List ℕ
no_number program guide = concat (program ∷ codes ": `" ∷ guide.name ∷ codes "` takes a NUMBER of at most twenty digits and 64 bits\n" ∷ [])

-- how many words may be left out
abbrev pub last_count : Option (List ℕ) → ℕ
last_count None = 0
last_count (Some word) = 1

-- a command with so many words behind it that are plain: too few, too many, or as many as it takes, and then its number is at fault
abbrev pub miscounted : List ℕ → Guide → ℕ → List ℕ
miscounted program guide count =
    cond (nat_lt count (length guide.takes)) (too_few program guide (drop count guide.takes))
    (cond (nat_lt (length guide.takes + last_count guide.last) count) (too_many program guide) (no_number program guide))

-- a command with words behind it, of which this is the first that is not plain
abbrev pub misused : List ℕ → Guide → List (List ℕ) → Option (List ℕ) → List ℕ
misused program guide words (Some word) = no_word program word
misused program guide words None = miscounted program guide (length words)

-- ---- help and the version

-- the command of a name
abbrev pub guide_named : List Guide → List ℕ → Option Guide
guide_named guides name = find (λ guide. pointwise nat_eq guide.name name) guides

-- help for a command that is named
abbrev pub help_of : List Guide → List ℕ → List ℕ → Option Guide → List ℕ
help_of guides program name None = no_command guides program name
help_of guides program name (Some guide) = help_rows guide

-- help for all commands, or for the one that is named
abbrev pub help_text : List Guide → List ℕ → Option (List ℕ) → List ℕ
help_text guides program None = flat_map help_rows guides
help_text guides program (Some name) = help_of guides program name (guide_named guides name)

-- the version of a program
unfoldable pub version_text : List ℕ → List ℕ
version_text program =
    concat (program ∷ codes " 1.0.0, of rattle-kit-13f: each function is proved to meet its contract, where rt built it "
    ∷ codes "(a program that was compiled without proofs says `not proved` beside this line)\n" ∷ [])

-- ---- all of it

-- a word for help, with the words behind it, of which the first may name a command
abbrev pub asked_help : List Guide → List ℕ → List (List ℕ) → List ℕ
asked_help guides program [] = help_text guides program None
asked_help guides program (name ∷ words) = help_text guides program (Some name)

-- a word for the version that has nothing behind it
abbrev pub is_version_alone : List ℕ → List (List ℕ) → Bool
is_version_alone first [] = is_version first
is_version_alone first (word ∷ words) = false

-- a first word that asks for neither, with the command of that name, and the words behind it
abbrev pub command_text : List Guide → List ℕ → List ℕ → List (List ℕ) → Option Guide → List ℕ
command_text guides program name words None = no_command guides program name
command_text guides program name words (Some guide) = misused program guide words (find (λ word. not (is_plain_word word)) words)

-- what is told of words that ask a program with these commands for nothing
abbrev pub misasked_text : List Guide → List ℕ → List (List ℕ) → List ℕ
misasked_text guides program [] = command_missing guides program
misasked_text guides program (first ∷ words) =
    cond (is_help first) (asked_help guides program words)
    (cond (is_help_alone words) (help_text guides program (Some first))
    (cond (is_version_alone first words) (version_text program) (command_text guides program first words (guide_named guides first))))
