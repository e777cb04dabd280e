-- The other place that a fault is about.
use Rattle.std.specs.Prelude.{ℕ, cond, List, [], ◌∷◌, codes, Option, Some, None, option_map}
use Rattle.rb_base.specs.Reserved.{is_one_of}
use Rattle.rb_base.specs.declared.fault.FaultName.{FaultName}
use Rattle.rb_base.specs.declared.fault.FaultName.TheVariants.{S2, S3, S4, S5, N1, N2, N3, N4, N5, N6, N7, N8, N9, N10, N11, N12, N13}
use Rattle.rb_base.specs.declared.place.Place.{Place}
use Rattle.rb_lex.specs.TokenList.{tokens_of}
use Rattle.rb_lex.specs.Tokens.{Lexeme}
use Rattle.rb_why.specs.Blocks.{blocks_open, innermost_begun, innermost_private, outermost_named}
use Rattle.rb_why.specs.Converses.{first_converse}
use Rattle.rb_why.specs.Named.{declaration, last_named, note_of, place_named}
use Rattle.rb_why.specs.Open.{last_of}
use Rattle.rb_why.specs.Scope.{named_behind}
use Rattle.rb_why.specs.declared.seconds.Second.{Second}
use Rattle.rb_why.specs.declared.seconds.Second.TheVariants as seconds

-- what the other place is that a fault is about
abbrev pub second_of : FaultName → Second
second_of S2 = seconds.Declaration
second_of S3 = seconds.Declaration
second_of S4 = seconds.Declaration
second_of S5 = seconds.Test
second_of N1 = seconds.Enclosing
second_of N2 = seconds.Declaration
second_of N3 = seconds.Declaration
second_of N4 = seconds.First
second_of N5 = seconds.First
second_of N6 = seconds.Declaration
second_of N7 = seconds.First
second_of N8 = seconds.Declaration
second_of N9 = seconds.Declaration
second_of N10 = seconds.Declaration
second_of N11 = seconds.Naming
second_of N12 = seconds.Naming
second_of N13 = seconds.Outermost
second_of name = seconds.Nothing

-- the words that begin a declaration in which processes are named
abbrev pub naming_words : List (List ℕ)
naming_words = codes "channel" ∷ codes "conversation" ∷ []

-- the tokens behind the last one of these words, or else those that were found before
abbrev pub behind_last : List (List ℕ) → List Lexeme → List Lexeme → List Lexeme
behind_last words [] found = found
behind_last words (token ∷ tokens) found = behind_last words tokens (cond (is_one_of words token.text) tokens found)

-- where a process is named before, in the declaration that is read behind these tokens
abbrev pub named_before : List ℕ → List Lexeme → Option Place
named_before name before = last_named name (behind_last naming_words before []) None

-- the name of the last procedure before a place
abbrev pub last_procedure : List Lexeme → Option Place
last_procedure before = option_map (λ (token : Lexeme). token.place) (last_of (named_behind (codes "procedure" ∷ []) [] [] before))

-- what a `converse` stands in that may not: an `ensure` of no conversation, or else the last procedure before it
abbrev pub enclosing : List ℕ → Option Place → List Lexeme → List ℕ
enclosing source None before = note_of source (last_procedure before) (codes "it stands in this procedure")
enclosing source (Some place) before = note_of source (Some place) (codes "it stands inside this `ensure`")

-- that place behind these tokens, where this stands at the place of the fault
abbrev pub second_told : Second → List ℕ → List ℕ → List Lexeme → List ℕ
second_told seconds.Declaration source here before = note_of source (declaration source here before) (codes "it is declared here")
second_told seconds.First source here before =
    note_of source (place_named (tokens_of source) (first_converse (tokens_of source) here)) (codes "the first `converse` for it stands here")
second_told seconds.Enclosing source here before = enclosing source (innermost_private (blocks_open before) None) before
second_told seconds.Outermost source here before =
    note_of source (outermost_named (blocks_open before)) (codes "the outermost of them stands here")
second_told seconds.Test source here before =
    note_of source (innermost_begun (blocks_open before)) (codes "the test of the block around it begins here")
second_told seconds.Naming source here before = note_of source (named_before here before) (codes "it is named here before")
second_told seconds.Nothing source here before = []

abbrev pub second_place : List ℕ → FaultName → List ℕ → List Lexeme → List ℕ
second_place source name here before = second_told (second_of name) source here before
