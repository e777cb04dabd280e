-- Which names are declared around a place, seen from the tokens alone: those before it, and those from it on.
use Rattle.std.specs.Prelude.{ℕ, ◌-◌, nat_eq, Bool, true, false, not, ◌&&◌, ◌||◌, cond, List, [], ◌∷◌, ◌++◌, length, take, codes, Option, Some, None}
use Rattle.std.specs.Option.{is_some}
use Rattle.std.specs.Cmp.Lexicographic.{pointwise}
use Rattle.rb_base.specs.Bytes.{is_name}
use Rattle.rb_base.specs.Reserved.{is_one_of}
use Rattle.rb_lex.specs.Tokens.{Lexeme}
use Rattle.rb_why.specs.Open.{innermost_open, last_of}

-- the words behind which a name is declared in a program, and those in a process
abbrev pub program_words : List (List ℕ)
program_words = codes "process" ∷ codes "channel" ∷ codes "conversation" ∷ []

abbrev pub process_words : List (List ℕ)
process_words = codes "var" ∷ codes "procedure" ∷ []

-- what ends a process
abbrev pub ending_words : List (List ℕ)
ending_words = codes "process" ∷ codes "end" ∷ []

-- the tokens right behind one of these words, up to one of those; this text stands before all of them
abbrev pub named_behind : List (List ℕ) → List (List ℕ) → List ℕ → List Lexeme → List Lexeme
named_behind words ends before [] = []
named_behind words ends before (token ∷ tokens) =
    cond (is_one_of ends token.text) []
    (cond (is_one_of words before) (token ∷ named_behind words ends token.text tokens) (named_behind words ends token.text tokens))

-- whether the head of a procedure is read behind a token: from its word to the `{` of its block
abbrev pub is_head_behind : Bool → List ℕ → Bool
is_head_behind in_head text = cond (pointwise nat_eq text (codes "procedure")) true (in_head && not (pointwise nat_eq text (codes "{")))

-- whether a scope begins at a token: at the `(` of a head, whose names are those of the block too, and at each other `{`
abbrev pub begins_scope : Bool → List ℕ → Bool
begins_scope in_head text = cond in_head (pointwise nat_eq text (codes "(")) (pointwise nat_eq text (codes "{"))

-- whether a token declares a name in a process, behind this text: a variable, a procedure or a parameter
abbrev pub is_declared : Bool → List ℕ → List ℕ → Bool
is_declared in_head before text =
    is_name text && (is_one_of process_words before || (in_head && is_one_of (codes "(" ∷ codes "," ∷ []) before))

-- how many names were declared before each scope that is open, behind a token of this text: one begins there or not
abbrev pub opened_behind : List ℕ → Bool → ℕ → List ℕ → List ℕ
opened_behind opened begins seen text =
    cond (pointwise nat_eq text (codes "}")) (take (length opened - 1) opened) (cond begins (opened ++ seen ∷ []) opened)

-- the names that are left where a scope ends, before which so many were declared
abbrev pub left_behind : List Lexeme → Option ℕ → List Lexeme
left_behind names None = names
left_behind names (Some seen) = take seen names

-- the names that are seen behind a token, the innermost last: it is declared there or not
abbrev pub kept_behind : List Lexeme → Option ℕ → Bool → Lexeme → List Lexeme
kept_behind names seen declares token =
    cond (pointwise nat_eq token.text (codes "}")) (left_behind names seen) (cond declares (names ++ token ∷ []) names)

-- the names that are seen behind tokens, where these were seen before, with so many before each scope that is open, and behind this text
abbrev pub seen_behind : Bool → List ℕ → List ℕ → List Lexeme → List Lexeme → List Lexeme
seen_behind in_head before opened names [] = names
seen_behind in_head before opened names (token ∷ tokens) =
    seen_behind (is_head_behind in_head token.text) token.text (opened_behind opened (begins_scope in_head token.text) (length names) token.text)
    (kept_behind names (last_of opened) (is_declared in_head before token.text) token) tokens

-- the procedures of the process around the place that are declared further down
abbrev pub later_procedures : List Lexeme → List Lexeme → List Lexeme
later_procedures before behind = cond (is_some (innermost_open before)) (named_behind (codes "procedure" ∷ []) ending_words [] behind) []

-- The names that are declared around a place, the innermost last: those of the program, the procedures further down, and those that are seen
-- there. The names of quantified expressions are none of them.
abbrev pub names_around : List Lexeme → List Lexeme → List Lexeme
names_around before behind =
    seen_behind false [] []
    ((named_behind program_words [] [] behind ++ named_behind program_words [] [] before) ++ later_procedures before behind)
    before
