-- Which recovery blocks are open behind tokens, and how many alternates a block has.
use Rattle.std.specs.Prelude.{ℕ, suc, ◌-◌, ◌==◌, nat_eq, nat_le, ◌&&◌, cond, List, [], ◌∷◌, ◌++◌, length, take, codes, Option, Some, None, option_map}
use Rattle.std.specs.Option.{is_some}
use Rattle.std.specs.Cmp.Lexicographic.{pointwise}
use Rattle.rb_base.specs.declared.place.Place.{Place}
use Rattle.rb_lex.specs.Tokens.{Lexeme}
use Rattle.rb_why.specs.Open.{last_of}
use Rattle.rb_why.specs.declared.blocks.Block.{Block}

-- the place of a token that names a conversation, which one right behind a `converse` does
abbrev pub named_behind_converse : List ℕ → Lexeme → Option Place
named_behind_converse before token = cond (pointwise nat_eq before (codes "converse")) (Some token.place) None

-- the blocks that are open behind a token: one begins at its `ensure`, right behind the name of its conversation, if it has one, and
-- ends at its `error`
abbrev pub blocks_after : List Block → Option Place → Lexeme → List Block
blocks_after blocks named token =
    cond (pointwise nat_eq token.text (codes "ensure")) (blocks ++ record { begun = token.place; named = named } ∷ [])
    (cond (pointwise nat_eq token.text (codes "error")) (take (length blocks - 1) blocks) blocks)

-- those behind tokens, the outermost first, where these were open before; this conversation is named, and this text stands, before them
abbrev pub blocks_behind : List Block → Option Place → List ℕ → List Lexeme → List Block
blocks_behind blocks named before [] = blocks
blocks_behind blocks named before (token ∷ tokens) =
    blocks_behind (blocks_after blocks named token) (named_behind_converse before token) token.text tokens

abbrev pub blocks_open : List Lexeme → List Block
blocks_open tokens = blocks_behind [] None [] tokens

-- the `ensure` of the innermost block that is no conversation's, or else the place that was found before
abbrev pub innermost_private : List Block → Option Place → Option Place
innermost_private [] found = found
innermost_private (block ∷ blocks) found = innermost_private blocks (cond (is_some block.named) found (Some block.begun))

-- the name of the outermost block that is a conversation's
abbrev pub outermost_named : List Block → Option Place
outermost_named [] = None
outermost_named (block ∷ blocks) = cond (is_some block.named) block.named (outermost_named blocks)

-- the `ensure` of the innermost block of any kind
abbrev pub innermost_begun : List Block → Option Place
innermost_begun blocks = option_map (λ (block : Block). block.begun) (last_of blocks)

-- how many alternates the first block among tokens has, each with its `by`, where so many blocks are open before: those of blocks inside it
-- are not counted
abbrev pub alternates : ℕ → List Lexeme → ℕ
alternates depth [] = 0
alternates depth (token ∷ tokens) =
    cond (pointwise nat_eq token.text (codes "ensure")) (alternates (suc depth) tokens)
    (cond (pointwise nat_eq token.text (codes "error")) (cond (nat_le depth 1) 0 (alternates (depth - 1) tokens))
    (cond (pointwise nat_eq token.text (codes "by") && (depth == 1)) (suc (alternates depth tokens)) (alternates depth tokens)))
