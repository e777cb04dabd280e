-- The names and recovery blocks of a tree are numbered from 0 in the order of the text.
use Rattle.std.proofs.Common.{◌≡◌, ℕ, ◌+◌, List, [], ◌∷◌, length, map, Option, Some, refl, sym, ap, subst, ◌∙◌, arith}
use Rattle.std.proofs.lemmas.List.Sorted.{length_permutation}
use Rattle.std.specs.List.Sorted.{IsPermutation}
use Rattle.rb_lex.specs.Tokens.{Lexeme}
use Rattle.rb_base.specs.declared.edition.Edition.{Edition}
use Rattle.rb_grammar.specs.declared.terminal.Terminal.{Terminal}
use Rattle.rb_grammar.specs.declared.terminal.Terminal.TheVariants as terminals
use Rattle.rb_grammar.specs.Grammar.{Point, Derives, first_edition_row, second_edition_row, program_row}
use Rattle.rb_grammar.specs.Laws.{CountUp, NamesInOrder, NamesAreThose, NamesCountUp, RecoveriesInOrder, RecoveriesCountUp}
use Rattle.rb_grammar.specs.Machine.{names_after, blocks_after, Advances}
use Rattle.rb_grammar.specs.Order.{Telling, Recovery, each, Connection, AChannel, AConversation, connection_told, process_told}
use Rattle.rb_grammar.specs.Order.{names_alone, recoveries_alone, tree_names, token_told, told_from, names_from, recoveries_from}
use Rattle.rb_grammar.specs.Parts.{Part}
use Rattle.rb_grammar.specs.Terminals.{terminal_of}
use Rattle.rb_grammar.specs.Values.{Value}
use Rattle.rb_grammar.proofs.Numbering.Mixed.{mixed_tree}
use Rattle.rb_grammar.proofs.Numbering.Ordered.{told_at, first_told, ordered}
use Rattle.rb_grammar.proofs.Numbering.Travels.{travels}
use Rattle.rb_syntax.specs.Tree.{Identifier, Tree}

-- with no token left nothing is told
at_end : {A : Type 0} (telling : Telling A) (end : Point) → end.left ≡ [] → told_at telling end ≡ []
at_end telling end e = ap (λ left. told_from telling end.names end.blocks left) e

pub names_in_order : NamesInOrder
names_in_order tokens tree d =
    let all = ordered names_alone d.derived in
    record {
      connections = all.all;
      channels = all.are_channels;
      conversations = all.are_conversations;
      is = sym (all.told.is ∙ ap (λ rest. tree.name ∷ each (connection_told names_alone) all.all
          (each (process_told names_alone) tree.processes rest)) (at_end names_alone d.end d.whole));
    }

pub names_are_those : NamesAreThose
names_are_those tokens tree d =
    subst (λ names. IsPermutation (tree_names tree) names) (names_in_order tokens tree d).is
    (mixed_tree tree (names_in_order tokens tree d).connections (names_in_order tokens tree d).channels
    (names_in_order tokens tree d).conversations)

-- no channel or conversation is a recovery block, and no name
pub no_names : (names : List Identifier) (rest : List Recovery) → each recoveries_alone.name names rest ≡ rest
no_names [] rest = refl
no_names (name ∷ names) rest = no_names names rest

no_recoveries : (connections : List Connection) (rest : List Recovery) → each (connection_told recoveries_alone) connections rest ≡ rest
no_recoveries [] rest = refl
no_recoveries (AChannel channel ∷ others) rest = no_recoveries others rest
no_recoveries (AConversation conversation ∷ others) rest = no_names conversation.members
    (each (connection_told recoveries_alone) others rest) ∙ no_recoveries others rest

pub recoveries_in_order : RecoveriesInOrder
recoveries_in_order tokens tree d =
    let all = ordered recoveries_alone d.derived in
    sym (all.told.is
    ∙ ap (λ rest. each (connection_told recoveries_alone) all.all (each (process_told recoveries_alone) tree.processes rest))
    (at_end recoveries_alone d.end d.whole)
    ∙ no_recoveries all.all (each (process_told recoveries_alone) tree.processes []))

-- the names of tokens count up
count_name : (first : Option Terminal) (token : Lexeme) (n m : ℕ) (rest : ℕ → List Identifier) →
    ((k : ℕ) → CountUp k (map (λ name. name.id) (rest k))) →
    CountUp n (map (λ name. name.id) (token_told names_alone first token n m (rest (names_after first n))))
count_name (Some terminals.Name) token n m rest h = (refl, h (n + 1))
count_name _ token n m rest h = h n

names_count : (n m : ℕ) (tokens : List Lexeme) → CountUp n (map (λ name. name.id) (told_from names_alone n m tokens))
names_count n m [] = tt
names_count n m (token ∷ tokens) =
    let later : ℕ = blocks_after (terminal_of token) m in
    count_name (terminal_of token) token n m (λ k. told_from names_alone k later tokens) (λ k. names_count k later tokens)

-- and so do the recovery blocks
count_recovery : (first : Option Terminal) (token : Lexeme) (n m : ℕ) (rest : ℕ → List Recovery) →
    ((k : ℕ) → CountUp k (map (λ recovery. recovery.number) (rest k))) →
    CountUp m (map (λ recovery. recovery.number) (token_told recoveries_alone first token n m (rest (blocks_after first m))))
count_recovery (Some terminals.Ensure) token n m rest h = (refl, h (m + 1))
count_recovery _ token n m rest h = h m

recoveries_count : (n m : ℕ) (tokens : List Lexeme) → CountUp m (map (λ recovery. recovery.number) (told_from recoveries_alone n m tokens))
recoveries_count n m [] = tt
recoveries_count n m (token ∷ tokens) =
    let later : ℕ = names_after (terminal_of token) n in
    count_recovery (terminal_of token) token n m (λ k. told_from recoveries_alone later k tokens) (λ k. recoveries_count later k tokens)

-- how many came before and how many are still to come are as many at each point
abbrev Balanced : Point → Point → Type 0
Balanced a b =
    (a.names + length (told_at names_alone a) ≡ b.names + length (told_at names_alone b))
    × (a.blocks + length (told_at recoveries_alone a) ≡ b.blocks + length (told_at recoveries_alone b))

total_name : (terminal : Terminal) (token : Lexeme) (n m : ℕ) (rest : List Identifier) →
    n + length (token_told names_alone (Some terminal) token n m rest) ≡ names_after (Some terminal) n + length rest
total_name terminals.Name token n m rest = omega arith
total_name _ token n m rest = refl

total_recovery : (terminal : Terminal) (token : Lexeme) (n m : ℕ) (rest : List Recovery) →
    m + length (token_told recoveries_alone (Some terminal) token n m rest) ≡ blocks_after (Some terminal) m + length rest
total_recovery terminals.Ensure token n m rest = omega arith
total_recovery _ token n m rest = refl

token_balanced : (terminal : Terminal) (token : Lexeme) (a b : Point) → Advances terminal token a b → Balanced a b
token_balanced terminal token a b h = (
  ap (λ told. a.names + length told) (first_told names_alone terminal token a b h)
      ∙ total_name terminal token a.names a.blocks (told_at names_alone b)
      ∙ ap (λ n. n + length (told_at names_alone b)) (sym h.names),
  ap (λ told. a.blocks + length told) (first_told recoveries_alone terminal token a b h)
      ∙ total_recovery terminal token a.names a.blocks (told_at recoveries_alone b)
      ∙ ap (λ n. n + length (told_at recoveries_alone b)) (sym h.blocks),
)

balanced : {part : Part} {value : Value part} {a b : Point} → Derives part value a b → Balanced a b
balanced d = travels Balanced (λ a. (refl, refl)) (λ a b c r s. (r.0 ∙ s.0, r.1 ∙ s.1)) token_balanced d

-- a tree tells the numbers of its last point
unmarked_tells : {edition : Edition} {tree : Tree} {a b : Point} → Derives (Part.Unmarked edition) tree a b →
    (tree.names ≡ b.names) × (tree.blocks ≡ b.blocks)
unmarked_tells (program_row t n u d e v w) = (refl, refl)

tells : {tree : Tree} {a b : Point} → Derives Part.Program tree a b → (tree.names ≡ b.names) × (tree.blocks ≡ b.blocks)
tells (first_edition_row d) = unmarked_tells d
tells (second_edition_row t u v d) = unmarked_tells d

pub names_count_up : NamesCountUp
names_count_up tokens tree d =
    let all : 0 + length (names_from 0 tokens) ≡ d.end.names + length (told_at names_alone d.end) = (balanced d.derived).0 in
    let none : length (told_at names_alone d.end) ≡ 0 = ap length (at_end names_alone d.end d.whole) in
    let same : length (tree_names tree) ≡ length (names_from 0 tokens) = sym
    (length_permutation (tree_names tree) (names_from 0 tokens) (names_are_those tokens tree d)) in
    (names_count 0 0 tokens, (tells d.derived).0 ∙ (let e : d.end.names ≡ length (tree_names tree) = omega (arith, all, none, same) in e))

pub recoveries_count_up : RecoveriesCountUp
recoveries_count_up tokens tree d =
    let same = recoveries_in_order tokens tree d in
    let all : 0 + length (recoveries_from 0 tokens) ≡ d.end.blocks + length (told_at recoveries_alone d.end) = (balanced d.derived).1 in
    let none : length (told_at recoveries_alone d.end) ≡ 0 = ap length (at_end recoveries_alone d.end d.whole) in (
      subst (λ recoveries. CountUp 0 (map (λ recovery. recovery.number) recoveries)) (sym same) (recoveries_count 0 0 tokens),
      (tells d.derived).1 ∙ (let e : d.end.blocks ≡ length (recoveries_from 0 tokens) = omega (arith, all, none) in e) ∙ ap length
          (sym same),
    )
