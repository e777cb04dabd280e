-- How the machine runs: one step for each form of plan.
use Rattle.std.proofs.Common.{◌≡◌, ℕ, true, false, cond, List, [], ◌∷◌, Option, Some, None, refl, sym, ap, ◌∙◌}
use Rattle.std.specs.Option.{is_some}
use denote.Enum.Bare.{true_same}
use Rattle.rb_lex.specs.Tokens.{Lexeme}
use Rattle.rb_grammar.specs.contracts.terminal.Terminal.{the_type}
use Rattle.rb_base.specs.declared.edition.Edition.TheVariants as editions
use Rattle.rb_grammar.specs.declared.level.Level.TheVariants as levels
use Rattle.rb_grammar.specs.declared.terminal.Terminal.{Terminal}
use Rattle.rb_grammar.specs.Grammar.{Point}
use Rattle.rb_grammar.specs.Machine.{Outcome, Accepted, Refused, fits, names_after, blocks_after, called, finish, step, onward, read, run, look, first_of, seen_at, Advances}
use Rattle.rb_grammar.specs.Parts.{Part}
use Rattle.rb_grammar.specs.Plans.{Value, Seen, Plan, Done, Token, Call, bind}
use Rattle.rb_grammar.specs.Table.{Start, begin, start, empty}
use Rattle.rb_grammar.specs.Terminals.{terminal_of}
use Rattle.rb_syntax.specs.Tree.{Tree}

pub bind-assoc : {A B C : Type 0} (p : Plan A) (f : A → Plan B) (g : B → Plan C) → bind (bind p f) g ≡ bind p (λ v. bind (f v) g)
bind-assoc (Done v) f g = refl
bind-assoc (Token terminal h) f g = λ j. Token terminal (λ seen. bind-assoc (h seen) f g j)
bind-assoc (Call part h) f g = λ j. Call part (λ v. bind-assoc (h v) f g j)

-- a token is taken where it is wanted
token_step : (token : Lexeme) (others : List Lexeme) (names blocks : ℕ) (terminal : Terminal) (f : Seen → Plan Tree) →
    terminal_of token ≡ Some terminal → read (token ∷ others) names blocks (Token terminal f) ≡ read others
    (names_after (Some terminal) names) (blocks_after (Some terminal) blocks)
    (f (record { token = token; names = names; blocks = blocks }))
unfolding read step
token_step token others names blocks terminal f e =
    let seen : Seen = record { token = token; names = names; blocks = blocks } in
    let after : Option Terminal → Plan Tree → Outcome = λ first later. read others (names_after first names) (blocks_after first blocks) later in
    ap (λ first. onward (step first seen (Token terminal f)) (after first) (Refused (token ∷ others))) e
    ∙ ap (λ b. onward (cond b (Some (f seen)) None) (after (Some terminal)) (Refused (token ∷ others))) (true_same the_type terminal terminal refl)

pub run_token : (terminal : Terminal) (token : Lexeme) (a b : Point) → Advances terminal token a b → (f : Seen → Plan Tree) →
    run (Token terminal f) a ≡ run (f (record { token = token; names = a.names; blocks = a.blocks })) b
run_token terminal token a b h f =
    let seen : Seen = record { token = token; names = a.names; blocks = a.blocks } in
    ap (λ left. read left a.names a.blocks (Token terminal f)) h.stands
    ∙ token_step token b.left a.names a.blocks terminal f h.is
    ∙ ap (λ n. read b.left n (blocks_after (Some terminal) a.blocks) (f seen)) (sym h.names)
    ∙ ap (λ n. read b.left b.names n (f seen)) (sym h.blocks)

-- what is wanted does not stand first
pub run_misses : (terminal : Terminal) (left : List Lexeme) (names blocks : ℕ) → fits (look left) terminal ≡ false →
    (f : Seen → Plan Tree) → read left names blocks (Token terminal f) ≡ Refused left
unfolding read step finish
run_misses terminal [] names blocks e f = refl
run_misses terminal (token ∷ others) names blocks e f =
    ap (λ b. onward (cond b (Some (f (record { token = token; names = names; blocks = blocks }))) None)
    (λ later. read others (names_after (terminal_of token) names) (blocks_after (terminal_of token) blocks) later)
    (Refused (token ∷ others))) e

no_start : (part : Part) → start part None ≡ None
no_start Part.Program = refl
no_start (Part.Unmarked edition) = refl
no_start Part.Connections = refl
no_start Part.Channel = refl
no_start Part.Conversation = refl
no_start Part.Names = refl
no_start Part.MoreNames = refl
no_start (Part.Process edition) = refl
no_start (Part.Processes edition) = refl
no_start (Part.MoreProcesses edition) = refl
no_start (Part.Procedures edition) = refl
no_start (Part.Procedure edition) = refl
no_start Part.Parameters = refl
no_start Part.Declarations = refl
no_start Part.Declaration = refl
no_start Part.Size = refl
no_start (Part.Block edition) = refl
no_start (Part.Statements edition) = refl
no_start (Part.Statement edition) = refl
no_start (Part.OptionalElse edition) = refl
no_start (Part.ReceiptEnd editions.First) = refl
no_start (Part.ReceiptEnd editions.Second) = refl
no_start (Part.Recovery edition) = refl
no_start (Part.Alternates edition) = refl
no_start (Part.Alternate edition) = refl
no_start (Part.OtherAlternates edition) = refl
no_start Part.Items = refl
no_start Part.MoreItems = refl
no_start Part.Item = refl
no_start Part.Arguments = refl
no_start Part.Expressions = refl
no_start Part.MoreExpressions = refl
no_start Part.Expression = refl
no_start (Part.Chain levels.Disjunction) = refl
no_start (Part.Chain levels.Conjunction) = refl
no_start (Part.Chain levels.Sum) = refl
no_start (Part.Chain levels.Product) = refl
no_start (Part.Links level) = refl
no_start (Part.Operand levels.Disjunction) = refl
no_start (Part.Operand levels.Conjunction) = refl
no_start (Part.Operand levels.Sum) = refl
no_start (Part.Operand levels.Product) = refl
no_start Part.Negation = refl
no_start Part.Comparison = refl
no_start Part.Compared = refl
no_start Part.Factor = refl
no_start Part.Atom = refl
no_start Part.Place = refl
no_start Part.Subscript = refl
no_start Part.Number = refl

-- a plan after the first token
abbrev past : List Lexeme → ℕ → ℕ → Plan Tree → Outcome
past [] names blocks plan = Refused []
past (token ∷ others) names blocks plan =
    read others (names_after (terminal_of token) names) (blocks_after (terminal_of token) blocks) plan

abbrev run_past : Point → Plan Tree → Outcome
run_past a plan = past a.left a.names a.blocks plan

-- a wanted part, by what the table says of it
abbrev called_from : (part : Part) → List Lexeme → ℕ → ℕ → (Value part → Plan Tree) → Start (Value part) → Option (Value part) → Outcome
called_from part left names blocks k begun without =
    called begun without (λ f. past left names blocks (bind (f (record { token = first_of left; names = names; blocks = blocks }))
    k)) (λ v. read left names blocks (k v)) (Refused left)

-- a choice among plans, and what is made of it
onward_called : {V : Type 0} (begun : Start V) (without : Option V) (f : (Seen → Plan V) → Option (Plan Tree))
    (g : V → Option (Plan Tree)) (next : Plan Tree → Outcome) (refused : Outcome) →
    onward (called begun without f g None) next refused ≡ called begun without (λ h. onward (f h) next refused)
    (λ v. onward (g v) next refused) refused
onward_called (Some h) without f g next refused = refl
onward_called None (Some v) f g next refused = refl
onward_called None None f g next refused = refl

call_step : (part : Part) (left : List Lexeme) (names blocks : ℕ) (k : Value part → Plan Tree) →
    read left names blocks (Call part k) ≡ called_from part left names blocks k (start part (look left)) (empty part)
unfolding read step finish
call_step part [] names blocks k = ap (λ begun. called_from part [] names blocks k begun (empty part)) (sym (no_start part))
call_step part (token ∷ others) names blocks k =
    let first : Option Terminal = terminal_of token in
    let seen : Seen = record { token = token; names = names; blocks = blocks } in
    onward_called (start part first) (empty part) (λ f. Some (bind (f seen) k)) (λ v. step first seen (k v))
    (λ later. read others (names_after first names) (blocks_after first blocks) later) (Refused (token ∷ others))

run_call : (part : Part) (a : Point) (k : Value part → Plan Tree) →
    run (Call part k) a ≡ called_from part a.left a.names a.blocks k (start part (look a.left)) (empty part)
run_call part a k = call_step part a.left a.names a.blocks k

-- a part that begins with no token here, and may have none
pub run_empty : (part : Part) (v : Value part) (a : Point) → start part (look a.left) ≡ None → empty part ≡ Some v →
    (k : Value part → Plan Tree) → run (Call part k) a ≡ run (k v) a
run_empty part v a s e k =
    run_call part a k ∙ ap (λ begun. called_from part a.left a.names a.blocks k begun (empty part)) s
    ∙ ap (λ without. called_from part a.left a.names a.blocks k None without) e

-- a part that begins with no token here, and must have one
pub run_none : (part : Part) (a : Point) → start part (look a.left) ≡ None → empty part ≡ None → (k : Value part → Plan Tree) →
    run (Call part k) a ≡ Refused a.left
run_none part a s e k =
    run_call part a k ∙ ap (λ begun. called_from part a.left a.names a.blocks k begun (empty part)) s
    ∙ ap (λ without. called_from part a.left a.names a.blocks k None without) e

-- a part whose plan begins with a token
past_step : (token : Lexeme) (others : List Lexeme) (names blocks : ℕ) (terminal : Terminal) (plan : Plan Tree) →
    terminal_of token ≡ Some terminal → past (token ∷ others) names blocks plan ≡ read others (names_after (Some terminal) names)
    (blocks_after (Some terminal) blocks) plan
past_step token others names blocks terminal plan e =
    ap (λ first. read others (names_after first names) (blocks_after first blocks) plan) e

start_step : (part : Part) (token : Lexeme) (others : List Lexeme) (names blocks : ℕ) (terminal : Terminal)
    (f : Seen → Plan (Value part)) → terminal_of token ≡ Some terminal → start part (Some terminal) ≡ Some f →
    (k : Value part → Plan Tree) → read (token ∷ others) names blocks (Call part k) ≡ read others
    (names_after (Some terminal) names) (blocks_after (Some terminal) blocks)
    (bind (f (record { token = token; names = names; blocks = blocks })) k)
start_step part token others names blocks terminal f e s k =
    call_step part (token ∷ others) names blocks k
    ∙ ap (λ begun. called_from part (token ∷ others) names blocks k begun (empty part)) (ap (start part) e ∙ s)
    ∙ past_step token others names blocks terminal (bind (f (record { token = token; names = names; blocks = blocks })) k) e

pub run_start : (part : Part) (terminal : Terminal) (token : Lexeme) (a b : Point) → Advances terminal token a b →
    (f : Seen → Plan (Value part)) → start part (Some terminal) ≡ Some f → (k : Value part → Plan Tree) →
    run (Call part k) a ≡ run (bind (f (record { token = token; names = a.names; blocks = a.blocks })) k) b
run_start part terminal token a b h f s k =
    let seen : Seen = record { token = token; names = a.names; blocks = a.blocks } in
    ap (λ left. read left a.names a.blocks (Call part k)) h.stands
    ∙ start_step part token b.left a.names a.blocks terminal f h.is s k
    ∙ ap (λ n. read b.left n (blocks_after (Some terminal) a.blocks) (bind (f seen) k)) (sym h.names)
    ∙ ap (λ n. read b.left b.names n (bind (f seen) k)) (sym h.blocks)

-- a part whose form begins with another part
begin_called : {A B : Type 0} (s : Start A) (rest : Seen → A → Plan B) (seen : Seen) (next : Plan Tree → Outcome)
    (k : B → Plan Tree) (without : Option B) (passed : B → Outcome) (without_first : Option A) (passed_first : A → Outcome)
    (refused : Outcome) → is_some s ≡ true → called (begin s rest) without (λ f. next (bind (f seen) k)) passed refused ≡ called s
    without_first (λ f. next (bind (f seen) (λ v. bind (rest seen v) k))) passed_first refused
begin_called None rest seen next k without passed without_first passed_first refused e = absurd cc
begin_called (Some f) rest seen next k without passed without_first passed_first refused e =
    ap next (bind-assoc (f seen) (rest seen) k)

-- the same, where neither may be without tokens
begin_both : {A B : Type 0} (s : Start A) (rest : Seen → A → Plan B) (seen : Seen) (next : Plan Tree → Outcome)
    (k : B → Plan Tree) (passed : B → Outcome) (passed_first : A → Outcome) (refused : Outcome) →
    called (begin s rest) None (λ f. next (bind (f seen) k)) passed refused ≡ called s None
    (λ f. next (bind (f seen) (λ v. bind (rest seen v) k))) passed_first refused
begin_both None rest seen next k passed passed_first refused = refl
begin_both (Some f) rest seen next k passed passed_first refused = ap next (bind-assoc (f seen) (rest seen) k)

pub run_begin_here : (part part_first : Part) (rest : Seen → Value part_first → Plan (Value part)) (a : Point) →
    start part (look a.left) ≡ begin (start part_first (look a.left)) rest → is_some (start part_first (look a.left)) ≡ true →
    (k : Value part → Plan Tree) → run (Call part k) a ≡ run (Call part_first (λ v. bind (rest (seen_at a) v) k)) a
run_begin_here part part_first rest a s e k =
    let first_k : Value part_first → Plan Tree = λ v. bind (rest (seen_at a) v) k in
    run_call part a k
    ∙ ap (λ begun. called_from part a.left a.names a.blocks k begun (empty part)) s
    ∙ begin_called (start part_first (look a.left)) rest (seen_at a) (run_past a) k (empty part) (λ v. run (k v) a)
    (empty part_first) (λ v. run (first_k v) a) (Refused a.left) e
    ∙ sym (run_call part_first a first_k)

pub run_begin : (part part_first : Part) (rest : Seen → Value part_first → Plan (Value part)) (a : Point) →
    start part (look a.left) ≡ begin (start part_first (look a.left)) rest → empty part ≡ None → empty part_first ≡ None →
    (k : Value part → Plan Tree) → run (Call part k) a ≡ run (Call part_first (λ v. bind (rest (seen_at a) v) k)) a
run_begin part part_first rest a s e e_first k =
    let first_k : Value part_first → Plan Tree = λ v. bind (rest (seen_at a) v) k in
    run_call part a k
    ∙ ap (λ begun. called_from part a.left a.names a.blocks k begun (empty part)) s
    ∙ ap (λ without. called_from part a.left a.names a.blocks k (begin (start part_first (look a.left)) rest) without) e
    ∙ begin_both (start part_first (look a.left)) rest (seen_at a) (run_past a) k (λ v. run (k v) a) (λ v. run (first_k v) a) (Refused a.left)
    ∙ sym (ap (λ without. called_from part_first a.left a.names a.blocks first_k (start part_first (look a.left)) without) e_first)
    ∙ sym (run_call part_first a first_k)

-- after the last token a whole tree is accepted
pub run_done : (tree : Tree) (a : Point) → a.left ≡ [] → run (Done tree) a ≡ Accepted tree
unfolding read finish
run_done tree a e = ap (λ left. read left a.names a.blocks (Done tree)) e

done_step : (tree : Tree) (token : Lexeme) (others : List Lexeme) (names blocks : ℕ) →
    read (token ∷ others) names blocks (Done tree) ≡ Refused (token ∷ others)
unfolding read step
done_step tree token others names blocks = refl

-- and with a token left it is refused
pub run_too_long : (tree : Tree) (a : Point) (token : Lexeme) (others : List Lexeme) → a.left ≡ token ∷ others → run (Done tree) a ≡ Refused a.left
run_too_long tree a token others e =
    ap (λ left. read left a.names a.blocks (Done tree)) e ∙ done_step tree token others a.names a.blocks ∙ ap Refused (sym e)
