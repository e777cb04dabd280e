-- The first token that the machine refuses: what stands before it goes on, and with it nothing does.
use Rattle.std.proofs.Common.{◌≡◌, ℕ, ◌<◌, ◌≤◌, List, [], ◌∷◌, ◌++◌, length, Option, Some, None, refl, sym, ap, subst, ◌∙◌, arith}
use Rattle.std.proofs.lemmas.List.{append-nil}
use Rattle.std.proofs.Common.{length-append, append_assoc}
use Rattle.rb_lex.specs.Tokens.{Lexeme}
use Rattle.rb_grammar.specs.declared.terminal.Terminal.{Terminal}
use Rattle.rb_grammar.specs.Grammar.{Point, Derives, DerivesTree, start_of}
use Rattle.rb_grammar.specs.Laws.{GoesOn, FirstBadToken, EndsTooEarly}
use Rattle.rb_grammar.specs.Machine.{Outcome, Accepted, Refused, names_after, blocks_after, called, finish, step, onward, read, run, whole}
use Rattle.rb_grammar.specs.Parts.{Part}
use Rattle.rb_grammar.specs.Plans.{Value, Plan, Done, Token, Call, bind}
use Rattle.rb_grammar.specs.Reading.{Exhausts}
use Rattle.rb_grammar.specs.Table.{empty}
use Rattle.rb_grammar.specs.Terminals.{terminal_of}
use Rattle.rb_grammar.proofs.Accepting.Accepted.{accepted_derives, stepped}
use Rattle.rb_grammar.proofs.Accepting.Complete.{derived_accepted}
use Rattle.rb_grammar.proofs.Reaching.{seen_from, unread, exhausts}
use Rattle.rb_grammar.proofs.Stopping.Shortest.{from, completion, completed}
use Rattle.rb_grammar.proofs.Accepting.Sound.{Follows}
use Rattle.rb_syntax.specs.Tree.{Tree}

-- how many names, and how many recoveries, came before the point after these tokens
abbrev names_past : List Lexeme → ℕ → ℕ
names_past [] names = names
names_past (token ∷ others) names = names_past others (names_after (terminal_of token) names)

abbrev blocks_past : List Lexeme → ℕ → ℕ
blocks_past [] blocks = blocks
blocks_past (token ∷ others) blocks = blocks_past others (blocks_after (terminal_of token) blocks)

abbrev and_then : Option (Plan Tree) → (Plan Tree → Option (Plan Tree)) → Option (Plan Tree)
and_then None f = None
and_then (Some plan) f = f plan

-- the plan that is left after these tokens, if it takes them all
remains : List Lexeme → ℕ → ℕ → Plan Tree → Option (Plan Tree)
remains [] names blocks plan = Some plan
remains (token ∷ others) names blocks plan =
    and_then (step (terminal_of token) (record { token = token; names = names; blocks = blocks }) plan)
    (λ later. remains others (names_after (terminal_of token) names) (blocks_after (terminal_of token) blocks) later)

-- the machine goes on from there, whatever stands behind them
onward_remains : (found : Option (Plan Tree)) (f : Plan Tree → Option (Plan Tree)) (next ended : Plan Tree → Outcome)
    (refused : Outcome) (plan : Plan Tree) → ((later : Plan Tree) → f later ≡ Some plan → next later ≡ ended plan) →
    and_then found f ≡ Some plan → onward found next refused ≡ ended plan
onward_remains None f next ended refused plan h e = absurd cc
onward_remains (Some later) f next ended refused plan h e = h later e

read_remains : (before : List Lexeme) (names blocks : ℕ) (plan later : Plan Tree) →
    remains before names blocks plan ≡ Some later → (rest : List Lexeme) →
    read (before ++ rest) names blocks plan ≡ read rest (names_past before names) (blocks_past before blocks) later
unfolding remains read
read_remains [] names blocks plan later e rest =
    let same : plan ≡ later = cc in ap (λ p. read rest names blocks p) same
read_remains (token ∷ others) names blocks plan later e rest =
    let first : Option Terminal = terminal_of token in
    let n : ℕ = names_after first names in
    let b : ℕ = blocks_after first blocks in
    onward_remains (step first (record { token = token; names = names; blocks = blocks }) plan) (λ p. remains others n b p)
    (λ p. read (others ++ rest) n b p) (λ p. read rest (names_past others n) (blocks_past others b) p)
    (Refused (token ∷ (others ++ rest))) later (λ p h. read_remains others n b p later h rest) e

-- what a plan promised, the plan that is left promises too
module _ (Q : Tree → Point → Type 0) where
  followed : (found : Option (Plan Tree)) (f : Plan Tree → Option (Plan Tree)) (later : Plan Tree) (P : Type 0) →
      ((plan : Plan Tree) → found ≡ Some plan → f plan ≡ Some later → P) → and_then found f ≡ Some later → P
  followed None f later P h e = absurd cc
  followed (Some plan) f later P h e = h plan refl e

  follows_remains : (before : List Lexeme) (names blocks : ℕ) (plan later : Plan Tree) (rest : List Lexeme) →
      remains before names blocks plan ≡ Some later → Follows Q plan (from (before ++ rest) names blocks) →
      Follows Q later (from rest (names_past before names) (blocks_past before blocks))
  unfolding remains
  follows_remains [] names blocks plan later rest e q =
      let same : plan ≡ later = cc in subst (λ p. Follows Q p (from rest names blocks)) same q
  follows_remains (token ∷ others) names blocks plan later rest e q =
      let first : Option Terminal = terminal_of token in
      let n : ℕ = names_after first names in
      let b : ℕ = blocks_after first blocks in
      let a : Point = from (token ∷ (others ++ rest)) names blocks in
      followed (step first (seen_from token a) plan) (λ p. remains others n b p) later
      (Follows Q later (from rest (names_past others n) (blocks_past others b)))
      (λ p s h. follows_remains others n b p later rest h (stepped Q first token a (from (others ++ rest) n b)
      (record { stands = refl; is = refl; names = refl; blocks = refl }) plan p q s)) e

-- the tokens from which these are left
abbrev pub EndsIn : List Lexeme → List Lexeme → Type 0
EndsIn tokens left = (before : List Lexeme) × (tokens ≡ before ++ left)

called_left : (part : Part) (without : Option (Value part)) (k : Value part → Plan Tree) (left : List Lexeme) →
    ((v : Value part) → finish (k v) ≡ Refused left → EndsIn [] left) →
    called None without (λ f. Refused []) (λ v. finish (k v)) (Refused []) ≡ Refused left → EndsIn [] left
called_left part None k left h e = ([], let same : [] ≡ left = cc in same)
called_left part (Some v) k left h e = h v e

finish_left : (plan : Plan Tree) (left : List Lexeme) → finish plan ≡ Refused left → EndsIn [] left
unfolding finish
finish_left (Done tree) left h = absurd cc
finish_left (Token terminal f) left h = ([], let same : [] ≡ left = cc in same)
finish_left (Call part k) left h = called_left part (empty part) k left (λ v g. finish_left (k v) left g) h

left_onward : (found : Option (Plan Tree)) (next : Plan Tree → Outcome) (token : Lexeme) (others left : List Lexeme) →
    ((later : Plan Tree) → next later ≡ Refused left → EndsIn others left) →
    onward found next (Refused (token ∷ others)) ≡ Refused left → EndsIn (token ∷ others) left
left_onward None next token others left h e = ([], let same : token ∷ others ≡ left = cc in same)
left_onward (Some later) next token others left h e =
    let ends = h later e in (token ∷ ends.0, ap (λ ts. token ∷ ts) ends.1)

-- the machine stops at some of its tokens, or at their end
pub refused_left : (tokens : List Lexeme) (names blocks : ℕ) (plan : Plan Tree) (left : List Lexeme) →
    read tokens names blocks plan ≡ Refused left → EndsIn tokens left
unfolding read
refused_left [] names blocks plan left h = finish_left plan left h
refused_left (token ∷ others) names blocks plan left h =
    left_onward (step (terminal_of token) (record { token = token; names = names; blocks = blocks }) plan)
    (λ later. read others (names_after (terminal_of token) names) (blocks_after (terminal_of token) blocks) later) token others
    left (λ later g. refused_left others _ _ later left g) h

left_within : (tokens : List Lexeme) (names blocks : ℕ) (plan : Plan Tree) (left : List Lexeme) →
    read tokens names blocks plan ≡ Refused left → length left ≤ length tokens
left_within tokens names blocks plan left h =
    let ends = refused_left tokens names blocks plan left h in omega (arith, ap length ends.1, length-append ends.0 left)

-- where it stops no earlier, it takes all tokens before
remained : (found : Option (Plan Tree)) (f : Plan Tree → Option (Plan Tree)) (next : Plan Tree → Outcome)
    (tokens left : List Lexeme) → length left < length tokens →
    ((later : Plan Tree) → next later ≡ Refused left → (p : Plan Tree) × (f later ≡ Some p)) →
    onward found next (Refused tokens) ≡ Refused left → (p : Plan Tree) × (and_then found f ≡ Some p)
remained None f next tokens left shorter h e =
    let same : tokens ≡ left = cc in absurd (let l : length tokens ≡ length left = ap length same in omega arith)
remained (Some later) f next tokens left shorter h e = h later e

refused_remains : (before : List Lexeme) (names blocks : ℕ) (plan : Plan Tree) (rest left : List Lexeme) →
    length left ≤ length rest → read (before ++ rest) names blocks plan ≡ Refused left →
    (p : Plan Tree) × (remains before names blocks plan ≡ Some p)
unfolding read remains
refused_remains [] names blocks plan rest left shorter h = (plan, refl)
refused_remains (token ∷ others) names blocks plan rest left shorter h =
    let first : Option Terminal = terminal_of token in
    let n : ℕ = names_after first names in
    let b : ℕ = blocks_after first blocks in
    remained (step first (record { token = token; names = names; blocks = blocks }) plan) (λ p. remains others n b p)
    (λ p. read (others ++ rest) n b p) (token ∷ (others ++ rest)) left (omega (arith, length-append others rest))
    (λ p g. refused_remains others n b p rest left shorter g) h

-- A refusal looks at one token.
refused_alone : (found : Option (Plan Tree)) (next other : Plan Tree → Outcome) (tokens others : List Lexeme) →
    ((later : Plan Tree) → next later ≡ Refused tokens → ⊥) → onward found next (Refused tokens) ≡ Refused tokens →
    onward found other (Refused others) ≡ Refused others
refused_alone None next other tokens others h e = refl
refused_alone (Some later) next other tokens others h e = absurd (h later e)

refused_at : (token : Lexeme) (after more : List Lexeme) (names blocks : ℕ) (plan : Plan Tree) →
    read (token ∷ after) names blocks plan ≡ Refused (token ∷ after) →
    read (token ∷ more) names blocks plan ≡ Refused (token ∷ more)
unfolding read
refused_at token after more names blocks plan h =
    let first : Option Terminal = terminal_of token in
    let n : ℕ = names_after first names in
    let b : ℕ = blocks_after first blocks in
    refused_alone (step first (record { token = token; names = names; blocks = blocks }) plan) (λ p. read after n b p)
    (λ p. read more n b p) (token ∷ after) (token ∷ more) (λ p g. omega (arith, left_within after n b p (token ∷ after) g)) h

-- what is left to read can be ended
goes_on : (before : List Lexeme) (later : Plan Tree) → remains before 0 0 whole ≡ Some later → GoesOn before
goes_on before later e =
    let more = completion later (names_past before 0) (blocks_past before 0) in
    let Q : Tree → Point → Type 0 = λ v c. Derives Part.Program v (start_of (before ++ more)) c in
    let ends = completed Q later (names_past before 0) (blocks_past before 0) (follows_remains Q before 0 0 whole later more e (λ v c d. d)) in
    (more, ends.0, record { end = ends.1; whole = ends.2; derived = ends.3 })

not_both : (tree : Tree) (left : List Lexeme) (outcome : Outcome) → outcome ≡ Accepted tree → outcome ≡ Refused left → ⊥
not_both tree left outcome a r = cc

stops_with : (before after : List Lexeme) (token : Lexeme) (later : Plan Tree) → remains before 0 0 whole ≡ Some later →
    run whole (start_of (before ++ (token ∷ after))) ≡ Refused (token ∷ after) → GoesOn (before ++ (token ∷ [])) → ⊥
stops_with before after token later e h g =
    let more = g.0 in
    let tree = g.1 in
    let joined : DerivesTree tree (before ++ (token ∷ more)) =
    subst (λ ts. DerivesTree tree ts) (append_assoc before (token ∷ []) more) g.2 in
    let there = read_remains before 0 0 whole later e in
    let stops = refused_at token after more (names_past before 0) (blocks_past before 0) later (sym (there (token ∷ after)) ∙ h) in
    not_both tree (token ∷ more) (run whole (start_of (before ++ (token ∷ more))))
    (derived_accepted tree (before ++ (token ∷ more)) joined) (there (token ∷ more) ∙ stops)

pub first_bad_token : FirstBadToken
first_bad_token before after token h =
    let r = refused_remains before 0 0 whole (token ∷ after) (token ∷ after) (omega arith) h in
    (goes_on before r.0 r.1, stops_with before after token r.0 r.1 h)

pub ends_too_early : EndsTooEarly
ends_too_early tokens h =
    let r = refused_remains tokens 0 0 whole [] [] (omega arith) (subst (λ ts. run whole (start_of ts) ≡ Refused []) (sym (append-nil tokens)) h) in
    (goes_on tokens r.0 r.1, λ tree d. not_both tree [] (run whole (start_of tokens)) (derived_accepted tree tokens d) h)

none_left : (left : List Lexeme) → length left ≤ 0 → left ≡ []
none_left [] h = refl
none_left (token ∷ others) h = absurd (omega arith)

goes_on_by : (tokens : List Lexeme) (outcome : Outcome) → run whole (start_of tokens) ≡ outcome →
    ((left : List Lexeme) → outcome ≡ Refused left → left ≡ []) → GoesOn tokens
goes_on_by tokens (Accepted tree) e none =
    ([], tree, subst (λ ts. DerivesTree tree ts) (sym (append-nil tokens)) (accepted_derives tokens tree e))
goes_on_by tokens (Refused left) e none =
    (ends_too_early tokens (e ∙ ap Refused (none left refl))).0

-- where all tokens were taken, they go on
pub exhausted_goes_on : (tokens : List Lexeme) → Exhausts Part.Program (start_of tokens) → GoesOn tokens
exhausted_goes_on tokens x =
    let there = x.leads (λ tree. Done tree) in
    let none : (left : List Lexeme) → run whole (start_of tokens) ≡ Refused left → left ≡ [] = λ left e.
    let ends = refused_left x.end.left x.end.names x.end.blocks (bind x.plan (λ tree. Done tree)) left (sym there ∙ e) in
    none_left left (omega (arith, ap length (sym x.ended ∙ ends.1), length-append ends.0 left)) in
    goes_on_by tokens (run whole (start_of tokens)) refl none

-- the empty text goes on
pub nothing_goes_on : GoesOn []
nothing_goes_on = exhausted_goes_on [] (exhausts (unread Part.Program (start_of [])) refl)
