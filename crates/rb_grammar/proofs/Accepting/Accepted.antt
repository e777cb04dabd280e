-- The machine derives what it accepts.
use Rattle.std.proofs.Common.{◌≡◌, ℕ, Bool, true, false, cond, List, [], ◌∷◌, Option, Some, None, refl, subst}
use Rattle.rb_lex.specs.Tokens.{Lexeme}
use Rattle.rb_grammar.specs.declared.terminal.Terminal.{Terminal}
use Rattle.rb_grammar.specs.Grammar.{Point, Derives, DerivesTree, start_of}
use Rattle.rb_grammar.specs.Machine.{Outcome, Accepted, Refused, fits, names_after, blocks_after, called, finish, step, onward, read, run, whole}
use Rattle.rb_grammar.specs.Parts.{Part}
use Rattle.rb_grammar.specs.Plans.{Value, Seen, Plan, Done, Token, Call, bind}
use Rattle.rb_grammar.specs.Table.{Start, start, empty}
use Rattle.rb_grammar.specs.Terminals.{terminal_of}
use Rattle.rb_grammar.proofs.Ahead.{fits-true}
use Rattle.rb_grammar.proofs.Accepting.Sound.{Follows, follows_bind, Forms, Passes, advanced}
use Rattle.rb_grammar.proofs.Accepting.ProgramSound.{Without, start_sound, empty_sound}
use Rattle.rb_grammar.proofs.Reaching.{seen_from}
use Rattle.rb_syntax.specs.Tree.{Tree}

-- what a plan promises, the plan that is left after a token promises too
module _ (Q : Tree → Point → Type 0) (first : Option Terminal) (token : Lexeme) (a b : Point) (passes : Passes first token a b) where
  taken : (terminal : Terminal) (f : Seen → Plan Tree) (later : Plan Tree) (test : Bool) → fits first terminal ≡ test →
      Follows Q (Token terminal f) a → cond test (Some (f (seen_from token a))) None ≡ Some later → Follows Q later b
  taken terminal f later true t q h =
      let is : first ≡ Some terminal = fits-true first terminal t in
      let same : f (seen_from token a) ≡ later = cc in
      subst (λ plan. Follows Q plan b) same (q token b (advanced (subst (λ x. Passes x token a b) is passes)))
  taken terminal f later false t q h = absurd cc

  entered : (part : Part) (begun : Start (Value part)) (without : Option (Value part)) (k : Value part → Plan Tree)
      (later : Plan Tree) → Forms part begun token a b → Without part without a → Follows Q (Call part k) a →
      ((v : Value part) → Derives part v a a → step first (seen_from token a) (k v) ≡ Some later → Follows Q later b) →
      called begun without (λ f. Some (bind (f (seen_from token a)) k)) (λ v. step first (seen_from token a) (k v)) None ≡ Some
      later → Follows Q later b
  entered part (Some f) without k later s d q rest h =
      let same : bind (f (seen_from token a)) k ≡ later = cc in
      subst (λ plan. Follows Q plan b) same (follows_bind (λ v c. Derives part v a c) Q (f (seen_from token a)) k b s (λ v c w. q v c w))
  entered part None (Some v) k later s d q rest h = rest v d h
  entered part None None k later s d q rest h = absurd cc

  pub stepped : (plan later : Plan Tree) → Follows Q plan a → step first (seen_from token a) plan ≡ Some later → Follows Q later b
  unfolding step
  stepped (Done v) later q h = absurd cc
  stepped (Token terminal f) later q h = taken terminal f later (fits first terminal) refl q h
  stepped (Call part k) later q h =
      entered part (start part first) (empty part) k later (start_sound token a b part first passes) (empty_sound part a) q
      (λ v d g. stepped (k v) later (q v a d) g) h

-- what is accepted in the end has the property that the plan promised
module _ (Q : Tree → Point → Type 0) (tree : Tree) where
  abbrev Ends : Type 0
  Ends = (c : Point) × (c.left ≡ []) × Q tree c

  accepted_done : (v : Tree) (a : Point) → a.left ≡ [] → Q v a → Accepted v ≡ Accepted tree → Ends
  accepted_done v a e q h = let same : v ≡ tree = cc in (a, e, subst (λ w. Q w a) same q)

  passed_end : (part : Part) (without : Option (Value part)) (k : Value part → Plan Tree) (a : Point) → Without part without a →
      ((v : Value part) → Derives part v a a → finish (k v) ≡ Accepted tree → Ends) →
      called None without (λ f. Refused []) (λ v. finish (k v)) (Refused []) ≡ Accepted tree → Ends
  passed_end part None k a d rest h = absurd cc
  passed_end part (Some v) k a d rest h = rest v d h

  finished : (a : Point) → a.left ≡ [] → (plan : Plan Tree) → Follows Q plan a → finish plan ≡ Accepted tree → Ends
  unfolding finish
  finished a e (Done v) q h = accepted_done v a e q h
  finished a e (Token terminal f) q h = absurd cc
  finished a e (Call part k) q h =
      passed_end part (empty part) k a (empty_sound part a) (λ v d g. finished a e (k v) (q v a d) g) h

  accepted_onward : (found : Option (Plan Tree)) (next : Plan Tree → Outcome) (left : List Lexeme) →
      ((later : Plan Tree) → found ≡ Some later → next later ≡ Accepted tree → Ends) →
      onward found next (Refused left) ≡ Accepted tree → Ends
  accepted_onward None next left h e = absurd cc
  accepted_onward (Some later) next left h e = h later refl e

  accepted : (tokens : List Lexeme) (names blocks : ℕ) (plan : Plan Tree) →
      Follows Q plan (record { left = tokens; names = names; blocks = blocks }) → read tokens names blocks plan ≡ Accepted tree →
      Ends
  unfolding read
  accepted [] names blocks plan q h =
      finished (record { left = []; names = names; blocks = blocks }) refl plan q h
  accepted (token ∷ others) names blocks plan q h =
      let first : Option Terminal = terminal_of token in
      let a : Point = record { left = token ∷ others; names = names; blocks = blocks } in
      let b : Point = record { left = others; names = names_after first names; blocks = blocks_after first blocks } in
      let passes : Passes first token a b = record { stands = refl; is = refl; names = refl; blocks = refl } in
      accepted_onward (step first (seen_from token a) plan)
      (λ later. read others (names_after first names) (blocks_after first blocks) later) (token ∷ others)
      (λ later e g. accepted others (names_after first names) (blocks_after first blocks) later
      (stepped Q first token a b passes plan later q e) g) h

-- an accepted list of tokens derives the tree
pub accepted_derives : (tokens : List Lexeme) (tree : Tree) → run whole (start_of tokens) ≡ Accepted tree → DerivesTree tree tokens
accepted_derives tokens tree h =
    let ends = accepted (λ v c. Derives Part.Program v (start_of tokens) c) tree tokens 0 0 whole (λ v c d. d) h in
    record { end = ends.0; whole = ends.1; derived = ends.2 }
