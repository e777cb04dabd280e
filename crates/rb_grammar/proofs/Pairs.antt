-- Tokens that are taken two at a time.
use Rattle.std.proofs.Common.{◌≡◌, Bool, true, false, List, [], ◌∷◌, Some, None, Result, IfErr, refl, sym, ◌∙◌}
use Rattle.std.specs.Result.{IsErrAnd}
use Rattle.rb_lex.specs.Tokens.{Lexeme, Ending}
use Rattle.rb_grammar.specs.declared.stop.Stop.{Stop}
use Rattle.rb_grammar.specs.declared.terminal.Terminal.{Terminal}
use Rattle.rb_grammar.specs.declared.terminal.Terminal.TheVariants as terminals
use Rattle.rb_grammar.specs.Grammar.{Point}
use Rattle.rb_grammar.specs.Machine.{Advances, Stops, blocks_after, fits, look, names_after}
use Rattle.rb_grammar.specs.Parts.{Part}
use Rattle.rb_grammar.specs.Plans.{Value, Seen, Plan, Token, bind}
use Rattle.rb_grammar.specs.Reading.{Position, Exhausts, MissesTwo, Stopped, TakesLastTwo, TakesNamed, TakesTwo}
use Rattle.rb_grammar.specs.Reading.{last_first, last_second, misses_first, misses_second}
use Rattle.rb_grammar.specs.Table.{empty, start}
use Rattle.rb_grammar.specs.Terminals.{terminal_of}
use Rattle.rb_grammar.proofs.Ahead.{fits-true}
use Rattle.rb_grammar.proofs.Reaching.{Reaches, by_terminal, exhausts, exit, missed, seen_from, stops_first}
use Rattle.rb_grammar.proofs.Accepting.Running.{run_misses, run_start, run_token}
use Rattle.rb_grammar.proofs.Takes.{name_taken}
use Rattle.rb_syntax.specs.Tree.{Identifier}

stands_first : (a : Point) (left : List Lexeme) (terminal : Terminal) → a.left ≡ left → fits (look left) terminal ≡ true →
    (token : Lexeme) × (b : Point) × Advances terminal token a b
stands_first a [] terminal e h = absurd cc
stands_first a (token ∷ others) terminal e h = (
  token,
  record { left = others; names = names_after (Some terminal) a.names; blocks = blocks_after (Some terminal) a.blocks },
  record { stands = e; is = fits-true (terminal_of token) terminal h; names = refl; blocks = refl },
)

-- the form that begins with this token, which stands first, is wanted from that token on
pub opens_sure : (part : Part) {terminal : Terminal} (a : Point) (f : Seen → Plan (Value part)) →
    start part (Some terminal) ≡ Some f → fits (look a.left) terminal ≡ true → Reaches part a (Token terminal f) a
opens_sure part {terminal} a f s h =
    let t = stands_first a a.left terminal refl h in
    record {
      leads = λ k. run_start part terminal t.0 a t.1 t.2 f s k ∙ sym (run_token terminal t.0 a t.1 t.2 (λ seen. bind (f seen) k));
    }

opens_by : (part : Part) {terminal : Terminal} (a : Point) (f : Seen → Plan (Value part)) (test : Bool) →
    fits (look a.left) terminal ≡ test → start part (Some terminal) ≡ Some f →
    (fits (look a.left) terminal ≡ false → start part (look a.left) ≡ None) → empty part ≡ None → Reaches part a (Token terminal f) a
opens_by part a f true h s none without = opens_sure part a f s h
opens_by part {terminal} a f false h s none without =
    record {
      leads = λ k. (stops_first {part = part} a (none h) without).leads k ∙ sym
          (run_misses terminal a.left a.names a.blocks h (λ seen. bind (f seen) k));
    }

-- the same of the only form of a part, whatever stands first
pub opens : (part : Part) {terminal : Terminal} (a : Point) (f : Seen → Plan (Value part)) →
    start part (Some terminal) ≡ Some f → (fits (look a.left) terminal ≡ false → start part (look a.left) ≡ None) →
    empty part ≡ None → Reaches part a (Token terminal f) a
opens part {terminal} a f s none without = opens_by part a f (fits (look a.left) terminal) refl s none without

-- two tokens were taken
pub by_two : {part : Part} {first second : Terminal} {a b c : Point} {g : Seen → Seen → Plan (Value part)} →
    Reaches part a (Token first (λ s. Token second (g s))) b → (t : TakesTwo first second b c) →
    Reaches part a (g (seen_from t.one b) (seen_from t.two t.between)) c
by_two r t = by_terminal (by_terminal r t.takes) t.behind

-- a token was taken, and the name behind it
pub by_named : {part : Part} {first : Terminal} {name : Identifier} {a b c : Point} {g : Seen → Seen → Plan (Value part)} →
    Reaches part a (Token first (λ s. Token terminals.Name (g s))) b → (t : TakesNamed first name b c) →
    Reaches part a (g (seen_from t.one b) (seen_from t.named.token t.between)) c
by_named r t = by_terminal (by_terminal r t.takes) (name_taken t.named)

missed_two : {part : Part} {first second : Terminal} {a : Point} {before after : Position} {g : Seen → Seen → Plan (Value part)} →
    Reaches part a (Token first (λ s. Token second (g s))) before.point → MissesTwo first second before after →
    Stops part a after.point
missed_two r (misses_first m) = missed r m
missed_two r (misses_second between token t m) = missed (by_terminal r t) m

last_two : {part : Part} {first second : Terminal} {a : Point} {before : Position} {g : Seen → Seen → Plan (Value part)} →
    Reaches part a (Token first (λ s. Token second (g s))) before.point → TakesLastTwo first second before → Exhausts part a
last_two r (last_first l) = exhausts (by_terminal r l.takes) l.ended
last_two r (last_second between token t l) = exhausts (by_terminal (by_terminal r t) l.takes) l.ended

-- what is handed on by a call that was to take two tokens that are wanted
pub exit_two : {T : Type 0} {part : Part} {first second : Terminal} {a : Point} {before after : Position}
    {g : Seen → Seen → Plan (Value part)} {old now : Ending} {given : Stop} (r : Result T Stop) → IsErrAnd r (λ stop. stop ≡ given) →
    now ≡ old → Reaches part a (Token first (λ s. Token second (g s))) before.point →
    Stopped (MissesTwo first second before after) (TakesLastTwo first second before) now given →
    IfErr r (Stopped (Stops part a after.point) (Exhausts part a) old)
exit_two r e same reached h = exit r e same (missed_two reached) (last_two reached) h
