-- What a function hands on that ends in taking its last token, or in making a value of what was read.
use Rattle.std.proofs.Common.{◌≡◌, Result, Ok, Err, IfOk, IfErr, OnOk, refl, sym, ap}
use Rattle.std.proofs.lemmas.Result.{IfOk-weaker}
use Rattle.rb_lex.specs.Tokens.{Ending, Lexeme}
use Rattle.rb_grammar.proofs.Reaching.{Reaches, exit_missed, same_value}
use Rattle.rb_grammar.specs.declared.stop.Stop.{Stop}
use Rattle.rb_grammar.specs.declared.terminal.Terminal.{Terminal}
use Rattle.rb_grammar.specs.Grammar.{Point}
use Rattle.rb_grammar.specs.Machine.{Advances, Reads, Stops}
use Rattle.rb_grammar.specs.Parts.{Part}
use Rattle.rb_grammar.specs.Plans.{Value, Seen, Plan, Token}
use Rattle.rb_grammar.specs.Reading.{Exhausts, Misses, Position, Stopped, TakesLast}

-- the call took the last token that is wanted, and handed on what was made of the part
pub last_closed : {T : Type 0} {part : Part} {terminal : Terminal} {a b : Point} (c : Point) (r : Result T Stop) (of : T → Value part)
    (value : T) → ((token : Lexeme) → Advances terminal token b c → Reads part (of value) a c) → IfOk r (λ x. x ≡ value) →
    OnOk r ((token : Lexeme) × Advances terminal token b c) → IfOk r (λ x. Reads part (of x) a c)
last_closed c (Ok x) of value read same taken = same_value (ap of (sym same)) (read taken.0 taken.1)
last_closed c (Err stop) of value read same taken = tt

-- or missed it
pub last_missed : {T : Type 0} {part : Part} {terminal : Terminal} {a : Point} (before after : Position)
    {f : Seen → Plan (Value part)} {old now : Ending} (r : Result T Stop) → now ≡ old →
    Reaches part a (Token terminal f) before.point →
    IfErr r (Stopped (Misses terminal before after) (TakesLast terminal before) now) →
    IfErr r (Stopped (Stops part a after.point) (Exhausts part a) old)
last_missed before after (Ok value) same reached h = tt
last_missed {T = T} before after (Err stop) same reached h = exit_missed {T = T} (Err stop) refl same reached h

-- the call made a value, of which one place holds what was read
pub last_held : {T A : Type 0} {part : Part} {a b : Point} {v : A} (r : Result T Stop) (from : T → A) (of : A → Value part) →
    Reads part (of v) a b → IfOk r (λ x. from x ≡ v) → IfOk r (λ x. Reads part (of (from x)) a b)
last_held {part = part} {a = a} {b = b} {v = v} r from of read h =
    IfOk-weaker r (λ x. from x ≡ v) (λ x. Reads part (of (from x)) a b) (λ x e. same_value (ap of (sym e)) read) h
