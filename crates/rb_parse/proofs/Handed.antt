-- What a function hands on that ends in a call.
use Rattle.std.proofs.Common.{◌≡◌, Result, Ok, Err, IfOk, IfErr, refl, sym, subst}
use Rattle.std.proofs.lemmas.Result.{IfErr-weaker, IfOk-weaker}
use Rattle.rb_lex.specs.Tokens.{Ending}
use Rattle.rb_grammar.proofs.Reaching.{Reaches, by_part, complete, exit_within, same_value}
use Rattle.rb_grammar.specs.declared.stop.Stop.{Stop}
use Rattle.rb_grammar.specs.declared.stop.Stop.TheVariants as stops
use Rattle.rb_grammar.specs.Grammar.{Point}
use Rattle.rb_grammar.specs.Machine.{Reads, Stops}
use Rattle.rb_grammar.specs.Parts.{Part}
use Rattle.rb_grammar.specs.Plans.{Value, Plan, Done, Call}
use Rattle.rb_grammar.specs.Reading.{Exhausts, Stopped, by_memory}

-- the call read the last part that is wanted
pub last_read : {T : Type 0} {part part_first : Part} {a b : Point} (c : Point) {f : Value part_first → Plan (Value part)} (r : Result T Stop)
    (of : T → Value part_first) (to : T → Value part) → ((x : T) → f (of x) ≡ Done (to x)) → Reaches part a (Call part_first f) b →
    IfOk r (λ x. Reads part_first (of x) b c) → IfOk r (λ x. Reads part (to x) a c)
last_read {part = part} {part_first = part_first} {a = a} {b = b} c r of to e reached h =
    IfOk-weaker r (λ x. Reads part_first (of x) b c) (λ x. Reads part (to x) a c)
    (λ x read. complete (subst (λ plan. Reaches part a plan c) (e x) (by_part reached read))) h

-- or it stopped there
pub last_stopped : {T : Type 0} {part part_first : Part} {a b : Point} (c : Point) {f : Value part_first → Plan (Value part)}
    {old now : Ending} (r : Result T Stop) → now ≡ old → Reaches part a (Call part_first f) b →
    IfErr r (Stopped (Stops part_first b c) (Exhausts part_first b) now) →
    IfErr r (Stopped (Stops part a c) (Exhausts part a) old)
last_stopped c (Ok value) same reached h = tt
last_stopped {T = T} c (Err stop) same reached h = exit_within {T = T} (Err stop) refl same reached h

-- the call made a value of what was read
pub last_made : {T : Type 0} {part : Part} {a b : Point} {v : Value part} (r : Result T Stop) (of : T → Value part) →
    Reads part v a b → IfOk r (λ x. of x ≡ v) → IfOk r (λ x. Reads part (of x) a b)
last_made {part = part} {a = a} {b = b} {v = v} r of read h =
    IfOk-weaker r (λ x. of x ≡ v) (λ x. Reads part (of x) a b) (λ x e. same_value (sym e) read) h

-- or had no memory for it
pub last_unmade : {T : Type 0} (Q M : Type 0) (old : Ending) (r : Result T Stop) → IfErr r (λ stop. stop ≡ stops.Memory) →
    IfErr r (Stopped Q M old)
last_unmade Q M old r h =
    IfErr-weaker r (λ stop. stop ≡ stops.Memory) (Stopped Q M old) (λ stop e. subst (Stopped Q M old) (sym e) by_memory) h
