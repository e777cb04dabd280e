-- Writes that are told of in other words.
use Rattle.std.proofs.Common.{◌≡◌, ℕ, List, ◌++◌, Option, Result, Ok, Err, MatchResult, subst, sym}
use Rattle.rb_outside.specs.declared.Failed.{Failed}
use Rattle.rb_outside.specs.Outside.{Faults}
use Rattle.rb_outside.specs.Puts.{Puts}
use Rattle.rb_outside.proofs.Puts.{puts_both, puts_same}
use Rattle.rb_page.specs.Escape.{escaped}
use Rattle.rb_page.specs.Page.{before_trace, page_text, parts_of}
use Rattle.rb_hall.specs.declared.command.Unwritten.{Unwritten}
use Rattle.rb_hall.specs.declared.command.Unwritten.TheVariants as unwritten
use Rattle.rb_turns.specs.Written.{PutsOrMemory}
use Rattle.rb_commands.specs.declared.why.Why.{Why}

-- from another name for how the sink was
pub put_from : {T E : Type 0} (bytes : List ℕ) (v w now : Option (List ℕ)) (e f after : Faults) (r : Result T E) → v ≡ w → e ≡ f
    → Puts bytes v now e after r → Puts bytes w now f after r
put_from bytes v w now e f after r written faults put =
    subst (λ (x : Option (List ℕ)). Puts bytes x now f after r) written (subst (λ (x : Faults). Puts bytes v now x after r) faults put)

-- one that went well, and another behind it
pub put_both : (a b : List ℕ) (w0 w1 w2 : Option (List ℕ)) (f0 f1 f2 : Faults) (v : Unit {0}) (r s : Result (Unit {0}) Failed) → r ≡ Ok v
    → Puts a w0 w1 f0 f1 r → Puts b w1 w2 f1 f2 s → Puts (a ++ b) w0 w2 f0 f2 s
put_both a b w0 w1 w2 f0 f1 f2 v r s is first second =
    puts_both a b w0 w1 w2 f0 f1 f2 v s (subst (λ (x : Result (Unit {0}) Failed). Puts a w0 w1 f0 f1 x) is first) second

-- a page that is put together of its parts
page_filled : (page source text trace a b c d : List ℕ) → a ≡ (parts_of page).source → b ≡ (parts_of page).schedule → c ≡ (parts_of page).trace
    → d ≡ (parts_of page).rest → before_trace a b c source text ++ (escaped trace ++ d) ≡ page_text page source text trace
page_filled page source text trace a b c d ea eb ec ed = λ i. before_trace (ea i) (eb i) (ec i) source text ++ (escaped trace ++ ed i)

-- what stands up to the trace, and then the trace and what stands behind it
pub put_filled : (page source text trace a b c d : List ℕ) → a ≡ (parts_of page).source → b ≡ (parts_of page).schedule
    → c ≡ (parts_of page).trace → d ≡ (parts_of page).rest
    → (w0 w1 w2 : Option (List ℕ)) (f0 f1 f2 : Faults) (v : Unit {0}) (s : Result (Unit {0}) Failed)
    → Puts {T = Unit {0}} {E = Failed} (before_trace a b c source text) w0 w1 f0 f1 (Ok v) → Puts (escaped trace ++ d) w1 w2 f1 f2 s
    → Puts (page_text page source text trace) w0 w2 f0 f2 s
put_filled page source text trace a b c d ea eb ec ed w0 w1 w2 f0 f1 f2 v s first second =
    puts_same (before_trace a b c source text ++ (escaped trace ++ d)) (page_text page source text trace) w0 w2 f0 f2 s
    (page_filled page source text trace a b c d ea eb ec ed)
    (puts_both (before_trace a b c source text) (escaped trace ++ d) w0 w1 w2 f0 f1 f2 v s first second)

-- how a command ends that put this text
pub text_put : (text : List ℕ) (r : Result (Unit {0}) Failed) (ended : Result (Unit {0}) (Unwritten Why)) (old new : Option (List ℕ))
    (before after : Faults) → Puts text old new before after r
    → MatchResult r (λ done. ended ≡ Ok done) (λ _. ended ≡ Err unwritten.Fault) → PutsOrMemory text old new before after ended
text_put text (Ok done) ended old new before after put is = subst (PutsOrMemory text old new before after) (sym is) (put.ok, put.quiet)
text_put text (Err failed) ended old new before after put is = subst (PutsOrMemory text old new before after) (sym is) (put.err, put.failed)
