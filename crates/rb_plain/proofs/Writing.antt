-- A text of a plain run that is written part by part, where a write may fail or memory be wanting.
use Rattle.std.proofs.Common.{◌≡◌, ℕ, List, [], ◌++◌, Option, Result, Ok, Err, refl, sym, ap, ◌∙◌, subst, arith}
use Rattle.std.specs.Result.{IsErrAnd}
use Rattle.rb_outside.specs.declared.Failed.{Failed}
use Rattle.rb_outside.specs.Outside.{Faults}
use Rattle.rb_outside.specs.Puts.{Puts}
use Rattle.rb_outside.proofs.Puts.{puts_both, puts_stopped}
use Rattle.rb_outside.proofs.Written.{WrotePart-within, WrotePart-after, then_written-nil}
use Rattle.rb_trace.proofs.Written.{Written, written_all, written_more}
use Rattle.rb_plain.specs.Played.{Writes}
use Rattle.rb_levels.specs.declared.answer.PlainAnswer.{PlainAnswer}
use Rattle.rb_levels.specs.declared.answer.PlainAnswer.TheVariants.{Stuck, WriteFault, Memory}

-- another name for the text
pub writes_same : (a b : List ℕ) (w0 w1 : Option (List ℕ)) (f0 f1 : Faults) (r : Result (Unit {0}) PlainAnswer) → a ≡ b
    → Writes a w0 w1 f0 f1 r → Writes b w0 w1 f0 f1 r
writes_same a b w0 w1 f0 f1 r e p = subst (λ x. Writes x w0 w1 f0 f1 r) e p

-- a write that went well, whatever else could have failed
pub puts_well : {E D : Type 0} (a : List ℕ) (w0 w1 : Option (List ℕ)) (f0 f1 : Faults) (done : Unit {0})
    → Puts {T = Unit {0}} {E = E} a w0 w1 f0 f1 (Ok done) → Puts {T = Unit {0}} {E = D} a w0 w1 f0 f1 (Ok tt)
puts_well a w0 w1 f0 f1 done p = record { ok = p.ok; quiet = p.quiet; err = tt; failed = tt }

pub puts_failed : (a : List ℕ) (w0 w1 : Option (List ℕ)) (f0 f1 : Faults) (failed : Failed)
    → Puts {T = Unit {0}} {E = Failed} a w0 w1 f0 f1 (Err failed)
    → Puts {T = Unit {0}} {E = PlainAnswer} a w0 w1 f0 f1 (Err WriteFault)
puts_failed a w0 w1 f0 f1 failed p = record { ok = tt; quiet = tt; err = p.err; failed = p.failed }

pub writes_failed : (a : List ℕ) (w0 w1 : Option (List ℕ)) (f0 f1 : Faults) (failed : Failed) (r : Result (Unit {0}) PlainAnswer)
    → IsErrAnd r (λ x. x ≡ WriteFault)
    → Puts {T = Unit {0}} {E = Failed} a w0 w1 f0 f1 (Err failed) → Writes a w0 w1 f0 f1 r
writes_failed a w0 w1 f0 f1 failed (Ok done) h p = absurd h
writes_failed a w0 w1 f0 f1 failed (Err answer) h p =
    subst (λ x. Writes a w0 w1 f0 f1 (Err x)) (sym h) (puts_failed a w0 w1 f0 f1 failed p)

-- what is answered for an answer of a part
pub writes_answered : (a : List ℕ) (w0 w1 : Option (List ℕ)) (f0 f1 : Faults) (answer : PlainAnswer) (r : Result (Unit {0}) PlainAnswer)
    → IsErrAnd r (λ x. x ≡ answer)
    → Writes a w0 w1 f0 f1 (Err answer) → Writes a w0 w1 f0 f1 r
writes_answered a w0 w1 f0 f1 answer (Ok done) h p = absurd h
writes_answered a w0 w1 f0 f1 answer (Err x) h p = subst (λ y. Writes a w0 w1 f0 f1 (Err y)) (sym h) p

-- memory was wanting before anything was written
pub writes_nothing : (a : List ℕ) (w : Option (List ℕ)) (f : Faults) (answer : PlainAnswer) → answer ≡ Memory → Writes a w w f f (Err answer)
writes_nothing a w f answer e = subst (λ x. Writes a w w f f (Err x)) (sym e) ((0, omega arith, sym (then_written-nil w)), refl)

-- the first part was written, and then the other, or a front of it
pub writes_both : (a b : List ℕ) (w0 w1 w2 : Option (List ℕ)) (f0 f1 f2 : Faults) (r : Result (Unit {0}) PlainAnswer)
    → Writes a w0 w1 f0 f1 (Ok tt) → Writes b w1 w2 f1 f2 r → Writes (a ++ b) w0 w2 f0 f2 r
writes_both a b w0 w1 w2 f0 f1 f2 (Ok done) p q = puts_both a b w0 w1 w2 f0 f1 f2 tt (Ok done) p q
writes_both a b w0 w1 w2 f0 f1 f2 (Err (Stuck t)) p q = absurd q
writes_both a b w0 w1 w2 f0 f1 f2 (Err WriteFault) p q = puts_both a b w0 w1 w2 f0 f1 f2 tt (Err WriteFault) p q
writes_both a b w0 w1 w2 f0 f1 f2 (Err Memory) p q = (WrotePart-after w0 w1 w2 a b p.ok q.0, q.1 ∙ p.quiet)

-- the first part stopped, and both with it
pub writes_stopped : (a b : List ℕ) (w0 w1 : Option (List ℕ)) (f0 f1 : Faults) (answer : PlainAnswer)
    → Writes a w0 w1 f0 f1 (Err answer) → Writes (a ++ b) w0 w1 f0 f1 (Err answer)
writes_stopped a b w0 w1 f0 f1 (Stuck t) p = absurd p
writes_stopped a b w0 w1 f0 f1 WriteFault p = puts_stopped a b w0 w1 f0 f1 WriteFault WriteFault p
writes_stopped a b w0 w1 f0 f1 Memory p = (WrotePart-within w0 w1 a b p.0, p.1)

-- Of a text all but the rest was written: the next part was written.
pub next_written : (whole rest part after : List ℕ) (w0 w1 w2 : Option (List ℕ)) (f0 f1 f2 : Faults) (done : Unit {0})
    → Written whole rest w0 w1 f0 f1 → rest ≡ part ++ after → Writes part w1 w2 f1 f2 (Ok done) → Written whole after w0 w2 f0 f2
next_written whole rest part after w0 w1 w2 f0 f1 f2 done so_far is p =
    written_more whole rest part after w0 w1 w2 f0 f1 f2 so_far is (puts_well part w1 w2 f1 f2 done p)

-- the next part stopped, and the whole text with it
pub next_stopped : (whole rest part after : List ℕ) (w0 w1 w2 : Option (List ℕ)) (f0 f1 f2 : Faults) (answer : PlainAnswer)
    → Written whole rest w0 w1 f0 f1 → rest ≡ part ++ after → Writes part w1 w2 f1 f2 (Err answer) → Writes whole w0 w2 f0 f2 (Err answer)
next_stopped whole rest part after w0 w1 w2 f0 f1 f2 answer so_far is p =
    writes_same (so_far.front ++ (part ++ after)) whole w0 w2 f0 f2 (Err answer) (ap (λ (x : List ℕ). so_far.front ++ x) (sym is) ∙ so_far.splits)
    (writes_both so_far.front (part ++ after) w0 w1 w2 f0 f1 f2 (Err answer)
    (puts_well so_far.front w0 w1 f0 f1 tt so_far.puts) (writes_stopped part after w1 w2 f1 f2 answer p))

-- memory was wanting before the next part
pub next_wanting : (whole rest : List ℕ) (w0 w1 : Option (List ℕ)) (f0 f1 : Faults) (answer : PlainAnswer) → answer ≡ Memory
    → Written whole rest w0 w1 f0 f1 → Writes whole w0 w1 f0 f1 (Err answer)
next_wanting whole rest w0 w1 f0 f1 answer e so_far =
    writes_same (so_far.front ++ rest) whole w0 w1 f0 f1 (Err answer) so_far.splits
    (writes_both so_far.front rest w0 w1 w1 f0 f1 f1 (Err answer) (puts_well so_far.front w0 w1 f0 f1 tt so_far.puts)
    (writes_nothing rest w1 f1 answer e))

-- nothing is left
pub all_written : (whole rest : List ℕ) (w0 w1 : Option (List ℕ)) (f0 f1 : Faults) (done : Unit {0})
    → Written whole rest w0 w1 f0 f1 → rest ≡ [] → Writes whole w0 w1 f0 f1 (Ok done)
all_written whole rest w0 w1 f0 f1 done so_far none = puts_well whole w0 w1 f0 f1 tt (written_all whole rest w0 w1 f0 f1 so_far none)
