-- How a text is written part by part.
use Rattle.std.proofs.Common.{◌≡◌, ℕ, List, [], ◌++◌, Option, Result, Ok, Err, IsErr, sym, ap, ◌∙◌, append_assoc}
use Rattle.std.proofs.lemmas.List.{append-nil}
use Rattle.rb_outside.specs.declared.Failed.{Failed}
use Rattle.rb_outside.specs.Outside.{Faults}
use Rattle.rb_outside.specs.Puts.{Puts}
use Rattle.rb_outside.proofs.Puts.{puts_both, puts_same, puts_stopped_at}

-- what a call that went well has written, whatever it answers
pub put_so : {T E U D : Type 0} {bytes : List ℕ} {w0 w1 : Option (List ℕ)} {f0 f1 : Faults} {v : T} {u : U}
    → Puts {T = T} {E = E} bytes w0 w1 f0 f1 (Ok v) → Puts {T = U} {E = D} bytes w0 w1 f0 f1 (Ok u)
put_so p = record { ok = p.ok; quiet = p.quiet; err = p.err; failed = p.failed }

-- and one that did not, whatever it would have answered
pub failed_so : {T E U : Type 0} {bytes : List ℕ} {w0 w1 : Option (List ℕ)} {f0 f1 : Faults} {e : E}
    → Puts {T = T} {E = E} bytes w0 w1 f0 f1 (Err e) → Puts {T = U} {E = E} bytes w0 w1 f0 f1 (Err e)
failed_so p = record { ok = p.ok; quiet = p.quiet; err = p.err; failed = p.failed }

-- so far a text was written up to these bytes
pub record Remains (rest whole : List ℕ) (old now : Option (List ℕ)) (before at : Faults) : Type 0 where
  pub done : List ℕ
  pub parts : done ++ rest ≡ whole
  pub wrote : Puts {T = Unit {0}} {E = Failed} done old now before at (Ok tt)

-- another name for what is left
pub remains_same : (a b whole : List ℕ) (w0 w1 : Option (List ℕ)) (f0 f1 : Faults) → a ≡ b → Remains a whole w0 w1 f0 f1 → Remains b whole w0 w1 f0 f1
remains_same a b whole w0 w1 f0 f1 e r = record { done = r.done; parts = ap (λ (x : List ℕ). r.done ++ x) (sym e) ∙ r.parts; wrote = r.wrote }

-- the next part was written
pub remains_less : (a rest whole : List ℕ) (w0 w1 w2 : Option (List ℕ)) (f0 f1 f2 : Faults) →
    Remains (a ++ rest) whole w0 w1 f0 f1 → Puts {T = Unit {0}} {E = Failed} a w1 w2 f1 f2 (Ok tt) → Remains rest whole w0 w2 f0 f2
remains_less a rest whole w0 w1 w2 f0 f1 f2 r p = record {
  done = r.done ++ a;
  parts = append_assoc r.done a rest ∙ r.parts;
  wrote = puts_both r.done a w0 w1 w2 f0 f1 f2 tt (Ok tt) r.wrote p;
}

-- nothing is left
pub remains_none : (whole : List ℕ) (w0 w1 : Option (List ℕ)) (f0 f1 : Faults) → Remains [] whole w0 w1 f0 f1
    → Puts {T = Unit {0}} {E = Failed} whole w0 w1 f0 f1 (Ok tt)
remains_none whole w0 w1 f0 f1 r = puts_same r.done whole w0 w1 f0 f1 (Ok tt) (sym (append-nil r.done) ∙ r.parts) r.wrote

-- the next part stopped, and so does all
pub remains_stopped : {D : Type 0} (a rest whole : List ℕ) (w0 w1 w2 : Option (List ℕ)) (f0 f1 f2 : Faults) (e : Failed)
    (r : Result (Unit {0}) D) → IsErr r →
    Remains (a ++ rest) whole w0 w1 f0 f1 → Puts {T = Unit {0}} {E = Failed} a w1 w2 f1 f2 (Err e) → Puts whole w0 w2 f0 f2 r
remains_stopped a rest whole w0 w1 w2 f0 f1 f2 e r h s p =
    puts_same (s.done ++ (a ++ rest)) whole w0 w2 f0 f2 r s.parts
    (puts_same ((s.done ++ a) ++ rest) (s.done ++ (a ++ rest)) w0 w2 f0 f2 r (append_assoc s.done a rest)
    (puts_stopped_at (s.done ++ a) rest w0 w2 f0 f2 e r h (puts_both s.done a w0 w1 w2 f0 f1 f2 tt (Err e) s.wrote p)))
