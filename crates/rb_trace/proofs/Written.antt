-- A text that is written part by part.
use Rattle.std.proofs.Common.{◌≡◌, ℕ, List, [], ◌++◌, Option, Result, Ok, Err, IsErr, refl, sym, ap, ◌∙◌, append_assoc}
use Rattle.std.proofs.lemmas.List.{append-nil}
use Rattle.rb_outside.specs.declared.Failed.{Failed}
use Rattle.rb_outside.specs.Outside.{Faults}
use Rattle.rb_outside.specs.Puts.{Puts}
use Rattle.rb_outside.proofs.Puts.{puts_same, puts_both, puts_nothing, puts_stopped_at}

-- Of the whole text all but the rest was written.
pub record Written (whole rest : List ℕ) (before now : Option (List ℕ)) (faults_before faults_now : Faults) : Type 0 where
  pub front : List ℕ
  pub splits : front ++ rest ≡ whole
  pub puts : Puts {T = Unit {0}} {E = Failed} front before now faults_before faults_now (Ok tt)

-- nothing was written yet
pub written_nothing : (whole : List ℕ) (w : Option (List ℕ)) (f : Faults) → Written whole whole w w f f
written_nothing whole w f = record { front = []; splits = refl; puts = puts_nothing w f tt }

-- the next part was written
pub written_more : (whole rest part after : List ℕ) (w0 w1 w2 : Option (List ℕ)) (f0 f1 f2 : Faults) →
    Written whole rest w0 w1 f0 f1 → rest ≡ part ++ after → Puts {T = Unit {0}} {E = Failed} part w1 w2 f1 f2 (Ok tt)
    → Written whole after w0 w2 f0 f2
written_more whole rest part after w0 w1 w2 f0 f1 f2 so_far is p = record {
  front = so_far.front ++ part;
  splits = append_assoc so_far.front part after ∙ ap (λ (x : List ℕ). so_far.front ++ x) (sym is) ∙ so_far.splits;
  puts = puts_both so_far.front part w0 w1 w2 f0 f1 f2 tt (Ok tt) so_far.puts p;
}

-- the next part stopped, and the whole text with it
pub written_part : (whole rest part after : List ℕ) (w0 w1 w2 : Option (List ℕ)) (f0 f1 f2 : Faults) (e : Failed) (r : Result (Unit {0}) Failed) →
    Written whole rest w0 w1 f0 f1 → rest ≡ part ++ after → Puts {T = Unit {0}} {E = Failed} part w1 w2 f1 f2 (Err e) → IsErr r
    → Puts {T = Unit {0}} {E = Failed} whole w0 w2 f0 f2 r
written_part whole rest part after w0 w1 w2 f0 f1 f2 e r so_far is p failed =
    let both : Puts {T = Unit {0}} {E = Failed} (so_far.front ++ part) w0 w2 f0 f2 (Err e) =
    puts_both so_far.front part w0 w1 w2 f0 f1 f2 tt (Err e) so_far.puts p in
    puts_same _ _ w0 w2 f0 f2 r (append_assoc so_far.front part after ∙ ap (λ (x : List ℕ). so_far.front ++ x) (sym is) ∙ so_far.splits)
    (puts_stopped_at (so_far.front ++ part) after w0 w2 f0 f2 e r failed both)

-- nothing is left
pub written_all : (whole rest : List ℕ) (w0 w1 : Option (List ℕ)) (f0 f1 : Faults) → Written whole rest w0 w1 f0 f1
    → rest ≡ [] → Puts {T = Unit {0}} {E = Failed} whole w0 w1 f0 f1 (Ok tt)
written_all whole rest w0 w1 f0 f1 so_far none =
    puts_same _ _ w0 w1 f0 f1 (Ok tt) (sym (append-nil so_far.front) ∙ ap (λ (x : List ℕ). so_far.front ++ x) (sym none) ∙ so_far.splits) so_far.puts
