-- Bytes that are added to a block one after another, as if at once.
use Rattle.std.proofs.Common.{◌≡◌, ℕ, ◌+◌, ◌<◌, ◌≤◌, List, [], ◌∷◌, ◌++◌, length, take, get_or, Option, Result, Ok, Err, IsErr, OnOk, refl, sym, ◌∙◌, ap, subst, append_assoc}
use Rattle.std.specs.List.{flat_map}
use Rattle.std.proofs.lemmas.List.{append-nil, take_all, take_more}
use Rattle.std.proofs.lemmas.Grind.{flat_map-append}
use Rattle.rb_outside.specs.Outside.{Faults, WrotePart, then_written}
use Rattle.rb_outside.specs.Puts.{Puts}
use Rattle.rb_outside.proofs.Puts.{failed_after}
use Rattle.rb_outside.proofs.Written.{WrotePart-within, WrotePart-after, then_written-append, then_written-nil}
use Rattle.rb_trace.proofs.Spaced.{puts_part}
use Rattle.rb_run.specs.Gathers.{Gathers}

-- nothing was added
pub gathers_nothing : {T E : Type 0} (waited : List ℕ) (w : Option (List ℕ)) (f : Faults) (v : T)
    → Gathers {T = T} {E = E} [] waited waited w w f f (Ok v)
gathers_nothing waited w f v = record { ok = ([], sym (append-nil waited), sym (then_written-nil w)); quiet = refl; err = tt; failed = tt }

-- all waits
pub gathers_all : {T E : Type 0} (bytes waited waits : List ℕ) (w : Option (List ℕ)) (f : Faults) (v : T)
    → waits ≡ waited ++ bytes → Gathers {T = T} {E = E} bytes waited waits w w f f (Ok v)
gathers_all bytes waited waits w f v e = record { ok = ([], e, sym (then_written-nil w)); quiet = refl; err = tt; failed = tt }

-- all was written
pub gathers_put : {T E : Type 0} (bytes waited : List ℕ) (w0 w1 : Option (List ℕ)) (f0 f1 : Faults) (r : Result T E)
    → Puts (waited ++ bytes) w0 w1 f0 f1 r → Gathers bytes waited [] w0 w1 f0 f1 r
gathers_put bytes waited w0 w1 f0 f1 (Ok v) p =
    record { ok = (waited ++ bytes, append-nil (waited ++ bytes), p.ok); quiet = p.quiet; err = tt; failed = tt }
gathers_put bytes waited w0 w1 f0 f1 (Err e) p = record { ok = tt; quiet = tt; err = p.err; failed = p.failed }

-- none waits, and the bytes were written past the block
pub gathers_past : {T E : Type 0} (bytes waits : List ℕ) (w0 w1 : Option (List ℕ)) (f0 f1 : Faults) (r : Result T E)
    → waits ≡ [] → Puts bytes w0 w1 f0 f1 r → Gathers bytes waits waits w0 w1 f0 f1 r
gathers_past bytes waits w0 w1 f0 f1 r e p = subst (λ (l : List ℕ). Gathers bytes l l w0 w1 f0 f1 r) (sym e) (gathers_put bytes [] w0 w1 f0 f1 r p)

-- both were added
pub gathers_both : {T U E D : Type 0} (a b waited mid waits : List ℕ) (w0 w1 w2 : Option (List ℕ)) (f0 f1 f2 : Faults) (v : T) (r : Result U E) →
    Gathers {T = T} {E = D} a waited mid w0 w1 f0 f1 (Ok v) → Gathers b mid waits w1 w2 f1 f2 r → Gathers (a ++ b) waited waits w0 w2 f0 f2 r
gathers_both a b waited mid waits w0 w1 w2 f0 f1 f2 v (Ok u) p q = record {
  ok = (
    p.ok.0 ++ q.ok.0,
    append_assoc p.ok.0 q.ok.0 waits ∙ ap (λ (l : List ℕ). p.ok.0 ++ l) q.ok.1 ∙ sym (append_assoc p.ok.0 mid b)
        ∙ ap (λ (l : List ℕ). l ++ b) p.ok.1 ∙ append_assoc waited a b,
    q.ok.2 ∙ ap (λ w. then_written w q.ok.0) p.ok.2 ∙ then_written-append w0 p.ok.0 q.ok.0,
  );
  quiet = q.quiet ∙ p.quiet;
  err = tt;
  failed = tt;
}
gathers_both a b waited mid waits w0 w1 w2 f0 f1 f2 v (Err e) p q = record {
  ok = tt;
  quiet = tt;
  err = subst (WrotePart w0 w2) whole (WrotePart-after w0 w1 w2 p.ok.0 (mid ++ b) p.ok.2 q.err);
  failed = failed_after f0 f1 f2 p.quiet q.failed;
}
  where
    whole : p.ok.0 ++ (mid ++ b) ≡ waited ++ (a ++ b)
    whole = sym (append_assoc p.ok.0 mid b) ∙ ap (λ (l : List ℕ). l ++ b) p.ok.1 ∙ append_assoc waited a b

-- the first stopped, and so both do
pub gathers_stopped : {T U E D : Type 0} (a b waited mid waits : List ℕ) (w0 w1 : Option (List ℕ)) (f0 f1 : Faults) (e : E) (d : D) →
    Gathers {T = T} a waited mid w0 w1 f0 f1 (Err e) → Gathers {T = U} (a ++ b) waited waits w0 w1 f0 f1 (Err d)
gathers_stopped a b waited mid waits w0 w1 f0 f1 e d p = record {
  ok = tt;
  quiet = tt;
  err = subst (WrotePart w0 w1) (append_assoc waited a b) (WrotePart-within w0 w1 (waited ++ a) b p.err);
  failed = p.failed;
}

-- the first stopped, and what is answered is an error
pub gathers_stopped_at : {T U E D : Type 0} (a b waited mid waits : List ℕ) (w0 w1 : Option (List ℕ)) (f0 f1 : Faults) (e : E) (r : Result U D) →
    IsErr r → Gathers {T = T} a waited mid w0 w1 f0 f1 (Err e) → Gathers (a ++ b) waited waits w0 w1 f0 f1 r
gathers_stopped_at a b waited mid waits w0 w1 f0 f1 e (Ok u) h p = absurd (cc)
gathers_stopped_at a b waited mid waits w0 w1 f0 f1 e (Err d) h p = gathers_stopped a b waited mid waits w0 w1 f0 f1 e d p

-- another name for the bytes
pub gathers_same : {T E : Type 0} (a b waited waits : List ℕ) (w0 w1 : Option (List ℕ)) (f0 f1 : Faults) (r : Result T E) →
    a ≡ b → Gathers a waited waits w0 w1 f0 f1 r → Gathers b waited waits w0 w1 f0 f1 r
gathers_same a b waited waits w0 w1 f0 f1 r e p = subst (λ x. Gathers x waited waits w0 w1 f0 f1 r) e p

-- what was added to an empty block that is empty again was written; and writing stopped where adding stopped
pub gathered_puts : {T E : Type 0} (bytes waits : List ℕ) (w0 w1 : Option (List ℕ)) (f0 f1 : Faults) (r : Result T E)
    → OnOk r (waits ≡ []) → Gathers bytes [] waits w0 w1 f0 f1 r → Puts bytes w0 w1 f0 f1 r
gathered_puts bytes waits w0 w1 f0 f1 (Ok v) none p = record {
  ok = p.ok.2 ∙ ap (then_written w0) (sym (append-nil p.ok.0) ∙ ap (λ (l : List ℕ). p.ok.0 ++ l) (sym none) ∙ p.ok.1);
  quiet = p.quiet;
  err = tt;
  failed = tt;
}
gathered_puts bytes waits w0 w1 f0 f1 (Err e) none p = record { ok = tt; quiet = tt; err = p.err; failed = p.failed }

-- one element more of a list was added, each by a function
pub gathers_next : {X T U E D : Type 0} (f : X → List ℕ) (xs : List X) (i : ℕ) (d : X) → i < length xs →
    (waited mid waits : List ℕ) (w0 w1 w2 : Option (List ℕ)) (f0 f1 f2 : Faults) (v : T) (r : Result U E) →
    Gathers {T = T} {E = D} (flat_map f (take i xs)) waited mid w0 w1 f0 f1 (Ok v) → Gathers (f (get_or xs i d)) mid waits w1 w2 f1 f2 r →
    Gathers (flat_map f (take (i + 1) xs)) waited waits w0 w2 f0 f2 r
gathers_next f xs i d h waited mid waits w0 w1 w2 f0 f1 f2 v r p q =
    gathers_same _ _ _ _ _ _ _ _ _ (sym grown) (gathers_both _ _ _ _ _ _ _ _ _ _ _ _ _ p q)
  where
    grown : flat_map f (take (i + 1) xs) ≡ flat_map f (take i xs) ++ f (get_or xs i d)
    grown = ap (flat_map f) (take_more xs i d h) ∙ flat_map-append f (take i xs) (get_or xs i d ∷ [])
        ∙ ap (λ (l : List ℕ). flat_map f (take i xs) ++ l) (append-nil (f (get_or xs i d)))

-- adding stopped within a list
pub gathered_part : {X T U E D : Type 0} (f : X → List ℕ) (xs : List X) (n : ℕ) (waits : List ℕ) (w0 w1 : Option (List ℕ))
    (f0 f1 : Faults) (e : E) (r : Result U D) →
    IsErr r → Gathers {T = T} (flat_map f (take n xs)) [] waits w0 w1 f0 f1 (Err e) → Puts (flat_map f xs) w0 w1 f0 f1 r
gathered_part {T = T} f xs n waits w0 w1 f0 f1 e r h p =
    puts_part {T = T} f xs n w0 w1 f0 f1 e r h (record { ok = tt; quiet = tt; err = p.err; failed = p.failed })

-- a whole list was added, and then what waited was put
pub gathered_whole : {X T U E D : Type 0} (f : X → List ℕ) (xs : List X) (n : ℕ) (mid waits : List ℕ)
    (w0 w1 w2 : Option (List ℕ)) (f0 f1 f2 : Faults) (v : T) (r : Result U E)
    → length xs ≤ n →
    Gathers {T = T} {E = D} (flat_map f (take n xs)) [] mid w0 w1 f0 f1 (Ok v) → Gathers [] mid waits w1 w2 f1 f2 r
    → OnOk r (waits ≡ []) → Puts (flat_map f xs) w0 w2 f0 f2 r
gathered_whole f xs n mid waits w0 w1 w2 f0 f1 f2 v r h p q none =
    gathered_puts (flat_map f xs) waits w0 w2 f0 f2 r none
    (gathers_same _ _ _ _ _ _ _ _ _ (append-nil (flat_map f (take n xs)) ∙ ap (flat_map f) (take_all n xs h))
    (gathers_both _ _ _ _ _ _ _ _ _ _ _ _ _ p q))
