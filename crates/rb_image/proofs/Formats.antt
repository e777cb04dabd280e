-- A format: what is read is spelled so and in range, and what is in range is read again as it was spelled, whatever follows. Formats of
-- pairs, of lists, and of what is made of another.
use Rattle.std.proofs.Common.{◌≡◌, ℕ, ◌<◌, Bool, true, false, cond, List, ◌++◌, get_or, Option, Some, None, refl, sym, ap, subst, ◌∙◌, append_assoc}
use Rattle.rb_image.specs.Reading.{◌>>=◌, Reading, both, made, tested}

-- each is a byte
abbrev pub IsBytes : List ℕ → Type 0
IsBytes bytes = (i : ℕ) → get_or bytes i 0 < 256

-- what a reader took from the front
pub record Takes (bytes text rest : List ℕ) : Type 0 where
  pub parts : bytes ≡ text ++ rest
  pub rest_fits : IsBytes rest

pub record IsFormat {X : Type 0} (spell : X → List ℕ) (reading : Reading X) (Fits : X → Type 0) : Type 0 where
  pub takes : (bytes rest : List ℕ) (x : X) → IsBytes bytes → reading bytes ≡ Some (x, rest) → Takes bytes (spell x) rest × Fits x
  pub again : (x : X) (rest : List ℕ) → Fits x → reading (spell x ++ rest) ≡ Some (x, rest)

pub taken_both : (a x b y c : List ℕ) → Takes a x b → Takes b y c → Takes a (x ++ y) c
taken_both a x b y c p q =
    record { parts = p.parts ∙ ap (λ (t : List ℕ). x ++ t) q.parts ∙ sym (append_assoc x y c); rest_fits = q.rest_fits }

-- the value of a step that did not fail
pub bind_some : {A B : Type 0} (r : Option A) (f : A → Option B) (y : B) → (r >>= f) ≡ Some y → (x : A) × (r ≡ Some x) × (f x ≡ Some y)
bind_some (Some x) f y e = (x, refl, e)
bind_some None f y e = absurd cc

abbrev pub there : {A : Type 0} → A → Option A
there x = Some x

pub some_is : {A : Type 0} (x y : A) → there x ≡ there y → x ≡ y
some_is x y e = cc

pub passed : {A : Type 0} (b : Bool) (x y : A) → cond b (there x) None ≡ Some y → (b ≡ true) × (x ≡ y)
passed true x y e = (refl, cc)
passed false x y e = absurd cc

pub not_stopped : {A : Type 0} (b : Bool) (r : Option A) (y : A) → cond b None r ≡ Some y → (b ≡ false) × (r ≡ Some y)
not_stopped true r y e = absurd cc
not_stopped false r y e = (refl, e)

-- two, one behind the other
pub both_is : {X Y : Type 0} {a : X → List ℕ} {b : Y → List ℕ} {ra : Reading X} {rb : Reading Y} {A : X → Type 0} {B : Y → Type 0} →
    IsFormat a ra A → IsFormat b rb B → IsFormat (λ (x : X × Y). a x.0 ++ b x.1) (both ra rb) (λ (x : X × Y). A x.0 × B x.1)
both_is {X} {Y} {a} {b} {ra} {rb} {A} {B} first second = record {
  takes = λ bytes rest x fits e.
      let p = bind_some (ra bytes) (λ v. rb v.1 >>= λ w. Some ((v.0, w.0), w.1)) (x, rest) e in
      let q = bind_some (rb p.0.1) (λ w. Some ((p.0.0, w.0), w.1)) (x, rest) p.2 in
      let t = first.takes bytes p.0.1 p.0.0 fits p.1 in
      let u = second.takes p.0.1 q.0.1 q.0.0 t.0.rest_fits q.1 in
      subst (λ (y : (X × Y) × List ℕ). Takes bytes (a y.0.0 ++ b y.0.1) y.1 × (A y.0.0 × B y.0.1))
      (some_is ((p.0.0, q.0.0), q.0.1) (x, rest) q.2)
      (taken_both bytes (a p.0.0) p.0.1 (b q.0.0) q.0.1 t.0 u.0, (t.1, u.1));
  again = λ x rest fits.
      ap (both ra rb) (append_assoc (a x.0) (b x.1) rest)
      ∙ rw (first.again x.0 (b x.1 ++ rest) fits.0, second.again x.1 rest fits.1) refl;
}

-- the same value in another form
pub made_is : {X Y : Type 0} {spell : X → List ℕ} {reading : Reading X} {Fits : X → Type 0} (f : X → Y) (g : Y → X)
    (spelled : Y → List ℕ) (Ranges : Y → Type 0) → ((y : Y) → Ranges y → f (g y) ≡ y)
    → ((x : X) → Fits x → spelled (f x) ≡ spell x) → ((x : X) → Fits x → Ranges (f x)) → ((y : Y) → Ranges y → Fits (g y)) → IsFormat spell reading Fits
    → IsFormat spelled (made f reading) Ranges
made_is {X} {Y} {spell} {reading} {Fits} f g spelled Ranges back same to from one = record {
  takes = λ bytes rest y fits e.
      let p = bind_some (reading bytes) (λ v. Some (f v.0, v.1)) (y, rest) e in
      let t = one.takes bytes p.0.1 p.0.0 fits p.1 in
      subst (λ (z : Y × List ℕ). Takes bytes (spelled z.0) z.1 × Ranges z.0) (some_is (f p.0.0, p.0.1) (y, rest) p.2)
      (subst (λ (s : List ℕ). Takes bytes s p.0.1) (sym (same p.0.0 t.1)) t.0, to p.0.0 t.1);
  again = λ y rest fits.
      let within = from y fits in
      let spelled_so : spelled y ++ rest ≡ spell (g y) ++ rest =
      ap (λ (z : Y). spelled z ++ rest) (sym (back y fits)) ∙ ap (λ (s : List ℕ). s ++ rest) (same (g y) within) in
      ap (made f reading) spelled_so ∙ rw (one.again (g y) rest within) (ap (λ (z : Y). Some (z, rest)) (back y fits));
}

-- what passes a test
pub tested_is : {X : Type 0} {spell : X → List ℕ} {reading : Reading X} {Fits : X → Type 0} (test : X → Bool) (Ranges : X → Type 0) →
    ((x : X) → Fits x → test x ≡ true → Ranges x) → ((x : X) → Ranges x → Fits x × (test x ≡ true)) → IsFormat spell reading Fits
    → IsFormat spell (tested test reading) Ranges
tested_is {X} {spell} {reading} {Fits} test Ranges to from one = record {
  takes = λ bytes rest x fits e.
      let p = bind_some (reading bytes) (λ v. cond (test v.0) (Some v) None) (x, rest) e in
      let q = passed (test p.0.0) p.0 (x, rest) p.2 in
      let t = one.takes bytes p.0.1 p.0.0 fits p.1 in
      subst (λ (z : X × List ℕ). Takes bytes (spell z.0) z.1 × Ranges z.0) q.1 (t.0, to p.0.0 t.1 q.0);
  again = λ x rest fits. rw (one.again x rest (from x fits).0, (from x fits).1) refl;
}
