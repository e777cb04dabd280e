-- The formats of what stands behind a number: optional numbers, words of a process, and the edition.
use Rattle.std.proofs.Common.{◌≡◌, ℕ, zero, suc, List, ◌++◌, Option, Some, None, refl, sym, ap, ◌∙◌, subst, arith, append_assoc}
use Rattle.rb_base.specs.declared.edition.Edition.{Edition}
use Rattle.rb_base.specs.declared.edition.Edition.TheVariants.{First, Second}
use Rattle.rb_code.specs.declared.instr.Spot.{Spot}
use Rattle.rb_code.specs.declared.instr.Spot.TheVariants.{Global, Local}
use Rattle.rb_image.specs.Pieces.{natural, optional, spot}
use Rattle.rb_image.specs.Image.{edition_number}
use Rattle.rb_image.specs.Ranges.{IsNatural, IsOptional, IsSpot}
use Rattle.rb_image.specs.Reading.{◌>>=◌, Reading, made, natural_at, optional_at, optional_behind, spot_at, spot_behind, word_at}
use Rattle.rb_image.specs.ReadParts.{edition_at, edition_behind}
use Rattle.rb_image.proofs.Formats.{IsBytes, IsFormat, Takes, bind_some, some_is, taken_both}
use Rattle.rb_image.proofs.Numbers.{natural_is, word_is}

-- a number behind which stands what it says
module _ {X : Type 0} (behind : ℕ → Reading X) (spell : X → List ℕ) (Fits : X → Type 0)
    (takes : (n : ℕ) (bytes after rest : List ℕ) (x : X) → Takes bytes (natural n) after → behind n after ≡ Some (x, rest)
    → Takes bytes (spell x) rest × Fits x) where
  flag_takes : (bytes rest : List ℕ) (x : X) → IsBytes bytes → (word_at bytes >>= λ n. behind n.0 n.1) ≡ Some (x, rest)
      → Takes bytes (spell x) rest × Fits x
  flag_takes bytes rest x fits e =
      let b = bind_some (word_at bytes) (λ n. behind n.0 n.1) (x, rest) e in
      takes b.0.0 bytes b.0.1 rest x (word_is.takes bytes b.0.1 b.0.0 fits b.1).0 b.2

-- a number behind a number
module _ {X : Type 0} (f : ℕ → X) (n : ℕ) (spell : X → List ℕ) (Fits : X → Type 0)
    (same : (k : ℕ) → spell (f k) ≡ natural n ++ natural k) (to : (k : ℕ) → IsNatural k → Fits (f k)) where
  numbered : (bytes after rest : List ℕ) (x : X) → Takes bytes (natural n) after → made f natural_at after ≡ Some (x, rest)
      → Takes bytes (spell x) rest × Fits x
  numbered bytes after rest x flag e =
      let b = bind_some (natural_at after) (λ v. Some (f v.0, v.1)) (x, rest) e in
      let t = natural_is.takes after b.0.1 b.0.0 flag.rest_fits b.1 in
      let whole : Takes bytes (natural n ++ natural b.0.0) b.0.1 = taken_both bytes (natural n) after (natural b.0.0) b.0.1 flag t.0 in
      subst (λ (p : X × List ℕ). Takes bytes (spell p.0) p.1 × Fits p.0) (some_is (f b.0.0, b.0.1) (x, rest) b.2)
      (subst (λ (s : List ℕ). Takes bytes s b.0.1) (sym (same b.0.0)) whole, to b.0.0 t.1)

optional_takes : (n : ℕ) (bytes after rest : List ℕ) (o : Option ℕ) → Takes bytes (natural n) after
    → optional_behind n after ≡ Some (o, rest) → Takes bytes (optional o) rest × IsOptional o
optional_takes zero bytes after rest o flag e =
    subst (λ (p : Option ℕ × List ℕ). Takes bytes (optional p.0) p.1 × IsOptional p.0) (some_is (None, after) (o, rest) e) (flag, tt)
optional_takes (suc zero) bytes after rest o flag e =
    numbered (λ n. Some n) 1 optional IsOptional (λ _. refl) (λ _ fits. fits) bytes after rest o flag e
optional_takes (suc (suc n)) bytes after rest o flag e = absurd cc

optional_again : (o : Option ℕ) (rest : List ℕ) → IsOptional o → optional_at (optional o ++ rest) ≡ Some (o, rest)
unfolding optional_at
optional_again None rest fits = rw (word_is.again 0 rest (omega arith)) refl
optional_again (Some n) rest fits =
    ap optional_at (append_assoc (natural 1) (natural n) rest)
    ∙ rw (word_is.again 1 (natural n ++ rest) (omega arith), natural_is.again n rest fits) refl

pub optional_is : IsFormat optional optional_at IsOptional
unfolding optional_at
optional_is = record { takes = flag_takes optional_behind optional IsOptional optional_takes; again = optional_again }

spot_takes : (n : ℕ) (bytes after rest : List ℕ) (v : Spot) → Takes bytes (natural n) after
    → spot_behind n after ≡ Some (v, rest) → Takes bytes (spot v) rest × IsSpot v
spot_takes zero bytes after rest v flag e = numbered Global 0 spot IsSpot (λ _. refl) (λ _ fits. fits) bytes after rest v flag e
spot_takes (suc zero) bytes after rest v flag e = numbered Local 1 spot IsSpot (λ _. refl) (λ _ fits. fits) bytes after rest v flag e
spot_takes (suc (suc n)) bytes after rest v flag e = absurd cc

spot_again : (v : Spot) (rest : List ℕ) → IsSpot v → spot_at (spot v ++ rest) ≡ Some (v, rest)
unfolding spot_at
spot_again (Global k) rest fits =
    ap spot_at (append_assoc (natural 0) (natural k) rest)
    ∙ rw (word_is.again 0 (natural k ++ rest) (omega arith), natural_is.again k rest fits) refl
spot_again (Local k) rest fits =
    ap spot_at (append_assoc (natural 1) (natural k) rest)
    ∙ rw (word_is.again 1 (natural k ++ rest) (omega arith), natural_is.again k rest fits) refl

pub spot_is : IsFormat spot spot_at IsSpot
unfolding spot_at
spot_is = record { takes = flag_takes spot_behind spot IsSpot spot_takes; again = spot_again }

abbrev spelled : Edition → List ℕ
spelled edition = natural (edition_number edition)

edition_takes : (n : ℕ) (bytes after rest : List ℕ) (edition : Edition) → Takes bytes (natural n) after
    → edition_behind n after ≡ Some (edition, rest) → Takes bytes (spelled edition) rest × Unit {0}
edition_takes zero bytes after rest edition flag e = absurd cc
edition_takes (suc zero) bytes after rest edition flag e =
    subst (λ (p : Edition × List ℕ). Takes bytes (spelled p.0) p.1 × Unit {0}) (some_is (First, after) (edition, rest) e) (flag, tt)
edition_takes (suc (suc zero)) bytes after rest edition flag e =
    subst (λ (p : Edition × List ℕ). Takes bytes (spelled p.0) p.1 × Unit {0}) (some_is (Second, after) (edition, rest) e) (flag, tt)
edition_takes (suc (suc (suc n))) bytes after rest edition flag e = absurd cc

edition_again : (edition : Edition) (rest : List ℕ) → Unit {0} → edition_at (spelled edition ++ rest) ≡ Some (edition, rest)
unfolding edition_at
edition_again First rest fits = rw (word_is.again 1 rest (omega arith)) refl
edition_again Second rest fits = rw (word_is.again 2 rest (omega arith)) refl

pub edition_is : IsFormat (λ edition. natural (edition_number edition)) edition_at (λ _. Unit {0})
unfolding edition_at
edition_is = record { takes = flag_takes edition_behind spelled (λ _. Unit {0}) edition_takes; again = edition_again }
