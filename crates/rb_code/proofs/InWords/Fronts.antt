-- Words of the front that are written: the held length and the cursors.
use Rattle.std.proofs.Common.{◌≡◌, ◌<◌, ℕ, zero, suc, ℤ, pos, nat_eq, cond, Bool, true, false, List, [], ◌∷◌, length, slice_get, slice_set, unwrap_or, Some, refl, sym, ap, ◌∙◌, subst, arith}
use Rattle.std.proofs.lemmas.Bool.{eqb-true}
use Rattle.std.proofs.lemmas.List.{length-set, set-append_left}
use Rattle.rb_meaning.specs.Environment.{Environment}
use Rattle.rb_code.specs.Instructions.Plain.{Part}
use Rattle.rb_code.specs.WordMachine.Workspace.{OpenCall, cursor_place, place_among, variables_place, word_at}
use Rattle.rb_code.proofs.InWords.LaidOut.{Laid, flat}

-- the word that is written, and any other
get_set_same : (xs : List ℤ) (k : ℕ) (x : ℤ) → k < length xs → slice_get (slice_set xs k x) k ≡ Some x
get_set_same [] k x h = absurd (omega arith)
get_set_same (y ∷ ys) zero x h = refl
get_set_same (y ∷ ys) (suc k) x h = get_set_same ys k x (omega arith)

get_set_other : (xs : List ℤ) (k j : ℕ) (x : ℤ) → (j ≡ k → ⊥) → slice_get (slice_set xs k x) j ≡ slice_get xs j
get_set_other [] k j x h = refl
get_set_other (y ∷ ys) zero zero x h = absurd (h refl)
get_set_other (y ∷ ys) zero (suc j) x h = refl
get_set_other (y ∷ ys) (suc k) zero x h = refl
get_set_other (y ∷ ys) (suc k) (suc j) x h = get_set_other ys k j x (λ e. h (ap suc e))

pub word_set : (all : List ℤ) (k : ℕ) (v : ℤ) → k < length all → word_at (slice_set all k v) k ≡ v
word_set all k v h = ap (λ o. unwrap_or o (pos 0)) (get_set_same all k v h)

pub word_other : (all : List ℤ) (k j : ℕ) (v : ℤ) → (j ≡ k → ⊥) → word_at (slice_set all k v) j ≡ word_at all j
word_other all k j v h = ap (λ o. unwrap_or o (pos 0)) (get_set_other all k j v h)

-- two channels of a list have places of their own
pub place_apart : (c d : ℕ) (channels : List ℕ) → place_among c channels ≡ place_among d channels → place_among c channels < length channels → c ≡ d
place_apart c d [] e h = absurd (omega arith)
place_apart c d (x ∷ others) e h = by (place_apart c d others) (nat_eq x c) (nat_eq x d) refl refl e h
  where
    by : (place_among c others ≡ place_among d others → place_among c others < length others → c ≡ d) → (b1 b2 : Bool)
        → nat_eq x c ≡ b1 → nat_eq x d ≡ b2
        → cond b1 0 (suc (place_among c others)) ≡ cond b2 0 (suc (place_among d others))
        → cond b1 0 (suc (place_among c others)) < suc (length others) → c ≡ d
    by next true true p q e h = sym (eqb-true x c p) ∙ eqb-true x d q
    by next true false p q e h = absurd (omega arith)
    by next false true p q e h = absurd (omega arith)
    by next false false p q e h = next (omega arith) (omega arith)

pub cursor_apart : (part : Part) (c d : ℕ) → place_among c part.channels < length part.channels → (c ≡ d → ⊥)
    → cursor_place part d ≡ cursor_place part c → ⊥
cursor_apart part c d h other e = let f : place_among c part.channels ≡ place_among d part.channels =
    omega arith in other (place_apart c d part.channels f h)

-- the words with one of the front written
pub laid_written : (part : Part) (front : List ℤ) (env : Environment) (all : List ℤ) (calls : List OpenCall) (k : ℕ) (v : ℤ)
    → Laid part front env all calls
    → k < variables_place part → Laid part (slice_set front k v) env (slice_set all k v) calls
laid_written part front env all calls k v l h = record {
  long = length-set front k v ∙ l.long;
  is = ap (λ ws. slice_set ws k v) l.is ∙ set-append_left front (flat env) k v (subst (λ n. k < n) (sym l.long) h);
  globals = l.globals;
  based = l.based;
}
