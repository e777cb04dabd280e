-- How a list, and the whole draft, goes on from one state to another.
use Rattle.std.proofs.Common.{◌≡◌, ℕ, zero, suc, ◌+◌, ◌≤◌, List, [], ◌∷◌, ◌++◌, Some, length, refl, sym, ap, ◌∙◌, arith, length-append}
use Rattle.std.specs.Prelude.{false, slice_get, slice_set, option_map}
use Rattle.rb_world.proofs.ListFacts.{slice_get-front}
use Rattle.rb_code.specs.Instructions.Plain.{Block, Code}
use Rattle.rb_code.specs.Agreement.StandsFor.{numbers_from, text_numbers}
use Rattle.rb_code.specs.declared.instr.Instr.{Instr}
use Rattle.rb_code.specs.declared.instr.Instr.TheVariants.{Text}
use Rattle.rb_draft.specs.Output.{Output, is_text}
use Rattle.rb_draft.specs.Emits.{Grows, Keeps, Follows, Covers, Includes}

pub get_end : {A : Type 0} (xs : List A) (y : A) → slice_get (xs ++ (y ∷ [])) (length xs) ≡ Some y
get_end [] y = refl
get_end (x ∷ xs) y = get_end xs y

pub get_other : {A : Type 0} (xs : List A) (k i : ℕ) (y : A) → (k ≡ i → ⊥) → slice_get (slice_set xs k y) i ≡ slice_get xs i
get_other [] k i y h = refl
get_other (x ∷ xs) zero zero y h = absurd (h refl)
get_other (x ∷ xs) zero (suc i) y h = refl
get_other (x ∷ xs) (suc k) zero y h = refl
get_other (x ∷ xs) (suc k) (suc i) y h = get_other xs k i y (λ e. h (ap suc e))

pub same_length : {A : Type 0} (xs : List A) (k : ℕ) (y : A) → length (slice_set xs k y) ≡ length xs
same_length [] k y = refl
same_length (x ∷ xs) zero y = refl
same_length (x ∷ xs) (suc k) y = ap suc (same_length xs k y)

-- the numbers of texts that two lists of instructions name
pub texts-append : (xs ys : List Instr) → text_numbers (xs ++ ys) ≡ text_numbers xs ++ text_numbers ys
texts-append [] ys = refl
texts-append (Text k ∷ xs) ys = ap (λ l. k ∷ l) (texts-append xs ys)
texts-append (x ∷ xs) ys = texts-append xs ys

pub append-none : {A : Type 0} (xs : List A) → xs ++ [] ≡ xs
append-none [] = refl
append-none (x ∷ xs) = ap (λ l. x ∷ l) (append-none xs)

no_text : (x : Instr) → is_text x ≡ false → text_numbers (x ∷ []) ≡ []
no_text (Text k) e = cc
no_text x e = refl

-- an instruction more that names no text
pub texts-added : (xs : List Instr) (x : Instr) → is_text x ≡ false → text_numbers (xs ++ (x ∷ [])) ≡ text_numbers xs
texts-added xs x e = texts-append xs (x ∷ []) ∙ ap (λ l. text_numbers xs ++ l) (no_text x e) ∙ append-none (text_numbers xs)

-- one in the place of another that names the same texts
pub texts-same : (xs : List Instr) (n : ℕ) (x y : Instr) → slice_get xs n ≡ Some y → text_numbers (x ∷ []) ≡ text_numbers (y ∷ [])
    → text_numbers (slice_set xs n x) ≡ text_numbers xs
texts-same [] n x y at e = refl
texts-same (z ∷ xs) zero x y at e =
    let same : z ≡ y = cc in
    texts-append (x ∷ []) xs ∙ ap (λ l. l ++ text_numbers xs) (e ∙ ap (λ w. text_numbers (w ∷ [])) (sym same)) ∙ sym (texts-append (z ∷ []) xs)
texts-same (Text k ∷ xs) (suc n) x y at e = ap (λ l. k ∷ l) (texts-same xs n x y at e)
texts-same (z ∷ xs) (suc n) x y at e = texts-same xs n x y at e

-- one in the place of another, and neither names a text
pub texts-set : (xs : List Instr) (n : ℕ) (x y : Instr) → slice_get xs n ≡ Some y → is_text y ≡ false → is_text x ≡ false
    → text_numbers (slice_set xs n x) ≡ text_numbers xs
texts-set xs n x y at e f = texts-same xs n x y at (no_text x f ∙ sym (no_text y e))

-- one number more
pub numbers-append : {A : Type 0} (k : ℕ) (xs : List A) (y : A) → numbers_from k (xs ++ (y ∷ [])) ≡ numbers_from k xs ++ ((k + length xs) ∷ [])
numbers-append k [] y = ap (λ n. n ∷ []) (omega arith)
numbers-append k (x ∷ xs) y = ap (λ l. k ∷ l) (numbers-append (k + 1) xs y ∙ ap (λ n. numbers_from (k + 1) xs ++ (n ∷ [])) (omega arith))

pub grows_self : {A : Type 0} (xs : List A) → Grows xs xs
grows_self xs = record { longer = omega arith; kept = λ i h. refl }

pub grows_more : {A : Type 0} (xs ys : List A) → Grows xs (xs ++ ys)
grows_more xs ys = record { longer = omega (arith, length-append xs ys); kept = λ i h. slice_get-front xs ys i h }

pub grows_on : {A : Type 0} {xs ys zs : List A} → Grows xs ys → Grows ys zs → Grows xs zs
grows_on f g = record {
  longer = omega (arith, f.longer, g.longer);
  kept = λ i h. g.kept i (omega (arith, f.longer)) ∙ f.kept i h;
}

pub keeps_self : (n : ℕ) (xs : List Block) → Keeps n n xs xs
keeps_self n xs = record { long = refl; kept = λ i h. refl }

pub keeps_on : {m n k : ℕ} {xs ys zs : List Block} → m ≤ n → n ≤ k → Keeps m n xs ys → Keeps n k ys zs → Keeps m k xs zs
keeps_on a b f g = record {
  long = g.long ∙ f.long;
  kept = λ i h. g.kept i (λ l r. h (omega arith) r) ∙ f.kept i (λ l r. h l (omega arith));
}

pub follows_self : (n : ℕ) (c : Output) → Follows n n c c
follows_self n c = record {
  rises = omega arith;
  instrs = grows_self c.instrs;
  texts = grows_self c.texts;
  blocks = keeps_self n c.blocks;
  numbered = λ e. e;
}

pub follows_on : {m n k : ℕ} {c d e : Output} → Follows m n c d → Follows n k d e → Follows m k c e
follows_on f g = record {
  rises = omega (arith, f.rises, g.rises);
  instrs = grows_on f.instrs g.instrs;
  texts = grows_on f.texts g.texts;
  blocks = keeps_on f.rises g.rises f.blocks g.blocks;
  numbered = λ e. g.numbered (f.numbered e);
}

covers_front : {A : Type 0} (form : A → A) (n : ℕ) {ys zs ws : List A} → Grows ys zs → Covers form n zs ws → Covers form n ys ws
covers_front form n g c = record { has = λ i h k. c.has i h (omega (arith, g.longer)) ∙ ap (option_map form) (g.kept i k) }

covers_back : {A : Type 0} (form : A → A) (xs : List A) {ys zs ws : List A} → Grows xs ys → Covers form (length xs) zs ws
    → Covers form (length ys) zs ws
covers_back form xs g c = record { has = λ i h k. c.has i (omega (arith, g.longer)) k }

-- what includes all includes the first part, and the second
pub includes_front : {link : Code → Instr → Instr} {m n k : ℕ} {c d e : Output} {w : Code} → Follows m n c d
    → Follows n k d e → Includes link m k c e w → Includes link m n c d w
includes_front {link = link} {m = m} {n = n} {k = k} {c = c} {w = w} f g i = record {
  instrs = covers_front (link w) (length c.instrs) g.instrs i.instrs;
  texts = covers_front (λ text. text) (length c.texts) g.texts i.texts;
  blocks = record {
    room = omega (arith, i.blocks.room, g.blocks.long, g.rises);
    has = λ b h l. i.blocks.has b h (omega (arith, g.rises)) ∙ g.blocks.kept b (λ u v. omega arith);
  };
}

pub includes_back : {link : Code → Instr → Instr} {m n k : ℕ} {c d e : Output} {w : Code} → Follows m n c d
    → Includes link m k c e w → Includes link n k d e w
includes_back {link = link} {c = c} {w = w} f i = record {
  instrs = covers_back (link w) c.instrs f.instrs i.instrs;
  texts = covers_back (λ text. text) c.texts f.texts i.texts;
  blocks = record {
    room = i.blocks.room;
    has = λ b h l. i.blocks.has b (omega (arith, f.rises)) l;
  };
}

-- the same where the second part has the entries before those of the first
pub follows_back : {m n k : ℕ} {c d e : Output} → Follows n k c d → Follows m n d e → Follows m k c e
follows_back f g = record {
  rises = omega (arith, f.rises, g.rises);
  instrs = grows_on f.instrs g.instrs;
  texts = grows_on f.texts g.texts;
  blocks = record {
    long = g.blocks.long ∙ f.blocks.long;
    kept = λ i h. g.blocks.kept i (λ l r. h l (omega (arith, f.rises))) ∙ f.blocks.kept i (λ l r. h (omega (arith, g.rises)) r);
  };
  numbered = λ e. g.numbered (f.numbered e);
}

pub includes_late : {link : Code → Instr → Instr} {m n k : ℕ} {c d e : Output} {w : Code} → Follows n k c d
    → Follows m n d e → Includes link m k c e w → Includes link n k c d w
includes_late {link = link} {c = c} {w = w} f g i = record {
  instrs = covers_front (link w) (length c.instrs) g.instrs i.instrs;
  texts = covers_front (λ text. text) (length c.texts) g.texts i.texts;
  blocks = record {
    room = omega (arith, i.blocks.room, g.blocks.long);
    has = λ b h l. i.blocks.has b (omega (arith, g.rises)) l ∙ g.blocks.kept b (λ u v. omega arith);
  };
}

pub includes_early : {link : Code → Instr → Instr} {m n k : ℕ} {c d e : Output} {w : Code} → Follows n k c d
    → Follows m n d e → Includes link m k c e w → Includes link m n d e w
includes_early {link = link} {c = c} {w = w} f g i = record {
  instrs = covers_back (link w) c.instrs f.instrs i.instrs;
  texts = covers_back (λ text. text) c.texts f.texts i.texts;
  blocks = record {
    room = omega (arith, i.blocks.room, f.rises);
    has = λ b h l. i.blocks.has b h (omega (arith, f.rises));
  };
}
