-- Two codes side by side: where their instructions are alike, that is the same but for the numbers of texts, and which templates determine
-- what lies from one address up to another.
use Rattle.std.proofs.Common.{◌≡◌, ℕ, ◌<◌, ◌≤◌, nat_lt, Bool, true, false, List, ◌∷◌, slice_get, Option, Some, None, refl, ap, sym, ◌∙◌, arith}
use Rattle.rb_code.specs.Instructions.Plain.{Block, Code}
use Rattle.rb_code.specs.Agreement.Template.{Template, One, ◌⨾◌, Empty, Only, At, Label, Quoted, WithBlock, Listed}
use Rattle.rb_code.specs.declared.instr.Instr.{Instr}
use Rattle.rb_code.specs.declared.instr.Instr.TheVariants.{Text}

-- an instruction as it is listed: with its text in place of the text's number
abbrev pub shown : Code → Option Instr → Option Instr × Option (Option (List ℕ))
shown c None = (None, None)
shown c (Some (Text k)) = (Some (Text 0), Some (slice_get c.texts k))
shown c (Some instr) = (Some instr, None)

module _ (c d : Code) where
  -- the instructions of both codes are listed alike from one address up to another
  abbrev pub AlikeBetween : ℕ → ℕ → Type 0
  AlikeBetween a b = (z : ℕ) → a ≤ z → z < b → shown c (slice_get c.instrs z) ≡ shown d (slice_get d.instrs z)

  pub alike_none : (a b : ℕ) → b ≡ a → AlikeBetween a b
  alike_none a b e z low high = absurd (omega arith)

  pub alike_both : (a m b : ℕ) → AlikeBetween a m → AlikeBetween m b → AlikeBetween a b
  alike_both a m b f g z low high = by (nat_lt z m) refl
    where
      by : (t : Bool) → nat_lt z m ≡ t → shown c (slice_get c.instrs z) ≡ shown d (slice_get d.instrs z)
      by true e = f z low (grind arith)
      by false e = g z (grind arith) high

  pub alike_one : (i j : Instr) (a b x y : ℕ) → shown c (Some i) ≡ shown d (Some j) → a ≡ x → One i c a b → One j d x y → AlikeBetween a b
  alike_one i j a b x y e at p q z low high =
      let here : z ≡ a = (let n = p.1 in omega arith) in
      ap (λ n. shown c (slice_get c.instrs n)) here ∙ ap (shown c) p.0 ∙ e ∙ sym (ap (shown d) q.0)
      ∙ ap (λ n. shown d (slice_get d.instrs n)) (sym at ∙ sym here)

  -- From one address on two templates, each of its code, come to one end; what they tell of what both know; and where something else is the
  -- same for both, their instructions are alike.
  pub record Same (asks tells : Type 0) (P Q : Template) : Type 0 where
    pub ends : (a b x y : ℕ) → a ≡ x → P c a b → Q d x y → b ≡ y
    pub told : (a b x y : ℕ) → a ≡ x → P c a b → Q d x y → tells
    pub alike : asks → (a b x y : ℕ) → a ≡ x → P c a b → Q d x y → AlikeBetween a b

  -- which ask and tell nothing
  abbrev pub Fixed : Template → Type 0
  Fixed P = Same (Unit {0}) (Unit {0}) P P

  -- an instruction, and one that is known
  pub same_one : (i j : Instr) → Same (shown c (Some i) ≡ shown d (Some j)) (Unit {0}) (One i) (One j)
  same_one i j = record {
    ends = λ a b x y at p q. let n = p.1 in let m = q.1 in omega arith;
    told = λ a b x y at p q. tt;
    alike = λ e a b x y at p q. alike_one i j a b x y e at p q;
  }

  pub fixed_one : (i : Instr) → shown c (Some i) ≡ shown d (Some i) → Fixed (One i)
  fixed_one i e = record {
    ends = λ a b x y at p q. let n = p.1 in let m = q.1 in omega arith;
    told = λ a b x y at p q. tt;
    alike = λ u a b x y at p q. alike_one i i a b x y e at p q;
  }

  -- one after another
  pub same_then : {H T K U : Type 0} {P P' Q Q' : Template} → Same H T P P' → Same K U Q Q' → Same (H × K) (T × U) (P ⨾ Q) (P' ⨾ Q')
  same_then f g = record {
    ends = λ a b x y at (m, p, q) (n, r, s). g.ends m b n y (f.ends a m x n at p r) q s;
    told = λ a b x y at (m, p, q) (n, r, s). (f.told a m x n at p r, g.told m b n y (f.ends a m x n at p r) q s);
    alike = λ (h, k) a b x y at (m, p, q) (n, r, s). alike_both a m b (f.alike h a m x n at p r) (g.alike k m b n y (f.ends a m x n at p r) q s);
  }

  -- nothing, a fact, and the address of a label
  pub same_empty : Fixed Empty
  same_empty = record {
    ends = λ a b x y at p q. p ∙ at ∙ sym q;
    told = λ a b x y at p q. tt;
    alike = λ u a b x y at p q. alike_none a b p;
  }

  pub same_only : {T : Type 0} (X Y : Type 0) → (X → Y → T) → Same (Unit {0}) T (Only X) (Only Y)
  same_only X Y tells = record {
    ends = λ a b x y at p q. p.1 ∙ at ∙ sym q.1;
    told = λ a b x y at p q. tells p.0 q.0;
    alike = λ u a b x y at p q. alike_none a b p.1;
  }

  pub same_at : (label other : ℕ) → Same (Unit {0}) (label ≡ other) (At label) (At other)
  same_at label other = record {
    ends = λ a b x y at p q. p.1 ∙ at ∙ sym q.1;
    told = λ a b x y at p q. sym p.0 ∙ at ∙ q.0;
    alike = λ u a b x y at p q. alike_none a b p.1;
  }

  -- what is told by a template answers what it asks
  pub same_closed : {H T K U : Type 0} {P Q : Template} → Same H T P Q → (K → T → H) → (T → U) → Same K U P Q
  same_closed f answers tells = record {
    ends = f.ends;
    told = λ a b x y at p q. tells (f.told a b x y at p q);
    alike = λ k a b x y at p q. f.alike (answers k (f.told a b x y at p q)) a b x y at p q;
  }

  -- labels
  pub same_label : {H T : Type 0} (P Q : ℕ → Template) → ((l m : ℕ) → Same H T (P l) (Q m)) → Same H T (Label P) (Label Q)
  same_label P Q f = record {
    ends = λ a b x y at (l, p) (m, q). (f l m).ends a b x y at p q;
    told = λ a b x y at (l, p) (m, q). (f l m).told a b x y at p q;
    alike = λ h a b x y at (l, p) (m, q). (f l m).alike h a b x y at p q;
  }

  pub same_labels : {H T : Type 0} (P : ℕ → ℕ → Template) → ((l m k n : ℕ) → Same H T (P l m) (P k n))
      → Same H T (Label (λ l. Label (λ m. P l m))) (Label (λ l. Label (λ m. P l m)))
  same_labels P f = same_label (λ l. Label (λ m. P l m)) (λ l. Label (λ m. P l m)) (λ l k. same_label (P l) (P k) (λ m n. f l m k n))

  -- a text, which both lists of texts have
  pub same_text : (text : List ℕ) → Fixed (Quoted text)
  same_text text = record {
    ends = λ a b x y at (k, here, p) (l, there, q). let n = p.1 in let m = q.1 in omega arith;
    told = λ a b x y at p q. tt;
    alike = λ u a b x y at (k, here, p) (l, there, q).
        alike_one (Text k) (Text l) a b x y (ap (λ o. (Some (Text 0), Some o)) (here ∙ sym there)) at p q;
  }

  -- an entry of the list of recovery blocks, which both codes have
  pub same_block : {H T : Type 0} (number : ℕ) (P : Block → Template) → ((block other : Block) → Same H ((block ≡ other) × T) (P block) (P other))
      → Same H ((slice_get c.blocks number ≡ slice_get d.blocks number) × T) (WithBlock number P) (WithBlock number P)
  same_block number P f = record {
    ends = λ a b x y at (block, here, p) (other, there, q). (f block other).ends a b x y at p q;
    told = λ a b x y at (block, here, p) (other, there, q).
        let t = (f block other).told a b x y at p q in
        (here ∙ ap (λ z. Some z) t.0 ∙ sym there, t.1);
    alike = λ h a b x y at (block, here, p) (other, there, q). (f block other).alike h a b x y at p q;
  }

  -- the first of a list, which tells of the address here
  pub same_entries : {A H T : Type 0} (f : ℕ → A) (entries others : List A) (P Q : List A → Template)
      → ((more less : List A) → Same H ((more ≡ less) × T) (P more) (Q less))
      → Same H ((entries ≡ others) × T) (λ e a b. (more : List A) × (entries ≡ f a ∷ more) × P more e a b)
      (λ e a b. (more : List A) × (others ≡ f a ∷ more) × Q more e a b)
  same_entries f entries others P Q g = record {
    ends = λ a b x y at (more, here, p) (less, there, q). (g more less).ends a b x y at p q;
    told = λ a b x y at (more, here, p) (less, there, q).
        let t = (g more less).told a b x y at p q in
        (here ∙ ap (λ z. f z ∷ more) at ∙ ap (λ z. f x ∷ z) t.0 ∙ sym there, t.1);
    alike = λ h a b x y at (more, here, p) (less, there, q). (g more less).alike h a b x y at p q;
  }

  -- the first of a list of addresses
  pub same_listed : {H T : Type 0} (addresses others : List ℕ) (P Q : List ℕ → Template)
      → ((more less : List ℕ) → Same H ((more ≡ less) × T) (P more) (Q less))
      → Same H ((addresses ≡ others) × T) (Listed addresses P) (Listed others Q)
  same_listed addresses others P Q g = same_entries (λ a. a) addresses others P Q g
