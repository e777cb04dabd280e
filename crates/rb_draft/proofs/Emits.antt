-- How code is put together.
use Rattle.std.proofs.Common.{◌≡◌, ℕ, zero, suc, ◌+◌, ◌≤◌, List, [], ◌∷◌, ◌++◌, Some, length, refl, sym, ap, ◌∙◌, subst, arith, length-append}
use Rattle.std.specs.Prelude.{false, slice_get, slice_set, option_map}
use Rattle.rb_code.specs.Instructions.Plain.{Block, Code}
use Rattle.rb_code.specs.Agreement.StandsFor.{numbers_from, text_numbers}
use Rattle.rb_code.specs.Agreement.Template.{Template, ◌⨾◌, Empty, One, Only, At, Label, Quoted, WithBlock, Listed}
use Rattle.rb_code.specs.Agreement.Forms.{DropCode, FrameCode}
use Rattle.rb_code.specs.declared.instr.Instr.{Instr}
use Rattle.rb_code.specs.declared.instr.Instr.TheVariants.{Drop, Frame, Jump, Text}
use Rattle.rb_code.proofs.Agreeing.CountersSet.{get_set_same}
use Rattle.rb_draft.specs.Output.{Output, added, filled_with, is_text, linked, patched, settled}
use Rattle.rb_draft.specs.Emits.{Adds, Grows, Keeps, Emits, Placed}
use Rattle.rb_draft.proofs.Growing.{get_end, get_other, same_length, texts-added, texts-append, texts-set, numbers-append, grows_self, grows_more, keeps_self, follows_self, follows_on, follows_back, includes_front, includes_back, includes_late, includes_early}

-- one template after another
pub both : {link : Code → Instr → Instr} {m n k : ℕ} {P Q : Template} {c d e : Output} → Emits link m n P c d
    → Emits link n k Q d e → Emits link m k (P ⨾ Q) c e
both {d = d} p q = record {
  follows = follows_on p.follows q.follows;
  stands = λ w i. (length d.instrs, p.stands w (includes_front p.follows q.follows i), q.stands w (includes_back p.follows i));
}

-- the same where the second has the recovery blocks before those of the first
pub both_back : {link : Code → Instr → Instr} {m n k : ℕ} {P Q : Template} {c d e : Output} → Emits link n k P c d
    → Emits link m n Q d e → Emits link m k (P ⨾ Q) c e
both_back {d = d} p q = record {
  follows = follows_back p.follows q.follows;
  stands = λ w i. (length d.instrs, p.stands w (includes_late p.follows q.follows i), q.stands w (includes_early p.follows q.follows i));
}

-- the same, where its last number is known otherwise
pub upto : {link : Code → Instr → Instr} {m n k : ℕ} {P : Template} {c d : Output} → Emits link m n P c d → n ≡ k → Emits link m k P c d
upto {link = link} {m = m} {P = P} {c = c} {d = d} p e = subst (λ (x : ℕ). Emits link m x P c d) e p

-- code of one template is code of another
pub as_if : {link : Code → Instr → Instr} {m n : ℕ} {P Q : Template} {c d : Output}
    → ((w : Code) (a b : ℕ) → P w a b → Q w a b) → Emits link m n P c d → Emits link m n Q c d
as_if {c = c} {d = d} f p = record { follows = p.follows; stands = λ w i. f w (length c.instrs) (length d.instrs) (p.stands w i) }

-- nothing
pub empty : {link : Code → Instr → Instr} (n : ℕ) (c : Output) → Emits link n n Empty c c
empty n c = record { follows = follows_self n c; stands = λ w i. refl }

pub only : {link : Code → Instr → Instr} (n : ℕ) {X : Type 0} (c : Output) → X → Emits link n n (Only X) c c
only n c x = record { follows = follows_self n c; stands = λ w i. (x, refl) }

-- a label at the address that it names
pub at : {link : Code → Instr → Instr} (n : ℕ) {label : ℕ} (c : Output) → label ≡ length c.instrs → Emits link n n (At label) c c
at n c e = record { follows = follows_self n c; stands = λ w i. (sym e, refl) }

pub labelled : {link : Code → Instr → Instr} {m n : ℕ} {P : ℕ → Template} {c d : Output} (label : ℕ)
    → Emits link m n (P label) c d → Emits link m n (Label P) c d
labelled label p = record { follows = p.follows; stands = λ w i. (label, p.stands w i) }

pub listed : {link : Code → Instr → Instr} {m n : ℕ} {P : List ℕ → Template} {address : ℕ} {more : List ℕ} {c d : Output} → address ≡ length c.instrs
    → Emits link m n (P more) c d → Emits link m n (Listed (address ∷ more) P) c d
listed {more = more} e p = record { follows = p.follows; stands = λ w i. (more, ap (λ n. n ∷ more) e, p.stands w i) }

-- one instruction that was pushed
pub one : (i : Instr) (c d : Output) → d.instrs ≡ c.instrs ++ (i ∷ []) → d.texts ≡ c.texts → d.blocks ≡ c.blocks → is_text i ≡ false → (p n : ℕ)
    → Emits (linked p) n n (Placed p i) c d
one i c d e f g t p n = record {
  follows = record {
    rises = omega arith;
    instrs = subst (λ (xs : List Instr). Grows c.instrs xs) (sym e) (grows_more c.instrs (i ∷ []));
    texts = subst (λ xs. Grows c.texts xs) (sym f) (grows_self c.texts);
    blocks = subst (λ xs. Keeps n n c.blocks xs) (sym g) (keeps_self n c.blocks);
    numbered = λ h. ap text_numbers e ∙ texts-added c.instrs i t ∙ h ∙ ap (numbers_from 0) (sym f);
  };
  stands = λ w h.
      let long : length d.instrs ≡ length c.instrs + 1 = ap length e ∙ length-append c.instrs (i ∷ []) in (
        h.instrs.has (length c.instrs) (omega arith) (omega arith)
            ∙ ap (λ (xs : List Instr). option_map (linked p w) (slice_get xs (length c.instrs))) e ∙ ap
            (option_map (linked p w)) (get_end c.instrs i),
        long,
      );
}

-- A place that was left is written.
filled_here : (x : Instr) {p m n k : ℕ} {P : Template} {c e : Output} → is_text x ≡ false → k ≡ length c.instrs
    → Emits (linked p) m n P (added (Jump 0) c) e → Emits (linked p) m n (Placed p x ⨾ P) c (patched e k x)
filled_here x {p = p} {m = m} {n = n} {k = k} {P = P} {c = c} {e = e} t at q =
    let d = added (Jump 0) c in
    let more : length d.instrs ≡ length c.instrs + 1 = length-append c.instrs (Jump 0 ∷ []) in
    let long : length (slice_set e.instrs k x) ≡ length e.instrs = same_length e.instrs k x in
    let up : length d.instrs ≤ length e.instrs = q.follows.instrs.longer in
    let was : slice_get e.instrs k ≡ Some (Jump 0) =
    ap (λ i. slice_get e.instrs i) at ∙ q.follows.instrs.kept (length c.instrs) (omega arith) ∙ get_end c.instrs (Jump 0) in
    record {
      follows = record {
        rises = q.follows.rises;
        instrs = record {
          longer = omega (arith, long);
          kept = λ i h. get_other e.instrs k i x (λ same. absurd (omega arith)) ∙ q.follows.instrs.kept i (omega arith)
              ∙ (grows_more c.instrs (Jump 0 ∷ [])).kept i h;
        };
        texts = q.follows.texts;
        blocks = q.follows.blocks;
        numbered = λ h. texts-set e.instrs k x (Jump 0) was refl t ∙ q.follows.numbered (texts-added c.instrs (Jump 0) refl ∙ h);
      };
      stands = λ w h.
          let first : slice_get w.instrs (length c.instrs) ≡ Some (linked p w x) =
          h.instrs.has (length c.instrs) (omega arith) (omega (arith, long))
          ∙ ap (λ i. option_map (linked p w) (slice_get (slice_set e.instrs k x) i)) (sym at) ∙ ap
          (option_map (linked p w)) (get_set_same e.instrs k x (omega arith)) in
          let rest : P w (length d.instrs) (length e.instrs) = q.stands w record {
            instrs = record {
              has =
                  λ i a b. h.instrs.has i (omega arith) (omega (arith, long))
                  ∙ ap (option_map (linked p w)) (get_other e.instrs k i x (λ same. absurd (omega arith)));
            };
            texts = h.texts;
            blocks = h.blocks;
          } in
          (length d.instrs, (first, more), subst (λ i. P w (length d.instrs) i) (sym long) rest);
    }

pub filled : (x : Instr) {p m n k : ℕ} {P : Template} {c d e f : Output} → is_text x ≡ false → (k ≡ length c.instrs) × (d ≡ added (Jump 0) c)
    → f ≡ patched e k x → Emits (linked p) m n P d e → Emits (linked p) m n (Placed p x ⨾ P) c f
filled x {p = p} {m = m} {n = n} {P = P} {c = c} {e = e} t (at, left) is q =
    subst (λ o. Emits (linked p) m n (Placed p x ⨾ P) c o) (sym is) (filled_here x t at (subst (λ o. Emits (linked p) m n P o e) left q))

-- a text that was added, and the instruction that names it
pub quoted : (text : List ℕ) (k : ℕ) (c d : Output) → d.instrs ≡ c.instrs ++ (Text k ∷ []) → d.texts ≡ c.texts ++ (text ∷ []) → d.blocks ≡ c.blocks
    → k ≡ length c.texts → (p n : ℕ) → Emits (linked p) n n (Quoted text) c d
quoted text k c d f g h at p n =
    let long : length d.texts ≡ length c.texts + 1 = ap length g ∙ length-append c.texts (text ∷ []) in
    let longer : length d.instrs ≡ length c.instrs + 1 = ap length f ∙ length-append c.instrs (Text k ∷ []) in
    let there : slice_get d.texts k ≡ Some text =
    ap (λ (xs : List (List ℕ)). slice_get xs k) g ∙ ap (λ i. slice_get (c.texts ++ (text ∷ [])) i) at ∙ get_end c.texts text in
    record {
      follows = record {
        rises = omega arith;
        instrs = subst (λ (xs : List Instr). Grows c.instrs xs) (sym f) (grows_more c.instrs (Text k ∷ []));
        texts = subst (λ (xs : List (List ℕ)). Grows c.texts xs) (sym g) (grows_more c.texts (text ∷ []));
        blocks = subst (λ xs. Keeps n n c.blocks xs) (sym h) (keeps_self n c.blocks);
        numbered = λ e.
            ap text_numbers f ∙ texts-append c.instrs (Text k ∷ []) ∙ ap (λ l. l ++ (k ∷ [])) e
            ∙ ap (λ i. numbers_from 0 c.texts ++ (i ∷ [])) (at ∙ zero_plus (length c.texts))
            ∙ sym (ap (numbers_from 0) g ∙ numbers-append 0 c.texts text);
      };
      stands = λ w i.
          let named : slice_get w.texts k ≡ Some text = i.texts.has k (omega arith) (omega arith) ∙ ap (option_map (λ t. t)) there in
          let placed : slice_get w.instrs (length c.instrs) ≡ Some (Text k) =
          i.instrs.has (length c.instrs) (omega arith) (omega arith)
          ∙ ap (λ (xs : List Instr). option_map (linked p w) (slice_get xs (length c.instrs))) f ∙ ap
          (option_map (linked p w)) (get_end c.instrs (Text k)) in
          (k, named, (placed, longer));
    }
  where
    zero_plus : (i : ℕ) → i ≡ 0 + i
    zero_plus i = omega arith

-- The entry of a recovery block, which is settled behind the block's code.
settled_here : {link : Code → Instr → Instr} {m k : ℕ} {P : Block → Template} {c e : Output} (x : Block) → Emits link (m + 1) k (P x) c e
    → Emits link m k (WithBlock m P) c (settled e m x)
settled_here {m = m} {k = k} {P = P} {c = c} {e = e} x q =
    let long : length (slice_set e.blocks m x) ≡ length e.blocks = same_length e.blocks m x in
    record {
      follows = record {
        rises = omega (arith, q.follows.rises);
        instrs = q.follows.instrs;
        texts = q.follows.texts;
        blocks = record {
          long = long ∙ q.follows.blocks.long;
          kept = λ i h. get_other e.blocks m i x (λ same. h (omega arith) (omega (arith, q.follows.rises)))
              ∙ q.follows.blocks.kept i (λ a b. h (omega arith) b);
        };
        numbered = q.follows.numbered;
      };
      stands = λ w h.
          let there : slice_get w.blocks m ≡ Some x =
          h.blocks.has m (omega arith) (omega (arith, q.follows.rises))
          ∙ get_set_same e.blocks m x (omega (arith, long, h.blocks.room, q.follows.rises)) in (
            x,
            there,
            q.stands w record {
              instrs = h.instrs;
              texts = h.texts;
              blocks = record {
                room = omega (arith, long, h.blocks.room);
                has = λ i a b. h.blocks.has i (omega arith) b ∙ get_other e.blocks m i x (λ same. absurd (omega arith));
              };
            },
          );
    }

pub settled_then : {link : Code → Instr → Instr} {m k number : ℕ} {P : Block → Template} {c e f : Output} (x : Block) → number ≡ m
    → f ≡ settled e number x → Emits link (m + 1) k (P x) c e → Emits link m k (WithBlock number P) c f
settled_then {link = link} {m = m} {k = k} {number = number} {P = P} {c = c} {e = e} {f = f} x same is q =
    let all : Emits link m k (WithBlock m P) c f =
    subst (λ o. Emits link m k (WithBlock m P) c o) (sym (is ∙ ap (λ i. settled e i x) same)) (settled_here x q) in
    subst (λ (i : ℕ). Emits link m k (WithBlock i P) c f) (sym same) all

-- two places with one instruction, in either order
swapped : (xs : List Instr) (h k : ℕ) (i : Instr) → slice_set (slice_set xs h i) k i ≡ slice_set (slice_set xs k i) h i
swapped [] h k i = refl
swapped (x ∷ xs) zero zero i = refl
swapped (x ∷ xs) zero (suc k) i = refl
swapped (x ∷ xs) (suc h) zero i = refl
swapped (x ∷ xs) (suc h) (suc k) i = ap (λ l. x ∷ l) (swapped xs h k i)

pub filled-last : (hs : List ℕ) (h : ℕ) (i : Instr) (o : Output) → filled_with (hs ++ (h ∷ [])) i o ≡ filled_with hs i (patched o h i)
filled-last [] h i o = refl
filled-last (g ∷ gs) h i o =
    filled-last gs h i (patched o g i)
    ∙ ap (λ (xs : List Instr). filled_with gs i record { instrs = xs; texts = o.texts; blocks = o.blocks }) (swapped o.instrs g h i)

pub filled-length : (hs : List ℕ) (i : Instr) (o : Output) → length (filled_with hs i o).instrs ≡ length o.instrs
filled-length [] i o = refl
filled-length (h ∷ hs) i o = filled-length hs i (patched o h i) ∙ same_length o.instrs h i

-- the words of a frame, of which there are some
pub frame_row : (n : ℕ) {c d : Output} → (n ≡ 0 → ⊥) → Adds (One (Frame n)) c d → Adds (FrameCode n) c d
frame_row zero h p = absurd (h refl)
frame_row (suc n) h p = p

pub drop_row : (n : ℕ) {c d : Output} → (n ≡ 0 → ⊥) → Adds (One (Drop n)) c d → Adds (DropCode n) c d
drop_row zero h p = absurd (h refl)
drop_row (suc n) h p = p
