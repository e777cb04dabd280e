-- One change of a picture, and many.
use Rattle.std.proofs.Common.{◌≡◌, ◌≤◌, ◌<◌, ◌+◌, ℕ, zero, suc, ℤ, pos, List, [], ◌∷◌, ◌++◌, length, get_or, slice_set, count_by, cond, refl, sym, ap, ◌∙◌, arith}
use Rattle.std.proofs.lemmas.List.{length-map, map-set}
use Rattle.std.proofs.lemmas.List.Sums.{sum_by-append}
use Rattle.rb_base.specs.Lines.{belonging}
use Rattle.rb_cell.specs.Store.{Store}
use Rattle.rb_back.specs.declared.view.Change.{Change}
use Rattle.rb_back.specs.Picture.{Picture, is_word, undone, undone_all, with_word, words_in}

-- the words of a process stand in its cells
pub belongs_in : (cells : List Store) (p : ℕ) (one : Store) → p < length cells → one ≡ get_or cells p one → belonging (words_in cells) p ≡ one.words
belongs_in [] p one less e = absurd (omega arith)
belongs_in (x ∷ xs) zero one less e = ap (λ (s : Store). s.words) (sym e)
belongs_in (x ∷ xs) (suc p) one less e = belongs_in xs p one (omega arith) e

-- a word of cells is another
pub cells_with_word : (cells : List Store) (p at : ℕ) (value : ℤ) (one new : Store) → p < length cells → one ≡ get_or cells p one
    → new.words ≡ slice_set one.words at value → words_in (slice_set cells p new) ≡ with_word p at value (words_in cells)
cells_with_word cells p at value one new less is written =
    map-set (λ (s : Store). s.words) cells p new
    ∙ ap (slice_set (words_in cells) p) (written ∙ ap (λ (words : List ℤ). slice_set words at value) (sym (belongs_in cells p one less is)))

-- beyond the last process there is nothing to change
pub set_past : {A : Type 0} (xs : List A) (p : ℕ) (x : A) → length xs ≤ p → slice_set xs p x ≡ xs
set_past [] p x past = refl
set_past {A} (y ∷ ys) zero x past = absurd (omega arith)
set_past {A} (y ∷ ys) (suc p) x past = ap (λ (zs : List A). y ∷ zs) (set_past ys p x (omega arith))

-- the last of some changes is taken back first
pub undone_last : (changes : List Change) (last : Change) (shown : Picture) → undone_all (changes ++ last ∷ []) shown ≡ undone_all changes (undone last shown)
undone_last [] last shown = refl
undone_last (change ∷ changes) last shown = ap (undone change) (undone_last changes last shown)

pub counted_last : (changes : List Change) (last : Change) → count_by is_word (changes ++ last ∷ []) ≡ count_by is_word changes + count_by is_word (last ∷ [])
counted_last changes last = sum_by-append (λ (one : Change). cond (is_word one) 1 0) changes (last ∷ [])

pub within_cells : (cells : List Store) (p : ℕ) → p < length (words_in cells) → p < length cells
within_cells cells p less = omega (arith, length-map cells (λ (s : Store). s.words))

any_default : {A : Type 0} (xs : List A) (n : ℕ) (d e : A) → n < length xs → get_or xs n d ≡ get_or xs n e
any_default [] n d e less = absurd (omega arith)
any_default (x ∷ xs) zero d e less = refl
any_default (x ∷ xs) (suc n) d e less = any_default xs n d e (omega arith)

-- a word of a process, as its cells have it
pub word_in : (cells : List Store) (p at : ℕ) (one : Store) (x : ℤ) → p < length (words_in cells) → one ≡ get_or cells p one
    → at < length (belonging (words_in cells) p) → x ≡ get_or one.words at (pos 0) → x ≡ get_or (belonging (words_in cells) p) at x
word_in cells p at one x there is within read =
    let own : belonging (words_in cells) p ≡ one.words = belongs_in cells p one (within_cells cells p there) is in
    read ∙ ap (λ (words : List ℤ). get_or words at (pos 0)) (sym own) ∙ any_default (belonging (words_in cells) p) at (pos 0) x within

pub cells_long : (cells : List Store) (p : ℕ) (one : Store) → p < length (words_in cells) → one ≡ get_or cells p one
    → length (belonging (words_in cells) p) ≡ length one.words
cells_long cells p one there is = ap length (belongs_in cells p one (within_cells cells p there) is)
