-- Tokens in a list, seen through the slices that hold them.
use Rattle.std.proofs.Common.{◌≡◌, ◌≤◌, ◌<◌, ◌-◌, ◌∙◌, ◌++◌, ◌∷◌, [], ℕ, Bor, List, codes, length, map, take, sym, ap, ap₂, arith}
use Rattle.std.proofs.lemmas.List.{append-nil, take-map, length-map}
use Rattle.rb_why.specs.Expected.{labels, others, told_first}
use Rattle.rb_why.specs.Source.{with_expected}
use Rattle.rb_why.proofs.Standing.{pushed}

abbrev bytes_of : List (Bor (List ℕ)) → List (List ℕ)
bytes_of tokens = map (λ (token : Bor (List ℕ)). token.now) tokens

pub with_some : (words first read told : List ℕ) (may : List (Bor (List ℕ))) → 1 ≤ length may → first ≡ told_first (bytes_of may) → read ≡ first
    → told ≡ words ++ (codes "; expected " ++ read) → told ≡ with_expected words (bytes_of may)
with_some words first read told [] some f r e = absurd (omega arith)
with_some words first read told (x ∷ xs) some f r e = e ∙ ap (λ y. words ++ (codes "; expected " ++ y)) (r ∙ f)

pub with_none : (words told : List ℕ) (may : List (Bor (List ℕ))) → length may < 1 → told ≡ words ++ (codes ": the program has ended" ++ [])
    → told ≡ with_expected words (bytes_of may)
with_none words told [] none e = e
with_none words told (x ∷ xs) none e = absurd (omega arith)

pub first_and_others : (tokens first : List (Bor (List ℕ))) (named left front back told : List ℕ) (count : ℕ)
    → bytes_of first ≡ take 5 (bytes_of tokens) → named ≡ labels (bytes_of first) [] → left ≡ others count → count ≡ length tokens - 5
    → front ≡ named → back ≡ left → told ≡ front ++ (back ++ []) → told ≡ told_first (bytes_of tokens)
first_and_others tokens first named left front back told count cut n l k f b e =
    e ∙ ap (λ y. front ++ y) (append-nil back)
    ∙ ap₂ (λ x y. x ++ y) (f ∙ n ∙ ap (λ ts. labels ts []) cut)
    (b ∙ l ∙ ap others (k ∙ ap (λ m. m - 5) (sym (length-map tokens (λ (token : Bor (List ℕ)). token.now)))))

pub cut_short : (n : ℕ) (tokens : List (Bor (List ℕ))) → bytes_of (take n tokens) ≡ take n (bytes_of tokens)
cut_short n tokens = sym (take-map (λ (token : Bor (List ℕ)). token.now) n tokens)

pub text_pushed : (xs ys : List (Bor (List ℕ))) (x : Bor (List ℕ)) (left rest all : List (List ℕ)) → ys ≡ xs ++ x ∷ [] → left ≡ x.now ∷ rest
    → bytes_of xs ++ left ≡ all → bytes_of ys ++ rest ≡ all
text_pushed xs ys x left rest all p q h = pushed (λ (token : Bor (List ℕ)). token.now) xs ys x left rest all p q h
