-- Names that are gathered one by one.
use Rattle.std.proofs.Common.{◌≡◌, ◌∙◌, ◌++◌, ◌∷◌, [], ℕ, List, map, take, drop, length, ◌<◌, ◌-◌, refl, sym, ap, arith}
use Rattle.std.proofs.lemmas.List.{drop-map, drop_all, length-drop, length-map, take-map}
use Rattle.std.proofs.Math.Seq.{take-length}
use Rattle.rb_lex.specs.Reader.{lexeme_of}
use Rattle.rb_lex.specs.Tokens.{Lexeme}
use Rattle.rb_lex.specs.declared.token.Token.{Token}
use Rattle.rb_why.proofs.Standing.{pushed}

pub name_pushed : (xs ys : List Token) (x : Token) (left rest all : List Lexeme) → ys ≡ xs ++ x ∷ [] → left ≡ lexeme_of x ∷ rest
    → map lexeme_of xs ++ left ≡ all → map lexeme_of ys ++ rest ≡ all
name_pushed xs ys x left rest all p q h = pushed lexeme_of xs ys x left rest all p q h

map_pushed : (xs : List Token) (x : Token) → map lexeme_of (xs ++ x ∷ []) ≡ map lexeme_of xs ++ lexeme_of x ∷ []
map_pushed [] x = refl
map_pushed (y ∷ xs) x = ap (λ (zs : List Lexeme). lexeme_of y ∷ zs) (map_pushed xs x)

pub name_kept : (xs ys : List Token) (x : Token) → ys ≡ xs ++ x ∷ [] → map lexeme_of ys ≡ map lexeme_of xs ++ lexeme_of x ∷ []
name_kept xs ys x e = ap (map lexeme_of) e ∙ map_pushed xs x

pub names_left : (xs ys : List Token) (n : ℕ) → ys ≡ take n xs → map lexeme_of ys ≡ take n (map lexeme_of xs)
names_left xs ys n e = ap (map lexeme_of) e ∙ sym (take-map lexeme_of n xs)

-- the tokens behind so many, as a slice is cut
pub names_cut : (xs : List Token) (n : ℕ) → map lexeme_of (take (length xs - n) (drop n xs)) ≡ drop n (map lexeme_of xs)
names_cut xs n =
    ap (λ (m : ℕ). map lexeme_of (take m (drop n xs))) (sym (length-drop n xs)) ∙ ap (map lexeme_of) (take-length (drop n xs))
    ∙ sym (drop-map lexeme_of n xs)

-- more than all are left out
pub none_left : (xs : List Token) (n : ℕ) → length xs < n → [] ≡ drop n (map lexeme_of xs)
none_left xs n h = let e : length (map lexeme_of xs) ≡ length xs = length-map xs lexeme_of in sym (drop_all n (map lexeme_of xs) (grind (arith, e)))
