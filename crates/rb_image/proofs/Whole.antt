-- The whole image: what is read is spelled so, and what is in range is read again.
use Rattle.std.proofs.Common.{◌≡◌, ℕ, suc, ◌^◌, ◌<◌, cond, nat_eq, List, [], ◌∷◌, ◌++◌, length, take, drop, map, Option, Some, None, refl, sym, ap, ◌∙◌, subst, arith}
use Rattle.std.specs.List.{AllByRecursion, zip}
use Rattle.std.specs.Cmp.Lexicographic.{pointwise}
use Rattle.std.proofs.lemmas.Bool.{eqb-true}
use Rattle.std.proofs.lemmas.List.{append-nil, nil_from_length, take-append-drop}
use Rattle.std.proofs.lemmas.Slice.Eq.{bytes_eq-Decides}
use Rattle.rb_world.specs.Kind.{Membership}
use Rattle.rb_code.specs.Instructions.Plain.{Code}
use Rattle.rb_image.specs.Pieces.{list}
use Rattle.rb_image.specs.Image.{code, group, image_of, magic}
use Rattle.rb_image.specs.Ranges.{AreFew, InRanges, IsCode, IsGroup, IsNatural}
use Rattle.rb_image.specs.Reading.{◌>>=◌, both, few_at}
use Rattle.rb_image.specs.ReadParts.{behind_magic, code_at, group_at, image_at}
use Rattle.rb_image.proofs.Formats.{IsBytes, IsFormat, bind_some, both_is, passed}
use Rattle.rb_image.proofs.Numbers.{cut_is}
use Rattle.rb_image.proofs.Parts.{IsCounted, code_is, groups_are}

abbrev Whole : Type 0
Whole = Code × List (Membership × ℕ)

abbrev spelled : Whole → List ℕ
spelled x = code x.0 ++ list group x.1

abbrev Fits : Whole → Type 0
Fits x = IsCode x.0 × AreFew IsCounted x.1

whole_is : IsFormat spelled (both code_at (few_at 24 group_at)) Fits
whole_is = both_is code_is groups_are

pub image_takes : (bytes : List ℕ) (x : Whole) → IsBytes bytes → image_at bytes ≡ Some x → (bytes ≡ magic ++ spelled x) × Fits x
unfolding image_at behind_magic
image_takes bytes x fits e =
    let a = bind_some (behind_magic bytes)
    (λ rest. both code_at (few_at 24 group_at) rest >>= λ y. cond (nat_eq (length y.1) 0) (Some y.0) None) x e in
    let m = passed (pointwise nat_eq (take 4 bytes) magic) (drop 4 bytes) a.0 a.1 in
    let front : take 4 bytes ≡ magic = (bytes_eq-Decides (take 4 bytes) magic).0 m.0 in
    let cut : bytes ≡ magic ++ a.0 =
    sym (take-append-drop 4 bytes) ∙ ap (λ (s : List ℕ). s ++ drop 4 bytes) front ∙ ap (λ (s : List ℕ). magic ++ s) m.1 in
    let rest_fits : IsBytes a.0 = subst IsBytes m.1 (cut_is 4 bytes fits).rest_fits in
    let b = bind_some (both code_at (few_at 24 group_at) a.0) (λ y. cond (nat_eq (length y.1) 0) (Some y.0) None) x a.2 in
    let t = whole_is.takes a.0 b.0.1 b.0.0 rest_fits b.1 in
    let g = passed (nat_eq (length b.0.1) 0) b.0.0 x b.2 in
    let none : b.0.1 ≡ [] = nil_from_length b.0.1 (eqb-true _ _ g.0) in
    let all : a.0 ≡ spelled b.0.0 = t.0.parts ∙ ap (λ (s : List ℕ). spelled b.0.0 ++ s) none ∙ append-nil (spelled b.0.0) in
    subst (λ (y : Whole). (bytes ≡ magic ++ spelled y) × Fits y) g.1 (cut ∙ ap (λ (s : List ℕ). magic ++ s) all, t.1)

pub image_again : (x : Whole) → Fits x → image_at (magic ++ spelled x) ≡ Some x
unfolding image_at behind_magic
image_again x fits =
    let read : both code_at (few_at 24 group_at) (spelled x) ≡ Some (x, []) =
    ap (both code_at (few_at 24 group_at)) (sym (append-nil (spelled x))) ∙ whole_is.again x [] fits in
    ap (λ (r : Option (Whole × List ℕ)). r >>= λ y. cond (nat_eq (length y.1) 0) (Some y.0) None) read

-- groups and their numbers of alternates, side by side
pub zip_of_maps : {X A B : Type 0} (f : X → A) (g : X → B) (xs : List X) → zip (map f xs) (map g xs) ≡ map (λ x. (f x, g x)) xs
zip_of_maps f g [] = refl
zip_of_maps {X} {A} {B} f g (x ∷ xs) = ap (λ (ys : List (A × B)). (f x, g x) ∷ ys) (zip_of_maps f g xs)

pub length-zip : {A B : Type 0} (xs : List A) (ys : List B) → length ys ≡ length xs → length (zip xs ys) ≡ length xs
length-zip [] [] e = refl
length-zip [] (y ∷ ys) e = absurd (omega arith)
length-zip (x ∷ xs) [] e = absurd (omega arith)
length-zip (x ∷ xs) (y ∷ ys) e = ap suc (length-zip xs ys (omega arith))

pub firsts_of_zip : {A B : Type 0} (xs : List A) (ys : List B) → length ys ≡ length xs → map (λ x. x.0) (zip xs ys) ≡ xs
firsts_of_zip [] [] e = refl
firsts_of_zip [] (y ∷ ys) e = absurd (omega arith)
firsts_of_zip (x ∷ xs) [] e = absurd (omega arith)
firsts_of_zip {A} {B} (x ∷ xs) (y ∷ ys) e = ap (λ (zs : List A). x ∷ zs) (firsts_of_zip xs ys (omega arith))

pub seconds_of_zip : {A B : Type 0} (xs : List A) (ys : List B) → length ys ≡ length xs → map (λ x. x.1) (zip xs ys) ≡ ys
seconds_of_zip [] [] e = refl
seconds_of_zip [] (y ∷ ys) e = absurd (omega arith)
seconds_of_zip (x ∷ xs) [] e = absurd (omega arith)
seconds_of_zip {A} {B} (x ∷ xs) (y ∷ ys) e = ap (λ (zs : List B). y ∷ zs) (seconds_of_zip xs ys (omega arith))

each_counted : (groups : List Membership) (counts : List ℕ) → length counts ≡ length groups → AllByRecursion IsGroup groups
    → AllByRecursion IsNatural counts → AllByRecursion IsCounted (zip groups counts)
each_counted [] [] e fits small = tt
each_counted [] (n ∷ ns) e fits small = absurd (omega arith)
each_counted (one ∷ others) [] e fits small = absurd (omega arith)
each_counted (one ∷ others) (n ∷ ns) e fits small = ((fits.0, small.0), each_counted others ns (omega arith) fits.1 small.1)

pub fits_of : (c : Code) (groups : List Membership) (counts : List ℕ) → InRanges c groups counts → Fits (c, zip groups counts)
fits_of c groups counts ranges =
    let few : length (zip groups counts) < 2 ^ 32 = omega (arith, length-zip groups counts ranges.as_many, ranges.few) in
    (ranges.lists, ((omega arith, each_counted groups counts ranges.as_many ranges.conversations ranges.alternates), few))

-- what is in range is read again as it is
pub read_again : (c : Code) (groups : List Membership) (counts : List ℕ) → InRanges c groups counts
    → image_at (image_of c groups counts) ≡ Some (c, zip groups counts)
read_again c groups counts ranges = image_again (c, zip groups counts) (fits_of c groups counts ranges)
