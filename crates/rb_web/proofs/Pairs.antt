-- A loop over the pairs of two slices, and files that are made of such pairs.
use Rattle.std.proofs.Common.{◌≡◌, ℕ, List, [], ◌∷◌, map, length, take, Bor, Option, None, String, string_bytes, refl, sym, ap, ◌∙◌, Iter}
use Rattle.std.specs.declared.alloc.Global.{Global}
use Rattle.std.specs.declared.iter.Zip.{Zip}
use Rattle.std.specs.Iterator.{Yields}
use Rattle.std.specs.Iterator.Adapters.{zip_first, zip_second}
use Rattle.std.specs.List.{zip}
use Rattle.std.specs.Slice.Iter.{iter_rest}
use Rattle.std.proofs.lemmas.Iterator.{zips}
use Rattle.std.proofs.lemmas.Fn.{fronts}
use Rattle.std.proofs.Math.Seq.{take-length}
use Rattle.std.proofs.lemmas.Slice.Zip.{zip_end, length-zip}
use Rattle.rb_outside.specs.Outside.{File}

module _ {A B : Type 0} where
  -- the pairs that came so far
  pairs_so_far : (ks : List A) (vs : List B) (xs : List (Bor A × Bor B)) (s t : Zip (Iter A) (Iter B)) → iter_rest (zip_first s) ≡ ks
      → iter_rest (zip_second s) ≡ vs → Yields (zips fronts fronts) s xs t → map (λ p. (p.0.now, p.1.now)) xs ≡ take (length xs) (zip ks vs)
  pairs_so_far ks vs [] s t first second y = refl
  pairs_so_far ks vs (x ∷ xs) s t first second y =
      let ks' = iter_rest (zip_first y.0) in
      let vs' = iter_rest (zip_second y.0) in
      ap (λ (l : List (A × B)). (x.0.now, x.1.now) ∷ l) (pairs_so_far ks' vs' xs y.0 t refl refl y.2)
      ∙ ap (λ (l : List A). take (length (x ∷ xs)) (zip l (x.1.now ∷ vs'))) (sym y.1.0 ∙ first)
      ∙ ap (λ (l : List B). take (length (x ∷ xs)) (zip ks l)) (sym y.1.1 ∙ second)

  -- all of them, at the end
  pub all_pairs : (ks : List A) (vs : List B) (xs : List (Bor A × Bor B)) (s t u : Zip (Iter A) (Iter B)) (r : Option (Bor A × Bor B))
      → iter_rest (zip_first s) ≡ ks → iter_rest (zip_second s) ≡ vs → Yields (zips fronts fronts) s xs t → r ≡ None → zips fronts fronts t r u
      → map (λ p. (p.0.now, p.1.now)) xs ≡ zip ks vs
  all_pairs ks vs xs s t u r first second y none end =
      let many : length xs ≡ length (zip ks vs) = zip_end ks vs xs s t u r first second y none end ∙ sym (length-zip ks vs) in
      pairs_so_far ks vs xs s t first second y ∙ ap (λ n. take n (zip ks vs)) many ∙ take-length (zip ks vs)

-- the file of a name and a text
abbrev pub file_of : String Global × Bor (List ℕ) → File
file_of pair = record { name = string_bytes pair.0; bytes = pair.1.now }

-- files of pairs that came are those of the pairs
pub files_seen : (xs : List (Bor (String Global) × Bor (Bor (List ℕ))))
    → map (λ pair. record { name = string_bytes pair.0.now; bytes = pair.1.now.now }) xs ≡ map file_of (map (λ p. (p.0.now, p.1.now)) xs)
files_seen [] = refl
files_seen (x ∷ xs) = ap (λ (l : List File). file_of (x.0.now, x.1.now) ∷ l) (files_seen xs)

-- names and texts are read before or behind the pairing
pub files_paired : (ks : List (String Global)) (vs : List (Bor (List ℕ)))
    → map file_of (zip ks vs) ≡ map (λ file. record { name = file.0; bytes = file.1 }) (zip (map string_bytes ks) (map (λ text. text.now) vs))
files_paired [] vs = refl
files_paired (k ∷ ks) [] = refl
files_paired (k ∷ ks) (v ∷ vs) = ap (λ (l : List File). file_of (k, v) ∷ l) (files_paired ks vs)
