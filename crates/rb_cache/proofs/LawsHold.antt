-- The laws of the copies.
use Rattle.std.proofs.Common.{◌≡◌, ℕ, zero, suc, ◌<◌, ◌≤◌, ℤ, pos, List, [], ◌∷◌, ◌++◌, Some, map, reverse, take, replicate, slice_get, length, refl, sym, ◌∙◌, ap, subst, arith}
use Rattle.std.proofs.lemmas.List.{append_assoc, append-nil, length-append, length-reverse, length-take-le, take-take, take-append-le, map-append}
use Rattle.std.specs.List.{AllByRecursion}
use Rattle.rb_cache.specs.Undo.{Saved, Region, put_back, all_saved, undo}
use Rattle.rb_cache.specs.Copies.{RecoveryCache, Level, level_of, open_levels, restored, copies, Fits}
use Rattle.rb_cache.proofs.Copies.{length-put_back, put_back-append, restored-same}
use Rattle.rb_cache.proofs.Views.{reverse-cons}

-- each copy by undoing, from the outermost in
undone : List ℤ → List Region → List (List ℤ)
undone ws [] = []
undone ws (r ∷ rs) = take r.height (put_back ws (r.saved ++ all_saved rs)) ∷ undone ws rs

all_saved-push : (rs : List Region) (r : Region) → all_saved (rs ++ r ∷ []) ≡ all_saved rs ++ r.saved
all_saved-push [] r = append-nil r.saved
all_saved-push (x ∷ rs) r = ap (λ (es : List Saved). x.saved ++ es) (all_saved-push rs r) ∙ sym (append_assoc x.saved (all_saved rs) r.saved)

undone-push : (ws : List ℤ) (rs : List Region) (r : Region)
    → undone ws (rs ++ r ∷ []) ≡ undone (put_back ws r.saved) rs ++ take r.height (put_back ws r.saved) ∷ []
unfolding undone
undone-push ws [] r = ap (λ (es : List Saved). take r.height (put_back ws es) ∷ []) (append-nil r.saved)
undone-push ws (x ∷ rs) r =
    let whole : x.saved ++ all_saved (rs ++ r ∷ []) ≡ (x.saved ++ all_saved rs) ++ r.saved =
    ap (λ (es : List Saved). x.saved ++ es) (all_saved-push rs r) ∙ sym (append_assoc x.saved (all_saved rs) r.saved) in
    ap (λ (es : List Saved). take x.height (put_back ws es) ∷ undone ws (rs ++ r ∷ [])) whole
    ∙ ap (λ (us : List ℤ). take x.height us ∷ undone ws (rs ++ r ∷ [])) (put_back-append ws (x.saved ++ all_saved rs) r.saved)
    ∙ ap (λ (cs : List (List ℤ)). take x.height (put_back (put_back ws r.saved) (x.saved ++ all_saved rs)) ∷ cs) (undone-push ws rs r)

restored-undone : (ws : List ℤ) (rs : List Region) → reverse (restored ws rs) ≡ undone ws (reverse rs)
unfolding undone
restored-undone ws [] = refl
restored-undone ws (r ∷ rs) =
    reverse-cons (take r.height (put_back ws r.saved)) (restored (put_back ws r.saved) rs)
    ∙ ap (λ (cs : List (List ℤ)). cs ++ take r.height (put_back ws r.saved) ∷ []) (restored-undone (put_back ws r.saved) rs)
    ∙ sym (ap (undone ws) (reverse-cons r rs) ∙ undone-push ws (reverse rs) r)

undone-get : (ws : List ℤ) (rs : List Region) (k : ℕ) → k < length rs → slice_get (undone ws rs) k ≡ Some (undo ws rs k)
unfolding undone
undone-get ws [] k h = absurd (omega (arith, h))
undone-get ws (r ∷ rs) zero h = refl
undone-get ws (r ∷ rs) (suc k) h = undone-get ws rs k (omega (arith, h))

pub copies_undone : (ws : List ℤ) (cache : RecoveryCache) (k : ℕ) → k < length cache.regions
    → slice_get (copies ws cache) k ≡ Some (undo ws (reverse cache.regions) k)
copies_undone ws cache k h =
    ap (λ (cs : List (List ℤ)). slice_get cs k) (restored-undone ws cache.regions)
    ∙ undone-get ws (reverse cache.regions) k (omega (arith, h, length-reverse cache.regions))

-- heights are lengths
length-copy : (ws : List ℤ) (r : Region) → r.height ≤ length ws → length (take r.height (put_back ws r.saved)) ≡ r.height
length-copy ws r h = length-take-le r.height (put_back ws r.saved) (omega (arith, h, length-put_back ws r.saved))

heights_in : (ws : List ℤ) (rs : List Region) → AllByRecursion (λ (r : Region). r.height ≤ length ws) rs
    → map (λ (copy : List ℤ). length copy) (restored ws rs) ≡ map (λ (l : Level). l.height) (map level_of rs)
heights_in ws [] a = refl
heights_in ws (r ∷ rs) a =
    let ok : AllByRecursion (λ (x : Region). x.height ≤ length (put_back ws r.saved)) rs =
    subst (λ (n : ℕ). AllByRecursion (λ (x : Region). x.height ≤ n) rs) (sym (length-put_back ws r.saved)) a.1 in
    ap (λ (n : ℕ). n ∷ map (λ (copy : List ℤ). length copy) (restored (put_back ws r.saved) rs)) (length-copy ws r a.0)
    ∙ ap (λ (ns : List ℕ). r.height ∷ ns) (heights_in (put_back ws r.saved) rs ok)

pub map-reverse : {A B : Type 0} (f : A → B) (xs : List A) → map f (reverse xs) ≡ reverse (map f xs)
map-reverse f [] = refl
map-reverse f (x ∷ xs) =
    ap (map f) (reverse-cons x xs) ∙ map-append f (reverse xs) (x ∷ []) ∙ ap (λ ys. ys ++ f x ∷ []) (map-reverse f xs)
    ∙ sym (reverse-cons (f x) (map f xs))

pub heights_lengths : (ws : List ℤ) (cache : RecoveryCache) → Fits ws cache
    → map (λ (copy : List ℤ). length copy) (copies ws cache) ≡ map (λ (l : Level). l.height) (open_levels cache)
heights_lengths ws cache f =
    map-reverse (λ (copy : List ℤ). length copy) (restored ws cache.regions)
    ∙ ap reverse (heights_in ws cache.regions f)
    ∙ sym (map-reverse (λ (l : Level). l.height) (map level_of cache.regions))

-- more words
pub weaker : (m n : ℕ) (rs : List Region) → m ≤ n → AllByRecursion (λ (r : Region). r.height ≤ m) rs → AllByRecursion (λ (r : Region). r.height ≤ n) rs
weaker m n [] le a = tt
weaker m n (r ∷ rs) le a = (omega (arith, le, a.0), weaker m n rs le a.1)

pub grown : (ws : List ℤ) (cache : RecoveryCache) (n : ℕ) → Fits ws cache
    → (copies (ws ++ replicate n (pos 0)) cache ≡ copies ws cache) × Fits (ws ++ replicate n (pos 0)) cache
grown ws cache n f =
    let us = ws ++ replicate n (pos 0) in (
      ap reverse (restored-same (length ws) us ws cache.regions f (take-append-le (length ws) ws (replicate n (pos 0)) (omega arith))),
      weaker (length ws) (length us) cache.regions (omega (arith, length-append ws (replicate n (pos 0)))) f,
    )

-- fewer words
all_append : (P : List ℤ → Type 0) (xs ys : List (List ℤ)) → AllByRecursion P (xs ++ ys) → AllByRecursion P xs × AllByRecursion P ys
all_append P [] ys a = (tt, a)
all_append P (x ∷ xs) ys a = let h = all_append P xs ys a.1 in ((a.0, h.0), h.1)

all_reverse : (P : List ℤ → Type 0) (xs : List (List ℤ)) → AllByRecursion P (reverse xs) → AllByRecursion P xs
all_reverse P [] a = tt
all_reverse P (x ∷ xs) a =
    let h = all_append P (reverse xs) (x ∷ []) (subst (AllByRecursion P) (reverse-cons x xs) a) in
    (h.1.0, all_reverse P xs h.0)

low_enough : (h : ℕ) (ws : List ℤ) (rs : List Region) → AllByRecursion (λ (r : Region). r.height ≤ length ws) rs
    → AllByRecursion (λ (copy : List ℤ). length copy ≤ h) (restored ws rs) → AllByRecursion (λ (r : Region). r.height ≤ h) rs
low_enough h ws [] f a = tt
low_enough h ws (r ∷ rs) f a =
    let ok : AllByRecursion (λ (x : Region). x.height ≤ length (put_back ws r.saved)) rs =
    subst (λ (n : ℕ). AllByRecursion (λ (x : Region). x.height ≤ n) rs) (sym (length-put_back ws r.saved)) f.1 in
    (omega (arith, a.0, length-copy ws r f.0), low_enough h (put_back ws r.saved) rs ok a.1)

pub shrunk : (ws : List ℤ) (cache : RecoveryCache) (h : ℕ) → Fits ws cache → h ≤ length ws
    → AllByRecursion (λ (copy : List ℤ). length copy ≤ h) (copies ws cache)
    → (copies (take h ws) cache ≡ copies ws cache) × Fits (take h ws) cache
shrunk ws cache h f le a =
    let low = low_enough h ws cache.regions f (all_reverse (λ (copy : List ℤ). length copy ≤ h) (restored ws cache.regions) a) in (
      ap reverse (restored-same h (take h ws) ws cache.regions low (take-take h h ws (omega arith))),
      weaker h (length (take h ws)) cache.regions (omega (arith, length-take-le h ws le)) low,
    )
