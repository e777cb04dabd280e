-- Words with a blank before each, as a list grows.
use Rattle.std.proofs.Common.{◌≡◌, ℕ, ◌+◌, ◌-◌, Bor, arith, ◌<◌, ◌≤◌, List, [], ◌∷◌, ◌++◌, length, map, take, drop, get_or, Option, Result, Ok, Err, IsErr, refl, sym, ap, ◌∙◌, append_assoc}
use Rattle.std.proofs.lemmas.List.{take_more, take_all, take-append-drop, append-nil}
use Rattle.std.proofs.lemmas.Grind.{flat_map-append}
use Rattle.rb_outside.specs.Outside.{Faults}
use Rattle.rb_outside.specs.Puts.{Puts}
use Rattle.rb_outside.proofs.Puts.{puts_same, puts_both, puts_stopped_at}
use Rattle.std.specs.List.{flat_map}
use Rattle.rb_world.specs.Text.{line_of}
use Rattle.rb_trace.specs.Lines.{spaced}

-- a line is its first word, the others with a blank before each, and LF
pub line_of-spaced : (first : List ℕ) (others : List (List ℕ)) → line_of (first ∷ others) ≡ first ++ (spaced others ++ 10 ∷ [])
line_of-spaced first [] = refl
line_of-spaced first (word ∷ words) =
    ap (λ (x : List ℕ). first ++ 32 ∷ x) (line_of-spaced word words ∙ sym (append_assoc word (spaced words) (10 ∷ [])))

-- one element more of a list was written, each by a function
pub puts_next : {X T U E D : Type 0} (f : X → List ℕ) (xs : List X) (i : ℕ) (d : X) → i < length xs →
    (w0 w1 w2 : Option (List ℕ)) (f0 f1 f2 : Faults) (v : T) (r : Result U E) →
    Puts {T = T} {E = D} (flat_map f (take i xs)) w0 w1 f0 f1 (Ok v) → Puts (f (get_or xs i d)) w1 w2 f1 f2 r
    → Puts (flat_map f (take (i + 1) xs)) w0 w2 f0 f2 r
puts_next f xs i d h w0 w1 w2 f0 f1 f2 v r p q =
    let grown : flat_map f (take (i + 1) xs) ≡ flat_map f (take i xs) ++ f (get_or xs i d) =
    ap (flat_map f) (take_more xs i d h) ∙ flat_map-append f (take i xs) (get_or xs i d ∷ [])
    ∙ ap (λ (x : List ℕ). flat_map f (take i xs) ++ x) (append-nil (f (get_or xs i d))) in
    puts_same _ _ w0 w2 f0 f2 r (sym grown) (puts_both _ _ w0 w1 w2 f0 f1 f2 v r p q)

-- a write stopped within a list
pub puts_part : {X T U E D : Type 0} (f : X → List ℕ) (xs : List X) (n : ℕ) (w0 w1 : Option (List ℕ)) (f0 f1 : Faults) (e : E) (r : Result U D) →
    IsErr r → Puts {T = T} (flat_map f (take n xs)) w0 w1 f0 f1 (Err e) → Puts (flat_map f xs) w0 w1 f0 f1 r
puts_part f xs n w0 w1 f0 f1 e r h p =
    let parts : flat_map f (take n xs) ++ flat_map f (drop n xs) ≡ flat_map f xs =
    sym (flat_map-append f (take n xs) (drop n xs)) ∙ ap (flat_map f) (take-append-drop n xs) in
    puts_same _ _ w0 w1 f0 f1 r parts (puts_stopped_at _ _ w0 w1 f0 f1 e r h p)

-- a whole list was written
pub puts_whole : {X T D : Type 0} (f : X → List ℕ) (xs : List X) (n : ℕ) (w0 w1 : Option (List ℕ)) (f0 f1 : Faults) (r : Result T D) →
    length xs ≤ n → Puts (flat_map f (take n xs)) w0 w1 f0 f1 r → Puts (flat_map f xs) w0 w1 f0 f1 r
puts_whole f xs n w0 w1 f0 f1 r h p = puts_same _ _ w0 w1 f0 f1 r (ap (flat_map f) (take_all n xs h)) p

-- a line of slices is its first, the others with a blank before each, and LF
pub line_of-parts : (words : List (Bor (List ℕ))) (d : Bor (List ℕ)) → 1 ≤ length words →
    (get_or words 0 d).now ++ (spaced (map (λ (word : Bor (List ℕ)). word.now) (take (length words - 1) (drop 1 words))) ++ 10 ∷ [])
    ≡ line_of (map (λ (word : Bor (List ℕ)). word.now) words)
line_of-parts [] d h = absurd (omega arith)
line_of-parts (word ∷ words) d h =
    let all : take (length (word ∷ words) - 1) words ≡ words = take_all (length (word ∷ words) - 1) words (omega arith) in
    ap (λ (ws : List (Bor (List ℕ))). word.now ++ (spaced (map (λ (w : Bor (List ℕ)). w.now) ws) ++ 10 ∷ [])) all
    ∙ sym (line_of-spaced word.now (map (λ (w : Bor (List ℕ)). w.now) words))
