-- Which tokens are told, one after another.
use Rattle.std.proofs.Common.{◌++◌, Bor, map, take, drop, get_or, ◌-◌, ◌≤◌, ◌<◌, arith, ◌≡◌, ◌↔◌, inl, inr, ℕ, Bool, true, nat_eq, List, [], ◌∷◌, length, codes, IsTrue, refl, sym, ◌∙◌, subst, ap}
use Rattle.std.specs.Cmp.Lexicographic.{pointwise}
use Rattle.std.proofs.Math.Seq.{take-length}
use Rattle.rb_why.specs.Expected.{GoesOn, IsOther, IsTold, MayStand, Tells, TellsTried, tried}

-- 2 is none where 1 may not stand
pub other_at_two : (text : List ℕ) (line : ℕ) (token : List ℕ) (two lacks : Bool) → two ≡ pointwise nat_eq token (codes "2") → two ≡ true
    → (IsTrue lacks ↔ (MayStand text line (codes "1") → ⊥)) → IsTrue lacks ↔ IsOther text line token
other_at_two text line token two lacks e f h = (λ l _. h.0 l, λ other. h.1 (other (sym e ∙ f)))

-- what was told before a token and what goes on
pub tells_next : (text : List ℕ) (line : ℕ) (token : List ℕ) (tokens : List (List ℕ)) (told next words : List (List ℕ)) → GoesOn text line token told next
    → Tells text line tokens next words → Tells text line (token ∷ tokens) told words
tells_next text line token tokens told next words (inl t) h = inl (t.0, subst (λ x. Tells text line tokens x words) t.1 h)
tells_next text line token tokens told next words (inr t) h = inr (t.0, subst (λ x. Tells text line tokens x words) t.1 h)

abbrev pub bytes_of : List (Bor (List ℕ)) → List (List ℕ)
bytes_of tokens = map (λ (token : Bor (List ℕ)). token.now) tokens

rest_of : (x : Bor (List ℕ)) (xs : List (Bor (List ℕ))) → take (length (x ∷ xs) - 1) (drop 1 (x ∷ xs)) ≡ xs
rest_of x xs = let e : length (x ∷ xs) - 1 ≡ length xs = omega arith in rw e (take-length xs)

-- the first of some tokens and the rest, as a slice is cut
pub tells_cut : (text : List ℕ) (line : ℕ) (tokens : List (Bor (List ℕ))) (other : Bor (List ℕ)) (told next words : List (List ℕ)) → 1 ≤ length tokens
    → GoesOn text line (get_or tokens 0 other).now told next → Tells text line (bytes_of (take (length tokens - 1) (drop 1 tokens))) next words
    → Tells text line (bytes_of tokens) told words
tells_cut text line [] other told next words some g h = absurd (omega arith)
tells_cut text line (x ∷ xs) other told next words some g h =
    tells_next text line x.now (bytes_of xs) told next words g (subst (λ ts. Tells text line (bytes_of ts) next words) (rest_of x xs) h)

-- where none is left
pub tells_last : (text : List ℕ) (line : ℕ) (tokens : List (Bor (List ℕ))) (told : List (List ℕ)) → length tokens < 1
    → Tells text line (bytes_of tokens) told told
tells_last text line [] told none = refl
tells_last text line (x ∷ xs) told none = absurd (omega arith)

-- the tokens that are tried
pub tells_tried : (text : List ℕ) (line : ℕ) (tokens words : List (List ℕ)) → tokens ≡ tried → Tells text line tokens [] words
    → TellsTried text line words
tells_tried text line tokens words e h = record { all = subst (λ ts. Tells text line ts [] words) e h }

map_push : (xs : List (Bor (List ℕ))) (x : Bor (List ℕ)) → bytes_of (xs ++ x ∷ []) ≡ bytes_of xs ++ (x.now ∷ [])
map_push [] x = refl
map_push (y ∷ ys) x = ap (λ zs. y.now ∷ zs) (map_push ys x)

-- one more is told
pub goes_with : (text : List ℕ) (line : ℕ) (token : Bor (List ℕ)) (told next : List (Bor (List ℕ))) → IsTold text line token.now
    → next ≡ told ++ token ∷ [] → GoesOn text line token.now (bytes_of told) (bytes_of next)
goes_with text line token told next is e = inl (is, ap bytes_of e ∙ map_push told token)
