-- Released lines of lists of turns that are joined, and of turns that released nothing.
use Rattle.std.proofs.Common.{◌≡◌, ℕ, suc, ◌+◌, List, [], ◌∷◌, ◌++◌, length, map, refl, sym, ap, ap₂, ◌∙◌, append_assoc, append-nil, arith}
use Rattle.rb_world.specs.Turn.{Told}
use Rattle.rb_world.specs.Standing.{Each}
use Rattle.rb_world.specs.Erased.{Released, numbered, released_from, released_in}

-- the lines of two lists of turns are those of the first, and then those of the second
pub released_in-append : (a b : List (ℕ × Told)) → released_in (a ++ b) ≡ released_in a ++ released_in b
released_in-append [] b = refl
released_in-append ((t, one) ∷ a) b =
    ap (λ (rest : List Released). released_from t 0 one.released ++ rest) (released_in-append a b)
    ∙ sym (append_assoc (released_from t 0 one.released) (released_in a) (released_in b))

-- one turn more
pub released_in-more : (a : List (ℕ × Told)) (t : ℕ) (one : Told) → released_in (a ++ (t, one) ∷ []) ≡ released_in a ++ released_from t 0 one.released
released_in-more a t one =
    released_in-append a ((t, one) ∷ []) ∙ ap (λ (rest : List Released). released_in a ++ rest) (append-nil (released_from t 0 one.released))

-- what was told next has the next number
pub numbered-more : (t : ℕ) (past : List Told) (one : Told) → numbered t (past ++ one ∷ []) ≡ numbered t past ++ (t + length past, one) ∷ []
numbered-more t [] one = ap (λ (n : ℕ). (n, one) ∷ []) (omega arith)
numbered-more t (first ∷ past) one =
    ap (λ (rest : List (ℕ × Told)). (t, first) ∷ rest)
    (numbered-more (t + 1) past one ∙ ap (λ (n : ℕ). numbered (t + 1) past ++ (n, one) ∷ []) (omega arith))

-- a turn that released no line of any process released nothing
pub released_from-none : (t p : ℕ) (lists : List (List (List ℕ))) → Each (λ _ lines. lines ≡ []) lists → released_from t p lists ≡ []
released_from-none t p [] none = refl
released_from-none t p (lines ∷ lists) none =
    ap₂ (λ (here : List (List ℕ)) (rest : List Released). map (λ line. record { turn = t; process = p; line = line }) here ++ rest)
    (none 0 lines refl) (released_from-none t (p + 1) lists (λ r. none (suc r)))

-- all lines so far, with those of the newest turn, whose number is known
pub released_next : (past : List Told) (t : ℕ) (one : Told) → t ≡ length past + 1
    → released_in (numbered 1 (past ++ one ∷ [])) ≡ released_in (numbered 1 past) ++ released_from t 0 one.released
released_next past t one e =
    ap released_in (numbered-more 1 past one)
    ∙ released_in-more (numbered 1 past) (1 + length past) one
    ∙ ap (λ (n : ℕ). released_in (numbered 1 past) ++ released_from n 0 one.released) (omega (arith, e))
