-- Texts that are put behind one another.
use Rattle.std.proofs.Common.{◌≡◌, ◌∙◌, ℕ, List, [], ◌++◌, ap, append_assoc}

-- three, where there was nothing before
pub joined_three : (t0 t1 t2 t3 a b c : List ℕ) → t0 ≡ [] → t1 ≡ t0 ++ a → t2 ≡ t1 ++ b → t3 ≡ t2 ++ c → t3 ≡ a ++ (b ++ c)
joined_three t0 t1 t2 t3 a b c none one two three =
    three ∙ ap (λ (x : List ℕ). x ++ c) (two ∙ ap (λ (x : List ℕ). x ++ b) (one ∙ ap (λ (x : List ℕ). x ++ a) none)) ∙ append_assoc a b c

-- and four
pub joined_four : (t0 t1 t2 t3 t4 a b c d : List ℕ) → t0 ≡ [] → t1 ≡ t0 ++ a → t2 ≡ t1 ++ b → t3 ≡ t2 ++ c → t4 ≡ t3 ++ d
    → t4 ≡ a ++ (b ++ (c ++ d))
joined_four t0 t1 t2 t3 t4 a b c d none one two three four =
    four ∙ ap (λ (x : List ℕ). x ++ d) (joined_three t0 t1 t2 t3 a b c none one two three) ∙ append_assoc a (b ++ c) d
    ∙ ap (λ (x : List ℕ). a ++ x) (append_assoc b c d)
