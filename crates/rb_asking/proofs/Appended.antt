-- Texts that are put behind one another.
use Rattle.std.proofs.Common.{◌≡◌, ◌∙◌, ℕ, List, ◌∷◌, ◌++◌, ap, sym, append_assoc}
use Rattle.std.specs.List.{concat}
use Rattle.std.proofs.lemmas.List.Folds.{concat-append}

-- one between pieces
pub put_between : (old one two three : List ℕ) (ps : List (List ℕ)) (m : List ℕ) (qs : List (List ℕ)) → one ≡ old ++ concat ps → two ≡ one ++ m
    → three ≡ two ++ concat qs → three ≡ old ++ concat (ps ++ m ∷ qs)
put_between old one two three ps m qs first second third =
    third ∙ ap (λ (x : List ℕ). x ++ concat qs) (second ∙ ap (λ (x : List ℕ). x ++ m) first)
    ∙ append_assoc (old ++ concat ps) m (concat qs) ∙ append_assoc old (concat ps) (m ++ concat qs)
    ∙ ap (λ (x : List ℕ). old ++ x) (sym (concat-append ps (m ∷ qs)))
