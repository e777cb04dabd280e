-- One step of the walk over the links: a link is followed, or passed over.
use Rattle.std.proofs.Common.{◌≡◌, ◌<◌, ◌+◌, ℕ, Bool, true, false, cond, List, [], ◌∷◌, ◌++◌, length, drop, get_or, map, reverse, sym, ap, ◌∙◌, append_assoc}
use Rattle.std.proofs.lemmas.List.{drop_more}
use Rattle.rb_base.specs.declared.kept.Kept.{Kept}
use Rattle.rb_cache.proofs.LawsHold.{map-reverse}
use Rattle.rb_code.specs.WordMachine.Turn.{Link}
use Rattle.rb_recovery.specs.Survivors.{is_wanted, kept_by, next_wanted, reached}
use Rattle.rb_recovery.specs.Worlds.{link_of}
use Rattle.rb_recovery.specs.declared.links.Link.{Link as Held}

-- what links lead to from a number on
abbrev pub from : List Held → ℕ → List ℕ → List Kept
from all i wanted = reached (map link_of (drop i all)) wanted

module _ (all : List Held) (i : ℕ) (x : Held) (within : i < length all) (here : x ≡ get_or all i x) (wanted : List ℕ) where
  abbrev goes : Bool → List Kept
  goes b = cond b (kept_by (link_of x) ∷ from all (i + 1) (next_wanted wanted (link_of x))) (from all (i + 1) wanted)

  met : (b : Bool) → is_wanted wanted (link_of x) ≡ b → from all i wanted ≡ goes b
  met b is =
      ap (λ (rest : List Held). reached (map link_of rest) wanted) (drop_more all i x within)
      ∙ (ap (λ (one : Held). reached (map link_of (one ∷ drop (i + 1) all)) wanted) (sym here) ∙ ap goes is)

  abbrev next_of : Bool → List ℕ
  next_of b = cond b (next_wanted wanted (link_of x)) wanted

  module _ (j : ℕ) (is_next : j ≡ i + 1) (items whole : List Kept) (h : items ++ from all i wanted ≡ whole)
      (r : Bool) (answered : r ≡ is_wanted wanted (link_of x)) (later : List ℕ) (then : later ≡ next_of r) where
    -- where a link is followed, its turn was reached
    pub followed : r ≡ true → (more : List Kept) (one : Kept) → one ≡ kept_by (link_of x) → more ≡ items ++ one ∷ []
        → more ++ from all j later ≡ whole
    followed so more one is_one is_more =
        ap (λ (n : ℕ). more ++ from all n later) is_next
        ∙ (ap (λ (ws : List ℕ). more ++ from all (i + 1) ws) (then ∙ ap next_of so)
        ∙ (ap (λ (ks : List Kept). ks ++ from all (i + 1) (next_of true)) is_more
        ∙ (append_assoc items (one ∷ []) (from all (i + 1) (next_of true))
        ∙ (ap (λ (k : Kept). items ++ k ∷ from all (i + 1) (next_of true)) is_one
        ∙ (ap (λ (ks : List Kept). items ++ ks) (sym (met true (sym answered ∙ so))) ∙ h)))))

    -- and where it is passed over, nothing was
    pub passed_over : r ≡ false → items ++ from all j later ≡ whole
    passed_over so =
        ap (λ (n : ℕ). items ++ from all n later) is_next
        ∙ (ap (λ (ws : List ℕ). items ++ from all (i + 1) ws) (then ∙ ap next_of so)
        ∙ (ap (λ (ks : List Kept). items ++ ks) (sym (met false (sym answered ∙ so))) ∙ h))

-- what was reached, from the oldest on
pub in_order : (links : List Held) (wanted : List ℕ) (kept back : List Kept) → kept ≡ reached (map link_of (reverse links)) wanted
    → back ≡ reverse kept → back ≡ reverse (reached (reverse (map link_of links)) wanted)
in_order links wanted kept back is turned =
    turned ∙ (ap reverse is ∙ ap (λ (all : List Link). reverse (reached all wanted)) (map-reverse link_of links))
