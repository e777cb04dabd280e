-- A command with too few words.
use Rattle.std.proofs.Common.{◌≡◌, ◌∙◌, ℕ, List, drop, length, map, nat_lt, true, ap, sym}
use Rattle.std.proofs.lemmas.Bool.{cond-true}
use Rattle.std.proofs.lemmas.List.{drop-map, length-map}
use Rattle.rb_asking.specs.Guides.{guide_of}
use Rattle.rb_asking.specs.Misasked.{miscounted, too_few}
use Rattle.rb_asking.specs.declared.guides.Guide.{Guide}

-- those that are missing are told
pub missing_told : (program : List ℕ) (guide : Guide) (count : ℕ) → nat_lt count (length guide.takes.now) ≡ true
    → too_few program (guide_of guide) (map (λ word. word.now) (drop count guide.takes.now)) ≡ miscounted program (guide_of guide) count
missing_told program guide count few =
    ap (λ (missing : List (List ℕ)). too_few program (guide_of guide) missing) (sym (drop-map (λ word. word.now) count guide.takes.now))
    ∙ sym (cond-true _ _ _ (ap (nat_lt count) (length-map guide.takes.now (λ word. word.now)) ∙ few))
