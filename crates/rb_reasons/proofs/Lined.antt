-- The first lines of texts, behind those of others.
use Rattle.std.proofs.Common.{◌≡◌, ◌∙◌, ℕ, List, [], ◌∷◌, ◌++◌, map, Bor, refl, sym, ap, ap₂}
use Rattle.std.specs.List.{flat_map}
use Rattle.std.proofs.lemmas.List.{map-append}
use Rattle.std.proofs.lemmas.Grind.{flat_map-append}
use Rattle.rb_reasons.specs.Headlines.{headline}
use Rattle.rb_reasons.specs.Names.{name_of}

-- the first lines of texts of these names
abbrev pub AreLinesOf : List (List ℕ) → List ℕ → Type 0
AreLinesOf words told = (texts : List (List ℕ)) × (map name_of texts ≡ words) × (told ≡ flat_map headline texts)

map_twice : (texts : List (Bor (List ℕ))) → map name_of (map (λ text. text.now) texts) ≡ map (λ text. name_of text.now) texts
map_twice [] = refl
map_twice (text ∷ texts) = ap (λ (ws : List (List ℕ)). name_of text.now ∷ ws) (map_twice texts)

pub lines_behind : (words more : List (List ℕ)) (told new : List ℕ) (texts : List (Bor (List ℕ))) → AreLinesOf words told
    → map (λ text. name_of text.now) texts ≡ more → new ≡ told ++ flat_map headline (map (λ text. text.now) texts)
    → AreLinesOf (words ++ more) new
lines_behind words more told new texts (before, are, is) named all =
    let behind : List (List ℕ) = map (λ (text : Bor (List ℕ)). text.now) texts in (
      before ++ behind,
      map-append name_of before behind ∙ ap₂ (λ (x y : List (List ℕ)). x ++ y) are (map_twice texts ∙ named),
      all ∙ ap (λ (x : List ℕ). x ++ flat_map headline behind) is ∙ sym (flat_map-append headline before behind),
    )
