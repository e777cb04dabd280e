-- Sites that are visited in turn.
use Rattle.std.proofs.Common.{◌≡◌, ℕ, suc, ◌+◌, ◌<◌, List, [], ◌∷◌, ◌++◌, length, get_or, drop, refl, sym, ap, ◌∙◌, add-one, append-nil, append_assoc}
use Rattle.std.proofs.Math.Seq.{drop-cons}
use Rattle.std.proofs.lemmas.List.{length-map}
use Rattle.std.specs.List.{flat_map}
use Rattle.rb_base.specs.declared.fault.SourceFault.{SourceFault}
use Rattle.rb_scope.specs.Sites.{Site}
use Rattle.rb_scope.specs.Rules.{broken_at}
use Rattle.rb_faults.specs.Finding.{visit, visited}

-- sites, and then others
pub visited_append : (found : List SourceFault) (xs ys : List Site) → visited found (xs ++ ys) ≡ visited (visited found xs) ys
visited_append found [] ys = refl
visited_append found (x ∷ xs) ys = visited_append (visit found x) xs ys

visit-more : (found : List SourceFault) (site : Site) → visit found site ≡ found ++ broken_at site
unfolding visit
visit-more found site = refl

-- the faults behind sites are those so far, and all that the sites tell
pub visited_all : (found : List SourceFault) (sites : List Site) → visited found sites ≡ found ++ flat_map broken_at sites
visited_all found [] = sym (append-nil found)
visited_all found (site ∷ sites) =
    visited_all (visit found site) sites
    ∙ ap (λ so_far. so_far ++ flat_map broken_at sites) (visit-more found site)
    ∙ append_assoc found (broken_at site) (flat_map broken_at sites)

-- the rest of a list from an index on has the element there first
drop-at : {A : Type 0} (xs : List A) (i : ℕ) (x : A) → x ≡ get_or xs i x → i < length xs → drop i xs ≡ x ∷ drop (i + 1) xs
drop-at xs i x e h =
    drop-cons xs i x h ∙ ap (λ y. y ∷ drop (suc i) xs) (sym e) ∙ ap (λ n. x ∷ drop n xs) (sym (add-one i))

-- One element more of a list whose parts are visited in turn: what is found behind the rest stays what it was.
pub step : {A : Type 0} (sites : List A → List Site) (part : A → List Site)
    → ((x : A) (xs : List A) → sites (x ∷ xs) ≡ part x ++ sites xs) → (xs : List A) (i : ℕ) (x : A) → x ≡ get_or xs i x
    → i < length xs → (before after whole : List SourceFault) → visited before (sites (drop i xs)) ≡ whole → after ≡ visited before (part x)
    → visited after (sites (drop (i + 1) xs)) ≡ whole
step sites part splits xs i x e h before after whole w a =
    ap (λ f. visited f (sites (drop (i + 1) xs))) a
    ∙ sym (visited_append before (part x) (sites (drop (i + 1) xs)))
    ∙ ap (visited before) (sym (splits x (drop (i + 1) xs)))
    ∙ ap (λ ys. visited before (sites ys)) (sym (drop-at xs i x e h))
    ∙ w

-- for walks over parts that are visited one after another
pub ruleset walks = (visited_append, length-map)
