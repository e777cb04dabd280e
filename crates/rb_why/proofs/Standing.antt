-- What a parser's verdict says of a token that is tried, and tokens that are gathered one by one.
use Rattle.std.proofs.Common.{◌≡◌, ◌↔◌, ℕ, Bool, true, false, not, List, [], ◌∷◌, ◌++◌, map, IsTrue, refl, ap, sym, ◌∙◌, ap₂, arith}
use Rattle.rb_base.specs.declared.fault.SourceFault.{SourceFault}
use Rattle.rb_base.specs.declared.place.Place.{Place}
use Rattle.rb_grammar.specs.Verdict.{HasTree, RefusedFor}
use Rattle.rb_syntax.specs.Tree.{Tree}
use Rattle.rb_parse.proofs.Verdicts.{has_one_verdict}
use Rattle.rb_why.specs.Expected.{IsRefusedBehind, front_behind}
use Rattle.rb_frame.specs.Places.{is_place}

-- a source that has a tree is refused nowhere
pub stands_with_tree : (source : List ℕ) (line : ℕ) (tree : Tree) → HasTree source tree → IsRefusedBehind source line → ⊥
stands_with_tree source line tree h r = (has_one_verdict source).2 tree r.0 h r.1

-- one that is refused elsewhere is not refused there
stands_elsewhere : (source : List ℕ) (line : ℕ) (fault : SourceFault) → RefusedFor source fault → (fault.place ≡ front_behind line → ⊥)
    → IsRefusedBehind source line → ⊥
stands_elsewhere source line fault f away r =
    away (ap (λ (g : SourceFault). g.place) ((has_one_verdict source).1 fault r.0 f r.1) ∙ r.2)

same_place : (p q : Place) → p.line ≡ q.line → p.column ≡ q.column → p ≡ q
same_place p q a b = ap₂ (λ (line column : ℕ). record { line = line; column = column }) a b

place_there : (p q : Place) → is_place p q ≡ true → p ≡ q
place_there p q e = same_place p q (grind arith) (grind arith)

place_away : (p q : Place) → is_place p q ≡ false → p ≡ q → ⊥
place_away p q e s = let same : is_place p p ≡ false = ap (λ x. is_place p x) s ∙ e in grind (arith, same)

decided : (A : Type 0) (b : Bool) → (b ≡ true → A) → (b ≡ false → A → ⊥) → IsTrue (not b) ↔ (A → ⊥)
decided A true there away = (λ h. absurd (cc), λ f. absurd (f (there refl)))
decided A false there away = (λ _. away refl, λ _. refl)

-- whether one that is refused for a fault goes on with the token, by the fault's place
pub stands_by : (source : List ℕ) (line : ℕ) (fault : SourceFault) (there : Place) (b : Bool) → RefusedFor source fault
    → there ≡ front_behind line → b ≡ is_place fault.place there → IsTrue (not b) ↔ (IsRefusedBehind source line → ⊥)
stands_by source line fault there b f is e =
    decided (IsRefusedBehind source line) b
    (λ held. (fault, f, place_there fault.place there (sym e ∙ held) ∙ is))
    (λ failed. stands_elsewhere source line fault f (λ same. place_away fault.place there (sym e ∙ failed) (same ∙ sym is)))

one_more : {A B : Type 0} (f : A → B) (xs : List A) (x : A) (rest : List B) → map f (xs ++ x ∷ []) ++ rest ≡ map f xs ++ (f x ∷ rest)
one_more f [] x rest = refl
one_more f (y ∷ xs) x rest = ap (λ zs. f y ∷ zs) (one_more f xs x rest)

-- one more was gathered
pub pushed : {A B : Type 0} (f : A → B) (xs ys : List A) (x : A) (left rest all : List B) →
    ys ≡ xs ++ x ∷ [] → left ≡ f x ∷ rest → map f xs ++ left ≡ all → map f ys ++ rest ≡ all
pushed f xs ys x left rest all p q h =
    ap (λ zs. map f zs ++ rest) p ∙ one_more f xs x rest ∙ ap (λ zs. map f xs ++ zs) (sym q) ∙ h
