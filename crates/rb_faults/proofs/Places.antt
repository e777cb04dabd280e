-- The declarations of a scope that are visited in order.
use Rattle.std.proofs.Common.{◌≡◌, ℕ, zero, suc, ◌+◌, List, [], ◌∷◌, ◌++◌, take, drop, slice_get, Some, sym, ap, ◌∙◌, add-one}
use Rattle.rb_base.specs.declared.fault.SourceFault.{SourceFault}
use Rattle.rb_scope.specs.Scopes.{Declared}
use Rattle.rb_scope.specs.Sites.{Declares, scope_sites}
use Rattle.rb_faults.specs.Finding.{visit, visited}

rest-at : (scope : List Declared) (p : ℕ) (one : Declared) → slice_get scope p ≡ Some one → drop p scope ≡ one ∷ drop (suc p) scope
rest-at [] p one e = absurd (cc)
rest-at (x ∷ xs) zero one e = let same : x ≡ one = cc in ap (λ y. y ∷ xs) same
rest-at (x ∷ xs) (suc p) one e = rest-at xs p one e

front-at : (scope : List Declared) (p : ℕ) (one : Declared) → slice_get scope p ≡ Some one → take (suc p) scope ≡ take p scope ++ one ∷ []
front-at [] p one e = absurd (cc)
front-at (x ∷ xs) zero one e = let same : x ≡ one = cc in ap (λ y. y ∷ []) same
front-at (x ∷ xs) (suc p) one e = ap (λ ys. x ∷ ys) (front-at xs p one e)

-- one declaration more of a scope that is visited
pub scope_step : (scope : List Declared) (p : ℕ) (one : Declared) (before after whole : List SourceFault) → slice_get scope p ≡ Some one
    → visited before (scope_sites (take p scope) (drop p scope)) ≡ whole → after ≡ visit before (Declares (take p scope) one)
    → visited after (scope_sites (take (p + 1) scope) (drop (p + 1) scope)) ≡ whole
scope_step scope p one before after whole e w a =
    ap (λ n. visited after (scope_sites (take n scope) (drop n scope))) (add-one p)
    ∙ ap (λ f. visited f (scope_sites (take (suc p) scope) (drop (suc p) scope))) a
    ∙ ap (λ xs. visited (visit before (Declares (take p scope) one)) (scope_sites xs (drop (suc p) scope))) (front-at scope p one e)
    ∙ ap (λ xs. visited before (scope_sites (take p scope) xs)) (sym (rest-at scope p one e))
    ∙ w
