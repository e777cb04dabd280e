-- The table of a scope: the place of the first declaration of each name.
use Rattle.std.proofs.Common.{◌≡◌, ℕ, zero, suc, ◌+◌, ◌<◌, ◌≤◌, nat_lt, Bool, true, false, cond, ◌||◌, List, [], ◌∷◌, ◌++◌, length, get_or, take, drop, slice_get, Option, Some, None, refl, sym, ap, ◌∙◌, arith, add-one}
use Rattle.std.proofs.lemmas.Bool.Decides.{nat_tests}
use Rattle.std.proofs.Math.Seq.{drop-cons}
use Rattle.std.specs.List.{list_any}
use Rattle.rb_meaning.specs.Environment.{same_name}
use Rattle.rb_scope.specs.Scopes.{Declared as Plain, declared_in}
use Rattle.rb_scope.specs.Sites.{Declares, scope_sites}
use Rattle.rb_scope.specs.Finding.{Found, visit, visited}
use Rattle.rb_scope.specs.declared.declared.Declared.{Declared}
use Rattle.rb_scope.specs.Memory.{held, all_held, place_from}

-- a place is not before that of the first declaration
le-step : (b : Bool) (n k : ℕ) (rest : Option ℕ) → cond b (Some n) rest ≡ Some k → (rest ≡ Some k → n + 1 ≤ k) → n ≤ k
le-step true n k rest e f = let same : n ≡ k = cc in omega arith
le-step false n k rest e f = let more = f e in omega (arith, more)

place-le : (x : List ℕ) (ds : List Declared) (n k : ℕ) → place_from n x ds ≡ Some k → n ≤ k
place-le x [] n k e = absurd (cc)
place-le x (one ∷ others) n k e =
    le-step (same_name one.name.text.now x) n k (place_from (n + 1) x others) e (place-le x others (n + 1) k)

-- and it is one of a declaration
within-step : (b : Bool) (n k m : ℕ) (rest : Option ℕ) → cond b (Some n) rest ≡ Some k → (rest ≡ Some k → k < n + 1 + m) → k < n + suc m
within-step true n k m rest e f = let same : n ≡ k = cc in omega arith
within-step false n k m rest e f = let more = f e in omega (arith, more)

within : (x : List ℕ) (ds : List Declared) (n k : ℕ) → place_from n x ds ≡ Some k → k < n + length ds
within x [] n k e = absurd (cc)
within x (one ∷ others) n k e =
    within-step (same_name one.name.text.now x) n k (length others) (place_from (n + 1) x others) e (within x others (n + 1) k)

pub place_within : (x : List ℕ) (ds : List Declared) (k : ℕ) → place_from 0 x ds ≡ Some k → k < length ds
place_within x ds k e = let h : k < 0 + length ds = within x ds 0 k e in omega arith

-- a name that has no place is not declared
absent-step : (b : Bool) (n : ℕ) (rest : Option ℕ) (one : Plain) (found : Option Plain) → cond b (Some n) rest ≡ None
    → (rest ≡ None → None ≡ found) → None ≡ cond b (Some one) found
absent-step true n rest one found e f = absurd (cc)
absent-step false n rest one found e f = f e

absent-from : (x : List ℕ) (ds : List Declared) (n : ℕ) → place_from n x ds ≡ None → None ≡ declared_in x (all_held ds)
absent-from x [] n e = refl
absent-from x (one ∷ others) n e =
    absent-step (same_name one.name.text.now x) n (place_from (n + 1) x others) (held one)
    (declared_in x (all_held others)) e (absent-from x others (n + 1))

pub absent : (x : List ℕ) (ds : List Declared) → place_from 0 x ds ≡ None → None ≡ declared_in x (all_held ds)
absent x ds e = absent-from x ds 0 e

-- what stands at the place of a name is its declaration
here-step : (b : Bool) (n k : ℕ) (rest : Option ℕ) (one : Plain) (found : Option Plain) → cond b (Some n) rest ≡ Some k → n ≡ k
    → (rest ≡ Some k → n + 1 ≤ k) → Some one ≡ cond b (Some one) found
here-step true n k rest one found e h f = refl
here-step false n k rest one found e h f = let more = f e in absurd (omega (arith, more))

later-step : (b : Bool) (n k j : ℕ) (rest : Option ℕ) (one other : Plain) (found : Option Plain) → cond b (Some n) rest ≡ Some k
    → n + suc j ≡ k → (rest ≡ Some k → Some other ≡ found) → Some other ≡ cond b (Some one) found
later-step true n k j rest one other found e h f = let same : n ≡ k = cc in absurd (omega arith)
later-step false n k j rest one other found e h f = f e

read : (x : List ℕ) (ds : List Declared) (n k i : ℕ) (d : Declared) → place_from n x ds ≡ Some k → n + i ≡ k
    → Some (held (get_or ds i d)) ≡ declared_in x (all_held ds)
read x [] n k i d e h = absurd (cc)
read x (one ∷ others) n k zero d e h =
    here-step (same_name one.name.text.now x) n k (place_from (n + 1) x others) (held one)
    (declared_in x (all_held others)) e (omega arith) (place-le x others (n + 1) k)
read x (one ∷ others) n k (suc j) d e h =
    later-step (same_name one.name.text.now x) n k j (place_from (n + 1) x others) (held one) (held (get_or others j d))
    (declared_in x (all_held others)) e h
    (λ g. read x others (n + 1) k j d g (omega arith))

pub found : (x : List ℕ) (ds : List Declared) (k : ℕ) (d : Declared) → place_from 0 x ds ≡ Some k
    → Some (held (get_or ds k d)) ≡ declared_in x (all_held ds)
found x ds k d e = read x ds 0 k k d e (omega arith)

-- whether a declaration is one of this name
abbrev pub has_name : List ℕ → Plain → Bool
has_name x one = same_name one.name.text x

-- a name is declared before a place where its first place is before it
any-step : (b : Bool) (n k m : ℕ) (rest : Option ℕ) (any : Bool) → cond b (Some n) rest ≡ Some k
    → (rest ≡ Some k → nat_lt k (n + 1 + m) ≡ any) → nat_lt k (n + suc m) ≡ b || any
any-step true n k m rest any e f = let same : n ≡ k = cc in grind (arith, nat_tests)
any-step false n k m rest any e f = let same : n + suc m ≡ n + 1 + m = omega arith in ap (nat_lt k) same ∙ f e

not-before : (n k : ℕ) → n ≤ k → nat_lt k (n + 0) ≡ false
not-before n k h = grind (arith, nat_tests)

before-from : (x : List ℕ) (ds : List Declared) (n k p : ℕ) → place_from n x ds ≡ Some k
    → nat_lt k (n + p) ≡ list_any (has_name x) (take p (all_held ds))
before-from x [] n k p e = absurd (cc)
before-from x (one ∷ others) n k zero e = not-before n k (place-le x (one ∷ others) n k e)
before-from x (one ∷ others) n k (suc m) e =
    any-step (same_name one.name.text.now x) n k m (place_from (n + 1) x others) (list_any (has_name x) (take m (all_held others))) e
    (λ g. before-from x others (n + 1) k m g)

pub before : (x : List ℕ) (ds : List Declared) (k p : ℕ) → place_from 0 x ds ≡ Some k → nat_lt k p ≡ list_any (has_name x) (take p (all_held ds))
before x ds k p e = let same : p ≡ 0 + p = omega arith in ap (nat_lt k) same ∙ before-from x ds 0 k p e

never-step : (b : Bool) (n : ℕ) (rest : Option ℕ) (any : Bool) → cond b (Some n) rest ≡ None → (rest ≡ None → false ≡ any) → false ≡ b || any
never-step true n rest any e f = absurd (cc)
never-step false n rest any e f = f e

never-from : (x : List ℕ) (ds : List Declared) (n p : ℕ) → place_from n x ds ≡ None → false ≡ list_any (has_name x) (take p (all_held ds))
never-from x [] n zero e = refl
never-from x [] n (suc m) e = refl
never-from x (one ∷ others) n zero e = refl
never-from x (one ∷ others) n (suc m) e =
    never-step (same_name one.name.text.now x) n (place_from (n + 1) x others)
    (list_any (has_name x) (take m (all_held others))) e (never-from x others (n + 1) m)

pub never : (x : List ℕ) (ds : List Declared) (p : ℕ) → place_from 0 x ds ≡ None → false ≡ list_any (has_name x) (take p (all_held ds))
never x ds p e = never-from x ds 0 p e

-- one declaration more, in front of the others
pub one_earlier : (x : List ℕ) (ds : List Declared) (p i : ℕ) (d : Declared) (old : Option ℕ) → suc i ≡ p → p ≤ length ds
    → old ≡ place_from p x (drop p ds)
    → cond (same_name (get_or ds i d).name.text.now x) (Some i) old ≡ place_from i x (drop i ds)
one_earlier x ds p i d old e h o =
    let one = get_or ds i d in
    let l : i < length ds = omega arith in
    let n : p ≡ i + 1 = omega arith in
    ap (cond (same_name one.name.text.now x) (Some i)) (o ∙ ap (λ k. place_from k x (drop p ds)) n)
    ∙ ap (λ k. cond (same_name one.name.text.now x) (Some i) (place_from (i + 1) x (drop k ds))) (sym e)
    ∙ ap (place_from i x) (sym (drop-cons ds i d l))

-- the declaration at a place
pub there : (sc : List Plain) (p : ℕ) → p < length sc → (one : Plain) × (slice_get sc p ≡ Some one)
there [] p h = absurd (omega arith)
there (one ∷ others) zero h = (one, refl)
there (one ∷ others) (suc p) h = there others p (omega arith)

rest-at : (sc : List Plain) (p : ℕ) (one : Plain) → slice_get sc p ≡ Some one → drop p sc ≡ one ∷ drop (suc p) sc
rest-at [] p one e = absurd (cc)
rest-at (x ∷ xs) zero one e = let same : x ≡ one = cc in ap (λ y. y ∷ xs) same
rest-at (x ∷ xs) (suc p) one e = rest-at xs p one e

front-at : (sc : List Plain) (p : ℕ) (one : Plain) → slice_get sc p ≡ Some one → take (suc p) sc ≡ take p sc ++ one ∷ []
front-at [] p one e = absurd (cc)
front-at (x ∷ xs) zero one e = let same : x ≡ one = cc in ap (λ y. y ∷ []) same
front-at (x ∷ xs) (suc p) one e = ap (λ ys. x ∷ ys) (front-at xs p one e)

-- one declaration more of a scope that is visited
pub scope_step : (sc : List Plain) (p : ℕ) (one : Plain) (before after whole : Found) → slice_get sc p ≡ Some one
    → visited before (scope_sites (take p sc) (drop p sc)) ≡ whole → after ≡ visit before (Declares (take p sc) one)
    → visited after (scope_sites (take (p + 1) sc) (drop (p + 1) sc)) ≡ whole
scope_step sc p one before after whole e w a =
    ap (λ n. visited after (scope_sites (take n sc) (drop n sc))) (add-one p)
    ∙ ap (λ f. visited f (scope_sites (take (suc p) sc) (drop (suc p) sc))) a
    ∙ ap (λ xs. visited (visit before (Declares (take p sc) one)) (scope_sites xs (drop (suc p) sc))) (front-at sc p one e)
    ∙ ap (λ xs. visited before (scope_sites (take p sc) xs)) (sym (rest-at sc p one e))
    ∙ w
