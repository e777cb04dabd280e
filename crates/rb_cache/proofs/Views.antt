-- From the outermost in: the copies and the levels, as contracts see them.
use Rattle.std.proofs.Common.{◌≡◌, ℕ, suc, ◌-◌, ◌<◌, ℤ, Bool, true, false, cond, not, ◌&&◌, nat_lt, List, [], ◌∷◌, ◌++◌, map, filter, reverse, take, length, refl, sym, ◌∙◌, ap, arith}
use Rattle.std.proofs.lemmas.List.{append-nil, map-append, reverse-append, length-map, length-reverse, length_push, get_or_push}
use Rattle.std.proofs.Math.Seq.{take-append_seam}
use Rattle.rb_cache.specs.Undo.{Saved, Region, put_back}
use Rattle.rb_cache.specs.Copies.{Level, place_of, level_of, restored, last_or, entered, joins, joined, change_last, accepted}
use Rattle.rb_cache.specs.Regions.{is_saved, is_new, recorded, cleared, merged, Stacked}
use Rattle.rb_cache.proofs.Copies.{restored-open, restored-accepted}

pub reverse-cons : {A : Type 0} (x : A) (xs : List A) → reverse (x ∷ xs) ≡ reverse xs ++ x ∷ []
reverse-cons x xs = reverse-append (x ∷ []) xs

pub last_or-push : {A : Type 0} (xs : List A) (x d : A) → last_or (xs ++ x ∷ []) d ≡ x
last_or-push xs x d = get_or_push xs x d (length (xs ++ x ∷ []) - 1) (omega (arith, length_push xs x))

pub last_or-reverse : {A : Type 0} (x : A) (xs : List A) (d : A) → last_or (reverse (x ∷ xs)) d ≡ x
last_or-reverse x xs d = ap (λ ys. last_or ys d) (reverse-cons x xs) ∙ last_or-push (reverse xs) x d

change_last-append : (f : Level → Level) (ls : List Level) (l : Level) → change_last f (ls ++ l ∷ []) ≡ ls ++ f l ∷ []
change_last-append f [] l = refl
change_last-append f (x ∷ []) l = refl
change_last-append f (x ∷ y ∷ ls) l = ap (λ (ms : List Level). x ∷ ms) (change_last-append f (y ∷ ls) l)

accepted-append : (ls : List Level) (l top : Level) → accepted (ls ++ l ∷ top ∷ []) ≡ ls ++ joined top.touched l ∷ []
accepted-append [] l top = refl
accepted-append (x ∷ []) l top = refl
accepted-append (x ∷ y ∷ []) l top = refl
accepted-append (x ∷ y ∷ z ∷ ls) l top = ap (λ (ms : List Level). x ∷ ms) (accepted-append (y ∷ z ∷ ls) l top)

-- the innermost level is the last
pub change_last-reverse : (f : Level → Level) (l : Level) (ls : List Level) → change_last f (reverse (l ∷ ls)) ≡ reverse (f l ∷ ls)
change_last-reverse f l ls = ap (change_last f) (reverse-cons l ls) ∙ change_last-append f (reverse ls) l ∙ sym (reverse-cons (f l) ls)

pub accepted-reverse : (top l : Level) (ls : List Level) → accepted (reverse (top ∷ l ∷ ls)) ≡ reverse (joined top.touched l ∷ ls)
accepted-reverse top l ls =
    ap accepted (reverse-append (top ∷ l ∷ []) ls) ∙ accepted-append (reverse ls) l top ∙ sym (reverse-cons (joined top.touched l) ls)

-- what a write adds to a level
touch_one : (b : Bool) (p : ℕ) (v : ℤ) (saved : List Saved)
    → map place_of (elim b [ true ↦ saved ++ record { place = p; value = v } ∷ [] | false ↦ saved ]) ≡ map place_of saved ++ cond b (p ∷ []) []
touch_one true p v saved = map-append place_of saved (record { place = p; value = v } ∷ [])
touch_one false p v saved = sym (append-nil (map place_of saved))

pub levels-recorded : (p : ℕ) (v : ℤ) (rs : List Region)
    → reverse (map level_of (recorded p v rs)) ≡ change_last (joined (p ∷ [])) (reverse (map level_of rs))
levels-recorded p v [] = refl
levels-recorded p v (r ∷ rs) =
    ap (λ (places : List ℕ). reverse (record { height = r.height; touched = places } ∷ map level_of rs))
    (touch_one (nat_lt p r.height && not (is_saved p r.saved)) p v r.saved)
    ∙ sym (change_last-reverse (joined (p ∷ [])) (level_of r) (map level_of rs))

pub levels-cleared : (rs : List Region)
    → reverse (map level_of (cleared rs)) ≡ change_last (λ (l : Level). entered l.height) (reverse (map level_of rs))
levels-cleared [] = refl
levels-cleared (r ∷ rs) = sym (change_last-reverse (λ (l : Level). entered l.height) (level_of r) (map level_of rs))

-- what an accepted level adds to the one around it
map-cond : (b : Bool) (s : Saved) (more : List Saved)
    → map place_of (cond b (s ∷ more) more) ≡ cond b (s.place ∷ map place_of more) (map place_of more)
map-cond true s more = refl
map-cond false s more = refl

map-is_new : (r : Region) (saved : List Saved)
    → map place_of (filter (is_new r.height r.saved) saved) ≡ filter (joins (level_of r)) (map place_of saved)
map-is_new r [] = refl
map-is_new r (s ∷ saved) =
    map-cond (is_new r.height r.saved s) s (filter (is_new r.height r.saved) saved)
    ∙ ap (λ (ps : List ℕ). cond (joins (level_of r) s.place) (s.place ∷ ps) ps) (map-is_new r saved)

pub levels-merged : (rs : List Region) → reverse (map level_of (merged rs)) ≡ accepted (reverse (map level_of rs))
levels-merged [] = refl
levels-merged (top ∷ []) = refl
levels-merged (top ∷ r ∷ rs) =
    ap (λ (places : List ℕ). reverse (record { height = r.height; touched = places } ∷ map level_of rs))
    (map-append place_of r.saved (filter (is_new r.height r.saved) top.saved)
    ∙ ap (λ (ps : List ℕ). map place_of r.saved ++ ps) (map-is_new r top.saved))
    ∙ sym (accepted-reverse (level_of top) (level_of r) (map level_of rs))

pub length-levels : (rs : List Region) → length (reverse (map level_of rs)) ≡ length rs
length-levels rs = length-reverse (map level_of rs) ∙ length-map rs level_of

pub length-restored : (ws : List ℤ) (rs : List Region) → length (restored ws rs) ≡ length rs
length-restored ws [] = refl
length-restored ws (r ∷ rs) = ap suc (length-restored (put_back ws r.saved) rs)

-- the copies after a level was opened, and once one was accepted
pub copies-open : (ws : List ℤ) (rs : List Region)
    → reverse (restored ws (record { height = length ws; saved = [] } ∷ rs)) ≡ reverse (restored ws rs) ++ ws ∷ []
copies-open ws rs = ap reverse (restored-open ws rs) ∙ reverse-cons ws (restored ws rs)

pub copies-accepted : (n : ℕ) (ws : List ℤ) (rs : List Region) → 0 < length rs → Stacked n rs
    → reverse (restored ws (merged rs)) ≡ take (length (reverse (map level_of rs)) - 1) (reverse (restored ws rs))
copies-accepted n ws rs some s =
    let k = restored-accepted n ws rs some s in
    let inner = reverse (restored ws (merged rs)) in
    let e : reverse (restored ws rs) ≡ inner ++ k.0 ∷ [] = ap reverse k.1 ∙ reverse-cons k.0 (restored ws (merged rs)) in
    let size : length (reverse (map level_of rs)) - 1 ≡ length inner =
    omega (arith, length-levels rs, length-restored ws rs, length-reverse (restored ws rs), ap length e, length_push inner k.0) in
    sym (ap (λ (i : ℕ). take i (reverse (restored ws rs))) size ∙ ap (take (length inner)) e ∙ take-append_seam inner (k.0 ∷ []))
