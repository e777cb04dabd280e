-- What each call of the cache means for the copies, from the innermost out.
use Rattle.std.proofs.Common.{◌≡◌, ℕ, zero, suc, ◌<◌, ◌≤◌, ℤ, pos, Bool, true, false, cond, not, ◌&&◌, ◌||◌, eqb, nat_lt, List, [], ◌∷◌, ◌++◌, take, filter, length, get_or, set, refl, sym, ◌∙◌, ap, arith}
use Rattle.std.proofs.lemmas.List.{set-set, set_comm, set-get_or, take-take, take-set-le, take_all, length-set}
use Rattle.std.proofs.lemmas.Grind.{common_steps}
use Rattle.std.specs.List.{AllByRecursion}
use Rattle.rb_cache.specs.Undo.{Saved, Region, put_back}
use Rattle.rb_cache.specs.Copies.{restored}
use Rattle.rb_cache.specs.Regions.{is_saved, top_height, merged, cleared, recorded, is_new, Stacked}

pub length-put_back : (ws : List ℤ) (es : List Saved) → length (put_back ws es) ≡ length ws
length-put_back ws [] = refl
length-put_back ws (e ∷ es) = length-set (put_back ws es) e.place e.value ∙ length-put_back ws es

pub put_back-append : (ws : List ℤ) (xs ys : List Saved) → put_back ws (xs ++ ys) ≡ put_back (put_back ws ys) xs
put_back-append ws [] ys = refl
put_back-append ws (x ∷ xs) ys = ap (λ us. set us x.place x.value) (put_back-append ws xs ys)

-- a place that is recorded for the first time
pub put_back-new : (ws : List ℤ) (p : ℕ) (v : ℤ) (es : List Saved)
    → put_back (set ws p v) (es ++ record { place = p; value = get_or ws p (pos 0) } ∷ []) ≡ put_back ws es
put_back-new ws p v es =
    put_back-append (set ws p v) es (record { place = p; value = get_or ws p (pos 0) } ∷ [])
    ∙ ap (λ us. put_back us es) (set-set ws p v (get_or ws p (pos 0)) ∙ set-get_or ws p (pos 0))

pub set_under : (p : ℕ) (v : ℤ) (q : ℕ) (w : ℤ) (us : List ℤ) (b : Bool)
    → set (cond b us (set us p v)) q w ≡ cond (eqb p q || b) (set us q w) (set (set us q w) p v)
set_under p v q w us true = grind (arith, common_steps)
set_under p v q w us false = grind (arith, set-set us p v w, set_comm us p q v w, common_steps)

pub put_back-set : (ws : List ℤ) (p : ℕ) (v : ℤ) (es : List Saved)
    → put_back (set ws p v) es ≡ cond (is_saved p es) (put_back ws es) (set (put_back ws es) p v)
put_back-set ws p v [] = refl
put_back-set ws p v (e ∷ es) =
    ap (λ us. set us e.place e.value) (put_back-set ws p v es) ∙ set_under p v e.place e.value (put_back ws es) (is_saved p es)

-- a write to the front of a list
pub take-set_any : {A : Type 0} (n : ℕ) (xs : List A) (p : ℕ) (v : A) → take n (set xs p v) ≡ set (take n xs) p v
take-set_any zero xs p v = refl
take-set_any (suc n) [] p v = refl
take-set_any (suc n) (x ∷ xs) zero v = refl
take-set_any (suc n) (x ∷ xs) (suc p) v = ap (λ us. x ∷ us) (take-set_any n xs p v)

-- what is put back below a height depends on the words below it alone
pub take-put_back : (h : ℕ) (ws us : List ℤ) (es : List Saved) → take h ws ≡ take h us → take h (put_back ws es) ≡ take h (put_back us es)
take-put_back h ws us [] e = e
take-put_back h ws us (x ∷ es) e =
    take-set_any h (put_back ws es) x.place x.value
    ∙ ap (λ xs. set xs x.place x.value) (take-put_back h ws us es e)
    ∙ sym (take-set_any h (put_back us es) x.place x.value)

pub take-less : (k h : ℕ) (ws us : List ℤ) → k ≤ h → take h ws ≡ take h us → take k ws ≡ take k us
take-less k h ws us le e = sym (take-take k h ws le) ∙ ap (take k) e ∙ take-take k h us le

-- each region is at most so high
pub all_low : (n h : ℕ) (rs : List Region) → Stacked n rs → top_height rs ≤ h → AllByRecursion (λ (r : Region). r.height ≤ h) rs
all_low n h [] s le = tt
all_low n h (r ∷ rs) s le = (le, all_low n h rs s.2 (omega (arith, le, s.1)))

pub top_low : (h : ℕ) (rs : List Region) → AllByRecursion (λ (r : Region). r.height ≤ h) rs → top_height rs ≤ h
top_low h [] a = omega arith
top_low h (r ∷ rs) a = a.0

-- what is restored depends on the words below the heights alone
pub restored-same : (h : ℕ) (ws us : List ℤ) (rs : List Region) → AllByRecursion (λ (r : Region). r.height ≤ h) rs → take h ws ≡ take h us
    → restored ws rs ≡ restored us rs
restored-same h ws us [] a e = refl
restored-same h ws us (r ∷ rs) a e =
    let k : take h (put_back ws r.saved) ≡ take h (put_back us r.saved) = take-put_back h ws us r.saved e in
    ap (λ (c : List ℤ). c ∷ restored (put_back ws r.saved) rs) (take-less r.height h (put_back ws r.saved) (put_back us r.saved) a.0 k)
    ∙ ap (λ (cs : List (List ℤ)). take r.height (put_back us r.saved) ∷ cs) (restored-same h (put_back ws r.saved) (put_back us r.saved) rs a.1 k)

pub restored-open : (ws : List ℤ) (rs : List Region) → restored ws (record { height = length ws; saved = [] } ∷ rs) ≡ ws ∷ restored ws rs
restored-open ws rs = ap (λ c. c ∷ restored ws rs) (take_all (length ws) ws (omega arith))

-- the top region put back, whatever was recorded
pub restored-write_top : (n : ℕ) (ws : List ℤ) (p : ℕ) (v : ℤ) (r : Region) (rs : List Region) → Stacked n (r ∷ rs) → (inside known : Bool)
    → nat_lt p r.height ≡ inside → is_saved p r.saved ≡ known
    → restored (set ws p v) (recorded p (get_or ws p (pos 0)) (r ∷ rs)) ≡ restored ws (r ∷ rs)
restored-write_top n ws p v r rs s true false i k =
    rw (i, k) (ap (λ us. take r.height us ∷ restored us rs) (put_back-new ws p v r.saved))
restored-write_top n ws p v r rs s true true i k =
    rw (i, k) (ap (λ us. take r.height us ∷ restored us rs)
    (put_back-set ws p v r.saved ∙ ap (λ b. cond b (put_back ws r.saved) (set (put_back ws r.saved) p v)) k))
restored-write_top n ws p v r rs s false known i k =
    rw i (restored-same r.height (set ws p v) ws (r ∷ rs) (omega arith, all_low n r.height rs s.2 s.1)
    (take-set-le r.height ws p v (grind (arith, common_steps))))

pub restored-write : (n : ℕ) (ws : List ℤ) (p : ℕ) (v : ℤ) (rs : List Region) → Stacked n rs
    → restored (set ws p v) (recorded p (get_or ws p (pos 0)) rs) ≡ restored ws rs
restored-write n ws p v [] s = refl
restored-write n ws p v (r ∷ rs) s = restored-write_top n ws p v r rs s (nat_lt p r.height) (is_saved p r.saved) refl refl

-- the words after a reject are the last copy, and the restored stay
pub restored-reject : (n : ℕ) (ws : List ℤ) (r : Region) (rs : List Region) → Stacked n (r ∷ rs)
    → restored (take r.height (put_back ws r.saved)) (cleared (r ∷ rs)) ≡ restored ws (r ∷ rs)
restored-reject n ws r rs s =
    let u = put_back ws r.saved in
    let k : take r.height (take r.height u) ≡ take r.height u = take-take r.height r.height u (omega arith) in
    ap (λ c. c ∷ restored (take r.height u) rs) k
    ∙ ap (λ cs. take r.height u ∷ cs) (restored-same r.height (take r.height u) u rs (all_low n r.height rs s.2 s.1) k)

-- what is left out at a merge lies above the height or is put back below
pub put_back-set_other : (ws : List ℤ) (p : ℕ) (v : ℤ) (es : List Saved) → is_saved p es ≡ false → put_back (set ws p v) es ≡ set (put_back ws es) p v
put_back-set_other ws p v es k = put_back-set ws p v es ∙ ap (λ b. cond b (put_back ws es) (set (put_back ws es) p v)) k

pub put_back-set_known : (ws : List ℤ) (p : ℕ) (v : ℤ) (es : List Saved) → is_saved p es ≡ true → put_back (set ws p v) es ≡ put_back ws es
put_back-set_known ws p v es k = put_back-set ws p v es ∙ ap (λ b. cond b (put_back ws es) (set (put_back ws es) p v)) k

take-kept_one : (h : ℕ) (cs ds : List ℤ) (ls : List Saved) (p : ℕ) (v : ℤ) (inside known : Bool) → nat_lt p h ≡ inside → is_saved p ls ≡ known
    → take h (put_back cs ls) ≡ take h (put_back ds ls)
    → take h (put_back (cond (inside && not known) (set cs p v) cs) ls) ≡ take h (put_back (set ds p v) ls)
take-kept_one h cs ds ls p v true false i k same =
    ap (take h) (put_back-set_other cs p v ls k)
    ∙ take-set_any h (put_back cs ls) p v
    ∙ ap (λ xs. set xs p v) same
    ∙ sym (take-set_any h (put_back ds ls) p v)
    ∙ sym (ap (take h) (put_back-set_other ds p v ls k))
take-kept_one h cs ds ls p v true true i k same = same ∙ sym (ap (take h) (put_back-set_known ds p v ls k))
take-kept_one h cs ds ls p v false known i k same =
    same ∙ sym (take-put_back h (set ds p v) ds ls (take-set-le h ds p v (grind (arith, common_steps))))

put_back-cond : (ws : List ℤ) (b : Bool) (e : Saved) (es : List Saved)
    → put_back ws (cond b (e ∷ es) es) ≡ cond b (set (put_back ws es) e.place e.value) (put_back ws es)
put_back-cond ws true e es = refl
put_back-cond ws false e es = refl

pub take-kept : (h : ℕ) (ws : List ℤ) (ls ts : List Saved)
    → take h (put_back (put_back ws (filter (is_new h ls) ts)) ls) ≡ take h (put_back (put_back ws ts) ls)
take-kept h ws ls [] = refl
take-kept h ws ls (e ∷ ts) =
    let cs = put_back ws (filter (is_new h ls) ts) in
    ap (λ us. take h (put_back us ls)) (put_back-cond ws (is_new h ls e) e (filter (is_new h ls) ts))
    ∙ take-kept_one h cs (put_back ws ts) ls e.place e.value (nat_lt e.place h) (is_saved e.place ls) refl refl (take-kept h ws ls ts)

pub restored-accept : (n : ℕ) (ws : List ℤ) (t l : Region) (rs : List Region) → Stacked n (t ∷ l ∷ rs)
    → restored ws (merged (t ∷ l ∷ rs)) ≡ restored (put_back ws t.saved) (l ∷ rs)
restored-accept n ws t l rs s =
    let ks = filter (is_new l.height l.saved) t.saved in
    let e : take l.height (put_back ws (l.saved ++ ks)) ≡ take l.height (put_back (put_back ws t.saved) l.saved) =
    ap (take l.height) (put_back-append ws l.saved ks) ∙ take-kept l.height ws l.saved t.saved in
    let us = put_back (put_back ws t.saved) l.saved in
    ap (λ c. c ∷ restored (put_back ws (l.saved ++ ks)) rs) e
    ∙ ap (λ cs. take l.height us ∷ cs) (restored-same l.height (put_back ws (l.saved ++ ks)) us rs (all_low n l.height rs s.2.2 s.2.1) e)

-- after an accept the last copy is gone
pub restored-accepted : (n : ℕ) (ws : List ℤ) (rs : List Region) → 0 < length rs → Stacked n rs
    → (c : List ℤ) × (restored ws rs ≡ c ∷ restored ws (merged rs))
restored-accepted n ws [] h s = absurd (omega (arith, h))
restored-accepted n ws (t ∷ []) h s = (take t.height (put_back ws t.saved), refl)
restored-accepted n ws (t ∷ l ∷ rs) h s =
    (take t.height (put_back ws t.saved), ap (λ (cs : List (List ℤ)). take t.height (put_back ws t.saved) ∷ cs) (sym (restored-accept n ws t l rs s)))
