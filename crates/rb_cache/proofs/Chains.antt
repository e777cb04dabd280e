-- The chain of a place's entries.
use Rattle.std.proofs.Common.{◌≡◌, ℕ, zero, suc, ◌+◌, ◌-◌, ◌<◌, ◌≤◌, ℤ, pos, Bool, true, false, cond, ◌||◌, eqb, nat_lt, List, [], ◌∷◌, ◌++◌, map, take, drop, reverse, min, length, get_or, set, refl, sym, ◌∙◌, ap, arith, add-one, eqb-true, Option, Some, None}
use Rattle.std.proofs.lemmas.List.{take-take, take_more, length-take-le, length-take, length-reverse, get_or-reverse, take-append-drop, drop-append-le, map-append, get_or-take, get_or-set_same, get_or-set_other, get_or_past}
use Rattle.std.proofs.lemmas.Bool.{eq-eqb, eqb-false}
use Rattle.std.proofs.lemmas.Grind.{common_steps}
use Rattle.std.specs.List.{AllByRecursion}
use Rattle.rb_cache.specs.declared.entry.Entry.{Entry}
use Rattle.rb_cache.specs.declared.entry.Mark.{Mark}
use Rattle.rb_cache.specs.Undo.{Saved, put_back}
use Rattle.rb_cache.specs.Copies.{restored}
use Rattle.rb_cache.specs.Regions.{is_saved, Stacked}
use Rattle.rb_cache.specs.Arena.{Holds, saved_of, one_more, last_of, regions_of, Cuts}
use Rattle.rb_cache.specs.Chains.{first_saved, or_else, or_value}
use Rattle.rb_cache.proofs.Copies.{length-put_back, put_back-append}
use Rattle.rb_cache.proofs.Stamps.{eqb-flip, is_saved-last, lt_from_test, le_from_test}
use Rattle.rb_cache.proofs.Merges.{last_of-take}

-- a word after saved_of values were put back
word_step : (us : List ℤ) (w : ℤ) (p q : ℕ) (v : ℤ) (o : Option ℤ) → p < length us → get_or us p (pos 0) ≡ or_value o w → (b : Bool) → eqb p q ≡ b
    → get_or (set us q v) p (pos 0) ≡ or_value (cond b (Some v) o) w
word_step us w p q v o lt h true e = let k : p ≡ q = eqb-true p q e in ap (λ (i : ℕ). get_or (set us i v) p (pos 0)) (sym k)
    ∙ get_or-set_same us p v (pos 0) lt
word_step us w p q v o lt h false e = get_or-set_other us q p v (pos 0) (eqb-false p q e) ∙ h

pub word_after : (ws : List ℤ) (es : List Saved) (p : ℕ) → p < length ws
    → get_or (put_back ws es) p (pos 0) ≡ or_value (first_saved p es) (get_or ws p (pos 0))
word_after ws [] p lt = refl
word_after ws (e ∷ es) p lt =
    let there : p < length (put_back ws es) = omega (arith, length-put_back ws es) in
    word_step (put_back ws es) (get_or ws p (pos 0)) p e.place e.value (first_saved p es) there (word_after ws es p lt) (eqb p e.place) refl

last_small_step : (b : Bool) (n k : ℕ) → n ≤ k → one_more b n ≤ suc k
last_small_step true zero k h = omega arith
last_small_step false zero k h = omega arith
last_small_step b (suc n) k h = omega (arith, h)

pub last_small : (log : List Entry) (p : ℕ) → last_of log p ≤ length log
last_small [] p = omega arith
last_small (e ∷ log) p = last_small_step (eqb e.place p) (last_of log p) (length log) (last_small log p)

last_is_step : (e : Entry) (log : List Entry) (p : ℕ) (d : Entry) (b : Bool) → eqb e.place p ≡ b → (n : ℕ)
    → (0 < n → (get_or log (n - 1) d).place ≡ p)
    → 0 < one_more b n → (get_or (e ∷ log) (one_more b n - 1) d).place ≡ p
last_is_step e log p d true k zero f h = eqb-true e.place p k
last_is_step e log p d false k zero f h = absurd (omega (arith, h))
last_is_step e log p d b k (suc n) f h =
    let i : one_more b (suc n) - 1 ≡ suc n = omega arith in
    let j : suc n - 1 ≡ n = omega arith in
    ap (λ (m : ℕ). (get_or (e ∷ log) m d).place) i ∙ sym (ap (λ (m : ℕ). (get_or log m d).place) j) ∙ f (omega arith)

pub last_is : (log : List Entry) (p : ℕ) (d : Entry) → 0 < last_of log p → (get_or log (last_of log p - 1) d).place ≡ p
last_is [] p d h = absurd (omega (arith, h))
last_is (e ∷ log) p d h = last_is_step e log p d (eqb e.place p) refl (last_of log p) (last_is log p d) h

drop_none : (f : ℕ) → drop {A = Entry} f [] ≡ []
drop_none zero = refl
drop_none (suc f) = refl

beyond_zero : (e : Entry) (log : List Entry) (p : ℕ) (b : Bool) → eqb e.place p ≡ b → (n : ℕ)
    → first_saved p (map saved_of log) ≡ first_saved p (map saved_of (take n log))
    → first_saved p (map saved_of (e ∷ log)) ≡ first_saved p (map saved_of (take (one_more b n) (e ∷ log)))
beyond_zero e log p true k zero h = let i : eqb p e.place ≡ true = eqb-flip p e.place ∙ k in rw (i) refl
beyond_zero e log p false k zero h = let i : eqb p e.place ≡ false = eqb-flip p e.place ∙ k in rw (i) h
beyond_zero e log p b k (suc n) h =
    ap (λ (o : Option ℤ). cond (eqb p e.place) (Some e.value) o) h
    ∙ sym (ap (λ (m : ℕ). first_saved p (map saved_of (take m (e ∷ log)))) (add-one (suc n)))

beyond_suc : (f : ℕ) (e : Entry) (log : List Entry) (p : ℕ) (b : Bool) (n : ℕ)
    → first_saved p (map saved_of (drop f log)) ≡ first_saved p (map saved_of (drop f (take n log)))
    → first_saved p (map saved_of (drop f log)) ≡ first_saved p (map saved_of (drop (suc f) (take (one_more b n) (e ∷ log))))
beyond_suc f e log p true zero h = h
beyond_suc f e log p false zero h = h ∙ ap (λ (xs : List Entry). first_saved p (map saved_of xs)) (drop_none f)
beyond_suc f e log p b (suc n) h = h ∙ sym (ap (λ (m : ℕ). first_saved p (map saved_of (drop (suc f) (take m (e ∷ log))))) (add-one (suc n)))

pub beyond : (f : ℕ) (log : List Entry) (p : ℕ)
    → first_saved p (map saved_of (drop f log)) ≡ first_saved p (map saved_of (drop f (take (last_of log p) log)))
beyond zero [] p = refl
beyond (suc f) [] p = refl
beyond zero (e ∷ log) p = beyond_zero e log p (eqb e.place p) refl (last_of log p) (beyond zero log p)
beyond (suc f) (e ∷ log) p = beyond_suc f e log p (eqb e.place p) (last_of log p) (beyond f log p)

-- the entry before the ones that were read
first_cond : (b : Bool) (v : ℤ) (x y z : Option ℤ) → x ≡ or_else y z → cond b (Some v) x ≡ or_else (cond b (Some v) y) z
first_cond true v x y z h = refl
first_cond false v x y z h = h

pub first_last : (p : ℕ) (es : List Saved) (o : Saved) → o.place ≡ p → first_saved p (es ++ o ∷ []) ≡ or_else (first_saved p es) (Some o.value)
first_last p [] o k = let i : eqb p o.place ≡ true = eq-eqb p o.place (sym k) in rw i refl
first_last p (e ∷ es) o k = first_cond (eqb p e.place) e.value (first_saved p (es ++ o ∷ [])) (first_saved p es) (Some o.value) (first_last p es o k)

once : (a : Option ℤ) (v : ℤ) (o : Option ℤ) → or_else (or_else a (Some v)) o ≡ or_else a (Some v)
once None v o = refl
once (Some w) v o = refl

-- one link of the chain
pub record Link (log : List Entry) (f n p : ℕ) (found : Option ℤ) (e : Entry) : Type 0 where
  pub less : e.earlier < n
  pub same : (x : Entry) → 0 < e.earlier → (get_or log (e.earlier - 1) x).place ≡ p
  pub rest : or_else (first_saved p (map saved_of (drop f (take e.earlier log)))) (Some e.value) ≡ or_else
      (first_saved p (map saved_of (drop f (take n log)))) found

pub link : (log : List Entry) → ((i : ℕ) (d : Entry) → i < length log → (get_or log i d).earlier ≡ last_of (take i log) (get_or log i d).place)
    → (f n p : ℕ) (found : Option ℤ) (d : Entry) → f < n → n ≤ length log → (get_or log (n - 1) d).place ≡ p
    → Link log f n p found (get_or log (n - 1) d)
link log before f n p found d lt le is =
    let e = get_or log (n - 1) d in
    let xs = take (n - 1) log in
    let size : length xs ≡ n - 1 = length-take-le (n - 1) log (omega arith) in
    let o : e.earlier ≡ last_of xs p = before (n - 1) d (omega arith) ∙ ap (last_of xs) is in
    let small : last_of xs p ≤ n - 1 = omega (arith, last_small xs p, size) in
    let whole : take n log ≡ xs ++ e ∷ [] = ap (λ (i : ℕ). take i log) (let h : n ≡ n - 1 + 1 = omega arith in h)
    ∙ take_more log (n - 1) d (omega arith) in
    let a : first_saved p (map saved_of (drop f (take e.earlier log))) ≡ first_saved p (map saved_of (drop f xs)) =
    ap (λ (i : ℕ). first_saved p (map saved_of (drop f (take i log)))) o
    ∙ ap (λ (ys : List Entry). first_saved p (map saved_of (drop f ys))) (sym (take-take (last_of xs p) (n - 1) log small))
    ∙ sym (beyond f xs p) in
    let b : first_saved p (map saved_of (drop f (take n log))) ≡ or_else (first_saved p (map saved_of (drop f xs))) (Some e.value) =
    ap (λ (ys : List Entry). first_saved p (map saved_of (drop f ys))) whole
    ∙ ap (λ (ys : List Entry). first_saved p (map saved_of ys)) (drop-append-le f xs (e ∷ []) (omega arith))
    ∙ ap (first_saved p) (map-append saved_of (drop f xs) (e ∷ []))
    ∙ first_last p (map saved_of (drop f xs)) (saved_of e) is in
    record {
      less = omega (arith, o, small);
      same = λ x h. ap (λ (y : Entry). y.place) (sym (get_or-take (n - 1) log (e.earlier - 1) x (omega (arith, o, small, h))))
          ∙ ap (λ (i : ℕ). (get_or xs (i - 1) x).place) o ∙ last_is xs p x (omega (arith, o, h));
      rest = ap (λ (y : Option ℤ). or_else y (Some e.value)) a
          ∙ sym (ap (λ (y : Option ℤ). or_else y found) b ∙ once (first_saved p (map saved_of (drop f xs))) e.value found);
    }

-- the copy of the level at a place, from the inside out
first_within : (ms : List Mark) (log : List Entry) (k : ℕ) (d : Mark) → Cuts ms log → k < length ms → (get_or ms k d).first ≤ length log
first_within [] log k d c h = absurd (omega (arith, h))
first_within (m ∷ ms) log zero d c h = c.0
first_within (m ∷ ms) log (suc k) d c h = omega (arith, c.0, length-take-le m.first log c.0, first_within ms (take m.first log) k d c.1 (omega (arith, h)))

pub copy_is : (ws : List ℤ) (ms : List Mark) (log : List Entry) (k : ℕ) (d : Mark) → Cuts ms log → k < length ms
    → get_or (restored ws (regions_of ms log)) k [] ≡ take (get_or ms k d).height (put_back ws (map saved_of (drop (get_or ms k d).first log)))
copy_is ws [] log k d c h = absurd (omega (arith, h))
copy_is ws (m ∷ ms) log zero d c h = refl
copy_is ws (m ∷ ms) log (suc k) d c h =
    let lt : k < length ms = omega (arith, h) in
    let f = (get_or ms k d).first in
    let us = take m.first log in
    let vs = drop m.first log in
    let whole : drop f log ≡ drop f us ++ vs = ap (drop f) (sym (take-append-drop m.first log))
    ∙ drop-append-le f us vs (first_within ms us k d c.1 lt) in
    let all : put_back ws (map saved_of (drop f log)) ≡ put_back (put_back ws (map saved_of vs)) (map saved_of (drop f us)) =
    ap (λ (es : List Entry). put_back ws (map saved_of es)) whole
    ∙ ap (λ (os : List Saved). put_back ws os) (map-append saved_of (drop f us) vs)
    ∙ put_back-append ws (map saved_of (drop f us)) (map saved_of vs) in
    copy_is (put_back ws (map saved_of vs)) ms us k d c.1 lt ∙ ap (take (get_or ms k d).height) (sym all)

pub record EntryWord (ws copy : List ℤ) (saved : List Saved) (at : ℕ) : Type 0 where
  pub within : at < length ws
  pub word : get_or copy at (pos 0) ≡ or_value (first_saved at saved) (get_or ws at (pos 0))

length-restored : (ws : List ℤ) (ms : List Mark) (log : List Entry) → length (restored ws (regions_of ms log)) ≡ length ms
length-restored ws [] log = refl
length-restored ws (m ∷ ms) log = ap suc (length-restored (put_back ws (map saved_of (drop m.first log))) ms (take m.first log))

pub entry_word : (ws : List ℤ) (marks : List Mark) (log : List Entry) (level at : ℕ) (d : Mark) → Cuts (reverse marks) log → level < length marks
    → at < length (get_or (reverse (restored ws (regions_of (reverse marks) log))) level [])
    → EntryWord ws (get_or (reverse (restored ws (regions_of (reverse marks) log))) level []) (map saved_of (drop (get_or marks level d).first log)) at
entry_word ws marks log level at d c lt h =
    let m = get_or marks level d in
    let cs = restored ws (regions_of (reverse marks) log) in
    let saved = map saved_of (drop m.first log) in
    let n : length (reverse marks) ≡ length marks = length-reverse marks in
    let l : length cs ≡ length marks = length-restored ws (reverse marks) log ∙ n in
    let k = length marks - 1 - level in
    let mk : get_or (reverse marks) k d ≡ m = get_or-reverse marks k d (omega arith)
    ∙ ap (λ (i : ℕ). get_or marks i d) (let e : length marks - 1 - k ≡ level = omega arith in e) in
    let e : get_or (reverse cs) level [] ≡ take m.height (put_back ws saved) =
    get_or-reverse cs level [] (omega arith)
    ∙ ap (λ (i : ℕ). get_or cs (i - 1 - level) []) l
    ∙ copy_is ws (reverse marks) log k d c (omega arith)
    ∙ ap (λ (x : Mark). take x.height (put_back ws (map saved_of (drop x.first log)))) mk in
    let size : length (take m.height (put_back ws saved)) ≡ min m.height (length ws) = length-take m.height (put_back ws saved)
    ∙ ap (min m.height) (length-put_back ws saved) in
    let lim : at < min m.height (length ws) = omega (arith, h, ap length e, size) in
    record {
      within = omega (arith, lim);
      word = ap (λ (xs : List ℤ). get_or xs at (pos 0)) e ∙ get_or-take m.height (put_back ws saved) at (pos 0) (omega (arith, lim))
          ∙ word_after ws saved at (omega (arith, lim));
    }

-- a stamp is that of the last entry, also above the stamps
not_saved_one : (n p q : ℕ) (b : Bool) → n ≤ p → q < n → b ≡ false → (eqb p q || b) ≡ false
not_saved_one n p q b h lt e = grind (arith, common_steps)

not_saved : (n p : ℕ) (es : List Saved) → n ≤ p → AllByRecursion (λ (s : Saved). s.place < n) es → is_saved p es ≡ false
not_saved n p [] h a = refl
not_saved n p (s ∷ es) h a = not_saved_one n p s.place (is_saved p es) h a.0 (not_saved n p es h a.1)

empty_last : (log : List Entry) (p : ℕ) → length log ≡ 0 → last_of log p ≡ 0
empty_last [] p h = refl
empty_last (e ∷ log) p h = cc

pub no_entry : (n p : ℕ) (ms : List Mark) (log : List Entry) → n ≤ p → Cuts ms log → Stacked n (regions_of ms log) → last_of log p ≡ 0
no_entry n p [] log h c s = empty_last log p c
no_entry n p (m ∷ ms) log h c s =
    let none = not_saved n p (map saved_of (drop m.first log)) h s.0.within in
    let few = le_from_test m.first (last_of log p) (sym (is_saved-last m.first log p) ∙ none) in
    sym (last_of-take m.first log p few) ∙ no_entry n p ms (take m.first log) h c.1 s.2

stamp_case : (n : ℕ) (ms : List Mark) (st : List ℕ) (log : List Entry) (p : ℕ) → Holds n ms st log → (b : Bool) → nat_lt p n ≡ b
    → get_or st p 0 ≡ last_of log p
stamp_case n ms st log p k true e = k.stamped.now p (omega (arith, k.size, lt_from_test p n e))
stamp_case n ms st log p k false e =
    let le = le_from_test p n e in
    get_or_past st p 0 (omega (arith, k.size, le)) ∙ sym (no_entry n p ms log le k.cuts k.stacked)

pub stamp_known : (n : ℕ) (ms : List Mark) (st : List ℕ) (log : List Entry) (p : ℕ) → Holds n ms st log → get_or st p 0 ≡ last_of log p
stamp_known n ms st log p k = stamp_case n ms st log p k (nat_lt p n) refl
