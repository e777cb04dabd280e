-- The stamps, the arena and the regions, as entries come and go at the end.
use Rattle.std.proofs.Common.{◌≡◌, ℕ, zero, suc, ◌+◌, ◌-◌, ◌*◌, ◌<◌, ◌≤◌, ℤ, Bool, true, false, cond, ◌||◌, eqb, nat_lt, List, [], ◌∷◌, ◌++◌, map, reverse, take, drop, length, get_or, set, refl, sym, ◌∙◌, ap, subst, arith, add-one, eqb-true, ⊎_elim}
use Rattle.std.proofs.lemmas.List.{take-take, take_all, drop_all, length-set, length_push, length-take-le, length-drop, length-map, length-reverse, reverse-append, take_more, take-append-le, drop-append-le, map-append, get_or_append_left, get_or_push, get_or-set_same, get_or-set_other}
use Rattle.std.proofs.lemmas.Map.Steps.{length-le_from_distinct_below}
use Rattle.std.proofs.lemmas.Bool.{eqb-false, cases_eq}
use Rattle.std.proofs.lemmas.Grind.{common_steps}
use Rattle.std.specs.List.{AllByRecursion, IsDistinct, list_any}
use Rattle.rb_cache.specs.declared.entry.Entry.{Entry}
use Rattle.rb_cache.specs.declared.entry.Mark.{Mark}
use Rattle.rb_cache.specs.Undo.{Saved, Region, put_back}
use Rattle.rb_cache.specs.Copies.{place_of}
use Rattle.rb_cache.specs.Regions.{is_saved, places, top_height, cleared, recorded, IsRegion, Stacked}
use Rattle.rb_cache.specs.Arena.{saved_of, regions_of, one_more, last_of, WellStamped, Cuts, Holds}
use Rattle.rb_cache.proofs.Copies.{put_back-append}

pub reverse-push : {A : Type 0} (xs : List A) (x : A) → reverse (xs ++ x ∷ []) ≡ x ∷ reverse xs
reverse-push xs x = reverse-append xs (x ∷ [])

pub reverse-last : {A : Type 0} (xs : List A) (d : A) → 0 < length xs → reverse xs ≡ get_or xs (length xs - 1) d ∷ reverse (take (length xs - 1) xs)
reverse-last xs d h =
    let whole : take (length xs - 1 + 1) xs ≡ xs = take_all (length xs - 1 + 1) xs (omega arith) in
    ap reverse (sym whole ∙ take_more xs (length xs - 1) d (omega arith)) ∙ reverse-push (take (length xs - 1) xs) (get_or xs (length xs - 1) d)

pub length-regions : (ms : List Mark) (log : List Entry) → length (regions_of ms log) ≡ length ms
length-regions [] log = refl
length-regions (m ∷ ms) log = ap suc (length-regions ms (take m.first log))

-- the last entry of a place, as one comes
last_step : (b c : Bool) (n m : ℕ) → one_more b (cond c (n + 1) m) ≡ cond c (n + 1 + 1) (one_more b m)
last_step b true n m = ap (one_more b) (add-one n) ∙ ap (λ k. k + 1) (sym (add-one n))
last_step b false n m = refl

pub last_of-push : (log : List Entry) (e : Entry) (p : ℕ) → last_of (log ++ e ∷ []) p ≡ cond (eqb e.place p) (length log + 1) (last_of log p)
last_of-push [] e p = grind (arith, common_steps)
last_of-push (x ∷ log) e p =
    ap (one_more (eqb x.place p)) (last_of-push log e p)
    ∙ last_step (eqb x.place p) (eqb e.place p) (length log) (last_of log p)
    ∙ ap (λ k. cond (eqb e.place p) (k + 1) (last_of (x ∷ log) p)) (add-one (length log))

-- a place is_saved an entry from f on exactly where its last one is there
has_step : (f : ℕ) (a b : Bool) (n : ℕ) → b ≡ nat_lt f n → b ≡ nat_lt (suc f) (one_more a n)
has_step f true b zero h = grind (arith, common_steps, h)
has_step f false b zero h = grind (arith, common_steps, h)
has_step f a b (suc n) h = grind (arith, common_steps, h)

has_start : (a b : Bool) (n : ℕ) → b ≡ nat_lt 0 n → (a || b) ≡ nat_lt 0 (one_more a n)
has_start true b zero h = grind (arith, common_steps, h)
has_start false b zero h = grind (arith, common_steps, h)
has_start true b (suc n) h = grind (arith, common_steps, h)
has_start false b (suc n) h = grind (arith, common_steps, h)

pub eqb-flip : (a b : ℕ) → eqb a b ≡ eqb b a
eqb-flip a b = grind (arith, common_steps)

pub is_saved-last : (f : ℕ) (log : List Entry) (p : ℕ) → is_saved p (map saved_of (drop f log)) ≡ nat_lt f (last_of log p)
is_saved-last zero [] p = refl
is_saved-last (suc f) [] p = grind (arith, common_steps)
is_saved-last zero (e ∷ log) p = ap (λ b. b || is_saved p (map saved_of log)) (eqb-flip p e.place)
    ∙ has_start (eqb e.place p) (is_saved p (map saved_of log)) (last_of log p) (is_saved-last zero log p)
is_saved-last (suc f) (e ∷ log) p = has_step f (eqb e.place p) (is_saved p (map saved_of (drop f log))) (last_of log p) (is_saved-last f log p)

WellStamped-push_now : (st : List ℕ) (log : List Entry) (e : Entry) → WellStamped st log → (p : ℕ) → p < length st → (b : Bool) → eqb e.place p ≡ b
    → get_or (set st e.place (length log + 1)) p 0 ≡ last_of (log ++ e ∷ []) p
WellStamped-push_now st log e w p h true k =
    let q : p ≡ e.place = sym (eqb-true e.place p k) in
    ap (λ j. get_or (set st e.place (length log + 1)) j 0) q ∙ get_or-set_same st e.place (length log + 1) 0 (omega arith)
    ∙ sym (last_of-push log e p ∙ ap (λ c. cond c (length log + 1) (last_of log p)) k)
WellStamped-push_now st log e w p h false k =
    get_or-set_other st e.place p (length log + 1) 0 (λ q. eqb-false e.place p k (sym q)) ∙ w.now p h
    ∙ sym (last_of-push log e p ∙ ap (λ c. cond c (length log + 1) (last_of log p)) k)

pub WellStamped-push_last : (log : List Entry) (e : Entry) (i : ℕ) (d : Entry) → e.earlier ≡ last_of log e.place → i ≡ length log
    → (get_or (log ++ e ∷ []) i d).earlier ≡ last_of (take i (log ++ e ∷ [])) (get_or (log ++ e ∷ []) i d).place
WellStamped-push_last log e i d o k =
    let x : get_or (log ++ e ∷ []) i d ≡ e = get_or_push log e d i (sym k) in
    let t : take i (log ++ e ∷ []) ≡ log = take-append-le i log (e ∷ []) (omega arith) ∙ take_all i log (omega arith) in
    rw (x, t) o

pub WellStamped-push : (st : List ℕ) (log : List Entry) (e : Entry) → WellStamped st log → e.place < length st → e.earlier ≡ get_or st e.place 0
    → WellStamped (set st e.place (length log + 1)) (log ++ e ∷ [])
WellStamped-push st log e w lt o = record {
  now = λ p h. WellStamped-push_now st log e w p (omega (arith, length-set st e.place (length log + 1))) (eqb e.place p) refl;
  before = λ i d h. ⊎_elim
      (λ (k : i ≡ length log). WellStamped-push_last log e i d (o ∙ w.now e.place lt) k)
      (λ (k : i ≡ length log → ⊥). let j : i < length log = omega (arith, length_push log e) in
      rw (get_or_append_left log (e ∷ []) d i j, take-append-le i log (e ∷ []) (omega arith)) (w.before i d j))
      (cases_eq i (length log));
}

-- the last entry goes
WellStamped-pop_now : (st : List ℕ) (log : List Entry) (e : Entry) → WellStamped st (log ++ e ∷ []) → e.earlier ≡ last_of log e.place → (p : ℕ)
    → p < length st → (b : Bool) → eqb e.place p ≡ b → get_or (set st e.place e.earlier) p 0 ≡ last_of log p
WellStamped-pop_now st log e w o p h true k =
    let q : p ≡ e.place = sym (eqb-true e.place p k) in
    ap (λ j. get_or (set st e.place e.earlier) j 0) q ∙ get_or-set_same st e.place e.earlier 0 (omega arith) ∙ o ∙ ap (last_of log) (sym q)
WellStamped-pop_now st log e w o p h false k =
    get_or-set_other st e.place p e.earlier 0 (λ q. eqb-false e.place p k (sym q)) ∙ w.now p h
    ∙ (last_of-push log e p ∙ ap (λ c. cond c (length log + 1) (last_of log p)) k)

pub WellStamped-pop : (st : List ℕ) (log : List Entry) (e : Entry) → WellStamped st (log ++ e ∷ []) → e.place < length st
    → WellStamped (set st e.place e.earlier) log
WellStamped-pop st log e w lt =
    let o : e.earlier ≡ last_of log e.place =
    let h = w.before (length log) e (omega (arith, length_push log e)) in
    rw (
      get_or_push log e e (length log) refl,
      take-append-le (length log) log (e ∷ []) (omega arith),
      take_all (length log) log (omega arith),
    ) at h in
    record {
      now = λ p h. WellStamped-pop_now st log e w o p (omega (arith, length-set st e.place e.earlier)) (eqb e.place p) refl;
      before = λ i d h.
          let b = w.before i d (omega (arith, length_push log e)) in
          rw (get_or_append_left log (e ∷ []) d i h, take-append-le i log (e ∷ []) (omega arith)) at b;
    }

pub Cuts-push : (m : Mark) (ms : List Mark) (log : List Entry) (e : Entry) → Cuts (m ∷ ms) log → Cuts (m ∷ ms) (log ++ e ∷ [])
Cuts-push m ms log e c = (omega (arith, length_push log e, c.0), subst (Cuts ms) (sym (take-append-le m.first log (e ∷ []) c.0)) c.1)

pub regions-push : (m : Mark) (ms : List Mark) (log : List Entry) (e : Entry) → m.first ≤ length log
    → regions_of (m ∷ ms) (log ++ e ∷ [])
    ≡ record { height = m.height; saved = map saved_of (drop m.first log) ++ saved_of e ∷ [] } ∷ regions_of ms (take m.first log)
regions-push m ms log e h =
    rw (drop-append-le m.first log (e ∷ []) h, take-append-le m.first log (e ∷ []) h, map-append saved_of (drop m.first log) (e ∷ [])) refl

pub regions-open : (h : ℕ) (ms : List Mark) (log : List Entry)
    → regions_of (record { first = length log; height = h } ∷ ms) log ≡ record { height = h; saved = [] } ∷ regions_of ms log
regions-open h ms log = rw (drop_all (length log) log (omega arith), take_all (length log) log (omega arith)) refl

-- regions
all_others_one : (p x : ℕ) (b c : Bool) → (b || c) ≡ false → (b ≡ false) × (c ≡ false)
all_others_one p x false c h = (refl, h)
all_others_one p x true c h = cc

all_push : {A : Type 0} (P : A → Type 0) (xs : List A) (x : A) → AllByRecursion P xs → P x → AllByRecursion P (xs ++ x ∷ [])
all_push P [] x a p = (p, tt)
all_push P (y ∷ xs) x a p = (a.0, all_push P xs x a.1 p)

distinct_push : (xs : List ℕ) (p : ℕ) → IsDistinct eqb xs → list_any (eqb p) xs ≡ false → IsDistinct eqb (xs ++ p ∷ [])
unfolding IsDistinct
distinct_push [] p d h = (tt, tt)
distinct_push (x ∷ xs) p d h =
    let k = all_others_one p x (eqb p x) (list_any (eqb p) xs) h in
    (all_push (λ y. eqb x y ≡ false) xs p d.0 (eqb-flip x p ∙ k.0), distinct_push xs p d.1 k.1)

below_all_one : (n q x : ℕ) (b c : Bool) → eqb q x ≡ b → (b || c) ≡ true → x < n → (c ≡ true → q < n) → q < n
below_all_one n q x true c k h lt f = let e : q ≡ x = eqb-true q x k in omega arith
below_all_one n q x false c k h lt f = f h

below_all : (n : ℕ) (es : List Saved) → AllByRecursion (λ (e : Saved). e.place < n) es → (q : ℕ) → list_any (eqb q) (map place_of es) ≡ true → q < n
below_all n [] a q h = cc
below_all n (e ∷ es) a q h = below_all_one n q e.place (eqb q e.place) (list_any (eqb q) (map place_of es)) refl h a.0 (below_all n es a.1 q)

pub region-small : (n : ℕ) (r : Region) → IsRegion n r → length r.saved ≤ n
region-small n r i = omega (arith, length-map r.saved place_of, length-le_from_distinct_below (places r) n i.distinct (below_all n r.saved i.within))

pub IsRegion-push : (n h : ℕ) (es : List Saved) (o : Saved) → IsRegion n (record { height = h; saved = es }) → is_saved o.place es ≡ false
    → o.place < h
    → o.place < n → IsRegion n (record { height = h; saved = es ++ o ∷ [] })
IsRegion-push n h es o i k b w = record {
  distinct = subst (IsDistinct eqb) (sym (map-append place_of es (o ∷ []))) (distinct_push (map place_of es) o.place i.distinct k);
  below = all_push _ es o i.below b;
  within = all_push _ es o i.within w;
}

pub log-small : (n : ℕ) (ms : List Mark) (log : List Entry) → Cuts ms log → Stacked n (regions_of ms log) → length log ≤ length ms * n
log-small n [] log c s = omega arith
log-small n (m ∷ ms) log c s =
    let a = log-small n ms (take m.first log) c.1 s.2 in
    let b = region-small n (record { height = m.height; saved = map saved_of (drop m.first log) }) s.0 in
    omega (arith, a, b, length-map (drop m.first log) saved_of, length-drop m.first log, length-take-le m.first log c.0)

pub empty_region : (n h : ℕ) → IsRegion n (record { height = h; saved = [] })
unfolding IsDistinct
empty_region n h = record { distinct = tt; below = tt; within = tt }

pub Holds-open : (n h : ℕ) (ms : List Mark) (st : List ℕ) (log : List Entry) → Holds n ms st log → top_height (regions_of ms log) ≤ h
    → Holds n (record { first = length log; height = h } ∷ ms) st log
Holds-open n h ms st log k le = record {
  size = k.size;
  stamped = k.stamped;
  cuts = (omega arith, rw (take_all (length log) log (omega arith)) k.cuts);
  stacked = subst (Stacked n) (sym (regions-open h ms log)) (empty_region n h, le, k.stacked);
}

pub not_below : (a b : ℕ) → b ≤ a → nat_lt a b ≡ false
not_below a b h = grind (arith, common_steps)

is_below : (a b : ℕ) → a < b → nat_lt a b ≡ true
is_below a b h = grind (arith, common_steps)

not_yet : (n : ℕ) (m : Mark) (ms : List Mark) (st : List ℕ) (log : List Entry) (p : ℕ) → Holds n (m ∷ ms) st log → p < n → get_or st p 0 ≤ m.first
    → is_saved p (map saved_of (drop m.first log)) ≡ false
not_yet n m ms st log p k lt le = is_saved-last m.first log p
    ∙ not_below m.first (last_of log p) (omega (arith, k.stamped.now p (omega (arith, k.size))))

pub Holds-push : (n : ℕ) (m : Mark) (ms : List Mark) (st : List ℕ) (log : List Entry) (e : Entry) → Holds n (m ∷ ms) st log → e.place < n
    → e.place < m.height → get_or st e.place 0 ≤ m.first → e.earlier ≡ get_or st e.place 0
    → Holds n (m ∷ ms) (set st e.place (length log + 1)) (log ++ e ∷ [])
Holds-push n m ms st log e k lt below le o = record {
  size = length-set st e.place (length log + 1) ∙ k.size;
  stamped = WellStamped-push st log e k.stamped (omega (arith, k.size)) o;
  cuts = Cuts-push m ms log e k.cuts;
  stacked = subst (Stacked n) (sym (regions-push m ms log e k.cuts.0)) (
    IsRegion-push n m.height (map saved_of (drop m.first log)) (saved_of e) k.stacked.0
        (not_yet n m ms st log e.place k lt le) below lt,
    k.stacked.1,
    k.stacked.2,
  );
}

pub log-room : (n : ℕ) (m : Mark) (ms : List Mark) (st : List ℕ) (log : List Entry) (e : Entry) → Holds n (m ∷ ms) st log → e.place < n
    → e.place < m.height → get_or st e.place 0 ≤ m.first → e.earlier ≡ get_or st e.place 0 → length log < length (m ∷ ms) * n
log-room n m ms st log e k lt below le o =
    let h = Holds-push n m ms st log e k lt below le o in
    let a = log-small n (m ∷ ms) (log ++ e ∷ []) h.cuts h.stacked in
    omega (arith, a, length_push log e)

-- what a push adds to the regions
pub recorded_in : (p : ℕ) (v : ℤ) (h : ℕ) (es : List Saved) (rs : List Region) → p < h → is_saved p es ≡ false
    → recorded p v (record { height = h; saved = es } ∷ rs) ≡ record { height = h; saved = es ++ record { place = p; value = v } ∷ [] } ∷ rs
recorded_in p v h es rs lt k = let i : nat_lt p h ≡ true = is_below p h lt in rw (i, k) refl

pub recorded_above : (p : ℕ) (v : ℤ) (r : Region) (rs : List Region) → r.height ≤ p → recorded p v (r ∷ rs) ≡ r ∷ rs
recorded_above p v r rs le = let i : nat_lt p r.height ≡ false = not_below p r.height le in rw i refl

pub recorded_known : (p : ℕ) (v : ℤ) (r : Region) (rs : List Region) → p < r.height → is_saved p r.saved ≡ true → recorded p v (r ∷ rs) ≡ r ∷ rs
recorded_known p v r rs lt k = let i : nat_lt p r.height ≡ true = is_below p r.height lt in rw (i, k) refl

pub regions-note : (n : ℕ) (m : Mark) (ms : List Mark) (st : List ℕ) (log : List Entry) (e : Entry) → Holds n (m ∷ ms) st log → e.place < n
    → e.place < m.height → get_or st e.place 0 ≤ m.first
    → regions_of (m ∷ ms) (log ++ e ∷ []) ≡ recorded e.place e.value (regions_of (m ∷ ms) log)
regions-note n m ms st log e k lt below le =
    regions-push m ms log e k.cuts.0
    ∙ sym (recorded_in e.place e.value m.height (map saved_of (drop m.first log)) (regions_of ms (take m.first log)) below
    (not_yet n m ms st log e.place k lt le))

pub regions-known : (n : ℕ) (m : Mark) (ms : List Mark) (st : List ℕ) (log : List Entry) (p : ℕ) (v : ℤ) → Holds n (m ∷ ms) st log → p < n
    → p < m.height
    → m.first < get_or st p 0
    → regions_of (m ∷ ms) log ≡ recorded p v (regions_of (m ∷ ms) log)
regions-known n m ms st log p v k lt below le =
    sym (recorded_known p v (record { height = m.height; saved = map saved_of (drop m.first log) }) (regions_of ms (take m.first log)) below
    (is_saved-last m.first log p ∙ is_below m.first (last_of log p) (omega (arith, k.stamped.now p (omega (arith, k.size))))))

-- the top region goes back
pub regions-undo : (m : Mark) (ms : List Mark) (log : List Entry) → m.first ≤ length log
    → regions_of (m ∷ ms) (take m.first log) ≡ cleared (regions_of (m ∷ ms) log)
regions-undo m ms log h =
    rw (drop_all m.first (take m.first log) (omega (arith, length-take-le m.first log h)), take-take m.first m.first log (omega arith)) refl

pub Holds-undo : (n : ℕ) (m : Mark) (ms : List Mark) (st us : List ℕ) (log : List Entry) → Holds n (m ∷ ms) st log → WellStamped us (take m.first log)
    → length us ≡ length st → Holds n (m ∷ ms) us (take m.first log)
Holds-undo n m ms st us log k w e = record {
  size = e ∙ k.size;
  stamped = w;
  cuts = (omega (arith, length-take-le m.first log k.cuts.0), subst (Cuts ms) (sym (take-take m.first m.first log (omega arith))) k.cuts.1);
  stacked = subst (Stacked n) (sym (regions-undo m ms log k.cuts.0)) (empty_region n m.height, k.stacked.1, k.stacked.2);
}

-- what one more entry in the top level does
pub record Noted (marks : List Mark) (st : List ℕ) (log : List Entry) (e : Entry) : Type 0 where
  pub room : length log < length marks * length st
  pub holds : Holds (length st) (reverse marks) (set st e.place (length log + 1)) (log ++ e ∷ [])
  pub regions : regions_of (reverse marks) (log ++ e ∷ []) ≡ recorded e.place e.value (regions_of (reverse marks) log)

pub noted : (marks : List Mark) (st : List ℕ) (log : List Entry) (e : Entry) (d : Mark) → 0 < length marks → Holds (length st) (reverse marks) st log
    → e.place < length st
    → e.place < (get_or marks (length marks - 1) d).height → get_or st e.place 0 ≤ (get_or marks (length marks - 1) d).first
    → e.earlier ≡ get_or st e.place 0 → Noted marks st log e
noted marks st log e d some k lt below le o =
    let m = get_or marks (length marks - 1) d in
    let ms = reverse (take (length marks - 1) marks) in
    let r : reverse marks ≡ m ∷ ms = reverse-last marks d some in
    let h : Holds (length st) (m ∷ ms) st log = subst (λ (xs : List Mark). Holds (length st) xs st log) r k in
    let n : length (m ∷ ms) ≡ length marks = ap length (sym r) ∙ length-reverse marks in
    record {
      room = subst (λ (i : ℕ). length log < i * length st) n (log-room (length st) m ms st log e h lt below le o);
      holds = subst (λ (xs : List Mark). Holds (length st) xs (set st e.place (length log + 1)) (log ++ e ∷ [])) (sym r)
          (Holds-push (length st) m ms st log e h lt below le o);
      regions = subst (λ (xs : List Mark). regions_of xs (log ++ e ∷ []) ≡ recorded e.place e.value (regions_of xs log)) (sym r)
          (regions-note (length st) m ms st log e h lt below le);
    }

pub lt_from_test : (a b : ℕ) → nat_lt a b ≡ true → a < b
lt_from_test a b h = grind (arith, common_steps)

pub le_from_test : (a b : ℕ) → nat_lt a b ≡ false → b ≤ a
le_from_test a b h = grind (arith, common_steps)

not_noted_in : (m : Mark) (ms : List Mark) (st : List ℕ) (log : List Entry) (p : ℕ) (v : ℤ) → Holds (length st) (m ∷ ms) st log
    → (p < m.height → p < length st)
    → (p < m.height → m.first < get_or st p 0) → (b : Bool) → nat_lt p m.height ≡ b → regions_of (m ∷ ms) log ≡ recorded p v (regions_of (m ∷ ms) log)
not_noted_in m ms st log p v h lt le true i = let below = lt_from_test p m.height i in regions-known (length st) m ms st log p v h (lt below) below (le below)
not_noted_in m ms st log p v h lt le false i =
    let top : Region = record { height = m.height; saved = map saved_of (drop m.first log) } in
    sym (recorded_above p v top (regions_of ms (take m.first log)) (le_from_test p m.height i))

pub not_noted : (marks : List Mark) (st : List ℕ) (log : List Entry) (p : ℕ) (v : ℤ) (d : Mark) → 0 < length marks
    → Holds (length st) (reverse marks) st log
    → (p < (get_or marks (length marks - 1) d).height → p < length st)
    → (p < (get_or marks (length marks - 1) d).height → (get_or marks (length marks - 1) d).first < get_or st p 0)
    → regions_of (reverse marks) log ≡ recorded p v (regions_of (reverse marks) log)
not_noted marks st log p v d some k lt le =
    let m = get_or marks (length marks - 1) d in
    let ms = reverse (take (length marks - 1) marks) in
    let r : reverse marks ≡ m ∷ ms = reverse-last marks d some in
    let h : Holds (length st) (m ∷ ms) st log = subst (λ (xs : List Mark). Holds (length st) xs st log) r k in
    subst (λ (xs : List Mark). regions_of xs log ≡ recorded p v (regions_of xs log)) (sym r)
    (not_noted_in m ms st log p v h lt le (nat_lt p m.height) refl)

all_last : (P : Saved → Type 0) (xs : List Saved) (x : Saved) → AllByRecursion P (xs ++ x ∷ []) → AllByRecursion P xs × P x
all_last P [] x a = (tt, a.0)
all_last P (y ∷ xs) x a = let h = all_last P xs x a.1 in ((a.0, h.0), h.1)

pub popped_all : (P : Saved → Type 0) (f : ℕ) (log : List Entry) (e : Entry) → f ≤ length log
    → AllByRecursion P (map saved_of (drop f (log ++ e ∷ [])))
    → AllByRecursion P (map saved_of (drop f log)) × P (saved_of e)
popped_all P f log e le a =
    all_last P (map saved_of (drop f log)) (saved_of e)
    (subst (AllByRecursion P) (ap (map saved_of) (drop-append-le f log (e ∷ []) le) ∙ map-append saved_of (drop f log) (e ∷ [])) a)

pub popped_words : (ws : List ℤ) (f : ℕ) (log : List Entry) (e : Entry) → f ≤ length log
    → put_back ws (map saved_of (drop f (log ++ e ∷ []))) ≡ put_back (set ws e.place e.value) (map saved_of (drop f log))
popped_words ws f log e le =
    ap (λ (es : List Saved). put_back ws es) (ap (map saved_of) (drop-append-le f log (e ∷ []) le) ∙ map-append saved_of (drop f log) (e ∷ []))
    ∙ put_back-append ws (map saved_of (drop f log)) (saved_of e ∷ [])

-- the top level, and those around it
pub record Top (n : ℕ) (marks : List Mark) (st : List ℕ) (log : List Entry) (m : Mark) : Type 0 where
  pub around : List Mark
  pub is : reverse marks ≡ m ∷ around
  pub holds : Holds n (m ∷ around) st log

pub top_is : (n : ℕ) (marks : List Mark) (st : List ℕ) (log : List Entry) (m : Mark) → 0 < length marks → m ≡ get_or marks (length marks - 1) m
    → Holds n (reverse marks) st log → Top n marks st log m
top_is n marks st log m some e k =
    let r : reverse marks ≡ m ∷ reverse (take (length marks - 1) marks) = reverse-last marks m some
    ∙ ap (λ (x : Mark). x ∷ reverse (take (length marks - 1) marks)) (sym e) in
    record { around = reverse (take (length marks - 1) marks); is = r; holds = subst (λ (xs : List Mark). Holds n xs st log) r k }

pub all_weaker : (P Q : Saved → Type 0) → ((e : Saved) → P e → Q e) → (es : List Saved) → AllByRecursion P es → AllByRecursion Q es
all_weaker P Q f [] a = tt
all_weaker P Q f (e ∷ es) a = (f e a.0, all_weaker P Q f es a.1)

pub length-saved : (f : ℕ) (log : List Entry) → length (map place_of (map saved_of (drop f log))) ≡ length log - f
length-saved f log = length-map (map saved_of (drop f log)) place_of ∙ length-map (drop f log) saved_of ∙ length-drop f log
