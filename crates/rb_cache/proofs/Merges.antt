-- The top level's entries, as they are merged one by one.
use Rattle.std.proofs.Common.{◌≡◌, ℕ, zero, suc, ◌+◌, ◌-◌, ◌<◌, ◌≤◌, Bool, true, false, cond, not, ◌&&◌, ◌||◌, eqb, nat_lt, List, [], ◌∷◌, ◌++◌, map, reverse, take, drop, filter, length, get_or, set, refl, sym, ◌∙◌, ap, subst, arith, eqb-true, ⊎_elim}
use Rattle.std.proofs.lemmas.List.{append-nil, append_assoc, take-take, length-set, length_push, length-take-le, length-drop, take-append-le, drop-append-le, map-append, get_or_append_left, get_or-set_same, get_or-set_other, get_or-take, get_or-drop, drop-take}
use Rattle.std.proofs.lemmas.Bool.{eq-eqb, eqb-false, cases_eq}
use Rattle.std.specs.List.{AllByRecursion, IsDistinct}
use Rattle.rb_cache.specs.declared.entry.Entry.{Entry}
use Rattle.rb_cache.specs.declared.entry.Mark.{Mark}
use Rattle.rb_cache.specs.Undo.{Saved}
use Rattle.rb_cache.specs.Copies.{place_of}
use Rattle.rb_cache.specs.Regions.{is_saved, is_new, merged, IsRegion, Stacked}
use Rattle.rb_cache.specs.Arena.{saved_of, regions_of, one_more, last_of, WellStamped, Cuts, Holds}
use Rattle.rb_cache.specs.Merging.{Merge, innermost, is_merged, merge_one, merge_all}
use Rattle.rb_cache.proofs.Stamps.{last_of-push, is_saved-last, Cuts-push, regions-push, IsRegion-push, eqb-flip, WellStamped-push_last, le_from_test, lt_from_test, empty_region, reverse-last}

-- what stays true while entries are to come
pub record Merging (n : ℕ) (l : Mark) (ms : List Mark) (s : Merge) (todo : List Entry) : Type 0 where
  pub size : length s.stamps ≡ n
  pub now : (p : ℕ) → p < n → is_saved p (map saved_of todo) ≡ false → get_or s.stamps p 0 ≡ last_of s.log p
  pub before : (i : ℕ) (d : Entry) → i < length s.log → (get_or s.log i d).earlier ≡ last_of (take i s.log) (get_or s.log i d).place
  pub cuts : Cuts (l ∷ ms) s.log
  pub stacked : Stacked n (regions_of (l ∷ ms) s.log)
  pub ready : AllByRecursion (λ (e : Entry). e.earlier ≡ last_of s.log e.place) todo
  pub distinct : IsDistinct eqb (map place_of (map saved_of todo))
  pub within : AllByRecursion (λ (e : Entry). e.place < n) todo

-- what the entries that are merged are
step_log : (b : Bool) (st us : List ℕ) (log : List Entry) (e : Entry) (more : List Entry)
    → (let t : Merge = cond b (record { stamps = st; log = log ++ e ∷ [] }) (record { stamps = us; log = log }) in t.log) ++ more
    ≡ log ++ cond b (e ∷ more) more
step_log true st us log e more = append_assoc log (e ∷ []) more
step_log false st us log e more = refl

pub merge_all-log : (l : Mark) (s : Merge) (todo : List Entry) → (merge_all l s todo).log ≡ s.log ++ filter (is_merged l) todo
merge_all-log l s [] = sym (append-nil s.log)
merge_all-log l s (e ∷ todo) = merge_all-log l (merge_one l s e) todo
    ∙ step_log (is_merged l e) (set s.stamps e.place (length s.log + 1)) (set s.stamps e.place e.earlier) s.log e (filter (is_merged l) todo)

filter_cond : (b : Bool) (e : Entry) (es : List Entry) → map saved_of (cond b (e ∷ es) es) ≡ cond b (saved_of e ∷ map saved_of es) (map saved_of es)
filter_cond true e es = refl
filter_cond false e es = refl

-- in the fields of the state
filter_same : (l : Mark) (base todo : List Entry) → AllByRecursion (λ (e : Entry). e.earlier ≡ last_of base e.place) todo
    → map saved_of (filter (is_merged l) todo) ≡ filter (is_new l.height (map saved_of (drop l.first base))) (map saved_of todo)
filter_same l base [] a = refl
filter_same l base (e ∷ todo) a =
    let b : is_merged l e ≡ is_new l.height (map saved_of (drop l.first base)) (saved_of e) =
    ap (λ (k : ℕ). nat_lt e.place l.height && not (nat_lt l.first k)) a.0
    ∙ ap (λ (c : Bool). nat_lt e.place l.height && not c) (sym (is_saved-last l.first base e.place)) in
    filter_cond (is_merged l e) e (filter (is_merged l) todo)
    ∙ ap (λ (c : Bool). cond c (saved_of e ∷ map saved_of (filter (is_merged l) todo)) (map saved_of (filter (is_merged l) todo))) b
    ∙ ap (λ (es : List Saved). cond (is_new l.height (map saved_of (drop l.first base)) (saved_of e)) (saved_of e ∷ es) es)
    (filter_same l base todo a.1)

-- one step
both : (a b : Bool) → (a && not b) ≡ true → (a ≡ true) × (b ≡ false)
both true true h = cc
both true false h = (refl, refl)
both false b h = cc

ready_push : (log : List Entry) (e : Entry) (todo : List Entry) → AllByRecursion (λ (y : ℕ). eqb e.place y ≡ false) (map place_of (map saved_of todo))
    → AllByRecursion (λ (x : Entry). x.earlier ≡ last_of log x.place) todo
    → AllByRecursion (λ (x : Entry). x.earlier ≡ last_of (log ++ e ∷ []) x.place) todo
ready_push log e [] d a = tt
ready_push log e (x ∷ todo) d a =
    (a.0 ∙ sym (last_of-push log e x.place ∙ ap (λ (c : Bool). cond c (length log + 1) (last_of log x.place)) d.0), ready_push log e todo d.1 a.1)

apart : (x : ℕ) (xs : List ℕ) → IsDistinct eqb (x ∷ xs) → AllByRecursion (λ (y : ℕ). eqb x y ≡ false) xs × IsDistinct eqb xs
unfolding IsDistinct
apart x xs d = (d.0, d.1)

now_step : (n : ℕ) (st : List ℕ) (v : ℕ) (e : Entry) (todo log new : List Entry) → length st ≡ n → e.place < n
    → ((p : ℕ) → p < n → is_saved p (map saved_of (e ∷ todo)) ≡ false → get_or st p 0 ≡ last_of log p)
    → v ≡ last_of new e.place → ((p : ℕ) → eqb e.place p ≡ false → last_of new p ≡ last_of log p)
    → (p : ℕ) → p < n → is_saved p (map saved_of todo) ≡ false → (b : Bool) → eqb e.place p ≡ b → get_or (set st e.place v) p 0 ≡ last_of new p
now_step n st v e todo log new sz lt now here there p h k true b =
    let q : p ≡ e.place = sym (eqb-true e.place p b) in
    ap (λ (j : ℕ). get_or (set st e.place v) j 0) q ∙ get_or-set_same st e.place v 0 (omega arith) ∙ here ∙ ap (last_of new) (sym q)
now_step n st v e todo log new sz lt now here there p h k false b =
    get_or-set_other st e.place p v 0 (λ (q : p ≡ e.place). eqb-false e.place p b (sym q))
    ∙ now p h (ap (λ (c : Bool). c || is_saved p (map saved_of todo)) (eqb-flip p e.place ∙ b) ∙ k)
    ∙ sym (there p b)

pub Merging-step : (n : ℕ) (l : Mark) (ms : List Mark) (s : Merge) (e : Entry) (todo : List Entry) → Merging n l ms s (e ∷ todo) → (b : Bool)
    → is_merged l e ≡ b
    → Merging n l ms
    (cond b (record { stamps = set s.stamps e.place (length s.log + 1); log = s.log ++ e ∷ [] })
    (record { stamps = set s.stamps e.place e.earlier; log = s.log })) todo
Merging-step n l ms s e todo m true b =
    let t = both (nat_lt e.place l.height) (nat_lt l.first e.earlier) b in
    let d = apart e.place (map place_of (map saved_of todo)) m.distinct in
    let free : is_saved e.place (map saved_of (drop l.first s.log)) ≡ false = is_saved-last l.first s.log e.place
    ∙ ap (nat_lt l.first) (sym m.ready.0)
    ∙ t.1 in
    record {
      size = length-set s.stamps e.place (length s.log + 1) ∙ m.size;
      now = λ p h k. now_step n s.stamps (length s.log + 1) e todo s.log (s.log ++ e ∷ []) m.size m.within.0 m.now
          (sym (last_of-push s.log e e.place ∙ ap (λ (c : Bool). cond c (length s.log + 1) (last_of s.log e.place)) (eq-eqb e.place e.place refl)))
          (λ q c. last_of-push s.log e q ∙ ap (λ (x : Bool). cond x (length s.log + 1) (last_of s.log q)) c) p h k (eqb e.place p) refl;
      before = λ i x h. ⊎_elim
          (λ (k : i ≡ length s.log). WellStamped-push_last s.log e i x m.ready.0 k)
          (λ (k : i ≡ length s.log → ⊥). let j : i < length s.log = omega (arith, length_push s.log e) in
          rw (get_or_append_left s.log (e ∷ []) x i j, take-append-le i s.log (e ∷ []) (omega arith)) (m.before i x j))
          (cases_eq i (length s.log));
      cuts = Cuts-push l ms s.log e m.cuts;
      stacked = subst (Stacked n) (sym (regions-push l ms s.log e m.cuts.0)) (
        IsRegion-push n l.height (map saved_of (drop l.first s.log)) (saved_of e) m.stacked.0 free
            (lt_from_test e.place l.height t.0) m.within.0,
        m.stacked.1,
        m.stacked.2,
      );
      ready = ready_push s.log e todo d.0 m.ready.1;
      distinct = d.1;
      within = m.within.1;
    }
Merging-step n l ms s e todo m false b =
    let d = apart e.place (map place_of (map saved_of todo)) m.distinct in
    record {
      size = length-set s.stamps e.place e.earlier ∙ m.size;
      now = λ p h k. now_step n s.stamps e.earlier e todo s.log s.log m.size m.within.0 m.now m.ready.0 (λ q c. refl) p h k (eqb e.place p) refl;
      before = m.before;
      cuts = m.cuts;
      stacked = m.stacked;
      ready = m.ready.1;
      distinct = d.1;
      within = m.within.1;
    }

pub Merging-all : (n : ℕ) (l : Mark) (ms : List Mark) (s : Merge) (todo : List Entry) → Merging n l ms s todo → Merging n l ms (merge_all l s todo) []
Merging-all n l ms s [] m = m
Merging-all n l ms s (e ∷ todo) m = Merging-all n l ms (merge_one l s e) todo (Merging-step n l ms s e todo m (is_merged l e) refl)

pub Holds-merged : (n : ℕ) (l : Mark) (ms : List Mark) (s : Merge) → Merging n l ms s [] → Holds n (l ∷ ms) s.stamps s.log
Holds-merged n l ms s m = record {
  size = m.size;
  stamped = record { now = λ p h. m.now p (omega (arith, m.size)) refl; before = m.before };
  cuts = m.cuts;
  stacked = m.stacked;
}

-- the start
one_less : (b : Bool) (n f : ℕ) → one_more b n ≤ suc f → n ≤ f
one_less b zero f h = omega arith
one_less b (suc n) f h = omega (arith, h)

pub last_of-take : (f : ℕ) (log : List Entry) (p : ℕ) → last_of log p ≤ f → last_of (take f log) p ≡ last_of log p
last_of-take zero [] p h = refl
last_of-take (suc f) [] p h = refl
last_of-take zero (e ∷ log) p h = omega (arith, h)
last_of-take (suc f) (e ∷ log) p h = ap (one_more (eqb e.place p)) (last_of-take f log p (one_less (eqb e.place p) (last_of log p) f h))

pub within_saved : (n : ℕ) (es : List Entry) → AllByRecursion (λ (e : Saved). e.place < n) (map saved_of es)
    → AllByRecursion (λ (e : Entry). e.place < n) es
within_saved n [] a = tt
within_saved n (e ∷ es) a = (a.0, within_saved n es a.1)

all_by_index : (P : Entry → Type 0) (xs : List Entry) → ((j : ℕ) (d : Entry) → j < length xs → P (get_or xs j d)) → AllByRecursion P xs
all_by_index P [] f = tt
all_by_index P (x ∷ xs) f = (f 0 x (omega arith), all_by_index P xs (λ j d h. f (suc j) d (omega (arith, h))))

other_at : (x : ℕ) (es : List Entry) → AllByRecursion (λ (y : ℕ). eqb x y ≡ false) (map place_of (map saved_of es)) → (j : ℕ) (d : Entry)
    → j < length es
    → eqb x (get_or es j d).place ≡ false
other_at x [] a j d h = absurd (omega (arith, h))
other_at x (e ∷ es) a zero d h = a.0
other_at x (e ∷ es) a (suc j) d h = other_at x es a.1 j d (omega (arith, h))

not_before : (es : List Entry) → IsDistinct eqb (map place_of (map saved_of es)) → (j : ℕ) (d : Entry) → j < length es
    → is_saved (get_or es j d).place (map saved_of (take j es)) ≡ false
not_before [] a j d h = absurd (omega (arith, h))
not_before (e ∷ es) a zero d h = refl
not_before (e ∷ es) a (suc j) d h =
    let k = apart e.place (map place_of (map saved_of es)) a in
    let p = (get_or es j d).place in
    ap (λ (c : Bool). c || is_saved p (map saved_of (take j es))) (eqb-flip p e.place ∙ other_at e.place es k.0 j d (omega (arith, h)))
    ∙ not_before es k.1 j d (omega (arith, h))

ready_at : (f : ℕ) (log : List Entry) → f ≤ length log → {st : List ℕ} → WellStamped st log
    → IsDistinct eqb (map place_of (map saved_of (drop f log)))
    → (j : ℕ) (d : Entry) → j < length (drop f log) → (get_or (drop f log) j d).earlier ≡ last_of (take f log) (get_or (drop f log) j d).place
ready_at f log le w a j d h =
    let e = get_or (drop f log) j d in
    let at : e ≡ get_or log (f + j) d = get_or-drop f log j d in
    let lt : f + j < length log = omega (arith, h, length-drop f log) in
    let o : e.earlier ≡ last_of (take (f + j) log) e.place =
    subst (λ (x : Entry). x.earlier ≡ last_of (take (f + j) log) x.place) (sym at) (w.before (f + j) d lt) in
    let none : is_saved e.place (map saved_of (drop f (take (f + j) log))) ≡ false =
    ap (λ (xs : List Entry). is_saved e.place (map saved_of xs)) (drop-take f j log) ∙ not_before (drop f log) a j d h in
    let few : last_of (take (f + j) log) e.place ≤ f =
    le_from_test f (last_of (take (f + j) log) e.place) (sym (is_saved-last f (take (f + j) log) e.place) ∙ none) in
    o ∙ sym (last_of-take f (take (f + j) log) e.place few) ∙ ap (λ (xs : List Entry). last_of xs e.place) (take-take f (f + j) log (omega arith))

pub Merging-start : (n : ℕ) (t l : Mark) (ms : List Mark) (st : List ℕ) (log : List Entry) → Holds n (t ∷ l ∷ ms) st log
    → Merging n l ms (record { stamps = st; log = take t.first log }) (drop t.first log)
Merging-start n t l ms st log k = record {
  size = k.size;
  now = λ p h f. k.stamped.now p (omega (arith, k.size))
      ∙ sym (last_of-take t.first log p (le_from_test t.first (last_of log p) (sym (is_saved-last t.first log p) ∙ f)));
  before = λ i d h.
      let j : i < t.first = omega (arith, length-take-le t.first log k.cuts.0) in
      rw (get_or-take t.first log i d j, take-take i t.first log (omega arith)) (k.stamped.before i d (omega (arith, k.cuts.0)));
  cuts = k.cuts.1;
  stacked = k.stacked.2;
  ready = all_by_index (λ (e : Entry). e.earlier ≡ last_of (take t.first log) e.place) (drop t.first log)
      (ready_at t.first log k.cuts.0 k.stamped k.stacked.0.distinct);
  distinct = k.stacked.0.distinct;
  within = within_saved n (drop t.first log) k.stacked.0.within;
}

pub regions-merged : (n : ℕ) (t l : Mark) (ms : List Mark) (st : List ℕ) (log : List Entry) → Holds n (t ∷ l ∷ ms) st log
    → regions_of (l ∷ ms) (merge_all l (record { stamps = st; log = take t.first log }) (drop t.first log)).log ≡ merged (regions_of (t ∷ l ∷ ms) log)
regions-merged n t l ms st log k =
    let base = take t.first log in
    let more = filter (is_merged l) (drop t.first log) in
    let m = Merging-start n t l ms st log k in
    let e = merge_all-log l (record { stamps = st; log = base }) (drop t.first log) in
    ap (regions_of (l ∷ ms)) e
    ∙ ap (λ (xs : List Entry). record { height = l.height; saved = map saved_of xs } ∷ regions_of ms (take l.first (base ++ more)))
    (drop-append-le l.first base more k.cuts.1.0)
    ∙ ap (λ (xs : List Entry). record { height = l.height; saved = map saved_of (drop l.first base ++ more) } ∷ regions_of ms xs)
    (take-append-le l.first base more k.cuts.1.0)
    ∙ ap (λ (es : List Saved). record { height = l.height; saved = es } ∷ regions_of ms (take l.first base))
    (map-append saved_of (drop l.first base) more)
    ∙ ap (λ (es : List Saved). record { height = l.height; saved = map saved_of (drop l.first base) ++ es } ∷ regions_of ms (take l.first base))
    (filter_same l base (drop t.first log) m.ready)

-- with nothing around the top level
pub record Accepted (n : ℕ) (t : Mark) (ms : List Mark) (st : List ℕ) (log : List Entry) (r : Merge) : Type 0 where
  pub holds : Holds n ms r.stamps r.log
  pub regions : regions_of ms r.log ≡ merged (regions_of (t ∷ ms) log)

none_below_zero : (es : List Entry) → AllByRecursion (λ (e : Saved). e.place < 0) (map saved_of es) → length es ≡ 0
none_below_zero [] a = refl
none_below_zero (e ∷ es) a = absurd (omega (arith, a.0))

empty_list : (xs : List Entry) → length xs ≡ 0 → xs ≡ []
empty_list [] h = refl
empty_list (x ∷ xs) h = cc

on_bottom : (n : ℕ) (t : Mark) (st : List ℕ) (log : List Entry) → Holds n (t ∷ []) st log → Holds n (t ∷ record { first = 0; height = 0 } ∷ []) st log
on_bottom n t st log k =
    let empty : List Entry → Type 0 = λ (xs : List Entry). IsRegion n (record { height = 0; saved = map saved_of xs }) in
    let bottom : empty (take t.first log) = subst empty (sym (empty_list (take t.first log) k.cuts.1)) (empty_region n 0) in
    record {
      size = k.size;
      stamped = k.stamped;
      cuts = (k.cuts.0, (omega arith, refl));
      stacked = (k.stacked.0, omega arith, (bottom, omega arith, tt));
    }

off_bottom : (n : ℕ) (st : List ℕ) (log : List Entry) → Holds n (record { first = 0; height = 0 } ∷ []) st log → Holds n [] st log
off_bottom n st log k = record { size = k.size; stamped = k.stamped; cuts = none_below_zero log k.stacked.0.below; stacked = tt }

pub accepted : (n : ℕ) (t : Mark) (ms : List Mark) (st : List ℕ) (log : List Entry) → Holds n (t ∷ ms) st log
    → Accepted n t ms st log (merge_all (innermost ms) (record { stamps = st; log = take t.first log }) (drop t.first log))
accepted n t [] st log k =
    let l : Mark = record { first = 0; height = 0 } in
    let s : Merge = record { stamps = st; log = take t.first log } in
    let h = on_bottom n t st log k in
    let r = merge_all l s (drop t.first log) in
    record {
      holds = off_bottom n r.stamps r.log
          (Holds-merged n l [] r (Merging-all n l [] s (drop t.first log) (Merging-start n t l [] st log h)));
      regions = refl;
    }
accepted n t (l ∷ ms) st log k =
    let s : Merge = record { stamps = st; log = take t.first log } in
    record {
      holds = Holds-merged n l ms (merge_all l s (drop t.first log))
          (Merging-all n l ms s (drop t.first log) (Merging-start n t l ms st log k));
      regions = regions-merged n t l ms st log k;
    }

pub pop_marks : (marks rest : List Mark) (t : Mark) → 0 < length marks → t ≡ innermost (reverse marks) → rest ≡ take (length marks - 1) marks
    → reverse marks ≡ t ∷ reverse rest
pop_marks marks rest t some e h =
    let r = reverse-last marks t some in
    r ∙ ap (λ (x : Mark). x ∷ reverse (take (length marks - 1) marks)) (sym (e ∙ ap innermost r)) ∙ ap (λ (xs : List Mark). t ∷ reverse xs) (sym h)

pub entries_within : (n : ℕ) (t : Mark) (ms all : List Mark) (st : List ℕ) (log : List Entry) → all ≡ t ∷ ms → Holds n all st log
    → AllByRecursion (λ (e : Entry). e.place < length st) (drop t.first log)
entries_within n t ms all st log e k =
    let h : Holds n (t ∷ ms) st log = subst (λ (xs : List Mark). Holds n xs st log) e k in
    subst (λ (i : ℕ). AllByRecursion (λ (x : Entry). x.place < i) (drop t.first log)) (sym h.size)
    (within_saved n (drop t.first log) h.stacked.0.within)

pub accepted_all : (n : ℕ) (t l : Mark) (ms all : List Mark) (st : List ℕ) (log : List Entry) (r : Merge) → all ≡ t ∷ ms → l ≡ innermost ms
    → Holds n all st log
    → r ≡ merge_all l (record { stamps = st; log = take t.first log }) (drop t.first log)
    → Holds n ms r.stamps r.log × (regions_of ms r.log ≡ merged (regions_of all log))
accepted_all n t l ms all st log r e f k q =
    let a = accepted n t ms st log (subst (λ (xs : List Mark). Holds n xs st log) e k) in
    let w = sym (q ∙ ap (λ (x : Mark). merge_all x (record { stamps = st; log = take t.first log }) (drop t.first log)) f) in (
      subst (λ (x : Merge). Holds n ms x.stamps x.log) w a.holds,
      subst (λ (x : Merge). regions_of ms x.log ≡ merged (regions_of (t ∷ ms) log)) w a.regions
          ∙ ap (λ (xs : List Mark). merged (regions_of xs log)) (sym e),
    )
