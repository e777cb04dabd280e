-- Who judges texts, and the same with the limits of the files: where the first makes one thing of texts, so does the second; where the first ends
-- with some judgement, so does the second; and where all texts are short, or a text is written, both end alike.
use Rattle.std.proofs.Common.{◌≡◌, ◌⊎◌, ℕ, zero, suc, ◌+◌, ◌<◌, ◌≤◌, List, [], ◌∷◌, ◌++◌, length, drop, refl, sym, ap, subst, ◌∙◌, inl, inr, arith, length-append, append_assoc}
use Rattle.std.proofs.lemmas.Bool.{cases_lt}
use Rattle.rb_hall.specs.declared.fault.Fault.{Fault}
use Rattle.rb_hall.specs.declared.fault.Fault.TheVariants.{Long}
use Rattle.rb_hall.specs.Judgement.{Judgement, Judging, ReadsOn, RefusedWith, Writes, Wants, AreShort, none_yet, one_short, Limited, as_judged, too_long, EndsBy, refused_here, written_here, later}

-- ---- judgements differ

refused_goes_on : (fault : Fault) → RefusedWith fault ≡ ReadsOn → ⊥
refused_goes_on fault e = cc

written_goes_on : (text : List ℕ) → Writes text ≡ ReadsOn → ⊥
written_goes_on text e = cc

refused_writes : (fault : Fault) (text : List ℕ) → RefusedWith fault ≡ Writes text → ⊥
refused_writes fault text e = cc

-- ---- who makes one thing of what is read ends in one way

module _ (judges : Judging) (once : (texts : List (List ℕ)) (v w : Judgement) → judges texts v → judges texts w → v ≡ w) where
  pub ends_once : (read left : List (List ℕ)) (v w : Judgement) → EndsBy judges read left v → EndsBy judges read left w → v ≡ w
  ends_once read left v w (refused_here a b fault r) (refused_here c d other s) = once read (RefusedWith fault) (RefusedWith other) r s
  ends_once read left v w (refused_here a b fault r) (written_here c d text s) = once read (RefusedWith fault) (Writes text) r s
  ends_once read left v w (refused_here a b fault r) (later c next rest j goes ends) =
      absurd (refused_goes_on fault (once read (RefusedWith fault) ReadsOn r goes))
  ends_once read left v w (written_here a b text r) (refused_here c d fault s) = once read (Writes text) (RefusedWith fault) r s
  ends_once read left v w (written_here a b text r) (written_here c d other s) = once read (Writes text) (Writes other) r s
  ends_once read left v w (written_here a b text r) (later c next rest j goes ends) =
      absurd (written_goes_on text (once read (Writes text) ReadsOn r goes))
  ends_once read left v w (later a next rest i goes ends) (refused_here c d fault s) =
      absurd (refused_goes_on fault (once read (RefusedWith fault) ReadsOn s goes))
  ends_once read left v w (later a next rest i goes ends) (written_here c d text s) =
      absurd (written_goes_on text (once read (Writes text) ReadsOn s goes))
  ends_once read left v w (later a next rest i goes ends) (later c again others j on more) = ends_once (read ++ next ∷ []) rest v w ends more

-- ---- the files that are left

-- what a list ends with
last_same : (xs ys : List (List ℕ)) (x y : List ℕ) → xs ++ x ∷ [] ≡ ys ++ y ∷ [] → (xs ≡ ys) × (x ≡ y)
last_same [] [] x y e = (refl, cc)
last_same [] (b ∷ []) x y e = absurd (cc)
last_same [] (b ∷ c ∷ ys) x y e = absurd (cc)
last_same (a ∷ []) [] x y e = absurd (cc)
last_same (a ∷ b ∷ xs) [] x y e = absurd (cc)
last_same (a ∷ xs) (b ∷ ys) x y e =
    let rests : xs ++ x ∷ [] ≡ ys ++ y ∷ [] = cc in
    let firsts : a ≡ b = cc in
    let more = last_same xs ys x y rests in
    let before : xs ≡ ys = more.0 in
    (cc, more.1)

-- no list ends so that is empty
none_last : (xs : List (List ℕ)) (x : List ℕ) (P : Type 0) → [] ≡ xs ++ x ∷ [] → P
none_last [] x P e = absurd (cc)
none_last (y ∷ xs) x P e = absurd (cc)

drop_one_more : (files : List Wants) (n : ℕ) (next : Wants) (rest : List Wants) → drop n files ≡ next ∷ rest → drop (suc n) files ≡ rest
drop_one_more [] zero next rest e = absurd (cc)
drop_one_more [] (suc n) next rest e = absurd (cc)
drop_one_more (file ∷ files) zero next rest e = cc
drop_one_more (file ∷ files) (suc n) next rest e = drop_one_more files n next rest e

module _ (wanted : List Wants) where
  -- they are told by how many texts were read
  files_left : (texts : List (List ℕ)) (rest : List Wants) → AreShort wanted texts rest → drop (length texts) wanted ≡ rest
  files_left texts rest none_yet = refl
  files_left texts rest (one_short before next others text short small) =
      let size : length (before ++ text ∷ []) ≡ length before + 1 = length-append before (text ∷ []) in
      let more : length (before ++ text ∷ []) ≡ suc (length before) = omega (arith, size) in
      ap (λ (n : ℕ). drop n wanted) more
      ∙ drop_one_more wanted (length before) next others (files_left before (next ∷ others) short)

  next_same : (texts : List (List ℕ)) (a b : Wants) (more others : List Wants) → AreShort wanted texts (a ∷ more)
      → AreShort wanted texts (b ∷ others) → a ≡ b
  next_same texts a b more others x y =
      let same : a ∷ more ≡ b ∷ others = sym (files_left texts (a ∷ more) x) ∙ files_left texts (b ∷ others) y in cc

  -- of texts that are short the last is no longer than its file may be
  last_short : (all : List (List ℕ)) (left : List Wants) → AreShort wanted all left → (texts : List (List ℕ)) (text : List ℕ)
      → all ≡ texts ++ text ∷ [] → (next : Wants) (rest : List Wants) → AreShort wanted texts (next ∷ rest) → length text ≤ next.most
  last_short all left none_yet texts text e next rest short = none_last texts text (length text ≤ next.most) e
  last_short all left (one_short before file others one few small) texts text e next rest short =
      let same = last_same before texts one text e in
      let its : file ≡ next =
      next_same texts file next others rest (subst (λ (ts : List (List ℕ)). AreShort wanted ts (file ∷ others)) same.0 few) short in
      subst (λ (t : List ℕ). length t ≤ next.most) same.1 (subst (λ (f : Wants). length one ≤ f.most) its small)

  -- ---- with limits one thing is made of what is read

  module _ (judges : Judging) where
    not_both : (all : List (List ℕ)) (left : List Wants) (texts : List (List ℕ)) (next : Wants) (rest : List Wants) (text : List ℕ)
        (P : Type 0) → AreShort wanted all left → all ≡ texts ++ text ∷ [] → AreShort wanted texts (next ∷ rest) → next.most < length text → P
    not_both all left texts next rest text P few e short long =
        let small = last_short all left few texts text e next rest short in absurd (omega (arith, small, long))

    module _ (once : (texts : List (List ℕ)) (v w : Judgement) → judges texts v → judges texts w → v ≡ w) where
      same_limited : (texts others : List (List ℕ)) (v w : Judgement) → Limited judges wanted texts v → Limited judges wanted others w
          → texts ≡ others → v ≡ w
      same_limited texts others v w (as_judged a rest i few h) (as_judged b left j less k) e =
          once others v w (subst (λ (ts : List (List ℕ)). judges ts v) e h) k
      same_limited texts others v w (as_judged a rest i few h) (too_long before next left text short goes long) e =
          not_both texts rest before next left text (v ≡ RefusedWith Long) few e short long
      same_limited texts others v w (too_long before next left text short goes long) (as_judged b rest j few k) e =
          not_both others rest before next left text (RefusedWith Long ≡ w) few (sym e) short long
      same_limited texts others v w (too_long before next left text short goes long) (too_long after file rest one few on more) e = refl

      pub limited_once : (texts : List (List ℕ)) (v w : Judgement) → Limited judges wanted texts v → Limited judges wanted texts w → v ≡ w
      limited_once texts v w a b = same_limited texts texts v w a b refl

      -- so with limits, too, who judges so ends in one way
      pub limited_ends_once : (read left : List (List ℕ)) (v w : Judgement) → EndsBy (Limited judges wanted) read left v
          → EndsBy (Limited judges wanted) read left w → v ≡ w
      limited_ends_once = ends_once (Limited judges wanted) limited_once

-- ---- who ends, ends with limits too

module _ (judges : Judging) (wanted : List Wants) where
  abbrev pub EndsLimited : List (List ℕ) → List (List ℕ) → Judgement → Type 0
  EndsLimited read left judgement = EndsBy (Limited judges wanted) read left judgement

  -- at the next text: as it is too long, or by what comes after it
  by_next : (read : List (List ℕ)) (next : List ℕ) (others : List (List ℕ)) (file : Wants) (rest : List Wants)
      → AreShort wanted read (file ∷ rest) → judges read ReadsOn
      → (AreShort wanted (read ++ next ∷ []) rest → (v : Judgement) × EndsLimited (read ++ next ∷ []) others v)
      → (file.most < length next) ⊎ (length next ≤ file.most) → (v : Judgement) × EndsLimited read (next ∷ others) v
  by_next read next others file rest few goes after (inl long) = (
    RefusedWith Long,
    later read next others (RefusedWith Long) (as_judged read (file ∷ rest) ReadsOn few goes)
        (refused_here (read ++ next ∷ []) others Long (too_long read file rest next few goes long)),
  )
  by_next read next others file rest few goes after (inr small) =
      let made = after (one_short read file rest next few small) in
      (made.0, later read next others made.0 (as_judged read (file ∷ rest) ReadsOn few goes) made.1)

  limited_from : (read left : List (List ℕ)) (judgement : Judgement) → EndsBy judges read left judgement → (rest : List Wants)
      → AreShort wanted read rest → length left ≤ length rest → (v : Judgement) × EndsLimited read left v
  limited_from read left judgement (refused_here a b fault h) rest few many =
      (RefusedWith fault, refused_here read left fault (as_judged read rest (RefusedWith fault) few h))
  limited_from read left judgement (written_here a b text h) rest few many =
      (Writes text, written_here read left text (as_judged read rest (Writes text) few h))
  limited_from read left judgement (later a next others j goes ends) [] few many = absurd (omega (arith, many))
  limited_from read left judgement (later a next others j goes ends) (file ∷ rest) few many =
      by_next read next others file rest few goes
      (λ less. limited_from (read ++ next ∷ []) others j ends rest less (omega (arith, many)))
      (cases_lt file.most (length next))

  pub limited_ends : (texts : List (List ℕ)) → length texts ≤ length wanted → (v : Judgement) × EndsBy judges [] texts v
      → (v : Judgement) × EndsLimited [] texts v
  limited_ends texts many ends = limited_from [] texts ends.0 ends.1 wanted none_yet many

-- ---- short texts

-- these texts are of these files, in their order, and each is no longer than its file may be
abbrev pub AreWithin : List Wants → List (List ℕ) → Type 0
AreWithin files [] = Unit {0}
AreWithin [] (text ∷ texts) = ⊥
AreWithin (file ∷ files) (text ∷ texts) = (length text ≤ file.most) × AreWithin files texts

within_more : (files : List Wants) (texts : List (List ℕ)) (next : Wants) (rest : List Wants) (text : List ℕ) → AreWithin files texts
    → drop (length texts) files ≡ next ∷ rest → length text ≤ next.most → AreWithin files (texts ++ text ∷ [])
within_more [] [] next rest text within e small = absurd (cc)
within_more [] (one ∷ texts) next rest text within e small = absurd within
within_more (file ∷ files) [] next rest text within e small =
    let same : next ≡ file = cc in (subst (λ (f : Wants). length text ≤ f.most) same small, tt)
within_more (file ∷ files) (one ∷ texts) next rest text within e small = (within.0, within_more files texts next rest text within.1 e small)

-- texts that were read with limits are
pub read_within : (wanted : List Wants) (texts : List (List ℕ)) (rest : List Wants) → AreShort wanted texts rest → AreWithin wanted texts
read_within [] texts rest none_yet = tt
read_within (file ∷ files) texts rest none_yet = tt
read_within wanted texts rest (one_short before next others text few small) =
    within_more wanted before next others text (read_within wanted before (next ∷ others) few)
    (files_left wanted before (next ∷ others) few) small

module _ (judges : Judging) (wanted : List Wants) where
  short_from : (read left : List (List ℕ)) (judgement : Judgement) → EndsBy judges read left judgement → (rest : List Wants)
      → AreShort wanted read rest → AreWithin rest left → EndsBy (Limited judges wanted) read left judgement
  short_from read left judgement (refused_here a b fault h) rest few within =
      refused_here read left fault (as_judged read rest (RefusedWith fault) few h)
  short_from read left judgement (written_here a b text h) rest few within =
      written_here read left text (as_judged read rest (Writes text) few h)
  short_from read left judgement (later a next others j goes ends) [] few within = absurd within
  short_from read left judgement (later a next others j goes ends) (file ∷ rest) few within =
      later read next others judgement (as_judged read (file ∷ rest) ReadsOn few goes)
      (short_from (read ++ next ∷ []) others j ends rest (one_short read file rest next few within.0) within.1)

  -- of these the judgement is the same with limits
  pub short_ends : (texts : List (List ℕ)) (judgement : Judgement) → AreWithin wanted texts → EndsBy judges [] texts judgement
      → EndsBy (Limited judges wanted) [] texts judgement
  short_ends texts judgement within ends = short_from [] texts judgement ends wanted none_yet within

  -- ---- a text that was written

  -- Of the first of these texts this one was written, and they are short.
  pub record WroteWithin (texts : List (List ℕ)) (text : List ℕ) : Type 0 where
    pub read : List (List ℕ)
    pub left : List (List ℕ)
    pub parts : read ++ left ≡ texts
    pub judged : judges read (Writes text)
    pub within : AreWithin wanted read

  writes_limited : (texts : List (List ℕ)) (judgement : Judgement) (text : List ℕ) → Limited judges wanted texts judgement
      → judgement ≡ Writes text → judges texts (Writes text) × AreWithin wanted texts
  writes_limited texts judgement text (as_judged a rest j few h) e = (subst (judges texts) e h, read_within wanted texts rest few)
  writes_limited texts judgement text (too_long before next rest one few goes long) e = absurd (refused_writes Long text e)

  wrote_from : (read left : List (List ℕ)) (judgement : Judgement) (text : List ℕ) → EndsBy (Limited judges wanted) read left judgement
      → judgement ≡ Writes text → WroteWithin (read ++ left) text
  wrote_from read left judgement text (refused_here a b fault h) e = absurd (refused_writes fault text e)
  wrote_from read left judgement text (written_here a b one h) e =
      let made = writes_limited read (Writes one) text h e in
      record { read = read; left = left; parts = refl; judged = made.0; within = made.1 }
  wrote_from read left judgement text (later a next rest j h ends) e =
      subst (λ (all : List (List ℕ)). WroteWithin all text) (append_assoc read (next ∷ []) rest) (wrote_from (read ++ next ∷ []) rest j text ends e)

  pub wrote_within : (texts : List (List ℕ)) (text : List ℕ) → EndsBy (Limited judges wanted) [] texts (Writes text) → WroteWithin texts text
  wrote_within texts text ends = wrote_from [] texts (Writes text) text ends refl

  -- who reads on with limits reads on without
  goes_on : (texts : List (List ℕ)) (judgement : Judgement) → Limited judges wanted texts judgement → judgement ≡ ReadsOn → judges texts ReadsOn
  goes_on texts judgement (as_judged a rest j few h) e = subst (judges texts) e h
  goes_on texts judgement (too_long before next rest one few goes long) e = absurd (refused_goes_on Long e)

  writes_from : (read left : List (List ℕ)) (judgement : Judgement) (text : List ℕ) → EndsBy (Limited judges wanted) read left judgement
      → judgement ≡ Writes text → EndsBy judges read left (Writes text)
  writes_from read left judgement text (refused_here a b fault h) e = absurd (refused_writes fault text e)
  writes_from read left judgement text (written_here a b one h) e =
      written_here read left text (writes_limited read (Writes one) text h e).0
  writes_from read left judgement text (later a next rest j h ends) e =
      later read next rest (Writes text) (goes_on read ReadsOn h refl) (writes_from (read ++ next ∷ []) rest j text ends e)

  -- who writes with limits writes the same without
  pub writes_unlimited : (texts : List (List ℕ)) (text : List ℕ) → EndsBy (Limited judges wanted) [] texts (Writes text)
      → EndsBy judges [] texts (Writes text)
  writes_unlimited texts text ends = writes_from [] texts (Writes text) text ends refl
