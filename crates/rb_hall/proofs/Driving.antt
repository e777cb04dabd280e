-- From what was read of a file to how the reading of all texts stands, for every way to judge.
use Rattle.std.proofs.Common.{◌≡◌, ◌⊎◌, ℕ, zero, suc, ◌+◌, ◌-◌, ◌<◌, ◌≤◌, true, false, List, [], ◌∷◌, ◌++◌, length, take, drop, slice_get, Option, Some, None, refl, sym, ap, subst, ◌∙◌, inl, inr, Bool, arith, length-append, add-one}
use Rattle.std.proofs.lemmas.List.{take_all}
use Rattle.rb_outside.specs.Outside.{File, Faults, Start, bytes_of, named, failed_once, was_missing}
use Rattle.rb_hall.specs.declared.fault.Fault.{Fault}
use Rattle.rb_hall.specs.declared.fault.Fault.TheVariants.{Long}
use Rattle.rb_hall.specs.declared.outcome.Refusal.{Refusal}
use Rattle.rb_hall.specs.Judgement.{Explained, Explaining, Judging, ReadsOn, RefusedWith, Wants, AreShort, none_yet, one_short, Limited, as_judged, too_long}
use Rattle.rb_hall.specs.Ends.{HoldsOn, MayTake}
use Rattle.rb_hall.specs.Answers.{piece_bytes, IsRead, HasRead, nothing_yet, one_more, HasReadSince, HasReadUntold, none_read, one_read, HasReadIn, IsFront, IsFrontIn, IsOfLast, of_none, of_last, RefusesIn, StoppedAt, StoppedByFault, StoppedByMissing, RanOut, between, RanOutIn, ReadFailsIn, by_fault, by_missing, ReadAll}
use Rattle.rb_hall.specs.Answers as answers
use Rattle.rb_hall.specs.Read.{WasRead, WasReadIn, StandsAt, StandsAtIn, StopsForFault, StopsForFaultIn}
use Rattle.rb_hall.specs.Read as stops

-- ---- the files that are left

-- the next of a list, and those after it
pub drop_next : (xs : List Wants) (n : ℕ) (x : Wants) → slice_get xs n ≡ Some x → (drop n xs ≡ x ∷ drop (suc n) xs) × (n < length xs)
drop_next [] n x e = absurd (cc)
drop_next (y ∷ ys) zero x e = let same : y ≡ x = cc in (ap (λ (z : Wants). z ∷ ys) same, omega arith)
drop_next (y ∷ ys) (suc n) x e = let rest = drop_next ys n x e in (rest.0, omega (arith, rest.1))

-- the text of the next file may be taken
pub may_take : {H : Type 0} (wanted : List Wants) (holds : List (List ℕ) → H → Type 0) (held : H) (text : List ℕ) (texts : List (List ℕ)) (file : Wants)
    → slice_get wanted (length texts) ≡ Some file → length text ≤ file.most → holds texts held → MayTake wanted holds held text
may_take [] holds held text texts file is fits here = tt
may_take (first ∷ more) holds held text texts file is fits here = (texts, file, is, fits, here)

-- where no file is wanted there is no next
pub none_wanted : (wanted : List Wants) (n : ℕ) (x : Wants) (P : Type 0) → slice_get wanted n ≡ Some x → wanted ≡ [] → P
none_wanted [] n x P e none = absurd (cc)
none_wanted (y ∷ ys) n x P e none = absurd (cc)

pub drop_end : (xs : List Wants) (n : ℕ) → length xs ≤ n → drop n xs ≡ []
drop_end [] zero h = refl
drop_end [] (suc n) h = refl
drop_end (x ∷ xs) zero h = absurd (omega (arith, h))
drop_end (x ∷ xs) (suc n) h = drop_end xs n (omega (arith, h))

-- How the reading of the texts stands: these texts were read and judged, and these files are left.
pub record Reading {H : Type 0} (files : Option (List File)) (judges : Judging) (wanted : List Wants) (holds : List (List ℕ) → H → Type 0)
    (old now : List Start) (number : ℕ) (held : H) (bytes : List ℕ) : Type 0 where
  pub texts : List (List ℕ)
  pub read : HasReadIn files (Limited judges wanted) wanted texts (drop number wanted) old now
  pub short : AreShort wanted texts (drop number wanted)
  pub many : length texts ≡ number
  pub near : number ≤ length wanted
  pub holding : HoldsOn judges wanted holds texts held
  pub keeps : IsOfLast files wanted texts (number - 1) bytes

-- at first none were
nothing_read : (files : Option (List File)) (judges : Judging) (wanted : List Wants) (old : List Start) → HasReadIn files judges wanted [] wanted old old
nothing_read None judges wanted old = none_read
nothing_read (Some files) judges wanted old = record { starts = []; read = nothing_yet; started = refl }

pub begun : {H : Type 0} (files : Option (List File)) (judges : Judging) (wanted : List Wants) (holds : List (List ℕ) → H → Type 0)
    (old : List Start) (held : H) → HoldsOn judges wanted holds [] held → (bytes : List ℕ) → bytes ≡ []
    → Reading files judges wanted holds old old 0 held bytes
begun files judges wanted holds old held h bytes none = record {
  texts = [];
  read = nothing_read files (Limited judges wanted) wanted old;
  short = none_yet;
  many = refl;
  near = omega arith;
  holding = h;
  keeps = of_none refl refl none;
}

-- memory was wanting between two files
pub ends_short : (files : Option (List File)) (judges : Judging) (wanted : List Wants) (texts : List (List ℕ)) (rest : List Wants) (old now : List Start) →
    HasReadIn files judges wanted texts rest old now → RanOutIn files judges wanted old now
ends_short None judges wanted texts rest old now since = tt
ends_short (Some files) judges wanted texts rest old now since = between texts rest since.starts since.read since.started

pub short_at_once : (files : Option (List File)) (judges : Judging) (wanted : List Wants) (old : List Start) → RanOutIn files judges wanted old old
short_at_once files judges wanted old = ends_short files judges wanted [] wanted old old (nothing_read files judges wanted old)

-- ---- a text more

-- The next text, by what was read of it.
pub record NextText (files : Option (List File)) (judges : Judging) (wanted : List Wants) (texts : List (List ℕ)) (next : Wants) (rest : List Wants)
    (old now : List Start) (bytes : List ℕ) : Type 0 where
  pub text : List ℕ
  pub read : HasReadIn files judges wanted (texts ++ text ∷ []) rest old now
  pub front : IsFrontIn files next.most text bytes
  pub whole : length bytes ≤ next.most → text ≡ bytes
  pub long : next.most < length bytes → next.most < length text

-- what was read is all of the text, where that is not above its limit
front_whole : (most : ℕ) (all bytes : List ℕ) → bytes ≡ take (length bytes) all → (ended : Bool) → IsRead most all (length bytes) ended → length bytes ≤ most → all ≡ bytes
front_whole most all bytes front ended read short = elim read.enough [
  | inl whole ↦ let same = whole.0 in sym (front ∙ take_all (length bytes) all (omega arith))
  | inr above ↦ let many = above.0 in absurd (omega arith)
]

pub next_text : (files : Option (List File)) (judges : Judging) (wanted : List Wants) (texts : List (List ℕ)) (next : Wants) (rest : List Wants)
    (old mid now : List Start) (bytes : List ℕ) →
    HasReadIn files judges wanted texts (next ∷ rest) old mid → judges texts ReadsOn → WasReadIn files next.name next.most bytes mid now →
    NextText files judges wanted texts next rest old now bytes
next_text None judges wanted texts next rest old mid now bytes since goes_on was = record {
  text = bytes;
  read = one_read texts next rest bytes since goes_on;
  front = refl;
  whole = λ short. refl;
  long = λ many. many;
}
next_text (Some files) judges wanted texts next rest old mid now bytes since goes_on was =
    let within = was.read.within in
    record {
      text = was.all;
      read = record {
        starts = record { file = Some next.name; passed = length bytes; went = true; ended = was.ended } ∷ since.starts;
        read = one_more texts next rest since.starts was.all (length bytes) was.ended since.read goes_on was.stored was.read;
        started = was.started
            ∙ ap (λ (xs : List Start). record { file = Some next.name; passed = length bytes; went = true; ended = was.ended } ∷ xs) since.started;
      };
      front = record { front = was.front; ended = was.ended; read = was.read };
      whole = λ short. front_whole next.most was.all bytes was.front was.ended was.read short;
      long = λ many. omega arith;
    }

module _ {H : Type 0} (files : Option (List File)) (judges : Judging) (wanted : List Wants) (holds : List (List ℕ) → H → Type 0)
    (old mid : List Start) (number : ℕ) (held : H) (kept : List ℕ) (at : Reading files judges wanted holds old mid number held kept)
    (next : Wants) (is : slice_get wanted number ≡ Some next) where
  abbrev left : List Wants
  left = drop (suc number) wanted

  rest_is : drop number wanted ≡ next ∷ left
  rest_is = (drop_next wanted number next is).0

  inside : number < length wanted
  inside = (drop_next wanted number next is).1

  read_by_now : HasReadIn files (Limited judges wanted) wanted at.texts (next ∷ left) old mid
  read_by_now = subst (λ (rest : List Wants). HasReadIn files (Limited judges wanted) wanted at.texts rest old mid) rest_is at.read

  short_by_now : AreShort wanted at.texts (next ∷ left)
  short_by_now = subst (λ (rest : List Wants). AreShort wanted at.texts rest) rest_is at.short

  reads_on_now : judges at.texts ReadsOn
  reads_on_now = let many = at.many in let far = inside in at.holding.1 (omega arith)

  goes_on : Limited judges wanted at.texts ReadsOn
  goes_on = as_judged at.texts (next ∷ left) ReadsOn short_by_now reads_on_now

  -- what its judge may take for known
  pub taken : (length at.texts ≡ number) × (slice_get wanted (length at.texts) ≡ Some next) × holds at.texts held
  taken = (at.many, ap (slice_get wanted) at.many ∙ is, at.holding.0)

  -- the next file was read
  pub read_next : (now : List Start) (bytes : List ℕ) → WasReadIn files next.name next.most bytes mid now →
      NextText files (Limited judges wanted) wanted at.texts next left old now bytes
  read_next now bytes was = next_text files (Limited judges wanted) wanted at.texts next left old mid now bytes read_by_now goes_on was

  -- it was taken
  pub read_on : (now : List Start) (bytes : List ℕ) (after : H) → WasReadIn files next.name next.most bytes mid now → length bytes ≤ next.most →
      ((texts : List (List ℕ)) → holds texts held → HoldsOn judges wanted holds (texts ++ bytes ∷ []) after) →
      Reading files judges wanted holds old now (suc number) after bytes
  read_on now bytes after was short takes =
      let more = read_next now bytes was in
      let same = more.whole short in
      let far = inside in
      let many = at.many in
      let size : length (at.texts ++ bytes ∷ []) ≡ length at.texts + 1 = length-append at.texts (bytes ∷ []) in
      record {
        texts = at.texts ++ bytes ∷ [];
        read = subst (λ (text : List ℕ). HasReadIn files (Limited judges wanted) wanted (at.texts ++ text ∷ []) left old now) same more.read;
        short = one_short at.texts next left bytes short_by_now short;
        many = omega arith;
        near = omega arith;
        holding = takes at.texts at.holding.0;
        keeps = of_last at.texts bytes next refl (omega arith) (ap (slice_get wanted) (omega arith) ∙ is)
            (subst (λ (text : List ℕ). IsFrontIn files next.most text bytes) same more.front);
      }

  -- it was refused
  pub refused_at : {W : Type 0} (explains : Explaining W) (now : List Start) (bytes : List ℕ) (refusal : Refusal W) →
      WasReadIn files next.name next.most bytes mid now → refusal.number ≡ number → refusal.text.now ≡ bytes →
      ((next.most < length bytes) × (refusal.fault ≡ Long) × (refusal.why ≡ None))
      ⊎ ((length bytes ≤ next.most) × ((texts : List (List ℕ)) → holds texts held
      → judges (texts ++ bytes ∷ []) (RefusedWith refusal.fault) × Explained explains (texts ++ bytes ∷ []) refusal.fault refusal.why)) →
      RefusesIn files (Limited judges wanted) explains wanted old now refusal
  refused_at {W = W} explains now bytes refusal was numbered keeps why =
      let more = read_next now bytes was in
      record {
        texts = at.texts ++ more.text ∷ [];
        rest = left;
        read = more.read;
        judged = elim why [
          | inl long ↦
              subst (λ (fault : Fault). Limited judges wanted (at.texts ++ more.text ∷ []) (RefusedWith fault)) (sym long.1)
              (too_long at.texts next left more.text short_by_now reads_on_now (more.long long.0))
          | inr short ↦
              subst (λ (text : List ℕ). Limited judges wanted (at.texts ++ text ∷ []) (RefusedWith refusal.fault)) (sym (more.whole short.0))
              (as_judged (at.texts ++ bytes ∷ []) left (RefusedWith refusal.fault) (one_short at.texts next left bytes short_by_now short.0)
              (short.1 at.texts at.holding.0).0)
        ];
        explained = elim why [
          | inl long ↦ subst (λ (known : Option W). Explained explains (at.texts ++ more.text ∷ []) refusal.fault known) (sym long.2) long.1
          | inr short ↦
              subst (λ (text : List ℕ). Explained explains (at.texts ++ text ∷ []) refusal.fault refusal.why) (sym (more.whole short.0))
              (short.1 at.texts at.holding.0).1
        ];
        keeps = of_last at.texts more.text next refl (numbered ∙ sym at.many) (ap (slice_get wanted) numbered ∙ is)
            (subst (λ (read : List ℕ). IsFrontIn files next.most more.text read) (sym keeps) more.front);
      }

  -- memory was wanting for its judge
  pub unjudged : (now : List Start) (bytes : List ℕ) → WasReadIn files next.name next.most bytes mid now → RanOutIn files (Limited judges wanted) wanted old now
  unjudged now bytes was =
      let more = read_next now bytes was in
      ends_short files (Limited judges wanted) wanted (at.texts ++ more.text ∷ []) left old now more.read

-- ---- a file that was not read

module _ (files : List File) (judges : Judging) (wanted : List Wants) (texts : List (List ℕ)) (next : Wants) (rest : List Wants)
    (old mid now : List Start) (since : HasReadSince files judges wanted texts (next ∷ rest) old mid) (goes_on : judges texts ReadsOn) where
  abbrev stopped_at : (last : Start) → last.file ≡ named files next.name → last.passed ≤ next.most + piece_bytes → now ≡ last ∷ mid
      → StoppedAt files judges wanted old now next last
  stopped_at last is_of near started = record {
    texts = texts;
    rest = rest;
    starts = since.starts;
    read = since.read;
    goes_on = goes_on;
    is_of = is_of;
    not_far = near;
    started = started ∙ ap (λ (xs : List Start). last ∷ xs) since.started;
  }

  stops_by_fault : (r0 r1 : Faults) → StopsForFault files next.name next.most mid now r0 r1 →
      ReadFailsIn (Some files) judges wanted old now r0 r1 (length texts)
  stops_by_fault r0 r1 (stops.at_start failed started) =
      let last : Start = record { file = named files next.name; passed = 0; went = false; ended = false } in
      by_fault failed (record { next = next; last = last; stopped = stopped_at last refl (omega arith) started; numbered = refl })
  stops_by_fault r0 r1 (stops.missing was gone started) =
      let last : Start = record { file = named files next.name; passed = 0; went = false; ended = false } in
      by_missing was (record { next = next; last = last; stopped = stopped_at last refl (omega arith) started; missing = gone; numbered = refl })
  stops_by_fault r0 r1 (stops.within failed at) =
      let last : Start = record { file = named files next.name; passed = at.passed; went = true; ended = at.ended } in
      by_fault failed (record { next = next; last = last; stopped = stopped_at last refl at.not_far at.started; numbered = refl })

  stops_by_memory : StandsAt files next.name (next.most + piece_bytes) mid now → RanOut files judges wanted old now
  stops_by_memory at =
      let last : Start = record { file = named files next.name; passed = at.passed; went = true; ended = at.ended } in
      answers.within next last (stopped_at last refl at.not_far at.started) refl

read_fails : (files : Option (List File)) (judges : Judging) (wanted : List Wants) (texts : List (List ℕ)) (next : Wants) (rest : List Wants)
    (old mid now : List Start) (r0 r1 : Faults) →
    HasReadIn files judges wanted texts (next ∷ rest) old mid → judges texts ReadsOn → StopsForFaultIn files next.name next.most mid now r0 r1 →
    ReadFailsIn files judges wanted old now r0 r1 (length texts)
read_fails None judges wanted texts next rest old mid now r0 r1 since going failed =
    by_fault failed (record { texts = texts; next = next; rest = rest; read = since; goes_on = going; numbered = refl })
read_fails (Some files) judges wanted texts next rest old mid now r0 r1 since going failed =
    stops_by_fault files judges wanted texts next rest old mid now since going r0 r1 failed

read_runs_out : (files : Option (List File)) (judges : Judging) (wanted : List Wants) (texts : List (List ℕ)) (next : Wants) (rest : List Wants)
    (old mid now : List Start) →
    HasReadIn files judges wanted texts (next ∷ rest) old mid → judges texts ReadsOn → StandsAtIn files next.name (next.most + piece_bytes) mid now →
    RanOutIn files judges wanted old now
read_runs_out None judges wanted texts next rest old mid now since going at = tt
read_runs_out (Some files) judges wanted texts next rest old mid now since going at =
    stops_by_memory files judges wanted texts next rest old mid now since going at

-- faults of a call after others that were none
faults_later : (files : Option (List File)) (judges : Judging) (wanted : List Wants) (old now : List Start) (r0 r1 r2 : Faults) (number : ℕ) →
    r1.count ≡ r0.count → ReadFailsIn files judges wanted old now r1 r2 number → ReadFailsIn files judges wanted old now r0 r2 number
faults_later files judges wanted old now r0 r1 r2 number same (by_fault failed stopped) =
    by_fault (failed ∙ ap (λ n. record { count = Rattle.rb_outside.specs.Outside.one_more n; failed_last = true }) same) stopped
faults_later files judges wanted old now r0 r1 r2 number same (by_missing was stopped) =
    by_missing (was ∙ ap (λ n. record { count = n; failed_last = true }) same) stopped

module _ {H : Type 0} (files : Option (List File)) (judges : Judging) (wanted : List Wants) (holds : List (List ℕ) → H → Type 0)
    (old mid : List Start) (number : ℕ) (held : H) (kept : List ℕ) (at : Reading files judges wanted holds old mid number held kept)
    (next : Wants) (is : slice_get wanted number ≡ Some next) where
  -- the file of this number was not read, for a fault
  pub unread_for_fault : (now : List Start) (r0 r1 r2 : Faults) → r1.count ≡ r0.count → StopsForFaultIn files next.name next.most mid now r1 r2 →
      ReadFailsIn files (Limited judges wanted) wanted old now r0 r2 number
  unread_for_fault now r0 r1 r2 same failed =
      faults_later files (Limited judges wanted) wanted old now r0 r1 r2 number same
      (subst (λ (n : ℕ). ReadFailsIn files (Limited judges wanted) wanted old now r1 r2 n) at.many
      (read_fails files (Limited judges wanted) wanted at.texts next (drop (suc number) wanted) old mid now r1 r2
      (read_by_now files judges wanted holds old mid number held kept at next is)
      (goes_on files judges wanted holds old mid number held kept at next is) failed))

  -- or for want of memory
  pub unread_for_memory : (now : List Start) → StandsAtIn files next.name (next.most + piece_bytes) mid now →
      RanOutIn files (Limited judges wanted) wanted old now
  unread_for_memory now stands =
      read_runs_out files (Limited judges wanted) wanted at.texts next (drop (suc number) wanted) old mid now
      (read_by_now files judges wanted holds old mid number held kept at next is)
      (goes_on files judges wanted holds old mid number held kept at next is) stands

-- no file is left
pub all_read : {H : Type 0} (files : Option (List File)) (judges : Judging) (wanted : List Wants) (holds : List (List ℕ) → H → Type 0)
    (old now : List Start) (number : ℕ) (held : H) (bytes : List ℕ) → Reading files judges wanted holds old now number held bytes
    → length wanted ≤ number → (same : H) (last : ℕ) (text : List ℕ) → same ≡ held → last ≡ number - 1 → text ≡ bytes →
    ReadAll files judges wanted holds old now same last text
all_read files judges wanted holds old now number held bytes at end same last text e e' e'' =
    let none : drop number wanted ≡ [] = drop_end wanted number end in
    let many = at.many in
    let near = at.near in
    let keeps : IsOfLast files wanted at.texts last text = subst (λ (n : ℕ). IsOfLast files wanted at.texts n text) (sym e')
    (subst (λ (bs : List ℕ). IsOfLast files wanted at.texts (number - 1) bs) (sym e'') at.keeps) in
    record {
      texts = at.texts;
      read = subst (λ (rest : List Wants). HasReadIn files (Limited judges wanted) wanted at.texts rest old now) none at.read;
      short = subst (λ (rest : List Wants). AreShort wanted at.texts rest) none at.short;
      many = omega arith;
      holding = subst (λ (h : _). holds at.texts h) (sym e) at.holding.0;
      keeps = keeps;
    }

-- a file was read, whose bytes have another name
pub read_here : (next : Wants) (files others : Option (List File)) → files ≡ others → (bytes same : List ℕ) → bytes ≡ same
    → (old now : List Start) → WasReadIn files next.name next.most bytes old now → WasReadIn others next.name next.most same old now
read_here next files others told bytes same e old now was =
    subst (λ (xs : List ℕ). WasReadIn others next.name next.most xs old now) e
    (subst (λ (fs : Option (List File)). WasReadIn fs next.name next.most bytes old now) told was)

pub at_next : {H : Type 0} (files : Option (List File)) (judges : Judging) (wanted : List Wants) (holds : List (List ℕ) → H → Type 0)
    (old now : List Start) (number : ℕ) (held : H) (bytes : List ℕ) → Reading files judges wanted holds old now (suc number) held bytes
    → Reading files judges wanted holds old now (number + 1) held bytes
at_next files judges wanted holds old now number held bytes at =
    subst (λ (n : ℕ). Reading files judges wanted holds old now n held bytes) (sym (add-one number)) at
