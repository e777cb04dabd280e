-- A file as it is read, piece after piece.
use Rattle.std.proofs.Common.{◌≡◌, ℕ, zero, suc, ◌+◌, ◌<◌, ◌≤◌, nat_eq, Bool, true, false, List, [], ◌∷◌, ◌++◌, length, take, drop, Option, Some, None}
use Rattle.std.proofs.Common.{refl, sym, ap, subst, ◌∙◌, inl, inr, arith, length-append}
use Rattle.std.specs.Option.{option_map}
use Rattle.std.proofs.lemmas.List.{length-take-le, take-append-drop}
use Rattle.std.proofs.Math.Dec.{eqb-suc-zero}
use Rattle.std.proofs.Math.Seq.{take-append-add}
use Rattle.rb_outside.specs.Outside.{File, Faults, HasMore, Start, Starts, Passes, Reads, bytes_of, named, failed_once}
use Rattle.rb_hall.specs.Answers.{piece_bytes}
use Rattle.rb_hall.specs.Read.{HasFront, HasFrontIn, StandsAt, StandsAtIn, ReadOn, PassedOn, WasReadIn, StopsForFaultIn, within}

-- n elements after the first m are within the first m and n
pub take-plus : (xs : List ℕ) (m n : ℕ) → m ≤ length xs → take (m + n) xs ≡ take m xs ++ take n (drop m xs)
take-plus xs m n h =
    let front : length (take m xs) ≡ m = length-take-le m xs h in
    let step : take (length (take m xs) + n) (take m xs ++ drop m xs) ≡ take m xs ++ take n (drop m xs) = take-append-add (take m xs) (drop m xs) n in
    subst (λ (ys : List ℕ). take (m + n) ys ≡ take m xs ++ take n (drop m xs)) (take-append-drop m xs)
    (subst (λ (k : ℕ). take (k + n) (take m xs ++ drop m xs) ≡ take m xs ++ take n (drop m xs)) front step)

-- a front of a list, with the next n elements after it
pub front_grows : (all before piece after : List ℕ) (n : ℕ) → before ≡ take (length before) all → length before + n ≤ length all →
    piece ≡ take n (drop (length before) all) → length piece ≡ n → after ≡ before ++ piece → after ≡ take (length after) all
front_grows all before piece after n front inside same size is =
    let m = length before in
    let many : length after ≡ m + n = ap length is ∙ length-append before piece ∙ ap (λ k. m + k) size in
    is ∙ ap (λ (x : List ℕ). x ++ piece) front ∙ ap (λ (x : List ℕ). take m all ++ x) same
    ∙ sym (take-plus all m n (omega arith)) ∙ ap (λ k. take k all) (sym many)

-- a piece of the file at whose front the shelf stands
piece_of_front : (files : List File) (name : List ℕ) (old : Start) (earlier others new : List Start) (buffer before : List ℕ) (n : ℕ) →
    Passes files old earlier new buffer n → (has : HasFront files name before false others (old ∷ earlier)) →
    (length before + n ≤ length has.all) × (take n buffer ≡ take n (drop (length before) has.all))
    × (new ≡ record { file = Some name; passed = length before + n; went = true; ended = nat_eq n 0 } ∷ others) × (n ≡ 0 → length before ≡ length has.all)
piece_of_front files name old earlier others new buffer before n p has =
    let at : old ≡ record { file = Some name; passed = length before; went = true; ended = false } = cc (has.started) in
    let rest : earlier ≡ others = cc (has.started) in
    let file : old.file ≡ Some name = ap (λ s. s.file) at in
    let passed : old.passed ≡ length before = ap (λ s. s.passed) at in
    let same_name : p.name ≡ name = cc (p.is_of, file) in
    let same : p.bytes ≡ has.all = cc (p.stored, has.stored, ap (bytes_of files) same_name) in
    let size : length p.bytes ≡ length has.all = ap length same in
    let fits = p.within in (
      omega arith,
      p.read ∙ ap (λ (xs : List ℕ). take n (drop old.passed xs)) same ∙ ap (λ k. take n (drop k has.all)) passed,
      p.moved ∙ ap (λ (xs : List Start). record { file = old.file; passed = old.passed + n; went = true; ended = nat_eq n 0 } ∷ xs) rest
          ∙ ap (λ (f : Option (List ℕ)). record { file = f; passed = old.passed + n; went = true; ended = nat_eq n 0 } ∷ others) file
          ∙ ap (λ k. record { file = Some name; passed = k + n; went = true; ended = nat_eq n 0 } ∷ others) passed,
      λ zero. sym passed ∙ p.end zero ∙ size,
    )

-- a piece was read on
read_told : (files : List File) (name : List ℕ) (old : Start) (earlier others new : List Start) (buffer before after : List ℕ) (n : ℕ) →
    Passes files old earlier new buffer n → n ≤ length buffer → after ≡ before ++ take n buffer → HasFront files name before false others (old ∷ earlier) →
    HasFront files name after (nat_eq n 0) others new × (n ≡ 0 → (all : List ℕ) → bytes_of files name ≡ Some all → length after ≡ length all)
read_told files name old earlier others new buffer before after n p fits is has =
    let piece = piece_of_front files name old earlier others new buffer before n p has in
    let size : length (take n buffer) ≡ n = length-take-le n buffer fits in
    let many : length after ≡ length before + n = ap length is ∙ length-append before (take n buffer) ∙ ap (λ k. length before + k) size in
    let inside = piece.0 in (
      record {
        all = has.all;
        stored = has.stored;
        front = front_grows has.all before (take n buffer) after n has.front inside piece.1 size is;
        within = omega arith;
        started = piece.2 ∙ ap (λ k. record { file = Some name; passed = k; went = true; ended = nat_eq n 0 } ∷ others) (sym many);
      },
      λ zero all stored.
          let end : length before ≡ length has.all = piece.3 zero in
          let whole : has.all ≡ all = cc (has.stored, stored) in
          let one : length has.all ≡ length all = ap length whole in
          omega arith,
    )

-- a piece more, whether files are told or not
pub read_on : (files : Option (List File)) (old new : List Start) (buffer before after : List ℕ) (n : ℕ) →
    Reads files old new buffer n → n ≤ length buffer → after ≡ before ++ take n buffer → ReadOn files old new before after n
read_on None [] new buffer before after n p fits is = absurd p
read_on None (old ∷ earlier) new buffer before after n p fits is = p.1
read_on (Some files) [] new buffer before after n p fits is = absurd p
read_on (Some files) (old ∷ earlier) new buffer before after n p fits is =
    λ name others has. read_told files name old earlier others new buffer before after n p fits is has

-- the name under which a file is stored
named_stored : (files : List File) (name bytes : List ℕ) → bytes_of files name ≡ Some bytes → named files name ≡ Some name
named_stored files name bytes stored = ap (option_map (λ _. name)) stored

-- a piece that no memory was there for
pub passed_on : (files : Option (List File)) (old new : List Start) (buffer before : List ℕ) (n : ℕ) →
    Reads files old new buffer n → n ≤ piece_bytes → PassedOn files old new before
passed_on None old new buffer before n p small = tt
passed_on (Some files) [] new buffer before n p small = absurd p
passed_on (Some files) (old ∷ earlier) new buffer before n p small = λ name others has.
    let piece = piece_of_front files name old earlier others new buffer before n p has in
    record {
      passed = length before + n;
      ended = nat_eq n 0;
      not_far = omega arith;
      started = piece.2
          ∙ ap (λ (f : Option (List ℕ)). record { file = f; passed = length before + n; went = true; ended = nat_eq n 0 } ∷ others)
          (sym (named_stored files name has.all has.stored));
    }

-- of a piece with bytes it is not said that the end was told
more_follows : (n : ℕ) → 0 < n → nat_eq n 0 ≡ false
more_follows zero some = absurd (omega (arith, some))
more_follows (suc n) some = eqb-suc-zero n

-- the front grows by a piece
pub front_on : (files : Option (List File)) (name : List ℕ) (others old new : List Start) (before after : List ℕ) (n : ℕ) →
    ReadOn files old new before after n → 0 < n → HasFrontIn files name before others old → HasFrontIn files name after others new
front_on None name others old new before after n on some has = on some
front_on (Some files) name others old new before after n on some has =
    subst (λ (ended : Bool). HasFront files name after ended others new) (more_follows n some) (on name others has).0

-- a file whose front was read is open, and its end was not told
pub has_more : (files : Option (List File)) (name bytes : List ℕ) (others now : List Start) → HasFrontIn files name bytes others now → HasMore now
has_more None name bytes others now has = has
has_more (Some files) name bytes others now has = subst HasMore (sym has.started) (refl, refl)

-- at its end it was read whole
pub read_to_end : (files : Option (List File)) (name : List ℕ) (most : ℕ) (others old new : List Start) (before after : List ℕ) (n : ℕ) →
    n ≡ 0 → ReadOn files old new before after n → HasFrontIn files name before others old → length after ≤ most + piece_bytes
    → WasReadIn files name most after others new
read_to_end None name most others old new before after n none on has near = tt
read_to_end (Some files) name most others old new before after n none on has near =
    let read = on name others has in
    let front = read.0 in
    record {
      all = front.all;
      stored = front.stored;
      front = front.front;
      ended = nat_eq n 0;
      read = record { enough = inl (read.1 none front.all front.stored, ap (λ k. nat_eq k 0) none); within = front.within; not_far = near };
      started = front.started;
    }

-- behind the most that is wanted it was read far enough
pub read_enough : (files : Option (List File)) (name : List ℕ) (most : ℕ) (others now : List Start) (bytes : List ℕ) →
    HasFrontIn files name bytes others now → most < length bytes → length bytes ≤ most + piece_bytes → WasReadIn files name most bytes others now
read_enough None name most others now bytes has long near = tt
read_enough (Some files) name most others now bytes has long near = record {
  all = has.all;
  stored = has.stored;
  front = has.front;
  ended = false;
  read = record { enough = inr (long, refl); within = has.within; not_far = near };
  started = has.started;
}

-- the starts before the file that was started
others_are : (files : List File) (name : List ℕ) (old new : List Start) → Starts (Some files) name old new → drop 1 new ≡ old
others_are files name old new started = ap (drop 1) started.0

stands_from : (files : Option (List File)) (name : List ℕ) (furthest : ℕ) (old mid new : List Start) →
    Starts files name old mid → StandsAtIn files name furthest (drop 1 mid) new → StandsAtIn files name furthest old new
stands_from None name furthest old mid new started at = tt
stands_from (Some files) name furthest old mid new started at =
    subst (λ (others : List Start). StandsAt files name furthest others new) (others_are files name old mid started) at

fault_within : (files : Option (List File)) (name : List ℕ) (most : ℕ) (old new : List Start) (before after : Faults) →
    after ≡ failed_once before → StandsAtIn files name (most + piece_bytes) old new → StopsForFaultIn files name most old new before after
fault_within None name most old new before after failed at = failed
fault_within (Some files) name most old new before after failed at = within failed at
