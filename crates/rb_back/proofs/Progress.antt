-- The words of a process, of which the front is shown as it is now.
use Rattle.std.proofs.Common.{◌≡◌, ◌≤◌, ◌<◌, ◌+◌, ℕ, suc, ℤ, pos, List, ◌++◌, length, take, drop, slice_get, slice_set, Some, sym, ap, ◌∙◌, subst, arith}
use Rattle.std.proofs.lemmas.List.{length-set, take-append-drop}
use Rattle.rb_base.specs.Lines.{belonging}
use Rattle.rb_base.specs.declared.event.State.{State}
use Rattle.rb_back.specs.Noting.{AreSameWithin}
use Rattle.rb_back.specs.Picture.{Picture, with_word}
use Rattle.rb_back.proofs.Mixed.{belonging_set, belonging_there, drop_mixed, length_mixed, mixed_all, mixed_further, same_front, set_belonging, set_next, set_twice, take_mixed}

module _ (words now : List (List ℤ)) (p : ℕ) where
  abbrev pub mixed : ℕ → List ℤ
  mixed n = take n (belonging now p) ++ drop n (belonging words p)

  abbrev pub shown_upto : ℕ → List (List ℤ)
  shown_upto n = slice_set words p (mixed n)

  pub none_shown : shown_upto 0 ≡ words
  none_shown = set_belonging words p

  -- where the front is the same already
  pub front_shown : (n : ℕ) → take n (belonging words p) ≡ take n (belonging now p) → shown_upto n ≡ words
  front_shown n same =
      ap (λ (front : List ℤ). slice_set words p (front ++ drop n (belonging words p))) (sym same)
      ∙ ap (slice_set words p) (take-append-drop n (belonging words p)) ∙ set_belonging words p

  module _ (there : p < length words) (long : length (belonging words p) ≡ length (belonging now p)) where
    pub own_upto : (n : ℕ) → belonging (shown_upto n) p ≡ mixed n
    own_upto n = belonging_set words p (mixed n) there

    pub own_long : (n : ℕ) → n ≤ length (belonging words p) → length (belonging (shown_upto n) p) ≡ length (belonging words p)
    own_long n less = ap length (own_upto n) ∙ length_mixed (belonging words p) (belonging now p) n (omega arith) long

    pub own_front : (n : ℕ) → n ≤ length (belonging words p) → take n (belonging (shown_upto n) p) ≡ take n (belonging now p)
    own_front n less = ap (take n) (own_upto n) ∙ take_mixed (belonging words p) (belonging now p) n (omega arith)

    -- one word more
    pub next_shown : (n : ℕ) (y : ℤ) → n < length (belonging words p) → slice_get (belonging now p) n ≡ Some y
        → with_word p n y (shown_upto n) ≡ shown_upto (n + 1)
    next_shown n y less is =
        set_twice words p (mixed n) (slice_set (belonging (shown_upto n) p) n y)
        ∙ ap (λ (own : List ℤ). slice_set words p (slice_set own n y)) (own_upto n)
        ∙ ap (slice_set words p) (set_next (belonging words p) (belonging now p) n y is less)
        ∙ ap shown_upto {x = suc n} {y = n + 1} (omega arith)

    -- a block more
    pub block_shown : (n m : ℕ) → n ≤ m → m ≤ length (belonging words p)
        → slice_set (shown_upto n) p (take m (belonging now p) ++ drop m (belonging (shown_upto n) p)) ≡ shown_upto m
    block_shown n m less within =
        set_twice words p (mixed n) (take m (belonging now p) ++ drop m (belonging (shown_upto n) p))
        ∙ ap (λ (own : List ℤ). slice_set words p (take m (belonging now p) ++ drop m own)) (own_upto n)
        ∙ ap (λ (back : List ℤ). slice_set words p (take m (belonging now p) ++ back))
        (drop_mixed (belonging words p) (belonging now p) n m (omega arith) less)

    -- a block that is the same
    pub block_same : (n m : ℕ) → n ≤ m → m ≤ length (belonging words p)
        → AreSameWithin n m (belonging (shown_upto n) p) (belonging now p) → shown_upto n ≡ shown_upto m
    block_same n m less within same =
        let front : take m (belonging (shown_upto n) p) ≡ take m (belonging now p) =
        same_front (pos 0) (belonging (shown_upto n) p) (belonging now p) n m (own_long n (omega arith) ∙ long) less
        (let own = own_long n (omega arith) in omega arith) (own_front n (omega arith)) same in
        let whole : take m (belonging now p) ++ drop m (belonging (shown_upto n) p) ≡ belonging (shown_upto n) p =
        ap (λ (xs : List ℤ). xs ++ drop m (belonging (shown_upto n) p)) (sym front) ∙ take-append-drop m (belonging (shown_upto n) p) in
        sym (set_belonging (shown_upto n) p) ∙ ap (slice_set (shown_upto n) p) (sym whole) ∙ block_shown n m less within

    pub all_shown : (n : ℕ) → n ≡ length (belonging words p) → shown_upto n ≡ slice_set words p (belonging now p)
    all_shown n all = ap (slice_set words p) (mixed_all (belonging words p) (belonging now p) n all long)

-- what is shown, step by step
module _ (before here after : Picture) (now : List (List ℤ)) (p : ℕ) (there : p < length before.words)
    (long : length (belonging before.words p) ≡ length (belonging now p)) where
  pub word_more : (at : ℕ) (x y : ℤ) → here ≡ record before { words = shown_upto before.words now p at }
      → after ≡ record here { words = with_word p at x here.words } → x ≡ y → at < length (belonging before.words p)
      → slice_get (belonging now p) at ≡ Some y → after ≡ record before { words = shown_upto before.words now p (at + 1) }
  word_more at x y is then same less wanted =
      then ∙ ap (λ (shown : Picture). record shown { words = with_word p at x shown.words }) is
      ∙ ap (λ (z : ℤ). record before { words = with_word p at z (shown_upto before.words now p at) }) same
      ∙ ap (λ (words : List (List ℤ)). record before { words = words }) (next_shown before.words now p there long at y less wanted)

  pub block_more : (n m : ℕ) → here ≡ record before { words = shown_upto before.words now p n }
      → after ≡ record here { words = slice_set here.words p (take m (belonging now p) ++ drop m (belonging here.words p)) }
      → n ≤ m → m ≤ length (belonging before.words p) → after ≡ record before { words = shown_upto before.words now p m }
  block_more n m is then less within =
      then
      ∙ ap (λ (shown : Picture). record shown { words = slice_set shown.words p (take m (belonging now p) ++ drop m (belonging shown.words p)) }) is
      ∙ ap (λ (words : List (List ℤ)). record before { words = words }) (block_shown before.words now p there long n m less within)

  pub skip_block : (n m : ℕ) → here ≡ record before { words = shown_upto before.words now p n } → n ≤ m
      → m ≤ length (belonging before.words p) → AreSameWithin n m (belonging here.words p) (belonging now p)
      → here ≡ record before { words = shown_upto before.words now p m }
  skip_block n m is less within same =
      is
      ∙ ap (λ (words : List (List ℤ)). record before { words = words })
      (block_same before.words now p there long n m less within
      (subst (λ (shown : Picture). AreSameWithin n m (belonging shown.words p) (belonging now p)) is same))

  -- over words that are as before
  pub skip_same : (n m : ℕ) → here ≡ record before { words = shown_upto before.words now p n } → n ≤ m → m ≤ length (belonging before.words p)
      → AreSameWithin n m (belonging before.words p) (belonging now p) → here ≡ record before { words = shown_upto before.words now p m }
  skip_same n m is less within same =
      is
      ∙ ap (λ (own : List ℤ). record before { words = slice_set before.words p own })
      (mixed_further (pos 0) (belonging before.words p) (belonging now p) n m long less within same)

  -- where the words of the process are on the way
  pub here_long : (n : ℕ) → here ≡ record before { words = shown_upto before.words now p n } → n ≤ length (belonging before.words p)
      → length (belonging here.words p) ≡ length (belonging before.words p)
  here_long n is less = ap (λ (shown : Picture). length (belonging shown.words p)) is ∙ own_long before.words now p there long n less

  pub here_front : (n : ℕ) → here ≡ record before { words = shown_upto before.words now p n } → n ≤ length (belonging before.words p)
      → take n (belonging here.words p) ≡ take n (belonging now p)
  here_front n is less = ap (λ (shown : Picture). take n (belonging shown.words p)) is ∙ own_front before.words now p there long n less

  pub here_there : (n : ℕ) → here ≡ record before { words = shown_upto before.words now p n } → p < length here.words
  here_there n is = omega (
    arith,
    there,
    ap (λ (shown : Picture). length shown.words) is,
    length-set before.words p (mixed before.words now p n),
  )

-- how one process more stands
pub state_more : (before here after : Picture) (now : List State) (p : ℕ) (state : State)
    → here ≡ record before { states = take p now ++ drop p before.states } → after ≡ record here { states = slice_set here.states p state }
    → slice_get now p ≡ Some state → p < length before.states
    → after ≡ record before { states = take (p + 1) now ++ drop (p + 1) before.states }
state_more before here after now p state is then stands less =
    then ∙ ap (λ (shown : Picture). record shown { states = slice_set shown.states p state }) is
    ∙ ap (λ (states : List State). record before { states = states }) (set_next before.states now p state stands less)
    ∙ ap (λ n. record before { states = take n now ++ drop n before.states }) {x = suc p} {y = p + 1} (omega arith)

pub all_states : (before here : Picture) (now : List State) (p : ℕ) → here ≡ record before { states = take p now ++ drop p before.states }
    → length before.states ≡ length now → p ≡ length before.states → here ≡ record before { states = now }
all_states before here now p is long all =
    is ∙ ap (λ (states : List State). record before { states = states }) (mixed_all before.states now p all long)

-- the words of one process more
pub process_more : (before here after : Picture) (now : List (List ℤ)) (p : ℕ)
    → here ≡ record before { words = take p now ++ drop p before.words }
    → after ≡ record here { words = slice_set here.words p (belonging now p) } → p < length before.words → length before.words ≡ length now
    → after ≡ record before { words = take (p + 1) now ++ drop (p + 1) before.words }
process_more before here after now p is then less long =
    then ∙ ap (λ (shown : Picture). record shown { words = slice_set shown.words p (belonging now p) }) is
    ∙ ap (λ (words : List (List ℤ)). record before { words = words })
    (set_next before.words now p (belonging now p) (belonging_there now p (omega arith)) less)
    ∙ ap (λ n. record before { words = take n now ++ drop n before.words }) {x = suc p} {y = p + 1} (omega arith)

pub all_processes : (before here : Picture) (now : List (List ℤ)) (p : ℕ) → here ≡ record before { words = take p now ++ drop p before.words }
    → length before.words ≡ length now → p ≡ length before.words → here ≡ record before { words = now }
all_processes before here now p is long all =
    is ∙ ap (λ (words : List (List ℤ)). record before { words = words }) (mixed_all before.words now p all long)
