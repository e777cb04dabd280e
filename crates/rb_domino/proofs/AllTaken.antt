-- Where messages are taken, line by line.
use Rattle.std.proofs.Common.{◌≡◌, ◌≢◌, ℕ, zero, suc, ◌+◌, ◌-◌, ◌<◌, ◌⊎◌, inl, inr, List, [], ◌∷◌, length, replicate, take, drop, slice_get, get_or, slice_set, Option, Some, None, ap, ◌∙◌, sym, subst, arith, length-set, get_or-set_same, get_or-set_other}
use Rattle.std.proofs.lemmas.Bool.{cases_eq}
use Rattle.std.proofs.lemmas.List.{length-replicate}
use Rattle.std.proofs.lemmas.Option.{slice_get_within, slice_get-get_or, get_or_from_slice_get}
use Rattle.std.proofs.Math.Seq.{take-length}
use Rattle.rb_domino.specs.declared.line.Line.{Line}
use Rattle.rb_domino.specs.declared.line.Line.TheVariants.{Begin, Point, Send, Take, Fail}
use Rattle.rb_domino.specs.History.{IsTakenAt, Story}
use Rattle.rb_domino.specs.Board.{AreTakes, IsOrderly, NamesKnown, TakeKnown, noted_take}
use Rattle.rb_domino.proofs.FirstFall.{all_at}

-- the places up to one are told
pub record Taking (story : Story) (at : ℕ) (rest : List Line) (takes : List (Option ℕ)) : Type 0 where
  pub counted : length takes ≡ length story.messages
  pub told : (m k : ℕ) → k < at → IsTakenAt story m k → slice_get takes m ≡ Some (Some k)
  pub sound : (m k : ℕ) → slice_get takes m ≡ Some (Some k) → IsTakenAt story m k
  pub here : (k : ℕ) → slice_get rest k ≡ slice_get story.lines (at + k)
  pub all : at + length rest ≡ length story.lines

none_taken : (n m k : ℕ) → slice_get (replicate {A = Option ℕ} n None) m ≡ Some (Some k) → ⊥
none_taken zero m k e = cc
none_taken (suc n) zero k e = cc
none_taken (suc n) (suc m) k e = none_taken n m k e

-- none yet
pub taking_none : (story : Story) (takes : List (Option ℕ)) → takes ≡ replicate (length story.messages) None → Taking story 0 story.lines takes
taking_none story takes none = subst (Taking story 0 story.lines) (sym none) (record {
  counted = length-replicate (length story.messages) None;
  told = λ m k below. absurd (let never : ⊥ = omega arith in never);
  sound = λ m k e. absurd (none_taken (length story.messages) m k e);
  here = λ k. let e : k ≡ 0 + k = omega arith in ap (slice_get story.lines) e;
  all = omega arith;
})

-- the line at a place, and those after it
next_here : (story : Story) (at : ℕ) (line : Line) (rest : List Line) → ((k : ℕ) → slice_get (line ∷ rest) k ≡ slice_get story.lines (at + k))
    → (k : ℕ) → slice_get rest k ≡ slice_get story.lines (at + 1 + k)
next_here story at line rest here k = let e : at + suc k ≡ at + 1 + k = omega arith in here (suc k) ∙ ap (slice_get story.lines) e

-- a line that takes no message
taking_other : (story : Story) (at : ℕ) (line : Line) (rest : List Line) (takes : List (Option ℕ)) → ((m : ℕ) → line ≡ Take m → ⊥)
    → Taking story at (line ∷ rest) takes → Taking story (at + 1) rest takes
taking_other story at line rest takes none so_far = record {
  counted = so_far.counted;
  told = λ m k below is. by m k below is (cases_eq k at);
  sound = so_far.sound;
  here = next_here story at line rest so_far.here;
  all = omega (arith, so_far.all);
}
  where
    by : (m k : ℕ) → k < at + 1 → IsTakenAt story m k → (k ≡ at) ⊎ (k ≢ at) → slice_get takes m ≡ Some (Some k)
    by m k below is (inl same) =
        let on : at + 0 ≡ k = omega arith in
        let one : Some line ≡ Some (Take m) = so_far.here 0 ∙ ap (slice_get story.lines) on ∙ is in
        absurd (none m (cc))
    by m k below is (inr other) = so_far.told m k (omega arith) is

-- a line that takes one
taking_one : (story : Story) (at m : ℕ) (rest : List Line) (takes : List (Option ℕ)) → IsOrderly story → m < length takes
    → Taking story at (Take m ∷ rest) takes → Taking story (at + 1) rest (slice_set takes m (Some at))
taking_one story at m rest takes orderly within so_far = record {
  counted = length-set takes m (Some at) ∙ so_far.counted;
  told = λ n k below is. by n k below is (cases_eq n m) (cases_eq k at);
  sound = λ n k e. says n k e (cases_eq n m);
  here = next_here story at (Take m) rest so_far.here;
  all = omega (arith, so_far.all);
}
  where
    it : IsTakenAt story m at
    it = let on : at + 0 ≡ at = omega arith in ap (slice_get story.lines) (sym on) ∙ sym (so_far.here 0)

    set_here : slice_get (slice_set takes m (Some at)) m ≡ Some (Some at)
    set_here =
        let low : m < length (slice_set takes m (Some at)) = omega (arith, length-set takes m (Some at)) in
        slice_get-get_or (slice_set takes m (Some at)) m None low ∙ ap Some (get_or-set_same takes m (Some at) None within)

    set_other : (n : ℕ) → n ≢ m → (o : Option ℕ) → slice_get takes n ≡ Some o → slice_get (slice_set takes m (Some at)) n ≡ Some o
    set_other n apart o e =
        let low : n < length takes = slice_get_within takes n o e in
        let also : n < length (slice_set takes m (Some at)) = omega (arith, length-set takes m (Some at)) in
        slice_get-get_or (slice_set takes m (Some at)) n None also
        ∙ ap Some (get_or-set_other takes m n (Some at) None apart ∙ get_or_from_slice_get takes n o None e)

    by : (n k : ℕ) → k < at + 1 → IsTakenAt story n k → (n ≡ m) ⊎ (n ≢ m) → (k ≡ at) ⊎ (k ≢ at)
        → slice_get (slice_set takes m (Some at)) n ≡ Some (Some k)
    by n k below is (inl same) last =
        let also : IsTakenAt story m k = subst (λ j. IsTakenAt story j k) same is in
        let place : k ≡ at = orderly.once m k at also it in
        ap (slice_get (slice_set takes m (Some at))) same ∙ set_here ∙ ap (λ j. Some (Some j)) (sym place)
    by n k below is (inr apart) (inl last) =
        let one : Some (Take n) ≡ Some (Take m) = sym is ∙ ap (slice_get story.lines) last ∙ it in
        absurd (apart (cc))
    by n k below is (inr apart) (inr earlier) = set_other n apart (Some k) (so_far.told n k (omega arith) is)

    back : (n : ℕ) → n ≢ m → (o : Option ℕ) → slice_get (slice_set takes m (Some at)) n ≡ Some o → slice_get takes n ≡ Some o
    back n apart o e =
        let low : n < length (slice_set takes m (Some at)) = slice_get_within (slice_set takes m (Some at)) n o e in
        let also : n < length takes = omega (arith, length-set takes m (Some at)) in
        slice_get-get_or takes n None also
        ∙ ap Some (sym (get_or-set_other takes m n (Some at) None apart) ∙ get_or_from_slice_get (slice_set takes m (Some at)) n o None e)

    says : (n k : ℕ) → slice_get (slice_set takes m (Some at)) n ≡ Some (Some k) → (n ≡ m) ⊎ (n ≢ m) → IsTakenAt story n k
    says n k e (inl same) =
        let one : Some (Some at) ≡ Some (Some k) = sym set_here ∙ ap (slice_get (slice_set takes m (Some at))) (sym same) ∙ e in
        let place : at ≡ k = cc in
        subst (λ j. IsTakenAt story j k) (sym same) (subst (IsTakenAt story m) place it)
    says n k e (inr apart) = so_far.sound n k (back n apart (Some k) e)

-- a line more
taking_more : (story : Story) (at : ℕ) (line : Line) (rest : List Line) (takes : List (Option ℕ)) → IsOrderly story
    → TakeKnown (length takes) line → Taking story at (line ∷ rest) takes → Taking story (at + 1) rest (noted_take at line takes)
taking_more story at (Take m) rest takes orderly within so_far = taking_one story at m rest takes orderly within so_far
taking_more story at (Begin p) rest takes orderly within so_far = taking_other story at (Begin p) rest takes (λ m e. cc) so_far
taking_more story at (Point p) rest takes orderly within so_far = taking_other story at (Point p) rest takes (λ m e. cc) so_far
taking_more story at (Send p) rest takes orderly within so_far = taking_other story at (Send p) rest takes (λ m e. cc) so_far
taking_more story at (Fail p) rest takes orderly within so_far = taking_other story at (Fail p) rest takes (λ m e. cc) so_far

-- what is known of a line's message
take_known : (p m : ℕ) (line : Line) → NamesKnown p m line → TakeKnown m line
take_known p m (Take k) h = h
take_known p m (Begin k) h = tt
take_known p m (Point k) h = tt
take_known p m (Send k) h = tt
take_known p m (Fail k) h = tt

-- the first line of what is left
pub first_take : (story : Story) (at : ℕ) (rest : List Line) (takes : List (Option ℕ)) → IsOrderly story → 0 < length rest
    → Taking story at rest takes → TakeKnown (length takes) (get_or rest 0 (Begin 0))
first_take story at [] takes orderly some so_far = absurd (let never : ⊥ = omega arith in never)
first_take story at (line ∷ rest) takes orderly some so_far =
    let on : at + 0 ≡ at = omega arith in
    let there : slice_get story.lines at ≡ Some line = ap (slice_get story.lines) (sym on) ∙ sym (so_far.here 0) in
    subst (λ n. TakeKnown n line) (sym so_far.counted)
    (take_known (length story.processes) (length story.messages) line
    (all_at (NamesKnown (length story.processes) (length story.messages)) story.lines at line orderly.lines there))

-- and the others
pub taking_step : (story : Story) (at n : ℕ) (rest : List Line) (takes new : List (Option ℕ)) → IsOrderly story → n ≡ length rest → 0 < length rest
    → Taking story at rest takes → new ≡ noted_take at (get_or rest 0 (Begin 0)) takes
    → Taking story (at + 1) (take (n - 1) (drop 1 rest)) new
taking_step story at n [] takes new orderly all some so_far is = absurd (let never : ⊥ = omega arith in never)
taking_step story at n (line ∷ rest) takes new orderly all some so_far is =
    let fewer : n - 1 ≡ length rest = omega arith in
    let whole : take (n - 1) rest ≡ rest = ap (λ k. take k rest) fewer ∙ take-length rest in
    subst (λ (ls : List Line). Taking story (at + 1) ls new) (sym whole)
    (subst (Taking story (at + 1) rest) (sym is)
    (taking_more story at line rest takes orderly (first_take story at (line ∷ rest) takes orderly some so_far) so_far))

-- all lines were gone through
pub taking_all : (story : Story) (at : ℕ) (rest : List Line) (takes : List (Option ℕ)) → Taking story at rest takes → length rest ≡ 0
    → AreTakes story takes
taking_all story at rest takes so_far none = record {
  told = λ m k is. let within : k < length story.lines = slice_get_within story.lines k (Take m) is in
      so_far.told m k (omega (arith, so_far.all)) is;
  sound = so_far.sound;
}
