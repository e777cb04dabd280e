-- Messages that leave the stack of their sender, the last first.
use Rattle.std.proofs.Common.{◌≡◌, ℕ, ◌≤◌, ◌<◌, Bool, true, ◌⊎◌, inl, inr, List, [], ◌∷◌, ◌++◌, length, drop, slice_get, Option, Some, None, refl, ap, ◌∙◌, sym, subst, arith}
use Rattle.std.specs.List.{AllByRecursion}
use Rattle.rb_domino.specs.History.{Story}
use Rattle.rb_domino.specs.Recovery.{IsOneOf, message_at}
use Rattle.rb_domino.specs.Board.{AreFalling, IsOrderly, Unsends, is_in, stack}
use Rattle.std.specs.BTreeSet.{BTreeSet}
use Rattle.rb_domino.proofs.Pending.{IsAdded}
use Rattle.rb_domino.proofs.Stacks.{stack_pushed}

-- these messages are left on the stack so far
pub record Unsending (story : Story) (takes : List (Option ℕ)) (place : ℕ) (old left : List ℕ) (before now : ℕ → Bool) : Type 0 where
  pub falling : AreFalling left
  pub known : AllByRecursion (λ m. m < length story.messages) left
  pub within : (m : ℕ) → IsOneOf m left → IsOneOf m old
  pub moved : (m : ℕ) → IsOneOf m old → IsOneOf m left ⊎ ((taken : ℕ) → slice_get takes m ≡ Some (Some taken) → now taken ≡ true)
  pub keeps : (taken : ℕ) → before taken ≡ true → now taken ≡ true
  pub sound : (taken : ℕ) → now taken ≡ true →
      (before taken ≡ true) ⊎ ((m : ℕ) × IsOneOf m old × (slice_get takes m ≡ Some (Some taken)) × (place < (message_at story m).sent))

-- none has left yet
pub unsending_none : (story : Story) (takes : List (Option ℕ)) (place : ℕ) (old : List ℕ) (before : ℕ → Bool) → AreFalling old
    → AllByRecursion (λ m. m < length story.messages) old → Unsending story takes place old old before before
unsending_none story takes place old before falling known = record {
  falling = falling;
  known = known;
  within = λ m among. among;
  moved = λ m among. inl among;
  keeps = λ taken h. h;
  sound = λ taken h. inl h;
}

-- what a message on top adds where it leaves
pub record Adds (takes : List (Option ℕ)) (m : ℕ) (old new : ℕ → Bool) : Type 0 where
  pub is : (taken : ℕ) → slice_get takes m ≡ Some (Some taken) → new taken ≡ true
  pub keeps : (q : ℕ) → old q ≡ true → new q ≡ true
  pub only : (q : ℕ) → new q ≡ true → (old q ≡ true) ⊎ (slice_get takes m ≡ Some (Some q))

-- the top one leaves
pub unsending_one : (story : Story) (takes : List (Option ℕ)) (place m : ℕ) (old rest : List ℕ) (before now then : ℕ → Bool)
    → Unsending story takes place old (m ∷ rest) before now → place < (message_at story m).sent → Adds takes m now then
    → Unsending story takes place old rest before then
unsending_one story takes place m old rest before now then so_far behind adds = record {
  falling = so_far.falling.1;
  known = so_far.known.1;
  within = λ k among. so_far.within k (inr among);
  moved = λ k among. by k (so_far.moved k among);
  keeps = λ taken h. adds.keeps taken (so_far.keeps taken h);
  sound = λ taken h. origin taken (adds.only taken h);
}
  where
    by : (k : ℕ) → IsOneOf k (m ∷ rest) ⊎ ((taken : ℕ) → slice_get takes k ≡ Some (Some taken) → now taken ≡ true)
        → IsOneOf k rest ⊎ ((taken : ℕ) → slice_get takes k ≡ Some (Some taken) → then taken ≡ true)
    by k (inl (inl same)) = inr (λ taken h. adds.is taken (ap (slice_get takes) (sym same) ∙ h))
    by k (inl (inr among)) = inl among
    by k (inr told) = inr (λ taken h. adds.keeps taken (told taken h))

    origin : (taken : ℕ) → (now taken ≡ true) ⊎ (slice_get takes m ≡ Some (Some taken))
        → (before taken ≡ true) ⊎ ((n : ℕ) × IsOneOf n old × (slice_get takes n ≡ Some (Some taken)) × (place < (message_at story n).sent))
    origin taken (inl h) = so_far.sound taken h
    origin taken (inr h) = inr (m, so_far.within m (inl refl), h, behind)

-- below a message that was sent up to a place all were
all_up_to : (story : Story) (place m : ℕ) (ms : List ℕ) → IsOrderly story → m < length story.messages → (message_at story m).sent ≤ place
    → AllByRecursion (λ n. n < m) ms → AllByRecursion (λ n. (message_at story n).sent ≤ place) ms
all_up_to story place m [] orderly known up_to below = tt
all_up_to story place m (n ∷ ns) orderly known up_to below =
    let earlier : (message_at story n).sent < (message_at story m).sent = orderly.in_order n m below.0 known in
    (omega arith, all_up_to story place m ns orderly known up_to below.1)

-- the others stay
pub unsent_up_to : (story : Story) (takes : List (Option ℕ)) (place m : ℕ) (old rest : List ℕ) (before now : ℕ → Bool) → IsOrderly story
    → Unsending story takes place old (m ∷ rest) before now → (message_at story m).sent ≤ place
    → Unsends story takes place old (m ∷ rest) before now
unsent_up_to story takes place m old rest before now orderly so_far up_to = record {
  falling = so_far.falling;
  known = so_far.known;
  kept = (up_to, all_up_to story place m rest orderly so_far.known.0 up_to so_far.falling.0);
  within = so_far.within;
  moved = so_far.moved;
  keeps = so_far.keeps;
  sound = so_far.sound;
}

-- all left
pub unsent_all : (story : Story) (takes : List (Option ℕ)) (place : ℕ) (old left : List ℕ) (before now : ℕ → Bool) → left ≡ []
    → Unsending story takes place old left before now → Unsends story takes place old left before now
unsent_all story takes place old left before now none so_far = record {
  falling = so_far.falling;
  known = so_far.known;
  kept = subst (AllByRecursion (λ n. (message_at story n).sent ≤ place)) (sym none) tt;
  within = so_far.within;
  moved = so_far.moved;
  keeps = so_far.keeps;
  sound = so_far.sound;
}

-- the same, where the top is told
pub unsent_at : (story : Story) (takes : List (Option ℕ)) (place m : ℕ) (old left : List ℕ) (before now : ℕ → Bool) → IsOrderly story
    → Unsending story takes place old left before now → left ≡ m ∷ drop 1 left → (message_at story m).sent ≤ place
    → Unsends story takes place old left before now
unsent_at story takes place m old left before now orderly so_far top up_to =
    subst (λ ms. Unsends story takes place old ms before now) (sym top)
    (unsent_up_to story takes place m old (drop 1 left) before now orderly
    (subst (λ ms. Unsending story takes place old ms before now) top so_far) up_to)

pub unsending_at : (story : Story) (takes : List (Option ℕ)) (place m : ℕ) (old left next : List ℕ) (before now then : ℕ → Bool)
    → Unsending story takes place old left before now → left ≡ m ∷ drop 1 left → next ≡ drop 1 left
    → place < (message_at story m).sent → Adds takes m now then
    → Unsending story takes place old next before then
unsending_at story takes place m old left next before now then so_far top is behind adds =
    subst (λ ms. Unsending story takes place old ms before then) (sym is)
    (unsending_one story takes place m old (drop 1 left) before now then
    (subst (λ ms. Unsending story takes place old ms before now) top so_far) behind adds)

-- what is below the top is left where it is taken off
pub popped : {X : Type 0} (items rest : List X) (y : X) → items ≡ rest ++ y ∷ [] → stack rest ≡ drop 1 (stack items)
popped items rest y is = ap (drop 1) (sym (ap stack is ∙ stack_pushed rest y))

-- a message that was taken, or one that wasn't
pub adds_one : (takes : List (Option ℕ)) (m k : ℕ) (old new : BTreeSet ℕ) → slice_get takes m ≡ Some (Some k) → IsAdded old new k
    → Adds takes m (is_in old) (is_in new)
adds_one takes m k old new told added = record {
  is = λ taken h. let same : k ≡ taken = cc in subst (λ q. is_in new q ≡ true) same added.is;
  keeps = added.keeps;
  only = λ q h. by q (added.only q h);
}
  where
    by : (q : ℕ) → (is_in old q ≡ true) ⊎ (k ≡ q) → (is_in old q ≡ true) ⊎ (slice_get takes m ≡ Some (Some q))
    by q (inl h) = inl h
    by q (inr same) = inr (told ∙ ap (λ n. Some (Some n)) same)

pub adds_none : (takes : List (Option ℕ)) (m : ℕ) (old : ℕ → Bool) → slice_get takes m ≡ Some None → Adds takes m old old
adds_none takes m old told = record {
  is = λ taken h. absurd (cc);
  keeps = λ q h. h;
  only = λ q h. inl h;
}
