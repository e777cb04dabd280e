-- The messages of all processes, one by one.
use Rattle.std.proofs.Common.{◌≡◌, ◌≢◌, ℕ, suc, ◌+◌, ◌-◌, ◌<◌, ◌⊎◌, inl, inr, List, [], ◌∷◌, length, replicate, take, drop, get_or, slice_set, refl, ap, ◌∙◌, sym, subst, arith, length-set}
use Rattle.std.specs.List.{AllByRecursion}
use Rattle.std.proofs.lemmas.Bool.{cases_eq}
use Rattle.std.proofs.lemmas.List.{length-replicate}
use Rattle.std.proofs.lemmas.List.Folds.{sum_by-replicate}
use Rattle.std.proofs.lemmas.List.Sums.{sum_by-set}
use Rattle.std.proofs.Math.Seq.{take-length}
use Rattle.rb_domino.specs.declared.line.Message.{Message}
use Rattle.rb_domino.specs.History.{Story}
use Rattle.rb_domino.specs.Recovery.{IsOneOf, message_at, no_message}
use Rattle.rb_domino.specs.Board.{AreFalling, AreSends, IsBetween, list_at}
use Rattle.rb_domino.proofs.Falling.{list_same, list_other}
use Rattle.rb_domino.proofs.States.{none_at}

-- the messages up to a number lie on the lists
pub record Sending (story : Story) (m : ℕ) (rest : List Message) (lists : List (List ℕ)) : Type 0 where
  pub sends : AreSends story m lists
  pub here : (k : ℕ) → get_or rest k no_message ≡ message_at story (m + k)
  pub known : AllByRecursion (IsBetween (length story.processes) (length story.lines)) rest
  pub all : m + length rest ≡ length story.messages

-- none yet
pub sending_none : (story : Story) (lists : List (List ℕ)) → lists ≡ replicate (length story.processes) []
    → AllByRecursion (IsBetween (length story.processes) (length story.lines)) story.messages → Sending story 0 story.messages lists
sending_none story lists none known = subst (Sending story 0 story.messages) (sym none) (record {
  sends = record {
    counted = length-replicate (length story.processes) [];
    falling = λ p. subst AreFalling (sym (none_at {X = ℕ} (length story.processes) p)) tt;
    below = λ p m among. absurd (subst (IsOneOf m) (none_at {X = ℕ} (length story.processes) p) among);
    own = λ p m among. absurd (subst (IsOneOf m) (none_at {X = ℕ} (length story.processes) p) among);
    all = λ m below. absurd (let never : ⊥ = omega arith in never);
    once = omega (arith, sum_by-replicate (length {A = ℕ}) (length story.processes) []);
  };
  here = λ k. let e : k ≡ 0 + k = omega arith in ap (message_at story) e;
  known = known;
  all = omega arith;
})

-- what is on a list lies below a number
all_below : (m : ℕ) (ms : List ℕ) → ((n : ℕ) → IsOneOf n ms → n < m) → AllByRecursion (λ n. n < m) ms
all_below m [] each = tt
all_below m (n ∷ ns) each = (each n (inl refl), all_below m ns (λ k among. each k (inr among)))

-- one message more on the list of its sender
pub sends_more : (story : Story) (m q : ℕ) (lists : List (List ℕ)) → AreSends story m lists → q < length lists → (message_at story m).sender ≡ q
    → AreSends story (m + 1) (slice_set lists q (m ∷ list_at lists q))
sends_more story m q lists sends within sender = record {
  counted = length-set lists q (m ∷ list_at lists q) ∙ sends.counted;
  falling = λ p. falls p (cases_eq p q);
  below = λ p n among. lower p n (cases_eq p q) among;
  own = λ p n among. owned p n (cases_eq p q) among;
  all = λ n below. lies n below (cases_eq n m) (cases_eq (message_at story n).sender q);
  once = omega (arith, sends.once, sum_by-set length lists q (m ∷ list_at lists q) [] within);
}
  where
    at_same : (p : ℕ) → p ≡ q → list_at (slice_set lists q (m ∷ list_at lists q)) p ≡ m ∷ list_at lists q
    at_same p e = ap (list_at (slice_set lists q (m ∷ list_at lists q))) e ∙ list_same lists q (m ∷ list_at lists q) within

    falls : (p : ℕ) → (p ≡ q) ⊎ (p ≢ q) → AreFalling (list_at (slice_set lists q (m ∷ list_at lists q)) p)
    falls p (inl e) = subst AreFalling (sym (at_same p e)) (all_below m (list_at lists q) (sends.below q), sends.falling q)
    falls p (inr apart) = subst AreFalling (sym (list_other lists q p (m ∷ list_at lists q) apart)) (sends.falling p)

    lower_top : (n : ℕ) → (n ≡ m) ⊎ IsOneOf n (list_at lists q) → n < m + 1
    lower_top n (inl e) = omega arith
    lower_top n (inr among) = let low : n < m = sends.below q n among in omega arith

    lower : (p n : ℕ) → (p ≡ q) ⊎ (p ≢ q) → IsOneOf n (list_at (slice_set lists q (m ∷ list_at lists q)) p) → n < m + 1
    lower p n (inl e) among = lower_top n (subst (IsOneOf n) (at_same p e) among)
    lower p n (inr apart) among =
        let low : n < m = sends.below p n (subst (IsOneOf n) (list_other lists q p (m ∷ list_at lists q) apart) among) in omega arith

    owned_top : (p n : ℕ) → p ≡ q → (n ≡ m) ⊎ IsOneOf n (list_at lists q) → (message_at story n).sender ≡ p
    owned_top p n e (inl same) = ap (λ k. (message_at story k).sender) same ∙ sender ∙ sym e
    owned_top p n e (inr among) = sends.own q n among ∙ sym e

    owned : (p n : ℕ) → (p ≡ q) ⊎ (p ≢ q) → IsOneOf n (list_at (slice_set lists q (m ∷ list_at lists q)) p) → (message_at story n).sender ≡ p
    owned p n (inl e) among = owned_top p n e (subst (IsOneOf n) (at_same p e) among)
    owned p n (inr apart) among = sends.own p n (subst (IsOneOf n) (list_other lists q p (m ∷ list_at lists q) apart) among)

    lies : (n : ℕ) → n < m + 1 → (n ≡ m) ⊎ (n ≢ m) → ((message_at story n).sender ≡ q) ⊎ ((message_at story n).sender ≢ q)
        → IsOneOf n (list_at (slice_set lists q (m ∷ list_at lists q)) (message_at story n).sender)
    lies n below (inl same) (inl e) = subst (IsOneOf n) (sym (at_same (message_at story n).sender e)) (inl same)
    lies n below (inl same) (inr apart) = absurd (apart (ap (λ k. (message_at story k).sender) same ∙ sender))
    lies n below (inr other) (inl e) =
        subst (IsOneOf n) (sym (at_same (message_at story n).sender e))
        (inr (subst (λ p. IsOneOf n (list_at lists p)) e (sends.all n (omega arith))))
    lies n below (inr other) (inr apart) =
        subst (IsOneOf n) (sym (list_other lists q (message_at story n).sender (m ∷ list_at lists q) apart)) (sends.all n (omega arith))

-- the first message of what is left, and the others
pub sending_step : (story : Story) (m n q : ℕ) (rest : List Message) (lists new : List (List ℕ)) → n ≡ length rest → 0 < length rest
    → Sending story m rest lists → (get_or rest 0 no_message).sender ≡ q → new ≡ slice_set lists q (m ∷ list_at lists q)
    → Sending story (m + 1) (take (n - 1) (drop 1 rest)) new
sending_step story m n q [] lists new all some so_far from is = absurd (let never : ⊥ = omega arith in never)
sending_step story m n q (message ∷ rest) lists new all some so_far from is =
    let fewer : n - 1 ≡ length rest = omega arith in
    let whole : take (n - 1) rest ≡ rest = ap (λ k. take k rest) fewer ∙ take-length rest in
    let on : m + 0 ≡ m = omega arith in
    let sender : (message_at story m).sender ≡ q = ap (λ k. (message_at story k).sender) (sym on)
    ∙ ap (λ (one : Message). one.sender) (sym (so_far.here 0)) ∙ from in
    let known : message.sender < length story.processes = so_far.known.0.sender in
    let within : q < length lists = omega (arith, known, so_far.sends.counted, from) in
    subst (λ (ms : List Message). Sending story (m + 1) ms new) (sym whole) (subst (Sending story (m + 1) rest) (sym is) (record {
      sends = sends_more story m q lists so_far.sends within sender;
      here = λ k. let e : m + suc k ≡ m + 1 + k = omega arith in so_far.here (suc k) ∙ ap (message_at story) e;
      known = so_far.known.1;
      all = omega (arith, so_far.all);
    }))
