-- Worlds in which one process was changed: its kept turns, what was sent and taken, and cuts that were consistent.
use Rattle.std.proofs.Common.{◌≡◌, ◌⊎◌, ◌≤◌, ℕ, zero, suc, List, [], ◌∷◌, ◌++◌, map, slice_get, Some, refl, sym, ap, ◌∙◌, subst, inl, inr, le_trans, le_of_eq}
use Rattle.rb_world.specs.Kind.{Ends}
use Rattle.rb_world.specs.World.{Level, Process, World, change_at, with_process}
use Rattle.rb_world.specs.Nested.{IsLevelOf}
use Rattle.rb_world.proofs.ListFacts.{none_some, some_same}
use Rattle.rb_world.proofs.Erasing.ErasableKinds.{Nothing, Parts, SameMail}
use Rattle.rb_world.proofs.Erasing.Showing.Cuts.{IsConsistent}
use Rattle.rb_world.proofs.Erasing.Showing.ErasureInvariant.{AreSent}

-- who is looked up where one element was replaced
replaced_get : {A : Type 0} (p : ℕ) (b : A) (xs : List A) (r : ℕ) (y : A) → slice_get (change_at p (λ _. b) xs) r ≡ Some y
    → ((r ≡ p) × (y ≡ b)) ⊎ (slice_get xs r ≡ Some y)
replaced_get p b [] r y e = inr e
replaced_get zero b (x ∷ xs) zero y e = inl (refl, sym (some_same e))
replaced_get zero b (x ∷ xs) (suc r) y e = inr e
replaced_get (suc p) b (x ∷ xs) zero y e = inr e
replaced_get {A} (suc p) b (x ∷ xs) (suc r) y e = further (replaced_get p b xs r y e)
  where
    further : ((r ≡ p) × (y ≡ b)) ⊎ (slice_get xs r ≡ Some y) → ((suc r ≡ suc p) × (y ≡ b)) ⊎ (slice_get xs r ≡ Some y)
    further (inl (same, new)) = inl (ap suc same, new)
    further (inr old) = inr old

-- a list that is mapped, with one element replaced
map-replaced : {A B : Type 0} (g : A → B) (h : B → B) (p : ℕ) (a b : A) (xs : List A) → slice_get xs p ≡ Some a → g b ≡ h (g a)
    → map g (change_at p (λ _. b) xs) ≡ change_at p h (map g xs)
map-replaced g h p a b [] there same = absurd (none_some there)
map-replaced g h zero a b (x ∷ xs) there same = ap (λ y. y ∷ map g xs) (same ∙ ap (λ z. h (g z)) (sym (some_same there)))
map-replaced g h (suc p) a b (x ∷ xs) there same = ap (λ ys. g x ∷ ys) (map-replaced g h p a b xs there same)

-- who stands in the place of a process, with levels of the same conversations
same_levels : {S C : Type 0} (p : ℕ) (a b : Process S C) (qs : List (Process S C)) → slice_get qs p ≡ Some a → b.levels ≡ a.levels
    → (r : ℕ) (one : Process S C) → slice_get qs r ≡ Some one
    → (other : Process S C) × (slice_get (change_at p (λ _. b) qs) r ≡ Some other) × (other.levels ≡ one.levels)
same_levels p a b [] there same r one e = absurd (none_some there)
same_levels {S} {C} zero a b (q ∷ qs) there same zero one e =
    (b, refl, same ∙ ap (λ (z : Process S C). z.levels) (sym (some_same there) ∙ some_same e))
same_levels zero a b (q ∷ qs) there same (suc r) one e = (one, e, refl)
same_levels (suc p) a b (q ∷ qs) there same zero one e = (one, e, refl)
same_levels (suc p) a b (q ∷ qs) there same (suc r) one e = same_levels p a b qs there same r one e

-- a cut that is consistent once a process was changed, with its levels as they were, was consistent before
pub consistent_before : {S : Type 0} (f : ℕ → ℕ) (p : ℕ) (a b : Process S S) (qs : List (Process S S)) → slice_get qs p ≡ Some a → b.levels ≡ a.levels
    → IsConsistent f (change_at p (λ _. b) qs) → IsConsistent f qs
consistent_before {S} f p a b qs there same consistent r other c j one two e e2 at at2 =
    let first = same_levels p a b qs there same r one e in
    let second = same_levels p a b qs there same other two e2 in
    consistent r other c j first.0 second.0 first.1 second.1
    (subst (λ (ls : List (Level S)). IsLevelOf c ls (f r)) (sym first.2) at) (subst (λ (ls : List (Level S)). IsLevelOf c ls j) (sym second.2) at2)

module _ {S E P C : Type 0} (x : Parts S E P) where
  -- the kept turns of all, once a turn joined those of one
  pub kept_after : (p : ℕ) (a b : Process S C) (one : List (ℕ × ℕ)) (qs : List (Process S C)) → slice_get qs p ≡ Some a
      → x.kept b.state ≡ x.kept a.state ++ one
      → map (λ q. x.kept q.state) (change_at p (λ _. b) qs) ≡ change_at p (λ turns. turns ++ one) (map (λ q. x.kept q.state) qs)
  kept_after p a b one qs there same = map-replaced (λ q. x.kept q.state) (λ turns. turns ++ one) p a b qs there same

  -- nobody has taken more than was sent, once a process has sent no less, and taken no more than was sent
  pub sent_after : (p : ℕ) (a b : Process S C) (v : World S C Nothing) → slice_get v.processes p ≡ Some a → AreSent x v
      → ((c : ℕ) (ends : Ends) → slice_get x.channels c ≡ Some ends → x.sent a.state c ≤ x.sent b.state c)
      → ((c : ℕ) (ends : Ends) (sender : Process S C) → slice_get x.channels c ≡ Some ends → ends.receiver ≡ p
      → slice_get v.processes ends.sender ≡ Some sender
      → x.taken b.state c ≤ x.sent sender.state c)
      → AreSent x (with_process p (λ _. b) v)
  sent_after p a b v there before sends takes c ends sender receiver channel is_sender is_receiver =
      either (replaced_get p b v.processes ends.sender sender is_sender) (replaced_get p b v.processes ends.receiver receiver is_receiver)
    where
      new_sender : ends.sender ≡ p → sender ≡ b → x.sent a.state c ≤ x.sent sender.state c
      new_sender at new = subst (λ (z : Process S C). x.sent a.state c ≤ x.sent z.state c) (sym new) (sends c ends channel)

      new_receiver : (one : Process S C) → ends.receiver ≡ p → receiver ≡ b → slice_get v.processes ends.sender ≡ Some one
          → x.taken receiver.state c ≤ x.sent one.state c
      new_receiver one at new old = subst (λ (z : Process S C). x.taken z.state c ≤ x.sent one.state c) (sym new) (takes c ends one channel at old)

      either : ((ends.sender ≡ p) × (sender ≡ b)) ⊎ (slice_get v.processes ends.sender ≡ Some sender)
          → ((ends.receiver ≡ p) × (receiver ≡ b)) ⊎ (slice_get v.processes ends.receiver ≡ Some receiver)
          → x.taken receiver.state c ≤ x.sent sender.state c
      either (inr old) (inr old2) = before c ends sender receiver channel old old2
      either (inr old) (inl (at, new)) = new_receiver sender at new old
      either (inl (at, new)) (inr old) = le_trans (before c ends a receiver channel (ap (slice_get v.processes) at ∙ there) old) (new_sender at new)
      either (inl (at, new)) (inl (at2, new2)) =
          le_trans (new_receiver a at2 new2 (ap (slice_get v.processes) at ∙ there)) (new_sender at new)

  -- the same where the process has sent and taken what it had
  pub sent_same : (p : ℕ) (a b : Process S C) (v : World S C Nothing) → slice_get v.processes p ≡ Some a → AreSent x v → SameMail x a.state b.state
      → AreSent x (with_process p (λ _. b) v)
  sent_same p a b v there before same =
      sent_after p a b v there before (λ c ends channel. le_of_eq (sym (same.sent c)))
      (λ c ends sender channel at is_sender. le_trans (le_of_eq (same.taken c))
      (before c ends sender a channel is_sender (ap (slice_get v.processes) at ∙ there)))
