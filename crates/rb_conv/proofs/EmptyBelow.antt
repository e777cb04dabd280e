-- Conversations below another that are emptied in order.
use Rattle.std.proofs.Common.{◌≡◌, ◌+◌, ◌<◌, ◌≤◌, ◌++◌, ℕ, zero, suc, Bool, true, false, cond, List, [], ◌∷◌, length, map, get_or, set, take, drop, refl, sym, ap, subst, ◌∙◌, arith, append_assoc, add-one, not-suc-le-zero, le_of_suc-le-suc}
use Rattle.std.proofs.Math.Seq.{take-suc-set, drop-cons}
use Rattle.std.proofs.lemmas.List.{drop-set-lt, take_all, drop_all, append-nil, get_or_default}
use Rattle.rb_world.specs.Kind.{Membership}
use Rattle.rb_conv.specs.declared.member.Member.{Member}
use Rattle.rb_conv.specs.Conversations.{Conversation, all_outside, emptied, membership, memberships}
use Rattle.rb_conv.specs.Reject.{emptied_from}

-- one more of them
pub empty_more : (below : ℕ → Bool) (whole xs : List Conversation) (d : ℕ) (e y : Conversation) → d < length xs
    → whole ≡ take d xs ++ emptied_from below d (drop d xs) → y ≡ cond (below d) (emptied (get_or xs d e)) (get_or xs d e)
    → whole ≡ take (d + 1) (set xs d y) ++ emptied_from below (d + 1) (drop (d + 1) (set xs d y))
empty_more below whole xs d e y h so_far wrote =
    so_far
    ∙ ap (λ (rest : List Conversation). take d xs ++ emptied_from below d rest) (drop-cons xs d e h)
    ∙ ap (λ (z : Conversation). take d xs ++ (z ∷ emptied_from below (d + 1) (drop (suc d) xs))) (sym wrote)
    ∙ sym (append_assoc (take d xs) (y ∷ []) (emptied_from below (d + 1) (drop (suc d) xs)))
    ∙ ap (λ (front : List Conversation). front ++ emptied_from below (d + 1) (drop (suc d) xs)) (sym (take-suc-set xs d y h))
    ∙ ap (λ (rest : List Conversation). take (suc d) (set xs d y) ++ emptied_from below (d + 1) rest) (sym (drop-set-lt (suc d) xs d y (omega arith)))
    ∙ ap (λ (k : ℕ). take k (set xs d y) ++ emptied_from below (d + 1) (drop k (set xs d y))) (sym (add-one d))

-- all of them
pub empty_all : (below : ℕ → Bool) (whole xs : List Conversation) (n : ℕ) → length xs ≤ n
    → whole ≡ take n xs ++ emptied_from below n (drop n xs) → xs ≡ whole
empty_all below whole xs n h so_far = sym (
    so_far
    ∙ ap (λ (rest : List Conversation). take n xs ++ emptied_from below n rest) (drop_all n xs h)
    ∙ append-nil (take n xs)
    ∙ take_all n xs h)

-- who leaves stays a member
pub outside_kept : (members : List Member) → map (λ (m : Member). m.process) (all_outside members) ≡ map (λ (m : Member). m.process) members
outside_kept [] = refl
outside_kept (m ∷ ms) = ap (λ (ps : List ℕ). m.process ∷ ps) (outside_kept ms)

-- members and parent stay
pub membership_kept : (b : Bool) (conversation : Conversation) → membership (cond b (emptied conversation) conversation) ≡ membership conversation
membership_kept true conversation = ap (λ (ps : List ℕ). record { members = ps; parent = conversation.parent }) (outside_kept conversation.members)
membership_kept false conversation = refl

-- the same of all of them, once one was written
pub memberships_kept : (xs : List Conversation) (d : ℕ) (e y : Conversation) → membership y ≡ membership (get_or xs d e)
    → memberships (set xs d y) ≡ memberships xs
memberships_kept [] d e y h = refl
memberships_kept (x ∷ xs) zero e y h = ap (λ (m : Membership). m ∷ memberships xs) h
memberships_kept (x ∷ xs) (suc d) e y h = ap (λ (ms : List Membership). membership x ∷ ms) (memberships_kept xs d e y h)

-- which conversation stands at a number, once those below another were emptied
pub emptied_at : (below : ℕ → Bool) (d : ℕ) (xs : List Conversation) (i : ℕ) (e : Conversation) → i < length xs
    → get_or (emptied_from below d xs) i e ≡ cond (below (d + i)) (emptied (get_or xs i e)) (get_or xs i e)
emptied_at below d [] i e h = absurd (not-suc-le-zero h)
emptied_at below d (x ∷ xs) zero e h = ap (λ (k : ℕ). cond (below k) (emptied x) x) (omega arith)
emptied_at below d (x ∷ xs) (suc i) e h =
    emptied_at below (d + 1) xs i e (le_of_suc-le-suc h)
    ∙ ap (λ (k : ℕ). cond (below k) (emptied (get_or xs i e)) (get_or xs i e)) (omega arith)

-- there are as many as before
pub length-emptied_from : (below : ℕ → Bool) (d : ℕ) (xs : List Conversation) → length (emptied_from below d xs) ≡ length xs
length-emptied_from below d [] = refl
length-emptied_from below d (x ∷ xs) = ap suc (length-emptied_from below (d + 1) xs)

-- an alternate that may rise may rise once its conversation was emptied
pub room_kept : (b : Bool) (x : Conversation) (most : ℕ) → 1 < most → x.talk.alternate < most → (cond b (emptied x) x).talk.alternate < most
room_kept true x most one h = one
room_kept false x most one h = h

-- the same of the conversation at a number
pub room_after : (below : ℕ → Bool) (xs ys : List Conversation) (i : ℕ) (d e : Conversation) (most : ℕ) → ys ≡ emptied_from below 0 xs → i < length xs
    → 1 < most → (get_or xs i d).talk.alternate < most → (get_or ys i e).talk.alternate < most
room_after below xs ys i d e most same h one low =
    let P = λ (x : Conversation). x.talk.alternate < most in
    subst P (sym (ap (λ (zs : List Conversation). get_or zs i e) same ∙ emptied_at below 0 xs i e h))
    (room_kept (below (0 + i)) (get_or xs i e) most one (subst P (get_or_default xs i d e h) low))
