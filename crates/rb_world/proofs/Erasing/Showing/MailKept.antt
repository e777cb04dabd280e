-- What a change of some processes leaves alone in a world: the kept turns, but those of one process, and that no more was
-- taken than was sent.
use Rattle.std.proofs.Common.{◌≡◌, ◌≤◌, ℕ, zero, suc, List, [], ◌∷◌, map, slice_get, Some, refl, sym, ap, ap₂, ◌∙◌, subst, subst₂}
use Rattle.rb_world.specs.World.{Process, World, change_at}
use Rattle.rb_world.proofs.Erasing.ErasableKinds.{Nothing, Parts, SameMail}
use Rattle.rb_world.proofs.Erasing.Showing.ErasureInvariant.{AreSent}
use Rattle.rb_world.proofs.ListFacts.{none_some, some_same}

-- a list is mapped and one element changed
pub map-change_at : {A B : Type 0} (h : A → B) (p : ℕ) (y : A) (F : B → B) (xs : List A) (x : A) → slice_get xs p ≡ Some x → h y ≡ F (h x)
    → map h (change_at p (λ _. y) xs) ≡ change_at p F (map h xs)
map-change_at h p y F [] x e same = refl
map-change_at {A} {B} h zero y F (z ∷ zs) x e same =
    ap (λ (b : B). b ∷ map h zs) (same ∙ ap (λ (a : A). F (h a)) (sym (some_same e)))
map-change_at {A} {B} h (suc p) y F (z ∷ zs) x e same = ap (λ (bs : List B). h z ∷ bs) (map-change_at h p y F zs x e same)

-- a change of each element that a map does not see
pub map-unseen : {A B : Type 0} (h : A → B) (F : A → A) (xs : List A) → ((x : A) → h (F x) ≡ h x) → map h (map F xs) ≡ map h xs
map-unseen h F [] same = refl
map-unseen {A} {B} h F (x ∷ xs) same = ap₂ (λ (b : B) (bs : List B). b ∷ bs) (same x) (map-unseen h F xs same)

module _ {S E P : Type 0} (x : Parts S E P) where
  -- nothing has changed
  pub same_mail : (s : S) → SameMail x s s
  same_mail s = record { sent = λ c. refl; taken = λ c. refl; messages = λ c n. refl }

  -- two changes that leave mail alone
  pub mail_then : {s t u : S} → SameMail x s t → SameMail x t u → SameMail x s u
  mail_then one other = record {
    sent = λ c. other.sent c ∙ one.sent c;
    taken = λ c. other.taken c ∙ one.taken c;
    messages = λ c n. other.messages c n ∙ one.messages c n;
  }

  -- process u, number r of a new world, has sent and taken what it had in the old one
  pub record HasMail {C : Type 0} (r : ℕ) (u : Process S C) (us : List (Process S C)) : Type 0 where
    pub process : Process S C
    pub there : slice_get us r ≡ Some process
    pub mail : SameMail x process.state u.state

  -- everybody has sent and taken what it had
  abbrev pub KeepsMail : {C : Type 0} → List (Process S C) → List (Process S C) → Type 0
  KeepsMail {C} us vs = (r : ℕ) (u : Process S C) → slice_get vs r ≡ Some u → HasMail r u us

  -- one process changes
  pub mail_changed : {C : Type 0} (p : ℕ) (old new : Process S C) (us : List (Process S C)) → slice_get us p ≡ Some old
      → SameMail x old.state new.state
      → KeepsMail us (change_at p (λ _. new) us)
  mail_changed p old new [] e mail r v there = absurd (none_some there)
  mail_changed zero old new (u ∷ us) e mail zero v there = record {
    process = u;
    there = refl;
    mail = subst₂ (λ (a b : Process S _). SameMail x a.state b.state) (sym (some_same e)) (some_same there) mail;
  }
  mail_changed zero old new (u ∷ us) e mail (suc r) v there = record { process = v; there = there; mail = same_mail v.state }
  mail_changed (suc p) old new (u ∷ us) e mail zero v there = record { process = v; there = there; mail = same_mail v.state }
  mail_changed (suc p) old new (u ∷ us) e mail (suc r) v there =
      let found = mail_changed p old new us e mail r v there in
      record { process = found.process; there = found.there; mail = found.mail }

  -- every process changes
  pub mail_mapped : {C : Type 0} (F : Process S C → Process S C) (us : List (Process S C)) → ((u : Process S C) → SameMail x u.state (F u).state)
      → KeepsMail us (map F us)
  mail_mapped F [] mail r v there = absurd (none_some there)
  mail_mapped F (u ∷ us) mail zero v there = record {
    process = u;
    there = refl;
    mail = subst (λ (a : Process S _). SameMail x u.state a.state) (some_same there) (mail u);
  }
  mail_mapped F (u ∷ us) mail (suc r) v there =
      let found = mail_mapped F us mail r v there in
      record { process = found.process; there = found.there; mail = found.mail }

  -- one change after another
  pub mail_both : {C : Type 0} (us vs ws : List (Process S C)) → KeepsMail us vs → KeepsMail vs ws → KeepsMail us ws
  mail_both us vs ws one other r w there =
      let later = other r w there in
      let first = one r later.process later.there in
      record { process = first.process; there = first.there; mail = mail_then first.mail later.mail }

  -- so no more was taken than was sent, as before
  pub sent_kept : {C : Type 0} (v w : World S C Nothing) → KeepsMail v.processes w.processes → AreSent x v → AreSent x w
  sent_kept v w mail sent c ends sender receiver channel there there' =
      let s = mail ends.sender sender there in
      let r = mail ends.receiver receiver there' in
      subst₂ (λ (a b : ℕ). a ≤ b) (sym (r.mail.taken c)) (sym (s.mail.sent c)) (sent c ends s.process r.process channel s.there r.there)
