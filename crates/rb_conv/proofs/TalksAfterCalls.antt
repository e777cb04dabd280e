-- Alternates, broken marks and members after each call, one conversation at a time and then of all.
use Rattle.std.proofs.Common.{◌≡◌, ◌+◌, ℕ, zero, suc, Bool, true, false, cond, List, [], ◌∷◌, length, map, Option, Some, None, option_map, slice_get, nat_eq, refl, sym, ap, ◌∙◌}
use Rattle.std.proofs.lemmas.List.{length-map}
use Rattle.std.proofs.lemmas.Option.{slice_get-map}
use Rattle.rb_base.specs.declared.names.Group.{Group}
use Rattle.rb_world.specs.Kind.{Membership}
use Rattle.rb_world.specs.Reject.{first_again, is_below, parent_of, reset_below, reset_from}
use Rattle.rb_world.specs.Turn.{opening_talks}
use Rattle.rb_world.specs.World.{Talk, change_at}
use Rattle.rb_conv.specs.declared.member.Member.{Member}
use Rattle.rb_conv.specs.declared.member.Place.{Place}
use Rattle.rb_conv.specs.declared.member.Place.TheVariants.{AtLine, Inside}
use Rattle.rb_conv.specs.Conversations.{Conversation, arrived, conversation_at, emptied, entered, goes, membership, memberships, one_goes, opened, talks, with_members}
use Rattle.rb_conv.specs.Reject.{emptied_below, emptied_from, exhausted, goes_off_line, has_next, put_back, rejected}
use Rattle.rb_conv.specs.Laws.{MembersStay, TalksAreTheWorlds, talk_after}
use Rattle.rb_conv.proofs.EmptyBelow.{membership_kept, outside_kept}

-- what is seen of a list with one element changed
pub map_changed : {A B : Type 0} (v : A → B) (f : A → A) (g : B → B) (c : ℕ) (xs : List A)
    → ((x : A) → slice_get xs c ≡ Some x → v (f x) ≡ g (v x)) → map v (change_at c f xs) ≡ change_at c g (map v xs)
map_changed v f g c [] h = refl
map_changed {A} {B} v f g zero (x ∷ xs) h = ap (λ (b : B). b ∷ map v xs) (h x refl)
map_changed {A} {B} v f g (suc c) (x ∷ xs) h = ap (λ (bs : List B). v x ∷ bs) (map_changed v f g c xs h)

-- the same, where nothing of the change is seen
pub map_same : {A B : Type 0} (v : A → B) (f : A → A) (c : ℕ) (xs : List A) → ((x : A) → v (f x) ≡ v x) → map v (change_at c f xs) ≡ map v xs
map_same v f c [] h = refl
map_same {A} {B} v f zero (x ∷ xs) h = ap (λ (b : B). b ∷ map v xs) (h x)
map_same {A} {B} v f (suc c) (x ∷ xs) h = ap (λ (bs : List B). v x ∷ bs) (map_same v f c xs h)

-- an entry changes no alternate
talk_entered : (p : ℕ) (x : Conversation) (b : Bool) → (cond b x (with_members (one_goes p Inside x.members) x)).talk ≡ x.talk
talk_entered p x true = refl
talk_entered p x false = refl

-- one conversation that may be emptied
talk_cond : (b : Bool) (x : Conversation) → (cond b (emptied x) x).talk ≡ cond b (first_again x.talk) x.talk
talk_cond true x = refl
talk_cond false x = refl

talks_emptied : (below : ℕ → Bool) (d : ℕ) (xs : List Conversation) → talks (emptied_from below d xs) ≡ reset_from below d (talks xs)
talks_emptied below d [] = refl
talks_emptied below d (x ∷ xs) =
    ap (λ (t : Talk). t ∷ talks (emptied_from below (d + 1) xs)) (talk_cond (below d) x)
    ∙ ap (λ (ts : List Talk). cond (below d) (first_again x.talk) x.talk ∷ ts) (talks_emptied below (d + 1) xs)

memberships_emptied : (below : ℕ → Bool) (d : ℕ) (xs : List Conversation) → memberships (emptied_from below d xs) ≡ memberships xs
memberships_emptied below d [] = refl
memberships_emptied below d (x ∷ xs) =
    ap (λ (m : Membership). m ∷ memberships (emptied_from below (d + 1) xs)) (membership_kept (below d) x)
    ∙ ap (λ (ms : List Membership). membership x ∷ ms) (memberships_emptied below (d + 1) xs)

-- the conversation that is rejected
talk_exhausted : (parent : Option ℕ) (x : Conversation) → (exhausted parent x).talk ≡ talk_after false parent x.talk
talk_exhausted None x = refl
talk_exhausted (Some e) x = refl

talk_put_back : (left : Bool) (parent : Option ℕ) (x : Conversation) → x.parent ≡ parent → (put_back left x).talk ≡ talk_after left parent x.talk
talk_put_back true parent x e = refl
talk_put_back false parent x e = talk_exhausted x.parent x ∙ ap (λ (q : Option ℕ). talk_after false q x.talk) e

parent_there : (xs ys : List Conversation) (c : ℕ) (x : Conversation) → memberships ys ≡ memberships xs → slice_get ys c ≡ Some x
    → x.parent ≡ parent_of (slice_get (memberships xs) c)
parent_there xs ys c x same there = sym (
    ap (λ (groups : List Membership). parent_of (slice_get groups c)) (sym same)
    ∙ ap parent_of (slice_get-map membership ys c)
    ∙ ap (λ (o : Option Conversation). parent_of (option_map membership o)) there)

talks_reset : (before : List Conversation) (c : ℕ) → talks (emptied_below c before) ≡ reset_below (memberships before) c (talks before)
talks_reset before c =
    talks_emptied (is_below (memberships before) (length before) c) 0 before
    ∙ ap (λ (n : ℕ). reset_from (is_below (memberships before) n c) 0 (talks before)) (sym (length-map before membership))

talks_rejected : (before : List Conversation) (c : ℕ) → talks (rejected c before)
    ≡ change_at c (talk_after (has_next (conversation_at before c)) (parent_of (slice_get (memberships before) c)))
    (reset_below (memberships before) c (talks before))
talks_rejected before c =
    let left = has_next (conversation_at before c) in
    let parent = parent_of (slice_get (memberships before) c) in
    let same = memberships_emptied (is_below (memberships before) (length before) c) 0 before in
    map_changed (λ (x : Conversation). x.talk) (put_back left) (talk_after left parent) c (emptied_below c before)
    (λ x there. talk_put_back left parent x (parent_there before (emptied_below c before) c x same there))
    ∙ ap (change_at c (talk_after left parent)) (talks_reset before c)

talks_opened : (groups : List Group) → talks (map opened groups) ≡ opening_talks (memberships (map opened groups))
talks_opened [] = refl
talks_opened (g ∷ gs) = ap (λ (ts : List Talk). record { alternate = 1; is_broken = false } ∷ ts) (talks_opened gs)

pub talks_are_the_worlds : TalksAreTheWorlds
talks_are_the_worlds = (
  λ nested. talks_opened nested.conversations.items,
  λ before c p. record {
    entry = map_same (λ (x : Conversation). x.talk) (entered p) c before (λ x. talk_entered p x x.talk.is_broken);
    arrival = map_same (λ (x : Conversation). x.talk) (arrived p) c before (λ x. refl);
    passing = map_changed (λ (x : Conversation). x.talk) emptied first_again c before (λ x there. refl);
    rejection = talks_rejected before c;
  },
)

-- who goes somewhere stays a member
process_kept : (b : Bool) (place : Place) (m : Member) → (cond b (goes place m) m).process ≡ m.process
process_kept true place m = refl
process_kept false place m = refl

one_kept : (p : ℕ) (place : Place) (ms : List Member) → map (λ (m : Member). m.process) (one_goes p place ms) ≡ map (λ (m : Member). m.process) ms
one_kept p place [] = refl
one_kept p place (m ∷ ms) =
    ap (λ (q : ℕ). q ∷ map (λ (n : Member). n.process) (one_goes p place ms)) (process_kept (nat_eq m.process p) place m)
    ∙ ap (λ (qs : List ℕ). m.process ∷ qs) (one_kept p place ms)

off_line_kept : (ms : List Member) → map (λ (m : Member). m.process) (map goes_off_line ms) ≡ map (λ (m : Member). m.process) ms
off_line_kept [] = refl
off_line_kept (m ∷ ms) = ap (λ (qs : List ℕ). m.process ∷ qs) (off_line_kept ms)

same_membership : (x y : Conversation) → x.parent ≡ y.parent → map (λ (m : Member). m.process) x.members ≡ map (λ (m : Member). m.process) y.members
    → membership x ≡ membership y
same_membership x y e f =
    ap (λ (ps : List ℕ). record { members = ps; parent = x.parent }) f
    ∙ ap (λ (q : Option ℕ). record { members = map (λ (m : Member). m.process) y.members; parent = q }) e

membership_gone : (p : ℕ) (place : Place) (x : Conversation) → membership (with_members (one_goes p place x.members) x) ≡ membership x
membership_gone p place x = same_membership (with_members (one_goes p place x.members) x) x refl (one_kept p place x.members)

membership_entered : (p : ℕ) (place : Place) (x : Conversation) (b : Bool)
    → membership (cond b x (with_members (one_goes p place x.members) x)) ≡ membership x
membership_entered p place x true = refl
membership_entered p place x false = membership_gone p place x

membership_exhausted : (parent : Option ℕ) (x : Conversation) → membership (exhausted parent x) ≡ membership x
membership_exhausted None x = same_membership (exhausted None x) x refl (outside_kept x.members)
membership_exhausted (Some e) x = membership_kept true x

membership_put_back : (left : Bool) (x : Conversation) → membership (put_back left x) ≡ membership x
membership_put_back true x = same_membership (put_back true x) x refl (off_line_kept x.members)
membership_put_back false x = membership_exhausted x.parent x

pub members_stay : MembersStay
members_stay before c p = record {
  entry = map_same membership (entered p) c before (λ x. membership_entered p Inside x x.talk.is_broken);
  arrival = map_same membership (arrived p) c before (membership_gone p AtLine);
  passing = map_same membership emptied c before (membership_kept true);
  rejection = map_same membership (put_back (has_next (conversation_at before c))) c (emptied_below c before)
      (membership_put_back (has_next (conversation_at before c)))
      ∙ memberships_emptied (is_below (memberships before) (length before) c) 0 before;
}
