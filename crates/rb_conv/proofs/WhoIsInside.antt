-- Who is inside a conversation, and who stands at its test line, after each call: by process and conversation.
use Rattle.std.proofs.Common.{◌≡◌, ◌<◌, ℕ, zero, suc, Bool, true, false, not, cond, ◌&&◌, ◌||◌, List, [], ◌∷◌, length, map, get_or, nat_eq, Option, Some, None, refl, ap, ◌∙◌, arith, not-suc-le-zero, le_of_suc-le-suc}
use Rattle.std.proofs.lemmas.Bool.Decides.{nat_tests}
use Rattle.std.specs.List.{list_any}
use Rattle.rb_world.specs.Reject.{is_below}
use Rattle.rb_world.specs.World.{change_at}
use Rattle.rb_conv.specs.declared.member.Member.{Member}
use Rattle.rb_conv.specs.declared.member.Place.{Place}
use Rattle.rb_conv.specs.declared.member.Place.TheVariants.{AtLine, Inside, Outside}
use Rattle.rb_conv.specs.Conversations.{Conversation, all_outside, emptied, is_at_line, is_inside, is_within, memberships, nobody, one_goes, stands, with_members}
use Rattle.rb_conv.specs.Reject.{exhausted, goes_off_line, off_line, put_back}
use Rattle.rb_conv.specs.Laws.{OthersStay, PlacesAreExact}
use Rattle.rb_conv.proofs.EmptyBelow.{emptied_at}

-- a process at a place of this kind
abbrev pub is_there : (Place → Bool) → ℕ → List Member → Bool
is_there at r members = list_any (λ member. nat_eq member.process r && at member.place) members

-- a member
abbrev pub is_member : ℕ → List Member → Bool
is_member p members = list_any (λ member. nat_eq member.process p) members

-- one that goes to a place of the kind
pub there_gone : (at : Place → Bool) (p r : ℕ) (place : Place) (ms : List Member) → at place ≡ true
    → is_there at r (one_goes p place ms) ≡ ((nat_eq r p && is_member p ms) || is_there at r ms)
there_gone at p r place [] e = grind (arith, nat_tests)
there_gone at p r place (m ∷ ms) e = grind (arith, nat_tests, e, there_gone at p r place ms e)

-- one that goes to a place of another kind
pub not_there_gone : (at : Place → Bool) (p r : ℕ) (place : Place) (ms : List Member) → at place ≡ false
    → is_there at r (one_goes p place ms) ≡ (not (nat_eq r p) && is_there at r ms)
not_there_gone at p r place [] e = grind (arith, nat_tests)
not_there_gone at p r place (m ∷ ms) e = grind (arith, nat_tests, e, not_there_gone at p r place ms e)

-- all leave
pub nobody_there : (at : Place → Bool) (r : ℕ) (ms : List Member) → at Outside ≡ false → is_there at r (all_outside ms) ≡ false
nobody_there at r [] e = refl
nobody_there at r (m ∷ ms) e = grind (arith, e, nobody_there at r ms e)

-- all go off the line, and stay inside
off_line_away : (q : Place) → is_at_line (off_line q) ≡ false
off_line_away Outside = refl
off_line_away Inside = refl
off_line_away AtLine = refl

off_line_within : (q : Place) → is_within (off_line q) ≡ is_within q
off_line_within Outside = refl
off_line_within Inside = refl
off_line_within AtLine = refl

nobody_at_line : (r : ℕ) (ms : List Member) → is_there is_at_line r (map goes_off_line ms) ≡ false
nobody_at_line r [] = refl
nobody_at_line r (m ∷ ms) = grind (arith, off_line_away m.place, nobody_at_line r ms)

still_inside : (r : ℕ) (ms : List Member) → is_there is_within r (map goes_off_line ms) ≡ is_there is_within r ms
still_inside r [] = refl
still_inside r (m ∷ ms) =
    ap (λ (b : Bool). (nat_eq m.process r && b) || is_there is_within r (map goes_off_line ms)) (off_line_within m.place)
    ∙ ap (λ (b : Bool). (nat_eq m.process r && is_within m.place) || b) (still_inside r ms)

exhausted_inside : (parent : Option ℕ) (r : ℕ) (x : Conversation) → is_inside r (exhausted parent x) ≡ false
exhausted_inside None r x = nobody_there is_within r x.members refl
exhausted_inside (Some e) r x = nobody_there is_within r x.members refl

exhausted_line : (parent : Option ℕ) (r : ℕ) (x : Conversation) → stands r (exhausted parent x) ≡ false
exhausted_line None r x = nobody_there is_at_line r x.members refl
exhausted_line (Some e) r x = nobody_there is_at_line r x.members refl

rejected_inside : (left : Bool) (r : ℕ) (x : Conversation) → is_inside r (put_back left x) ≡ (left && is_inside r x)
rejected_inside true r x = still_inside r x.members
rejected_inside false r x = exhausted_inside x.parent r x

rejected_line : (left : Bool) (r : ℕ) (x : Conversation) → stands r (put_back left x) ≡ false
rejected_line true r x = nobody_at_line r x.members
rejected_line false r x = exhausted_line x.parent r x

pub places_are_exact : PlacesAreExact
places_are_exact x p r left = record {
  entry = λ whole.
      ap (λ (b : Bool). is_inside r (cond b x (with_members (one_goes p Inside x.members) x))) whole ∙ there_gone is_within p r Inside x.members refl;
  entry_line = λ whole.
      ap (λ (b : Bool). stands r (cond b x (with_members (one_goes p Inside x.members) x))) whole
      ∙ not_there_gone is_at_line p r Inside x.members refl;
  arrival = there_gone is_within p r AtLine x.members refl;
  arrival_line = there_gone is_at_line p r AtLine x.members refl;
  passing = nobody_there is_within r x.members refl;
  passing_line = nobody_there is_at_line r x.members refl;
  rejection = rejected_inside left r x;
  rejection_line = rejected_line left r x;
}

-- the conversation at each number
changed_there : (f : Conversation → Conversation) (xs : List Conversation) (c d : ℕ) → c < length xs
    → get_or (change_at c f xs) d nobody ≡ cond (nat_eq d c) (f (get_or xs d nobody)) (get_or xs d nobody)
changed_there f [] c d h = absurd (not-suc-le-zero h)
changed_there f (x ∷ xs) zero zero h = grind (arith, nat_tests)
changed_there f (x ∷ xs) zero (suc d) h = grind (arith, nat_tests)
changed_there f (x ∷ xs) (suc c) zero h = grind (arith, nat_tests)
changed_there f (x ∷ xs) (suc c) (suc d) h = grind (arith, nat_tests, changed_there f xs c d (le_of_suc-le-suc h))

pub others_stay : OthersStay
others_stay = (
  changed_there,
  λ before c d h. emptied_at (is_below (memberships before) (length before) c) 0 before d nobody h
      ∙ ap
      (λ (k : ℕ). cond (is_below (memberships before) (length before) c k) (emptied (get_or before d nobody)) (get_or before d nobody))
      (omega arith),
)
