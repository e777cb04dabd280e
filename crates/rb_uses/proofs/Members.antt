-- Members that stand once, and what is looked up of a conversation.
use Rattle.std.proofs.Common.{◌≡◌, ℕ, zero, suc, ◌+◌, ◌<◌, ◌≤◌, nat_eq, nat_lt, Bool, true, false, not, cond, ◌||◌, ◌&&◌, arith}
use Rattle.std.proofs.Common.{List, [], ◌∷◌, ◌++◌, length, get_or, map, slice_get, Option, Some, None, option_map, refl, sym, ap, ◌∙◌}
use Rattle.std.proofs.Math.Bool.{or_assoc}
use Rattle.std.proofs.lemmas.Bool.Decides.{nat_tests}
use Rattle.std.proofs.lemmas.List.Folds.{list_any-append}
use Rattle.std.proofs.lemmas.Option.{slice_get-map, slice_get_past, slice_get_read}
use Rattle.std.specs.List.{list_all, list_any}
use Rattle.std.specs.Option.{is_some, option_eq}
use Rattle.rb_syntax.specs.Tree.{ConversationDeclaration, Tree}
use Rattle.rb_world.specs.Reject.{parent_of}
use Rattle.rb_world.specs.Turn.{members_of}
use Rattle.rb_world.specs.World.{is_number}
use Rattle.rb_meaning.specs.Groups.{groups_of, membership_of}
use Rattle.rb_meaning.specs.Nesting.{alternates_of, is_member, is_same_conversation, members_in}
use Rattle.rb_uses.specs.Members.{Known, known, known_from, known_of, with_member, with_members}
use Rattle.rb_uses.specs.declared.conversations.Facts.{Facts}

same-number : (p q : ℕ) → nat_eq p q ≡ true → p ≡ q
same-number p q e = grind (arith, nat_tests)

or-false : (b : Bool) → b || false ≡ b
or-false true = refl
or-false false = refl

-- a member that is there already adds none
there : (p q : ℕ) (ms : List ℕ) (b : Bool) → nat_eq p q ≡ b → is_member q ms ≡ true → is_member p ms ≡ is_member p ms || b
there p q ms true e h =
    let here : is_member p ms ≡ true = ap (λ k. is_member k ms) (same-number p q e) ∙ h in
    here ∙ sym (ap (λ c. c || true) here)
there p q ms false e h = sym (or-false (is_member p ms))

with-one : (p q : ℕ) (ms : List ℕ) (b : Bool) → is_member q ms ≡ b
    → is_member p (cond b ms (ms ++ q ∷ [])) ≡ is_member p ms || nat_eq p q
with-one p q ms true e = there p q ms (nat_eq p q) refl e
with-one p q ms false e =
    list_any-append (nat_eq p) ms (q ∷ []) ∙ ap (λ b. is_member p ms || b) (or-false (nat_eq p q))

with-all : (p : ℕ) (ms ps : List ℕ) → is_member p (with_members ms ps) ≡ is_member p ms || is_member p ps
with-all p ms [] = sym (or-false (is_member p ms))
with-all p ms (q ∷ ps) =
    with-all p (with_member ms q) ps
    ∙ ap (λ b. b || is_member p ps) (with-one p q ms (is_member q ms) refl)
    ∙ or_assoc (is_member p ms) (nat_eq p q) (is_member p ps)

-- who is a member, however often it is named
pub each_member : (p : ℕ) (ps : List ℕ) → is_member p (with_members [] ps) ≡ is_member p ps
each_member p ps = with-all p [] ps

-- a member passes a test that all pass
at-step : (test : ℕ → Bool) (p m : ℕ) (same passes others there : Bool) → nat_eq p m ≡ same → test m ≡ passes
    → passes && others ≡ true → same || there ≡ true → (others ≡ true → there ≡ true → test p ≡ true) → test p ≡ true
at-step test p m true true others there e f a h g = ap test (same-number p m e) ∙ f
at-step test p m false true others there e f a h g = g a h
at-step test p m same false others there e f a h g = absurd (cc)

all-at : (test : ℕ → Bool) (p : ℕ) (ms : List ℕ) → list_all test ms ≡ true → is_member p ms ≡ true → test p ≡ true
all-at test p [] a h = absurd (cc)
all-at test p (m ∷ ms) a h =
    at-step test p m (nat_eq p m) (test m) (list_all test ms) (is_member p ms) refl refl a h (all-at test p ms)

-- all pass a test that each member passes
self : (p : ℕ) → nat_eq p p ≡ true
self p = grind (arith, nat_tests)

either : (b c : Bool) → c ≡ true → b || c ≡ true
either true c e = refl
either false c e = e

all-from : (test : ℕ → Bool) (ms : List ℕ) → ((p : ℕ) → is_member p ms ≡ true → test p ≡ true) → list_all test ms ≡ true
all-from test [] h = refl
all-from test (m ∷ ms) h =
    ap (λ b. b && list_all test ms) (h m (ap (λ b. b || is_member m ms) (self m)))
    ∙ all-from test ms (λ p e. h p (either (nat_eq p m) (is_member p ms) e))

same-bool : (a b : Bool) → (a ≡ true → b ≡ true) → (b ≡ true → a ≡ true) → a ≡ b
same-bool true b f g = sym (f refl)
same-bool false true f g = g refl
same-bool false false f g = refl

flipped : (p q : ℕ) → nat_eq q p ≡ nat_eq p q
flipped p q =
    same-bool (nat_eq q p) (nat_eq p q)
    (λ e. ap (nat_eq p) (same-number q p e) ∙ self p)
    (λ e. ap (nat_eq q) (same-number p q e) ∙ self q)

-- a member among others, whichever of the two is asked first
pub either_first : (p : ℕ) (ms : List ℕ) → list_any (λ m. nat_eq m p) ms ≡ is_member p ms
either_first p [] = refl
either_first p (m ∷ ms) =
    ap (λ b. b || list_any (λ n. nat_eq n p) ms) (flipped p m) ∙ ap (λ b. nat_eq p m || b) (either_first p ms)

-- two lists with the same members pass a test alike
pub all_alike : (test : ℕ → Bool) (ms ns : List ℕ) → ((p : ℕ) → is_member p ms ≡ is_member p ns) → list_all test ms ≡ list_all test ns
all_alike test ms ns same =
    same-bool (list_all test ms) (list_all test ns)
    (λ a. all-from test ns (λ p e. all-at test p ms a (same p ∙ e)))
    (λ a. all-from test ms (λ p e. all-at test p ns a (sym (same p) ∙ e)))

-- the conversation of a number is known at that place
known-at : (tree : Tree) (k n : ℕ) (cs : List ConversationDeclaration)
    → slice_get (known_from tree k cs) n ≡ option_map (known_of tree (k + n)) (slice_get cs n)
known-at tree k n [] = refl
known-at tree k zero (c ∷ cs) = let e : k ≡ k + 0 = omega arith in ap (λ m. Some (known_of tree m c)) e
known-at tree k (suc n) (c ∷ cs) =
    let e : k + 1 + n ≡ k + suc n = omega arith in
    known-at tree (k + 1) n cs ∙ ap (λ m. option_map (known_of tree m) (slice_get cs n)) e

-- all facts are those of the conversations of a tree
abbrev pub AreKnown : Tree → List Facts → Type 0
AreKnown tree items = map known items ≡ known_from tree 0 tree.conversations

-- facts are those of the conversation of this number
pub record IsKnownAs (tree : Tree) (number : ℕ) (facts : Facts) : Type 0 where
  pub members : (p : ℕ) → is_member p facts.members.items ≡ is_member p (members_in tree number)
  pub parent : facts.parent ≡ parent_of (slice_get (groups_of tree) number)
  pub alternates : facts.alternates ≡ alternates_of tree number

looked-up : (tree : Tree) (items : List Facts) (number : ℕ) → AreKnown tree items
    → option_map known (slice_get items number) ≡ option_map (known_of tree number) (slice_get tree.conversations number)
looked-up tree items number e =
    let at : 0 + number ≡ number = omega arith in
    sym (slice_get-map known items number)
    ∙ ap (λ ks. slice_get ks number) e
    ∙ known-at tree 0 number tree.conversations
    ∙ ap (λ m. option_map (known_of tree m) (slice_get tree.conversations number)) at

none-there : (tree : Tree) (number : ℕ) (found : Option Facts) (there : Option ConversationDeclaration) → found ≡ None
    → option_map known found ≡ option_map (known_of tree number) there → option_map (membership_of tree) there ≡ None
none-there tree number found None e h = refl
none-there tree number found (Some c) e h = absurd (cc)

one-there : (tree : Tree) (number : ℕ) (facts : Facts) (found : Option Facts) (there : Option ConversationDeclaration)
    → found ≡ Some facts → option_map known found ≡ option_map (known_of tree number) there
    → slice_get (groups_of tree) number ≡ option_map (membership_of tree) there → IsKnownAs tree number facts
one-there tree number facts found None e h g = absurd (cc)
one-there tree number facts found (Some c) e h g =
    let same : known facts ≡ known_of tree number c = cc in
    record {
      members = λ p.
          ap (λ (k : Known). is_member p k.members) same
          ∙ each_member p (membership_of tree c).members
          ∙ sym (ap (λ m. is_member p (members_of m)) g);
      parent = ap (λ (k : Known). k.parent) same ∙ sym (ap parent_of g);
      alternates = ap (λ (k : Known). k.alternates) same;
    }

-- What a look-up by number gives: nothing where no conversation has the number, and else its facts.
pub no_conversation : (tree : Tree) (items all : List Facts) (number : ℕ) → all ≡ items → AreKnown tree items
    → false ≡ nat_lt number (length all) → slice_get (groups_of tree) number ≡ None
no_conversation tree items all number same e h =
    let past : length all ≤ number = grind (arith, nat_tests) in
    let found = ap (λ xs. slice_get xs number) (sym same) ∙ slice_get_past all number past in
    slice_get-map (membership_of tree) tree.conversations number
    ∙ none-there tree number (slice_get items number) (slice_get tree.conversations number) found (looked-up tree items number e)

pub conversation_known : (tree : Tree) (items all : List Facts) (number : ℕ) (facts : Facts) → all ≡ items → AreKnown tree items
    → true ≡ nat_lt number (length all) → facts ≡ get_or all number facts → IsKnownAs tree number facts
conversation_known tree items all number facts same e h at =
    let within : number < length all = grind (arith, nat_tests) in
    let found = ap (λ xs. slice_get xs number) (sym same) ∙ slice_get_read all (length all) number facts refl within at in
    one-there tree number facts (slice_get items number) (slice_get tree.conversations number) found (looked-up tree items number e)
    (slice_get-map (membership_of tree) tree.conversations number)

-- what two tests of two conversations, or of none, say
pub none_same : (within : Option ℕ) (b : Bool) → is_some within ≡ not b → b ≡ is_same_conversation within None
none_same None true e = refl
none_same None false e = absurd (cc)
none_same (Some c) true e = absurd (cc)
none_same (Some c) false e = refl

pub same_parent : (parent within : Option ℕ) → option_eq nat_eq parent within ≡ is_same_conversation within parent
same_parent None None = refl
same_parent None (Some c) = refl
same_parent (Some d) None = refl
same_parent (Some d) (Some c) = refl

pub same_count : (alternates : Option ℕ) (n : ℕ) → option_eq nat_eq alternates (Some n) ≡ is_number alternates n
same_count None n = refl
same_count (Some m) n = refl
