-- Test lines, where they are passed and where not, in the world that the processes in memory stand for.
use Rattle.std.proofs.Common.{◌≡◌, ◌+◌, ◌++◌, ◌<◌, ◌≤◌, ◌&&◌, ℕ, zero, suc, Bool, true, false, cond, List, [], ◌∷◌, length, map, take, drop, get_or, set, slice_get, Option, Some, None, option_map, refl, ap, sym, ◌∙◌, subst, arith}
use Rattle.std.specs.List.{list_all}
use Rattle.std.proofs.lemmas.List.{drop_more}
use Rattle.std.proofs.lemmas.Option.{slice_get-get_or, slice_get-map, slice_get_past}
use Rattle.rb_base.specs.declared.names.Nested.{Nested}
use Rattle.rb_base.specs.declared.names.Group.{Group}
use Rattle.rb_base.specs.declared.event.Event.TheVariants.{Pass}
use Rattle.rb_syntax.specs.Tree.{Tree}
use Rattle.rb_world.specs.Kind.{Membership}
use Rattle.rb_world.specs.Reject.{first_again}
use Rattle.rb_world.specs.Turn.{all_leave, all_stand, alternate_of, at_test_line, leaves, members_of, opening_talks, passed, stands_there, took}
use Rattle.rb_world.specs.World.{Process as Seen, change_at, talk_at}
use Rattle.rb_world.proofs.ListFacts.{heads_same, tails_same}
use Rattle.rb_meaning.specs.Groups.{groups_of}
use Rattle.rb_meaning.specs.State.{State}
use Rattle.rb_meaning.specs.PlainRun.{EntryPoint}
use Rattle.rb_levels.specs.declared.process.Process.{Process}
use Rattle.rb_plain.specs.Members.{HasMembers}
use Rattle.rb_levels.specs.Worlds.{process_of, unkept_kind, world_of}

-- the members of a group that may not exist, in memory, and a list that may not exist
abbrev pub members_in : Option Group → List ℕ
members_in None = []
members_in (Some group) = group.members.items

abbrev listed : Option (List ℕ) → List ℕ
listed None = []
listed (Some members) = members

in_memory : (o : Option Group) → members_in o ≡ listed (option_map (λ group. group.members.items) o)
in_memory None = refl
in_memory (Some group) = refl

in_tree : (o : Option Membership) → listed (option_map (λ group. group.members) o) ≡ members_of o
in_tree None = refl
in_tree (Some group) = refl

-- the members of a conversation, as memory keeps them
members_at : (groups : List Group) (plain : List Membership) (c : ℕ) → map (λ group. group.members.items) groups ≡ map (λ group. group.members) plain
    → members_in (slice_get groups c) ≡ members_of (slice_get plain c)
members_at groups plain c e =
    in_memory (slice_get groups c) ∙ ap listed (sym (slice_get-map (λ group. group.members.items) groups c))
    ∙ ap (λ lists. listed (slice_get lists c)) e
    ∙ ap listed (slice_get-map (λ group. group.members) plain c) ∙ in_tree (slice_get plain c)

module _ (f : ℕ → Bool) (members : List ℕ) (i : ℕ) (within : i < length members) where
  -- the first of those that are left does not stand there
  pub someone_missing : f (get_or members i 0) ≡ false → list_all f (drop i members) ≡ false
  someone_missing e = ap (list_all f) (drop_more members i 0 within) ∙ ap (λ b. b && list_all f (drop (i + 1) members)) e

  -- it stands there
  pub one_stands : f (get_or members i 0) ≡ true → list_all f (drop i members) ≡ list_all f (drop (i + 1) members)
  one_stands e = ap (list_all f) (drop_more members i 0 within) ∙ ap (λ b. b && list_all f (drop (i + 1) members)) e

-- all members of a conversation that is there stand at its test line
pub all_stand_is : (tree : Tree) (nested : Nested) (processes : List Process) (c : ℕ) → HasMembers tree nested
    → (group : Group) → c < length nested.conversations.items → group ≡ get_or nested.conversations.items c group
    → list_all (λ m. stands_there c (slice_get (map process_of processes) m)) group.members.items
    ≡ all_stand (unkept_kind tree) c (world_of tree processes)
all_stand_is tree nested processes c has group within is =
    let stand = λ (members : List ℕ). list_all (λ m. stands_there c (slice_get (map process_of processes) m)) members in
    let groups = nested.conversations.items in
    ap (λ o. stand (members_in o)) (ap (λ one. Some one) is ∙ sym (slice_get-get_or groups c group within))
    ∙ ap stand (members_at groups (groups_of tree) c has)

-- of a conversation that is not there nobody is missing
pub none_missing : (tree : Tree) (nested : Nested) (processes : List Process) (c : ℕ) → HasMembers tree nested
    → length nested.conversations.items ≤ c → true ≡ all_stand (unkept_kind tree) c (world_of tree processes)
none_missing tree nested processes c has past =
    let stand = λ (members : List ℕ). list_all (λ m. stands_there c (slice_get (map process_of processes) m)) members in
    let groups = nested.conversations.items in
    ap (λ o. stand (members_in o)) (sym (slice_get_past groups c past))
    ∙ ap stand (members_at groups (groups_of tree) c has)

-- conversations are at alternate 1 as at the opening, and stay so
talks_stay : (groups : List Membership) (c : ℕ) → change_at c first_again (opening_talks groups) ≡ opening_talks groups
talks_stay [] c = refl
talks_stay (group ∷ groups) zero = refl
talks_stay (group ∷ groups) (suc c) = ap (λ talks. record { alternate = 1; is_broken = false } ∷ talks) (talks_stay groups c)

module _ (tree : Tree) (c : ℕ) (before : List Process) where
  -- the test line is not passed
  pub line_waits : all_stand (unkept_kind tree) c (world_of tree before) ≡ false
      → world_of tree before ≡ (at_test_line (unkept_kind tree) c (world_of tree before)).world
  line_waits e =
      let k = unkept_kind tree in
      let w = world_of tree before in
      ap (λ b. (cond b (passed (Pass c (alternate_of (talk_at w c))) (all_leave k c w)) (took w)).world) (sym e)

  -- it is passed
  pub line_passed : (after : List Process) → all_stand (unkept_kind tree) c (world_of tree before) ≡ true
      → map process_of after ≡ map (leaves (unkept_kind tree) c) (map process_of before)
      → world_of tree after ≡ (at_test_line (unkept_kind tree) c (world_of tree before)).world
  line_passed after e left =
      let k = unkept_kind tree in
      let w = world_of tree before in
      ap (λ qs. record { processes = qs; talks = opening_talks (groups_of tree); memory = tt }) left
      ∙ ap (λ talks. record { processes = map (leaves k c) (map process_of before); talks = talks; memory = tt })
      (sym (talks_stay (groups_of tree) c))
      ∙ ap (λ b. (cond b (passed (Pass c (alternate_of (talk_at w c))) (all_leave k c w)) (took w)).world) (sym e)

-- one more process of those that leave in order
more : (f : Seen State EntryPoint → Seen State EntryPoint) (before so_far : List Process) (i : ℕ) (d new : Process) → i < length before
    → map process_of so_far ≡ map f (map process_of (take i before)) ++ map process_of (drop i before)
    → process_of new ≡ f (process_of (get_or so_far i d))
    → map process_of (set so_far i new) ≡ map f (map process_of (take (suc i) before)) ++ map process_of (drop (suc i) before)
more f [] so_far i d new within left wrote = absurd (omega arith)
more f (x ∷ xs) [] zero d new within left wrote = cc
more f (x ∷ xs) [] (suc i) d new within left wrote = cc
more f (x ∷ xs) (y ∷ ys) zero d new within left wrote =
    ap (λ one. one ∷ map process_of ys) (wrote ∙ ap f (heads_same left)) ∙ ap (λ rest. f (process_of x) ∷ rest) (tails_same left)
more f (x ∷ xs) (y ∷ ys) (suc i) d new within left wrote =
    ap (λ one. one ∷ map process_of (set ys i new)) (heads_same left)
    ∙ ap (λ rest. f (process_of x) ∷ rest) (more f xs ys i d new (omega arith) (tails_same left) wrote)

pub one_more : (f : Seen State EntryPoint → Seen State EntryPoint) (before so_far : List Process) (i : ℕ) (d new : Process) → i < length before
    → map process_of so_far ≡ map f (map process_of (take i before)) ++ map process_of (drop i before)
    → process_of new ≡ f (process_of (get_or so_far i d))
    → map process_of (set so_far i new) ≡ map f (map process_of (take (i + 1) before)) ++ map process_of (drop (i + 1) before)
one_more f before so_far i d new within left wrote =
    let next : suc i ≡ i + 1 = omega arith in
    subst (λ n. map process_of (set so_far i new) ≡ map f (map process_of (take n before)) ++ map process_of (drop n before)) next
    (more f before so_far i d new within left wrote)
