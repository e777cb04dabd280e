-- What an accepted source gives to the machine: its conversations, each with its count of alternates, and a run whose text, survivors and
-- counts are those of the source's tree.
use Rattle.std.proofs.Common.{◌≡◌, ℕ, zero, suc, ◌+◌, List, [], ◌∷◌, ◌++◌, length, map, slice_get, Some, unwrap_or, refl, sym, ap, ap₂, subst, arith, ◌∙◌}
use Rattle.std.proofs.lemmas.List.{length-map, map-id}
use Rattle.std.proofs.lemmas.Simd.{map-map}
use Rattle.rb_base.specs.declared.names.Group.{Group}
use Rattle.rb_base.specs.declared.names.Nested.{Nested}
use Rattle.rb_base.specs.declared.event.Event.{Event}
use Rattle.rb_base.specs.declared.event.TurnKind.TheVariants.{Took}
use Rattle.rb_syntax.specs.Tree.{Tree}
use Rattle.rb_world.specs.Kind.{Membership}
use Rattle.rb_world.specs.World.{Process, Running}
use Rattle.rb_world.specs.Turn.{Told, done_at, finished_at, told_at_opening}
use Rattle.rb_world.specs.Text.{Naming, record_text}
use Rattle.rb_meaning.specs.Groups.{groups_of}
use Rattle.rb_meaning.specs.Nesting.{alternates_of}
use Rattle.rb_meaning.specs.Meaning.{naming_of, opening_world, run_text}
use Rattle.rb_nest.specs.Groups.{alternates, membership as membership_told, memberships as told_memberships}
use Rattle.rb_code.specs.Instructions.Plain.{code}
use Rattle.rb_code.specs.SoundCode.WellFormed.{IsSound}
use Rattle.rb_code.specs.Agreement.Laws.{Agrees}
use Rattle.rb_code.specs.WordMachine.WordRun.{opening_of, word_run, word_text}
use Rattle.rb_conv.specs.Conversations.{Conversation, membership, memberships, opened, opening, outsider}
use Rattle.rb_conv.specs.declared.member.Member.{Member}
use Rattle.rb_prepare.specs.Prepared.{IsPrepared}
use Rattle.rb_prepare.specs.declared.preparing.Prepared.{Prepared}
use Rattle.rb_prepare.proofs.AcceptedSources.{accepted_code_agrees}
use Rattle.rb_run.specs.Running.{NamesFit}
use Rattle.rb_run.proofs.NamesFit.{names_fit}
use Rattle.rb_recovery.specs.Survivors.{word_survivors}
use Rattle.rb_recovery.specs.Worlds.{counts_of}
use Rattle.rb_run.specs.Counting.{told_counts}
use Rattle.rb_run.proofs.AsMeant.{text_as_meant}
use Rattle.rb_run.proofs.Survived.{erased_over}
use Rattle.rb_script.specs.declared.order.Order.{Order}
use Rattle.rb_script.specs.Shown.{session_text, tree_session_text}
use Rattle.rb_back.proofs.AsMeant.{session_agrees}
use Rattle.rb_image.specs.Image.{image_of}
use Rattle.rb_stuck.specs.Programs.{tree_standing_text, word_standing_text}
use Rattle.rb_stuck.proofs.AsMeant.{code_stands}
use Rattle.rb_verdict.specs.Programs.{IsCodeFor, counts_from}
use Rattle.rb_verdict.specs.Summary.{run_counts}
use Rattle.rb_verdict.specs.Texts.{survivors_text}
use Rattle.rb_commands.specs.Products.{text_for, word_counts, word_text_for}
use Rattle.rb_commands.specs.declared.over_schedule.Product.{Product}
use Rattle.rb_commands.specs.declared.over_schedule.Product.TheVariants.{Text, Survivors, Standing}

-- at the opening a conversation has the members and the parent that it was given
opened_group : (group : Group) → membership (opened group) ≡ membership_told group
opened_group group =
    let members = map-map (λ (member : Member). member.process) outsider group.members.items ∙ map-id group.members.items in
    ap (λ (ms : List ℕ). record { members = ms; parent = group.parent }) members

pub opened_groups : (groups : List Group) → map membership (map opened groups) ≡ map membership_told groups
opened_groups [] = refl
opened_groups (group ∷ groups) =
    ap (λ (first : Membership). first ∷ map membership (map opened groups)) (opened_group group)
    ∙ ap (λ (rest : List Membership). membership_told group ∷ rest) (opened_groups groups)

-- and as many alternates
pub opened_counts : (nested : Nested) → counts_of (opening nested) ≡ alternates nested
opened_counts nested = map-map (λ (one : Conversation). one.alternates) opened nested.conversations.items

-- processes of the same statuses are told alike before the first turn
same_finished : {S C T D : Type 0} (p : ℕ) (qs : List (Process S C)) (rs : List (Process T D)) → length rs ≡ length qs
    → ((i : ℕ) (q : Process S C) (r : Process T D) → slice_get qs i ≡ Some q → slice_get rs i ≡ Some r → r.status ≡ q.status)
    → finished_at p rs ≡ finished_at p qs
same_finished p [] [] as_many same = refl
same_finished p [] (r ∷ rs) as_many same = absurd (cc)
same_finished p (q ∷ qs) [] as_many same = absurd (cc)
same_finished p (q ∷ qs) (r ∷ rs) as_many same =
    ap₂ ◌++◌ (ap (done_at p Running) (same zero q r refl refl)) (same_finished (p + 1) qs rs (cc) (λ i. same (suc i)))

-- numbers of alternates that are those of a tree's conversations
counted : (tree : Tree) (counts : List ℕ) (groups : List Membership) (d : ℕ) → length counts ≡ length groups
    → ((i n : ℕ) → slice_get counts i ≡ Some n → alternates_of tree (d + i) ≡ Some n) → counts ≡ counts_from tree d groups
counted tree [] [] d as_many each = refl
counted tree [] (group ∷ groups) d as_many each = absurd (omega (arith, as_many))
counted tree (count ∷ counts) [] d as_many each = absurd (omega (arith, as_many))
counted tree (count ∷ counts) (group ∷ groups) d as_many each =
    let here : alternates_of tree d ≡ Some count = subst (λ i. alternates_of tree i ≡ Some count) (omega arith) (each 0 count refl) in
    ap₂ ◌∷◌ (sym (ap (λ o. unwrap_or o 0) here))
    (counted tree counts groups (d + 1) (omega (arith, as_many))
    (λ i n at. subst (λ j. alternates_of tree j ≡ Some n) (omega arith) (each (suc i) n at)))

module _ (source : List ℕ) (prepared : Prepared) (accepted : IsPrepared source prepared) where
  pub groups_are : memberships (opening prepared.nested) ≡ groups_of accepted.tree
  groups_are = opened_groups prepared.nested.conversations.items ∙ accepted.conversations.groups

  -- its code stands for its tree
  pub made_for : IsCodeFor accepted.tree (code prepared.code)
  made_for = record {
    slots = accepted.slots;
    resolved = accepted.is_code.resolved;
    frames = accepted.is_code.frames;
    stands = accepted.is_code.stands;
  }

  -- and its image is that of the tree
  pub image_for : image_of (code prepared.code) (told_memberships prepared.nested) (alternates prepared.nested)
      ≡ image_of (code prepared.code) (groups_of accepted.tree) (counts_from accepted.tree 0 (groups_of accepted.tree))
  image_for =
      ap (λ groups. image_of (code prepared.code) groups (alternates prepared.nested)) accepted.conversations.groups
      ∙ ap (image_of (code prepared.code) (groups_of accepted.tree))
      (counted accepted.tree (alternates prepared.nested) (groups_of accepted.tree) 0 as_many
      (λ i n at. subst (λ (j : ℕ). alternates_of accepted.tree j ≡ Some n) (omega arith) (accepted.conversations.counts i n at)))
    where
      as_many : length (alternates prepared.nested) ≡ length (groups_of accepted.tree)
      as_many =
          length-map prepared.nested.conversations.items (λ (group : Group). group.alternates)
          ∙ sym (length-map prepared.nested.conversations.items membership_told) ∙ ap length accepted.conversations.groups

  pub is_sound : IsSound (code prepared.code) (memberships (opening prepared.nested)) (counts_of (opening prepared.nested))
  is_sound =
      subst (λ (groups : List Membership). IsSound (code prepared.code) groups (counts_of (opening prepared.nested))) (sym groups_are)
      (subst (IsSound (code prepared.code) (groups_of accepted.tree)) (sym (opened_counts prepared.nested)) accepted.is_code.sound)

  pub code_names_fit : NamesFit (code prepared.code) prepared.code.names
  code_names_fit = names_fit accepted.tree accepted.slots (code prepared.code) prepared.code.names accepted.is_code.stands refl

  pub runs_as_meant : (turns : List ℕ) → word_text (code prepared.code) (memberships (opening prepared.nested)) turns ≡ run_text accepted.tree turns
  runs_as_meant turns =
      text_as_meant (code prepared.code) (memberships (opening prepared.nested)) turns source accepted.tree accepted.slots
      accepted.accepted accepted.is_code.frames accepted.is_code.stands groups_are

  -- its survivors are those of the tree
  survivors_as_meant : (turns : List ℕ)
      → word_text_for Survivors (code prepared.code) (memberships (opening prepared.nested)) turns ≡ survivors_text accepted.tree turns
  survivors_as_meant turns =
      let c = code prepared.code in
      let groups = memberships (opening prepared.nested) in
      ap (λ (names : Naming). record_text names (word_survivors (word_run c groups turns).0)) accepted.is_code.stands.names_are
      ∙ ap (record_text (naming_of accepted.tree))
      (erased_over c groups turns source accepted.tree accepted.slots accepted.accepted accepted.is_code.frames accepted.is_code.stands groups_are).0

  -- and how it stands is how the tree does
  standing_as_meant : (turns : List ℕ)
      → word_standing_text (code prepared.code) (memberships (opening prepared.nested)) turns ≡ tree_standing_text accepted.tree turns
  standing_as_meant turns =
      ap (λ (groups : List Membership). word_standing_text (code prepared.code) groups turns) groups_are
      ∙ code_stands source accepted.tree accepted.slots (code prepared.code) accepted.accepted accepted.is_code.frames accepted.is_code.stands turns

  -- and so is what a session shows
  pub session_as_meant : (turns : List ℕ) (orders : List Order)
      → session_text (code prepared.code) (memberships (opening prepared.nested)) turns orders ≡ tree_session_text accepted.tree turns orders
  session_as_meant turns orders =
      ap (λ (groups : List Membership). session_text (code prepared.code) groups turns orders) groups_are
      ∙ session_agrees accepted.tree (code prepared.code) accepted.is_code.stands.names_are
      (accepted_code_agrees source accepted.tree accepted.slots (code prepared.code) accepted.accepted accepted.is_code.frames accepted.is_code.stands)
      turns orders

  -- so is the text of each command over a schedule
  pub texts_as_meant : (product : Product) (turns : List ℕ)
      → word_text_for product (code prepared.code) (memberships (opening prepared.nested)) turns ≡ text_for product accepted.tree turns
  texts_as_meant Text turns = runs_as_meant turns
  texts_as_meant Survivors turns = survivors_as_meant turns
  texts_as_meant Standing turns = standing_as_meant turns

  -- and it prints as many lines of each kind
  pub counts_as_meant : (turns : List ℕ)
      → word_counts (code prepared.code) (memberships (opening prepared.nested)) turns ≡ run_counts accepted.tree turns
  counts_as_meant turns =
      let c = code prepared.code in
      let tree = accepted.tree in
      let agrees : (turns : List ℕ) → Agrees tree c turns =
      accepted_code_agrees source tree accepted.slots c accepted.accepted accepted.is_code.frames accepted.is_code.stands in
      let first : told_at_opening (opening_of c (groups_of tree)) ≡ told_at_opening (opening_world tree) =
      ap (λ (events : List Event). record { kind = Took; events = events; released = [] })
      (same_finished 0 (opening_world tree).processes (opening_of c (groups_of tree)).processes (agrees []).as_many
      (λ p q r at_tree at_code. ((agrees []).processes p q r at_tree at_code).status)) in
      ap (λ (groups : List Membership). word_counts c groups turns) groups_are
      ∙ ap (λ (one : Told). told_counts (one ∷ (word_run c (groups_of tree) turns).1)) first
      ∙ ap (λ (all : List Told). told_counts (told_at_opening (opening_world tree) ∷ all)) (agrees turns).told
