-- A name of the program's scope, in which each is declared once, has the number of its place among processes, channels or
-- conversations.
use Rattle.std.proofs.Common.{◌≡◌, ℕ, zero, suc, ◌+◌, ◌<◌, Bool, true, false, cond, List, [], ◌∷◌, map, position, Option, Some, None, refl, sym, ap, subst, ◌∙◌, add-zero, arith}
use Rattle.std.specs.List.{AllByRecursion, slice_get}
use Rattle.std.proofs.lemmas.Map.Keys.{IsDistinct-head, IsDistinct-tail}
use Rattle.std.proofs.lemmas.Option.{slice_get_within}
use Rattle.rb_syntax.specs.Tree.{ChannelDeclaration, ConversationDeclaration, Identifier, ProcessDeclaration, Tree}
use Rattle.rb_world.proofs.Members.PlaceFacts.{position_first}
use Rattle.rb_meaning.specs.Environment.{or_else, same_name}
use Rattle.rb_meaning.specs.Groups.{number_or_zero}
use Rattle.rb_scope.specs.FirstFault.{is_before}
use Rattle.rb_scope.specs.Limits.{AreDistinct, HasDistinctNames}
use Rattle.rb_scope.specs.Scopes.{Declared, channels_from, conversations_from, declared, declared_in, in_text_order, meaning_of, processes_from, program_scope, take_place}
use Rattle.rb_scope.specs.declared.slot.Slot.{Slot}
use Rattle.rb_scope.specs.declared.slot.Slot.TheVariants.{Process, Channel, Conversation}
use Rattle.rb_scope.proofs.EachSite.{all_append, all_weaker}
use Rattle.rb_scope.proofs.DistinctNames.{same_text}
use Rattle.rb_scope.proofs.Meanings.{IsMeant, MeansIt}

module _ {A : Type 0} (name : A → Identifier) where
  -- the texts of their names
  abbrev pub texts : List A → List (List ℕ)
  texts all = map (λ a. (name a).text) all

  -- a declaration of a row from this number on: that of one of these, with the number of its place
  abbrev IsOfRow : (ℕ → Slot) → List A → ℕ → Declared → Type 0
  IsOfRow slot all k one = (i : ℕ) × (a : A) × (slice_get all i ≡ Some a) × (one.slot ≡ slot (k + i)) × (one.name ≡ name a)

  row-right : (slot : ℕ → Slot) (row : ℕ → List A → List Declared) → ((k : ℕ) → row k [] ≡ [])
      → ((k : ℕ) (a : A) (all : List A) → row k (a ∷ all) ≡ declared (name a) (slot k) ∷ row (k + 1) all)
      → (k : ℕ) (all : List A) → AllByRecursion (IsOfRow slot all k) (row k all)
  row-right slot row none more k [] = subst (AllByRecursion (IsOfRow slot [] k)) (sym (none k)) tt
  row-right slot row none more k (a ∷ all) =
      subst (AllByRecursion (IsOfRow slot (a ∷ all) k)) (sym (more k a all)) (
        (zero, a, refl, ap slot (sym (add-zero k)), refl),
        all_weaker (IsOfRow slot all (k + 1)) (IsOfRow slot (a ∷ all) k) (row (k + 1) all) further
            (row-right slot row none more (k + 1) all),
      )
    where
      further : (one : Declared) → IsOfRow slot all (k + 1) one → IsOfRow slot (a ∷ all) k one
      further one there =
          let number : k + 1 + there.0 ≡ k + suc there.0 = omega arith in
          (suc there.0, there.1, there.2, there.3 ∙ ap slot number, there.4)

  -- distinct names
  differs : (x : List ℕ) (all : List A) (k : ℕ) (a : A) → AllByRecursion (λ y. same_name x y ≡ false) (texts all)
      → slice_get all k ≡ Some a → same_name x (name a).text ≡ false
  differs x [] k a apart e = absurd (cc)
  differs x (b ∷ all) zero a apart e =
      let same : b ≡ a = cc in ap (λ c. same_name x (name c).text) (sym same) ∙ apart.0
  differs x (b ∷ all) (suc k) a apart e = differs x all k a apart.1 e

  both-differ : (all : List A) (i k : ℕ) (a b : A) → AreDistinct (texts all) → i < k → slice_get all i ≡ Some a
      → slice_get all k ≡ Some b → same_name (name a).text (name b).text ≡ false
  both-differ [] i k a b distinct below e f = absurd (cc)
  both-differ (c ∷ all) i zero a b distinct below e f = absurd (omega arith)
  both-differ (c ∷ all) zero (suc k) a b distinct below e f =
      let same : c ≡ a = cc in
      ap (λ d. same_name (name d).text (name b).text) (sym same)
      ∙ differs (name c).text all k b (IsDistinct-head same_name (name c).text (texts all) distinct) f
  both-differ (c ∷ all) (suc i) (suc k) a b distinct below e f =
      both-differ all i k a b (IsDistinct-tail same_name (name c).text (texts all) distinct) (omega arith) e f

  -- the place of one by its name
  pub place : (all : List A) (k : ℕ) (a : A) (x : List ℕ) → AreDistinct (texts all) → slice_get all k ≡ Some a
      → same_name (name a).text x ≡ true → position (λ b. same_name (name b).text x) all ≡ Some k
  place all k a x distinct there named =
      position_first (λ b. same_name (name b).text x) all k a there named
      (λ i b below at.
      ap (same_name (name b).text) (sym (same_text (name a).text x named)) ∙ both-differ all i k b a distinct below at there)

-- a declaration is that of a process, a channel or a conversation of the program, with its number
abbrev pub IsOfProgram : Tree → Identifier → Slot → Type 0
IsOfProgram tree name (Process k) = (one : ProcessDeclaration) × (slice_get tree.processes k ≡ Some one) × (name ≡ one.name)
IsOfProgram tree name (Channel k) = (one : ChannelDeclaration) × (slice_get tree.channels k ≡ Some one) × (name ≡ one.name)
IsOfProgram tree name (Conversation k) = (one : ConversationDeclaration) × (slice_get tree.conversations k ≡ Some one) × (name ≡ one.name)
IsOfProgram tree name _ = ⊥

abbrev pub IsRight : Tree → Declared → Type 0
IsRight tree one = IsOfProgram tree one.name one.slot

module _ (tree : Tree) where
  process-right : (one : Declared) → IsOfRow (λ (p : ProcessDeclaration). p.name) Process tree.processes 0 one → IsRight tree one
  process-right one there =
      let slot : one.slot ≡ Process there.0 = there.3 ∙ ap Process (omega arith) in
      subst (IsOfProgram tree one.name) (sym slot) (there.1, there.2, there.4)

  processes-right : AllByRecursion (IsRight tree) (processes_from 0 tree.processes)
  processes-right =
      all_weaker _ (IsRight tree) (processes_from 0 tree.processes) process-right
      (row-right (λ (p : ProcessDeclaration). p.name) Process processes_from (λ k. refl) (λ k a all. refl) 0 tree.processes)

  channel-right : (one : Declared) → IsOfRow (λ (c : ChannelDeclaration). c.name) Channel tree.channels 0 one → IsRight tree one
  channel-right one there =
      let slot : one.slot ≡ Channel there.0 = there.3 ∙ ap Channel (omega arith) in
      subst (IsOfProgram tree one.name) (sym slot) (there.1, there.2, there.4)

  channels-right : AllByRecursion (IsRight tree) (channels_from 0 tree.channels)
  channels-right =
      all_weaker _ (IsRight tree) (channels_from 0 tree.channels) channel-right
      (row-right (λ (c : ChannelDeclaration). c.name) Channel channels_from (λ k. refl) (λ k a all. refl) 0 tree.channels)

  conversation-right : (one : Declared) → IsOfRow (λ (c : ConversationDeclaration). c.name) Conversation tree.conversations 0 one
      → IsRight tree one
  conversation-right one there =
      let slot : one.slot ≡ Conversation there.0 = there.3 ∙ ap Conversation (omega arith) in
      subst (IsOfProgram tree one.name) (sym slot) (there.1, there.2, there.4)

  conversations-right : AllByRecursion (IsRight tree) (conversations_from 0 tree.conversations)
  conversations-right =
      all_weaker _ (IsRight tree) (conversations_from 0 tree.conversations) conversation-right
      (row-right (λ (c : ConversationDeclaration). c.name) Conversation conversations_from (λ k. refl) (λ k a all. refl) 0
      tree.conversations)

-- declarations that take their places among others
all_placed : (P : Declared → Type 0) (one : Declared) (others : List Declared) → P one → AllByRecursion P others
    → AllByRecursion P (take_place one others)
all_placed P one [] h all = (h, tt)
all_placed P one (other ∷ others) h all = placed (is_before one.name.place other.name.place) (all_placed P one others h all.1)
  where
    placed : (before : Bool) → AllByRecursion P (take_place one others)
        → AllByRecursion P (cond before (one ∷ other ∷ others) (other ∷ take_place one others))
    placed true rest = (h, (all.0, all.1))
    placed false rest = (all.0, rest)

all_ordered : (P : Declared → Type 0) (more others : List Declared) → AllByRecursion P more → AllByRecursion P others
    → AllByRecursion P (in_text_order more others)
all_ordered P [] others p q = q
all_ordered P (one ∷ more) others p q = all_ordered P more (take_place one others) p.1 (all_placed P one others p.0 q)

program-right : (tree : Tree) → AllByRecursion (IsRight tree) (program_scope tree)
program-right tree =
    let conversations = conversations_from 0 tree.conversations in
    let channels = channels_from 0 tree.channels in
    all_append (IsRight tree) (in_text_order conversations channels) (processes_from 0 tree.processes)
    (all_ordered (IsRight tree) conversations channels (conversations-right tree) (channels-right tree)) (processes-right tree)

-- what is declared under a name has this name
declared_there : (P : Declared → Type 0) (x : List ℕ) (ds : List Declared) (one : Declared) → AllByRecursion P ds
    → declared_in x ds ≡ Some one → P one × (same_name one.name.text x ≡ true)
declared_there P x [] one all e = absurd (cc)
declared_there P x (first ∷ others) one all e = there (same_name first.name.text x) refl (declared_there P x others one all.1) e
  where
    there : (same : Bool) → same_name first.name.text x ≡ same
        → (declared_in x others ≡ Some one → P one × (same_name one.name.text x ≡ true))
        → cond same (Some first) (declared_in x others) ≡ Some one → P one × (same_name one.name.text x ≡ true)
    there true named later e =
        let is_it : first ≡ one = cc in subst (λ d. P d × (same_name d.name.text x ≡ true)) is_it (all.0, named)
    there false named later e = later e

-- so it means what the meaning finds
slot-means : (tree : Tree) (p : ℕ) (x : List ℕ) (name : Identifier) (slot : Slot) (n : ℕ) → HasDistinctNames tree
    → IsOfProgram tree name slot → same_name name.text x ≡ true → IsMeant tree p x None None slot n
slot-means tree p x name (Process k) n distinct there named =
    let named' = ap (λ (i : Identifier). same_name i.text x) (sym there.2) ∙ named in
    let at = place (λ (q : ProcessDeclaration). q.name) tree.processes k there.0 x distinct.processes there.1 named' in
    (ap number_or_zero at, slice_get_within tree.processes k there.0 there.1)
slot-means tree p x name (Channel k) n distinct there named =
    let named' = ap (λ (i : Identifier). same_name i.text x) (sym there.2) ∙ named in
    let at = place (λ (c : ChannelDeclaration). c.name) tree.channels k there.0 x distinct.channels there.1 named' in
    (ap number_or_zero at, slice_get_within tree.channels k there.0 there.1)
slot-means tree p x name (Conversation k) n distinct there named =
    let named' = ap (λ (i : Identifier). same_name i.text x) (sym there.2) ∙ named in
    let at = place (λ (c : ConversationDeclaration). c.name) tree.conversations k there.0 x distinct.conversations there.1 named' in
    (ap number_or_zero at, slice_get_within tree.conversations k there.0 there.1)
slot-means tree p x name other n distinct there named = absurd there

pub program_means : (tree : Tree) (p : ℕ) (x : List ℕ) → HasDistinctNames tree
    → MeansIt tree p x None None (meaning_of x (program_scope tree ∷ []))
program_means tree p x distinct = means (declared_in x (program_scope tree)) refl
  where
    means : (meaning : Option Declared) → declared_in x (program_scope tree) ≡ meaning → MeansIt tree p x None None (or_else meaning None)
    means None e = tt
    means (Some one) e =
        let there = declared_there (IsRight tree) x (program_scope tree) one (program-right tree) e in
        slot-means tree p x one.name one.slot one.parameters distinct there.0 there.1
