-- The whole trace: its head, the opening, the turns and the ending, each as it was written.
use Rattle.std.proofs.Common.{◌≡◌, ℕ, false, List, [], ◌∷◌, ◌++◌, length, map, replicate, Option, refl, ap, sym, ◌∙◌, subst}
use Rattle.rb_base.specs.declared.event.Event.{Event}
use Rattle.rb_base.specs.declared.event.TurnKind.{TurnKind}
use Rattle.rb_base.specs.declared.names.Group.{Group}
use Rattle.rb_base.specs.declared.place.Place.{Place}
use Rattle.rb_conv.specs.Conversations.{memberships, opened, outsider}
use Rattle.rb_trace.specs.Naming.{naming}
use Rattle.rb_trace.specs.Report.{told_of}
use Rattle.rb_world.specs.Kind.{Membership}
use Rattle.rb_world.specs.Text.{Naming, end_text, told_text}
use Rattle.rb_world.specs.Turn.{Told, told_at_opening}
use Rattle.rb_code.specs.Instructions.Plain.{Code, code as plain}
use Rattle.rb_code.specs.WordMachine.WordRun.{opening_of, word_final, word_run}
use Rattle.rb_code.specs.declared.code.Code.{Code as Held}
use Rattle.rb_machine.specs.Machine.{Seen, opening_seen}
use Rattle.rb_recovery.specs.Worlds.{counts_of}
use Rattle.rb_changes.specs.Changes.{changes}
use Rattle.rb_picture.specs.Head.{head_of, head_text, meetings}
use Rattle.rb_picture.specs.Heads.{meeting}
use Rattle.rb_changes.specs.Noted.{WorldNoted}
use Rattle.rb_picture.specs.Trace.{back_text, before_opening, opening_text, turn_texts, word_reading}
use Rattle.rb_run.specs.Running.{NamesFit}
use Rattle.rb_run.proofs.RunWritten.{first_text, is_old}
use Rattle.rb_view.specs.Steady.{shown_now}
use Rattle.rb_view.proofs.Turning.{turns_shown}

-- conversations, as their table has them
members_same : (members : List ℕ) → members ≡ map (λ member. member.process) (map outsider members)
members_same [] = refl
members_same (m ∷ members) = ap (λ (others : List ℕ). m ∷ others) (members_same members)

meetings_same : (groups : List Group) → map meeting groups ≡ meetings (memberships (map opened groups)) (counts_of (map opened groups))
meetings_same [] = refl
meetings_same (group ∷ groups) =
    λ j. record { members = members_same group.members.items j; parent = group.parent; alternates = group.alternates } ∷ meetings_same groups j

pub head_is : (c : Code) (conversations : List Group) (n : ℕ) (all : List ℕ) → n ≡ length all
    → head_of c (map meeting conversations) n
    ≡ head_text c (memberships (map opened conversations)) (counts_of (map opened conversations)) (length all)
head_is c conversations n all counted = λ j. head_of c (meetings_same conversations j) (counted j)

-- A machine that was just loaded from a code and its conversations, and what follows from that.
pub record IsLoaded (old : Seen) (held : Held) (groups : List Membership) : Type 0 where
  pub loaded : old ≡ opening_seen (plain held) groups false old.most
  pub fresh : old ≡ opening_seen old.code old.groups false old.most
  pub code_is : old.code ≡ plain held
  pub groups_are : old.groups ≡ groups
  pub named : naming held.names ≡ old.code.names
  pub fit : NamesFit old.code held.names

pub loaded_from : (old : Seen) (held : Held) (groups : List Membership) → old ≡ opening_seen (plain held) groups false old.most
    → NamesFit (plain held) held.names → IsLoaded old held groups
loaded_from old held groups loaded fit =
    let code : old.code ≡ plain held = ap (λ (m : Seen). m.code) loaded in
    let same : old.groups ≡ groups = ap (λ (m : Seen). m.groups) loaded in
    record {
      loaded = loaded;
      fresh = loaded ∙ (λ j. opening_seen (sym code j) (sym same j) false old.most);
      code_is = code;
      groups_are = same;
      named = ap (λ (c : Code). c.names) (sym code);
      fit = subst (λ (c : Code). NamesFit c held.names) (sym code) fit;
    }

-- a turn of the kind of the opening put nothing back
kept_all : (told first : Told) (t : ℕ) (names : Naming) (was : WorldNoted) (m : Seen) → told ≡ first
    → back_text told.kind t names was (shown_now m) ≡ back_text first.kind t names was (shown_now m)
kept_all told first t names was m e = ap (λ (one : Told). back_text one.kind t names was (shown_now m)) e

module _ (old : Seen) (held : Held) (groups : List Membership) (l : IsLoaded old held groups) where
  pub before_here : (was : WorldNoted) → was ≡ before_opening (plain held) groups → was ≡ before_opening old.code old.groups
  before_here was before = before ∙ (λ j. before_opening (sym l.code_is j) (sym l.groups_are j))

  -- it is as it was once the lines of the opening were written
  pub still : (now : Seen) → now.waiting ≡ replicate (length old.waiting) [] → record now { waiting = [] } ≡ record old { waiting = [] } → now ≡ old
  still now none rest = is_old old false l.fresh held.names l.fit now none rest

  -- what is told before the first turn
  pub opening_is : (places : List (Option Place)) (was : WorldNoted) → was ≡ before_opening (plain held) groups → (kind : TurnKind) (events : List Event)
      → told_of kind events [] ≡ told_at_opening old.world
      → told_text (naming held.names) 0 (told_of kind events old.waiting)
      ++ (back_text kind 0 (naming held.names) was (shown_now old) ++ changes 0 (naming held.names) was (shown_now old))
      ≡ opening_text (word_reading (plain held) groups places) (naming held.names) (before_opening (plain held) groups) (opening_of (plain held) groups)
  opening_is places was before kind events told =
      let text = first_text old false l.fresh held.names l.fit l.named kind events told
      ∙ (λ j. told_text (l.code_is j).names 0 (told_at_opening (opening_of (l.code_is j) (l.groups_are j)))) in
      λ j. text j
      ++ (kept_all (told_of kind events []) (told_at_opening old.world) 0 (naming held.names) was old told j
      ++ changes 0 (naming held.names) (before j) (shown_now (l.loaded j)))

  -- of the turns
  pub turns_are : (places : List (Option Place)) (now : Seen) → now ≡ old → (left all : List ℕ) → left ≡ all
      → turns_shown (naming held.names) places now left
      ≡ turn_texts (word_reading (plain held) groups places) (naming held.names) 1 (opening_of (plain held) groups) all
  turns_are places now same left all whole = λ j. turns_shown (naming held.names) places ((same ∙ l.loaded) j) (whole j)

  -- and of the end
  pub end_is : (all : List ℕ) → end_text old.code.names (length all) (word_final old.code (word_run old.code old.groups all).0)
      ≡ end_text (naming held.names) (length all) (word_final (plain held) (word_run (plain held) groups all).0)
  end_is all = λ j. end_text (l.code_is j).names (length all) (word_final (l.code_is j) (word_run (l.code_is j) (l.groups_are j) all).0)
