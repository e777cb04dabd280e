-- Channels and conversations as the rules ask for them.
use Rattle.std.specs.Prelude.{ℕ, ◌+◌, true, not, cond, List, [], ◌∷◌, ◌++◌, Option}
use Rattle.std.specs.List.{list_any}
use Rattle.rb_base.specs.declared.fault.FaultName.TheVariants.{N6, N11}
use Rattle.rb_base.specs.declared.fault.SourceFault.{SourceFault}
use Rattle.rb_syntax.specs.declared.expression.Name.{Name}
use Rattle.rb_syntax.specs.Tree.{ConversationDeclaration, Tree}
use Rattle.rb_world.specs.Kind.{Ends as PlainEnds}
use Rattle.rb_meaning.specs.Environment.{same_name}
use Rattle.rb_meaning.specs.Groups.{membership_of, process_number}
use Rattle.rb_meaning.specs.Nesting.{alternates_of, is_member, uses_of}
use Rattle.rb_scope.specs.Rules.{where_broken}
use Rattle.rb_nest.specs.Rules.{joins_in}
use Rattle.rb_uses.specs.declared.ends.Ends.{Ends}
use Rattle.rb_uses.specs.declared.conversations.Facts.{Facts}

-- the ends of a channel without its size
abbrev pub ends_alone : PlainEnds → Ends
ends_alone ends = record { sender = ends.sender; receiver = ends.receiver }

-- members of which none stands twice, and one more
abbrev pub with_member : List ℕ → ℕ → List ℕ
with_member members p = cond (is_member p members) members (members ++ p ∷ [])

-- and so with others in turn
abbrev pub with_members : List ℕ → List ℕ → List ℕ
with_members members [] = members
with_members members (p ∷ others) = with_members (with_member members p) others

-- N11: a member is named again. N6: it never joins the conversation. Those named before stand the last first.
abbrev pub member_faults : Tree → List ℕ → List Name → Name → List SourceFault
member_faults tree conversation earlier name =
    cond (list_any (λ other. same_name other.text.now name.text.now) earlier)
    (where_broken true N11 name.place)
    (where_broken (not (list_any (joins_in (process_number tree name.text.now) conversation) (uses_of tree))) N6 name.place)

-- a conversation: its members, each once, its parent and its number of alternates
pub record Known : Type 0 where
  pub members : List ℕ
  pub parent : Option ℕ
  pub alternates : Option ℕ

abbrev pub known : Facts → Known
known facts = record { members = facts.members.items; parent = facts.parent; alternates = facts.alternates }

-- the conversation of this number
abbrev pub known_of : Tree → ℕ → ConversationDeclaration → Known
known_of tree c conversation = record {
  members = with_members [] (membership_of tree conversation).members;
  parent = (membership_of tree conversation).parent;
  alternates = alternates_of tree c;
}

-- conversations from this number on
abbrev pub known_from : Tree → ℕ → List ConversationDeclaration → List Known
known_from tree c [] = []
known_from tree c (conversation ∷ others) = known_of tree c conversation ∷ known_from tree (c + 1) others
