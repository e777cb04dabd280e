-- The bridge to the laws of the meaning: what has no fault of nesting keeps each rule. A list that is two lists after another
-- is empty only where both are.
use Rattle.std.proofs.Common.{◌≡◌, Bool, true, false, not, List, [], ◌∷◌, ◌++◌, map, refl}
use Rattle.std.specs.List.{flat_map, list_all}
use Rattle.rb_base.specs.declared.fault.FaultName.{FaultName}
use Rattle.rb_base.specs.declared.fault.FaultName.TheVariants.{N1, N2, N3, N4, N5, N7, N8, N9, N10, N12}
use Rattle.rb_base.specs.declared.fault.SourceFault.{SourceFault}
use Rattle.rb_base.specs.declared.place.Place.{Place}
use Rattle.rb_syntax.specs.Tree.{ChannelDeclaration, Tree}
use Rattle.rb_meaning.specs.Groups.{ends_of}
use Rattle.rb_meaning.specs.Nesting.{Use, keeps_n1, keeps_n10, keeps_n12, keeps_n2, keeps_n4, keeps_n5, keeps_n8, keeps_n9, uses_of}
use Rattle.rb_meaning.proofs.Nesting.NestedProgram.{both_hold}
use Rattle.rb_scope.specs.Rules.{where_broken}
use Rattle.rb_scope.proofs.EachSite.{first-empty, second-empty}
use Rattle.rb_nest.specs.Laws.{AcceptedAreNested}
use Rattle.rb_nest.specs.Rules.{channel_faults, conversation_faults, keeps_n3, keeps_n7, use_faults, uses_faults}

-- a rule that gives no fault is kept
pub is_kept : (keeps : Bool) (name : FaultName) (place : Place) → where_broken (not keeps) name place ≡ [] → keeps ≡ true
is_kept true name place e = refl
is_kept false name place e = absurd (cc)

-- the first rule of several is kept, and the others give no fault
pub kept_before : (keeps : Bool) (name : FaultName) (place : Place) (faults : List SourceFault)
    → where_broken (not keeps) name place ++ faults ≡ [] → keeps ≡ true
kept_before keeps name place faults e = is_kept keeps name place (first-empty (where_broken (not keeps) name place) faults e)

pub none_after : (keeps : Bool) (name : FaultName) (place : Place) (faults : List SourceFault)
    → where_broken (not keeps) name place ++ faults ≡ [] → faults ≡ []
none_after keeps name place faults e = second-empty (where_broken (not keeps) name place) faults e

-- the rules that a use without a fault keeps
record IsKept (tree : Tree) (one : Use) : Type 0 where
  n1 : keeps_n1 tree one ≡ true
  n2 : keeps_n2 tree one ≡ true
  n4 : keeps_n4 tree one ≡ true
  n5 : keeps_n5 tree one ≡ true
  n8 : keeps_n8 tree one ≡ true
  n9 : keeps_n9 tree one ≡ true
  n10 : keeps_n10 tree one ≡ true

use_kept : (tree : Tree) (earlier : List Use) (one : Use) → use_faults tree earlier one ≡ [] → IsKept tree one
use_kept tree earlier one e =
    let e2 = none_after (keeps_n1 tree one) N1 one.name.place _ e in
    let e3 = none_after (keeps_n2 tree one) N2 one.name.place _ e2 in
    let e4 = none_after (keeps_n3 tree one) N3 one.name.place _ e3 in
    let e5 = none_after (keeps_n4 tree one) N4 one.name.place _ e4 in
    let e7 = none_after (keeps_n5 tree one) N5 one.name.place _ e5 in
    let e8 = none_after (keeps_n7 earlier one) N7 one.name.place _ e7 in
    let e9 = none_after (keeps_n8 tree one) N8 one.name.place _ e8 in
    let e10 = none_after (keeps_n9 tree one) N9 one.name.place _ e9 in
    record {
      n1 = kept_before (keeps_n1 tree one) N1 one.name.place _ e;
      n2 = kept_before (keeps_n2 tree one) N2 one.name.place _ e2;
      n4 = kept_before (keeps_n4 tree one) N4 one.name.place _ e4;
      n5 = kept_before (keeps_n5 tree one) N5 one.name.place _ e5;
      n8 = kept_before (keeps_n8 tree one) N8 one.name.place _ e8;
      n9 = kept_before (keeps_n9 tree one) N9 one.name.place _ e9;
      n10 = kept_before (keeps_n10 tree one) N10 one.name.place _ e10;
    }

-- a test of each use that follows from its rules holds of all
all_kept : (tree : Tree) (test : Use → Bool) (earlier uses : List Use) → ((one : Use) → IsKept tree one → test one ≡ true)
    → uses_faults tree earlier uses ≡ []
    → list_all test uses ≡ true
all_kept tree test earlier [] h e = refl
all_kept tree test earlier (one ∷ others) h e =
    both_hold (test one) (list_all test others)
    (h one (use_kept tree earlier one (first-empty (use_faults tree earlier one) (uses_faults tree (earlier ++ one ∷ []) others) e)))
    (all_kept tree test (earlier ++ one ∷ []) others h (second-empty (use_faults tree earlier one) (uses_faults tree (earlier ++ one ∷ []) others) e))

-- each channel leads from one process to another
channels_kept : (tree : Tree) (channels : List ChannelDeclaration) → flat_map (channel_faults tree) channels ≡ []
    → list_all keeps_n12 (map (ends_of tree) channels) ≡ true
channels_kept tree [] e = refl
channels_kept tree (channel ∷ channels) e =
    both_hold (keeps_n12 (ends_of tree channel)) (list_all keeps_n12 (map (ends_of tree) channels))
    (kept_before (keeps_n12 (ends_of tree channel)) N12 channel.receiver.place (flat_map (channel_faults tree) channels) e)
    (channels_kept tree channels (second-empty (channel_faults tree channel) (flat_map (channel_faults tree) channels) e))

pub accepted_are_nested : AcceptedAreNested
accepted_are_nested tree e =
    let after = second-empty (flat_map (channel_faults tree) tree.channels)
    (flat_map (conversation_faults tree) tree.conversations ++ uses_faults tree [] (uses_of tree)) e in
    let uses = second-empty (flat_map (conversation_faults tree) tree.conversations) (uses_faults tree [] (uses_of tree)) after in
    record {
      n1 = all_kept tree (keeps_n1 tree) [] (uses_of tree) (λ one kept. kept.n1) uses;
      n2 = all_kept tree (keeps_n2 tree) [] (uses_of tree) (λ one kept. kept.n2) uses;
      n4 = all_kept tree (keeps_n4 tree) [] (uses_of tree) (λ one kept. kept.n4) uses;
      n5 = all_kept tree (keeps_n5 tree) [] (uses_of tree) (λ one kept. kept.n5) uses;
      n8 = all_kept tree (keeps_n8 tree) [] (uses_of tree) (λ one kept. kept.n8) uses;
      n9 = all_kept tree (keeps_n9 tree) [] (uses_of tree) (λ one kept. kept.n9) uses;
      n10 = all_kept tree (keeps_n10 tree) [] (uses_of tree) (λ one kept. kept.n10) uses;
      n12 = channels_kept tree tree.channels
          (first-empty (flat_map (channel_faults tree) tree.channels)
          (flat_map (conversation_faults tree) tree.conversations ++ uses_faults tree [] (uses_of tree)) e);
    }
