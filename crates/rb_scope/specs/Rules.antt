-- The rules of scopes and limits: for each site the rule that it may break, which is told as a fault at its place.
use Rattle.std.specs.Prelude.{ℕ, ◌+◌, nat_eq, nat_le, nat_lt, Bool, true, false, not, cond, ◌&&◌, List, [], ◌∷◌, Option, Some, None}
use Rattle.std.specs.List.{list_any, flat_map}
use Rattle.rb_base.specs.declared.place.Place.{Place}
use Rattle.rb_base.specs.declared.fault.SourceFault.{SourceFault}
use Rattle.rb_base.specs.declared.fault.FaultName.{FaultName}
use Rattle.rb_base.specs.declared.fault.FaultName.TheVariants.{S1, S2, S3, S4, S5, S6, S7, S8, S9, S10, S11}
use Rattle.rb_base.specs.declared.limits.TheConstants.{MOST_CHANNEL_SIZE, MOST_TURNS}
use Rattle.rb_syntax.specs.declared.expression.Number.{Number}
use Rattle.rb_syntax.specs.Tree.{Identifier, Tree}
use Rattle.rb_meaning.specs.Environment.{same_name, natural}
use Rattle.rb_scope.specs.Scopes.{Declared, is_array_size, meaning_of}
use Rattle.rb_scope.specs.declared.want.Want.{Want}
use Rattle.rb_scope.specs.declared.want.Want.TheVariants.{AProcess, AChannel, AConversation, AProcedure, AScalar, AnArray, AValue}
use Rattle.rb_scope.specs.Sites.{Site, Declares, Uses, Calls, LooksBack, Sizes, Lists, Channels, Bounds, Takes, Quantifies, tree_sites}
use Rattle.rb_scope.specs.declared.slot.Slot.{Slot}
use Rattle.rb_scope.specs.declared.slot.Slot.TheVariants.{Process, Channel, Conversation, Procedure, Global, Local, Counter}

-- a fault of this name at a place, where its rule is broken
abbrev pub where_broken : Bool → FaultName → Place → List SourceFault
where_broken broken name place = cond broken (record { name = name; place = place } ∷ []) []

-- a variable or a parameter fits where a scalar is wanted if it has no elements, and else where an array is
abbrev pub fits_size : Want → Option ℕ → Bool
fits_size AScalar None = true
fits_size AValue None = true
fits_size AnArray (Some n) = true
fits_size _ _ = false

-- What a name stands for fits its use. A quantified name fits where the value of a scalar is wanted, and nowhere else.
abbrev pub fits : Want → Slot → Bool
fits AProcess (Process k) = true
fits AChannel (Channel k) = true
fits AConversation (Conversation k) = true
fits AProcedure (Procedure k) = true
fits AValue (Counter k) = true
fits want (Global at size) = fits_size want size
fits want (Local at size) = fits_size want size
fits _ _ = false

-- S1: a name that is used has no declaration in any scope around it. S3: what it stands for does not fit its use.
abbrev pub misused : Want → Identifier → Option Declared → List SourceFault
misused want name None = where_broken true S1 name.place
misused want name (Some one) = where_broken (not (fits want one.slot)) S3 name.place

-- a declaration is one of this name
abbrev pub is_named : Identifier → Declared → Bool
is_named name one = same_name one.name.text name.text

-- S2: a name is declared a second time in its scope
abbrev pub is_declared_twice : List Declared → Declared → Bool
is_declared_twice earlier one = list_any (is_named one.name) earlier

-- S4: a procedure is called with another number of arguments than it has parameters
abbrev pub is_miscalled : ℕ → Option Declared → Bool
is_miscalled n None = false
is_miscalled n (Some one) = fits AProcedure one.slot && not (nat_eq one.parameters n)

-- a number is not from 1 to a greatest
abbrev pub is_outside : ℕ → Number → Bool
is_outside most number = not (nat_le 1 (natural number.value) && nat_le (natural number.value) most)

-- The rule of each site. S5: `prior` outside an acceptance test. S6: an array of no element, or of too many. S7: the first that
-- is too many in a list. S8, S9: a channel's size, a turn bound that is 0 or too great. S10: the first variable with which
-- those of a process take too many words. S11: a quantified expression within two others.
abbrev pub broken_at : Site → List SourceFault
broken_at (Declares earlier one) = where_broken (is_declared_twice earlier one) S2 one.name.place
broken_at (Uses want name scopes) = misused want name (meaning_of name.text scopes)
broken_at (Calls name n scopes) = where_broken (is_miscalled n (meaning_of name.text scopes)) S4 name.place
broken_at (LooksBack place in_test) = where_broken (not in_test) S5 place
broken_at (Sizes size) = where_broken (not (is_array_size (natural size.value))) S6 size.place
broken_at (Lists most before place) = where_broken (nat_eq before most) S7 place
broken_at (Channels size) = where_broken (is_outside MOST_CHANNEL_SIZE size) S8 size.place
broken_at (Bounds bound) = where_broken (is_outside MOST_TURNS bound) S9 bound.place
broken_at (Takes most before words place) = where_broken (nat_le before most && nat_lt most (before + words)) S10 place
broken_at (Quantifies around place) = where_broken (nat_le 2 around) S11 place

-- all faults of scopes and limits that a tree has
abbrev pub faults_of : Tree → List SourceFault
faults_of tree = flat_map broken_at (tree_sites tree)
