-- The faults of uses, told of uses or of their summaries.
use Rattle.std.proofs.Common.{◌≡◌, Bool, true, false, not, cond, ◌&&◌, List, [], ◌∷◌, ◌++◌, map, nat_eq, Option, Some, None, slice_get, refl, sym, ap, ◌∙◌}
use Rattle.std.specs.List.{list_any}
use Rattle.rb_syntax.specs.Tree.{Identifier, Tree}
use Rattle.rb_world.specs.Kind.{Ends}
use Rattle.rb_meaning.specs.Environment.{same_name}
use Rattle.rb_meaning.specs.Groups.{channel_number, channels_of, conversation_of}
use Rattle.rb_meaning.specs.Nesting.{Deed, Joins, Sends, Receives, Spot, Use, innermost, speaks_inside}
use Rattle.rb_nest.specs.Rules.{joins_too, members_around, use_faults, uses_faults}
use Rattle.std.proofs.lemmas.List.{append-nil, map-append}
use Rattle.rb_uses.proofs.FirstAnswers.{any-joins, any-map}
use Rattle.rb_uses.specs.Summary.{Summary, deed_faults, is_join, joins_among, joins_like, members_within, speaks_within, summaries_faults, summary, with_join}

members-same : (tree : Tree) (around : Option Identifier) → members_within tree (conversation_of tree around) ≡ members_around tree around
members-same tree None = refl
members-same tree (Some name) = refl

speaks-same : (tree : Tree) (around : Option Identifier) (ends : Option Ends)
    → speaks_within tree (conversation_of tree around) ends ≡ speaks_inside tree around ends
speaks-same tree None ends = refl
speaks-same tree (Some name) ends = refl

twice-not : (b : Bool) → not (not b) ≡ b
twice-not true = refl
twice-not false = refl

-- the rules of a use
of-use : (tree : Tree) (earlier : List Use) (name : Identifier) (d : Deed) (spot : Spot)
    → deed_faults tree (list_any (joins_too (record { name = name; deed = d; spot = spot })) earlier)
    (summary tree (record { name = name; deed = d; spot = spot })) d
    ≡ use_faults tree earlier (record { name = name; deed = d; spot = spot })
of-use tree earlier name (Joins n) spot =
    rw (
      members-same tree (innermost spot.around),
      twice-not (list_any (joins_too (record { name = name; deed = Joins n; spot = spot })) earlier),
    ) refl
of-use tree earlier name Sends spot =
    rw (
      speaks-same tree (innermost spot.around) (slice_get (channels_of tree) (channel_number tree name.text)),
      twice-not spot.in_procedure,
      append-nil,
    ) refl
of-use tree earlier name Receives spot =
    rw (
      speaks-same tree (innermost spot.around) (slice_get (channels_of tree) (channel_number tree name.text)),
      twice-not spot.in_procedure,
      append-nil,
    ) refl

-- whether a `converse` for its conversation stands before it
like-too : (tree : Tree) (one : Use) (name : Identifier) (d : Deed) (spot : Spot)
    → joins_like (summary tree one) (summary tree (record { name = name; deed = d; spot = spot }))
    ≡ joins_too one (record { name = name; deed = d; spot = spot })
like-too tree one name (Joins n) spot = refl
like-too tree one name Sends spot = refl
like-too tree one name Receives spot = refl

none-like : (one other : Summary) → is_join other.deed ≡ false → joins_like one other ≡ false
none-like one other e = ap (λ b. b && (nat_eq one.process other.process && same_name one.name.text other.name.text)) e

again-same : (tree : Tree) (one : Use) (earlier : List Use)
    → list_any (joins_like (summary tree one)) (joins_among (map (summary tree) earlier)) ≡ list_any (joins_too one) earlier
again-same tree one earlier =
    any-joins (joins_like (summary tree one)) (none-like (summary tree one)) (map (summary tree) earlier)
    ∙ any-map (joins_like (summary tree one)) (joins_too one) (summary tree) (λ other. like-too tree one other.name other.deed other.spot) earlier

-- one use more
cons-cond : {A : Type 0} (b : Bool) (x : A) (xs ys : List A) → cond b (x ∷ xs) (x ∷ ys) ≡ x ∷ cond b xs ys
cons-cond true x xs ys = refl
cons-cond false x xs ys = refl

more-step : (b : Bool) (x one : Summary) (js ks : List Summary) → with_join js one ≡ ks → with_join (cond b (x ∷ js) js) one ≡ cond b (x ∷ ks) ks
more-step true x one js ks e = cons-cond (is_join one.deed) x (js ++ one ∷ []) js ∙ ap (λ ys. x ∷ ys) e
more-step false x one js ks e = e

joins-more : (xs : List Summary) (one : Summary) → with_join (joins_among xs) one ≡ joins_among (xs ++ one ∷ [])
joins-more [] one = refl
joins-more (x ∷ xs) one = more-step (is_join x.deed) x one (joins_among xs) (joins_among (xs ++ one ∷ [])) (joins-more xs one)

told-more : (tree : Tree) (earlier : List Use) (one : Use)
    → with_join (joins_among (map (summary tree) earlier)) (summary tree one) ≡ joins_among (map (summary tree) (earlier ++ one ∷ []))
told-more tree earlier one =
    joins-more (map (summary tree) earlier) (summary tree one)
    ∙ ap joins_among (sym (map-append (summary tree) earlier (one ∷ [])))

pub all_faults : (tree : Tree) (earlier uses : List Use)
    → summaries_faults tree (joins_among (map (summary tree) earlier)) (map (summary tree) uses) ≡ uses_faults tree earlier uses
all_faults tree earlier [] = refl
all_faults tree earlier (one ∷ others) =
    let told = summary tree one in
    let joins = joins_among (map (summary tree) earlier) in
    let rest = λ (js : List Summary). summaries_faults tree js (map (summary tree) others) in
    ap (λ b. deed_faults tree b told one.deed ++ rest (with_join joins told)) (again-same tree one earlier)
    ∙ ap (λ faults. faults ++ rest (with_join joins told)) (of-use tree earlier one.name one.deed one.spot)
    ∙ ap (λ js. use_faults tree earlier one ++ rest js) (told-more tree earlier one)
    ∙ ap (λ faults. use_faults tree earlier one ++ faults) (all_faults tree (earlier ++ one ∷ []) others)
