-- The laws of scopes.
use Rattle.std.proofs.Common.{ℕ, zero, suc, true, List, Option, Some, None, refl, sym, ◌∙◌, get_or}
use Rattle.rb_base.specs.declared.fault.FaultName.{FaultName}
use Rattle.rb_base.specs.declared.fault.FaultName.TheVariants.{S1, S2, S3, S4, S5, S6, S7, S8, S9, S10, S11}
use Rattle.rb_scope.specs.Laws.{AreJudged, HaveOneFirst, SlotsAreDetermined, AgreeAt, AgreeOn}
use Rattle.rb_scope.specs.Rules.{broken_at, faults_of, misused}
use Rattle.rb_scope.specs.Scopes.{Declared, meaning_of}
use Rattle.rb_scope.specs.Sites.{Site, Declares, Uses, Calls, LooksBack, Sizes, Lists, Channels, Bounds, Takes, Quantifies, tree_sites}
use Rattle.rb_scope.specs.Slots.{HasItsSlot, StandsFor}
use Rattle.rb_scope.specs.declared.slot.Slot.{Slot}
use Rattle.rb_scope.proofs.OneFirst.{AreNamed, judged, named_flat, named_where, one_first}

pub are_judged : AreJudged
are_judged tree = judged (faults_of tree)

-- the fault of scopes and limits of this number
abbrev pub name_of : ℕ → FaultName
name_of (suc zero) = S1
name_of (suc (suc zero)) = S2
name_of (suc (suc (suc zero))) = S3
name_of (suc (suc (suc (suc zero)))) = S4
name_of (suc (suc (suc (suc (suc zero))))) = S5
name_of (suc (suc (suc (suc (suc (suc zero)))))) = S6
name_of (suc (suc (suc (suc (suc (suc (suc zero))))))) = S7
name_of (suc (suc (suc (suc (suc (suc (suc (suc zero)))))))) = S8
name_of (suc (suc (suc (suc (suc (suc (suc (suc (suc zero))))))))) = S9
name_of (suc (suc (suc (suc (suc (suc (suc (suc (suc (suc zero)))))))))) = S10
name_of _ = S11

named_misused : (want : _) (name : _) (meaning : Option Declared) → AreNamed name_of (misused want name meaning)
named_misused want name None = named_where name_of true S1 name.place refl
named_misused want name (Some one) = named_where name_of _ S3 name.place refl

named_site : (site : Site) → AreNamed name_of (broken_at site)
named_site (Declares earlier one) = named_where name_of _ S2 one.name.place refl
named_site (Uses want name scopes) = named_misused want name (meaning_of name.text scopes)
named_site (Calls name n scopes) = named_where name_of _ S4 name.place refl
named_site (LooksBack place in_test) = named_where name_of _ S5 place refl
named_site (Sizes size) = named_where name_of _ S6 size.place refl
named_site (Lists most before place) = named_where name_of _ S7 place refl
named_site (Channels size) = named_where name_of _ S8 size.place refl
named_site (Bounds bound) = named_where name_of _ S9 bound.place refl
named_site (Takes most before words place) = named_where name_of _ S10 place refl
named_site (Quantifies around place) = named_where name_of _ S11 place refl

pub have_one_first : HaveOneFirst
have_one_first tree fault other f g =
    one_first name_of (faults_of tree) fault other (named_flat name_of broken_at (tree_sites tree) named_site) f g

agree-on : (slots others : List Slot) (id : ℕ) (meaning : Option Declared) → StandsFor slots id meaning
    → StandsFor others id meaning → AgreeOn slots others id meaning
agree-on slots others id None a b = tt
agree-on slots others id (Some one) a b = a ∙ sym b

agree-at : (slots others : List Slot) (site : Site) → HasItsSlot slots site → HasItsSlot others site → AgreeAt slots others site
agree-at slots others (Declares earlier one) a b = agree-on slots others one.name.id (Some one) a b
agree-at slots others (Uses want name scopes) a b = agree-on slots others name.id (meaning_of name.text scopes) a b
agree-at slots others (Calls name n scopes) a b = tt
agree-at slots others (LooksBack place in_test) a b = tt
agree-at slots others (Sizes size) a b = tt
agree-at slots others (Lists most before place) a b = tt
agree-at slots others (Channels size) a b = tt
agree-at slots others (Bounds bound) a b = tt
agree-at slots others (Takes most before words place) a b = tt
agree-at slots others (Quantifies around place) a b = tt

pub slots_are_determined : SlotsAreDetermined
slots_are_determined tree slots others a b = λ k d h. agree-at slots others (get_or (tree_sites tree) k d) (a.each k d h) (b.each k d h)
