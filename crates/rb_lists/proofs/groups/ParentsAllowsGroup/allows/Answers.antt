use Rattle.std.proofs.Common.{◌≡◌, ◌↔◌, IsTrue, List, ℕ, Some, map, slice_get, refl, sym, ap, subst, ◌∙◌}
use Rattle.std.specs.List.{All}
use Rattle.std.proofs.lemmas.Option.{slice_get-map, slice_get_read}
use Rattle.std.specs.Option.{option_map}
use Rattle.rb_world.proofs.ListFacts.{none_some}
use Rattle.rb_nest.specs.Groups.{membership}
use Rattle.rb_code.specs.SoundCode.Sound.{IsMember}
use Rattle.rb_lists.proofs.Differing.{tells_parent}
use Rattle.rb_lists.proofs.Each.{tells_same}
use Rattle.rb_lists.proofs.groups.ParentsAllowsGroup.allows.Goals as goal

pub returns-in-Some-get : goal.returns-in-Some-get
returns-in-Some-get c =
    let groups = c.args.self.now.0.now in
    let around = c.in-Some-get.around.now in
    let there : slice_get groups c.in-Some.parent ≡ Some around =
    slice_get_read groups _ c.in-Some.parent around refl c.in-Some-get.ensures.lookup.3.0 c.in-Some-get.ensures.lookup.1 in
    let members =
    subst (λ (ms : List ℕ). IsTrue c.all_allowed.result ↔ All (λ (m : ℕ). IsMember m ms) c.deref-in-Some-get.result.now)
    c.deref.ensures.value c.all_allowed.ensures in
    tells_parent (map membership groups) (membership c.args.group.now) (membership around) c.in-Some.parent c.all_allowed.result
    c.in-Some.is
    (slice_get-map membership groups c.in-Some.parent ∙ ap (option_map membership) there)
    (tells_same (λ (m : ℕ). IsMember m around.members.items) _ _ _ c.deref-in-Some-get.ensures.value members)

pub returns-in-None : goal.returns-in-None
returns-in-None c = ((λ _. record { parent = λ d at. absurd (none_some (sym c.in-None.is ∙ at)) }), (λ _. refl))
