use Rattle.std.proofs.Common.{◌≡◌, ◌∙◌, sym, ap, slice_set, take, Some}
use Rattle.rb_base.specs.declared.fault.FaultName.TheVariants.{S2}
use Rattle.rb_scope.specs.Rules.{is_declared_twice, where_broken}
use Rattle.rb_scope.specs.Scopes.{Declared}
use Rattle.rb_scope.specs.Sites.{Declares}
use Rattle.rb_scope.specs.Finding.{Found, first_after, visit}
use Rattle.rb_scope.specs.Memory.{held}
use Rattle.rb_resolve.proofs.sites.declares.Goals as goal

same : (x y : Declared) → Some x ≡ Some y → x ≡ y
same x y e = cc

pub returns : goal.returns
unfolding visit
returns c = λ one e.
    let there = held c.at-one.result in
    let earlier = take c.args.place c.args.scope.now in
    let known : c.is_before-known.result ≡ is_declared_twice earlier there = c.is_before-known.ensures in
    let found : c.give.new.self ≡ visit c.args.finder.now (Declares earlier there) =
    c.give.ensures
    ∙ ap (λ (s : Found). record s { slots = slice_set s.slots there.name.id there.slot }) c.note.ensures
    ∙ ap (λ b. record c.args.finder.now {
      first =
          first_after c.args.finder.now.first (where_broken b S2 there.name.place);
      slots =
          slice_set c.args.finder.now.slots there.name.id there.slot;
    }) known
    in
    found ∙ ap (λ d. visit c.args.finder.now (Declares earlier d)) (same there one (sym c.at-one.ensures ∙ e))
