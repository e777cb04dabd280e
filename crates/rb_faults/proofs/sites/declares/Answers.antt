use Rattle.std.proofs.Common.{◌≡◌, ◌++◌, ◌∙◌, sym, ap, subst, take, Some}
use Rattle.std.specs.Result.{OnOk}
use Rattle.rb_base.specs.declared.fault.FaultName.TheVariants.{S2}
use Rattle.rb_scope.specs.Rules.{is_declared_twice, where_broken}
use Rattle.rb_scope.specs.Scopes.{Declared}
use Rattle.rb_scope.specs.Sites.{Declares}
use Rattle.rb_scope.specs.Memory.{held}
use Rattle.rb_faults.specs.Finding.{visit}
use Rattle.rb_faults.proofs.sites.declares.Goals as goal

same : (x y : Declared) → Some x ≡ Some y → x ≡ y
same x y e = cc

pub returns : goal.returns
unfolding visit
returns c = λ one e.
    let there = held c.at-one.result in
    let earlier = take c.args.place c.args.scope.now in
    let known : c.is_before-known.result ≡ is_declared_twice earlier there = c.is_before-known.ensures in
    let found = ap (λ b. c.args.finder.now ++ where_broken b S2 there.name.place) known
    ∙ ap (λ d. visit c.args.finder.now (Declares earlier d)) (same there one (sym c.at-one.ensures ∙ e))
    in
    subst (λ after. OnOk c.note.result (c.note.new.self ≡ after)) found c.note.ensures
