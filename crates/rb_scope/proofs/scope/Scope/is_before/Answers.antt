use Rattle.std.proofs.Common.{◌≡◌, ◌∙◌, sym, ap, take, Some, None}
use Rattle.std.specs.List.{list_any}
use Rattle.rb_scope.specs.Memory.{place_from}
use Rattle.rb_scope.proofs.Places.{before, has_name, never}
use Rattle.rb_scope.proofs.scope.Scope.is_before.Goals as goal

pub returns-in-None : goal.returns-in-None
returns-in-None c =
    let x = c.args.name.now in
    let items = c.self.inside.declared.items in
    let place : place_from 0 x items ≡ None = sym (c.self.invariant x) ∙ sym c.in-None.ensures.value in
    never x items c.args.place place ∙ ap (λ sc. list_any (has_name x) (take c.args.place sc)) c.self.view_is

pub returns-in-Some : goal.returns-in-Some
returns-in-Some c =
    let x = c.args.name.now in
    let items = c.self.inside.declared.items in
    let place : place_from 0 x items ≡ Some c.in-Some.first.now = sym (c.self.invariant x) ∙ sym c.in-Some.ensures.value in
    before x items c.in-Some.first.now c.args.place place ∙ ap (λ sc. list_any (has_name x) (take c.args.place sc)) c.self.view_is
