use Rattle.std.proofs.Common.{◌≡◌, ◌<◌, ◌∙◌, sym, ap, arith, length, Some, None}
use Rattle.rb_scope.specs.Memory.{held, place_from}
use Rattle.rb_scope.specs.Scopes.{declared_in}
use Rattle.rb_scope.proofs.Places.{absent, found, place_within}
use Rattle.rb_scope.proofs.scope.Scope.find.Goals as goal

pub index-requires : goal.index-requires
index-requires c =
    let x = c.args.name.now in
    let items = c.self.inside.declared.items in
    let place : place_from 0 x items ≡ Some c.in-Some.first.now = sym (c.self.invariant x) ∙ sym c.in-Some.ensures.value in
    let here : c.in-Some.first.now < length items = place_within x items c.in-Some.first.now place in
    omega (arith, here, c.self.inside.declared.ok)

pub returns-in-None : goal.returns-in-None
returns-in-None c =
    let x = c.args.name.now in
    let items = c.self.inside.declared.items in
    let place : place_from 0 x items ≡ None = sym (c.self.invariant x) ∙ sym c.in-None.ensures.value in
    absent x items place ∙ ap (declared_in x) c.self.view_is

pub returns-in-Some : goal.returns-in-Some
returns-in-Some c =
    let x = c.args.name.now in
    let items = c.self.inside.declared.items in
    let place : place_from 0 x items ≡ Some c.in-Some.first.now = sym (c.self.invariant x) ∙ sym c.in-Some.ensures.value in
    ap (λ d. Some (held d)) c.index.ensures ∙ found x items c.in-Some.first.now c.index.result.now place ∙ ap (declared_in x) c.self.view_is
