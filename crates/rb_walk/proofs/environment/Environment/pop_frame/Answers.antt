use Rattle.std.proofs.Common.{◌≡◌, ◌+◌, ◌-◌, get_or, length, vec_len, refl, ap, ◌∙◌, arith}
use Rattle.rb_meaning.specs.Environment.{pop_frame, rest_of}
use Rattle.rb_walk.specs.Slots.{frame, frames_of}
use Rattle.rb_walk.proofs.Calls.{running_changed}
use Rattle.rb_walk.proofs.environment.Environment.pop_frame.Goals as goal

pub returns : goal.returns
returns c =
    let calls = c.self.inside.calls.items in
    let n = vec_len c.self.inside.calls - 1 in
    let d = c.in-Some.call.now in
    let last : n + 1 ≡ length calls = omega (arith, c.self.inside.calls.ok.0, c.in-Some.ensures.variant.0 refl) in
    let changed : frames_of c.pop.new.self ≡ rest_of (frames_of (get_or calls n d)) =
    c.pop.ensures ∙ ap (λ call. rest_of (frames_of call)) c.in-Some.ensures.value in
    ap (λ cs. record { globals = frame c.self.inside.globals.items; calls = cs }) (running_changed rest_of calls n d c.pop.new.self last changed)
    ∙ ap pop_frame c.self.view_is
