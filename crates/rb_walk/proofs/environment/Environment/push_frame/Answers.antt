use Rattle.std.proofs.Common.{◌≡◌, ◌+◌, ◌-◌, ◌∷◌, length, map, vec_len, refl, ap, ◌∙◌, arith, List}
use Rattle.std.proofs.lemmas.Result.{on_ok_weaker}
use Rattle.rb_syntax.specs.Plain.{declaration}
use Rattle.rb_meaning.specs.Environment.{Frame, frame_of, push_frame}
use Rattle.rb_walk.specs.Slots.{frame, frames_of}
use Rattle.rb_walk.proofs.Calls.{running_changed}
use Rattle.rb_walk.proofs.environment.Environment.push_frame.Goals as goal

pub returns : goal.returns
returns c =
    let calls = c.self.inside.calls.items in
    let n = vec_len c.self.inside.calls - 1 in
    let d = c.in-Some.call.now in
    let new = c.push.new.self in
    let slots = frame c.in_ok-frame.field-0.items in
    let zeroed = frame_of (map declaration c.args.variables.now) in
    let last : n + 1 ≡ length calls = omega (arith, c.self.inside.calls.ok.0, c.in-Some.ensures.variant.0 refl) in
    let inner = λ (frames : List Frame). zeroed ∷ frames in
    on_ok_weaker c.push.result
    (λ (e : frames_of new ≡ slots ∷ frames_of d).
    ap (λ cs. record { globals = frame c.self.inside.globals.items; calls = cs })
    (running_changed inner calls n d new last
    (e ∙ ap (λ s. s ∷ frames_of d) c.in_ok-frame.ensures ∙ ap (λ call. inner (frames_of call)) c.in-Some.ensures.value))
    ∙ ap (push_frame zeroed) c.self.view_is)
    c.push.ensures
