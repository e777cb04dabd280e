use Rattle.std.proofs.Common.{◌≡◌, ◌+◌, ◌-◌, get_or, length, map, reverse, vec_len, w64, refl, sym, ap, ◌∙◌, rules, arith}
use Rattle.std.specs.List.{list_any}
use Rattle.std.specs.Vec.{with_items}
use Rattle.std.proofs.lemmas.Int.{to_z-of_z}
use Rattle.rb_meaning.specs.Environment.{has, running_frames, stored_among}
use Rattle.rb_walk.specs.declared.frames.Call.{Call}
use Rattle.rb_walk.specs.Slots.{frames_of, calls_of}
use Rattle.rb_walk.proofs.Innermost.{frame_in}
use Rattle.rb_walk.proofs.Calls.{running_first, running_changed, told, frames_written}
use Rattle.rb_walk.proofs.environment.set_running.Goals as goal

pub returns-in-Some-clause-after : goal.returns-in-Some-clause-after
returns-in-Some-clause-after c =
    let x = c.args.name.now in
    let i = c.args.index in
    let v = c.args.value in
    let calls = c.args.calls.now.items in
    let n = vec_len c.args.calls.now - 1 in
    let d = c.in-Some.call.now in
    let new : Call = record { frames = with_items d.frames c.set_among.new.frames } in
    let lent = c.deref_mut.ensures.value in
    let is = c.in-Some.ensures.value in
    let last : n + 1 ≡ length calls = omega (arith, c.args.calls.now.ok.0, c.in-Some.ensures.variant.0 refl) in
    let changed : frames_of new ≡ stored_among x i v (frames_of (get_or calls n d)) =
    frames_written d.frames c.deref_mut.result.now c.set_among.new.frames lent c.set_among.auto.frames
    ∙ c.set_among.ensures.after
    ∙ ap (λ w. stored_among x i w (reverse (map frame_in c.deref_mut.result.now))) (to_z-of_z w64 v (search rules))
    ∙ ap (λ frames. stored_among x i v (reverse (map frame_in frames))) lent
    ∙ ap (λ call. stored_among x i v (frames_of call)) is in
    let found : c.set_among.result ≡ list_any (has x) (running_frames (calls_of calls)) =
    c.set_among.ensures.found
    ∙ ap (λ frames. list_any (has x) (reverse (map frame_in frames))) lent
    ∙ ap (λ call. list_any (has x) (frames_of call)) is
    ∙ sym (ap (λ cs. list_any (has x) (running_frames cs)) (running_first calls n d last)) in
    running_changed (stored_among x i v) calls n d new last changed ∙ told c.set_among.result x i v (calls_of calls) found
