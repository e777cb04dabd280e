use Rattle.std.proofs.Common.{◌≡◌, ◌↔◌, IsTrue, List, length, ℕ, Some, map, refl, slice_get, subst, sym, ap, ◌∙◌, arith}
use Rattle.std.proofs.lemmas.Bool.{false≢true}
use Rattle.std.proofs.lemmas.Option.{slice_get_read}
use Rattle.rb_code.specs.declared.code.ChannelCode.{ChannelCode}
use Rattle.rb_code.specs.declared.code.ProcessCode.{ProcessCode}
use Rattle.rb_code.specs.Agreement.StandsFor.{channels_from}
use Rattle.rb_code.specs.Instructions.Plain.{channel as plain_channel}
use Rattle.rb_lists.proofs.Listed.{Lists, list_all_theirs, lists_at, lists_more}
use Rattle.rb_lists.proofs.channels.are_listed.Goals as goal
use Rattle.rb_lists.proofs.channels.are_listed.Goals.{After-lists}

-- the process is the one of this number, and the test tells of it
there : (c : After-lists) → slice_get c.args.code.now.processes.items c.loop-number.number ≡ Some c.process-item.result
there c =
    let same = ap (λ (processes : List ProcessCode). slice_get processes c.loop-number.number) c.deref-process-items.ensures.value in
    sym same
    ∙ slice_get_read c.deref-process-items.result.now _ c.loop-number.number c.process-item.result refl c.loop-number-test.true c.process-item.is

tells : (c : After-lists) → IsTrue c.lists.result ↔ Lists c.args.code.now c.loop-number.number c.process-item.result
tells c =
    let Says : List ℕ → List ChannelCode → Type 0 =
    λ listed channels. IsTrue c.lists.result ↔ (listed ≡ channels_from c.loop-number.number 0 (map plain_channel channels)) in
    subst (λ (channels : List ChannelCode). Says c.process-item.result.channels.items channels) c.deref-in-loop-number.ensures.value
    (subst (λ (listed : List ℕ). Says listed c.deref-in-loop-number.result.now) c.deref.ensures.value c.lists.ensures)

pub returns-then-not-lists : goal.returns-then-not-lists
returns-then-not-lists c =
    let at = (goal.at.returns-then-not-lists c).After-lists in (
      (λ e. absurd (false≢true e)),
      (λ lists. sym c.if-not-lists.true ∙ (tells at).1 (lists_at c.args.code.now c.loop-number.number c.process-item.result (there at) lists)),
    )

pub loop-number-preserved : goal.loop-number-preserved
loop-number-preserved c =
    let at = (goal.at.loop-number-preserved c).After-lists in
    lists_more c.args.code.now c.loop-number.number c.process-item.result (there at) c.loop-number.invariant ((tells at).0 c.if-not-lists.false)

pub returns : goal.returns
returns c = (
  (λ e. list_all_theirs c.args.code.now c.loop-number.number
      (omega (arith, ap (length {A = ProcessCode}) c.deref-process-items.ensures.value)) c.loop-number.invariant),
  (λ _. refl),
)
