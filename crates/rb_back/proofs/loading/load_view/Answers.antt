-- A process more.
use Rattle.std.proofs.Common.{◌≡◌, ◌<◌, ◌≤◌, ◌++◌, [], ◌∷◌, List, ℤ, length, take, ap, sym, ◌∙◌, arith}
use Rattle.std.proofs.lemmas.List.{length-map, map-append, take_all}
use Rattle.rb_base.specs.declared.event.State.{State}
use Rattle.rb_base.specs.Lines.{belonging}
use Rattle.rb_cell.specs.Store.{Store}
use Rattle.rb_code.specs.declared.code.ProcessCode.{ProcessCode}
use Rattle.rb_back.specs.Picture.{words_in}
use Rattle.rb_back.proofs.Mixed.{belonging_there, take_next, told_long}
use Rattle.rb_back.proofs.loading.load_view.Goals as goal

pub loop-p-init : goal.loop-p-init
loop-p-init g c = record { states = c.in_ok-states.ensures.items; words = ap words_in c.in_ok-words.ensures.items }

pub state-requires : goal.state-requires
state-requires g c =
    let less : c.loop-p.p < length c.args.code.now.processes.items = omega (arith, c.loop-p-test.true, c.len-p-end.ensures) in
    omega (arith, less, c.requires.states)

pub load_words-requires : goal.load_words-requires
load_words-requires g c =
    told_long (g.M.Final.words c.args.machine.now) (λ (one : ProcessCode). one.words) c.args.code.now.processes.items c.loop-p.p c.index.result.now
    c.requires.words (omega (arith, c.loop-p-test.true, c.len-p-end.ensures)) c.index.ensures

pub loop-p-preserved : goal.loop-p-preserved
loop-p-preserved g c =
    let p = c.loop-p.p in
    let states = g.M.Final.states c.args.machine.now in
    let words = g.M.Final.words c.args.machine.now in
    let count : length words ≡ length c.args.code.now.processes.items =
    sym (length-map words length) ∙ ap length c.requires.words ∙ length-map c.args.code.now.processes.items (λ (one : ProcessCode). one.words) in
    let less : p < length words = omega (arith, count, c.loop-p-test.true, c.len-p-end.ensures) in
    record {
      states = c.in_ok-push.ensures.items ∙ ap (λ (xs : List State). xs ++ c.state.result ∷ []) c.loop-p.invariant.states
          ∙ sym (take_next states p c.state.result c.state.ensures);
      words = ap words_in c.in_ok-push-2.ensures.items
          ∙ map-append (λ (one : Store). one.words) c.loop-p.words.items (c.in_ok-load_words.field-0 ∷ [])
          ∙ ap (λ (xs : List (List ℤ)). xs ++ c.in_ok-load_words.field-0.words ∷ []) c.loop-p.invariant.words
          ∙ ap (λ (xs : List ℤ). take p words ++ xs ∷ []) c.in_ok-load_words.ensures
          ∙ sym (take_next words p (belonging words p) (belonging_there words p less));
    }

pub returns : goal.returns
returns g c =
    let states = g.M.Final.states c.args.machine.now in
    let words = g.M.Final.words c.args.machine.now in
    let count : length words ≡ length c.args.code.now.processes.items =
    sym (length-map words length) ∙ ap length c.requires.words ∙ length-map c.args.code.now.processes.items (λ (one : ProcessCode). one.words) in
    let all : length c.args.code.now.processes.items ≤ c.loop-p.p = omega (arith, c.loop-p-test.false, c.len-p-end.ensures) in
    let all_states : c.loop-p.states.items ≡ states = c.loop-p.invariant.states ∙ take_all c.loop-p.p states (omega (arith, all, c.requires.states)) in
    let all_words : words_in c.loop-p.words.items ≡ words = c.loop-p.invariant.words ∙ take_all c.loop-p.p words (omega (arith, all, count)) in
    λ i. record { states = all_states i; words = all_words i }
