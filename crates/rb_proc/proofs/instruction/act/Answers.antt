use Rattle.std.proofs.Common.{◌≡◌, ℕ, ◌+◌, ◌*◌, ◌<◌, ◌≤◌, ℤ, pos, ◌∷◌, length, slice_get, refl, ap, sym, ◌∙◌, subst, arith, rules, w64}
use Rattle.std.proofs.lemmas.Int.{to_z-of_z}
use Rattle.rb_meaning.specs.Environment.{natural}
use Rattle.rb_world.specs.Slots.{Slots}
use Rattle.rb_world.specs.World.{copy_of, last_of}
use Rattle.rb_code.specs.Instructions.Plain.{code as plain}
use Rattle.rb_code.specs.WordMachine.Workspace.{word_at, written}
use Rattle.rb_code.specs.WordMachine.Act.{Going, act as acted, alternate_address, if_there, on_top}
use Rattle.rb_code.specs.WordMachine.Turn.{prior_words}
use Rattle.rb_code.specs.SoundCode.Safe.{HasTop, IsThere, Ready}
use Rattle.rb_code.specs.declared.instr.Instr.{Instr}
use Rattle.rb_operands.specs.declared.next.Next.{Next}
use Rattle.rb_operands.specs.declared.next.Next.TheVariants as next
use Rattle.rb_recoverable.specs.Contents.{Contents}
use Rattle.rb_proc.specs.Outcomes.{Keeps, pieces_in, whole}
use Rattle.rb_proc.specs.Sees.{see_of}
use Rattle.rb_proc.specs.Work.{named}
use Rattle.rb_proc.proofs.instruction.act.Goals as goal

-- where nothing was changed all is kept
stays : (answer : Next) (r : Contents) (slots : Slots) → Keeps answer r r slots slots
stays (next.Go b) r slots = (refl, refl)
stays (next.Holds holds) r slots = (refl, refl)
stays next.Stop r slots = (refl, refl)
stays (next.Accepts b) r slots = (refl, refl)
stays (next.Trap cause) r slots = (refl, refl)

pub push-requires-clause-room : goal.push-requires-clause-room
push-requires-clause-room g c =
    let code = plain c.args.code.now in let see = see_of c.args.sight.now c.args.memory.now.levels in
    let m = whole code.texts c.args.bench.now c.args.memory.now c.args.mails.now in
    subst (λ (i : Instr). Ready code see i c.args.operands.now m) c.in-Push.is c.requires.ready

pub load-requires-clause-room : goal.load-requires-clause-room
load-requires-clause-room g c =
    let code = plain c.args.code.now in let see = see_of c.args.sight.now c.args.memory.now.levels in
    let m = whole code.texts c.args.bench.now c.args.memory.now c.args.mails.now in
    let ready = subst (λ (i : Instr). Ready code see i c.args.operands.now m) c.in-Load.is c.requires.ready in ready.0

pub load-requires-clause-there : goal.load-requires-clause-there
load-requires-clause-there g c =
    let code = plain c.args.code.now in let see = see_of c.args.sight.now c.args.memory.now.levels in
    let m = whole code.texts c.args.bench.now c.args.memory.now c.args.mails.now in
    let ready = subst (λ (i : Instr). Ready code see i c.args.operands.now m) c.in-Load.is c.requires.ready in
    subst (λ (k : ℕ). k < length c.args.memory.now.words) (sym c.place.ensures.place) ready.1

pub prior-requires-clause-room : goal.prior-requires-clause-room
prior-requires-clause-room g c =
    let code = plain c.args.code.now in let see = see_of c.args.sight.now c.args.memory.now.levels in
    let m = whole code.texts c.args.bench.now c.args.memory.now c.args.mails.now in
    let ready = subst (λ (i : Instr). Ready code see i c.args.operands.now m) c.in-Prior.is c.requires.ready in ready.0

pub prior-requires-clause-there : goal.prior-requires-clause-there
prior-requires-clause-there g c =
    let code = plain c.args.code.now in let see = see_of c.args.sight.now c.args.memory.now.levels in
    let m = whole code.texts c.args.bench.now c.args.memory.now c.args.mails.now in
    let ready = subst (λ (i : Instr). Ready code see i c.args.operands.now m) c.in-Prior.is c.requires.ready in
    subst (λ (k : ℕ). k < length (prior_words (copy_of (last_of c.args.memory.now.levels)))) (sym c.place-in-Prior.ensures.place) ready.1

pub store-requires-clause-one : goal.store-requires-clause-one
store-requires-clause-one g c =
    let code = plain c.args.code.now in let see = see_of c.args.sight.now c.args.memory.now.levels in
    let m = whole code.texts c.args.bench.now c.args.memory.now c.args.mails.now in
    let ready = subst (λ (i : Instr). Ready code see i c.args.operands.now m) c.in-Store.is c.requires.ready in ready.0

pub store-requires-clause-there : goal.store-requires-clause-there
store-requires-clause-there g c =
    let code = plain c.args.code.now in let see = see_of c.args.sight.now c.args.memory.now.levels in
    let m = whole code.texts c.args.bench.now c.args.memory.now c.args.mails.now in
    let ready = subst (λ (i : Instr). Ready code see i c.args.operands.now m) c.in-Store.is c.requires.ready in
    subst (λ (k : ℕ). k < length c.args.memory.now.words) (sym c.place-in-Store.ensures.place) ready.1

pub load_at-requires-clause-there : goal.load_at-requires-clause-there
load_at-requires-clause-there g c =
    let code = plain c.args.code.now in let see = see_of c.args.sight.now c.args.memory.now.levels in
    let m = whole code.texts c.args.bench.now c.args.memory.now c.args.mails.now in
    subst (λ (k : ℕ). HasTop c.args.operands.now (λ i rest. (n : ℕ) × (i ≡ pos n) × (k + n < length c.args.memory.now.words))) (sym c.place-in-LoadAt.ensures.place)
    (subst (λ (i : Instr). Ready code see i c.args.operands.now m) c.in-LoadAt.is c.requires.ready)

pub prior_at-requires-clause-there : goal.prior_at-requires-clause-there
prior_at-requires-clause-there g c =
    let code = plain c.args.code.now in let see = see_of c.args.sight.now c.args.memory.now.levels in
    let m = whole code.texts c.args.bench.now c.args.memory.now c.args.mails.now in
    subst (λ (k : ℕ). HasTop c.args.operands.now (λ i rest. (n : ℕ) × (i ≡ pos n) × (k + n < length (prior_words (copy_of (last_of c.args.memory.now.levels)))))) (sym c.place-in-PriorAt.ensures.place)
    (subst (λ (i : Instr). Ready code see i c.args.operands.now m) c.in-PriorAt.is c.requires.ready)

pub store_at-requires-clause-there : goal.store_at-requires-clause-there
store_at-requires-clause-there g c =
    let code = plain c.args.code.now in let see = see_of c.args.sight.now c.args.memory.now.levels in
    let m = whole code.texts c.args.bench.now c.args.memory.now c.args.mails.now in
    subst (λ (k : ℕ). HasTop c.args.operands.now (λ x st. HasTop st (λ i rest. (n : ℕ) × (i ≡ pos n) × (k + n < length c.args.memory.now.words)))) (sym c.place-in-StoreAt.ensures.place)
    (subst (λ (i : Instr). Ready code see i c.args.operands.now m) c.in-StoreAt.is c.requires.ready)

pub bound-requires-clause-one : goal.bound-requires-clause-one
bound-requires-clause-one g c =
    let code = plain c.args.code.now in let see = see_of c.args.sight.now c.args.memory.now.levels in
    let m = whole code.texts c.args.bench.now c.args.memory.now c.args.mails.now in
    subst (λ (i : Instr). Ready code see i c.args.operands.now m) c.in-Bound.is c.requires.ready

pub operate-requires-clause-two : goal.operate-requires-clause-two
operate-requires-clause-two g c =
    let code = plain c.args.code.now in let see = see_of c.args.sight.now c.args.memory.now.levels in
    let m = whole code.texts c.args.bench.now c.args.memory.now c.args.mails.now in
    subst (λ (i : Instr). Ready code see i c.args.operands.now m) c.in-Add.is c.requires.ready

pub operate-requires-in-Sub-clause-two : goal.operate-requires-in-Sub-clause-two
operate-requires-in-Sub-clause-two g c =
    let code = plain c.args.code.now in let see = see_of c.args.sight.now c.args.memory.now.levels in
    let m = whole code.texts c.args.bench.now c.args.memory.now c.args.mails.now in
    subst (λ (i : Instr). Ready code see i c.args.operands.now m) c.in-Sub.is c.requires.ready

pub compare-requires-clause-two : goal.compare-requires-clause-two
compare-requires-clause-two g c =
    let code = plain c.args.code.now in let see = see_of c.args.sight.now c.args.memory.now.levels in
    let m = whole code.texts c.args.bench.now c.args.memory.now c.args.mails.now in
    subst (λ (i : Instr). Ready code see i c.args.operands.now m) c.in-Eq.is c.requires.ready

pub compare-requires-in-Ne-clause-two : goal.compare-requires-in-Ne-clause-two
compare-requires-in-Ne-clause-two g c =
    let code = plain c.args.code.now in let see = see_of c.args.sight.now c.args.memory.now.levels in
    let m = whole code.texts c.args.bench.now c.args.memory.now c.args.mails.now in
    subst (λ (i : Instr). Ready code see i c.args.operands.now m) c.in-Ne.is c.requires.ready

pub compare-requires-in-Lt-clause-two : goal.compare-requires-in-Lt-clause-two
compare-requires-in-Lt-clause-two g c =
    let code = plain c.args.code.now in let see = see_of c.args.sight.now c.args.memory.now.levels in
    let m = whole code.texts c.args.bench.now c.args.memory.now c.args.mails.now in
    subst (λ (i : Instr). Ready code see i c.args.operands.now m) c.in-Lt.is c.requires.ready

pub compare-requires-in-Le-clause-two : goal.compare-requires-in-Le-clause-two
compare-requires-in-Le-clause-two g c =
    let code = plain c.args.code.now in let see = see_of c.args.sight.now c.args.memory.now.levels in
    let m = whole code.texts c.args.bench.now c.args.memory.now c.args.mails.now in
    subst (λ (i : Instr). Ready code see i c.args.operands.now m) c.in-Le.is c.requires.ready

pub compare-requires-in-Gt-clause-two : goal.compare-requires-in-Gt-clause-two
compare-requires-in-Gt-clause-two g c =
    let code = plain c.args.code.now in let see = see_of c.args.sight.now c.args.memory.now.levels in
    let m = whole code.texts c.args.bench.now c.args.memory.now c.args.mails.now in
    subst (λ (i : Instr). Ready code see i c.args.operands.now m) c.in-Gt.is c.requires.ready

pub compare-requires-in-Ge-clause-two : goal.compare-requires-in-Ge-clause-two
compare-requires-in-Ge-clause-two g c =
    let code = plain c.args.code.now in let see = see_of c.args.sight.now c.args.memory.now.levels in
    let m = whole code.texts c.args.bench.now c.args.memory.now c.args.mails.now in
    subst (λ (i : Instr). Ready code see i c.args.operands.now m) c.in-Ge.is c.requires.ready

pub jump_zero-requires-clause-one : goal.jump_zero-requires-clause-one
jump_zero-requires-clause-one g c =
    let code = plain c.args.code.now in let see = see_of c.args.sight.now c.args.memory.now.levels in
    let m = whole code.texts c.args.bench.now c.args.memory.now c.args.mails.now in
    subst (λ (i : Instr). Ready code see i c.args.operands.now m) c.in-JumpZero.is c.requires.ready

pub test-requires-clause-one : goal.test-requires-clause-one
test-requires-clause-one g c =
    let code = plain c.args.code.now in let see = see_of c.args.sight.now c.args.memory.now.levels in
    let m = whole code.texts c.args.bench.now c.args.memory.now c.args.mails.now in
    subst (λ (i : Instr). Ready code see i c.args.operands.now m) c.in-Test.is c.requires.ready

pub start-requires : goal.start-requires
start-requires g c =
    let code = plain c.args.code.now in let see = see_of c.args.sight.now c.args.memory.now.levels in
    let m = whole code.texts c.args.bench.now c.args.memory.now c.args.mails.now in
    subst (λ (k : ℕ). IsThere (alternate_address (slice_get code.blocks c.in-Start.block) k)) (sym c.alternate_of.ensures)
    (subst (λ (i : Instr). Ready code see i c.args.operands.now m) c.in-Start.is c.requires.ready)

pub act_on_numbers-requires-clause-ready : goal.act_on_numbers-requires-clause-ready
act_on_numbers-requires-clause-ready g c =
    let code = plain c.args.code.now in let see = see_of c.args.sight.now c.args.memory.now.levels in
    let m = whole code.texts c.args.bench.now c.args.memory.now c.args.mails.now in
    (code, see, m, c.requires.ready)

pub act_on_counters-requires-clause-ready : goal.act_on_counters-requires-clause-ready
act_on_counters-requires-clause-ready g c =
    let code = plain c.args.code.now in (
      code,
      see_of c.args.sight.now c.args.memory.now.levels,
      whole code.texts c.args.bench.now c.args.memory.now c.args.mails.now,
      c.requires.ready,
    )

pub act_on_frames-requires-clause-ready : goal.act_on_frames-requires-clause-ready
act_on_frames-requires-clause-ready g c =
    let code = plain c.args.code.now in
    (pieces_in code.texts c.args.bench.now, c.args.bench.now.counters, c.args.mails.now, c.requires.ready)

pub act_on_frames-requires-clause-stays : goal.act_on_frames-requires-clause-stays
act_on_frames-requires-clause-stays g c =
    let code = plain c.args.code.now in
    (pieces_in code.texts c.args.bench.now, c.args.bench.now.counters, c.args.mails.now, c.requires.stays)

pub act_on_line-requires-clause-ready : goal.act_on_line-requires-clause-ready
act_on_line-requires-clause-ready g c =
    (see_of c.args.sight.now c.args.memory.now.levels, c.args.mails.now, c.requires.ready)

pub act_on_channel-requires-clause-ready : goal.act_on_channel-requires-clause-ready
act_on_channel-requires-clause-ready g c =
    let code = plain c.args.code.now in
    (pieces_in code.texts c.args.bench.now, c.args.bench.now.counters, c.requires.ready)

pub returns-in-Push-clause-moved : goal.returns-in-Push-clause-moved
returns-in-Push-clause-moved g c =
    let code = plain c.args.code.now in let see = see_of c.args.sight.now c.args.memory.now.levels in
    let m = whole code.texts c.args.bench.now c.args.memory.now c.args.mails.now in
    c.push.ensures m
    ∙ ap (λ (z : ℤ). Going (c.args.at + 1) (z ∷ c.args.operands.now) m) (to_z-of_z w64 c.in-Push.n (search rules))
    ∙ ap (λ (i : Instr). acted code see i c.args.at c.args.operands.now m) (sym c.in-Push.is)

pub returns-in-Load-clause-moved : goal.returns-in-Load-clause-moved
returns-in-Load-clause-moved g c =
    let code = plain c.args.code.now in let see = see_of c.args.sight.now c.args.memory.now.levels in
    let m = whole code.texts c.args.bench.now c.args.memory.now c.args.mails.now in
    c.load.ensures.moved m
    ∙ ap (λ (k : ℕ). Going (c.args.at + 1) (word_at c.args.memory.now.words k ∷ c.args.operands.now) m) c.place.ensures.place
    ∙ ap (λ (i : Instr). acted code see i c.args.at c.args.operands.now m) (sym c.in-Load.is)

pub returns-in-Store-clause-moved : goal.returns-in-Store-clause-moved
returns-in-Store-clause-moved g c =
    let code = plain c.args.code.now in let see = see_of c.args.sight.now c.args.memory.now.levels in
    let m = whole code.texts c.args.bench.now c.args.memory.now c.args.mails.now in
    c.store.ensures.moved (pieces_in code.texts c.args.bench.now) c.args.bench.now.counters c.args.mails.now
    ∙ ap (λ (k : ℕ). on_top c.args.operands.now (λ x rest. Going (c.args.at + 1) rest (written k x m))) c.place-in-Store.ensures.place
    ∙ ap (λ (i : Instr). acted code see i c.args.at c.args.operands.now m) (sym c.in-Store.is)

pub returns-in-LoadAt-clause-moved : goal.returns-in-LoadAt-clause-moved
returns-in-LoadAt-clause-moved g c =
    let code = plain c.args.code.now in let see = see_of c.args.sight.now c.args.memory.now.levels in
    let m = whole code.texts c.args.bench.now c.args.memory.now c.args.mails.now in
    c.load_at.ensures.moved m
    ∙ ap (λ (k : ℕ). on_top c.args.operands.now (λ i rest. Going (c.args.at + 1) (word_at c.args.memory.now.words (k + natural i) ∷ rest) m)) c.place-in-LoadAt.ensures.place
    ∙ ap (λ (i : Instr). acted code see i c.args.at c.args.operands.now m) (sym c.in-LoadAt.is)

pub returns-in-StoreAt-clause-moved : goal.returns-in-StoreAt-clause-moved
returns-in-StoreAt-clause-moved g c =
    let code = plain c.args.code.now in let see = see_of c.args.sight.now c.args.memory.now.levels in
    let m = whole code.texts c.args.bench.now c.args.memory.now c.args.mails.now in
    c.store_at.ensures.moved (pieces_in code.texts c.args.bench.now) c.args.bench.now.counters c.args.mails.now
    ∙ ap (λ (k : ℕ). on_top c.args.operands.now (λ x rest. on_top rest (λ i others. Going (c.args.at + 1) others (written (k + natural i) x m)))) c.place-in-StoreAt.ensures.place
    ∙ ap (λ (i : Instr). acted code see i c.args.at c.args.operands.now m) (sym c.in-StoreAt.is)

pub returns-in-Prior-clause-moved : goal.returns-in-Prior-clause-moved
returns-in-Prior-clause-moved g c =
    let code = plain c.args.code.now in let see = see_of c.args.sight.now c.args.memory.now.levels in
    let m = whole code.texts c.args.bench.now c.args.memory.now c.args.mails.now in
    c.prior.ensures.moved m
    ∙ ap (λ (k : ℕ). Going (c.args.at + 1) (word_at (prior_words (copy_of (last_of c.args.memory.now.levels))) k ∷ c.args.operands.now) m) c.place-in-Prior.ensures.place
    ∙ ap (λ (i : Instr). acted code see i c.args.at c.args.operands.now m) (sym c.in-Prior.is)

pub returns-in-PriorAt-clause-moved : goal.returns-in-PriorAt-clause-moved
returns-in-PriorAt-clause-moved g c =
    let code = plain c.args.code.now in let see = see_of c.args.sight.now c.args.memory.now.levels in
    let m = whole code.texts c.args.bench.now c.args.memory.now c.args.mails.now in
    c.prior_at.ensures.moved m
    ∙ ap (λ (k : ℕ). on_top c.args.operands.now (λ i rest. Going (c.args.at + 1) (word_at (prior_words (copy_of (last_of c.args.memory.now.levels))) (k + natural i) ∷ rest) m)) c.place-in-PriorAt.ensures.place
    ∙ ap (λ (i : Instr). acted code see i c.args.at c.args.operands.now m) (sym c.in-PriorAt.is)

pub returns-in-Bound-clause-moved : goal.returns-in-Bound-clause-moved
returns-in-Bound-clause-moved g c =
    let code = plain c.args.code.now in let see = see_of c.args.sight.now c.args.memory.now.levels in
    let m = whole code.texts c.args.bench.now c.args.memory.now c.args.mails.now in
    c.bound.ensures m
    ∙ ap (λ (i : Instr). acted code see i c.args.at c.args.operands.now m) (sym c.in-Bound.is)

pub returns-in-Add-clause-moved : goal.returns-in-Add-clause-moved
returns-in-Add-clause-moved g c =
    let code = plain c.args.code.now in let see = see_of c.args.sight.now c.args.memory.now.levels in
    let m = whole code.texts c.args.bench.now c.args.memory.now c.args.mails.now in
    c.operate.ensures m
    ∙ ap (λ (i : Instr). acted code see i c.args.at c.args.operands.now m) (sym c.in-Add.is)

pub returns-in-Sub-clause-moved : goal.returns-in-Sub-clause-moved
returns-in-Sub-clause-moved g c =
    let code = plain c.args.code.now in let see = see_of c.args.sight.now c.args.memory.now.levels in
    let m = whole code.texts c.args.bench.now c.args.memory.now c.args.mails.now in
    c.operate-in-Sub.ensures m
    ∙ ap (λ (i : Instr). acted code see i c.args.at c.args.operands.now m) (sym c.in-Sub.is)

pub returns-in-Eq-clause-moved : goal.returns-in-Eq-clause-moved
returns-in-Eq-clause-moved g c =
    let code = plain c.args.code.now in let see = see_of c.args.sight.now c.args.memory.now.levels in
    let m = whole code.texts c.args.bench.now c.args.memory.now c.args.mails.now in
    c.compare.ensures c.args.at m
    ∙ ap (λ (i : Instr). acted code see i c.args.at c.args.operands.now m) (sym c.in-Eq.is)

pub returns-in-Ne-clause-moved : goal.returns-in-Ne-clause-moved
returns-in-Ne-clause-moved g c =
    let code = plain c.args.code.now in let see = see_of c.args.sight.now c.args.memory.now.levels in
    let m = whole code.texts c.args.bench.now c.args.memory.now c.args.mails.now in
    c.compare-in-Ne.ensures c.args.at m
    ∙ ap (λ (i : Instr). acted code see i c.args.at c.args.operands.now m) (sym c.in-Ne.is)

pub returns-in-Lt-clause-moved : goal.returns-in-Lt-clause-moved
returns-in-Lt-clause-moved g c =
    let code = plain c.args.code.now in let see = see_of c.args.sight.now c.args.memory.now.levels in
    let m = whole code.texts c.args.bench.now c.args.memory.now c.args.mails.now in
    c.compare-in-Lt.ensures c.args.at m
    ∙ ap (λ (i : Instr). acted code see i c.args.at c.args.operands.now m) (sym c.in-Lt.is)

pub returns-in-Le-clause-moved : goal.returns-in-Le-clause-moved
returns-in-Le-clause-moved g c =
    let code = plain c.args.code.now in let see = see_of c.args.sight.now c.args.memory.now.levels in
    let m = whole code.texts c.args.bench.now c.args.memory.now c.args.mails.now in
    c.compare-in-Le.ensures c.args.at m
    ∙ ap (λ (i : Instr). acted code see i c.args.at c.args.operands.now m) (sym c.in-Le.is)

pub returns-in-Gt-clause-moved : goal.returns-in-Gt-clause-moved
returns-in-Gt-clause-moved g c =
    let code = plain c.args.code.now in let see = see_of c.args.sight.now c.args.memory.now.levels in
    let m = whole code.texts c.args.bench.now c.args.memory.now c.args.mails.now in
    c.compare-in-Gt.ensures c.args.at m
    ∙ ap (λ (i : Instr). acted code see i c.args.at c.args.operands.now m) (sym c.in-Gt.is)

pub returns-in-Ge-clause-moved : goal.returns-in-Ge-clause-moved
returns-in-Ge-clause-moved g c =
    let code = plain c.args.code.now in let see = see_of c.args.sight.now c.args.memory.now.levels in
    let m = whole code.texts c.args.bench.now c.args.memory.now c.args.mails.now in
    c.compare-in-Ge.ensures c.args.at m
    ∙ ap (λ (i : Instr). acted code see i c.args.at c.args.operands.now m) (sym c.in-Ge.is)

pub returns-in-Jump-clause-moved : goal.returns-in-Jump-clause-moved
returns-in-Jump-clause-moved g c =
    let code = plain c.args.code.now in let see = see_of c.args.sight.now c.args.memory.now.levels in
    let m = whole code.texts c.args.bench.now c.args.memory.now c.args.mails.now in
    ap (λ (i : Instr). acted code see i c.args.at c.args.operands.now m) (sym c.in-Jump.is)

pub returns-in-JumpZero-clause-moved : goal.returns-in-JumpZero-clause-moved
returns-in-JumpZero-clause-moved g c =
    let code = plain c.args.code.now in let see = see_of c.args.sight.now c.args.memory.now.levels in
    let m = whole code.texts c.args.bench.now c.args.memory.now c.args.mails.now in
    c.jump_zero.ensures m
    ∙ ap (λ (i : Instr). acted code see i c.args.at c.args.operands.now m) (sym c.in-JumpZero.is)

pub returns-in-Test-clause-moved : goal.returns-in-Test-clause-moved
returns-in-Test-clause-moved g c =
    let code = plain c.args.code.now in let see = see_of c.args.sight.now c.args.memory.now.levels in
    let m = whole code.texts c.args.bench.now c.args.memory.now c.args.mails.now in
    c.test.ensures m
    ∙ ap (λ (i : Instr). acted code see i c.args.at c.args.operands.now m) (sym c.in-Test.is)

pub returns-in-Start-clause-moved : goal.returns-in-Start-clause-moved
returns-in-Start-clause-moved g c =
    let code = plain c.args.code.now in let see = see_of c.args.sight.now c.args.memory.now.levels in
    let m = whole code.texts c.args.bench.now c.args.memory.now c.args.mails.now in
    c.start.ensures c.args.at c.args.operands.now m
    ∙ ap (λ (k : ℕ). if_there (alternate_address (slice_get code.blocks c.in-Start.block) k) (λ to. Going to c.args.operands.now m)) c.alternate_of.ensures
    ∙ ap (λ (i : Instr). acted code see i c.args.at c.args.operands.now m) (sym c.in-Start.is)

pub returns-in-Mul-clause-moved : goal.returns-in-Mul-clause-moved
returns-in-Mul-clause-moved g c =
    let code = plain c.args.code.now in
    c.act_on_numbers.ensures.moved code (see_of c.args.sight.now c.args.memory.now.levels)
    (whole code.texts c.args.bench.now c.args.memory.now c.args.mails.now)

pub returns-in-Frame-clause-moved : goal.returns-in-Frame-clause-moved
returns-in-Frame-clause-moved g c =
    let code = plain c.args.code.now in
    c.act_on_frames.ensures.moved (pieces_in code.texts c.args.bench.now) c.args.bench.now.counters c.args.mails.now

pub returns-in-Text-clause-moved : goal.returns-in-Text-clause-moved
returns-in-Text-clause-moved g c =
    c.act_on_line.ensures.moved (see_of c.args.sight.now c.args.memory.now.levels) c.args.mails.now

pub returns-in-Put-clause-moved : goal.returns-in-Put-clause-moved
returns-in-Put-clause-moved g c =
    let code = plain c.args.code.now in
    c.act_on_channel.ensures.moved (pieces_in code.texts c.args.bench.now) c.args.bench.now.counters

pub returns-in-Range-clause-moved : goal.returns-in-Range-clause-moved
returns-in-Range-clause-moved g c =
    let code = plain c.args.code.now in
    c.act_on_counters.ensures.moved code (see_of c.args.sight.now c.args.memory.now.levels)
    (whole code.texts c.args.bench.now c.args.memory.now c.args.mails.now)

pub returns-in-Push-clause-kept : goal.returns-in-Push-clause-kept
returns-in-Push-clause-kept g c =
    stays c.push.result c.args.memory.now c.args.mails.now

pub returns-in-Load-clause-kept : goal.returns-in-Load-clause-kept
returns-in-Load-clause-kept g c =
    stays c.load.result c.args.memory.now c.args.mails.now

pub returns-in-LoadAt-clause-kept : goal.returns-in-LoadAt-clause-kept
returns-in-LoadAt-clause-kept g c =
    stays c.load_at.result c.args.memory.now c.args.mails.now

pub returns-in-Prior-clause-kept : goal.returns-in-Prior-clause-kept
returns-in-Prior-clause-kept g c =
    stays c.prior.result c.args.memory.now c.args.mails.now

pub returns-in-PriorAt-clause-kept : goal.returns-in-PriorAt-clause-kept
returns-in-PriorAt-clause-kept g c =
    stays c.prior_at.result c.args.memory.now c.args.mails.now

pub returns-in-Bound-clause-kept : goal.returns-in-Bound-clause-kept
returns-in-Bound-clause-kept g c =
    stays c.bound.result c.args.memory.now c.args.mails.now

pub returns-in-Add-clause-kept : goal.returns-in-Add-clause-kept
returns-in-Add-clause-kept g c =
    stays c.operate.result c.args.memory.now c.args.mails.now

pub returns-in-Sub-clause-kept : goal.returns-in-Sub-clause-kept
returns-in-Sub-clause-kept g c =
    stays c.operate-in-Sub.result c.args.memory.now c.args.mails.now

pub returns-in-Eq-clause-kept : goal.returns-in-Eq-clause-kept
returns-in-Eq-clause-kept g c =
    stays c.compare.result c.args.memory.now c.args.mails.now

pub returns-in-Ne-clause-kept : goal.returns-in-Ne-clause-kept
returns-in-Ne-clause-kept g c =
    stays c.compare-in-Ne.result c.args.memory.now c.args.mails.now

pub returns-in-Lt-clause-kept : goal.returns-in-Lt-clause-kept
returns-in-Lt-clause-kept g c =
    stays c.compare-in-Lt.result c.args.memory.now c.args.mails.now

pub returns-in-Le-clause-kept : goal.returns-in-Le-clause-kept
returns-in-Le-clause-kept g c =
    stays c.compare-in-Le.result c.args.memory.now c.args.mails.now

pub returns-in-Gt-clause-kept : goal.returns-in-Gt-clause-kept
returns-in-Gt-clause-kept g c =
    stays c.compare-in-Gt.result c.args.memory.now c.args.mails.now

pub returns-in-Ge-clause-kept : goal.returns-in-Ge-clause-kept
returns-in-Ge-clause-kept g c =
    stays c.compare-in-Ge.result c.args.memory.now c.args.mails.now

pub returns-in-JumpZero-clause-kept : goal.returns-in-JumpZero-clause-kept
returns-in-JumpZero-clause-kept g c =
    stays c.jump_zero.result c.args.memory.now c.args.mails.now

pub returns-in-Test-clause-kept : goal.returns-in-Test-clause-kept
returns-in-Test-clause-kept g c =
    stays c.test.result c.args.memory.now c.args.mails.now

pub returns-in-Start-clause-kept : goal.returns-in-Start-clause-kept
returns-in-Start-clause-kept g c =
    stays c.start.result c.args.memory.now c.args.mails.now

pub returns-in-Mul-clause-kept : goal.returns-in-Mul-clause-kept
returns-in-Mul-clause-kept g c =
    stays c.act_on_numbers.result c.args.memory.now c.args.mails.now

pub returns-in-Range-clause-kept : goal.returns-in-Range-clause-kept
returns-in-Range-clause-kept g c =
    stays c.act_on_counters.result c.args.memory.now c.args.mails.now

pub returns-in-Store-clause-kept : goal.returns-in-Store-clause-kept
returns-in-Store-clause-kept g c =
    c.store.ensures.kept c.args.mails.now

pub returns-in-StoreAt-clause-kept : goal.returns-in-StoreAt-clause-kept
returns-in-StoreAt-clause-kept g c =
    c.store_at.ensures.kept c.args.mails.now

pub returns-in-Frame-clause-kept : goal.returns-in-Frame-clause-kept
returns-in-Frame-clause-kept g c =
    c.act_on_frames.ensures.kept c.args.mails.now

pub returns-in-Text-clause-kept : goal.returns-in-Text-clause-kept
returns-in-Text-clause-kept g c =
    c.act_on_line.ensures.kept c.args.mails.now

pub returns-in-Load-clause-work : goal.returns-in-Load-clause-work
returns-in-Load-clause-work g c =
    subst (λ (i : Instr). c.load.new.steps ≤ c.args.steps.now + 3 * named i) (sym c.in-Load.is) (omega (arith, c.load.ensures.ticks))

pub returns-in-Store-clause-work : goal.returns-in-Store-clause-work
returns-in-Store-clause-work g c =
    subst (λ (i : Instr). c.store.new.steps ≤ c.args.steps.now + 3 * named i) (sym c.in-Store.is) (omega (arith, c.store.ensures.ticks))

pub returns-in-LoadAt-clause-work : goal.returns-in-LoadAt-clause-work
returns-in-LoadAt-clause-work g c =
    subst (λ (i : Instr). c.load_at.new.steps ≤ c.args.steps.now + 3 * named i) (sym c.in-LoadAt.is) (omega (arith, c.load_at.ensures.ticks))

pub returns-in-StoreAt-clause-work : goal.returns-in-StoreAt-clause-work
returns-in-StoreAt-clause-work g c =
    subst (λ (i : Instr). c.store_at.new.steps ≤ c.args.steps.now + 3 * named i) (sym c.in-StoreAt.is) (omega (arith, c.store_at.ensures.ticks))

pub returns-in-Prior-clause-work : goal.returns-in-Prior-clause-work
returns-in-Prior-clause-work g c =
    subst (λ (i : Instr). c.prior.new.steps ≤ c.args.steps.now + 3 * named i) (sym c.in-Prior.is) (omega (arith, c.prior.ensures.ticks))

pub returns-in-PriorAt-clause-work : goal.returns-in-PriorAt-clause-work
returns-in-PriorAt-clause-work g c =
    subst (λ (i : Instr). c.prior_at.new.steps ≤ c.args.steps.now + 3 * named i) (sym c.in-PriorAt.is) (omega (arith, c.prior_at.ensures.ticks))
