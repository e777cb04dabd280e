-- Where it is known that no line waits, there is none to forget. The parts are tied again once lines were forgotten.
use Rattle.std.proofs.Common.{◌≡◌, ℕ, List, [], length, replicate, sum_by, ap, false, refl, sym, ◌∙◌, arith}
use Rattle.std.proofs.lemmas.List.{length-replicate}
use Rattle.std.proofs.lemmas.List.Folds.{sum_by-replicate}
use Rattle.std.proofs.lemmas.List.{with_items_is}
use Rattle.rb_code.specs.Instructions.Plain.{code as plain}
use Rattle.rb_recovery.specs.Worlds.{lines_of, processes_of}
use Rattle.rb_machine.specs.Machine.{Seen}
use Rattle.rb_machine.proofs.Releasing.LentAtWork.{tied_same, waits_none}
use Rattle.rb_machine.proofs.Turning.TurnOfParts.{none_wait}
use Rattle.rb_machine.proofs.machine.Machine.drop_released.Goals as goal

-- as many empty lists of lines have no line
none_counted : (waiting : List (List (List ℕ))) (n : ℕ) → waiting ≡ replicate n [] → 0 ≡ sum_by (length {A = List ℕ}) waiting
none_counted waiting n e = sym (ap (sum_by (length {A = List ℕ})) e ∙ (sum_by-replicate (length {A = List ℕ}) n [] ∙ omega arith))

as_many : (waiting : List (List (List ℕ))) (n : ℕ) → waiting ≡ replicate n [] → waiting ≡ replicate (length waiting) []
as_many waiting n e = e ∙ ap (λ m. replicate m []) (sym (ap length e ∙ length-replicate n []))

pub returns-then-not-self-clause-count : goal.returns-then-not-self-clause-count
returns-then-not-self-clause-count g c =
    let procs = c.self.inside.parts.procs.items in
    none_counted c.args.self.now.waiting (length procs)
    (ap (λ (machine : Seen). machine.waiting) (sym c.self.view_is) ∙ waits_none procs (c.self.invariant.none_waits c.if-not-self.true))

pub returns-then-not-self-clause-machine : goal.returns-then-not-self-clause-machine
returns-then-not-self-clause-machine g c =
    let procs = c.self.inside.parts.procs.items in
    ap (λ (waiting : List (List (List ℕ))). record c.args.self.now { waiting = waiting })
    (as_many c.args.self.now.waiting (length procs)
    (ap (λ (machine : Seen). machine.waiting) (sym c.self.view_is) ∙ waits_none procs (c.self.invariant.none_waits c.if-not-self.true)))

pub invariant_of-self : goal.invariant_of-self
invariant_of-self g c =
    let inside = c.self.inside in
    let parts = inside.parts in
    let is = with_items_is parts.procs c.drop_all_released.new.procs (omega (arith, c.drop_all_released.auto.procs, c.deref_mut.ensures.len)) in
    tied_same (plain inside.code.now) parts _ inside.running.items inside.taken inside.most inside.released false inside.resting c.self.invariant
    (ap processes_of is ∙ (c.drop_all_released.ensures.processes ∙ ap processes_of c.deref_mut.ensures.value)) refl refl refl
    (λ e. none_wait _ _ (ap lines_of is ∙ c.drop_all_released.ensures.none))
