use Rattle.std.proofs.Common.{◌<◌, ℤ, List, length, slice_get, Some, ap, sym, subst, ◌∙◌, arith, rules, w64}
use Rattle.std.proofs.lemmas.List.{length-map}
use Rattle.std.proofs.lemmas.Int.{to_z-of_z}
use Rattle.rb_scope.proofs.Long.{got}
use Rattle.rb_code.specs.Instructions.Plain.{code as plain, part}
use Rattle.rb_recovery.proofs.Passing.RoomsAndMessages.{is_of_code}
use Rattle.rb_machine.proofs.ReadAt.{variables_there, with_variables}
use Rattle.rb_machine.proofs.reading.word_at.Goals as goal

pub word-requires-clause-at : goal.word-requires-clause-at
word-requires-clause-at g c =
    let code = plain c.args.code.now in
    let within = with_variables code c.args.procs.now c.args.p c.args.at c.requires.at in
    let there = got c.args.procs.now c.args.p c.index-procs-p.result within c.index-procs-p.is in
    subst (λ (words : List ℤ). c.args.at < length words) (variables_there code c.args.procs.now c.args.p c.index-procs-p.result there) c.requires.at

pub returns-clause-word : goal.returns-clause-word
returns-clause-word g c =
    let code = plain c.args.code.now in
    let within = with_variables code c.args.procs.now c.args.p c.args.at c.requires.at in
    let there = got c.args.procs.now c.args.p c.index-procs-p.result within c.index-procs-p.is in
    ap (λ (words : List ℤ). slice_get words c.args.at) (variables_there code c.args.procs.now c.args.p c.index-procs-p.result there)
    ∙ c.word.ensures.word ∙ ap Some (sym (to_z-of_z w64 c.word.result (search rules)))

pub bounds-procs-p : goal.bounds-procs-p
bounds-procs-p g c = with_variables (plain c.args.code.now) c.args.procs.now c.args.p c.args.at c.requires.at

pub word-requires-clause-process : goal.word-requires-clause-process
word-requires-clause-process g c =
    let code = plain c.args.code.now in
    let within = with_variables code c.args.procs.now c.args.p c.args.at c.requires.at in
    let there = got c.args.procs.now c.args.p c.index-procs-p.result within c.index-procs-p.is in
    omega (
      arith,
      is_of_code code c.args.procs.now c.requires.numbered c.args.p c.index-procs-p.result there,
      length-map c.args.code.now.processes.items part,
    )
