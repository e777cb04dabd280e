use Rattle.std.proofs.Common.{◌≡◌, ℕ, ℤ, List, ◌∷◌, map, ap, sym, ◌∙◌, subst, arith, rules, of_z, to_z, w64}
use Rattle.std.proofs.lemmas.Int.{to_z-of_z}
use Rattle.std.proofs.lemmas.List.{length-map}
use Rattle.rb_code.specs.Instructions.Plain.{code as plain}
use Rattle.rb_code.specs.WordMachine.Act.{act as acted}
use Rattle.rb_code.specs.SoundCode.Safe.{Ready}
use Rattle.rb_code.specs.declared.instr.Instr.{Instr}
use Rattle.rb_code.specs.declared.instr.Instr.TheVariants.{Print}
use Rattle.rb_operands.specs.Outcomes.{outcome_of}
use Rattle.rb_operands.specs.Pieces.{piece_text}
use Rattle.rb_proc.specs.Outcomes.{mem, whole}
use Rattle.rb_proc.proofs.Texts.{item_comes, text_comes}
use Rattle.rb_proc.proofs.kinds.act_on_line.Goals as goal

pub returns-in-Text-clause-moved : goal.returns-in-Text-clause-moved
returns-in-Text-clause-moved g c see slots =
    let code = plain c.args.code.now in
    let operands = c.args.operands.now in
    let m = whole code.texts c.args.bench.now c.args.memory.now slots in
    let was = whole code.texts c.args.bench.now c.args.memory.now c.requires.ready.1 in
    let ready = subst (λ (i : Instr). Ready code c.requires.ready.0 i operands was) c.in-Text.is c.requires.ready.2 in
    text_comes code.texts c.args.bench.now operands c.args.memory.now slots c.args.at c.in-Text.k c.add.new.self c.add.ensures ready.0
    ∙ ap (λ (i : Instr). acted code see i c.args.at operands m) (sym c.in-Text.is)

pub returns-in-Print-clause-moved : goal.returns-in-Print-clause-moved
returns-in-Print-clause-moved g c see slots =
    let code = plain c.args.code.now in
    let operands = c.args.operands.now in
    let m = whole code.texts c.args.bench.now c.args.memory.now slots in
    subst (λ (texts : List (List ℕ)). outcome_of c.print.result c.args.at operands
    (mem c.print.new.memory (map (piece_text texts) c.print.new.line.pieces) c.args.bench.now.counters slots)
    ≡ acted code see Print c.args.at operands
    (mem c.args.memory.now (map (piece_text texts) c.args.bench.now.line.pieces) c.args.bench.now.counters slots))
    c.deref.ensures.value (c.print.ensures.moved operands c.args.bench.now.counters slots)
    ∙ ap (λ (i : Instr). acted code see i c.args.at operands m) (sym c.in-Print.is)

pub add-requires : goal.add-requires
add-requires g c =
    let code = plain c.args.code.now in
    let was = whole code.texts c.args.bench.now c.args.memory.now c.requires.ready.1 in
    let ready = subst (λ (i : Instr). Ready code c.requires.ready.0 i c.args.operands.now was) c.in-Text.is c.requires.ready.2 in
    omega (arith, ready.1, length-map c.args.bench.now.line.pieces (piece_text code.texts))

pub add-requires-in-Item : goal.add-requires-in-Item
add-requires-in-Item g c =
    let code = plain c.args.code.now in
    let was = whole code.texts c.args.bench.now c.args.memory.now c.requires.ready.1 in
    let ready = subst (λ (i : Instr). Ready code c.requires.ready.0 i c.args.operands.now was) c.in-Item.is c.requires.ready.2 in
    omega (arith, ready.1, length-map c.args.bench.now.line.pieces (piece_text code.texts))

pub returns-in-Item-clause-moved : goal.returns-in-Item-clause-moved
returns-in-Item-clause-moved g c see slots =
    let code = plain c.args.code.now in
    let operands = c.args.operands.now in
    let m = whole code.texts c.args.bench.now c.args.memory.now slots in
    let x = to_z w64 (of_z w64 c.pop-number.result) in
    item_comes code.texts c.args.bench.now operands c.pop-number.new.self c.args.memory.now slots c.args.at x c.add-in-Item.new.self
    c.add-in-Item.ensures
    (c.pop-number.ensures.popped ∙ ap (λ (z : ℤ). z ∷ c.pop-number.new.self) (sym (to_z-of_z w64 c.pop-number.result (search rules))))
    ∙ ap (λ (i : Instr). acted code see i c.args.at operands m) (sym c.in-Item.is)
