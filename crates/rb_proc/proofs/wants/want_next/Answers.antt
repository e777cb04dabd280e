-- The instruction that is there tells whether the process is done, and else the one behind it what is wanted.
use Rattle.std.proofs.Common.{◌≡◌, ◌+◌, true, false, true≢false, vec_len, length, Option, Some, slice_get, refl, ap, sym, ◌∙◌, arith, rules}
use Rattle.std.proofs.lemmas.Option.{slice_get_read, slice_get_within}
use Rattle.rb_world.specs.Kind.{NothingLeft}
use Rattle.rb_world.proofs.ListFacts.{some_same}
use Rattle.rb_code.specs.Instructions.Plain.{Code, code as plain}
use Rattle.rb_code.specs.WordMachine.Turn.{wants_by, wants_there}
use Rattle.rb_code.specs.declared.instr.Instr.{Instr}
use Rattle.rb_code.specs.declared.instr.Instr.TheVariants.{Done}
use Rattle.rb_proc.specs.Executable.{ends}
use Rattle.rb_proc.specs.Process.{wanted_by}
use Rattle.rb_proc.proofs.wants.want_next.Goals as goal

done_left : (c : Code) (i : Instr) (next : Option Instr) → ends i ≡ true → wants_there c (Some i) next ≡ NothingLeft
done_left c Done next e = refl
done_left c _ next e = absurd (true≢false (sym e))

pub returns-then-ends : goal.returns-then-ends
returns-then-ends c =
    let code = plain c.args.code.now in
    let read = slice_get_read code.instrs (length code.instrs) c.args.at c.index.result.now refl
    (slice_get_within code.instrs c.args.at c.requires.instr c.requires.there) c.index.ensures in
    sym (ap (λ (o : Option Instr). wanted_by (wants_there code o (slice_get code.instrs (c.args.at + 1)))) read
    ∙ ap wanted_by (done_left code c.index.result.now (slice_get code.instrs (c.args.at + 1)) (sym c.ends.ensures ∙ c.if-ends.true)))

next_wants : (c : Code) (i j : Instr) → ends i ≡ false → wants_there c (Some i) (Some j) ≡ wants_by c j
next_wants c Done j e = absurd (true≢false e)
next_wants c _ j e = refl

pub index-requires-else-ends : goal.index-requires-else-ends
index-requires-else-ends c =
    let code = plain c.args.code.now in
    let read = slice_get_read code.instrs (length code.instrs) c.args.at c.index.result.now refl
    (slice_get_within code.instrs c.args.at c.requires.instr c.requires.there) c.index.ensures in
    let goes_on = sym c.ends.ensures ∙ c.if-ends.false in
    let within = c.requires.next (ap ends (some_same (sym c.requires.there ∙ read)) ∙ goes_on) in
    let count : vec_len c.args.code.now.instrs ≡ length code.instrs = search rules in
    omega arith

pub returns-else-ends : goal.returns-else-ends
returns-else-ends c =
    let code = plain c.args.code.now in
    let read = slice_get_read code.instrs (length code.instrs) c.args.at c.index.result.now refl
    (slice_get_within code.instrs c.args.at c.requires.instr c.requires.there) c.index.ensures in
    let goes_on = sym c.ends.ensures ∙ c.if-ends.false in
    let within = c.requires.next (ap ends (some_same (sym c.requires.there ∙ read)) ∙ goes_on) in
    let behind = slice_get_read code.instrs (length code.instrs) (c.args.at + 1) c.index-else-ends.result.now refl within c.index-else-ends.ensures in
    c.want_of.ensures
    ∙ sym (ap (λ (o : Option Instr). wanted_by (wants_there code o (slice_get code.instrs (c.args.at + 1)))) read
    ∙ ap (λ (o : Option Instr). wanted_by (wants_there code (Some c.index.result.now) o)) behind
    ∙ ap wanted_by (next_wants code c.index.result.now c.index-else-ends.result.now goes_on))
