use Rattle.std.proofs.Common.{sym, ap, ◌∙◌, subst, Option, IfOk, arith}
use Rattle.rb_code.specs.Instructions.Plain.{code as plain}
use Rattle.rb_conv.specs.Conversations.{memberships, opening}
use Rattle.rb_flow.specs.Flow.{Steps, flow as leads, flow_by, flow_at, is_above}
use Rattle.rb_flow.specs.Ways.{IsFlow}
use Rattle.rb_flow.specs.Held.{entry_of}
use Rattle.rb_code.specs.declared.instr.Instr.{Instr}
use Rattle.rb_flow.specs.declared.way.Way.TheVariants.{Broken}
use Rattle.rb_flow.proofs.Chosen.{passed_flow, quiet_flow, refused_flow}
use Rattle.std.proofs.lemmas.Option.{slice_get_within}
use Rattle.rb_flow.proofs.flow.flow.Goals as goal

pub returns-in-None : goal.returns-in-None
returns-in-None c =
    let code = plain c.args.code.now
    in let groups = memberships (opening c.args.nested.now)
    in let entry = entry_of c.args.lists.now c.args.entry
    in quiet_flow code c.args.lists.now Broken (flow_at code groups c.args.at entry)
    (sym (ap (λ (o : Option Instr). flow_by code groups o c.args.at entry) c.in-None.ensures)) tt

pub returns-then-not-is_above : goal.returns-then-not-is_above
returns-then-not-is_above c =
    let code = plain c.args.code.now
    in let groups = memberships (opening c.args.nested.now)
    in let lists = c.args.lists.now
    in let at = c.args.at
    in let entry = entry_of lists c.args.entry
    in let instr = c.in-Some.instr
    in subst (λ (s : Steps). IsFlow code lists lists Broken s)
    (sym (ap (λ (o : Option Instr). flow_by code groups o at entry) c.in-Some.ensures))
    (refused_flow code lists (is_above entry.blocks entry.words) (leads code groups instr at entry)
    (sym c.is_above.ensures ∙ c.if-not-is_above.true))

pub returns-else-not-is_above : goal.returns-else-not-is_above
returns-else-not-is_above c =
    let code = plain c.args.code.now
    in let groups = memberships (opening c.args.nested.now)
    in let lists = c.args.lists.now
    in let after = c.flow_of.new.lists
    in let at = c.args.at
    in let entry = entry_of lists c.args.entry
    in let instr = c.in-Some.instr
    in subst (λ (s : Steps). IfOk c.flow_of.result (λ way. IsFlow code lists after way s))
    (sym (ap (λ (o : Option Instr). flow_by code groups o at entry) c.in-Some.ensures))
    (passed_flow code lists after (is_above entry.blocks entry.words) c.flow_of.result (leads code groups instr at entry)
    (sym c.is_above.ensures ∙ c.if-not-is_above.false) c.flow_of.ensures)

pub flow_of-requires-clause-at : goal.flow_of-requires-clause-at
flow_of-requires-clause-at c =
    let within = slice_get_within (plain c.args.code.now).instrs c.args.at c.in-Some.instr c.in-Some.ensures
    in let few = c.requires.ends.few
    in omega arith
