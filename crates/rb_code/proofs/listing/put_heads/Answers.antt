use Rattle.std.proofs.Common.{[], ◌∷◌, ap, ◌∙◌}
use Rattle.rb_world.specs.Text.{line_of}
use Rattle.rb_trace.specs.Naming.{naming}
use Rattle.rb_trace.proofs.Written.{written_more}
use Rattle.rb_code.specs.Instructions.Listing.{heads_past, lines_at}
use Rattle.rb_code.specs.Instructions.Heads.{heads_left}
use Rattle.rb_code.proofs.Listed.{lines_next, past_next, written_stopped}
use Rattle.rb_code.proofs.listing.put_heads.Goals as goal

pub heads-preserved : goal.heads-preserved
heads-preserved g c =
    let names = naming c.args.names.now in
    let a = c.args.address in
    let next = c.in-Some.next in
    let words = next.word.now ∷ next.name.now ∷ [] in
    let others = heads_left names next.others in
    let first = ap (lines_at a) c.in-Some.ensures.some ∙ lines_next a words others in
    record {
      text = written_more _ _ (line_of words) (lines_at a others) _ _ _ _ _ _ c.heads.invariant.text first c.in_ok-put_two.ensures;
      past = c.heads.invariant.past ∙ ap (heads_past a) c.in-Some.ensures.some ∙ past_next a words others;
      few = c.in-Some.ensures.few ∙ c.heads.invariant.few;
    }

pub returns-in_err-put_two-clause-text : goal.returns-in_err-put_two-clause-text
returns-in_err-put_two-clause-text g c =
    let names = naming c.args.names.now in
    let a = c.args.address in
    let next = c.in-Some.next in
    let words = next.word.now ∷ next.name.now ∷ [] in
    let others = heads_left names next.others in
    written_stopped _ _ (line_of words) (lines_at a others) _ _ _ _ _ _ _ c.from_residual.result c.heads.invariant.text
    (ap (lines_at a) c.in-Some.ensures.some ∙ lines_next a words others)
    c.in_err-put_two.ensures c.from_residual.ensures.0
