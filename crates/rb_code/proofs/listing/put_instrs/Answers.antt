use Rattle.std.proofs.Common.{ℕ, List, ◌++◌, ◌+◌, drop, get_or, refl, sym, ap, ◌∙◌}
use Rattle.rb_trace.specs.Naming.{naming}
use Rattle.rb_trace.proofs.Written.{written_more}
use Rattle.rb_code.specs.Instructions.Listing.{Head, heads_past, instr_line, instr_lines, lines_at}
use Rattle.rb_code.specs.Instructions.Heads.{heads_left}
use Rattle.rb_code.specs.declared.instr.Instr.TheVariants.{Turn}
use Rattle.rb_code.proofs.Listed.{instr_next, written_further, written_stopped}
use Rattle.rb_code.proofs.listing.put_instrs.Goals as goal

pub loop-address-preserved : goal.loop-address-preserved
loop-address-preserved g c =
    let code = c.args.code.now in
    let texts = code.texts.items in
    let names = naming code.names in
    let a = c.loop-address.address in
    let heads = heads_left names c.loop-address.heads in
    let past = heads_past a heads in
    let read_instrs = c.deref-instr-items.result.now in
    let read_texts = c.deref-in-loop-address.result.now in
    let line = instr_line read_texts a (get_or read_instrs a Turn) in
    let others = instr_lines texts (a + 1) past (drop (a + 1) code.instrs.items) in
    let next = instr_next texts read_texts heads code.instrs.items read_instrs a c.deref-in-loop-address.ensures.value c.deref-instr-items.ensures.value c.loop-address-test.true in
    let ahead = written_further _ _ (lines_at a heads) (line ++ others) _ _ _ _ _ _ _ c.loop-address.invariant.text next c.in_ok-heads.ensures.text in
    let left = ap (λ (hs : List Head). instr_lines texts (a + 1) hs (drop (a + 1) code.instrs.items)) c.in_ok-heads.ensures.past in
    record {
      text = written_more _ _ line
          (instr_lines texts (a + 1) (heads_left names c.in_ok-heads.heads) (drop (a + 1) code.instrs.items)) _ _ _ _ _ _ ahead
          (ap (λ (x : List ℕ). line ++ x) (sym left)) c.in_ok-put_instr_line.ensures;
      few = c.in_ok-heads.ensures.few ∙ c.loop-address.invariant.few;
    }

pub returns-in_err-put_instr_line : goal.returns-in_err-put_instr_line
returns-in_err-put_instr_line g c =
    let code = c.args.code.now in
    let texts = code.texts.items in
    let names = naming code.names in
    let a = c.loop-address.address in
    let heads = heads_left names c.loop-address.heads in
    let read_instrs = c.deref-instr-items.result.now in
    let read_texts = c.deref-in-loop-address.result.now in
    let line = instr_line read_texts a (get_or read_instrs a Turn) in
    let others = instr_lines texts (a + 1) (heads_past a heads) (drop (a + 1) code.instrs.items) in
    let next = instr_next texts read_texts heads code.instrs.items read_instrs a c.deref-in-loop-address.ensures.value c.deref-instr-items.ensures.value c.loop-address-test.true in
    let ahead = written_further _ _ (lines_at a heads) (line ++ others) _ _ _ _ _ _ _ c.loop-address.invariant.text next c.in_ok-heads.ensures.text in
    written_stopped _ _ line others _ _ _ _ _ _ _ c.from_residual-in_err-put_instr_line.result ahead refl c.in_err-put_instr_line.ensures c.from_residual-in_err-put_instr_line.ensures.0

pub returns-in_err-heads : goal.returns-in_err-heads
returns-in_err-heads g c =
    let code = c.args.code.now in
    let texts = code.texts.items in
    let names = naming code.names in
    let a = c.loop-address.address in
    let heads = heads_left names c.loop-address.heads in
    let read_instrs = c.deref-instr-items.result.now in
    let line = instr_line texts a (get_or read_instrs a Turn) in
    let others = instr_lines texts (a + 1) (heads_past a heads) (drop (a + 1) code.instrs.items) in
    let next = instr_next texts texts heads code.instrs.items read_instrs a refl c.deref-instr-items.ensures.value c.loop-address-test.true in
    written_stopped _ _ (lines_at a heads)
    (line ++ others) _ _ _ _ _ _ _ c.from_residual.result c.loop-address.invariant.text next c.in_err-heads.ensures.text c.from_residual.ensures.0
