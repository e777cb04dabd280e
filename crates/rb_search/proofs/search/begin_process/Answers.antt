use Rattle.std.proofs.Common.{ℕ, ◌∷◌, [], None, length, slice_get, sym, subst}
use Rattle.rb_code.specs.Instructions.Plain.{code as plain}
use Rattle.rb_conv.specs.Conversations.{memberships, opening}
use Rattle.rb_flow.specs.Flow.{begins, goes}
use Rattle.rb_search.specs.Search.{Gains}
use Rattle.rb_search.specs.Found.{found, pending, NoneTakes}
use Rattle.rb_search.proofs.Beginning.{none_begins, one_more, start_is}
use Rattle.rb_search.proofs.Finding.{if_unsound}
use Rattle.rb_search.proofs.search.begin_process.Goals as goal

pub returns-in-Err-clause-unsound : goal.returns-in-Err-clause-unsound
returns-in-Err-clause-unsound c =
    let code = plain c.args.code.now
    in let p = c.args.p
    in let n = length c.args.cells.now
    in let f = found c.args.lists.now c.args.cells.now
    in let r = start_is (slice_get code.processes p) c.in-Some.start c.in-Some.ensures
    in if_unsound c.in-Err.refused
    (λ none. none_begins code (memberships (opening c.args.nested.now)) p n r.0 f (pending c.args.cells.now) r.1 c.requires.size c.requires.beginning
    (subst (λ (k : ℕ). NoneTakes n f (goes k (begins p None 0))) (sym r.2) none))
    c.in-Err.ensures.unsound

pub returns-in-Ok-clause-beginning : goal.returns-in-Ok-clause-beginning
returns-in-Ok-clause-beginning c =
    let code = plain c.args.code.now
    in let p = c.args.p
    in let cells = c.args.cells.now
    in let others = c.arrive_begun.new.cells
    in let f = found c.args.lists.now cells
    in let g = found c.arrive_begun.new.lists others
    in let r = start_is (slice_get code.processes p) c.in-Some.start c.in-Some.ensures
    in one_more code (memberships (opening c.args.nested.now)) p r.0 f g (pending cells) (pending others) r.1 c.requires.beginning
    (subst (λ (k : ℕ). Gains (record { at = k; entry = begins p None 0 } ∷ []) f (pending cells) g (pending others))
    (sym r.2) c.in-Ok.ensures.gains)
