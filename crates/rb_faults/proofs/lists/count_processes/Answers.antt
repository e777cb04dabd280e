use Rattle.std.proofs.Common.{ap, map, sym, ◌∙◌}
use Rattle.rb_syntax.specs.Plain.{process_declaration}
use Rattle.rb_syntax.specs.Tree.{ProcessDeclaration}
use Rattle.rb_scope.specs.Sites.{list_sites}
use Rattle.rb_faults.specs.Finding.{visited}
use Rattle.rb_faults.proofs.Long.{long_copy}
use Rattle.rb_faults.proofs.lists.count_processes.Goals as goal

pub returns-in_ok-note : goal.returns-in_ok-note
returns-in_ok-note c =
    c.in_ok-note.ensures
    ∙ sym (long_copy process_declaration
    (λ (one : ProcessDeclaration). one.name.place) c.most_processes-most.result c.args.finder.now c.args.processes.now _ c.if-processes-most.true)
    ∙ ap (λ n. visited c.args.finder.now
    (list_sites (λ (one : ProcessDeclaration). one.name.place) n 0
    (map process_declaration c.args.processes.now))) c.most_processes-most.ensures
