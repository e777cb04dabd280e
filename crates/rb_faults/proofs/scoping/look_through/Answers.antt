use Rattle.std.proofs.Common.{[], ◌∙◌, ap}
use Rattle.rb_syntax.specs.Plain.{tree}
use Rattle.rb_scope.specs.Sites.{tree_sites}
use Rattle.rb_faults.specs.Finding.{visited}
use Rattle.rb_faults.proofs.Visited.{visited_all}
use Rattle.rb_faults.proofs.scoping.look_through.Goals as goal

pub returns : goal.returns
returns c =
    let sites = tree_sites (tree c.args.program.now) in
    c.faults.ensures ∙ c.in_ok-visit_program.ensures ∙ ap (λ found. visited found sites) c.new-finder.ensures ∙ visited_all [] sites
