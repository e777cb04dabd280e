use Rattle.std.proofs.Common.{refl}
use Rattle.rb_syntax.specs.declared.expression.Link.{Link}
use Rattle.rb_syntax.specs.Plain.{expression, links_of}
use Rattle.rb_scope.specs.Sites.{expression_sites, links_sites}
use Rattle.rb_faults.specs.Memory.{spot_of}
use Rattle.rb_faults.proofs.Visited.{step}
use Rattle.rb_faults.proofs.expression.+expression.Goals as goal

pub visit_links-loop-link-preserved : goal.visit_links-loop-link-preserved
visit_links-loop-link-preserved t c =
    let spot = spot_of c.args.spot.now in
    step (λ links. links_sites spot (links_of links)) (λ (link : Link). expression_sites spot (expression link.right)) (λ x xs. refl)
    c.args.links.now c.loop-link.link-index c.link-item.result c.link-item.is c.loop-link-test.true
    c.loop-link.finder c.visit_expression.new.finder _ c.loop-link.invariant c.in_ok-visit_expression.ensures
