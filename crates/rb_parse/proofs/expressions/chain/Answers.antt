use Rattle.std.proofs.Common.{◌==◌, sym, ap, ◌∙◌}
use Rattle.rb_grammar.proofs.Pushing.{chain_links}
use Rattle.rb_syntax.proofs.Bridge.{expression_chain}
use Rattle.rb_syntax.specs.Plain.{expression, links_of}
use Rattle.rb_syntax.specs.Tree.{Chained}
use Rattle.rb_parse.proofs.expressions.chain.Goals as goal

pub returns-clause-ok : goal.returns-clause-ok
returns-clause-ok c =
    expression_chain c.in_ok-first.first c.args.links
    ∙ ap (λ first. Chained (expression first) (links_of c.args.links.items)) c.in_ok-first.ensures.ok
    ∙ sym (chain_links (expression c.args.first) c.args.links.items (ap (λ n. n == 0) (sym c.args.links.ok.0) ∙ sym c.if-is_empty.ensures))
