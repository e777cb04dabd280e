use Rattle.std.proofs.Common.{drop}
use Rattle.rb_syntax.specs.Plain.{links_of}
use Rattle.rb_code.specs.Agreement.Forms.{LinksCode}
use Rattle.rb_draft.specs.Output.{Output, output}
use Rattle.rb_draft.specs.Emits.{Adds}
use Rattle.rb_gen.proofs.expressions.+expression.Given as goal

-- whatever stands for the rest completes it
abbrev pub invariant-emit_links-links : goal.invariant-emit_links-links
invariant-emit_links-links l =
    (after : Output) → Adds (LinksCode l.slots (links_of (drop l.link-index l.links))) (output l.draft) after
    → Adds (LinksCode l.slots (links_of l.links)) (output l.fn.draft) after
