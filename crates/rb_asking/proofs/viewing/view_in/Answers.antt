use Rattle.std.proofs.Common.{◌∙◌, ap, sym}
use Rattle.clap.specs.Words.{found_of}
use Rattle.rb_words.proofs.Leaves.{subcommand_is}
use Rattle.rb_asking.proofs.ViewLine.{found_in, given_by}
use Rattle.rb_asking.proofs.viewing.view_in.Goals as goal

pub returns : goal.returns
returns c =
    c.view_given.ensures ∙ given_by c.in_ok-name.name.now (found_of c.in_ok-name.given.now)
    ∙ ap found_in (sym (subcommand_is _ _ _ c.in_ok-name.ensures.name c.in_ok-name.ensures.rows))
