use Rattle.std.proofs.Common.{◌∙◌, List, map, codes, ap}
use Rattle.std.specs.List.{fold}
use Rattle.std.proofs.lemmas.Result.{IfOk-weaker}
use Rattle.clap.specs.Words.{with_subcommand}
use Rattle.rb_asking.specs.Guides.{Guide, guide_of}
use Rattle.rb_asking.specs.Program.{program_alone, shape_of}
use Rattle.rb_asking.proofs.viewing.command_line.Goals as goal

pub returns : goal.returns
returns c =
    IfOk-weaker c.with_commands.result _ _
    (λ line told. told
    ∙ ap (λ app. fold with_subcommand app (map shape_of (map guide_of c.plain_guides.result.now))) c.program_alone.ensures
    ∙ ap (λ (guides : List Guide). fold with_subcommand (program_alone (codes "rblview")) (map shape_of guides)) c.plain_guides.ensures)
    c.with_commands.ensures
