use Rattle.std.proofs.Common.{[], ◌++◌, refl}
use Rattle.rb_reasons.specs.Names.{of_source, of_scopes, of_nesting, of_files, of_causes}
use Rattle.rb_reasons.proofs.Lined.{lines_behind}
use Rattle.rb_reasons.proofs.lines.headlines.Goals as goal

pub returns : goal.returns
returns c =
    let one = lines_behind [] of_source _ _ c.of_source.result.now ([], refl, c.new-told.ensures.items) c.of_source.ensures
    c.in_ok-push_headlines.ensures in
    let two = lines_behind of_source of_scopes _ _ c.of_scopes.result.now one c.of_scopes.ensures c.in_ok-push_headlines-2.ensures in
    let three = lines_behind (of_source ++ of_scopes) of_nesting _ _ c.of_nesting.result.now two c.of_nesting.ensures c.in_ok-push_headlines-3.ensures in
    let four =
    lines_behind ((of_source ++ of_scopes) ++ of_nesting) of_files _ _ c.of_files.result.now three c.of_files.ensures
    c.in_ok-push_headlines-4.ensures in
    lines_behind (((of_source ++ of_scopes) ++ of_nesting) ++ of_files) of_causes _ _ c.of_causes.result.now four c.of_causes.ensures
    c.in_ok-push_headlines-5.ensures
