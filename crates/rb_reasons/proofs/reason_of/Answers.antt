use Rattle.std.proofs.Common.{◌∙◌, ℕ, Bool, List, ◌++◌, Bor, option_map, ap}
use Rattle.std.specs.Str.{str_eq_ignore_ascii_case}
use Rattle.rb_reasons.specs.Names.{name_of, of_source, of_scopes, of_nesting, of_files, of_causes}
use Rattle.rb_reasons.proofs.Found.{found_in, found_behind, copied}
use Rattle.rb_reasons.proofs.reason_of.Goals as goal

pub returns : goal.returns
returns c =
    let name = c.args.name.now in
    let of : Bor (Bor (List ℕ)) → List ℕ = λ text. name_of text.now.now in
    let p : List ℕ → Bool = λ word. str_eq_ignore_ascii_case word name in
    let source = found_in c.find_in.result name c.of_source.result.now of_source c.find_in.ensures c.of_source.ensures in
    let scopes = found_in c.find_in-2.result name c.of_scopes.result.now of_scopes c.find_in-2.ensures c.of_scopes.ensures in
    let nesting = found_in c.find_in-3.result name c.of_nesting.result.now of_nesting c.find_in-3.ensures c.of_nesting.ensures in
    let files = found_in c.find_in-4.result name c.of_files.result.now of_files c.find_in-4.ensures c.of_files.ensures in
    let causes = found_in c.find_in-5.result name c.of_causes.result.now of_causes c.find_in-5.ensures c.of_causes.ensures in
    let two = ap (option_map of) c.or.ensures ∙ found_behind of p c.find_in.result c.find_in-2.result of_source of_scopes source scopes in
    let three = ap (option_map of) c.or-2.ensures ∙ found_behind of p c.or.result c.find_in-3.result (of_source ++ of_scopes) of_nesting two nesting in
    let four =
    ap (option_map of) c.or-3.ensures
    ∙ found_behind of p c.or-2.result c.find_in-4.result ((of_source ++ of_scopes) ++ of_nesting) of_files three files in
    let five =
    ap (option_map of) c.or-4.ensures
    ∙ found_behind of p c.or-3.result c.find_in-5.result (((of_source ++ of_scopes) ++ of_nesting) ++ of_files) of_causes four causes in
    ap (option_map (λ text. name_of text.now)) c.copied.ensures ∙ copied c.or-4.result ∙ five
