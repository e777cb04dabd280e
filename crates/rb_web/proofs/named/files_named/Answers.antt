use Rattle.std.proofs.Common.{◌≡◌, ℕ, ◌-◌, List, arith, drop, length, take_all, length-drop, map, string_bytes, sym, ap, ◌∙◌}
use Rattle.std.specs.List.{zip}
use Rattle.std.specs.Iterator.Adapters.{zip_first, zip_second}
use Rattle.std.specs.Slice.Iter.{iter_rest}
use Rattle.std.proofs.lemmas.List.{drop-map}
use Rattle.rb_web.proofs.Pairs.{all_pairs, file_of, files_paired, files_seen}
use Rattle.rb_web.proofs.named.files_named.Goals as goal

pub returns : goal.returns
returns c =
    let names = drop 1 c.args.words.now in
    let texts = c.args.texts.now in
    let all = take_all (length c.args.words.now - 1) names (omega (arith, length-drop 1 c.args.words.now)) in
    let first = ap (λ z. iter_rest (zip_first z)) c.into_iter-name-iterator.ensures.into_iter_gives ∙ ap iter_rest c.zip-name-items.ensures.first
    ∙ c.iter.ensures.rest ∙ all in
    let behind : iter_rest (zip_second c.zip-name-items.result) ≡ texts = c.zip-name-items.ensures.second.0 in
    let second = ap (λ z. iter_rest (zip_second z)) c.into_iter-name-iterator.ensures.into_iter_gives ∙ behind in
    let pairs = all_pairs names texts c.loop-name.yielded c.into_iter-name-iterator.result c.loop-name.name-iterator c.next.new.self c.next.result
    first second c.loop-name.yielded_by c.in-None.is c.next.ensures.steps in
    c.loop-name.invariant ∙ files_seen c.loop-name.yielded ∙ ap (map file_of) pairs ∙ files_paired names texts
    ∙ ap (λ (ns : List (List ℕ)). map (λ file. record { name = file.0; bytes = file.1 }) (zip ns (map (λ text. text.now) texts)))
    (sym (drop-map string_bytes 1 c.args.words.now))
