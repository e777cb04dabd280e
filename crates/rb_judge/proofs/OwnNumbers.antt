-- The names of the tree of a text have numbers of their own: they count up, and are those at the sites of the tree.
use Rattle.std.proofs.Common.{◌≡◌, ℕ, length, sym, ◌∙◌, arith}
use Rattle.std.proofs.lemmas.List.Sorted.{length_permutation}
use Rattle.rb_grammar.specs.Order.{names_from, tree_names}
use Rattle.rb_grammar.proofs.Numbering.Numbered.{names_are_those, names_count_up}
use Rattle.rb_scope.specs.Slots.{numbers_in}
use Rattle.rb_judge.specs.Laws.{ParsedHaveOwnNumbers}
use Rattle.rb_judge.proofs.Hits.{all_within, distinct, hits, named, named_once, none_named_above, same_named}
use Rattle.rb_judge.proofs.NamesInTrees.{tree_names_hit}

pub parsed_have_own_numbers : ParsedHaveOwnNumbers
parsed_have_own_numbers source tree h =
    let those = names_are_those h.tokens tree h.derived in
    let counted = names_count_up h.tokens tree h.derived in
    let as_often : (n : ℕ) → hits n (numbers_in tree) ≡ named n (names_from 0 h.tokens) = λ n.
    (sym (tree_names_hit n tree) ∙ same_named n (tree_names tree) (names_from 0 h.tokens) those) in
    let many : tree.names ≡ length (names_from 0 h.tokens) =
    counted.1 ∙ sym (length_permutation (tree_names tree) (names_from 0 h.tokens) those) in
    record {
      distinct = distinct (numbers_in tree)
          (λ n. (let once = named_once n 0 (names_from 0 h.tokens) counted.0 in let same = as_often n in omega arith));
      within = all_within tree.names (numbers_in tree) (λ n above.
          (let none = none_named_above n 0 (names_from 0 h.tokens) counted.0 (omega arith) in let same = as_often n in omega arith));
    }
