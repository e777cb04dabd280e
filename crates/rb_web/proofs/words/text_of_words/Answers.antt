use Rattle.std.proofs.Common.{◌≡◌, ℕ, nat_eq, false, true, length, List, [], ◌∷◌, ◌++◌, Some, None, sym, ap, ◌∙◌, arith, rules, append_assoc}
use Rattle.std.specs.Bool.{◌==◌}
use Rattle.std.specs.List.{slice_split}
use Rattle.std.proofs.lemmas.Str.Pattern.{split_once_first}
use Rattle.rb_web.proofs.Parts.{first_part, not_ended, one_part}
use Rattle.rb_web.proofs.words.text_of_words.Goals as goal

pub loop-word-preserved : goal.loop-word-preserved
loop-word-preserved c =
    let rest = c.loop-word.rest.now in
    let word = c.in-Some._word.now in
    let before = c.loop-word.invariant.1.0 in
    let parts : List (List ℕ) = slice_split (λ b. nat_eq b 0) c.in-Some.behind.now in
    let cut = split_once_first 0 rest (Some (c.in-Some._word, c.in-Some.behind)) c.in-Some.ensures.cases (omega arith) in (
      search rules,
      (
        before ++ word ∷ [],
        c.loop-word.invariant.1.1 ∙ ap (λ ps. before ++ ps) (first_part rest word c.in-Some.behind.now cut)
            ∙ sym (append_assoc before (word ∷ []) parts),
      ),
    )

pub returns-then-not-is_empty : goal.returns-then-not-is_empty
returns-then-not-is_empty c = λ words are.
    let text = c.in-Ok.text.now in
    let rest = c.loop-word.rest.now in
    let before = c.loop-word.invariant.1.0 in
    let last = one_part rest (split_once_first 0 rest None c.in_default-split_once.ensures.cases (omega arith)) in
    let cut = c.loop-word.invariant.1.1 ∙ ap (λ (ps : List (List ℕ)). before ++ ps) last in
    let none : rest ≡ [] = not_ended text rest before words cut (ap (slice_split (λ b. nat_eq b 0)) c.in-Ok.ensures.cases.0 ∙ are.1) in
    let empty : false ≡ true = c.if-not-is_empty.ensures ∙ ap (λ (r : List ℕ). length r == 0) none in
    cc
