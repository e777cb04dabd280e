use Rattle.std.proofs.Common.{◌≡◌, ℕ, nat_eq, List, [], ◌∷◌, ◌++◌, Some, None, sym, ap, ◌∙◌, arith, rules, append_assoc}
use Rattle.std.specs.List.{slice_split}
use Rattle.std.proofs.lemmas.Str.Pattern.{split_once_first}
use Rattle.rb_web.proofs.Parts.{first_part, not_ended, one_part}
use Rattle.rb_web.proofs.words.words_in.Goals as goal

pub loop-word-preserved : goal.loop-word-preserved
loop-word-preserved c =
    let rest = c.loop-word.rest.now in
    let word = c.in-Some.word.now in
    let parts : List (List ℕ) = slice_split (λ b. nat_eq b 0) c.in-Some.behind.now in
    let cut = split_once_first 0 rest (Some (c.in-Some.word, c.in-Some.behind)) c.in-Some.ensures.cases (omega arith) in (
      search rules,
      c.loop-word.invariant.1 ∙ ap (λ ps. c.loop-word.words ++ ps) (first_part rest word c.in-Some.behind.now cut)
          ∙ sym (append_assoc c.loop-word.words (word ∷ []) parts) ∙ ap (λ (ws : List (List ℕ)). ws ++ parts) (sym c.in_ok-push.ensures.ok),
    )

pub returns : goal.returns
returns c =
    let text = c.args.text.now in
    let rest = c.loop-word.rest.now in
    let words = c.loop-word.words in
    let last = one_part rest (split_once_first 0 rest None c.in_default.ensures.cases (omega arith)) in
    let cut = c.loop-word.invariant.1 ∙ ap (λ (ps : List (List ℕ)). words ++ ps) last in
    let none : rest ≡ [] = not_ended text rest words c.requires.0 cut c.requires.1.1 in
    (c.requires.1.0, cut ∙ ap (λ (r : List ℕ). words ++ r ∷ []) none)
