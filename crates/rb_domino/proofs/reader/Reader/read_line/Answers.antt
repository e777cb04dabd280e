use Rattle.std.proofs.Common.{◌≡◌, ℕ, ◌∷◌, [], false, List, Option, Some, None, MatchOption, ap, sym, ◌∙◌, subst}
use Rattle.std.specs.Option.{is_some}
use Rattle.rb_sched.specs.Schedule.{without_comment, without_cr, words_from, words_of}
use Rattle.rb_domino.specs.History.{read_words}
use Rattle.rb_domino.specs.Reading.{Takes, story_of}
use Rattle.rb_domino.proofs.reader.Reader.read_line.Goals as goal

-- a line has the words of what is left of it
words_left : (line cut left : List ℕ) (words : List (List ℕ)) → cut ≡ without_cr line → left ≡ without_comment cut → words_from [] left ≡ words
    → words_of line ≡ words
words_left line cut left words by_cr by_comment is =
    ap (λ (bytes : List ℕ). words_from [] (without_comment bytes)) (sym by_cr) ∙ ap (words_from []) (sym by_comment) ∙ is

-- what holds where nothing was found
unless_some : {X P : Type 0} (Q : X → Type 0) (o : Option X) → is_some o ≡ false → MatchOption o P Q → P
unless_some Q None none p = p
unless_some Q (Some x) some p = absurd (cc)

pub returns-in_default-clause-takes : goal.returns-in_default-clause-takes
returns-in_default-clause-takes c =
    let none : words_of c.args.line.now ≡ [] =
    words_left c.args.line.now _ _ [] c.without_cr.ensures c.without_comment.ensures c.in_default.ensures in
    (ap (read_words (story_of c.args.self.now)) none, c.requires.stands)

pub returns-in_default-next_word-2-clause-takes : goal.returns-in_default-next_word-2-clause-takes
returns-in_default-next_word-2-clause-takes c =
    let verb = c.in-Some.verb.now in
    let name = c.in-Some-next_word.name.now in
    let two : words_of c.args.line.now ≡ verb ∷ name ∷ [] =
    words_left c.args.line.now _ _ _ c.without_cr.ensures c.without_comment.ensures
    (c.in-Some.ensures ∙ ap (λ (ws : List (List ℕ)). verb ∷ ws) c.in-Some-next_word.ensures
    ∙ ap (λ (ws : List (List ℕ)). verb ∷ name ∷ ws) c.in_default-next_word-2.ensures) in
    subst (λ words. Takes (read_words (story_of c.args.self.now) words) c.read_two.new.self c.read_two.result) (sym two) c.read_two.ensures.takes

pub returns-clause-takes : goal.returns-clause-takes
returns-clause-takes c =
    let verb = c.in-Some.verb.now in
    let name = c.in-Some-next_word.name.now in
    let from = c.in-Some-next_word-2.from.now in
    let to = c.in-Some-next_word-3.to.now in
    let end : words_from [] c.in-Some-next_word-3.rest.now ≡ [] =
    unless_some _ c.next_word-5.result (sym c.if-is_some.ensures) c.next_word-5.ensures in
    let four : words_of c.args.line.now ≡ verb ∷ name ∷ from ∷ to ∷ [] =
    words_left c.args.line.now _ _ _ c.without_cr.ensures c.without_comment.ensures
    (c.in-Some.ensures ∙ ap (λ (ws : List (List ℕ)). verb ∷ ws) c.in-Some-next_word.ensures
    ∙ ap (λ (ws : List (List ℕ)). verb ∷ name ∷ ws) c.in-Some-next_word-2.ensures
    ∙ ap (λ (ws : List (List ℕ)). verb ∷ name ∷ from ∷ ws) c.in-Some-next_word-3.ensures
    ∙ ap (λ (ws : List (List ℕ)). verb ∷ name ∷ from ∷ to ∷ ws) end) in
    subst (λ words. Takes (read_words (story_of c.args.self.now) words) c.read_four.new.self c.read_four.result) (sym four) c.read_four.ensures.takes
