use Rattle.std.proofs.Common.{ap, sym, ◌∙◌}
use Rattle.rb_base.specs.Reserved.{common_words, is_one_of}
use Rattle.rb_lex.proofs.Reserved.{is_one_of-length, list_any-now}
use Rattle.rb_lex.proofs.words.is_common_word.Goals as goal

pub returns : goal.returns
returns c =
    c.is_listed.ensures ∙ list_any-now c.words_of_length.result.now c.args.text.now
    ∙ ap (λ words. is_one_of words c.args.text.now) c.words_of_length.ensures
    ∙ sym (is_one_of-length common_words c.args.text.now)
