use Rattle.rb_lists.proofs.texts.are_quotable.Goals as goal

pub returns : goal.returns
returns c = ((λ e. record { each = c.all_allowed.ensures.0 e }), (λ texts. c.all_allowed.ensures.1 texts.each))
