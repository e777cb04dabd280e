use Rattle.rb_lists.proofs.names.are_namings.Goals as goal

pub returns : goal.returns
returns c = ((λ e. record { each = c.all_allowed.ensures.0 e }), (λ namings. c.all_allowed.ensures.1 namings.each))
