-- What `next` answers, as tokens that are left.
use Rattle.std.proofs.Common.{◌≡◌, false, [], ◌∷◌, refl, ap, sym, ◌∙◌, Option, Some, None, Result, Ok, Err}
use Rattle.rb_base.specs.declared.fault.SourceFault.{SourceFault}
use Rattle.rb_lex.specs.declared.token.Token.{Token}
use Rattle.rb_lex.specs.Reader.{Reader, next_of, lexeme_of, Answers}
use Rattle.rb_lex.specs.Tokens.{End, Refused, next_from}
use Rattle.rb_lex.specs.TokenList.{tokens_from, ending_from}
use Rattle.rb_lex.specs.Laws.{AnswersFirst, AnswersEnd, AnswersFault, EndStays, FaultStays}
use Rattle.rb_lex.proofs.Landing.{found-progress}
use Rattle.rb_lex.proofs.Lists.{tokens_from-found, tokens_from-end, tokens_from-refused}

-- the laws on what is left
pub answers_first : AnswersFirst
answers_first old new token a =
    let e = tokens_from-found old.edition old.place old.left (lexeme_of token) new.place new.left a.0 in (
      e.0 ∙ ap (λ edition. lexeme_of token ∷ tokens_from edition new.place new.left) (sym a.1),
      e.1 ∙ ap (λ edition. ending_from edition new.place new.left) (sym a.1),
      found-progress old.edition false old.place old.left (lexeme_of token) new.place new.left a.0,
    )

pub answers_end : AnswersEnd
answers_end old new a = tokens_from-end old.edition old.place old.left new.place a.0

pub answers_fault : AnswersFault
answers_fault old new fault a = tokens_from-refused old.edition old.place old.left fault a.0

-- readers are equal by their parts
same_reader : (c b : Reader) → c.edition ≡ b.edition → c.place ≡ b.place → c.left ≡ b.left → c ≡ b
same_reader c b s p l =
    ap (λ x. let r : Reader = record { edition = x; place = c.place; left = c.left } in r) s
    ∙ ap (λ x. let r : Reader = record { edition = b.edition; place = x; left = c.left } in r) p
    ∙ ap (λ x. let r : Reader = record { edition = b.edition; place = b.place; left = x } in r) l

-- where no byte is left, the end comes next
at_end : (b : Reader) → b.left ≡ [] → next_of b ≡ End b.place
at_end b e = ap (λ left. next_from b.edition false b.place left) e

-- whatever is answered there is the end
end_again : (b c : Reader) (outcome : Result (Option Token) SourceFault) → b.left ≡ [] → next_of b ≡ End b.place
    → Answers b outcome c → (outcome ≡ Ok None) × (c ≡ b)
end_again b c (Ok None) l e a = (refl, same_reader c b a.2 (cc) (a.1 ∙ sym l))
end_again b c (Ok (Some token)) l e a = absurd cc
end_again b c (Err fault) l e a = absurd cc

pub end_stays : EndStays
end_stays a b c outcome first second = end_again b c outcome first.1 (at_end b first.1) second

-- whatever is answered at a fault is that fault
fault_again : (b c : Reader) (fault : SourceFault) (outcome : Result (Option Token) SourceFault) → next_of b ≡ Refused fault
    → Answers b outcome c → (outcome ≡ Err fault) × (c ≡ b)
fault_again b c fault (Ok None) e a = absurd cc
fault_again b c fault (Ok (Some token)) e a = absurd cc
fault_again b c fault (Err other) e a = (cc, a.1)

pub fault_stays : FaultStays
fault_stays a b c fault outcome first second =
    fault_again b c fault outcome (ap next_of first.1 ∙ first.0) second
