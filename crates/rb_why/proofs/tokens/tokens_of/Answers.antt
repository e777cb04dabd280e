use Rattle.std.proofs.Common.{Some, Ok}
use Rattle.rb_lex.proofs.Answered.{answers_first}
use Rattle.rb_lex.specs.Reader.{lexeme_of, Answers}
use Rattle.rb_lex.specs.TokenList.{tokens_left, tokens_of}
use Rattle.rb_why.proofs.Standing.{pushed}
use Rattle.rb_why.proofs.tokens.tokens_of.Goals as goal

pub reading-smaller : goal.reading-smaller
reading-smaller c =
    let h : Answers c.reading.lexer (Ok (Some c.in-Ok-Some.token)) c.next.new.self = rw c.in-Ok-Some.field-0-is at c.in-Ok-Some.ensures in
    (answers_first c.reading.lexer c.next.new.self c.in-Ok-Some.token h).2

pub reading-preserved : goal.reading-preserved
reading-preserved c =
    let h : Answers c.reading.lexer (Ok (Some c.in-Ok-Some.token)) c.next.new.self = rw c.in-Ok-Some.field-0-is at c.in-Ok-Some.ensures in
    pushed lexeme_of c.reading.tokens.items c.push.new.self.items c.in-Ok-Some.token (tokens_left c.reading.lexer) (tokens_left c.next.new.self)
    (tokens_of c.args.source.now) c.in_ok-push-in-Ok-Some.ensures.items
    (answers_first c.reading.lexer c.next.new.self c.in-Ok-Some.token h).0 c.reading.invariant
