use Rattle.std.proofs.Common.{Some, Ok}
use Rattle.rb_lex.proofs.Answered.{answers_first}
use Rattle.rb_lex.specs.Reader.{Answers}
use Rattle.rb_why.proofs.tokens.token_text.Goals as goal

pub reading-smaller : goal.reading-smaller
reading-smaller c =
    let h : Answers c.reading.lexer (Ok (Some c.in-Ok-Some.token)) c.next.new.self = rw c.in-Ok-Some.field-0-is at c.in-Ok-Some.ensures in
    (answers_first c.reading.lexer c.next.new.self c.in-Ok-Some.token h).2
