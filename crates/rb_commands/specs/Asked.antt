-- The request that the code gives, as contracts speak of it.
use Rattle.rb_verdict.specs.Words.{Request, plain_of, check_of, code_of, trial_of, session_of, analyse_of, compile_of, load_of, usage_of}
use Rattle.rb_commands.specs.Products.{request_over}
use Rattle.rb_commands.specs.declared.request.Request.{Request as Given}
use Rattle.rb_commands.specs.declared.request.Request.TheVariants as given

-- a request's command and its files
abbrev pub asked : Given → Request
asked (given.OverSchedule over) = request_over over.product over.source.now over.schedule.now
asked (given.Plain plain) = plain_of plain.source.now plain.kept.now
asked (given.Check check) = check_of check.source.now
asked (given.Code code) = code_of code.source.now
asked (given.Compile compile) = compile_of compile.source.now
asked (given.Trial trial) = trial_of trial.number
asked (given.Load load) = load_of load.image.now load.schedule.now
asked (given.Session session) = session_of session.source.now session.schedule.now session.session.now
asked (given.Domino domino) = analyse_of domino.history.now
asked (given.Usage usage) = usage_of usage.text.now
