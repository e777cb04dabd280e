-- How a request ends: one table for all commands.
use Rattle.std.specs.Prelude.{◌≡◌, ℕ, List}
use Rattle.rb_outside.specs.Outside.{then_written}
use Rattle.rb_hall.specs.Answers.{HasReadIn, Scene}
use Rattle.rb_hall.specs.Ending.{EndsBehind}
use Rattle.rb_hall.specs.Judgement.{Explaining, Wants}
use Rattle.rb_hall.specs.declared.outcome.Outcome.{Outcome}
use Rattle.rb_hall.specs.declared.outcome.Outcome.TheVariants as out
use Rattle.rb_verdict.specs.Judging.{JudgesWithin, TakesWhileWriting}
use Rattle.rb_verdict.specs.Lasting.{Lasts}
use Rattle.rb_verdict.specs.Words.{Command, Run, Survive, Replay, Session, Survey, Load, Request}
use Rattle.rb_commands.specs.Asked.{asked}
use Rattle.rb_commands.specs.Explained.{ExplainsProgram, ExplainsRecord, ExplainsSource, NamesOfImage, NamesOfSource}
use Rattle.rb_commands.specs.declared.request.Request.{Request as Given}
use Rattle.rb_commands.specs.declared.why.Why.{Why}

-- what is known of a fault of a command's texts
abbrev pub explains_of : Command → Explaining Why
explains_of Run = ExplainsProgram NamesOfSource
explains_of Survive = ExplainsProgram NamesOfSource
explains_of Survey = ExplainsProgram NamesOfSource
explains_of Session = ExplainsProgram NamesOfSource
explains_of Load = ExplainsProgram NamesOfImage
explains_of Replay = ExplainsRecord
explains_of command = ExplainsSource

-- A request ends so, its bytes behind a buffer: each end has its cause, and comes where nothing stands in the way.
abbrev pub RequestEnds : Given → Scene → Scene → Outcome Why → Type 0
RequestEnds request old new outcome =
    EndsBehind (JudgesWithin (asked request)) (explains_of (asked request).command) (asked request).files (TakesWhileWriting (asked request).command)
    old new outcome

-- What a request that is done has written of the texts that it has read, and what that says of them.
pub record LastsSo (request : Request) (old new : Scene) : Type 0 where
  pub texts : List (List ℕ)
  pub rest : List Wants
  pub text : List ℕ
  pub read : HasReadIn old.files (JudgesWithin request) request.files texts rest old.starts new.starts
  pub lasts : Lasts request.command texts text
  pub written : new.written ≡ then_written old.written text

-- so it is once the request is done
abbrev pub LastsBehind : Request → Scene → Scene → Outcome Why → Type 0
LastsBehind request old new out.Done = LastsSo request old new
LastsBehind request old new outcome = Unit {0}
