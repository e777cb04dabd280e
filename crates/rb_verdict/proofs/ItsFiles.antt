-- What words ask for names the files of its command, each with its limit.
use Rattle.std.proofs.Common.{Option, Some, None, option_map, unwrap_or, refl}
use Rattle.rb_asking.specs.Commands.{Asked, asked_of}
use Rattle.rb_asking.specs.Commands as given
use Rattle.rb_verdict.specs.Words.{HasItsFiles, request_with, usage_line, usage_of}
use Rattle.rb_verdict.specs.Laws.{RequestsHaveTheirFiles}

asked : (one : Asked) → HasItsFiles (request_with one)
asked (given.Run source schedule) = refl
asked (given.Survive source schedule) = refl
asked (given.Plain source kept) = refl
asked (given.Check source) = refl
asked (given.Code source) = refl
asked (given.Trial number) = refl
asked (given.Compile source) = refl
asked (given.Load image schedule) = refl
asked (given.Session source schedule session) = refl
asked (given.Domino history) = refl
asked (given.Stuck source schedule) = refl

or_usage : (o : Option Asked) → HasItsFiles (unwrap_or (option_map request_with o) (usage_of usage_line))
or_usage None = refl
or_usage (Some one) = asked one

pub requests_have_their_files : RequestsHaveTheirFiles
requests_have_their_files words = or_usage (asked_of words)
