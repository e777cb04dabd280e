use Rattle.std.proofs.Common.{◌≡◌, ◌+◌, ◌<◌, Option, length, ap, sym, ◌∙◌, subst, rules}
use Rattle.std.proofs.lemmas.List.{length-map}
use Rattle.std.specs.Option.{unwrap_or}
use Rattle.rb_code.specs.Instructions.Plain.{Part, part}
use Rattle.rb_code.specs.WordMachine.Workspace.{no_part, variables_place}
use Rattle.rb_proc.proofs.Entered.{mapped_there}
use Rattle.rb_proc.proofs.sight.Sight.new.Goals as goal

pub returns-clause-turn : goal.returns-clause-turn
returns-clause-turn c =
    let processes = c.args.code.now.processes.items in
    let one = c.index.result.now in
    let there = mapped_there part processes c.args.process one c.requires.process c.index.ensures in
    let count : c.len.result ≡ length one.channels.items = search rules in
    record {
      exists = subst (λ n. c.args.process < n) (sym (length-map processes part)) c.requires.process;
      variables = ap (λ n. 1 + n) count ∙ sym (ap (λ (o : Option Part). variables_place (unwrap_or o no_part)) there);
      words = c.requires.words;
      few = c.requires.places;
    }
