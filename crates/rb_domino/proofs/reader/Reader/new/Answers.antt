use Rattle.std.proofs.Common.{◌≡◌, [], ap, sym, subst, map, arith}
use Rattle.std.proofs.lemmas.Grind.{common_steps}
use Rattle.rb_domino.specs.History.{IsHistory, nothing}
use Rattle.rb_domino.proofs.Named.{finds_nothing}
use Rattle.rb_domino.proofs.reader.Reader.new.Goals as goal

pub returns-clause-stands : goal.returns-clause-stands
returns-clause-stands c =
    let processes : [] ≡ c.new.result.items = sym c.new.ensures.items in
    let messages : [] ≡ c.new-2.result.items = sym c.new-2.ensures.items in
    let lines : [] ≡ c.new-3.result.items = sym c.new-3.ensures.items in
    record {
      history = subst IsHistory (λ i. record { processes = processes i; messages = messages i; lines = lines i }) nothing;
      processes = finds_nothing c.new-4.result c.new.result.items c.new-4.ensures.empty c.new.ensures.items;
      messages =
          finds_nothing c.new-5.result (map (λ m. m.name) c.new-2.result.items) c.new-5.ensures.empty (ap (map (λ m. m.name)) c.new-2.ensures.items);
      marked = λ m. grind (arith, common_steps);
      marks = grind (arith, common_steps);
      failed = grind (arith, common_steps);
      few_processes = grind (arith, common_steps);
      few_messages = grind (arith, common_steps);
    }
