-- At the opening each process is placed: it stands at the first address of its body, or where that settles, with no level.
use Rattle.std.proofs.Common.{◌≡◌, ℕ, zero, suc, ◌+◌, List, [], ◌∷◌, option_map, slice_get, Some, None, sym, ap, ◌∙◌, arith}
use Rattle.std.proofs.lemmas.Option.{slice_get-map}
use Rattle.rb_world.specs.Kind.{Membership}
use Rattle.rb_world.specs.Standing.{Each}
use Rattle.rb_world.specs.World.{Process, settled}
use Rattle.rb_world.proofs.Keeping.EachProcess.{settled_each}
use Rattle.rb_world.proofs.ListFacts.{none_some, some_same}
use Rattle.rb_code.specs.Instructions.Plain.{Code, Part}
use Rattle.rb_code.specs.SoundCode.Sound.{HasTable, Table}
use Rattle.rb_code.specs.WordMachine.Turn.{Copy, Standing}
use Rattle.rb_code.specs.SoundCode.WellFormed.{ListsChannels}
use Rattle.rb_code.specs.WordMachine.WordKind.{word_kind}
use Rattle.rb_code.specs.WordMachine.WordRun.{opening_of, opening_standings}
use Rattle.rb_code.proofs.Executing.RunsStand.{runs_stand}
use Rattle.rb_code.proofs.WholeRuns.MachineSteps.{settle_same}
use Rattle.rb_recovery.specs.Known.{IsPlaced}

-- each state is that of its process
opening_number : (p r : ℕ) (parts : List Part) (s : Standing) → slice_get (opening_standings p parts) r ≡ Some s → s.process ≡ p + r
opening_number p r [] s e = absurd (none_some e)
opening_number p zero (part ∷ parts) s e =
    let none : p ≡ p + 0 = omega arith in
    sym (ap (λ (x : Standing). x.process) (some_same e)) ∙ none
opening_number p (suc r) (part ∷ parts) s e =
    let next : p + 1 + r ≡ p + suc r = omega arith in
    opening_number (p + 1) r parts s e ∙ next

module _ (c : Code) (groups : List Membership) (t : Table) (has : HasTable c groups t) (lists : ListsChannels c) where
  abbrev first : Standing → Process Standing Copy
  first s = settled (word_kind c groups) s []

  opens_placed : (r : ℕ) (s : Standing) → slice_get (opening_standings 0 c.processes) r ≡ Some s → IsPlaced c groups t r (first s)
  opens_placed r s e =
      let own : 0 + r ≡ r = omega arith in
      record {
        number = (settle_same c None s).process ∙ opening_number 0 r c.processes s e ∙ own;
        stands = runs_stand c groups t has lists [] r (first s)
            (slice_get-map first (opening_standings 0 c.processes) r ∙ ap (option_map first) e);
        nested = λ i d at. absurd (none_some at.there);
        members = λ i d at. absurd (none_some at.there);
        blocks = λ i level there. absurd (none_some there);
      }

  pub opening-placed : Each (IsPlaced c groups t) (opening_of c groups).processes
  opening-placed = settled_each (word_kind c groups) (IsPlaced c groups t) (opening_standings 0 c.processes) opens_placed
