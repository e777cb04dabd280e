-- What was read of a history, as its definition speaks of it.
use Rattle.std.specs.Prelude.{◌≡◌, ℕ, ◌≤◌, false, List, map, vec_len, Option, Result, Ok, Err}
use Rattle.std.specs.Borrow.{Bor}
use Rattle.std.specs.Ordering.{nat_cmp}
use Rattle.std.specs.Cmp.Lexicographic.{slice_cmp}
use Rattle.std.specs.BTreeMap.{BTreeMap, get_by}
use Rattle.std.specs.Prelude.{slice_index_or}
use Rattle.rb_base.specs.declared.fault.TextFault.{TextFault}
use Rattle.rb_base.specs.declared.fault.FaultName.{FaultName}
use Rattle.rb_base.specs.Naming.{first_named}
use Rattle.rb_domino.specs.declared.history.HistoryRefusal.{HistoryRefusal}
use Rattle.rb_domino.specs.declared.history.HistoryRefusal.TheVariants as refusals
use Rattle.rb_domino.specs.declared.reader.LineRefusal.{LineRefusal}
use Rattle.rb_domino.specs.declared.reader.LineRefusal.TheVariants.{Fault, Memory}
use Rattle.rb_domino.specs.declared.reader.Reader.{Reader}
use Rattle.rb_domino.specs.History.{Story, IsHistory, has_failed, is_taken}

-- a text is refused for its first fault; want of memory says nothing of it
abbrev pub IsRefusedFor : Result Story TextFault → HistoryRefusal → Type 0
IsRefusedFor told (refusals.Fault fault) = told ≡ Err fault
IsRefusedFor told refusals.Memory = Unit {0}

-- the number that a map has for a name
abbrev pub number_in : BTreeMap (Bor (List ℕ)) ℕ → List ℕ → Option ℕ
number_in numbers name = get_by (λ key. slice_cmp nat_cmp name key.now) numbers

-- a map has the number of each name, which is that of the first that has the name
abbrev pub FindsNames : BTreeMap (Bor (List ℕ)) ℕ → List (List ℕ) → Type 0
FindsNames numbers names = (name : List ℕ) → number_in numbers name ≡ first_named names name

-- what was read so far
abbrev pub story_of : Reader → Story
story_of reader = record { processes = reader.processes.items; messages = reader.messages.items; lines = reader.lines.items }

-- the maps and the marks of a reader tell of its history what the definitions ask
pub record Stands (reader : Reader) : Type 0 where
  pub history : IsHistory (story_of reader)
  pub processes : FindsNames reader.process_numbers reader.processes.items
  pub messages : FindsNames reader.message_numbers (map (λ m. m.name) reader.messages.items)
  pub marked : (m : ℕ) → slice_index_or reader.taken.items m false ≡ is_taken (story_of reader) m
  pub marks : vec_len reader.taken ≡ vec_len reader.messages
  pub failed : reader.failed ≡ has_failed (story_of reader)
  pub few_processes : vec_len reader.processes ≤ vec_len reader.lines
  pub few_messages : vec_len reader.messages ≤ vec_len reader.lines

-- a line was taken, or refused for its fault; want of memory says nothing of it
abbrev pub Takes : Result Story FaultName → Reader → Result (Unit {0}) LineRefusal → Type 0
Takes told new (Ok done) = (told ≡ Ok (story_of new)) × Stands new
Takes told new (Err (Fault fault)) = told ≡ Err fault
Takes told new (Err Memory) = Unit {0}
