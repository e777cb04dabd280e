-- The processes before the first turn, one after another.
use Rattle.std.proofs.Common.{◌≡◌, ◌<◌, ◌≤◌, ◌+◌, ℕ, List, [], ◌∷◌, ◌++◌, length, map, drop, get_or, sym, ap, ◌∙◌, append_assoc, arith}
use Rattle.std.proofs.lemmas.List.{length-map, map-append}
use Rattle.rb_base.specs.declared.names.Names.{Names}
use Rattle.rb_syntax.specs.Plain.{process_declaration}
use Rattle.rb_syntax.specs.Tree.{Tree}
use Rattle.rb_syntax.specs.declared.program.Process.{Process as Declaration}
use Rattle.rb_trace.proofs.Ended.{from_item}
use Rattle.rb_trace.specs.Naming.{naming, process_naming}
use Rattle.rb_world.specs.World.{Process as Seen, settled}
use Rattle.rb_world.specs.Text.{Naming}
use Rattle.rb_meaning.specs.State.{State}
use Rattle.rb_meaning.specs.Meaning.{naming_of, opening_state, opening_states, process_named}
use Rattle.rb_meaning.specs.PlainRun.{EntryPoint, PlainWorld}
use Rattle.rb_meaning.proofs.Knowing.FewEventsOfTurns.{length-opening_states}
use Rattle.rb_levels.specs.declared.process.Process.{Process}
use Rattle.rb_levels.specs.Worlds.{process_of, unkept_kind, world_of}
use Rattle.rb_plain.specs.Played.{unkept_opening}

-- the processes from number i on
abbrev pub opened_from : Tree → ℕ → List Declaration → List (Seen State EntryPoint)
opened_from tree i declared = map (λ s. settled (unkept_kind tree) s []) (opening_states tree i (map process_declaration (drop i declared)))

-- one more process was opened
pub opened_more : (tree : Tree) (declared : List Declaration) (i : ℕ) (one : Declaration) (made : List Process)
    (process : Process) (whole : List (Seen State EntryPoint))
    → i < length declared → one ≡ get_or declared i one
    → process_of process ≡ settled (unkept_kind tree) (opening_state tree i (process_declaration one)) []
    → map process_of made ++ opened_from tree i declared ≡ whole
    → map process_of (made ++ process ∷ []) ++ opened_from tree (i + 1) declared ≡ whole
opened_more tree declared i one made process whole within is new so_far =
    ap (λ (qs : List (Seen State EntryPoint)). qs ++ opened_from tree (i + 1) declared) (map-append process_of made (process ∷ []))
    ∙ append_assoc (map process_of made) (process_of process ∷ []) (opened_from tree (i + 1) declared)
    ∙ ap (λ (q : Seen State EntryPoint). map process_of made ++ q ∷ opened_from tree (i + 1) declared) new
    ∙ ap (λ (ds : List Declaration). map process_of made
    ++ map (λ s. settled (unkept_kind tree) s []) (opening_states tree i (map process_declaration ds)))
    (sym (from_item declared i one within is))
    ∙ so_far

pub opened_named : (tree : Tree) (names : Names) (made : List Process) → naming names ≡ naming_of tree → world_of tree made ≡ unkept_opening tree
    → length made ≤ length names.processes.items
opened_named tree names made named is =
    let all : length (map process_of made) ≡ length (map (λ s. settled (unkept_kind tree) s []) (opening_states tree 0 tree.processes)) =
    ap (λ (w : PlainWorld). length w.processes) is in
    let names_same : length (map process_naming names.processes.items) ≡ length (map process_named tree.processes) =
    ap (λ (n : Naming). length n.processes) named in
    omega (
      arith,
      all,
      names_same,
      length-map made process_of,
      length-map (opening_states tree 0 tree.processes) (λ s. settled (unkept_kind tree) s []),
      length-opening_states tree 0 tree.processes,
      length-map names.processes.items process_naming,
      length-map tree.processes process_named,
    )
