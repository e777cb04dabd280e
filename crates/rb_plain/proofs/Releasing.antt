-- Lines that are released: of one process after another, and written in the order of the processes.
use Rattle.std.proofs.Common.{◌≡◌, ◌<◌, ◌+◌, ◌++◌, ℕ, List, Vec, length, map, take, drop, get_or, slice_set, sym, ap, ◌∙◌, arith}
use Rattle.std.proofs.lemmas.List.{get_or-map, length-map, map-set}
use Rattle.std.proofs.lemmas.List.Edits.{map_over_more}
use Rattle.std.proofs.lemmas.List.Folds.{flat_map-map}
use Rattle.std.specs.List.{flat_map}
use Rattle.std.specs.declared.alloc.Global.{Global}
use Rattle.rb_syntax.specs.Tree.{Tree}
use Rattle.rb_trace.proofs.Ended.{from_item}
use Rattle.rb_trace.specs.Report.{out_line}
use Rattle.rb_world.specs.Text.{Naming, out_lines}
use Rattle.rb_world.specs.Turn.{freed, lines_freed}
use Rattle.rb_world.specs.World.{Process as Seen}
use Rattle.rb_meaning.specs.State.{State}
use Rattle.rb_meaning.specs.PlainRun.{EntryPoint}
use Rattle.rb_levels.specs.declared.process.Process.{Process}
use Rattle.rb_levels.specs.Worlds.{level_of, process_of, unkept_kind}
use Rattle.rb_walk.specs.States.{state_of}

-- one more process holds no line
pub one_more_freed : (tree : Tree) (old now : List Process) (i : ℕ) (one after : Process) → i < length old → length now ≡ length old
    → map process_of now ≡ map (freed (unkept_kind tree)) (take i (map process_of old)) ++ drop i (map process_of old)
    → process_of after ≡ freed (unkept_kind tree) (process_of (get_or now i one))
    → map process_of (slice_set now i after) ≡ map (freed (unkept_kind tree)) (take (i + 1) (map process_of old)) ++ drop (i + 1) (map process_of old)
one_more_freed tree old now i one after within long so_far is =
    let here : i < length now = omega (arith, within, long) in
    let seen : i < length (map process_of old) = omega (arith, within, length-map old process_of) in
    map-set process_of now i after
    ∙ ap (slice_set (map process_of now) i) is
    ∙ map_over_more (freed (unkept_kind tree)) (map process_of old) (map process_of now) i (process_of (get_or now i one)) seen so_far
    (sym (get_or-map process_of now i one (process_of (get_or now i one)) here))

-- the lines that each process prints at the end of a turn
abbrev pub lines_of_all : Tree → List Process → List (List (List ℕ))
lines_of_all tree processes = map (λ (q : Seen State EntryPoint). lines_freed (unkept_kind tree) q.state q.levels) (map process_of processes)

-- those of the next process come first
pub next_lines : (tree : Tree) (names : Naming) (t i : ℕ) (processes : List Process) (one : Process) (lines : List (Vec ℕ Global))
    → i < length processes
    → one ≡ get_or processes i one
    → map (λ (line : Vec ℕ Global). line.items) lines ≡ lines_freed (unkept_kind tree) (state_of one.state) (map level_of one.levels.items)
    → out_lines names t i (drop i (lines_of_all tree processes))
    ≡ flat_map (λ (line : Vec ℕ Global). out_line names t i line.items) lines
    ++ out_lines names t (i + 1) (drop (i + 1) (lines_of_all tree processes))
next_lines tree names t i processes one lines within at is =
    let printed : Seen State EntryPoint → List (List ℕ) = λ (q : Seen State EntryPoint). lines_freed (unkept_kind tree) q.state q.levels in
    let all = lines_of_all tree processes in
    let own : List (List ℕ) = map (λ (line : Vec ℕ Global). line.items) lines in
    let seen : i < length (map process_of processes) = omega (arith, within, length-map processes process_of) in
    let told : i < length all = omega (arith, seen, length-map (map process_of processes) printed) in
    let found : own ≡ get_or all i own =
    is ∙ ap (λ (q : Process). printed (process_of q)) at
    ∙ sym (get_or-map printed (map process_of processes) i (process_of one) own seen
    ∙ ap printed (get_or-map process_of processes i one (process_of one) within)) in
    ap (out_lines names t i) (from_item all i own told found)
    ∙ ap (λ (text : List ℕ). text ++ out_lines names t (i + 1) (drop (i + 1) all))
    (flat_map-map (out_line names t i) (λ (line : Vec ℕ Global). line.items) lines)
