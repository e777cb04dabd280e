-- The code of processes, with what the lists tell of them, takes at most sixteen bytes for each byte that they weigh beside names.
use Rattle.std.proofs.Common.{◌≡◌, ℕ, ◌+◌, ◌*◌, ◌<◌, ◌≤◌, nat_eq, Bool, true, false, ◌||◌, cond, List, [], ◌∷◌, length, refl, sym, ap, ◌∙◌, arith}
use Rattle.std.proofs.lemmas.Bool.{eqb-true, ne_eqb}
use Rattle.rb_syntax.specs.Numbered.{BodyNumbered, ProceduresNumbered, ProcessNumbered, ProcessesNumbered, blocks_in, blocks_in_body, blocks_in_procedures, blocks_in_process, blocks_in_processes}
use Rattle.rb_syntax.specs.Tree.{Body, Scope, ProcedureDeclaration, ProcessDeclaration, Tree}
use Rattle.rb_meaning.specs.Groups.{channels_of}
use Rattle.rb_meaning.specs.Step.{commands_of}
use Rattle.rb_world.specs.Kind.{Ends}
use Rattle.rb_scope.specs.declared.slot.Slot.{Slot}
use Rattle.rb_code.specs.Instructions.Plain.{Code, Part, Procedure}
use Rattle.rb_code.specs.Agreement.Forms.{CommandsCode, Owner, ProceduresCode}
use Rattle.rb_code.specs.Agreement.StandsFor.{ProcessCode, ProcessesCode, channels_from}
use Rattle.rb_code.specs.declared.instr.Instr.TheVariants as instr
use Rattle.rb_sizes.proofs.Weighing.Sizes.{size_long, size_some}
use Rattle.rb_sizes.proofs.Weighing.Weights.{body_weight, commands_weight, procedures_weight}
use Rattle.rb_sizes.proofs.Spending.Spent.{listed, one, parts_cost, part_cost, procedures_cost, spent, spent_one}
use Rattle.rb_sizes.proofs.Spending.StatementCosts.{Costs, as_much, commands_cost, ◌and◌, ◌before◌}

-- how many of these channels have process p as an end
abbrev pub ends_at : ℕ → List Ends → ℕ
ends_at p channels = length (channels_from p 0 channels)

-- the ends of so many processes, from number p on
abbrev pub ends_among : ℕ → List ProcessDeclaration → List Ends → ℕ
ends_among p [] channels = 0
ends_among p (process ∷ others) channels = ends_at p channels + ends_among (p + 1) others channels

-- what code and lists take of a process at most, but for its channels
abbrev pub process_bound : ProcessDeclaration → ℕ
process_bound process = 33 + 16 * procedures_weight process.procedures + 16 * commands_weight process.commands

abbrev pub processes_bound : List ProcessDeclaration → ℕ
processes_bound [] = 0
processes_bound (process ∷ others) = process_bound process + processes_bound others

module _ {c : Code} (tree : Tree) (slots : List Slot) where
  statements_cost : (owner : Owner) (body : Body) (n : ℕ) → BodyNumbered n body
      → Costs c n (blocks_in_body body) 0 (16 * body_weight body) (CommandsCode tree slots owner (commands_of body))
  statements_cost owner (Scope variables commands) n h = as_much (commands_cost tree slots owner commands n h) refl (omega arith)

  procedures_take : (owner : Owner) (procedures : List ProcedureDeclaration) (entries : List Procedure) (n : ℕ) → ProceduresNumbered n procedures
      → Costs c n (blocks_in_procedures procedures) (procedures_cost entries) (16 * procedures_weight procedures)
      (ProceduresCode tree slots owner procedures entries)
  procedures_take owner [] entries n h = record {
    fits = λ a b p.
        let none = ap procedures_cost p.0 in
        let same = ap (spent c) p.1 in
        let here : n + 0 ≡ n = omega arith in
        let g = ap (listed c) here in
        omega arith;
  }
  procedures_take owner (procedure ∷ others) entries n h = record {
    fits = λ a b (more, is, p).
        let chain =
        statements_cost owner procedure.body n h.0 and one instr.Return
        before procedures_take owner others more (n + blocks_in_body procedure.body) h.1 in
        let inside = chain.fits a b p in
        let entry = ap procedures_cost is in
        let long = size_long procedure.name.text in
        let some = size_some procedure.name.text in
        omega arith;
  }

  -- a process whose recovery blocks are numbered from n on: those of its procedures come first
  process_takes : (p : ℕ) (process : ProcessDeclaration) (part : Part) (n : ℕ) → ProcessNumbered n process
      → Costs c n (blocks_in_process process) (part_cost part) (process_bound process + 8 * ends_at p (channels_of tree))
      (ProcessCode tree slots p process part)
  process_takes p process part n h =
      let owner : Owner = record { number = p; procedures = process.procedures } in
      let inner : ℕ = blocks_in_procedures process.procedures in record {
        fits = λ a b (tells, (m, body, (d, done, rest))).
            let f = (commands_cost {c = c} tree slots owner process.commands (n + inner) h.1).fits a m body in
            let g = spent_one c m d instr.Done done in
            let i = (procedures_take owner process.procedures part.procedures n h.0).fits d b rest in
            let channels = ap length tells.channels_are in
            let more : n + inner + blocks_in process.commands ≡ n + (inner + blocks_in process.commands) = omega arith in
            let last = ap (listed c) more in
            omega arith;
      }

  pub processes_take : (p : ℕ) (processes : List ProcessDeclaration) (parts : List Part) (n : ℕ) → ProcessesNumbered n processes
      → Costs c n (blocks_in_processes processes) (parts_cost parts) (processes_bound processes + 8 * ends_among p processes (channels_of tree))
      (ProcessesCode tree slots p processes parts)
  processes_take p [] parts n h = record {
    fits = λ a b q.
        let none = ap parts_cost q.0 in
        let same = ap (spent c) q.1 in
        let here : n + 0 ≡ n = omega arith in
        let g = ap (listed c) here in
        omega arith;
  }
  processes_take p (process ∷ others) parts n h = record {
    fits = λ a b (part, more, is, (m, code, rest)).
        let f = (process_takes p process part n h.0).fits a m code in
        let g = (processes_take (p + 1) others more (n + blocks_in_process process) h.1).fits m b rest in
        let all = ap parts_cost is in
        let later : n + blocks_in_process process + blocks_in_processes others ≡ n + (blocks_in_process process + blocks_in_processes others) = omega arith in
        let last = ap (listed c) later in
        omega arith;
  }

-- A channel has two ends, so among different processes at most two have it as one.
one_if : Bool → ℕ
one_if true = 1
one_if false = 0

listed_end : (t : Bool) (k : ℕ) (rest : List ℕ) → length (cond t (k ∷ rest) rest) ≡ one_if t + length rest
unfolding one_if
listed_end true k rest = omega arith
listed_end false k rest = omega arith

-- how many channels are listed, whatever the first one's number is
same_long : (p k j : ℕ) (channels : List Ends) → length (channels_from p k channels) ≡ length (channels_from p j channels)
same_long p k j [] = refl
same_long p k j (ends ∷ others) =
    let here = nat_eq ends.sender p || nat_eq ends.receiver p in
    listed_end here k (channels_from p (k + 1) others) ∙ ap (λ n. one_if here + n) (same_long p (k + 1) (j + 1) others)
    ∙ sym (listed_end here j (channels_from p (j + 1) others))

ends_more : (p : ℕ) (ends : Ends) (others : List Ends)
    → ends_at p (ends ∷ others) ≡ one_if (nat_eq ends.sender p || nat_eq ends.receiver p) + ends_at p others
ends_more p ends others =
    let here = nat_eq ends.sender p || nat_eq ends.receiver p in
    listed_end here 0 (channels_from p 1 others) ∙ ap (λ n. one_if here + n) (same_long p 1 0 others)

either_few : (s t : Bool) → one_if (s || t) ≤ one_if s + one_if t
unfolding one_if
either_few true t = omega arith
either_few false t = omega arith

-- how many of so many processes from number p on have this number
found : ℕ → ℕ → List ProcessDeclaration → ℕ
found x p [] = 0
found x p (process ∷ others) = one_if (nat_eq x p) + found x (p + 1) others

found_none : (x p : ℕ) (processes : List ProcessDeclaration) → x < p → found x p processes ≡ 0
unfolding found one_if
found_none x p [] h = refl
found_none x p (process ∷ others) h =
    let later = found_none x (p + 1) others (omega arith) in
    let here : nat_eq x p ≡ false = ne_eqb x p (λ e. omega (arith, e)) in
    let none = ap one_if here in
    omega arith

found_once : (x p : ℕ) (processes : List ProcessDeclaration) → found x p processes ≤ 1
unfolding found one_if
found_once x p [] = omega arith
found_once x p (process ∷ others) = by (nat_eq x p) refl (found_once x (p + 1) others)
  where
    by : (t : Bool) → nat_eq x p ≡ t → found x (p + 1) others ≤ 1 → one_if t + found x (p + 1) others ≤ 1
    by true e few = let same = eqb-true x p e in let none = found_none x (p + 1) others (omega arith) in omega arith
    by false e few = omega arith

ends_of_one : (ends : Ends) (others : List Ends) (p : ℕ) (processes : List ProcessDeclaration)
    → ends_among p processes (ends ∷ others) ≤ found ends.sender p processes + found ends.receiver p processes + ends_among p processes others
unfolding found
ends_of_one ends others p [] = omega arith
ends_of_one ends others p (process ∷ more) =
    let first = ends_more p ends others in
    let few = either_few (nat_eq ends.sender p) (nat_eq ends.receiver p) in
    let later = ends_of_one ends others (p + 1) more in
    omega arith

no_ends : (p : ℕ) (processes : List ProcessDeclaration) → ends_among p processes [] ≡ 0
no_ends p [] = refl
no_ends p (process ∷ others) = let later = no_ends (p + 1) others in omega arith

pub two_ends : (p : ℕ) (processes : List ProcessDeclaration) (channels : List Ends) → ends_among p processes channels ≤ 2 * length channels
two_ends p processes [] = let none = no_ends p processes in omega arith
two_ends p processes (ends ∷ others) =
    let first = ends_of_one ends others p processes in
    let sender = found_once ends.sender p processes in
    let receiver = found_once ends.receiver p processes in
    let later = two_ends p processes others in
    omega arith
