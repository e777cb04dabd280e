use Rattle.std.proofs.Common.{◌≡◌, ℕ, ◌<◌, ◌≤◌, ◌+◌, List, ◌∷◌, length, Option, refl, ap, sym, ◌∙◌, subst, arith}
use Rattle.std.specs.Prelude.{get_or, slice_get}
use Rattle.rb_meaning.specs.Value.{truth}
use Rattle.rb_world.specs.World.{Level, copy_of, last_of, status_at}
use Rattle.rb_code.specs.declared.instr.Instr.{Instr}
use Rattle.rb_code.specs.Instructions.Plain.{code as plain}
use Rattle.rb_code.specs.WordMachine.Act.{Accepts, Going, Stopped, Trapped, act as acted, execute}
use Rattle.rb_code.specs.SoundCode.Safe.{IsUnchanged, Ready}
use Rattle.rb_code.specs.SoundCode.Stays.{entry_calls}
use Rattle.rb_code.specs.WordMachine.Turn.{Copy, most_steps, wants_there}
use Rattle.rb_proc.specs.Acts.{CursorRises, LeavesEnough}
use Rattle.rb_recoverable.specs.Contents.{Contents}
use Rattle.rb_proc.specs.Outcomes.{pieces_in, whole}
use Rattle.rb_operands.specs.Comparing.{decided}
use Rattle.rb_proc.specs.Sees.{FitSizes, see_of}
use Rattle.rb_proc.proofs.Running.{decides, falls, fetched, in_code, is_behind, is_room, leaves, names_here, onward, over, ready_here, rises, same_contents, unchanged}
use Rattle.rb_proc.proofs.run.run.Goals as goal

pub turn-init : goal.turn-init
turn-init g c = record {
  start = c.requires.stays.0;
  cursors = c.requires.stays.1;
  runs = record {
    n = most_steps (plain c.args.code.now);
    within =
        (let e : most_steps (plain c.args.code.now) ≤ most_steps (plain c.args.code.now) = omega arith in e);
    safe =
        c.requires.safe;
    stays = c.requires.stays.2;
    comes = refl;
  };
  levels = refl;
  waiting = refl;
  sized = c.requires.sized;
  work = omega arith;
}

pub act-requires-clause-ready : goal.act-requires-clause-ready
act-requires-clause-ready g c =
    let code = plain c.args.code.now in
    let see = see_of c.args.sight.now c.args.memory.now.levels in
    let first = whole code.texts c.args.bench.now c.args.memory.now c.args.mails.now in
    let m = whole code.texts c.turn.bench c.turn.memory c.turn.mails in
    let xs = c.turn.operands in
    let calls = entry_calls (copy_of (last_of c.args.memory.now.levels)) in
    let start = c.turn.invariant.start in
    let most = most_steps code in
    let end = execute code see most c.args.from c.args.operands.now first in
    let i = c.instr_at-instr.result.now in
    let q = fetched code see (IsUnchanged first) calls start most c.turn.at xs m end c.turn.invariant.runs i
    (c.instr_at-instr.ensures ∙ ap (λ (xs : List Instr). get_or xs c.turn.at c.instr_at-instr.result.now) c.as_slice-instrs.ensures.value) in
    subst (λ (ls : List (Level Copy)). Ready code (see_of c.args.sight.now ls) i xs m) (sym c.turn.invariant.levels)
    (ready_here code see (IsUnchanged first) calls start most c.turn.at xs m end c.turn.invariant.runs i q)

pub act-requires-clause-cursor : goal.act-requires-clause-cursor
act-requires-clause-cursor g c =
    let code = plain c.args.code.now in
    let see = see_of c.args.sight.now c.args.memory.now.levels in
    let first = whole code.texts c.args.bench.now c.args.memory.now c.args.mails.now in
    let m = whole code.texts c.turn.bench c.turn.memory c.turn.mails in
    let xs = c.turn.operands in
    let calls = entry_calls (copy_of (last_of c.args.memory.now.levels)) in
    let start = c.turn.invariant.start in
    let most = most_steps code in
    let end = execute code see most c.args.from c.args.operands.now first in
    let i = c.instr_at-instr.result.now in
    let q = fetched code see (IsUnchanged first) calls start most c.turn.at xs m end c.turn.invariant.runs i
    (c.instr_at-instr.ensures ∙ ap (λ (xs : List Instr). get_or xs c.turn.at c.instr_at-instr.result.now) c.as_slice-instrs.ensures.value) in
    subst (λ (ls : List (Level Copy)). CursorRises code (see_of c.args.sight.now ls) c.turn.memory.words i) (sym c.turn.invariant.levels)
    (rises code see (IsUnchanged first) calls start most c.turn.at xs m end c.turn.invariant.runs i q c.turn.invariant.cursors)

pub act-requires-clause-stays : goal.act-requires-clause-stays
act-requires-clause-stays g c =
    let code = plain c.args.code.now in
    let see = see_of c.args.sight.now c.args.memory.now.levels in
    let first = whole code.texts c.args.bench.now c.args.memory.now c.args.mails.now in
    let m = whole code.texts c.turn.bench c.turn.memory c.turn.mails in
    let xs = c.turn.operands in
    let calls = entry_calls (copy_of (last_of c.args.memory.now.levels)) in
    let start = c.turn.invariant.start in
    let most = most_steps code in
    let end = execute code see most c.args.from c.args.operands.now first in
    let i = c.instr_at-instr.result.now in
    let q = fetched code see (IsUnchanged first) calls start most c.turn.at xs m end c.turn.invariant.runs i
    (c.instr_at-instr.ensures ∙ ap (λ (xs : List Instr). get_or xs c.turn.at c.instr_at-instr.result.now) c.as_slice-instrs.ensures.value) in
    subst
    (λ (ls : List (Level Copy)). LeavesEnough (entry_calls (copy_of (last_of ls)))
    (acted code (see_of c.args.sight.now ls) i c.turn.at xs m))
    (sym c.turn.invariant.levels)
    (leaves code see (IsUnchanged first) calls start most c.turn.at xs m end c.turn.invariant.runs i q)

pub turn-smaller-in-Go : goal.turn-smaller-in-Go
turn-smaller-in-Go g c =
    let code = plain c.args.code.now in
    let see = see_of c.args.sight.now c.args.memory.now.levels in
    let first = whole code.texts c.args.bench.now c.args.memory.now c.args.mails.now in
    let m = whole code.texts c.turn.bench c.turn.memory c.turn.mails in
    let xs = c.turn.operands in
    let calls = entry_calls (copy_of (last_of c.args.memory.now.levels)) in
    let start = c.turn.invariant.start in
    let most = most_steps code in
    let end = execute code see most c.args.from c.args.operands.now first in
    let i = c.instr_at-instr.result.now in
    let q = fetched code see (IsUnchanged first) calls start most c.turn.at xs m end c.turn.invariant.runs i
    (c.instr_at-instr.ensures ∙ ap (λ (xs : List Instr). get_or xs c.turn.at c.instr_at-instr.result.now) c.as_slice-instrs.ensures.value) in
    let moved = subst
    (λ (ls : List (Level Copy)). Going c.in-Go.to c.act.new.operands
    (whole code.texts c.act.new.bench c.act.new.memory c.act.new.mails)
    ≡ acted code (see_of c.args.sight.now ls) i c.turn.at xs m) c.turn.invariant.levels c.in-Go.ensures.moved in
    falls code see
    (IsUnchanged first) calls start most c.turn.at xs m end c.turn.invariant.runs i q c.in-Go.to c.act.new.operands
    (whole code.texts c.act.new.bench c.act.new.memory c.act.new.mails) moved

pub turn-preserved-in-Go : goal.turn-preserved-in-Go
turn-preserved-in-Go g c =
    let code = plain c.args.code.now in
    let see = see_of c.args.sight.now c.args.memory.now.levels in
    let first = whole code.texts c.args.bench.now c.args.memory.now c.args.mails.now in
    let m = whole code.texts c.turn.bench c.turn.memory c.turn.mails in
    let xs = c.turn.operands in
    let calls = entry_calls (copy_of (last_of c.args.memory.now.levels)) in
    let start = c.turn.invariant.start in
    let most = most_steps code in
    let end = execute code see most c.args.from c.args.operands.now first in
    let i = c.instr_at-instr.result.now in
    let q = fetched code see (IsUnchanged first) calls start most c.turn.at xs m end c.turn.invariant.runs i
    (c.instr_at-instr.ensures ∙ ap (λ (xs : List Instr). get_or xs c.turn.at c.instr_at-instr.result.now) c.as_slice-instrs.ensures.value) in
    let moved = subst
    (λ (ls : List (Level Copy)). Going c.in-Go.to c.act.new.operands
    (whole code.texts c.act.new.bench c.act.new.memory c.act.new.mails)
    ≡ acted code (see_of c.args.sight.now ls) i c.turn.at xs m) c.turn.invariant.levels c.in-Go.ensures.moved in
    let next = onward code see
    (IsUnchanged first) calls start most c.turn.at xs m end c.turn.invariant.runs i q c.in-Go.to c.act.new.operands
    (whole code.texts c.act.new.bench c.act.new.memory c.act.new.mails) moved in
    record {
      runs = next.0;
      levels = c.in-Go.ensures.kept.0 ∙ c.turn.invariant.levels;
      waiting = c.in-Go.ensures.kept.1 ∙ c.turn.invariant.waiting;
      sized = subst (λ (ns : List ℕ). FitSizes ns code.channels) (sym c.in-Go.ensures.sized) c.turn.invariant.sized;
      work = omega (arith, next.1, c.in-Go.ensures.work, c.turn.invariant.work);
      start = start;
      cursors = c.turn.invariant.cursors;
    }

pub overflow_add-at : goal.overflow_add-at
overflow_add-at g c =
    let code = plain c.args.code.now in
    let see = see_of c.args.sight.now c.args.memory.now.levels in
    let first = whole code.texts c.args.bench.now c.args.memory.now c.args.mails.now in
    let m = whole code.texts c.turn.bench c.turn.memory c.turn.mails in
    let xs = c.turn.operands in
    let calls = entry_calls (copy_of (last_of c.args.memory.now.levels)) in
    let start = c.turn.invariant.start in
    let most = most_steps code in
    let end = execute code see most c.args.from c.args.operands.now first in
    let within = in_code code see (IsUnchanged first) calls start most c.turn.at xs m end c.turn.invariant.runs in
    omega (arith, c.requires.length)

pub decide-at-requires-clause-there : goal.decide-at-requires-clause-there
decide-at-requires-clause-there g c =
    let code = plain c.args.code.now in
    let see = see_of c.args.sight.now c.args.memory.now.levels in
    let first = whole code.texts c.args.bench.now c.args.memory.now c.args.mails.now in
    let m = whole code.texts c.turn.bench c.turn.memory c.turn.mails in
    let xs = c.turn.operands in
    let calls = entry_calls (copy_of (last_of c.args.memory.now.levels)) in
    let start = c.turn.invariant.start in
    let most = most_steps code in
    let end = execute code see most c.args.from c.args.operands.now first in
    let i = c.instr_at-instr.result.now in
    let q = fetched code see (IsUnchanged first) calls start most c.turn.at xs m end c.turn.invariant.runs i
    (c.instr_at-instr.ensures ∙ ap (λ (xs : List Instr). get_or xs c.turn.at c.instr_at-instr.result.now) c.as_slice-instrs.ensures.value) in
    let later = whole code.texts c.act.new.bench c.act.new.memory c.act.new.mails in
    let moved = subst
    (λ (ls : List (Level Copy)). Going (c.turn.at + 1) (truth c.in-Holds.holds ∷ c.act.new.operands) later
    ≡ acted code (see_of c.args.sight.now ls) i c.turn.at xs m) c.turn.invariant.levels c.in-Holds.ensures.moved in
    subst (λ (is : List Instr). c.turn.at + 1 < length is) (sym c.as_slice-instrs.ensures.value)
    (is_behind code see (IsUnchanged first) calls start most c.turn.at xs m end c.turn.invariant.runs i q c.in-Holds.holds c.act.new.operands
    later moved)

pub decide-at-requires-clause-room : goal.decide-at-requires-clause-room
decide-at-requires-clause-room g c =
    let code = plain c.args.code.now in
    let see = see_of c.args.sight.now c.args.memory.now.levels in
    let first = whole code.texts c.args.bench.now c.args.memory.now c.args.mails.now in
    let m = whole code.texts c.turn.bench c.turn.memory c.turn.mails in
    let xs = c.turn.operands in
    let calls = entry_calls (copy_of (last_of c.args.memory.now.levels)) in
    let start = c.turn.invariant.start in
    let most = most_steps code in
    let end = execute code see most c.args.from c.args.operands.now first in
    let i = c.instr_at-instr.result.now in
    let q = fetched code see (IsUnchanged first) calls start most c.turn.at xs m end c.turn.invariant.runs i
    (c.instr_at-instr.ensures ∙ ap (λ (xs : List Instr). get_or xs c.turn.at c.instr_at-instr.result.now) c.as_slice-instrs.ensures.value) in
    let later = whole code.texts c.act.new.bench c.act.new.memory c.act.new.mails in
    let moved = subst
    (λ (ls : List (Level Copy)). Going (c.turn.at + 1) (truth c.in-Holds.holds ∷ c.act.new.operands) later
    ≡ acted code (see_of c.args.sight.now ls) i c.turn.at xs m) c.turn.invariant.levels c.in-Holds.ensures.moved in
    is_room code see (IsUnchanged first) calls start most c.turn.at xs m end c.turn.invariant.runs i q c.in-Holds.holds c.act.new.operands
    later moved c.are_few.ensures

pub turn-smaller : goal.turn-smaller
turn-smaller g c =
    let code = plain c.args.code.now in
    let see = see_of c.args.sight.now c.args.memory.now.levels in
    let first = whole code.texts c.args.bench.now c.args.memory.now c.args.mails.now in
    let m = whole code.texts c.turn.bench c.turn.memory c.turn.mails in
    let xs = c.turn.operands in
    let calls = entry_calls (copy_of (last_of c.args.memory.now.levels)) in
    let start = c.turn.invariant.start in
    let most = most_steps code in
    let end = execute code see most c.args.from c.args.operands.now first in
    let i = c.instr_at-instr.result.now in
    let q = fetched code see (IsUnchanged first) calls start most c.turn.at xs m end c.turn.invariant.runs i
    (c.instr_at-instr.ensures ∙ ap (λ (xs : List Instr). get_or xs c.turn.at c.instr_at-instr.result.now) c.as_slice-instrs.ensures.value) in
    let later = whole code.texts c.act.new.bench c.act.new.memory c.act.new.mails in
    let moved = subst
    (λ (ls : List (Level Copy)). Going (c.turn.at + 1) (truth c.in-Holds.holds ∷ c.act.new.operands) later
    ≡ acted code (see_of c.args.sight.now ls) i c.turn.at xs m) c.turn.invariant.levels c.in-Holds.ensures.moved in
    let led = c.decide-at.ensures later
    ∙ ap (λ (is : List Instr). decided (slice_get is (c.turn.at + 1)) (c.turn.at + 1) c.in-Holds.holds c.act.new.operands later)
    c.as_slice-instrs.ensures.value in
    let next = decides code see
    (IsUnchanged first) calls start most c.turn.at xs m end c.turn.invariant.runs i q c.in-Holds.holds c.act.new.operands later moved
    c.decide-at.result c.decide-at.new.operands led in
    next.fewer

pub turn-preserved : goal.turn-preserved
turn-preserved g c =
    let code = plain c.args.code.now in
    let see = see_of c.args.sight.now c.args.memory.now.levels in
    let first = whole code.texts c.args.bench.now c.args.memory.now c.args.mails.now in
    let m = whole code.texts c.turn.bench c.turn.memory c.turn.mails in
    let xs = c.turn.operands in
    let calls = entry_calls (copy_of (last_of c.args.memory.now.levels)) in
    let start = c.turn.invariant.start in
    let most = most_steps code in
    let end = execute code see most c.args.from c.args.operands.now first in
    let i = c.instr_at-instr.result.now in
    let q = fetched code see (IsUnchanged first) calls start most c.turn.at xs m end c.turn.invariant.runs i
    (c.instr_at-instr.ensures ∙ ap (λ (xs : List Instr). get_or xs c.turn.at c.instr_at-instr.result.now) c.as_slice-instrs.ensures.value) in
    let later = whole code.texts c.act.new.bench c.act.new.memory c.act.new.mails in
    let moved = subst
    (λ (ls : List (Level Copy)). Going (c.turn.at + 1) (truth c.in-Holds.holds ∷ c.act.new.operands) later
    ≡ acted code (see_of c.args.sight.now ls) i c.turn.at xs m) c.turn.invariant.levels c.in-Holds.ensures.moved in
    let led = c.decide-at.ensures later
    ∙ ap (λ (is : List Instr). decided (slice_get is (c.turn.at + 1)) (c.turn.at + 1) c.in-Holds.holds c.act.new.operands later)
    c.as_slice-instrs.ensures.value in
    let next = decides code see
    (IsUnchanged first) calls start most c.turn.at xs m end c.turn.invariant.runs i q c.in-Holds.holds c.act.new.operands later moved
    c.decide-at.result c.decide-at.new.operands led in
    record {
      runs = next.rest;
      levels = ap (λ (r : Contents). r.levels) c.in-Holds.ensures.kept.0 ∙ c.turn.invariant.levels;
      waiting = ap (λ (r : Contents). r.waiting) c.in-Holds.ensures.kept.0 ∙ c.turn.invariant.waiting;
      sized = subst (λ (ns : List ℕ). FitSizes ns code.channels) (sym c.in-Holds.ensures.sized) c.turn.invariant.sized;
      work = omega (arith, next.names, c.in-Holds.ensures.work, c.turn.invariant.work);
      start = start;
      cursors = c.turn.invariant.cursors;
    }

pub returns-in-Stop-clause-ended : goal.returns-in-Stop-clause-ended
returns-in-Stop-clause-ended g c =
    let code = plain c.args.code.now in
    let see = see_of c.args.sight.now c.args.memory.now.levels in
    let first = whole code.texts c.args.bench.now c.args.memory.now c.args.mails.now in
    let m = whole code.texts c.turn.bench c.turn.memory c.turn.mails in
    let xs = c.turn.operands in
    let calls = entry_calls (copy_of (last_of c.args.memory.now.levels)) in
    let start = c.turn.invariant.start in
    let most = most_steps code in
    let end = execute code see most c.args.from c.args.operands.now first in
    let i = c.instr_at-instr.result.now in
    let q = fetched code see (IsUnchanged first) calls start most c.turn.at xs m end c.turn.invariant.runs i
    (c.instr_at-instr.ensures ∙ ap (λ (xs : List Instr). get_or xs c.turn.at c.instr_at-instr.result.now) c.as_slice-instrs.ensures.value) in
    let moved = subst (λ (ls : List (Level Copy)). (Stopped c.turn.at (whole code.texts c.act.new.bench c.act.new.memory c.act.new.mails))
    ≡ acted code (see_of c.args.sight.now ls) i c.turn.at xs m) c.turn.invariant.levels c.in-Stop.ensures.moved in
    over code see (IsUnchanged first) calls start most c.turn.at xs m end c.turn.invariant.runs i q
    (Stopped c.turn.at (whole code.texts c.act.new.bench c.act.new.memory c.act.new.mails)) moved tt

pub returns-in-Stop-clause-kept : goal.returns-in-Stop-clause-kept
returns-in-Stop-clause-kept g c = (
  ap (λ (r : Contents). r.levels) c.in-Stop.ensures.kept.0 ∙ c.turn.invariant.levels,
  ap (λ (r : Contents). r.waiting) c.in-Stop.ensures.kept.0 ∙ c.turn.invariant.waiting,
)

pub returns-in-Accepts-clause-ended : goal.returns-in-Accepts-clause-ended
returns-in-Accepts-clause-ended g c =
    let code = plain c.args.code.now in
    let see = see_of c.args.sight.now c.args.memory.now.levels in
    let first = whole code.texts c.args.bench.now c.args.memory.now c.args.mails.now in
    let m = whole code.texts c.turn.bench c.turn.memory c.turn.mails in
    let xs = c.turn.operands in
    let calls = entry_calls (copy_of (last_of c.args.memory.now.levels)) in
    let start = c.turn.invariant.start in
    let most = most_steps code in
    let end = execute code see most c.args.from c.args.operands.now first in
    let i = c.instr_at-instr.result.now in
    let q = fetched code see (IsUnchanged first) calls start most c.turn.at xs m end c.turn.invariant.runs i
    (c.instr_at-instr.ensures ∙ ap (λ (xs : List Instr). get_or xs c.turn.at c.instr_at-instr.result.now) c.as_slice-instrs.ensures.value) in
    let moved = subst (λ (ls : List (Level Copy)). (Accepts c.in-Accepts.to (whole code.texts c.act.new.bench c.act.new.memory c.act.new.mails))
    ≡ acted code (see_of c.args.sight.now ls) i c.turn.at xs m) c.turn.invariant.levels c.in-Accepts.ensures.moved in
    over code see (IsUnchanged first) calls start most c.turn.at xs m end c.turn.invariant.runs i q
    (Accepts c.in-Accepts.to (whole code.texts c.act.new.bench c.act.new.memory c.act.new.mails)) moved tt

pub returns-in-Accepts-clause-kept : goal.returns-in-Accepts-clause-kept
returns-in-Accepts-clause-kept g c =
    let code = plain c.args.code.now in
    let see = see_of c.args.sight.now c.args.memory.now.levels in
    let first = whole code.texts c.args.bench.now c.args.memory.now c.args.mails.now in
    let m = whole code.texts c.turn.bench c.turn.memory c.turn.mails in
    let xs = c.turn.operands in
    let calls = entry_calls (copy_of (last_of c.args.memory.now.levels)) in
    let start = c.turn.invariant.start in
    let most = most_steps code in
    let end = execute code see most c.args.from c.args.operands.now first in
    let i = c.instr_at-instr.result.now in
    let q = fetched code see (IsUnchanged first) calls start most c.turn.at xs m end c.turn.invariant.runs i
    (c.instr_at-instr.ensures ∙ ap (λ (xs : List Instr). get_or xs c.turn.at c.instr_at-instr.result.now) c.as_slice-instrs.ensures.value) in
    let moved = subst (λ (ls : List (Level Copy)). (Accepts c.in-Accepts.to (whole code.texts c.act.new.bench c.act.new.memory c.act.new.mails))
    ≡ acted code (see_of c.args.sight.now ls) i c.turn.at xs m) c.turn.invariant.levels c.in-Accepts.ensures.moved in
    let none = unchanged code see (IsUnchanged first) calls start most c.turn.at xs m end c.turn.invariant.runs i q
    (Accepts c.in-Accepts.to (whole code.texts c.act.new.bench c.act.new.memory c.act.new.mails)) moved tt in (
      c.in-Accepts.ensures.kept.0
          ∙ same_contents c.args.memory.now c.turn.memory (pieces_in code.texts c.args.bench.now)
          (pieces_in code.texts c.turn.bench) c.args.bench.now.counters c.turn.bench.counters c.args.mails.now c.turn.mails none
          c.turn.invariant.levels c.turn.invariant.waiting,
      c.in-Accepts.ensures.kept.1 ∙ none.slots,
    )

pub returns-in-Trap-clause-ended : goal.returns-in-Trap-clause-ended
returns-in-Trap-clause-ended g c =
    let code = plain c.args.code.now in
    let see = see_of c.args.sight.now c.args.memory.now.levels in
    let first = whole code.texts c.args.bench.now c.args.memory.now c.args.mails.now in
    let m = whole code.texts c.turn.bench c.turn.memory c.turn.mails in
    let xs = c.turn.operands in
    let calls = entry_calls (copy_of (last_of c.args.memory.now.levels)) in
    let start = c.turn.invariant.start in
    let most = most_steps code in
    let end = execute code see most c.args.from c.args.operands.now first in
    let i = c.instr_at-instr.result.now in
    let q = fetched code see (IsUnchanged first) calls start most c.turn.at xs m end c.turn.invariant.runs i
    (c.instr_at-instr.ensures ∙ ap (λ (xs : List Instr). get_or xs c.turn.at c.instr_at-instr.result.now) c.as_slice-instrs.ensures.value) in
    let moved = subst
    (λ (ls : List (Level Copy)). (Trapped c.in-Trap.cause)
    ≡ acted code (see_of c.args.sight.now ls) i c.turn.at xs m) c.turn.invariant.levels c.in-Trap.ensures.moved in
    over code see (IsUnchanged first) calls start most c.turn.at xs m end c.turn.invariant.runs i q (Trapped c.in-Trap.cause) moved tt

pub returns-in-Trap-clause-kept : goal.returns-in-Trap-clause-kept
returns-in-Trap-clause-kept g c =
    let code = plain c.args.code.now in
    let see = see_of c.args.sight.now c.args.memory.now.levels in
    let first = whole code.texts c.args.bench.now c.args.memory.now c.args.mails.now in
    let m = whole code.texts c.turn.bench c.turn.memory c.turn.mails in
    let xs = c.turn.operands in
    let calls = entry_calls (copy_of (last_of c.args.memory.now.levels)) in
    let start = c.turn.invariant.start in
    let most = most_steps code in
    let end = execute code see most c.args.from c.args.operands.now first in
    let i = c.instr_at-instr.result.now in
    let q = fetched code see (IsUnchanged first) calls start most c.turn.at xs m end c.turn.invariant.runs i
    (c.instr_at-instr.ensures ∙ ap (λ (xs : List Instr). get_or xs c.turn.at c.instr_at-instr.result.now) c.as_slice-instrs.ensures.value) in
    let moved = subst
    (λ (ls : List (Level Copy)). (Trapped c.in-Trap.cause)
    ≡ acted code (see_of c.args.sight.now ls) i c.turn.at xs m) c.turn.invariant.levels c.in-Trap.ensures.moved in
    let none = unchanged code see (IsUnchanged first) calls start most c.turn.at xs m end c.turn.invariant.runs i q
    (Trapped c.in-Trap.cause) moved tt in (
      c.in-Trap.ensures.kept.0
          ∙ same_contents c.args.memory.now c.turn.memory (pieces_in code.texts c.args.bench.now)
          (pieces_in code.texts c.turn.bench) c.args.bench.now.counters c.turn.bench.counters c.args.mails.now c.turn.mails none
          c.turn.invariant.levels c.turn.invariant.waiting,
      c.in-Trap.ensures.kept.1 ∙ none.slots,
    )

pub returns-in-Stop-clause-sized : goal.returns-in-Stop-clause-sized
returns-in-Stop-clause-sized g c =
    subst (λ (ns : List ℕ). FitSizes ns (plain c.args.code.now).channels) (sym c.in-Stop.ensures.sized) c.turn.invariant.sized

pub returns-in-Accepts-clause-sized : goal.returns-in-Accepts-clause-sized
returns-in-Accepts-clause-sized g c =
    subst (λ (ns : List ℕ). FitSizes ns (plain c.args.code.now).channels) (sym c.in-Accepts.ensures.sized) c.turn.invariant.sized

pub returns-in-Trap-clause-sized : goal.returns-in-Trap-clause-sized
returns-in-Trap-clause-sized g c =
    subst (λ (ns : List ℕ). FitSizes ns (plain c.args.code.now).channels) (sym c.in-Trap.ensures.sized) c.turn.invariant.sized

pub returns-in-Stop-clause-work : goal.returns-in-Stop-clause-work
returns-in-Stop-clause-work g c =
    let code = plain c.args.code.now in
    let see = see_of c.args.sight.now c.args.memory.now.levels in
    let first = whole code.texts c.args.bench.now c.args.memory.now c.args.mails.now in
    let m = whole code.texts c.turn.bench c.turn.memory c.turn.mails in
    let xs = c.turn.operands in
    let calls = entry_calls (copy_of (last_of c.args.memory.now.levels)) in
    let start = c.turn.invariant.start in
    let most = most_steps code in
    let end = execute code see most c.args.from c.args.operands.now first in
    let i = c.instr_at-instr.result.now in
    let q = fetched code see (IsUnchanged first) calls start most c.turn.at xs m end c.turn.invariant.runs i
    (c.instr_at-instr.ensures ∙ ap (λ (xs : List Instr). get_or xs c.turn.at c.instr_at-instr.result.now) c.as_slice-instrs.ensures.value) in
    omega (
      arith,
      names_here code see (IsUnchanged first) calls start most c.turn.at xs m end c.turn.invariant.runs i q,
      c.in-Stop.ensures.work,
      c.turn.invariant.work,
    )

pub returns-in-Accepts-clause-work : goal.returns-in-Accepts-clause-work
returns-in-Accepts-clause-work g c =
    let code = plain c.args.code.now in
    let see = see_of c.args.sight.now c.args.memory.now.levels in
    let first = whole code.texts c.args.bench.now c.args.memory.now c.args.mails.now in
    let m = whole code.texts c.turn.bench c.turn.memory c.turn.mails in
    let xs = c.turn.operands in
    let calls = entry_calls (copy_of (last_of c.args.memory.now.levels)) in
    let start = c.turn.invariant.start in
    let most = most_steps code in
    let end = execute code see most c.args.from c.args.operands.now first in
    let i = c.instr_at-instr.result.now in
    let q = fetched code see (IsUnchanged first) calls start most c.turn.at xs m end c.turn.invariant.runs i
    (c.instr_at-instr.ensures ∙ ap (λ (xs : List Instr). get_or xs c.turn.at c.instr_at-instr.result.now) c.as_slice-instrs.ensures.value) in
    omega (
      arith,
      names_here code see (IsUnchanged first) calls start most c.turn.at xs m end c.turn.invariant.runs i q,
      c.in-Accepts.ensures.work,
      c.turn.invariant.work,
    )

pub returns-in-Trap-clause-work : goal.returns-in-Trap-clause-work
returns-in-Trap-clause-work g c =
    let code = plain c.args.code.now in
    let see = see_of c.args.sight.now c.args.memory.now.levels in
    let first = whole code.texts c.args.bench.now c.args.memory.now c.args.mails.now in
    let m = whole code.texts c.turn.bench c.turn.memory c.turn.mails in
    let xs = c.turn.operands in
    let calls = entry_calls (copy_of (last_of c.args.memory.now.levels)) in
    let start = c.turn.invariant.start in
    let most = most_steps code in
    let end = execute code see most c.args.from c.args.operands.now first in
    let i = c.instr_at-instr.result.now in
    let q = fetched code see (IsUnchanged first) calls start most c.turn.at xs m end c.turn.invariant.runs i
    (c.instr_at-instr.ensures ∙ ap (λ (xs : List Instr). get_or xs c.turn.at c.instr_at-instr.result.now) c.as_slice-instrs.ensures.value) in
    omega (
      arith,
      names_here code see (IsUnchanged first) calls start most c.turn.at xs m end c.turn.invariant.runs i q,
      c.in-Trap.ensures.work,
      c.turn.invariant.work,
    )

pub returns-in-Stop-clause-done : goal.returns-in-Stop-clause-done
returns-in-Stop-clause-done g c =
    let code = plain c.args.code.now in
    let see = see_of c.args.sight.now c.args.memory.now.levels in
    let first = whole code.texts c.args.bench.now c.args.memory.now c.args.mails.now in
    let m = whole code.texts c.turn.bench c.turn.memory c.turn.mails in
    let xs = c.turn.operands in
    let calls = entry_calls (copy_of (last_of c.args.memory.now.levels)) in
    let start = c.turn.invariant.start in
    let most = most_steps code in
    let end = execute code see most c.args.from c.args.operands.now first in
    let i = c.instr_at-instr.result.now in
    let next = slice_get code.instrs (c.turn.at + 1) in
    let q = fetched code see (IsUnchanged first) calls start most c.turn.at xs m end c.turn.invariant.runs i
    (c.instr_at-instr.ensures ∙ ap (λ (xs : List Instr). get_or xs c.turn.at c.instr_at-instr.result.now) c.as_slice-instrs.ensures.value) in
    ap (λ (o : Option Instr). status_at (wants_there code o next)) q ∙ c.is_done.ensures code next

pub instr_at-instr-requires : goal.instr_at-instr-requires
instr_at-instr-requires g c =
    let code = plain c.args.code.now in let see = see_of c.args.sight.now c.args.memory.now.levels in
    let first = whole code.texts c.args.bench.now c.args.memory.now c.args.mails.now in
    let m = whole code.texts c.turn.bench c.turn.memory c.turn.mails in
    let xs = c.turn.operands in let calls = entry_calls (copy_of (last_of c.args.memory.now.levels)) in
    let start = c.turn.invariant.start in let most = most_steps code in
    let end = execute code see most c.args.from c.args.operands.now first in
    let within = in_code code see (IsUnchanged first) calls start most c.turn.at xs m end c.turn.invariant.runs in
    subst (λ (is : List Instr). c.turn.at < length is) (sym c.as_slice-instrs.ensures.value) within

pub act-requires-clause-at : goal.act-requires-clause-at
act-requires-clause-at g c =
    let code = plain c.args.code.now in let see = see_of c.args.sight.now c.args.memory.now.levels in
    let first = whole code.texts c.args.bench.now c.args.memory.now c.args.mails.now in
    let m = whole code.texts c.turn.bench c.turn.memory c.turn.mails in
    let xs = c.turn.operands in let calls = entry_calls (copy_of (last_of c.args.memory.now.levels)) in
    let start = c.turn.invariant.start in let most = most_steps code in
    let end = execute code see most c.args.from c.args.operands.now first in
    let within = in_code code see (IsUnchanged first) calls start most c.turn.at xs m end c.turn.invariant.runs in
    omega (arith, c.requires.length)

pub overflow_cast-result : goal.overflow_cast-result
overflow_cast-result g c =
    let code = plain c.args.code.now in let see = see_of c.args.sight.now c.args.memory.now.levels in
    let first = whole code.texts c.args.bench.now c.args.memory.now c.args.mails.now in
    let m = whole code.texts c.turn.bench c.turn.memory c.turn.mails in
    let xs = c.turn.operands in let calls = entry_calls (copy_of (last_of c.args.memory.now.levels)) in
    let start = c.turn.invariant.start in let most = most_steps code in
    let end = execute code see most c.args.from c.args.operands.now first in
    let within = in_code code see (IsUnchanged first) calls start most c.turn.at xs m end c.turn.invariant.runs in
    omega (arith, c.requires.length)
