-- What a turn has come to before its end, and how each end leads to where its world leads.
use Rattle.std.proofs.Common.{◌≡◌, ℕ, ◌+◌, ◌*◌, ◌≤◌, Bool, true, false, List, [], length, slice_get, Option, Some, None, refl, ap, sym, ◌∙◌, subst, true≢false, arith}
use Rattle.rb_base.specs.declared.event.Event.{Event}
use Rattle.rb_base.specs.declared.event.TurnKind.{TurnKind}
use Rattle.rb_base.specs.declared.event.TurnKind.TheVariants.{Idle, Took, Wait}
use Rattle.rb_world.specs.Kind.{Membership}
use Rattle.rb_world.specs.Turn.{Moved, Told, accepted, move}
use Rattle.rb_world.specs.World.{Process, last_of}
use Rattle.rb_code.specs.Instructions.Plain.{Code}
use Rattle.rb_code.specs.WordMachine.Turn.{Common, Copy, Standing}
use Rattle.rb_code.specs.WordMachine.WordRun.{WordWorld}
use Rattle.rb_conv.specs.Conversations.{Conversation, memberships}
use Rattle.rb_proc.specs.Process.{Seen}
use Rattle.rb_proc.specs.Sees.{AreSized}
use Rattle.rb_recoverable.proofs.Leaving.{none_there}
use Rattle.rb_recovery.specs.Cascade.{SameGroups}
use Rattle.rb_machine.specs.Ends.{CostsTheSame, Ends, Finishes, HasCome, HasEnded, IsUnderWay, LeadsTo, SomeTurnCame, SomeTurnIsUnderWay, named_by_test, named_yet}
use Rattle.rb_machine.specs.Moves.{HasMoved, IsLeft}
use Rattle.rb_recovery.specs.Parts.{world}
use Rattle.rb_recovery.specs.TestLines.{passes_of}
use Rattle.rb_recovery.specs.TestLines.{HasTaken}
use Rattle.rb_machine.specs.Telling.{GoesOn, IsQuiet, takes_nothing_back}
use Rattle.rb_machine.specs.Turns.{runs_there}
use Rattle.rb_recovery.specs.Work.{named_accepted, releasing, undoing}
use Rattle.rb_recovery.specs.Worlds.{NoneWaits, counts_of, kind_with, lines_of, memory_of, processes_of, world_of}
use Rattle.rb_machine.specs.declared.came.Came.{Came}
use Rattle.rb_machine.specs.declared.moves.Move.{Move}
use Rattle.rb_machine.specs.declared.moves.Move.TheVariants as did
use Rattle.rb_recovery.specs.declared.parts.Parts.{Parts}
use Rattle.rb_machine.proofs.Knowing.KnownHere.{process_there}
use Rattle.rb_machine.proofs.Releasing.Waited.{waits_on, waits_ran}
use Rattle.rb_machine.proofs.Turning.TurnsTaken.{took_ran}

-- the same tables have the same groups, and groups that stay twice stay
pub same_groups : (table table' : List Conversation) → table' ≡ table → SameGroups table table'
same_groups table table' e = record { members = ap memberships e; counts = ap counts_of e }

pub groups_stay : (first table table' : List Conversation) → table ≡ first → SameGroups table table' → SameGroups first table'
groups_stay first table table' e same = record {
  members = same.members ∙ ap memberships e;
  counts = same.counts ∙ ap counts_of e;
}

-- what a turn came to, by its parts
pub came_is : (came : Came) (kind : TurnKind) (quiet : Bool) → came.kind ≡ kind → came.pass ≡ None → came.quiet ≡ quiet
    → came ≡ record { kind = kind; pass = None; quiet = quiet }
came_is came kind quiet is none known =
    ap (λ (k : TurnKind). record { kind = k; pass = came.pass; quiet = came.quiet }) is
    ∙ (ap (λ (pass : Option Event). record { kind = kind; pass = pass; quiet = came.quiet }) none
    ∙ ap (λ (q : Bool). record { kind = kind; pass = None; quiet = q }) known)

pub one_pass : (pass : Option Event) → length (passes_of pass) ≤ 1
one_pass None = omega arith
one_pass (Some event) = omega arith

pub not_quiet : {A : Type 0} → false ≡ true → A
not_quiet e = absurd (true≢false (sym e))

-- ends of what was done, and of what a turn came to
pub ends_of : {L : Type 0} {c : Code} {t p : ℕ} {now : Parts L} {running : List Bool} {m other : Move} {after : Parts L} {running' : List Bool}
    {told : Told} {released : Bool} {steps steps' : ℕ} → m ≡ other → Ends c t p now running other after running' told released steps steps'
    → Ends c t p now running m after running' told released steps steps'
ends_of {L} {c} {t} {p} {now} {running} {m} {other} {after} {running'} {told} {released} {steps} {steps'} is h =
    subst (λ (x : Move). Ends c t p now running x after running' told released steps steps') (sym is) h

pub finishes_of : {L : Type 0} {p : ℕ} {now : Parts L} {running : List Bool} {events : List Event} {came other : Came} {after : Parts L}
    {running' : List Bool} {told : Told} {released : Bool} → came ≡ other → Finishes p now running events came after running' told released
    → Finishes p now running events other after running' told released
finishes_of {L} {p} {now} {running} {events} {came} {other} {after} {running'} {told} {released} is h =
    subst (λ (x : Came). Finishes p now running events x after running' told released) is h

-- ends at which nothing is undone and no line is passed
abbrev pub ComesSimply : (L : Type 0) → Code → ℕ → ℕ → Move → TurnKind → Bool → Type 0
ComesSimply L c t p m kind quiet =
    (before now : Parts L) (running : List Bool) (events : List Event) → events ≡ [] → IsUnderWay c t p before now running m
    → HasCome c t p before now running events (record { kind = kind; pass = None; quiet = quiet })

module _ {L : Type 0} (c : Code) (t p : ℕ) where
  -- the same of another move, or with other processes before it from which going back costs the same
  pub leads_as : (before : List (Process Standing Copy)) (parts : Parts L) (m : Move) {one other : Moved Standing Copy Common} → one ≡ other
      → LeadsTo c t p before parts m one → LeadsTo c t p before parts m other
  leads_as before parts m e h = subst (LeadsTo c t p before parts m) e h

  pub leads_from : (before first : List (Process Standing Copy)) (parts : Parts L) (m : Move) (moved : Moved Standing Copy Common)
      → CostsTheSame before first → LeadsTo c t p before parts m moved → LeadsTo c t p first parts m moved
  leads_from before first parts did.Rests moved same h = h
  leads_from before first parts did.Waits moved same h = h
  leads_from before first parts did.Went moved same h = h
  leads_from before first parts did.Tells moved same h = h
  leads_from before first parts did.Accepts moved same h = h
  leads_from before first parts (did.Enters b) moved same h = record {
    one = h.one;
    there = h.there;
    work = h.work;
    acting = h.acting;
    wants = h.wants;
    room = h.room;
    moves = h.moves;
    costs = λ kind events after. h.costs kind events after ∙ same kind events after;
  }
  leads_from before first parts (did.Rejects left cause) moved same h = record {
    there = h.there;
    may = h.may;
    quiet = h.quiet;
    few = h.few;
    moves = h.moves;
    costs = λ kind events after. h.costs kind events after ∙ same kind events after;
  }

  module _ (before now : Parts L) (running : List Bool) where
    abbrev moves_to : Moved Standing Copy Common
    moves_to = move (kind_with c before.table) t p (world before)

    -- a turn whose process did nothing that is undone, and which passes no line
    module _ (m : Move) (way : IsUnderWay c t p before now running m) (events : List Event) (none : events ≡ []) where
      pub simply_come : (kind : TurnKind) (quiet : Bool)
          → moves_to ≡ record { world = world now; kind = kind; rejections = []; passes = [] }
          → (quiet ≡ true → takes_nothing_back kind ≡ true)
          → (quiet ≡ true → (one : Seen) → slice_get now.procs.items p ≡ Some one → GoesOn one)
          → (quiet ≡ true → runs_there (slice_get (processes_of before.procs.items) p) ≡ true)
          → HasCome c t p before now running events (record { kind = kind; pass = None; quiet = quiet })
      simply_come kind quiet is nothing goes ran = record {
        work = way.work;
        turns = way.turns;
        noted = way.noted;
        freed = way.freed;
        moved = record {
          worlds = sym (ap (λ (x : Moved Standing Copy Common). x.world) is);
          kind = sym (ap (λ (x : Moved Standing Copy Common). x.kind) is);
          rejections = none ∙ sym (ap (λ (x : Moved Standing Copy Common). x.rejections) is);
          passes = sym (ap (λ (x : Moved Standing Copy Common). x.passes) is);
        };
        left = record {
          waits = way.stays.waits;
          groups = same_groups before.table now.table way.stays.table;
          sized = way.stays.sized;
          few = omega (arith, ap length none);
        };
        quiet = λ e. record { kind = nothing e; none = refl; goes_on = goes e };
        ran = ran;
      }

    -- a turn whose end came to where another move leads, which is its own
    pub end_comes : (m : Move) (way : IsUnderWay c t p before now running m) (after : Parts L) (events : List Event) (came : Came)
        (other : Moved Standing Copy Common) → moves_to ≡ other → HasMoved after events came other → IsLeft c now after events came
        → (came.quiet ≡ true → came.kind ≡ Took) → (came.quiet ≡ true → IsQuiet came after.procs.items p)
        → HasCome c t p before after running events came
    end_comes m way after events came other is moved left took quiet = record {
      work = way.work;
      turns = way.turns;
      noted = way.noted;
      freed = way.freed;
      moved = subst (HasMoved after events came) (sym is) moved;
      left = record {
        waits = left.waits;
        groups = groups_stay before.table now.table after.table way.stays.table left.groups;
        sized = left.sized;
        few = left.few;
      };
      quiet = quiet;
      ran = λ e. took_ran (kind_with c before.table) t p (world before)
          (ap (λ (x : Moved Standing Copy Common). x.kind) is ∙ (sym moved.kind ∙ took e));
    }

    -- a turn whose process passed its acceptance test, and whoever passes a line with it
    module _ (way : IsUnderWay c t p before now running did.Accepts) where
      abbrev one : Seen
      one = way.leads.one

      abbrev memory : Common
      memory = memory_of now.mails now.links.items

      abbrev accepted_here : Moved Standing Copy Common
      accepted_here =
          accepted (kind_with c now.table) p one.process.levels (last_of one.process.levels) (world now) (one.process.state, memory)

      pub accept_comes : (procs' : List Seen) (table' : List Conversation) (middle : Parts L) (pass : Option Event) (quiet : Bool)
          (events : List Event) → events ≡ [] → middle.procs.items ≡ procs' → middle.table ≡ table' → memory_of middle.mails middle.links.items ≡ memory
          → AreSized c middle.mails → HasTaken memory procs' table' pass accepted_here → NoneWaits procs' → SameGroups now.table table'
          → (quiet ≡ true → IsQuiet (record { kind = Took; pass = pass; quiet = quiet }) middle.procs.items p)
          → HasCome c t p before middle running events (record { kind = Took; pass = pass; quiet = quiet })
      accept_comes procs' table' middle pass quiet events none procs_are table_is memory_is sized takes waits groups goes =
          let taken = subst (HasTaken memory procs' table' pass) (sym way.leads.moves) takes in
          record {
            work = way.work;
            turns = way.turns;
            noted = way.noted;
            freed = way.freed;
            moved = record {
              worlds = ap (λ (xs : List Seen). world_of xs middle.table (memory_of middle.mails middle.links.items)) procs_are
                  ∙ (ap (λ (xs : List Conversation). world_of procs' xs (memory_of middle.mails middle.links.items)) table_is
                  ∙ (ap (λ (m : Common). world_of procs' table' m) memory_is ∙ taken.world));
              kind = sym taken.kind;
              rejections = none ∙ sym taken.rejections;
              passes = taken.passes;
            };
            left = record {
              waits = subst NoneWaits (sym procs_are) waits;
              groups = subst (SameGroups before.table) (sym table_is) (groups_stay before.table now.table table' way.stays.table groups);
              sized = sized;
              few = omega (arith, ap length none, one_pass pass);
            };
            quiet = goes;
            ran = λ e. took_ran (kind_with c before.table) t p (world before) taken.kind;
          }

      -- and the words that are named there
      pub accept_names : named_yet c (memberships before.table) p (world now) did.Accepts
          ≡ named_accepted c (memberships now.table) p one.process.levels (last_of one.process.levels) (world now) one.process.state
      accept_names =
          ap (λ (groups : List Membership). named_by_test c groups p (world now) (slice_get (processes_of now.procs.items) p))
          (sym (ap memberships way.stays.table))
          ∙ ap (named_by_test c (memberships now.table) p (world now)) (process_there now.procs.items p one way.leads.there)

    -- what is told and released pays for itself, and for what goes back pay the rejections of its world
    pub has_ended : {m : Move} {middle after : Parts L} {events : List Event} {came : Came} {running' : List Bool} {told : Told} {released : Bool}
        (steps between steps' : ℕ) → Finishes p middle running events came after running' told released
        → HasCome c t p before middle running events came
        → between ≤ steps + 3 * named_yet c (memberships before.table) p (world now) m
        + undoing came.kind (processes_of before.procs.items) events (processes_of middle.procs.items)
        → steps' ≤ between + 2 * releasing (lines_of after.procs.items)
        → HasEnded c t p before now m after running' told released steps steps'
    has_ended {m} {middle} {after} {events} {came} {running'} {told} {released} steps between steps' finished come first last = record {
      turned = finished c t before come;
      work = adds _ _ _ _ _ _ _ first last
          (ap (λ (kind : TurnKind). undoing kind (processes_of before.procs.items) events (processes_of middle.procs.items)) come.moved.kind
          ∙ (ap (λ (es : List Event). undoing moves_to.kind (processes_of before.procs.items) es (processes_of middle.procs.items)) come.moved.rejections
          ∙ ap (λ (w : WordWorld). undoing moves_to.kind (processes_of before.procs.items) moves_to.rejections w.processes) come.moved.worlds));
    }
      where
        adds : (steps between steps' names back same lines : ℕ) → between ≤ steps + 3 * names + back → steps' ≤ between + 2 * lines → back ≡ same
            → steps' ≤ steps + 3 * names + same + 2 * lines
        adds steps between steps' names back same lines first last e = omega (arith, first, last, e)

  pub rests_come : ComesSimply L c t p did.Rests Idle false
  rests_come before now running events none way =
      simply_come before now running did.Rests way events none Idle false way.leads (λ e. not_quiet e) (λ e. not_quiet e) (λ e. not_quiet e)

  pub waits_come : ComesSimply L c t p did.Waits Wait true
  waits_come before now running events none way =
      simply_come before now running did.Waits way events none Wait true way.leads (λ e. refl)
      (λ e. waits_on c t p before now way.leads way.freed) (λ e. waits_ran c t p before now way.leads)

  pub tells_come : ComesSimply L c t p did.Tells Took false
  tells_come before now running events none way =
      simply_come before now running did.Tells way events none Took false way.leads (λ e. not_quiet e) (λ e. not_quiet e) (λ e. not_quiet e)

  pub goes_come : ComesSimply L c t p did.Went Took true
  goes_come before now running events none way =
      simply_come before now running did.Went way events none Took true way.leads.moves (λ e. refl) (λ e. way.leads.goes_on) (λ e. way.ran refl)

  -- so it ends, where the process did this
  module _ {m other : Move} {kind : TurnKind} {quiet : Bool} (comes : ComesSimply L c t p other kind quiet) (is : m ≡ other) (now : Parts L)
      (running : List Bool) (events : List Event) (none : length events ≡ 0) where
    comes_so : (before : Parts L) → IsUnderWay c t p before now running m
        → HasCome c t p before now running events (record { kind = kind; pass = None; quiet = quiet })
    comes_so before way =
        comes before now running events (none_there events none) (subst (IsUnderWay c t p before now running) is way)

    pub some_comes : SomeTurnIsUnderWay c t p now running m → SomeTurnCame p now running events (record { kind = kind; pass = None; quiet = quiet })
    some_comes some = record {
      code = c;
      turn = t;
      before = some.before;
      come = comes_so some.before some.way;
    }

    pub simply_ends : {after : Parts L} {running' : List Bool} {told : Told} {released : Bool} {steps steps' : ℕ}
        → Finishes p now running events (record { kind = kind; pass = None; quiet = quiet }) after running' told released
        → steps' ≤ steps + 2 * releasing (lines_of after.procs.items) → Ends c t p now running m after running' told released steps steps'
    simply_ends {after} {running'} {told} {released} {steps} {steps'} finished work before way =
        has_ended before now running steps steps steps' finished (comes_so before way) (omega arith) work
