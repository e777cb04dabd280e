-- Order by order.
use Rattle.std.proofs.Common.{◌++◌, ◌∷◌, List, ℕ, length, vec_len, Ok, Err, refl, ap, sym, ◌∙◌, arith, subst}
use Rattle.rb_outside.proofs.Puts.{puts_same}
use Rattle.rb_run.specs.Running.{NamesFit}
use Rattle.rb_trace.proofs.Written.{written_all, written_more, written_nothing}
use Rattle.rb_code.specs.Instructions.Plain.{Code}
use Rattle.rb_script.specs.declared.order.Order.{Order}
use Rattle.rb_back.specs.Course.{Course}
use Rattle.rb_script.specs.Script.{CanFollow}
use Rattle.rb_script.specs.Shown.{all_shown, session_text, word_shown}
use Rattle.rb_back.specs.Showing.{ShowsOne}
use Rattle.rb_back.proofs.AsMeant.{shown_as_meant}
use Rattle.rb_back.proofs.TextShown.{as_failed, as_stopped, by_back, by_forth, by_show, same_left, same_shown_text, stopped_as, stopped_at}
use Rattle.rb_back.proofs.showing.show_all.Goals as goal

pub orders-init : goal.orders-init
orders-init g c =
    let fresh = c.requires.fresh in
    record {
      code = refl;
      groups = refl;
      schedule_is = refl;
      goes = record {
        splits = ap (λ (s : Course). s.ran ++ c.args.schedule.left) fresh ∙ c.requires.whole;
        few = omega (arith, c.requires.turns, ap length c.requires.whole);
      };
      within = omega arith;
      follows = subst (λ (turns : List ℕ). CanFollow (vec_len c.args.names.now.processes) (length turns) 0 c.args.script) c.requires.whole c.requires.can_follow;
      written = written_nothing _ _ _;
    }

pub overflow_add-position : goal.overflow_add-position
overflow_add-position g c =
    let s = c.args.session.now in
    let next = by_forth (word_shown s.code s.groups c.args.schedule.all) (vec_len c.args.names.now.processes) (length c.args.schedule.all)
    c.orders.position c.next.new.self c.orders.script c.in-Forth.n
    (c.in-Some.ensures ∙ ap (λ (o : Order). o ∷ c.next.new.self) c.in-Forth.is) c.orders.invariant.follows in
    omega (arith, next.0, c.requires.few, ap length c.requires.whole)

pub orders-preserved-in-Forth : goal.orders-preserved-in-Forth
orders-preserved-in-Forth g c =
    let s = c.args.session.now in
    let next = by_forth (word_shown s.code s.groups c.args.schedule.all) (vec_len c.args.names.now.processes) (length c.args.schedule.all)
    c.orders.position c.next.new.self c.orders.script c.in-Forth.n
    (c.in-Some.ensures ∙ ap (λ (o : Order). o ∷ c.next.new.self) c.in-Forth.is) c.orders.invariant.follows in
    record {
      code = c.orders.invariant.code;
      groups = c.orders.invariant.groups;
      schedule_is = c.orders.invariant.schedule_is;
      goes = c.orders.invariant.goes;
      within = next.0;
      follows = next.1;
      written = same_left _ _ _ _ _ _ _ next.2 c.orders.invariant.written;
    }

pub overflow_sub-position : goal.overflow_sub-position
overflow_sub-position g c =
    let s = c.args.session.now in
    (by_back (word_shown s.code s.groups c.args.schedule.all) (vec_len c.args.names.now.processes) (length c.args.schedule.all)
    c.orders.position c.next.new.self c.orders.script c.in-Back.n
    (c.in-Some.ensures ∙ ap (λ (o : Order). o ∷ c.next.new.self) c.in-Back.is) c.orders.invariant.follows).0

pub orders-preserved-in-Back : goal.orders-preserved-in-Back
orders-preserved-in-Back g c =
    let s = c.args.session.now in
    let next = by_back (word_shown s.code s.groups c.args.schedule.all) (vec_len c.args.names.now.processes) (length c.args.schedule.all)
    c.orders.position c.next.new.self c.orders.script c.in-Back.n
    (c.in-Some.ensures ∙ ap (λ (o : Order). o ∷ c.next.new.self) c.in-Back.is) c.orders.invariant.follows in
    record {
      code = c.orders.invariant.code;
      groups = c.orders.invariant.groups;
      schedule_is = c.orders.invariant.schedule_is;
      goes = c.orders.invariant.goes;
      within = omega (arith, c.orders.invariant.within);
      follows = next.1;
      written = same_left _ _ _ _ _ _ _ next.2 c.orders.invariant.written;
    }

pub show-requires-clause-goes : goal.show-requires-clause-goes
show-requires-clause-goes g c = c.orders.invariant.goes

pub show-requires-clause-within : goal.show-requires-clause-within
show-requires-clause-within g c = omega (arith, c.orders.invariant.within, ap length c.orders.invariant.schedule_is)

pub show-requires-clause-process : goal.show-requires-clause-process
show-requires-clause-process g c =
    let s = c.args.session.now in
    let next = by_show (word_shown s.code s.groups c.args.schedule.all) (vec_len c.args.names.now.processes) (length c.args.schedule.all)
    c.orders.position c.next.new.self c.orders.script c.in-Show.p
    (c.in-Some.ensures ∙ ap (λ (o : Order). o ∷ c.next.new.self) c.in-Show.is) c.orders.invariant.follows in
    omega (arith, next.0)

pub show-requires-clause-named : goal.show-requires-clause-named
show-requires-clause-named g c = c.requires.named ∙ ap (λ (one : Code). one.names) (sym c.orders.invariant.code)

pub show-requires-clause-fit : goal.show-requires-clause-fit
show-requires-clause-fit g c = subst (λ (one : Code). NamesFit one c.args.names.now) (sym c.orders.invariant.code) c.requires.fit

pub orders-preserved : goal.orders-preserved
orders-preserved g c =
    let s = c.args.session.now in
    let moved = c.in_ok-show-in-Show.ensures.moved in
    let next = by_show (word_shown s.code s.groups c.args.schedule.all) (vec_len c.args.names.now.processes) (length c.args.schedule.all)
    c.orders.position c.next.new.self c.orders.script c.in-Show.p
    (c.in-Some.ensures ∙ ap (λ (o : Order). o ∷ c.next.new.self) c.in-Show.is) c.orders.invariant.follows in
    record {
      code = moved.code ∙ c.orders.invariant.code;
      groups = moved.groups ∙ c.orders.invariant.groups;
      schedule_is = moved.all ∙ c.orders.invariant.schedule_is;
      goes = moved.goes;
      within = c.orders.invariant.within;
      follows = next.1;
      written = written_more _ _ (word_shown s.code s.groups c.args.schedule.all c.orders.position c.in-Show.p) _ _ _ _ _ _ _
          c.orders.invariant.written next.2
          (as_failed _ _ _ _ _
          (puts_same _ _ _ _ _ _ _
          (same_shown_text c.orders.invariant.code c.orders.invariant.groups c.orders.invariant.schedule_is c.orders.position c.in-Show.p)
          c.in_ok-show-in-Show.ensures.text));
    }

pub returns-in_err-show-in-Show-clause-text : goal.returns-in_err-show-in-Show-clause-text
returns-in_err-show-in-Show-clause-text g c =
    let s = c.args.session.now in
    let show = word_shown s.code s.groups c.args.schedule.all in
    let next = by_show (word_shown s.code s.groups c.args.schedule.all) (vec_len c.args.names.now.processes) (length c.args.schedule.all)
    c.orders.position c.next.new.self c.orders.script c.in-Show.p
    (c.in-Some.ensures ∙ ap (λ (o : Order). o ∷ c.next.new.self) c.in-Show.is) c.orders.invariant.follows in
    let why = c.in_err-show-in-Show.field-0.0 in
    stopped_as (session_text s.code s.groups c.args.schedule.all c.args.script) (g.S.Sink.written c.args.out.now) (g.S.Sink.written c.show.new.out)
    (g.S.Sink.faults c.args.out.now) (g.S.Sink.faults c.show.new.out) why c.from_residual.result c.from_residual.ensures.1
    (stopped_at (session_text s.code s.groups c.args.schedule.all c.args.script) (all_shown show c.orders.position c.orders.script)
    (show c.orders.position c.in-Show.p) (all_shown show c.orders.position c.next.new.self) (g.S.Sink.written c.args.out.now)
    (g.S.Sink.written c.orders.out) (g.S.Sink.written c.show.new.out) (g.S.Sink.faults c.args.out.now) (g.S.Sink.faults c.orders.out)
    (g.S.Sink.faults c.show.new.out) why c.orders.invariant.written next.2
    (subst (λ (text : List ℕ). ShowsOne text (g.S.Sink.written c.orders.out) (g.S.Sink.written c.show.new.out) (g.S.Sink.faults c.orders.out)
    (g.S.Sink.faults c.show.new.out) (Err why))
    (same_shown_text c.orders.invariant.code c.orders.invariant.groups c.orders.invariant.schedule_is c.orders.position c.in-Show.p)
    c.in_err-show-in-Show.ensures.text))

pub returns-clause-text : goal.returns-clause-text
returns-clause-text g c =
    let s = c.args.session.now in
    as_stopped _ _ _ _ _
    (written_all _ _ _ _ _ _ c.orders.invariant.written
    (ap (λ (orders : List Order). all_shown (word_shown s.code s.groups c.args.schedule.all) c.orders.position orders) c.in_default.ensures.0))

pub returns-in_err-show-in-Show-clause-meant : goal.returns-in_err-show-in-Show-clause-meant
returns-in_err-show-in-Show-clause-meant g c =
    shown_as_meant c.args.session.now.code c.args.session.now.groups c.args.schedule.all c.args.script (g.S.Sink.written c.args.out.now)
    (g.S.Sink.written c.show.new.out) (g.S.Sink.faults c.args.out.now) (g.S.Sink.faults c.show.new.out) c.from_residual.result
    (returns-in_err-show-in-Show-clause-text g c)

pub returns-clause-meant : goal.returns-clause-meant
returns-clause-meant g c =
    shown_as_meant c.args.session.now.code c.args.session.now.groups c.args.schedule.all c.args.script (g.S.Sink.written c.args.out.now)
    (g.S.Sink.written c.orders.out) (g.S.Sink.faults c.args.out.now) (g.S.Sink.faults c.orders.out) (Ok tt) (returns-clause-text g c)
