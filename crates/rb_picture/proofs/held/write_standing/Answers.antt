use Rattle.std.proofs.Common.{◌≡◌, ℕ, List, [], ◌∷◌, Bool, false, cond, ap, sym, ◌∙◌}
use Rattle.std.specs.Prelude.{codes}
use Rattle.rb_outside.proofs.Puts.{puts_same}
use Rattle.rb_changes.specs.Changes.{is_same_stand, line_in, stand_words, state_line}
use Rattle.rb_changes.specs.declared.noted.Stand.{Stand}
use Rattle.rb_changes.specs.declared.noted.Stand.TheVariants.{Runs, AtLine, Done as IsDone, Failed as HasFailed}
use Rattle.rb_picture.proofs.held.write_standing.Goals as goal

-- a process that stands in another way has a line that tells it
told : (turn : ℕ) (process : List ℕ) (was now stand : Stand) → is_same_stand was now ≡ false → now ≡ stand
    → line_in turn (codes "state" ∷ process ∷ stand_words stand) ≡ state_line turn process was now
told turn process was now stand other is =
    ap (λ (to : Stand). line_in turn (codes "state" ∷ process ∷ stand_words to)) (sym is)
    ∙ sym (ap (λ (same : Bool). cond same [] (line_in turn (codes "state" ∷ process ∷ stand_words now))) other)

pub returns-in-Runs : goal.returns-in-Runs
returns-in-Runs g c =
    let other : is_same_stand c.args.was c.args.now ≡ false = sym c.is_same.ensures ∙ c.if-is_same.false in
    puts_same _ _ _ _ _ _ _ (told c.args.turn c.args.process.now c.args.was c.args.now Runs other c.in-Runs.is) c.write_stand.ensures

pub returns-in-AtLine : goal.returns-in-AtLine
returns-in-AtLine g c =
    let other : is_same_stand c.args.was c.args.now ≡ false = sym c.is_same.ensures ∙ c.if-is_same.false in
    puts_same _ _ _ _ _ _ _ (told c.args.turn c.args.process.now c.args.was c.args.now AtLine other c.in-AtLine.is) c.write_stand-in-AtLine.ensures

pub returns-in-Done : goal.returns-in-Done
returns-in-Done g c =
    let other : is_same_stand c.args.was c.args.now ≡ false = sym c.is_same.ensures ∙ c.if-is_same.false in
    puts_same _ _ _ _ _ _ _ (told c.args.turn c.args.process.now c.args.was c.args.now IsDone other c.in-Done.is) c.write_stand-in-Done.ensures

pub returns-in-Failed : goal.returns-in-Failed
returns-in-Failed g c =
    let other : is_same_stand c.args.was c.args.now ≡ false = sym c.is_same.ensures ∙ c.if-is_same.false in
    puts_same _ _ _ _ _ _ _
    (ap (λ (word : List ℕ). line_in c.args.turn (codes "state" ∷ c.args.process.now ∷ codes "failed" ∷ word ∷ [])) c.word.ensures
    ∙ told c.args.turn c.args.process.now c.args.was c.args.now (HasFailed c.in-Failed.cause) other c.in-Failed.is) c.write_failure.ensures
