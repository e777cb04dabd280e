-- An alternate that was started is added behind a blank.
use Rattle.std.proofs.Common.{◌≡◌, ℕ, Bool, false, List, [], ◌∷◌, cond, decimal, nat_eq, ap, sym}
use Rattle.std.proofs.lemmas.Bool.{ne_eqb}
use Rattle.rb_run.proofs.Gathered.{gathers_both, gathers_nothing, gathers_same, gathers_stopped_at}
use Rattle.rb_run.proofs.record.add_alternate.Goals as goal

-- the bytes of an alternate
abbrev text : ℕ → List ℕ
text n = cond (nat_eq n 0) [] (32 ∷ decimal n)

started : (n : ℕ) → nat_eq n 0 ≡ false → 32 ∷ decimal n ≡ text n
started n e = ap (λ (b : Bool). cond b [] (32 ∷ decimal n)) (sym e)

pub returns-then-alternate-eq0 : goal.returns-then-alternate-eq0
returns-then-alternate-eq0 g c = gathers_same _ _ _ _ _ _ _ _ _ (ap text (sym c.if-alternate-eq0.true)) (gathers_nothing _ _ _ _)

pub returns-in_err-add : goal.returns-in_err-add
returns-in_err-add g c =
    gathers_same _ _ _ _ _ _ _ _ _ (started c.args.alternate (ne_eqb c.args.alternate 0 c.if-alternate-eq0.false))
    (gathers_stopped_at _ _ _ _ _ _ _ _ _ _ _ c.from_residual.ensures.0 c.in_err-add.ensures)

pub returns : goal.returns
returns g c =
    gathers_same _ _ _ _ _ _ _ _ _ (started c.args.alternate (ne_eqb c.args.alternate 0 c.if-alternate-eq0.false))
    (gathers_both _ _ _ _ _ _ _ _ _ _ _ _ _ c.in_ok-add.ensures c.add_number.ensures)
