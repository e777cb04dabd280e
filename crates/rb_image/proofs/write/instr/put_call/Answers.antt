use Rattle.std.proofs.Common.{◌≡◌, ℕ, List, ◌∷◌, ◌++◌, ap, append_assoc}
use Rattle.rb_outside.proofs.Puts.{puts_both, puts_same, puts_stopped_at}
use Rattle.rb_image.specs.Pieces.{natural}
use Rattle.rb_image.proofs.write.instr.put_call.Goals as goal

grouped : (a b c : List ℕ) → (34 ∷ (a ++ b)) ++ c ≡ 34 ∷ (a ++ (b ++ c))
grouped a b c = ap (λ (x : List ℕ). 34 ∷ x) (append_assoc a b c)

pub returns-in_err-put_two : goal.returns-in_err-put_two
returns-in_err-put_two g c =
    puts_same _ _ _ _ _ _ _ (grouped (natural c.args.a) (natural c.args.p) (natural c.args.n))
    (puts_stopped_at (34 ∷ (natural c.args.a ++ natural c.args.p)) (natural c.args.n) _ _ _ _ _ c.from_residual.result
    c.from_residual.ensures.0 c.in_err-put_two.ensures)

pub returns : goal.returns
returns g c =
    puts_same _ _ _ _ _ _ _ (grouped (natural c.args.a) (natural c.args.p) (natural c.args.n))
    (puts_both (34 ∷ (natural c.args.a ++ natural c.args.p)) (natural c.args.n) _ _ _ _ _ _ _ _ c.in_ok-put_two.ensures
    c.put_natural.ensures)
