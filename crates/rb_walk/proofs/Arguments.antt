-- The values of a call's arguments, one after another.
use Rattle.std.proofs.Common.{◌≡◌, ◌+◌, ◌<◌, ◌≤◌, ℕ, ℤ, List, [], ◌∷◌, ◌++◌, length, map, get_or, drop, Result, Ok, Err, Vec, refl, sym, ap, ◌∙◌}
use Rattle.std.specs.declared.alloc.Global.{Global}
use Rattle.std.proofs.lemmas.List.{append-nil, append_assoc, drop_all, drop_more}
use Rattle.rb_base.specs.declared.event.Cause.{Cause}
use Rattle.rb_syntax.specs.declared.expression.Expr.{Expr}
use Rattle.rb_syntax.specs.Plain.{expression}
use Rattle.rb_meaning.specs.Environment.{Environment}
use Rattle.rb_meaning.specs.Step.{present_value, values_in}
use Rattle.rb_meaning.specs.Value.{Outcome, and_then}
use Rattle.rb_walk.specs.declared.halt.Halt.{Halt}
use Rattle.rb_walk.specs.declared.halt.Halt.TheVariants.{Stuck, Memory}
use Rattle.rb_walk.specs.Comes.{Gives}

-- the values so far, with those that the others come to
abbrev behind : List ℤ → Result (List ℤ) Cause → Result (List ℤ) Cause
behind values others = and_then others (λ rest. Ok (values ++ rest))

-- one value more before the others
abbrev with_next : Outcome → Result (List ℤ) Cause → Result (List ℤ) Cause
with_next outcome others = and_then outcome (λ v. and_then others (λ vs. Ok (v ∷ vs)))

joined : (values : List ℤ) (v : ℤ) (others : Result (List ℤ) Cause) → behind values (with_next (Ok v) others) ≡ behind (values ++ v ∷ []) others
joined values v (Ok vs) = ap Ok (sym (append_assoc values (v ∷ []) vs))
joined values v (Err cause) = refl

module _ (env : Environment) (arguments : List Expr) (i : ℕ) (values : List ℤ)
    (so_far : values_in env (map expression arguments) ≡ behind values (values_in env (map expression (drop i arguments)))) where
  -- none is left
  pub values_all : length arguments ≤ i → values_in env (map expression arguments) ≡ Ok values
  values_all past =
      so_far
      ∙ ap (λ left. behind values (values_in env (map expression left))) (drop_all i arguments past)
      ∙ ap Ok (append-nil values)

  module _ (argument : Expr) (within : i < length arguments) (is : argument ≡ get_or arguments i argument) where
    -- the next one comes to this
    next_argument : (outcome : Outcome) → present_value env (expression argument) ≡ outcome
        → values_in env (map expression arguments) ≡ behind values (with_next outcome (values_in env (map expression (drop (i + 1) arguments))))
    next_argument outcome e =
        let others = values_in env (map expression (drop (i + 1) arguments)) in
        so_far
        ∙ ap (λ left. behind values (values_in env (map expression left)))
        (drop_more arguments i argument within ∙ ap (λ one. one ∷ drop (i + 1) arguments) (sym is))
        ∙ ap (λ o. behind values (with_next o others)) e

    -- it has a value
    pub values_more : (v : ℤ) (more : List ℤ) → present_value env (expression argument) ≡ Ok v → more ≡ values ++ v ∷ []
        → values_in env (map expression arguments) ≡ behind more (values_in env (map expression (drop (i + 1) arguments)))
    values_more v more e pushed =
        let others = values_in env (map expression (drop (i + 1) arguments)) in
        next_argument (Ok v) e ∙ joined values v others ∙ ap (λ those. behind those others) (sym pushed)

    -- where it halts, all halt
    pub values_halt : (halt : Halt) → Gives {B = ℤ} (λ v. v) (present_value env (expression argument)) (Err halt)
        → Gives {B = Vec ℤ Global} (λ found. found.items) (values_in env (map expression arguments)) (Err halt)
    values_halt Stuck trapped = (trapped.0, next_argument (Err trapped.0) trapped.1)
    values_halt Memory short = tt
