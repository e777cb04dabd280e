-- The lines that tell what a process holds, by how many it held and holds.
use Rattle.std.proofs.Common.{◌≡◌, ◌≢◌, ℕ, ◌+◌, Bool, cond, List, [], ◌++◌, length, nat_eq, Option, ap, sym, ◌∙◌, arith, eq-eqb}
use Rattle.std.proofs.lemmas.Bool.{ne_eqb}
use Rattle.std.proofs.lemmas.List.{append-nil}
use Rattle.rb_world.specs.World.{last_of}
use Rattle.rb_changes.specs.Changes.{held_line, held_lines, last_line}

module _ (t was now : ℕ) (p : List ℕ) (held : List (List ℕ)) (long : length held ≡ now) where
  abbrev rest : List ℕ
  rest = cond (nat_eq (length held) (was + 1)) (last_line t p (length held) (last_of held)) []

  pub as_many : was ≡ now → [] ≡ held_lines t p was held
  as_many same = sym (ap (λ (b : Bool). cond b [] (held_line t p (length held) ++ rest)) (eq-eqb was (length held) (omega (arith, same, long))))

  pub others : was ≢ now → held_line t p now ++ rest ≡ held_lines t p was held
  others other =
      ap (λ (n : ℕ). held_line t p n ++ rest) (sym long)
      ∙ sym (ap (λ (b : Bool). cond b [] (held_line t p (length held) ++ rest)) (ne_eqb was (length held) (λ e. other (e ∙ long))))

  pub one_more : was ≢ now → now ≡ was + 1 → (last : Option (List ℕ)) → last ≡ last_of held
      → held_line t p now ++ last_line t p now last ≡ held_lines t p was held
  one_more other more last is =
      ap (λ (n : ℕ). held_line t p now ++ last_line t p n last) (sym long)
      ∙ ap (λ (o : Option (List ℕ)). held_line t p now ++ last_line t p (length held) o) is
      ∙ sym (ap (λ (b : Bool). held_line t p now ++ cond b (last_line t p (length held) (last_of held)) [])
      (eq-eqb (length held) (was + 1) (long ∙ more)))
      ∙ others other

  pub not_one_more : was ≢ now → now ≢ was + 1 → held_line t p now ≡ held_lines t p was held
  not_one_more other more =
      sym (append-nil (held_line t p now))
      ∙ sym (ap (λ (b : Bool). held_line t p now ++ cond b (last_line t p (length held) (last_of held)) [])
      (ne_eqb (length held) (was + 1) (λ e. more (sym long ∙ e))))
      ∙ others other
