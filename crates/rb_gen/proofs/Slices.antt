-- Lists as code takes them apart, and the items of a `print` and the arguments of a call.
use Rattle.std.proofs.Common.{◌≡◌, ℕ, suc, ◌-◌, ◌<◌, ◌≤◌, List, [], ◌∷◌, length, take, drop, map, refl, sym, ap, ◌∙◌, subst, arith}
use Rattle.std.specs.Prelude.{get_or}
use Rattle.rb_syntax.specs.declared.expression.Expr.{Expr}
use Rattle.rb_syntax.specs.declared.statement.Item.{Item}
use Rattle.rb_syntax.specs.Plain.{expression, print_item, printed}
use Rattle.rb_scope.specs.declared.slot.Slot.{Slot}
use Rattle.rb_code.specs.Agreement.Forms.{ArgumentsCode, ExpressionCode, ItemsCode, PrintedCode}
use Rattle.rb_draft.specs.Output.{Output}
use Rattle.rb_draft.specs.Emits.{Adds}
use Rattle.rb_draft.proofs.Emits.{empty}
use Rattle.rb_gen.proofs.Rows.{then_adds}

pub take_all : {A : Type 0} (xs : List A) → take (length xs) xs ≡ xs
take_all [] = refl
take_all (x ∷ xs) = ap (λ l. x ∷ l) (take_all xs)

-- the first, and the others
pub split : {A : Type 0} (xs : List A) (x : A) → 1 ≤ length xs → x ≡ get_or xs 0 x → xs ≡ x ∷ take (length xs - 1) (drop 1 xs)
split [] x h e = absurd (omega arith)
split (y ∷ ys) x h e =
    let one : suc (length ys) - 1 ≡ length ys = omega arith in
    ap (λ z. z ∷ ys) (sym e) ∙ ap (λ l. x ∷ l) (sym (take_all ys)) ∙ ap (λ (n : ℕ). x ∷ take n ys) (sym one)

pub none_left : {A : Type 0} (xs : List A) → length xs < 1 → xs ≡ []
none_left [] h = refl
none_left (x ∷ xs) h = absurd (omega arith)

module _ (slots : List Slot) where
  pub no_item : (xs : List Item) (c : Output) → xs ≡ [] → Adds (ItemsCode slots (map print_item xs)) c c
  no_item xs c e = subst (λ l. Adds (ItemsCode slots (map print_item l)) c c) (sym e) (λ p n. empty n c)

  pub one_item : {xs rest : List Item} (x : Item) {c d e : Output} → xs ≡ x ∷ rest → Adds (PrintedCode slots (printed x.what)) c d
      → Adds (ItemsCode slots (map print_item rest)) d e → Adds (ItemsCode slots (map print_item xs)) c e
  one_item x {c = c} {e = e} is p q = subst (λ l. Adds (ItemsCode slots (map print_item l)) c e) (sym is) (then_adds p q)

  pub no_argument : (xs : List Expr) (c : Output) → xs ≡ [] → Adds (ArgumentsCode slots (map expression xs)) c c
  no_argument xs c e = subst (λ l. Adds (ArgumentsCode slots (map expression l)) c c) (sym e) (λ p n. empty n c)

  pub one_argument : {xs rest : List Expr} (x : Expr) {c d e : Output} → xs ≡ x ∷ rest → Adds (ExpressionCode slots (expression x)) c d
      → Adds (ArgumentsCode slots (map expression rest)) d e → Adds (ArgumentsCode slots (map expression xs)) c e
  one_argument x {c = c} {e = e} is p q = subst (λ l. Adds (ArgumentsCode slots (map expression l)) c e) (sym is) (then_adds p q)
