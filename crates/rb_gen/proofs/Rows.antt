-- The code of expressions and of simple statements, as it is put together.
use Rattle.std.proofs.Common.{◌≡◌, ℕ, List, Option, refl, sym, ap, ◌∙◌, subst, ℤ}
use Rattle.std.specs.Prelude.{false, get_or, map, OnOk, Result}
use Rattle.std.specs.Option.{unwrap_or}
use Rattle.std.proofs.lemmas.Option.{slice_get-map, unwrap_or-slice_get}
use Rattle.std.proofs.lemmas.Result.{IfOk-weaker}
use Rattle.rb_syntax.specs.declared.expression.Expr.{Expr}
use Rattle.rb_syntax.specs.declared.statement.ItemKind.{ItemKind}
use Rattle.rb_syntax.specs.declared.statement.ItemKind.TheVariants.{Text, Value}
use Rattle.rb_syntax.specs.Plain.{expression, printed}
use Rattle.rb_base.specs.declared.place.Place.{Place}
use Rattle.rb_syntax.specs.declared.expression.Op.{Op}
use Rattle.rb_syntax.specs.declared.expression.Op.TheVariants as op
use Rattle.rb_syntax.specs.declared.expression.Number.{Number}
use Rattle.rb_syntax.specs.declared.expression.Quantifier.{Quantifier}
use Rattle.rb_syntax.specs.declared.expression.Quantifier.TheVariants.{Every, Any, Total}
use Rattle.rb_syntax.specs.Tree.{Identifier, Expression, Literal, Variable, Former, Minus, Negation, Chained, Quantification, Refer, Subscript, Scalar, Element, Links, NoLink, Linked, ProcedureDeclaration}
use Rattle.rb_scope.specs.declared.slot.Slot.{Slot}
use Rattle.rb_code.specs.declared.instr.Instr.{Instr}
use Rattle.rb_code.specs.declared.instr.Spot.{Spot}
use Rattle.rb_code.specs.declared.instr.Instr.TheVariants.{Call, Item, Put, Room, Turn, Push, Prior, Bound, LoadAt, PriorAt, Store, StoreAt, Neg, Not}
use Rattle.rb_code.specs.Agreement.Slots.{counter_of, elements_of, quantified_of, spot_of}
use Rattle.rb_code.specs.Agreement.Template.{Template, One, ◌⨾◌, Quoted}
use Rattle.rb_code.specs.Agreement.Forms.{AndCode, Called, OrCode, PrintedCode, procedure_words, EveryCode, ExpressionCode, LinksCode, OperatorCode, QuantifiedCode, ScalarCode, SomeCode, StoreCode, SubscriptCode, SumCode}
use Rattle.rb_draft.specs.Output.{Output, is_text, linked}
use Rattle.rb_gen.specs.InMemory.{operator}
use Rattle.rb_draft.specs.Emits.{Adds, Emits, Placed}
use Rattle.rb_gen.specs.Writes.{room_of}
use Rattle.rb_draft.proofs.Emits.{both, empty}

-- what a last call leaves, where it goes well
pub last_call : {X E A B : Type 0} (r : Result X E) → OnOk r A → (A → B) → OnOk r B
last_call r h f = IfOk-weaker r _ _ (λ x a. f a) h

-- one template after another
pub then_adds : {P Q : Template} {c d e : Output} → Adds P c d → Adds Q d e → Adds (P ⨾ Q) c e
then_adds f g = λ p n. both (f p n) (g p n)

-- an expression that is known to be another
pub same_expression : (slots : List Slot) {t u : Expression} {c d : Output} → t ≡ u → Adds (ExpressionCode slots u) c d
    → Adds (ExpressionCode slots t) c d
same_expression slots {c = c} {d = d} e h = subst (λ x. Adds (ExpressionCode slots x) c d) (sym e) h

pub literal : (slots : List Slot) {t : Expression} {number : Number} {c d : Output} (v : ℤ) → t ≡ Literal number → v ≡ number.value
    → Adds (One (Push v)) c d → Adds (ExpressionCode slots t) c d
unfolding ExpressionCode
literal slots {c = c} {d = d} v is same p = same_expression slots is (subst (λ x. Adds (One (Push x)) c d) same p)

pub value : (slots : List Slot) {t : Expression} {name : Identifier} {s : Subscript} {c d : Output} → t ≡ Variable (Refer name s)
    → Adds (SubscriptCode slots (ScalarCode (counter_of slots name.id) (spot_of slots name.id))
    (One (LoadAt (spot_of slots name.id))) (elements_of slots name.id) s) c d
    → Adds (ExpressionCode slots t) c d
unfolding ExpressionCode SubscriptCode
value slots is p = same_expression slots is p

pub former : (slots : List Slot) {t : Expression} {place : Place} {name : Identifier} {s : Subscript} {c d : Output} → t ≡ Former place (Refer name s)
    → Adds (SubscriptCode slots (One (Prior (spot_of slots name.id))) (One (PriorAt (spot_of slots name.id))) (elements_of slots name.id) s) c d
    → Adds (ExpressionCode slots t) c d
unfolding ExpressionCode SubscriptCode
former slots is p = same_expression slots is p

pub minus : (slots : List Slot) {t x : Expression} {c d e : Output} → t ≡ Minus x → Adds (ExpressionCode slots x) c d
    → Adds (One Neg) d e → Adds (ExpressionCode slots t) c e
unfolding ExpressionCode
minus slots is p q = same_expression slots is (then_adds p q)

pub negation : (slots : List Slot) {t x : Expression} {c d e : Output} → t ≡ Negation x → Adds (ExpressionCode slots x) c d
    → Adds (One Not) d e → Adds (ExpressionCode slots t) c e
unfolding ExpressionCode
negation slots is p q = same_expression slots is (then_adds p q)

pub chained : (slots : List Slot) {t x : Expression} {l : Links} {c d e : Output} → t ≡ Chained x l → Adds (ExpressionCode slots x) c d
    → Adds (LinksCode slots l) d e → Adds (ExpressionCode slots t) c e
unfolding ExpressionCode LinksCode
chained slots is p q = same_expression slots is (then_adds p q)

pub quantification :
    (slots : List Slot) {t : Expression} {kind : Quantifier} {place : Place} {name : Identifier} {low high over : Expression} {c d : Output}
    → t ≡ Quantification kind place name low high over
    → Adds (QuantifiedCode kind (quantified_of slots name.id) (ExpressionCode slots low) (ExpressionCode slots high) (ExpressionCode slots over)) c d
    → Adds (ExpressionCode slots t) c d
unfolding ExpressionCode
quantification slots is p = same_expression slots is p

-- a place without an index, whose slot is known
pub scalar : (slots : List Slot) (one : Spot → Template) (element : Template) (id : ℕ) (n : ℕ) {v : Spot} {s : Subscript} {c d : Output} → s ≡ Scalar
    → v ≡ spot_of slots id → Adds (one v) c d → Adds (SubscriptCode slots (one (spot_of slots id)) element n s) c d
unfolding ExpressionCode SubscriptCode
scalar slots one element id n {c = c} {d = d} is at p =
    subst (λ x. Adds (SubscriptCode slots (one (spot_of slots id)) element n x) c d) (sym is) (subst (λ x. Adds (one x) c d) at p)

-- a scalar or a counter, whichever is known
pub scalar_code : (v : Spot) {k l : Option ℕ} {c d : Output} → k ≡ l → Adds (ScalarCode l v) c d → Adds (ScalarCode k v) c d
scalar_code v {c = c} {d = d} e p = subst (λ x. Adds (ScalarCode x v) c d) (sym e) p

-- the same for a counter
pub counted : (slots : List Slot) (element : Template) (id : ℕ) (n : ℕ) {k : Option ℕ} {v : Spot} {s : Subscript} {c d : Output} → s ≡ Scalar
    → k ≡ counter_of slots id → v ≡ spot_of slots id → Adds (ScalarCode k v) c d
    → Adds (SubscriptCode slots (ScalarCode (counter_of slots id) (spot_of slots id)) element n s) c d
counted slots element id n {k = k} {v = v} {c = c} {d = d} is same at p =
    scalar slots (ScalarCode (counter_of slots id)) element id n is at (subst (λ x. Adds (ScalarCode x v) c d) same p)

-- a place with an index
pub element : (slots : List Slot) (one : Template) (reads : Spot → Template)
    (id : ℕ) {bound : ℕ} {v : Spot} {s : Subscript} {x : Expression} {c d e f : Output}
    → s ≡ Element x → bound ≡ elements_of slots id → v ≡ spot_of slots id → Adds (ExpressionCode slots x) c d → Adds (One (Bound bound)) d e
    → Adds (reads v) e f → Adds (SubscriptCode slots one (reads (spot_of slots id)) (elements_of slots id) s) c f
unfolding ExpressionCode SubscriptCode
element slots one reads id {c = c} {d = d} {e = e} {f = f} is same at p q r =
    let b : Adds (One (Bound (elements_of slots id))) d e = subst (λ (n : ℕ). Adds (One (Bound n)) d e) same q in
    let l : Adds (reads (spot_of slots id)) e f = subst (λ x. Adds (reads x) e f) at r in
    subst (λ x. Adds (SubscriptCode slots one (reads (spot_of slots id)) (elements_of slots id) x) c f) (sym is) (then_adds p (then_adds b l))

pub no_link : (slots : List Slot) {l : Links} (c : Output) → l ≡ NoLink → Adds (LinksCode slots l) c c
unfolding LinksCode
no_link slots c is = subst (λ l. Adds (LinksCode slots l) c c) (sym is) (λ p n. empty n c)

pub one_link : (slots : List Slot) {l links : Links} {o : Op} {x : Expression} {c d e : Output} → l ≡ Linked o x links
    → Adds (OperatorCode o (ExpressionCode slots x)) c d → Adds (LinksCode slots links) d e → Adds (LinksCode slots l) c e
unfolding ExpressionCode LinksCode
one_link slots {c = c} {e = e} is p q = subst (λ x. Adds (LinksCode slots x) c e) (sym is) (then_adds p q)

-- an operator that evaluates both operands
pub operator-no_text : (o : Op) → is_text (operator o) ≡ false
operator-no_text op.Or = refl
operator-no_text op.And = refl
operator-no_text op.Eq = refl
operator-no_text op.Ne = refl
operator-no_text op.Lt = refl
operator-no_text op.Le = refl
operator-no_text op.Gt = refl
operator-no_text op.Ge = refl
operator-no_text op.Add = refl
operator-no_text op.Sub = refl
operator-no_text op.Mul = refl
operator-no_text op.Div = refl
operator-no_text op.Rem = refl

pub simple : (o : Op) {P : Template} {i : Instr} {c d e : Output} → (o ≡ op.Or → ⊥) → (o ≡ op.And → ⊥) → i ≡ operator o → Adds P c d
    → (is_text i ≡ false → (p n : ℕ) → Emits (linked p) n n (λ w a b. One (linked p w i) w a b) d e) → Adds (OperatorCode o P) c e
simple o {P = P} {i = i} {c = c} {d = d} {e = e} f g is p q =
    by o f g p (subst (λ j. is_text j ≡ false → (p n : ℕ) → Emits (linked p) n n (λ w a b. One (linked p w j) w a b) d e) is q (operator-no_text o))
  where
    by : (o : Op) {P : Template} {c d e : Output} → (o ≡ op.Or → ⊥) → (o ≡ op.And → ⊥) → Adds P c d
        → ((p n : ℕ) → Emits (linked p) n n (λ w a b. One (linked p w (operator o)) w a b) d e) → Adds (OperatorCode o P) c e
    by op.Or f g p q = absurd (f refl)
    by op.And f g p q = absurd (g refl)
    by op.Eq f g p q = then_adds p q
    by op.Ne f g p q = then_adds p q
    by op.Lt f g p q = then_adds p q
    by op.Le f g p q = then_adds p q
    by op.Gt f g p q = then_adds p q
    by op.Ge f g p q = then_adds p q
    by op.Add f g p q = then_adds p q
    by op.Sub f g p q = then_adds p q
    by op.Mul f g p q = then_adds p q
    by op.Div f g p q = then_adds p q
    by op.Rem f g p q = then_adds p q

-- a value that goes to a place whose slot is known
pub store_scalar : (slots : List Slot) (name : Identifier) {s : Subscript} {v : Spot} {P : Template} {c d e : Output} → s ≡ Scalar
    → v ≡ spot_of slots name.id → Adds P c d → Adds (One (Store v)) d e → Adds (StoreCode slots (Refer name s) P) c e
store_scalar slots name {P = P} {c = c} {d = d} {e = e} is at p q =
    subst (λ x. Adds (StoreCode slots (Refer name x) P) c e) (sym is) (then_adds p (subst (λ x. Adds (One (Store x)) d e) at q))

pub store_element : (slots : List Slot)
    (name : Identifier) {bound : ℕ} {s : Subscript} {x : Expression} {v : Spot} {P : Template} {c d e f g : Output}
    → s ≡ Element x → v ≡ spot_of slots name.id → bound ≡ elements_of slots name.id → Adds (ExpressionCode slots x) c d → Adds (One (Bound bound)) d e
    → Adds P e f → Adds (One (StoreAt v)) f g → Adds (StoreCode slots (Refer name s) P) c g
store_element slots name {P = P} {c = c} {d = d} {e = e} {f = f} {g = g} is at same p q r t =
    let b : Adds (One (Bound (elements_of slots name.id))) d e = subst (λ (n : ℕ). Adds (One (Bound n)) d e) same q in
    subst (λ y. Adds (StoreCode slots (Refer name y) P) c g) (sym is)
    (then_adds p (then_adds b (then_adds r (subst (λ y. Adds (One (StoreAt y)) f g) at t))))

-- operators that may leave their right operand out
pub op_and : {o : Op} {P : Template} {c d : Output} → o ≡ op.And → Adds (AndCode P) c d → Adds (OperatorCode o P) c d
op_and {P = P} {c = c} {d = d} is p = subst (λ o. Adds (OperatorCode o P) c d) (sym is) p

pub op_or : {o : Op} {P : Template} {c d : Output} → o ≡ op.Or → Adds (OrCode P) c d → Adds (OperatorCode o P) c d
op_or {P = P} {c = c} {d = d} is p = subst (λ o. Adds (OperatorCode o P) c d) (sym is) p

-- each kind of quantified expression
pub of_every : {kind : Quantifier} {k : ℕ} {low high body : Template} {c d : Output} → kind ≡ Every → Adds (EveryCode k low high body) c d
    → Adds (QuantifiedCode kind k low high body) c d
of_every {k = k} {low = low} {high = high} {body = body} {c = c} {d = d} is p = subst (λ q. Adds (QuantifiedCode q k low high body) c d) (sym is) p

pub of_some : {kind : Quantifier} {k : ℕ} {low high body : Template} {c d : Output} → kind ≡ Any → Adds (SomeCode k low high body) c d
    → Adds (QuantifiedCode kind k low high body) c d
of_some {k = k} {low = low} {high = high} {body = body} {c = c} {d = d} is p = subst (λ q. Adds (QuantifiedCode q k low high body) c d) (sym is) p

pub of_sum : {kind : Quantifier} {k : ℕ} {low high body : Template} {c d : Output} → kind ≡ Total → Adds (SumCode k low high body) c d
    → Adds (QuantifiedCode kind k low high body) c d
of_sum {k = k} {low = low} {high = high} {body = body} {c = c} {d = d} is p = subst (λ q. Adds (QuantifiedCode q k low high body) c d) (sym is) p

-- an item of a `print`
pub item_text : (slots : List Slot) {what : ItemKind} {text : _} {c d : Output} → what ≡ Text text
    → Adds (Quoted text.now) c d → Adds (PrintedCode slots (printed what)) c d
item_text slots {c = c} {d = d} is p = subst (λ x. Adds (PrintedCode slots (printed x)) c d) (sym is) p

pub item_value : (slots : List Slot) {what : ItemKind} {value : Expr} {c d e : Output} → what ≡ Value value
    → Adds (ExpressionCode slots (expression value)) c d → Adds (One Item) d e → Adds (PrintedCode slots (printed what)) c e
item_value slots {c = c} {e = e} is p q = subst (λ x. Adds (PrintedCode slots (printed x)) c e) (sym is) (then_adds p q)

-- a `send`, by the channel's number
pub send_row : {number k : ℕ} {P : Template} {c d e f g : Output} → number ≡ k → Adds (One Turn) c d → Adds (One (Room number)) d e → Adds P e f
    → Adds (One (Put number)) f g → Adds (One Turn ⨾ One (Room k) ⨾ P ⨾ One (Put k)) c g
send_row {P = P} {c = c} {g = g} same p q r t =
    subst (λ (i : ℕ). Adds (One Turn ⨾ One (Room i) ⨾ P ⨾ One (Put i)) c g) same (then_adds p (then_adds q (then_adds r t)))

-- the call itself, whose numbers are known otherwise
pub call_row : (p n : ℕ) {number count words k l m : ℕ} {c d : Output} → number ≡ k → count ≡ l → words ≡ m
    → Emits (linked p) n n (Placed p (Call number count words)) c d → Emits (linked p) n n (Called p k l m) c d
call_row p n {count = count} {words = words} {k = k} {l = l} {c = c} {d = d} e f g h =
    subst (λ (i : ℕ). Emits (linked p) n n (Called p k l i) c d) g
    (subst (λ (i : ℕ). Emits (linked p) n n (Called p k i words) c d) f (subst (λ (i : ℕ). Emits (linked p) n n (Called p i count words) c d) e h))

-- the words of a procedure, looked up
pub room_there : (procedures : List ProcedureDeclaration) (words : List ℕ) (number k : ℕ) → words ≡ map room_of procedures → number ≡ k
    → get_or words number 0 ≡ procedure_words procedures k
room_there procedures words number k sized same =
    ap (λ xs. get_or xs number 0) sized ∙ ap (λ i. get_or (map room_of procedures) i 0) same
    ∙ sym (unwrap_or-slice_get (map room_of procedures) k 0) ∙ ap (λ o. unwrap_or o 0)
    (slice_get-map room_of procedures k)

-- a bound that is known otherwise
pub bound_row : {m n : ℕ} {c d : Output} → m ≡ n → Adds (One (Bound m)) c d → Adds (One (Bound n)) c d
bound_row {c = c} {d = d} e p = subst (λ (i : ℕ). Adds (One (Bound i)) c d) e p
