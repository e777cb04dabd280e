-- Falls one after another.
use Rattle.std.proofs.Common.{◌≡◌, ℕ, zero, suc, ◌+◌, ◌<◌, List, [], ◌∷◌, ◌++◌, Option, Some, None, refl, ap, ◌∙◌, sym, subst, append_assoc}
use Rattle.std.specs.List.{AllByRecursion}
use Rattle.std.proofs.lemmas.List.{append-nil}
use Rattle.rb_domino.specs.declared.analysis.Dropped.{Dropped}
use Rattle.rb_domino.specs.declared.board.Board.{Board}
use Rattle.rb_domino.specs.declared.line.Line.{Line}
use Rattle.rb_domino.specs.declared.line.Line.TheVariants.{Begin, Point, Send, Take, Fail}
use Rattle.rb_domino.specs.declared.state.State.{State}
use Rattle.rb_domino.specs.declared.state.Fall.{Fall}
use Rattle.rb_domino.specs.History.{Story}
use Rattle.rb_domino.specs.Recovery.{Outcome, after_drops, drops_of, failure_from, falls, falls_by_messages, first_fall, left_after}
use Rattle.rb_domino.specs.Board.{Falls, Holds, NamesKnown, left_on}

-- these drops are made of an outcome, and the rest is that of what is left
pub record FallsOn (story : Story) (outcome : Outcome) (rounds : ℕ) (before now : List Dropped) (board : Board) : Type 0 where
  pub made : List Dropped
  pub joined : now ≡ before ++ made
  pub goes_on : outcome ≡ after_drops made (falls_by_messages story rounds (left_on board))
  pub holds : Holds story board

-- drops before drops
after_both : (a b : List Dropped) (outcome : Outcome) → after_drops a (after_drops b outcome) ≡ after_drops (a ++ b) outcome
after_both a b outcome = λ i. record { drops = sym (append_assoc a b outcome.drops) i; left = outcome.left }

-- none is made yet
pub falls_on_none : (story : Story) (outcome : Outcome) (rounds n : ℕ) (drops : List Dropped) (board : Board)
    → outcome ≡ falls_by_messages story n (left_on board) → n ≡ rounds → Holds story board → FallsOn story outcome rounds drops drops board
falls_on_none story outcome rounds n drops board is same holds = record {
  made = [];
  joined = sym (append-nil drops);
  goes_on = is ∙ ap (λ k. falls_by_messages story k (left_on board)) same;
  holds = holds;
}

-- a fall more
pub falls_on_more : (story : Story) (outcome : Outcome) (rounds fewer : ℕ) (before now then : List Dropped) (old new : Board) (fall : Fall)
    (left : List (List State)) → FallsOn story outcome rounds before now old → rounds ≡ suc fewer → first_fall story (left_on old) ≡ Some fall
    → left ≡ left_on old → then ≡ now ++ drops_of fall left → left_on new ≡ left_after fall left → Holds story new
    → FallsOn story outcome fewer before then new
falls_on_more story outcome rounds fewer before now then old new fall left so_far some first same more after holds = record {
  made = so_far.made ++ drops_of fall (left_on old);
  joined = more ∙ ap (λ l. now ++ drops_of fall l) same ∙ ap (λ ds. ds ++ drops_of fall (left_on old)) so_far.joined
      ∙ append_assoc before so_far.made (drops_of fall (left_on old));
  goes_on =
      so_far.goes_on
      ∙ ap (λ k. after_drops so_far.made (falls_by_messages story k (left_on old))) some
      ∙ ap (λ o. after_drops so_far.made (falls (left_on old) o (falls_by_messages story fewer))) first
      ∙ after_both so_far.made (drops_of fall (left_on old)) (falls_by_messages story fewer (left_after fall (left_on old)))
      ∙ ap (λ l. after_drops (so_far.made ++ drops_of fall (left_on old)) (falls_by_messages story fewer l))
      (sym (after ∙ ap (left_after fall) same));
  holds = holds;
}

-- nothing breaks the line, or no round is left
rests : (story : Story) (rounds : ℕ) (left : List (List State)) → first_fall story left ≡ None
    → falls_by_messages story rounds left ≡ record { drops = []; left = left }
rests story zero left none = refl
rests story (suc n) left none = ap (λ o. falls left o (falls_by_messages story n)) none

ended : (story : Story) (outcome : Outcome) (rounds : ℕ) (before now : List Dropped) (board : Board) → FallsOn story outcome rounds before now board
    → falls_by_messages story rounds (left_on board) ≡ record { drops = []; left = left_on board } → Falls outcome before now (left_on board)
ended story outcome rounds before now board so_far end =
    let whole : outcome ≡ record { drops = so_far.made ++ []; left = left_on board } = so_far.goes_on ∙ ap (after_drops so_far.made) end in
    record {
      drops = so_far.joined ∙ ap (λ ds. before ++ ds) (sym (ap (λ (o : Outcome). o.drops) whole ∙ append-nil so_far.made));
      left_is = sym (ap (λ (o : Outcome). o.left) whole);
    }

pub falls_on_none_left : (story : Story) (outcome : Outcome) (rounds : ℕ) (before now : List Dropped) (board : Board) (left : List (List State))
    → FallsOn story outcome rounds before now board → first_fall story (left_on board) ≡ None → left ≡ left_on board → Falls outcome before now left
falls_on_none_left story outcome rounds before now board left so_far none same =
    subst (Falls outcome before now) (sym same) (ended story outcome rounds before now board so_far (rests story rounds (left_on board) none))

pub falls_on_all : (story : Story) (outcome : Outcome) (rounds : ℕ) (before now : List Dropped) (board : Board)
    → FallsOn story outcome rounds before now board → rounds ≡ 0 → Falls outcome before now (left_on board)
falls_on_all story outcome rounds before now board so_far zero_left =
    ended story outcome rounds before now board so_far (ap (λ k. falls_by_messages story k (left_on board)) zero_left)

-- a fall, and then the others
pub falls_first : (left after_left last : List (List State)) (fall : Fall) (o : Option Fall) (go_on : List (List State) → Outcome)
    (before now then : List Dropped) → o ≡ Some fall → now ≡ before ++ drops_of fall left → after_left ≡ left_after fall left
    → Falls (go_on after_left) now then last → Falls (falls left o go_on) before then last
falls_first left after_left last fall o go_on before now then is first after others =
    let rest : go_on after_left ≡ go_on (left_after fall left) = ap go_on after in
    let whole : falls left o go_on ≡ after_drops (drops_of fall left) (go_on (left_after fall left)) = ap (λ k. falls left k go_on) is in
    record {
      drops = others.drops ∙ ap (λ ds. ds ++ (go_on after_left).drops) first
          ∙ append_assoc before (drops_of fall left) (go_on after_left).drops
          ∙ ap (λ (out : Outcome). before ++ (drops_of fall left ++ out.drops)) rest
          ∙ ap (λ (out : Outcome). before ++ out.drops) (sym whole);
      left_is = others.left_is ∙ ap (λ (out : Outcome). out.left) rest ∙ ap (λ (out : Outcome). out.left) (sym whole);
    }

-- no process fails
pub falls_nowhere : (left : List (List State)) (o : Option Fall) (go_on : List (List State) → Outcome) (drops : List Dropped) → o ≡ None
    → Falls (falls left o go_on) drops drops left
falls_nowhere left o go_on drops none =
    let whole : falls left o go_on ≡ record { drops = []; left = left } = ap (λ k. falls left k go_on) none in
    record {
      drops = sym (append-nil drops) ∙ ap (λ (out : Outcome). drops ++ out.drops) (sym whole);
      left_is = ap (λ (out : Outcome). out.left) (sym whole);
    }

abbrev process_or : ℕ → Option Fall → ℕ
process_or n None = n
process_or n (Some f) = f.process

-- the process that fails is known
pub failure_known : (p m at : ℕ) (lines : List Line) (fall : Fall) → AllByRecursion (NamesKnown p m) lines → failure_from at lines ≡ Some fall
    → fall.process < p
failure_known p m at [] fall known e = absurd (cc)
failure_known p m at (Fail q ∷ lines) fall known e =
    let same : q ≡ fall.process = ap (process_or q) e in
    subst (λ n. n < p) same known.0
failure_known p m at (Begin q ∷ lines) fall known e = failure_known p m (at + 1) lines fall known.1 e
failure_known p m at (Point q ∷ lines) fall known e = failure_known p m (at + 1) lines fall known.1 e
failure_known p m at (Send q ∷ lines) fall known e = failure_known p m (at + 1) lines fall known.1 e
failure_known p m at (Take q ∷ lines) fall known e = failure_known p m (at + 1) lines fall known.1 e
