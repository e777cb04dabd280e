-- Each text has one verdict.
use Rattle.std.proofs.Common.{◌≡◌, ℕ, List, [], ◌∷◌, ◌++◌, ◌⊎◌, inl, inr, refl, sym, ap, subst, ◌∙◌}
use Rattle.std.proofs.Common.{append_assoc}
use Rattle.std.proofs.lemmas.List.{append-nil}
use Rattle.rb_base.specs.declared.fault.SourceFault.{SourceFault}
use Rattle.rb_base.specs.declared.place.Place.{Place}
use Rattle.rb_lex.proofs.Lists.{one_list}
use Rattle.rb_lex.specs.Tokens.{Lexeme, Ending, AtEnd, AtFault, Tokens}
use Rattle.rb_grammar.specs.Allowed.{too_deep, allowed_of, ending_allowed_of}
use Rattle.rb_grammar.specs.Grammar.{DerivesTree, start_of}
use Rattle.rb_grammar.specs.Laws.{GoesOn}
use Rattle.rb_grammar.specs.Machine.{Outcome, Accepted, Refused, run, whole}
use Rattle.rb_grammar.specs.Verdict.{MayBegin, HasTree, RefusedFor, bad_token, stray_token, early_end, deep_bracket}
use Rattle.rb_grammar.specs.VerdictLaws.{HasVerdict, HasOneVerdict}
use Rattle.rb_grammar.proofs.Accepting.Accepted.{accepted_derives}
use Rattle.rb_grammar.proofs.Accepting.Complete.{one_tree}
use Rattle.rb_grammar.proofs.Depth.Counted.{few_before}
use Rattle.rb_grammar.proofs.Stopping.GoesOn.{EndsIn, refused_left, ends_too_early}
use Rattle.rb_parse.proofs.Judged.{begins_on, counted, y1_at, tree_by, fault_by, early_by, stray_by}
use Rattle.rb_parse.proofs.Splits.{Compared, same, shorter, longer, compared}
use Rattle.rb_syntax.specs.Tree.{Tree}

-- a list of tokens that derives a tree goes on
derived_goes_on : (tokens : List Lexeme) (tree : Tree) → DerivesTree tree tokens → GoesOn tokens
derived_goes_on tokens tree d = ([], tree, subst (λ ts. DerivesTree tree ts) (sym (append-nil tokens)) d)

-- what the machine makes of the tokens that a cursor gives, and how these end, gives the verdict
verdict_of : (source : List ℕ) (outcome : Outcome) (ending : Ending) → run whole (start_of (allowed_of source)) ≡ outcome →
    ending_allowed_of source ≡ ending → ((tree : Tree) × HasTree source tree) ⊎ ((fault : SourceFault) × RefusedFor source fault)
verdict_of source (Accepted tree) (AtEnd at) r e =
    inl (tree, tree_by source tree at (accepted_derives (allowed_of source) tree r) e (counted source))
verdict_of source (Accepted tree) (AtFault fault) r e =
    inr (fault, fault_by source fault (derived_goes_on (allowed_of source) tree (accepted_derives (allowed_of source) tree r)) e (counted source))
verdict_of source (Refused []) (AtEnd at) r e =
    inr (y1_at at, early_by source (y1_at at) at r e refl (counted source))
verdict_of source (Refused []) (AtFault fault) r e =
    inr (fault, fault_by source fault (ends_too_early (allowed_of source) r).0 e (counted source))
verdict_of source (Refused (token ∷ after)) ending r e =
    let ends : EndsIn (allowed_of source) (token ∷ after) = refused_left (allowed_of source) 0 0 whole (token ∷ after) r in
    inr (y1_at token.place, stray_by source (y1_at token.place) ends.0 after token ends.1 r refl)

pub has_verdict : HasVerdict
has_verdict bytes = verdict_of bytes (run whole (start_of (allowed_of bytes))) (ending_allowed_of bytes) refl refl

-- what begins tokens that may be read in order may be read too
may_begin : (before after : List Lexeme) → MayBegin (before ++ after) → MayBegin before
may_begin before after m = record {
  goes_on = begins_on before after m.goes_on;
  few_open = few_before 0 before after m.few_open;
}

-- up to a token all may be read in order, and not with it
record Break (before : List Lexeme) (token : Lexeme) : Type 0 where
  begun : MayBegin before
  broken : MayBegin (before ++ token ∷ []) → ⊥

no_break : (before after : List Lexeme) (token : Lexeme) → MayBegin (before ++ token ∷ after) → Break before token → ⊥
no_break before after token m k =
    k.broken (may_begin (before ++ token ∷ []) after (subst MayBegin (sym (append_assoc before (token ∷ []) after)) m))

-- one list has one such token
one_break : {b c : List Lexeme} {x y : Lexeme} → Compared b c x y → Break b x → Break c y → (b ≡ c) × (x ≡ y)
one_break (same l h) j k = (l, h)
one_break {b} {x = x} (shorter more l) j k = absurd (j.broken (may_begin (b ++ x ∷ []) more (subst MayBegin l k.begun)))
one_break {c = c} {y = y} (longer more l) j k = absurd (k.broken (may_begin (c ++ y ∷ []) more (subst MayBegin l j.begun)))

-- the fault of a break, by whether the text goes on with its token
abbrev Faulty : List Lexeme → Lexeme → SourceFault → Type 0
Faulty before token fault =
    ((GoesOn (before ++ token ∷ []) → ⊥) × (fault ≡ y1_at token.place)) ⊎ (GoesOn (before ++ token ∷ []) × (fault ≡ too_deep token))

one_faulty : (before : List Lexeme) (token : Lexeme) (f g : SourceFault) → Faulty before token f → Faulty before token g → f ≡ g
one_faulty before token f g (inl a) (inl b) = a.1 ∙ sym b.1
one_faulty before token f g (inl a) (inr b) = absurd (a.0 b.0)
one_faulty before token f g (inr a) (inl b) = absurd (b.0 a.0)
one_faulty before token f g (inr a) (inr b) = a.1 ∙ sym b.1

-- the fault of an ending
abbrev fault_of : Ending → SourceFault
fault_of (AtEnd at) = y1_at at
fault_of (AtFault fault) = fault

-- why a text is refused: for how its tokens end, or for one of them
data Why (bytes : List ℕ) (fault : SourceFault) : Type 0 where
  by_ending : (tokens : List Lexeme) (ending : Ending) → Tokens bytes tokens ending → MayBegin tokens →
      ((at : Place) (tree : Tree) → ending ≡ AtEnd at → DerivesTree tree tokens → ⊥) → fault ≡ fault_of ending → Why bytes fault
  by_break : (before after : List Lexeme) (token : Lexeme) (ending : Ending) → Tokens bytes (before ++ token ∷ after) ending →
      Break before token → Faulty before token fault → Why bytes fault

why : (bytes : List ℕ) (fault : SourceFault) → RefusedFor bytes fault → Why bytes fault
why bytes fault (bad_token b) =
    by_ending b.tokens (AtFault fault) b.cut b.begun (λ at tree e d. let never : AtFault fault ≡ AtEnd at = e in cc) refl
why bytes fault (stray_token s) =
    by_break s.before s.after s.token s.ending s.cut (record { begun = s.begun; broken = λ m. s.stray m.goes_on }) (inl (s.stray, s.is))
why bytes fault (early_end e) =
    by_ending e.tokens (AtEnd e.at) e.cut e.begun (λ at tree same d. e.no_tree tree d) e.is
why bytes fault (deep_bracket d) =
    by_break d.before d.after d.token d.ending d.cut (record { begun = d.begun; broken = λ m. d.deep m.few_open }) (inr (d.goes_on, d.is))

one_fault : (bytes : List ℕ) (f g : SourceFault) → Why bytes f → Why bytes g → f ≡ g
one_fault bytes f g (by_ending ts e cut m none is) (by_ending us d other n never h) =
    is ∙ ap fault_of (one_list bytes ts us e d cut other).1 ∙ sym h
one_fault bytes f g (by_ending ts e cut m none is) (by_break b a x d other k h) =
    absurd (no_break b a x (subst MayBegin (one_list bytes ts (b ++ x ∷ a) e d cut other).0 m) k)
one_fault bytes f g (by_break b a x e cut k h) (by_ending us d other n never is) =
    absurd (no_break b a x (subst MayBegin (one_list bytes us (b ++ x ∷ a) d e other cut).0 n) k)
one_fault bytes f g (by_break b a x e cut k h) (by_break c z y d other l i) =
    let one = one_break (compared b c x y a z (one_list bytes (b ++ x ∷ a) (c ++ y ∷ z) e d cut other).0) k l in
    one_faulty c y f g (subst (λ t. Faulty c t f) one.1 (subst (λ ts. Faulty ts x f) one.0 h)) i

-- a text with a tree is not refused
not_refused : (bytes : List ℕ) (tree : Tree) (fault : SourceFault) → HasTree bytes tree → Why bytes fault → ⊥
not_refused bytes tree fault t (by_ending ts e cut m none is) =
    let one = one_list bytes ts t.tokens e (AtEnd t.at) cut t.cut in
    none t.at tree one.1 (subst (λ us. DerivesTree tree us) (sym one.0) t.derived)
not_refused bytes tree fault t (by_break b a x e cut k h) =
    let one = one_list bytes t.tokens (b ++ x ∷ a) (AtEnd t.at) e t.cut cut in
    let m : MayBegin t.tokens = record { goes_on = derived_goes_on t.tokens tree t.derived; few_open = t.few_open } in
    no_break b a x (subst MayBegin one.0 m) k

one_tree_told : (bytes : List ℕ) (t u : Tree) → HasTree bytes t → HasTree bytes u → t ≡ u
one_tree_told bytes t u h i =
    let one = one_list bytes h.tokens i.tokens (AtEnd h.at) (AtEnd i.at) h.cut i.cut in
    one_tree i.tokens t u (subst (λ ts. DerivesTree t ts) one.0 h.derived) i.derived

pub has_one_verdict : HasOneVerdict
has_one_verdict bytes = (
  one_tree_told bytes,
  λ f g h i. one_fault bytes f g (why bytes f h) (why bytes g i),
  λ tree fault h i.
      not_refused bytes tree fault h (why bytes fault i),
)
