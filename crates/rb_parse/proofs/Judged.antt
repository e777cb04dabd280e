-- What the machine's outcome says of a source. The machine reads the tokens that a cursor gives.
use Rattle.std.proofs.Common.{◌≡◌, ℕ, true, false, List, [], ◌∷◌, ◌++◌, refl, sym, ap, subst, ◌∙◌, arith}
use Rattle.std.proofs.Common.{append_assoc}
use Rattle.rb_base.specs.declared.place.Place.{Place}
use Rattle.rb_base.specs.declared.fault.SourceFault.{SourceFault}
use Rattle.rb_base.specs.declared.fault.FaultName.TheVariants.{Y1}
use Rattle.rb_lex.proofs.Lists.{has_list}
use Rattle.rb_lex.specs.Tokens.{Lexeme, Ending, AtEnd, AtFault, Tokens}
use Rattle.rb_lex.specs.TokenList.{tokens_of, ending_of}
use Rattle.rb_grammar.specs.Allowed.{too_deep, allowed_of, ending_allowed_of}
use Rattle.rb_grammar.specs.declared.stop.Stop.{Stop}
use Rattle.rb_grammar.specs.declared.stop.Stop.TheVariants as stops
use Rattle.rb_grammar.specs.Grammar.{Point, DerivesTree, start_of}
use Rattle.rb_grammar.specs.Laws.{GoesOn}
use Rattle.rb_grammar.specs.Machine.{Accepted, Refused, Reads, Stops, run, whole}
use Rattle.rb_grammar.specs.Parts.{Part}
use Rattle.rb_grammar.specs.Plans.{Done}
use Rattle.rb_grammar.specs.Reading.{Position, Exhausts, IsNotRead, IsPlaceOf, is_nothing}
use Rattle.rb_grammar.specs.Verdict.{RefusedFor, bad_token, stray_token, early_end, deep_bracket, HasTree}
use Rattle.rb_grammar.proofs.Accepting.Accepted.{accepted_derives}
use Rattle.rb_grammar.proofs.Depth.Counted.{Given, all_given, last_given, few_none, given, is_given}
use Rattle.rb_grammar.proofs.Stopping.GoesOn.{EndsIn, refused_left, first_bad_token, ends_too_early, exhausted_goes_on, nothing_goes_on}
use Rattle.rb_grammar.proofs.Reaching.{at_form, at_token}
use Rattle.rb_grammar.proofs.Accepting.Running.{run_done, run_too_long}
use Rattle.rb_syntax.specs.Tree.{Tree}

nothing_left : (left : List Lexeme) → is_nothing left ≡ true → left ≡ []
nothing_left [] e = refl
nothing_left (token ∷ others) e = absurd cc

something_left : (left : List Lexeme) → is_nothing left ≡ false → (token : Lexeme) × (others : List Lexeme) × (left ≡ token ∷ others)
something_left [] e = absurd cc
something_left (token ∷ others) e = (token, others, refl)

read_all : {v : Tree} {a b : Point} → Reads Part.Program v a b → is_nothing b.left ≡ true → run whole a ≡ Accepted v
read_all {v = v} {b = b} r e = r.leads (λ w. Done w) ∙ run_done v b (nothing_left b.left e)

read_part : {v : Tree} {a b : Point} → Reads Part.Program v a b → is_nothing b.left ≡ false → run whole a ≡ Refused b.left
read_part {v = v} {b = b} r e =
    let more = something_left b.left e in r.leads (λ w. Done w) ∙ run_too_long v b more.0 more.1 more.2

read_none : {a b : Point} → Stops Part.Program a b → run whole a ≡ Refused b.left
read_none s = s.leads (λ w. Done w)

-- the tokens of a source, with their ending
cut_by : (source : List ℕ) (ending : Ending) → ending_of source ≡ ending → Tokens source (tokens_of source) ending
cut_by source ending e = subst (λ x. Tokens source (tokens_of source) x) e (has_list source)

cut_into : (source : List ℕ) (tokens : List Lexeme) → tokens_of source ≡ tokens → Tokens source tokens (ending_of source)
cut_into source tokens e = subst (λ x. Tokens source x (ending_of source)) e (has_list source)

-- what begins a text that goes on goes on
pub begins_on : (before after : List Lexeme) → GoesOn (before ++ after) → GoesOn before
begins_on before after g =
    (after ++ g.0, g.1, subst (λ ts. DerivesTree g.1 ts) (append_assoc before after g.0) g.2)

abbrev pub Counted : List ℕ → Type 0
Counted source = Given 0 (tokens_of source) (ending_of source)

pub counted : (source : List ℕ) → Counted source
counted source = given 0 (tokens_of source) (ending_of source) (omega arith)

abbrev pub y1_at : Place → SourceFault
y1_at place = record { name = Y1; place = place }

same_name : (fault : SourceFault) → fault.name ≡ Y1 → fault ≡ y1_at fault.place
same_name fault e = ap (λ name. let f : SourceFault = record { name = name; place = fault.place } in f) e

-- a tree of all tokens
pub tree_by : (source : List ℕ) (tree : Tree) (at : Place) → DerivesTree tree (allowed_of source) →
    ending_allowed_of source ≡ AtEnd at → Counted source → HasTree source tree
tree_by source tree at d e (all_given few same ends) = record {
  tokens = tokens_of source;
  at = at;
  cut = cut_by source (AtEnd at) (sym ends ∙ e);
  derived = subst (λ ts. DerivesTree tree ts) same d;
  few_open = few;
}
tree_by source tree at d e (last_given before after token is same ends few many) =
    absurd (let never : AtFault (too_deep token) ≡ AtEnd at = sym ends ∙ e in cc)

-- a fault behind tokens that were all taken
pub fault_by : (source : List ℕ) (fault : SourceFault) → GoesOn (allowed_of source) → ending_allowed_of source ≡ AtFault fault →
    Counted source → RefusedFor source fault
fault_by source fault g e (all_given few same ends) =
    bad_token (record {
      tokens = tokens_of source;
      cut = cut_by source (AtFault fault) (sym ends ∙ e);
      begun = record { goes_on = subst GoesOn same g; few_open = few };
    })
fault_by source fault g e (last_given before after token is same ends few many) =
    let on = subst GoesOn same g in
    let met : AtFault (too_deep token) ≡ AtFault fault = sym ends ∙ e in
    deep_bracket (record {
      before = before;
      after = after;
      token = token;
      ending = ending_of source;
      cut = cut_into source (before ++ (token ∷ after)) is;
      begun = record { goes_on = begins_on before (token ∷ []) on; few_open = few };
      goes_on = on;
      deep = many;
      is = let same_fault : fault ≡ too_deep token = cc in same_fault;
    })

-- a text that ends before its tree does
pub early_by : (source : List ℕ) (fault : SourceFault) (at : Place) → run whole (start_of (allowed_of source)) ≡ Refused [] →
    ending_allowed_of source ≡ AtEnd at → fault ≡ record { name = Y1; place = at } → Counted source → RefusedFor source fault
early_by source fault at r e is (all_given few same ends) =
    let early = ends_too_early (tokens_of source) (subst (λ ts. run whole (start_of ts) ≡ Refused []) same r) in
    early_end (record {
      tokens = tokens_of source;
      at = at;
      cut = cut_by source (AtEnd at) (sym ends ∙ e);
      begun = record { goes_on = early.0; few_open = few };
      no_tree = early.1;
      is = is;
    })
early_by source fault at r e is (last_given before after token tokens_are same ends few many) =
    absurd (let never : AtFault (too_deep token) ≡ AtEnd at = sym ends ∙ e in cc)

-- a token that no row takes
pub stray_by : (source : List ℕ) (fault : SourceFault) (before after : List Lexeme) (token : Lexeme) →
    allowed_of source ≡ before ++ (token ∷ after) → run whole (start_of (allowed_of source)) ≡ Refused (token ∷ after) →
    fault ≡ record { name = Y1; place = token.place } → RefusedFor source fault
stray_by source fault before after token e r is =
    let bad = first_bad_token before after token (subst (λ ts. run whole (start_of ts) ≡ Refused (token ∷ after)) e r) in
    let all = is_given 0 (tokens_of source) before token after (omega arith) e in
    stray_token (record {
      before = before;
      after = all.1;
      token = token;
      ending = ending_of source;
      cut = cut_into source (before ++ (token ∷ all.1)) all.2;
      begun = record { goes_on = bad.0; few_open = all.0 };
      stray = bad.1;
      is = is;
    })

stray_from : (source : List ℕ) (fault : SourceFault) (left : List Lexeme) → EndsIn (allowed_of source) left →
    run whole (start_of (allowed_of source)) ≡ Refused left → IsPlaceOf left (ending_allowed_of source) fault.place →
    fault.name ≡ Y1 → RefusedFor source fault
stray_from source fault [] ends r at named =
    early_by source fault fault.place r at (same_name fault named) (counted source)
stray_from source fault (token ∷ after) ends r at named =
    stray_by source fault ends.0 after token ends.1 r (same_name fault named ∙ ap (λ place. y1_at place) at)

-- where a cursor stands before the first token
abbrev beginning : List ℕ → Position
beginning source = record { point = start_of (allowed_of source); ending = ending_allowed_of source }

pub tree_told : (source : List ℕ) (tree : Tree) (at now : Position) → at ≡ beginning source → now.ending ≡ at.ending →
    Reads Part.Program tree at.point now.point → is_nothing now.point.left ≡ true → (end : Place) × (now.ending ≡ AtEnd end) →
    HasTree source tree
tree_told source tree at now begun same r none ended =
    let all = read_all (subst (λ p. Reads Part.Program tree p.point now.point) begun r) none in
    tree_by source tree ended.0 (accepted_derives (allowed_of source) tree all) (sym (same ∙ ap (λ p. p.ending) begun) ∙ ended.1) (counted source)

stray_told : (source : List ℕ) (fault : SourceFault) (at now : Position) → at ≡ beginning source → now.ending ≡ at.ending →
    run whole at.point ≡ Refused now.point.left → IsPlaceOf now.point.left now.ending fault.place → fault.name ≡ Y1 →
    RefusedFor source fault
stray_told source fault at now begun same r here named =
    let stops : run whole (start_of (allowed_of source)) ≡ Refused now.point.left =
    subst (λ p. run whole p.point ≡ Refused now.point.left) begun r in
    stray_from source fault now.point.left (refused_left (allowed_of source) 0 0 whole now.point.left stops) stops
    (subst (λ e. IsPlaceOf now.point.left e fault.place) (same ∙ ap (λ p. p.ending) begun) here) named

-- a token behind a whole program
pub more_told : (source : List ℕ) (fault : SourceFault) (tree : Tree) (at now : Position) → at ≡ beginning source →
    now.ending ≡ at.ending → Reads Part.Program tree at.point now.point → is_nothing now.point.left ≡ false →
    IsPlaceOf now.point.left now.ending fault.place → fault.name ≡ Y1 → RefusedFor source fault
more_told source fault tree at now begun same r some here named =
    stray_told source fault at now begun same (read_part r some) here named

-- a form that is not there
pub form_told : (source : List ℕ) (fault : SourceFault) (stop : Stop) (at now : Position) → at ≡ beginning source →
    now.ending ≡ at.ending → IsNotRead Part.Program at now stop → stop ≡ stops.Form →
    IsPlaceOf now.point.left now.ending fault.place → fault.name ≡ Y1 → RefusedFor source fault
form_told source fault stop at now begun same h e here named =
    stray_told source fault at now begun same (read_none (at_form h e)) here named

-- a fault behind tokens that were all taken
pub fault_told : (source : List ℕ) (fault : SourceFault) (stop : Stop) (at now : Position) → at ≡ beginning source →
    IsNotRead Part.Program at now stop → stop ≡ stops.Token fault → RefusedFor source fault
fault_told source fault stop at now begun h e =
    let told = at_token fault h e in
    fault_by source fault (exhausted_goes_on (allowed_of source) (subst (λ p. Exhausts Part.Program p.point) begun told.1))
    (ap (λ p. p.ending) (sym begun) ∙ told.0) (counted source)

-- a fault before any token
pub first_told : (source : List ℕ) (fault : SourceFault) → tokens_of source ≡ [] → ending_of source ≡ AtFault fault → RefusedFor source fault
first_told source fault none e =
    bad_token (record {
      tokens = [];
      cut = subst (λ ts. Tokens source ts (AtFault fault)) none (cut_by source (AtFault fault) e);
      begun = record { goes_on = nothing_goes_on; few_open = few_none 0 (omega arith) };
    })
