-- The texts of the names that are declared there.
use Rattle.std.proofs.Common.{◌≡◌, ◌∙◌, [], Bor, List, ℕ, map, ap, subst}
use Rattle.std.specs.Result.{IfOk}
use Rattle.rb_lex.specs.Reader.{lexeme_of}
use Rattle.rb_lex.specs.Tokens.{Lexeme}
use Rattle.rb_lex.specs.declared.token.Token.{Token}
use Rattle.rb_near.specs.Nearest.{nearest}
use Rattle.rb_why.specs.Meant.{meant_or}
use Rattle.rb_why.specs.Named.{names_at}
use Rattle.rb_why.proofs.named.name_told.Goals as goal

pub returns : goal.returns
returns c =
    let texts : List (Bor (List ℕ)) → List (List ℕ) = λ list. map (λ (text : Bor (List ℕ)). text.now) list in
    let texts_of : List Lexeme → List (List ℕ) = λ list. map (λ (token : Lexeme). token.text) list in
    let e : texts c.as_slice-2.result.now ≡ texts_of (names_at c.args.source.now (map lexeme_of c.args.before.now)) =
    ap texts c.as_slice-2.ensures.value ∙ c.in_ok-texts.ensures ∙ ap (λ (list : List Token). texts_of (map lexeme_of list)) c.as_slice.ensures.value
    ∙ ap texts_of c.in_ok-names.ensures in
    subst (λ (names : List (List ℕ)). IfOk c.nearest_told.result (λ told. told.items ≡ meant_or (nearest c.args.here.now names) [])) e
    c.nearest_told.ensures
