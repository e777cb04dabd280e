-- The token ahead of a cursor, and the tokens that its lexer has left.
use Rattle.std.proofs.Common.{◌≡◌, ℕ, zero, suc, nat_lt, ◌+◌, ◌<◌, ◌≤◌, Bool, true, false, cond, List, [], ◌∷◌, length, Option, Some, None, Ok, refl, ap, sym, ◌∙◌, arith, Err}
use Rattle.std.proofs.lemmas.Bool.{lt-ltb, le-ltb}
use denote.Enum.Bare.{same_true}
use Rattle.rb_base.specs.declared.edition.Edition.{Edition}
use Rattle.rb_base.specs.declared.limits.TheConstants.{MOST_OPEN_BRACKETS}
use Rattle.rb_base.specs.declared.place.Place.{Place}
use Rattle.rb_base.specs.declared.fault.SourceFault.{SourceFault}
use Rattle.rb_lex.specs.declared.token.Token.{Token}
use Rattle.rb_lex.specs.Reader.{Reader, lexeme_of, Answers}
use Rattle.rb_lex.specs.Tokens.{Lexeme, Next, End, Found, Refused, AtEnd, AtFault, next_from, edition_of}
use Rattle.rb_lex.specs.Bytes.{first_place}
use Rattle.rb_lex.specs.TokenList.{token_and, tokens_within, tokens_left, ending_left, ending_from}
use Rattle.rb_lex.proofs.Answered.{answers_first, answers_end, answers_fault}
use Rattle.rb_grammar.specs.contracts.terminal.Terminal.{the_type}
use Rattle.rb_grammar.specs.declared.stop.Stop.TheVariants as stops
use Rattle.rb_grammar.specs.declared.terminal.Terminal.{Terminal}
use Rattle.rb_grammar.specs.declared.terminal.Terminal.TheVariants as terminals
use Rattle.rb_grammar.specs.Allowed.{is_too_deep, too_deep, allowed, ending_allowed, allowed_of, ending_allowed_of}
use Rattle.rb_grammar.specs.Brackets.{open_after}
use Rattle.rb_grammar.specs.Grammar.{Point, start_of}
use Rattle.rb_grammar.specs.Machine.{fits, look, names_after, blocks_after, Advances}
use Rattle.rb_grammar.specs.Terminals.{terminal_of}
use Rattle.rb_grammar.specs.Reading.{Position, position_before, position_of, tokens_ahead, terminal_ahead, by_form, by_token, IsNotTaken, IsSound}

pub fits-true : (first : Option Terminal) (terminal : Terminal) → fits first terminal ≡ true → first ≡ Some terminal
fits-true None terminal e = absurd cc
fits-true (Some first) terminal e = ap Some (same_true the_type tt first terminal e)

looks_ahead : (ahead : Option Token) (others : List Lexeme) (n : ℕ) → terminal_ahead ahead ≡ look (allowed n (tokens_ahead ahead others))
looks_ahead None others n = refl
looks_ahead (Some token) others n = refl

-- the token that comes next and those after it are those that were left
pub next_tokens : (old new : Reader) (ahead : Option Token) → Answers old (Ok ahead) new → tokens_ahead ahead (tokens_left new) ≡ tokens_left old
next_tokens old new None a = sym (answers_end old new a).0
next_tokens old new (Some token) a = sym (answers_first old new token a).0

ended_at : (edition : Edition) (at : Place) (left : List ℕ) → left ≡ [] → ending_from edition at left ≡ AtEnd at
ended_at edition at left e = ap (λ bytes. ending_from edition at bytes) e

pub next_ending : (old new : Reader) (ahead : Option Token) → Answers old (Ok ahead) new → ending_left new ≡ ending_left old
next_ending old new None a = ended_at new.edition new.place new.left a.1 ∙ sym (answers_end old new a).1
next_ending old new (Some token) a = sym (answers_first old new token a).1

few_and : (next : Next) (n : ℕ) (rest : Place → List ℕ → List Lexeme) →
    ((at : Place) (left : List ℕ) → length (rest at left) ≤ n) → length (token_and next rest) ≤ suc n
few_and (End at) n rest h = omega arith
few_and (Found token at left) n rest h = omega (arith, h at left)
few_and (Refused fault) n rest h = omega arith

few_within : (n : ℕ) (edition : Edition) (at : Place) (bytes : List ℕ) → length (tokens_within n edition at bytes) ≤ n
few_within zero edition at bytes = omega arith
few_within (suc n) edition at bytes =
    few_and (next_from edition false at bytes) n (λ at left. tokens_within n edition at left) (λ at left. few_within n edition at left)

-- there are no more tokens than bytes
few_tokens : (reader : Reader) → length (tokens_left reader) ≤ length reader.left
few_tokens reader = few_within (length reader.left) reader.edition reader.place reader.left

names_after-le : (first : Option Terminal) (names : ℕ) → names_after first names ≤ names + 1
names_after-le (Some terminals.Name) names = omega arith
names_after-le _ names = omega arith

blocks_after-le : (first : Option Terminal) (blocks : ℕ) → blocks_after first blocks ≤ blocks + 1
blocks_after-le (Some terminals.Ensure) blocks = omega arith
blocks_after-le _ blocks = omega arith

-- where a reader answered that nothing comes next, it stands at the end
pub next_end : (old new : Reader) (ahead : Option Token) → Answers old (Ok ahead) new → ahead ≡ None → ending_left new ≡ AtEnd new.place
next_end old new None a e = ended_at new.edition new.place new.left a.1
next_end old new (Some token) a e = absurd cc

if_any-le : (none : Bool) (rest : List Lexeme) (n : ℕ) → length rest ≤ n → length (cond none [] rest) ≤ n
if_any-le true rest n h = omega arith
if_any-le false rest n h = h

-- no more are given than there are
allowed-le : (n : ℕ) (tokens : List Lexeme) → length (allowed n tokens) ≤ length tokens
allowed-le n [] = omega arith
allowed-le n (token ∷ tokens) =
    let m = open_after (terminal_of token) n in
    omega (arith, if_any-le (is_too_deep n token) (allowed m tokens) (length tokens) (allowed-le m tokens))

-- a cursor before the first token stands there
pub begins : (source : List ℕ) (lexer after : Reader) (ahead : Option Token) →
    lexer ≡ record { edition = edition_of source; place = first_place; left = source } → Answers lexer (Ok ahead) after →
    position_of ahead after 0 0 0 ≡ record { point = start_of (allowed_of source); ending = ending_allowed_of source }
begins source lexer after ahead e a =
    ap (λ left. position_before left (ending_left after) 0 0 0) (next_tokens lexer after ahead a)
    ∙ ap (λ ending. position_before (tokens_left lexer) ending 0 0 0) (next_ending lexer after ahead a)
    ∙ ap (λ r. position_before (tokens_left r) (ending_left r) 0 0 0) e

pub begins_sound : (old new : Reader) (ahead : Option Token) → Answers old (Ok ahead) new → length old.left ≤ 1048576 →
    (terminal : Option Terminal) → terminal ≡ terminal_ahead ahead → IsSound terminal ahead new 0 (position_of ahead new 0 0 0)
begins_sound old new ahead a few terminal e =
    let tokens = tokens_ahead ahead (tokens_left new) in
    let shorter : length (allowed 0 tokens) ≤ 1048576 =
    omega (arith, ap length (next_tokens old new ahead a), few_tokens old, allowed-le 0 tokens) in
    record {
      looks = e ∙ looks_ahead ahead (tokens_left new) 0;
      ended = next_end old new ahead a;
      brackets_fit = omega arith;
      names_fit = omega arith;
      blocks_fit = omega arith;
    }

-- what stands first is another
pub misses : (terminal : Terminal) (first : Option Terminal) (held : Option Token) (lexer : Reader) (names blocks brackets : ℕ)
    (old : Position) → position_of held lexer names blocks brackets ≡ old →
    IsSound first held lexer brackets (position_of held lexer names blocks brackets) → fits first terminal ≡ false →
    IsNotTaken terminal old old stops.Form
misses terminal first held lexer names blocks brackets old at sound e =
    by_form (record {
      other = ap (λ x. fits (look x.point.left) terminal) (sym at) ∙ ap (λ x. fits x terminal) (sym sound.looks) ∙ e;
      stays = refl;
    })

none_fits : (terminal : Terminal) (first : Option Terminal) (held : Option Token) (lexer : Reader) (names blocks brackets : ℕ) →
    IsSound first held lexer brackets (position_of held lexer names blocks brackets) → held ≡ None → fits first terminal ≡ false
none_fits terminal first held lexer names blocks brackets sound e =
    ap (λ x. fits x terminal) (sound.looks ∙ ap (λ x. look (allowed brackets (tokens_ahead x (tokens_left lexer)))) e)

-- nothing stands first
pub misses_all : (terminal : Terminal) (first : Option Terminal) (held : Option Token) (lexer : Reader)
    (names blocks brackets : ℕ) (old : Position) → position_of held lexer names blocks brackets ≡ old →
    IsSound first held lexer brackets (position_of held lexer names blocks brackets) → held ≡ None →
    IsNotTaken terminal old old stops.Form
misses_all terminal first held lexer names blocks brackets old at sound e =
    misses terminal first held lexer names blocks brackets old at sound (none_fits terminal first held lexer names blocks brackets sound e)

-- a token that fits stands first
module _ (token : Token) (held : Option Token) (terminal : Terminal) (first : Option Terminal) (lexer : Reader)
    (names blocks brackets : ℕ) (old : Position) (at : position_of held lexer names blocks brackets ≡ old)
    (sound : IsSound first held lexer brackets (position_of held lexer names blocks brackets)) (holds : held ≡ Some token)
    (fit : fits first terminal ≡ true) where
  is : terminal_of (lexeme_of token) ≡ Some terminal
  is =
      ap (λ x. look (allowed brackets (tokens_ahead x (tokens_left lexer)))) (sym holds) ∙ sym sound.looks ∙ fits-true first terminal fit

  -- the tokens left, and their ending, by whether too many brackets are open with it
  left_by : (deep : Bool) → is_too_deep brackets (lexeme_of token) ≡ deep →
      old.point.left ≡ lexeme_of token ∷ cond deep [] (allowed (open_after (Some terminal) brackets) (tokens_left lexer))
  left_by deep e =
      ap (λ x. x.point.left) (sym at)
      ∙ ap (λ x. allowed brackets (tokens_ahead x (tokens_left lexer))) holds
      ∙ ap (λ x. lexeme_of token ∷ cond x [] (allowed (open_after (terminal_of (lexeme_of token)) brackets) (tokens_left lexer))) e
      ∙ ap (λ x. lexeme_of token ∷ cond deep [] (allowed (open_after x brackets) (tokens_left lexer))) is

  ending_by : (deep : Bool) → is_too_deep brackets (lexeme_of token) ≡ deep →
      old.ending ≡ cond deep (AtFault (too_deep (lexeme_of token)))
      (ending_allowed (open_after (Some terminal) brackets) (tokens_left lexer) (ending_left lexer))
  ending_by deep e =
      ap (λ x. x.ending) (sym at)
      ∙ ap (λ x. ending_allowed brackets (tokens_ahead x (tokens_left lexer)) (ending_left lexer)) holds
      ∙ ap (λ x. cond x (AtFault (too_deep (lexeme_of token)))
      (ending_allowed (open_after (terminal_of (lexeme_of token)) brackets) (tokens_left lexer) (ending_left lexer))) e
      ∙ ap (λ x. cond deep (AtFault (too_deep (lexeme_of token))) (ending_allowed (open_after x brackets) (tokens_left lexer) (ending_left lexer))) is

  -- it is the last one, and this fault follows
  stops_behind : (fault : SourceFault) (new : Position) → old.point.left ≡ lexeme_of token ∷ [] → old.ending ≡ AtFault fault →
      IsNotTaken terminal old new (stops.Token fault)
  stops_behind fault new last ends =
      let later : Point = record {
        left = [];
        names = names_after (Some terminal) old.point.names;
        blocks = blocks_after (Some terminal) old.point.blocks;
      } in
      by_token fault ends (record {
        token = lexeme_of token;
        after = later;
        takes = record { stands = last; is = is; names = refl; blocks = refl };
        ended = refl;
      })

  -- too many brackets are open with it
  pub stops_deep : (new : Position) (later_brackets : ℕ) → later_brackets ≡ open_after (Some terminal) brackets →
      MOST_OPEN_BRACKETS < later_brackets → IsNotTaken terminal old new (stops.Token (too_deep (lexeme_of token)))
  stops_deep new later_brackets b deep =
      let e : is_too_deep brackets (lexeme_of token) ≡ true =
      ap (λ x. nat_lt MOST_OPEN_BRACKETS (open_after x brackets)) is ∙ ap (λ x. nat_lt MOST_OPEN_BRACKETS x) (sym b) ∙ lt-ltb
      MOST_OPEN_BRACKETS later_brackets deep in
      stops_behind (too_deep (lexeme_of token)) new (left_by true e) (ending_by true e)

  module _ (later_brackets : ℕ) (b : later_brackets ≡ open_after (Some terminal) brackets) (few : later_brackets ≤ MOST_OPEN_BRACKETS) where
    shallow : is_too_deep brackets (lexeme_of token) ≡ false
    shallow = ap (λ x. nat_lt MOST_OPEN_BRACKETS (open_after x brackets)) is ∙ ap (λ x. nat_lt MOST_OPEN_BRACKETS x) (sym b) ∙
        le-ltb MOST_OPEN_BRACKETS later_brackets few

    -- a fault follows
    pub stops_faulty : (fault : SourceFault) (after : Reader) (new : Position) → Answers lexer (Err fault) after →
        IsNotTaken terminal old new (stops.Token fault)
    stops_faulty fault after new answers =
        let faulty = answers_fault lexer after fault answers in
        stops_behind fault new (left_by false shallow ∙ ap (λ left. lexeme_of token ∷ allowed
        (open_after (Some terminal) brackets) left) faulty.0)
        (ending_by false shallow ∙ ap (λ left. ending_allowed (open_after (Some terminal) brackets) left (ending_left lexer))
        faulty.0 ∙ faulty.1)

    module _ (ahead : Option Token) (after : Reader) (answers : Answers lexer (Ok ahead) after) where
      next_left : old.point.left ≡ lexeme_of token ∷ allowed later_brackets (tokens_ahead ahead (tokens_left after))
      next_left =
          left_by false shallow
          ∙ ap (λ n. lexeme_of token ∷ allowed n (tokens_left lexer)) (sym b)
          ∙ ap (λ left. lexeme_of token ∷ allowed later_brackets left) (sym (next_tokens lexer after ahead answers))

      -- it was taken
      pub advances : (later_names later_blocks : ℕ) → later_names ≡ names_after (Some terminal) names →
          later_blocks ≡ blocks_after (Some terminal) blocks →
          Advances terminal (lexeme_of token) old.point (position_of ahead after later_names later_blocks later_brackets).point
      advances later_names later_blocks n m = record {
        stands = next_left;
        is = is;
        names = n ∙ ap (λ x. names_after (Some terminal) x.point.names) at;
        blocks = m ∙ ap (λ x. blocks_after (Some terminal) x.point.blocks) at;
      }

      -- the tokens still end as they did
      pub same_ending : (position_of ahead after names blocks later_brackets).ending ≡ old.ending
      same_ending =
          ap (λ left. ending_allowed later_brackets left (ending_left after)) (next_tokens lexer after ahead answers)
          ∙ ap (λ ending. ending_allowed later_brackets (tokens_left lexer) ending) (next_ending lexer after ahead answers)
          ∙ ap (λ n. ending_allowed n (tokens_left lexer) (ending_left lexer)) b
          ∙ sym (ending_by false shallow)

      -- one token less is left
      pub shorter : length (allowed later_brackets (tokens_ahead ahead (tokens_left after))) < length old.point.left
      shorter = omega (arith, ap length next_left)

      -- and the cursor stands after it
      pub advances_sound : (later : Option Terminal) (later_names later_blocks : ℕ) → later ≡ terminal_ahead ahead →
          later_names ≡ names_after (Some terminal) names → later_blocks ≡ blocks_after (Some terminal) blocks →
          IsSound later ahead after later_brackets (position_of ahead after later_names later_blocks later_brackets)
      advances_sound later later_names later_blocks e n m =
          let fewer = ap length (ap (λ x. x.point.left) at ∙ next_left) in
          record {
            looks = e ∙ looks_ahead ahead (tokens_left after) later_brackets;
            ended = next_end lexer after ahead answers;
            brackets_fit = few;
            names_fit = omega (arith, sound.names_fit, names_after-le (Some terminal) names, fewer);
            blocks_fit = omega (arith, sound.blocks_fit, blocks_after-le (Some terminal) blocks, fewer);
          }
