-- What `clap` makes of plain words: it takes those that give a command of `rblview`.
use Rattle.std.proofs.Common.{◌≡◌, ◌∙◌, Bool, true, false, List, [], ◌∷◌, codes, Option, Some, None}
use Rattle.std.proofs.Common.{option_map, inl, inr, refl, sym, ap, subst, true≢false}
use Rattle.std.specs.Str.{bytes_eq}
use Rattle.std.specs.List.{list_all}
use Rattle.std.proofs.lemmas.Bool.{not-false, and_parts, and_cases, cond-true, cond_both, eqb-true}
use Rattle.clap.specs.Walk.{rows_of, Row, Text, first_of, idle, subcommand_met}
use Rattle.clap.specs.Simple.{App, is_simple, subcommand_of}
use Rattle.clap.specs.Values.{kind_of}
use Rattle.clap.specs.Kinds.{HasKind}
use Rattle.clap.specs.Matches.{first_value}
use Rattle.clap.specs.declared.error.Error.{Error}
use Rattle.clap.specs.declared.parser.matches.Found.{Found}
use Rattle.clap.specs.Faults.{fault_of, is_simple_and_free}
use Rattle.clap.specs.declared.error.kind.ErrorKind.TheVariants.{InvalidSubcommand, MissingSubcommand, OutOfMemory, UnknownArgument}
use Rattle.clap.proofs.OnLiterals.{clap_on_literals}
use Rattle.rb_words.specs.Plain.{is_plain_word}
use Rattle.rb_words.proofs.Leaves.{leaf, leaf_and_last, leaf_perhaps}
use Rattle.rb_asking.proofs.Naming.{fault-name, names, other_word, subcommand-name}
use Rattle.rb_words.proofs.Agreeing.{Agrees as AgreesFor, last_agrees, of_named, one_agrees, perhaps_agrees, refused, three_agrees, two_agrees}
use Rattle.rb_words.proofs.Agreeing as agreeing
use Rattle.rb_asking.specs.Views.{View, Explains, Lists, Pages, Traces, commanded_by, explored_by, forms}
use Rattle.rb_asking.specs.Forms.{named_in}
use Rattle.rb_asking.specs.ViewLine.{commands, program, view_given}

abbrev rblview : Text
rblview = codes "rblview"

-- the program is one of which `clap` says all
pub is_told : is_simple_and_free program ≡ true
unfolding clap_on_literals
is_told = refl

pub is_told_simple : is_simple program ≡ true
unfolding clap_on_literals
is_told_simple = refl

-- no word, and a word that names no command
no_words : fault_of program [] ≡ MissingSubcommand ∷ []
unfolding clap_on_literals
no_words = refl

-- `clap` takes words that give a command, with that command's values, and no others
abbrev Agrees : List Text → Type 0
Agrees = AgreesFor program view_given commanded_by

-- plain words after a name ask for what the command of this name says
asks : (name : Text) (words : List Text) → list_all is_plain_word words ≡ true → commanded_by (name ∷ words) ≡ named_in forms name words
asks name words plain = cond-true (list_all is_plain_word words) (named_in forms name words) None plain

explain_agrees : (words : List Text) → list_all is_plain_word words ≡ true → Agrees (codes "explain" ∷ words)
explain_agrees =
    perhaps_agrees program view_given commanded_by (codes "explain") (codes "NAME") Explains refl
    (λ words. fault-name rblview commands (codes "explain") words (leaf_perhaps (codes "explain") (codes "NAME")) refl refl refl)
    (λ words. subcommand-name rblview commands (codes "explain") words (leaf_perhaps (codes "explain") (codes "NAME")) refl refl refl)
    (λ given. refl) (asks (codes "explain"))

trace_agrees : (words : List Text) → list_all is_plain_word words ≡ true → Agrees (codes "trace" ∷ words)
trace_agrees =
    two_agrees program view_given commanded_by (codes "trace") (codes "SOURCE") (codes "SCHEDULE") Traces refl refl refl refl
    (λ words. fault-name rblview commands (codes "trace") words (leaf (codes "trace") (codes "SOURCE" ∷ codes "SCHEDULE" ∷ [])) refl refl refl)
    (λ words. subcommand-name rblview commands (codes "trace") words (leaf (codes "trace") (codes "SOURCE" ∷ codes "SCHEDULE" ∷ [])) refl refl refl)
    (λ given. refl) (asks (codes "trace"))

page_agrees : (words : List Text) → list_all is_plain_word words ≡ true → Agrees (codes "page" ∷ words)
page_agrees =
    let ids = codes "PAGE" ∷ codes "SOURCE" ∷ codes "SCHEDULE" ∷ [] in
    three_agrees program view_given commanded_by (codes "page") (codes "PAGE") (codes "SOURCE") (codes "SCHEDULE") Pages refl refl refl refl refl refl refl refl refl
    (λ words. fault-name rblview commands (codes "page") words (leaf (codes "page") ids) refl refl refl)
    (λ words. subcommand-name rblview commands (codes "page") words (leaf (codes "page") ids) refl refl refl)
    (λ given. refl) (asks (codes "page"))

explore_agrees : (words : List Text) → list_all is_plain_word words ≡ true → Agrees (codes "explore" ∷ words)
explore_agrees =
    last_agrees program view_given commanded_by (codes "explore") (codes "SOURCE") (codes "NUMBER") explored_by refl refl refl refl
    (λ words. fault-name rblview commands (codes "explore") words (leaf_and_last (codes "explore") (codes "SOURCE") (codes "NUMBER")) refl refl refl)
    (λ words. subcommand-name rblview commands (codes "explore") words (leaf_and_last (codes "explore") (codes "SOURCE") (codes "NUMBER")) refl refl refl)
    (λ given. refl) (asks (codes "explore"))

faults_agrees : (words : List Text) → list_all is_plain_word words ≡ true → Agrees (codes "faults" ∷ words)
faults_agrees =
    one_agrees program view_given commanded_by (codes "faults") (codes "SOURCE") (λ a. Some (Lists a)) refl
    (λ words. fault-name rblview commands (codes "faults") words (leaf (codes "faults") (codes "SOURCE" ∷ [])) refl refl refl)
    (λ words. subcommand-name rblview commands (codes "faults") words (leaf (codes "faults") (codes "SOURCE" ∷ [])) refl refl refl)
    (λ given a e. ap (option_map Lists) e) refl (λ a. asks (codes "faults") (a ∷ [])) (λ a b more. asks (codes "faults") (a ∷ b ∷ more))

-- which command's name a word is
pub record AreNamed (name : Text) (is_explain is_trace is_page is_explore is_faults : Bool) : Type 0 where
  pub explain : bytes_eq (codes "explain") name ≡ is_explain
  pub trace : bytes_eq (codes "trace") name ≡ is_trace
  pub page : bytes_eq (codes "page") name ≡ is_page
  pub explore : bytes_eq (codes "explore") name ≡ is_explore
  pub faults : bytes_eq (codes "faults") name ≡ is_faults

module _ (name : Text) (words : List Text) (plain : list_all is_plain_word (name ∷ words) ≡ true) where
  -- a name of no command
  unnamed : AreNamed name false false false false false → Agrees (name ∷ words)
  unnamed are =
      let parts = and_parts (is_plain_word name) _ plain in
      let no_name : subcommand_met (names rblview commands) idle name ≡ None = rw (are.explain, are.trace, are.page, are.explore, are.faults) refl in
      refused (λ none. let both : [] ≡ UnknownArgument ∷ InvalidSubcommand ∷ [] = sym none ∙ other_word rblview commands name words parts.0 no_name in cc)
      (asks name words parts.1 ∙ rw (are.explain, are.trace, are.page, are.explore, are.faults) refl)

  -- the first word is a command's name, or none
  named : (is_explain is_trace is_page is_explore is_faults : Bool) → AreNamed name is_explain is_trace is_page is_explore is_faults → Agrees (name ∷ words)
  named true b c d e are = of_named program view_given commanded_by name words plain (codes "explain") (explain_agrees words) are.explain
  named false true c d e are = of_named program view_given commanded_by name words plain (codes "trace") (trace_agrees words) are.trace
  named false false true d e are = of_named program view_given commanded_by name words plain (codes "page") (page_agrees words) are.page
  named false false false true e are = of_named program view_given commanded_by name words plain (codes "explore") (explore_agrees words) are.explore
  named false false false false true are = of_named program view_given commanded_by name words plain (codes "faults") (faults_agrees words) are.faults
  named false false false false false are = unnamed are

pub agrees : (words : List Text) → list_all is_plain_word words ≡ true → Agrees words
agrees [] plain = refused (λ none. let both : [] ≡ MissingSubcommand ∷ [] = sym none ∙ no_words in cc) refl
agrees (name ∷ words) plain =
    named name words plain (bytes_eq (codes "explain") name) (bytes_eq (codes "trace") name) (bytes_eq (codes "page") name)
    (bytes_eq (codes "explore") name) (bytes_eq (codes "faults") name)
    (record { explain = refl; trace = refl; page = refl; explore = refl; faults = refl })

-- a word that is not plain names no command
not_named : (name : Text) (words : List Text) → is_plain_word name ≡ false → named_in forms name words ≡ None
not_named [] words other = refl
not_named (b ∷ bs) words other = subst (λ n. named_in forms (n ∷ bs) words ≡ None) (sym (eqb-true b 45 (not-false _ other))) refl

-- words give a command only where all are plain
pub asks_none : (words : List Text) → list_all is_plain_word words ≡ false → commanded_by words ≡ None
asks_none [] other = refl
asks_none (name ∷ words) other = cond_both (list_all is_plain_word words) (named_in forms name words) None (λ r. r ≡ None)
    (λ e. elim (and_cases (is_plain_word name) _ other) [ inl f ↦ not_named name words f | inr f ↦ absurd (true≢false (sym e ∙ f)) ])
    (λ e. refl)

-- ---- what the parse answers

-- what is asked for by the command that is found
abbrev pub found_in : Option (Text × List Row) → Option View
found_in = agreeing.found_in program view_given commanded_by

-- a parse that succeeds found what the words ask for
pub answer_taken : (line : App) (words : List Text) → line ≡ program → list_all is_plain_word words ≡ true →
    (is_simple_and_free line ≡ true → fault_of line words ≡ []) → found_in (subcommand_of line words) ≡ commanded_by words
answer_taken = agreeing.answer_taken program view_given commanded_by is_told agrees

-- one that fails, and not for memory, was given words that ask for nothing
pub answer_refused : (line : App) (words : List Text) (e : Error) → line ≡ program → list_all is_plain_word words ≡ true →
    (is_simple_and_free line ≡ true → HasKind (fault_of line words) e) → (kind_of e ≡ OutOfMemory → ⊥) → commanded_by words ≡ None
answer_refused = agreeing.answer_refused program view_given commanded_by is_told agrees

-- what is asked for by a name and the values that were given
pub given_by : (name : Text) (f : Found) → view_given name (first_value f) ≡ view_given name (λ id. first_of id (rows_of f))
given_by = agreeing.given_by program view_given commanded_by
