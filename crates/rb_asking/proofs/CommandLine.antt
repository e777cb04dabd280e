-- What `clap` makes of plain words: it takes those that give a command of the program.
use Rattle.std.proofs.Common.{◌≡◌, ◌∙◌, Bool, true, false, List, [], ◌∷◌, codes, Option, Some, None}
use Rattle.std.proofs.Common.{option_map, inl, inr, refl, sym, ap, subst, true≢false}
use Rattle.std.specs.Str.{bytes_eq}
use Rattle.std.specs.List.{list_all}
use Rattle.std.proofs.lemmas.Bool.{not-false, and_parts, and_cases, cond-true, cond_both, eqb-true}
use Rattle.clap.specs.Walk.{rows_of, Row, Text, first_of, idle, subcommand_met}
use Rattle.clap.specs.Simple.{App, is_simple, subcommand_of}
use Rattle.clap.specs.Values.{kind_of}
use Rattle.clap.specs.Kinds.{HasKind}
use Rattle.clap.specs.Matches.{first_value}
use Rattle.clap.specs.declared.error.Error.{Error}
use Rattle.clap.specs.declared.parser.matches.Found.{Found}
use Rattle.clap.specs.Faults.{fault_of, is_simple_and_free}
use Rattle.clap.specs.declared.error.kind.ErrorKind.TheVariants.{InvalidSubcommand, MissingSubcommand, OutOfMemory, UnknownArgument}
use Rattle.clap.proofs.OnLiterals.{clap_on_literals}
use Rattle.rb_words.specs.Plain.{is_plain_word}
use Rattle.rb_words.proofs.Leaves.{leaf}
use Rattle.rb_asking.proofs.Naming.{fault-name, names, other_word, subcommand-name}
use Rattle.rb_words.proofs.Agreeing.{Agrees as AgreesFor, of_named, one_agrees, refused, three_agrees, two_agrees}
use Rattle.rb_words.proofs.Agreeing as agreeing
use Rattle.rb_asking.specs.Commands.{Asked, Run, Survive, Plain, Check, Code, Trial, Compile, Load, Session, Domino, Stuck, asked_of, forms}
use Rattle.rb_asking.specs.Forms.{named_in}
use Rattle.rb_asking.specs.Number.{trial_number}
use Rattle.rb_asking.specs.CommandLine.{commands, program, asked_given, trial_given}

abbrev rbl : Text
rbl = codes "rbl"

-- the program is one of which `clap` says all
pub is_told : is_simple_and_free program ≡ true
unfolding clap_on_literals
is_told = refl

pub is_told_simple : is_simple program ≡ true
unfolding clap_on_literals
is_told_simple = refl

-- no word, and a word that names no command
no_words : fault_of program [] ≡ MissingSubcommand ∷ []
unfolding clap_on_literals
no_words = refl

-- ---- what is asked for

-- `clap` takes words that give a command, with that command's values, and no others
abbrev Agrees : List Text → Type 0
Agrees = AgreesFor program asked_given asked_of

-- plain words after a name ask for what the command of this name says
asks : (name : Text) (words : List Text) → list_all is_plain_word words ≡ true → asked_of (name ∷ words) ≡ named_in forms name words
asks name words plain = cond-true (list_all is_plain_word words) (named_in forms name words) None plain

-- `run`, `survive`, `plain`, `stuck` and `load` take two
run_agrees : (words : List Text) → list_all is_plain_word words ≡ true → Agrees (codes "run" ∷ words)
run_agrees =
    two_agrees program asked_given asked_of (codes "run") (codes "SOURCE") (codes "SCHEDULE") Run refl refl refl refl
    (λ words. fault-name rbl commands (codes "run") words (leaf (codes "run") (codes "SOURCE" ∷ codes "SCHEDULE" ∷ [])) refl refl refl)
    (λ words. subcommand-name rbl commands (codes "run") words (leaf (codes "run") (codes "SOURCE" ∷ codes "SCHEDULE" ∷ [])) refl refl refl)
    (λ given. refl) (asks (codes "run"))

survive_agrees : (words : List Text) → list_all is_plain_word words ≡ true → Agrees (codes "survive" ∷ words)
survive_agrees =
    two_agrees program asked_given asked_of (codes "survive") (codes "SOURCE") (codes "SCHEDULE") Survive refl refl refl refl
    (λ words. fault-name rbl commands (codes "survive") words (leaf (codes "survive") (codes "SOURCE" ∷ codes "SCHEDULE" ∷ [])) refl refl refl)
    (λ words. subcommand-name rbl commands (codes "survive") words (leaf (codes "survive") (codes "SOURCE" ∷ codes "SCHEDULE" ∷ [])) refl refl refl)
    (λ given. refl) (asks (codes "survive"))

plain_agrees : (words : List Text) → list_all is_plain_word words ≡ true → Agrees (codes "plain" ∷ words)
plain_agrees =
    two_agrees program asked_given asked_of (codes "plain") (codes "SOURCE") (codes "RECORD") Plain refl refl refl refl
    (λ words. fault-name rbl commands (codes "plain") words (leaf (codes "plain") (codes "SOURCE" ∷ codes "RECORD" ∷ [])) refl refl refl)
    (λ words. subcommand-name rbl commands (codes "plain") words (leaf (codes "plain") (codes "SOURCE" ∷ codes "RECORD" ∷ [])) refl refl refl)
    (λ given. refl) (asks (codes "plain"))

stuck_agrees : (words : List Text) → list_all is_plain_word words ≡ true → Agrees (codes "stuck" ∷ words)
stuck_agrees =
    two_agrees program asked_given asked_of (codes "stuck") (codes "SOURCE") (codes "SCHEDULE") Stuck refl refl refl refl
    (λ words. fault-name rbl commands (codes "stuck") words (leaf (codes "stuck") (codes "SOURCE" ∷ codes "SCHEDULE" ∷ [])) refl refl refl)
    (λ words. subcommand-name rbl commands (codes "stuck") words (leaf (codes "stuck") (codes "SOURCE" ∷ codes "SCHEDULE" ∷ [])) refl refl refl)
    (λ given. refl) (asks (codes "stuck"))

load_agrees : (words : List Text) → list_all is_plain_word words ≡ true → Agrees (codes "load" ∷ words)
load_agrees =
    two_agrees program asked_given asked_of (codes "load") (codes "IMAGE") (codes "SCHEDULE") Load refl refl refl refl
    (λ words. fault-name rbl commands (codes "load") words (leaf (codes "load") (codes "IMAGE" ∷ codes "SCHEDULE" ∷ [])) refl refl refl)
    (λ words. subcommand-name rbl commands (codes "load") words (leaf (codes "load") (codes "IMAGE" ∷ codes "SCHEDULE" ∷ [])) refl refl refl)
    (λ given. refl) (asks (codes "load"))

-- `session` takes three
session_agrees : (words : List Text) → list_all is_plain_word words ≡ true → Agrees (codes "session" ∷ words)
session_agrees =
    let ids = codes "SOURCE" ∷ codes "SCHEDULE" ∷ codes "SESSION" ∷ [] in
    three_agrees program asked_given asked_of (codes "session") (codes "SOURCE") (codes "SCHEDULE") (codes "SESSION") Session refl refl refl refl refl refl refl refl refl
    (λ words. fault-name rbl commands (codes "session") words (leaf (codes "session") ids) refl refl refl)
    (λ words. subcommand-name rbl commands (codes "session") words (leaf (codes "session") ids) refl refl refl)
    (λ given. refl) (asks (codes "session"))

-- `check`, `code`, `trial`, `domino` and `compile` take one
check_agrees : (words : List Text) → list_all is_plain_word words ≡ true → Agrees (codes "check" ∷ words)
check_agrees =
    one_agrees program asked_given asked_of (codes "check") (codes "SOURCE") (λ a. Some (Check a)) refl
    (λ words. fault-name rbl commands (codes "check") words (leaf (codes "check") (codes "SOURCE" ∷ [])) refl refl refl)
    (λ words. subcommand-name rbl commands (codes "check") words (leaf (codes "check") (codes "SOURCE" ∷ [])) refl refl refl)
    (λ given a e. ap (option_map Check) e) refl (λ a. asks (codes "check") (a ∷ [])) (λ a b more. asks (codes "check") (a ∷ b ∷ more))

code_agrees : (words : List Text) → list_all is_plain_word words ≡ true → Agrees (codes "code" ∷ words)
code_agrees =
    one_agrees program asked_given asked_of (codes "code") (codes "SOURCE") (λ a. Some (Code a)) refl
    (λ words. fault-name rbl commands (codes "code") words (leaf (codes "code") (codes "SOURCE" ∷ [])) refl refl refl)
    (λ words. subcommand-name rbl commands (codes "code") words (leaf (codes "code") (codes "SOURCE" ∷ [])) refl refl refl)
    (λ given a e. ap (option_map Code) e) refl (λ a. asks (codes "code") (a ∷ [])) (λ a b more. asks (codes "code") (a ∷ b ∷ more))

trial_agrees : (words : List Text) → list_all is_plain_word words ≡ true → Agrees (codes "trial" ∷ words)
trial_agrees =
    one_agrees program asked_given asked_of (codes "trial") (codes "NUMBER") (λ a. option_map Trial (trial_number a)) refl
    (λ words. fault-name rbl commands (codes "trial") words (leaf (codes "trial") (codes "NUMBER" ∷ [])) refl refl refl)
    (λ words. subcommand-name rbl commands (codes "trial") words (leaf (codes "trial") (codes "NUMBER" ∷ [])) refl refl refl)
    (λ given a e. ap trial_given e) refl (λ a. asks (codes "trial") (a ∷ [])) (λ a b more. asks (codes "trial") (a ∷ b ∷ more))

domino_agrees : (words : List Text) → list_all is_plain_word words ≡ true → Agrees (codes "domino" ∷ words)
domino_agrees =
    one_agrees program asked_given asked_of (codes "domino") (codes "HISTORY") (λ a. Some (Domino a)) refl
    (λ words. fault-name rbl commands (codes "domino") words (leaf (codes "domino") (codes "HISTORY" ∷ [])) refl refl refl)
    (λ words. subcommand-name rbl commands (codes "domino") words (leaf (codes "domino") (codes "HISTORY" ∷ [])) refl refl refl)
    (λ given a e. ap (option_map Domino) e) refl (λ a. asks (codes "domino") (a ∷ [])) (λ a b more. asks (codes "domino") (a ∷ b ∷ more))

compile_agrees : (words : List Text) → list_all is_plain_word words ≡ true → Agrees (codes "compile" ∷ words)
compile_agrees =
    one_agrees program asked_given asked_of (codes "compile") (codes "SOURCE") (λ a. Some (Compile a)) refl
    (λ words. fault-name rbl commands (codes "compile") words (leaf (codes "compile") (codes "SOURCE" ∷ [])) refl refl refl)
    (λ words. subcommand-name rbl commands (codes "compile") words (leaf (codes "compile") (codes "SOURCE" ∷ [])) refl refl refl)
    (λ given a e. ap (option_map Compile) e) refl (λ a. asks (codes "compile") (a ∷ [])) (λ a b more. asks (codes "compile") (a ∷ b ∷ more))

-- which command's name a word is
pub record AreNamed (name : Text) (is_run is_survive is_plain is_check is_code is_trial is_session is_domino is_stuck is_compile is_load : Bool)
    : Type 0 where
  pub run : bytes_eq (codes "run") name ≡ is_run
  pub survive : bytes_eq (codes "survive") name ≡ is_survive
  pub plain : bytes_eq (codes "plain") name ≡ is_plain
  pub check : bytes_eq (codes "check") name ≡ is_check
  pub code : bytes_eq (codes "code") name ≡ is_code
  pub trial : bytes_eq (codes "trial") name ≡ is_trial
  pub session : bytes_eq (codes "session") name ≡ is_session
  pub domino : bytes_eq (codes "domino") name ≡ is_domino
  pub stuck : bytes_eq (codes "stuck") name ≡ is_stuck
  pub compile : bytes_eq (codes "compile") name ≡ is_compile
  pub load : bytes_eq (codes "load") name ≡ is_load

module _ (name : Text) (words : List Text) (plain : list_all is_plain_word (name ∷ words) ≡ true) where
  -- a name of no command
  unnamed : AreNamed name false false false false false false false false false false false → Agrees (name ∷ words)
  unnamed are =
      let parts = and_parts (is_plain_word name) _ plain in
      let no_name : subcommand_met (names rbl commands) idle name ≡ None = rw (are.run, are.survive, are.plain, are.check, are.code, are.trial, are.session, are.domino, are.stuck, are.compile, are.load) refl in
      refused (λ none. let both : [] ≡ UnknownArgument ∷ InvalidSubcommand ∷ [] = sym none ∙ other_word rbl commands name words parts.0 no_name in cc)
      (asks name words parts.1 ∙ rw (are.run, are.survive, are.plain, are.check, are.code, are.trial, are.session, are.domino, are.stuck, are.compile, are.load) refl)

  -- the first word is a command's name, or none
  named : (is_run is_survive is_plain is_check is_code is_trial is_session is_domino is_stuck is_compile is_load : Bool)
      → AreNamed name is_run is_survive is_plain is_check is_code is_trial is_session is_domino is_stuck is_compile is_load → Agrees (name ∷ words)
  named true b c d e f g h i j k are = of_named program asked_given asked_of name words plain (codes "run") (run_agrees words) are.run
  named false true c d e f g h i j k are = of_named program asked_given asked_of name words plain (codes "survive") (survive_agrees words) are.survive
  named false false true d e f g h i j k are = of_named program asked_given asked_of name words plain (codes "plain") (plain_agrees words) are.plain
  named false false false true e f g h i j k are = of_named program asked_given asked_of name words plain (codes "check") (check_agrees words) are.check
  named false false false false true f g h i j k are = of_named program asked_given asked_of name words plain (codes "code") (code_agrees words) are.code
  named false false false false false true g h i j k are = of_named program asked_given asked_of name words plain (codes "trial") (trial_agrees words) are.trial
  named false false false false false false true h i j k are = of_named program asked_given asked_of name words plain (codes "session") (session_agrees words) are.session
  named false false false false false false false true i j k are = of_named program asked_given asked_of name words plain (codes "domino") (domino_agrees words) are.domino
  named false false false false false false false false true j k are = of_named program asked_given asked_of name words plain (codes "stuck") (stuck_agrees words) are.stuck
  named false false false false false false false false false true k are = of_named program asked_given asked_of name words plain (codes "compile") (compile_agrees words) are.compile
  named false false false false false false false false false false true are = of_named program asked_given asked_of name words plain (codes "load") (load_agrees words) are.load
  named false false false false false false false false false false false are = unnamed are

pub agrees : (words : List Text) → list_all is_plain_word words ≡ true → Agrees words
agrees [] plain = refused (λ none. let both : [] ≡ MissingSubcommand ∷ [] = sym none ∙ no_words in cc) refl
agrees (name ∷ words) plain =
    named name words plain (bytes_eq (codes "run") name) (bytes_eq (codes "survive") name) (bytes_eq (codes "plain") name)
    (bytes_eq (codes "check") name)
    (bytes_eq (codes "code") name) (bytes_eq (codes "trial") name) (bytes_eq (codes "session") name) (bytes_eq (codes "domino") name)
    (bytes_eq (codes "stuck") name) (bytes_eq (codes "compile") name)
    (bytes_eq (codes "load") name)
    (record {
      run = refl;
      survive = refl;
      plain = refl;
      check = refl;
      code = refl;
      trial = refl;
      session = refl;
      domino = refl;
      stuck = refl;
      compile = refl;
      load = refl;
    })

-- a word that is not plain names no command
not_named : (name : Text) (words : List Text) → is_plain_word name ≡ false → named_in forms name words ≡ None
not_named [] words other = refl
not_named (b ∷ bs) words other = subst (λ n. named_in forms (n ∷ bs) words ≡ None) (sym (eqb-true b 45 (not-false _ other))) refl

-- words give a command only where all are plain
pub asks_none : (words : List Text) → list_all is_plain_word words ≡ false → asked_of words ≡ None
asks_none [] other = refl
asks_none (name ∷ words) other = cond_both (list_all is_plain_word words) (named_in forms name words) None (λ r. r ≡ None)
    (λ e. elim (and_cases (is_plain_word name) _ other) [ inl f ↦ not_named name words f | inr f ↦ absurd (true≢false (sym e ∙ f)) ])
    (λ e. refl)

-- ---- what the parse answers

-- what is asked for by the command that is found
abbrev pub found_in : Option (Text × List Row) → Option Asked
found_in = agreeing.found_in program asked_given asked_of

-- a parse that succeeds found what the words ask for
pub answer_taken : (line : App) (words : List Text) → line ≡ program → list_all is_plain_word words ≡ true →
    (is_simple_and_free line ≡ true → fault_of line words ≡ []) → found_in (subcommand_of line words) ≡ asked_of words
answer_taken = agreeing.answer_taken program asked_given asked_of is_told agrees

-- one that fails, and not for memory, was given words that ask for nothing
pub answer_refused : (line : App) (words : List Text) (e : Error) → line ≡ program → list_all is_plain_word words ≡ true →
    (is_simple_and_free line ≡ true → HasKind (fault_of line words) e) → (kind_of e ≡ OutOfMemory → ⊥) → asked_of words ≡ None
answer_refused = agreeing.answer_refused program asked_given asked_of is_told agrees

-- what is asked for by a name and the values that were given
pub given_by : (name : Text) (f : Found) → asked_given name (first_value f) ≡ asked_given name (λ id. first_of id (rows_of f))
given_by = agreeing.given_by program asked_given asked_of
