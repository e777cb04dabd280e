-- Words that `clap` takes, and what they ask for, of any program and whatever its commands ask for.
use Rattle.std.proofs.Common.{◌≡◌, ◌∙◌, true, false, List, [], ◌∷◌, Option, Some, None, option_and_then, inl, inr, sym, ap, subst}
use Rattle.std.specs.Str.{bytes_eq}
use Rattle.std.specs.List.{list_all}
use Rattle.std.proofs.lemmas.Slice.Eq.{bytes_eq-Decides}
use Rattle.std.proofs.lemmas.Bool.{and_parts}
use Rattle.clap.specs.Walk.{rows_of, Row, Text, first_of, rows_after}
use Rattle.clap.specs.Simple.{App, subcommand_of}
use Rattle.clap.specs.Values.{kind_of}
use Rattle.clap.specs.Kinds.{HasKind, or_else}
use Rattle.clap.specs.Matches.{first_value}
use Rattle.clap.specs.declared.error.Error.{Error}
use Rattle.clap.specs.declared.parser.matches.Found.{Found}
use Rattle.clap.specs.Faults.{fault_of, is_simple_and_free}
use Rattle.clap.specs.declared.error.kind.ErrorKind.TheVariants.{OutOfMemory}
use Rattle.clap.proofs.WalkLemmas.{first_value-rows}
use Rattle.rb_words.specs.Given.{three_given, two_given, with_last, with_perhaps, with_three, with_two}
use Rattle.rb_words.specs.Plain.{is_plain_word}
use Rattle.rb_words.proofs.Leaves.{fault_at, leaf, no_fault, some_fault}
use Rattle.rb_words.proofs.Leaves.{one-few, one-many, one-takes, one-value, two-few, two-many, two-none, two-takes, two-values}
use Rattle.rb_words.proofs.Leaves.{fault_at_last, last-left_out, last-many, last-none, last-takes, last-value, last-values, leaf_and_last}
use Rattle.rb_words.proofs.Leaves.{fault_at_perhaps, leaf_perhaps, perhaps-left_out, perhaps-many, perhaps-none, perhaps-takes, perhaps-value}
use Rattle.rb_words.proofs.Leaves.{three-few, three-fewer, three-many, three-none, three-takes, three-values}

module _ {R : Type 0} (program : App) (request_given : Text → (Text → Option Text) → Option R) (request_of : List Text → Option R) where
  -- what is asked for by the command that is found
  abbrev pub found_in : Option (Text × List Row) → Option R
  found_in found = option_and_then (λ s. request_given s.0 (λ id. first_of id s.1)) found

  -- `clap` takes words that give a command, with that command's values, and no others
  pub data Agrees (words : List Text) : Type 0 where
    taken : fault_of program words ≡ [] → found_in (subcommand_of program words) ≡ request_of words → Agrees words
    refused : (fault_of program words ≡ [] → ⊥) → request_of words ≡ None → Agrees words

  -- a command that takes two words
  module _ (name i j : Text) (of : Text → Text → R) (first : bytes_eq i i ≡ true) (second : bytes_eq j j ≡ true)
      (ahead : bytes_eq i j ≡ false) (behind : bytes_eq j i ≡ false)
      (fault : (words : List Text) → fault_of program (name ∷ words) ≡ or_else (fault_at name (i ∷ j ∷ []) words) [])
      (values : (words : List Text) → subcommand_of program (name ∷ words) ≡ Some (name, rows_after (leaf name (i ∷ j ∷ [])).rules [] words))
      (gives : (given : Text → Option Text) → request_given name given ≡ two_given of (given i) (given j))
      (form : (words : List Text) → list_all is_plain_word words ≡ true → request_of (name ∷ words) ≡ with_two of words) where
    pub two_agrees : (words : List Text) → list_all is_plain_word words ≡ true → Agrees (name ∷ words)
    two_agrees [] plain = refused (some_fault _ _ _ _ (fault []) (two-none name i j first second ahead behind)) (form [] plain)
    two_agrees (a ∷ []) plain =
        let one = and_parts _ _ plain in
        refused (some_fault _ _ _ _ (fault (a ∷ [])) (two-few name i j first second ahead behind a one.0)) (form (a ∷ []) plain)
    two_agrees (a ∷ b ∷ []) plain =
        let one = and_parts _ _ plain in
        let other = and_parts _ _ one.1 in
        let given : Text → Option Text = λ id. first_of id (rows_after (leaf name (i ∷ j ∷ [])).rules [] (a ∷ b ∷ [])) in
        let read = two-values name i j first second ahead behind a b one.0 other.0 in
        let found : found_in (subcommand_of program (name ∷ a ∷ b ∷ [])) ≡ Some (of a b) =
        ap found_in (values (a ∷ b ∷ [])) ∙ gives given ∙ ap (λ x. two_given of x (given j)) read.0 ∙ ap (two_given of (Some a)) read.1 in
        taken (no_fault _ _ (fault (a ∷ b ∷ [])) (two-takes name i j first second ahead behind a b one.0 other.0))
        (found ∙ sym (form (a ∷ b ∷ []) plain))
    two_agrees (a ∷ b ∷ c ∷ more) plain =
        let one = and_parts _ _ plain in
        let other = and_parts _ _ one.1 in
        let third = and_parts _ _ other.1 in
        refused (some_fault _ _ _ _ (fault (a ∷ b ∷ c ∷ more)) (two-many name i j first second ahead behind a b c more one.0 other.0 third.0))
        (form (a ∷ b ∷ c ∷ more) plain)

  -- a command that takes three words
  module _ (name i j k : Text) (of : Text → Text → Text → R) (first : bytes_eq i i ≡ true) (second : bytes_eq j j ≡ true) (third : bytes_eq k k ≡ true)
      (ij : bytes_eq i j ≡ false) (ik : bytes_eq i k ≡ false) (jk : bytes_eq j k ≡ false)
      (ji : bytes_eq j i ≡ false) (ki : bytes_eq k i ≡ false) (kj : bytes_eq k j ≡ false)
      (fault : (words : List Text) → fault_of program (name ∷ words) ≡ or_else (fault_at name (i ∷ j ∷ k ∷ []) words) [])
      (values : (words : List Text) → subcommand_of program (name ∷ words) ≡ Some (name, rows_after (leaf name (i ∷ j ∷ k ∷ [])).rules [] words))
      (gives : (given : Text → Option Text) → request_given name given ≡ three_given of (given i) (given j) (given k))
      (form : (words : List Text) → list_all is_plain_word words ≡ true → request_of (name ∷ words) ≡ with_three of words) where
    pub three_agrees : (words : List Text) → list_all is_plain_word words ≡ true → Agrees (name ∷ words)
    three_agrees [] plain = refused (some_fault _ _ _ _ (fault []) (three-none name i j k first second third ij ik jk ji ki kj)) (form [] plain)
    three_agrees (a ∷ []) plain =
        let at = and_parts _ _ plain in
        refused (some_fault _ _ _ _ (fault (a ∷ [])) (three-few name i j k first second third ij ik jk ji ki kj a at.0))
        (form (a ∷ []) plain)
    three_agrees (a ∷ b ∷ []) plain =
        let at = and_parts _ _ plain in
        let next = and_parts _ _ at.1 in
        refused (some_fault _ _ _ _ (fault (a ∷ b ∷ [])) (three-fewer name i j k first second third ij ik jk ji ki kj a b at.0 next.0))
        (form (a ∷ b ∷ []) plain)
    three_agrees (a ∷ b ∷ c ∷ []) plain =
        let at = and_parts _ _ plain in
        let next = and_parts _ _ at.1 in
        let last = and_parts _ _ next.1 in
        let given : Text → Option Text = λ id. first_of id (rows_after (leaf name (i ∷ j ∷ k ∷ [])).rules [] (a ∷ b ∷ c ∷ [])) in
        let read = three-values name i j k first second third ij ik jk ji ki kj a b c at.0 next.0 last.0 in
        let found : found_in (subcommand_of program (name ∷ a ∷ b ∷ c ∷ [])) ≡ Some (of a b c) =
        ap found_in (values (a ∷ b ∷ c ∷ [])) ∙ gives given ∙ ap (λ x. three_given of x (given j) (given k)) read.0
        ∙ ap (λ x. three_given of (Some a) x (given k)) read.1.0 ∙ ap (three_given of (Some a) (Some b)) read.1.1 in
        taken
        (no_fault _ _ (fault (a ∷ b ∷ c ∷ [])) (three-takes name i j k first second third ij ik jk ji ki kj a b c at.0 next.0 last.0))
        (found ∙ sym (form (a ∷ b ∷ c ∷ []) plain))
    three_agrees (a ∷ b ∷ c ∷ d ∷ more) plain =
        let at = and_parts _ _ plain in
        let next = and_parts _ _ at.1 in
        let last = and_parts _ _ next.1 in
        let beyond = and_parts _ _ last.1 in
        refused
        (some_fault _ _ _ _ (fault (a ∷ b ∷ c ∷ d ∷ more))
        (three-many name i j k first second third ij ik jk ji ki kj a b c d more at.0 next.0 last.0 beyond.0))
        (form (a ∷ b ∷ c ∷ d ∷ more) plain)

  -- a command that takes one word, of which it makes something to ask for, or nothing
  module _ (name i : Text) (of : Text → Option R) (same : bytes_eq i i ≡ true)
      (fault : (words : List Text) → fault_of program (name ∷ words) ≡ or_else (fault_at name (i ∷ []) words) [])
      (values : (words : List Text) → subcommand_of program (name ∷ words) ≡ Some (name, rows_after (leaf name (i ∷ [])).rules [] words))
      (gives : (given : Text → Option Text) (a : Text) → given i ≡ Some a → request_given name given ≡ of a)
      (without : request_of (name ∷ []) ≡ None) (form : (a : Text) → list_all is_plain_word (a ∷ []) ≡ true → request_of (name ∷ a ∷ []) ≡ of a)
      (beyond : (a b : Text) (more : List Text) → list_all is_plain_word (a ∷ b ∷ more) ≡ true → request_of (name ∷ a ∷ b ∷ more) ≡ None) where
    pub one_agrees : (words : List Text) → list_all is_plain_word words ≡ true → Agrees (name ∷ words)
    one_agrees [] plain = refused (some_fault _ _ _ _ (fault []) (one-few name i same)) without
    one_agrees (a ∷ []) plain =
        let first = and_parts _ _ plain in
        let found : found_in (subcommand_of program (name ∷ a ∷ [])) ≡ of a =
        ap found_in (values (a ∷ []))
        ∙ gives (λ id. first_of id (rows_after (leaf name (i ∷ [])).rules [] (a ∷ []))) a (one-value name i same a first.0) in
        taken (no_fault _ _ (fault (a ∷ [])) (one-takes name i same a first.0)) (found ∙ sym (form a plain))
    one_agrees (a ∷ b ∷ more) plain =
        let first = and_parts _ _ plain in
        let second = and_parts _ _ first.1 in
        refused (some_fault _ _ _ _ (fault (a ∷ b ∷ more)) (one-many name i same a b more first.0 second.0))
        (beyond a b more plain)

  -- a command that takes one word that may be left out
  module _ (name i : Text) (of : Option Text → R) (same : bytes_eq i i ≡ true)
      (fault : (words : List Text) → fault_of program (name ∷ words) ≡ or_else (fault_at_perhaps name i words) [])
      (values : (words : List Text) → subcommand_of program (name ∷ words) ≡ Some (name, rows_after (leaf_perhaps name i).rules [] words))
      (gives : (given : Text → Option Text) → request_given name given ≡ Some (of (given i)))
      (form : (words : List Text) → list_all is_plain_word words ≡ true → request_of (name ∷ words) ≡ with_perhaps of words) where
    pub perhaps_agrees : (words : List Text) → list_all is_plain_word words ≡ true → Agrees (name ∷ words)
    perhaps_agrees [] plain =
        let given : Text → Option Text = λ id. first_of id (rows_after (leaf_perhaps name i).rules [] []) in
        let found : found_in (subcommand_of program (name ∷ [])) ≡ Some (of None) =
        ap found_in (values []) ∙ gives given ∙ ap (λ (a : Option Text). Some (of a)) (perhaps-none name i same) in
        taken (no_fault _ _ (fault []) (perhaps-left_out name i same)) (found ∙ sym (form [] plain))
    perhaps_agrees (a ∷ []) plain =
        let one = and_parts _ _ plain in
        let given : Text → Option Text = λ id. first_of id (rows_after (leaf_perhaps name i).rules [] (a ∷ [])) in
        let found : found_in (subcommand_of program (name ∷ a ∷ [])) ≡ Some (of (Some a)) =
        ap found_in (values (a ∷ [])) ∙ gives given ∙ ap (λ (x : Option Text). Some (of x)) (perhaps-value name i same a one.0) in
        taken (no_fault _ _ (fault (a ∷ [])) (perhaps-takes name i same a one.0)) (found ∙ sym (form (a ∷ []) plain))
    perhaps_agrees (a ∷ b ∷ more) plain =
        let one = and_parts _ _ plain in
        let other = and_parts _ _ one.1 in
        refused (some_fault _ _ _ _ (fault (a ∷ b ∷ more)) (perhaps-many name i same a b more one.0 other.0)) (form (a ∷ b ∷ more) plain)

  -- a command that takes one word, and a second that may be left out
  module _ (name i j : Text) (of : Text → Option Text → Option R) (first : bytes_eq i i ≡ true) (second : bytes_eq j j ≡ true)
      (ahead : bytes_eq i j ≡ false) (behind : bytes_eq j i ≡ false)
      (fault : (words : List Text) → fault_of program (name ∷ words) ≡ or_else (fault_at_last name i j words) [])
      (values : (words : List Text) → subcommand_of program (name ∷ words) ≡ Some (name, rows_after (leaf_and_last name i j).rules [] words))
      (gives : (given : Text → Option Text) → request_given name given ≡ option_and_then (λ a. of a (given j)) (given i))
      (form : (words : List Text) → list_all is_plain_word words ≡ true → request_of (name ∷ words) ≡ with_last of words) where
    pub last_agrees : (words : List Text) → list_all is_plain_word words ≡ true → Agrees (name ∷ words)
    last_agrees [] plain = refused (some_fault _ _ _ _ (fault []) (last-none name i j first second ahead behind)) (form [] plain)
    last_agrees (a ∷ []) plain =
        let one = and_parts _ _ plain in
        let given : Text → Option Text = λ id. first_of id (rows_after (leaf_and_last name i j).rules [] (a ∷ [])) in
        let read = last-value name i j first second ahead behind a one.0 in
        let found : found_in (subcommand_of program (name ∷ a ∷ [])) ≡ of a None =
        ap found_in (values (a ∷ [])) ∙ gives given ∙ ap (option_and_then (λ x. of x (given j))) read.0 ∙ ap (of a) read.1 in
        taken (no_fault _ _ (fault (a ∷ [])) (last-left_out name i j first second ahead behind a one.0)) (found ∙ sym (form (a ∷ []) plain))
    last_agrees (a ∷ b ∷ []) plain =
        let one = and_parts _ _ plain in
        let other = and_parts _ _ one.1 in
        let given : Text → Option Text = λ id. first_of id (rows_after (leaf_and_last name i j).rules [] (a ∷ b ∷ [])) in
        let read = last-values name i j first second ahead behind a b one.0 other.0 in
        let found : found_in (subcommand_of program (name ∷ a ∷ b ∷ [])) ≡ of a (Some b) =
        ap found_in (values (a ∷ b ∷ [])) ∙ gives given ∙ ap (option_and_then (λ x. of x (given j))) read.0 ∙ ap (of a) read.1 in
        taken (no_fault _ _ (fault (a ∷ b ∷ [])) (last-takes name i j first second ahead behind a b one.0 other.0))
        (found ∙ sym (form (a ∷ b ∷ []) plain))
    last_agrees (a ∷ b ∷ c ∷ more) plain =
        let one = and_parts _ _ plain in
        let other = and_parts _ _ one.1 in
        let third = and_parts _ _ other.1 in
        refused (some_fault _ _ _ _ (fault (a ∷ b ∷ c ∷ more)) (last-many name i j first second ahead behind a b c more one.0 other.0 third.0))
        (form (a ∷ b ∷ c ∷ more) plain)

  -- the first word is a name of which this is known
  module _ (name : Text) (words : List Text) (plain : list_all is_plain_word (name ∷ words) ≡ true) where
    pub of_named : (known : Text) → (list_all is_plain_word words ≡ true → Agrees (known ∷ words)) → bytes_eq known name ≡ true → Agrees (name ∷ words)
    of_named known agrees e = subst (λ n. Agrees (n ∷ words)) ((bytes_eq-Decides _ _).0 e) (agrees (and_parts _ _ plain).1)

  -- what the parse answers
  module _ (is_told : is_simple_and_free program ≡ true) (agrees : (words : List Text) → list_all is_plain_word words ≡ true → Agrees words) where
    -- a parse that succeeds found what the words ask for
    pub answer_taken : (line : App) (words : List Text) → line ≡ program → list_all is_plain_word words ≡ true →
        (is_simple_and_free line ≡ true → fault_of line words ≡ []) → found_in (subcommand_of line words) ≡ request_of words
    answer_taken line words is plain none = elim (agrees words plain) [
      | taken free same ↦ ap (λ a. found_in (subcommand_of a words)) is ∙ same
      | refused bad asked ↦ absurd (bad (ap (λ a. fault_of a words) (sym is) ∙ none (ap is_simple_and_free is ∙ is_told)))
    ]

    -- one that fails, and not for memory, was given words that ask for nothing
    pub answer_refused : (line : App) (words : List Text) (e : Error) → line ≡ program → list_all is_plain_word words ≡ true →
        (is_simple_and_free line ≡ true → HasKind (fault_of line words) e) → (kind_of e ≡ OutOfMemory → ⊥) → request_of words ≡ None
    answer_refused line words e is plain has other = elim (agrees words plain) [
      | taken free same ↦
          let kinds : fault_of line words ≡ [] = ap (λ a. fault_of a words) is ∙ free in
          absurd (elim (subst (λ ks. HasKind ks e) kinds (has (ap is_simple_and_free is ∙ is_told))) [ inl memory ↦ other memory | inr among ↦ among ])
      | refused bad asked ↦ asked
    ]

  -- what is asked for by a name and the values that were given
  pub given_by : (name : Text) (f : Found) → request_given name (first_value f) ≡ request_given name (λ id. first_of id (rows_of f))
  given_by name f = λ i. request_given name (λ id. first_value-rows f id i)
