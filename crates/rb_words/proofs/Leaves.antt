-- What `clap` makes of plain words that are given to a command: it takes as many as the command has, and finds them by their names.
use Rattle.std.proofs.Common.{◌≡◌, ◌∙◌, ℕ, true, false, List, [], ◌∷◌, ◌++◌, map, Option, Some, None, Box, Bor, ◌<◌, ◌+◌, length, take}
use Rattle.std.proofs.Common.{slice_index_or, option_map, refl, sym, ap, true≢false}
use Rattle.std.specs.Str.{bytes_eq}
use Rattle.std.proofs.lemmas.List.{map-append, take_more}
use Rattle.std.proofs.lemmas.Bool.{not-true}
use Rattle.clap.specs.Lexer.{long_of, short_of}
use Rattle.clap.specs.Walk.{Held, Names, Rule, Row, Text, Walk, arg_by_index, first_of, idle, nothing_held, rows_after}
use Rattle.clap.specs.Walk.{subcommand_met, to_positional, value, walked, word_met}
use Rattle.clap.specs.Simple.{Shape, filled_from, new_shape, subcommand_rows, with_rule}
use Rattle.clap.specs.Words.{new_rule}
use Rattle.std.specs.Box.{box_value}
use Rattle.clap.specs.Kinds.{Kinds, or_else}
use Rattle.clap.specs.declared.parser.matches.SubCommand.{SubCommand}
use Rattle.clap.specs.declared.parser.matches.ArgMatches.TheViews.{out-SubCommand}
use Rattle.clap.specs.Faults.{defaults_fault, level_fault, step_fault, turn_fault, walk_fault}
use Rattle.clap.specs.declared.error.kind.ErrorKind.{ErrorKind}
use Rattle.clap.specs.declared.error.kind.ErrorKind.TheVariants.{MissingRequiredArgument, UnknownArgument}
use Rattle.clap.specs.declared.parser.matches.ValueSource.TheVariants.{CommandLine}
use Rattle.clap.specs.declared.builder.value_parser.Reading.TheVariants.{AsWritten}
use Rattle.clap.proofs.OnLiterals.{clap_on_literals}
use Rattle.rb_words.specs.Plain.{is_plain_word}
use Rattle.rb_words.specs.Leaf.{command_with, required_word}

-- ---- a plain word

-- it is neither `--` nor an option
pub no_dashes : (word : Text) → is_plain_word word ≡ true → bytes_eq word (45 ∷ 45 ∷ []) ≡ false
no_dashes [] plain = absurd (true≢false (sym plain))
no_dashes (b ∷ bs) plain = let other = not-true _ plain in rw other refl

pub no_long : (word : Text) → is_plain_word word ≡ true → long_of word ≡ None
no_long [] plain = absurd (true≢false (sym plain))
no_long (b ∷ bs) plain = let other = not-true _ plain in rw other refl

pub no_short : (word : Text) → is_plain_word word ≡ true → short_of word ≡ None
no_short [] plain = absurd (true≢false (sym plain))
no_short (b ∷ bs) plain = let other = not-true _ plain in rw other refl

-- between two words, of which the next goes to this place
abbrev pub standing : Held → ℕ → Walk
standing h position = record { held = h; waiting = idle; position = position; is_trailing = false; stopped = None }

module _ (names : Names) (h : Held) (position : ℕ) (word : Text) (plain : is_plain_word word ≡ true)
    (none : subcommand_met names idle word ≡ None) where
  -- a plain word that names no command is a value
  pub met : (c : List Rule) → word_met c names false idle position word h ≡ (h, value)
  met c = rw (none, no_dashes word plain, no_long word plain, no_short word plain) refl

  -- it goes to its place, and is at fault where there is none
  pub next : (c : List Rule) → walked c names (standing h position) word ≡ to_positional c (arg_by_index c position) word (standing h position) h
  unfolding walked
  next c = rw (met c) refl

  pub turn : (s : Shape) → turn_fault s names (standing h position) word ≡ step_fault s position h value
  turn s = rw (met s.rules) (rw (none, no_dashes word plain, no_long word plain, no_short word plain) refl)

-- ---- a command

-- as `clap` completes it
abbrev pub leaf : Text → List Text → Shape
leaf name ids = record (new_shape name) {
  rules = filled_from 1 (map required_word ids);
  no_binary_name = true;
  disable_help_flag = true;
  disable_help_subcommand = true;
  is_built = true;
}

-- its fault with these words
abbrev pub fault_at : Text → List Text → List Text → Kinds
fault_at name ids words = level_fault (leaf name ids) [] nothing_held words false []

-- what is found of the first place, and of the one before the last
abbrev pub row_of : Text → Text → Row
row_of id word = record { id = id; values = word ∷ []; count = None; source = Some CommandLine; reading = AsWritten }

abbrev pub held_at : List Row → Text → Text → Held
held_at rows id word = record { rows = rows; pending = Some (id, word ∷ []); skip = 0 }

-- one that takes one word
module _ (name i : Text) (same : bytes_eq i i ≡ true) where
  abbrev pub one : Shape
  one = leaf name (i ∷ [])

  pub first_of_one : (a : Text) → is_plain_word a ≡ true → walked one.rules [] (standing nothing_held 1) a ≡ standing (held_at [] i a) 2
  first_of_one a plain = next [] nothing_held 1 a plain refl one.rules

  pub one-value : (a : Text) → is_plain_word a ≡ true → first_of i (rows_after one.rules [] (a ∷ [])) ≡ Some a
  one-value a plain = rw (first_of_one a plain) (simp same)

  pub one-few : fault_at name (i ∷ []) [] ≡ MissingRequiredArgument ∷ []
  unfolding clap_on_literals
  one-few = refl

  pub one-takes : (a : Text) → is_plain_word a ≡ true → fault_at name (i ∷ []) (a ∷ []) ≡ []
  unfolding walk_fault defaults_fault
  one-takes a plain = rw (turn [] nothing_held 1 a plain refl one, first_of_one a plain) (simp same)

  pub one-many : (a b : Text) (more : List Text) → is_plain_word a ≡ true → is_plain_word b ≡ true
      → fault_at name (i ∷ []) (a ∷ b ∷ more) ≡ UnknownArgument ∷ []
  unfolding walk_fault
  one-many a b more plain plain' =
      rw (turn [] nothing_held 1 a plain refl one, first_of_one a plain, turn [] (held_at [] i a) 2 b plain' refl one) refl

-- one that takes two
module _ (name i j : Text) (first : bytes_eq i i ≡ true) (second : bytes_eq j j ≡ true) (ahead : bytes_eq i j ≡ false)
    (behind : bytes_eq j i ≡ false) where
  abbrev pub two : Shape
  two = leaf name (i ∷ j ∷ [])

  pub first_of_two : (a : Text) → is_plain_word a ≡ true → walked two.rules [] (standing nothing_held 1) a ≡ standing (held_at [] i a) 2
  first_of_two a plain = next [] nothing_held 1 a plain refl two.rules

  pub second_of_two : (a b : Text) → is_plain_word b ≡ true
      → walked two.rules [] (standing (held_at [] i a) 2) b ≡ standing (held_at (row_of i a ∷ []) j b) 3
  second_of_two a b plain = next [] (held_at [] i a) 2 b plain refl two.rules ∙ simp (first, ahead)

  pub two-values : (a b : Text) → is_plain_word a ≡ true → is_plain_word b ≡ true →
      (first_of i (rows_after two.rules [] (a ∷ b ∷ [])) ≡ Some a) × (first_of j (rows_after two.rules [] (a ∷ b ∷ [])) ≡ Some b)
  two-values a b plain plain' = (
    rw (first_of_two a plain, second_of_two a b plain') (simp (first, second, ahead, behind)),
    rw (first_of_two a plain, second_of_two a b plain') (simp (first, second, ahead, behind)),
  )

  pub two-none : fault_at name (i ∷ j ∷ []) [] ≡ MissingRequiredArgument ∷ []
  unfolding clap_on_literals
  two-none = refl

  pub two-few : (a : Text) → is_plain_word a ≡ true → fault_at name (i ∷ j ∷ []) (a ∷ []) ≡ MissingRequiredArgument ∷ []
  unfolding walk_fault defaults_fault
  two-few a plain = rw (turn [] nothing_held 1 a plain refl two, first_of_two a plain) (simp (first, ahead, behind))

  pub two-takes : (a b : Text) → is_plain_word a ≡ true → is_plain_word b ≡ true → fault_at name (i ∷ j ∷ []) (a ∷ b ∷ []) ≡ []
  unfolding walk_fault defaults_fault
  two-takes a b plain plain' =
      rw (turn [] nothing_held 1 a plain refl two, first_of_two a plain, turn [] (held_at [] i a) 2 b plain' refl two, second_of_two a b plain')
      (simp (first, second, ahead, behind))

  pub two-many : (a b c : Text) (more : List Text) → is_plain_word a ≡ true → is_plain_word b ≡ true → is_plain_word c ≡ true →
      fault_at name (i ∷ j ∷ []) (a ∷ b ∷ c ∷ more) ≡ UnknownArgument ∷ []
  unfolding walk_fault
  two-many a b c more plain plain' plain'' =
      rw (
        turn [] nothing_held 1 a plain refl two,
        first_of_two a plain,
        turn [] (held_at [] i a) 2 b plain' refl two,
        second_of_two a b plain',
        turn [] (held_at (row_of i a ∷ []) j b) 3 c plain'' refl two,
      ) (simp (first, ahead))

-- one that takes one word that may be left out, as `clap` completes it
abbrev pub leaf_perhaps : Text → Text → Shape
leaf_perhaps name i = record (new_shape name) {
  rules = filled_from 1 (new_rule i ∷ []);
  no_binary_name = true;
  disable_help_flag = true;
  disable_help_subcommand = true;
  is_built = true;
}

abbrev pub fault_at_perhaps : Text → Text → List Text → Kinds
fault_at_perhaps name i words = level_fault (leaf_perhaps name i) [] nothing_held words false []

module _ (name i : Text) (same : bytes_eq i i ≡ true) where
  abbrev pub perhaps : Shape
  perhaps = leaf_perhaps name i

  pub first_perhaps : (a : Text) → is_plain_word a ≡ true → walked perhaps.rules [] (standing nothing_held 1) a ≡ standing (held_at [] i a) 2
  first_perhaps a plain = next [] nothing_held 1 a plain refl perhaps.rules

  pub perhaps-value : (a : Text) → is_plain_word a ≡ true → first_of i (rows_after perhaps.rules [] (a ∷ [])) ≡ Some a
  perhaps-value a plain = rw (first_perhaps a plain) (simp same)

  pub perhaps-none : first_of i (rows_after perhaps.rules [] []) ≡ None
  perhaps-none = refl

  pub perhaps-left_out : fault_at_perhaps name i [] ≡ []
  unfolding clap_on_literals
  perhaps-left_out = refl

  pub perhaps-takes : (a : Text) → is_plain_word a ≡ true → fault_at_perhaps name i (a ∷ []) ≡ []
  unfolding walk_fault defaults_fault
  perhaps-takes a plain = rw (turn [] nothing_held 1 a plain refl perhaps, first_perhaps a plain) (simp same)

  pub perhaps-many : (a b : Text) (more : List Text) → is_plain_word a ≡ true → is_plain_word b ≡ true
      → fault_at_perhaps name i (a ∷ b ∷ more) ≡ UnknownArgument ∷ []
  unfolding walk_fault
  perhaps-many a b more plain plain' =
      rw (turn [] nothing_held 1 a plain refl perhaps, first_perhaps a plain, turn [] (held_at [] i a) 2 b plain' refl perhaps) refl

-- one that takes one, and a second that may be left out, as `clap` completes it
abbrev pub leaf_and_last : Text → Text → Text → Shape
leaf_and_last name i j = record (new_shape name) {
  rules = filled_from 1 (required_word i ∷ new_rule j ∷ []);
  no_binary_name = true;
  disable_help_flag = true;
  disable_help_subcommand = true;
  is_built = true;
}

abbrev pub fault_at_last : Text → Text → Text → List Text → Kinds
fault_at_last name i j words = level_fault (leaf_and_last name i j) [] nothing_held words false []

module _ (name i j : Text) (first : bytes_eq i i ≡ true) (second : bytes_eq j j ≡ true) (ahead : bytes_eq i j ≡ false)
    (behind : bytes_eq j i ≡ false) where
  abbrev pub last : Shape
  last = leaf_and_last name i j

  pub first_before_last : (a : Text) → is_plain_word a ≡ true → walked last.rules [] (standing nothing_held 1) a ≡ standing (held_at [] i a) 2
  first_before_last a plain = next [] nothing_held 1 a plain refl last.rules

  pub last_behind : (a b : Text) → is_plain_word b ≡ true
      → walked last.rules [] (standing (held_at [] i a) 2) b ≡ standing (held_at (row_of i a ∷ []) j b) 3
  last_behind a b plain = next [] (held_at [] i a) 2 b plain refl last.rules ∙ simp (first, ahead)

  pub last-value : (a : Text) → is_plain_word a ≡ true →
      (first_of i (rows_after last.rules [] (a ∷ [])) ≡ Some a) × (first_of j (rows_after last.rules [] (a ∷ [])) ≡ None)
  last-value a plain = (
    rw (first_before_last a plain) (simp (first, ahead, behind)),
    rw (first_before_last a plain) (simp (first, ahead, behind)),
  )

  pub last-values : (a b : Text) → is_plain_word a ≡ true → is_plain_word b ≡ true →
      (first_of i (rows_after last.rules [] (a ∷ b ∷ [])) ≡ Some a) × (first_of j (rows_after last.rules [] (a ∷ b ∷ [])) ≡ Some b)
  last-values a b plain plain' = (
    rw (first_before_last a plain, last_behind a b plain') (simp (first, second, ahead, behind)),
    rw (first_before_last a plain, last_behind a b plain') (simp (first, second, ahead, behind)),
  )

  pub last-none : fault_at_last name i j [] ≡ MissingRequiredArgument ∷ []
  unfolding clap_on_literals
  last-none = refl

  pub last-left_out : (a : Text) → is_plain_word a ≡ true → fault_at_last name i j (a ∷ []) ≡ []
  unfolding walk_fault defaults_fault
  last-left_out a plain = rw (turn [] nothing_held 1 a plain refl last, first_before_last a plain) (simp (first, ahead, behind))

  pub last-takes : (a b : Text) → is_plain_word a ≡ true → is_plain_word b ≡ true → fault_at_last name i j (a ∷ b ∷ []) ≡ []
  unfolding walk_fault defaults_fault
  last-takes a b plain plain' =
      rw (turn [] nothing_held 1 a plain refl last, first_before_last a plain, turn [] (held_at [] i a) 2 b plain' refl last, last_behind a b plain')
      (simp (first, second, ahead, behind))

  pub last-many : (a b c : Text) (more : List Text) → is_plain_word a ≡ true → is_plain_word b ≡ true → is_plain_word c ≡ true →
      fault_at_last name i j (a ∷ b ∷ c ∷ more) ≡ UnknownArgument ∷ []
  unfolding walk_fault
  last-many a b c more plain plain' plain'' =
      rw (
        turn [] nothing_held 1 a plain refl last,
        first_before_last a plain,
        turn [] (held_at [] i a) 2 b plain' refl last,
        last_behind a b plain',
        turn [] (held_at (row_of i a ∷ []) j b) 3 c plain'' refl last,
      ) (simp (first, ahead))

-- one that takes three
module _ (name i j k : Text) (first : bytes_eq i i ≡ true) (second : bytes_eq j j ≡ true) (third : bytes_eq k k ≡ true)
    (ij : bytes_eq i j ≡ false) (ik : bytes_eq i k ≡ false) (jk : bytes_eq j k ≡ false)
    (ji : bytes_eq j i ≡ false) (ki : bytes_eq k i ≡ false) (kj : bytes_eq k j ≡ false) where
  abbrev pub three : Shape
  three = leaf name (i ∷ j ∷ k ∷ [])

  pub first_of_three : (a : Text) → is_plain_word a ≡ true → walked three.rules [] (standing nothing_held 1) a ≡ standing (held_at [] i a) 2
  first_of_three a plain = next [] nothing_held 1 a plain refl three.rules

  pub second_of_three : (a b : Text) → is_plain_word b ≡ true
      → walked three.rules [] (standing (held_at [] i a) 2) b ≡ standing (held_at (row_of i a ∷ []) j b) 3
  second_of_three a b plain = next [] (held_at [] i a) 2 b plain refl three.rules ∙ simp (first, ij)

  pub third_of_three : (a b c : Text) → is_plain_word c ≡ true
      → walked three.rules [] (standing (held_at (row_of i a ∷ []) j b) 3) c ≡ standing (held_at (row_of i a ∷ row_of j b ∷ []) k c) 4
  third_of_three a b c plain = next [] (held_at (row_of i a ∷ []) j b) 3 c plain refl three.rules ∙ simp (second, ij, jk)

  -- the three values that it finds
  pub three-values : (a b c : Text) → is_plain_word a ≡ true → is_plain_word b ≡ true → is_plain_word c ≡ true →
      (first_of i (rows_after three.rules [] (a ∷ b ∷ c ∷ [])) ≡ Some a) × ((first_of j (rows_after three.rules [] (a ∷ b ∷ c ∷ [])) ≡ Some b)
      × (first_of k (rows_after three.rules [] (a ∷ b ∷ c ∷ [])) ≡ Some c))
  three-values a b c plain plain' plain'' = (
    rw (first_of_three a plain, second_of_three a b plain', third_of_three a b c plain'') (simp (first, second, third, ij, ik, jk, ji, ki, kj)),
    (
      rw (first_of_three a plain, second_of_three a b plain', third_of_three a b c plain'') (simp (first, second, third, ij, ik, jk, ji, ki, kj)),
      rw (first_of_three a plain, second_of_three a b plain', third_of_three a b c plain'') (simp (first, second, third, ij, ik, jk, ji, ki, kj)),
    ),
  )

  pub three-none : fault_at name (i ∷ j ∷ k ∷ []) [] ≡ MissingRequiredArgument ∷ []
  unfolding clap_on_literals
  three-none = refl

  pub three-few : (a : Text) → is_plain_word a ≡ true → fault_at name (i ∷ j ∷ k ∷ []) (a ∷ []) ≡ MissingRequiredArgument ∷ []
  unfolding walk_fault defaults_fault
  three-few a plain = rw (turn [] nothing_held 1 a plain refl three, first_of_three a plain) (simp (first, ij, ik, ji, ki))

  pub three-fewer : (a b : Text) → is_plain_word a ≡ true → is_plain_word b ≡ true
      → fault_at name (i ∷ j ∷ k ∷ []) (a ∷ b ∷ []) ≡ MissingRequiredArgument ∷ []
  unfolding walk_fault defaults_fault
  three-fewer a b plain plain' =
      rw (turn [] nothing_held 1 a plain refl three, first_of_three a plain, turn [] (held_at [] i a) 2 b plain' refl three, second_of_three a b plain')
      (simp (first, second, ij, ik, jk, ji, ki, kj))

  pub three-takes : (a b c : Text) → is_plain_word a ≡ true → is_plain_word b ≡ true → is_plain_word c ≡ true
      → fault_at name (i ∷ j ∷ k ∷ []) (a ∷ b ∷ c ∷ []) ≡ []
  unfolding walk_fault defaults_fault
  three-takes a b c plain plain' plain'' =
      rw (
        turn [] nothing_held 1 a plain refl three,
        first_of_three a plain,
        turn [] (held_at [] i a) 2 b plain' refl three,
        second_of_three a b plain',
        turn [] (held_at (row_of i a ∷ []) j b) 3 c plain'' refl three,
        third_of_three a b c plain'',
      ) (simp (first, second, third, ij, ik, jk, ji, ki, kj))

  pub three-many : (a b c d : Text) (more : List Text) → is_plain_word a ≡ true → is_plain_word b ≡ true → is_plain_word c ≡ true → is_plain_word d ≡ true
      → fault_at name (i ∷ j ∷ k ∷ []) (a ∷ b ∷ c ∷ d ∷ more) ≡ UnknownArgument ∷ []
  unfolding walk_fault
  three-many a b c d more plain plain' plain'' last =
      rw (
        turn [] nothing_held 1 a plain refl three,
        first_of_three a plain,
        turn [] (held_at [] i a) 2 b plain' refl three,
        second_of_three a b plain',
        turn [] (held_at (row_of i a ∷ []) j b) 3 c plain'' refl three,
        third_of_three a b c plain'',
        turn [] (held_at (row_of i a ∷ row_of j b ∷ []) k c) 4 d last refl three,
      ) (simp (first, second, ij, jk, ji))

-- the program's fault is that of its command
pub no_fault : (f g : Kinds) → f ≡ or_else g [] → g ≡ [] → f ≡ []
no_fault f g is none = is ∙ ap (λ k. or_else k []) none

pub some_fault : (f g : Kinds) (k : ErrorKind) (ks : Kinds) → f ≡ or_else g [] → g ≡ k ∷ ks → f ≡ [] → ⊥
some_fault f g k ks is some none = let both : [] ≡ k ∷ ks = sym none ∙ is ∙ ap (λ x. or_else x []) some in cc

-- ---- what is found

-- the subcommand that was found has this name and these rows
pub subcommand_is : {Z : Type 0} (o : Option (Box SubCommand Z)) (name : Text) (rows : List Row) →
    Some name ≡ option_map (λ b. (out-SubCommand (box_value b)).name.now) o → Some rows ≡ option_map (λ p. p.1) (subcommand_rows o) →
    subcommand_rows o ≡ Some (name, rows)
subcommand_is None name rows named found = cc
subcommand_is (Some b) name rows named found = cc

-- one more word that a command takes
pub command_more : (name : Text) (ids : List (Bor Text)) (i : ℕ) (id : Bor Text) → i < length ids → id ≡ slice_index_or ids i id →
    with_rule (record { top = command_with name (map (λ w. w.now) (take i ids)); subs = [] }) (required_word id.now)
    ≡ record { top = command_with name (map (λ w. w.now) (take (i + 1) ids)); subs = [] }
command_more name ids i id lt at =
    let more : take (i + 1) ids ≡ take i ids ++ id ∷ [] = take_more ids i id lt ∙ ap (λ x. take i ids ++ x ∷ []) (sym at) in
    let rules : map required_word (map (λ w. w.now) (take (i + 1) ids))
    ≡ map required_word (map (λ w. w.now) (take i ids)) ++ required_word id.now ∷ [] =
    ap (λ xs. map required_word (map (λ w. w.now) xs)) more ∙ simp map-append in
    ap (λ rs. record { top = record (command_with name []) { rules = rs }; subs = [] }) (sym rules)
