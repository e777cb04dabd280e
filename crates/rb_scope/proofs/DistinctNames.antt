-- In the scope of a program without a fault each name is declared once, so its processes, channels and conversations have names of
-- their own.
use Rattle.std.proofs.Common.{◌≡◌, ℕ, ◌+◌, ◌≤◌, Bool, true, false, cond, List, [], ◌∷◌, ◌++◌, map, refl, sym, ap, ap₂, subst, ◌∙◌, arith}
use Rattle.std.specs.List.{AllByRecursion, IsDistinct, list_any}
use Rattle.std.proofs.Math.Seq.{append_snoc}
use Rattle.std.proofs.lemmas.Bool.{or_parts}
use Rattle.std.proofs.lemmas.Bool.Decides.{same_from_decides, Decides-like}
use Rattle.std.proofs.lemmas.Map.Keys.{IsDistinct-cons}
use Rattle.std.proofs.lemmas.Slice.Eq.{bytes_eq-Decides}
use Rattle.rb_syntax.specs.Tree.{ChannelDeclaration, ConversationDeclaration, Identifier, ProcessDeclaration, Tree}
use Rattle.rb_meaning.specs.Environment.{same_name}
use Rattle.rb_scope.specs.FirstFault.{is_before}
use Rattle.rb_scope.specs.Limits.{AreDistinct, HasDistinctNames, outer_names}
use Rattle.rb_scope.specs.Rules.{faults_of, is_declared_twice, is_named}
use Rattle.rb_scope.specs.Scopes.{Declared, channels_from, conversations_from, in_text_order, processes_from, program_scope, take_place}
use Rattle.rb_scope.specs.Sites.{scope_sites, tree_sites}
use Rattle.rb_scope.proofs.EachSite.{AreKept, IsKept, all_kept, unbroken}
use Rattle.rb_scope.proofs.PartsOfTrees.{tree_parts}

-- two names are one, or not
pub same_text : (x y : List ℕ) → same_name x y ≡ true → x ≡ y
same_text x y e = (bytes_eq-Decides x y).0 e

pub same_itself : (x : List ℕ) → same_name x x ≡ true
same_itself x = (bytes_eq-Decides x x).1 refl

pub same_flipped : (x y : List ℕ) → same_name x y ≡ same_name y x
same_flipped x y =
    same_from_decides (same_name x y) (same_name y x) (bytes_eq-Decides x y)
    (Decides-like (same_name y x) sym sym (bytes_eq-Decides y x))

-- how many of these declarations have this name
abbrev pub one_if : Bool → ℕ
one_if true = 1
one_if false = 0

abbrev pub count_named : List ℕ → List Declared → ℕ
count_named x [] = 0
count_named x (one ∷ others) = one_if (same_name one.name.text x) + count_named x others

count-append : (x : List ℕ) (ds es : List Declared) → count_named x (ds ++ es) ≡ count_named x ds + count_named x es
count-append x [] es = omega arith
count-append x (one ∷ others) es = ap (λ n. one_if (same_name one.name.text x) + n) (count-append x others es) ∙ omega arith

-- declarations of which none has the name
none-counted : (name : Identifier) (ds : List Declared) → list_any (is_named name) ds ≡ false → count_named name.text ds ≡ 0
none-counted name [] e = refl
none-counted name (one ∷ others) e =
    let parts = or_parts (is_named name one) (list_any (is_named name) others) e in
    let here : one_if (is_named name one) ≡ 0 = ap one_if parts.0 in
    omega (arith, none-counted name others parts.1)

one-counted : (x : List ℕ) (earlier : List Declared) (one : Declared) (same : Bool) → same_name one.name.text x ≡ same
    → count_named one.name.text earlier ≡ 0 → count_named x earlier ≤ 1 → count_named x (earlier ++ one ∷ []) ≤ 1
one-counted x earlier one true e none few =
    let none' : count_named x earlier ≡ 0 = subst (λ y. count_named y earlier ≡ 0) (same_text one.name.text x e) none in
    let last : count_named x (one ∷ []) ≡ 1 = ap (λ b. one_if b + 0) e in
    omega (arith, count-append x earlier (one ∷ []))
one-counted x earlier one false e none few =
    let last : count_named x (one ∷ []) ≡ 0 = ap (λ b. one_if b + 0) e in
    omega (arith, count-append x earlier (one ∷ []))

-- where none is declared twice, each is declared once at most
declared_once : (earlier rest : List Declared) → AreKept (scope_sites earlier rest)
    → ((x : List ℕ) → count_named x earlier ≤ 1) → (x : List ℕ) → count_named x (earlier ++ rest) ≤ 1
declared_once earlier [] kept few x = omega (arith, count-append x earlier [], few x)
declared_once earlier (one ∷ others) kept few x =
    let none = none-counted one.name earlier (unbroken (is_declared_twice earlier one) _ one.name.place kept.0) in
    let few' = λ (y : List ℕ). one-counted y earlier one (same_name one.name.text y) refl none (few y) in
    subst (λ ds. count_named x ds ≤ 1) (append_snoc earlier one others) (declared_once (earlier ++ one ∷ []) others kept.1 few' x)

-- to change places changes no count
count-placed : (x : List ℕ) (one other : Declared) (before : Bool) (others rest : List Declared)
    → count_named x rest ≡ count_named x (one ∷ others)
    → count_named x (cond before (one ∷ other ∷ others) (other ∷ rest)) ≡ count_named x (one ∷ other ∷ others)
count-placed x one other true others rest e = refl
count-placed x one other false others rest e = ap (λ n. one_if (same_name other.name.text x) + n) e ∙ omega arith

count-take_place : (x : List ℕ) (one : Declared) (others : List Declared)
    → count_named x (take_place one others) ≡ count_named x (one ∷ others)
count-take_place x one [] = refl
count-take_place x one (other ∷ others) =
    count-placed x one other (is_before one.name.place other.name.place) others (take_place one others) (count-take_place x one others)

count-in_text_order : (x : List ℕ) (more others : List Declared)
    → count_named x (in_text_order more others) ≡ count_named x more + count_named x others
count-in_text_order x [] others = omega arith
count-in_text_order x (one ∷ more) others =
    count-in_text_order x more (take_place one others) ∙ ap (λ n. count_named x more + n) (count-take_place x one others) ∙ omega arith

-- names that are declared once are distinct
abbrev pub names_in : List Declared → List (List ℕ)
names_in ds = map (λ one. one.name.text) ds

apart : (x : List ℕ) (ds : List Declared) → count_named x ds ≡ 0 → AllByRecursion (λ y. same_name x y ≡ false) (names_in ds)
apart x [] none = tt
apart x (one ∷ others) none =
    (apart-first (same_name one.name.text x) refl, apart x others (omega arith))
  where
    apart-first : (same : Bool) → same_name one.name.text x ≡ same → same_name x one.name.text ≡ false
    apart-first true e =
        let counts : one_if (same_name one.name.text x) ≡ 1 = ap one_if e in
        absurd (omega arith)
    apart-first false e = same_flipped x one.name.text ∙ e

distinct-none : AreDistinct []
unfolding IsDistinct
distinct-none = tt

pub distinct_names : (ds : List Declared) → ((x : List ℕ) → count_named x ds ≤ 1) → AreDistinct (names_in ds)
distinct_names [] few = distinct-none
distinct_names (one ∷ others) few =
    let here : one_if (same_name one.name.text one.name.text) ≡ 1 = ap one_if (same_itself one.name.text) in
    let most : one_if (same_name one.name.text one.name.text) + count_named one.name.text others ≤ 1 = few one.name.text in
    IsDistinct-cons same_name one.name.text (names_in others) (apart one.name.text others (omega arith))
    (distinct_names others (λ x. fewer x (few x)))
  where
    fewer : (x : List ℕ) → one_if (same_name one.name.text x) + count_named x others ≤ 1 → count_named x others ≤ 1
    fewer x h = omega arith

-- the names of the three rows of the program's scope
channel_names : (k : ℕ) (cs : List ChannelDeclaration) → names_in (channels_from k cs) ≡ map (λ c. c.name.text) cs
channel_names k [] = refl
channel_names k (c ∷ cs) = ap (λ xs. c.name.text ∷ xs) (channel_names (k + 1) cs)

conversation_names : (k : ℕ) (cs : List ConversationDeclaration) → names_in (conversations_from k cs) ≡ map (λ c. c.name.text) cs
conversation_names k [] = refl
conversation_names k (c ∷ cs) = ap (λ xs. c.name.text ∷ xs) (conversation_names (k + 1) cs)

process_names : (k : ℕ) (ps : List ProcessDeclaration) → names_in (processes_from k ps) ≡ map (λ p. p.name.text) ps
process_names k [] = refl
process_names k (p ∷ ps) = ap (λ xs. p.name.text ∷ xs) (process_names (k + 1) ps)

-- how many times a name is declared in the three rows
abbrev count_in_rows : Tree → List ℕ → ℕ
count_in_rows tree x =
    count_named x (conversations_from 0 tree.conversations) + count_named x (channels_from 0 tree.channels)
    + count_named x (processes_from 0 tree.processes)

program-once : (tree : Tree) → AreKept (tree_sites tree) → (x : List ℕ) → count_in_rows tree x ≤ 1
program-once tree kept x =
    let first = declared_once [] (program_scope tree) (tree_parts IsKept tree kept).declares (λ y. omega arith) x in
    let conversations = conversations_from 0 tree.conversations in
    let channels = channels_from 0 tree.channels in
    omega (
      arith,
      first,
      count-append x (in_text_order conversations channels) (processes_from 0 tree.processes),
      count-in_text_order x conversations channels,
    )

-- the names of all three rows
names-append : (ds es : List Declared) → names_in (ds ++ es) ≡ names_in ds ++ names_in es
names-append [] es = refl
names-append (one ∷ others) es = ap (λ xs. one.name.text ∷ xs) (names-append others es)

row_names : (tree : Tree)
    → names_in (processes_from 0 tree.processes ++ channels_from 0 tree.channels ++ conversations_from 0 tree.conversations) ≡ outer_names tree
row_names tree =
    let ps = processes_from 0 tree.processes in
    let cs = channels_from 0 tree.channels in
    let ds = conversations_from 0 tree.conversations in
    names-append (ps ++ cs) ds
    ∙ ap (λ xs. xs ++ names_in ds) (names-append ps cs ∙ ap₂ ◌++◌ (process_names 0 tree.processes) (channel_names 0 tree.channels))
    ∙ ap (λ xs. map (λ process. process.name.text) tree.processes ++ map (λ channel. channel.name.text) tree.channels ++ xs)
    (conversation_names 0 tree.conversations)

pub have_distinct_names : (tree : Tree) → faults_of tree ≡ [] → HasDistinctNames tree
have_distinct_names tree e =
    let once = program-once tree (all_kept tree e) in record {
      processes =
          subst AreDistinct (process_names 0 tree.processes)
          (distinct_names (processes_from 0 tree.processes) (λ x. omega (arith, once x)));
      channels =
          subst AreDistinct (channel_names 0 tree.channels)
          (distinct_names (channels_from 0 tree.channels) (λ x. omega (arith, once x)));
      conversations =
          subst AreDistinct (conversation_names 0 tree.conversations)
          (distinct_names (conversations_from 0 tree.conversations) (λ x. omega (arith, once x)));
      all =
          subst AreDistinct (row_names tree)
          (distinct_names (processes_from 0 tree.processes ++ channels_from 0 tree.channels ++ conversations_from 0 tree.conversations)
          (λ x. omega (
            arith,
            once x,
            count-append x (processes_from 0 tree.processes ++ channels_from 0 tree.channels) (conversations_from 0 tree.conversations),
            count-append x (processes_from 0 tree.processes) (channels_from 0 tree.channels),
          )));
    }
