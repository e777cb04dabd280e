-- Rows of a plain tree, as a vector that they are pushed to holds them.
use Rattle.std.proofs.Common.{◌≡◌, List, [], ◌∷◌, ◌++◌, length, refl, ap}
use Rattle.std.proofs.lemmas.Grind.{common_steps}
use Rattle.rb_syntax.specs.declared.expression.Link.{Link}
use Rattle.rb_syntax.specs.declared.statement.Block.{Block}
use Rattle.rb_syntax.specs.declared.statement.Statement.{Statement}
use Rattle.rb_syntax.specs.declared.expression.Op.{Op}
use Rattle.rb_syntax.specs.Tree.{Expression, Links, NoLink, Linked, Command, Commands, NoCommand, Then, Body, Alternates, NoAlternate, Alternate}
use Rattle.rb_syntax.specs.Append.{links_append, commands_append, alternates_append}
use Rattle.rb_syntax.specs.Plain.{expression, links_of, command, commands_of, body, alternates_of}
use Rattle.rb_syntax.proofs.Bridge.{trees}

-- the links of two lists in a row
pub links_of_append : (xs ys : List Link) → links_of (xs ++ ys) ≡ links_append (links_of xs) (links_of ys)
links_of_append [] ys = refl
links_of_append (x ∷ xs) ys = ap (Linked x.op (expression x.right)) (links_of_append xs ys)

-- nothing put after a row leaves it
pub links_append_none : (links : Links) → links_append links NoLink ≡ links
links_append_none NoLink = refl
links_append_none (Linked op right links) = ap (Linked op right) (links_append_none links)

-- three rows, put together either way
pub links_append_assoc : (a b c : Links) → links_append (links_append a b) c ≡ links_append a (links_append b c)
links_append_assoc NoLink b c = refl
links_append_assoc (Linked op right links) b c = ap (Linked op right) (links_append_assoc links b c)

-- a row that gained its last, with what is still to come
pub links_append_one : (a : Links) (op : Op) (right : Expression) (after : Links)
    → links_append (links_append a (Linked op right NoLink)) after ≡ links_append a (Linked op right after)
links_append_one a op right after = links_append_assoc a (Linked op right NoLink) after

-- one more link, with what is still to come
pub links_push : (xs : List Link) (x : Link) (after : Links)
    → links_append (links_of (xs ++ (x ∷ []))) after ≡ links_append (links_of xs) (Linked x.op (expression x.right) after)
links_push [] x after = refl
links_push (y ∷ xs) x after = ap (Linked y.op (expression y.right)) (links_push xs x after)

-- a list that gives no links is empty
pub links_none : (xs : List Link) → links_of xs ≡ NoLink → length xs ≡ 0
links_none [] e = refl
links_none (x ∷ xs) e = cc

-- the statements of two lists in a row
pub commands_of_append : (xs ys : List Statement) → commands_of (xs ++ ys) ≡ commands_append (commands_of xs) (commands_of ys)
commands_of_append [] ys = refl
commands_of_append (x ∷ xs) ys = ap (Then (command x)) (commands_of_append xs ys)

-- nothing put after a row leaves it
pub commands_append_none : (commands : Commands) → commands_append commands NoCommand ≡ commands
commands_append_none NoCommand = refl
commands_append_none (Then first rest) = ap (Then first) (commands_append_none rest)

-- three rows, put together either way
pub commands_append_assoc : (a b c : Commands) → commands_append (commands_append a b) c ≡ commands_append a (commands_append b c)
commands_append_assoc NoCommand b c = refl
commands_append_assoc (Then first rest) b c = ap (Then first) (commands_append_assoc rest b c)

-- a row that gained its last, with what is still to come
pub commands_append_one : (a : Commands) (next : Command) (after : Commands)
    → commands_append (commands_append a (Then next NoCommand)) after ≡ commands_append a (Then next after)
commands_append_one a next after = commands_append_assoc a (Then next NoCommand) after

-- one more statement, with what is still to come
pub commands_push : (xs : List Statement) (x : Statement) (after : Commands)
    → commands_append (commands_of (xs ++ (x ∷ []))) after ≡ commands_append (commands_of xs) (Then (command x) after)
commands_push [] x after = refl
commands_push (y ∷ xs) x after = ap (Then (command y)) (commands_push xs x after)

-- a list that gives no statements is empty
pub commands_none : (xs : List Statement) → commands_of xs ≡ NoCommand → length xs ≡ 0
commands_none [] e = refl
commands_none (x ∷ xs) e = cc

-- the alternates of two lists in a row
pub alternates_of_append : (xs ys : List Block) → alternates_of (xs ++ ys) ≡ alternates_append (alternates_of xs) (alternates_of ys)
alternates_of_append [] ys = refl
alternates_of_append (x ∷ xs) ys = ap (Alternate (body x)) (alternates_of_append xs ys)

-- nothing put after a row leaves it
pub alternates_append_none : (alternates : Alternates) → alternates_append alternates NoAlternate ≡ alternates
alternates_append_none NoAlternate = refl
alternates_append_none (Alternate body others) = ap (Alternate body) (alternates_append_none others)

-- three rows, put together either way
pub alternates_append_assoc : (a b c : Alternates) → alternates_append (alternates_append a b) c ≡ alternates_append a (alternates_append b c)
alternates_append_assoc NoAlternate b c = refl
alternates_append_assoc (Alternate body others) b c = ap (Alternate body) (alternates_append_assoc others b c)

-- a row that gained its last, with what is still to come
pub alternates_append_one : (a : Alternates) (next : Body) (after : Alternates)
    → alternates_append (alternates_append a (Alternate next NoAlternate)) after ≡ alternates_append a (Alternate next after)
alternates_append_one a next after = alternates_append_assoc a (Alternate next NoAlternate) after

-- one more alternate, with what is still to come
pub alternates_push : (xs : List Block) (x : Block) (after : Alternates)
    → alternates_append (alternates_of (xs ++ (x ∷ []))) after ≡ alternates_append (alternates_of xs) (Alternate (body x) after)
alternates_push [] x after = refl
alternates_push (y ∷ xs) x after = ap (Alternate (body y)) (alternates_push xs x after)

-- a list that gives no alternates is empty
pub alternates_none : (xs : List Block) → alternates_of xs ≡ NoAlternate → length xs ≡ 0
alternates_none [] e = refl
alternates_none (x ∷ xs) e = cc

-- for a loop that pushes, and for code that asks whether a vector is empty
pub ruleset pushes = (
  common_steps,
  trees,
  links_of_append,
  links_append_none,
  links_append_one,
  links_push,
  links_none,
  commands_of_append,
  commands_append_none,
  commands_append_one,
  commands_push,
  commands_none,
  alternates_of_append,
  alternates_append_none,
  alternates_append_one,
  alternates_push,
  alternates_none,
)
