-- The scopes that those in memory stand for.
use Rattle.std.specs.Prelude.{◌≡◌, ℕ, ◌+◌, cond, List, [], ◌∷◌, map, Option, Some, None}
use denote.Ref.{Bor}
use Rattle.std.specs.HashMap.{HashMap, get_by}
use Rattle.rb_meaning.specs.Environment.{same_name}
use Rattle.rb_syntax.specs.Plain.{identifier}
use Rattle.rb_scope.specs.Scopes.{Declared}
use Rattle.rb_scope.specs.declared.declared.Declared.{Declared as Held}
use Rattle.rb_scope.specs.declared.scope.Scopes.{Scopes, None as no_scope, Within'}

-- the declaration that one in memory stands for
abbrev pub held : Held → Declared
held one = record { name = identifier one.name; slot = one.slot; parameters = one.parameters }

-- the declarations of a row in memory
abbrev pub all_held : List Held → List Declared
all_held declared = map held declared

-- the place of the first declaration of a name, where the first of them all has this place
abbrev pub place_from : ℕ → List ℕ → List Held → Option ℕ
place_from k x [] = None
place_from k x (one ∷ others) = cond (same_name one.name.text.now x) (Some k) (place_from (k + 1) x others)

-- a table tells for each name the place of its first declaration among these, if there is one
abbrev pub IsIndex : {S : Type 0} → HashMap (Bor (List ℕ)) ℕ S → List Held → Type 0
IsIndex places declared = (x : List ℕ) → get_by (λ name. same_name x name.now) places ≡ place_from 0 x declared

-- the scopes of a chain in memory, the innermost first
abbrev pub scopes_of : Scopes → List (List Declared)
scopes_of no_scope = []
scopes_of (Within' scope pointer around) = scope.now ∷ scopes_of around
