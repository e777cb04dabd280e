-- What the join of two entries gives, by numbers.
use Rattle.std.specs.Prelude.{◌≡◌, ℕ, ◌<◌, List, [], length, get_or, Option, Some, None}
use Rattle.rb_code.specs.SoundCode.Sound.{Entry}
use Rattle.rb_flow.specs.Held.{entry_of, IsHeld}
use Rattle.rb_entries.specs.Parts.{mode_of}
use Rattle.rb_entries.specs.declared.entry.Held.{Held}
use Rattle.rb_entries.specs.declared.entry.Mode.{Mode as HeldMode}
use Rattle.rb_flow.specs.declared.lists.Lists.{Lists}
use Rattle.rb_search.specs.declared.join.Met.{Met}
use Rattle.rb_search.specs.declared.join.Met.TheVariants.{Apart, Same, Weaker}

abbrev pub met_of : Lists → Held → Met → Option Entry
met_of lists found Apart = None
met_of lists found Same = Some (entry_of lists found)
met_of lists found (Weaker held) = Some (entry_of lists held)

abbrev pub IsMet : Lists → Met → Type 0
IsMet lists (Weaker held) = IsHeld lists held
IsMet lists _ = Unit {0}

abbrev pub IsThere : {X : Type 0} → List X → Option ℕ → Type 0
IsThere lists None = Unit {0}
IsThere lists (Some at) = at < length lists

-- where a list is the same as list a was, it is known by the same number
abbrev pub IsKnownBy : {X : Type 0} → List (List X) → List (List X) → ℕ → Option ℕ → Type 0
IsKnownBy before after a None = Unit {0}
IsKnownBy before after a (Some at) = get_or after at [] ≡ get_or before a [] → at ≡ a

-- an entry that is weaker by its parts has other operands or another mode
abbrev pub HasOther : Held → ℕ → HeldMode → Met → Type 0
HasOther found operands mode (Weaker held) = operands ≡ found.operands → mode_of mode ≡ mode_of found.mode → ⊥
HasOther found operands mode _ = Unit {0}

-- what is answered as weaker is not what was found
abbrev pub IsOther : Lists → Lists → Held → Met → Type 0
IsOther before after found (Weaker held) = entry_of after held ≡ entry_of before found → ⊥
IsOther before after found _ = Unit {0}
