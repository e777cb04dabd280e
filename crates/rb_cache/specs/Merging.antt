-- How the innermost level's entries are merged into the level around it, one by one.
use Rattle.std.specs.Prelude.{ℕ, ◌+◌, Bool, cond, nat_lt, not, ◌&&◌, slice_set, List, [], ◌∷◌, ◌++◌, take, length}
use Rattle.rb_cache.specs.declared.entry.Entry.{Entry}
use Rattle.rb_cache.specs.declared.entry.Mark.{Mark}

-- the stamps and the entries so far
pub record Merge : Type 0 where
  pub stamps : List ℕ
  pub log : List Entry

-- the first entries of the arena are those so far
abbrev pub so_far : List ℕ → ℕ → List Entry → Merge
so_far stamps kept arena = record { stamps = stamps; log = take kept arena }

-- an entry is kept if its place is below the level's height and was not saved there before
abbrev pub is_merged : Mark → Entry → Bool
is_merged l e = nat_lt e.place l.height && not (nat_lt l.first e.earlier)

-- an entry is kept, or its stamp goes back
abbrev pub merge_one : Mark → Merge → Entry → Merge
merge_one l s e =
    cond (is_merged l e)
    (record { stamps = slice_set s.stamps e.place (length s.log + 1); log = s.log ++ e ∷ [] })
    (record { stamps = slice_set s.stamps e.place e.earlier; log = s.log })

-- entries one after the other
abbrev pub merge_all : Mark → Merge → List Entry → Merge
merge_all l s [] = s
merge_all l s (e ∷ es) = merge_all l (merge_one l s e) es

-- the innermost of these levels, or one with nothing below it
abbrev pub innermost : List Mark → Mark
innermost [] = record { first = 0; height = 0 }
innermost (m ∷ ms) = m
