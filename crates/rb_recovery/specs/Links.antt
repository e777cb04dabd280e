-- The links of a run, as contracts see them.
use Rattle.std.specs.Prelude.{ℕ, ◌-◌, ◌^◌, ◌<◌, Bool, true, false, List}
use Rattle.rb_recovery.specs.declared.links.Link.{Link}

-- the links of all turns that were kept, the newest last; whether they are held; and for how many more there is room
pub record Chain : Type 0 where
  pub items : List Link
  pub held : Bool
  pub room : ℕ

-- Where links are held there is room for as many more as memory is left for; where they are not, there always is: for more than there may
-- be turns.
abbrev pub room_for : Bool → ℕ → ℕ → ℕ
room_for true count capacity = capacity - count
room_for false count capacity = 2 ^ 32

-- there is room for one more
abbrev pub HasRoom : Chain → Type 0
HasRoom links = 0 < links.room
