-- Places that are added in turn, and the first of a `print`.
use Rattle.std.proofs.Common.{◌≡◌, List, [], ◌∷◌, map, option_map, slice_get, refl}
use Rattle.std.proofs.lemmas.List.{append-nil, append_assoc}
use Rattle.rb_syntax.specs.declared.statement.Item.{Item}
use Rattle.rb_syntax.specs.Plain.{print_item}
use Rattle.rb_code.specs.Agreement.Places.{items_place}

-- for walks over parts that are looked through one after another
pub ruleset walks = (append-nil, append_assoc)

pub first_place : (items : List Item) → items_place (map print_item items) ≡ option_map (λ (item : Item). item.place) (slice_get items 0)
first_place [] = refl
first_place (item ∷ items) = refl
