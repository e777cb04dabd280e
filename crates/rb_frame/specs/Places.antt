-- Places that are one.
use Rattle.std.specs.Prelude.{◌==◌, Bool, ◌&&◌}
use Rattle.rb_base.specs.declared.place.Place.{Place}

-- whether two places are one
abbrev pub is_place : Place → Place → Bool
is_place p q = (p.line == q.line) && (p.column == q.column)
