-- What the spots and the kinds of variables in memory stand for, and the sites of a quantified expression there.
use Rattle.std.specs.Prelude.{ℕ, List, Option}
use Rattle.rb_syntax.specs.declared.expression.Quantified.{Quantified}
use Rattle.rb_syntax.specs.Tree.{Quantification}
use Rattle.rb_syntax.specs.Plain.{expression, identifier}
use Rattle.rb_scope.specs.Sites.{Spot as PlainSpot, Site, expression_sites}
use Rattle.rb_scope.specs.Memory.{scopes_of}
use Rattle.rb_scope.specs.declared.slot.Slot.{Slot}
use Rattle.rb_scope.specs.declared.slot.Slot.TheVariants.{Global, Local}
use Rattle.rb_faults.specs.declared.rows.Kind.{Kind}
use Rattle.rb_faults.specs.declared.rows.Kind.TheVariants.{OfProcess, OfCall}
use Rattle.rb_faults.specs.declared.spot.Spot.{Spot}

-- the spot that one in memory stands for
abbrev pub spot_of : Spot → PlainSpot
spot_of spot = record { scopes = scopes_of spot.scopes.now; taken = spot.taken; quantified = spot.quantified; in_test = spot.in_test }

-- the slots of the variables of a process, or of a call
abbrev pub slot_in : Kind → ℕ → Option ℕ → Slot
slot_in OfProcess = Global
slot_in OfCall = Local

-- the sites of a quantified expression in memory
abbrev pub quantified_sites : PlainSpot → Quantified → List Site
quantified_sites spot over =
    expression_sites spot
    (Quantification over.kind over.place (identifier over.name) (expression over.low.value) (expression over.high.value)
    (expression over.body.value))
