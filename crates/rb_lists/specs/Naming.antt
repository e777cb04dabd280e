-- Tests of names.
use Rattle.std.specs.Prelude.{ℕ, Bool, true, not, ◌&&◌, List, [], ◌∷◌}
use Rattle.std.specs.Borrow.{Bor}
use Rattle.std.specs.List.{All, list_any}
use Rattle.rb_base.specs.declared.edition.Edition.{Edition}
use Rattle.rb_meaning.specs.Environment.{same_name}
use Rattle.rb_scope.specs.Spelled.{IsNaming, IsQuotable}
use Rattle.rb_code.specs.declared.code.ProcessCode.{ProcessCode}
use Rattle.rb_code.specs.declared.code.ProcedureCode.{ProcedureCode}

-- no two of these names are alike
abbrev pub all_differ : List (Bor (List ℕ)) → Bool
all_differ [] = true
all_differ (name ∷ names) = not (list_any (λ other. same_name name.now other.now) names) && all_differ names

-- the procedures of a process have names of an edition
pub record NamesProcedures (edition : Edition) (process : ProcessCode) : Type 0 where
  pub each : All (λ (one : ProcedureCode). IsNaming edition one.name) process.procedures.items

-- all of these are names of an edition
pub record AreNamings (edition : Edition) (names : List (List ℕ)) : Type 0 where
  pub each : All (IsNaming edition) names

-- each of these may stand between quotes
pub record AreQuotable (texts : List (List ℕ)) : Type 0 where
  pub each : All IsQuotable texts
