-- What holds of the names.
use Rattle.std.specs.Prelude.{◌≡◌, true}
use Rattle.rb_base.specs.Words.{fault_word, cause_word}
use Rattle.rb_base.specs.Reserved.{is_one_of}
use Rattle.rb_base.specs.declared.fault.FaultName.{FaultName}
use Rattle.rb_base.specs.declared.event.Cause.{Cause}
use Rattle.rb_reasons.specs.Names.{names}

-- each fault and each cause has its word among the names
pub record NamesAll : Type 0 where
  pub faults : (fault : FaultName) → is_one_of names (fault_word fault) ≡ true
  pub causes : (cause : Cause) → is_one_of names (cause_word cause) ≡ true
