-- Each fault and each cause has its word among the names.
use Rattle.std.proofs.Common.{◌≡◌, true, refl}
use Rattle.rb_base.specs.Words.{fault_word, cause_word}
use Rattle.rb_base.specs.Reserved.{is_one_of}
use Rattle.rb_base.specs.declared.fault.FaultName.{FaultName}
use Rattle.rb_base.specs.declared.fault.FaultName.TheVariants.{X1, X2, X3, X4, X5, Y1, Y2, S1, S2, S3, S4, S5, S6, S7, S8, S9, S10, S11, N1, N2, N3, N4, N5, N6, N7, N8, N9, N10, N11, N12, N13, T1, T2, T3, T4, V1, V2, V3, V4, B1, B2, B3, H1, H2, H3, H4, H5, I1, I2}
use Rattle.rb_base.specs.declared.event.Cause.{Cause}
use Rattle.rb_base.specs.declared.event.Cause.TheVariants.{Test, Fail, Overrun, Zero, Overflow, Index, Stack, Range, Calls, Depth, Hold, Inner, Broken}
use Rattle.rb_reasons.specs.Names.{names}

pub fault_named : (fault : FaultName) → is_one_of names (fault_word fault) ≡ true
fault_named X1 = refl
fault_named X2 = refl
fault_named X3 = refl
fault_named X4 = refl
fault_named X5 = refl
fault_named Y1 = refl
fault_named Y2 = refl
fault_named S1 = refl
fault_named S2 = refl
fault_named S3 = refl
fault_named S4 = refl
fault_named S5 = refl
fault_named S6 = refl
fault_named S7 = refl
fault_named S8 = refl
fault_named S9 = refl
fault_named S10 = refl
fault_named S11 = refl
fault_named N1 = refl
fault_named N2 = refl
fault_named N3 = refl
fault_named N4 = refl
fault_named N5 = refl
fault_named N6 = refl
fault_named N7 = refl
fault_named N8 = refl
fault_named N9 = refl
fault_named N10 = refl
fault_named N11 = refl
fault_named N12 = refl
fault_named N13 = refl
fault_named T1 = refl
fault_named T2 = refl
fault_named T3 = refl
fault_named T4 = refl
fault_named V1 = refl
fault_named V2 = refl
fault_named V3 = refl
fault_named V4 = refl
fault_named B1 = refl
fault_named B2 = refl
fault_named B3 = refl
fault_named H1 = refl
fault_named H2 = refl
fault_named H3 = refl
fault_named H4 = refl
fault_named H5 = refl
fault_named I1 = refl
fault_named I2 = refl

pub cause_named : (cause : Cause) → is_one_of names (cause_word cause) ≡ true
cause_named Test = refl
cause_named Fail = refl
cause_named Overrun = refl
cause_named Zero = refl
cause_named Overflow = refl
cause_named Index = refl
cause_named Stack = refl
cause_named Range = refl
cause_named Calls = refl
cause_named Depth = refl
cause_named Hold = refl
cause_named Inner = refl
cause_named Broken = refl
