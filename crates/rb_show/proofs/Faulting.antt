-- The reasons for the faults of a source, one behind the other, and what `faults` makes of the source.
use Rattle.std.proofs.Common.{◌≡◌, ℕ, ◌+◌, ◌<◌, ◌≤◌, List, [], ◌∷◌, ◌++◌, Result, Ok, Err, Vec, Global, IfOk, length, drop, get_or, refl, sym, subst, add-one}
use Rattle.std.proofs.Math.Seq.{drop-cons}
use Rattle.std.proofs.lemmas.List.{append-nil, append_assoc, drop_all}
use Rattle.rb_base.specs.declared.fault.SourceFault.{SourceFault}
use Rattle.rb_faults.specs.Told.{AreTold}
use Rattle.rb_hall.specs.Judgement.{Writes}
use Rattle.rb_why.specs.Source.{IsReason}
use Rattle.rb_show.specs.Faulted.{AreReasons, IsListOf, JudgesFaults, lists}

-- these are the reasons for the first so many faults: with those for the others behind them they are all
abbrev pub AreFirst : List ℕ → List ℕ → List SourceFault → ℕ → List ℕ → Type 0
AreFirst file source faults i told =
    (text : List ℕ) → AreReasons file source (drop i faults) text → AreReasons file source faults (told ++ text)

-- with one more behind them
pub one_more : (file source : List ℕ) (faults : List SourceFault) (i : ℕ) (other : SourceFault) (told reason next : List ℕ) → i < length faults
    → AreFirst file source faults i told → IsReason file source (get_or faults i other) reason → next ≡ told ++ reason
    → AreFirst file source faults (i + 1) next
one_more file source faults i other told reason next below first is more text later =
    let behind = subst (λ (n : ℕ). AreReasons file source (drop n faults) text) (add-one i) later in
    let here = subst (λ (fs : List SourceFault). AreReasons file source fs (reason ++ text)) (sym (drop-cons faults i other below))
    (reason, text, is, behind, refl) in
    subst (λ (bytes : List ℕ). AreReasons file source faults (bytes ++ text)) (sym more)
    (subst (AreReasons file source faults) (sym (append_assoc told reason text)) (first (reason ++ text) here))

-- none is left
pub all_told : (file source : List ℕ) (faults : List SourceFault) (i : ℕ) (told : List ℕ) → length faults ≤ i
    → AreFirst file source faults i told → AreReasons file source faults told
all_told file source faults i told all first =
    subst (AreReasons file source faults) (append-nil told)
    (first [] (subst (λ (fs : List SourceFault). AreReasons file source fs []) (sym (drop_all i faults all)) refl))

-- what is told of a source with its faults is what `faults` makes of it
pub listed : {E : Type 0} (file source : List ℕ) (faults : List SourceFault) (result : Result (Vec ℕ Global) E) → AreTold source faults
    → IfOk result (λ told. IsListOf file source faults told.items) → IfOk result (λ told. JudgesFaults file (source ∷ []) (Writes told.items))
listed file source faults (Ok told) are is = lists source faults told.items are is
listed file source faults (Err e) are is = tt
