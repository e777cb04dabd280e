-- Commands over one text: what is held of it, and what is made of it.
use Rattle.std.proofs.Common.{◌≡◌, ℕ, List, [], ◌∷◌, ◌++◌, length, IfOk, Result, Ok, Err, sym, subst, arith}
use Rattle.rb_syntax.specs.Tree.{Tree}
use Rattle.rb_hall.specs.declared.command.Stop.{Stop}
use Rattle.rb_hall.specs.declared.command.Stop.TheVariants as stop
use Rattle.rb_hall.specs.declared.fault.Fault.{Fault}
use Rattle.rb_hall.specs.Judgement.{Judgement, Judging, Writes}
use Rattle.rb_hall.specs.Ends.{HoldsOn, IfRefused, Refuses}
use Rattle.rb_verdict.specs.Words.{text_named}
use Rattle.rb_verdict.specs.Texts.{SourceRefused}
use Rattle.rb_verdict.specs.Judging.{CheckGoesOn, JudgesSource, accepted_line, accepts, first_accepted, first_refused}
use Rattle.rb_commands.specs.Explained.{ExplainsSource}
use Rattle.rb_commands.specs.Held.{HoldsChecked, HoldsCompiled, IsStopFor, StopsForSource}
use Rattle.rb_commands.specs.declared.check.Checked.{Checked}
use Rattle.rb_commands.specs.declared.check.Checked.TheVariants as checked
use Rattle.rb_commands.specs.declared.source.Compiled.{Compiled}
use Rattle.rb_commands.specs.declared.source.Compiled.TheVariants as compiled
use Rattle.rb_commands.specs.declared.why.Why.{Why}
use Rattle.rb_commands.specs.declared.why.Why.TheVariants as knows
use Rattle.rb_commands.proofs.Taken.{refused_as}

-- who stops for a source says so of it
pub stops : (T : Type 0) (source : List ℕ) (why : Stop Why) → IsStopFor source why → StopsForSource {T = T} source (Err why)
stops T source (stop.Refused fault known) refused = refused
stops T source stop.Memory refused = tt

-- ---- the first text, where nothing is held of any

module _ (judges : Judging) {H : Type 0} (holds : List (List ℕ) → H → Type 0) (held : H)
    (none : (texts : List (List ℕ)) → holds texts held → texts ≡ []) (text : List ℕ) where
  -- it is refused, and nothing more is known
  pub refused_first : (fault : Fault) (known : Why) → Refuses judges ExplainsSource (text ∷ []) fault known → (texts : List (List ℕ))
      → holds texts held → Refuses judges ExplainsSource (texts ++ text ∷ []) fault known
  refused_first fault known refused texts h =
      subst (λ (ts : List (List ℕ)). Refuses judges ExplainsSource (ts ++ text ∷ []) fault known) (sym (none texts h)) refused

  -- it is taken, and no file is left
  pub taken_alone : (name : List ℕ) (next : H) → holds (text ∷ []) next → (texts : List (List ℕ)) → holds texts held
      → HoldsOn judges (text_named name ∷ []) holds (texts ++ text ∷ []) next
  taken_alone name next here texts h =
      subst (λ (ts : List (List ℕ)). HoldsOn judges (text_named name ∷ []) holds (ts ++ text ∷ []) next) (sym (none texts h))
      (here, λ more. absurd (omega (arith, more)))

-- ---- a source

-- it is refused
pub source_refused : (T U : Type 0) (goes_on : Tree → List (List ℕ) → Judgement → Type 0) {H : Type 0} (holds : List (List ℕ) → H → Type 0) (held : H)
    → ((texts : List (List ℕ)) → holds texts held → texts ≡ []) → (source : List ℕ) (why : Stop Why) → StopsForSource {T = T} source (Err why)
    → IfRefused {T = U} (Err why) (λ fault known. (texts : List (List ℕ)) → holds texts held
    → Refuses (JudgesSource goes_on) ExplainsSource (texts ++ source ∷ []) fault known)
source_refused T U goes_on holds held none source why =
    refused_as T U (λ fault known. SourceRefused source fault × (known ≡ knows.Plain))
    (λ fault known. (texts : List (List ℕ)) → holds texts held → Refuses (JudgesSource goes_on) ExplainsSource (texts ++ source ∷ []) fault known) why
    (λ fault known refused. refused_first (JudgesSource goes_on) holds held none source fault known (first_refused source fault refused.0, refused.1))

-- and where its program was to be taken
pub program_refused : (goes_on : Tree → List (List ℕ) → Judgement → Type 0) (source : List ℕ) (result : Result Compiled (Stop Why))
    → StopsForSource source result → IfRefused result (λ fault known. (texts : List (List ℕ)) → HoldsCompiled texts compiled.Nothing
    → Refuses (JudgesSource goes_on) ExplainsSource (texts ++ source ∷ []) fault known)
program_refused goes_on source (Ok next) refused = tt
program_refused goes_on source (Err why) refused = source_refused Compiled Compiled goes_on HoldsCompiled compiled.Nothing (λ texts none. none) source why refused

-- or it was taken
pub program_taken : (goes_on : Tree → List (List ℕ) → Judgement → Type 0) (name source : List ℕ) (result : Result Compiled (Stop Why))
    → IfOk result (HoldsCompiled (source ∷ [])) → IfOk result (λ next. (texts : List (List ℕ)) → HoldsCompiled texts compiled.Nothing
    → HoldsOn (JudgesSource goes_on) (text_named name ∷ []) HoldsCompiled (texts ++ source ∷ []) next)
program_taken goes_on name source (Ok next) here =
    taken_alone (JudgesSource goes_on) HoldsCompiled compiled.Nothing (λ texts none. none) source name next here
program_taken goes_on name source (Err why) here = tt

-- `check`: once a source was taken, it is accepted
pub checked_writes : (held : Checked) (texts : List (List ℕ)) → length texts ≡ 1 → HoldsChecked texts held
    → JudgesSource CheckGoesOn texts (Writes accepted_line)
checked_writes checked.Nothing [] many none = absurd (omega (arith, many))
checked_writes checked.Nothing (one ∷ more) many none = absurd (cc)
checked_writes checked.Accepted texts many (source, e, (tree, accepted)) =
    subst (λ (ts : List (List ℕ)). JudgesSource CheckGoesOn ts (Writes accepted_line)) (sym e)
    (first_accepted source tree [] (Writes accepted_line) accepted accepts)
