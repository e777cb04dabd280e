-- How a command takes its texts: the limit that one has, and what a refusal of it says.
use Rattle.std.proofs.Common.{◌≡◌, ℕ, zero, suc, ◌≤◌, List, [], ◌∷◌, length, map, slice_get, Some, Err, subst}
use Rattle.rb_base.specs.declared.limits.TheConstants.{MOST_BYTES}
use Rattle.rb_hall.specs.declared.fault.Fault.{Fault}
use Rattle.rb_hall.specs.declared.command.Stop.{Stop}
use Rattle.rb_hall.specs.declared.command.Stop.TheVariants as stop
use Rattle.rb_hall.specs.Ends.{IfRefused}
use Rattle.rb_hall.specs.Judgement.{Wants}
use Rattle.rb_verdict.specs.Words.{text_named}
use Rattle.rb_commands.specs.declared.why.Why.{Why}

-- what a command knows of a text that it is to take, after texts of which this is held
abbrev pub IsNext : List Wants → List ℕ → (List (List ℕ) → Type 0) → Type 0
IsNext files text held =
    (texts : List (List ℕ)) × (file : Wants) × (slice_get files (length texts) ≡ Some file) × (length text ≤ file.most) × held texts

-- each of these files holds a text
pub short_text : (names : List (List ℕ)) (n : ℕ) (file : Wants) (text : List ℕ) → slice_get (map text_named names) n ≡ Some file
    → length text ≤ file.most → length text ≤ MOST_BYTES
short_text [] n file text is fits = absurd (cc)
short_text (name ∷ names) zero file text is fits =
    let same : file ≡ text_named name = cc in
    subst (λ (f : Wants). length text ≤ f.most) same fits
short_text (name ∷ names) (suc n) file text is fits = short_text names n file text is fits

-- so the next is no longer than a text may be
pub next_is_short : (names : List (List ℕ)) (text : List ℕ) (held : List (List ℕ) → Type 0) → IsNext (map text_named names) text held
    → length text ≤ MOST_BYTES
next_is_short names text held (texts, file, is, fits, h) = short_text names (length texts) file text is fits

-- a refusal says what follows from what it says
pub refused_as : (T U : Type 0) (P Q : Fault → Why → Type 0) (why : Stop Why) → ((fault : Fault) (known : Why) → P fault known → Q fault known)
    → IfRefused {T = T} (Err why) P → IfRefused {T = U} (Err why) Q
refused_as T U P Q (stop.Refused fault known) so h = so fault known h
refused_as T U P Q stop.Memory so h = tt
