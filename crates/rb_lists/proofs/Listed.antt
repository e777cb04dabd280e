-- The channels that processes list.
use Rattle.std.proofs.Common.{◌≡◌, ◌<◌, ◌≤◌, ◌+◌, ◌⊎◌, ℕ, Option, Some, None, length, map, slice_get, refl, sym, ap, subst, ◌∙◌, inl, inr, arith}
use Rattle.std.specs.Option.{option_map}
use Rattle.std.proofs.lemmas.Bool.{cases_lt}
use Rattle.std.proofs.lemmas.Option.{slice_get-map, slice_get_within}
use Rattle.rb_world.proofs.ListFacts.{none_some, some_same}
use Rattle.rb_code.specs.Agreement.StandsFor.{channels_from}
use Rattle.rb_code.specs.Instructions.Plain.{code as plain, part as plain_part, channel as plain_channel, Part}
use Rattle.rb_code.specs.SoundCode.WellFormed.{ListsChannels}
use Rattle.rb_code.specs.declared.code.Code.{Code as Held}
use Rattle.rb_code.specs.declared.code.ProcessCode.{ProcessCode}

-- what an answer was before it was changed
was : {X Y : Type 0} (f : X → Y) (o : Option X) (y : Y) → option_map f o ≡ Some y → (x : X) × (o ≡ Some x) × (f x ≡ y)
was f None y e = absurd (none_some e)
was f (Some x) y e = (x, refl, some_same e)

-- process number p of a code lists its channels
abbrev pub Lists : Held → ℕ → ProcessCode → Type 0
Lists code p process = process.channels.items ≡ channels_from p 0 (map plain_channel code.channels.items)

-- the first so many do
abbrev pub List_theirs : Held → ℕ → Type 0
List_theirs code n = (p : ℕ) (process : ProcessCode) → p < n → slice_get code.processes.items p ≡ Some process → Lists code p process

pub lists_more : (code : Held) (i : ℕ) (process : ProcessCode) → slice_get code.processes.items i ≡ Some process
    → List_theirs code i → Lists code i process → List_theirs code (i + 1)
lists_more code i process there before here p one within at = by (cases_lt p i)
  where
    by : (p < i) ⊎ (i ≤ p) → Lists code p one
    by (inl less) = before p one less at
    by (inr more) =
        let same : i ≡ p = omega arith in
        subst (λ k. Lists code k one) same
        (subst (Lists code i) (some_same (sym there ∙ ap (slice_get code.processes.items) same ∙ at)) here)

pub list_all_theirs : (code : Held) (n : ℕ) → length code.processes.items ≤ n → List_theirs code n → ListsChannels (plain code)
list_all_theirs code n whole each p part at =
    let process = was plain_part (slice_get code.processes.items p) part (sym (slice_get-map plain_part code.processes.items p) ∙ at) in
    let within : p < length code.processes.items = slice_get_within code.processes.items p process.0 process.1 in
    subst (λ (one : Part). one.channels ≡ channels_from p 0 (map plain_channel code.channels.items)) process.2
    (each p process.0 (omega arith) process.1)

pub lists_at : (code : Held) (p : ℕ) (process : ProcessCode) → slice_get code.processes.items p ≡ Some process → ListsChannels (plain code)
    → Lists code p process
lists_at code p process at lists =
    lists p (plain_part process) (slice_get-map plain_part code.processes.items p ∙ ap (option_map plain_part) at)
