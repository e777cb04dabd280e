-- What is looked up of a channel.
use Rattle.std.proofs.Common.{◌≡◌, ℕ, ◌<◌, ◌≤◌, nat_lt, nat_eq, Bool, true, false, ◌&&◌, arith}
use Rattle.std.proofs.Common.{List, length, get_or, map, slice_get, Option, Some, None, option_map, refl, sym, ap, ◌∙◌}
use Rattle.std.proofs.lemmas.Bool.Decides.{nat_tests}
use Rattle.std.proofs.lemmas.Option.{slice_get-map, slice_get_past, slice_get_read}
use Rattle.rb_world.specs.Kind.{Ends as PlainEnds}
use Rattle.rb_meaning.specs.Nesting.{Deed, Joins, Sends, Receives, have_both, is_end, is_member}
use Rattle.rb_uses.specs.Members.{ends_alone}
use Rattle.rb_uses.specs.declared.ends.Ends.{Ends}

-- The ends in memory that a look-up by number gives are those of the channel of that number.
pub channel_known : (items all : List Ends) (channels : List PlainEnds) (number : ℕ) (ends : Ends) → all ≡ items → items ≡ map ends_alone channels
    → true ≡ nat_lt number (length all) → ends ≡ get_or all number ends → option_map ends_alone (slice_get channels number) ≡ Some ends
channel_known items all channels number ends same e h at =
    let within : number < length all = grind (arith, nat_tests) in
    sym (slice_get-map ends_alone channels number)
    ∙ ap (λ es. slice_get es number) (sym (same ∙ e))
    ∙ slice_get_read all (length all) number ends refl within at

none-there : (found : Option PlainEnds) → option_map ends_alone found ≡ None → found ≡ None
none-there None e = refl
none-there (Some ends) e = absurd (cc)

pub no_channel : (items all : List Ends) (channels : List PlainEnds) (number : ℕ) → all ≡ items → items ≡ map ends_alone channels
    → false ≡ nat_lt number (length all) → slice_get channels number ≡ None
no_channel items all channels number same e h =
    let past : length all ≤ number = grind (arith, nat_tests) in
    none-there (slice_get channels number)
    (sym (slice_get-map ends_alone channels number) ∙ ap (λ es. slice_get es number) (sym (same ∙ e)) ∙ slice_get_past all number past)

-- both of its ends are members
pub both_ends : (members : List ℕ) (found : Option PlainEnds) (ends : Ends) → option_map ends_alone found ≡ Some ends
    → is_member ends.sender members && is_member ends.receiver members ≡ have_both members found
both_ends members None ends e = absurd (cc)
both_ends members (Some plain) ends e =
    let same : ends ≡ ends_alone plain = cc in
    ap (λ (one : Ends). is_member one.sender members && is_member one.receiver members) same

-- what a process is to its ends
abbrev pub end_at : Deed → ℕ → Ends → Bool
end_at (Joins alternates) p ends = true
end_at Sends p ends = nat_eq ends.sender p
end_at Receives p ends = nat_eq ends.receiver p

pub end_there : (deed : Deed) (p : ℕ) (found : Option PlainEnds) (ends : Ends) → option_map ends_alone found ≡ Some ends
    → end_at deed p ends ≡ is_end deed p found
end_there deed p None ends e = absurd (cc)
end_there (Joins alternates) p (Some plain) ends e = refl
end_there Sends p (Some plain) ends e = let same : ends ≡ ends_alone plain = cc in ap (λ (one : Ends). nat_eq one.sender p) same
end_there Receives p (Some plain) ends e = let same : ends ≡ ends_alone plain = cc in ap (λ (one : Ends). nat_eq one.receiver p) same
