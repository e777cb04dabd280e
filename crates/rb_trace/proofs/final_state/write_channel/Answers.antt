use Rattle.std.proofs.Common.{◌≡◌, ℕ, ℤ, pos, List, None, Some, option_map, slice_get, rules, w64, ap, sym, inl, inr, ◌∙◌}
use Rattle.std.specs.Fmt.{decimal, signed_decimal}
use Rattle.std.specs.List.{slice_index}
use Rattle.std.specs.Option.{unwrap_or}
use Rattle.std.proofs.lemmas.Int.{to_z-of_z}
use Rattle.std.proofs.lemmas.List.{get_or_default}
use Rattle.std.proofs.lemmas.Option.{slice_get_cases}
use Rattle.rb_trace.proofs.final_state.write_channel.Goals as goal

-- what stands at a place
at_place : (xs : List ℕ) (i : ℕ) (z : ℤ) → option_map pos (slice_get xs i) ≡ Some z → z ≡ pos (slice_index xs i)
at_place xs i z is =
    elim (slice_get_cases xs i).1 [
      | inl found ↦ let same : pos found.0 ≡ z = ap (λ o. unwrap_or o z) (sym (ap (option_map pos) found.2) ∙ is) in
          sym same ∙ ap pos (sym found.3 ∙ get_or_default xs i found.0 0 found.1)
      | inr past ↦ absurd (let none : None ≡ Some z = sym (ap (option_map pos) past.1) ∙ is in cc)
    ]

pub returns-clause-text : goal.returns-clause-text
returns-clause-text g c =
    let sent : c.as_bytes-sent.result.now ≡ decimal (slice_index (g.M.Final.sent c.args.end.now) c.args.c) =
    c.as_bytes-sent.ensures.value ∙ c.format.ensures.text
    ∙ ap signed_decimal
    (to_z-of_z w64 c.sent.result (search rules) ∙ at_place (g.M.Final.sent c.args.end.now) c.args.c c.sent.result c.sent.ensures.value) in
    let taken : c.as_bytes-taken.result.now ≡ decimal (slice_index (g.M.Final.taken c.args.end.now) c.args.c) =
    c.as_bytes-taken.ensures.value ∙ c.format-2.ensures.text
    ∙ ap signed_decimal
    (to_z-of_z w64 c.taken.result (search rules) ∙ at_place (g.M.Final.taken c.args.end.now) c.args.c c.taken.result c.taken.ensures.value) in
    rw (← sent, ← taken) c.put_line.ensures
