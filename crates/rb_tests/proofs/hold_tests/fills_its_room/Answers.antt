use Rattle.std.proofs.Common.{◌≡◌, ◌≢◌, ℕ, ◌<◌, List, [], ◌∷◌, ◌++◌, drop, replicate, get_or, refl, ap, ◌∙◌, arith}
use Rattle.rb_hold.specs.Held.{TwoLists}
use Rattle.std.proofs.lemmas.List.{get_or-replicate}
use Rattle.rb_tests.proofs.hold_tests.fills_its_room.Goals as goal

-- a line of the one letter
has_no_end : (n k d : ℕ) → k < n → get_or (replicate n 120) k d ≢ 10
has_no_end n k d within same = omega (arith, same, get_or-replicate n k 120 d within)

pub add-requires-clause-line : goal.add-requires-clause-line
add-requires-clause-line c = has_no_end 65535

-- none waits once the only line that was held was released and lent
none_waits : (line : List ℕ) (old added full out next last : TwoLists) → old ≡ record { held = []; released = [] }
    → added ≡ record old { held = old.held ++ line ∷ [] } → full ≡ added → out ≡ record { held = []; released = full.held }
    → next ≡ record out { released = drop 1 out.released } → last ≡ record next { released = drop 1 next.released } → last.released ≡ []
none_waits line old added full out next last empty by_add same by_release by_next by_last =
    ap (λ (hold : TwoLists). hold.released) by_last
    ∙ ap (λ (hold : TwoLists). drop 1 hold.released) by_next
    ∙ ap (λ (hold : TwoLists). drop 1 (drop 1 hold.released)) by_release
    ∙ ap (λ (hold : TwoLists). drop 1 (drop 1 hold.held)) (same ∙ by_add)
    ∙ ap (λ (hold : TwoLists). drop 1 (drop 1 (hold.held ++ line ∷ []))) empty

pub add-requires-2-clause-none_waits : goal.add-requires-2-clause-none_waits
add-requires-2-clause-none_waits c =
    none_waits _ _ _ _ _ _ _ c.requires c.if-not-add.ensures.after c.if-add.ensures.after c.release.ensures c.if-not-next_is.ensures
    c.none_is_next.ensures

pub slice_bounds-add-end : goal.slice_bounds-add-end
slice_bounds-add-end c = refl

pub slice_bounds-next_is-end : goal.slice_bounds-next_is-end
slice_bounds-next_is-end c = refl

pub add-requires-else-length-ne65536-clause-none_waits : goal.add-requires-else-length-ne65536-clause-none_waits
add-requires-else-length-ne65536-clause-none_waits c =
    ap (λ (hold : TwoLists). hold.released) c.if-not-add.ensures.after ∙ ap (λ (hold : TwoLists). hold.released) c.requires

pub release-requires : goal.release-requires
release-requires c =
    record {
      none_waits = ap (λ (hold : TwoLists). hold.released) c.if-add.ensures.after
          ∙ ap (λ (hold : TwoLists). hold.released) c.if-not-add.ensures.after ∙ ap (λ (hold : TwoLists). hold.released) c.requires;
    }
