-- How many places are touched once a level was put back, and once it has gone with nothing touched.
use Rattle.std.proofs.Common.{◌≡◌, suc, ◌+◌, ◌-◌, ◌≤◌, List, [], ◌∷◌, length, take, refl, ap, ◌∙◌, arith}
use Rattle.std.specs.Prelude.{get_or}
use Rattle.std.proofs.lemmas.List.Sums.{sum_by-cons}
use Rattle.rb_cache.specs.Copies.{Level as Touched, RecoveryCache, accepted, change_last, entered, last_or, last_touched, open_levels}
use Rattle.rb_recoverable.specs.Touched.{places_touched, touched_count}
use Rattle.rb_recoverable.proofs.Backs.{clear, gone}

-- what was touched in the innermost level no longer is
cleared_places : (ls : List Touched) → places_touched (change_last clear ls) + length (last_or ls (entered 0)).touched ≡ places_touched ls
cleared_places [] = refl
cleared_places (l ∷ []) = refl
cleared_places (l ∷ m ∷ inner) =
    let k : length (l ∷ m ∷ inner) - 1 ≡ suc (length (m ∷ inner) - 1) = omega arith in
    let last = ap (λ i. length (get_or (l ∷ m ∷ inner) i (entered 0)).touched) k in
    let rest = cleared_places (m ∷ inner) in
    let before = sum_by-cons touched_count l (m ∷ inner) in
    let after = sum_by-cons touched_count l (change_last clear (m ∷ inner)) in
    omega arith

-- and nothing joins the level around it
gone_places : (ls : List Touched) → places_touched (accepted (change_last clear ls)) ≤ places_touched (change_last clear ls)
gone_places ls =
    let same = ap places_touched (gone ls) in
    let fewer = kept ls in
    omega arith
  where
    kept : (ls : List Touched) → places_touched (take (length ls - 1) ls) ≤ places_touched (change_last clear ls)
    kept [] = omega arith
    kept (l ∷ []) = omega arith
    kept (l ∷ m ∷ inner) =
        let k : length (l ∷ m ∷ inner) - 1 ≡ suc (length (m ∷ inner) - 1) = omega arith in
        let first = ap (λ i. places_touched (take i (l ∷ m ∷ inner))) k in
        let rest = kept (m ∷ inner) in
        let before = sum_by-cons touched_count l (take (length (m ∷ inner) - 1) (m ∷ inner)) in
        let after = sum_by-cons touched_count l (change_last clear (m ∷ inner)) in
        omega arith

-- a level that is put back pays for it
pub back_pays : (cache back : RecoveryCache) → open_levels back ≡ change_last clear (open_levels cache)
    → length (last_touched cache) + places_touched (open_levels back) ≡ places_touched (open_levels cache)
back_pays cache back cleared =
    let same = ap places_touched cleared in
    let paid = cleared_places (open_levels cache) in
    omega arith

-- also where it goes then
pub going_pays : (cache back out : RecoveryCache) → open_levels back ≡ change_last clear (open_levels cache)
    → open_levels out ≡ accepted (open_levels back)
    → length (last_touched cache) + places_touched (open_levels out) ≤ places_touched (open_levels cache)
going_pays cache back out cleared accept =
    let same = ap places_touched (accept ∙ ap accepted cleared) in
    let fewer = gone_places (open_levels cache) in
    let paid = cleared_places (open_levels cache) in
    omega arith
