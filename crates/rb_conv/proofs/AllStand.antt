-- That all members stand at the test line, told of each declared member by itself.
use Rattle.std.proofs.Common.{◌≡◌, ℕ, false, List, [], ◌∷◌, map, nat_eq, refl, arith}
use Rattle.std.proofs.lemmas.Bool.Decides.{nat_tests}
use Rattle.std.specs.List.{AllByRecursion, IsDistinct, list_all}
use Rattle.rb_conv.specs.declared.member.Member.{Member}
use Rattle.rb_conv.specs.Conversations.{is_at_line}
use Rattle.rb_conv.specs.Laws.{AllStandByEach}
use Rattle.rb_conv.proofs.WhoIsInside.{is_there}

-- nobody stands there by the number of a process that is no member
nobody_by : (p : ℕ) (ms : List Member) → AllByRecursion (λ q. nat_eq p q ≡ false) (map (λ (m : Member). m.process) ms)
    → is_there is_at_line p ms ≡ false
nobody_by p [] h = refl
nobody_by p (m ∷ ms) h =
    grind (arith, nat_tests, h.0, nobody_by p ms h.1)

-- a member of another number tells nothing of the others
told_of_others : (m : Member) (ms : List Member) (ps : List ℕ) → AllByRecursion (λ q. nat_eq m.process q ≡ false) ps
    → list_all (λ p. is_there is_at_line p (m ∷ ms)) ps ≡ list_all (λ p. is_there is_at_line p ms) ps
told_of_others m ms [] h = refl
told_of_others m ms (p ∷ ps) h =
    grind (arith, nat_tests, h.0, told_of_others m ms ps h.1)

stand_by_each : (ms : List Member) → IsDistinct nat_eq (map (λ (m : Member). m.process) ms)
    → list_all (λ m. is_at_line m.place) ms ≡ list_all (λ p. is_there is_at_line p ms) (map (λ (m : Member). m.process) ms)
unfolding IsDistinct
stand_by_each [] h = refl
stand_by_each (m ∷ ms) h =
    let others = told_of_others m ms (map (λ (n : Member). n.process) ms) h.0 in
    let rest = stand_by_each ms h.1 in
    let away = nobody_by m.process ms h.0 in
    grind (arith, nat_tests, others, rest, away)

pub all_stand_by_each : AllStandByEach
all_stand_by_each x h = stand_by_each x.members h
